-- Every operation of a sequence is granted, from any model of its chip and layout.
use Rattle.std.proofs.Common.{◌≡◌, ℕ, zero, suc, ◌+◌, ◌*◌, ◌^◌, ◌<◌, ◌==◌, nat_lt, bit_xor, if◌then◌else◌, Bool, true, false, not, ◌&&◌, length, Option, Some, Ok, Err, IsOk, unwrap_or, refl, sym, ap}
use Rattle.std.proofs.Common.{subst, ◌∙◌, eq-eqb, arith}
use Rattle.std.proofs.lemmas.Bool.{and_parts, eqb-true, false_from_ne_true}
use Rattle.std.proofs.lemmas.List.Sums.{position_or_len_is}
use Rattle.std.proofs.lemmas.Nat.{xor_lt, mod_below, pow_pos, pow_below}
use borrow.Author.Tests.{lt-ltb}
use Rattle.rl_map.proofs.Lookups.{same_from}
use Rattle.rl_map.proofs.Accepting.{at_first}
use Rattle.rl_map.specs.Layout.{LayoutData, place_at, place_of, no_place, same_item, is_in, has_right, IsSound as IsLayout}
use Rattle.rl_map.specs.declared.rows.PlaceRow.{PlaceRow}
use Rattle.rl_model.specs.Chip.{backdoor_of}
use Rattle.rl_model.specs.Rows.{ChipData}
use Rattle.rl_model.specs.declared.rows.Item.{Item}
use Rattle.rl_model.specs.declared.rows.Item.TheVariants.{Reg, Mem}
use Rattle.rl_model.specs.Fields.{size_of}
use Rattle.rl_mirror.specs.Mirror.{mirrored_of}
use Rattle.rl_access.specs.Model.{ModelData, IsModel}
use Rattle.rl_access.specs.Rules.{Grant, grant, only_where, placed, with_right, way, item_size, memory_size, is_writable}
use Rattle.rl_access.specs.declared.event.Op.TheVariants as op
use Rattle.rl_access.specs.declared.event.Refused.{Refused}
use Rattle.rl_access.specs.declared.event.Refused.TheVariants.{NoRight, NoBackdoor, NotWritable, OutOfRange, TooWide}
use Rattle.rl_access.proofs.Bytes.{bytes_bits}
use Rattle.rl_seq.specs.declared.sequence.Sequence.{Sequence}
use Rattle.rl_seq.specs.declared.sequence.Sequence.TheVariants.{HwReset, BitBash, Access, Shared, MemWalk}
use Rattle.rl_seq.specs.Choice.{is_bit_compared, is_of, may_read, may_write, is_reg_tested, is_tested, has_writable_field, low_bits, turned_round, exclusion_from}
use Rattle.rl_seq.specs.Plan.{Plan, stop, step, look, followed_by, only_if, each_below}
use Rattle.rl_seq.specs.Sequences.{map_at, check_at, bash_once, bash_bit, check_other, fill, check_filled, write_number, settle_before, check_last, walk_location, items_of, item_of, has_rights}
use Rattle.rl_seq.specs.Sequences.{is_chosen, is_visited, at_place, visit, visit_all, walk, beginning_of}
use Rattle.rl_seq.specs.Granted.{IsModelFor, IsGranted, NoStepIsRefused}

-- ---- plans of plans

followed : (c : ChipData) (l : LayoutData) (p q : Plan) → IsGranted c l p → IsGranted c l q → IsGranted c l (followed_by p q)
followed c l stop q h k = k
followed c l (step op p) q h k = (h.0, followed c l p q h.1 k)
followed c l (look f) q h k = λ m is. followed c l (f m) q (h m is) k

chosen : (c : ChipData) (l : LayoutData) (b : Bool) (p : Plan) → (b ≡ true → IsGranted c l p) → IsGranted c l (only_if b p)
chosen c l true p h = h refl
chosen c l false p h = tt

each : (c : ChipData) (l : LayoutData) (n : ℕ) (f : ℕ → Plan) → ((k : ℕ) → k < n → IsGranted c l (f k)) → IsGranted c l (each_below n f)
each c l zero f h = tt
each c l (suc n) f h = followed c l (each_below n f) (f n) (each c l n f (λ k below. h k (omega (arith, below)))) (h n (omega arith))

-- what a model's own chip and layout grant, it grants
for_model : (c : ChipData) (l : LayoutData) (m : ModelData) (P : ChipData → LayoutData → Type 0) → IsModelFor c l m → P m.chip m.layout
    → P c l
for_model c l m P is h = subst (λ x. P x l) is.chip (subst (λ y. P m.chip y) is.layout h)

-- ---- the place of an item in a map

not_before : (l : LayoutData) (item : Item) (place k : ℕ) → IsLayout l → place < length l.places → is_of l place item ≡ true → k < place
    → (same_item (place_at l k).item item && is_in (Some (map_at l place)) (place_at l k).map) ≡ false
not_before l item place k ok there mine low =
    false_from_ne_true (same_item (place_at l k).item item && is_in (Some (map_at l place)) (place_at l k).map)
    (λ picked.
    let both = and_parts (same_item (place_at l k).item item) (is_in (Some (map_at l place)) (place_at l k).map) picked in
    let items : (place_at l k).item ≡ (place_at l place).item = same_from (place_at l k).item item both.0
    ∙ sym (same_from (place_at l place).item item mine) in
    let maps : (place_at l k).map ≡ (place_at l place).map = eqb-true (place_at l k).map (map_at l place) both.1 in
    let same : k ≡ place = ok.once k place (omega (arith, low, there)) there items maps in
    omega (arith, same, low))

pub found : (l : LayoutData) (item : Item) (place : ℕ) → IsLayout l → place < length l.places → is_of l place item ≡ true
    → place_of l item (Some (map_at l place)) ≡ Some place
found l item place ok there mine =
    let test : PlaceRow → Bool = λ p. same_item p.item item && is_in (Some (map_at l place)) p.map in
    let passes : test (place_at l place) ≡ true = ap (λ b. b && is_in (Some (map_at l place)) (place_at l place).map) mine
    ∙ eq-eqb (map_at l place) (map_at l place) refl in
    at_first test l.places place
    (position_or_len_is test l.places place no_place (omega (arith, there)) (λ k low. not_before l item place k ok there mine low)
    (λ in_it. passes)) there

-- ---- grants

ok_of : (g : Grant) (place : ℕ) → g ≡ Ok place → IsOk g
ok_of g place is = subst IsOk (sym is) refl

way_is : (m : ModelData) (item : Item) (place : ℕ) (write : Bool) → IsModel m → place < length m.layout.places
    → is_of m.layout place item ≡ true → has_right (place_at m.layout place).rights write ≡ true
    → way m item (Some (map_at m.layout place)) write ≡ Ok place
way_is m item place write ok there mine right =
    ap (λ o. with_right m.layout write (placed o)) (found m.layout item place ok.layout there mine)
    ∙ ap (λ b. if b then Ok place else Err NoRight) right

-- a condition that holds
pub met : (g : Grant) (place : ℕ) (b : Bool) (why : Refused) → g ≡ Ok place → b ≡ true → only_where g b why ≡ Ok place
met g place b why is so = ap (λ x. only_where x b why) is ∙ ap (λ c. if c then Ok place else Err why) so

-- ---- values

pub turned_fits : (c : ChipData) (item : Item) (v : ℕ) → nat_lt (turned_round c item v) (256 ^ item_size c item) ≡ true
turned_fits c item v =
    let bits = bytes_bits (item_size c item) in
    let some = pow_pos (8 * item_size c item) in
    lt-ltb (turned_round c item v) (256 ^ item_size c item) (omega (arith, bits, some))

low_fits : (c : ChipData) (item : Item) (v : ℕ) → nat_lt (low_bits c item v) (256 ^ item_size c item) ≡ true
low_fits c item v =
    let bits = bytes_bits (item_size c item) in
    let low = mod_below v (2 ^ (8 * item_size c item)) (pow_pos (8 * item_size c item)) in
    lt-ltb (low_bits c item v) (256 ^ item_size c item) (omega (arith, bits, low))

mirrored_fits : (m : ModelData) (reg : ℕ) → IsModel m → reg < length m.chip.regs → mirrored_of m.mirror reg < 256 ^ size_of m.chip reg
mirrored_fits m reg ok there = (ok.mirror.mirrored reg there).fits

pub bashed_fits : (m : ModelData) (reg bit : ℕ) → IsModel m → reg < length m.chip.regs → bit < 8 * size_of m.chip reg
    → nat_lt (bit_xor (mirrored_of m.mirror reg) (2 ^ bit)) (256 ^ size_of m.chip reg) ≡ true
bashed_fits m reg bit ok there low =
    let bits = bytes_bits (size_of m.chip reg) in
    let fits = mirrored_fits m reg ok there in
    let one = pow_below bit (8 * size_of m.chip reg) low in
    let both = xor_lt (8 * size_of m.chip reg) (mirrored_of m.mirror reg) (2 ^ bit) (omega (arith, bits, fits)) one in
    lt-ltb (bit_xor (mirrored_of m.mirror reg) (2 ^ bit)) (256 ^ size_of m.chip reg) (omega (arith, bits, both))

-- ---- the operations

-- a place of an item
record IsPlace (l : LayoutData) (place : ℕ) (item : Item) : Type 0 where
  there : place < length l.places
  mine : is_of l place item ≡ true

checks : (c : ChipData) (l : LayoutData) (reg place : ℕ) → IsPlace l place (Reg reg) → may_read l place ≡ true → (m : ModelData)
    → IsModelFor c l m → IsOk (grant m (op.Check reg (Some (map_at l place))))
checks c l reg place p right m is =
    for_model c l m (λ x y. IsPlace y place (Reg reg) → may_read y place ≡ true → IsOk (grant m (op.Check reg (Some (map_at y place))))) is
    (λ p right. ok_of _ place (way_is m (Reg reg) place false is.model p.there p.mine right)) p right

writes : (c : ChipData) (l : LayoutData) (reg place value : ℕ) → IsPlace l place (Reg reg) → may_write l place ≡ true
    → nat_lt value (256 ^ size_of c reg) ≡ true → (m : ModelData) → IsModelFor c l m
    → IsOk (grant m (op.Write reg (Some (map_at l place)) value))
writes c l reg place value p right fits m is =
    for_model c l m (λ x y. IsPlace y place (Reg reg) → may_write y place ≡ true → nat_lt value (256 ^ size_of x reg) ≡ true
    → IsOk (grant m (op.Write reg (Some (map_at y place)) value))) is
    (λ p right fits. ok_of _ place (met _ place _ TooWide (way_is m (Reg reg) place true is.model p.there p.mine right) fits)) p right fits

by_backdoor_is : (m : ModelData) (item : Item) → unwrap_or (backdoor_of m.chip item) false ≡ true
    → only_where (Ok 0) (unwrap_or (backdoor_of m.chip item) false) NoBackdoor ≡ Ok 0
by_backdoor_is m item so = met (Ok 0) 0 (unwrap_or (backdoor_of m.chip item) false) NoBackdoor refl so

back_checks : (c : ChipData) (l : LayoutData) (reg : ℕ) → unwrap_or (backdoor_of c (Reg reg)) false ≡ true → (m : ModelData)
    → IsModelFor c l m → IsOk (grant m (op.BackCheck reg))
back_checks c l reg so m is =
    for_model c l m (λ x y. unwrap_or (backdoor_of x (Reg reg)) false ≡ true → IsOk (grant m (op.BackCheck reg))) is
    (λ so. ok_of _ 0 (by_backdoor_is m (Reg reg) so)) so

back_writes : (c : ChipData) (l : LayoutData) (reg value : ℕ) → unwrap_or (backdoor_of c (Reg reg)) false ≡ true
    → nat_lt value (256 ^ size_of c reg) ≡ true → (m : ModelData) → IsModelFor c l m → IsOk (grant m (op.BackWrite reg value))
back_writes c l reg value so fits m is =
    for_model c l m (λ x y. unwrap_or (backdoor_of x (Reg reg)) false ≡ true → nat_lt value (256 ^ size_of x reg) ≡ true
    → IsOk (grant m (op.BackWrite reg value))) is
    (λ so fits. ok_of _ 0 (met _ 0 _ TooWide (by_backdoor_is m (Reg reg) so) fits)) so fits

mem_writes : (c : ChipData) (l : LayoutData) (mem place k value : ℕ) → IsPlace l place (Mem mem) → may_write l place ≡ true
    → is_writable c mem ≡ true → nat_lt k (memory_size c mem) ≡ true → nat_lt value (256 ^ item_size c (Mem mem)) ≡ true
    → (m : ModelData) → IsModelFor c l m → IsOk (grant m (op.MemWrite mem (Some (map_at l place)) k value))
mem_writes c l mem place k value p right writable low fits m is =
    for_model c l m (λ x y. IsPlace y place (Mem mem) → may_write y place ≡ true → is_writable x mem ≡ true
    → nat_lt k (memory_size x mem) ≡ true → nat_lt value (256 ^ item_size x (Mem mem)) ≡ true
    → IsOk (grant m (op.MemWrite mem (Some (map_at y place)) k value))) is
    (λ p right writable low fits. ok_of _ place (met _ place _ TooWide
    (met _ place _ OutOfRange (met _ place _ NotWritable (way_is m
    (Mem mem) place true is.model p.there p.mine right) writable) low) fits))
    p right writable low fits

mem_checks : (c : ChipData) (l : LayoutData) (mem place k value : ℕ) → IsPlace l place (Mem mem) → may_read l place ≡ true
    → nat_lt k (memory_size c mem) ≡ true → nat_lt value (256 ^ item_size c (Mem mem)) ≡ true
    → (m : ModelData) → IsModelFor c l m → IsOk (grant m (op.MemCheck mem (Some (map_at l place)) k value))
mem_checks c l mem place k value p right low fits m is =
    for_model c l m (λ x y. IsPlace y place (Mem mem) → may_read y place ≡ true → nat_lt k (memory_size x mem) ≡ true
    → nat_lt value (256 ^ item_size x (Mem mem)) ≡ true
    → IsOk (grant m (op.MemCheck mem (Some (map_at y place)) k value))) is
    (λ p right low fits. ok_of _ place (met _ place _ TooWide (met _ place _ OutOfRange
    (way_is m (Mem mem) place false is.model p.there p.mine right) low) fits))
    p right low fits

-- ---- what a sequence does at a place

-- what a sequence asks of an item that it chooses
abbrev Chosen : Sequence → ChipData → ℕ → Type 0
Chosen HwReset c reg = Unit {0}
Chosen BitBash c reg = Unit {0}
Chosen Access c reg = unwrap_or (backdoor_of c (Reg reg)) false ≡ true
Chosen Shared c reg = Unit {0}
Chosen MemWalk c mem = is_writable c mem ≡ true

is_right : (which : Sequence) (c : ChipData) (l : LayoutData) (block : Option ℕ) (number : ℕ) → is_chosen which c l block number ≡ true
    → Chosen which c number
is_right HwReset c l block reg so = tt
is_right BitBash c l block reg so = tt
is_right Access c l block reg so =
    (and_parts (is_reg_tested c reg block (exclusion_from Access)) (unwrap_or (backdoor_of c (Reg reg)) false)
    (and_parts (is_reg_tested c reg block (exclusion_from Access) && unwrap_or (backdoor_of c (Reg reg)) false)
    (has_writable_field c reg) so).0).1
is_right Shared c l block reg so = tt
is_right MemWalk c l block mem so = (and_parts (is_tested c (Mem mem) block (exclusion_from MemWalk)) (is_writable c mem) so).1

-- the rights that it needs are there
abbrev HasRights : Sequence → LayoutData → ℕ → Type 0
HasRights HwReset l place = may_read l place ≡ true
HasRights BitBash l place = (may_read l place ≡ true) × (may_write l place ≡ true)
HasRights Access l place = (may_read l place ≡ true) × (may_write l place ≡ true)
HasRights Shared l place = may_write l place ≡ true
HasRights MemWalk l place = (may_read l place ≡ true) × (may_write l place ≡ true)

are_there : (which : Sequence) (l : LayoutData) (place : ℕ) → has_rights which l place ≡ true → HasRights which l place
are_there HwReset l place so = so
are_there BitBash l place so = and_parts (may_read l place) (may_write l place) so
are_there Access l place so = and_parts (may_read l place) (may_write l place) so
are_there Shared l place so = so
are_there MemWalk l place so = and_parts (may_read l place) (may_write l place) so

checked : (c : ChipData) (l : LayoutData) (reg place : ℕ) → IsPlace l place (Reg reg) → may_read l place ≡ true
    → IsGranted c l (check_at l reg place)
checked c l reg place p right = (checks c l reg place p right, tt)

other_checked : (c : ChipData) (l : LayoutData) (reg written place : ℕ) → place < length l.places
    → IsGranted c l (check_other l reg written place)
other_checked c l reg written place there =
    chosen c l (not (place == written) && (is_of l place (Reg reg) && may_read l place)) (check_at l reg place)
    (λ so.
    let both = and_parts (is_of l place (Reg reg)) (may_read l place) (and_parts (not (place == written))
    (is_of l place (Reg reg) && may_read l place) so).1 in
    checked c l reg place (record { there = there; mine = both.0 }) both.1)

bashed : (c : ChipData) (l : LayoutData) (reg place bit : ℕ) → IsPlace l place (Reg reg) → may_read l place ≡ true
    → may_write l place ≡ true → reg < length c.regs → bit < 8 * size_of c reg → IsGranted c l (bash_once reg (map_at l place) bit)
bashed c l reg place bit p reads writing inside low =
    λ m is. (
      writes c l reg place (bit_xor (mirrored_of m.mirror reg) (2 ^ bit)) p writing
          (for_model c l m (λ x y. reg < length x.regs → bit < 8 * size_of x reg
          → nat_lt (bit_xor (mirrored_of m.mirror reg) (2 ^ bit)) (256 ^ size_of x reg) ≡ true) is
          (λ inside low. bashed_fits m reg bit is.model inside low) inside low),
      checked c l reg place p reads,
    )

accessed : (c : ChipData) (l : LayoutData) (reg place : ℕ) → IsPlace l place (Reg reg) → may_read l place ≡ true → may_write l place ≡ true
    → reg < length c.regs → unwrap_or (backdoor_of c (Reg reg)) false ≡ true → IsGranted c l (at_place Access c l reg place)
accessed c l reg place p reads writing inside behind =
    λ m is.
    let fits : nat_lt (mirrored_of m.mirror reg) (256 ^ size_of c reg) ≡ true =
    for_model c l m (λ x y. reg < length x.regs → nat_lt (mirrored_of m.mirror reg) (256 ^ size_of x reg) ≡ true) is
    (λ inside. lt-ltb (mirrored_of m.mirror reg) (256 ^ size_of m.chip reg) (mirrored_fits m reg is.model inside)) inside in (
      writes c l reg place (turned_round c (Reg reg) (mirrored_of m.mirror reg)) p writing
          (turned_fits c (Reg reg) (mirrored_of m.mirror reg)),
      (back_checks c l reg behind, (back_writes c l reg (mirrored_of m.mirror reg) behind fits, checked c l reg place p reads)),
    )

-- a location of a memory that may be read and written
record IsWalked (c : ChipData) (l : LayoutData) (mem place : ℕ) : Type 0 where
  at : IsPlace l place (Mem mem)
  reads : may_read l place ≡ true
  writing : may_write l place ≡ true
  writable : is_writable c mem ≡ true

-- a write of a value that fits there, and a check
wrote_there : (c : ChipData) (l : LayoutData) (mem place k v : ℕ) → IsWalked c l mem place → k < memory_size c mem
    → nat_lt v (256 ^ item_size c (Mem mem)) ≡ true → IsGranted c l (step (op.MemWrite mem (Some (map_at l place)) k v) stop)
wrote_there c l mem place k v w low fits =
    (mem_writes c l mem place k v w.at w.writing w.writable (lt-ltb k (memory_size c mem) low) fits, tt)

checked_there : (c : ChipData) (l : LayoutData) (mem place k v : ℕ) → IsWalked c l mem place → k < memory_size c mem
    → nat_lt v (256 ^ item_size c (Mem mem)) ≡ true → IsGranted c l (step (op.MemCheck mem (Some (map_at l place)) k v) stop)
checked_there c l mem place k v w low fits =
    (mem_checks c l mem place k v w.at w.reads (lt-ltb k (memory_size c mem) low) fits, tt)

settled : (c : ChipData) (l : LayoutData) (mem place k : ℕ) → IsWalked c l mem place → k < memory_size c mem
    → IsGranted c l (settle_before c mem (map_at l place) k)
settled c l mem place zero w low = tt
settled c l mem place (suc k) w low =
    followed c l (check_filled c mem (map_at l place) k) (write_number c mem (map_at l place) k)
    (checked_there c l mem place k (turned_round c (Mem mem) k) w (omega (arith, low)) (turned_fits c (Mem mem) k))
    (wrote_there c l mem place k (low_bits c (Mem mem) k) w (omega (arith, low)) (low_fits c (Mem mem) k))

walked : (c : ChipData) (l : LayoutData) (mem place k : ℕ) → IsWalked c l mem place → k < memory_size c mem
    → IsGranted c l (walk_location c mem (map_at l place) k)
walked c l mem place k w low =
    let map = map_at l place in
    followed c l (fill c mem map k) (followed_by (settle_before c mem map k) (check_last c mem map k))
    (wrote_there c l mem place k (turned_round c (Mem mem) k) w low (turned_fits c (Mem mem) k))
    (followed c l (settle_before c mem map k) (check_last c mem map k) (settled c l mem place k w low)
    (chosen c l (k + 1 == memory_size c mem) (check_filled c mem map k) (λ so. checked_there c l mem place k (turned_round c (Mem mem) k) w low (turned_fits c (Mem mem) k))))

granted_at : (which : Sequence) (c : ChipData) (l : LayoutData) (number place : ℕ) → number < items_of which c → Chosen which c number
    → IsPlace l place (item_of which number) → HasRights which l place → IsGranted c l (at_place which c l number place)
granted_at HwReset c l reg place inside is p right = checked c l reg place p right
granted_at BitBash c l reg place inside is p right =
    each c l (8 * size_of c reg) (bash_bit c reg (map_at l place))
    (λ bit low.
    let once = bashed c l reg place bit p right.0 right.1 inside low in
    chosen c l (is_bit_compared c reg bit) (followed_by (bash_once reg (map_at l place) bit) (bash_once reg (map_at l place) bit))
    (λ so. followed c l (bash_once reg (map_at l place) bit) (bash_once reg (map_at l place) bit) once once))
granted_at Access c l reg place inside is p right = accessed c l reg place p right.0 right.1 inside is
granted_at Shared c l reg place inside is p right =
    λ m at. (
      writes c l reg place (turned_round c (Reg reg) (mirrored_of m.mirror reg)) p right
          (turned_fits c (Reg reg) (mirrored_of m.mirror reg)),
      each c l (length l.places) (check_other l reg place) (λ other there. other_checked c l reg place other there),
    )
granted_at MemWalk c l mem place inside is p right =
    each c l (memory_size c mem) (walk_location c mem (map_at l place))
    (λ k low. walked c l mem place k (record { at = p; reads = right.0; writing = right.1; writable = is }) low)

-- ---- the sequences

granted : (which : Sequence) (c : ChipData) (l : LayoutData) (block : Option ℕ) → IsGranted c l (walk which c l block)
granted which c l block =
    each c l (items_of which c) (visit_all which c l block)
    (λ number inside. chosen c l (is_chosen which c l block number) (each_below (length l.places) (visit which c l number))
    (λ so. each c l (length l.places) (visit which c l number)
    (λ place there. chosen c l (is_visited which l number place) (at_place which c l number place)
    (λ may.
    let both = and_parts (is_of l place (item_of which number)) (has_rights which l place) may in
    granted_at which c l number place inside (is_right which c l block number so) (record { there = there; mine = both.0 })
    (are_there which l place both.1)))))

begun : (which : Sequence) (c : ChipData) (l : LayoutData) → IsGranted c l (beginning_of which)
begun HwReset c l = ((λ m is. refl), tt)
begun BitBash c l = tt
begun Access c l = tt
begun Shared c l = tt
begun MemWalk c l = tt

pub no_step_is_refused : NoStepIsRefused
no_step_is_refused which c l block = followed c l (beginning_of which) (walk which c l block) (begun which c l) (granted which c l block)

-- Operations of sequences are accesses to a place, from any model of the chip and the layout.
use Rattle.std.proofs.Common.{◌≡◌, ℕ, ◌*◌, ◌^◌, ◌<◌, nat_lt, bit_xor, if◌then◌else◌, Bool, true, false, length, Option, None, Some, option_map, Ok, Err, sym, ap, ◌∙◌, subst, arith}
use Rattle.std.specs.Option.{option_map_or}
use Rattle.std.proofs.lemmas.Nat.{mod_below, pow_pos}
use borrow.Author.Tests.{lt-ltb}
use Rattle.rl_model.specs.Rows.{ChipData}
use Rattle.rl_model.specs.Fields.{size_of}
use Rattle.rl_model.specs.declared.rows.Item.{Item}
use Rattle.rl_model.specs.declared.rows.Item.TheVariants.{Reg, Mem}
use Rattle.rl_map.specs.Layout.{LayoutData, place_at, place_of, has_right, IsLocation, IsSound}
use Rattle.rl_map.specs.Maps.{IsBuiltWith}
use Rattle.rl_map.proofs.Lookups.{same_from}
use Rattle.rl_split.specs.Access.{all_bytes, ops_of}
use Rattle.rl_mirror.specs.Mirror.{mirrored_of}
use Rattle.rl_access.specs.declared.event.Op.TheVariants as op
use Rattle.rl_access.specs.declared.event.Refused.TheVariants.{NoRight, NotWritable, OutOfRange, TooWide}
use Rattle.rl_access.specs.Items.{failed_at}
use Rattle.rl_access.specs.Model.{ModelData, IsModel}
use Rattle.rl_access.specs.Operation.{location_size}
use Rattle.rl_access.specs.Rules.{grant, placed, with_right, way, item_size, memory_size, is_writable}
use Rattle.rl_access.proofs.Bytes.{bytes_bits}
use Rattle.rl_access.proofs.Places.{size_is}
use Rattle.rl_seq.specs.Choice.{is_of, may_read, may_write, low_bits, turned_round}
use Rattle.rl_seq.specs.Sequences.{map_at}
use Rattle.rl_seq.proofs.Granting.{found, met, turned_fits, bashed_fits}
use Rattle.rl_detect_laws.proofs.Failing.{IsAccessAt, error_end}

-- a place of the item, in a layout of the chip
pub record IsPlaceOf (c : ChipData) (l : LayoutData) (place : ℕ) (item : Item) : Type 0 where
  pub sound : IsSound l
  pub there : place < length l.places
  pub mine : is_of l place item ≡ true
  pub size : item_size c item ≡ (place_at l place).bytes

pub is_place : (c : ChipData) (l : LayoutData) (place : ℕ) (item : Item) → IsSound l → IsBuiltWith l c → place < length l.places → is_of l place item ≡ true
    → IsPlaceOf c l place item
is_place c l place item sound built there mine = record {
  sound = sound;
  there = there;
  mine = mine;
  size = ap (item_size c) (sym (same_from (place_at l place).item item mine)) ∙ size_is c (place_at l place).item (place_at l place).bytes (built place there).0;
}

-- ---- grants

pub way_to : (c : ChipData) (l : LayoutData) (place : ℕ) (item : Item) (write : Bool) → IsPlaceOf c l place item → has_right (place_at l place).rights write ≡ true
    → (m : ModelData) → m.layout ≡ l → way m item (Some (map_at l place)) write ≡ Ok place
way_to c l place item write p right m layout =
    ap (λ (x : LayoutData). with_right x write (placed (place_of x item (Some (map_at l place))))) layout
    ∙ ap (λ o. with_right l write (placed o)) (found l item place p.sound p.there p.mine)
    ∙ ap (λ b. if b then Ok place else Err NoRight) right

fits_for : (c : ChipData) (item : Item) (v : ℕ) (m : ModelData) → m.chip ≡ c → nat_lt (turned_round c item v) (256 ^ item_size m.chip item) ≡ true
fits_for c item v m chip = subst (λ x. nat_lt (turned_round c item v) (256 ^ item_size x item) ≡ true) (sym chip) (turned_fits c item v)

-- ---- the operations

pub check_is : (c : ChipData) (l : LayoutData) (reg place : ℕ) → IsPlaceOf c l place (Reg reg) → may_read l place ≡ true
    → IsAccessAt c l place 0 (op.Check reg (Some (map_at l place)))
check_is c l reg place p right = record {
  granted = λ m chip layout. way_to c l place (Reg reg) false p right m layout;
  value = 0;
  write = false;
  sent = λ m chip layout. ap (λ (x : LayoutData). ops_of x place 0 (all_bytes (size_of m.chip reg)) 0 false) layout
      ∙ ap (λ n. ops_of l place 0 (all_bytes n) 0 false) (ap (λ x. size_of x reg) chip ∙ p.size);
  ends = λ m sampled items k at. error_end (failed_at items) _ _ k at;
}

pub write_is : (c : ChipData) (l : LayoutData) (reg place v : ℕ) → IsPlaceOf c l place (Reg reg) → may_write l place ≡ true
    → IsAccessAt c l place 0 (op.Write reg (Some (map_at l place)) (turned_round c (Reg reg) v))
write_is c l reg place v p right =
    let value = turned_round c (Reg reg) v in
    record {
      granted = λ m chip layout. met _ place _ TooWide (way_to c l place (Reg reg) true p right m layout) (fits_for c (Reg reg) v m chip);
      value = value;
      write = true;
      sent = λ m chip layout. ap (λ (x : LayoutData). ops_of x place 0 (all_bytes (size_of m.chip reg)) value true) layout
          ∙ ap (λ n. ops_of l place 0 (all_bytes n) value true) (ap (λ x. size_of x reg) chip ∙ p.size);
      ends = λ m sampled items k at. error_end (failed_at items) _ _ k at;
    }

-- the word that turns a bit round is written too
pub bash_granted : (c : ChipData) (l : LayoutData) (reg place bit : ℕ) → IsPlaceOf c l place (Reg reg) → may_write l place ≡ true → (m : ModelData) → IsModel m
    → m.chip ≡ c → m.layout ≡ l → reg < length m.chip.regs → bit < 8 * size_of m.chip reg
    → grant m (op.Write reg (Some (map_at l place)) (bit_xor (mirrored_of m.mirror reg) (2 ^ bit))) ≡ Ok place
bash_granted c l reg place bit p right m ok chip layout there low =
    met _ place _ TooWide (way_to c l place (Reg reg) true p right m layout) (bashed_fits m reg bit ok there low)

pub mem_write_is : (c : ChipData) (l : LayoutData) (mem place index v : ℕ) → IsPlaceOf c l place (Mem mem) → may_write l place ≡ true
    → is_writable c mem ≡ true → index < memory_size c mem
    → IsAccessAt c l place index (op.MemWrite mem (Some (map_at l place)) index (turned_round c (Mem mem) v))
mem_write_is c l mem place index v p right writable low =
    let value = turned_round c (Mem mem) v in
    record {
      granted = λ m chip layout. met _ place _ TooWide (met _ place _ OutOfRange
          (met _ place _ NotWritable (way_to c l place (Mem mem) true p right m layout) (subst (λ x. is_writable x mem ≡ true) (sym chip) writable))
          (lt-ltb index (memory_size m.chip mem) (subst (λ x. index < memory_size x mem) (sym chip) low))) (fits_for c (Mem mem) v m chip);
      value = value;
      write = true;
      sent = λ m chip layout. ap (λ (x : LayoutData). ops_of x place index (all_bytes (location_size m.chip mem)) value true) layout
          ∙ ap (λ n. ops_of l place index (all_bytes n) value true) (ap (λ x. location_size x mem) chip ∙ p.size);
      ends = λ m sampled items k at. error_end (failed_at items) _ _ k at;
    }

-- a check of a location is granted too, and so is a write of its number
pub mem_check_granted : (c : ChipData) (l : LayoutData) (mem place index v : ℕ) → IsPlaceOf c l place (Mem mem) → may_read l place ≡ true
    → index < memory_size c mem → (m : ModelData) → m.chip ≡ c → m.layout ≡ l
    → grant m (op.MemCheck mem (Some (map_at l place)) index (turned_round c (Mem mem) v)) ≡ Ok place
mem_check_granted c l mem place index v p right low m chip layout =
    met _ place _ TooWide (met _ place _ OutOfRange (way_to c l place (Mem mem) false p right m layout)
    (lt-ltb index (memory_size m.chip mem) (subst (λ x. index < memory_size x mem) (sym chip) low))) (fits_for c (Mem mem) v m chip)

low_fits : (c : ChipData) (item : Item) (v : ℕ) → nat_lt (low_bits c item v) (256 ^ item_size c item) ≡ true
low_fits c item v =
    let bits = bytes_bits (item_size c item) in
    let low = mod_below v (2 ^ (8 * item_size c item)) (pow_pos (8 * item_size c item)) in
    lt-ltb (low_bits c item v) (256 ^ item_size c item) (omega (arith, bits, low))

pub mem_number_granted : (c : ChipData) (l : LayoutData) (mem place index : ℕ) → IsPlaceOf c l place (Mem mem) → may_write l place ≡ true
    → is_writable c mem ≡ true → index < memory_size c mem → (m : ModelData) → m.chip ≡ c → m.layout ≡ l
    → grant m (op.MemWrite mem (Some (map_at l place)) index (low_bits c (Mem mem) index)) ≡ Ok place
mem_number_granted c l mem place index p right writable low m chip layout =
    met _ place _ TooWide (met _ place _ OutOfRange
    (met _ place _ NotWritable (way_to c l place (Mem mem) true p right m layout) (subst (λ x. is_writable x mem ≡ true) (sym chip) writable))
    (lt-ltb index (memory_size m.chip mem) (subst (λ x. index < memory_size x mem) (sym chip) low)))
    (subst (λ x. nat_lt (low_bits c (Mem mem) index) (256 ^ item_size x (Mem mem)) ≡ true) (sym chip) (low_fits c (Mem mem) index))

-- ---- locations

-- a register has one
pub only_location : (c : ChipData) (l : LayoutData) (reg place index : ℕ) → IsPlaceOf c l place (Reg reg) → IsLocation l place index → index ≡ 0
only_location c l reg place index p at =
    let one = (p.sound.each_place place p.there).reg reg (same_from (place_at l place).item (Reg reg) p.mine) in
    omega (arith, one, at.index_in)

map_or_of : {A : Type 0} (f : A → ℕ) (o : Option A) (x d : ℕ) → option_map f o ≡ Some x → option_map_or f o d ≡ x
map_or_of f None x d e = cc
map_or_of f (Some a) x d e = cc

-- those of a memory are numbered by its size
pub location_in : (c : ChipData) (l : LayoutData) (mem place index : ℕ) → IsPlaceOf c l place (Mem mem) → IsBuiltWith l c → IsLocation l place index
    → index < memory_size c mem
location_in c l mem place index p built at =
    let size : memory_size c mem ≡ (place_at l place).size =
    map_or_of (λ m. m.size) _ (place_at l place).size 0 ((built place p.there).1 mem (same_from (place_at l place).item (Mem mem) p.mine)) in
    omega (arith, size, at.index_in)

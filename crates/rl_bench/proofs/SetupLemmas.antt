-- The tables of a chip and a layout name what is there.
use Rattle.std.proofs.Common.{◌≡◌, ℕ, zero, suc, ◌+◌, ◌<◌, ◌≤◌, List, [], ◌∷◌, ◌++◌, length, get_or, take, map, Bool, Option, Some, None, refl, sym, ap, ◌∙◌, arith, subst, ⊎_elim}
use Rattle.std.proofs.lemmas.Bool.{cases_lt}
use Rattle.std.specs.Prelude.{slice_get, option_map, unwrap_or, sum_by, filter_map, All, IsSomeAnd}
use Rattle.std.proofs.lemmas.Option.{slice_get_within, get_or_from_slice_get}
use Rattle.std.proofs.lemmas.List.{length-map, get_or-map}
use Rattle.std.proofs.lemmas.List.Sums.{sum_by-cons}
use Rattle.std.specs.List.Sorted.{IsNonDecreasingBy}
use Rattle.std.proofs.lemmas.List.Elements.{All-get_or, All-cons, All-nil, All-head, All-tail}
use Rattle.rl_model.specs.declared.rows.Item.{Item}
use Rattle.rl_model.specs.declared.rows.Item.TheVariants as item
use Rattle.rl_model.specs.declared.rows.RegRow.{RegRow}
use Rattle.rl_model.specs.declared.rows.MemRow.{MemRow as Mem}
use Rattle.rl_model.specs.Rows.{ChipData, FieldSeen}
use Rattle.rl_model.specs.Chip.{IsSound as IsSoundChip, bytes_of, FieldFits, RegFits, MemFits, IsFieldOf}
use Rattle.rl_model.specs.declared.rows.Reset.{Reset}
use Rattle.rl_bus.specs.declared.table.ResetRow.{ResetRow}
use Rattle.rl_bus.specs.Spread.{AreInCell}
use Rattle.rl_bus.specs.declared.table.FieldRow.{FieldRow}
use Rattle.rl_bus.specs.declared.table.MemRow.{MemRow}
use Rattle.rl_bus.specs.declared.table.WordRow.{WordRow}
use Rattle.rl_bus.specs.Device.{IsCellIn}
use Rattle.rl_bus.specs.Setup.{Flaws, field_of, mem_of, no_mem, no_field}
use Rattle.rl_map.specs.Layout.{LayoutData, IsSound as IsSoundLayout, IsRowOf, place_at, port_at, words_of, index_of, cell_of}
use Rattle.rl_map.specs.Partition.{IsWordOn}
use Rattle.rl_map.specs.Words.{no_word, lanes_of}
use Rattle.rl_map.specs.Maps.{IsBuiltWith, IsPlaceIn}
use Rattle.rl_map.specs.Tables.{field_row, reset_rows, mem_rows, setup_of}
use Rattle.rl_flaw.specs.declared.flaw.Flaw.{Flaw}
use Rattle.rl_flaw.specs.declared.flaw.Flaw.TheVariants.{OtherPolicy, OtherReset, Stuck, ErrorRange, ErrorNth, Deaf}
use Rattle.rl_flaw.specs.Flaws.{flaws_of, stuck_row, width_of, IsFlawOf, AreFlawsOf, locations_of}
use Rattle.rl_bench.specs.Board.{IsSetup, IsWordIn, IsFieldIn, IsMemIn, IsStuckIn, HasRoom}
use Rattle.rl_bench.proofs.ListLemmas.{element}
use Rattle.rl_bench.proofs.RowLemmas.{some_same, mem_row}
use Rattle.rl_bench.specs.Rows.{reset_of}

-- ---- lists

some_and : {X : Type 0} (o : Option X) (P : X → Type 0) → IsSomeAnd o P → (x : X) × (o ≡ Some x) × P x
some_and None P h = absurd h
some_and (Some x) P h = (x, refl, h)

-- a part of what stands at k
option_within : {X Y : Type 0} (f : X → Y) (xs : List X) (k : ℕ) (y : Y) (o : Option X) → slice_get xs k ≡ o → option_map f o ≡ Some y → (x : X) × (slice_get xs k ≡ Some x) × (f x ≡ y)
option_within f xs k y None e h = let no : ⊥ = cc in absurd no
option_within f xs k y (Some x) e h = (x, e, some_same h)

rise_cons : {X : Type 0} (n : X → ℕ) (y : X) (xs : List X) → All (λ x. n y ≤ n x) xs → IsNonDecreasingBy n xs → IsNonDecreasingBy n (y ∷ xs)
rise_cons n y xs low rise zero zero d le l = omega arith
rise_cons n y xs low rise zero (suc j) d le l = low j d (omega (arith, l))
rise_cons n y xs low rise (suc i) zero d le l = absurd (omega (arith, le))
rise_cons n y xs low rise (suc i) (suc j) d le l = rise i j d (omega (arith, le)) (omega (arith, l))

-- what stands at a is among those before b
sums_upto : {X : Type 0} (f : X → ℕ) (xs : List X) (a b : ℕ) (x : X) → a < b → slice_get xs a ≡ Some x → sum_by f (take a xs) + f x ≤ sum_by f (take b xs)
sums_upto f [] a b x l h = let no : ⊥ = cc in absurd no
sums_upto f (y ∷ xs) a zero x l h = absurd (omega (arith, l))
sums_upto f (y ∷ xs) zero (suc b) x l h =
    let same : f y ≡ f x = ap f (some_same h) in
    let none : sum_by f (take zero (y ∷ xs)) ≡ 0 = refl in
    omega (arith, same, none, sum_by-cons f y (take b xs))
sums_upto f (y ∷ xs) (suc a) (suc b) x l h =
    omega (arith, sum_by-cons f y (take a xs), sum_by-cons f y (take b xs), sums_upto f xs a b x (omega (arith, l)) h)

-- ---- memories

mems_long : (n : ℕ) (ms : List Mem) → length (mem_rows n ms) ≡ length ms
mems_long n [] = refl
mems_long n (m ∷ ms) = ap suc (mems_long (n + m.size) ms)

-- the row of memory k
mems_at : (n : ℕ) (ms : List Mem) (k : ℕ) (m : Mem) (d : MemRow) → slice_get ms k ≡ Some m → get_or (mem_rows n ms) k d ≡ mem_row (n + sum_by (λ m. m.size) (take k ms)) m
mems_at n [] k m d h = let no : ⊥ = cc in absurd no
mems_at n (x ∷ xs) zero m d h =
    let same : x ≡ m = some_same h in
    let e : n ≡ n + 0 = omega arith in
    ap (mem_row n) same ∙ ap (λ j. mem_row j m) e
mems_at n (x ∷ xs) (suc k) m d h =
    let more = sum_by-cons (λ m. m.size) x (take k xs) in
    let e : (n + x.size) + sum_by (λ m. m.size) (take k xs) ≡ n + sum_by (λ m. m.size) (x ∷ take k xs) = omega (arith, more) in
    mems_at (n + x.size) xs k m d h ∙ ap (λ j. mem_row j m) e

sizes_within : (ms : List Mem) (k : ℕ) (m : Mem) → slice_get ms k ≡ Some m → sum_by (λ m. m.size) (take k ms) + m.size ≤ sum_by (λ m. m.size) ms
sizes_within [] k m h = let no : ⊥ = cc in absurd no
sizes_within (x ∷ xs) zero m h =
    let same : x.size ≡ m.size = ap (λ m. m.size) (some_same h) in
    let none : sum_by (λ m. m.size) (take zero (x ∷ xs)) ≡ 0 = refl in
    omega (arith, same, none, sum_by-cons (λ m. m.size) x xs)
sizes_within (x ∷ xs) (suc k) m h =
    omega (arith, sum_by-cons (λ m. m.size) x xs, sum_by-cons (λ m. m.size) x (take k xs), sizes_within xs k m h)

mem_fits : (c : ChipData) → IsSoundChip c → (k : ℕ) (d : MemRow) → k < length (mem_rows 0 c.mems) → IsMemIn (get_or (mem_rows 0 c.mems) k d)
mem_fits c good k d l =
    let inside : k < length c.mems = subst (λ n. k < n) (mems_long 0 c.mems) l in
    let m = element c.mems k inside in
    let fits : MemFits m.0 = good.each_mem k m.0 m.1 in
    subst IsMemIn (sym (mems_at 0 c.mems k m.0 d m.1)) (record { some = fits.0; most = fits.1 })

mem_has_room : (c : ChipData) (k : ℕ) (d : MemRow) → k < length (mem_rows 0 c.mems) → (get_or (mem_rows 0 c.mems) k d).first + (get_or (mem_rows 0 c.mems) k d).size ≤ locations_of c
mem_has_room c k d l =
    let inside : k < length c.mems = subst (λ n. k < n) (mems_long 0 c.mems) l in
    let m = element c.mems k inside in
    let P : MemRow → Type 0 = λ row. row.first + row.size ≤ locations_of c in
    subst P (sym (mems_at 0 c.mems k m.0 d m.1)) (omega (arith, sizes_within c.mems k m.0 m.1))

-- ---- reset values

chunk_rise : (n : ℕ) (rs : List Reset) (tail : List ResetRow) → All (λ r. n ≤ r.field) tail → IsNonDecreasingBy (λ r. r.field) tail
    → All (λ r. n ≤ r.field) (map (reset_of n) rs ++ tail) × IsNonDecreasingBy (λ r. r.field) (map (reset_of n) rs ++ tail)
chunk_rise n [] tail low rise = (low, rise)
chunk_rise n (r ∷ rs) tail low rise =
    let more = chunk_rise n rs tail low rise in
    (All-cons (λ r. n ≤ r.field) (reset_of n r) (map (reset_of n) rs ++ tail) (omega arith) more.0, rise_cons (λ r. r.field) (reset_of n r) (map (reset_of n) rs ++ tail) more.0 more.1)

resets_rise : (n : ℕ) (fs : List FieldSeen) → All (λ r. n ≤ r.field) (reset_rows n fs) × IsNonDecreasingBy (λ r. r.field) (reset_rows n fs)
resets_rise n [] = (All-nil (λ (r : ResetRow). n ≤ r.field), λ i j d le l. absurd (omega (arith, l)))
resets_rise n (f ∷ fs) =
    let more = resets_rise (n + 1) fs in
    let low : All (λ r. n ≤ r.field) (reset_rows (n + 1) fs) = λ k d l. omega (arith, more.0 k d l) in
    chunk_rise n f.resets (reset_rows (n + 1) fs) low more.1

-- ---- fields

field_is : (fs : List FieldSeen) (k : ℕ) (d : FieldRow) (f : FieldSeen) → slice_get fs k ≡ Some f → get_or (map field_row fs) k d ≡ field_row f
field_is fs k d f e = get_or-map field_row fs k f d (slice_get_within fs k f e) ∙ ap field_row (get_or_from_slice_get fs k f f e)

-- where a field stands among those of its register
field_place : (c : ChipData) → IsSoundChip c → (k : ℕ) (f : FieldSeen) → slice_get c.fields k ≡ Some f → (r : RegRow) × (slice_get c.regs f.shape.reg ≡ Some r) × IsFieldOf k f.shape r
field_place c good k f e = some_and (slice_get c.regs f.shape.reg) (IsFieldOf k f.shape) (good.each_field k f e).0

fields_rise : (c : ChipData) → IsSoundChip c → IsNonDecreasingBy (λ f. f.reg) (map field_row c.fields)
fields_rise c good i j d le l =
    let n = length-map c.fields field_row in
    let jn : j < length c.fields = subst (λ n. j < n) n l in
    let f = element c.fields i (omega (arith, le, jn)) in
    let g = element c.fields j jn in
    let r = field_place c good i f.0 f.1 in
    let s = field_place c good j g.0 g.1 in
    let a = good.firsts f.0.shape.reg r.0 r.1 in
    let b = good.firsts g.0.shape.reg s.0 s.1 in
    let P : FieldRow → FieldRow → Type 0 = λ x y. x.reg ≤ y.reg in
    let below : f.0.shape.reg ≤ g.0.shape.reg = ⊎_elim
    (λ (less : g.0.shape.reg < f.0.shape.reg). absurd (omega (arith, le, a, b, r.2.0, s.2.1, sums_upto (λ r. r.count) c.regs g.0.shape.reg f.0.shape.reg s.0 less s.1)))
    (λ (more : f.0.shape.reg ≤ g.0.shape.reg). more)
    (cases_lt g.0.shape.reg f.0.shape.reg) in
    subst (λ x. P x (get_or (map field_row c.fields) j d)) (sym (field_is c.fields i d f.0 f.1))
    (subst (λ y. P (field_row f.0) y) (sym (field_is c.fields j d g.0 g.1)) below)

-- ---- the whole

field_fits : (c : ChipData) (l : LayoutData) (flaws : Flaws) → IsSoundChip c → (k : ℕ) (d : FieldRow) → k < length (map field_row c.fields)
    → IsFieldIn (setup_of c l flaws) (get_or (map field_row c.fields) k d)
unfolding setup_of
field_fits c l flaws good k d inside =
    let n = length-map c.fields field_row in
    let f = element c.fields k (subst (λ n. k < n) n inside) in
    let r = field_place c good k f.0 f.1 in
    let fits : FieldFits c k f.0 = good.each_field k f.0 f.1 in
    let bytes : RegFits c r.0 = good.each_reg f.0.shape.reg r.0 r.1 in
    let long : length (map (λ r. r.bytes) c.regs) ≡ length c.regs = length-map c.regs (λ r. r.bytes) in
    let within : f.0.shape.reg < length c.regs = slice_get_within c.regs f.0.shape.reg r.0 r.1 in
    subst (IsFieldIn (setup_of c l flaws)) (sym (field_is c.fields k d f.0 f.1))
    (record { reg = omega (arith, long, within); some = fits.1; most = omega (arith, r.2.2, bytes.1) })

cell_fits : (c : ChipData) (l : LayoutData) (flaws : Flaws) (i : Item) (index bytes size : ℕ) → bytes_of c i ≡ Some bytes
    → ((m : ℕ) → i ≡ item.Mem m → option_map (λ m. m.size) (slice_get c.mems m) ≡ Some size) → index < size → IsCellIn (setup_of c l flaws) (cell_of i index)
unfolding setup_of
cell_fits c l flaws (item.Reg r) index bytes size b s le = record {
  reg = λ n e.
      let x = option_within (λ r. r.bytes) c.regs r bytes (slice_get c.regs r) refl b in
      let within : r < length c.regs = slice_get_within c.regs r x.0 x.1 in
      let long : length (map (λ r. r.bytes) c.regs) ≡ length c.regs = length-map c.regs (λ r. r.bytes) in
      let same : r ≡ n = cc in
      omega (arith, within, long, same);
  loc = λ m j e. let no : ⊥ = cc in absurd no;
}
cell_fits c l flaws (item.Mem m) index bytes size b s le = record {
  reg = λ n e. let no : ⊥ = cc in absurd no;
  loc = λ n j e.
      let x = option_within (λ m. m.size) c.mems m size (slice_get c.mems m) refl (s m refl) in
      let within : m < length c.mems = slice_get_within c.mems m x.0 x.1 in
      let long : length (mem_rows 0 c.mems) ≡ length c.mems = mems_long 0 c.mems in
      let same : m ≡ n = cc in
      let at : index ≡ j = cc in
      let row : (mem_of (setup_of c l flaws) m).size ≡ x.0.size = ap (λ r. r.size) (mems_at 0 c.mems m x.0 no_mem x.1) in
      let low : j < x.0.size = omega (arith, at, le, x.2) in
      (omega (arith, within, long, same), subst (λ k. j < (mem_of (setup_of c l flaws) k).size) same (subst (λ k. j < k) (sym row) low));
}

word_fits : (c : ChipData) (l : LayoutData) (flaws : Flaws) → IsSoundLayout l → IsBuiltWith l c → (w : WordRow) → IsRowOf l w → IsWordIn (setup_of c l flaws) w
unfolding setup_of
word_fits c l flaws good built w h =
    let index = index_of w.cell in
    let place = place_at l w.place in
    let placed : IsPlaceIn c place = built w.place h.location.place_in in
    let cell_is : w.cell ≡ cell_of place.item index = ap (λ w. w.cell) h.row in
    let word = get_or (words_of l w.place index) h.number no_word in
    let lanes_is : w.lanes ≡ lanes_of word = ap (λ w. w.lanes) h.row in
    let on : IsWordOn (port_at l place.port).kind (port_at l place.port).bytes word =
    All-get_or (IsWordOn (port_at l place.port).kind (port_at l place.port).bytes) (words_of l w.place index) h.number no_word h.number_in (good.each_location w.place index h.location).on in
    record {
      cell = subst (IsCellIn (setup_of c l flaws)) (sym cell_is) (cell_fits c l flaws place.item index place.bytes place.size placed.0 placed.1 h.location.index_in);
      lanes = subst AreInCell (sym lanes_is) on.bytes;
    }

-- a stuck bit is one of its field
stuck_one : (c : ChipData) (l : LayoutData) (flaws : Flaws) (f b : ℕ) (v : Bool) → IsFlawOf c l (Stuck f b v) → IsStuckIn (setup_of c l flaws) (record { field = f; bit = b; value = v })
unfolding setup_of
stuck_one c l flaws f b v h =
    let s = element c.fields f h.0 in
    let n = length-map c.fields field_row in
    let row : (field_of (setup_of c l flaws) f).width ≡ s.0.shape.width = ap (λ r. r.width) (field_is c.fields f no_field s.0 s.1) in
    let declared : width_of c f ≡ s.0.shape.width = ap (λ o. unwrap_or (option_map (λ s. s.shape.width) o) 0) s.1 in
    record { field = omega (arith, h.0, n); bit = omega (arith, h.1, row, declared) }

stuck_all : (c : ChipData) (l : LayoutData) (all : Flaws) (flaws : List Flaw) → AreFlawsOf c l flaws → All (IsStuckIn (setup_of c l all)) (filter_map stuck_row flaws)
unfolding setup_of
stuck_all c l all [] h = All-nil (IsStuckIn (setup_of c l all))
stuck_all c l all (Stuck f b v ∷ flaws) h =
    All-cons (IsStuckIn (setup_of c l all)) (record { field = f; bit = b; value = v }) (filter_map stuck_row flaws)
    (stuck_one c l all f b v (All-head (IsFlawOf c l) (Stuck f b v) flaws h)) (stuck_all c l all flaws (All-tail (IsFlawOf c l) (Stuck f b v) flaws h))
stuck_all c l all (OtherPolicy f p ∷ flaws) h = stuck_all c l all flaws (All-tail (IsFlawOf c l) (OtherPolicy f p) flaws h)
stuck_all c l all (OtherReset f k v ∷ flaws) h = stuck_all c l all flaws (All-tail (IsFlawOf c l) (OtherReset f k v) flaws h)
stuck_all c l all (ErrorRange p a b ∷ flaws) h = stuck_all c l all flaws (All-tail (IsFlawOf c l) (ErrorRange p a b) flaws h)
stuck_all c l all (ErrorNth n ∷ flaws) h = stuck_all c l all flaws (All-tail (IsFlawOf c l) (ErrorNth n) flaws h)
stuck_all c l all (Deaf i ∷ flaws) h = stuck_all c l all flaws (All-tail (IsFlawOf c l) (Deaf i) flaws h)

pub is_setup : (c : ChipData) (l : LayoutData) (flaws : List Flaw) → IsSoundChip c → IsSoundLayout l → IsBuiltWith l c → AreFlawsOf c l flaws → IsSetup (setup_of c l (flaws_of flaws))
unfolding setup_of
is_setup c l flaws chip layout built named = record {
  words = λ k d inside. word_fits c l (flaws_of flaws) layout built (get_or l.rows k d) (layout.each_row k d inside);
  fields = field_fits c l (flaws_of flaws) chip;
  mems = mem_fits c chip;
  stuck = λ k d inside. stuck_all c l (flaws_of flaws) flaws named k d inside;
  few_regs = omega (arith, chip.regs, length-map c.regs (λ r. r.bytes));
  few_fields = omega (arith, chip.fields, length-map c.fields field_row);
  few_words = omega (arith, layout.rows);
  words_rise = λ i j d le inside. layout.ascending i j d le inside;
  fields_rise = fields_rise c chip;
  resets_rise = (resets_rise 0 c.fields).1;
  even = λ p a one other here there. layout.even p a one other here there;
}

pub has_room : (c : ChipData) (l : LayoutData) (flaws : Flaws) → HasRoom (setup_of c l flaws) (locations_of c)
unfolding setup_of
has_room c l flaws m d inside = mem_has_room c m d inside

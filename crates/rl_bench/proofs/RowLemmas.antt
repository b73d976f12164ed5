-- Rows made one after another.
use Rattle.std.proofs.Common.{◌≡◌, ℕ, zero, suc, ◌+◌, ◌^◌, ◌<◌, ◌≤◌, List, [], ◌∷◌, ◌++◌, length, get_or, take, map, Bool, Option, Some, None, refl, sym, ap, ◌∙◌, arith, append_assoc, add-zero}
use Rattle.std.specs.Prelude.{slice_get, option_map, sum_by}
use Rattle.std.proofs.lemmas.List.{take_more, map-append, append-nil}
use Rattle.std.proofs.lemmas.Option.{slice_get_within, slice_get-get_or}
use Rattle.rl_model.specs.declared.rows.Reset.{Reset}
use Rattle.std.proofs.lemmas.List.Sums.{sum_by_more, sum_by-cons}
use Rattle.rl_model.specs.declared.rows.Field.{Field}
use Rattle.rl_model.specs.declared.rows.RegRow.{RegRow}
use Rattle.rl_model.specs.declared.rows.MemRow.{MemRow as Mem}
use Rattle.rl_model.specs.Rows.{FieldSeen, ChipData}
use Rattle.rl_model.specs.Chip.{IsSound}
use Rattle.rl_bus.specs.declared.table.FieldRow.{FieldRow}
use Rattle.rl_bus.specs.declared.table.MemRow.{MemRow}
use Rattle.rl_map.specs.Tables.{field_row, reset_rows, mem_rows}
use Rattle.rl_bench.specs.Rows.{reset_of}

pub some_same : {X : Type 0} {a b : X} → Some a ≡ Some b → a ≡ b
some_same h = cc

-- what stands at k, seen through a function
pub mapped_at : {X Y : Type 0} (f : X → Y) (xs : List X) (k : ℕ) (x : X) → slice_get xs k ≡ Some x → map f (take k xs) ++ f x ∷ [] ≡ map f (take (k + 1) xs)
mapped_at f xs k x e =
    let l : k < length xs = slice_get_within xs k x e in
    let at : get_or xs k x ≡ x = some_same (sym (slice_get-get_or xs k x l) ∙ e) in
    ap (λ z. map f (take k xs) ++ f z ∷ []) (sym at)
    ∙ sym (ap (map f) (take_more xs k x l) ∙ map-append f (take k xs) (get_or xs k x ∷ []))

mapped_case : {X Y : Type 0} (f : X → Y) (xs : List X) (k : ℕ) (y : Y) (o : Option X) → slice_get xs k ≡ o → option_map f o ≡ Some y → map f (take k xs) ++ y ∷ [] ≡ map f (take (k + 1) xs)
mapped_case f xs k y None e h = cc
mapped_case f xs k y (Some x) e h = ap (λ z. map f (take k xs) ++ z ∷ []) (some_same (sym h)) ∙ mapped_at f xs k x e

pub mapped_more : {X Y : Type 0} (f : X → Y) (xs : List X) (k : ℕ) (y : Y) → option_map f (slice_get xs k) ≡ Some y → map f (take k xs) ++ y ∷ [] ≡ map f (take (k + 1) xs)
mapped_more f xs k y h = mapped_case f xs k y (slice_get xs k) refl h

pub option_then : {X Y Z : Type 0} (f : X → Y) (g : Y → Z) (o : Option X) (y : Y) → option_map f o ≡ Some y → option_map (λ x. g (f x)) o ≡ Some (g y)
option_then f g None y h = ap (option_map g) h
option_then f g (Some x) y h = ap (option_map g) h

resets_suc : (n : ℕ) (fs : List FieldSeen) (k : ℕ) (rs : List Reset) → option_map (λ f. f.resets) (slice_get fs k) ≡ Some rs
    → reset_rows n (take k fs) ++ map (reset_of (n + k)) rs ≡ reset_rows n (take (suc k) fs)
resets_suc n [] k rs h = cc
resets_suc n (f ∷ fs) zero rs h =
    let same : f.resets ≡ rs = some_same h in
    ap (λ m. map (reset_of m) rs) (add-zero n) ∙ ap (map (reset_of n)) (sym same) ∙ sym (append-nil (map (reset_of n) f.resets))
resets_suc n (f ∷ fs) (suc k) rs h =
    let e : n + suc k ≡ (n + 1) + k = omega arith in
    append_assoc (map (reset_of n) f.resets) (reset_rows (n + 1) (take k fs)) (map (reset_of (n + suc k)) rs)
    ∙ ap (λ j. map (reset_of n) f.resets ++ (reset_rows (n + 1) (take k fs) ++ map (reset_of j) rs)) e
    ∙ ap (λ zs. map (reset_of n) f.resets ++ zs) (resets_suc (n + 1) fs k rs h)

pub resets_more : (fs : List FieldSeen) (k : ℕ) (rs : List Reset) → option_map (λ f. f.resets) (slice_get fs k) ≡ Some rs
    → reset_rows 0 (take k fs) ++ map (reset_of k) rs ≡ reset_rows 0 (take (k + 1) fs)
resets_more fs k rs h =
    let e : k ≡ 0 + k = omega arith in
    let f : suc k ≡ k + 1 = omega arith in
    ap (λ j. reset_rows 0 (take k fs) ++ map (reset_of j) rs) e ∙ resets_suc 0 fs k rs h ∙ ap (λ j. reset_rows 0 (take j fs)) f

pub few_kinds : (c : ChipData) (field : ℕ) (rs : List Reset) → IsSound c → option_map (λ f. f.resets) (slice_get c.fields field) ≡ Some rs
    → (k : ℕ) (d : Reset) → k < length rs → (get_or rs k d).kind < 2 ^ 32
few_kinds c field rs sound h k d low = by (slice_get c.fields field) refl h
  where
    by : (o : Option FieldSeen) → slice_get c.fields field ≡ o → option_map (λ f. f.resets) o ≡ Some rs → (get_or rs k d).kind < 2 ^ 32
    by None at none = absurd (let no : ⊥ = cc in no)
    by (Some f) at some =
        let here : slice_get f.resets k ≡ Some (get_or rs k d) = ap (λ zs. slice_get zs k) (some_same some) ∙ slice_get-get_or rs k d low in
        let fits = sound.each_reset field f k (get_or rs k d) at here in
        omega (arith, fits.0, sound.kinds)

abbrev pub mem_row : ℕ → Mem → MemRow
mem_row first m = record { first = first; bytes = m.bytes; size = m.size; writable = m.writable }

mems_suc : (n : ℕ) (ms : List Mem) (k : ℕ) (m : Mem) → slice_get ms k ≡ Some m → mem_rows n (take k ms) ++ mem_row (n + sum_by (λ m. m.size) (take k ms)) m ∷ [] ≡ mem_rows n (take (suc k) ms)
mems_suc n [] k m h = cc
mems_suc n (x ∷ xs) zero m h =
    let same : x ≡ m = some_same h in
    ap (λ j. mem_row j m ∷ []) (add-zero n) ∙ ap (λ y. mem_row n y ∷ []) (sym same)
mems_suc n (x ∷ xs) (suc k) m h =
    let more : sum_by (λ m. m.size) (x ∷ take k xs) ≡ x.size + sum_by (λ m. m.size) (take k xs) = sum_by-cons (λ m. m.size) x (take k xs) in
    let e : n + sum_by (λ m. m.size) (x ∷ take k xs) ≡ (n + x.size) + sum_by (λ m. m.size) (take k xs) = omega (arith, more) in
    ap (λ rs. mem_row n x ∷ rs) (ap (λ j. mem_rows (n + x.size) (take k xs) ++ mem_row j m ∷ []) e ∙ mems_suc (n + x.size) xs k m h)

pub mems_more : (ms : List Mem) (k : ℕ) (m : Mem) (first : ℕ) → slice_get ms k ≡ Some m → first ≡ sum_by (λ m. m.size) (take k ms)
    → mem_rows 0 (take k ms) ++ mem_row first m ∷ [] ≡ mem_rows 0 (take (k + 1) ms)
mems_more ms k m first h at =
    let e : first ≡ 0 + sum_by (λ m. m.size) (take k ms) = omega arith in
    let f : suc k ≡ k + 1 = omega arith in
    ap (λ j. mem_rows 0 (take k ms) ++ mem_row j m ∷ []) e ∙ mems_suc 0 ms k m h ∙ ap (λ j. mem_rows 0 (take j ms)) f

mems_case : (ms : List Mem) (k first bytes size : ℕ) (writable : Bool) (o : Option Mem) → slice_get ms k ≡ o
    → option_map (λ m. m.size) o ≡ Some size → option_map (λ m. m.bytes) o ≡ Some bytes → option_map (λ m. m.writable) o ≡ Some writable
    → first ≡ sum_by (λ m. m.size) (take k ms) → mem_rows 0 (take k ms) ++ record { first = first; bytes = bytes; size = size; writable = writable } ∷ [] ≡ mem_rows 0 (take (k + 1) ms)
mems_case ms k first bytes size writable None e s b w at = cc
mems_case ms k first bytes size writable (Some m) e s b w at =
    ap (λ n. mem_rows 0 (take k ms) ++ record { first = first; bytes = bytes; size = n; writable = writable } ∷ []) (some_same (sym s))
    ∙ ap (λ n. mem_rows 0 (take k ms) ++ record { first = first; bytes = n; size = m.size; writable = writable } ∷ []) (some_same (sym b))
    ∙ ap (λ n. mem_rows 0 (take k ms) ++ record { first = first; bytes = m.bytes; size = m.size; writable = n } ∷ []) (some_same (sym w))
    ∙ mems_more ms k m first e at

pub mem_more : (ms : List Mem) (k first bytes size : ℕ) (writable : Bool) → option_map (λ m. m.size) (slice_get ms k) ≡ Some size
    → option_map (λ m. m.bytes) (slice_get ms k) ≡ Some bytes → option_map (λ m. m.writable) (slice_get ms k) ≡ Some writable
    → first ≡ sum_by (λ m. m.size) (take k ms) → mem_rows 0 (take k ms) ++ record { first = first; bytes = bytes; size = size; writable = writable } ∷ [] ≡ mem_rows 0 (take (k + 1) ms)
mem_more ms k first bytes size writable s b w at = mems_case ms k first bytes size writable (slice_get ms k) refl s b w at

summed_case : {X : Type 0} (f : X → ℕ) (xs : List X) (k y : ℕ) (o : Option X) → slice_get xs k ≡ o → option_map f o ≡ Some y → sum_by f (take k xs) + y ≡ sum_by f (take (k + 1) xs)
summed_case f xs k y None e h = cc
summed_case f xs k y (Some x) e h =
    let l : k < length xs = slice_get_within xs k x e in
    let at : get_or xs k x ≡ x = some_same (sym (slice_get-get_or xs k x l) ∙ e) in
    ap (λ n. sum_by f (take k xs) + n) (some_same (sym h) ∙ ap f (sym at)) ∙ sym (sum_by_more f xs k x l)

pub sizes_more : (ms : List Mem) (k size : ℕ) → option_map (λ m. m.size) (slice_get ms k) ≡ Some size → sum_by (λ m. m.size) (take k ms) + size ≡ sum_by (λ m. m.size) (take (k + 1) ms)
sizes_more ms k size h = summed_case (λ m. m.size) ms k size (slice_get ms k) refl h

pub regs_more : (rs : List RegRow) (k bytes : ℕ) → option_map (λ r. r.bytes) (slice_get rs k) ≡ Some bytes → map (λ r. r.bytes) (take k rs) ++ bytes ∷ [] ≡ map (λ r. r.bytes) (take (k + 1) rs)
regs_more rs k bytes h = mapped_more (λ r. r.bytes) rs k bytes h

abbrev pub shape_row : Field → FieldRow
shape_row s = record { reg = s.reg; lsb = s.lsb; width = s.width; policy = s.policy }

pub fields_more : (fs : List FieldSeen) (k : ℕ) (s : Field) → option_map (λ f. f.shape) (slice_get fs k) ≡ Some s → map field_row (take k fs) ++ shape_row s ∷ [] ≡ map field_row (take (k + 1) fs)
fields_more fs k s h = mapped_more field_row fs k (shape_row s) (option_then (λ f. f.shape) shape_row (slice_get fs k) s h)

-- a part of a list adds up to no more than the whole
part_below : {X : Type 0} (f : X → ℕ) (xs : List X) (k : ℕ) → sum_by f (take k xs) ≤ sum_by f xs
part_below f [] zero = omega arith
part_below f [] (suc k) = omega arith
part_below f (x ∷ xs) zero = omega arith
part_below f (x ∷ xs) (suc k) = omega (arith, sum_by-cons f x (take k xs), sum_by-cons f x xs, part_below f xs k)

pub sizes_in : (ms : List Mem) (k size : ℕ) → option_map (λ m. m.size) (slice_get ms k) ≡ Some size → sum_by (λ m. m.size) (take k ms) + size ≤ sum_by (λ m. m.size) ms
sizes_in ms k size h = omega (arith, sizes_more ms k size h, part_below (λ m. m.size) ms (k + 1))

-- one element more behind those of a list
pub pushed : {X Y : Type 0} (f : X → Y) (ys zs : List Y) (xs : List X) (k : ℕ) (d : X) → k < length xs
    → zs ≡ ys ++ map f (take k xs) → zs ++ f (get_or xs k d) ∷ [] ≡ ys ++ map f (take (k + 1) xs)
pushed f ys zs xs k d low was =
    ap (λ us. us ++ f (get_or xs k d) ∷ []) was ∙ append_assoc ys (map f (take k xs)) (f (get_or xs k d) ∷ [])
    ∙ ap (λ us. ys ++ us) (mapped_at f xs k (get_or xs k d) (slice_get-get_or xs k d low))

-- What follows for a chip from its being sound.
use Rattle.std.proofs.Common.{◌≡◌, ◌≢◌, ◌⊎◌, ◌↔◌, ℕ, zero, suc, ◌+◌, ◌^◌, ◌<◌, ◌≤◌, Bool, true, false, ◌==◌, ◌&&◌, nat_lt, nat_le, List, [], ◌∷◌, length, length-take-le, length-drop}
use Rattle.std.proofs.Common.{filter, take, drop, slice_get, sum_by, Option, Some, None, option_map, IsSomeAnd, codes, refl, sym, ap, subst, ◌∙◌, inl, inr, arith}
use Rattle.std.proofs.lemmas.Bool.{cases_Bool}
use Rattle.std.proofs.lemmas.Bool.Decides.{nat_tests}
use Rattle.std.proofs.lemmas.Option.{none-some, same_Some, slice_get_within}
use Rattle.std.proofs.lemmas.List.Sums.{sum_by-cons}
use Rattle.rl_model.specs.declared.rows.Field.{Field}
use Rattle.rl_model.specs.declared.rows.Item.{Item}
use Rattle.rl_model.specs.declared.rows.Item.TheVariants.{Reg, Mem}
use Rattle.rl_model.specs.declared.rows.RegRow.{RegRow}
use Rattle.rl_model.specs.declared.rows.MemRow.{MemRow}
use Rattle.rl_model.specs.declared.rows.Reset.{Reset}
use Rattle.rl_model.specs.Rows.{FieldSeen, ChipData}
use Rattle.rl_model.specs.Chip.{IsSound, HasBits, IsFieldOf, bytes_of, value_for}
use Rattle.rl_model.proofs.SoundLemmas.{there, get-take, get-drop}

mapped : {X Y : Type 0} (v : X → Y) (o : Option X) (y : Y) → option_map v o ≡ Some y → (x : X) × (o ≡ Some x) × (v x ≡ y)
mapped v None y h = absurd (none-some y h)
mapped v (Some x) y h = (x, refl, same_Some (v x) y h)

some_is : {X : Type 0} (o : Option X) (P : X → Type 0) → IsSomeAnd o P → (x : X) × (o ≡ Some x) × P x
some_is None P h = absurd h
some_is (Some x) P h = (x, refl, h)

-- ---- fields

pub field_has_bits : (c : ChipData) → IsSound c → (i : ℕ) (f : FieldSeen) → slice_get c.fields i ≡ Some f → HasBits c f.shape
field_has_bits c s i f at =
    let fits = s.each_field i f at in
    let (r, at_r, inside) = some_is (slice_get c.regs f.shape.reg) (IsFieldOf i f.shape) fits.0 in
    let reg = s.each_reg f.shape.reg r at_r in
    (slice_get_within c.regs f.shape.reg r at_r, fits.1, omega (arith, inside.2, reg.1), omega (arith, inside.2, reg.1))

-- the same for what `field` answers
pub shape_has_bits : (c : ChipData) → IsSound c → (i : ℕ) (f : Field) → option_map (λ g. g.shape) (slice_get c.fields i) ≡ Some f → HasBits c f
shape_has_bits c s i f at =
    let (g, at_g, is) = mapped (λ (g : FieldSeen). g.shape) (slice_get c.fields i) f at in
    let P : Field → Type 0 = HasBits c in
    subst P is (field_has_bits c s i g at_g)

pub count_few : (c : ChipData) → IsSound c → (n count : ℕ) → option_map (λ r. r.count) (slice_get c.regs n) ≡ Some count → count ≤ 64
count_few c s n count at =
    let (r, at_r, is) = mapped (λ (r : RegRow). r.count) (slice_get c.regs n) count at in
    omega (arith, s.few_fields n r at_r, is)

-- ---- items

pub bytes_in_range : (c : ChipData) → IsSound c → (item : Item) (bytes : ℕ) → bytes_of c item ≡ Some bytes → (1 ≤ bytes) × (bytes ≤ 8)
bytes_in_range c s (Reg n) bytes at =
    let (r, at_r, is) = mapped (λ (r : RegRow). r.bytes) (slice_get c.regs n) bytes at in
    let fits = s.each_reg n r at_r in
    (omega (arith, fits.0, is), omega (arith, fits.1, is))
bytes_in_range c s (Mem n) bytes at =
    let (m, at_m, is) = mapped (λ (m : MemRow). m.bytes) (slice_get c.mems n) bytes at in
    let fits = s.each_mem n m at_m in
    (omega (arith, fits.0, is), omega (arith, fits.1, is))

le_sum : (ms : List MemRow) (n : ℕ) (m : MemRow) → slice_get ms n ≡ Some m → m.size ≤ sum_by (λ m. m.size) ms
le_sum [] n m at = absurd (none-some m at)
le_sum (a ∷ ms) zero m at =
    omega (arith, ap (λ (x : MemRow). x.size) (same_Some a m at), sum_by-cons (λ (m : MemRow). m.size) a ms)
le_sum (a ∷ ms) (suc n) m at = omega (arith, le_sum ms n m at, sum_by-cons (λ (m : MemRow). m.size) a ms)

pub size_fits : (c : ChipData) → IsSound c → (n : ℕ) (m : MemRow) → slice_get c.mems n ≡ Some m → (1 ≤ m.size) × (m.size ≤ 65536)
size_fits c s n m at = ((s.each_mem n m at).2, omega (arith, le_sum c.mems n m at, s.locations))

pub size_in_range : (c : ChipData) → IsSound c → (n size : ℕ) → option_map (λ m. m.size) (slice_get c.mems n) ≡ Some size → (1 ≤ size) × (size ≤ 65536)
size_in_range c s n size at =
    let (m, at_m, is) = mapped (λ (m : MemRow). m.size) (slice_get c.mems n) size at in
    let fits = size_fits c s n m at_m in
    (omega (arith, fits.0, is), omega (arith, fits.1, is))

-- ---- the fields of a register

-- a register's fields, in order
abbrev pub fields_of : ChipData → RegRow → List FieldSeen
fields_of c r = take r.count (drop r.first c.fields)

-- whether a field is the n-th register's
abbrev pub is_of : ℕ → FieldSeen → Bool
is_of n f = f.shape.reg == n

pub own_field : (c : ChipData) → IsSound c → (n k : ℕ) (r : RegRow) → slice_get c.regs n ≡ Some r → k < r.count → (f : FieldSeen) × (slice_get c.fields (r.first + k) ≡ Some f) × (f.shape.reg ≡ n)
own_field c s n k r at lt =
    let fits = s.each_reg n r at in
    let (f, at_f) = there c.fields (r.first + k) (omega (arith, fits.2)) in
    (f, at_f, s.owned n (r.first + k) r f at at_f (omega arith) (omega arith))

-- a field is the register's exactly where it stands among the register's fields
pub among_own : (c : ChipData) → IsSound c → (n i : ℕ) (r : RegRow) (f : FieldSeen) → slice_get c.regs n ≡ Some r → slice_get c.fields i ≡ Some f
    → (f.shape.reg ≡ n) ↔ ((r.first ≤ i) × (i < r.first + r.count))
among_own c s n i r f at at_f = (
  λ is.
      let (q, at_q, inside) = some_is (slice_get c.regs f.shape.reg) (IsFieldOf i f.shape) (s.each_field i f at_f).0 in
      let same : q ≡ r = same_Some q r (sym at_q ∙ (ap (λ (k : ℕ). slice_get c.regs k) is ∙ at)) in
      let first = ap (λ (x : RegRow). x.first) same in
      let count = ap (λ (x : RegRow). x.count) same in
      (omega (arith, inside.0, first), omega (arith, inside.1, first, count)),
  λ (low, high). s.owned n i r f at at_f low high,
)

run_of_none : {X : Type 0} (a k : ℕ) → take k (drop a (let none : List X = [] in none)) ≡ []
run_of_none zero zero = refl
run_of_none zero (suc k) = refl
run_of_none (suc a) zero = refl
run_of_none (suc a) (suc k) = refl

-- a test that holds along a run of a list filters out that run
filter_run : {X : Type 0} (p : X → Bool) (xs : List X) (a k : ℕ) → ((i : ℕ) (x : X) → slice_get xs i ≡ Some x → p x ≡ (nat_le a i && nat_lt i (a + k))) → filter p xs ≡ take k (drop a xs)
filter_run p [] a k each = sym (run_of_none a k)
filter_run p (x ∷ xs) zero zero each =
    let off : p x ≡ false = each 0 x refl ∙ (let no : (nat_le 0 0 && nat_lt 0 (0 + 0)) ≡ false = grind (arith, nat_tests) in no) in
    let later = filter_run p xs 0 0 (λ i y at. each (suc i) y at ∙ (let no : (nat_le 0 (suc i) && nat_lt (suc i) (0 + 0)) ≡ (nat_le 0 i && nat_lt i (0 + 0)) = grind (arith, nat_tests) in no)) in
    rw off later
filter_run {X = X} p (x ∷ xs) zero (suc k) each =
    let on : p x ≡ true = each 0 x refl ∙ (let yes : (nat_le 0 0 && nat_lt 0 (0 + suc k)) ≡ true = grind (arith, nat_tests) in yes) in
    let later = filter_run p xs 0 k (λ i y at. each (suc i) y at ∙ (let same : (nat_le 0 (suc i) && nat_lt (suc i) (0 + suc k)) ≡ (nat_le 0 i && nat_lt i (0 + k)) = grind (arith, nat_tests) in same))
    in
    rw on (ap (λ (l : List X). x ∷ l) later)
filter_run p (x ∷ xs) (suc a) k each =
    let off : p x ≡ false = each 0 x refl ∙ (let no : (nat_le (suc a) 0 && nat_lt 0 (suc a + k)) ≡ false = grind (arith, nat_tests) in no) in
    let later = filter_run p xs a k (λ i y at. each (suc i) y at ∙ (let same : (nat_le (suc a) (suc i) && nat_lt (suc i) (suc a + k)) ≡ (nat_le a i && nat_lt i (a + k)) = grind (
      arith,
      nat_tests,
    ) in same)) in
    rw off later

-- a test that decides a fact is true exactly where the fact's other form is
same_test : (b d e : Bool) (P : Type 0) → (b ≡ true → P) → (P → b ≡ true) → (P → (d ≡ true) × (e ≡ true)) → (d ≡ true → e ≡ true → P) → b ≡ (d && e)
same_test true d e P to from both back = let (on_d, on_e) = both (to refl) in rw (on_d, on_e)
same_test false true true P to from both back = from (back refl refl)
same_test false true false P to from both back = refl
same_test false false e P to from both back = refl

-- the register's fields are those of all fields that are the register's
pub fields_of-filter : (c : ChipData) → IsSound c → (n : ℕ) (r : RegRow) → slice_get c.regs n ≡ Some r → filter (is_of n) c.fields ≡ fields_of c r
fields_of-filter c s n r at =
    filter_run (is_of n) c.fields r.first r.count (
    λ i f at_f.
    let iff = among_own c s n i r f at at_f in
    same_test (f.shape.reg == n) (nat_le r.first i) (nat_lt i (r.first + r.count)) (f.shape.reg ≡ n)
    (λ h. (let is : f.shape.reg ≡ n = grind (arith, nat_tests) in is))
    (λ is. (let h : (f.shape.reg == n) ≡ true = grind (arith, nat_tests) in h))
    (λ is.
    let (low, high) = iff.0 is in
    ((let yes : nat_le r.first i ≡ true = grind (arith, nat_tests) in yes), (let yes : nat_lt i (r.first + r.count) ≡ true = grind (arith, nat_tests) in yes)))
    (λ low high.
    iff.1 ((let yes : r.first ≤ i = grind (arith, nat_tests) in yes), (let yes : i < r.first + r.count = grind (arith, nat_tests) in yes)))
    )

pub length-fields_of : (c : ChipData) → IsSound c → (n : ℕ) (r : RegRow) → slice_get c.regs n ≡ Some r → length (fields_of c r) ≡ r.count
length-fields_of c s n r at = omega (arith, length-take-le r.count (drop r.first c.fields), length-drop r.first c.fields, (s.each_reg n r at).2)

-- the k-th of the register's fields has the number `first + k`
pub get-fields_of : (c : ChipData) (k : ℕ) (r : RegRow) → k < r.count → slice_get (fields_of c r) k ≡ slice_get c.fields (r.first + k)
get-fields_of c k r lt = get-take (drop r.first c.fields) k r.count lt ∙ get-drop c.fields r.first k

-- ---- the numbers of fields

sum_next : (rows : List RegRow) (n : ℕ) (a : RegRow) → slice_get rows n ≡ Some a → sum_by (λ r. r.count) (take (suc n) rows) ≡ sum_by (λ r. r.count) (take n rows) + a.count
sum_next [] n a at = absurd (none-some a at)
sum_next (b ∷ rows) zero a at =
    let count : b.count ≡ a.count = ap (λ (r : RegRow). r.count) (same_Some b a at) in
    omega (arith, count, sum_by-cons (λ (r : RegRow). r.count) b [])
sum_next (b ∷ rows) (suc n) a at =
    omega (
      arith,
      sum_next rows n a at,
      sum_by-cons (λ (r : RegRow). r.count) b (take (suc n) rows),
      sum_by-cons (λ (r : RegRow). r.count) b (take n rows),
    )

pub first_zero : (c : ChipData) → IsSound c → (r : RegRow) → slice_get c.regs 0 ≡ Some r → r.first ≡ 0
first_zero c s r at = s.firsts 0 r at

pub next_first : (c : ChipData) → IsSound c → (n : ℕ) (a b : RegRow) → slice_get c.regs n ≡ Some a → slice_get c.regs (suc n) ≡ Some b → b.first ≡ a.first + a.count
next_first c s n a b at_a at_b = omega (arith, s.firsts n a at_a, s.firsts (suc n) b at_b, sum_next c.regs n a at_a)

-- two fields of one register share no bit, whichever comes first
pub bits_apart : (c : ChipData) → IsSound c → (i j : ℕ) (f g : FieldSeen) → slice_get c.fields i ≡ Some f → slice_get c.fields j ≡ Some g → i ≢ j → f.shape.reg ≡ g.shape.reg
    → (f.shape.lsb + f.shape.width ≤ g.shape.lsb) ⊎ (g.shape.lsb + g.shape.width ≤ f.shape.lsb)
bits_apart c s i j f g at_i at_j other same =
    elim (cases_Bool (nat_lt i j)) [
      | inl before ↦ let lt : i < j = grind (arith, nat_tests) in (s.apart i j f g at_i at_j lt same).1
      | inr not_before ↦
          let lt : j < i = grind (arith, nat_tests) in
          elim ((s.apart j i g f at_j at_i lt (sym same)).1) [ inl ends ↦ inr ends | inr begins ↦ inl begins ]
    ]

-- ---- kinds and resets

get-front_two : (ks : List (List ℕ)) (x y : List ℕ) → take 2 ks ≡ x ∷ y ∷ [] → (slice_get ks 0 ≡ Some x) × (slice_get ks 1 ≡ Some y)
get-front_two ks x y h =
    (sym (get-take ks 0 2 (omega arith)) ∙ ap (λ (l : List (List ℕ)). slice_get l 0) h, sym (get-take ks 1 2 (omega arith)) ∙ ap (λ (l : List (List ℕ)). slice_get l 1) h)

-- kind 0 is HARD and kind 1 is SOFT
pub known_kinds : (c : ChipData) → IsSound c → (slice_get c.kinds 0 ≡ Some (codes "HARD")) × (slice_get c.kinds 1 ≡ Some (codes "SOFT"))
known_kinds c s = get-front_two c.kinds (codes "HARD") (codes "SOFT") s.known_kinds

value_among : (kind v : ℕ) (rs : List Reset) → value_for kind rs ≡ Some v → (k : ℕ) × (r : Reset) × (slice_get rs k ≡ Some r) × (r.kind ≡ kind) × (r.value ≡ v)
value_among kind v [] h = absurd (none-some v h)
value_among kind v (r ∷ rs) h =
    elim (cases_Bool (r.kind == kind)) [
      | inl here ↦
          let is : r.kind ≡ kind = grind (arith, nat_tests) in
          (0, r, refl, is, same_Some r.value v (rw here at h))
      | inr later ↦ let (k, q, at, is, value) = value_among kind v rs (rw later at h) in (suc k, q, at, is, value)
    ]

-- a reset value is below 2 to the power of the field's width
pub value_below : (c : ChipData) → IsSound c → (i : ℕ) (f : FieldSeen) (kind v : ℕ) → slice_get c.fields i ≡ Some f → value_for kind f.resets ≡ Some v → v < 2 ^ f.shape.width
value_below c s i f kind v at h =
    let (k, r, at_r, is, value) = value_among kind v f.resets h in
    omega (arith, value, (s.each_reset i f k r at at_r).1)

found : (rs : List Reset) (k : ℕ) (r : Reset) → ((j : ℕ) (q : Reset) → slice_get rs j ≡ Some q → q.kind ≡ r.kind → j ≡ k) → slice_get rs k ≡ Some r → value_for r.kind rs ≡ Some r.value
found [] k r alone at = absurd (none-some r at)
found (q ∷ rs) zero r alone at =
    let same : q ≡ r = same_Some q r at in
    let here : (q.kind == r.kind) ≡ true = (let is : q.kind ≡ r.kind = ap (λ (x : Reset). x.kind) same in grind (arith, nat_tests)) in
    rw here (ap (λ (x : Reset). Some x.value) same)
found (q ∷ rs) (suc k) r alone at =
    elim (cases_Bool (q.kind == r.kind)) [
      | inl here ↦
          let is : q.kind ≡ r.kind = grind (arith, nat_tests) in
          absurd (omega (arith, alone 0 q refl is))
      | inr later ↦ rw later (found rs k r (λ j x at_x is. (let less : j ≡ k = omega (arith, alone (suc j) x at_x is) in less)) at)
    ]

-- the value that a field has for a kind is that of its one reset of the kind
pub value_of_reset : (c : ChipData) → IsSound c → (i : ℕ) (f : FieldSeen) (k : ℕ) (r : Reset) → slice_get c.fields i ≡ Some f → slice_get f.resets k ≡ Some r → value_for r.kind f.resets ≡ Some r.value
value_of_reset c s i f k r at at_r = found f.resets k r (λ j q at_q is. s.one_value i f j k q r at at_q at_r is) at_r

-- The fields of a register, as a chip answers them.
use Rattle.std.proofs.Common.{◌≡◌, ℕ, zero, suc, ◌+◌, ◌-◌, ◌<◌, ◌≤◌, Bool, true, false, not, ◌&&◌, ◌||◌, eqb, eqb-true, length, Option, Some, None, option_map, refl, sym, ap, ◌∙◌, arith}
use Rattle.std.specs.Prelude.{slice_get, IsSomeAnd}
use Rattle.std.specs.List.{list_any, range_with_len}
use Rattle.std.specs.Option.{option_map_or}
use Rattle.std.proofs.lemmas.Option.{slice_get-get_or, slice_get_within}
use Rattle.rl_model.specs.declared.rows.Field.{Field}
use Rattle.rl_model.specs.declared.rows.RegRow.{RegRow}
use Rattle.rl_model.specs.Rows.{FieldSeen, ChipData}
use Rattle.rl_model.specs.Chip.{IsSound as IsSoundChip, IsFieldOf}
use Rattle.rl_split.specs.Narrow.{field_at, share_byte, has_neighbour}
use Rattle.rl_model.specs.Fields.{no_field, first_of, count_of}
use Rattle.rl_split.proofs.Policies.{field_fits}

-- a field of the chip
pub field_is : (c : ChipData) (n : ℕ) (f : Field) → n < length c.fields → option_map (λ (g : FieldSeen). g.shape) (slice_get c.fields n) ≡ Some f → f ≡ field_at c n
field_is c n f inside e =
    let same : Some f ≡ Some (field_at c n) = sym e ∙ ap (option_map (λ (g : FieldSeen). g.shape)) (slice_get-get_or c.fields n no_field inside) in
    cc

-- it lies in its register
pub record IsInside (c : ChipData) (f : Field) : Type 0 where
  pub row : RegRow
  pub row_is : slice_get c.regs f.reg ≡ Some row
  pub reg_in : f.reg < length c.regs
  pub some : 1 ≤ f.width
  pub inside : f.lsb + f.width ≤ 64
  pub last : row.first + row.count ≤ length c.fields

row_there : (c : ChipData) (n : ℕ) (o : Option RegRow) → IsSoundChip c → n < length c.fields → slice_get c.regs (field_at c n).reg ≡ o → IsSomeAnd o (IsFieldOf n (field_at c n)) →
    IsInside c (field_at c n)
row_there c n None sound l is h = absurd h
row_there c n (Some r) sound l is h =
    let fits = sound.each_reg (field_at c n).reg r is in
    record {
      row = r;
      row_is = is;
      reg_in = slice_get_within c.regs (field_at c n).reg r is;
      some = (field_fits c n no_field sound l).1;
      inside = omega (arith, h.2, fits.1);
      last = fits.2;
    }

pub field_inside : (c : ChipData) (n : ℕ) → IsSoundChip c → n < length c.fields → IsInside c (field_at c n)
field_inside c n sound l = row_there c n (slice_get c.regs (field_at c n).reg) sound l refl (field_fits c n no_field sound l).0

-- what a row that is there says is what is said of it
said_of : {X : Type 0} (f : X → ℕ) (o : Option X) (n : ℕ) → option_map f o ≡ Some n → n ≡ option_map_or f o 0
said_of f None n e = cc
said_of f (Some x) n e = cc

-- the numbers of a register's fields
pub first_is : (c : ChipData) (reg n : ℕ) → option_map (λ (r : RegRow). r.first) (slice_get c.regs reg) ≡ Some n → n ≡ first_of c reg
first_is c reg n e = said_of (λ (r : RegRow). r.first) (slice_get c.regs reg) n e

pub count_is : (c : ChipData) (reg n : ℕ) → option_map (λ (r : RegRow). r.count) (slice_get c.regs reg) ≡ Some n → n ≡ count_of c reg
count_is c reg n e = said_of (λ (r : RegRow). r.count) (slice_get c.regs reg) n e

-- ---- a test of numbers, one after another

or_false : (b : Bool) → (b || false) ≡ b
or_false true = refl
or_false false = refl

or_assoc : (a b c : Bool) → (a || (b || c)) ≡ ((a || b) || c)
or_assoc true b c = refl
or_assoc false b c = refl

any_push : (p : ℕ → Bool) (a n : ℕ) → list_any p (range_with_len a (suc n)) ≡ (list_any p (range_with_len a n) || p (a + n))
any_push p a zero = let same : a ≡ a + 0 = omega arith in or_false (p a) ∙ ap p same
any_push p a (suc n) =
    let same : a + 1 + n ≡ a + suc n = omega arith in
    ap (λ t. p a || t) (any_push p (a + 1) n) ∙ or_assoc (p a) (list_any p (range_with_len (a + 1) n)) (p (a + 1 + n)) ∙ ap (λ k. (p a || list_any p (range_with_len (a + 1) n)) || p k) same

-- one that passes
any_there : (p : ℕ → Bool) (a n k : ℕ) → k < n → p (a + k) ≡ true → list_any p (range_with_len a n) ≡ true
any_there p a zero k l e = absurd (omega (arith, l))
any_there p a (suc n) zero l e = let same : a ≡ a + 0 = omega arith in ap (λ k. p k || list_any p (range_with_len (a + 1) n)) same ∙ ap (λ t. t || list_any p (range_with_len (a + 1) n)) e
any_there p a (suc n) (suc k) l e =
    let same : a + 1 + k ≡ a + suc k = omega arith in
    ap (λ t. p a || t) (any_there p (a + 1) n k (omega (arith, l)) (ap p same ∙ e)) ∙ or_true (p a)
  where
    or_true : (b : Bool) → (b || true) ≡ true
    or_true true = refl
    or_true false = refl

abbrev pub is_neighbour : ChipData → ℕ → ℕ → Bool
is_neighbour c field n = not (eqb n field) && share_byte (field_at c n) (field_at c field)

pub neighbour_found : (c : ChipData) (field other first count : ℕ) → first ≡ first_of c (field_at c field).reg → count ≡ count_of c (field_at c field).reg → first ≤ other → other < first + count →
    (other ≡ field → ⊥) → share_byte (field_at c other) (field_at c field) ≡ true → true ≡ has_neighbour c field
neighbour_found c field other first count f n low high differs shares =
    let k = other - first in
    let same : first_of c (field_at c field).reg + k ≡ other = omega (arith, f, low) in
    sym (any_there (is_neighbour c field) (first_of c (field_at c field).reg) (count_of c (field_at c field).reg) k (omega (arith, f, n, low, high))
    (ap (is_neighbour c field) same ∙ ap (λ t. not t && share_byte (field_at c other) (field_at c field)) (not_same other field differs) ∙ shares))
  where
    not_same : (a b : ℕ) → (a ≡ b → ⊥) → eqb a b ≡ false
    not_same a b h = by (eqb a b) refl
      where
        by : (t : Bool) → eqb a b ≡ t → t ≡ false
        by true e = absurd (h (eqb-true a b e))
        by false e = refl

pub none_further : (p : ℕ → Bool) (first other : ℕ) → first ≤ other → list_any p (range_with_len first (other - first)) ≡ false → p other ≡ false →
    list_any p (range_with_len first (other + 1 - first)) ≡ false
none_further p first other low none e =
    let n = other - first in
    let more : other + 1 - first ≡ suc n = omega (arith, low) in
    let same : first + n ≡ other = omega (arith, low) in
    ap (λ m. list_any p (range_with_len first m)) more ∙ any_push p first n ∙ ap (λ t. t || p (first + n)) none ∙ ap p same ∙ e

pub none_neighbour : (c : ChipData) (field first count : ℕ) → first ≡ first_of c (field_at c field).reg → count ≡ count_of c (field_at c field).reg →
    list_any (is_neighbour c field) (range_with_len first count) ≡ false → false ≡ has_neighbour c field
none_neighbour c field first count f n none = sym none ∙ ap (λ m. list_any (is_neighbour c field) (range_with_len m count)) f ∙ ap (λ m. list_any (is_neighbour c field) (range_with_len (first_of c
    (field_at c field).reg) m)) n

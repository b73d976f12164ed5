-- The fields of a register of a chip.
use Rattle.std.proofs.Common.{◌≡◌, ◌⊎◌, ℕ, ◌+◌, ◌*◌, ◌<◌, ◌≤◌, ◌-◌, ◌^◌, true, false, length, drop, slice_get, Option, Some, None, option_map, IsSomeAnd, refl, sym, ap, ◌∙◌, inl, inr, arith}
use Rattle.std.proofs.Common.{length-take-le, length-drop}
use Rattle.std.specs.Prelude.{nat_le, nat_lt}
use Rattle.std.specs.List.{list_any}
use Rattle.std.specs.Option.{option_map_or}
use Rattle.std.proofs.lemmas.Bool.{leb-true, ltb-true, and_parts, cases_order}
use Rattle.std.proofs.lemmas.List.{get_or-take, get_or-drop}
use Rattle.std.proofs.lemmas.Option.{slice_get_cases, slice_get-get_or, slice_get_within}
use Rattle.rl_model.specs.declared.rows.Field.{Field}
use Rattle.rl_model.specs.declared.rows.RegRow.{RegRow}
use Rattle.rl_model.specs.Rows.{FieldSeen, ChipData}
use Rattle.rl_model.specs.Chip.{IsSound, IsFieldOf}
use Rattle.rl_model.specs.Fields.{no_field, field_of, first_of, count_of, size_of, fields_of, field_in, covers}
use Rattle.rl_mirror.proofs.PlaceLemmas.{IsFieldList}

-- the row of a register
pub record HasRow (c : ChipData) (reg : ℕ) (r : RegRow) : Type 0 where
  pub at : slice_get c.regs reg ≡ Some r
  pub first : first_of c reg ≡ r.first
  pub count : count_of c reg ≡ r.count
  pub size : size_of c reg ≡ r.bytes

has_row : (c : ChipData) (reg : ℕ) (r : RegRow) → slice_get c.regs reg ≡ Some r → HasRow c reg r
has_row c reg r at = record {
  at = at;
  first = ap (λ (o : Option RegRow). option_map_or (λ r. r.first) o 0) at;
  count = ap (λ (o : Option RegRow). option_map_or (λ r. r.count) o 0) at;
  size = ap (λ (o : Option RegRow). option_map_or (λ r. r.bytes) o 0) at;
}

pub row_of : (c : ChipData) (reg : ℕ) → reg < length c.regs → (r : RegRow) × HasRow c reg r
row_of c reg l =
    elim (slice_get_cases c.regs reg).1 [
      | inl (r, within, at, same) ↦ (r, has_row c reg r at)
      | inr (past, none) ↦ absurd (omega arith)
    ]

-- what an accessor answers of the row
pub row_answer : (c : ChipData) (reg n : ℕ) (get : RegRow → ℕ) → option_map get (slice_get c.regs reg) ≡ Some n → option_map_or get (slice_get c.regs reg) 0 ≡ n
row_answer c reg n get is = by (slice_get c.regs reg) is
  where
    by : (o : Option RegRow) → option_map get o ≡ Some n → option_map_or get o 0 ≡ n
    by (Some r) e = cc
    by None e = cc

-- the fields stand within those of the chip
pub fields_within : (c : ChipData) (reg : ℕ) → IsSound c → reg < length c.regs → first_of c reg + count_of c reg ≤ length c.fields
fields_within c reg sound l =
    let (r, row) = row_of c reg l in
    let fits = sound.each_reg reg r row.at in
    rw (row.first, row.count) fits.2

pub length-fields_of : (c : ChipData) (reg : ℕ) → IsSound c → reg < length c.regs → length (fields_of c reg) ≡ count_of c reg
unfolding fields_of
length-fields_of c reg sound l =
    let within = fields_within c reg sound l in
    let rest : length (drop (first_of c reg) c.fields) ≡ length c.fields - first_of c reg = length-drop (first_of c reg) c.fields in
    length-take-le (count_of c reg) (drop (first_of c reg) c.fields) (omega (arith, rest, within))

-- the field at a place is the field of its number
pub field_in-fields_of : (c : ChipData) (reg k : ℕ) → IsSound c → reg < length c.regs → k < length (fields_of c reg) → field_in (fields_of c reg) k ≡ field_of c (first_of c reg + k)
unfolding fields_of
field_in-fields_of c reg k sound l place =
    let long : length (fields_of c reg) ≡ count_of c reg = length-fields_of c reg sound l in
    get_or-take (count_of c reg) (drop (first_of c reg) c.fields) k no_field (omega (arith, long, place))
    ∙ get_or-drop (first_of c reg) c.fields k no_field

pub number_within : (c : ChipData) (reg k : ℕ) → IsSound c → reg < length c.regs → k < length (fields_of c reg) → first_of c reg + k < length c.fields
number_within c reg k sound l place =
    let long : length (fields_of c reg) ≡ count_of c reg = length-fields_of c reg sound l in
    let within : first_of c reg + count_of c reg ≤ length c.fields = fields_within c reg sound l in
    omega arith

-- where a field stands
pub record IsSeatedIn (c : ChipData) (n : ℕ) : Type 0 where
  pub reg : (field_of c n).shape.reg < length c.regs
  pub first : first_of c (field_of c n).shape.reg ≤ n
  pub last : n < first_of c (field_of c n).shape.reg + count_of c (field_of c n).shape.reg
  pub some : 1 ≤ (field_of c n).shape.width
  pub inside : (field_of c n).shape.lsb + (field_of c n).shape.width ≤ 8 * size_of c (field_of c n).shape.reg
  pub bytes : size_of c (field_of c n).shape.reg ≤ 8
  pub resets : list_any (λ r. nat_le (2 ^ (field_of c n).shape.width) r.value) (field_of c n).resets ≡ false

some_is : {X : Type 0} (o : Option X) (P : X → Type 0) → IsSomeAnd o P → (x : X) × (o ≡ Some x) × P x
some_is None P h = absurd h
some_is (Some x) P h = (x, refl, h)

pub seated : (c : ChipData) (n : ℕ) → IsSound c → n < length c.fields → IsSeatedIn c n
seated c n sound l =
    let at : slice_get c.fields n ≡ Some (field_of c n) = slice_get-get_or c.fields n no_field l in
    let fits = sound.each_field n (field_of c n) at in
    let (r, at_reg, own) = some_is (slice_get c.regs (field_of c n).shape.reg) (IsFieldOf n (field_of c n).shape) fits.0 in
    let row = has_row c (field_of c n).shape.reg r at_reg in
    let reg_fits = sound.each_reg (field_of c n).shape.reg r at_reg in
    record {
      reg = slice_get_within c.regs (field_of c n).shape.reg r at_reg;
      first = rw row.first own.0;
      last = rw (row.first, row.count) own.1;
      some = fits.1;
      inside = rw row.size own.2;
      bytes = rw row.size reg_fits.1;
      resets = fits.3;
    }

-- a field that stands among those of a register is that register's
pub owner_is : (c : ChipData) (reg n : ℕ) → IsSound c → reg < length c.regs → first_of c reg ≤ n → n < first_of c reg + count_of c reg → (field_of c n).shape.reg ≡ reg
owner_is c reg n sound l from before =
    let (r, row) = row_of c reg l in
    let within : first_of c reg + count_of c reg ≤ length c.fields = fields_within c reg sound l in
    let at : slice_get c.fields n ≡ Some (field_of c n) = slice_get-get_or c.fields n no_field (omega arith) in
    let first : first_of c reg ≡ r.first = row.first in
    let count : count_of c reg ≡ r.count = row.count in
    sound.owned reg n r (field_of c n) row.at at (omega arith) (omega arith)

-- two fields of a register share no bit
shares_none : (f g : Field) (b : ℕ) → covers f b ≡ true → covers g b ≡ true → ((f.lsb + f.width ≤ g.lsb) ⊎ (g.lsb + g.width ≤ f.lsb)) → ⊥
shares_none f g b in_f in_g apart =
    let (f_from, f_to) = and_parts (nat_le f.lsb b) (nat_lt b (f.lsb + f.width)) in_f in
    let (g_from, g_to) = and_parts (nat_le g.lsb b) (nat_lt b (g.lsb + g.width)) in_g in
    let a : f.lsb ≤ b = leb-true f.lsb b f_from in
    let z : b < f.lsb + f.width = ltb-true b (f.lsb + f.width) f_to in
    let p : g.lsb ≤ b = leb-true g.lsb b g_from in
    let q : b < g.lsb + g.width = ltb-true b (g.lsb + g.width) g_to in
    elim apart [ inl h ↦ omega arith | inr h ↦ omega arith ]

-- fields of one register by their numbers
apart_numbers : (c : ChipData) (i j : ℕ) → IsSound c → i < length c.fields → j < length c.fields → i < j → (field_of c i).shape.reg ≡ (field_of c j).shape.reg
    → ((field_of c i).shape.lsb + (field_of c i).shape.width ≤ (field_of c j).shape.lsb) ⊎ ((field_of c j).shape.lsb + (field_of c j).shape.width ≤ (field_of c i).shape.lsb)
apart_numbers c i j sound li lj before same =
    (sound.apart i j (field_of c i) (field_of c j) (slice_get-get_or c.fields i no_field li) (slice_get-get_or c.fields j no_field lj) before same).1

pub apart_fields : (c : ChipData) (i j b : ℕ) → IsSound c → i < length c.fields → j < length c.fields → (field_of c i).shape.reg ≡ (field_of c j).shape.reg
    → covers (field_of c i).shape b ≡ true → covers (field_of c j).shape b ≡ true → i ≡ j
apart_fields c i j b sound li lj same in_i in_j =
    elim (cases_order i j) [
      | inl e ↦ e
      | inr (inl before) ↦ absurd (shares_none (field_of c i).shape (field_of c j).shape b in_i in_j (apart_numbers c i j sound li lj before same))
      | inr (inr after) ↦ absurd (shares_none (field_of c j).shape (field_of c i).shape b in_j in_i (apart_numbers c j i sound lj li after (sym same)))
    ]

-- the fields of a register are a list of fields that share no bit
pub field_list : (c : ChipData) (reg : ℕ) → IsSound c → reg < length c.regs → IsFieldList (8 * size_of c reg) (fields_of c reg)
field_list c reg sound l = record {
  few = few;
  most = most;
  some = some;
  inside = inside;
  apart = apart;
}
  where
    long : length (fields_of c reg) ≡ count_of c reg
    long = length-fields_of c reg sound l

    within : (k : ℕ) → k < length (fields_of c reg) → first_of c reg + k < length c.fields
    within k place = number_within c reg k sound l place

    seat : (k : ℕ) → k < length (fields_of c reg) → IsSeatedIn c (first_of c reg + k)
    seat k place = seated c (first_of c reg + k) sound (within k place)

    own : (k : ℕ) → k < length (fields_of c reg) → (field_of c (first_of c reg + k)).shape.reg ≡ reg
    own k place = owner_is c reg (first_of c reg + k) sound l (omega arith) (omega (arith, long, place))

    some : (k : ℕ) → k < length (fields_of c reg) → 1 ≤ (field_in (fields_of c reg) k).shape.width
    some k place = rw (field_in-fields_of c reg k sound l place) (seat k place).some

    inside : (k : ℕ) → k < length (fields_of c reg) → (field_in (fields_of c reg) k).shape.lsb + (field_in (fields_of c reg) k).shape.width ≤ 8 * size_of c reg
    inside k place = rw (field_in-fields_of c reg k sound l place) (rw (own k place) at ((seat k place).inside))

    apart : (i j b : ℕ) → i < length (fields_of c reg) → j < length (fields_of c reg) → covers (field_in (fields_of c reg) i).shape b ≡ true → covers (field_in (fields_of c reg) j).shape b ≡ true →
        i ≡ j
    apart i j b li lj in_i in_j =
        let e : first_of c reg + i ≡ first_of c reg + j = apart_fields c (first_of c reg + i) (first_of c reg + j) b sound (within i li) (within j lj) (own i li ∙ sym (own j lj))
        (rw (field_in-fields_of c reg i sound l li) at in_i) (rw (field_in-fields_of c reg j sound l lj) at in_j) in
        omega (arith, e)

    few : length (fields_of c reg) ≤ 64
    few =
        let (r, row) = row_of c reg l in
        let count : count_of c reg ≡ r.count = row.count in
        omega (arith, long, sound.few_fields reg r row.at)

    most : 8 * size_of c reg ≤ 64
    most =
        let (r, row) = row_of c reg l in
        let fits = sound.each_reg reg r row.at in
        let bytes : r.bytes ≤ 8 = fits.1 in
        let size : size_of c reg ≡ r.bytes = row.size in
        omega arith

-- what an accessor answers of a field
pub field_answer : (c : ChipData) (n : ℕ) (f : Field) → n < length c.fields → option_map (λ f. f.shape) (slice_get c.fields n) ≡ Some f → f ≡ (field_of c n).shape
field_answer c n f l is =
    let at : slice_get c.fields n ≡ Some (field_of c n) = slice_get-get_or c.fields n no_field l in
    let both : Some (field_of c n).shape ≡ Some f = ap (option_map (λ (g : FieldSeen). g.shape)) (sym at) ∙ is in
    cc

-- ---- what the code answers of a register's fields

-- their count, from the row's
pub count_is : (c : ChipData) (reg n : ℕ) → IsSound c → reg < length c.regs → option_map (λ r. r.count) (slice_get c.regs reg) ≡ Some n → n ≡ length (fields_of c reg)
count_is c reg n sound l is = sym (length-fields_of c reg sound l ∙ row_answer c reg n (λ r. r.count) is)

-- the number of the k-th one, from the first one's
pub record IsNumbered (c : ChipData) (reg k first : ℕ) : Type 0 where
  pub number : first + k ≡ first_of c reg + k
  pub within : first + k < length c.fields
  pub fits : first + k < 2 ^ 32

pub numbered : (c : ChipData) (reg k first : ℕ) → IsSound c → reg < length c.regs → k < length (fields_of c reg) → option_map (λ r. r.first) (slice_get c.regs reg) ≡ Some first
    → IsNumbered c reg k first
numbered c reg k first sound l place is =
    let at : first_of c reg ≡ first = row_answer c reg first (λ r. r.first) is in
    let within : first_of c reg + k < length c.fields = number_within c reg k sound l place in
    record { number = omega arith; within = omega arith; fits = omega (arith, sound.fields) }

-- the k-th one, from the field of its number
pub record IsFieldAt (c : ChipData) (reg k : ℕ) (f : Field) : Type 0 where
  pub field : f ≡ (field_in (fields_of c reg) k).shape
  pub some : 1 ≤ f.width
  pub inside : f.lsb + f.width ≤ 64

pub field_at_is : (c : ChipData) (reg k n : ℕ) (f : Field) → IsSound c → reg < length c.regs → k < length (fields_of c reg) → n ≡ first_of c reg + k → n < length c.fields
    → option_map (λ f. f.shape) (slice_get c.fields n) ≡ Some f → IsFieldAt c reg k f
field_at_is c reg k n f sound l place number within answer =
    let list = field_list c reg sound l in
    let is : f ≡ (field_in (fields_of c reg) k).shape =
    field_answer c n f within answer ∙ ap (λ n. (field_of c n).shape) number ∙ ap (λ (f : FieldSeen). f.shape) (sym (field_in-fields_of c reg k sound l place)) in
    record { field = is; some = rw is (list.some k place); inside = rw is (omega (arith, list.inside k place, list.most)) }

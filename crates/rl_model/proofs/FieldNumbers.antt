-- The fields of the registers follow one another, and each register has few.
use Rattle.std.proofs.Common.{◌≡◌, ℕ, zero, suc, ◌+◌, ◌*◌, ◌≤◌, false, ◌||◌, nat_lt, List, [], ◌∷◌, ◌++◌, length, length-append, map, take, slice_get, sum_by, Some, None, refl, sym, ap, ◌∙◌, arith}
use Rattle.std.proofs.lemmas.Bool.Decides.{nat_tests}
use Rattle.std.proofs.lemmas.Option.{none-some, same_Some}
use Rattle.std.proofs.lemmas.List.{length-map}
use Rattle.std.proofs.lemmas.List.Sums.{sum_by-cons}
use Rattle.rl_model.specs.declared.fault.Array.TheVariants as array
use Rattle.rl_model.specs.declared.rows.RegRow.{RegRow}
use Rattle.rl_model.specs.Data.{RegData}
use Rattle.rl_model.specs.Rules.{row_of, kinds_after, reg_path, regs_fault, fields_fault}
use Rattle.rl_model.specs.Build.{field_seen, all_fields, reg_seen, regs_seen}
use Rattle.rl_model.proofs.SoundLemmas.{each_field, regs_step}
use Rattle.rl_model.proofs.FewFields.{AreOwn, few_own}

few_fields : (i : ℕ) (r : RegData) (kinds : List (List ℕ)) → fields_fault (row_of array.Reg i) r 0 kinds r.fields ≡ None → r.bytes ≤ 8 → length r.fields ≤ 64
few_fields i r kinds h bytes =
    let own : AreOwn (8 * r.bytes) r.fields (length r.fields) = λ k lt f at.
    let fits = each_field (row_of array.Reg i) r 0 kinds r.fields k f h at k (omega arith) in
    (fits.low, fits.inside, fits.apart) in
    omega (arith, few_own (8 * r.bytes) r.fields (length r.fields) own (omega arith))

pub few_each : (reg first scopes : ℕ) (paths kinds : List (List ℕ)) (rs : List RegData) (n : ℕ) (a : RegRow) → regs_fault reg scopes paths kinds rs ≡ None → slice_get (regs_seen first rs) n ≡ Some a
    → a.count ≤ 64
few_each reg first scopes paths kinds [] n a h at = absurd (none-some a at)
few_each reg first scopes paths kinds (r ∷ rs) zero a h at =
    let step = regs_step reg scopes paths kinds r rs h in
    let wide : (nat_lt r.bytes 1 || nat_lt 8 r.bytes) ≡ false = step.1 in
    let bytes : r.bytes ≤ 8 = grind (arith, nat_tests) in
    let few = few_fields reg r kinds step.0 bytes in
    rw (← same_Some _ _ at) few
few_each reg first scopes paths kinds (r ∷ rs) (suc n) a h at =
    few_each (reg + 1) (first + length r.fields) scopes (paths ++ reg_path r ∷ []) (kinds_after kinds r.fields) rs n a (regs_step reg scopes paths kinds r rs h).2 at

abbrev pub count_of : RegRow → ℕ
count_of r = r.count

-- the first field of a register comes after those of the registers before it
pub first_after : (first : ℕ) (rs : List RegData) (n : ℕ) (a : RegRow) → slice_get (regs_seen first rs) n ≡ Some a → a.first ≡ first + sum_by count_of (take n (regs_seen first rs))
first_after first [] n a at = absurd (none-some a at)
first_after first (r ∷ rs) zero a at = ap (λ (b : RegRow). b.first) (sym (same_Some _ _ at)) ∙ (let plain : first ≡ first + 0 = omega arith in plain)
first_after first (r ∷ rs) (suc n) a at =
    omega (arith, first_after (first + length r.fields) rs n a at, sum_by-cons count_of (reg_seen first r) (take n (regs_seen (first + length r.fields) rs)))

pub length-all_fields : (reg first : ℕ) (all : List (List ℕ)) (rs : List RegData) → length (all_fields reg all rs) ≡ sum_by count_of (regs_seen first rs)
length-all_fields reg first all [] = refl
length-all_fields reg first all (r ∷ rs) =
    omega (
      arith,
      length-append (map (field_seen reg all) r.fields) (all_fields (reg + 1) all rs),
      length-map r.fields (field_seen reg all),
      length-all_fields (reg + 1) (first + length r.fields) all rs,
      sum_by-cons count_of (reg_seen first r) (regs_seen (first + length r.fields) rs),
    )

pub sum_few : (rows : List RegRow) → ((n : ℕ) (a : RegRow) → slice_get rows n ≡ Some a → a.count ≤ 64) → sum_by count_of rows ≤ 64 * length rows
sum_few [] few = omega arith
sum_few (a ∷ rows) few =
    omega (arith, few 0 a refl, sum_few rows (λ n b at. few (suc n) b at), sum_by-cons count_of a rows)

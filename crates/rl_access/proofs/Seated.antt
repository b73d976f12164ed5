-- Where a field lies in its register.
use Rattle.std.proofs.Common.{◌≡◌, ℕ, ◌+◌, ◌<◌, ◌≤◌, length, slice_get, Option, None, Some, IsSomeAnd, option_map, refl, sym, ap, subst, arith}
use Rattle.std.specs.Option.{option_map_or}
use Rattle.std.proofs.lemmas.Option.{slice_get-get_or}
use Rattle.rl_model.specs.declared.rows.Field.{Field}
use Rattle.rl_model.specs.declared.rows.RegRow.{RegRow}
use Rattle.rl_model.specs.Rows.{ChipData}
use Rattle.rl_model.specs.Chip.{IsSound, IsFieldOf}
use Rattle.rl_model.specs.Fields.{field_of, no_field, first_of, size_of}
use Rattle.rl_access.specs.Access.{IsFieldIn}
use Rattle.rl_access.specs.Operation.{reg_of}

pub record IsSeated (c : ChipData) (field : ℕ) (bytes first : ℕ) : Type 0 where
  pub within : IsFieldIn bytes (field_of c field).shape
  pub from : first ≤ field
  pub few : field < first + 64

by_row : (c : ChipData) (field n : ℕ) (o : Option RegRow) → IsSound c → slice_get c.regs n ≡ o → IsSomeAnd o (IsFieldOf field (field_of c field).shape) → 1 ≤ (field_of c field).shape.width
    → IsSeated c field (option_map_or (λ r. r.bytes) o 0) (option_map_or (λ r. r.first) o 0)
by_row c field n None ok e h some = absurd h
by_row c field n (Some r) ok e h some =
    let fits = ok.each_reg n r e in
    let few = ok.few_fields n r e in
    record { within = record { some = some; inside = h.2; most = fits.1 }; from = h.0; few = omega arith }

pub seated : (c : ChipData) (field : ℕ) → IsSound c → field < length c.fields → IsSeated c field (size_of c (reg_of c field)) (first_of c (reg_of c field))
seated c field ok inside =
    let fits = ok.each_field field (field_of c field) (slice_get-get_or c.fields field no_field inside) in
    by_row c field (reg_of c field) (slice_get c.regs (reg_of c field)) ok refl fits.0 fits.1

-- what a chip answers for a field
pub shape_is : (c : ChipData) (field : ℕ) (shape : Field) → field < length c.fields → option_map (λ f. f.shape) (slice_get c.fields field) ≡ Some shape → shape ≡ (field_of c field).shape
shape_is c field shape inside e =
    let here : option_map (λ f. f.shape) (slice_get c.fields field) ≡ Some (field_of c field).shape = ap (option_map (λ f. f.shape)) (slice_get-get_or c.fields field no_field inside) in
    cc

pub field_in : (c : ChipData) (field : ℕ) (shape : Field) → IsSound c → field < length c.fields → shape ≡ (field_of c field).shape → IsFieldIn (size_of c shape.reg) shape
field_in c field shape ok inside e = subst (λ (f : Field). IsFieldIn (size_of c f.reg) f) (sym e) (seated c field ok inside).within

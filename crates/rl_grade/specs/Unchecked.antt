-- Flaws that no check can find: each field that they could change is compared by none.
use Rattle.std.specs.Prelude.{ℕ, ◌==◌, ◌&&◌, ◌||◌, not, Bool, true, false}
use Rattle.std.specs.List.{list_all, range_with_len}
use Rattle.std.specs.Option.{option_map_or}
use Rattle.rl_policy.specs.declared.policy.Policy.{Policy}
use Rattle.rl_policy.specs.declared.policy.Policy.TheVariants.{Ro, Rc, Rs}
use Rattle.rl_model.specs.Fields.{count_of, field_of, first_of}
use Rattle.rl_model.specs.Rows.{ChipData}
use Rattle.rl_mirror.specs.Compared.{is_compared}
use Rattle.rl_flaw.specs.declared.flaw.Flaw.{Flaw}
use Rattle.rl_flaw.specs.declared.flaw.Flaw.TheVariants.{OtherPolicy, OtherReset, Stuck}
use Rattle.rl_grade.specs.Registers.{register_with}

-- no write changes a bit of the policy
abbrev pub keeps_all : Policy → Bool
keeps_all Ro = true
keeps_all Rc = true
keeps_all Rs = true
keeps_all _ = false

-- of the fields of its register, the flaw could change this one
abbrev pub is_changed : ChipData → Flaw → (field : ℕ) → Bool
is_changed c (Stuck f bit value) n = f == n
is_changed c (OtherReset f kind value) n = f == n
is_changed c (OtherPolicy f policy) n = f == n
is_changed c _ n = not (keeps_all (field_of c n).shape.policy)

-- Each check finds the field as it is believed: no check compares it, or neither the flaw nor the hardware changes it.
abbrev pub is_passed : ChipData → Flaw → (field : ℕ) → Bool
is_passed c flaw n =
    let f = (field_of c n).shape in
    not (is_compared f) || (not (is_changed c flaw n) && not f.volatile)

abbrev pub are_passed : ChipData → Flaw → (reg : ℕ) → Bool
are_passed c flaw reg = list_all (is_passed c flaw) (range_with_len (first_of c reg) (count_of c reg))

-- so it is with each field of the flaw's register
abbrev pub is_unchecked : ChipData → Flaw → Bool
is_unchecked c flaw = option_map_or (are_passed c flaw) (register_with c flaw) false

-- The register that a flaw is of.
use Rattle.std.specs.Prelude.{ℕ, Option, Some, None}
use Rattle.rl_model.specs.Rows.{ChipData}
use Rattle.rl_model.specs.declared.rows.Item.TheVariants.{Reg, Mem}
use Rattle.rl_access.specs.Operation.{reg_of}
use Rattle.rl_flaw.specs.declared.flaw.Flaw.{Flaw}
use Rattle.rl_flaw.specs.declared.flaw.Flaw.TheVariants.{Deaf, ErrorNth, ErrorRange, OtherPolicy, OtherReset, Stuck}

-- none where it is of a memory, of an address or of an item
abbrev pub register_with : ChipData → Flaw → Option ℕ
register_with c (Stuck field bit value) = Some (reg_of c field)
register_with c (OtherReset field kind value) = Some (reg_of c field)
register_with c (OtherPolicy field policy) = Some (reg_of c field)
register_with c (Deaf (Reg reg)) = Some reg
register_with c (Deaf (Mem mem)) = None
register_with c (ErrorRange port from to) = None
register_with c (ErrorNth nth) = None

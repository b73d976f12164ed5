-- What the crates below show of the plain machine, and of names.
use Rattle.rl_plain.proofs.FirstOnes.{first_ones_are_plain}
use Rattle.rl_plain.proofs.Machines.{call_is_plain, call_keeps_model}
use Rattle.rl_report.proofs.BuiltNames.{built_ones_have_names}
use Rattle.rl_session_laws.proofs.PlainSession.{HaveLaws}

pub laws : HaveLaws
laws = record { calls = call_is_plain; keeps = call_keeps_model; first = first_ones_are_plain; names = built_ones_have_names }

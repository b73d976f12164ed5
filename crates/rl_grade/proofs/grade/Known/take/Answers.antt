use Rattle.std.proofs.Common.{sym}
use Rattle.rl_grade.proofs.Sameness.{same_flaw}
use Rattle.rl_grade.proofs.grade.Known.take.Goals as goal

pub returns-clause-flaw : goal.returns-clause-flaw
returns-clause-flaw c = same_flaw c.in_ok-it.it.flaw c.args.flaw (sym c.if-not-is_same_flaw.ensures)

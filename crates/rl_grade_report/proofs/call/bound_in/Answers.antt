use Rattle.std.proofs.Common.{arith}
use Rattle.rl_grade_report.proofs.WordLemmas.{no_bound, one_word}
use Rattle.rl_grade_report.proofs.call.bound_in.Goals as goal

pub returns-in_default : goal.returns-in_default
returns-in_default c = one_word c.args.words.now (omega (arith, c.in_default.len_at_least)) (omega (arith, c.in_default.len_below))

pub returns-in_default-2 : goal.returns-in_default-2
returns-in_default-2 c = no_bound c.args.words.now (omega (arith, c.in_default.len_at_least))

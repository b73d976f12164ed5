use Rattle.rl_vcd.proofs.LabelLemmas.{line_found, line_all}
use Rattle.rl_vcd.proofs.label.first_line.Goals as goal

pub returns-in-Some : goal.returns-in-Some
returns-in-Some c = line_found _ _ _ c.in-Some.is c.memchr.ensures

pub returns-in-None : goal.returns-in-None
returns-in-None c = line_all _ _ c.in-None.is c.memchr.ensures

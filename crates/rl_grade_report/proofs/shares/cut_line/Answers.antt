use Rattle.std.proofs.Common.{◌+◌, ◌∙◌}
use Rattle.std.proofs.lemmas.List.{take_rest}
use Rattle.rl_report.proofs.LineLemmas.{line_behind, line_front}
use Rattle.rl_grade_report.proofs.AddLemmas.{line_all, line_found}
use Rattle.rl_grade_report.proofs.shares.cut_line.Goals as goal

pub returns-in-Some-clause-line : goal.returns-in-Some-clause-line
returns-in-Some-clause-line c =
    let at = line_found c.args.text.now c.in-Some.size c.in-Some.ensures.place in line_front c.args.text.now c.in-Some.size at

pub returns-in-Some-clause-behind : goal.returns-in-Some-clause-behind
returns-in-Some-clause-behind c =
    let at = line_found c.args.text.now c.in-Some.size c.in-Some.ensures.place in
    take_rest c.args.text.now (c.in-Some.size + 1) ∙ line_behind c.args.text.now c.in-Some.size at

pub returns-in-None-clause-line : goal.returns-in-None-clause-line
returns-in-None-clause-line c = (line_all c.args.text.now c.in-None.ensures.place).0

pub returns-in-None-clause-behind : goal.returns-in-None-clause-behind
returns-in-None-clause-behind c = (line_all c.args.text.now c.in-None.ensures.place).1

use Rattle.rl_grade_report.proofs.Flaws.{flaws_are}
use Rattle.rl_grade_report.proofs.line.push_said.Goals as goal

pub push_groups-requires : goal.push_groups-requires
push_groups-requires c =
    rw (c.deref.ensures.value, c.in_ok-flaws.ensures) (flaws_are c.args.chip.now c.args.layout.now c.args.verdict c.args.judged.now c.requires)

use Rattle.rl_grade_report.proofs.PlaceLemmas.{places_there}
use Rattle.rl_grade_report.proofs.places.places_of.Goals as goal

pub returns-clause-each : goal.returns-clause-each
returns-clause-each c =
    rw (c.in_ok-push.ensures.items, c.in_ok-push_mems.ensures, c.mems.ensures.count, c.in_ok-push_regs.ensures, c.new-places.ensures.items)
    (places_there c.args.chip.now c.mems.ensures.sound)

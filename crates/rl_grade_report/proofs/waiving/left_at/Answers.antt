use Rattle.std.proofs.Common.{sym, ◌∙◌}
use Rattle.rl_grade_report.proofs.WaiverLemmas.{left_more, unknown_none}
use Rattle.rl_grade_report.proofs.waiving.left_at.Goals as goal

pub loop-place-init : goal.loop-place-init
loop-place-init c = sym (unknown_none c.args.desc.now c.args.rows.items)

pub loop-place-preserved : goal.loop-place-preserved
loop-place-preserved c =
    rw (c.deref.ensures.value, c.in_ok-flaws.ensures.flaws, c.loop-place.invariant) at c.in_ok-left.ensures
    ∙ left_more c.args.desc.now c.args.items c.args.places.now c.loop-place.place-index _ c.args.rows.items c.loop-place-test.true

use Rattle.std.proofs.Common.{sym, ◌∙◌}
use Rattle.rl_grade_report.proofs.WaiverLemmas.{unknown_more, unknown_none}
use Rattle.rl_grade_report.proofs.waiving.unknown_among.Goals as goal

pub loop-flaw-init : goal.loop-flaw-init
loop-flaw-init c = sym (unknown_none c.args.desc.now c.args.rows.items)

pub loop-flaw-preserved : goal.loop-flaw-preserved
loop-flaw-preserved c =
    rw (c.deref.ensures.value, c.in_ok-text.ensures, c.loop-flaw.invariant) at c.take_out.ensures
    ∙ unknown_more c.args.desc.now c.args.flaws.now c.loop-flaw.flaw-index _ c.args.rows.items c.loop-flaw-test.true

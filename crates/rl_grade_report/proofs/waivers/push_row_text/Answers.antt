use Rattle.std.proofs.Common.{sym, ◌∙◌}
use Rattle.rl_grade_report.proofs.WaiverLemmas.{all_there, no_text, text_goes_on, text_stops}
use Rattle.rl_grade_report.proofs.waivers.push_row_text.Goals as goal

pub returns-then-not-goes_on : goal.returns-then-not-goes_on
returns-then-not-goes_on c =
    all_there _ _ _ (text_stops _ _ _ c.in-Some.ensures.lines (sym c.goes_on.ensures ∙ c.if-not-goes_on.true)) c.loop-line.invariant

pub loop-line-preserved : goal.loop-line-preserved
loop-line-preserved c =
    text_goes_on _ _ _ c.in-Some.ensures.lines _ _ _ (sym c.goes_on.ensures ∙ c.if-not-goes_on.false) c.in_ok-push_ended.ensures
    c.loop-line.invariant

pub returns : goal.returns
returns c = all_there _ _ _ (no_text _ c.in_default.ensures.lines) c.loop-line.invariant

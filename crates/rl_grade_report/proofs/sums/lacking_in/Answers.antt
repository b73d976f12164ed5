use Rattle.std.proofs.Common.{◌≡◌, ◌+◌, not, false, sym, ap, ◌∙◌}
use Rattle.rl_grade_report.specs.Sums.{has_share}
use Rattle.rl_grade_report.proofs.AddLemmas.{number_passed}
use Rattle.rl_grade_report.proofs.sums.lacking_in.Goals as goal

pub loop-before-preserved : goal.loop-before-preserved
loop-before-preserved c =
    let before = c.loop-before.before in
    let came : not (has_share (before + 1) c.args.parts.now) ≡ false = ap not (sym c.has_share.ensures ∙ c.if-not-has_share.false) in
    sym (number_passed (λ n. not (has_share n c.args.parts.now)) before c.args.every c.loop-before-test.true came) ∙ c.loop-before.invariant

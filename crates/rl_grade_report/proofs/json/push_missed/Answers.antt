use Rattle.std.proofs.Common.{List, ℕ, codes, take, sym, ap, ◌∙◌, ◌++◌}
use Rattle.std.proofs.lemmas.List.{take_more}
use Rattle.rl_grade_report.specs.declared.verdict.Judged.{Judged}
use Rattle.rl_grade_report.specs.declared.verdict.Verdict.TheVariants.{Missed}
use Rattle.rl_grade_report.specs.Counts.{led}
use Rattle.rl_grade_report.specs.declared.keys.Form.TheVariants.{Object}
use Rattle.rl_grade_report.specs.Keys.{flaw_text}
use Rattle.rl_grade_report.specs.Verdict.{has_verdict}
use Rattle.rl_grade_report.proofs.Parts.{is_some_part, passed, some_told, told_more}
use Rattle.rl_grade_report.proofs.json.push_missed.Goals as goal
use Rattle.rl_grade_report.proofs.json.push_missed.Goals.{then-has+in_ok-extend_from_slice+in_ok-push_flaw, else-has}

pub loop-it-preserved : goal.loop-it-preserved
loop-it-preserved c =
    let judged = c.args.judged.now in
    let text = λ (j : Judged). flaw_text Object c.args.chip.now c.args.layout.now j.flaw in
    let test = λ (j : Judged). has_verdict Missed j in
    let i = c.loop-it.invariant in
    let some = take c.loop-it.it-index judged in
    let first = c.args.text.now.items in
    let more = take_more judged c.loop-it.it-index _ c.loop-it-test.true in
    elim c.if-has.branch [
      | then-has+in_ok-extend_from_slice+in_ok-push_flaw w ↦
          let at = sym c.has.ensures ∙ w.if-has.true in
          let grows = rw (w.in_ok-extend_from_slice.ensures.items, w.lead.ensures) at w.in_ok-push_flaw.ensures in
          record {
            pushed = rw w.text-is (told_more text test (codes "") first _ _ _ some _ _ more at i.pushed i.told grows);
            told = rw w.told-is (some_told text test some _ _ more at);
          }
      | else-has w ↦
          let at = sym c.has.ensures ∙ w.if-has.false in
          let same = passed text test some _ _ more at in
          record {
            pushed = rw w.text-is (i.pushed ∙ ap (λ (parts : List (List ℕ)). first ++ led (codes "") parts) same);
            told = rw w.told-is (i.told ∙ ap is_some_part same);
          }
    ]

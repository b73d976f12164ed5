use Rattle.std.proofs.Common.{List, ℕ, take, sym, ap, ◌∙◌, ◌++◌}
use Rattle.std.proofs.lemmas.List.{take_more}
use Rattle.rl_grade_report.specs.declared.kind.Kind.{Kind}
use Rattle.rl_grade_report.specs.declared.kind.TheConstants.{KINDS}
use Rattle.rl_grade_report.specs.Counts.{count_in, counts_of, is_told, led}
use Rattle.rl_grade_report.proofs.Parts.{is_some_part, passed, some_told, told_more}
use Rattle.rl_grade_report.proofs.counts.push_counts.Goals as goal
use Rattle.rl_grade_report.proofs.counts.push_counts.Goals.{then-is_told+in_ok-push_count, else-is_told}

pub loop-kind-preserved : goal.loop-kind-preserved
loop-kind-preserved c =
    let judged = c.args.judged.now in
    let text = λ (kind : Kind). count_in c.args.form kind (counts_of judged kind) in
    let test = λ (kind : Kind). is_told (counts_of judged kind) in
    let i = c.loop-kind.invariant in
    let some = take c.loop-kind.kind-index KINDS in
    let first = c.args.text.now.items in
    let lead = c.args.first.now in
    elim c.if-is_told.branch [
      | then-is_told+in_ok-push_count w ↦
          let at = sym (c.is_told.ensures ∙ ap is_told c.counts_of-counts.ensures) ∙ w.if-is_told.true in
          let grows = rw (w.lead.ensures, c.counts_of-counts.ensures) at w.in_ok-push_count.ensures in
          record {
            pushed = rw w.text-is (told_more text test lead first _ _ _ some _ _
                (take_more KINDS c.loop-kind.kind-index _ c.loop-kind-test.true) at i.pushed i.told grows);
            told = rw w.told-is (some_told text test some _ _ (take_more KINDS c.loop-kind.kind-index _ c.loop-kind-test.true) at);
          }
      | else-is_told w ↦
          let at = sym (c.is_told.ensures ∙ ap is_told c.counts_of-counts.ensures) ∙ w.if-is_told.false in
          let same = passed text test some _ _ (take_more KINDS c.loop-kind.kind-index _ c.loop-kind-test.true) at in
          record {
            pushed = rw w.text-is (i.pushed ∙ ap (λ (parts : List (List ℕ)). first ++ led lead parts) same);
            told = rw w.told-is (i.told ∙ ap is_some_part same);
          }
    ]

use Rattle.std.proofs.Common.{List, ℕ, sym, ap, ◌∙◌, ◌++◌}
use Rattle.std.specs.List.{range_with_len}
use Rattle.std.proofs.lemmas.List.{get_or_default}
use Rattle.rl_flaw.specs.declared.flaw.Flaw.{Flaw}
use Rattle.rl_flaw.specs.declared.flaw.Flaw.TheVariants.{ErrorNth}
use Rattle.rl_grade_report.specs.Counts.{led}
use Rattle.rl_grade_report.specs.Groups.{flaw_at, group_text, is_first}
use Rattle.rl_grade_report.proofs.Parts.{is_some_part, led_by, passed, range_more, some_told, told_more}
use Rattle.rl_grade_report.proofs.groups.push_groups.Goals as goal
use Rattle.rl_grade_report.proofs.groups.push_groups.Goals.{then-is_first+in_ok-extend_from_slice+in_ok-push_group, else-is_first}

pub loop-place-preserved : goal.loop-place-preserved
loop-place-preserved c =
    let chip = c.args.chip.now in
    let layout = c.args.layout.now in
    let flaws = c.args.flaws.now in
    let text = λ (place : ℕ). group_text chip layout flaws (flaw_at flaws place) in
    let i = c.loop-place.invariant in
    let place = c.loop-place.place in
    let some = range_with_len 0 place in
    let first = c.args.text.now.items in
    let lead = c.args.first.now in
    elim c.if-is_first.branch [
      | then-is_first+in_ok-extend_from_slice+in_ok-push_group w ↦
          let at = sym c.is_first.ensures ∙ w.if-is_first.true in
          let before = led_by lead c.loop-place.told in
          let group = rw (w.in_ok-extend_from_slice.ensures.items, w.lead.ensures) at w.in_ok-push_group.ensures in
          let grows = group ∙ ap (λ (flaw : Flaw). (c.loop-place.text.items ++ before) ++ group_text chip layout flaws flaw)
          (get_or_default flaws place _ (ErrorNth 0) c.loop-place-test.true) in
          record {
            pushed = rw w.text-is (told_more text (is_first flaws) lead first _ _ _ some _ place
                (range_more place) at i.pushed i.told grows);
            told = rw w.told-is (some_told text (is_first flaws) some _ place (range_more place) at);
          }
      | else-is_first w ↦
          let at = sym c.is_first.ensures ∙ w.if-is_first.false in
          let same = passed text (is_first flaws) some _ place (range_more place) at in
          record {
            pushed = rw w.text-is (i.pushed ∙ ap (λ (parts : List (List ℕ)). first ++ led lead parts) same);
            told = rw w.told-is (i.told ∙ ap is_some_part same);
          }
    ]

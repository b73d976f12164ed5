use Rattle.std.proofs.Common.{◌++◌, codes}
use Rattle.rl_grade_report.specs.Counts.{counts_text}
use Rattle.rl_grade_report.specs.Lines.{place_name, unfound_text}
use Rattle.rl_session.proofs.ListingLemmas.{extended, joined_four, pushed_twice, then_pushed}
use Rattle.rl_grade_report.proofs.line.push_told.Goals as goal

pub returns : goal.returns
returns c =
    let first = c.args.text.now.items in
    let name = place_name c.args.chip.now c.args.place in
    let counts = counts_text c.args.judged.now in
    let unfound = unfound_text c.args.chip.now c.args.layout.now c.args.judged.now in
    then_pushed _ first _ _ (codes "\n") ((name ++ counts) ++ unfound) _
    (pushed_twice first _ _ (name ++ counts) unfound (pushed_twice first _ _ name counts c.in_ok-push_place.ensures c.in_ok-push_counts.ensures)
    c.in_ok-push_unfound.ensures)
    (joined_four name counts unfound (codes "\n")) (extended _ _ _ (codes "\n") c.extend_from_slice.ensures.items)

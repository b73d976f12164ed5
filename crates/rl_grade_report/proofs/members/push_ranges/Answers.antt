use Rattle.std.proofs.Common.{arith, length}
use Rattle.rl_grade_report.specs.Members.{number_text, ranges_text}
use Rattle.rl_session.proofs.ListingLemmas.{more_pushed, all_pushed, next_number, no_number}
use Rattle.rl_grade_report.proofs.members.push_ranges.Goals as goal

pub loop-place-preserved : goal.loop-place-preserved
loop-place-preserved c =
    let numbers = c.args.numbers.now in
    more_pushed c.args.text.now.items _ _ (ranges_text numbers) _ _ _ c.loop-place.invariant
    (next_number (number_text numbers) c.loop-place.place (length numbers) c.loop-place-test.true) c.in_ok-push_number.ensures

pub returns : goal.returns
returns c =
    let numbers = c.args.numbers.now in
    all_pushed c.args.text.now.items _ (ranges_text numbers) _ c.loop-place.invariant
    (no_number (number_text numbers) c.loop-place.place (length numbers) (omega arith))

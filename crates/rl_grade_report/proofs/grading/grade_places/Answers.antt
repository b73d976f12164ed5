use Rattle.std.proofs.Common.{arith, ◌∙◌}
use Rattle.rl_grade_report.specs.Progress.{base_shown}
use Rattle.rl_grade_report.proofs.Placed.{all_done, judged_done, place_done, place_stopped, places_done}
use Rattle.rl_grade_report.proofs.grading.grade_places.Goals as goal

pub grade_next-requires-clause-can_grade : goal.grade_next-requires-clause-can_grade
grade_next-requires-clause-can_grade g c = rw c.loop-place.invariant.desc_is c.requires.can_grade

pub grade_next-requires-clause-place : goal.grade_next-requires-clause-place
grade_next-requires-clause-place g c =
    rw c.loop-place.invariant.desc_is (c.requires.places c.loop-place.place-index _ c.loop-place-test.true)

pub grade_next-requires-clause-each : goal.grade_next-requires-clause-each
grade_next-requires-clause-each g c = rw c.loop-place.invariant.desc_is c.loop-place.invariant.each

pub grade_next-requires-clause-known : goal.grade_next-requires-clause-known
grade_next-requires-clause-known g c = rw (c.loop-place.invariant.desc_is, c.loop-place.invariant.known_is) c.requires.known

pub loop-place-preserved : goal.loop-place-preserved
loop-place-preserved g c =
    let i = c.loop-place.invariant in
    let e = c.in_ok-progress.ensures in
    let base = base_shown c.args.waivers.now c.args.tasks.now c.args.shown.now in
    record {
      desc_is = e.next.desc_is ∙ i.desc_is;
      put = place_done c.args.asked base c.args.tries.desc _ _ _ _ _ _ c.args.places.now
          c.loop-place.place-index _ c.loop-place-test.true i.desc_is i.put e.bytes.whole e.next;
      judged = judged_done c.args.asked base c.args.tries.desc _ _ _ c.args.places.now
          c.loop-place.place-index _ c.loop-place-test.true i.desc_is i.judged e.next;
      each = rw i.desc_is at e.next.each;
      known_is = e.next.known_is ∙ i.known_is;
      later = omega (arith, i.later, e.leaves.stays.later);
      ends_kept = e.leaves.stays.ends_kept ∙ i.ends_kept;
      same_target = e.leaves.stays.same_target ∙ i.same_target;
    }

pub returns-in_err-progress-clause-bytes : goal.returns-in_err-progress-clause-bytes
returns-in_err-progress-clause-bytes g c =
    let i = c.loop-place.invariant in
    place_stopped c.args.asked (base_shown c.args.waivers.now c.args.tasks.now c.args.shown.now) c.args.tries.desc _ _ _ _ _ _ c.args.places.now
    c.loop-place.place-index _ _ c.loop-place-test.true i.desc_is i.put c.from_residual.ensures.0 c.in_err-progress.ensures.bytes.part

pub returns-clause-bytes : goal.returns-clause-bytes
returns-clause-bytes g c =
    places_done c.args.asked (base_shown c.args.waivers.now c.args.tasks.now c.args.shown.now) c.args.tries.desc _ _ _ _ c.args.places.now
    c.loop-place.place-index _ (omega arith) c.loop-place.invariant.put

pub returns-clause-judged : goal.returns-clause-judged
returns-clause-judged g c =
    all_done c.args.asked (base_shown c.args.waivers.now c.args.tasks.now c.args.shown.now) c.args.tries.desc _ _ _ c.args.places.now
    c.loop-place.place-index (omega arith) c.loop-place.invariant.judged

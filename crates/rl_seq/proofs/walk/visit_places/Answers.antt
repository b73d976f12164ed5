use Rattle.std.proofs.Common.{◌∙◌, length, sym, refl, arith}
use Rattle.rl_seq.specs.Sequences.{is_visited, visit}
use Rattle.rl_seq.proofs.Following.{each_first, each_more, each_skipped, each_broke, each_all, each_up_to}
use Rattle.rl_seq.proofs.Stretch.{stretch}
use Rattle.rl_seq.proofs.Turning.{left_out, visited_same, place_followed, number_in, place_in}
use Rattle.rl_seq.proofs.walk.visit_places.Goals as goal

pub loop-place-init : goal.loop-place-init
loop-place-init g c =
    let m = c.args.run.now.model.now in
    let f = visit c.args.sequence m.chip m.layout c.args.number in
    let s = stretch c.args.sequence m.chip m.layout c.layout.result.now c.layout-2.result.now c.args.number c.first_place-first.result c.end_of-end.result c.item-item.result
    c.item-item.ensures c.layout.ensures.layout c.layout-2.ensures.layout c.first_place-first.ensures c.end_of-end.ensures in
    record {
      within = s.first_in;
      went = each_up_to g.R.Recorder g.D.Device _ _ c.args.run.now c.args.run.now f 0 c.first_place-first.result (omega arith)
          (λ k from low. s.before k low)
          (each_first g.R.Recorder g.D.Device _ c.args.run.now f c.requires.ready);
    }

pub loop-place-preserved : goal.loop-place-preserved
loop-place-preserved g c =
    let m = c.args.run.now.model.now in
    let f = visit c.args.sequence m.chip m.layout c.args.number in
    let s = stretch c.args.sequence m.chip m.layout c.layout.result.now c.layout-2.result.now c.args.number c.first_place-first.result c.end_of-end.result c.item-item.result
    c.item-item.ensures c.layout.ensures.layout c.layout-2.ensures.layout c.first_place-first.ensures c.end_of-end.ensures in
    record {
      within = omega (arith, s.end_in, c.loop-place-test.true);
      went = each_more g.R.Recorder g.D.Device _ _ _ _ _ _ f c.loop-place.place (f c.loop-place.place) _ refl c.loop-place.invariant.went
          (record {
            follows = place_followed g.R.Recorder m c.args.sequence c.args.number c.loop-place.place c.visits.result _ _ _ _ _ _ _
                c.loop-place.invariant.went.follows.stays.parts c.visits.ensures c.layout-in-loop-place.ensures.layout c.if-not-visits.false
                c.of.ensures.visit c.in_ok-take_turns.ensures.follows;
            same = c.in_ok-take_turns.ensures.same;
          });
    }

pub loop-place-preserved-then-not-visits : goal.loop-place-preserved-then-not-visits
loop-place-preserved-then-not-visits g c =
    let m = c.args.run.now.model.now in
    let parts = c.loop-place.invariant.went.follows.stays.parts in
    let answer = visited_same c.args.sequence c.args.number c.loop-place.place c.visits.result _ m.layout c.visits.ensures
    (c.layout-in-loop-place.ensures.layout ∙ parts.layout) in
    let s = stretch c.args.sequence m.chip m.layout c.layout.result.now c.layout-2.result.now c.args.number c.first_place-first.result c.end_of-end.result c.item-item.result
    c.item-item.ensures c.layout.ensures.layout c.layout-2.ensures.layout c.first_place-first.ensures c.end_of-end.ensures in
    record {
      within = omega (arith, s.end_in, c.loop-place-test.true);
      went = each_skipped g.R.Recorder g.D.Device _ _ _ _ (visit c.args.sequence m.chip m.layout c.args.number) c.loop-place.place
          (left_out (is_visited c.args.sequence m.layout c.args.number c.loop-place.place) _ (sym answer ∙ c.if-not-visits.true))
          c.loop-place.invariant.went;
    }

pub returns-in_err-take_turns : goal.returns-in_err-take_turns
returns-in_err-take_turns g c =
    let m = c.args.run.now.model.now in
    let f = visit c.args.sequence m.chip m.layout c.args.number in
    let s = stretch c.args.sequence m.chip m.layout c.layout.result.now c.layout-2.result.now c.args.number c.first_place-first.result c.end_of-end.result c.item-item.result
    c.item-item.ensures c.layout.ensures.layout c.layout-2.ensures.layout c.first_place-first.ensures c.end_of-end.ensures in
    each_broke g.R.Recorder g.D.Device _ _ _ _ _ _ f c.loop-place.place (length m.layout.places)
    (f c.loop-place.place) _ c.from_residual.result refl (omega (arith, s.end_in, c.loop-place-test.true)) c.loop-place.invariant.went
    (record {
      follows = place_followed g.R.Recorder m c.args.sequence c.args.number c.loop-place.place c.visits.result _ _ _ _ _ _ _
          c.loop-place.invariant.went.follows.stays.parts c.visits.ensures c.layout-in-loop-place.ensures.layout c.if-not-visits.false
          c.of.ensures.visit c.in_err-take_turns.ensures.follows;
      same = c.in_err-take_turns.ensures.same;
    }) c.from_residual.ensures.0

pub returns : goal.returns
returns g c =
    let m = c.args.run.now.model.now in
    let f = visit c.args.sequence m.chip m.layout c.args.number in
    let all = length m.layout.places in
    let s = stretch c.args.sequence m.chip m.layout c.layout.result.now c.layout-2.result.now c.args.number c.first_place-first.result c.end_of-end.result c.item-item.result
    c.item-item.ensures c.layout.ensures.layout c.layout-2.ensures.layout c.first_place-first.ensures c.end_of-end.ensures in
    each_all g.R.Recorder g.D.Device _ _ _ _ f all all _ refl
    (each_up_to g.R.Recorder g.D.Device _ _ _ _ f c.loop-place.place all c.loop-place.invariant.within
    (λ k from low. s.behind k (omega (arith, from, c.loop-place-test.false)) low) c.loop-place.invariant.went)

pub visits-requires : goal.visits-requires
visits-requires g c =
    let m = c.args.run.now.model.now in
    let s = stretch c.args.sequence m.chip m.layout c.layout.result.now c.layout-2.result.now c.args.number c.first_place-first.result c.end_of-end.result c.item-item.result
    c.item-item.ensures c.layout.ensures.layout c.layout-2.ensures.layout c.first_place-first.ensures c.end_of-end.ensures in
    place_in c.loop-place.place _ c.loop-place-test.true s.end_in (c.layout-in-loop-place.ensures.layout ∙ c.loop-place.invariant.went.follows.stays.parts.layout)

pub of-requires-clause-place : goal.of-requires-clause-place
of-requires-clause-place g c =
    let m = c.args.run.now.model.now in
    let s = stretch c.args.sequence m.chip m.layout c.layout.result.now c.layout-2.result.now c.args.number c.first_place-first.result c.end_of-end.result c.item-item.result
    c.item-item.ensures c.layout.ensures.layout c.layout-2.ensures.layout c.first_place-first.ensures c.end_of-end.ensures in
    place_in c.loop-place.place _ c.loop-place-test.true s.end_in c.loop-place.invariant.went.follows.stays.parts.layout

pub of-requires-clause-number : goal.of-requires-clause-number
of-requires-clause-number g c = number_in c.args.sequence c.args.number c.requires.number c.loop-place.invariant.went.follows.stays.parts.chip

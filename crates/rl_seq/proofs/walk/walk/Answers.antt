use Rattle.std.proofs.Common.{◌<◌, ◌∙◌, ap, sym, subst, refl, arith}
use Rattle.rl_seq.specs.Sequences.{items_of, is_chosen, visit_all}
use Rattle.rl_seq.proofs.Following.{each_first, each_more, each_skipped, each_broke, each_all}
use Rattle.rl_seq.proofs.Turning.{left_out, chosen_same, item_followed, block_in, number_in}
use Rattle.rl_seq.proofs.walk.walk.Goals as goal

pub loop-number-init : goal.loop-number-init
loop-number-init g c =
    let m = c.args.run.now.model.now in
    each_first g.R.Recorder g.D.Device _ c.args.run.now (visit_all c.args.sequence m.chip m.layout c.args.block) c.requires.ready

pub loop-number-preserved : goal.loop-number-preserved
loop-number-preserved g c =
    let m = c.args.run.now.model.now in
    let f = visit_all c.args.sequence m.chip m.layout c.args.block in
    each_more g.R.Recorder g.D.Device _ _ _ _ _ _ f c.loop-number.number (f c.loop-number.number) _ refl c.loop-number.invariant
    (record {
      follows = item_followed g.R.Recorder m c.args.sequence c.args.block c.loop-number.number c.is_chosen.result _ _ _ _ _ _ _
          c.loop-number.invariant.follows.stays.parts c.is_chosen.ensures c.chip-in-loop-number.ensures.chip c.layout.ensures.layout
          c.if-not-is_chosen.false c.in_ok-visit_places.ensures.follows;
      same = c.in_ok-visit_places.ensures.same;
    })

pub loop-number-preserved-then-not-is_chosen : goal.loop-number-preserved-then-not-is_chosen
loop-number-preserved-then-not-is_chosen g c =
    let m = c.args.run.now.model.now in
    let parts = c.loop-number.invariant.follows.stays.parts in
    let answer = chosen_same c.args.sequence c.args.block c.loop-number.number c.is_chosen.result _ m.chip _ m.layout c.is_chosen.ensures
    (c.chip-in-loop-number.ensures.chip ∙ parts.chip) (c.layout.ensures.layout ∙ parts.layout) in
    each_skipped g.R.Recorder g.D.Device _ _ _ _ (visit_all c.args.sequence m.chip m.layout c.args.block) c.loop-number.number
    (left_out (is_chosen c.args.sequence m.chip m.layout c.args.block c.loop-number.number) _ (sym answer ∙ c.if-not-is_chosen.true))
    c.loop-number.invariant

pub returns-in_err-visit_places : goal.returns-in_err-visit_places
returns-in_err-visit_places g c =
    let m = c.args.run.now.model.now in
    let f = visit_all c.args.sequence m.chip m.layout c.args.block in
    let count = c.items-number-end.ensures ∙ ap (items_of c.args.sequence) c.chip.ensures.chip in
    each_broke g.R.Recorder g.D.Device _ _ _ _ _ _ f c.loop-number.number (items_of c.args.sequence m.chip)
    (f c.loop-number.number) _ c.from_residual.result refl (subst (λ n. c.loop-number.number < n) count c.loop-number-test.true) c.loop-number.invariant
    (record {
      follows = item_followed g.R.Recorder m c.args.sequence c.args.block c.loop-number.number c.is_chosen.result _ _ _ _ _ _ _
          c.loop-number.invariant.follows.stays.parts c.is_chosen.ensures c.chip-in-loop-number.ensures.chip c.layout.ensures.layout
          c.if-not-is_chosen.false c.in_err-visit_places.ensures.follows;
      same = c.in_err-visit_places.ensures.same;
    }) c.from_residual.ensures.0

pub returns : goal.returns
returns g c =
    let m = c.args.run.now.model.now in
    let count = c.items-number-end.ensures ∙ ap (items_of c.args.sequence) c.chip.ensures.chip in
    each_all g.R.Recorder g.D.Device _ _ _ _ (visit_all c.args.sequence m.chip m.layout c.args.block) c.loop-number.number
    (items_of c.args.sequence m.chip) _ (omega arith) c.loop-number.invariant

pub visit_places-requires-clause-number : goal.visit_places-requires-clause-number
visit_places-requires-clause-number g c =
    let count = c.items-number-end.ensures ∙ ap (items_of c.args.sequence) c.chip.ensures.chip in
    number_in c.args.sequence c.loop-number.number (subst (λ n. c.loop-number.number < n) count c.loop-number-test.true) c.loop-number.invariant.follows.stays.parts.chip

pub is_chosen-requires-clause-number : goal.is_chosen-requires-clause-number
is_chosen-requires-clause-number g c =
    let count = c.items-number-end.ensures ∙ ap (items_of c.args.sequence) c.chip.ensures.chip in
    number_in c.args.sequence c.loop-number.number (subst (λ n. c.loop-number.number < n) count c.loop-number-test.true)
    (c.chip-in-loop-number.ensures.chip ∙ c.loop-number.invariant.follows.stays.parts.chip)

pub is_chosen-requires-clause-block : goal.is_chosen-requires-clause-block
is_chosen-requires-clause-block g c =
    block_in c.args.block c.requires.block (c.chip-in-loop-number.ensures.chip ∙ c.loop-number.invariant.follows.stays.parts.chip)

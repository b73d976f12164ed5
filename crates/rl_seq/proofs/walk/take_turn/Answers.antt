use Rattle.std.proofs.Common.{refl, arith}
use Rattle.rl_seq.specs.Visits.{parts_of}
use Rattle.rl_seq.proofs.Following.{each_first, each_more, each_broke, each_all, goes_alike, same_run}
use Rattle.rl_seq.proofs.Turning.{at_part, one_part, no_part, turn_alike}
use Rattle.rl_seq.proofs.walk.take_turn.Goals as goal

pub loop-part-init : goal.loop-part-init
loop-part-init g c =
    let m = c.args.run.now.model.now in
    each_first g.R.Recorder g.D.Device _ c.args.run.now (at_part m.chip m.layout c.args.visit c.args.turn) c.requires.ready

pub loop-part-preserved : goal.loop-part-preserved
loop-part-preserved g c =
    let m = c.args.run.now.model.now in
    let f = at_part m.chip m.layout c.args.visit c.args.turn in
    each_more g.R.Recorder g.D.Device _ _ _ _ _ _ f c.loop-part.part (f c.loop-part.part) _ refl c.loop-part.invariant
    (record {
      follows = one_part g.R.Recorder _ _ _ _ m c.args.visit c.args.turn c.loop-part.part c.in-Some.op c.part.result _
          c.loop-part.invariant.follows.stays.parts c.part.ensures.part c.in-Some.is c.in_ok-perform_step.ensures.follows;
      same = record { model = refl; device = refl; adapters = refl; recorder = refl };
    })

pub returns-in_err-perform_step : goal.returns-in_err-perform_step
returns-in_err-perform_step g c =
    let m = c.args.run.now.model.now in
    let f = at_part m.chip m.layout c.args.visit c.args.turn in
    goes_alike g.R.Recorder g.D.Device _ _ _ _ _ _ c.from_residual.result (turn_alike m.chip m.layout c.args.visit c.args.turn)
    (each_broke g.R.Recorder g.D.Device _ _ _ _ _ _ f c.loop-part.part (parts_of m.chip c.args.visit c.args.turn)
    (f c.loop-part.part) _ c.from_residual.result refl (let count = c.parts-part-end.ensures in omega arith) c.loop-part.invariant
    (record {
      follows = one_part g.R.Recorder _ _ _ _ m c.args.visit c.args.turn c.loop-part.part c.in-Some.op c.part.result _
          c.loop-part.invariant.follows.stays.parts c.part.ensures.part c.in-Some.is c.in_err-perform_step.ensures.follows;
      same = record { model = refl; device = refl; adapters = refl; recorder = refl };
    }) c.from_residual.ensures.0)

pub returns : goal.returns
returns g c =
    let m = c.args.run.now.model.now in
    let f = at_part m.chip m.layout c.args.visit c.args.turn in
    goes_alike g.R.Recorder g.D.Device _ _ _ _ _ _ _ (turn_alike m.chip m.layout c.args.visit c.args.turn)
    (each_all g.R.Recorder g.D.Device _ _ _ _ f c.loop-part.part (parts_of m.chip c.args.visit c.args.turn) _
    (let count = c.parts-part-end.ensures in omega arith) c.loop-part.invariant)

pub loop-part-preserved-in_default : goal.loop-part-preserved-in_default
loop-part-preserved-in_default g c =
    let m = c.args.run.now.model.now in
    let f = at_part m.chip m.layout c.args.visit c.args.turn in
    each_more g.R.Recorder {E = Unit {0}} g.D.Device _ _ _ _ _ _ f c.loop-part.part (f c.loop-part.part) _ refl c.loop-part.invariant
    (record {
      follows = no_part g.R.Recorder _ _ m c.args.visit c.args.turn c.loop-part.part c.part.result
          c.loop-part.invariant.follows.stays.parts c.part.ensures.part c.in_default.is c.loop-part.invariant.follows.stays.ready;
      same = same_run _;
    })

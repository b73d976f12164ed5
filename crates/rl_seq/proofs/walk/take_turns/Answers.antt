use Rattle.std.proofs.Common.{◌<◌, arith}
use Rattle.rl_seq.specs.Visits.{IsVisit, turns_of, turn_of}
use Rattle.rl_seq.proofs.Following.{each_first, each_more, each_broke, each_all}
use Rattle.rl_seq.proofs.Planned.{same_plan, on_chip}
use Rattle.rl_seq.proofs.walk.take_turns.Goals as goal

pub loop-turn-init : goal.loop-turn-init
loop-turn-init g c =
    let m = c.args.run.now.model.now in
    each_first g.R.Recorder g.D.Device _ c.args.run.now (turn_of m.chip m.layout c.args.visit) c.requires.ready

pub loop-turn-preserved : goal.loop-turn-preserved
loop-turn-preserved g c =
    let m = c.args.run.now.model.now in
    each_more g.R.Recorder g.D.Device _ _ _ _ _ _ (turn_of m.chip m.layout c.args.visit) c.loop-turn.turn _ _
    (same_plan (λ h y. turn_of h y c.args.visit c.loop-turn.turn) m c.loop-turn.run.model.now c.loop-turn.invariant.follows.stays.parts)
    c.loop-turn.invariant c.in_ok-take_turn.ensures

pub returns-in_err-take_turn : goal.returns-in_err-take_turn
returns-in_err-take_turn g c =
    let m = c.args.run.now.model.now in
    each_broke g.R.Recorder g.D.Device _ _ _ _ _ _ (turn_of m.chip m.layout c.args.visit) c.loop-turn.turn
    (turns_of m.chip m.layout c.args.visit) _ _ c.from_residual.result
    (same_plan (λ h y. turn_of h y c.args.visit c.loop-turn.turn) m c.loop-turn.run.model.now c.loop-turn.invariant.follows.stays.parts)
    (let count = c.turns-turn-end.ensures in omega arith) c.loop-turn.invariant
    c.in_err-take_turn.ensures c.from_residual.ensures.0

pub returns : goal.returns
returns g c =
    let m = c.args.run.now.model.now in
    each_all g.R.Recorder g.D.Device _ _ _ _ (turn_of m.chip m.layout c.args.visit) c.loop-turn.turn
    (turns_of m.chip m.layout c.args.visit) _ (let count = c.turns-turn-end.ensures in omega arith) c.loop-turn.invariant

pub take_turn-requires : goal.take_turn-requires
take_turn-requires g c =
    let m = c.args.run.now.model.now in
    let now = c.loop-turn.run.model.now in
    let stays = c.loop-turn.invariant.follows.stays in
    record {
      ready = stays.ready;
      visit = on_chip (λ h y. IsVisit h y c.args.visit) m now stays.parts c.requires.visit;
      turn = on_chip (λ h y. c.loop-turn.turn < turns_of h y c.args.visit) m now stays.parts
          (let count = c.turns-turn-end.ensures in omega arith);
    }

use Rattle.std.proofs.Common.{◌+◌, ◌++◌, ap, sym, ◌∙◌, arith, refl}
use Rattle.std.proofs.Math.ListN.{drop_of_length-le}
use Rattle.rl_map.specs.LayoutText.{lane_text}
use Rattle.rl_session.proofs.ListingLemmas.{next_down}
use Rattle.rl_session.proofs.layout_text.spell_lanes.Goals as goal

pub loop-lane-init : goal.loop-lane-init
loop-lane-init c = record { spelled = drop_of_length-le c.args.text.now {i = 32} (omega (arith, c.told-text)); room = omega arith; within = omega arith }

pub loop-lane-preserved : goal.loop-lane-preserved
loop-lane-preserved c =
    let i = c.loop-lane.invariant in
    let e = c.spell_lane-start.ensures in
    record {
      spelled = e.text ∙ ap (λ xs. lane_text c.args.word.now c.loop-lane.lane ++ xs) i.spelled
          ∙ sym (next_down (lane_text c.args.word.now) (c.loop-lane.lane + 1) c.loop-lane.lane refl);
      room = omega (arith, i.room, e.room);
      within = omega (arith, i.within, e.within);
    }

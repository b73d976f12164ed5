-- The lanes below stand at the end of the text.
use Rattle.std.proofs.Common.{◌≡◌, ◌+◌, ◌*◌, ◌≤◌, drop, reverse}
use Rattle.std.specs.List.{flat_map, range_with_len}
use Rattle.rl_map.specs.LayoutText.{lane_text}
use Rattle.rl_session.proofs.layout_text.spell_lanes.Given as goal

abbrev pub invariant-loop-lane : goal.invariant-loop-lane
invariant-loop-lane l = record {
  spelled : drop l.start l.text ≡ flat_map (lane_text l.word) (reverse (range_with_len 0 l.lane));
  room : 32 ≤ l.start + 4 * l.lane;
  within : l.start ≤ 32;
}

use Rattle.std.proofs.Common.{◌≡◌, ◌-◌, ◌&&◌, eqb, not, false}
use Rattle.std.specs.List.{list_any, range_with_len}
use Rattle.rl_split.specs.Narrow.{field_at, share_byte}
use Rattle.rl_split.proofs.fields.has_neighbour.Given as goal

abbrev pub invariant-loop-other : goal.invariant-loop-other
invariant-loop-other l = list_any (λ n. not (eqb n l.field) && share_byte (field_at l.chip n) (field_at l.chip l.field)) (range_with_len l.first (l.other - l.first)) ≡ false

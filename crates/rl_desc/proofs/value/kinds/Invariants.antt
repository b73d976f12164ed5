use Rattle.std.proofs.Common.{◌≡◌, ◌++◌, Ok}
use Rattle.toml.specs.View.{members_view}
use Rattle.rl_desc.specs.Shapes.{◌>>=◌, kinds}
use Rattle.rl_desc.proofs.value.kinds.Given as goal

abbrev pub invariant-loop-kind : goal.invariant-loop-kind
invariant-loop-kind l =
    (kinds l.at.key (members_view l.kind-iterator) >>= λ rest. Ok (l.resets.items ++ rest)) ≡ kinds l.at.key (members_view l.table.entries)

use Rattle.std.proofs.Common.{◌≡◌}
use Rattle.toml.specs.View.{members_view}
use Rattle.rl_desc.specs.Columns.{only}
use Rattle.rl_desc.proofs.row.Row.only.Given as goal

abbrev pub invariant-loop-name : goal.invariant-loop-name
invariant-loop-name l = only l.keys (members_view l.name-iterator) ≡ only l.keys (members_view l.self.table.now.entries)

use Rattle.std.proofs.Common.{◌≡◌, drop}
use Rattle.rl_desc.specs.Columns.{is_one_of}
use Rattle.rl_desc.proofs.row.is_one_of.Given as goal

abbrev pub invariant-loop-key : goal.invariant-loop-key
invariant-loop-key l = is_one_of (drop l.key-index l.keys) l.name ≡ is_one_of l.keys l.name

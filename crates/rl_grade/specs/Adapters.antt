-- The adapters of a program that was just started.
use Rattle.std.specs.Prelude.{List, [], ◌∷◌}
use Rattle.rl_apb.specs.Kinds.{apb_kind}
use Rattle.rl_bus.specs.Kinds.{plain_kind}
use Rattle.rl_bus.specs.Standing.{Standing}
use Rattle.rl_bus.specs.declared.op.AdapterKind.{AdapterKind}

-- it has sent nothing
abbrev pub fresh_standing : AdapterKind → Standing
fresh_standing kind = record { kind = kind; tag = 0; trail = 0 }

-- a plain and an APB adapter
abbrev pub fresh_standings : List Standing
fresh_standings = fresh_standing plain_kind ∷ fresh_standing apb_kind ∷ []

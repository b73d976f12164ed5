-- What is seen of the lists of an access.
use Rattle.std.specs.Prelude.{ℕ, List, map}
use Rattle.rl_bus.specs.declared.op.BusOp.{BusOp}

-- the operations of words
abbrev pub ops_in : List (BusOp × ℕ) → List BusOp
ops_in words = map (λ (p : BusOp × ℕ). p.0) words

-- their orders
abbrev pub orders_in : List (BusOp × ℕ) → List ℕ
orders_in words = map (λ (p : BusOp × ℕ). p.1) words

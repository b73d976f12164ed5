-- A device that is sent several operations.
use Rattle.std.specs.Prelude.{ℕ, zero, suc, ◌+◌, ◌-◌, ◌^◌, min, List, [], ◌∷◌}
use Rattle.rl_bus.specs.declared.op.Answer.{Answer}
use Rattle.rl_bus.specs.declared.op.BusOp.{BusOp}
use Rattle.rl_bus.specs.State.{State, state_after, answer_of}

-- the state once each was sent
abbrev pub state_after_all : State → ℕ → List BusOp → State
state_after_all s port [] = s
state_after_all s port (op ∷ ops) = state_after_all (state_after s port op) port ops

-- the answers, each from the state that it met
abbrev pub answers_of : State → ℕ → List BusOp → List Answer
answers_of s port [] = []
answers_of s port (op ∷ ops) = answer_of s port op ∷ answers_of (state_after s port op) port ops

-- the count of items after so many more, which stays at its limit
unfoldable pub counted_on : ℕ → ℕ → ℕ
counted_on zero items = items
counted_on (suc k) items = counted_on k (min (items + 1) (2 ^ 64 - 1))

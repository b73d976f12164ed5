-- What the events of a run say that the device was asked.
use Rattle.std.specs.Prelude.{◌≡◌, ℕ, List, [], ◌∷◌, ◌++◌, if◌then◌else◌}
use Rattle.rl_bus.specs.Account.{Account, Request, AsksAll}
use Rattle.rl_access.specs.declared.event.Event.{Event}
use Rattle.rl_access.specs.HandsOver.{Told}
use Rattle.rl_access.specs.Operation.{ends_refused}
use Rattle.rl_access.specs.Rules.{asks_of}

-- nothing where it was refused; else its items, a change, a reset, or a deposit of these bits
abbrev pub asked_in : Event → (deposit : ℕ) → List Request
asked_in e deposit = if ends_refused e.end then [] else asks_of e.op deposit e.trace

-- What was asked is what the events say, in order, with some bits in each deposit.
abbrev pub AreAsked : List Told → List Request → Type 0
AreAsked [] asked = asked ≡ []
AreAsked (t ∷ told) asked =
    (deposit : ℕ) × (rest : List Request) × (asked ≡ asked_in t.event deposit ++ rest) × AreAsked told rest

-- Between two accounts of a device it was asked exactly what these events say.
pub record IsAskedBy (before : Account) (told : List Told) (after : Account) : Type 0 where
  pub asked : List Request
  pub said : AreAsked told asked
  pub asks : AsksAll before asked after

-- What a session on the timer does.
use Rattle.std.specs.Prelude.{ℕ, List, [], ◌∷◌, Bool, true, false, codes, Option, option_map, Result, Ok, Err}
use Rattle.rl_bus.specs.Account.{without_peer}
use Rattle.rl_bus.specs.Standing.{Standing, kinds_of}
use Rattle.rl_desc.specs.Data.{DescData}
use Rattle.rl_log.specs.declared.status.Status.{Status}
use Rattle.rl_session_run.specs.Script.{RunsSession}
use Rattle.rl_session.specs.Session.{opening_of}

-- it declares a flaw
abbrev pub has_flaws : {F : Type 0} → (flaws : List F) → Bool
has_flaws [] = false
has_flaws (flaw ∷ flaws) = true

abbrev pub unless_flawed : DescData → (flawed : Bool) → Result DescData (List ℕ)
unless_flawed desc false = Ok desc
unless_flawed desc true = Err (codes "refused description flaw 1: no flaws on this device\n")

-- a description that could be run is refused where it declares a flaw
abbrev pub on_timer : Result DescData (List ℕ) → Result DescData (List ℕ)
on_timer (Ok desc) = unless_flawed desc (has_flaws desc.flaws)
on_timer (Err line) = Err line

-- It is refused by what it describes and for the timer, or its script is played on a timer that hasn't failed yet.
-- `errors` is how often it failed then, where there is one, and `left` what the session's source has left.
abbrev pub RunsOnTimer : (bytes : List ℕ) → (left : Option (List ℕ)) → Status → (old new : Option (List ℕ))
    → (adapters now : List Standing) → (errors : Option ℕ) → Type 0
RunsOnTimer bytes left status old new adapters now errors =
    RunsSession (on_timer (opening_of bytes (kinds_of adapters))) bytes left status old new adapters now
    (λ desc. without_peer 0) (option_map without_peer errors)

-- What the words of a call ask for.
use Rattle.std.specs.Prelude.{ℕ, Bool, true, false, ◌&&◌, if◌then◌else◌, List, [], ◌∷◌, map, codes, Option, Some, None, String, string_bytes}
use Rattle.std.specs.Str.{bytes_eq}
use Rattle.rl_plan.specs.declared.asked.Asked.{Asked}
use Rattle.rl_plan.specs.declared.asked.Asked.TheVariants.{Both, Bus}
use Rattle.rl_plan.specs.declared.asked.Wanted.{Wanted}
use Rattle.rl_plan.specs.declared.asked.Wanted.TheVariants.{Plan, Added}

-- whether backdoors are used
abbrev pub uses_backdoor : Asked → Bool
uses_backdoor Both = true
uses_backdoor Bus = false

-- `bus`, or `add`
abbrev pub one_named : List ℕ → Option Wanted
one_named word =
    if bytes_eq word (codes "bus") then Some (Plan Bus)
    else (if bytes_eq word (codes "add") then Some (Added Both) else None)

-- `add bus`
abbrev pub two_named : (first second : List ℕ) → Option Wanted
two_named first second =
    if bytes_eq first (codes "add") && bytes_eq second (codes "bus") then Some (Added Bus) else None

-- no word for the plan by all ways
abbrev pub asked_of : List (List ℕ) → Option Wanted
asked_of [] = Some (Plan Both)
asked_of (word ∷ []) = one_named word
asked_of (first ∷ second ∷ []) = two_named first second
asked_of (first ∷ second ∷ other ∷ others) = None

-- what a call with these words is asked to do
abbrev pub asked_by : {Z : Type 0} → (words : List (String Z)) → Option Wanted
asked_by words = asked_of (map string_bytes words)

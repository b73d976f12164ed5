-- What the words of a call ask for.
use Rattle.std.specs.Prelude.{ℕ, List, [], ◌∷◌, map, Option, Some, None, String, string_bytes, codes, if◌then◌else◌}
use Rattle.std.specs.Str.{bytes_eq}
use Rattle.rl_policy.specs.declared.number.NumberText.{NumberText}
use Rattle.rl_policy.specs.declared.number.NumberText.TheVariants.{Value, Bad, TooLarge}
use Rattle.rl_policy.specs.Numbers.{number_of}
use Rattle.regrun.specs.declared.words.Task.{Task}
use Rattle.regrun.specs.declared.words.Task.TheVariants.{Run, Map, Soak, Weave}

abbrev pub task_named : List ℕ → Option Task
task_named word =
    if bytes_eq word (codes "run") then Some Run
    else (if bytes_eq word (codes "map") then Some Map else None)

abbrev pub numbered_task : List ℕ → NumberText → Option Task
numbered_task word (Value n) =
    if bytes_eq word (codes "soak") then Some (Soak n)
    else (if bytes_eq word (codes "weave") then Some (Weave n) else None)
numbered_task word Bad = None
numbered_task word TooLarge = None

-- `run`, `map`, `soak` with a number, `weave` with a number, and nothing else
abbrev pub task_of : List (List ℕ) → Option Task
task_of [] = None
task_of (word ∷ []) = task_named word
task_of (word ∷ number ∷ []) = numbered_task word (number_of number)
task_of (word ∷ number ∷ other ∷ others) = None

-- what a call with these words is asked to do
abbrev pub asked_by : {Z : Type 0} → (words : List (String Z)) → Option Task
asked_by words = task_of (map string_bytes words)

-- How a session over a link opens: what it describes, or how it is refused.
use Rattle.std.specs.Prelude.{ℕ, List, [], ◌∷◌, Bool, true, false, codes, Result, Ok, Err}
use Rattle.rl_bus.specs.declared.op.AdapterKind.{AdapterKind}
use Rattle.rl_desc.specs.Data.{DescData}
use Rattle.rl_session.specs.Session.{opening_of}
use Rattle.rl_session_run.specs.Opening.{opening_on}

-- it declares a flaw
abbrev pub has_flaws : {F : Type 0} → (flaws : List F) → Bool
has_flaws [] = false
has_flaws (flaw ∷ flaws) = true

abbrev pub unless_flawed : DescData → (flawed : Bool) → Result DescData (List ℕ)
unless_flawed desc false = Ok desc
unless_flawed desc true = Err (codes "refused description flaw 1: no flaws over a link\n")

-- a description that could be run is refused where it declares a flaw
abbrev pub over_link : Result DescData (List ℕ) → Result DescData (List ℕ)
over_link (Ok desc) = unless_flawed desc (has_flaws desc.flaws)
over_link (Err line) = Err line

-- what a session describes, or its last line where it is refused before its script:
-- as `run` refuses it, and then for the link, over which nothing has a backdoor
abbrev pub linked_opening : List ℕ → List AdapterKind → Result DescData (List ℕ)
linked_opening bytes kinds = opening_on false (over_link (opening_of bytes kinds))

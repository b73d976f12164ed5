-- What becomes of an event that a recorder looks at.
use Rattle.std.specs.Prelude.{◌≡◌, ℕ, true, false, List, [], ◌∷◌, ◌++◌, length, drop, Option, Some}
use Rattle.rl_access.specs.declared.event.Event.{Event}
use Rattle.rl_access.specs.declared.event.Op.{Op}
use Rattle.rl_access.specs.Tally.{more}
use Rattle.rl_grade.specs.declared.seen.Seen.{Seen}
use Rattle.rl_grade.specs.Find.{seen_of, new_in, shows}
use Rattle.rl_grade.specs.Heard.{Heard}

-- it shows no more than the first of these, and the next is beside the second
pub record Passes (base : List Seen) (found : Option (Op × Seen)) (e : Event) (rest : List Seen)
    (now : Option (Op × Seen)) : Type 0 where
  pub shows_none : shows (new_in base e) ≡ false
  pub rest_is : rest ≡ drop 1 base
  pub found_kept : now ≡ found

-- it shows more, and this is kept
pub record Finds (base : List Seen) (e : Event) (found : Option (Op × Seen)) : Type 0 where
  pub shows_more : shows (new_in base e) ≡ true
  pub found_is : found ≡ Some (e.op, new_in base e)

-- what it shows is kept, and its items are counted
pub record Keeps (seen : List Seen) (items : ℕ) (e : Event) (kept : List Seen) (count : ℕ) : Type 0 where
  pub seen_is : kept ≡ seen ++ seen_of e ∷ []
  pub items_are : count ≡ more items (length e.trace)

-- the bus items of events, counted from n on; the count stays at its end
abbrev pub items_from : ℕ → List Heard → ℕ
items_from n [] = n
items_from n (h ∷ heard) = items_from (more n (length h.told.event.trace)) heard

-- What a sequence goes over, and the events that it handed over.
use Rattle.std.specs.Prelude.{◌≡◌, ◌⊎◌, ℕ, ◌<◌, true, List, [], ◌∷◌, length, Option}
use Rattle.rl_model.specs.Rows.{ChipData}
use Rattle.rl_map.specs.Layout.{LayoutData}
use Rattle.rl_access.specs.declared.event.Event.{Event}
use Rattle.rl_access.specs.Call.{Scene}
use Rattle.rl_access.specs.HandsOver.{Told}
use Rattle.rl_seq.specs.declared.sequence.Sequence.{Sequence}
use Rattle.rl_seq.specs.Plan.{Runs, Breaks}
use Rattle.rl_seq.specs.Sequences.{items_of, is_chosen, is_visited, plan_of}

-- the sequence ran from the first scene to the new one, and told these events: all of them
abbrev pub RunsAll : Sequence → Option ℕ → Scene → List Told → Scene → Type 0
RunsAll which block s told new = Runs (plan_of which s.model.chip s.model.layout block) s told new

-- or those up to one at which the recorder failed
abbrev pub RunsSome : Sequence → Option ℕ → Scene → List Told → Scene → Type 0
RunsSome which block s told new = Breaks (plan_of which s.model.chip s.model.layout block) s told new

-- one of the events is so
abbrev pub HasEvent : (Event → Type 0) → List Told → Type 0
HasEvent IsSo [] = ⊥
HasEvent IsSo (t ∷ told) = IsSo t.event ⊎ HasEvent IsSo told

-- the sequence visits a register, or for `mem_walk` a memory, at this place: it isn't told to leave it out, and the
-- place is the register's and has the rights that the sequence asks for
pub record IsVisited (which : Sequence) (c : ChipData) (l : LayoutData) (block : Option ℕ)
    (number place : ℕ) : Type 0 where
  pub number_in : number < items_of which c
  pub chosen : is_chosen which c l block number ≡ true
  pub place_in : place < length l.places
  pub visited : is_visited which l number place ≡ true

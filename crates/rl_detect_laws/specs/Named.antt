-- Which checks name a field where nothing is wrong: none.
use Rattle.std.specs.Prelude.{◌≡◌, ◌⊎◌, ℕ, false, List, All, Option}
use Rattle.rl_access.specs.declared.event.Event.{Event}
use Rattle.rl_access.specs.Call.{Scene}
use Rattle.rl_access.specs.HandsOver.{Told}
use Rattle.rl_access.specs.Model.{IsModel}
use Rattle.rl_access.specs.Operation.{is_on_memory}
use Rattle.rl_seq.specs.declared.sequence.Sequence.{Sequence}
use Rattle.rl_seq.specs.declared.sequence.Sequence.TheVariants.{MemWalk}
use Rattle.rl_plain.specs.EachCall.{AgreeWithMemories}
use Rattle.rl_detect_laws.specs.Visited.{RunsAll, RunsSome}

-- the event names no field: a mark of a memory's location isn't one
abbrev pub NamesNoField : Event → Type 0
NamesNoField e = is_on_memory e.op ≡ false → e.differ ≡ 0

-- Where a device without flaws and a model without a volatile field agree, as new ones do, no event of a sequence names
-- a field, also where the recorder failed at the last one.
abbrev pub NothingIsNamed : Type 0
NothingIsNamed =
    (s new : Scene) (which : Sequence) (block : Option ℕ) (told : List Told)
    → IsModel s.model → AgreeWithMemories s → RunsAll which block s told new ⊎ RunsSome which block s told new
    → All (λ t. NamesNoField t.event) told

-- There `mem_walk` finds in each location that it checks what was written.
abbrev pub NoLocationDiffers : Type 0
NoLocationDiffers =
    (s new : Scene) (block : Option ℕ) (told : List Told)
    → IsModel s.model → AgreeWithMemories s → RunsAll MemWalk block s told new → All (λ t. t.event.differ ≡ 0) told

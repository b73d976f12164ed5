-- Woven accesses over any device, whatever it answers: the items of an access, its event, and what is believed.
use Rattle.std.specs.Prelude.{◌≡◌, ℕ, ◌+◌, ◌<◌, true, false, List, [], ◌∷◌, ◌++◌, length, map, take, Ok, IfSome, IfNone}
use Rattle.rl_bus.specs.Account.{without_peer}
use Rattle.rl_model.specs.Rows.{ChipData}
use Rattle.rl_model.specs.Fields.{fields_of}
use Rattle.rl_map.specs.Layout.{words_of}
use Rattle.rl_mirror.specs.Mirror.{MirrorData, mirrored_of, desired_of, marks_in}
use Rattle.rl_access.specs.declared.event.End.TheVariants.{BusError}
use Rattle.rl_access.specs.declared.event.Event.{Event}
use Rattle.rl_access.specs.declared.trace.TraceItem.{TraceItem}
use Rattle.rl_access.specs.Call.{Scene}
use Rattle.rl_access.specs.Gathering.{gathered_at, no_words}
use Rattle.rl_access.specs.Items.{has_failed}
use Rattle.rl_access.specs.Model.{ModelData, IsModel}
use Rattle.rl_access.specs.Observed.{implied, word_ops}
use Rattle.rl_access.specs.Rules.{grant}
use Rattle.rl_access.specs.Tally.{is_bus_error}
use Rattle.rl_access.specs.World.{scene_at}
use Rattle.rl_weave.specs.declared.weave.Step.{Step}
use Rattle.rl_weave.specs.declared.woven.Woven.{Woven}
use Rattle.rl_weave.specs.Access.{op_of, woven_at, IsNumbered}
use Rattle.rl_weave.specs.Step.{IsStepOf}
use Rattle.rl_weave.specs.Weave.{WeaveData, IsWeave, IsWeaveOn, stepped}
use Rattle.rl_weave_laws.specs.Half.{writes, gathered_of, IsOpen, NoneOpen, IsUnsent}
use Rattle.rl_weave_log.specs.WeaveLog.{Weaving, group, step_text}
use Rattle.rl_weave_laws.specs.Groups.{counted_in}
use Rattle.rl_weave_laws.specs.Runs.{Turn, RunsTo, events_of}

-- ---- an open access

-- The model grants it. Its items are its first words in order, none of them failed, and the predictor
-- has gathered exactly these.
pub record IsBegun (m : ModelData) (v : Woven) : Type 0 where
  pub numbers : IsNumbered m v.access
  pub granted : grant m (op_of v.access) ≡ Ok v.place
  pub words : v.words ≡ length (words_of m.layout v.place 0)
  pub ops : map (λ i. i.op) v.items ≡ take (length v.items) (word_ops m.layout v.place v.access.value)
  pub quiet : has_failed v.items ≡ false
  pub gathered : gathered_at m.gathered v.place ≡ gathered_of (writes v.access) v.items

-- so it is of each open access, and of no other place the predictor has gathered a word
pub record AreBegun (m : ModelData) (w : WeaveData) : Type 0 where
  pub each : (i : ℕ) → IsOpen w i → IsBegun m (woven_at w.accesses i)
  pub others : (place : ℕ) → NoneOpen w (λ v. v.place ≡ place) → gathered_at m.gathered place ≡ no_words

-- the predictor has gathered no word
abbrev pub HasGatheredNothing : ModelData → Type 0
HasGatheredNothing m = (place : ℕ) → gathered_at m.gathered place ≡ no_words

-- so it is before the first word
abbrev pub UnsentAreBegun : Type 0
UnsentAreBegun =
    (m : ModelData) (w : WeaveData) → IsWeave w → IsWeaveOn m w → IsUnsent w → HasGatheredNothing m → AreBegun m w

-- and the predictor has gathered nothing again, once no access is open
abbrev pub NoneOpenGathersNothing : Type 0
NoneOpenGathersNothing = (m : ModelData) (w : WeaveData) → AreBegun m w → w.still_open ≡ [] → HasGatheredNothing m

-- ---- the event of an access

-- the items are all words of the access in order, and none failed
pub record HasAllWords (m : ModelData) (v : Woven) (items : List TraceItem) : Type 0 where
  pub ops : map (λ i. i.op) items ≡ word_ops m.layout v.place v.access.value
  pub quiet : has_failed items ≡ false

-- the items are the words of the access in order, up to the first that failed, the one of that number
pub record StopsAtFailed (m : ModelData) (v : Woven) (items : List TraceItem) (word : ℕ) : Type 0 where
  pub front : List TraceItem
  pub last : TraceItem
  pub are : items ≡ front ++ last ∷ []
  pub number : word ≡ length front
  pub quiet : has_failed front ≡ false
  pub failed : last.answer.failed ≡ true
  pub ops : map (λ i. i.op) items ≡ take (word + 1) (word_ops m.layout v.place v.access.value)

-- an event ends by a bus error at the word that failed, or else has all words
pub record TellsWords (m : ModelData) (v : Woven) (event : Event) : Type 0 where
  pub failed : (word : ℕ) → event.end ≡ BusError word → StopsAtFailed m v event.trace word
  pub whole : is_bus_error event.end ≡ false → HasAllWords m v event.trace

-- ---- a word

-- One word of an open access was sent, and the open ones are again as told above.
pub record IsWordTaken (s new : Scene) (w : WeaveData) (which : ℕ) (step : Step) : Type 0 where
  pub begun : AreBegun new.model (stepped w which step.item)
  pub sound : IsModel new.model
  pub event : IfSome step.end (TellsWords s.model (woven_at w.accesses which))
  -- nothing is predicted before the last word, nor where the access ends by a bus error
  pub middle : IfNone step.end (new.model.mirror ≡ s.model.mirror)
  pub failed : IfSome step.end (λ e. is_bus_error e.end ≡ true → new.model.mirror ≡ s.model.mirror)
  -- the last word predicts once, what the access as a whole implies
  pub whole : IfSome step.end (λ e. is_bus_error e.end ≡ false → let v = woven_at w.accesses which in
      new.model.mirror ≡ implied s.model.chip s.model.layout v.place v.access.value e.trace s.model.mirror)

abbrev pub EachWordIsTaken : Type 0
EachWordIsTaken =
    (s new : Scene) (w : WeaveData) (which : ℕ) (step : Step)
    → IsModel s.model → IsWeave w → IsOpen w which → AreBegun s.model w
    → IsStepOf s new (woven_at w.accesses which) step
    → IsWordTaken s new w which step

-- ---- a register, while words of other accesses go between

-- what is believed of it stays: the mirrored value, the desired value and the marks of first writes
pub record KeepsRegister (c : ChipData) (reg : ℕ) (old new : MirrorData) : Type 0 where
  pub mirrored : mirrored_of new reg ≡ mirrored_of old reg
  pub desired : desired_of new reg ≡ desired_of old reg
  pub marks : (k : ℕ) → k < length (fields_of c reg) → marks_in c new.spent reg k ≡ marks_in c old.spent reg k

-- no step completes the access: where one ends it, it ends by a bus error
abbrev pub NoneCompletes : (i : ℕ) → List Turn → Type 0
NoneCompletes i [] = Unit {0}
NoneCompletes i (t ∷ turns) = (t.which ≡ i → IfSome t.step.end (λ e. is_bus_error e.end ≡ true)) × NoneCompletes i turns

-- An access that ended by a bus error, or is still open, left what is believed of its register,
-- whatever words went between.
abbrev pub BusErrorKeepsRegister : Type 0
BusErrorKeepsRegister =
    (s new : Scene) (w left : WeaveData) (turns : List Turn) (i : ℕ)
    → IsWeave w → AreBegun s.model w → RunsTo w s turns left new → IsOpen w i → NoneCompletes i turns
    → KeepsRegister s.model.chip (woven_at w.accesses i).access.reg s.model.mirror new.model.mirror

-- ---- a group of a script

-- the lines of these words: of each its item's, and behind the last one of an access its event's
abbrev pub turns_text : ModelData → List Turn → List ℕ
turns_text m [] = []
turns_text m (t ∷ turns) = step_text m t.step.item t.step.end ++ turns_text m turns

-- On the device model, with whatever flaws, the words of a group are such steps.
-- It writes their lines and counts their events.
pub record IsGroupRun (g : Weaving) (errors : ℕ) : Type 0 where
  pub turns : List Turn
  pub left : WeaveData
  pub later : ℕ
  pub run : RunsTo g.weave (scene_at g.world (without_peer errors)) turns left (scene_at (group g).after.world (without_peer later))
  pub none_left : left.still_open ≡ []
  pub text : (group g).text ≡ turns_text g.world.model turns
  pub counted : (group g).after.counts ≡ counted_in g.counts (events_of turns)
  -- the next group may begin
  pub sound : IsModel (group g).after.world.model
  pub nothing : HasGatheredNothing (group g).after.world.model

abbrev pub EachGroupRuns : Type 0
EachGroupRuns =
    (g : Weaving) (errors : ℕ)
    → IsModel g.world.model → IsWeave g.weave → IsWeaveOn g.world.model g.weave → IsUnsent g.weave
    → HasGatheredNothing g.world.model → IsGroupRun g errors

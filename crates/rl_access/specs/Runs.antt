-- Operations that are done one after another, each handed to a recorder,
-- up to and with the first that ends by a bus error.
use Rattle.std.specs.Prelude.{◌≡◌, ℕ, zero, suc, ◌+◌, ◌^◌, false, nat_lt, List, [], ◌∷◌, length, Option, Result, IfOk, MatchResult}
use Rattle.std.specs.Bool.{MatchBool}
use Rattle.std.specs.List.{list_all}
use Rattle.rl_access.specs.declared.event.Event.{Event}
use Rattle.rl_access.specs.declared.event.Op.{Op}
use Rattle.rl_access.specs.declared.event.Op.TheVariants as op
use Rattle.rl_access.specs.declared.event.Refused.{Refused}
use Rattle.rl_access.specs.declared.event.Refused.TheVariants.{TooWide}
use Rattle.rl_access.specs.declared.event.Tally.{Tally}
use Rattle.rl_access.specs.Call.{Scene, IsRefused, Performs}
use Rattle.rl_access.specs.HandsOver.{Told, HandsOver}
use Rattle.rl_access.specs.Model.{ModelData}
use Rattle.rl_access.specs.Operation.{location_size}
use Rattle.rl_access.specs.Rules.{Grant, grant, only_where}
use Rattle.rl_access.specs.Tally.{is_bus_error, counted}

-- one operation was done, and is told with the model as it is right after it
pub record IsOneStep (s new : Scene) (op : Op) (t : Told) : Type 0 where
  pub performs : Performs s new op t.event
  pub model : t.model ≡ new.model

-- what is told is each operation, in order, up to and with the first that ended by a bus error
abbrev pub RunsThrough : Scene → List Op → List Told → Scene → Type 0
RunsThrough s [] [] new = new ≡ s
RunsThrough s [] (t ∷ told) new = ⊥
RunsThrough s (op ∷ ops) [] new = ⊥
RunsThrough s (op ∷ ops) (t ∷ told) new =
    (mid : Scene)
    × IsOneStep s mid op t
    × MatchBool (is_bus_error t.event.end) ((told ≡ []) × (new ≡ mid)) (RunsThrough mid ops told new)

-- and where it broke off at its last: each before it ended without a bus error
abbrev pub RunsInto : Scene → List Op → List Told → Scene → Type 0
RunsInto s ops [] new = ⊥
RunsInto s [] (t ∷ told) new = ⊥
RunsInto s (op ∷ ops) (t ∷ []) new = IsOneStep s new op t
RunsInto s (op ∷ ops) (t ∷ u ∷ told) new =
    (mid : Scene) × IsOneStep s mid op t × (is_bus_error t.event.end ≡ false) × RunsInto mid ops (u ∷ told) new

-- ---- counted

abbrev pub no_tally : Tally
no_tally = record { steps = 0; differences = 0; errors = 0 }

abbrev pub counted_all : Tally → List Told → Tally
counted_all tally [] = tally
counted_all tally (t ∷ told) = counted_all (counted tally t.event) told

-- ---- handed over

-- at `Ok` all were done, and are counted; at `Err` the recorder failed at the last one
pub record IsRun {R E : Type 0} (takes breaks : R → ModelData → Event → R → Type 0) (old rec : R) (s new : Scene)
    (ops : List Op) (r : Result Tally E) : Type 0 where
  pub told : List Told
  pub handed : HandsOver takes breaks old told rec r
  pub run :
      MatchResult r (λ tally. RunsThrough s ops told new × (tally ≡ counted_all no_tally told))
      (λ failed. RunsInto s ops told new)

-- the one event of a refused operation
pub record IsRefusedRun {R E : Type 0} (takes breaks : R → ModelData → Event → R → Type 0) (old rec : R) (s new : Scene)
    (op : Op) (why : Refused) (r : Result Tally E) : Type 0 where
  pub event : Event
  pub refused : IsRefused s new op why event
  pub handed : HandsOver takes breaks old (record { model = s.model; event = event } ∷ []) rec r
  pub tally : IfOk r (λ tally. tally ≡ counted no_tally event)

-- an operation that is refused as a whole, or done as the operations that it stands for
abbrev pub IsBurst :
    {R E : Type 0}
    → (takes breaks : R → ModelData → Event → R → Type 0) → (old rec : R) → (s new : Scene) → Grant → Op → List Op
    → Result Tally E → Type 0
IsBurst takes breaks old rec s new granted op ops r =
    MatchResult granted (λ place. IsRun takes breaks old rec s new ops r)
    (λ why. IsRefusedRun takes breaks old rec s new op why r)

-- ---- bursts

-- a burst of which any value is too wide is refused
abbrev pub write_grant : ModelData → (mem : ℕ) → Option ℕ → (first : ℕ) → List ℕ → Grant
write_grant m mem map first values =
    only_where (grant m (op.BurstWrite mem map first (length values)))
    (list_all (λ v. nat_lt v (256 ^ location_size m.chip mem)) values) TooWide

-- A burst write: one write for each value, at consecutive locations (uvm_mem::burst_write, IEEE 1800.2-2017, 18.6).
abbrev pub writes_of : (mem : ℕ) → Option ℕ → (first : ℕ) → List ℕ → List Op
writes_of mem map first [] = []
writes_of mem map first (v ∷ values) = op.MemWrite mem map first v ∷ writes_of mem map (first + 1) values

-- A burst read: one read for each of consecutive locations (uvm_mem::burst_read, IEEE 1800.2-2017, 18.6).
abbrev pub reads_of : (mem : ℕ) → Option ℕ → (first count : ℕ) → List Op
reads_of mem map first zero = []
reads_of mem map first (suc count) = op.MemRead mem map first ∷ reads_of mem map (first + 1) count

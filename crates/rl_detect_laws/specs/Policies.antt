-- Which other policy of a field no sequence finds: one that takes each write as the described one does.
use Rattle.std.specs.Prelude.{◌≡◌, ◌≢◌, ℕ, ◌<◌, Bool, true, All, List, [], ◌∷◌, length, Option, Some, sum_by}
use Rattle.rl_policy.specs.Table.{after_write, value_read, spends_mark}
use Rattle.rl_policy.specs.declared.policy.Policy.{Policy}
use Rattle.rl_policy.specs.declared.policy.Policy.TheVariants.{Rw, Wrc, Wrs, Wc, Ws, Wsrc, Wcrs}
use Rattle.rl_bus.specs.Setup.{Flaws}
use Rattle.rl_bus.specs.State.{State, first_state}
use Rattle.rl_model.specs.Fields.{field_of}
use Rattle.rl_model.specs.Rows.{ChipData}
use Rattle.rl_model.specs.declared.rows.Item.TheVariants.{Reg}
use Rattle.rl_map.specs.Layout.{LayoutData}
use Rattle.rl_map.specs.Tables.{setup_of}
use Rattle.rl_split.specs.Law.{no_flaws}
use Rattle.rl_mirror.specs.Prediction.{fresh}
use Rattle.rl_access.specs.Call.{Scene}
use Rattle.rl_access.specs.Gathering.{IsNothingGathered}
use Rattle.rl_access.specs.HandsOver.{Told}
use Rattle.rl_access.specs.Model.{IsModel}
use Rattle.rl_access.specs.Operation.{reg_of}
use Rattle.rl_seq.specs.declared.sequence.Sequence.{Sequence}
use Rattle.rl_seq.specs.declared.sequence.Sequence.TheVariants.{HwReset, BitBash, Access, Shared, MemWalk}
use Rattle.rl_seq.specs.Choice.{is_of, may_read}
use Rattle.rl_plain.specs.Agree.{HasNoVolatile}
use Rattle.rl_plain.specs.EachCall.{AgreeWithMemories}
use Rattle.rl_detect_laws.specs.Named.{NamesNoField}
use Rattle.rl_detect_laws.specs.Visited.{RunsAll}

-- ---- the device

abbrev pub other_policy : (field : ℕ) → Policy → Flaws
other_policy field p = record no_flaws { policies = record { field = field; policy = p } ∷ [] }

-- what it has, without any flaw
abbrev pub as_described : ChipData → LayoutData → State → State
as_described c l d = record d { setup = setup_of c l no_flaws }

abbrev pub over : Scene → State → Scene
over s d = record s { device = Some d }

-- The device's only flaw is that this field has that policy. Without it device and model agree, as new ones do.
pub record AgreesBut (s : Scene) (field : ℕ) (p : Policy) : Type 0 where
  pub device : State
  pub told : s.device ≡ Some device
  pub setup : device.setup ≡ setup_of s.model.chip s.model.layout (other_policy field p)
  pub agree : AgreeWithMemories (over s (as_described s.model.chip s.model.layout device))

-- a new device with these flaws, with all locations of its memories
abbrev pub first_with : ChipData → LayoutData → Flaws → State
first_with c l flaws = first_state (setup_of c l flaws) (sum_by (λ m. m.size) c.mems)

-- New ones with this flaw are so, where no field is volatile.
abbrev pub NewOnesAgreeBut : Type 0
NewOnesAgreeBut =
    (s : Scene) (field : ℕ) (p : Policy) → IsModel s.model → HasNoVolatile s.model.chip
    → s.model.mirror ≡ fresh s.model.chip → IsNothingGathered s.model.gathered
    → s.device ≡ Some (first_with s.model.chip s.model.layout (other_policy field p)) → AgreesBut s field p

-- ---- the policies

-- a write leaves the same by both, whatever a bit held, and a read answers the same
pub record AreWrittenAlike (p q : Policy) : Type 0 where
  pub writes : (held other written spent : Bool) → after_write p held written spent ≡ after_write q other written spent
  pub reads : (held : Bool) → value_read p held ≡ value_read q held
  pub marks : spends_mark p ≡ spends_mark q

abbrev pub AllAlike : List Policy → Type 0
AllAlike ps = All (λ p. All (AreWrittenAlike p) ps) ps

abbrev pub PoliciesWrittenAlike : Type 0
PoliciesWrittenAlike =
    AllAlike (Rw ∷ Wrc ∷ Wrs ∷ []) × AllAlike (Wc ∷ Wcrs ∷ []) × AllAlike (Ws ∷ Wsrc ∷ [])

-- ---- the sequences

-- a place at which the register may be read
pub record IsReadAt (l : LayoutData) (reg place : ℕ) : Type 0 where
  pub place_in : place < length l.places
  pub register : is_of l place (Reg reg) ≡ true
  pub right : may_read l place ≡ true

abbrev pub IsOnlyOne : (ℕ → Type 0) → Type 0
IsOnlyOne IsSo = (n k : ℕ) → IsSo n → IsSo k → n ≡ k

-- The sequence never reads the register twice without a write between. `bit_bash` and `access_test` don't. `hw_reset`
-- doesn't where the register may be read at one place at most, and `shared_access` where beside each place it may be
-- read at one other place at most. Of `mem_walk`, which reads no register, nothing is said.
abbrev pub WritesBetween : Sequence → LayoutData → (reg : ℕ) → Type 0
WritesBetween HwReset l reg = IsOnlyOne (IsReadAt l reg)
WritesBetween BitBash l reg = Unit {0}
WritesBetween Access l reg = Unit {0}
WritesBetween Shared l reg = (written : ℕ) → IsOnlyOne (λ place. IsReadAt l reg place × (place ≢ written))
WritesBetween MemWalk l reg = ⊥

-- ---- the law

-- what is told is what the device as it is described tells
pub record TellsAsDescribed (which : Sequence) (block : Option ℕ) (s new : Scene) (d : State)
    (told : List Told) : Type 0 where
  pub after : State
  pub runs :
      RunsAll which block (over s (as_described s.model.chip s.model.layout d)) told (over new after)

abbrev pub OtherPolicyTellsNothing : Type 0
OtherPolicyTellsNothing =
    (s new : Scene) (which : Sequence) (block : Option ℕ) (told : List Told) (field : ℕ) (p : Policy)
    → IsModel s.model → (a : AgreesBut s field p) → field < length s.model.chip.fields
    → AreWrittenAlike (field_of s.model.chip field).shape.policy p
    → WritesBetween which s.model.layout (reg_of s.model.chip field) → RunsAll which block s told new
    → TellsAsDescribed which block s new a.device told

-- So no event names a field.
abbrev pub OtherPolicyIsNeverNamed : Type 0
OtherPolicyIsNeverNamed =
    (s new : Scene) (which : Sequence) (block : Option ℕ) (told : List Told) (field : ℕ) (p : Policy)
    → IsModel s.model → AgreesBut s field p → field < length s.model.chip.fields
    → AreWrittenAlike (field_of s.model.chip field).shape.policy p
    → WritesBetween which s.model.layout (reg_of s.model.chip field) → RunsAll which block s told new
    → All (λ t. NamesNoField t.event) told

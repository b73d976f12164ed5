-- A weave as data: what is added to it, and what a step leaves of it.
use Rattle.std.specs.Prelude.{◌≡◌, ℕ, ◌+◌, ◌-◌, ◌^◌, ◌<◌, ◌≤◌, ◌==◌, ◌||◌, nat_lt, not, Bool, true, false, if◌then◌else◌, List}
use Rattle.std.specs.Prelude.{[], ◌∷◌, ◌++◌, length, slice_set, filter, position, All, AllPairs, Option, None, Some, unwrap_or, Result, Ok, Err, sum_by}
use Rattle.rl_model.specs.declared.rows.Item.TheVariants.{Reg}
use Rattle.rl_map.specs.Layout.{place_of, words_of}
use Rattle.rl_access.specs.declared.event.Refused.{Refused}
use Rattle.rl_access.specs.declared.event.Refused.TheVariants as refused
use Rattle.rl_access.specs.declared.trace.TraceItem.{TraceItem}
use Rattle.rl_access.specs.Model.{ModelData}
use Rattle.rl_access.specs.Rules.{Grant, grant, item_size}
use Rattle.rl_weave.specs.declared.access.Access.{Access}
use Rattle.rl_weave.specs.declared.access.WeaveFault.{WeaveFault}
use Rattle.rl_weave.specs.declared.access.WeaveFault.TheVariants.{TooMany, NotPlaced, NotObserved, NoRight, TooWide, SameRegister}
use Rattle.rl_weave.specs.declared.woven.Woven.{Woven}
use Rattle.rl_weave.specs.Access.{op_of, woven_at, IsWovenOn}

pub record WeaveData : Type 0 where
  -- each access, in order of adding
  pub accesses : List Woven
  -- the numbers of the open ones, in order of adding
  pub still_open : List ℕ
  -- no step was made yet
  pub fresh : Bool

abbrev pub empty : WeaveData
empty = record { accesses = []; still_open = []; fresh = true }

-- a word of the access is left to send
pub record IsLeft (accesses : List Woven) (k : ℕ) : Type 0 where
  pub inside : k < length accesses
  pub short : length (woven_at accesses k).items < (woven_at accesses k).words

-- nothing was sent: each access is open, and none has an item
pub record HasSentNothing (w : WeaveData) : Type 0 where
  pub all_open : length w.still_open ≡ length w.accesses
  pub no_items : All (λ v. length v.items ≡ 0) w.accesses

pub record IsWeave (w : WeaveData) : Type 0 where
  pub few : length w.accesses ≤ 64
  pub apart : AllPairs (λ v u. v.access.reg ≡ u.access.reg → ⊥) w.accesses
  pub few_open : length w.still_open ≤ length w.accesses
  pub in_order : AllPairs (λ i k. i < k) w.still_open
  pub left : All (IsLeft w.accesses) w.still_open
  -- a fresh weave has sent nothing
  pub unsent : w.fresh ≡ true → HasSentNothing w

-- each access is as a model has it
abbrev pub IsWeaveOn : ModelData → WeaveData → Type 0
IsWeaveOn m w = All (IsWovenOn m) w.accesses

-- how many words an access has yet to send
abbrev pub left_of : Woven → ℕ
left_of v = v.words - length v.items

-- how many the open ones have
abbrev pub words_left : WeaveData → ℕ
words_left w = sum_by (λ k. left_of (woven_at w.accesses k)) w.still_open

-- ---- adding

-- a read has no value that the register must hold
abbrev pub value_fits : ModelData → (reg : ℕ) → (value : Option ℕ) → Bool
value_fits m reg None = true
value_fits m reg (Some value) = nat_lt value (256 ^ item_size m.chip (Reg reg))

-- the place that an access uses
abbrev pub place_used : ModelData → Access → ℕ
place_used m a = unwrap_or (place_of m.layout (Reg a.reg) a.map) 0

abbrev pub woven_of : ModelData → Access → Woven
woven_of m a =
    record { access = a; place = place_used m a; words = length (words_of m.layout (place_used m a) 0); items = [] }

abbrev pub appended : WeaveData → Woven → WeaveData
appended w v = record w { accesses = w.accesses ++ v ∷ []; still_open = w.still_open ++ length w.accesses ∷ [] }

abbrev pub adding : WeaveData → ModelData → Access → WeaveData
adding w m a = appended w (woven_of m a)

-- another master's access is refused for no other causes
abbrev pub fault_of : Refused → WeaveFault
fault_of refused.NotPlaced = NotPlaced
fault_of refused.NotObserved = NotObserved
fault_of refused.NoRight = NoRight
fault_of _ = TooWide

-- its place
abbrev pub place_granted : Grant → Result ℕ WeaveFault
place_granted (Ok place) = Ok place
place_granted (Err why) = Err (fault_of why)

-- the number of an access that no access has the register of
abbrev pub number_apart : WeaveData → (same : Option ℕ) → Result ℕ WeaveFault
number_apart w None = Ok (length w.accesses)
number_apart w (Some other) = Err (SameRegister other)

abbrev pub same_register : WeaveData → (reg : ℕ) → Option ℕ
same_register w reg = position (λ v. v.access.reg == reg) w.accesses

abbrev pub number_granted : WeaveData → (reg : ℕ) → Result ℕ WeaveFault → Result ℕ WeaveFault
number_granted w reg (Ok place) = number_apart w (same_register w reg)
number_granted w reg (Err fault) = Err fault

-- the number of an access, or its first fault
abbrev pub number_of : WeaveData → ModelData → Access → Result ℕ WeaveFault
number_of w m a =
    if nat_lt (length w.accesses) 64 then number_granted w a.reg (place_granted (grant m (op_of a)))
    else Err TooMany

-- ---- a step

-- the item is the last one of the access: it failed, or no word is left
abbrev pub is_over : Woven → TraceItem → Bool
is_over v item = item.answer.failed || (length v.items + 1 == v.words)

-- an access that is over keeps no item
abbrev pub going_on : Woven → TraceItem → Woven
going_on v item = record v { items = if is_over v item then [] else v.items ++ item ∷ [] }

abbrev pub without : ℕ → List ℕ → List ℕ
without k numbers = filter (λ i. not (i == k)) numbers

abbrev pub stepped : WeaveData → (which : ℕ) → TraceItem → WeaveData
stepped w which item =
    let v = woven_at w.accesses which in
    record {
      accesses = slice_set w.accesses which (going_on v item);
      still_open = if is_over v item then without which w.still_open else w.still_open;
      fresh = false;
    }

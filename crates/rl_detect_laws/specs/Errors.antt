-- Which sequences find an address that answers errors, or an item that fails by its number: each that reaches it.
use Rattle.std.specs.Prelude.{◌≡◌, ◌⊎◌, ℕ, ◌*◌, ◌<◌, ◌≤◌, ◌==◌, nat_le, ◌+◌, ◌&&◌, Bool, true, List, [], ◌∷◌, ◌++◌, length, slice_index_or, Option, Some}
use Rattle.std.specs.List.{list_any}
use Rattle.rl_bus.specs.Setup.{Setup}
use Rattle.rl_bus.specs.State.{State}
use Rattle.rl_model.specs.Rows.{ChipData}
use Rattle.rl_model.specs.Fields.{size_of}
use Rattle.rl_model.specs.declared.rows.Item.TheVariants.{Reg}
use Rattle.rl_map.specs.Layout.{LayoutData, place_at, words_of, Occupies}
use Rattle.rl_map.specs.Words.{no_word}
use Rattle.rl_access.specs.declared.event.End.TheVariants as end
use Rattle.rl_access.specs.declared.event.Event.{Event}
use Rattle.rl_access.specs.declared.trace.TraceItem.{TraceItem}
use Rattle.rl_access.specs.Call.{Scene}
use Rattle.rl_access.specs.HandsOver.{Told}
use Rattle.rl_access.specs.Model.{IsModel}
use Rattle.rl_seq.specs.declared.sequence.Sequence.{Sequence}
use Rattle.rl_seq.specs.declared.sequence.Sequence.TheVariants.{BitBash, Shared}
use Rattle.rl_seq.specs.Choice.{is_of, may_read, may_write, is_bit_compared}
use Rattle.rl_detect_laws.specs.Visited.{RunsAll, HasEvent, IsVisited}

-- by a flaw each item at this address of the port fails
abbrev pub is_error_at : Setup → (port address : ℕ) → Bool
is_error_at t port address =
    list_any (λ r. r.port == port && nat_le r.from address && nat_le address r.to) t.flaws.ranges

-- some word of a location of the place stands at such an address
pub record HasError (l : LayoutData) (t : Setup) (place index : ℕ) : Type 0 where
  pub address : ℕ
  pub stands : Occupies l (place_at l place).port address place index
  pub fails : is_error_at t (place_at l place).port address ≡ true

-- the event ended by a bus error at this item, which is its last one; these came before
pub record EndsAt (e : Event) (front : List TraceItem) (item : TraceItem) : Type 0 where
  pub ends : e.end ≡ end.BusError (length front)
  pub trace : e.trace ≡ front ++ item ∷ []
  pub fails : item.answer.failed ≡ true

-- It ended so at the word with this number of the location, or at one before it that failed first.
pub record FailsAtWord (l : LayoutData) (place index number : ℕ) (e : Event) : Type 0 where
  pub front : List TraceItem
  pub item : TraceItem
  pub at : EndsAt e front item
  pub upto : length front ≤ number
  pub port_is : item.port ≡ (place_at l place).port
  pub address_is :
      item.op.address ≡ (slice_index_or (words_of l place index) (length front) no_word).address

-- the sequence sends something to what it visits: `bit_bash` does where a bit of the register
-- belongs to a compared field
abbrev pub SendsSome : Sequence → ChipData → (number : ℕ) → Type 0
SendsSome BitBash c reg = (bit : ℕ) × (bit < 8 * size_of c reg) × (is_bit_compared c reg bit ≡ true)
SendsSome _ c number = Unit {0}

-- Where an address of a word of a visited place answers errors, some event ends by a bus error there, whatever else is
-- wrong with the device and whatever is believed.
abbrev pub VisitedErrorIsFound : Type 0
VisitedErrorIsFound =
    (s new : Scene) (d : State) (which : Sequence) (block : Option ℕ) (told : List Told) (number place index : ℕ)
    → IsModel s.model → s.device ≡ Some d → IsVisited which s.model.chip s.model.layout block number place
    → SendsSome which s.model.chip number → (error : HasError s.model.layout d.setup place index)
    → RunsAll which block s told new → HasEvent (FailsAtWord s.model.layout place index error.stands.number) told

-- another place of a register at which it has a right
pub record IsPlaceWithRight (l : LayoutData) (reg place : ℕ) : Type 0 where
  pub place_in : place < length l.places
  pub register : is_of l place (Reg reg) ≡ true
  pub right : (may_read l place ≡ true) ⊎ (may_write l place ≡ true)

-- So does `shared_access` at each place of a register that it visits, also at one that may only be read.
abbrev pub SharedErrorIsFound : Type 0
SharedErrorIsFound =
    (s new : Scene) (d : State) (block : Option ℕ) (told : List Told) (reg written place index : ℕ)
    → IsModel s.model → s.device ≡ Some d → IsVisited Shared s.model.chip s.model.layout block reg written
    → IsPlaceWithRight s.model.layout reg place → (error : HasError s.model.layout d.setup place index)
    → RunsAll Shared block s told new
    → HasEvent (FailsAtWord s.model.layout place index error.stands.number) told

-- by a flaw the item with this number fails
abbrev pub is_failing : Setup → (number : ℕ) → Bool
is_failing t number = list_any (λ nth. nth == number) t.flaws.nths

-- how many items the events have
abbrev pub items_in : List Told → ℕ
items_in [] = 0
items_in (t ∷ told) = length t.event.trace + items_in told

-- one of the events ended by a bus error at the item with this number, where so many were counted before the first one
pub record FailsAtItem (before number : ℕ) (told : List Told) : Type 0 where
  pub earlier : List Told
  pub own : Told
  pub later : List Told
  pub told_is : told ≡ earlier ++ own ∷ later
  pub front : List TraceItem
  pub item : TraceItem
  pub at : EndsAt own.event front item
  pub number_is : before + items_in earlier + length front + 1 ≡ number

-- Where the device took such an item while a sequence ran, some event ends by a bus error at it,
-- whatever else is wrong with the device.
abbrev pub NthErrorIsFound : Type 0
NthErrorIsFound =
    (s new : Scene) (d after : State) (which : Sequence) (block : Option ℕ) (told : List Told) (number : ℕ)
    → s.device ≡ Some d → new.device ≡ Some after → is_failing d.setup number ≡ true
    → d.items < number → number ≤ after.items
    → RunsAll which block s told new → FailsAtItem d.items number told

-- One operation that is sent alone.
use Rattle.std.proofs.Common.{◌≡◌, ℕ, ◌<◌, List, [], ◌∷◌, length, slice_get, Bool, true, false, All, Option, Some, refl, sym, ap, ◌∙◌, subst, arith}
use Rattle.std.proofs.lemmas.List.Elements.{All-head, All-cons}
use Rattle.rl_bus.specs.Account.{Account, Asks}
use Rattle.rl_bus.specs.Account as ask
use Rattle.rl_bus.specs.Device.{IsStep}
use Rattle.rl_bus.specs.Standing.{Standing, standing_at, moved_on, kind_at, kinds_of}
use Rattle.rl_bus.specs.State.{State}
use Rattle.rl_bus.specs.Wire.{Fits}
use Rattle.rl_bus.specs.declared.op.BusOp.{BusOp}
use Rattle.rl_map.specs.Layout.{LayoutData, place_at, port_at, IsSound}
use Rattle.rl_split.specs.Access.{kind_of}
use Rattle.rl_access.specs.declared.trace.TraceItem.{TraceItem}
use Rattle.rl_access.specs.Event.{ItemFits}
use Rattle.rl_access.specs.Call.{scene}
use Rattle.rl_access.specs.Items.{IsAnswerSmall, item_of, AreItemsOf, adapter_for, port_for}
use Rattle.rl_access.specs.Model.{ModelData}
use Rattle.rl_access.specs.Observed.{observing, word_ops}
use Rattle.rl_access.specs.Word.{IsWordSent}
use Rattle.rl_access.proofs.Ready.{fits_there}
use Rattle.rl_access.proofs.Traces.{items_fit}
use Rattle.rl_access.proofs.UnderWay.{IsNext, IsSentInOrder, under_way_first, under_way_next, under_way_failed, under_way_done, next_of}

none_past : {A : Type 0} (P : A → Type 0) → All P []
none_past P k d low = absurd (omega arith)

pub alone : {A : Type 0} (P : A → Type 0) (x : A) → P x → All P (x ∷ [])
alone P x h = All-cons P x [] h (none_past P)

-- it is a run of one operation
pub one_sent : {first new : List Standing} {which port : ℕ} {account later : Account} {op : BusOp} {item : TraceItem} {state after : Option State} →
    which < length first → item ≡ item_of (standing_at first which) port op item.answer → IsAnswerSmall item → new ≡ moved_on first which item.op item.answer → kinds_of new ≡ kinds_of first →
    Asks account later (ask.transfer item.port item.op item.tag item.answer) → IsStep state after port op item.answer →
    IsSentInOrder first new which port (op ∷ []) (item ∷ []) account later state after
one_sent {first} {new} {which} {port} {account} {later} {op} {item} {state} {after} within sent tiny moves keeps asked step =
    by item.answer.failed refl (next_of within refl sent tiny moves keeps asked step)
  where
    by : (b : Bool) → item.answer.failed ≡ b → IsNext first first new which port (op ∷ []) 0 item account later state after → IsSentInOrder first new which port (op ∷ []) (item ∷ []) account later
        state after
    by true e n = under_way_failed (under_way_first first which port (op ∷ []) account state) n e
    by false e n = under_way_done (under_way_next (under_way_first first which port (op ∷ []) account state) n e) (omega arith)

-- the adapter of the place's port carries it
pub op_fits_there : (m : ModelData) (standings : List Standing) (which place : ℕ) (op : BusOp) → IsSound m.layout → (place_at m.layout place).port < length m.layout.ports →
    kinds_of standings ≡ m.layout.kinds
    → which ≡ (port_at m.layout (place_at m.layout place).port).adapter → Fits (kind_of m.layout place) op → Fits (kind_at (kinds_of standings) which) op
op_fits_there m standings which place op sound inside same is fits =
    All-head (Fits (kind_at (kinds_of standings) which)) op [] (fits_there m standings which place (op ∷ []) sound inside same is (alone (Fits (kind_of m.layout place)) op fits))

pub item_fits_there : (l : LayoutData) (port place : ℕ) (s : Standing) (op : BusOp) (item : TraceItem) → AreItemsOf s port (op ∷ []) (item ∷ []) → port < length l.ports →
    op.bytes ≡ (port_at l port).bytes → Fits (kind_of l place) op → IsAnswerSmall item → ItemFits l item
item_fits_there l port place s op item items inside bytes fits small =
    All-head (ItemFits l) item [] (items_fit l port (kind_of l place) s (op ∷ []) (item ∷ []) items inside (alone (λ o. o.bytes ≡ (port_at l port).bytes) op bytes) (alone (Fits (kind_of l place)) op
    fits) (alone IsAnswerSmall item small))

pub item_fits_sent : {first new : List Standing} {which port : ℕ} {account later : Account} {op : BusOp} {item : TraceItem} {state after : Option State} (l : LayoutData) (place : ℕ) →
    IsSentInOrder first new which port (op ∷ []) (item ∷ []) account later state after →
    port < length l.ports → op.bytes ≡ (port_at l port).bytes → Fits (kind_of l place) op → IsAnswerSmall item → ItemFits l item
item_fits_sent {first} {new} {which} {port} {account} {later} {op} {item} {state} {after} l place sent inside bytes fits small = item_fits_there l port place (standing_at first which) op item
    sent.sent.items_are inside bytes fits small

-- the word of an access went to the port of its place, through that port's adapter
pub word_sent : {first new : List Standing} {account later : Account} {state after : Option State} (m left : ModelData) (place k : ℕ) (value : Option ℕ) (which port : ℕ) (op : BusOp) (item : TraceItem) →
    slice_get (word_ops m.layout place value) k ≡ Some op → port ≡ port_for m.layout place → which ≡ adapter_for m.layout place →
    item ≡ item_of (standing_at first which) port op item.answer → new ≡ moved_on first which item.op item.answer → Asks account later (ask.transfer item.port item.op item.tag item.answer) →
    IsStep state after port op item.answer → left ≡ observing m item → IsWordSent (scene m first account state) (scene left new later after) place k value item
word_sent {first} {new} {account} {later} {state} {after} m left place k value which port op item word there through sent moves asked step seen =
    let same : op ≡ item.op = sym (ap (λ (i : TraceItem). i.op) sent) in
    record {
      op = word ∙ ap Some same;
      item_is =
          sent
          ∙ ap (λ w. item_of (standing_at first w) port op item.answer) through
          ∙ ap (λ p. item_of (standing_at first (adapter_for m.layout place)) p op item.answer) there
          ∙ ap (λ o. item_of (standing_at first (adapter_for m.layout place)) (port_for m.layout place) o item.answer) same;
      adapters = moves ∙ ap (λ w. moved_on first w item.op item.answer) through;
      asked = asked;
      step = subst (λ o. IsStep state after (port_for m.layout place) o item.answer) same (subst (λ p. IsStep state after p op item.answer) there step);
      model = seen;
    }

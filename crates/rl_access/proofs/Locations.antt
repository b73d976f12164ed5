-- Locations of memories.
use Rattle.std.proofs.Common.{◌≡◌, ℕ, ◌*◌, ◌^◌, ◌<◌, ◌≤◌, Bool, false, List, Option, Some, sym, ap, ◌∙◌, subst}
use Rattle.rl_policy.specs.Bits.{from_bits}
use Rattle.rl_policy.proofs.BitLemmas.{from_bits-lt}
use Rattle.rl_bus.specs.Account.{Account}
use Rattle.rl_bus.specs.Standing.{Standing}
use Rattle.rl_bus.specs.State.{State}
use Rattle.rl_model.specs.Rows.{ChipData}
use Rattle.rl_model.specs.Chip.{bytes_of}
use Rattle.rl_model.specs.declared.rows.Item.TheVariants as item
use Rattle.rl_map.specs.Layout.{LayoutData, place_at}
use Rattle.rl_split.specs.Access.{IsChoice, all_bytes, ops_of}
use Rattle.rl_split.specs.Outgoing.{outgoing_ops}
use Rattle.rl_split.specs.declared.access.Outgoing.{Outgoing}
use Rattle.rl_access.specs.declared.event.End.{End}
use Rattle.rl_access.specs.declared.event.End.TheVariants as end
use Rattle.rl_access.specs.declared.trace.TraceItem.{TraceItem}
use Rattle.rl_access.specs.Access.{IsPlaceFor}
use Rattle.rl_access.specs.Items.{AreSent, adapter_for, failed_at, port_for}
use Rattle.rl_access.specs.Model.{ModelData, IsModel}
use Rattle.rl_access.specs.Operation.{location_size}
use Rattle.rl_access.specs.Rules.{location_bytes, location_value, low_bytes, or_error, quiet}
use Rattle.rl_access.proofs.Bytes.{bytes_bits, below_digits}
use Rattle.rl_access.proofs.Places.{size_is, place_size, all_chosen}

-- the lowest bytes of a word have the location's digits
pub taken_digits : (c : ChipData) (mem bytes value : ℕ) (f : ℕ → Bool) → bytes_of c (item.Mem mem) ≡ Some bytes → value ≡ from_bits (8 * bytes) f → value < 16 ^ (2 * location_size c mem)
taken_digits c mem bytes value f e is =
    let size : location_size c mem ≡ bytes = size_is c (item.Mem mem) bytes e in
    let low : value < 2 ^ (8 * bytes) = subst (λ v. v < 2 ^ (8 * bytes)) (sym is) (from_bits-lt (8 * bytes) f) in
    subst (λ n. value < 16 ^ (2 * n)) (sym size) (below_digits bytes value (subst (λ n. value < n) (bytes_bits bytes) low))

-- all bytes of a location
pub location_chosen : (m : ModelData) (mem place bytes chosen : ℕ) → IsModel m → IsPlaceFor m (item.Mem mem) place → bytes_of m.chip (item.Mem mem) ≡ Some bytes → 1 ≤ bytes →
    chosen ≡ all_bytes bytes → IsChoice (place_at m.layout place).bytes chosen
location_chosen m mem place bytes chosen ok there e some all =
    let size : location_size m.chip mem ≡ bytes = size_is m.chip (item.Mem mem) bytes e in
    let same : (place_at m.layout place).bytes ≡ bytes = place_size m (item.Mem mem) place ok there ∙ size in
    subst (λ n. IsChoice n chosen) (sym same) (subst (λ n. IsChoice bytes n) (sym all) (all_chosen bytes some))

pub location_digits : (m : ModelData) (mem place value : ℕ) → IsModel m → IsPlaceFor m (item.Mem mem) place → value < 256 ^ (place_at m.layout place).bytes →
    value < 16 ^ (2 * location_size m.chip mem)
location_digits m mem place value ok there low = below_digits (location_size m.chip mem) value (subst (λ n. value < 256 ^ n) (place_size m (item.Mem mem) place ok there) low)

-- the lowest bytes of a word
pub taken_low : (c : ChipData) (mem bytes value word : ℕ) → bytes_of c (item.Mem mem) ≡ Some bytes → value ≡ low_bytes bytes word → value ≡ low_bytes (location_size c mem) word
taken_low c mem bytes value word e is = is ∙ ap (λ n. low_bytes n word) (sym (size_is c (item.Mem mem) bytes e))

-- what went out, by an equal access
pub same_sent : {items : List TraceItem} {before now : List Standing} {account later : Account} {state after : Option State} (l : LayoutData) (o it : Outgoing) → o ≡ it →
    AreSent (adapter_for l o.place) (port_for l o.place) (outgoing_ops l o) items before now account later state after →
    AreSent (adapter_for l it.place) (port_for l it.place) (outgoing_ops l it) items before now account later state after
same_sent {items} {before} {now} {account} {later} {state} {after} l o it same sent =
    subst (λ (x : Outgoing). AreSent (adapter_for l x.place) (port_for l x.place) (outgoing_ops l x) items before now account later state after) same sent

-- and told by equal items
pub told_sent : {items told : List TraceItem} {before now : List Standing} {account later : Account} {state after : Option State} (l : LayoutData) (o it : Outgoing) → o ≡ it → told ≡ items →
    AreSent (adapter_for l o.place) (port_for l o.place) (outgoing_ops l o) items before now account later state after →
    AreSent (adapter_for l it.place) (port_for l it.place) (outgoing_ops l it) told before now account later state after
told_sent {items} {told} {before} {now} {account} {later} {state} {after} l o it same all sent =
    subst (λ (t : List TraceItem). AreSent (adapter_for l it.place) (port_for l it.place) (outgoing_ops l it) t before now account later state after) (sym all) (same_sent l o it same sent)

-- a read of a location by an equal number
pub read_at : (m : ModelData) (mem place index it : ℕ) (items : List TraceItem) (e : End) (before now : List Standing) (account later : Account) (state after : Option State) → index ≡ it →
    AreSent (adapter_for m.layout place) (port_for m.layout place) (ops_of m.layout place index (location_bytes m mem) 0 false) items before now account later state after →
    e ≡ (or_error (failed_at items) m (quiet (end.Value (location_value m mem place index items)) m)).end →
    AreSent (adapter_for m.layout place) (port_for m.layout place) (ops_of m.layout place it (location_bytes m mem) 0 false) items before now account later state after
    × (e ≡ (or_error (failed_at items) m (quiet (end.Value (location_value m mem place it items)) m)).end)
read_at m mem place index it items e before now account later state after same sent ends = (
  subst (λ i. AreSent (adapter_for m.layout place) (port_for m.layout place) (ops_of m.layout place i (location_bytes m mem) 0 false) items before now account later state after) same sent,
  subst (λ i. e ≡ (or_error (failed_at items) m (quiet (end.Value (location_value m mem place i items)) m)).end) same ends,
)

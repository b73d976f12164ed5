-- What each call may use, and what is so again after it.
use Rattle.std.proofs.Common.{◌≡◌, ℕ, ◌<◌, List, length, All, Option, None, Some, option_map, refl, sym, ap, ◌∙◌, subst}
use Rattle.std.proofs.lemmas.List.{length-map}
use Rattle.std.proofs.lemmas.Option.{get_or_from_slice_get}
use Rattle.rl_bus.specs.Account.{Account}
use Rattle.rl_bus.specs.declared.op.BusOp.{BusOp}
use Rattle.rl_bus.specs.Device.{IsPortOf}
use Rattle.rl_bus.specs.Standing.{Standing, kind_in, kinds_of, kind_at, no_kind}
use Rattle.rl_bus.specs.State.{State}
use Rattle.rl_bus.specs.Wire.{Fits}
use Rattle.rl_bus.specs.Setup.{Setup, Flaws}
use Rattle.rl_model.specs.Rows.{ChipData}
use Rattle.rl_map.specs.declared.rows.PortRow.{PortRow}
use Rattle.rl_map.specs.Layout.{LayoutData, place_at, port_at, IsSound}
use Rattle.rl_map.specs.Tables.{setup_of}
use Rattle.rl_split.specs.Access.{kind_of}
use Rattle.rl_split.specs.Outgoing.{outgoing_ops}
use Rattle.rl_split.specs.declared.access.Outgoing.{Outgoing}
use Rattle.rl_access.specs.declared.trace.TraceItem.{TraceItem}
use Rattle.rl_access.specs.Items.{AreSent, adapter_for, port_for, state_after_all}
use Rattle.rl_access.specs.Model.{ModelData, IsDeviceOf, IsReady}
use Rattle.rl_access.proofs.Setups.{setup-state_after_all}

row_bytes : PortRow → ℕ
row_bytes p = p.bytes

-- a port of the layout is one of the device
ports_of : (c : ChipData) (l : LayoutData) (flaws : Flaws) → length (setup_of c l flaws).ports ≡ length l.ports
unfolding setup_of
ports_of c l flaws = length-map l.ports (λ (p : PortRow). p.bytes)

pub port_of_device : (m : ModelData) (told : Option State) (port : ℕ) → IsDeviceOf m told → port < length m.layout.ports → IsPortOf told port
port_of_device m told port device inside s e =
    let t = device s e in
    subst (λ n. port < n) (sym (ap (λ (t : Setup). length t.ports) t.setup ∙ ports_of m.chip m.layout t.flaws)) inside

-- the adapter of a port is among those handed in
pub adapter_there : (m : ModelData) (standings : List Standing) (which : ℕ) → kinds_of standings ≡ m.layout.kinds → which < length m.layout.kinds → which < length standings
adapter_there m standings which same inside = subst (λ n. which < n) (sym (ap length same) ∙ length-map standings kind_in) inside

-- and has the port's kind
pub kind_there : (m : ModelData) (standings : List Standing) (port : ℕ) → IsSound m.layout → port < length m.layout.ports → kinds_of standings ≡ m.layout.kinds →
    kind_at (kinds_of standings) (port_at m.layout port).adapter ≡ (port_at m.layout port).kind
kind_there m standings port sound inside same =
    ap (λ kinds. kind_at kinds (port_at m.layout port).adapter) same
    ∙ get_or_from_slice_get m.layout.kinds (port_at m.layout port).adapter (port_at m.layout port).kind no_kind (sound.each_port port inside).adapter

-- no item takes the device from the model
device_later : (m : ModelData) (before : Option State) (items : List TraceItem) → IsDeviceOf m before → IsDeviceOf m (option_map (λ d. state_after_all d items) before)
device_later m None items device s e = absurd (cc)
device_later m (Some d) items device s e =
    let same : state_after_all d items ≡ s = cc in
    let t = device d refl in
    record { flaws = t.flaws; setup = ap (λ (s : State). s.setup) (sym same) ∙ setup-state_after_all d items ∙ t.setup }

pub ready_later : (m : ModelData) (which port : ℕ) (ops : List BusOp) (items : List TraceItem) (before now : List Standing) (account later : Account) (told after : Option State) →
    AreSent which port ops items before now account later told after → kinds_of now ≡ kinds_of before → IsReady m before told → IsReady m now after
ready_later m which port ops items before now account later told after sent kinds ready = record {
  kinds = kinds ∙ ready.kinds;
  device = subst (IsDeviceOf m) (sym sent.run.goes) (device_later m told items ready.device);
}

-- the adapter of a place's port carries what its kind carries
pub fits_there : (m : ModelData) (standings : List Standing) (which place : ℕ) (ops : List BusOp) → IsSound m.layout → (place_at m.layout place).port < length m.layout.ports →
    kinds_of standings ≡ m.layout.kinds
    → which ≡ (port_at m.layout (place_at m.layout place).port).adapter → All (Fits (kind_of m.layout place)) ops → All (Fits (kind_at (kinds_of standings) which)) ops
fits_there m standings which place ops sound inside same is fits =
    let kind : kind_at (kinds_of standings) which ≡ kind_of m.layout place = ap (λ w. kind_at (kinds_of standings) w) is ∙ kind_there m standings (place_at m.layout place).port sound inside same in
    subst (λ k. All (Fits k) ops) (sym kind) fits

-- what went out by the place's port and adapter, and by an equal layout
pub sent_at : {items : List TraceItem} {before now : List Standing} {account later : Account} {told after : Option State} (l here : LayoutData) (o : Outgoing) (which port : ℕ) → here ≡ l →
    port ≡ port_for l o.place → which ≡ adapter_for l o.place → AreSent which port (outgoing_ops here o) items before now account later told after →
    AreSent (adapter_for l o.place) (port_for l o.place) (outgoing_ops l o) items before now account later told after
sent_at {items} {before} {now} {account} {later} {told} {after} l here o which port same there through sent =
    subst (λ w. AreSent w (port_for l o.place) (outgoing_ops l o) items before now account later told after) through
    (subst (λ p. AreSent which p (outgoing_ops l o) items before now account later told after) there
    (subst (λ x. AreSent which port (outgoing_ops x o) items before now account later told after) same sent))

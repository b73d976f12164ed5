use Rattle.std.proofs.Common.{◌≡◌, ◌<◌, All, length, ap, sym, subst, ◌∙◌}
use Rattle.rl_map.specs.Layout.{LayoutData, place_at, port_at}
use Rattle.rl_bus.specs.Wire.{Fits}
use Rattle.rl_split.specs.Access.{kind_of}
use Rattle.rl_split.specs.Outgoing.{outgoing_ops}
use Rattle.rl_split.proofs.Sent.{outgoing_fits}
use Rattle.rl_access.specs.Access.{IsBrought}
use Rattle.rl_split.specs.Outgoing.{IsOutgoingOn}
use Rattle.rl_access.proofs.Ready.{adapter_there, port_of_device, fits_there, ready_later, sent_at}
use Rattle.rl_access.proofs.Traces.{items_fit, ops_have_bytes}
use Rattle.rl_access.proofs.engine.send.Goals as goal

pub send_all-requires-clause-port : goal.send_all-requires-clause-port
send_all-requires-clause-port g c =
    port_of_device c.args.model.now (g.D.Device.state c.args.device.now) c.port_of-port.result c.requires.ready.device
    (subst (λ (l : LayoutData). c.port_of-port.result < length l.ports) c.layout-layout.ensures.layout c.port_of-port.ensures.in_range)

pub send_all-requires-clause-fits : goal.send_all-requires-clause-fits
send_all-requires-clause-fits g c =
    let m = c.args.model.now in
    let s = c.args.outgoing.now in
    let same = c.layout-layout.ensures.layout in
    let port : c.port_of-port.result ≡ (place_at m.layout s.place).port = c.port_of-port.ensures.port ∙ ap (λ (l : LayoutData). (place_at l s.place).port) same in
    let inside : (place_at m.layout s.place).port < length m.layout.ports = subst (λ p. p < length m.layout.ports) port
    (subst (λ (l : LayoutData). c.port_of-port.result < length l.ports) same c.port_of-port.ensures.in_range) in
    let which : c.adapter-which.result ≡ (port_at m.layout (place_at m.layout s.place).port).adapter =
    c.adapter-which.ensures.adapter ∙ ap (λ (l : LayoutData). (port_at l c.port_of-port.result).adapter) same ∙ ap (λ p. (port_at m.layout p).adapter) port in
    let sound = c.layout-layout.ensures.sound.layout in
    fits_there m _ c.adapter-which.result s.place (outgoing_ops c.layout-layout.result.now s) sound inside c.requires.ready.kinds which
    (subst (λ (l : LayoutData). All (Fits (kind_of m.layout s.place)) (outgoing_ops l s)) (sym same) (outgoing_fits m.layout s sound c.requires.outgoing))

pub returns-clause-ready : goal.returns-clause-ready
returns-clause-ready g c = ready_later c.args.model.now _ _ _ _ _ _ _ _ _ _ c.send_all.ensures.sent c.send_all.ensures.kinds c.requires.ready

pub returns-clause-fit : goal.returns-clause-fit
returns-clause-fit g c =
    let m = c.args.model.now in
    let s = c.args.outgoing.now in
    let same = c.layout-layout.ensures.layout in
    let port : c.port_of-port.result ≡ (place_at m.layout s.place).port = c.port_of-port.ensures.port ∙ ap (λ (l : LayoutData). (place_at l s.place).port) same in
    let inside : c.port_of-port.result < length m.layout.ports = subst (λ (l : LayoutData). c.port_of-port.result < length l.ports) same c.port_of-port.ensures.in_range in
    items_fit m.layout c.port_of-port.result (kind_of m.layout s.place) _ (outgoing_ops c.layout-layout.result.now s) c.send_all.new.trace c.send_all.ensures.sent.items_are inside
    (subst (λ (l : LayoutData). All (λ o. o.bytes ≡ (port_at m.layout c.port_of-port.result).bytes) (outgoing_ops l s)) (sym same)
    (subst (λ p. All (λ o. o.bytes ≡ (port_at m.layout p).bytes) (outgoing_ops m.layout s)) (sym port) (ops_have_bytes m.layout s.place s.index s.chosen s.value s.write)))
    (subst (λ (l : LayoutData). All (Fits (kind_of m.layout s.place)) (outgoing_ops l s)) (sym same) (outgoing_fits m.layout s c.layout-layout.ensures.sound.layout c.requires.outgoing))
    c.send_all.ensures.small

pub send_all-requires-clause-in_range : goal.send_all-requires-clause-in_range
send_all-requires-clause-in_range g c =
    adapter_there c.args.model.now _ c.adapter-which.result c.requires.ready.kinds
    (subst (λ (l : LayoutData). c.adapter-which.result < length l.kinds) c.layout-layout.ensures.layout c.adapter-which.ensures.in_range)

pub send_all-requires-clause-outgoing : goal.send_all-requires-clause-outgoing
send_all-requires-clause-outgoing g c = subst (λ (l : LayoutData). IsOutgoingOn l c.args.outgoing.now) (sym c.layout-layout.ensures.layout) c.requires.outgoing

pub returns-clause-sent : goal.returns-clause-sent
returns-clause-sent g c =
    let l = c.args.model.now.layout in
    let s = c.args.outgoing.now in
    let same = c.layout-layout.ensures.layout in
    let port : c.port_of-port.result ≡ (place_at l s.place).port = c.port_of-port.ensures.port ∙ ap (λ (x : LayoutData). (place_at x s.place).port) same in
    sent_at l c.layout-layout.result.now s c.adapter-which.result c.port_of-port.result same port
    (c.adapter-which.ensures.adapter ∙ ap (λ (x : LayoutData). (port_at x c.port_of-port.result).adapter) same ∙ ap (λ p. (port_at l p).adapter) port) c.send_all.ensures.sent

pub returns-clause-value : goal.returns-clause-value
returns-clause-value g c =
    λ reads. subst (λ (l : LayoutData). IsBrought l c.args.outgoing.now c.send_all.new.trace c.send_all.result) c.layout-layout.ensures.layout (c.send_all.ensures.value reads)

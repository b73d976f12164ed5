use Rattle.std.proofs.Common.{◌≡◌, ◌<◌, length, slice_get, Some, ap, sym, subst, ◌∙◌, map}
use Rattle.rl_map.specs.Layout.{LayoutData, place_at, port_at}
use Rattle.rl_access.specs.Event.{ItemFits}
use Rattle.rl_access.specs.Model.{ModelData, IsReady}
use Rattle.rl_access.specs.Observed.{word_ops}
use Rattle.rl_access.specs.declared.trace.TraceItem.{TraceItem}
use Rattle.rl_access.proofs.Ready.{port_of_device, adapter_there, ready_later}
use Rattle.rl_access.proofs.OneWord.{one_sent, op_fits_there, item_fits_sent, word_sent}
use Rattle.rl_access.proofs.word.send_word.Goals as goal

pub send_one-item-requires-clause-port : goal.send_one-item-requires-clause-port
send_one-item-requires-clause-port g c =
    port_of_device c.args.model.now (g.D.Device.state c.args.device.now) c.port_of-port.result c.requires.ready.device
    (subst (λ (l : LayoutData). c.port_of-port.result < length l.ports) c.layout.ensures.layout c.port_of-port.ensures.in_range)

pub send_one-item-requires-clause-fits : goal.send_one-item-requires-clause-fits
send_one-item-requires-clause-fits g c =
    let m = c.args.model.now in
    let port : c.port_of-port.result ≡ (place_at m.layout c.args.place).port =
    c.port_of-port.ensures.port ∙ ap (λ (l : LayoutData). (place_at l c.args.place).port) c.layout.ensures.layout in
    let inside : (place_at m.layout c.args.place).port < length m.layout.ports =
    subst (λ p. p < length m.layout.ports) port
    (subst (λ (l : LayoutData). c.port_of-port.result < length l.ports) c.layout.ensures.layout c.port_of-port.ensures.in_range) in
    let which : c.adapter-which.result ≡ (port_at m.layout (place_at m.layout c.args.place).port).adapter =
    c.adapter-which.ensures.adapter
    ∙ ap (λ (l : LayoutData). (port_at l c.port_of-port.result).adapter) c.layout-2.ensures.layout
    ∙ ap (λ p. (port_at m.layout p).adapter) port in
    op_fits_there m _ c.adapter-which.result c.args.place c.word_of-op.result c.layout.ensures.sound.layout inside
    c.requires.ready.kinds which c.word_of-op.ensures.fits

pub returns-clause-ready : goal.returns-clause-ready
returns-clause-ready g c =
    let m = c.args.model.now in
    let done = c.send_one-item.ensures in
    let which : c.adapter-which.result < length m.layout.kinds =
    subst (λ (l : LayoutData). c.adapter-which.result < length l.kinds) c.layout-2.ensures.layout c.adapter-which.ensures.in_range in
    let sent = one_sent (adapter_there m _ c.adapter-which.result c.requires.ready.kinds which) done.item done.small done.adapters
    done.kinds done.asked done.step in
    subst (λ (x : ModelData). IsReady x (map (λ b. (goal.Adapter-dyn g (b.vtable, b.value)).standing b.value)
    c.send_one-item.new.adapters.items) (g.D.Device.state c.send_one-item.new.device)) (sym c.observe.ensures)
    (ready_later m _ _ _ _ _ _ _ _ _ _ sent.sent sent.kinds c.requires.ready)

pub returns-clause-fits : goal.returns-clause-fits
returns-clause-fits g c =
    let m = c.args.model.now in
    let done = c.send_one-item.ensures in
    let port : c.port_of-port.result ≡ (place_at m.layout c.args.place).port =
    c.port_of-port.ensures.port ∙ ap (λ (l : LayoutData). (place_at l c.args.place).port) c.layout.ensures.layout in
    let inside : c.port_of-port.result < length m.layout.ports =
    subst (λ (l : LayoutData). c.port_of-port.result < length l.ports) c.layout.ensures.layout c.port_of-port.ensures.in_range in
    let which : c.adapter-which.result < length m.layout.kinds =
    subst (λ (l : LayoutData). c.adapter-which.result < length l.kinds) c.layout-2.ensures.layout c.adapter-which.ensures.in_range in
    let sent = one_sent (adapter_there m _ c.adapter-which.result c.requires.ready.kinds which) done.item done.small done.adapters
    done.kinds done.asked done.step in
    subst (λ (x : ModelData). ItemFits x.layout c.send_one-item.result) (sym c.observe.ensures)
    (item_fits_sent m.layout c.args.place sent inside
    (c.word_of-op.ensures.bytes ∙ ap (λ p. (port_at m.layout p).bytes) (sym port)) c.word_of-op.ensures.fits done.small)

pub send_one-item-requires-clause-in_range : goal.send_one-item-requires-clause-in_range
send_one-item-requires-clause-in_range g c =
    adapter_there c.args.model.now _ c.adapter-which.result c.requires.ready.kinds
    (subst (λ (l : LayoutData). c.adapter-which.result < length l.kinds) c.layout-2.ensures.layout c.adapter-which.ensures.in_range)

pub observe-requires-clause-word : goal.observe-requires-clause-word
observe-requires-clause-word g c =
    let word = subst (λ o. slice_get (word_ops c.args.model.now.layout c.args.place c.args.value) c.args.k ≡ Some o) (sym (ap (λ (i : TraceItem). i.op) c.send_one-item.ensures.item)) c.word_of-op.ensures.word in
    (c.args.value, c.args.k, word)

pub observe-requires-clause-port : goal.observe-requires-clause-port
observe-requires-clause-port g c =
    ap (λ (i : TraceItem). i.port) c.send_one-item.ensures.item ∙ c.port_of-port.ensures.port ∙ ap (λ (l : LayoutData). (place_at l c.args.place).port) c.layout.ensures.layout

pub returns-clause-parts : goal.returns-clause-parts
returns-clause-parts g c = record { chip = ap (λ (x : ModelData). x.chip) c.observe.ensures; layout = ap (λ (x : ModelData). x.layout) c.observe.ensures }

pub returns-clause-sent : goal.returns-clause-sent
returns-clause-sent g c =
    let m = c.args.model.now in
    let done = c.send_one-item.ensures in
    let port : c.port_of-port.result ≡ (place_at m.layout c.args.place).port =
    c.port_of-port.ensures.port ∙ ap (λ (l : LayoutData). (place_at l c.args.place).port) c.layout.ensures.layout in
    let which : c.adapter-which.result ≡ (port_at m.layout (place_at m.layout c.args.place).port).adapter =
    c.adapter-which.ensures.adapter
    ∙ ap (λ (l : LayoutData). (port_at l c.port_of-port.result).adapter) c.layout-2.ensures.layout
    ∙ ap (λ p. (port_at m.layout p).adapter) port in
    word_sent m c.observe.new.self c.args.place c.args.k c.args.value c.adapter-which.result c.port_of-port.result c.word_of-op.result c.send_one-item.result c.word_of-op.ensures.word port which
    done.item done.adapters done.asked done.step c.observe.ensures

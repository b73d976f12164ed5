use Rattle.std.proofs.Common.{ap, sym, ◌∙◌, subst}
use Rattle.std.specs.Prelude.{Some}
use Rattle.rl_bus.specs.declared.op.BusOp.{BusOp}
use Rattle.rl_bus.specs.Wire.{Fits}
use Rattle.rl_map.specs.Layout.{place_at}
use Rattle.rl_split.specs.Access.{all_bytes, kind_of, bus_bytes_of}
use Rattle.rl_split.proofs.Sending.{is_here}
use Rattle.rl_split.proofs.Sent.{op_fits}
use Rattle.rl_split.proofs.Whole.{op_of_word, whole_is}
use Rattle.rl_split.proofs.access.whole_op.Goals as goal

pub returns-clause-op : goal.returns-clause-op
returns-clause-op c =
    let l = c.args.layout.now in
    let here = is_here l c.args.place 0 c.ports.ensures.sound c.requires.location in
    op_of_word l c.args.place c.args.k c.args.value c.args.write c.word-word.result here c.word-word.ensures.word
    ∙ ap Some (sym (whole_is l c.args.place c.args.k _ _ c.args.value c.args.write _ _ _ _ here c.word-word.ensures.word c.lanes_of.ensures c.port_of-port.ensures.port
    c.port_kind-kind.ensures.kind c.port_bytes-bus_bytes.ensures c.operation.ensures))

pub returns-clause-fits : goal.returns-clause-fits
returns-clause-fits c =
    let l = c.args.layout.now in
    let here = is_here l c.args.place 0 c.ports.ensures.sound c.requires.location in
    subst (Fits (kind_of l c.args.place))
    (sym (whole_is l c.args.place c.args.k _ _ c.args.value c.args.write _ _ _ _ here c.word-word.ensures.word c.lanes_of.ensures c.port_of-port.ensures.port
    c.port_kind-kind.ensures.kind c.port_bytes-bus_bytes.ensures c.operation.ensures))
    (op_fits (kind_of l c.args.place) (bus_bytes_of l c.args.place) (all_bytes (place_at l c.args.place).bytes) c.args.value c.args.write c.word-word.result here.port.width here.port.wide
    c.word-word.ensures.on)

pub returns-clause-bytes : goal.returns-clause-bytes
returns-clause-bytes c =
    let here = is_here c.args.layout.now c.args.place 0 c.ports.ensures.sound c.requires.location in
    ap (λ (o : BusOp). o.bytes) (whole_is c.args.layout.now c.args.place c.args.k _ _ c.args.value c.args.write _ _ _ _ here c.word-word.ensures.word c.lanes_of.ensures
    c.port_of-port.ensures.port c.port_kind-kind.ensures.kind c.port_bytes-bus_bytes.ensures c.operation.ensures)

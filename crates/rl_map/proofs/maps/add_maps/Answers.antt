use Rattle.std.proofs.Common.{[], ap, ◌∙◌, arith}
use Rattle.std.proofs.lemmas.List.{take_all}
use Rattle.rl_map.specs.Maps.{tables_of}
use Rattle.rl_map.proofs.Growing.{maps_step, none_yet}
use Rattle.std.proofs.lemmas.Result.{err_from_is_err_and}
use Rattle.rl_map.proofs.Refusing.{failed, maps_from, maps_end, maps_next, maps_done}
use Rattle.rl_map.proofs.maps.add_maps.Goals as goal

pub add_map-requires : goal.add_map-requires
add_map-requires c = record { kinds = c.requires; tables = c.loop-part.invariant.tables }

pub loop-part-init : goal.loop-part-init
loop-part-init c =
    let maps = c.new-maps.ensures.items in
    let ports = c.new-ports.ensures.items in
    record {
      maps = maps;
      ports = ports;
      tables = none_yet c.args.kinds.now _ _ maps ports;
      fault = ap (λ x. maps_from c.args.kinds.now x c.new-ports.result.items c.args.parts.now) maps ∙ ap (λ x. maps_from c.args.kinds.now [] x c.args.parts.now) ports;
    }

pub loop-part-preserved : goal.loop-part-preserved
loop-part-preserved c =
    let was = c.loop-part.invariant in
    let made = c.in_ok-add_map.ensures in
    let next = maps_step c.args.kinds.now c.args.parts.now c.loop-part.part-index _ _ _ _ c.part-item.result c.loop-part-test.true c.part-item.is was.maps was.ports made.maps made.ports in
    record {
      maps = next.0;
      ports = next.1;
      tables = made.tables;
      fault = maps_next c.args.kinds.now c.loop-part.maps.items c.loop-part.ports.items _ _ c.args.parts.now c.loop-part.part-index
          c.part-item.result _ c.loop-part-test.true c.part-item.is was.fault made.fault.0 made.maps made.ports;
    }

pub returns-in_err-add_map-clause-fault : goal.returns-in_err-add_map-clause-fault
returns-in_err-add_map-clause-fault c =
    let p = err_from_is_err_and c.from_residual.result c.from_residual.ensures.1 in
    failed c.from_residual.result _ c.in_err-add_map.field-0.0 p.0 p.1 p.2
    (maps_end c.args.kinds.now c.loop-part.maps.items c.loop-part.ports.items c.args.parts.now c.loop-part.part-index c.part-item.result _ _
    c.loop-part-test.true c.part-item.is c.loop-part.invariant.fault
    c.in_err-add_map.ensures.fault)

pub returns-clause-fault : goal.returns-clause-fault
returns-clause-fault c =
    (maps_done c.args.kinds.now c.loop-part.maps.items c.loop-part.ports.items c.args.parts.now c.loop-part.part-index _ c.loop-part-test.false c.loop-part.invariant.fault, tt)

pub returns-clause-maps : goal.returns-clause-maps
returns-clause-maps c =
    c.loop-part.invariant.maps ∙ ap (λ parts. (tables_of c.args.kinds.now parts).maps) (take_all c.loop-part.part-index c.args.parts.now (omega (arith, c.loop-part-test.false)))

pub returns-clause-ports : goal.returns-clause-ports
returns-clause-ports c =
    c.loop-part.invariant.ports ∙ ap (λ parts. (tables_of c.args.kinds.now parts).ports) (take_all c.loop-part.part-index c.args.parts.now (omega (arith, c.loop-part-test.false)))

pub returns-clause-tables : goal.returns-clause-tables
returns-clause-tables c = c.loop-part.invariant.tables

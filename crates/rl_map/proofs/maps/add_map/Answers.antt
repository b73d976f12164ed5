use Rattle.std.proofs.Common.{◌≡◌, [], ◌∷◌, ◌++◌, ap, ◌∙◌, length, subst, arith}
use Rattle.rl_map.proofs.Growing.{tables_by}
use Rattle.std.proofs.lemmas.Result.{err_from_is_err_and}
use Rattle.rl_model.specs.declared.fault.Array.TheVariants as array
use Rattle.rl_map.specs.Faults.{Fails, first_of, row_at, map_checks}
use Rattle.rl_map.specs.Maps.{map_row, ports_with}
use Rattle.rl_map.specs.Steps.{row_checks, port_checks}
use Rattle.rl_map.proofs.Refusing.{failed, map_by_row, map_by_port}
use Rattle.rl_map.proofs.maps.add_map.Goals as goal
use Rattle.rl_map.proofs.maps.add_map.Goals.{After-add_port}

pub returns-clause-tables : goal.returns-clause-tables
returns-clause-tables c =
    tables_by c.args.kinds.now _ _ c.args.map.now _ _ _ _ _ _ c.requires.tables c.deref.ensures.value c.in_ok-row.ensures.few
    c.in_ok-row.ensures.width c.in_ok-row.ensures.under c.in_ok-add_port.ensures.has_port
    (omega (arith, c.len-count.ensures, c.args.ports.now.ok))
    (omega (arith, c.len-number.ensures, c.args.maps.now.ok)) c.in_ok-row.ensures.row c.in_ok-push.ensures.items c.in_ok-add_port.ensures.added

pub returns-in_err-row-clause-fault : goal.returns-in_err-row-clause-fault
returns-in_err-row-clause-fault c =
    let p = err_from_is_err_and c.from_residual.result c.from_residual.ensures.1 in
    failed c.from_residual.result _ c.in_err-row.field-0.0 p.0 p.1 p.2
    (map_by_row c.args.kinds.now _ c.args.maps.now.items c.args.map.now _
    (subst (λ x. Fails c.in_err-row.field-0.0 (first_of (row_at array.Map (length x)) (row_checks x c.args.map.now))) c.deref.ensures.value c.in_err-row.ensures.fault))

-- the port of a map whose row passes
by_port : (c : After-add_port) → first_of (row_at array.Map (length c.args.maps.now.items)) (map_checks c.args.kinds.now c.args.maps.now.items c.args.map.now)
    ≡ first_of (row_at array.Map c.len-number.result) (port_checks c.args.kinds.now c.args.map.now)
by_port c =
    map_by_port c.args.kinds.now c.args.maps.now.items _ c.args.map.now c.len-number.result c.deref.ensures.value
    (omega (arith, c.len-number.ensures, c.args.maps.now.ok)) c.in_ok-row.ensures.fault.0

pub returns-in_err-add_port-clause-fault : goal.returns-in_err-add_port-clause-fault
returns-in_err-add_port-clause-fault c =
    let r = c.from_residual-in_err-add_port.result in
    let p = err_from_is_err_and r c.from_residual-in_err-add_port.ensures.1 in
    failed r _ c.in_err-add_port.field-0.0 p.0 p.1 p.2
    (λ other. by_port (goal.at.returns-in_err-add_port-clause-fault c).After-add_port ∙ c.in_err-add_port.ensures.fault other)

pub returns-clause-fault : goal.returns-clause-fault
returns-clause-fault c = (by_port (goal.at.returns-clause-fault c).After-add_port ∙ c.in_ok-add_port.ensures.fault.0, tt)

pub overflow_cast-number : goal.overflow_cast-number
overflow_cast-number c = omega (arith, c.len-number.ensures, c.args.maps.now.ok, c.requires.tables.few)

pub overflow_cast-count : goal.overflow_cast-count
overflow_cast-count c = omega (arith, c.len-count.ensures, c.args.ports.now.ok, c.requires.tables.few, c.requires.tables.fewer)

pub map_row-requires : goal.map_row-requires
map_row-requires c = omega (arith, ap length c.deref.ensures.value, c.requires.tables.few)

pub returns-clause-maps : goal.returns-clause-maps
returns-clause-maps c =
    let count : c.len-count.result ≡ length c.args.ports.now.items = omega (arith, c.len-count.ensures, c.args.ports.now.ok) in
    c.in_ok-push.ensures.items
    ∙ ap (λ row. c.args.maps.now.items ++ row ∷ [])
    (c.in_ok-row.ensures.row ∙ ap (λ n. map_row n c.deref.result.now c.args.map.now) count
    ∙ ap (λ maps. map_row (length c.args.ports.now.items) maps c.args.map.now) c.deref.ensures.value)

pub returns-clause-ports : goal.returns-clause-ports
returns-clause-ports c =
    let number : c.len-number.result ≡ length c.args.maps.now.items = omega (arith, c.len-number.ensures, c.args.maps.now.ok) in
    c.in_ok-add_port.ensures.added ∙ ap (λ n. ports_with c.args.kinds.now n c.args.ports.now.items c.args.map.now.parent c.args.map.now) number

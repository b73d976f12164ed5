use Rattle.std.proofs.Common.{◌≡◌, length, sym, ◌∙◌}
use Rattle.std.proofs.lemmas.Result.{err_from_is_err_and}
use Rattle.rl_model.specs.declared.fault.Array.TheVariants as array
use Rattle.rl_map.specs.Faults.{row_at}
use Rattle.rl_map.proofs.Chunks.{width_from}
use Rattle.rl_map.proofs.Refusing.{failed, row_by_name, row_by_path, row_by_width, row_fine}
use Rattle.rl_map.proofs.maps.map_row.Goals as goal

pub returns-in_err-check_name-clause-fault : goal.returns-in_err-check_name-clause-fault
returns-in_err-check_name-clause-fault c =
    let p = err_from_is_err_and c.from_residual.result c.from_residual.ensures.1 in
    let spot : c.row_at-spot.result ≡ row_at array.Map (length c.args.maps.now) = c.row_at-spot.ensures in
    failed c.from_residual.result _ c.in_err-check_name.field-0.0 p.0 p.1 p.2 (row_by_name _ c.row_at-spot.result c.args.maps.now c.args.map.now _ spot c.in_err-check_name.ensures.fault)

pub returns-in_err-path-clause-fault : goal.returns-in_err-path-clause-fault
returns-in_err-path-clause-fault c =
    let p = err_from_is_err_and c.from_residual-in_err-path.result c.from_residual-in_err-path.ensures.1 in
    let spot : c.row_at-spot.result ≡ row_at array.Map (length c.args.maps.now) = c.row_at-spot.ensures in
    failed c.from_residual-in_err-path.result _ c.in_err-path.field-0.0 p.0 p.1 p.2
    (row_by_path _ c.row_at-spot.result c.args.maps.now c.args.map.now _ spot c.in_ok-check_name.ensures.fault.0 c.in_err-path.ensures.fault)

pub returns-then-not-is_width-clause-fault : goal.returns-then-not-is_width-clause-fault
returns-then-not-is_width-clause-fault c =
    let spot : c.row_at-spot.result ≡ row_at array.Map (length c.args.maps.now) = c.row_at-spot.ensures in
    row_by_width _ c.row_at-spot.result c.args.maps.now c.args.map.now c.refusal.result spot c.in_ok-check_name.ensures.fault.0 c.in_ok-path.ensures.fault.0
    (sym c.is_width.ensures ∙ c.if-not-is_width.true) c.refusal.ensures

pub returns-clause-fault : goal.returns-clause-fault
returns-clause-fault c =
    let spot : c.row_at-spot.result ≡ row_at array.Map (length c.args.maps.now) = c.row_at-spot.ensures in (
      row_fine _ c.row_at-spot.result c.args.maps.now c.args.map.now spot c.in_ok-check_name.ensures.fault.0 c.in_ok-path.ensures.fault.0
          (sym c.is_width.ensures ∙ c.if-not-is_width.false),
      tt,
    )

pub returns-clause-width : goal.returns-clause-width
returns-clause-width c = width_from c.args.map.now.bytes (sym c.is_width.ensures ∙ c.if-not-is_width.false)

pub returns-clause-few : goal.returns-clause-few
returns-clause-few c = c.in_ok-check_name.ensures.few

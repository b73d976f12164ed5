use Rattle.std.proofs.Common.{◌≡◌}
use Rattle.rl_map.specs.Maps.{IsBuiltWith}
use Rattle.rl_desc.specs.Faults.{of_model, of_map}
use Rattle.rl_desc.proofs.StepLemmas.{stops, model_err, map_stops, described_by, has_both}
use Rattle.rl_desc.proofs.ThereLemmas.{read_there}
use Rattle.rl_desc.proofs.desc.build.Goals as goal

pub returns-in_err-chip-clause-exact : goal.returns-in_err-chip-clause-exact
returns-in_err-chip-clause-exact c =
    let e = c.in_err-chip.field-0.0 in
    rw (← c.document.view_is) (
    stops (λ d. d) c.from_residual.result (of_model e) _ _ c.from_residual.ensures (model_err e _ c.args.kinds.now c.in_err-chip.ensures)
    )

pub returns-in_err-layout-clause-exact : goal.returns-in_err-layout-clause-exact
returns-in_err-layout-clause-exact c =
    let e = c.in_err-layout.field-0.0 in
    let (sound, chip_is) = c.in_ok-chip.ensures in
    rw (← c.document.view_is) (
    stops (λ d. d) c.from_residual-in_err-layout.result (of_map e) _ _ c.from_residual-in_err-layout.ensures (
    map_stops e _ c.args.kinds.now c.in_ok-chip.chip sound chip_is (rw (c.deref.ensures.value, c.deref-2.ensures.value) at c.in_err-layout.ensures.exact)
    ))

pub returns-clause-exact : goal.returns-clause-exact
returns-clause-exact c =
    let (sound, chip_is) = c.in_ok-chip.ensures in
    let (placed, layout_is) = rw (c.deref.ensures.value, c.deref-2.ensures.value) at c.in_ok-layout.ensures.exact in
    let flaws = rw c.deref-3.ensures.value at c.with_flaws.ensures.flaws in
    rw (← c.document.view_is) (
    described_by c.with_flaws.result _ c.args.kinds.now c.in_ok-chip.chip c.in_ok-layout.layout sound chip_is placed layout_is
    c.with_flaws.ensures.chip c.with_flaws.ensures.layout flaws
    )

pub returns-clause-built_with : goal.returns-clause-built_with
returns-clause-built_with c =
    has_both (λ chip layout. IsBuiltWith layout chip) c.with_flaws.result c.in_ok-chip.chip c.in_ok-layout.layout
    c.with_flaws.ensures.chip c.with_flaws.ensures.layout c.in_ok-layout.ensures.built_with

pub returns-clause-kinds : goal.returns-clause-kinds
returns-clause-kinds c =
    has_both (λ chip layout. layout.kinds ≡ c.args.kinds.now) c.with_flaws.result c.in_ok-chip.chip c.in_ok-layout.layout
    c.with_flaws.ensures.chip c.with_flaws.ensures.layout c.in_ok-layout.ensures.kinds

pub returns-clause-flaws : goal.returns-clause-flaws
returns-clause-flaws c =
    read_there c.with_flaws.result c.in_ok-chip.chip c.in_ok-layout.layout _ _
    c.with_flaws.ensures.chip c.with_flaws.ensures.layout c.with_flaws.ensures.flaws

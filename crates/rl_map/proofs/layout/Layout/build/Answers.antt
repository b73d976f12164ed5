use Rattle.std.proofs.Common.{◌≡◌, None, Some, refl, sym, ap, ◌∙◌, subst}
use Rattle.std.proofs.lemmas.Result.{err_from_is_err_and}
use Rattle.rl_map.specs.Layout.{IsSound, no_place}
use Rattle.rl_map.specs.Building.{NoRowsClash, AreTables}
use Rattle.rl_map.specs.Locations.{AreKept}
use Rattle.rl_map.specs.Ordered.{AreOrdered}
use Rattle.rl_map.proofs.Closing.{built, built_sound}
use Rattle.rl_map.proofs.Keeping.{kept_built}
use Rattle.rl_map.proofs.Folding.{none_least}
use Rattle.rl_map.proofs.Exactly.{by_maps, fault_is, whole_is, none_shared, seen, made_of, failed}
use Rattle.rl_map.proofs.layout.Layout.build.Goals as goal
use Rattle.rl_map.proofs.layout.Layout.build.Goals.{In_ok-place_all}

pub place_all-requires-clause-placed : goal.place_all-requires-clause-placed
place_all-requires-clause-placed c = c.new-placing.ensures.placed c.args.chip.now c.deref.result.now c.deref-2.result.now

ordered : (c : In_ok-place_all) → AreOrdered c.args.chip.now c.in_ok-map_rows.map_rows.items c.in_ok-map_rows.ports.items c.args.places.now c.place_all.new.placing None
ordered c = seen c.args.chip.now c.args.places.now _ _ _ _ _ _ c.deref.ensures.value c.deref-2.ensures.value c.in_ok-place_all.ensures.ordered

pub invariant_of-result : goal.invariant_of-result
invariant_of-result c =
    let maps = c.in_ok-map_rows.map_rows.items in
    let ports = c.in_ok-map_rows.ports.items in
    let p = c.place_all.new.placing in
    let places = p.places.items in
    let rows = p.rows.items in
    let o = ordered (goal.at.invariant_of-result c).In_ok-place_all in
    let none : NoRowsClash places rows = none_least places rows o.best o.least (none_shared o.best o.refused None o.fault_is refl) in
    let kinds = c.in_ok-kept_kinds.kept_kinds.items in
    let shared : c.in_ok-new.field-0.value.items ≡ rows = ap (λ v. v.items) c.in_ok-new.ensures.ok in (
      subst (λ r. IsSound (built maps places ports kinds r)) (sym shared)
          (subst (λ k. IsSound (built maps places ports k rows)) (sym c.in_ok-kept_kinds.ensures.items)
          (built_sound c.args.chip.now maps places ports c.args.kinds.now o.first rows c.in_ok-map_rows.ensures.tables o.placed c.requires o.moved o.ascending o.stable none)),
      subst (λ r. AreKept (built maps places ports kinds r) p.words.items) (sym shared) (kept_built maps places ports kinds rows p.words.items o.words),
      o.links,
    )

pub returns-clause-sound : goal.returns-clause-sound
returns-clause-sound c = (invariant_of-result c).0

pub returns-in_err-map_rows-clause-exact : goal.returns-in_err-map_rows-clause-exact
returns-in_err-map_rows-clause-exact c =
    let p = err_from_is_err_and c.from_residual.result c.from_residual.ensures.1 in
    failed c.args.chip.now c.args.maps.now c.args.places.now c.args.kinds.now c.from_residual.result c.in_err-map_rows.field-0.0 p.0 p.1 p.2
    (by_maps c.args.chip.now c.args.maps.now c.args.places.now c.args.kinds.now _ c.in_err-map_rows.ensures.fault)

pub returns-in_err-place_all-clause-exact : goal.returns-in_err-place_all-clause-exact
returns-in_err-place_all-clause-exact c =
    let t = c.in_ok-map_rows.ensures in
    let p = c.place_all.new.placing in
    let e = c.in_err-place_all.field-0.0 in
    let r = c.from_residual-in_err-place_all.result in
    let q = err_from_is_err_and r c.from_residual-in_err-place_all.ensures.1 in
    failed c.args.chip.now c.args.maps.now c.args.places.now c.args.kinds.now r e q.0 q.1 q.2
    (λ other.
    let o = seen c.args.chip.now c.args.places.now _ _ _ _ p (Some e) c.deref.ensures.value c.deref-2.ensures.value (c.in_err-place_all.ensures.refused other) in
    let all = made_of c.args.chip.now c.args.maps.now c.args.places.now c.args.kinds.now _ _ p _ t.fault.0 t.maps t.ports t.tables c.requires o in
    fault_is c.args.chip.now c.args.maps.now c.args.places.now c.args.kinds.now _ _ _ _ _ _ _ all ∙ sym o.fault_is)

pub returns-clause-exact : goal.returns-clause-exact
returns-clause-exact c =
    let t = c.in_ok-map_rows.ensures in
    let p = c.place_all.new.placing in
    let o = ordered (goal.at.returns-clause-exact c).In_ok-place_all in
    let all = made_of c.args.chip.now c.args.maps.now c.args.places.now c.args.kinds.now _ _ p _ t.fault.0 t.maps t.ports t.tables c.requires o in
    let none = sym o.fault_is in (
      fault_is c.args.chip.now c.args.maps.now c.args.places.now c.args.kinds.now _ _ _ _ _ _ _ all ∙ none,
      ap (λ v. built c.in_ok-map_rows.map_rows.items p.places.items c.in_ok-map_rows.ports.items c.in_ok-kept_kinds.kept_kinds.items v.items) c.in_ok-new.ensures.ok
          ∙ whole_is c.args.chip.now c.args.maps.now c.args.places.now c.args.kinds.now _ _ _ _ _ _ _ _ all none c.in_ok-kept_kinds.ensures.items,
    )

pub place_all-requires-clause-tables : goal.place_all-requires-clause-tables
place_all-requires-clause-tables c =
    let kinds = c.args.kinds.now in (
      kinds,
      subst (λ maps. AreTables kinds maps c.deref-2.result.now) (sym c.deref.ensures.value)
          (subst (λ ports. AreTables kinds c.in_ok-map_rows.map_rows.items ports) (sym c.deref-2.ensures.value) c.in_ok-map_rows.ensures.tables),
    )

pub returns-clause-built_with : goal.returns-clause-built_with
returns-clause-built_with c place low = ((ordered (goal.at.returns-clause-built_with c).In_ok-place_all).placed.each place no_place low).placed.known

pub returns-clause-kinds : goal.returns-clause-kinds
returns-clause-kinds c = c.in_ok-kept_kinds.ensures.items

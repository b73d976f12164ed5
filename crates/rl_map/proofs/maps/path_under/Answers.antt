use Rattle.std.proofs.Common.{◌≡◌, ◌<◌, ◌≤◌, ◌∷◌, length, Some, None, sym, ap, ◌∙◌, arith}
use Rattle.rl_map.specs.Maps.{map_number, level_of}
use Rattle.rl_map.proofs.Growing.{path_is}
use Rattle.rl_map.proofs.Refusing.{under_none, under_deep, under_fine}
use Rattle.rl_map.proofs.maps.path_under.Goals as goal

pub returns-else-levels-ge-MOST_LEVELS-clause-path : goal.returns-else-levels-ge-MOST_LEVELS-clause-path
returns-else-levels-ge-MOST_LEVELS-clause-path c =
    let n = c.in-Some-map_number.number in
    let named : map_number c.args.maps.now c.in-Some.parent ≡ Some n =
    ap (map_number c.args.maps.now) (sym c.text.ensures) ∙ (sym c.map_number.ensures ∙ c.in-Some-map_number.is) in
    c.under.ensures ∙ ap (λ level. level ∷ c.index-maps-number.result.path) c.level_of-level.ensures
    ∙ path_is c.args.maps.now c.args.map.now.parent c.in-Some.parent n (level_of c.args.map.now) c.index-maps-number.result c.in-Some.is named c.index-maps-number.is

pub returns-then-levels-ge-MOST_LEVELS-clause-fault : goal.returns-then-levels-ge-MOST_LEVELS-clause-fault
returns-then-levels-ge-MOST_LEVELS-clause-fault c =
    let named : map_number c.args.maps.now c.in-Some.parent ≡ Some c.in-Some-map_number.number =
    ap (map_number c.args.maps.now) (sym c.text.ensures) ∙ (sym c.map_number.ensures ∙ c.in-Some-map_number.is) in
    let deep : 4 ≤ length c.index-maps-number.result.path = omega (arith, c.if-levels-ge-MOST_LEVELS.true, ap length c.levels.ensures.levels) in
    λ other. under_deep c.args.spot c.args.maps.now c.args.map.now c.in-Some.parent c.in-Some-map_number.number c.index-maps-number.result c.in-Some.is named c.index-maps-number.is deep
    ∙ ap Some (sym c.refusal-then-levels-ge-MOST_LEVELS.ensures)

pub returns-in-None-map_number-clause-fault : goal.returns-in-None-map_number-clause-fault
returns-in-None-map_number-clause-fault c =
    let named : map_number c.args.maps.now c.in-Some.parent ≡ None =
    ap (map_number c.args.maps.now) (sym c.text.ensures) ∙ (sym c.map_number.ensures ∙ c.in-None-map_number.is) in
    λ other. under_none c.args.spot c.args.maps.now c.args.map.now c.in-Some.parent c.in-Some.is named ∙ ap Some (sym c.refusal.ensures)

pub returns-else-levels-ge-MOST_LEVELS-clause-fault : goal.returns-else-levels-ge-MOST_LEVELS-clause-fault
returns-else-levels-ge-MOST_LEVELS-clause-fault c =
    let named : map_number c.args.maps.now c.in-Some.parent ≡ Some c.in-Some-map_number.number =
    ap (map_number c.args.maps.now) (sym c.text.ensures) ∙ (sym c.map_number.ensures ∙ c.in-Some-map_number.is) in
    let flat : length c.index-maps-number.result.path < 4 = omega (arith, c.if-levels-ge-MOST_LEVELS.false, ap length c.levels.ensures.levels) in
    (under_fine c.args.spot c.args.maps.now c.args.map.now c.in-Some.parent c.in-Some-map_number.number c.index-maps-number.result c.in-Some.is named c.index-maps-number.is flat, tt)

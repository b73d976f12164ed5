use Rattle.std.proofs.Common.{◌-◌, ◌<◌, cond, length, Some, sym, ap, ◌∙◌, subst, arith}
use Rattle.rl_map.specs.declared.rows.PlaceRow.{PlaceRow}
use Rattle.rl_map.specs.Layout.{no_place}
use Rattle.rl_map.specs.Links.{IsLast}
use Rattle.rl_map.proofs.Lookups.{default_any, read_is}
use Rattle.rl_map.proofs.Linking.{IsFoundFrom, found_first, found_next, found_all}
use Rattle.rl_map.proofs.links.ItemLinks.place_of.Goals as goal

pub loop-above-init : goal.loop-above-init
loop-above-init c =
    let places = c.args.places.now in
    found_first places c.args.item c.args.map c.last-above.result
    (subst (IsLast places (length places) c.args.item) (sym c.last-above.ensures) (c.requires.linked.each_item c.args.item))

pub loop-above-preserved : goal.loop-above-preserved
loop-above-preserved c =
    let places = c.args.places.now in
    let above = c.loop-above.above in
    let place = above - 1 in
    let was = c.loop-above.invariant in
    let low : place < length places = omega (arith, was.most) in
    let next : IsLast places place _ c.index-above.result.now =
    subst (IsLast places place _)
    (sym (read_is c.args.self.now.before.items place c.index-above.result.now 0 (omega (arith, c.requires.linked.long)) c.index-above.ensures)) (c.requires.linked.each_place place low) in
    subst (IsFoundFrom places c.args.item c.args.map c.index-above.result.now)
    (ap (λ t. cond t (Some place) c.loop-above.found) (sym c.is_in-fits.ensures) ∙ sym c.place_or-found.ensures)
    (found_next places c.args.item c.args.map above c.index-above.result.now place _ c.loop-above.found was (omega arith) (omega arith) next
    (ap (λ (r : PlaceRow). r.map) (default_any places place _ no_place low)))

pub returns : goal.returns
returns c = found_all c.args.places.now c.args.item c.args.map c.loop-above.above c.loop-above.found c.loop-above.invariant c.loop-above-test.false

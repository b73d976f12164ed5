use Rattle.std.proofs.Common.{◌≡◌, Option, sym, ◌∙◌, subst}
use Rattle.rl_map.specs.declared.fault.MapFault.{MapFault}
use Rattle.rl_map.specs.Layout.{IsAscending}
use Rattle.rl_map.specs.Building.{AreRowsOf}
use Rattle.rl_map.specs.Clashes.{IsLeast, IsMade}
use Rattle.rl_map.specs.Ordered.{AreOrdered}
use Rattle.rl_map.proofs.Placing.{rows_in}
use Rattle.rl_map.proofs.Exactly.{accepted_by, refused_by}
use Rattle.rl_map.proofs.build.place_all.Goals as goal
use Rattle.rl_map.proofs.build.place_all.Goals.{After-first_fault}

pub first_shared-shared-requires-clause-rows : goal.first_shared-shared-requires-clause-rows
first_shared-shared-requires-clause-rows c =
    subst (λ x. AreRowsOf x c.deref-2.result.now) (sym c.deref.ensures.value)
    (subst (λ y. AreRowsOf c.add_places.new.placing.places.items y) (sym c.deref-2.ensures.value)
    (rows_in c.args.chip.now c.args.maps.now c.args.ports.now c.add_places.new.placing.places.items
    c.add_places.new.placing.rows.items c.sort_rows.new.rows.items c.in_ok-refused.ensures.placed.places c.in_ok-sort_rows.ensures.moved))

-- what was made, up to the first fault
made : (c : After-first_fault) (fault : Option MapFault) → c.first_fault.result ≡ fault → AreOrdered c.args.chip.now c.args.maps.now c.args.ports.now c.args.parts.now (record {
  places = c.add_places.new.placing.places;
  links = c.add_places.new.placing.links;
  rows = c.sort_rows.new.rows;
  words = c.add_places.new.placing.words;
}) fault
made c fault is =
    let added = c.in_ok-refused.ensures in
    let sorted = c.in_ok-sort_rows.ensures in
    let rows = c.sort_rows.new.rows.items in
    let shared = c.first_shared-shared in
    record {
      first = c.add_places.new.placing.rows.items;
      best = shared.result;
      refused = c.in_ok-refused.refused;
      rows_are = accepted_by c.args.chip.now c.args.parts.now c.args.maps.now c.args.ports.now _ _ _ c.requires.places c.requires.rows added.accepted;
      refused_is = refused_by c.args.chip.now c.args.parts.now c.args.maps.now c.args.ports.now _ _ _ c.requires.places c.requires.rows added.fault;
      placed = added.placed.places;
      words = added.placed.words;
      links = added.placed.links;
      moved = sorted.moved;
      ascending = sorted.ascending;
      stable = sorted.stable;
      least = subst (λ x. IsLeast x rows shared.result) c.deref.ensures.value (subst (λ y. IsLeast c.deref.result.now y shared.result) c.deref-2.ensures.value shared.ensures.least);
      made = λ s at.
          subst (λ x. IsMade x rows s) c.deref.ensures.value (subst (λ y. IsMade c.deref.result.now y s) c.deref-2.ensures.value (shared.ensures.made s at));
      fault_is = sym is ∙ c.first_fault.ensures;
    }

pub returns-in-Some-clause-refused : goal.returns-in-Some-clause-refused
returns-in-Some-clause-refused c = λ other. made (goal.at.returns-in-Some-clause-refused c).After-first_fault _ c.in-Some.is

pub returns-in-None-clause-ordered : goal.returns-in-None-clause-ordered
returns-in-None-clause-ordered c = made (goal.at.returns-in-None-clause-ordered c).After-first_fault _ c.in-None.is

pub first_shared-shared-requires-clause-ascending : goal.first_shared-shared-requires-clause-ascending
first_shared-shared-requires-clause-ascending c = subst IsAscending (sym c.deref-2.ensures.value) c.in_ok-sort_rows.ensures.ascending

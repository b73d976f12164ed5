use Rattle.std.proofs.Common.{◌++◌, length, sym, ap, ◌∙◌, arith}
use Rattle.rl_map.specs.Steps.{own_faults, accepted}
use Rattle.rl_map.proofs.Lists.{append_nothing, nothing_from}
use Rattle.rl_map.proofs.Accepting.{faults_end, accepted_end, faults_next, accepted_next}
use Rattle.rl_map.proofs.places.add_places.Goals as goal

pub returns-then-is_some-clause-fault : goal.returns-then-is_some-clause-fault
returns-then-is_some-clause-fault c =
    faults_end c.args.chip.now c.args.maps.now c.args.ports.now c.args.parts.now c.loop-part.part-index c.part-item.result
    c.loop-part-test.true c.part-item.is c.loop-part.placing.places.items (length c.loop-part.placing.rows.items) c.in_ok-refused.refused _
    (sym c.is_some.ensures ∙ c.if-is_some.true) c.in_ok-refused.ensures.fault c.loop-part.invariant.fault

pub returns-then-is_some-clause-accepted : goal.returns-then-is_some-clause-accepted
returns-then-is_some-clause-accepted c =
    accepted_end c.args.chip.now c.args.maps.now c.args.ports.now c.args.parts.now c.loop-part.part-index c.part-item.result
    c.loop-part-test.true c.part-item.is c.loop-part.placing.places.items c.add_place.new.placing.places.items (length c.loop-part.placing.rows.items) c.in_ok-refused.refused _
    (sym c.is_some.ensures ∙ c.if-is_some.true) c.in_ok-refused.ensures.fault c.in_ok-refused.ensures.kept c.loop-part.invariant.accepted

pub loop-part-preserved : goal.loop-part-preserved
loop-part-preserved c =
    let was = c.loop-part.invariant in
    let told = c.in_ok-refused.ensures in
    let none = sym c.is_some.ensures ∙ c.if-is_some.false in
    record {
      placed = told.placed;
      fault = faults_next c.args.chip.now c.args.maps.now c.args.ports.now c.args.parts.now c.loop-part.part-index c.part-item.result
          c.loop-part-test.true c.part-item.is c.loop-part.placing.places.items c.add_place.new.placing.places.items
          c.loop-part.placing.rows.items c.add_place.new.placing.rows.items c.in_ok-refused.refused _
          none told.fault told.added was.placed.places told.placed.places was.fault;
      accepted = accepted_next c.args.chip.now c.args.maps.now c.args.ports.now c.args.parts.now c.loop-part.part-index c.part-item.result
          c.loop-part-test.true c.part-item.is c.loop-part.placing.places.items c.add_place.new.placing.places.items
          c.loop-part.placing.rows.items c.add_place.new.placing.rows.items c.in_ok-refused.refused _
          none told.fault told.added was.placed.places told.placed.places was.accepted;
    }

pub returns-clause-fault : goal.returns-clause-fault
returns-clause-fault c =
    let placed = c.loop-part.placing in
    sym (ap (own_faults c.args.chip.now c.args.maps.now c.args.ports.now placed.places.items (length placed.rows.items))
    (nothing_from c.args.parts.now c.loop-part.part-index (omega (arith, c.loop-part-test.false))))
    ∙ c.loop-part.invariant.fault

pub returns-clause-accepted : goal.returns-clause-accepted
returns-clause-accepted c =
    let placed = c.loop-part.placing in
    let places = placed.places.items in
    sym (append_nothing places)
    ∙ ap (λ parts. places ++ accepted c.args.chip.now c.args.maps.now c.args.ports.now places (length placed.rows.items) parts)
    (sym (nothing_from c.args.parts.now c.loop-part.part-index (omega (arith, c.loop-part-test.false))))
    ∙ c.loop-part.invariant.accepted

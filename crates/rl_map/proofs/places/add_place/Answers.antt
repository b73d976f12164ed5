use Rattle.std.proofs.Common.{◌≡◌, [], ◌∷◌, ◌++◌, length, None, Some, sym, ap, ◌∙◌, subst, arith}
use Rattle.rl_map.specs.Layout.{no_map, no_port}
use Rattle.rl_map.specs.Links.{AreLinked}
use Rattle.rl_map.proofs.Closing.{straight_of}
use Rattle.rl_map.proofs.Keeping.{words_more}
use Rattle.rl_map.proofs.Placing.{fits_of, places_more}
use Rattle.rl_model.specs.declared.fault.Array.TheVariants as array
use Rattle.rl_map.specs.Faults.{row_at}
use Rattle.rl_map.specs.Steps.{first_cause, own_checks, place_of_part}
use Rattle.rl_map.proofs.Accepting.{no_value, own_fine, own_met}
use Rattle.rl_map.proofs.places.add_place.Goals as goal

pub push_place-requires-clause-fits : goal.push_place-requires-clause-fits
push_place-requires-clause-fits c =
    fits_of c.args.maps.now c.args.ports.now c.in-Ok.row c.in-Ok.ensures.room.seated (c.requires.tables.1.each_port c.in-Ok.row.port no_port c.in-Ok.ensures.row.port_in).most

pub push_place-requires-clause-straight : goal.push_place-requires-clause-straight
push_place-requires-clause-straight c = straight_of c.args.maps.now c.args.ports.now c.in-Ok.row c.in-Ok.ensures.room.seated

pub returns-in_ok-push-in-Ok-3-clause-placed : goal.returns-in_ok-push-in-Ok-3-clause-placed
returns-in_ok-push-in-Ok-3-clause-placed c = record {
  places =
      places_more c.args.chip.now c.args.maps.now c.args.ports.now _ _ c.in-Ok.row _ _ _ _ _ c.requires.placed.places c.in-Ok.ensures.row c.in-Ok.ensures.room c.deref.ensures.value c.in-Ok.ensures.few
      c.in-Ok.ensures.once
      (omega (arith, c.len-number.ensures, c.args.placing.now.places.ok))
      (omega (arith, c.len-count.ensures, c.args.placing.now.rows.ok)) c.in_ok-push-in-Ok-3.ensures.items c.in_ok-words-in-Ok.ensures.rows;
  words =
      words_more c.args.maps.now c.args.ports.now _ _ _ _ c.in-Ok.row c.in_ok-words-in-Ok.words c.requires.placed.words c.in_ok-words-in-Ok.ensures.words
      c.in_ok-push-in-Ok-3.ensures.items c.in_ok-push-in-Ok.ensures.items;
  links =
      subst (λ x. AreLinked x c.push-in-Ok.new.self.lasts.items c.push-in-Ok.new.self.before.items)
      (ap (λ xs. xs ++ c.in-Ok.row ∷ []) c.deref-in-Ok.ensures.value ∙ sym c.in_ok-push-in-Ok-3.ensures.items) c.in_ok-push-in-Ok-2.ensures;
}

pub returns-in_ok-push-in-Ok-3-clause-fault : goal.returns-in_ok-push-in-Ok-3-clause-fault
returns-in_ok-push-in-Ok-3-clause-fault c =
    let chip = c.args.chip.now in
    let maps = c.args.maps.now in
    let p = place_of_part chip maps c.args.ports.now c.args.part.now in
    let words : c.len-count.result ≡ length c.args.placing.now.rows.items = omega (arith, c.len-count.ensures, c.args.placing.now.rows.ok) in
    own_fine chip maps c.args.ports.now c.args.placing.now.places.items (length c.args.placing.now.rows.items) c.args.part.now
    (subst (λ x. first_cause (own_checks chip maps x (length c.args.placing.now.rows.items) c.args.part.now p) ≡ None) c.deref.ensures.value
    (subst (λ n. first_cause (own_checks chip maps c.deref.result.now n c.args.part.now p) ≡ None) words c.in-Ok.ensures.fault))

pub returns-in_ok-push-in-Ok-3-clause-added : goal.returns-in_ok-push-in-Ok-3-clause-added
returns-in_ok-push-in-Ok-3-clause-added c = λ e. c.in_ok-push-in-Ok-3.ensures.items ∙ ap (λ r. c.args.placing.now.places.items ++ r ∷ []) c.in-Ok.ensures.exact

pub returns-in-Err-clause-fault : goal.returns-in-Err-clause-fault
returns-in-Err-clause-fault c =
    let chip = c.args.chip.now in
    let maps = c.args.maps.now in
    let places = c.args.placing.now.places.items in
    let p = place_of_part chip maps c.args.ports.now c.args.part.now in
    let words : c.len-count.result ≡ length c.args.placing.now.rows.items = omega (arith, c.len-count.ensures, c.args.placing.now.rows.ok) in
    let number : c.len-number.result ≡ length places = omega (arith, c.len-number.ensures, c.args.placing.now.places.ok) in
    own_met chip maps c.args.ports.now places (length c.args.placing.now.rows.items) c.args.part.now c.in-Err.cause c.row_at.result c.refusal.result
    (subst (λ x. first_cause (own_checks chip maps x (length c.args.placing.now.rows.items) c.args.part.now p) ≡ Some c.in-Err.cause) c.deref.ensures.value
    (subst (λ n. first_cause (own_checks chip maps c.deref.result.now n c.args.part.now p) ≡ Some c.in-Err.cause) words c.in-Err.ensures.fault))
    c.refusal.ensures (c.row_at.ensures ∙ ap (row_at array.Place) number)

pub overflow_cast-number : goal.overflow_cast-number
overflow_cast-number c = omega (arith, c.len-number.ensures, c.args.placing.now.places.ok, c.requires.placed.places.few)

pub checked_place-requires-clause-linked : goal.checked_place-requires-clause-linked
checked_place-requires-clause-linked c =
    let links = c.args.placing.now.links in
    subst (λ places. AreLinked places links.lasts.items links.before.items) (sym c.deref.ensures.value) c.requires.placed.links

pub checked_place-requires-clause-words : goal.checked_place-requires-clause-words
checked_place-requires-clause-words c = omega (arith, c.len-count.ensures, c.args.placing.now.rows.ok, c.requires.placed.places.few_words)

pub push_place-requires-clause-path : goal.push_place-requires-clause-path
push_place-requires-clause-path c = (c.requires.tables.1.each_map c.in-Ok.row.map no_map c.in-Ok.ensures.row.placed.map).path

pub push-requires-in-Ok-clause-linked : goal.push-requires-in-Ok-clause-linked
push-requires-in-Ok-clause-linked c =
    let links = c.args.placing.now.links in
    subst (λ places. AreLinked places links.lasts.items links.before.items) (sym c.deref-in-Ok.ensures.value) c.requires.placed.links

pub push-requires-in-Ok-clause-few : goal.push-requires-in-Ok-clause-few
push-requires-in-Ok-clause-few c = omega (arith, ap length c.deref-in-Ok.ensures.value, ap length c.deref.ensures.value, c.in-Ok.ensures.few)

pub returns-in_ok-push-in-Ok-3-clause-kept : goal.returns-in_ok-push-in-Ok-3-clause-kept
returns-in_ok-push-in-Ok-3-clause-kept c = λ fault e. no_value fault e

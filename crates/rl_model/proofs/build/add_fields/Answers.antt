use Rattle.std.proofs.Common.{◌≡◌, ◌+◌, ◌*◌, ◌<◌, ◌≤◌, List, [], ◌∷◌, ◌++◌, append_assoc, length, length-take-le, take, drop, get_or, slice_get, Some, None, below_more, refl, sym, ap, ◌∙◌, subst, arith}
use Rattle.std.proofs.lemmas.List.{at_drop_all}
use Rattle.std.proofs.lemmas.Option.{get_or_from_slice_get}
use Rattle.std.proofs.lemmas.Result.{err_from_is_err_and}
use Rattle.std.proofs.lemmas.Grind.{common_steps}
use Rattle.rl_model.specs.Data.{FieldData, RegData}
use Rattle.rl_model.specs.Rules.{field_of, field_fault, fields_fault, kinds_with, kinds_after, Fails}
use Rattle.rl_model.specs.Stages.{TakesOwnBits, field_next, fields_next}
use Rattle.rl_model.proofs.BuildLemmas.{all_built, next_part, past}
use Rattle.rl_model.proofs.Checks.{failed, fails_first}
use Rattle.rl_model.proofs.FewFields.{few_own}
use Rattle.rl_model.proofs.build.add_fields.Goals as goal
use Rattle.rl_model.proofs.build.add_fields.Goals.{After-part-item}

pub overflow_cast-spot : goal.overflow_cast-spot
overflow_cast-spot c =
    let within : c.loop-i.i ≤ length c.args.reg.now.fields = grind (arith, common_steps) in
    let few : c.loop-i.i ≤ 8 * c.args.reg.now.bytes = few_own (8 * c.args.reg.now.bytes) c.args.reg.now.fields c.loop-i.i c.loop-i.invariant.own within in
    omega arith

pub returns-clause-few_fields : goal.returns-clause-few_fields
returns-clause-few_fields c =
    let all : length c.args.reg.now.fields ≡ c.loop-i.i = grind (arith, common_steps) in
    let within : c.loop-i.i ≤ length c.args.reg.now.fields = omega (arith, all) in
    omega (arith, few_own (8 * c.args.reg.now.bytes) c.args.reg.now.fields c.loop-i.i c.loop-i.invariant.own within)

fields_read : (c : After-part-item) → c.deref-part-items.result.now ≡ c.args.reg.now.fields
fields_read c = c.deref-part-items.ensures.value ∙ ap (λ (r : RegData). r.fields) c.reg.view_is

part_here : (c : After-part-item) → drop c.loop-i.i c.args.reg.now.fields ≡ c.part-item.result ∷ drop (c.loop-i.i + 1) c.args.reg.now.fields
part_here c =
    let part : FieldData = c.part-item.result in
    let low = subst (λ (fields : List FieldData). c.loop-i.i < length fields) (fields_read c) c.loop-i-test.true in
    next_part c.args.reg.now.fields c.loop-i.i part low (c.part-item.is ∙ ap (λ fields. get_or fields c.loop-i.i part) (fields_read c))

pub returns-in_err-add_field-clause-exact : goal.returns-in_err-add_field-clause-exact
returns-in_err-add_field-clause-exact c =
    let l = c.loop-i in
    let reg : RegData = c.args.reg.now in
    let part : FieldData = c.part-item.result in
    let rest : List FieldData = drop (l.i + 1) reg.fields in
    let here = part_here (goal.at.returns-in_err-add_field-clause-exact c).After-part-item in
    let e = c.in_err-add_field.field-0.0 in
    let fails = subst (λ (r : RegData). Fails e (field_fault (field_of c.args.spot l.i) r.bytes (take l.i r.fields) l.kinds part)) c.reg.view_is
    (rw c.deref.ensures.value at c.in_err-add_field.ensures.exact) in
    let p = err_from_is_err_and c.from_residual.result c.from_residual.ensures.1 in
    failed c.from_residual.result _ _ e p.0 p.1 p.2
    (fails_first e (field_fault (field_of c.args.spot l.i) reg.bytes (take l.i reg.fields) l.kinds part)
    (fields_fault c.args.spot reg (l.i + 1) (kinds_with l.kinds part.resets) rest) _ fails
    (sym l.invariant.fault ∙ ap (fields_fault c.args.spot reg l.i l.kinds) here))

pub returns-clause-exact : goal.returns-clause-exact
returns-clause-exact c =
    let l = c.loop-i in
    let fields : List FieldData = c.args.reg.now.fields in
    let end : length fields ≤ l.i = subst (λ (fs : List FieldData). length fs ≤ l.i) (c.deref-part-items.ensures.value ∙ ap (λ (r : RegData). r.fields) c.reg.view_is) c.loop-i-test.false in (
      sym l.invariant.fault ∙ at_drop_all (fields_fault c.args.spot c.args.reg.now l.i l.kinds) fields l.i end,
      (
        all_built (fields_next c.args.spot.row l.kinds) refl _ _ _ _ end l.invariant.fields,
        sym (at_drop_all (kinds_after l.kinds) fields l.i end) ∙ l.invariant.kinds,
      ),
    )

pub slice_bounds-add_field-end : goal.slice_bounds-add_field-end
slice_bounds-add_field-end c =
    let same = ap (λ fields. length fields) (c.deref-part-items.ensures.value ∙ sym c.deref.ensures.value) in
    sym (length-take-le c.loop-i.i c.deref.result.now (omega (arith, same, c.loop-i-test.true)))

pub loop-i-preserved : goal.loop-i-preserved
loop-i-preserved c =
    let l = c.loop-i in
    let was = l.invariant in
    let reg : RegData = c.args.reg.now in
    let spot = c.args.spot in
    let part : FieldData = c.part-item.result in
    let rest : List FieldData = drop (l.i + 1) reg.fields in
    let at = (goal.at.loop-i-preserved c).After-part-item in
    let here = part_here at in
    let exact = rw c.deref.ensures.value at c.in_ok-add_field.ensures.exact in
    let none = subst (λ (r : RegData). field_fault (field_of spot l.i) r.bytes (take l.i r.fields) l.kinds part ≡ None) c.reg.view_is exact.0 in
    let own = subst (λ (r : RegData). TakesOwnBits (8 * r.bytes) (take l.i r.fields) part) c.reg.view_is (rw c.deref.ensures.value at c.in_ok-add_field.ensures.own) in
    let fields : c.add_field.new.fields.items ≡ l.fields.items ++ field_next spot.row l.kinds part ∷ [] = exact.1.0 in
    let kinds : c.add_field.new.kinds ≡ kinds_with l.kinds part.resets = exact.1.1 in
    let is : (f : FieldData) → slice_get reg.fields l.i ≡ Some f → part ≡ f = λ f found.
    c.part-item.is ∙ ap (λ fields. get_or fields l.i part) (fields_read at) ∙ get_or_from_slice_get reg.fields l.i f part found in
    record {
      few = c.in_ok-add_field.ensures.few;
      own = below_more _ _ was.own (λ f found. subst (λ (f : FieldData). TakesOwnBits (8 * reg.bytes) (take l.i reg.fields) f) (is f found) own);
      fault =
          ap (λ ks. fields_fault spot reg (l.i + 1) ks rest) kinds
          ∙ past (field_fault (field_of spot l.i) reg.bytes (take l.i reg.fields) l.kinds part) _ _ none
          (sym (ap (fields_fault spot reg l.i l.kinds) here) ∙ was.fault);
      fields =
          ap (λ fs. fs ++ fields_next spot.row c.add_field.new.kinds rest) fields
          ∙ ap (λ ks. (l.fields.items ++ field_next spot.row l.kinds part ∷ []) ++ fields_next spot.row ks rest) kinds
          ∙ append_assoc l.fields.items (field_next spot.row l.kinds part ∷ []) (fields_next spot.row (kinds_with l.kinds part.resets) rest)
          ∙ sym (ap (λ fs. l.fields.items ++ fields_next spot.row l.kinds fs) here) ∙ was.fields;
      kinds = ap (λ ks. kinds_after ks rest) kinds ∙ sym (ap (kinds_after l.kinds) here) ∙ was.kinds;
    }

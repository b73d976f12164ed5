use Rattle.std.proofs.Common.{◌≡◌, ℕ, ◌+◌, ◌<◌, ◌&&◌, ◌||◌, true, false, set, get_or, length, refl, sym, ap, subst, ◌∙◌, arith}
use Rattle.std.proofs.lemmas.List.{length-set}
use Rattle.rl_policy.specs.Bits.{bit}
use Rattle.rl_policy.specs.Table.{spends_mark}
use Rattle.rl_model.specs.Rows.{FieldSeen}
use Rattle.rl_model.specs.Fields.{first_of, count_of, fields_of}
use Rattle.rl_mirror.proofs.FieldLemmas.{field_in-fields_of, length-fields_of}
use Rattle.rl_mirror.proofs.MaskedLemmas.{none_spent}
use Rattle.rl_mirror.proofs.SpentLemmas.{is_spent_so_far, spends_at, spent_none, spent_passed, spent_added, spent_all}
use Rattle.rl_mirror.proofs.fields.spend.Goals as goal

pub returns-then-effects-places-eq0 : goal.returns-then-effects-places-eq0
returns-then-effects-places-eq0 c =
    none_spent c.args.chip.now c.args.reg c.args.fields c.effects.result.now.spending c.args.places c.args.spent.now c.effects.ensures.sound c.requires.reg c.requires.marks
    c.effects.ensures.value.spending c.requires.places c.if-effects-places-eq0.true

pub loop-k-init : goal.loop-k-init
loop-k-init c = record {
  long = refl;
  marks = λ n l. spent_none c.args.chip.now c.args.reg c.args.fields n (get_or c.args.spent.now n false);
}

pub loop-k-preserved-then-not-spends_field : goal.loop-k-preserved-then-not-spends_field
loop-k-preserved-then-not-spends_field c =
    let chip = c.args.chip.now in
    let k = c.loop-k.k in
    let place : k < length (fields_of chip c.args.reg) = omega (arith, c.field_count-k-end.ensures.count, c.loop-k-test.true) in
    let here : spends_at chip c.args.reg c.args.fields k ≡ false =
    ap (λ (f : FieldSeen). bit c.args.fields k && spends_mark f.shape.policy) (sym (field_in-fields_of chip c.args.reg k c.field_count-k-end.ensures.sound c.requires.reg place))
    ∙ sym c.spends_field.ensures ∙ c.if-not-spends_field.true in
    record {
      long = c.loop-k.invariant.long;
      marks = λ n l. c.loop-k.invariant.marks n l ∙ ap (λ t. get_or c.args.spent.now n false || t) (spent_passed chip c.args.reg c.args.fields k n here);
    }

pub loop-k-preserved : goal.loop-k-preserved
loop-k-preserved c =
    let chip = c.args.chip.now in
    let k = c.loop-k.k in
    let spent = c.loop-k.spent in
    let place : k < length (fields_of chip c.args.reg) = omega (arith, c.field_count-k-end.ensures.count, c.loop-k-test.true) in
    let here : spends_at chip c.args.reg c.args.fields k ≡ true =
    ap (λ (f : FieldSeen). bit c.args.fields k && spends_mark f.shape.policy) (sym (field_in-fields_of chip c.args.reg k c.field_count-k-end.ensures.sound c.requires.reg place))
    ∙ sym c.spends_field.ensures ∙ c.if-not-spends_field.false in
    let number : c.field_number.result ≡ first_of chip c.args.reg + k = c.field_number.ensures.number in
    let within : first_of chip c.args.reg + k < length spent = omega (arith, c.field_number.ensures.within, c.loop-k.invariant.long, c.requires.marks) in
    record {
      long = length-set spent c.field_number.result true ∙ c.loop-k.invariant.long;
      marks = λ n l.
          subst (λ (m : ℕ). get_or (set spent m true) n false ≡ (get_or c.args.spent.now n false || is_spent_so_far chip c.args.reg c.args.fields (k + 1) n)) (sym number)
          (spent_added chip c.args.reg c.args.fields k n (get_or c.args.spent.now n false) spent here within (c.loop-k.invariant.marks n l));
    }

pub returns : goal.returns
returns c =
    let chip = c.args.chip.now in
    let sound = c.field_count-k-end.ensures.sound in
    let end : c.loop-k.k ≡ count_of chip c.args.reg =
    omega (arith, c.field_count-k-end.ensures.count, c.loop-k-test.false, c.loop-k.auto.k-end, length-fields_of chip c.args.reg sound c.requires.reg) in
    spent_all chip c.args.reg c.args.fields c.args.spent.now c.loop-k.spent sound c.requires.reg c.requires.marks c.loop-k.invariant.long
    (λ n l. subst (λ (i : ℕ). get_or c.loop-k.spent n false ≡ (get_or c.args.spent.now n false || is_spent_so_far chip c.args.reg c.args.fields i n)) end (c.loop-k.invariant.marks n l))

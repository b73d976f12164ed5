use Rattle.std.proofs.Common.{◌≡◌, ℕ, ◌<◌, Bool, subst, refl, sym, ap, ◌∙◌, length, arith}
use Rattle.rl_policy.specs.Bits.{bit}
use Rattle.rl_model.specs.declared.rows.Field.{Field}
use Rattle.rl_mirror.specs.Effect.{effect_bit}
use Rattle.rl_model.specs.Fields.{fields_of, policy_in}
use Rattle.rl_mirror.specs.Fields.{word_by_field}
use Rattle.rl_mirror.specs.Mirror.{marks_in, IsValueOf}
use Rattle.rl_mirror.proofs.PlaceLemmas.{taken}
use Rattle.rl_mirror.proofs.FieldLemmas.{field_list}
use Rattle.rl_mirror.proofs.WordLemmas.{is_word_by_field, finished, owned_zero, word_is_value}
use Rattle.rl_mirror.proofs.fields.assembled.Goals as goal

pub loop-k-preserved : goal.loop-k-preserved
loop-k-preserved c =
    let fs = fields_of c.args.chip.now c.args.reg in
    let k = c.loop-k.k in
    let place : k < length fs = omega (arith, c.field_count-k-end.ensures.count, c.loop-k-test.true) in
    let part : ℕ → ℕ → Bool = λ b k. effect_bit c.args.effect (policy_in fs k) (marks_in c.args.chip.now c.args.spent.now c.args.reg k) b in
    let policy : c.field_at-field.result.policy ≡ policy_in fs k = ap (λ (f : Field). f.policy) c.field_at-field.ensures.field in
    record {
      fits = omega arith;
      bits = λ b l.
          taken _ fs k b c.field_at-field.result (part b) (bit 0 b) _ _ _ _ (field_list c.args.chip.now c.args.reg c.field_count-k-end.ensures.sound c.requires) place
          c.field_at-field.ensures.field
          (c.window.ensures b l) (c.replaced-word.ensures b l) (c.on-by.ensures b l ∙ rw (policy, c.mark_at.ensures) refl) (c.loop-k.invariant.bits b l);
    }

pub returns : goal.returns
returns c =
    let fs = fields_of c.args.chip.now c.args.reg in
    let end : c.loop-k.k ≡ length fs = omega (arith, c.field_count-k-end.ensures.count, c.loop-k-test.false, c.loop-k.auto.k-end) in
    let part : ℕ → ℕ → Bool = λ k b. effect_bit c.args.effect (policy_in fs k) (marks_in c.args.chip.now c.args.spent.now c.args.reg k) b in
    let sound = c.field_count-k-end.ensures.sound in
    let is : c.loop-k.word ≡ word_by_field fs part = is_word_by_field fs part c.loop-k.word c.loop-k.invariant.fits
    (λ b l. c.loop-k.invariant.bits b l ∙ finished _ fs c.loop-k.k b (λ k. part k b) 0 (field_list c.args.chip.now c.args.reg sound c.requires) end (owned_zero fs) l) in
    record {
      sound = sound;
      held = subst (λ (n : ℕ). IsValueOf c.args.chip.now c.args.reg n) (sym is) (word_is_value c.args.chip.now c.args.reg part sound c.requires);
      value = is;
    }

use Rattle.std.proofs.Common.{◌≡◌, ℕ, Bool, ◌<◌, cond, refl, ap, ◌∙◌, length, arith}
use Rattle.rl_policy.specs.Bits.{bit}
use Rattle.rl_policy.proofs.BitLemmas.{bit-from_bits}
use Rattle.rl_model.specs.Fields.{fields_of, field_in, covers, place_at}
use Rattle.rl_mirror.specs.Fields.{word_by_field}
use Rattle.rl_mirror.specs.Prediction.{reset_bit, after_reset}
use Rattle.rl_mirror.proofs.PlaceLemmas.{so_far-next, covers_is}
use Rattle.rl_mirror.proofs.FieldLemmas.{field_list}
use Rattle.rl_mirror.proofs.WordLemmas.{is_word_by_field, finished}
use Rattle.rl_mirror.proofs.resets.after_reset.Goals as goal

pub loop-k-preserved : goal.loop-k-preserved
loop-k-preserved c =
    let fs = fields_of c.args.chip.now c.args.reg in
    let k = c.loop-k.k in
    let place : k < length fs = omega (arith, c.field_count-k-end.ensures.count, c.loop-k-test.true) in
    let list = field_list c.args.chip.now c.args.reg c.field_count-k-end.ensures.sound c.requires.reg in
    record {
      fits = omega arith;
      bits = λ b l.
          ap (λ n. bit n b) c.with_reset-word.ensures
          ∙ bit-from_bits 64 (λ b. cond (covers (field_in fs k).shape b) (reset_bit (field_in fs k) c.args.kind b (bit c.loop-k.word b)) (bit c.loop-k.word b)) b l
          ∙ rw (covers_is _ fs k b list place, c.loop-k.invariant.bits b l)
          (so_far-next k (λ k. reset_bit (field_in fs k) c.args.kind b (bit c.args.value b)) (place_at fs b) (bit c.args.value b) (λ x. reset_bit (field_in fs k) c.args.kind b x) refl);
    }

pub returns : goal.returns
unfolding after_reset
returns c =
    let fs = fields_of c.args.chip.now c.args.reg in
    let part : ℕ → ℕ → Bool = λ k b. reset_bit (field_in fs k) c.args.kind b (bit c.args.value b) in
    let sound = c.field_count-k-end.ensures.sound in
    let end : c.loop-k.k ≡ length fs = omega (arith, c.field_count-k-end.ensures.count, c.loop-k-test.false, c.loop-k.auto.k-end) in
    let is : c.loop-k.word ≡ word_by_field fs part = is_word_by_field fs part c.loop-k.word c.loop-k.invariant.fits
    (λ b l. c.loop-k.invariant.bits b l ∙ finished _ fs c.loop-k.k b (λ k. part k b) c.args.value (field_list c.args.chip.now c.args.reg sound c.requires.reg) end c.requires.value l) in
    is

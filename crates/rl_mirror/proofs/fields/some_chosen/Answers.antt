use Rattle.std.proofs.Common.{◌≡◌, ℕ, ◌<◌, true, false, sym, ap, ◌∙◌, length, arith}
use Rattle.std.proofs.lemmas.Nat.{or_lt}
use Rattle.rl_policy.specs.Bits.{bit}
use Rattle.rl_policy.proofs.BitLemmas.{bit-or, bit-zero}
use Rattle.rl_model.specs.Fields.{fields_of, place_at}
use Rattle.rl_mirror.proofs.PlaceLemmas.{taken, so_far-skip}
use Rattle.rl_mirror.proofs.FieldLemmas.{field_list}
use Rattle.rl_mirror.proofs.MaskedLemmas.{added}
use Rattle.rl_mirror.proofs.WordLemmas.{is_word_by_field, finished, owned_zero}
use Rattle.rl_mirror.proofs.fields.some_chosen.Goals as goal
use Rattle.rl_mirror.proofs.fields.some_chosen.Goals.{then-has_field, else-has_field}

pub loop-k-preserved : goal.loop-k-preserved
loop-k-preserved c =
    let fs = fields_of c.args.chip.now c.args.reg in
    let k = c.loop-k.k in
    let word = c.loop-k.word in
    let place : k < length fs = omega (arith, c.field_count-k-end.ensures.count, c.loop-k-test.true) in
    elim c.if-has_field.branch [
      | then-has_field w ↦
          let chosen : bit c.args.fields k ≡ true = sym c.has_field.ensures ∙ w.if-has_field.true in
          record {
            fits = rw w.word-is (or_lt 64 word w.window-word.result (omega (arith, c.loop-k.invariant.fits)) (omega arith));
            bits = λ b l.
                ap (λ (n : ℕ). bit n b) w.word-is
                ∙ taken _ fs k b c.field_at-field.result (bit c.args.fields) (bit 0 b) _ _ true _ (field_list c.args.chip.now c.args.reg c.field_count-k-end.ensures.sound c.requires) place
                c.field_at-field.ensures.field
                (w.window-word.ensures b l) (bit-or word w.window-word.result b ∙ added (bit word b) (bit w.window-word.result b)) (sym chosen) (c.loop-k.invariant.bits b l);
          }
      | else-has_field w ↦
          let left : bit c.args.fields k ≡ false = sym c.has_field.ensures ∙ w.if-has_field.false in
          record {
            fits = omega (arith, w.word-is, c.loop-k.invariant.fits);
            bits = λ b l. ap (λ (n : ℕ). bit n b) w.word-is ∙ c.loop-k.invariant.bits b l ∙ so_far-skip k (bit c.args.fields) (place_at fs b) (bit 0 b) (left ∙ sym (bit-zero b));
          }
    ]

pub returns : goal.returns
returns c =
    let fs = fields_of c.args.chip.now c.args.reg in
    let end : c.loop-k.k ≡ length fs = omega (arith, c.field_count-k-end.ensures.count, c.loop-k-test.false, c.loop-k.auto.k-end) in
    let sound = c.field_count-k-end.ensures.sound in
    is_word_by_field fs (λ k b. bit c.args.fields k) c.loop-k.word c.loop-k.invariant.fits
    (λ b l. c.loop-k.invariant.bits b l ∙ finished _ fs c.loop-k.k b (bit c.args.fields) 0 (field_list c.args.chip.now c.args.reg sound c.requires) end (owned_zero fs) l)

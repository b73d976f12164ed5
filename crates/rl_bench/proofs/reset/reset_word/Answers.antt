use Rattle.std.proofs.Common.{◌≡◌, ℕ, ◌+◌, ◌<◌, not, ◌&&◌, ◌||◌, cond, ap, sym, ◌∙◌, arith, Option, Some, None, is_some, take, length, get_or, subst}
use Rattle.std.specs.List.Sorted.{IsNonDecreasingBy}
use Rattle.std.specs.Prelude.{position, bit_and}
use Rattle.std.specs.Int.{bit_not, w64}
use Rattle.std.specs.Option.{option_or}
use Rattle.std.proofs.lemmas.List.{get_or_read}
use Rattle.rl_policy.specs.Bits.{bit}
use Rattle.rl_policy.proofs.BitLemmas.{bit-zero, bit-and, bit-or, bit-not}
use Rattle.rl_bus.specs.Setup.{covers, no_field, field_of}
use Rattle.rl_bench.specs.Tables.{setup_held}
use Rattle.rl_bus.specs.State.{reset_bit}
use Rattle.rl_policy.proofs.Positions.{position_more}
use Rattle.rl_bench.proofs.StretchLemmas.{no_place_before, no_place_behind, other_reg, fields_there}
use Rattle.rl_bench.proofs.ResetLemmas.{right_true, taken_bit, word_bit}
use Rattle.rl_bench.proofs.StepLemmas.{left_true}
use Rattle.rl_bench.proofs.reset.reset_word.Goals as goal

pub loop-k-init : goal.loop-k-init
loop-k-init c =
    let t = setup_held c.args.board.now.tables in
    let reg = c.args.reg in
    let own = fields_there t.fields c.fields_of-own.result.first c.fields_of-own.result.end reg _ c.deref.ensures.value c.fields_of-own.ensures in
    let none : (b : ℕ) → position (λ f. covers f reg b) (take c.fields_of-own.result.first t.fields) ≡ None =
    λ b. no_place_before (λ f. covers f reg b) t.fields c.fields_of-own.result.first no_field (omega (arith, own.order, own.within))
    (λ j l. other_reg (get_or t.fields j no_field) reg b (own.before j no_field l)) in
    record {
      taken = λ b k. bit-zero b ∙ sym (ap is_some (none b));
      word = λ b k. sym (ap (λ o. reset_bit t c.args.kind o b (bit c.args.bits b)) (none b));
    }

pub returns : goal.returns
returns c b small =
    let t = setup_held c.args.board.now.tables in
    let reg = c.args.reg in
    let own = fields_there t.fields c.fields_of-own.result.first c.fields_of-own.result.end reg _ c.deref.ensures.value c.fields_of-own.ensures in
    let k = c.loop-k.k in
    c.loop-k.invariant.word b small
    ∙ ap (λ o. reset_bit t c.args.kind o b (bit c.args.bits b))
    (no_place_behind (λ f. covers f reg b) t.fields k no_field (omega (arith, c.loop-k.auto.k-end own.order, own.within))
    (λ j l m. other_reg (get_or t.fields j no_field) reg b (own.behind j no_field (omega (arith, l, c.loop-k-test.false)) m)))

pub with_value-word-requires-clause-free : goal.with_value-word-requires-clause-free
with_value-word-requires-clause-free c b k h =
    right_true _ _ (sym (c.seat_in.ensures b k) ∙ left_true (bit c.seat_in.result b) (bit (bit_not w64 c.loop-k.taken) b) (sym (bit-and c.seat_in.result (bit_not w64 c.loop-k.taken) b) ∙ h))

pub loop-k-preserved : goal.loop-k-preserved
loop-k-preserved c =
    let t = setup_held c.args.board.now.tables in
    let row = c.index.result.now in
    let i = c.loop-k.k in
    let reg = c.args.reg in
    let was = c.loop-k.invariant in
    let own = fields_there t.fields c.fields_of-own.result.first c.fields_of-own.result.end reg _ c.deref.ensures.value c.fields_of-own.ensures in
    let l : i < length t.fields = omega (arith, c.loop-k-test.true, own.within) in
    let place : ℕ → Option ℕ = λ b. position (λ f. covers f reg b) (take i t.fields) in
    let more : (b : ℕ) → position (λ f. covers f reg b) (take (i + 1) t.fields) ≡ option_or (place b) (cond (covers row reg b) (Some i) None) =
    λ b. position_more (λ f. covers f reg b) t.fields i row l
    ∙ ap (λ f. option_or (place b) (cond (covers f reg b) (Some i) None)) (sym c.index.ensures) in
    let free : (b : ℕ) → b < 64 → bit (bit_and c.seat_in.result (bit_not w64 c.loop-k.taken)) b ≡ (covers row reg b && not (is_some (place b))) =
    λ b k. bit-and c.seat_in.result (bit_not w64 c.loop-k.taken) b
    ∙ ap (λ x. x && bit (bit_not w64 c.loop-k.taken) b) (c.seat_in.ensures b k)
    ∙ ap (λ x. covers row reg b && x) (bit-not c.loop-k.taken b (omega arith) k ∙ ap not (was.taken b k)) in
    let lsb : row.lsb ≡ (field_of t i).lsb = ap (λ f. f.lsb) (get_or_read t.fields i row l c.index.ensures no_field) in
    record {
      taken = λ b k. bit-or c.loop-k.taken _ b ∙ ap (λ x. x || bit (bit_and c.seat_in.result (bit_not w64 c.loop-k.taken)) b) (was.taken b k)
          ∙ ap (λ x. is_some (place b) || x) (free b k)
          ∙ taken_bit (place b) (covers row reg b) i ∙ ap is_some (sym (more b));
      word = λ b k. rw (c.with_value-word.ensures b k, free b k, more b)
          (word_bit t c.args.kind i b row.lsb (bit c.args.bits b) (bit c.loop-k.word b) (covers row reg b) (place b) c.reset_of.result (was.word b k) c.reset_of.ensures lsb);
    }

pub reset_of-requires : goal.reset_of-requires
reset_of-requires c = c.args.board.now.sound.resets_rise

pub fields_of-own-requires : goal.fields_of-own-requires
fields_of-own-requires c = subst (λ fields. IsNonDecreasingBy (λ f. f.reg) fields) (sym c.deref.ensures.value) c.args.board.now.sound.fields_rise

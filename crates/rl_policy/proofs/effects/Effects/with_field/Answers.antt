use Rattle.std.proofs.Common.{◌≡◌, ℕ, ◌<◌, Bool, true, false, ◌∙◌, arith}
use Rattle.rl_policy.specs.Bits.{bit}
use Rattle.rl_policy.specs.Table.{after_write, after_read, value_read, spends_mark}
use Rattle.rl_policy.specs.declared.policy.Policy.{Policy}
use Rattle.rl_policy.proofs.BitLemmas.{bit-zero, bit-max}
use Rattle.rl_policy.specs.Masks.{IsMaskOf}
use Rattle.rl_policy.proofs.MaskLemmas.{mask_more}
use Rattle.rl_policy.proofs.effects.Effects.with_field.Goals as goal

pub returns : goal.returns
returns c own e =
    let was = e in
    let p = c.args.policy in
    let more = λ (test : Policy → Bool) (m x : ℕ) (before : IsMaskOf own test m) (effect : (b : ℕ) → b < 64 → bit x b ≡ test p).
    mask_more test own m c.args.self.now.owned c.args.seat x p (omega arith) before was.owned effect in
    record {
      owned = more (λ _. true) _ _ was.owned (λ b k. c.repeated.ensures b k);
      spending = more spends_mark _ _ was.spending (λ b k. c.repeated-2.ensures b k ∙ c.spends.ensures);
      zero_by_zero = more (λ q. after_write q false false false) _ _ was.zero_by_zero (λ b k. simp bit-zero at (c.written.ensures b k));
      one_by_zero = more (λ q. after_write q true false false) _ _ was.one_by_zero (λ b k. simp (bit-zero, bit-max) at (c.written-2.ensures b k));
      zero_by_one = more (λ q. after_write q false true false) _ _ was.zero_by_one (λ b k. simp (bit-zero, bit-max) at (c.written-3.ensures b k));
      one_by_one = more (λ q. after_write q true true false) _ _ was.one_by_one (λ b k. simp (bit-zero, bit-max) at (c.written-4.ensures b k));
      zero_by_read = more (λ q. after_read q false) _ _ was.zero_by_read (λ b k. simp bit-zero at (c.left_by_read.ensures b k));
      one_by_read = more (λ q. after_read q true) _ _ was.one_by_read (λ b k. simp bit-max at (c.left_by_read-2.ensures b k));
      shown = more (λ q. value_read q true) _ _ was.shown (λ b k. simp bit-max at (c.answered.ensures b k));
    }

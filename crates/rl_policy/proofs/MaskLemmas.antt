-- Masks by effect, over one field more.
use Rattle.std.proofs.Common.{◌≡◌, ℕ, ◌<◌, ◌^◌, Bool, true, false, not, ◌&&◌, ◌||◌, cond, Option, Some, None, refl, sym, ap, ◌∙◌, arith}
use Rattle.std.specs.Prelude.{bit_and, bit_or, option_map}
use Rattle.std.specs.Option.{option_or}
use Rattle.std.specs.Int.{bit_not, w64}
use Rattle.rl_policy.specs.Bits.{bit}
use Rattle.rl_policy.specs.Table.{after_write, after_read, value_read, spends_mark, is_write_only}
use Rattle.rl_policy.specs.declared.policy.Policy.{Policy}
use Rattle.rl_policy.proofs.BitLemmas.{bit-or, bit-and, bit-not}
use Rattle.rl_policy.proofs.TableLemmas.{after_write-by_mark}
use Rattle.rl_policy.specs.Access.{bit_written, mark_written, bit_left, bit_answered}
use Rattle.rl_policy.specs.Masks.{AreEffectsOf, owned_test, IsMaskOf, more_owned, more_owned_bit}
use Rattle.rl_policy.specs.declared.effects.Effects.{Effects}

-- the bits of a field whose effect is e join the mask of those before
mask_more_bit : (test : Policy → Bool) (m w s : Bool) (p : Policy) (o : Option Policy) → m ≡ owned_test test o
    → w ≡ owned_test (λ q. true) o → (m || ((s && not w) && test p)) ≡ owned_test test (more_owned_bit o s p)
mask_more_bit test m w true p None h k = grind arith
mask_more_bit test m w false p None h k = grind arith
mask_more_bit test m w true p (Some q) h k = grind arith
mask_more_bit test m w false p (Some q) h k = grind arith

pub mask_more : (test : Policy → Bool) (own : ℕ → Option Policy) (m w s e : ℕ) (p : Policy) → w < 2 ^ 64 → IsMaskOf own test m
    → IsMaskOf own (λ q. true) w → ((b : ℕ) → b < 64 → bit e b ≡ test p) → IsMaskOf (more_owned own (bit s) p) test (bit_or m (bit_and (bit_and s (bit_not w64 w)) e))
mask_more test own m w s e p fits before owned effect b k =
    bit-or m _ b
    ∙ ap (λ x. bit m b || x) (bit-and _ e b ∙ ap (λ x. x && bit e b) (bit-and s _ b ∙ ap (λ x. bit s b && x) (bit-not w b fits k)) ∙ ap (λ x. (bit s b && not (bit w b)) && x) (effect b k))
    ∙ mask_more_bit test (bit m b) (bit w b) (bit s b) p (own b) (before b k) (owned b k)

-- the same policies have the same masks
pub effects_same : (own new : ℕ → Option Policy) (e : Effects) → ((b : ℕ) → b < 64 → own b ≡ new b) → AreEffectsOf own e → AreEffectsOf new e
effects_same own new e same h = record {
  owned = λ b k. h.owned b k ∙ ap (owned_test _) (same b k);
  spending = λ b k. h.spending b k ∙ ap (owned_test _) (same b k);
  zero_by_zero = λ b k. h.zero_by_zero b k ∙ ap (owned_test _) (same b k);
  one_by_zero = λ b k. h.one_by_zero b k ∙ ap (owned_test _) (same b k);
  zero_by_one = λ b k. h.zero_by_one b k ∙ ap (owned_test _) (same b k);
  one_by_one = λ b k. h.one_by_one b k ∙ ap (owned_test _) (same b k);
  zero_by_read = λ b k. h.zero_by_read b k ∙ ap (owned_test _) (same b k);
  one_by_read = λ b k. h.one_by_read b k ∙ ap (owned_test _) (same b k);
  shown = λ b k. h.shown b k ∙ ap (owned_test _) (same b k);
}

-- a bit that belongs to the i-th of some fields, or to none so far
pub own_bit : (f : ℕ → Policy) (o : Option ℕ) (c : Bool) (i : ℕ) → more_owned_bit (option_map f o) c (f i) ≡ option_map f (option_or o (cond c (Some i) None))
own_bit f (Some j) c i = refl
own_bit f None true i = refl
own_bit f None false i = refl

-- any effect is that of its four cases
four_cases : (p : Policy) (x w : Bool)
    → after_write p x w false ≡ cond w (cond x (after_write p true true false) (after_write p false true false)) (cond x (after_write p true false false) (after_write p false false false))
four_cases p true true = refl
four_cases p true false = refl
four_cases p false true = refl
four_cases p false false = refl

abbrev effect_of : Policy → (stored written : Bool) → Bool
effect_of p x w = cond w (cond x (after_write p true true false) (after_write p false true false)) (cond x (after_write p true false false) (after_write p false false false))

-- the masks give what a write does to one bit
pub masks_write : (o : Option Policy) (x s w l : Bool)
    → cond ((owned_test (λ p. true) o && l) && not (owned_test spends_mark o && s))
    (cond w
    (cond x (owned_test (λ p. after_write p true true false) o) (owned_test (λ p. after_write p false true false) o))
    (cond x (owned_test (λ p. after_write p true false false) o) (owned_test (λ p. after_write p false false false) o)))
    x
    ≡ bit_written o x s w l
masks_write None x s w l = refl
masks_write (Some p) x s w false = refl
masks_write (Some p) x s w true = by (spends_mark p && s) (four_cases p x w) ∙ sym (after_write-by_mark p x w s)
  where
    by : (m : Bool) → after_write p x w false ≡ effect_of p x w → cond (not m) (effect_of p x w) x ≡ cond m x (after_write p x w false)
    by true e = refl
    by false e = sym e

pub masks_mark : (o : Option Policy) (s l : Bool) → (s || (owned_test spends_mark o && l)) ≡ mark_written o s l
masks_mark None true l = refl
masks_mark None false l = refl
masks_mark (Some p) s l = grind arith

-- the masks give what a read does to one bit
pub masks_left : (o : Option Policy) (x l : Bool) → cond (owned_test (λ p. true) o && l) (cond x (owned_test (λ p. after_read p true) o) (owned_test (λ p. after_read p false) o)) x ≡ bit_left o x l
masks_left None x l = refl
masks_left (Some p) true l = refl
masks_left (Some p) false l = refl

pub masks_answer : (o : Option Policy) (x : Bool) → (owned_test (λ p. value_read p true) o && x) ≡ bit_answered o x
masks_answer None x = refl
masks_answer (Some p) x = by (is_write_only p) x
  where
    by : (h x : Bool) → (cond h false true && x) ≡ cond h false x
    by true true = refl
    by true false = refl
    by false true = refl
    by false false = refl

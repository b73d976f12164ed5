-- The chosen bytes of an item, over its words.
use Rattle.std.proofs.Common.{◌≡◌, ℕ, zero, suc, ◌/◌, ◌≤◌, Bool, true, false, not, ◌&&◌, ◌||◌, cond, eqb, List, [], ◌∷◌, Option, Some, None, is_some, refl, sym, ap, ◌∙◌, arith, eqb-true}
use Rattle.std.specs.Prelude.{slice_index}
use Rattle.rl_policy.specs.Bits.{bit}
use Rattle.rl_policy.proofs.BitLemmas.{bit-from_bits, bit-zero}
use Rattle.rl_bus.specs.declared.table.Lanes.{Lanes}
use Rattle.rl_bus.specs.Spread.{lane_below, lane_bit}
use Rattle.rl_map.specs.declared.word.Word.{Word}
use Rattle.rl_map.specs.Words.{lanes_of}
use Rattle.rl_map.specs.Partition.{has_bit, have_bit, AreParts}
use Rattle.rl_split.specs.Access.{chosen_lanes, lanes_for, has_chosen, sent_words}
use Rattle.rl_split.proofs.WriteRuns.{are_touched}
use Rattle.rl_split.proofs.ReadRuns.{AreSplit}

-- ---- one word

-- among the chosen lanes a chosen byte has its lane, and no other byte has one
pub lane_chosen : (n chosen : ℕ) (w : Word) (j : ℕ) → n ≤ 8 → lane_below n (lanes_for chosen w) j ≡ cond (bit chosen j) (lane_below n (lanes_of w) j) None
unfolding lane_below
lane_chosen zero chosen w j l = none (bit chosen j)
  where
    none : (t : Bool) → None ≡ cond t None (let x : Option ℕ = None in x)
    none true = refl
    none false = refl
lane_chosen (suc n) chosen w j l =
    ap (λ t. cond (t && eqb (slice_index w.bytes n) j) (Some n) (lane_below n (lanes_for chosen w) j)) (bit-from_bits 8 (λ l. bit w.lanes l && bit chosen (slice_index w.bytes l)) n (omega arith))
    ∙ ap (λ o. cond ((bit w.lanes n && bit chosen (slice_index w.bytes n)) && eqb (slice_index w.bytes n) j) (Some n) o) (lane_chosen n chosen w j (omega arith))
    ∙ by (bit w.lanes n) (eqb (slice_index w.bytes n) j) (bit chosen j) (bit chosen (slice_index w.bytes n)) (lane_below n (lanes_of w) j) (λ e. ap (bit chosen) (eqb-true (slice_index w.bytes n) j e))
  where
    by : (on here is at : Bool) (o : Option ℕ) → (here ≡ true → at ≡ is) → cond ((on && at) && here) (Some n) (cond is o None) ≡ cond is (cond (on && here) (Some n) o) None
    by true true is at o same = ap (λ t. cond (t && true) (Some n) (cond is o None)) (same refl) ∙ both is o
      where
        both : (is : Bool) (o : Option ℕ) → cond (is && true) (Some n) (cond is o None) ≡ cond is (Some n) None
        both true o = refl
        both false o = refl
    by true false is true o same = refl
    by true false is false o same = refl
    by false here is at o same = refl

is_some_chosen : (t : Bool) (o : Option ℕ) → is_some (cond t o None) ≡ (is_some o && t)
is_some_chosen true None = refl
is_some_chosen true (Some l) = refl
is_some_chosen false None = refl
is_some_chosen false (Some l) = refl

-- the chosen lanes carry the chosen bytes of the word
pub chosen_bit : (chosen : ℕ) (w : Word) (b : ℕ) → lane_bit (lanes_for chosen w) b ≡ (has_bit w b && bit chosen (b / 8))
chosen_bit chosen w b = ap is_some (lane_chosen 8 chosen w (b / 8) (omega arith)) ∙ is_some_chosen (bit chosen (b / 8)) (lane_below 8 (lanes_of w) (b / 8))

none_enabled : (n : ℕ) (s : Lanes) (j : ℕ) → s.enabled ≡ 0 → lane_below n s j ≡ None
unfolding lane_below
none_enabled zero s j e = refl
none_enabled (suc n) s j e =
    ap (λ x. cond (bit x n && eqb (slice_index s.bytes n) j) (Some n) (lane_below n s j)) e
    ∙ ap (λ t. cond (t && eqb (slice_index s.bytes n) j) (Some n) (lane_below n s j)) (bit-zero n)
    ∙ none_enabled n s j e

pub not_sent : (chosen : ℕ) (w : Word) (b : ℕ) → has_chosen chosen w ≡ false → lane_bit (lanes_for chosen w) b ≡ false
not_sent chosen w b e = ap is_some (none_enabled 8 (lanes_for chosen w) (b / 8) (zero_of (eqb (chosen_lanes chosen w) 0) refl e))
  where
    zero_of : (t : Bool) → eqb (chosen_lanes chosen w) 0 ≡ t → not t ≡ false → chosen_lanes chosen w ≡ 0
    zero_of true q e = eqb-true (chosen_lanes chosen w) 0 q
    zero_of false q e = cc

-- ---- all words

-- the words that are sent have the chosen bytes
pub sent_touches : (chosen : ℕ) (ws : List Word) (b : ℕ) → are_touched (lanes_for chosen) (sent_words chosen ws) b ≡ (have_bit ws b && bit chosen (b / 8))
sent_touches chosen [] b = refl
sent_touches chosen (w ∷ ws) b = by (has_chosen chosen w) refl (chosen_bit chosen w b) (sent_touches chosen ws b)
  where
    shared : (h t c : Bool) → ((h && c) || (t && c)) ≡ ((h || t) && c)
    shared true true true = refl
    shared true true false = refl
    shared true false true = refl
    shared true false false = refl
    shared false t c = refl

    by : (s : Bool) → has_chosen chosen w ≡ s → lane_bit (lanes_for chosen w) b ≡ (has_bit w b && bit chosen (b / 8)) → are_touched (lanes_for chosen) (sent_words chosen ws) b ≡ (have_bit ws b && bit
        chosen (b / 8)) →
        are_touched (lanes_for chosen) (cond s (w ∷ sent_words chosen ws) (sent_words chosen ws)) b ≡ ((has_bit w b || have_bit ws b) && bit chosen (b / 8))
    by true e own rest =
        ap (λ t. t || are_touched (lanes_for chosen) (sent_words chosen ws) b) own
        ∙ ap (λ t. (has_bit w b && bit chosen (b / 8)) || t) rest
        ∙ shared (has_bit w b) (have_bit ws b) (bit chosen (b / 8))
    by false e own rest =
        rest
        ∙ ap (λ t. t || (have_bit ws b && bit chosen (b / 8))) (sym (sym own ∙ not_sent chosen w b e))
        ∙ shared (has_bit w b) (have_bit ws b) (bit chosen (b / 8))

and_first : (a c : Bool) → (a && c) ≡ true → a ≡ true
and_first true c e = refl
and_first false c e = e

-- no byte stands in two of them
pub sent_split : (chosen : ℕ) (ws : List Word) → AreParts ws → AreSplit (lanes_for chosen) (sent_words chosen ws)
sent_split chosen [] parts = tt
sent_split chosen (w ∷ ws) parts = by (has_chosen chosen w) (sent_split chosen ws parts.1)
  where
    apart : (b : ℕ) → lane_bit (lanes_for chosen w) b ≡ true → are_touched (lanes_for chosen) (sent_words chosen ws) b ≡ false
    apart b e = sent_touches chosen ws b ∙ ap (λ t. t && bit chosen (b / 8)) (parts.0 b (and_first (has_bit w b) (bit chosen (b / 8)) (sym (chosen_bit chosen w b) ∙ e)))

    by : (s : Bool) → AreSplit (lanes_for chosen) (sent_words chosen ws) → AreSplit (lanes_for chosen) (cond s (w ∷ sent_words chosen ws) (sent_words chosen ws))
    by true rest = (apart, rest)
    by false rest = rest

-- The last line of a woven log.
use Rattle.std.proofs.Common.{◌⊎◌, inl, inr, ℕ, suc, ◌+◌, List, [], ◌∷◌, ◌++◌, length, Result, Ok, Err, refl, sym, ap, ◌∙◌, append_assoc, arith}
use Rattle.rl_log.specs.Laws.{EndsCounted}
use Rattle.rl_log.specs.Log.{Ending, after_text, said}
use Rattle.rl_log.specs.Texts.{end_text}
use Rattle.rl_weave_log.specs.declared.refusal.WovenRefusal.{WovenRefusal}
use Rattle.rl_weave_log.specs.Refusals.{refused_woven_text}
use Rattle.rl_weave_log.specs.WeaveLog.{Part, Weaving, comes_of, goes_on, text_on, woven_from}
use Rattle.rl_weave_laws.specs.Endings.{EndsStopped, EveryWovenLogEnds, groups_text}

abbrev Ended : Ending → (first count : ℕ) → List ℕ → Type 0
Ended e first count text = EndsCounted e text ⊎ EndsStopped e first count text

later : (front : List ℕ) (e : Ending) (first count : ℕ) (text : List ℕ) → Ended e (first + 1) count text
    → Ended (after_text front e) first (suc count) (front ++ text)
later front e first count text (inl h) = inl (record {
  text_is = ap (λ t. front ++ t) h.text_is ∙ sym (append_assoc front text (end_text e.counts));
  status_is = h.status_is;
})
later front e first count text (inr h) = inr (record {
  number = h.number;
  why = h.why;
  low = omega (arith, h.low);
  high = omega (arith, h.high);
  text_is = ap (λ t. front ++ t) h.text_is ∙ sym (append_assoc front text (refused_woven_text h.number h.why));
  status_is = h.status_is;
})

line_ends : (number count : ℕ) (g : Weaving) (r : Result Part WovenRefusal) (rest : Weaving → Ending) (text : Weaving → List ℕ)
    → ((h : Weaving) → Ended (rest h) (number + 1) count (text h)) → Ended (goes_on number g r rest) number (suc count) (text_on r text)
line_ends number count g (Err why) rest text more =
    inr (record { number = number; why = why; low = omega arith; high = omega arith; text_is = refl; status_is = refl })
line_ends number count g (Ok p) rest text more = later p.text (rest p.after) number count (text p.after) (more p.after)

script_ends : (lines : List (List ℕ)) (number : ℕ) (g : Weaving) → Ended (woven_from number g lines) number (length lines) (groups_text number g lines)
unfolding woven_from groups_text
script_ends [] number g = inl (record { text_is = refl; status_is = refl })
script_ends (line ∷ lines) number g =
    line_ends number (length lines) g (comes_of g (said number line)) (λ h. woven_from (number + 1) h lines) (λ h. groups_text (number + 1) h lines)
    (λ h. script_ends lines (number + 1) h)

pub every_woven_log_ends : EveryWovenLogEnds
every_woven_log_ends number g lines = script_ends lines number g

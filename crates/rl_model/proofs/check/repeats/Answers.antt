use Rattle.std.proofs.Common.{◌≡◌, ◌+◌, ◌-◌, Bool, ◌||◌, List, ◌∷◌, length, length-drop, take, drop, get_or, ◌<◌, ℕ, sym, ap, ◌∙◌}
use Rattle.std.proofs.Math.Seq.{take-length}
use Rattle.std.proofs.lemmas.List.{at_drop_more}
use Rattle.std.specs.List.{list_any}
use Rattle.rl_model.specs.declared.parts.ResetPart.{ResetPart}
use Rattle.rl_model.specs.Rules.{same_kind, repeats}
use Rattle.rl_model.proofs.check.repeats.Goals as goal

-- whether the reset at a place comes again, and whether one after it does
one_more : (resets : List ResetPart) (i : ℕ) (reset : ResetPart) (again all : Bool) → i < length resets → reset ≡ get_or resets i reset
    → list_any (same_kind reset) (take (length resets - (i + 1)) (drop (i + 1) resets)) ≡ again → repeats (drop i resets) ≡ all → (again || repeats (drop (i + 1) resets)) ≡ all
one_more resets i reset again all low is here was =
    let rest : List ResetPart = drop (i + 1) resets in
    let whole : take (length resets - (i + 1)) rest ≡ rest = rw (← length-drop (i + 1) resets) (take-length rest) in
    sym (ap (λ b. b || repeats rest) (rw whole at here)) ∙ ap (λ r. repeats (r ∷ rest)) is ∙ sym (at_drop_more repeats resets i reset low) ∙ was

pub returns-then-has_kind : goal.returns-then-has_kind
returns-then-has_kind c =
    one_more c.args.resets.now c.loop-i.i c.index-resets-i.result _ _ c.loop-i-test.true c.index-resets-i.is (sym c.has_kind.ensures ∙ c.if-has_kind.true) c.loop-i.invariant

pub loop-i-preserved : goal.loop-i-preserved
loop-i-preserved c =
    one_more c.args.resets.now c.loop-i.i c.index-resets-i.result _ _ c.loop-i-test.true c.index-resets-i.is (sym c.has_kind.ensures ∙ c.if-has_kind.false) c.loop-i.invariant

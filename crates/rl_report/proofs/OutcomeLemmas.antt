-- The text of what came of an operation ends no line, and begins by a colon.
use Rattle.std.proofs.Common.{◌≡◌, ℕ, ◌*◌, ◌&&◌, List, [], ◌∷◌, ◌++◌, codes, Option, Some, None, refl, ap}
use Rattle.std.specs.List.{range_with_len}
use Rattle.rl_policy.specs.Bits.{bit}
use Rattle.rl_model.specs.Rows.{ChipData}
use Rattle.rl_model.specs.Chip.{IsSound}
use Rattle.rl_model.specs.Fields.{count_of, size_of}
use Rattle.rl_access.specs.declared.event.Event.{Event}
use Rattle.rl_access.specs.declared.event.End.{End}
use Rattle.rl_access.specs.declared.event.End.TheVariants as end
use Rattle.rl_access.specs.declared.event.Refused.{Refused}
use Rattle.rl_access.specs.declared.event.Refused.TheVariants.{NotPlaced}
use Rattle.rl_access.specs.Operation.{register_of, digits_of}
use Rattle.rl_report.specs.Numbers.{padded}
use Rattle.rl_report.specs.Outcome.{why_text, end_text, is_done, is_show, name_text, has_differ, desired_text, differ_text, after_text, is_refused, result_text}
use Rattle.rl_report.specs.Pieces.{joined}
use Rattle.rl_report.proofs.NameTexts.{unbroken-field_in}
use Rattle.rl_report.proofs.Unbroken.{IsUnbroken, unbroken-fixed, unbroken-joined, unbroken-last, unbroken-if, unbroken-flat_map, unbroken-decimal, unbroken-padded}

unbroken-why_text : (why : Refused) → IsUnbroken (why_text why)
unbroken-why_text NotPlaced = unbroken-fixed _ refl
unbroken-why_text _ = unbroken-fixed _ refl

unbroken-end_text : (digits : ℕ) (e : End) → IsUnbroken (end_text digits e)
unbroken-end_text digits end.Done = unbroken-fixed _ refl
unbroken-end_text digits (end.Value value) = unbroken-joined (codes ": ok 0x") _ (unbroken-fixed _ refl) (unbroken-last _ (unbroken-padded digits value))
unbroken-end_text digits (end.Sent word) = unbroken-joined (codes ": ok sent 0x") _ (unbroken-fixed _ refl) (unbroken-last _ (unbroken-padded digits word))
unbroken-end_text digits end.Nothing = unbroken-fixed _ refl
unbroken-end_text digits (end.BusError word) = unbroken-joined (codes ": bus error at word ") _ (unbroken-fixed _ refl) (unbroken-last _ (unbroken-decimal word))
unbroken-end_text digits (end.Refused why) = unbroken-joined (codes ": refused ") _ (unbroken-fixed _ refl) (unbroken-last _ (unbroken-why_text why))

module _ (c : ChipData) (chip : IsSound c) (e : Event) where
  unbroken-name_text : (reg place : ℕ) → IsUnbroken (name_text c reg e.differ place)
  unbroken-name_text reg place =
      unbroken-if (bit e.differ place) _ [] (unbroken-joined (codes " ") _ (unbroken-fixed _ refl) (unbroken-last _ (unbroken-field_in c chip reg place))) (unbroken-fixed _ refl)

  unbroken-desired_text : (reg : ℕ) → IsUnbroken (desired_text c e reg)
  unbroken-desired_text reg =
      unbroken-if (is_show e.op && is_done e.end) _ []
      (unbroken-joined (codes " desired 0x") _ (unbroken-fixed _ refl) (unbroken-last _ (unbroken-padded (2 * size_of c reg) e.desired))) (unbroken-fixed _ refl)

  unbroken-differ_text : (reg : ℕ) → IsUnbroken (differ_text c e reg)
  unbroken-differ_text reg =
      unbroken-if (has_differ e) _ []
      (unbroken-joined (codes " differ") _ (unbroken-fixed _ refl) (unbroken-last _ (unbroken-flat_map (name_text c reg e.differ) (range_with_len 0 (count_of c reg)) (unbroken-name_text reg))))
      (unbroken-fixed _ refl)

  unbroken-after_text : (reg : Option ℕ) → IsUnbroken (after_text c e reg)
  unbroken-after_text (Some reg) =
      unbroken-joined (desired_text c e reg) _ (unbroken-desired_text reg) (unbroken-joined (codes " mirror 0x") _ (unbroken-fixed _ refl)
      (unbroken-joined (padded (2 * size_of c reg) e.mirrored) _ (unbroken-padded (2 * size_of c reg) e.mirrored) (unbroken-last _ (unbroken-differ_text reg))))
  unbroken-after_text None = unbroken-if (has_differ e) (codes " differ") [] (unbroken-fixed _ refl) (unbroken-fixed _ refl)

  pub unbroken-result_text : IsUnbroken (result_text c e)
  unbroken-result_text =
      unbroken-joined (end_text (digits_of c e.op) e.end) _ (unbroken-end_text (digits_of c e.op) e.end)
      (unbroken-last _ (unbroken-if (is_refused e.end) [] (after_text c e (register_of c e.op)) (unbroken-fixed _ refl) (unbroken-after_text (register_of c e.op))))

-- a text that begins by a colon
abbrev pub BeginsByColon : List ℕ → Type 0
BeginsByColon text = (rest : List ℕ) × (text ≡ 58 ∷ rest)

colon-end_text : (digits : ℕ) (e : End) → BeginsByColon (end_text digits e)
unfolding joined
colon-end_text digits end.Done = (_, refl)
colon-end_text digits (end.Value value) = (_, refl)
colon-end_text digits (end.Sent word) = (_, refl)
colon-end_text digits end.Nothing = (_, refl)
colon-end_text digits (end.BusError word) = (_, refl)
colon-end_text digits (end.Refused why) = (_, refl)

colon-more : (text : List ℕ) (more : List ℕ) → BeginsByColon text → BeginsByColon (text ++ more)
colon-more text more h = (h.0 ++ more, ap (λ l. l ++ more) h.1)

pub colon-result_text : (c : ChipData) (e : Event) (more : List (List ℕ)) → BeginsByColon (joined (result_text c e ∷ more))
unfolding joined
colon-result_text c e more = colon-more _ _ (colon-more (end_text (digits_of c e.op) e.end) _ (colon-end_text (digits_of c e.op) e.end))

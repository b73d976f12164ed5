-- Words that ask for nothing.
use Rattle.std.proofs.Common.{◌≡◌, ◌<◌, ◌≤◌, List, [], ◌∷◌, None, length, map, String, string_bytes, refl, arith}
use Rattle.std.specs.declared.alloc.Global.{Global}
use Rattle.rl_grade_report.specs.Asked.{asked_of}
use Rattle.rl_grade_report.specs.Call.{bound_of}

pub too_many : (words : List (String Global)) → 5 ≤ length words → None ≡ asked_of (map string_bytes words)
too_many [] h = absurd (omega arith)
too_many (a ∷ []) h = absurd (omega arith)
too_many (a ∷ b ∷ []) h = absurd (omega arith)
too_many (a ∷ b ∷ c ∷ []) h = absurd (omega arith)
too_many (a ∷ b ∷ c ∷ d ∷ []) h = absurd (omega arith)
too_many (a ∷ b ∷ c ∷ d ∷ e ∷ rest) h = refl

pub one_word : (words : List (String Global)) → 1 ≤ length words → length words < 2 → None ≡ bound_of (map string_bytes words)
one_word [] h low = absurd (omega arith)
one_word (a ∷ []) h low = refl
one_word (a ∷ b ∷ rest) h low = absurd (omega arith)

pub no_bound : (words : List (String Global)) → 3 ≤ length words → None ≡ bound_of (map string_bytes words)
no_bound [] h = absurd (omega arith)
no_bound (a ∷ []) h = absurd (omega arith)
no_bound (a ∷ b ∷ []) h = absurd (omega arith)
no_bound (a ∷ b ∷ c ∷ rest) h = refl

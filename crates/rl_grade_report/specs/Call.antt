-- What a call is for.
use Rattle.std.specs.Prelude.{ℕ, ◌-◌, ◌<◌, nat_le, if◌then◌else◌, List, [], ◌∷◌, length, map, take, slice_get, codes, Option, Some, None, option_map, String, string_bytes}
use Rattle.std.specs.Str.{bytes_eq}
use Rattle.rl_grade_report.specs.declared.call.Call.{Call}
use Rattle.rl_grade_report.specs.declared.call.Call.TheVariants.{Grade, Waive, Add}
use Rattle.rl_grade_report.specs.declared.asked.Asked.{Asked}
use Rattle.rl_grade_report.specs.Asked.{asked_of, bound_named}

-- nothing, or the bound
abbrev pub bound_of : List (List ℕ) → Option (Option ℕ)
bound_of [] = Some None
bound_of (at ∷ []) = None
bound_of (at ∷ percent ∷ []) = bound_named at percent
bound_of (at ∷ percent ∷ other ∷ others) = None

abbrev pub bound_in : {Z : Type 0} → (words : List (String Z)) → Option (Option ℕ)
bound_in words = bound_of (map string_bytes words)

-- the word before the last one
abbrev pub word_before_last : List (List ℕ) → Option (List ℕ)
word_before_last words = if nat_le 2 (length words) then slice_get words (length words - 2) else None

abbrev pub waived_if : (word : Option (List ℕ)) → (front : List (List ℕ)) → Option Asked
waived_if None front = None
waived_if (Some word) front = if bytes_eq word (codes "waive") then asked_of front else None

-- to grade what is asked for before `waive` and a file
abbrev pub waived_of : List (List ℕ) → Option Asked
waived_of words = waived_if (word_before_last words) (take (length words - 2) words)

abbrev pub waived_by : {Z : Type 0} → (words : List (String Z)) → Option Asked
waived_by words = waived_of (map string_bytes words)

-- to grade with waivers, or else without
abbrev pub grade_of : Option Asked → (words : List (List ℕ)) → Option Call
grade_of (Some asked) words = Some (Waive asked)
grade_of None words = option_map Grade (asked_of words)

-- to add shares, with a bound if so wanted; or to grade a session
abbrev pub call_of : List (List ℕ) → Option Call
call_of [] = None
call_of (word ∷ words) =
    if bytes_eq word (codes "add") then option_map Add (bound_of words)
    else grade_of (waived_of (word ∷ words)) (word ∷ words)

abbrev pub call_by : {Z : Type 0} → (words : List (String Z)) → Option Call
call_by words = call_of (map string_bytes words)

-- a grading takes each N-th flaw, with N above 0
abbrev pub HasShare : Call → Type 0
HasShare (Grade asked) = 0 < asked.share.every
HasShare (Waive asked) = 0 < asked.share.every
HasShare (Add bound) = Unit {0}

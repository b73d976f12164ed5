-- What the words of a call ask for.
use Rattle.std.specs.Prelude.{ℕ, ◌+◌, ◌==◌, ◌&&◌, ◌||◌, not, nat_le, Bool, true, false, if◌then◌else◌, List, [], ◌∷◌, map, take, drop, position, option_map, codes, Option, Some, None, String, string_bytes}
use Rattle.std.specs.List.{list_all}
use Rattle.std.specs.Str.{bytes_eq}
use Rattle.rl_policy.specs.declared.number.NumberText.{NumberText}
use Rattle.rl_policy.specs.declared.number.NumberText.TheVariants.{Value, Bad, TooLarge}
use Rattle.rl_policy.specs.Numbers.{number_of}
use Rattle.rl_grade.specs.declared.grade.Share.{Share}
use Rattle.rl_log.specs.declared.status.Status.{Status}
use Rattle.rl_log.specs.declared.status.Status.TheVariants as status
use Rattle.rl_grade_report.specs.declared.totals.Totals.{Totals}
use Rattle.rl_grade_report.specs.Totals.{is_below}
use Rattle.rl_grade_report.specs.declared.asked.Asked.{Asked}
use Rattle.rl_grade_report.specs.declared.asked.Tell.{Tell}
use Rattle.rl_grade_report.specs.declared.asked.Tell.TheVariants.{Run, Missed, Hidden, Found, Waived, Lines, Json}

-- all flaws
abbrev pub whole : Share
whole = record { first = 1; every = 1 }

abbrev pub is_json : Tell → Bool
is_json Run = false
is_json Missed = false
is_json Hidden = false
is_json Found = false
is_json Waived = false
is_json Lines = false
is_json Json = true

-- not all flaws are tried
abbrev pub is_part : Asked → Bool
is_part asked = not (asked.share.every == 1)

-- the text names the session by its mark: that of a share, and the object
abbrev pub is_marked : Asked → Bool
is_marked asked = is_part asked || is_json asked.tell

-- a grading that wrote its text passed unless it found fewer of those that can be found than the bound
abbrev pub status_at : Asked → Totals → Status
status_at asked totals = if is_below asked.bound totals then status.Found else status.Passed

-- ---- numbers

-- digits and nothing else
abbrev pub is_decimal : List ℕ → Bool
is_decimal text = list_all (λ c. nat_le 48 c && nat_le c 57) text

abbrev pub value_of : NumberText → Option ℕ
value_of (Value n) = Some n
value_of Bad = None
value_of TooLarge = None

abbrev pub decimal_of : List ℕ → Option ℕ
decimal_of text = if is_decimal text then value_of (number_of text) else None

-- ---- a share

-- from 1 to the number of shares
abbrev pub share_if : (first every : Option ℕ) → Option Share
share_if (Some first) (Some every) =
    if nat_le 1 first && nat_le first every then Some (record { first = first; every = every }) else None
share_if (Some first) None = None
share_if None every = None

-- two numbers around the slash
abbrev pub share_at : List ℕ → (slash : Option ℕ) → Option Share
share_at word None = None
share_at word (Some slash) = share_if (decimal_of (take slash word)) (decimal_of (drop (slash + 1) word))

abbrev pub share_named : List ℕ → Option Share
share_named word = share_at word (position (λ c. c == 47) word)

-- ---- a bound

abbrev pub percent_if : Option ℕ → Option ℕ
percent_if None = None
percent_if (Some percent) = if nat_le percent 100 then Some percent else None

abbrev pub bound_named : (word percent : List ℕ) → Option (Option ℕ)
bound_named word percent =
    if bytes_eq word (codes "at-least") then option_map Some (percent_if (decimal_of percent)) else None

-- ---- the words

abbrev pub tell_named : List ℕ → Option Tell
tell_named word =
    if bytes_eq word (codes "run") then Some Run
    else (if bytes_eq word (codes "missed") then Some Missed
    else (if bytes_eq word (codes "hidden") then Some Hidden
    else (if bytes_eq word (codes "found") then Some Found
    else (if bytes_eq word (codes "waived") then Some Waived
    else (if bytes_eq word (codes "lines") then Some Lines
    else (if bytes_eq word (codes "json") then Some Json else None))))))

abbrev pub asked_if : Option Tell → Option Share → Option (Option ℕ) → Option Asked
asked_if (Some tell) (Some share) (Some bound) = Some (record { tell = tell; share = share; bound = bound })
asked_if (Some tell) (Some share) None = None
asked_if (Some tell) None bound = None
asked_if None share bound = None

-- what is told; then, if so wanted, of which share; then, if so wanted, the bound
abbrev pub asked_of : List (List ℕ) → Option Asked
asked_of [] = None
asked_of (word ∷ []) = asked_if (tell_named word) (Some whole) (Some None)
asked_of (word ∷ share ∷ []) = asked_if (tell_named word) (share_named share) (Some None)
asked_of (word ∷ at ∷ percent ∷ []) = asked_if (tell_named word) (Some whole) (bound_named at percent)
asked_of (word ∷ share ∷ at ∷ percent ∷ []) = asked_if (tell_named word) (share_named share) (bound_named at percent)
asked_of (word ∷ share ∷ at ∷ percent ∷ other ∷ others) = None

-- what a call with these words is asked to do
abbrev pub asked_by : {Z : Type 0} → (words : List (String Z)) → Option Asked
asked_by words = asked_of (map string_bytes words)

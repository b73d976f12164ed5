-- How many flaws of each kind are found, missed, hidden and waived.
use Rattle.std.specs.Prelude.{ℕ, ◌==◌, nat_lt, ◌&&◌, ◌||◌, Bool, if◌then◌else◌, List, [], ◌∷◌, ◌++◌, map, filter, flat_map, count_by, codes, decimal, is_ok}
use Rattle.rl_report.specs.Pieces.{joined}
use Rattle.rl_grade_report.specs.declared.counts.CountForm.{CountForm}
use Rattle.rl_grade_report.specs.declared.counts.CountForm.TheVariants.{Words, Member}
use Rattle.rl_grade_report.specs.declared.counts.Counts.{Counts}
use Rattle.rl_grade_report.specs.declared.kind.Kind.{Kind}
use Rattle.rl_grade_report.specs.declared.kind.TheConstants.{KINDS}
use Rattle.rl_grade_report.specs.declared.verdict.Judged.{Judged}
use Rattle.rl_grade_report.specs.declared.verdict.Verdict.{Verdict}
use Rattle.rl_grade_report.specs.declared.verdict.Verdict.TheVariants.{Missed, Hidden, Waived}
use Rattle.rl_grade_report.specs.Kinds.{is_kind, kind_name}
use Rattle.rl_grade_report.specs.Verdict.{has_verdict}

-- a flaw of the kind that is found
abbrev pub is_found : Judged → Kind → Bool
is_found j kind = is_kind kind j.flaw && is_ok j.found

-- a flaw of the kind of which this is said
abbrev pub is_of : Kind → Verdict → Judged → Bool
is_of kind verdict j = is_kind kind j.flaw && has_verdict verdict j

abbrev pub found_of : List Judged → Kind → ℕ
found_of judged kind = count_by (λ j. is_found j kind) judged

abbrev pub count_of : List Judged → Kind → Verdict → ℕ
count_of judged kind verdict = count_by (λ j. is_of kind verdict j) judged

abbrev pub counts_of : List Judged → Kind → Counts
counts_of judged kind = record {
  found = found_of judged kind;
  missed = count_of judged kind Missed;
  hidden = count_of judged kind Hidden;
  waived = count_of judged kind Waived;
}

-- there are flaws of the kind
abbrev pub is_told : Counts → Bool
is_told counts =
    nat_lt 0 counts.found || (nat_lt 0 counts.missed || (nat_lt 0 counts.hidden || nat_lt 0 counts.waived))

-- a count between two texts, where it isn't 0
abbrev pub count_if : (before : List ℕ) → (count : ℕ) → (behind : List ℕ) → List ℕ
count_if before count behind = if count == 0 then [] else joined (before ∷ decimal count ∷ behind ∷ [])

abbrev pub count_text : Kind → Counts → List ℕ
count_text kind counts =
    joined (kind_name kind ∷ codes " " ∷ decimal counts.found ∷ codes " found " ∷ decimal counts.missed
    ∷ codes " missed" ∷ count_if (codes " ") counts.hidden (codes " hidden")
    ∷ count_if (codes " ") counts.waived (codes " waived") ∷ [])

abbrev pub count_json : Kind → Counts → List ℕ
count_json kind counts =
    joined (codes "\"" ∷ kind_name kind ∷ codes "\": {\"found\": " ∷ decimal counts.found ∷ codes ", \"missed\": "
    ∷ decimal counts.missed ∷ codes ", \"hidden\": " ∷ decimal counts.hidden
    ∷ count_if (codes ", \"waived\": ") counts.waived [] ∷ codes "}" ∷ [])

abbrev pub count_in : CountForm → Kind → Counts → List ℕ
count_in Words kind counts = count_text kind counts
count_in Member kind counts = count_json kind counts

-- parts with commas between them, behind what leads to the first
abbrev pub led : List ℕ → List (List ℕ) → List ℕ
led lead [] = []
led lead (part ∷ parts) = lead ++ part ++ flat_map (λ p. codes ", " ++ p) parts

-- those of the kinds that are there
abbrev pub counts_parts : CountForm → List Judged → List Kind → List (List ℕ)
counts_parts form judged kinds =
    map (λ kind. count_in form kind (counts_of judged kind)) (filter (λ kind. is_told (counts_of judged kind)) kinds)

abbrev pub counts_text : List Judged → List ℕ
counts_text judged = led (codes ": ") (counts_parts Words judged KINDS)

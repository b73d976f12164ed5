-- The last line of a grading.
use Rattle.std.specs.Prelude.{ℕ, ◌+◌, ◌-◌, ◌*◌, ◌/◌, ◌%◌, ◌^◌, ◌==◌, nat_lt, min, Bool, false, if◌then◌else◌, List, [], ◌∷◌, ◌++◌, length, count_by, codes, decimal, is_ok, Option, Some, None}
use Rattle.rl_report.specs.Pieces.{joined}
use Rattle.rl_grade_report.specs.declared.totals.Totals.{Totals}
use Rattle.rl_grade_report.specs.declared.verdict.Judged.{Judged}
use Rattle.rl_grade_report.specs.declared.verdict.Verdict.TheVariants.{Hidden, Waived}
use Rattle.rl_grade_report.specs.Counts.{count_if}
use Rattle.rl_grade_report.specs.Verdict.{has_verdict, is_needless}

-- a count that has come to its end stays there
abbrev pub capped : ℕ → ℕ
capped n = min n (2 ^ 64 - 1)

-- with these flaws too
abbrev pub with_judged : Totals → List Judged → Totals
with_judged t judged = record {
  flaws = capped (t.flaws + length judged);
  found = capped (t.found + count_by (λ j. is_ok j.found) judged);
  hidden = capped (t.hidden + count_by (λ j. has_verdict Hidden j) judged);
  waived = capped (t.waived + count_by (λ j. has_verdict Waived j) judged);
  needless = capped (t.needless + count_by (λ j. is_needless j) judged);
}

abbrev pub no_totals : Totals
no_totals = record { flaws = 0; found = 0; hidden = 0; waived = 0; needless = 0 }

abbrev pub totals_of : List Judged → Totals
totals_of judged = with_judged no_totals judged

-- how many can be found: those that are neither hidden nor waived
abbrev pub findable : Totals → ℕ
findable t = t.flaws - t.hidden - t.waived

abbrev pub missed_in : Totals → ℕ
missed_in t = findable t - t.found

-- of those that can be found fewer were than so many of a hundred
abbrev pub is_below : Option ℕ → Totals → Bool
is_below None t = false
is_below (Some percent) t = nat_lt (t.found * 100) (percent * findable t)

-- a share in tenths of a per cent, rounded down
abbrev pub tenths : (found flaws : ℕ) → ℕ
tenths found flaws = if flaws == 0 then 0 else found * 1000 / flaws

abbrev pub tenths_text : (tenths : ℕ) → List ℕ
tenths_text tenths = joined (decimal (tenths / 10) ∷ codes "." ∷ decimal (tenths % 10) ∷ [])

abbrev pub percent_text : (tenths : ℕ) → (behind : List ℕ) → List ℕ
percent_text tenths behind = codes ", " ++ tenths_text tenths ++ behind

-- none where there is no flaw
abbrev pub share_text : (found flaws : ℕ) → (behind : List ℕ) → List ℕ
share_text found flaws behind = if flaws == 0 then [] else percent_text (tenths found flaws) behind

-- of those that can be found, where these are some and not all
abbrev pub findable_text : Totals → List ℕ
findable_text t =
    if findable t == t.flaws then [] else share_text t.found (findable t) (codes " % of those that can be found")

-- those that are left out of these, and the waivers that needn't be, where there are some
abbrev pub left_out_text : Totals → List ℕ
left_out_text t =
    joined (count_if (codes ", ") t.hidden (codes " hidden") ∷ count_if (codes ", ") t.waived (codes " waived")
    ∷ count_if (codes ", ") t.needless (codes " needless waivers") ∷ [])

abbrev pub end_text : Totals → List ℕ
end_text t =
    joined (codes "end: " ∷ decimal t.flaws ∷ codes " flaws, " ∷ decimal t.found ∷ codes " found, "
    ∷ decimal (missed_in t) ∷ codes " missed" ∷ left_out_text t
    ∷ share_text t.found t.flaws (codes " % found") ∷ findable_text t ∷ codes "\n" ∷ [])

-- A grading as one object in JSON.
use Rattle.std.specs.Prelude.{ℕ, ◌==◌, Bool, if◌then◌else◌, List, [], ◌∷◌, ◌++◌, map, filter, codes, decimal, Option, Some, None}
use Rattle.rl_policy.specs.Numbers.{spelled}
use Rattle.rl_model.specs.Rows.{ChipData}
use Rattle.rl_map.specs.Layout.{LayoutData}
use Rattle.rl_grade.specs.declared.grade.Share.{Share}
use Rattle.rl_report.specs.Pieces.{joined}
use Rattle.rl_grade_report.specs.declared.asked.Asked.{Asked}
use Rattle.rl_grade_report.specs.declared.counts.CountForm.TheVariants.{Member}
use Rattle.rl_grade_report.specs.declared.facts.Facts.{Facts}
use Rattle.rl_grade_report.specs.declared.keys.Form.TheVariants.{Object}
use Rattle.rl_grade_report.specs.declared.kind.TheConstants.{KINDS}
use Rattle.rl_grade_report.specs.declared.totals.Totals.{Totals}
use Rattle.rl_grade_report.specs.declared.verdict.Judged.{Judged}
use Rattle.rl_grade_report.specs.declared.verdict.Verdict.TheVariants.{Missed}
use Rattle.rl_grade_report.specs.Counts.{count_if, counts_parts, led}
use Rattle.rl_grade_report.specs.Keys.{flaw_text, quoted}
use Rattle.rl_grade_report.specs.Totals.{findable, is_below, missed_in, tenths, tenths_text, totals_of}
use Rattle.rl_grade_report.specs.Verdict.{has_verdict}

-- ---- the session, and its share

abbrev pub mark_json : Option ℕ → List ℕ
mark_json None = codes "null"
mark_json (Some mark) = quoted (spelled mark)

abbrev pub facts_json : Facts → List ℕ
facts_json facts =
    joined (codes "{\"session\": {\"mark\": " ∷ mark_json facts.mark ∷ codes ", \"lines\": " ∷ decimal facts.lines
    ∷ codes ", \"events\": " ∷ decimal facts.events ∷ codes ", \"items\": " ∷ decimal facts.items ∷ codes "},\n" ∷ [])

abbrev pub share_json : Share → List ℕ
share_json share =
    joined (codes "\"share\": {\"first\": " ∷ decimal share.first ∷ codes ", \"every\": " ∷ decimal share.every
    ∷ codes "},\n" ∷ [])

-- ---- the totals

-- a share in per cent with one decimal, rounded down; null where there is no flaw
abbrev pub percent_json : (found flaws : ℕ) → List ℕ
percent_json found flaws = if flaws == 0 then codes "null" else tenths_text (tenths found flaws)

-- of those that are waived, and of the needless waivers, where there are some
abbrev pub counted_json : Totals → List ℕ
counted_json t =
    joined (codes "\"flaws\": " ∷ decimal t.flaws ∷ codes ", \"found\": " ∷ decimal t.found
    ∷ codes ", \"missed\": " ∷ decimal (missed_in t) ∷ codes ", \"hidden\": " ∷ decimal t.hidden
    ∷ count_if (codes ", \"waived\": ") t.waived [] ∷ count_if (codes ", \"needless\": ") t.needless [] ∷ [])

-- the share of all, and that of those that can be found
abbrev pub percents_json : Totals → List ℕ
percents_json t =
    joined (codes ", \"percent\": " ∷ percent_json t.found t.flaws
    ∷ codes ", \"percent_findable\": " ∷ percent_json t.found (findable t) ∷ codes ",\n" ∷ [])

abbrev pub totals_json : Totals → List ℕ
totals_json t = counted_json t ++ percents_json t

abbrev pub least_json : Option ℕ → List ℕ
least_json None = codes "null"
least_json (Some percent) = decimal percent

abbrev pub passed_json : (below : Bool) → List ℕ
passed_json below = if below then codes "false" else codes "true"

abbrev pub bound_json : Option ℕ → Totals → List ℕ
bound_json bound t =
    joined (codes "\"at_least\": " ∷ least_json bound ∷ codes ", \"passed\": " ∷ passed_json (is_below bound t)
    ∷ codes ",\n" ∷ [])

-- ---- by kind, and the missed ones

abbrev pub kinds_json : List Judged → List ℕ
kinds_json judged = led [] (counts_parts Member judged KINDS)

abbrev pub missed_parts : ChipData → LayoutData → List Judged → List (List ℕ)
missed_parts c l judged = map (λ j. flaw_text Object c l j.flaw) (filter (λ j. has_verdict Missed j) judged)

abbrev pub missed_json : ChipData → LayoutData → List Judged → List ℕ
missed_json c l judged = led [] (missed_parts c l judged)

-- ---- all

abbrev pub head_json : Asked → Facts → Totals → List ℕ
head_json asked facts t = (facts_json facts ++ share_json asked.share) ++ (totals_json t ++ bound_json asked.bound t)

abbrev pub lists_json : ChipData → LayoutData → List Judged → List ℕ
lists_json c l judged =
    joined (codes "\"by_kind\": {" ∷ kinds_json judged ∷ codes "},\n\"missed_flaws\": [" ∷ missed_json c l judged
    ∷ codes "]}\n" ∷ [])

-- the session, which share of its flaws was tried, how many were found, whether they are enough, and those that are
-- missed
abbrev pub json_text : Asked → Facts → ChipData → LayoutData → List Judged → List ℕ
json_text asked facts c l judged = head_json asked facts (totals_of judged) ++ lists_json c l judged

-- That a grading without waivers is written, byte for byte, as one that knows of none.
use Rattle.std.specs.Prelude.{◌≡◌, ℕ, ◌-◌, ◌==◌, false, if◌then◌else◌, List, [], ◌∷◌, ◌++◌, All, codes, decimal}
use Rattle.rl_model.specs.Rows.{ChipData}
use Rattle.rl_map.specs.Layout.{LayoutData}
use Rattle.rl_desc.specs.Data.{DescData}
use Rattle.rl_report.specs.Pieces.{joined}
use Rattle.rl_grade_report.specs.declared.asked.Asked.{Asked}
use Rattle.rl_grade_report.specs.declared.counts.Counts.{Counts}
use Rattle.rl_grade_report.specs.declared.kind.Kind.{Kind}
use Rattle.rl_grade_report.specs.declared.totals.Totals.{Totals}
use Rattle.rl_grade_report.specs.declared.verdict.Judged.{Judged}
use Rattle.rl_grade_report.specs.declared.verdict.Verdict.TheVariants.{Missed, Hidden, Waived}
use Rattle.rl_grade_report.specs.Counts.{count_if, count_json, count_text, counts_of}
use Rattle.rl_grade_report.specs.Grading.{Base, all_judged}
use Rattle.rl_grade_report.specs.Json.{counted_json}
use Rattle.rl_grade_report.specs.Kinds.{kind_name}
use Rattle.rl_grade_report.specs.Lines.{said_text, unfound_text}
use Rattle.rl_grade_report.specs.Totals.{end_text, share_text, totals_of}
use Rattle.rl_grade_report.specs.Verdict.{has_verdict, is_needless}

-- ---- texts that tell of found, missed and hidden flaws alone

-- by how many can be found
abbrev pub plain_end_of : Totals → (can : ℕ) → List ℕ
plain_end_of t can =
    joined (codes "end: " ∷ decimal t.flaws ∷ codes " flaws, " ∷ decimal t.found ∷ codes " found, "
    ∷ decimal (can - t.found) ∷ codes " missed" ∷ count_if (codes ", ") t.hidden (codes " hidden")
    ∷ share_text t.found t.flaws (codes " % found")
    ∷ (if can == t.flaws then [] else share_text t.found can (codes " % of those that can be found")) ∷ codes "\n" ∷ [])

abbrev pub plain_end : Totals → List ℕ
plain_end t = plain_end_of t (t.flaws - t.hidden)

abbrev pub plain_count : Kind → Counts → List ℕ
plain_count kind counts =
    joined (kind_name kind ∷ codes " " ∷ decimal counts.found ∷ codes " found " ∷ decimal counts.missed
    ∷ codes " missed" ∷ count_if (codes " ") counts.hidden (codes " hidden") ∷ [])

abbrev pub plain_counted_json : Totals → List ℕ
plain_counted_json t =
    joined (codes "\"flaws\": " ∷ decimal t.flaws ∷ codes ", \"found\": " ∷ decimal t.found
    ∷ codes ", \"missed\": " ∷ decimal (t.flaws - t.hidden - t.found) ∷ codes ", \"hidden\": " ∷ decimal t.hidden ∷ [])

abbrev pub plain_count_json : Kind → Counts → List ℕ
plain_count_json kind counts =
    joined (codes "\"" ∷ kind_name kind ∷ codes "\": {\"found\": " ∷ decimal counts.found ∷ codes ", \"missed\": "
    ∷ decimal counts.missed ∷ codes ", \"hidden\": " ∷ decimal counts.hidden ∷ codes "}" ∷ [])

-- ---- where nothing is waived

-- no flaw is waived, and none that is found
abbrev pub NoneIsWaived : List Judged → Type 0
NoneIsWaived judged = All (λ j. (has_verdict Waived j ≡ false) × (is_needless j ≡ false)) judged

-- With an empty file of waivers none is.
abbrev pub NoWaiverWaivesNone : Type 0
NoWaiverWaivesNone =
    (asked : Asked) (d : DescData) (base : Base) → base.waivers ≡ [] → NoneIsWaived (all_judged asked d base)

-- the last line, the counts of a kind, the flaws in words, and both counts in JSON
pub record IsPlain (c : ChipData) (l : LayoutData) (judged : List Judged) : Type 0 where
  pub end_is : end_text (totals_of judged) ≡ plain_end (totals_of judged)
  pub counts_are : (kind : Kind) → count_text kind (counts_of judged kind) ≡ plain_count kind (counts_of judged kind)
  pub words_are : unfound_text c l judged ≡ said_text c l judged Missed ++ said_text c l judged Hidden
  pub counted_is : counted_json (totals_of judged) ≡ plain_counted_json (totals_of judged)
  pub kinds_are : (kind : Kind)
      → count_json kind (counts_of judged kind) ≡ plain_count_json kind (counts_of judged kind)

-- Then each text tells of found, missed and hidden flaws alone.
abbrev pub NoneWaivedIsPlain : Type 0
NoneWaivedIsPlain = (c : ChipData) (l : LayoutData) (judged : List Judged) → NoneIsWaived judged → IsPlain c l judged

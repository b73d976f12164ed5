-- A grading without waivers.
use Rattle.std.proofs.Common.{◌≡◌, ℕ, ◌+◌, ◌-◌, ◌==◌, Bool, true, false, cond, ◌&&◌, if◌then◌else◌, List, [], ◌∷◌, ◌++◌, length, map, filter, get_or, All, codes, decimal, Option, Some, None, refl, sym, ap, subst, ◌∙◌, append-nil, arith}
use Rattle.std.specs.Prelude.{count_by}
use Rattle.std.proofs.lemmas.List.Elements.{All-append, All-cons, All-head, All-nil, All-tail}
use Rattle.std.proofs.lemmas.List.Sums.{length-filter}
use Rattle.rl_model.specs.Rows.{ChipData}
use Rattle.rl_map.specs.Layout.{LayoutData}
use Rattle.rl_flaw.specs.declared.flaw.Flaw.{Flaw}
use Rattle.rl_desc.specs.Data.{DescData}
use Rattle.rl_report.specs.Pieces.{joined}
use Rattle.rl_grade.specs.declared.grade.Graded.{Graded}
use Rattle.rl_grade.specs.declared.place.Place.{Place}
use Rattle.rl_grade.specs.declared.seen.Find.{Find}
use Rattle.rl_grade.specs.Place.{flaws_at}
use Rattle.rl_grade.specs.Share.{grades_of}
use Rattle.rl_grade_report.specs.declared.asked.Asked.{Asked}
use Rattle.rl_grade_report.specs.declared.counts.Counts.{Counts}
use Rattle.rl_grade_report.specs.declared.kind.Kind.{Kind}
use Rattle.rl_grade_report.specs.declared.totals.Totals.{Totals}
use Rattle.rl_grade_report.specs.declared.verdict.Judged.{Judged}
use Rattle.rl_grade_report.specs.declared.verdict.Verdict.TheVariants.{Missed, Hidden, Waived}
use Rattle.rl_grade_report.specs.Counts.{count_if, count_json, count_text, counts_of, is_of}
use Rattle.rl_grade_report.specs.Grading.{Base, flaws_behind, judged_at, judged_from}
use Rattle.rl_grade_report.specs.Groups.{groups_text}
use Rattle.rl_grade_report.specs.Json.{counted_json}
use Rattle.rl_grade_report.specs.Judging.{find_or, judged_by}
use Rattle.rl_grade_report.specs.Kinds.{is_kind, kind_name}
use Rattle.rl_grade_report.specs.Lines.{said_text, unfound_text}
use Rattle.rl_grade_report.specs.Places.{places_of}
use Rattle.rl_grade_report.specs.Plain.{IsPlain, NoWaiverWaivesNone, NoneIsWaived, NoneWaivedIsPlain, plain_count, plain_count_json, plain_counted_json, plain_end}
use Rattle.rl_grade_report.specs.Totals.{capped, end_text, left_out_text, share_text, totals_of}
use Rattle.rl_grade_report.specs.Verdict.{has_verdict, is_needless, is_said, lead_of}
use Rattle.rl_grade_report.specs.Waivers.{RowData}
use Rattle.rl_grade_report.proofs.Parts.{joined_more}

-- ---- with no row none is waived

-- this one isn't
abbrev IsUnwaived : Judged → Type 0
IsUnwaived j = (has_verdict Waived j ≡ false) × (is_needless j ≡ false)

unwaived_by : (d : DescData) (found : Option Find) (flaw : Flaw) (hidden : Bool)
    → is_said Waived (find_or found (if hidden then Hidden else Missed)) ≡ false
unwaived_by d (Some find) flaw hidden = refl
unwaived_by d None flaw true = refl
unwaived_by d None flaw false = refl

all_unwaived : (d : DescData) (graded : List Graded) → NoneIsWaived (map (judged_by d []) graded)
all_unwaived d [] = All-nil IsUnwaived
all_unwaived d (g ∷ graded) =
    All-cons IsUnwaived (judged_by d [] g) (map (judged_by d []) graded) (unwaived_by d g.found g.flaw _, refl) (all_unwaived d graded)

unwaived_with : (d : DescData) (rows : List RowData) (graded : List Graded) → rows ≡ [] → NoneIsWaived (map (judged_by d rows) graded)
unwaived_with d rows graded none =
    subst (λ (rs : List RowData). NoneIsWaived (map (judged_by d rs) graded)) (sym none) (all_unwaived d graded)

module _ (asked : Asked) (d : DescData) (base : Base) (none : base.waivers ≡ []) where
  unwaived_from : (before : ℕ) (places : List Place) → NoneIsWaived (judged_from asked d base before places)
  unfolding judged_from
  unwaived_from before [] = All-nil IsUnwaived
  unwaived_from before (place ∷ places) =
      All-append IsUnwaived (judged_at asked d base before place) (judged_from asked d base (flaws_behind d base before place) places)
      (unwaived_with d base.waivers (grades_of d base.tasks base.seen asked.share before (flaws_at d base.items place)) none)
      (unwaived_from (flaws_behind d base before place) places)

pub no_waiver_waives : NoWaiverWaivesNone
no_waiver_waives asked d base none = unwaived_from asked d base none 0 (places_of d.chip)

-- ---- and then the texts tell of none

filter_none : (test : Judged → Bool) (judged : List Judged) → All (λ j. test j ≡ false) judged → filter test judged ≡ []
filter_none test [] h = refl
filter_none test (j ∷ judged) h =
    ap (λ b. cond b (j ∷ filter test judged) (filter test judged)) (All-head (λ j. test j ≡ false) j judged h)
    ∙ filter_none test judged (All-tail (λ j. test j ≡ false) j judged h)

count_none : (test : Judged → Bool) (judged : List Judged) → All (λ j. test j ≡ false) judged → count_by test judged ≡ 0
count_none test judged h = sym (length-filter test judged) ∙ ap length (filter_none test judged h)

and_no : (a b : Bool) → b ≡ false → (a && b) ≡ false
and_no true b h = h
and_no false b h = refl

-- an empty piece shows nothing
skip : (xs ys : List (List ℕ)) → joined (xs ++ [] ∷ ys) ≡ joined (xs ++ ys)
unfolding joined
skip xs ys = sym (joined_more xs ([] ∷ ys)) ∙ joined_more xs ys

module _ (flaws found hidden : ℕ) where
  abbrev unwaived : Totals
  unwaived = record { flaws = flaws; found = found; hidden = hidden; waived = 0; needless = 0 }

  left_is : left_out_text unwaived ≡ count_if (codes ", ") hidden (codes " hidden")
  unfolding joined
  left_is = append-nil (count_if (codes ", ") hidden (codes " hidden"))

  can_is : flaws - hidden - 0 ≡ flaws - hidden
  can_is = omega arith

  abbrev end_by : (left : List ℕ) → (can : ℕ) → List ℕ
  end_by left can =
      joined (codes "end: " ∷ decimal flaws ∷ codes " flaws, " ∷ decimal found ∷ codes " found, " ∷ decimal (can - found) ∷ codes " missed"
      ∷ left ∷ share_text found flaws (codes " % found")
      ∷ (if can == flaws then [] else share_text found can (codes " % of those that can be found")) ∷ codes "\n" ∷ [])

  end_plain : end_text unwaived ≡ plain_end unwaived
  end_plain = ap (λ left. end_by left (flaws - hidden - 0)) left_is ∙ ap (end_by (count_if (codes ", ") hidden (codes " hidden"))) can_is

  abbrev counted_front : (missed : ℕ) → List (List ℕ)
  counted_front missed =
      codes "\"flaws\": " ∷ decimal flaws ∷ codes ", \"found\": " ∷ decimal found ∷ codes ", \"missed\": " ∷ decimal missed
      ∷ codes ", \"hidden\": " ∷ decimal hidden ∷ []

  counted_plain : counted_json unwaived ≡ plain_counted_json unwaived
  counted_plain =
      skip (counted_front (flaws - hidden - 0 - found)) ([] ∷ []) ∙ skip (counted_front (flaws - hidden - 0 - found)) []
      ∙ ap (λ can. joined (counted_front (can - found))) can_is

module _ (kind : Kind) (found missed hidden : ℕ) where
  abbrev few : Counts
  few = record { found = found; missed = missed; hidden = hidden; waived = 0 }

  count_plain : count_text kind few ≡ plain_count kind few
  count_plain =
      skip (kind_name kind ∷ codes " " ∷ decimal found ∷ codes " found " ∷ decimal missed ∷ codes " missed"
      ∷ count_if (codes " ") hidden (codes " hidden") ∷ []) []

  kind_plain : count_json kind few ≡ plain_count_json kind few
  kind_plain =
      skip (codes "\"" ∷ kind_name kind ∷ codes "\": {\"found\": " ∷ decimal found ∷ codes ", \"missed\": " ∷ decimal missed
      ∷ codes ", \"hidden\": " ∷ decimal hidden ∷ []) (codes "}" ∷ [])

-- ---- of a list of which none is waived

module _ (judged : List Judged) (h : NoneIsWaived judged) where
  none_has : All (λ j. has_verdict Waived j ≡ false) judged
  none_has i e low = (h i e low).0

  none_needless : All (λ j. is_needless j ≡ false) judged
  none_needless i e low = (h i e low).1

  waived_is : (totals_of judged).waived ≡ 0
  waived_is = ap (λ n. capped (0 + n)) (count_none (λ j. has_verdict Waived j) judged none_has)

  needless_is : (totals_of judged).needless ≡ 0
  needless_is = ap (λ n. capped (0 + n)) (count_none (λ j. is_needless j) judged none_needless)

  totals_are : totals_of judged ≡ unwaived (totals_of judged).flaws (totals_of judged).found (totals_of judged).hidden
  totals_are =
      ap (λ n. let t : Totals = record { flaws = (totals_of judged).flaws; found = (totals_of judged).found; hidden = (totals_of judged).hidden; waived = n; needless = (totals_of judged).needless } in t) waived_is
      ∙ ap (λ n. let t : Totals = record { flaws = (totals_of judged).flaws; found = (totals_of judged).found; hidden = (totals_of judged).hidden; waived = 0; needless = n } in t) needless_is

  none_of : (kind : Kind) → (counts_of judged kind).waived ≡ 0
  none_of kind =
      count_none (λ j. is_of kind Waived j) judged (λ i e low. and_no (is_kind kind (get_or judged i e).flaw) _ (none_has i e low))

  counts_few : (kind : Kind) → counts_of judged kind ≡ few kind (counts_of judged kind).found (counts_of judged kind).missed (counts_of judged kind).hidden
  counts_few kind =
      ap (λ n. let c : Counts = record { found = (counts_of judged kind).found; missed = (counts_of judged kind).missed; hidden = (counts_of judged kind).hidden; waived = n } in c) (none_of kind)

  module _ (c : ChipData) (l : LayoutData) where
    said_none : said_text c l judged Waived ≡ []
    said_none =
        ap (λ (js : List Judged). groups_text (lead_of Waived) c l (map (λ (j : Judged). j.flaw) js)) (filter_none (λ j. has_verdict Waived j) judged none_has)

    words_plain : unfound_text c l judged ≡ said_text c l judged Missed ++ said_text c l judged Hidden
    words_plain =
        let missed = said_text c l judged Missed in
        let hidden = said_text c l judged Hidden in
        ap (λ t. missed ++ (hidden ++ (t ++ []))) said_none ∙ ap (λ t. missed ++ t) (append-nil hidden)

    is_plain : IsPlain c l judged
    is_plain = record {
      end_is = subst (λ t. end_text t ≡ plain_end t) (sym totals_are) (end_plain _ _ _);
      counts_are = λ kind. subst (λ n. count_text kind n ≡ plain_count kind n) (sym (counts_few kind)) (count_plain kind _ _ _);
      words_are = words_plain;
      counted_is = subst (λ t. counted_json t ≡ plain_counted_json t) (sym totals_are) (counted_plain _ _ _);
      kinds_are = λ kind. subst (λ n. count_json kind n ≡ plain_count_json kind n) (sym (counts_few kind)) (kind_plain kind _ _ _);
    }

pub none_waived_is_plain : NoneWaivedIsPlain
none_waived_is_plain c l judged h = is_plain judged h c l

-- Places one after another.
use Rattle.std.proofs.Common.{◌≡◌, ℕ, ◌+◌, ◌<◌, ◌≤◌, List, [], ◌++◌, length, drop, get_or, All, Result, Ok, IsErr, sym, ap, subst, ◌∙◌, append_assoc, append-nil}
use Rattle.std.specs.declared.option.Option.{Option}
use Rattle.std.specs.Io.KnownBytes.{Appends}
use Rattle.std.proofs.KnownBytes.{Appends-nil}
use Rattle.std.proofs.lemmas.List.{drop_all, drop_more}
use Rattle.std.proofs.lemmas.List.Elements.{All-drop}
use Rattle.std.proofs.Math.Seq.{drop-append_seam}
use Rattle.rl_desc.specs.Data.{DescData}
use Rattle.rl_report.specs.Pieces.{AppendsFront, Puts}
use Rattle.rl_session.proofs.ListingLemmas.{IsLeft, left_stopped, less_left}
use Rattle.rl_grade.specs.declared.place.Place.{Place}
use Rattle.rl_grade_report.specs.declared.asked.Asked.{Asked}
use Rattle.rl_grade_report.specs.declared.grading.Progress.{Progress}
use Rattle.rl_grade_report.specs.declared.verdict.Judged.{Judged}
use Rattle.rl_grade_report.specs.Grading.{Base, flaws_behind, judged_at, judged_from, place_text, places_text}
use Rattle.rl_grade_report.specs.Progress.{IsNext}

module _ (asked : Asked) (base : Base) (d : DescData) where
  -- ---- the next place

  next_place : (before : ℕ) (places : List Place) (k : ℕ) (e : Place) → k < length places
      → places_text asked d base before (drop k places)
      ≡ place_text asked.tell d (get_or places k e) (judged_at asked d base before (get_or places k e))
      ++ places_text asked d base (flaws_behind d base before (get_or places k e)) (drop (k + 1) places)
  unfolding places_text
  next_place before places k e low = ap (λ ps. places_text asked d base before ps) (drop_more places k e low)

  next_judged : (before : ℕ) (places : List Place) (k : ℕ) (e : Place) → k < length places
      → judged_from asked d base before (drop k places)
      ≡ judged_at asked d base before (get_or places k e)
      ++ judged_from asked d base (flaws_behind d base before (get_or places k e)) (drop (k + 1) places)
  unfolding judged_from
  next_judged before places k e low = ap (λ ps. judged_from asked d base before ps) (drop_more places k e low)

  behind_place : (now next : Progress) (places : List Place) (k : ℕ) (e : Place) → k < length places → now.desc ≡ d
      → IsNext asked base (get_or places k e) now next
      → places_text asked d base now.number (drop k places)
      ≡ place_text asked.tell d (get_or places k e) (judged_at asked d base now.number (get_or places k e))
      ++ places_text asked d base next.number (drop (k + 1) places)
  behind_place now next places k e low same done =
      let p = get_or places k e in
      let number : next.number ≡ flaws_behind d base now.number p =
      done.number_is ∙ ap (λ d. flaws_behind d base now.number p) same in
      let text = place_text asked.tell d p (judged_at asked d base now.number p) in
      next_place now.number places k e low ∙ ap (λ b. text ++ places_text asked d base b (drop (k + 1) places)) (sym number)

  pub place_done : (first old new : Option (List ℕ)) (all : List ℕ) (now next : Progress) (places : List Place) (k : ℕ) (e : Place)
      → k < length places → now.desc ≡ d → IsLeft first old all (places_text asked d base now.number (drop k places))
      → Appends old new (place_text asked.tell now.desc (get_or places k e) (judged_at asked now.desc base now.number (get_or places k e)))
      → IsNext asked base (get_or places k e) now next
      → IsLeft first new all (places_text asked d base next.number (drop (k + 1) places))
  place_done first old new all now next places k e low same left put done =
      let p = get_or places k e in
      less_left first old new all (places_text asked d base now.number (drop k places))
      (place_text asked.tell d p (judged_at asked d base now.number p)) (places_text asked d base next.number (drop (k + 1) places))
      left (behind_place now next places k e low same done)
      (subst (λ d. Appends old new (place_text asked.tell d p (judged_at asked d base now.number p))) same put)

  pub judged_done : (all : List Judged) (now next : Progress) (places : List Place) (k : ℕ) (e : Place) → k < length places → now.desc ≡ d
      → now.judged.items ++ judged_from asked d base now.number (drop k places) ≡ all
      → IsNext asked base (get_or places k e) now next
      → next.judged.items ++ judged_from asked d base next.number (drop (k + 1) places) ≡ all
  judged_done all now next places k e low same so done =
      let p = get_or places k e in
      let judged = now.judged.items in
      let number : next.number ≡ flaws_behind d base now.number p =
      done.number_is ∙ ap (λ d. flaws_behind d base now.number p) same in
      let here = judged_at asked d base now.number p in
      let are : next.judged.items ≡ judged ++ here = done.judged_are ∙ ap (λ d. judged ++ judged_at asked d base now.number p) same in
      let rest = judged_from asked d base next.number (drop (k + 1) places) in
      ap (λ xs. xs ++ rest) are ∙ append_assoc judged here rest
      ∙ ap (λ b. judged ++ (here ++ judged_from asked d base b (drop (k + 1) places))) number
      ∙ ap (λ xs. judged ++ xs) (sym (next_judged now.number places k e low)) ∙ so

  pub place_stopped : {T E : Type 0} (first now new : Option (List ℕ)) (all : List ℕ) (before : ℕ)
      (d-now : DescData) (places : List Place) (k : ℕ) (e : Place) (r : Result T E) → k < length places → d-now ≡ d
      → IsLeft first now all (places_text asked d base before (drop k places)) → IsErr r
      → AppendsFront now new (place_text asked.tell d-now (get_or places k e) (judged_at asked d-now base before (get_or places k e)))
      → Puts first new all r
  place_stopped first now new all before d-now places k e r low same left failed put =
      let p = get_or places k e in
      left_stopped first now new all (places_text asked d base before (drop k places))
      (place_text asked.tell d p (judged_at asked d base before p))
      (places_text asked d base (flaws_behind d base before p) (drop (k + 1) places)) r left (next_place before places k e low) failed
      (subst (λ d. AppendsFront now new (place_text asked.tell d p (judged_at asked d base before p))) same put)

  -- ---- no further place

  no_place : (before : ℕ) (places : List Place) (k : ℕ) → length places ≤ k → places_text asked d base before (drop k places) ≡ []
  unfolding places_text
  no_place before places k few = ap (λ ps. places_text asked d base before ps) (drop_all k places few)

  no_judged : (before : ℕ) (places : List Place) (k : ℕ) → length places ≤ k → judged_from asked d base before (drop k places) ≡ []
  unfolding judged_from
  no_judged before places k few = ap (λ ps. judged_from asked d base before ps) (drop_all k places few)

  pub places_done : {T E : Type 0} (first now : Option (List ℕ)) (all : List ℕ) (before : ℕ) (places : List Place) (k : ℕ) (v : T)
      → length places ≤ k → IsLeft first now all (places_text asked d base before (drop k places)) → Puts {T = T} {E = E} first now all (Ok v)
  places_done first now all before places k v few left = record {
    whole = left.whole now (subst (Appends now now) (sym (no_place before places k few)) (Appends-nil now));
    part = tt;
  }

  pub all_done : (all : List Judged) (before : ℕ) (judged : List Judged) (places : List Place) (k : ℕ) → length places ≤ k
      → judged ++ judged_from asked d base before (drop k places) ≡ all → judged ≡ all
  all_done all before judged places k few so =
      sym (append-nil judged) ∙ ap (λ xs. judged ++ xs) (sym (no_judged before places k few)) ∙ so

-- what holds of each that was judged so far holds of those that came last
pub last_judged : (P : Judged → Type 0) (before own here all : List Judged) → here ≡ own → all ≡ before ++ own → All P all → All P here
last_judged P before own here all same is each =
    subst (All P) (ap (drop (length before)) is ∙ drop-append_seam before own ∙ sym same) (All-drop P (length before) all each)

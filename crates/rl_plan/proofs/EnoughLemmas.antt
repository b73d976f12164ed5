-- That the lines of some items find after a script what those of all items find there.
use Rattle.std.proofs.Common.{◌≡◌, ℕ, zero, suc, Bool, true, false, ◌&&◌, ◌||◌, if◌then◌else◌, List, [], ◌∷◌, ◌++◌, map, filter, flat_map, get_or, All, Contains, is_none, is_some, Option, Some, None, Result, Ok, Err, IfOk, refl, sym, ap, subst, ◌∙◌, arith}
use Rattle.std.specs.List.{list_any, range_with_len, slice_get, zip}
use Rattle.std.proofs.lemmas.List.Elements.{All-cons, All-filter, All-map, All-nil}
use Rattle.std.proofs.lemmas.List.Folds.{list_any_at}
use Rattle.rl_model.specs.declared.rows.Item.{Item}
use Rattle.rl_model.specs.declared.rows.Item.TheVariants.{Reg, Mem}
use Rattle.rl_model.specs.declared.rows.RegRow.{RegRow}
use Rattle.rl_model.specs.Chip.{HasItem}
use Rattle.rl_desc.specs.Data.{DescData}
use Rattle.rl_session.specs.Judged.{first_world}
use Rattle.rl_grade.specs.declared.grade.Graded.{Graded}
use Rattle.rl_grade.specs.declared.job.Task.{Task}
use Rattle.rl_grade.specs.declared.place.Place.{Place}
use Rattle.rl_grade.specs.declared.place.Place.TheVariants.{OfItem, OfField}
use Rattle.rl_grade.specs.declared.seen.Find.{Find}
use Rattle.rl_grade.specs.declared.seen.Seen.{Seen}
use Rattle.rl_grade.specs.Adapters.{fresh_standings}
use Rattle.rl_grade.specs.Alike.{without_flaws}
use Rattle.rl_grade.specs.Batch.{IsShown, flaws_of_places}
use Rattle.rl_grade.specs.Find.{all_seen}
use Rattle.rl_grade.specs.Job.{heard_by}
use Rattle.rl_grade.specs.Parts.{WholeHasAll, part}
use Rattle.rl_grade.specs.Place.{flaws_at}
use Rattle.rl_grade.specs.Share.{grades_of}
use Rattle.rl_plan.specs.declared.asked.Asked.{Asked}
use Rattle.rl_plan.specs.Behind.{behind}
use Rattle.rl_plan.specs.Enough.{AddedLinesAreEnough, added_items, all_flaws, answer, is_found, is_lost, miss}
use Rattle.rl_plan.specs.Needed.{all_places, fields_of, heard_of, is_needed, needed, own_fields, places_of}
use Rattle.rl_plan.specs.Text.{items_of}
use Rattle.rl_plan.proofs.BehindLemmas.{desc_again}
use Rattle.rl_plan.proofs.Pushed.{all_flat}

-- ---- the flaws of all places, whatever the number of bus items

flat_same : {X Y : Type 0} (f g : X → List Y) (xs : List X) → All (λ x. f x ≡ g x) xs → flat_map f xs ≡ flat_map g xs
flat_same f g [] each = refl
flat_same f g (x ∷ xs) each =
    ap (λ ys. ys ++ flat_map f xs) (each zero x (omega arith))
    ∙ ap (λ ys. g x ++ ys) (flat_same f g xs (λ k d low. each (suc k) d (omega arith)))

module _ (d : DescData) (n : ℕ) where
  abbrev IsAlike : Place → Type 0
  IsAlike place = flaws_at d n place ≡ flaws_at d 0 place

  fields_alike : (o : Option RegRow) → All IsAlike (fields_of o)
  fields_alike None = All-nil IsAlike
  fields_alike (Some row) = All-map IsAlike OfField (range_with_len row.first row.count) (λ k e low. refl)

  own_alike : (i : Item) → All IsAlike (own_fields d.chip i)
  own_alike (Reg reg) = fields_alike (slice_get d.chip.regs reg)
  own_alike (Mem mem) = All-nil IsAlike

  pub flaws_are : flaws_of_places d n (all_places d.chip) ≡ all_flaws d
  unfolding all_flaws
  flaws_are =
      flat_same (flaws_at d n) (flaws_at d 0) (all_places d.chip)
      (all_flat IsAlike (places_of d.chip) (items_of d.chip)
      (λ k e low. All-cons IsAlike (OfItem (get_or (items_of d.chip) k e)) (own_fields d.chip (get_or (items_of d.chip) k e)) refl
      (own_alike (get_or (items_of d.chip) k e))))

-- ---- each with its answer

pub shown_again : (d again : DescData) (tasks : List Task) (seen : List Seen) → again ≡ d → d.flaws ≡ [] → seen ≡ all_seen (heard_of d tasks)
    → IsShown again tasks seen
shown_again d again tasks seen same none is =
    is ∙ ap (λ (d : DescData). all_seen (heard_by (first_world d fresh_standings) tasks)) (sym (desc_again d none) ∙ ap without_flaws (sym same))

pub each_tried : {T E : Type 0} (graded : T → List Graded) (r : Result T E) (d again : DescData) (tasks : List Task) (seen : List Seen)
    (items : ℕ) (places : List Place) → WholeHasAll → again ≡ d → seen ≡ all_seen (heard_of d tasks) → places ≡ all_places d.chip
    → IfOk r (λ t. graded t ≡ grades_of again tasks seen (part 1 1) 0 (flaws_of_places again items places))
    → IfOk r (λ t. graded t ≡ map (answer d tasks) (all_flaws d))
each_tried graded (Ok t) d again tasks seen items places whole same shown all h =
    h ∙ ap (λ d. grades_of d tasks seen (part 1 1) 0 (flaws_of_places d items places)) same
    ∙ ap (λ s. grades_of d tasks s (part 1 1) 0 (flaws_of_places d items places)) shown
    ∙ ap (map (answer d tasks)) (whole 0 (flaws_of_places d items places) ∙ ap (flaws_of_places d items) all ∙ flaws_are d items)
each_tried graded (Err e) d again tasks seen items places whole same shown all h = tt

pub tried_behind : (graded : List Graded) (d again : DescData) (asked : Asked) (script tasks : List Task) (items : List Item) → again ≡ d
    → tasks ≡ behind d asked script items → graded ≡ map (answer again tasks) (all_flaws again)
    → graded ≡ map (answer d (behind d asked script items)) (all_flaws d)
tried_behind graded d again asked script tasks items same is h =
    h ∙ ap (λ d. map (answer d tasks) (all_flaws d)) same ∙ ap (λ ts. map (answer d ts) (all_flaws d)) is

-- ---- two answers of each flaw

abbrev are_lost : (few all : List Graded) → Bool
are_lost few all = list_any (λ both. is_lost both.0 both.1) (zip few all)

both_answers : {X : Type 0} (f g : X → Graded) (xs : List X) → are_lost (map f xs) (map g xs) ≡ list_any (λ x. is_lost (f x) (g x)) xs
both_answers f g [] = refl
both_answers f g (x ∷ xs) = ap (λ b. is_lost (f x) (g x) || b) (both_answers f g xs)

pub missed : (d : DescData) (asked : Asked) (script : List Task) (few all : List Item) (by_few by_all : List Graded) (lost : Bool)
    → all ≡ items_of d.chip → by_few ≡ map (answer d (behind d asked script few)) (all_flaws d)
    → by_all ≡ map (answer d (behind d asked script all)) (all_flaws d)
    → lost ≡ are_lost by_few by_all → lost ≡ miss d asked script few
unfolding miss
missed d asked script few all by_few by_all lost each by-few by-all is =
    let flaws = all_flaws d in
    is ∙ ap (λ xs. are_lost xs by_all) by-few
    ∙ ap (are_lost (map (answer d (behind d asked script few)) flaws)) (by-all ∙ ap (λ items. map (answer d (behind d asked script items)) flaws) each)
    ∙ both_answers (answer d (behind d asked script few)) (answer d (behind d asked script (items_of d.chip))) flaws

pub few_there : (d again : DescData) (asked : Asked) (script : List Task) (few all : List Item) → again ≡ d → All (HasItem d.chip) all
    → few ≡ filter (is_needed d asked script) all → All (HasItem again.chip) few
few_there d again asked script few all same each is =
    subst (λ (d : DescData). All (HasItem d.chip) few) (sym same)
    (subst (All (HasItem d.chip)) (sym is) (All-filter (is_needed d asked script) (HasItem d.chip) all each))

pub one_there : (P : Item → Type 0) (lost : Bool) (all few : List Item) → All P all → All P few → All P (if lost then all else few)
one_there P true all few each some = each
one_there P false all few each some = some

pub chosen : (d : DescData) (asked : Asked) (script : List Task) (few all : List Item) (lost : Bool) → all ≡ items_of d.chip
    → few ≡ needed d asked script → lost ≡ miss d asked script few → (if lost then all else few) ≡ added_items d asked script
chosen d asked script few all lost each needs is =
    ap (λ b. if b then all else few) is ∙ ap (λ xs. if miss d asked script few then xs else few) each
    ∙ ap (λ xs. if miss d asked script xs then items_of d.chip else xs) needs

-- ---- the law

none_lost : {X : Type 0} (p : X → Bool) (xs : List X) (x : X) → list_any p xs ≡ false → Contains xs x → p x ≡ false
none_lost p xs x none there = by (p x) refl
  where
    by : (b : Bool) → p x ≡ b → p x ≡ false
    by false is = is
    by true is = absurd (cc (none, list_any_at p xs there.0 x there.1 (ap p there.2 ∙ is)))

kept : (few all : Option Find) → (is_some all && is_none few) ≡ false → is_some all ≡ true → is_some few ≡ true
kept (Some x) all none found = refl
kept None (Some y) none found = absurd (cc)
kept None None none found = absurd (cc)

pub enough : AddedLinesAreEnough
unfolding miss
enough d asked script flaw there found = by (miss d asked script (needed d asked script)) refl
  where
    by : (b : Bool) → miss d asked script (needed d asked script) ≡ b
        → is_found d (behind d asked script (if b then items_of d.chip else needed d asked script)) flaw ≡ true
    by true lost = found
    by false none =
        kept (answer d (behind d asked script (needed d asked script)) flaw).found (answer d (behind d asked script (items_of d.chip)) flaw).found
        (none_lost (λ flaw. is_lost (answer d (behind d asked script (needed d asked script)) flaw)
        (answer d (behind d asked script (items_of d.chip)) flaw)) (all_flaws d) flaw none there) found

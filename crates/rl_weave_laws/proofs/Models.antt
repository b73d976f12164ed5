-- A step of a half done weave leaves a model.
use Rattle.std.proofs.Common.{◌≡◌, ℕ, ◌+◌, ◌<◌, Bool, true, false, cond, eqb, eq-eqb, List, [], ◌∷◌, ◌++◌, length, set, refl, sym, ap, ◌∙◌, subst, inl, inr, arith}
use Rattle.std.proofs.lemmas.Bool.{cases_eq, cases_lt}
use Rattle.std.proofs.lemmas.List.{length-map, length-set, length_push, get_or-set_same, get_or-set_other}
use Rattle.rl_map.specs.Layout.{LayoutData, words_of}
use Rattle.rl_model.specs.Rows.{ChipData}
use Rattle.rl_mirror.specs.Mirror.{MirrorData}
use Rattle.rl_access.specs.declared.predictor.Gathered.{Gathered}
use Rattle.rl_access.specs.declared.trace.TraceItem.{TraceItem}
use Rattle.rl_access.specs.Gathering.{IsPredictorOf, no_words, gathered_at}
use Rattle.rl_access.specs.Model.{ModelData, IsModel}
use Rattle.rl_access.specs.Observed.{Seen, seen as seen_of, is_whole}
use Rattle.rl_plain.specs.Machine.{Machine, mirror_of, machine_step}
use Rattle.rl_plain.proofs.Kept.{IsKept, model_with}
use Rattle.rl_weave.specs.declared.woven.Woven.{Woven}
use Rattle.rl_weave.specs.Access.{op_of, woven_at}
use Rattle.rl_weave.specs.Weave.{is_over}
use Rattle.rl_weave.proofs.Endings.{reg_in}
use Rattle.rl_weave.proofs.Weaves.{at_open}
use Rattle.rl_weave_laws.specs.Half.{writes, gathered_of, StepKeepsModel}
use Rattle.rl_weave_laws.proofs.Commuting.{kept_by}
use Rattle.rl_weave_laws.proofs.Halves.{is_word, whole_is, step_keeps_half}
use Rattle.rl_weave_laws.proofs.Lasts.{machine_is}
use Rattle.rl_weave_laws.proofs.Words.{gathered_whole}

-- ---- the predictor

-- a list that is shorter than its place's words takes the place of another
pub list_set : (l : LayoutData) (gathered : List Gathered) (place : ℕ) (g : Gathered) → IsPredictorOf l gathered
    → (place < length l.places → length g.words < length (words_of l place 0)) → IsPredictorOf l (set gathered place g)
list_set l gathered place g built short = record {
  count = length-set gathered place g ∙ built.count;
  shorter = λ q low. elim (cases_eq q place) [
    | inl same ↦
        let inside : place < length l.places = subst (λ n. n < length l.places) same low in
        let here = get_or-set_same gathered place g no_words (subst (λ n. place < n) (sym built.count) inside) in
        subst (λ n. length (gathered_at (set gathered place g) n).words < length (words_of l n 0)) (sym same)
        (subst (λ (x : Gathered). length x.words < length (words_of l place 0)) (sym here) (short inside))
    | inr other ↦
        subst (λ (x : Gathered). length x.words < length (words_of l q 0))
        (sym (get_or-set_other gathered place q g no_words other)) (built.shorter q low)
  ];
}

pub none_shorter : (l : LayoutData) (gathered : List Gathered) (place : ℕ) → IsPredictorOf l gathered → place < length l.places
    → 0 < length (words_of l place 0)
none_shorter l gathered place built inside = omega (arith, built.shorter place inside)

-- the lists after a word, by whether it was the last one
pub lists_by : (l : LayoutData) (gathered : List Gathered) (v : Woven) (item : TraceItem) (write whole : Bool)
    → IsPredictorOf l gathered → v.words ≡ length (words_of l v.place 0) → length v.items < v.words
    → eqb (length v.items + 1) v.words ≡ whole
    → IsPredictorOf l (cond whole (set gathered v.place no_words) (set gathered v.place (gathered_of write (v.items ++ item ∷ []))))
lists_by l gathered v item write true built words short e =
    list_set l gathered v.place no_words built (λ inside. none_shorter l gathered v.place built inside)
lists_by l gathered v item write false built words short e =
    let g = gathered_of write (v.items ++ item ∷ []) in
    let long : length g.words ≡ length v.items + 1 =
    ap (λ (x : Gathered). length x.words) (gathered_whole write v.items item)
    ∙ length-map (v.items ++ item ∷ []) _ ∙ length_push v.items item in
    list_set l gathered v.place g built
    (λ inside. strict (length v.items) v.words (length g.words) (length (words_of l v.place 0)) short
    (λ same. clash (eqb (length v.items + 1) v.words) (eq-eqb (length v.items + 1) v.words same) e) long words)
  where
    clash : (t : Bool) → t ≡ true → t ≡ false → ⊥
    clash t p q = cc

    strict : (k n a b : ℕ) → k < n → (k + 1 ≡ n → ⊥) → a ≡ k + 1 → n ≡ b → a < b
    strict k n a b low apart long words = elim (cases_lt a b) [
      | inl less ↦ less
      | inr le ↦ absurd (apart (omega (arith, low, long, words, le)))
    ]

-- ---- the model

pub step_keeps_model : StepKeepsModel
step_keeps_model s new begun d p w which step model told ok here half is =
    let m = s.model in
    let c = m.chip in
    let l = m.layout in
    let v = woven_at w.accesses which in
    let item = step.item in
    let write = writes v.access in
    let g = gathered_of write (v.items ++ item ∷ []) in
    let mine = half.open_ones which here in
    let word = is_word begun p s new d w which step model told here half is in
    let after = step_keeps_half s new begun d p w which step model told ok here half is in
    let inside = reg_in m v.access.reg v.access.map v.access.value mine.numbers in
    let kept : IsKept c (mirror_of p) = subst (IsKept c) half.mirror (record { built = model.mirror; reach = model.reach }) in
    let later : IsKept c (mirror_of (cond (is_over v item) (machine_step c l p (op_of v.access)).machine p)) =
    kept_over c p (machine_step c l p (op_of v.access)).machine (is_over v item) kept
    (subst (λ q. IsKept c (mirror_of q)) (sym (machine_is m p v.access.reg v.access.map v.access.value v.place mine.granted))
    (kept_by c v.access p model.chip inside kept)) in
    let now : IsKept c new.model.mirror = subst (IsKept c) (sym after.half.mirror) later in
    let whole = whole_is l v item write (eqb (length v.items + 1) v.words) mine.words refl in
    let lists : new.model.gathered ≡ cond (eqb (length v.items + 1) v.words) (set m.gathered v.place no_words) (set m.gathered v.place g) =
    ap (λ (x : ModelData). x.gathered) word.model
    ∙ gathered_by (is_whole l v.place g) (set m.gathered v.place no_words) (set m.gathered v.place g) _ _
    ∙ ap (λ t. cond t (set m.gathered v.place no_words) (set m.gathered v.place g)) whole in
    let chip : new.model.chip ≡ c = ap (λ (x : ModelData). x.chip) is.sent.model in
    let layout : new.model.layout ≡ l = ap (λ (x : ModelData). x.layout) is.sent.model in
    let predictor : IsPredictorOf l new.model.gathered = subst (IsPredictorOf l) (sym lists)
    (lists_by l m.gathered v item write (eqb (length v.items + 1) v.words) model.predictor mine.words (at_open w which ok here).short refl) in
    built_again m new.model chip layout model now predictor
  where
    kept_over : (c : ChipData) (p q : Machine) (t : Bool) → IsKept c (mirror_of p) → IsKept c (mirror_of q)
        → IsKept c (mirror_of (cond t q p))
    kept_over c p q true h g = g
    kept_over c p q false h g = h

    gathered_by : (t : Bool) (a b : List Gathered) (x y : MirrorData)
        → (let r : Seen = cond t (seen_of a x) (seen_of b y) in r.gathered) ≡ cond t a b
    gathered_by true a b x y = refl
    gathered_by false a b x y = refl

    built_again : (m n : ModelData) → n.chip ≡ m.chip → n.layout ≡ m.layout → IsModel m → IsKept m.chip n.mirror
        → IsPredictorOf m.layout n.gathered → IsModel n
    built_again m n chip layout ok kept predictor =
        let x : ModelData = record { chip = m.chip; layout = m.layout; mirror = n.mirror; gathered = n.gathered } in
        let same : x ≡ n =
        ap (λ c. let y : ModelData = record { chip = c; layout = m.layout; mirror = n.mirror; gathered = n.gathered } in y) (sym chip)
        ∙ ap (λ l. let y : ModelData = record { chip = n.chip; layout = l; mirror = n.mirror; gathered = n.gathered } in y) (sym layout) in
        subst IsModel same (model_with m n.mirror n.gathered ok kept predictor)

-- A kind comes twice exactly where one comes that was seen.
use Rattle.std.proofs.Common.{◌≡◌, Bool, true, false, ◌||◌, ℕ, List, [], ◌∷◌, ◌++◌, refl, sym, ◌∙◌, inl, inr, bytes_eq}
use Rattle.std.proofs.lemmas.Bool.{cases_Bool}
use Rattle.std.proofs.lemmas.Slice.Eq.{bytes_eq-Decides}
use Rattle.std.proofs.lemmas.List.Folds.{list_any-append}
use Rattle.std.specs.List.{list_any}
use Rattle.rl_model.specs.declared.parts.ResetPart.{ResetPart}
use Rattle.rl_model.specs.Paths.{is_among}
use Rattle.rl_model.specs.Rules.{same_kind, repeats, clashes}

none_seen : (rs : List ResetPart) → list_any (λ r. is_among r.kind []) rs ≡ false
none_seen [] = refl
none_seen (r ∷ rs) = none_seen rs

pub clashes-none : (rs : List ResetPart) → clashes [] rs ≡ repeats rs
clashes-none rs = rw (none_seen rs)

eq_turned : (s t : List ℕ) → bytes_eq s t ≡ bytes_eq t s
eq_turned s t =
    elim (cases_Bool (bytes_eq s t)) [
      | inl same ↦ same ∙ sym ((bytes_eq-Decides t s).1 (sym ((bytes_eq-Decides s t).0 same)))
      | inr other ↦
          elim (cases_Bool (bytes_eq t s)) [
            | inl same ↦ (bytes_eq-Decides s t).1 (sym ((bytes_eq-Decides t s).0 same)) ∙ sym same
            | inr still ↦ other ∙ sym still
          ]
    ]

shuffled : (a b c d : Bool) → ((a || (b || false)) || (c || d)) ≡ ((a || c) || (b || d))
shuffled true b c d = refl
shuffled false true true d = refl
shuffled false true false d = refl
shuffled false false true d = refl
shuffled false false false d = refl

any_more : (seen : List (List ℕ)) (x : ResetPart) (rs : List ResetPart) → list_any (λ r. is_among r.kind (seen ++ x.kind ∷ [])) rs ≡ (list_any (λ r. is_among r.kind seen) rs || list_any (same_kind x)
    rs)
any_more seen x [] = refl
any_more seen x (r ∷ rs) =
    rw (list_any-append (bytes_eq r.kind) seen (x.kind ∷ []), any_more seen x rs, eq_turned r.kind x.kind)
    (shuffled (is_among r.kind seen) (bytes_eq x.kind r.kind) (list_any (λ q. is_among q.kind seen) rs) (list_any (same_kind x) rs))

joined : (a b c : Bool) → ((a || b) || c) ≡ (a || (b || c))
joined true b c = refl
joined false b c = refl

pub clashes-seen : (seen : List (List ℕ)) (x : ResetPart) (rs : List ResetPart) → is_among x.kind seen ≡ false → clashes (seen ++ x.kind ∷ []) rs ≡ clashes seen (x ∷ rs)
clashes-seen seen x rs new =
    rw (any_more seen x rs, new) (joined (list_any (λ r. is_among r.kind seen) rs) (list_any (same_kind x) rs) (repeats rs))

pub clashes-at_once : (seen : List (List ℕ)) (x : ResetPart) (rs : List ResetPart) → is_among x.kind seen ≡ true → clashes seen (x ∷ rs) ≡ true
clashes-at_once seen x rs there = rw there

-- The kinds of a chip differ, and each reset's kind is one of them.
use Rattle.std.proofs.Common.{◌≡◌, ℕ, zero, suc, ◌<◌, true, false, List, [], ◌∷◌, length, slice_get, Some, codes, refl, sym, ap, subst, ◌∙◌, inl, inr, arith, bytes_eq}
use Rattle.std.proofs.lemmas.Bool.{cases_Bool, false≢true}
use Rattle.std.proofs.lemmas.Bool.Decides.{nat_tests}
use Rattle.std.proofs.lemmas.Slice.Eq.{bytes_eq-Decides}
use Rattle.std.proofs.lemmas.Option.{none-some, same_Some}
use Rattle.std.proofs.lemmas.List.Folds.{list_any-append}
use Rattle.std.specs.List.{list_any}
use Rattle.rl_model.specs.declared.parts.ResetPart.{ResetPart}
use Rattle.rl_model.specs.Data.{FieldData, RegData}
use Rattle.rl_model.specs.Paths.{is_among, with_text, number_in, AllDiffer}
use Rattle.rl_model.specs.Rules.{same_kind, repeats, kinds_with, kinds_after, all_kinds}
use Rattle.rl_model.specs.Build.{first_kinds}
use Rattle.rl_model.proofs.PathLemmas.{any-first}
use Rattle.rl_model.proofs.SoundLemmas.{none_at}
use Rattle.rl_model.proofs.PathsFit.{differ-push}
use Rattle.rl_model.proofs.Numbering.{Grows, grows-kinds_with, grows-kinds_after, grows-all_kinds}

-- ---- kinds differ

differ-with_text : (ks : List (List ℕ)) (t : List ℕ) → AllDiffer ks → AllDiffer (with_text ks t)
differ-with_text ks t differ =
    elim (cases_Bool (is_among t ks)) [
      | inl there ↦ rw there differ
      | inr new ↦ rw new (differ-push ks t differ new)
    ]

differ-kinds_with : (ks : List (List ℕ)) (rs : List ResetPart) → AllDiffer ks → AllDiffer (kinds_with ks rs)
differ-kinds_with ks [] differ = differ
differ-kinds_with ks (r ∷ rs) differ = differ-kinds_with (with_text ks r.kind) rs (differ-with_text ks r.kind differ)

differ-kinds_after : (ks : List (List ℕ)) (fs : List FieldData) → AllDiffer ks → AllDiffer (kinds_after ks fs)
differ-kinds_after ks [] differ = differ
differ-kinds_after ks (f ∷ fs) differ = differ-kinds_after (kinds_with ks f.resets) fs (differ-kinds_with ks f.resets differ)

differ-all_kinds : (ks : List (List ℕ)) (rs : List RegData) → AllDiffer ks → AllDiffer (all_kinds ks rs)
differ-all_kinds ks [] differ = differ
differ-all_kinds ks (r ∷ rs) differ = differ-all_kinds (kinds_after ks r.fields) rs (differ-kinds_after ks r.fields differ)

pub kinds_differ : (rs : List RegData) → AllDiffer (all_kinds first_kinds rs)
kinds_differ rs =
    let none : AllDiffer [] = λ i j t at_i at_j. absurd (none-some t at_i) in
    let hard : AllDiffer (codes "HARD" ∷ []) = differ-push [] (codes "HARD") none refl in
    differ-all_kinds first_kinds rs (differ-push (codes "HARD" ∷ []) (codes "SOFT") hard refl)

-- ---- a kind that is named is there

among-grows : (a b : List (List ℕ)) (t : List ℕ) → Grows a b → is_among t a ≡ true → is_among t b ≡ true
among-grows a b t (more, e) h = rw (e, list_any-append (bytes_eq t) a more, h)

among-with_text : (ks : List (List ℕ)) (t : List ℕ) → is_among t (with_text ks t) ≡ true
among-with_text ks t =
    let same : bytes_eq t t ≡ true = (bytes_eq-Decides t t).1 refl in
    elim (cases_Bool (is_among t ks)) [
      | inl there ↦ rw (there, there)
      | inr new ↦ rw (new, list_any-append (bytes_eq t) ks (t ∷ []), new, same)
    ]

among-kinds_with : (ks : List (List ℕ)) (rs : List ResetPart) (k : ℕ) (x : ResetPart) → slice_get rs k ≡ Some x → is_among x.kind (kinds_with ks rs) ≡ true
among-kinds_with ks [] k x at = absurd (none-some x at)
among-kinds_with ks (r ∷ rs) zero x at =
    let P : ResetPart → Type 0 = λ y. is_among y.kind (kinds_with (with_text ks r.kind) rs) ≡ true in
    subst P (same_Some r x at) (among-grows (with_text ks r.kind) _ r.kind (grows-kinds_with (with_text ks r.kind) rs) (among-with_text ks r.kind))
among-kinds_with ks (r ∷ rs) (suc k) x at = among-kinds_with (with_text ks r.kind) rs k x at

among-kinds_after : (ks : List (List ℕ)) (fs : List FieldData) (p : ℕ) (f : FieldData) (k : ℕ) (x : ResetPart) → slice_get fs p ≡ Some f → slice_get f.resets k ≡ Some x
    → is_among x.kind (kinds_after ks fs) ≡ true
among-kinds_after ks [] p f k x at at_x = absurd (none-some f at)
among-kinds_after ks (g ∷ gs) zero f k x at at_x =
    let here : slice_get g.resets k ≡ Some x = ap (λ (h : FieldData). slice_get h.resets k) (same_Some g f at) ∙ at_x in
    among-grows (kinds_with ks g.resets) _ x.kind (grows-kinds_after (kinds_with ks g.resets) gs) (among-kinds_with ks g.resets k x here)
among-kinds_after ks (g ∷ gs) (suc p) f k x at at_x = among-kinds_after (kinds_with ks g.resets) gs p f k x at at_x

pub among-all_kinds : (ks : List (List ℕ)) (rs : List RegData) (n : ℕ) (r : RegData) (p : ℕ) (f : FieldData) (k : ℕ) (x : ResetPart) → slice_get rs n ≡ Some r → slice_get r.fields p ≡ Some f
    → slice_get f.resets k ≡ Some x → is_among x.kind (all_kinds ks rs) ≡ true
among-all_kinds ks [] n r p f k x at at_f at_x = absurd (none-some r at)
among-all_kinds ks (q ∷ qs) zero r p f k x at at_f at_x =
    let here : slice_get q.fields p ≡ Some f = ap (λ (h : RegData). slice_get h.fields p) (same_Some q r at) ∙ at_f in
    among-grows (kinds_after ks q.fields) _ x.kind (grows-all_kinds (kinds_after ks q.fields) qs) (among-kinds_after ks q.fields p f k x here at_x)
among-all_kinds ks (q ∷ qs) (suc n) r p f k x at at_f at_x = among-all_kinds (kinds_after ks q.fields) qs n r p f k x at at_f at_x

-- ---- its number

pub number_below : (ks : List (List ℕ)) (t : List ℕ) → is_among t ks ≡ true → number_in ks t < length ks
number_below ks t h =
    let test = sym (any-first (bytes_eq t) ks) ∙ h in
    grind (arith, nat_tests, test)

pub number_at : (ks : List (List ℕ)) (t : List ℕ) → is_among t ks ≡ true → slice_get ks (number_in ks t) ≡ Some t
number_at [] t h = absurd (let no : ⊥ = cc in no)
number_at (k ∷ ks) t h =
    elim (cases_Bool (bytes_eq t k)) [
      | inl here ↦ rw here (ap (λ (l : List ℕ). Some l) (sym ((bytes_eq-Decides t k).0 here)))
      | inr later ↦
          let next : number_in (k ∷ ks) t ≡ suc (number_in ks t) = rw later (omega arith) in
          ap (λ (n : ℕ). slice_get (k ∷ ks) n) next ∙ number_at ks t (rw later at h)
    ]

-- a field names no kind twice
once_apart : (x : ResetPart) (rs : List ResetPart) (j : ℕ) (y : ResetPart) → list_any (same_kind x) rs ≡ false → slice_get rs j ≡ Some y → x.kind ≡ y.kind → ⊥
once_apart x rs j y off at same = false≢true (sym (none_at (same_kind x) rs j y off at) ∙ (bytes_eq-Decides x.kind y.kind).1 same)

pub once : (rs : List ResetPart) (i j : ℕ) (x y : ResetPart) → repeats rs ≡ false → slice_get rs i ≡ Some x → slice_get rs j ≡ Some y → x.kind ≡ y.kind → i ≡ j
once [] i j x y h at_i at_j same = absurd (none-some x at_i)
once (r ∷ rs) zero zero x y h at_i at_j same = refl
once (r ∷ rs) zero (suc j) x y h at_i at_j same =
    let head : list_any (same_kind r) rs ≡ false = grind (arith, nat_tests) in
    absurd (once_apart r rs j y head at_j (ap (λ (q : ResetPart). q.kind) (same_Some r x at_i) ∙ same))
once (r ∷ rs) (suc i) zero x y h at_i at_j same =
    let head : list_any (same_kind r) rs ≡ false = grind (arith, nat_tests) in
    absurd (once_apart r rs i x head at_i (ap (λ (q : ResetPart). q.kind) (same_Some r y at_j) ∙ sym same))
once (r ∷ rs) (suc i) (suc j) x y h at_i at_j same =
    let tail : repeats rs ≡ false = grind (arith, nat_tests) in
    ap suc (once rs i j x y tail at_i at_j same)

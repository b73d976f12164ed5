-- Accesses that stand off a multiple of their width, level by level.
use Rattle.std.proofs.Common.{◌≡◌, ℕ, zero, suc, ◌+◌, ◌%◌, ◌<◌, ◌≤◌, ◌||◌, ◌&&◌, ◌==◌, not, Bool, true, false, List, [], ◌∷◌, length, get_or, drop, refl, sym, ap, ◌∙◌, arith, eqb-true}
use Rattle.std.specs.List.{list_any}
use Rattle.rl_map.specs.declared.path.Level.{Level}
use Rattle.rl_map.specs.declared.seat.Access.{Access}
use Rattle.rl_map.specs.Access.{through}
use Rattle.rl_map.specs.Faults.{is_askew}

pub not_is : (b : Bool) → not b ≡ true → b ≡ false
not_is true e = cc
not_is false e = refl

askew_true : (w l : Bool) (x : ℕ) (rest : Bool) → w ≡ false → l ≡ true → (x ≡ 0 → ⊥) → ((not w && (l && not (x == 0))) || rest) ≡ true
askew_true true l x rest e f g = cc
askew_true false false x rest e f g = cc
askew_true false true x rest e f g = by (x == 0) refl
  where
    by : (t : Bool) → (x == 0) ≡ t → (not t || rest) ≡ true
    by true h = absurd (g (eqb-true x 0 h))
    by false h = refl

pub askew_here : (path : List Level) (i : ℕ) (a : Access) (d : Level) → i < length path → a.word ≡ false → (get_or path i d).word ≡ true → (a.address % a.bytes ≡ 0 → ⊥)
    → is_askew a (drop i path) ≡ true
askew_here [] i a d low e f g = absurd (omega arith)
askew_here (level ∷ up) zero a d low e f g = askew_true a.word level.word (a.address % a.bytes) (is_askew (through a level) up) e f g
askew_here (level ∷ up) (suc i) a d low e f g = askew_here up i a d (omega arith) e f g

-- whether a level stands askew under an access
abbrev pub stands_askew : Access → Level → Bool
stands_askew a level = not a.word && (level.word && not (a.address % a.bytes == 0))

drop_more : (xs : List Level) (x : Level) (i : ℕ) → drop (suc i + 1) (x ∷ xs) ≡ drop (i + 1) xs
drop_more xs x i = ap (λ n. drop n (x ∷ xs)) (let e : suc i + 1 ≡ suc (i + 1) = omega arith in e)

pub askew_next : (path : List Level) (i : ℕ) (a : Access) (d : Level) → i < length path → stands_askew a (get_or path i d) ≡ false
    → is_askew a (drop i path) ≡ is_askew (through a (get_or path i d)) (drop (i + 1) path)
askew_next [] i a d low e = absurd (omega arith)
askew_next (level ∷ up) zero a d low e = ap (λ t. t || is_askew (through a level) up) e
askew_next (level ∷ up) (suc i) a d low e = askew_next up i a d (omega arith) e ∙ ap (is_askew (through a (get_or up i d))) (sym (drop_more up level i))

pub askew_end : (path : List Level) (i : ℕ) (a : Access) → length path ≤ i → is_askew a (drop i path) ≡ false
askew_end [] zero a low = refl
askew_end [] (suc i) a low = refl
askew_end (level ∷ up) zero a low = absurd (omega arith)
askew_end (level ∷ up) (suc i) a low = askew_end up i a (omega arith)

pub even_stands : (a : Access) (level : Level) → a.address % a.bytes ≡ 0 → stands_askew a level ≡ false
even_stands a level e = by a.word level.word (a.address % a.bytes) e
  where
    by : (w l : Bool) (x : ℕ) → x ≡ 0 → (not w && (l && not (x == 0))) ≡ false
    by true l x h = refl
    by false false x h = refl
    by false true x h = rw h refl

pub byte_stands : (a : Access) (level : Level) → level.word ≡ false → stands_askew a level ≡ false
byte_stands a level e = by a.word level.word e
  where
    by : (w l : Bool) → l ≡ false → (not w && (l && not (a.address % a.bytes == 0))) ≡ false
    by true l h = refl
    by false true h = cc
    by false false h = refl

-- without a word-addressed map no access stands askew
pub never_askew : (path : List Level) (a : Access) → list_any (λ level. level.word) path ≡ false → is_askew a path ≡ false
never_askew [] a e = refl
never_askew (level ∷ up) a e =
    ap (λ t. t || is_askew (through a level) up) (byte_stands a level (first level.word (list_any (λ level. level.word) up) e))
    ∙ never_askew up (through a level) (rest level.word (list_any (λ level. level.word) up) e)
  where
    first : (x y : Bool) → (x || y) ≡ false → x ≡ false
    first true y h = h
    first false y h = refl

    rest : (x y : Bool) → (x || y) ≡ false → y ≡ false
    rest true y h = let bad : ⊥ = cc in absurd bad
    rest false y h = h

pub word_stands : (a : Access) (level : Level) → not a.word ≡ false → stands_askew a level ≡ false
word_stands a level e = ap (λ t. t && (level.word && not (a.address % a.bytes == 0))) e

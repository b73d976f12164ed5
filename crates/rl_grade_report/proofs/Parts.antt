-- Texts and lists of which one part more is appended.
use Rattle.std.proofs.Common.{◌≡◌, ℕ, ◌+◌, Bool, true, false, if◌then◌else◌, List, [], ◌∷◌, ◌++◌, map, filter, codes, refl, sym, ap, ◌∙◌, append_assoc, append-nil, zero-add}
use Rattle.std.specs.List.{flat_map, range_with_len}
use Rattle.std.proofs.lemmas.List.{map-append, map-id}
use Rattle.std.proofs.lemmas.List.Elements.{filter-append}
use Rattle.std.proofs.lemmas.List.Folds.{flat_map-map}
use Rattle.std.proofs.lemmas.List.FromFn.{map-range_with_len_more}
use Rattle.rl_report.specs.Pieces.{joined}
use Rattle.rl_grade_report.specs.Counts.{led}

-- ---- pieces

pub joined_more : (xs ys : List (List ℕ)) → joined xs ++ joined ys ≡ joined (xs ++ ys)
unfolding joined
joined_more [] ys = refl
joined_more (x ∷ xs) ys = append_assoc x (joined xs) (joined ys) ∙ ap (λ t. x ++ t) (joined_more xs ys)

pub joined_last : (xs : List (List ℕ)) (y : List ℕ) → joined xs ++ y ≡ joined (xs ++ y ∷ [])
unfolding joined
joined_last xs y = ap (λ t. joined xs ++ t) (sym (append-nil y)) ∙ joined_more xs (y ∷ [])

pub five_parts : (a b c d e : List ℕ) → (((a ++ b) ++ c) ++ d) ++ e ≡ joined (a ∷ b ∷ c ∷ d ∷ e ∷ [])
unfolding joined
five_parts a b c d e = simp (append_assoc, append-nil)

two_behind : (t a b : List ℕ) → (t ++ a) ++ b ≡ t ++ joined (a ∷ b ∷ [])
unfolding joined
two_behind t a b = simp (append_assoc, append-nil)

-- pieces, and two more behind them
pub then_two : (xs : List (List ℕ)) (a b : List ℕ) → (joined xs ++ a) ++ b ≡ joined (xs ++ a ∷ b ∷ [])
then_two xs a b = two_behind (joined xs) a b ∙ joined_more xs (a ∷ b ∷ [])

pub three_parts : (a b c : List ℕ) → (a ++ b) ++ c ≡ joined (a ∷ b ∷ c ∷ [])
unfolding joined
three_parts a b c = simp (append_assoc, append-nil)

-- a text, and pieces behind it
pub then_pieces : (a b : List ℕ) (xs : List (List ℕ)) → (a ++ b) ++ joined xs ≡ joined (a ∷ b ∷ xs)
unfolding joined
then_pieces a b xs = append_assoc a b (joined xs)

-- ---- the text of each of a list

pub flat_more : {X Y : Type 0} (f : X → List Y) (xs : List X) (x : X) → flat_map f (xs ++ x ∷ []) ≡ flat_map f xs ++ f x
flat_more f [] x = append-nil (f x)
flat_more f (first ∷ xs) x =
    ap (λ t. f first ++ t) (flat_more f xs x) ∙ sym (append_assoc (f first) (flat_map f xs) (f x))

-- a text, that of each, and one more
pub mapped_three : {X Y : Type 0} (a : List ℕ) (f : Y → List ℕ) (g : X → Y) (xs : List X) (b : List ℕ)
    → (a ++ flat_map (λ x. f (g x)) xs) ++ b ≡ joined (a ∷ flat_map f (map g xs) ∷ b ∷ [])
mapped_three a f g xs b = ap (λ t. (a ++ t) ++ b) (sym (flat_map-map f g xs)) ∙ three_parts a (flat_map f (map g xs)) b

-- ---- of those that pass a test

module _ {X Y : Type 0} (f : X → Y) (test : X → Bool) where
  one_if : (x : X) (b : Bool) → test x ≡ b → map f (filter test (x ∷ [])) ≡ (if b then f x ∷ [] else [])
  one_if x b is = by (test x) b is
    where
      by : (a b : Bool) → a ≡ b → map f (if a then x ∷ [] else []) ≡ (if b then f x ∷ [] else [])
      by true true at = refl
      by false false at = refl
      by true false at = absurd (cc)
      by false true at = absurd (cc)

  parts_more : (some all : List X) (x : X) (b : Bool) → all ≡ some ++ x ∷ [] → test x ≡ b
      → map f (filter test all) ≡ map f (filter test some) ++ (if b then f x ∷ [] else [])
  parts_more some all x b is at =
      ap (λ xs. map f (filter test xs)) is ∙ ap (map f) (filter-append test some (x ∷ []))
      ∙ map-append f (filter test some) (filter test (x ∷ [])) ∙ ap (λ ts. map f (filter test some) ++ ts) (one_if x b at)

  -- the next one passes
  pub kept : (some all : List X) (x : X) → all ≡ some ++ x ∷ [] → test x ≡ true
      → map f (filter test all) ≡ map f (filter test some) ++ f x ∷ []
  kept some all x is at = parts_more some all x true is at

  -- it doesn't
  pub passed : (some all : List X) (x : X) → all ≡ some ++ x ∷ [] → test x ≡ false
      → map f (filter test some) ≡ map f (filter test all)
  passed some all x is at = sym (parts_more some all x false is at ∙ append-nil (map f (filter test some)))

-- ---- with commas between them

-- there is one
abbrev pub is_some_part : List (List ℕ) → Bool
is_some_part [] = false
is_some_part (part ∷ parts) = true

-- what stands before one more
abbrev pub led_by : List ℕ → Bool → List ℕ
led_by lead told = if told then codes ", " else lead

led_more : (lead : List ℕ) (parts : List (List ℕ)) (part : List ℕ)
    → led lead (parts ++ part ∷ []) ≡ (led lead parts ++ led_by lead (is_some_part parts)) ++ part
led_more lead [] part = append-nil (lead ++ part)
led_more lead (first ∷ parts) part =
    ap (λ t. (lead ++ first) ++ t) (flat_more (λ p. codes ", " ++ p) parts part) ∙ simp append_assoc

some_more : (parts : List (List ℕ)) (part : List ℕ) → is_some_part (parts ++ part ∷ []) ≡ true
some_more [] part = refl
some_more (first ∷ parts) part = refl

behind : (a b c d : List ℕ) → ((a ++ b) ++ c) ++ d ≡ a ++ ((b ++ c) ++ d)
behind a b c d = simp append_assoc

module _ {X : Type 0} (text : X → List ℕ) (test : X → Bool) where
  pub told_more : (lead before now new : List ℕ) (told : Bool) (some all : List X) (x : X) → all ≡ some ++ x ∷ []
      → test x ≡ true → now ≡ before ++ led lead (map text (filter test some)) → told ≡ is_some_part (map text (filter test some))
      → new ≡ (now ++ led_by lead told) ++ text x → new ≡ before ++ led lead (map text (filter test all))
  told_more lead before now new told some all x is at so told_is grows =
      let parts = map text (filter test some) in
      grows ∙ ap (λ t. (t ++ led_by lead told) ++ text x) so
      ∙ ap (λ b. ((before ++ led lead parts) ++ led_by lead b) ++ text x) told_is
      ∙ behind before (led lead parts) (led_by lead (is_some_part parts)) (text x)
      ∙ ap (λ t. before ++ t) (sym (ap (led lead) (kept text test some all x is at) ∙ led_more lead parts (text x)))

  pub some_told : (some all : List X) (x : X) → all ≡ some ++ x ∷ [] → test x ≡ true
      → true ≡ is_some_part (map text (filter test all))
  some_told some all x is at =
      sym (ap is_some_part (kept text test some all x is at) ∙ some_more (map text (filter test some)) (text x))

-- ---- the numbers below one more

pub range_more : (m : ℕ) → range_with_len 0 (m + 1) ≡ range_with_len 0 m ++ m ∷ []
range_more m =
    sym (map-id (range_with_len 0 (m + 1))) ∙ map-range_with_len_more (λ x. x) 0 m m (zero-add m)
    ∙ ap (λ l. l ++ m ∷ []) (map-id (range_with_len 0 m))

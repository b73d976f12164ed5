-- Texts without a 10.
use Rattle.std.proofs.Common.{◌≡◌, ℕ, zero, suc, ◌+◌, ◌/◌, ◌%◌, ◌^◌, ◌==◌, Bool, true, false, not, ◌&&◌, if◌then◌else◌}
use Rattle.std.proofs.Common.{List, [], ◌∷◌, ◌++◌, map, decimal, flat_map, inl, inr, refl, sym, ap, ◌∙◌, arith}
use Rattle.std.specs.Char.{digit_char}
use Rattle.std.specs.Fmt.{digits, digits_onto, digit_glyph}
use Rattle.std.specs.Int.Digits.{digits_of}
use Rattle.std.specs.List.{list_all}
use Rattle.std.proofs.lemmas.Bool.{cases_Bool, true≢false}
use Rattle.std.proofs.lemmas.Bool.Decides.{nat_tests}
use Rattle.std.proofs.lemmas.List.Folds.{list_all-append}
use Rattle.io.specs.Digits.{hex_digit_ascii, last_digits}
use Rattle.rl_policy.specs.Numbers.{hex_digits}
use Rattle.rl_report.specs.Numbers.{padded, lanes_text}
use Rattle.rl_report.specs.Pieces.{joined}
use Rattle.rl_report.specs.WithoutItems.{is_one_line}

-- no byte is a 10
abbrev pub is_unbroken : List ℕ → Bool
is_unbroken text = list_all (λ b. not (b == 10)) text

-- a text stays closed here, so that tactics compute none
pub record IsUnbroken (text : List ℕ) : Type 0 where
  pub each : is_unbroken text ≡ true

-- ---- texts of several

pub unbroken-append : (xs ys : List ℕ) → IsUnbroken xs → IsUnbroken ys → IsUnbroken (xs ++ ys)
unbroken-append xs ys p q = record { each = list_all-append (λ b. not (b == 10)) xs ys ∙ ap (λ d. d && is_unbroken ys) p.each ∙ q.each }

pub unbroken-joined_nil : IsUnbroken (joined [])
unfolding joined
unbroken-joined_nil = record { each = refl }

pub unbroken-joined : (piece : List ℕ) (pieces : List (List ℕ)) → IsUnbroken piece → IsUnbroken (joined pieces) → IsUnbroken (joined (piece ∷ pieces))
unfolding joined
unbroken-joined piece pieces p q = unbroken-append piece (joined pieces) p q

pub unbroken-last : (piece : List ℕ) → IsUnbroken piece → IsUnbroken (joined (piece ∷ []))
unbroken-last piece p = unbroken-joined piece [] p unbroken-joined_nil

pub unbroken-if : (b : Bool) (xs ys : List ℕ) → IsUnbroken xs → IsUnbroken ys → IsUnbroken (if b then xs else ys)
unbroken-if true xs ys p q = p
unbroken-if false xs ys p q = q

pub unbroken-flat_map : {A : Type 0} (f : A → List ℕ) (xs : List A) → ((x : A) → IsUnbroken (f x)) → IsUnbroken (flat_map f xs)
unbroken-flat_map f [] each = record { each = refl }
unbroken-flat_map f (x ∷ xs) each = unbroken-append (f x) (flat_map f xs) (each x) (unbroken-flat_map f xs each)

-- ---- what makes a line

-- what ends in a line is one, if no 10 stands before it
one_line-append : (xs ys : List ℕ) → IsUnbroken xs → is_one_line ys ≡ true → is_one_line (xs ++ ys) ≡ true
one_line-append [] ys u h = h
one_line-append (b ∷ bs) ys u h =
    elim (cases_Bool (b == 10)) [
      | inl ends ↦ absurd (true≢false (sym u.each ∙ ap (λ d. not d && is_unbroken bs) ends))
      | inr within ↦
          let rest : is_unbroken bs ≡ true = sym (ap (λ d. not d && is_unbroken bs) within) ∙ u.each in
          rw within (one_line-append bs ys (record { each = rest }) h)
    ]

pub one_line-joined : (piece : List ℕ) (pieces : List (List ℕ)) → IsUnbroken piece → is_one_line (joined pieces) ≡ true → is_one_line (joined (piece ∷ pieces)) ≡ true
unfolding joined
one_line-joined piece pieces p q = one_line-append piece (joined pieces) p q

-- ---- numbers

pub unbroken-one : (b : ℕ) → (b == 10) ≡ false → IsUnbroken (b ∷ [])
unbroken-one b h = record { each = ap (λ d. not d && true) h }

pub unbroken-cons : (b : ℕ) (bs : List ℕ) → (b == 10) ≡ false → IsUnbroken bs → IsUnbroken (b ∷ bs)
unbroken-cons b bs h u = record { each = ap (λ d. not d && is_unbroken bs) h ∙ u.each }

glyph_within : (d : ℕ) → (digit_glyph false d == 10) ≡ false
glyph_within d = grind (arith, nat_tests)

unbroken-digits_onto : (k n : ℕ) (acc : List ℕ) → IsUnbroken acc → IsUnbroken (digits_onto k 10 false n acc)
unbroken-digits_onto zero n acc u = u
unbroken-digits_onto (suc k) n acc u =
    let more : IsUnbroken (digit_glyph false (n % 10) ∷ acc) = unbroken-cons _ acc (glyph_within (n % 10)) u in
    elim (cases_Bool (n / 10 == 0)) [
      | inl last ↦ rw last more
      | inr others ↦ rw others (unbroken-digits_onto k (n / 10) (digit_glyph false (n % 10) ∷ acc) more)
    ]

pub unbroken-decimal : (n : ℕ) → IsUnbroken (decimal n)
unfolding digits
unbroken-decimal n = unbroken-digits_onto 64 n [] (record { each = refl })

hex_within : (d : ℕ) → (digit_char d == 10) ≡ false
hex_within d = grind (arith, nat_tests)

unbroken-map : (ds : List ℕ) → IsUnbroken (map digit_char ds)
unbroken-map [] = record { each = refl }
unbroken-map (d ∷ ds) = unbroken-cons (digit_char d) (map digit_char ds) (hex_within d) (unbroken-map ds)

pub unbroken-hex_digits : (n : ℕ) → IsUnbroken (hex_digits n)
unfolding hex_digits
unbroken-hex_digits n =
    elim (cases_Bool (n == 0)) [
      | inl none ↦ rw none (record { each = refl })
      | inr some ↦ rw some (unbroken-map (digits_of 16 n))
    ]

unbroken-last_digits : (count n : ℕ) → IsUnbroken (last_digits 16 count n)
unbroken-last_digits zero n = record { each = refl }
unbroken-last_digits (suc k) n =
    unbroken-append (last_digits 16 k (n / 16)) (hex_digit_ascii (n % 16) ∷ []) (unbroken-last_digits k (n / 16)) (unbroken-one (hex_digit_ascii (n % 16)) (hex_within (n % 16)))

pub unbroken-padded : (count n : ℕ) → IsUnbroken (padded count n)
unfolding padded
unbroken-padded count n = unbroken-last_digits count n

lane_within : (d : ℕ) → (48 + d == 10) ≡ false
lane_within d = grind (arith, nat_tests)

pub unbroken-lanes_text : (n lanes : ℕ) → IsUnbroken (lanes_text n lanes)
unbroken-lanes_text zero lanes = record { each = refl }
unbroken-lanes_text (suc n) lanes = unbroken-cons (48 + lanes / 2 ^ n % 2) (lanes_text n lanes) (lane_within (lanes / 2 ^ n % 2)) (unbroken-lanes_text n lanes)

-- ---- fixed texts

-- a text whose bytes are written out
pub unbroken-fixed : (text : List ℕ) → is_unbroken text ≡ true → IsUnbroken text
unbroken-fixed text h = record { each = h }

-- The script of a session, and what was taken of it.
use Rattle.std.proofs.Common.{◌≡◌, ℕ, ◌+◌, ◌<◌, ◌≤◌, Bool, true, false, ◌&&◌, cond, eqb, List, [], ◌∷◌, ◌++◌, length, take, drop, Option, Some, None, refl, sym, ap, subst, ◌∙◌, append_assoc, append-nil, length-append, inl, inr, arith}
use Rattle.std.proofs.lemmas.Bool.{cases_lt, true≢false}
use Rattle.std.proofs.lemmas.List.{take-append-drop, length-take-le}
use Rattle.std.proofs.Math.Seq.{drop-append_seam}
use Rattle.rl_play.specs.AnyDevice.{Close, DoneLine, RunsTaken, cut}
use Rattle.rl_report.specs.Lines.{first_line, after_line, whole_lines}
use Rattle.rl_report.specs.Opening.{TakesNoHead, is_separator, separator_at, separator_from}
use Rattle.rl_report.proofs.LineLemmas.{ends_whole}
use Rattle.rl_report.proofs.OpeningLemmas.{no_ten}
use Rattle.rl_report.proofs.TakenLemmas.{begins_later}
use Rattle.rl_session.specs.Session.{behind}
use Rattle.rl_session_run.specs.Script.{whole_script}

-- ---- what is behind a separator

after_none : (p : List ℕ) → first_line p ≡ p → after_line p ≡ []
after_none [] none = refl
after_none (b ∷ bs) none = let t = no_ten b bs none in ap (λ c. cond c bs (after_line bs)) t.0 ∙ after_none bs t.1

after_by : (b : ℕ) (bs more : List ℕ) (t : Bool) → eqb b 10 ≡ t → after_line (first_line bs ++ 10 ∷ more) ≡ more
    → after_line (cond t [] (b ∷ first_line bs) ++ 10 ∷ more) ≡ more
after_by b bs more true e rest = refl
after_by b bs more false e rest =
    ap (λ c. cond c (first_line bs ++ 10 ∷ more) (after_line (first_line bs ++ 10 ∷ more))) e ∙ rest

pub after_first : (p more : List ℕ) → after_line (first_line p ++ 10 ∷ more) ≡ more
after_first [] more = refl
after_first (b ∷ bs) more = after_by b bs more (eqb b 10) refl (after_first bs more)

-- the lines before a 10 don't depend on what is behind it
first_same : (l a b : List ℕ) → first_line (l ++ 10 ∷ a) ≡ first_line (l ++ 10 ∷ b)
first_same [] a b = refl
first_same (x ∷ xs) a b = ap (λ l. cond (eqb x 10) [] (x ∷ l)) (first_same xs a b)

stays_by : (at n : ℕ) (t u : Bool) (o p : Option ℕ) → t ≡ u → (o ≡ Some n → p ≡ Some n) → cond t (Some at) o ≡ Some n
    → cond u (Some at) p ≡ Some n
stays_by at n true true o p same rest h = h
stays_by at n true false o p same rest h = absurd (true≢false same)
stays_by at n false true o p same rest h = absurd (true≢false (sym same))
stays_by at n false false o p same rest h = rest h

too_late : (at n : ℕ) (o p : Option ℕ) → (o ≡ Some n → at + 1 ≤ n) → n ≤ at → o ≡ Some n → p ≡ Some n
too_late at n o p later early e = absurd (omega (arith, later e, early))

-- a separator that begins before a 10 begins there whatever is behind it
pub stays : (at n : ℕ) (starts : Bool) (l a b : List ℕ) → n ≤ at + length l → separator_from at starts
    (l ++ 10 ∷ a) ≡ Some n → separator_from at starts (l ++ 10 ∷ b) ≡ Some n
stays at n starts [] a b within h =
    stays_by at n (starts && is_separator []) (starts && is_separator []) (separator_from (at + 1) true a)
    (separator_from (at + 1) true b) refl
    (too_late at n (separator_from (at + 1) true a) (separator_from (at + 1) true b) (begins_later (at + 1) true a n)
    (omega (arith, within))) h
stays at n starts (x ∷ xs) a b within h =
    stays_by at n (starts && is_separator (first_line (x ∷ (xs ++ 10 ∷ a))))
    (starts && is_separator (first_line (x ∷ (xs ++ 10 ∷ b))))
    (separator_from (at + 1) (eqb x 10) (xs ++ 10 ∷ a)) (separator_from (at + 1) (eqb x 10) (xs ++ 10 ∷ b))
    (ap (λ l. starts && is_separator l) (first_same (x ∷ xs) a b))
    (stays (at + 1) n (eqb x 10) xs a b (omega (arith, within))) h

-- ---- nothing was taken of a script

pub nothing_behind : (place : Option ℕ) (taken : List ℕ) →
    ((at : ℕ) → place ≡ Some at → first_line (drop at taken) ≡ drop at taken) → behind place taken ≡ []
nothing_behind None taken none = refl
nothing_behind (Some at) taken none = after_none (drop at taken) (none at refl)

pub none_run : (bytes : List ℕ) (left : Option (List ℕ)) → TakesNoHead bytes left → RunsTaken whole_script bytes left [] cut
none_run bytes left h = record {
  taken = h.taken;
  others = h.others;
  split = h.split;
  is_left = h.is_left;
  every = sym (ap (λ more. length (whole_lines more)) (nothing_behind (separator_at h.taken) h.taken h.none));
  no_more = refl;
}

-- ---- what was taken behind a separator

-- with what is before it
record TakesScript (bytes more others : List ℕ) : Type 0 where
  pub taken : List ℕ
  pub split : taken ++ others ≡ bytes
  pub is : behind (separator_at taken) taken ≡ more

nothing_taken : (bytes more others : List ℕ) → behind (separator_at bytes) bytes ≡ [] → more ++ others ≡ [] → TakesScript bytes more others
nothing_taken bytes [] [] none h = record { taken = bytes; split = append-nil bytes; is = none }
nothing_taken bytes [] (b ∷ bs) none h = absurd (cc)
nothing_taken bytes (b ∷ bs) others none h = absurd (cc)

-- a separator begins within the bytes
within_by : (at b : ℕ) (bs : List ℕ) (n : ℕ) (t : Bool) → (separator_from (at + 1) (eqb b 10) bs ≡ Some n → n ≤ at + 1 + length bs)
    → cond t (Some at) (separator_from (at + 1) (eqb b 10) bs) ≡ Some n → n ≤ at + length (b ∷ bs)
within_by at b bs n true rest h = let e : at ≡ n = cc in omega arith
within_by at b bs n false rest h = omega (arith, rest h)

begins_within : (at : ℕ) (starts : Bool) (bs : List ℕ) (n : ℕ) → separator_from at starts bs ≡ Some n → n ≤ at + length bs
begins_within at starts [] n h = absurd (cc)
begins_within at starts (b ∷ bs) n h =
    within_by at b bs n (starts && is_separator (first_line (b ∷ bs))) (begins_within (at + 1) (eqb b 10) bs n) h

-- behind a line that lacks its 10 is nothing
ends_by : (b : ℕ) (bs : List ℕ) (t : Bool) → (length bs ≤ length (first_line bs) → after_line bs ≡ [])
    → length (b ∷ bs) ≤ length (cond t [] (b ∷ first_line bs)) → cond t bs (after_line bs) ≡ []
ends_by b bs true rest h = absurd (omega (arith, h))
ends_by b bs false rest h = rest (omega (arith, h))

ends_there : (p : List ℕ) → length p ≤ length (first_line p) → after_line p ≡ []
ends_there [] h = refl
ends_there (b ∷ bs) h = ends_by b bs (eqb b 10) (ends_there bs) h

module _ (bytes more others : List ℕ) where
  -- the separator's line has its 10
  whole_taken : (n : ℕ) → separator_at bytes ≡ Some n → length (first_line (drop n bytes)) < length (drop n bytes)
      → more ++ others ≡ after_line (drop n bytes) → TakesScript bytes more others
  whole_taken n place whole is =
      let head = take n bytes in
      let d = drop n bytes in
      let line = first_line d in
      let before = head ++ line in
      let taken = before ++ 10 ∷ more in
      let size : length head ≡ n = length-take-le n bytes (omega (arith, begins_within 0 true bytes n place)) in
      let all : before ++ 10 ∷ after_line d ≡ bytes =
      append_assoc head line (10 ∷ after_line d) ∙ ap (λ l. head ++ l) (sym (ends_whole d whole)) ∙ take-append-drop n bytes in
      let there : separator_at taken ≡ Some n =
      stays 0 n true before (after_line d) more (omega (arith, size, length-append head line)) (ap separator_at all ∙ place) in
      let dropped : drop n taken ≡ line ++ 10 ∷ more =
      ap (λ n. drop n taken) (sym size) ∙ ap (drop (length head)) (append_assoc head line (10 ∷ more))
      ∙ drop-append_seam head (line ++ 10 ∷ more) in
      record {
        taken = taken;
        split = append_assoc before (10 ∷ more) others ∙ ap (λ l. before ++ 10 ∷ l) is ∙ all;
        is = ap (λ place. behind place taken) there ∙ ap after_line dropped ∙ after_first d more;
      }

  by_line : (n : ℕ) → separator_at bytes ≡ Some n → more ++ others ≡ after_line (drop n bytes) → TakesScript bytes more others
  by_line n place is = elim (cases_lt (length (first_line (drop n bytes))) (length (drop n bytes))) [
    | inl whole ↦ whole_taken n place whole is
    | inr ended ↦
        let none : after_line (drop n bytes) ≡ [] = ends_there (drop n bytes) ended in
        nothing_taken bytes more others (ap (λ place. behind place bytes) place ∙ none) (is ∙ none)
  ]

  by_place : (place : Option ℕ) → separator_at bytes ≡ place → more ++ others ≡ behind place bytes → TakesScript bytes more others
  by_place None place is = nothing_taken bytes more others (ap (λ place. behind place bytes) place) is
  by_place (Some n) place is = by_line n place is

-- the lines that were taken of the script are those of the session
pub script_run : (bytes : List ℕ) (left : Option (List ℕ)) (done : List DoneLine) (close : Close)
    → RunsTaken whole_lines (behind (separator_at bytes) bytes) left done close → RunsTaken whole_script bytes left done close
script_run bytes left done close r =
    let t = by_place bytes r.taken r.others (separator_at bytes) refl r.split in
    record {
      taken = t.taken;
      others = r.others;
      split = t.split;
      is_left = r.is_left;
      every = r.every ∙ sym (ap (λ more. length (whole_lines more)) t.is);
      no_more = r.no_more;
    }

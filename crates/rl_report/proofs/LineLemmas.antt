-- What a line reader hands out, by what it holds.
use Rattle.std.proofs.Common.{◌≡◌, ℕ, zero, suc, ◌+◌, ◌<◌, ◌≤◌, Bool, true, false, cond, eqb, List, [], ◌∷◌, ◌++◌, Some, None}
use Rattle.std.proofs.Common.{IfSome, length, slice_range, take, drop, ◌-◌, unwrap_or, refl, sym, ap, ◌∙◌, append_assoc, length-append, arith}
use Rattle.std.specs.declared.option.Option.{Option}
use Rattle.std.specs.Io.KnownBytes.{Keeps, prepend_known}
use Rattle.std.specs.Io.BufRead.{strip_last}
use Rattle.std.proofs.lemmas.List.{drop_all}
use Rattle.std.proofs.lemmas.Bool.{true≢false}
use Rattle.std.proofs.lemmas.Bool.Decides.{nat_tests}
use Rattle.memchr.specs.Find.{IsFirstByte, Nowhere, Passes, is_byte}
use Rattle.rl_report.specs.Lines.{first_line, after_line, lines_of, onto_first, whole_lines, onto_whole}
use Rattle.rl_report.specs.Reading.{Reading, input_of, HandsLine}
use Rattle.rl_report.proofs.RangeLemmas.{length_part}

-- where the first line isn't all, a 10 ends it
ends_by : (b : ℕ) (bs : List ℕ) (t : Bool) → eqb b 10 ≡ t → (length (first_line bs) < length bs → bs ≡ first_line bs ++ 10 ∷ after_line bs)
    → length (cond t [] (b ∷ first_line bs)) < length (b ∷ bs) → b ∷ bs ≡ cond t [] (b ∷ first_line bs) ++ 10 ∷ cond t bs (after_line bs)
ends_by b bs true e rest h = let same : b ≡ 10 = grind (arith, nat_tests) in ap (λ x. x ∷ bs) same
ends_by b bs false e rest h = ap (λ l. b ∷ l) (rest (omega arith))

pub ends_whole : (p : List ℕ) → length (first_line p) < length p → p ≡ first_line p ++ 10 ∷ after_line p
ends_whole [] h = absurd (omega arith)
ends_whole (b ∷ bs) h = ends_by b bs (eqb b 10) refl (ends_whole bs) h

-- then more bytes behind it don't change the first line
first_by : (b : ℕ) (bs more : List ℕ) (t : Bool) → (length (first_line bs) < length bs → first_line (bs ++ more) ≡ first_line bs)
    → length (cond t [] (b ∷ first_line bs)) < length (b ∷ bs) → cond t [] (b ∷ first_line (bs ++ more)) ≡ cond t [] (b ∷ first_line bs)
first_by b bs more true rest h = refl
first_by b bs more false rest h = ap (λ l. b ∷ l) (rest (omega arith))

pub first_of_more : (p more : List ℕ) → length (first_line p) < length p → first_line (p ++ more) ≡ first_line p
first_of_more [] more h = absurd (omega arith)
first_of_more (b ∷ bs) more h = first_by b bs more (eqb b 10) (first_of_more bs more) h

after_by : (b : ℕ) (bs more : List ℕ) (t : Bool) → (length (first_line bs) < length bs → after_line (bs ++ more) ≡ after_line bs ++ more)
    → length (cond t [] (b ∷ first_line bs)) < length (b ∷ bs) → cond t (bs ++ more) (after_line (bs ++ more)) ≡ cond t bs (after_line bs) ++ more
after_by b bs more true rest h = refl
after_by b bs more false rest h = rest (omega arith)

pub after_of_more : (p more : List ℕ) → length (first_line p) < length p → after_line (p ++ more) ≡ after_line p ++ more
after_of_more [] more h = absurd (omega arith)
after_of_more (b ∷ bs) more h = after_by b bs more (eqb b 10) (after_of_more bs more) h

-- the first line is no shorter with more bytes behind it
longer_by : (b : ℕ) (bs more : List ℕ) (t : Bool) → length (first_line bs) ≤ length (first_line (bs ++ more))
    → length (cond t [] (b ∷ first_line bs)) ≤ length (cond t [] (b ∷ first_line (bs ++ more)))
longer_by b bs more true rest = omega arith
longer_by b bs more false rest = omega (arith, rest)

pub longer : (p more : List ℕ) → length (first_line p) ≤ length (first_line (p ++ more))
longer [] more = omega arith
longer (b ∷ bs) more = longer_by b bs more (eqb b 10) (longer bs more)

-- a reader with a whole line hands it out
hands_by : (e : Bool) (p : List ℕ) (a f r k : Bool) (left : Option (List ℕ)) → length (first_line p) < length p → length (first_line p) ≤ 4096
    → IfSome (cond e (Some p) (prepend_known p left))
    (λ bytes. HandsLine bytes (record { pending = after_line p; line = strip_last 13 (first_line p); asked = a; found = f; refused = r; ended = e; closed = k }) left)
hands_by true p a f r k left h short = record { some = omega arith; short = short; line = refl; rest = refl; whole = λ _. ends_whole p h }
hands_by false p a f r k None h short = tt
hands_by false p a f r k (Some more) h short =
    let first = first_of_more p more h in
    let after = after_of_more p more h in
    record {
      some = omega (arith, length-append p more);
      short = omega (arith, ap length first);
      line = ap (strip_last 13) (sym first);
      rest = ap Some (sym after);
      whole = λ _. ap (λ l. l ++ more) (ends_whole p h) ∙ append_assoc (first_line p) (10 ∷ after_line p) more ∙ sym
          (ap (λ l. l ++ 10 ∷ after_line (p ++ more)) first ∙ ap (λ l. first_line p ++ 10 ∷ l) after);
    }

pub hands_whole : (old : Reading) (left : Option (List ℕ)) → length (first_line old.pending) < length old.pending → length (first_line old.pending) ≤ 4096
    → IfSome (input_of old left) (λ bytes. HandsLine bytes (record old { pending = after_line old.pending; line = strip_last 13 (first_line old.pending) }) left)
hands_whole old left h short = hands_by old.ended old.pending old.asked old.found old.refused old.closed left h short

-- a line that is too long by what is held is too long
too_long_by : (e : Bool) (p : List ℕ) (left : Option (List ℕ)) → 4096 < length (first_line p) → IfSome (cond e (Some p) (prepend_known p left)) (λ bytes. 4096 < length (first_line bytes))
too_long_by true p left h = h
too_long_by false p None h = tt
too_long_by false p (Some more) h = omega (arith, longer p more)

pub too_long : (old : Reading) (left : Option (List ℕ)) → 4096 < length (first_line old.pending) → IfSome (input_of old left) (λ bytes. 4096 < length (first_line bytes))
too_long old left h = too_long_by old.ended old.pending left h

-- the lines of an input are its first line, and those behind it
lines_by : (b : ℕ) (bs : List ℕ) (t : Bool) → (0 < length bs → lines_of bs ≡ first_line bs ∷ lines_of (after_line bs))
    → cond t ([] ∷ lines_of bs) (onto_first b (lines_of bs)) ≡ cond t [] (b ∷ first_line bs) ∷ lines_of (cond t bs (after_line bs))
lines_by b bs true rest = refl
lines_by b [] false rest = refl
lines_by b (c ∷ cs) false rest = ap (onto_first b) (rest (omega arith))

-- bytes with no 10 have no whole line
none_by : (b : ℕ) (bs : List ℕ) (t : Bool) → (first_line bs ≡ bs → whole_lines bs ≡ []) → cond t [] (b ∷ first_line bs) ≡ b ∷ bs → cond t ([] ∷ whole_lines bs) (onto_whole b (whole_lines bs)) ≡ []
none_by b bs true rest h = absurd (omega (arith, ap length h))
none_by b bs false rest h = ap (onto_whole b) (rest (cc))

pub whole_none : (p : List ℕ) → first_line p ≡ p → whole_lines p ≡ []
whole_none [] h = refl
whole_none (b ∷ bs) h = none_by b bs (eqb b 10) (whole_none bs) h

-- a line and its 10 are a whole line
whole_by : (b : ℕ) (bs more : List ℕ) (t : Bool) → eqb b 10 ≡ t → whole_lines (first_line bs ++ 10 ∷ more) ≡ first_line bs ∷ whole_lines more
    → whole_lines (cond t [] (b ∷ first_line bs) ++ 10 ∷ more) ≡ cond t [] (b ∷ first_line bs) ∷ whole_lines more
whole_by b bs more true e rest = refl
whole_by b bs more false e rest = rw e (ap (onto_whole b) rest)

pub whole_first : (p more : List ℕ) → whole_lines (first_line p ++ 10 ∷ more) ≡ first_line p ∷ whole_lines more
whole_first [] more = refl
whole_first (b ∷ bs) more = whole_by b bs more (eqb b 10) refl (whole_first bs more)

-- ---- how long the first line is

front_by : (b : ℕ) (bs : List ℕ) (t : Bool) → take (length (first_line bs)) bs ≡ first_line bs → take (length (cond t [] (b ∷ first_line bs))) (b ∷ bs) ≡ cond t [] (b ∷ first_line bs)
front_by b bs true rest = refl
front_by b bs false rest = ap (λ l. b ∷ l) rest

front : (p : List ℕ) → take (length (first_line p)) p ≡ first_line p
front [] = refl
front (b ∷ bs) = front_by b bs (eqb b 10) (front bs)

behind_by : (b : ℕ) (bs : List ℕ) (t : Bool) → drop (length (first_line bs) + 1) bs ≡ after_line bs → drop (length (cond t [] (b ∷ first_line bs)) + 1) (b ∷ bs) ≡ cond t bs (after_line bs)
behind_by b bs true rest = refl
behind_by b bs false rest =
    let count : length (b ∷ first_line bs) + 1 ≡ suc (length (first_line bs) + 1) = omega arith in
    ap (λ n. drop n (b ∷ bs)) count ∙ rest

behind : (p : List ℕ) → drop (length (first_line p) + 1) p ≡ after_line p
behind [] = refl
behind (b ∷ bs) = behind_by b bs (eqb b 10) (behind bs)

short_by : (b : ℕ) (bs : List ℕ) (t : Bool) → length (first_line bs) ≤ length bs → length (cond t [] (b ∷ first_line bs)) ≤ length (b ∷ bs)
short_by b bs true rest = omega arith
short_by b bs false rest = omega (arith, rest)

pub first_within : (p : List ℕ) → length (first_line p) ≤ length p
first_within [] = omega arith
first_within (b ∷ bs) = short_by b bs (eqb b 10) (first_within bs)

-- the first line stands at the front, and after it and its 10 what is behind it
pub line_front : (p : List ℕ) (size : ℕ) → size ≡ length (first_line p) → take size p ≡ first_line p
line_front p size e = ap (λ n. take n p) e ∙ front p

pub line_behind : (p : List ℕ) (size : ℕ) → size ≡ length (first_line p) → drop (size + 1) p ≡ after_line p
line_behind p size e = ap (λ n. drop (n + 1) p) e ∙ behind p

pub line_within : (p : List ℕ) (size : ℕ) → size ≡ length (first_line p) → size ≤ length p
line_within p size e = omega (arith, first_within p)

-- a search for a 10 tells how long the first line is
ten_first : (b : ℕ) (bs : List ℕ) (t : Bool) → t ≡ true → length (cond t [] (b ∷ first_line bs)) ≡ 0
ten_first b bs true e = refl
ten_first b bs false e = absurd (true≢false (sym e))

ten_later : (b n : ℕ) (bs : List ℕ) (t : Bool) → (t ≡ true → ⊥) → length (first_line bs) ≡ n → length (cond t [] (b ∷ first_line bs)) ≡ suc n
ten_later b n bs true e h = absurd (e refl)
ten_later b n bs false e h = ap suc h

found : (p : List ℕ) (k : ℕ) → k < length p → Nowhere (Passes (is_byte 10) p) 0 k → Passes (is_byte 10) p k → length (first_line p) ≡ k
found [] k below none here = absurd (omega arith)
found (b ∷ bs) zero below none here = ten_first b bs (eqb b 10) here
found (b ∷ bs) (suc k) below none here =
    ten_later b k bs (eqb b 10) (none 0 (omega arith) (omega arith)) (found bs k (omega arith) (λ j low high. none (suc j) (omega arith) (omega arith)) here)

missed : (p : List ℕ) → Nowhere (Passes (is_byte 10) p) 0 (length p) → length (first_line p) ≡ length p
missed [] none = refl
missed (b ∷ bs) none = ten_later b (length bs) bs (eqb b 10) (none 0 (omega arith) (omega arith)) (missed bs (λ j low high. none (suc j) (omega arith) (omega arith)))

pub searched : (p : List ℕ) (at : Option ℕ) → IsFirstByte (is_byte 10) p at → unwrap_or at (length p) ≡ length (first_line p)
searched p None none = sym (missed p none)
searched p (Some k) h = sym (found p k h.0.high h.0.before h.1)

-- a reader at its end hands out a last line that has no 10
last_by : (e : Bool) (p : List ℕ) (a f r k : Bool) (left : Option (List ℕ)) (size : ℕ) → e ≡ true → size ≡ length (first_line p) → length p ≤ size → 0 < length p → size ≤ 4096
    → IfSome (cond e (Some p) (prepend_known p left))
    (λ bytes. HandsLine bytes (record { pending = drop size p; line = strip_last 13 (take size p); asked = a; found = f; refused = r; ended = e; closed = k }) left)
last_by true p a f r k left size at_end size_is all some short =
    record {
      some = some;
      short = omega arith;
      line = ap (strip_last 13) (line_front p size size_is);
      rest = ap Some (drop_all size p all ∙ sym (drop_all (size + 1) p (omega arith)) ∙ line_behind p size size_is);
      whole = λ going. absurd (true≢false going);
    }
last_by false p a f r k left size at_end size_is all some short = absurd (true≢false (sym at_end))

pub hands_last : (old : Reading) (left : Option (List ℕ)) (size : ℕ) → old.ended ≡ true → size ≡ length (first_line old.pending) → length old.pending ≤ size → 0 < length old.pending → size ≤ 4096
    → IfSome (input_of old left) (λ bytes. HandsLine bytes (record old { pending = drop size old.pending; line = strip_last 13 (take size old.pending) }) left)
hands_last old left size at_end size_is all some short = last_by old.ended old.pending old.asked old.found old.refused old.closed left size at_end size_is all some short

-- ---- the size that a reader keeps

-- it is that of the first line of what is held
pub record SizesHeld (start end size : ℕ) (pending : List ℕ) : Type 0 where
  pub line : size ≡ length (first_line pending)
  pub all : length pending ≡ end - start

pub sizes_held : (bytes : List ℕ) (start end size : ℕ) (pending : List ℕ) → slice_range bytes start end ≡ pending
    → size ≡ length (first_line (slice_range bytes start end)) → start ≤ end → end ≤ length bytes → SizesHeld start end size pending
sizes_held bytes start end size pending held line ordered within = record {
  line = line ∙ ap (λ l. length (first_line l)) held;
  all = sym (ap length held) ∙ length_part bytes start end within ordered;
}

-- ---- a read

-- what a read left between two places of a buffer is what the reader gives from then on
pub input_kept : (old : Reading) (left left' : Option (List ℕ)) (held bytes whole : List ℕ) (start end : ℕ) (ended : Bool) → held ≡ old.pending → old.ended ≡ false → whole ≡ bytes
    → Keeps (prepend_known held left) (cond ended (Some (slice_range bytes start end)) (prepend_known (slice_range bytes start end) left'))
    → Keeps (input_of old left) (cond ended (Some (slice_range whole start end)) (prepend_known (slice_range whole start end) left'))
input_kept old left left' held bytes whole start end ended is going same kept = rw (going, same, ← is) kept

-- a line that was copied stays
pub line_kept : (copied : Bool) (n : ℕ) (bytes whole other held line : List ℕ) → copied ≡ true → whole ≡ bytes → take n bytes ≡ held → held ≡ line → cond copied (take n whole) other ≡ line
line_kept copied n bytes whole other held line done same is was = rw (done, same) (is ∙ was)

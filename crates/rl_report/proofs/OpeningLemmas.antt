-- How the search for the separator passes lines.
use Rattle.std.proofs.Common.{◌≡◌, ℕ, ◌+◌, ◌-◌, ◌<◌, ◌≤◌, Bool, true, false, ◌&&◌, cond, eqb, List, [], ◌∷◌, ◌++◌, Some, None, length}
use Rattle.std.proofs.Common.{take, drop, refl, sym, ap, ◌∙◌, subst, append_assoc, append-nil, length-append, codes, arith}
use Rattle.std.proofs.lemmas.Bool.{true≢false}
use Rattle.std.proofs.lemmas.List.{take_all, take_at, drop_all, length-take-le}
use Rattle.std.proofs.lemmas.Slice.Eq.{bytes_eq-Decides}
use Rattle.std.specs.Io.BufRead.{ends_with_byte}
use Rattle.std.specs.Io.BufRead.{strip_last}
use Rattle.rl_report.specs.declared.opening.Part.{Part}
use Rattle.rl_report.specs.declared.opening.Part.TheVariants.{Separator, Text, End}
use Rattle.rl_report.specs.Opening.{is_separator, separator_from, IsPart, BeginsWithText}
use Rattle.rl_report.specs.Lines.{first_line, after_line}
use Rattle.rl_report.proofs.LineLemmas.{ends_whole, longer}

-- a byte that begins no separator is passed
step_by : (at b : ℕ) (bs : List ℕ) (t : Bool) → t ≡ false → cond t (Some at) (separator_from (at + 1) (eqb b 10) bs) ≡ separator_from (at + 1) (eqb b 10) bs
step_by at b bs true e = absurd (true≢false e)
step_by at b bs false e = refl

pub step : (at b : ℕ) (starts : Bool) (bs : List ℕ) → (starts && is_separator (first_line (b ∷ bs))) ≡ false → separator_from at starts (b ∷ bs) ≡ separator_from (at + 1) (eqb b 10) bs
step at b starts bs e = step_by at b bs (starts && is_separator (first_line (b ∷ bs))) e

-- a byte of a line that has no 10
no_ten_by : (b : ℕ) (bs : List ℕ) (t : Bool) → cond t [] (b ∷ first_line bs) ≡ b ∷ bs → (t ≡ false) × (first_line bs ≡ bs)
no_ten_by b bs true h = absurd (omega (arith, ap length h))
no_ten_by b bs false h = (refl, cc)

pub no_ten : (b : ℕ) (bs : List ℕ) → first_line (b ∷ bs) ≡ b ∷ bs → (eqb b 10 ≡ false) × (first_line bs ≡ bs)
no_ten b bs h = no_ten_by b bs (eqb b 10) h

-- the rest of a line is passed
pub skip : (at : ℕ) (line rest : List ℕ) → first_line line ≡ line → separator_from at false (line ++ rest) ≡ separator_from (at + length line) false rest
skip at [] rest h = ap (λ n. separator_from n false rest) (let e : at ≡ at + 0 = omega arith in e)
skip at (b ∷ bs) rest h =
    let t = no_ten b bs h in
    step at b false (bs ++ rest) refl ∙ ap (λ s. separator_from (at + 1) s (bs ++ rest)) t.0 ∙ skip (at + 1) bs rest t.1
    ∙ ap (λ n. separator_from n false rest) (let e : at + 1 + length bs ≡ at + length (b ∷ bs) = omega arith in e)

-- a line and its 10 are passed, where they aren't the separator
pub passes_line : (at : ℕ) (starts : Bool) (line rest : List ℕ) → first_line line ≡ line → first_line (line ++ 10 ∷ rest) ≡ line → (starts && is_separator line) ≡ false
    → separator_from at starts (line ++ 10 ∷ rest) ≡ separator_from (at + (length line + 1)) true rest
passes_line at starts [] rest whole first none =
    step at 10 starts rest none ∙ ap (λ n. separator_from n true rest) (let e : at + 1 ≡ at + (0 + 1) = omega arith in e)
passes_line at starts (b ∷ bs) rest whole first none =
    let t = no_ten b bs whole in
    step at b starts (bs ++ 10 ∷ rest) (subst (λ l. (starts && is_separator l) ≡ false) (sym first) none)
    ∙ ap (λ s. separator_from (at + 1) s (bs ++ 10 ∷ rest)) t.0 ∙ skip (at + 1) bs (10 ∷ rest) t.1 ∙ step (at + 1 + length bs) 10 false rest refl
    ∙ ap (λ n. separator_from n true rest) (let e : at + 1 + length bs + 1 ≡ at + (length (b ∷ bs) + 1) = omega arith in e)

first_alone : (b : ℕ) (bs : List ℕ) (t : Bool) → (first_line (first_line bs) ≡ first_line bs) → eqb b 10 ≡ t → first_line (cond t [] (b ∷ first_line bs)) ≡ cond t [] (b ∷ first_line bs)
first_alone b bs true h e = refl
first_alone b bs false h e = rw e (ap (λ l. b ∷ l) h)

pub first_line_first_line : (bs : List ℕ) → first_line (first_line bs) ≡ first_line bs
first_line_first_line [] = refl
first_line_first_line (b ∷ bs) = first_alone b bs (eqb b 10) (first_line_first_line bs) refl

-- a part of a line is passed, where no separator can begin there
pub passes_part : (at : ℕ) (starts : Bool) (p rest : List ℕ) → 0 < length p → first_line p ≡ p → (starts && is_separator (first_line (p ++ rest))) ≡ false
    → separator_from at starts (p ++ rest) ≡ separator_from (at + length p) false rest
passes_part at starts [] rest some whole none = absurd (omega arith)
passes_part at starts (b ∷ bs) rest some whole none =
    let t = no_ten b bs whole in
    step at b starts (bs ++ rest) none ∙ ap (λ s. separator_from (at + 1) s (bs ++ rest)) t.0 ∙ skip (at + 1) bs rest t.1
    ∙ ap (λ n. separator_from n false rest) (let e : at + 1 + length bs ≡ at + length (b ∷ bs) = omega arith in e)

-- nothing of a last line begins a separator
pub none_in_last : (at : ℕ) (starts : Bool) (p : List ℕ) → first_line p ≡ p → (starts && is_separator p) ≡ false → separator_from at starts p ≡ None
none_in_last at starts [] whole none = refl
none_in_last at starts (b ∷ bs) whole none =
    let e : separator_from at starts ((b ∷ bs) ++ []) ≡ separator_from (at + length (b ∷ bs)) false [] =
    passes_part at starts (b ∷ bs) [] (omega arith) whole (subst (λ l. (starts && is_separator l) ≡ false) (sym (ap first_line (append-nil (b ∷ bs)) ∙ whole)) none) in
    subst (λ l. separator_from at starts l ≡ None) (append-nil (b ∷ bs)) e

-- ---- the cases of a part

not_true : (b : Bool) → (b ≡ true → ⊥) → b ≡ false
not_true true h = absurd (h refl)
not_true false h = refl

strip_by : (line : List ℕ) (t : Bool) → length line ≤ length (cond t (take (length line - 1) line) line) + 1
strip_by line true = omega (arith, length-take-le (length line - 1) line (omega arith))
strip_by line false = omega arith

strip_shorter : (line : List ℕ) → length line ≤ length (strip_last 13 line) + 1
strip_shorter line = strip_by line (ends_with_byte 13 line)

-- no separator is longer than four bytes
pub longer_is_none : (line : List ℕ) → 4 < length line → is_separator line ≡ false
longer_is_none line many =
    let d = bytes_eq-Decides (strip_last 13 line) (codes "---") in
    not_true (is_separator line) (λ yes. let e : strip_last 13 line ≡ codes "---" = d.0 yes in absurd (omega (arith, ap length e, strip_shorter line)))

-- a line and its 10
first_ten_by : (b : ℕ) (bs rest : List ℕ) (t : Bool) → eqb b 10 ≡ t → first_line (bs ++ 10 ∷ rest) ≡ bs → t ≡ false → cond t [] (b ∷ first_line (bs ++ 10 ∷ rest)) ≡ b ∷ bs
first_ten_by b bs rest true e h none = absurd (true≢false none)
first_ten_by b bs rest false e h none = ap (λ l. b ∷ l) h

pub first_then_ten : (line rest : List ℕ) → first_line line ≡ line → first_line (line ++ 10 ∷ rest) ≡ line
first_then_ten [] rest h = refl
first_then_ten (b ∷ bs) rest h = let t = no_ten b bs h in first_ten_by b bs rest (eqb b 10) refl (first_then_ten bs rest t.1) t.0

pub front_is : (line after held : List ℕ) (size : ℕ) → held ≡ line ++ 10 ∷ after → length line ≡ size → take (size + 1) held ≡ line ++ 10 ∷ []
front_is line after held size whole len =
    let split : held ≡ (line ++ 10 ∷ []) ++ after = whole ∙ sym (append_assoc line (10 ∷ []) after) in
    let count : length (line ++ 10 ∷ []) ≡ size + 1 = length-append line (10 ∷ []) ∙ ap (λ n. n + 1) len in
    ap (take (size + 1)) split ∙ take_at (line ++ 10 ∷ []) after (size + 1) count

both : (a b : Bool) → (a && b) ≡ true → (a ≡ true) × (b ≡ true)
both true b h = (refl, h)
both false b h = absurd (true≢false (sym h))

none_by : (starts : Bool) (line : List ℕ) → (starts ≡ true → 4 < length line) → (starts && is_separator line) ≡ false
none_by true line many = longer_is_none line (many refl)
none_by false line many = refl

-- of either answer
pub by_answer : (b : Bool) (P : Type 0) → (b ≡ true → P) → (b ≡ false → P) → P
by_answer true P on_true on_false = on_true refl
by_answer false P on_true on_false = on_false refl

module _ (held : List ℕ) (starts ended : Bool) (size : ℕ) (r : Bool) (part : Part)
    (line : take size held ≡ first_line held) (within : size ≤ length held) (is : r ≡ (starts && is_separator (take size held))) where
  len_line : length (first_line held) ≡ size
  len_line = ap length (sym line) ∙ length-take-le size held within

  is' : r ≡ (starts && is_separator (first_line held))
  is' = is ∙ ap (λ l. starts && is_separator l) line

  found_here : r ≡ true → (starts ≡ true) × (is_separator (first_line held) ≡ true)
  found_here e = both starts (is_separator (first_line held)) (sym is' ∙ e)

  pub part_of_whole : size < length held → drop (size + 1) held ≡ after_line held → (r ≡ true → part ≡ Separator (size + 1)) → (r ≡ false → part ≡ Text (size + 1) true) → IsPart held starts ended part
  part_of_whole more rest on_true on_false =
      by_answer r (IsPart held starts ended part)
      (λ e. let f = found_here e in subst (IsPart held starts ended) (sym (on_true e))
      (record { at_start = f.0; line = f.1; rest = rest; within = omega arith; whole = λ _. omega (arith, len_line) }))
      (λ e. subst (IsPart held starts ended) (sym (on_false e))
      (record { some = omega arith; within = omega arith; passed = λ at more'. passed_whole at more' more (sym is' ∙ e) rest }))
    where
      passed_whole : (at : ℕ) (more' : List ℕ) → size < length held → (starts && is_separator (first_line held)) ≡ false → drop (size + 1) held ≡ after_line held
          → separator_from at starts (take (size + 1) held ++ more') ≡ separator_from (at + (size + 1)) true more'
      passed_whole at more' more none rest =
          let whole = ends_whole held (omega (arith, len_line)) in
          let front : take (size + 1) held ≡ first_line held ++ 10 ∷ [] = front_is (first_line held) (after_line held) held size whole len_line in
          ap (λ l. separator_from at starts (l ++ more')) front
          ∙ ap (separator_from at starts) (append_assoc (first_line held) (10 ∷ []) more')
          ∙ passes_line at starts (first_line held) more' (first_line_first_line held) (first_then_ten (first_line held) more' (first_line_first_line held)) none
          ∙ ap (λ n. separator_from (at + (n + 1)) true more') len_line

  pub part_of_last : length held ≤ size → ended ≡ true → drop (size + 1) held ≡ after_line held → (r ≡ true → part ≡ Separator size) → (r ≡ false → part ≡ End) → IsPart held starts ended part
  part_of_last all at_end rest on_true on_false =
      let same : first_line held ≡ held = sym line ∙ take_all size held all in
      by_answer r (IsPart held starts ended part)
      (λ e. let f = found_here e in subst (IsPart held starts ended) (sym (on_true e))
      (record {
        at_start = f.0;
        line = f.1;
        rest = drop_all size held all ∙ sym (drop_all (size + 1) held (omega arith))
            ∙ rest;
        within = within;
        whole = λ going. absurd (true≢false (sym at_end ∙ going));
      }))
      (λ e. subst (IsPart held starts ended) (sym (on_false e))
      (record { at_end = at_end; none = λ at. none_in_last at starts held same (ap (λ l. starts && is_separator l) (sym same) ∙ sym is' ∙ e) }))

  pub part_of_text : length held ≤ size → 0 < size → (starts ≡ true → 4 < size) → BeginsWithText held starts size false
  part_of_text all some many =
      let same : first_line held ≡ held = sym line ∙ take_all size held all in
      let size_is : length held ≡ size = omega (arith, within) in
      record {
        some = some;
        within = within;
        passed = λ at rest. ap (λ l. separator_from at starts (l ++ rest)) (take_all size held all)
            ∙ passes_part at starts held rest (omega arith) same (none_by starts (first_line (held ++ rest)) (λ e. omega (arith, many e, longer held rest, ap length same)))
            ∙ ap (λ n. separator_from (at + n) false rest) size_is;
      }

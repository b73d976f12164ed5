-- Which line answers, by what is held.
use Rattle.std.proofs.Common.{
  ◌≡◌,
  ℕ,
  zero,
  suc,
  Ok,
  min,
  take,
  drop,
  take_at,
  length-take-le,
  take-append-drop,
  ◌+◌,
  ◌<◌,
  ◌≤◌,
  List,
  [],
  ◌∷◌,
  ◌++◌,
  Bool,
  true,
  false,
  cond,
  Some,
  None,
  IfSome,
  IfNone,
  length,
  refl,
  sym,
  ap,
  ◌∙◌,
  subst,
  length-append,
  append-nil,
  append_assoc,
  ◌-◌,
  ◌^◌,
  arith,
}
use Rattle.std.specs.declared.option.Option.{Option}
use Rattle.std.specs.Io.KnownBytes.{Keeps, IsAtEnd, Consumes}
use Rattle.std.proofs.KnownBytes.{prepend_known-read}
use Rattle.rl_bus.specs.declared.op.Answer.{Answer}
use Rattle.rl_report.specs.Lines.{first_line, after_line, whole_lines}
use Rattle.rl_report.proofs.LineLemmas.{ends_whole, whole_first, whole_none, first_of_more, after_of_more, longer, searched, line_front}
use Rattle.std.proofs.lemmas.List.{take_all, drop_all}
use Rattle.memchr.specs.Find.{IsFirstByte, is_byte}
use Rattle.rl_link.specs.declared.answer.Said.{Said}
use Rattle.rl_link.specs.declared.answer.Cause.{Cause}
use Rattle.rl_link.specs.declared.answer.Cause.TheVariants.{Unsent, Unread, Closed, TooLong, TooMany, Unasked, Unclear, TooWide, Backdoor, Memory}
use Rattle.rl_link.specs.Causes.{IsCauseOfLine, IsCauseOfReading}
use Rattle.rl_link.specs.Answers.{bare, is_passed, said_in, answer_to, done_by}
use Rattle.rl_link.specs.Coming.{coming, HasLine, IsLine, behind_passed, answer_from, Skips, Takes, TakesLines, Hears, Answers, IsDone}

lines_whole : (p : List ℕ) → HasLine p → whole_lines p ≡ first_line p ∷ whole_lines (after_line p)
lines_whole p h = ap whole_lines (ends_whole p h) ∙ whole_first p (after_line p)

-- a line in front that says nothing is passed over
passes : (p : List ℕ) → HasLine p → is_passed (bare (first_line p)) ≡ true → answer_from (after_line p) ≡ answer_from p
unfolding answer_from
passes p h e = sym (ap (λ l. behind_passed l p) (lines_whole p h) ∙ ap (λ b. cond b (behind_passed (whole_lines (after_line p)) (after_line p)) p) e)

-- and another one is the answer
pub stays : (p : List ℕ) → HasLine p → is_passed (bare (first_line p)) ≡ false → answer_from p ≡ p
unfolding answer_from
stays p h e = ap (λ l. behind_passed l p) (lines_whole p h) ∙ ap (λ b. cond b (behind_passed (whole_lines (after_line p)) (after_line p)) p) e

-- and where there is no line, there is none
pub none_here : (p : List ℕ) → first_line p ≡ p → HasLine (answer_from p) → ⊥
unfolding answer_from
none_here p h line =
    let none : whole_lines p ≡ [] = whole_none p h in
    omega (arith, ap length h, subst HasLine (ap (λ l. behind_passed l p) none) line)

-- more bytes behind it
whole_more : (p more : List ℕ) → HasLine p → HasLine (p ++ more)
whole_more p more h = omega (arith, ap length (first_of_more p more h), length-append p more)

pub has_line : (p : List ℕ) (len : ℕ) → IsLine p len → HasLine p
has_line p len h = omega (arith, h.is, h.whole)

pub after_shorter : (p : List ℕ) → HasLine p → length (after_line p) < length p
after_shorter p h = omega (arith, ap length (ends_whole p h), length-append (first_line p) (10 ∷ after_line p))

-- ---- what was passed over

pub skips_none : (a : Option (List ℕ)) → Skips a a
skips_none None = tt
skips_none (Some bytes) = (bytes, refl, refl)

pub skips_kept : (a b : Option (List ℕ)) → Keeps a b → Skips a b
skips_kept None b h = tt
skips_kept (Some bytes) None h = absurd h
skips_kept (Some bytes) (Some rest) h = (rest, refl, ap answer_from h)

pub skips_more : (a b c : Option (List ℕ)) → Skips a b → Skips b c → Skips a c
skips_more None b c p q = tt
skips_more (Some bytes) None c p q = absurd (cc)
skips_more (Some bytes) (Some rest) c (mid, e, f) (last, g, h) = (last, g, h ∙ ap answer_from (cc) ∙ f)

pub skips_line : (held : List ℕ) (left : Option (List ℕ)) → HasLine held → is_passed (bare (first_line held)) ≡ true
    → Skips (coming held left) (coming (after_line held) left)
skips_line held None h e = tt
skips_line held (Some more) h e =
    let first = first_of_more held more h in
    (after_line held ++ more, refl, ap answer_from (sym (after_of_more held more h)) ∙ passes (held ++ more) (whole_more held more h) (ap (λ l. is_passed (bare l)) first ∙ e))

-- ---- how many lines were taken

pub takes_kept : (n : ℕ) (a b : Option (List ℕ)) → Keeps a b → Takes n n a b
takes_kept n None b h = tt
takes_kept n (Some bytes) None h = absurd h
takes_kept n (Some bytes) (Some rest) h =
    record { taken = []; rest = rest; is_left = refl; split = ap whole_lines (sym h); counted = λ room. omega arith }

pub takes_none : (n : ℕ) (a : Option (List ℕ)) → Takes n n a a
takes_none n None = tt
takes_none n (Some bytes) = takes_kept n (Some bytes) (Some bytes) refl

pub takes_line : (n : ℕ) (held : List ℕ) (left : Option (List ℕ)) → HasLine held
    → Takes n (min (n + 1) (2 ^ 64 - 1)) (coming held left) (coming (after_line held) left)
takes_line n held None h = tt
takes_line n held (Some more) h = record {
  taken = first_line (held ++ more) ∷ [];
  rest = after_line held ++ more;
  is_left = refl;
  split = lines_whole (held ++ more) (whole_more held more h)
      ∙ ap (λ l. first_line (held ++ more) ∷ whole_lines l) (after_of_more held more h);
  counted = λ room. omega (arith, room);
}

takes_both : (l m n : ℕ) (bytes mid : List ℕ) (new : Option (List ℕ)) → TakesLines l m bytes (Some mid) → TakesLines m n mid new
    → TakesLines l n bytes new
takes_both l m n bytes mid new p q =
    let same : p.rest ≡ mid = cc in
    let size = length-append p.taken q.taken in
    record {
      taken = p.taken ++ q.taken;
      rest = q.rest;
      is_left = q.is_left;
      split = p.split ∙ ap (λ r. p.taken ++ whole_lines r) same ∙ ap (λ r. p.taken ++ r) q.split
          ∙ sym (append_assoc p.taken q.taken (whole_lines q.rest));
      counted = λ room.
          let first : m ≡ l + length p.taken = p.counted (omega (arith, room, size)) in
          let second : n ≡ m + length q.taken = q.counted (omega (arith, room, size, first)) in
          omega (arith, size, first, second);
    }

pub takes_more : (l m n : ℕ) (a b c : Option (List ℕ)) → Takes l m a b → Takes m n b c → Takes l n a c
takes_more l m n None b c p q = tt
takes_more l m n (Some bytes) None c p q = absurd (cc)
takes_more l m n (Some bytes) (Some mid) c p q = takes_both l m n bytes mid c p q

-- one line more
pub takes_then_line : (l m : ℕ) (a : Option (List ℕ)) (held : List ℕ) (left : Option (List ℕ)) → Takes l m a (coming held left) → HasLine held
    → Takes l (min (m + 1) (2 ^ 64 - 1)) a (coming (after_line held) left)
takes_then_line l m a held left p h = takes_more l m (min (m + 1) (2 ^ 64 - 1)) a (coming held left) (coming (after_line held) left) p (takes_line m held left h)

-- ---- what was heard

hears_by : (bytes held more : List ℕ) → HasLine held → is_passed (bare (first_line held)) ≡ false → answer_from (held ++ more) ≡ answer_from bytes
    → Hears bytes (said_in (first_line held)) (Some (held ++ more))
hears_by bytes held more h e same =
    let first = first_of_more held more h in
    let here : answer_from bytes ≡ held ++ more = sym same ∙ stays (held ++ more) (whole_more held more h) (ap (λ l. is_passed (bare l)) first ∙ e) in
    record {
      rest = ap Some (sym here);
      whole = subst HasLine (sym here) (whole_more held more h);
      says = ap said_in (sym first) ∙ ap (λ l. said_in (first_line l)) (sym here);
    }

pub hears_here : (a : Option (List ℕ)) (held : List ℕ) (left : Option (List ℕ)) → Skips a (coming held left) → HasLine held → is_passed (bare (first_line held)) ≡ false
    → IfSome a (λ bytes. Hears bytes (said_in (first_line held)) (coming held left))
hears_here None held left s h e = tt
hears_here (Some bytes) held None (rest, g, same) h e = absurd (cc)
hears_here (Some bytes) held (Some more) (rest, g, same) h e = hears_by bytes held more h e (ap answer_from (cc) ∙ same)

-- what was passed over before makes no difference
pub heard_after : (a b new : Option (List ℕ)) (said : Said) → Skips a b → IfSome b (λ bytes. Hears bytes said new) → IfSome a (λ bytes. Hears bytes said new)
heard_after None b new said s h = tt
heard_after (Some bytes) None new said (rest, e, same) h = absurd (cc)
heard_after (Some bytes) (Some other) new said (rest, e, same) h =
    let there : answer_from other ≡ answer_from bytes = ap answer_from (cc) ∙ same in
    record { rest = h.rest ∙ ap Some there; whole = subst HasLine there h.whole; says = h.says ∙ ap (λ l. said_in (first_line l)) there }

-- ---- what was taken

taken : (held : List ℕ) (left : Option (List ℕ)) (rest : List ℕ) → coming held left ≡ Some rest → HasLine held → coming (after_line held) left ≡ Some (after_line rest)
taken held None rest e h = absurd (cc)
taken held (Some more) rest e h =
    let same : held ++ more ≡ rest = cc in
    ap Some (sym (after_of_more held more h) ∙ ap after_line same)

pub answers_here : (a : Option (List ℕ)) (held : List ℕ) (left : Option (List ℕ)) (said : Said) (write : Bool) (width : ℕ) (answer : Answer)
    → IfSome a (λ bytes. Hears bytes said (coming held left)) → HasLine held → answer_to write width said ≡ Ok answer
    → IfSome a (λ bytes. Answers write width bytes answer (coming (after_line held) left))
answers_here None held left said write width answer h line e = tt
answers_here (Some bytes) held left said write width answer h line e =
    record { rest = taken held left _ h.rest line; whole = h.whole; says = ap (answer_to write width) (sym h.says) ∙ e }

pub done_here : (a : Option (List ℕ)) (held : List ℕ) (left : Option (List ℕ)) (said : Said) (done : Bool)
    → IfSome a (λ bytes. Hears bytes said (coming held left)) → HasLine held
    → done_by said ≡ Ok done → IfSome a (λ bytes. IsDone bytes done (coming (after_line held) left))
done_here None held left said done h line e = tt
done_here (Some bytes) held left said done h line e =
    record { rest = taken held left _ h.rest line; whole = h.whole; says = ap done_by (sym h.says) ∙ e }

-- ---- what a source that goes by lines gives

pub gives_front : (a b : Option (List ℕ)) (held to buf : List ℕ) (n : ℕ) → Keeps a (coming held b) → n ≤ length held → to ≡ take n held ++ drop n buf
    → (n ≡ 0 → IsAtEnd b × (length held ≡ 0))
    → Consumes a (coming (drop n held) b) (take n to) × (n ≡ 0 → 0 < length to → IsAtEnd (coming (drop n held) b))
gives_front a b held to buf n kept fits copied none =
    let front : take n to ≡ take n held = ap (take n) copied ∙ take_at _ _ n (length-take-le n held fits) in
    let r = prepend_known-read a b held (drop n held) (take n held) (n ≡ 0) kept (sym (take-append-drop n held))
    (λ z. (drop_all n held (omega (arith, (none z).1)), (none z).0)) in
    (subst (Consumes a (coming (drop n held) b)) (sym front) r.0, λ z room. r.1 z)

pub none_given : (held buf size n : ℕ) → n ≡ min (min held buf) size → 0 < buf → (0 < held → 0 < size) → n ≡ 0 → held ≡ 0
none_given zero buf size n e some goes none = refl
none_given (suc held) buf size n e some goes none = let s = goes (omega arith) in absurd (omega arith)

-- ---- how reading ends

pub ends_here : (held : List ℕ) (left : Option (List ℕ)) → first_line held ≡ held → IsAtEnd left → IfSome (coming held left) (λ bytes. first_line bytes ≡ bytes)
ends_here held None h e = tt
ends_here held (Some more) h e = subst (λ l. first_line l ≡ l) (sym (ap (λ m. held ++ m) e ∙ append-nil held)) h

pub ends_still : (old new : List ℕ) (left : Option (List ℕ)) → new ≡ old → first_line old ≡ old → IsAtEnd left → IfSome (coming new left) (λ bytes. first_line bytes ≡ bytes)
ends_still old new left same h e = ends_here new left (ap first_line same ∙ h ∙ sym same) e

pub long_here : (held : List ℕ) (left : Option (List ℕ)) → 4096 < length (first_line held) → IfSome (coming held left) (λ bytes. 4096 < length (first_line bytes))
long_here held None h = tt
long_here held (Some more) h = omega (arith, longer held more)

-- ---- a search for the line's end

pub end_some : (p : List ℕ) (at : Option ℕ) → IsFirstByte (is_byte 10) p at → IfSome at (λ len. (len ≡ length (first_line p)) × (len < length p))
end_some p None h = tt
end_some p (Some k) h = (searched p (Some k) h, h.0.high)

pub end_none : (p : List ℕ) (at : Option ℕ) → IsFirstByte (is_byte 10) p at → IfNone at (first_line p ≡ p)
end_none p None h = sym (line_front p (length p) (searched p None h)) ∙ take_all (length p) p (omega arith)
end_none p (Some k) h = tt

-- ---- why it wasn't read

pub line_reads : (cause : Cause) → IsCauseOfLine cause → IsCauseOfReading cause
line_reads Unsent is = absurd is
line_reads Unread is = tt
line_reads Closed is = tt
line_reads TooLong is = tt
line_reads TooMany is = absurd is
line_reads Unasked is = absurd is
line_reads Unclear is = absurd is
line_reads TooWide is = absurd is
line_reads Backdoor is = absurd is
line_reads Memory is = absurd is

pub line_isnt_many : (cause : Cause) → IsCauseOfLine cause → cause ≡ TooMany → ⊥
line_isnt_many cause is e = subst IsCauseOfLine e is

-- For `grind`: what was skipped and taken until a line stood in front, and until it was heard.
pub ruleset by_reading = (line_reads, line_isnt_many, skips_more, skips_kept, has_line, takes_more, takes_kept)

pub ruleset by_hearing = (skips_more, skips_none, heard_after, takes_more)

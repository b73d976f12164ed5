-- Why a link broke, and what was held before a request.
use Rattle.std.proofs.Common.{◌≡◌, ℕ, ◌+◌, ◌-◌, ◌^◌, ◌<◌, ◌≤◌, min, List, [], ◌++◌, Some, None, Result, Ok, Err, OnErr, IfErr, IfSome, length, refl, sym, ap, ◌∙◌, subst, append-nil, Bool, true, false, cond}
use Rattle.std.specs.Prelude.{IsErr, IsErrAnd, nat_lt}
use Rattle.std.specs.declared.option.Option.{Option}
use Rattle.rl_bus.specs.Causes.{Rose}
use Rattle.rl_report.specs.Lines.{first_line}
use Rattle.rl_report.specs.declared.sink.Sink.{Ghosts as Sink}
use Rattle.rl_report.specs.declared.source.Source.{Ghosts as Source}
use Rattle.rl_link.specs.declared.answer.Cause.{Cause}
use Rattle.rl_link.specs.declared.answer.Cause.TheVariants.{Unsent, Unread, Closed, TooLong, TooMany, Unasked, Unclear, TooWide, Backdoor, Memory}
use Rattle.rl_bus.specs.declared.op.Answer.{Answer}
use Rattle.rl_link.specs.declared.answer.Said.{Said}
use Rattle.rl_link.specs.declared.answer.Said.TheVariants as says
use Rattle.rl_link.specs.declared.talk.Talk.{Talk}
use Rattle.rl_link.specs.Answers.{bare, is_passed, said_in, answer_to, done_by, success}
use Rattle.rl_link.specs.Causes.{IsCauseOfAsking, IsCauseOfBreak, Misanswers}
use Rattle.rl_link.specs.Coming.{coming, answer_from, HasLine, HoldsAnswer, Hears, Skips}
use Rattle.rl_link.proofs.ComingLemmas.{none_here, stays}

-- ---- what was held

-- what is an answer among these bytes is one among those that are left of them
held_on : (held here : List ℕ) → Skips (coming held (Some [])) (coming here (Some [])) → answer_from here ≡ answer_from held
held_on held here (rest, is, same) =
    let left : here ++ [] ≡ rest = cc in
    ap answer_from (sym (append-nil here)) ∙ ap answer_from left ∙ same ∙ ap answer_from (append-nil held)

-- no line is left among them
pub quiet : (held here : List ℕ) → ((left : Option (List ℕ)) → Skips (coming held left) (coming here left)) → first_line here ≡ here
    → HoldsAnswer held → ⊥
quiet held here skips none h =
    none_here here none (subst HasLine (sym (held_on held here (skips (Some [])))) h)

-- the line in front is an answer
pub spoken : (held here : List ℕ) → ((left : Option (List ℕ)) → Skips (coming held left) (coming here left)) → HasLine here
    → is_passed (bare (first_line here)) ≡ false → HoldsAnswer held
spoken held here skips line says =
    subst HasLine (sym (stays here line says) ∙ held_on held here (skips (Some []))) line

-- ---- why it broke

module _ {S K A : Type 0} (s : Source S) (k : Sink K) (answer : Said → Result A Cause) (old new : Talk S K) where
  -- what the call that asked answered
  abbrev gave : Cause → Result Said Cause
  gave cause = Err cause

  -- no answer came
  pub unanswered : (cause : Cause) → IsCauseOfAsking cause
      → (gave cause ≡ gave Unasked → HoldsAnswer old.held)
      → (gave cause ≡ gave Unsent → Rose (k.faults old.sink) (k.faults new.sink))
      → (gave cause ≡ gave Unread → Rose (s.faults old.source) (s.faults new.source))
      → (gave cause ≡ gave Closed → IfSome (coming new.held (s.left new.source)) (λ bytes. first_line bytes ≡ bytes))
      → (gave cause ≡ gave TooLong → IfSome (coming new.held (s.left new.source)) (λ bytes. 4096 < length (first_line bytes)))
      → (gave cause ≡ gave TooMany → min (old.lines + 10000) (2 ^ 64 - 1) ≤ new.lines)
      → IsCauseOfBreak s k answer old new cause
  unanswered Unsent is held unsent unread closed long many = unsent refl
  unanswered Unread is held unsent unread closed long many = unread refl
  unanswered Closed is held unsent unread closed long many = closed refl
  unanswered TooLong is held unsent unread closed long many = long refl
  unanswered TooMany is held unsent unread closed long many = many refl
  unanswered Unasked is held unsent unread closed long many = held refl
  unanswered Unclear is held unsent unread closed long many = absurd is
  unanswered TooWide is held unsent unread closed long many = absurd is
  unanswered Backdoor is held unsent unread closed long many = absurd is
  unanswered Memory is held unsent unread closed long many = absurd is

-- the answer that came is none that the request can have
pub misanswered : {A : Type 0} (answer : Said → Result A Cause) (a b : Option (List ℕ)) (said : Said) (cause : Cause)
    → IfSome a (λ bytes. Hears bytes said b) → answer said ≡ Err cause → IfSome a (λ bytes. Misanswers answer bytes cause b)
misanswered answer None b said cause h e = tt
misanswered answer (Some bytes) b said cause h e = record { rest = h.rest; whole = h.whole; says = ap answer (sym h.says) ∙ e }

fits_by : (b : Bool) (good : Answer) (cause : Cause) → cond b (Ok good) (Err TooWide) ≡ Err cause → cause ≡ TooWide
fits_by true good cause e = absurd (cc)
fits_by false good cause e = cc

-- an answer that a transfer can't have
pub by_answer : (write : Bool) (bytes : ℕ) (said : Said) (cause : Cause) → answer_to write bytes said ≡ Err cause → (P : Cause → Type 0)
    → (cause ≡ Unclear → P Unclear) → (cause ≡ TooWide → P TooWide) → P cause
by_answer true bytes says.Nothing cause e P u w = let is : cause ≡ Unclear = cc in subst P (sym is) (u is)
by_answer true bytes says.Done cause e P u w = absurd (cc)
by_answer true bytes (says.Word word) cause e P u w = let is : cause ≡ Unclear = cc in subst P (sym is) (u is)
by_answer true bytes says.Unknown cause e P u w = let is : cause ≡ Unclear = cc in subst P (sym is) (u is)
by_answer true bytes says.Error cause e P u w = absurd (cc)
by_answer true bytes says.Unable cause e P u w = absurd (cc)
by_answer true bytes says.Unclear cause e P u w = let is : cause ≡ Unclear = cc in subst P (sym is) (u is)
by_answer false bytes says.Nothing cause e P u w = let is : cause ≡ Unclear = cc in subst P (sym is) (u is)
by_answer false bytes says.Done cause e P u w = let is : cause ≡ Unclear = cc in subst P (sym is) (u is)
by_answer false bytes (says.Word word) cause e P u w =
    let is : cause ≡ TooWide = fits_by (nat_lt word (256 ^ bytes)) (success word) cause e in subst P (sym is) (w is)
by_answer false bytes says.Unknown cause e P u w = absurd (cc)
by_answer false bytes says.Error cause e P u w = absurd (cc)
by_answer false bytes says.Unable cause e P u w = absurd (cc)
by_answer false bytes says.Unclear cause e P u w = let is : cause ≡ Unclear = cc in subst P (sym is) (u is)

-- and one that anything else can't have
pub by_done : (said : Said) (cause : Cause) → done_by said ≡ Err cause → (P : Cause → Type 0) → (cause ≡ Unclear → P Unclear) → P cause
by_done says.Nothing cause e P u = let is : cause ≡ Unclear = cc in subst P (sym is) (u is)
by_done says.Done cause e P u = absurd (cc)
by_done (says.Word word) cause e P u = let is : cause ≡ Unclear = cc in subst P (sym is) (u is)
by_done says.Unknown cause e P u = let is : cause ≡ Unclear = cc in subst P (sym is) (u is)
by_done says.Error cause e P u = absurd (cc)
by_done says.Unable cause e P u = absurd (cc)
by_done says.Unclear cause e P u = let is : cause ≡ Unclear = cc in subst P (sym is) (u is)

-- what is said of its cause is said of the cause that `?` hands on
pub handed_on : {T : Type 0} (r : Result T Cause) (cause : Cause) (P : Cause → Type 0) → IsErr r × IsErrAnd r (λ c. c ≡ cause) → P cause → IfErr r P
handed_on (Ok x) cause P h p = tt
handed_on (Err c) cause P h p = subst P (sym h.1) p

-- What a link asks of its peer, and what it hears, is as its account tells.
use Rattle.std.proofs.Common.{◌≡◌, ℕ, ◌+◌, ◌-◌, ◌^◌, ◌<◌, ◌≤◌, min, Bool, not, if◌then◌else◌, List, length, Result, Ok, Err, OnOk, IfOk, IfErr, Option, None, Some, IfSome, IsNone, IsSome, is_some, IsTrue, IsFalse, refl, sym, ap, subst, ◌∙◌}
use Rattle.std.proofs.lemmas.Bool.{lt-ltb}
use Rattle.std.specs.Io.KnownBytes.{Appends}
use Rattle.rl_bus.specs.Account.{Request, Asks, Heard, IsAnswerTo, SendsPart, Speaks, answer_in, no_answer}
use Rattle.rl_bus.specs.Account as ask
use Rattle.rl_bus.specs.declared.op.Answer.{Answer}
use Rattle.rl_bus.specs.declared.op.BusOp.{BusOp}
use Rattle.rl_report.specs.Lines.{first_line, after_line}
use Rattle.rl_report.specs.Pieces.{AppendsFront, Puts}
use Rattle.rl_link.specs.declared.answer.Cause.{Cause}
use Rattle.rl_link.specs.declared.link.Link.{Link}
use Rattle.rl_link.specs.declared.link.Break.{Break}
use Rattle.rl_link.specs.Account.{account_of, answer_of, done_answer, reply_in, talk_of, with_rest}
use Rattle.rl_link.specs.Answers.{done_by, failure, said_in, success}
use Rattle.rl_link.specs.Coming.{Answers, IsDone, answer_from}
use Rattle.rl_link.specs.Peer.{OnlyTalks, TakesAnswer, TakesDone, broken_off, coming_to, counted}
use Rattle.rl_link.specs.Requests.{request_of}
use Rattle.rl_link.proofs.SentLemmas.{front_whole}

-- ---- what was heard

-- a whole line that answers is a reply
reply_is : (asked : Request) (bytes : List ℕ) (answer : Answer) → length (first_line (answer_from bytes)) < length (answer_from bytes)
    → answer_of asked (said_in (first_line (answer_from bytes))) ≡ Ok answer
    → reply_in asked bytes ≡ Some (answer, after_line (answer_from bytes))
reply_is asked bytes answer whole says =
    let from = answer_from bytes in
    ap (λ b. if b then with_rest (answer_of asked (said_in (first_line from))) (after_line from) else None)
    (lt-ltb (length (first_line from)) (length from) whole)
    ∙ ap (λ a. with_rest a (after_line from)) says

module _ {S K N M : Type 0} (left : S → Option (List ℕ)) (written : K → Option (List ℕ)) (old new : Link S K N M) where
  -- what its talk hears
  abbrev pub Hears : Request → Type 0
  Hears asked = IfSome (coming_to left old.talk) (λ bytes. Heard (talk_of left written old) asked bytes (coming_to left new.talk))

  pub heard_answer : (port : ℕ) (op : BusOp) (tag : ℕ) (answer : Answer) → TakesAnswer left old.talk new.talk op answer
      → Hears (ask.transfer port op tag answer)
  heard_answer port op tag answer h = by (coming_to left old.talk) h
    where
      by : (came : Option (List ℕ)) → IfSome came (λ bytes. Answers op.write op.bytes bytes answer (coming_to left new.talk))
          → IfSome came (λ bytes. Heard (talk_of left written old) (ask.transfer port op tag answer) bytes (coming_to left new.talk))
      by None a = tt
      by (Some bytes) a = record {
        answer = answer;
        rest = after_line (answer_from bytes);
        came = reply_is (ask.transfer port op tag answer) bytes answer a.whole a.says;
        given = refl;
        left_is = a.rest;
      }

  -- of a reset, or of a change
  heard_done : (asked : Request) (done : Bool) → ((bytes : List ℕ) → answer_of asked (said_in bytes) ≡ done_answer (done_by (said_in bytes)))
      → ((answer : Answer) → IsAnswerTo asked answer) → TakesDone left old.talk new.talk done → Hears asked
  heard_done asked done same any h = by (coming_to left old.talk) h
    where
      by : (came : Option (List ℕ)) → IfSome came (λ bytes. IsDone bytes done (coming_to left new.talk))
          → IfSome came (λ bytes. Heard (talk_of left written old) asked bytes (coming_to left new.talk))
      by None d = tt
      by (Some bytes) d = record {
        answer = if done then success 0 else failure;
        rest = after_line (answer_from bytes);
        came = reply_is asked bytes (if done then success 0 else failure) d.whole
            (same (first_line (answer_from bytes)) ∙ ap done_answer d.says);
        given = any (if done then success 0 else failure);
        left_is = d.rest;
      }

  pub heard_reset : (kind : ℕ) (done : Bool) → TakesDone left old.talk new.talk done → Hears (ask.reset kind)
  heard_reset kind done h = heard_done (ask.reset kind) done (λ bytes. refl) (λ answer. tt) h

  pub heard_hw : (field value : ℕ) (done : Bool) → TakesDone left old.talk new.talk done → Hears (ask.hw field value)
  heard_hw field value done h = heard_done (ask.hw field value) done (λ bytes. refl) (λ answer. tt) h

  -- ---- what was sent

  part_of : {a b : Option (List ℕ)} {xs : List ℕ} → AppendsFront a b xs → SendsPart a b xs
  part_of h = record { part = h.front; others = h.rest; split = h.split; sent = h.appended }

  not_going : (o : Option Break) → IsSome o → IsTrue (not (is_some o)) → ⊥
  not_going None some going = cc
  not_going (Some b) some going = cc

  has_broken : (o : Option Break) → IsFalse (not (is_some o)) → IsSome o
  has_broken None still = absurd (cc)
  has_broken (Some b) still = refl

  -- a link that isn't broken has sent the request, and heard the reply
  pub speaks_on : (asked : Request) → old.broken ≡ None → new.broken ≡ None → new.names ≡ old.names
      → Appends (written old.talk.sink) (written new.talk.sink) (request_of old.names asked) → Hears asked
      → Speaks (talk_of left written old) (talk_of left written new) asked
  speaks_on asked was is names sent heard = record {
    same = (ap request_of names, refl);
    went = λ going. ap (λ b. not (is_some b)) was;
    sends = λ going. sent;
    hears = λ going. heard;
    part = part_of (front_whole (written old.talk.sink) (written new.talk.sink) (request_of old.names asked) sent);
    silent = λ still. absurd (let no = sym still ∙ ap (λ b. not (is_some b)) was in cc);
  }

  -- one that is broken has sent a prefix of the request, or nothing where it was broken before
  pub speaks_off : (asked : Request) → IsSome new.broken → new.names ≡ old.names
      → AppendsFront (written old.talk.sink) (written new.talk.sink) (request_of old.names asked)
      → (IsSome old.broken → new.talk ≡ old.talk)
      → Speaks (talk_of left written old) (talk_of left written new) asked
  speaks_off asked is names front silent = record {
    same = (ap request_of names, refl);
    went = λ going. absurd (not_going new.broken is going);
    sends = λ going. absurd (not_going new.broken is going);
    hears = λ going. absurd (not_going new.broken is going);
    part = part_of front;
    silent = λ still.
        let same = silent (has_broken old.broken still) in
        (ap (λ t. written t.sink) same, ap (λ t. coming_to left t) same);
  }

-- ---- a reset, and a change by the hardware

is_none : (o : Option Break) → IsNone o → o ≡ None
is_none None none = refl
is_none (Some b) none = absurd (cc)

some_then : (o : Option Break) (b : Break) → IsSome (if is_some o then o else Some b)
some_then None b = refl
some_then (Some a) b = refl

module _ {S K N M : Type 0} (left : S → Option (List ℕ)) (written : K → Option (List ℕ)) (old mid new : Link S K N M) (asked : Request) where
  -- it was asked for and answered, or the link broke
  settled : (r : Result Bool Cause) → ((done : Bool) → TakesDone left old.talk new.talk done → Hears left written old new asked)
      → OnOk r (IsNone old.broken) → Puts (written old.talk.sink) (written mid.talk.sink) (request_of old.names asked) r
      → IfOk r (TakesDone left old.talk mid.talk) → OnlyTalks left old mid
      → IfOk r (λ is. new ≡ record mid { undone = counted mid.undone is })
      → IfErr r (λ cause. new ≡ broken_off mid cause new)
      → Speaks (talk_of left written old) (talk_of left written new) asked
  settled (Ok is) heard going sent done only same broke =
      let talk : new.talk ≡ mid.talk = ap (λ l. l.talk) same in
      let was : old.broken ≡ None = is_none old.broken going in
      speaks_on left written old new asked was (ap (λ l. l.broken) same ∙ only.broken ∙ was) (ap (λ l. l.names) same ∙ only.names)
      (subst (λ t. Appends (written old.talk.sink) (written t.sink) (request_of old.names asked)) (sym talk) sent.whole)
      (heard is (subst (λ t. TakesDone left old.talk t is) (sym talk) done))
  settled (Err cause) heard going sent done only same broke =
      let talk : new.talk ≡ mid.talk = ap (λ l. l.talk) broke in
      let line = min (mid.talk.lines + 1) (2 ^ 64 - 1) in
      speaks_off left written old new asked
      (subst IsSome (sym (ap (λ l. l.broken) broke)) (some_then mid.broken (record { cause = cause; line = line })))
      (ap (λ l. l.names) broke ∙ only.names)
      (subst (λ t. AppendsFront (written old.talk.sink) (written t.sink) (request_of old.names asked)) (sym talk) sent.part)
      (λ some. talk ∙ only.silent some)

  pub settled_asks : (r : Result Bool Cause) → answer_in asked ≡ no_answer
      → ((done : Bool) → TakesDone left old.talk new.talk done → Hears left written old new asked)
      → OnOk r (IsNone old.broken) → Puts (written old.talk.sink) (written mid.talk.sink) (request_of old.names asked) r
      → IfOk r (TakesDone left old.talk mid.talk) → OnlyTalks left old mid → mid.errors ≤ new.errors
      → IfOk r (λ is. new ≡ record mid { undone = counted mid.undone is })
      → IfErr r (λ cause. new ≡ broken_off mid cause new)
      → Asks (account_of left written old) (account_of left written new) asked
  settled_asks r none heard going sent done only later same broke = record {
    cause = record {
      later = subst (λ e. e ≤ new.errors) only.errors later;
      failed = λ failed. absurd (let no = sym failed ∙ ap (λ (a : Answer). a.failed) none in cc);
    };
    talks = settled r heard going sent done only same broke;
  }

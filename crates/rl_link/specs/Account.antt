-- What a link tells of its talk with the peer.
use Rattle.std.specs.Prelude.{ℕ, nat_lt, Bool, not, if◌then◌else◌, List, length, Option, Some, None, is_some, Result, Ok, Err}
use Rattle.rl_bus.specs.Account.{Account, Request, Traffic}
use Rattle.rl_bus.specs.Account as ask
use Rattle.rl_bus.specs.declared.op.Answer.{Answer}
use Rattle.rl_report.specs.Lines.{first_line, after_line}
use Rattle.rl_link.specs.declared.answer.Cause.{Cause}
use Rattle.rl_link.specs.declared.answer.Cause.TheVariants.{Backdoor}
use Rattle.rl_link.specs.declared.answer.Said.{Said}
use Rattle.rl_link.specs.declared.link.Link.{Link}
use Rattle.rl_link.specs.Answers.{answer_to, done_by, failure, said_in, success}
use Rattle.rl_link.specs.Coming.{answer_from}
use Rattle.rl_link.specs.Peer.{coming_to}
use Rattle.rl_link.specs.Requests.{request_of}

-- ---- replies

-- that something was done, or wasn't
abbrev pub done_answer : Result Bool Cause → Result Answer Cause
done_answer (Ok done) = Ok (if done then success 0 else failure)
done_answer (Err cause) = Err cause

-- what a line that says this answers; nothing answers a deposit
abbrev pub answer_of : Request → Said → Result Answer Cause
answer_of (ask.transfer port op tag answer) said = answer_to op.write op.bytes said
answer_of (ask.poke cell value) said = Err Backdoor
answer_of (ask.reset kind) said = done_answer (done_by said)
answer_of (ask.hw field value) said = done_answer (done_by said)

abbrev pub with_rest : Result Answer Cause → (rest : List ℕ) → Option (Answer × List ℕ)
with_rest (Ok answer) rest = Some (answer, rest)
with_rest (Err cause) rest = None

-- The first line that says something, which is whole, answers; the bytes behind it are left.
abbrev pub reply_in : Request → List ℕ → Option (Answer × List ℕ)
reply_in asked bytes =
    let from = answer_from bytes in
    if nat_lt (length (first_line from)) (length from)
    then with_rest (answer_of asked (said_in (first_line from))) (after_line from)
    else None

-- ---- a link

abbrev pub talk_of : {S K N M : Type 0} → (left : S → Option (List ℕ)) → (written : K → Option (List ℕ)) → Link S K N M
    → Traffic
talk_of left written link = record {
  going = not (is_some link.broken);
  sent = written link.talk.sink;
  coming = coming_to left link.talk;
  request = request_of link.names;
  reply = reply_in;
}

abbrev pub account_of : {S K N M : Type 0} → (left : S → Option (List ℕ)) → (written : K → Option (List ℕ))
    → Link S K N M → Account
account_of left written link = record { errors = link.errors; talk = Some (talk_of left written link) }

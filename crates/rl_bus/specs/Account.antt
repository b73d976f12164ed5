-- What a device is asked, and what it tells of that: how often it failed, and what went between it and its peer.
use Rattle.std.specs.Prelude.{◌≡◌, ℕ, Bool, false, List, [], ◌∷◌, ◌++◌, Option, Some, None, IfSome, IsTrue, IsFalse}
use Rattle.std.specs.Io.KnownBytes.{Appends}
use Rattle.rl_bus.specs.declared.op.Answer.{Answer}
use Rattle.rl_bus.specs.declared.op.BusOp.{BusOp}
use Rattle.rl_bus.specs.declared.table.Cell.{Cell}
use Rattle.rl_bus.specs.Causes.{AnswerHasCause}

-- ---- what is asked

-- A call of a device, and of a transfer what was answered. A deposit by the backdoor, a reset and a change by the hardware
-- aren't answered.
pub data Request : Type 0 where
  transfer : (port : ℕ) → BusOp → (tag : ℕ) → Answer → Request
  poke : Cell → (value : ℕ) → Request
  reset : (kind : ℕ) → Request
  hw : (field value : ℕ) → Request

abbrev pub no_answer : Answer
no_answer = record { word = 0; failed = false }

abbrev pub answer_in : Request → Answer
answer_in (transfer port op tag answer) = answer
answer_in (poke cell value) = no_answer
answer_in (reset kind) = no_answer
answer_in (hw field value) = no_answer

-- the answer is the one that was given, where one was
abbrev pub IsAnswerTo : Request → Answer → Type 0
IsAnswerTo (transfer port op tag answer) heard = answer ≡ heard
IsAnswerTo (poke cell value) heard = Unit {0}
IsAnswerTo (reset kind) heard = Unit {0}
IsAnswerTo (hw field value) heard = Unit {0}

-- ---- what a device tells

-- What goes between a device and its peer at a moment.
pub record Traffic : Type 0 where
  -- it still goes on
  pub going : Bool
  -- what was sent, and what is still to come, where these are told
  pub sent : Option (List ℕ)
  pub coming : Option (List ℕ)
  -- the bytes that ask for something
  pub request : Request → List ℕ
  -- the answer to something that stands first in these bytes, and the bytes behind it
  pub reply : Request → List ℕ → Option (Answer × List ℕ)

-- how often it has failed, and its talk, if it has a peer
pub record Account : Type 0 where
  pub errors : ℕ
  pub talk : Option Traffic

-- of a device that has no peer
abbrev pub without_peer : (errors : ℕ) → Account
without_peer errors = record { errors = errors; talk = None }

-- ---- what a call leaves

-- What came first was the answer, and was taken.
pub record Heard (before : Traffic) (asked : Request) (bytes : List ℕ) (left : Option (List ℕ)) : Type 0 where
  pub answer : Answer
  pub rest : List ℕ
  pub came : before.reply asked bytes ≡ Some (answer, rest)
  pub given : IsAnswerTo asked answer
  pub left_is : left ≡ Some rest

-- A prefix of the bytes was sent.
pub record SendsPart (before after : Option (List ℕ)) (bytes : List ℕ) : Type 0 where
  pub part : List ℕ
  pub others : List ℕ
  pub split : part ++ others ≡ bytes
  pub sent : Appends before after part

-- A talk that goes on sends the request and takes its answer. One that ends sends a prefix of the request, and fails.
-- One that has ended sends and takes nothing, and fails.
pub record Speaks (before after : Traffic) (asked : Request) : Type 0 where
  pub same : (after.request ≡ before.request) × (after.reply ≡ before.reply)
  pub went : IsTrue after.going → IsTrue before.going
  pub sends : IsTrue after.going → Appends before.sent after.sent (before.request asked)
  pub hears : IsTrue after.going → IfSome before.coming (λ bytes. Heard before asked bytes after.coming)
  pub part : SendsPart before.sent after.sent (before.request asked)
  pub silent : IsFalse before.going → (after.sent ≡ before.sent) × (after.coming ≡ before.coming)

-- as the device goes on that has a peer
abbrev pub Talks : Option Traffic → Option Traffic → Request → Type 0
Talks None None asked = Unit {0}
Talks (Some before) (Some after) asked = Speaks before after asked
Talks None (Some after) asked = ⊥
Talks (Some before) None asked = ⊥

-- One call: it failed only where the count of errors rose, and the peer was asked for it.
pub record Asks (before after : Account) (asked : Request) : Type 0 where
  pub cause : AnswerHasCause before.errors after.errors (answer_in asked)
  pub talks : Talks before.talk after.talk asked

-- calls, one after another
abbrev pub AsksAll : Account → List Request → Account → Type 0
AsksAll before [] after = after ≡ before
AsksAll before (asked ∷ more) after = (next : Account) × Asks before next asked × AsksAll next more after

-- What was sent of a request.
use Rattle.std.proofs.Common.{◌≡◌, ℕ, List, [], ◌++◌, refl, append-nil, Result, Ok, Err, OnOk}
use Rattle.std.specs.declared.option.Option.{Option}
use Rattle.std.specs.Io.KnownBytes.{Appends}
use Rattle.std.proofs.KnownBytes.{Appends-nil}
use Rattle.rl_report.specs.declared.sink.Sink.{Ghosts as Sink}
use Rattle.rl_report.specs.Pieces.{AppendsFront, Puts, PutsText}
use Rattle.rl_link.specs.Peer.{Tells}
use Rattle.rl_report.proofs.PieceLemmas.{puts_stopped}

-- all of it is a front of it
pub front_whole : (a b : Option (List ℕ)) (xs : List ℕ) → Appends a b xs → AppendsFront a b xs
front_whole a b xs h = record { front = xs; rest = []; split = append-nil xs; appended = h }

-- and so is nothing
pub front_none : (a : Option (List ℕ)) (xs : List ℕ) → AppendsFront a a xs
front_none a xs = record { front = []; rest = xs; split = refl; appended = Appends-nil a }

-- the whole was sent, whatever came then
pub puts_sent : {T E : Type 0} (a b : Option (List ℕ)) (xs : List ℕ) (r : Result T E) → Appends a b xs → Puts a b xs r
puts_sent a b xs (Ok x) h = record { whole = h; part = tt }
puts_sent a b xs (Err e) h = record { whole = tt; part = front_whole a b xs h }

-- a text was told
pub tells_put : {Q T E : Type 0} (sink : Sink Q) (old new : Q) (text : List ℕ) (r : Result T E) → PutsText sink old new text r
    → Tells sink old new text
tells_put sink old new text (Ok x) p =
    record { later = p.stays.cause.later; whole = λ none. p.bytes.whole; part = front_whole (sink.written old) (sink.written new) text p.bytes.whole }
tells_put sink old new text (Err e) p =
    record { later = p.stays.cause.later; whole = λ none. absurd (none p.stays.cause.failed); part = p.bytes.part }

-- For `grind`: what was sent where a call stopped, or sent the whole and went on.
pub ruleset by_whole = (front_whole, puts_stopped)

pub ruleset by_sending = (puts_sent, front_none, puts_stopped)

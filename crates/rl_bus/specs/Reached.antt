-- What holds of every state that the calls reach.
use Rattle.std.specs.Prelude.{◌≡◌, ℕ, ◌<◌, Bool, [], length, None}
use Rattle.rl_bus.specs.declared.op.BusOp.{BusOp}
use Rattle.rl_bus.specs.declared.table.Cell.{Cell}
use Rattle.rl_bus.specs.Setup.{Setup, words_at}
use Rattle.rl_bus.specs.State.{State, word_at, state_after, poked, hw_set, reset_by, first_state}

-- where words of both directions stand at an address, there are as many of each
abbrev pub HasEvenWords : Setup → Type 0
HasEvenWords t =
    (p a : ℕ) (one other : Bool)
    → 0 < length (words_at t p a one) → 0 < length (words_at t p a other)
    → length (words_at t p a one) ≡ length (words_at t p a other)

-- each beat names a word, where there are words
abbrev pub BeatsNameWords : State → Type 0
BeatsNameWords s =
    (p a : ℕ) (write : Bool)
    → 0 < length (words_at s.setup p a write)
    → s.beats p a < length (words_at s.setup p a write)

-- the law of beats: each call keeps this, and then there is no word at the beat exactly where no word stands there
pub record KeepsBeats : Type 0 where
  pub first : (t : Setup) (count : ℕ) → BeatsNameWords (first_state t count)
  pub item : (s : State) (port : ℕ) (op : BusOp)
      → HasEvenWords s.setup → BeatsNameWords s
      → BeatsNameWords (state_after s port op)
  pub poke : (s : State) (cell : Cell) (value : ℕ) → BeatsNameWords s → BeatsNameWords (poked s cell value)
  pub hw : (s : State) (field value : ℕ) → BeatsNameWords s → BeatsNameWords (hw_set s field value)
  pub reset : (s : State) (kind : ℕ) → BeatsNameWords (reset_by s kind)
  pub none : (s : State) (port : ℕ) (op : BusOp)
      → words_at s.setup port op.address op.write ≡ []
      → word_at s port op ≡ None
  pub only : (s : State) (port : ℕ) (op : BusOp)
      → BeatsNameWords s → word_at s port op ≡ None
      → length (words_at s.setup port op.address op.write) ≡ 0

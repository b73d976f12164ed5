-- A source and a sink in memory.
use Rattle.std.specs.Prelude.{ℕ, ◌+◌, ◌-◌, ◌^◌, ◌==◌, ◌||◌, min, List, ◌++◌, length, take, drop, Bool, if◌then◌else◌, Result, Ok, Err}
use Rattle.std.specs.List.{list_any}
use Rattle.rl_bus.specs.declared.device.Failed.{Failed}

pub record SourceData : Type 0 where
  -- what wasn't given yet
  pub left : List ℕ
  -- how much a call gives at most
  pub piece : ℕ
  -- the calls that fail, by their numbers from 0
  pub fails : List ℕ
  -- how many calls were made, at most the end of 64 bits
  pub calls : ℕ
  pub faults : ℕ

pub record SinkData : Type 0 where
  pub taken : List ℕ
  -- how much is taken in all
  pub room : ℕ
  -- how much a call takes at most
  pub piece : ℕ
  -- the calls of `write` that fail, by their numbers from 0
  pub fails : List ℕ
  -- how many of these were made, at most the end of 64 bits
  pub calls : ℕ
  pub faults : ℕ
  pub ends : ℕ

-- one more, at most the end of 64 bits
abbrev pub next : ℕ → ℕ
next n = min (n + 1) (2 ^ 64 - 1)

abbrev pub is_failing : (fails : List ℕ) → (call : ℕ) → Bool
is_failing fails call = list_any (λ n. n == call) fails

-- ---- a call of `read`, with so much room

abbrev pub read_answer : SourceData → (room : ℕ) → Result ℕ Failed
read_answer s room = if is_failing s.fails s.calls then Err (record {}) else Ok (min (min (length s.left) room) s.piece)

abbrev pub after_read : SourceData → Result ℕ Failed → SourceData
after_read s (Ok n) = record s { left = drop n s.left; calls = next s.calls }
after_read s (Err e) = record s { calls = next s.calls; faults = next s.faults }

-- ---- a call of `write`

abbrev pub write_answer : SinkData → List ℕ → Result ℕ Failed
write_answer s bytes =
    if s.room - length s.taken == 0 || is_failing s.fails s.calls then Err (record {})
    else Ok (min (min (length bytes) (s.room - length s.taken)) s.piece)

abbrev pub after_write : SinkData → List ℕ → Result ℕ Failed → SinkData
after_write s bytes (Ok n) = record s { taken = s.taken ++ take n bytes; calls = next s.calls }
after_write s bytes (Err e) = record s { calls = next s.calls; faults = next s.faults }

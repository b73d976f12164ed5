-- What a buffered sink keeps back, and what was given to it.
use Rattle.std.specs.Prelude.{ℕ, List, slice_range, Option}
use Rattle.std.specs.Io.KnownBytes.{append_known}
use Rattle.rl_play.specs.declared.buffered.Buffered.{Buffered}

abbrev pub kept_back : {K E : Type 0} → {g h : _} → Buffered K E g h → List ℕ
kept_back b = slice_range b.bytes b.start b.end

-- what was written, and behind it what is kept back
abbrev pub told : {K E : Type 0} → {g h : _} → (K → Option (List ℕ)) → Buffered K E g h → Option (List ℕ)
told written b = append_known (written b.sink.now) (kept_back b)

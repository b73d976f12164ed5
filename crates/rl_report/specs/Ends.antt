-- How often a sink was finished.
use Rattle.std.specs.Prelude.{◌≡◌, ℕ, ◌+◌, ◌-◌, ◌^◌, min}

-- exactly one time more: the count is larger by one, or stays at the end of 64 bits
abbrev pub EndedOnce : (before now : ℕ) → Type 0
EndedOnce before now = now ≡ min (before + 1) (2 ^ 64 - 1)

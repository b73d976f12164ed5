-- The lines whose spelling may be longer than a line may be.
use Rattle.std.specs.Prelude.{Bool, true, false}
use Rattle.rl_script.specs.declared.line.Line.{Line}
use Rattle.rl_script.specs.declared.line.Line.TheVariants.{BurstWrite}

-- a burst that writes, of as many values as there are
abbrev pub is_burst_write : Line → Bool
is_burst_write (BurstWrite mem first values m) = true
is_burst_write line = false

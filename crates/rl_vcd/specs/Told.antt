-- What a dump has written, and what it keeps back.
use Rattle.std.specs.Prelude.{ℕ, List, Option}
use Rattle.std.specs.Io.KnownBytes.{append_known}
use Rattle.rl_vcd.specs.declared.wave.DrawFault.{DrawFault as Undrawn}
use Rattle.rl_vcd.specs.declared.wave.DrawFault.TheVariants as undrawn
use Rattle.rl_vcd.specs.declared.dump.Fault.{Fault}
use Rattle.rl_vcd.specs.declared.dump.Fault.TheVariants as fault
use Rattle.rl_vcd.specs.declared.dump.Dump.{Dump}

-- what was written, and behind it what is kept back
abbrev pub told : {K : Type 0} → (K → Option (List ℕ)) → Dump K → Option (List ℕ)
told written d = append_known (written d.sink) d.wave.text.items

-- why a transfer that wasn't drawn ends the dump
abbrev pub fault_of : Undrawn → Fault
fault_of undrawn.Full = fault.Full
fault_of undrawn.Memory = fault.Memory

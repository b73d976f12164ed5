use Rattle.std.proofs.Common.{◌≤◌, drop}
use Rattle.rl_desc.proofs.FlawLemmas.{Goes}
use Rattle.rl_desc.proofs.flaw.number_flaws.Given as goal

abbrev pub invariant-loop-part : goal.invariant-loop-part
invariant-loop-part l = record {
  few : l.row ≤ 256;
  goes : Goes l.chip l.layout l.parts l.row (drop l.part-index l.parts) l.flaws.items;
}

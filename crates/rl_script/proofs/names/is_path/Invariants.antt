-- What is left ends the path well exactly if the whole is a path.
use Rattle.std.proofs.Common.{◌≡◌, ◌≤◌, length}
use Rattle.rl_script.specs.Names.{is_path}
use Rattle.rl_script.proofs.PathLemmas.{goes_on}
use Rattle.rl_script.proofs.names.is_path.Given as goal

abbrev pub invariant-loop-rest : goal.invariant-loop-rest
invariant-loop-rest l = record {
  left : goes_on l.names 0 l.rest ≡ is_path l.text;
  names : l.names ≤ 9;
}

abbrev pub decreases-loop-rest : goal.decreases-loop-rest
decreases-loop-rest l = length l.rest

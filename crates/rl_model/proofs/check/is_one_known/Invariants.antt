use Rattle.std.proofs.Common.{◌≡◌, drop}
use Rattle.rl_model.specs.Rules.{clashes}
use Rattle.rl_model.proofs.check.is_one_known.Given as goal

abbrev pub invariant-loop-reset : goal.invariant-loop-reset
invariant-loop-reset l = clashes l.kinds (drop l.reset-index l.resets) ≡ clashes l.initial.kinds l.resets

use Rattle.rl_model.proofs.PathLemmas.{distinct-texts}
use Rattle.rl_model.proofs.paths.Paths.new.Goals as goal

pub invariant_of-result : goal.invariant_of-result
invariant_of-result c = distinct-texts _ c.new.ensures.unique

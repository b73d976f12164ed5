use Rattle.std.proofs.Common.{bytes_eq}
use Rattle.rl_model.proofs.PathLemmas.{any-Some}
use Rattle.rl_model.proofs.paths.Paths.find_or_add.Goals as goal

pub returns-in-Some-clause-added : goal.returns-in-Some-clause-added
returns-in-Some-clause-added c = rw (any-Some (bytes_eq c.args.text.now) c.args.self.now c.in-Some.number c.in-Some.ensures.first)

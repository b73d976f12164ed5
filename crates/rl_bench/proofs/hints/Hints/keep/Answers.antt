use Rattle.std.proofs.lemmas.List.Elements.{All-set}
use Rattle.rl_bench.specs.Stretch.{IsHint}
use Rattle.rl_bench.proofs.HintLemmas.{hint_of_stretch}
use Rattle.rl_bench.proofs.hints.Hints.keep.Goals as goal

pub returns : goal.returns
returns c words here all = All-set (IsHint words) _ _ _ (hint_of_stretch words c.args.at c.args.port c.args.address here) all

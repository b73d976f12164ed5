use Rattle.std.proofs.Common.{◌∙◌, ◌&&◌, true, rules, tests}
use Rattle.std.proofs.lemmas.Iterator.{YieldsList-from_slice}
use Rattle.std.proofs.lemmas.Iterator.Consumers.{fold_from_yields_List}
use Rattle.rl_script.specs.Reading.{is_ascii}
use Rattle.rl_script.proofs.ByteLemmas.{fold-and}
use Rattle.rl_script.proofs.read.all_ascii.Goals as goal

pub returns : goal.returns
returns c =
    fold_from_yields_List _ (λ all x. all && is_ascii x) true c.fold.result c.fold.ensures.ran (YieldsList-from_slice c.args.bytes.now cc) (λ a x b q k. search (rules, tests))
    ∙ fold-and is_ascii c.args.bytes.now

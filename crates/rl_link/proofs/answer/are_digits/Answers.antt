use Rattle.std.proofs.Common.{rules, tests}
use Rattle.std.proofs.lemmas.Iterator.{YieldsList-from_slice}
use Rattle.std.proofs.lemmas.Iterator.Search.{all_from_yields_List}
use Rattle.rl_link.specs.Answers.{is_any_digit}
use Rattle.rl_link.proofs.answer.are_digits.Goals as goal

pub returns : goal.returns
returns c =
    all_from_yields_List is_any_digit _ _ _ c.all.ensures.ran (YieldsList-from_slice c.args.digits.now cc) (λ x b q k. search (rules, tests))

use Rattle.std.proofs.Common.{rules, tests}
use Rattle.std.proofs.lemmas.Iterator.{YieldsList-from_slice}
use Rattle.std.proofs.lemmas.Iterator.Search.{any_from_yields_List}
use Rattle.rl_link.specs.Answers.{is_unknown_digit}
use Rattle.rl_link.proofs.answer.has_unknown.Goals as goal

pub returns : goal.returns
returns c =
    any_from_yields_List is_unknown_digit _ _ _ c.any.ensures.ran (YieldsList-from_slice c.args.digits.now cc) (λ x b q k. search (rules, tests))

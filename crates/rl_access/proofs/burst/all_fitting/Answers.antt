use Rattle.std.proofs.Common.{◌^◌, nat_lt, ap, ◌∙◌, rules, tests}
use Rattle.std.proofs.lemmas.Iterator.{YieldsList-from_slice}
use Rattle.std.proofs.lemmas.Iterator.Search.{all_from_yields_List}
use Rattle.rl_access.specs.Operation.{location_size}
use Rattle.rl_access.specs.Rules.{only_where}
use Rattle.rl_access.specs.declared.event.Refused.TheVariants.{TooWide}
use Rattle.rl_access.proofs.burst.all_fitting.Goals as goal

pub returns-clause-grant : goal.returns-clause-grant
returns-clause-grant c =
    let all = all_from_yields_List (λ v. nat_lt v (256 ^ location_size c.args.model.now.chip c.args.mem)) _ _ _ c.all-all.ensures.ran (YieldsList-from_slice c.args.values.now cc) (λ x b q k. search
    (rules, tests)) in
    c.only_where.ensures ∙ ap (λ b. only_where c.args.grant b TooWide) all

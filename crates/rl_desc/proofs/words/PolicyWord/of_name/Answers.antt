use Rattle.std.proofs.Common.{◌≡◌, ◌∙◌, ap, rules}
use Rattle.rl_desc.specs.Words.{policy_named}
use Rattle.rl_desc.proofs.PolicyLemmas.{policy_is}
use Rattle.rl_desc.proofs.words.PolicyWord.of_name.Goals as goal

pub returns : goal.returns
returns c =
    let bytes : c.as_bytes.result.now ≡ c.args.name.now = search rules in
    policy_is c.of_name.result c.as_bytes.result.now c.of_name.ensures.found c.of_name.ensures.none ∙ ap policy_named bytes

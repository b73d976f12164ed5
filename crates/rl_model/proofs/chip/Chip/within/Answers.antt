use Rattle.std.proofs.Common.{◌≡◌, subst, arith}
use Rattle.std.proofs.lemmas.Grind.{common_steps}
use Rattle.rl_model.specs.Rows.{ChipData}
use Rattle.rl_model.specs.Chip.{IsSound, is_inside, path_at, path_of_item}
use Rattle.rl_model.proofs.Within.{within_item}
use Rattle.rl_model.proofs.chip.Chip.within.Goals as goal

pub returns-clause-chain : goal.returns-clause-chain
returns-clause-chain c =
    let P : ChipData → Type 0 = IsSound in
    let chip = c.args.self.now in
    let is : c.is_inside.result ≡ is_inside (path_at chip c.args.block) (path_of_item chip c.args.item) = grind (arith, common_steps) in
    within_item chip (subst P c.self.view_is c.self.invariant.0) c.args.item c.args.block c.is_inside.result c.requires.item c.requires.block is

use Rattle.std.proofs.Common.{◌≡◌, ℕ, List, length, subst}
use Rattle.rl_model.specs.Rows.{ChipData}
use Rattle.rl_log.specs.Named.{reg_named}
use Rattle.rl_play.proofs.NamedLemmas.{found_from}
use Rattle.rl_play.proofs.resolve.reg_at.Goals as goal

pub returns : goal.returns
returns c =
    subst (λ (t : List ℕ). c.reg_by_path.result ≡ reg_named c.args.model.now.chip t) c.text.ensures.text
    (subst (λ (k : ChipData). c.reg_by_path.result ≡ reg_named k c.text.result.now) c.chip.ensures.chip
    (found_from c.chip.result.now.paths c.chip.result.now.scopes
    (length c.chip.result.now.regs) c.text.result.now c.reg_by_path.result c.reg_by_path.ensures))

use Rattle.std.proofs.Common.{◌≡◌, ℕ, List, subst}
use Rattle.rl_model.specs.Rows.{ChipData}
use Rattle.rl_log.specs.Named.{kind_named}
use Rattle.rl_play.proofs.NamedLemmas.{found_in}
use Rattle.rl_play.proofs.resolve.kind_named.Goals as goal

pub returns : goal.returns
returns c =
    subst (λ (t : List ℕ). c.kind_by_name.result ≡ kind_named c.args.model.now.chip t) c.text.ensures.text
    (subst (λ (k : ChipData). c.kind_by_name.result ≡ kind_named k c.text.result.now) c.chip.ensures.chip
    (found_in c.chip.result.now.kinds c.text.result.now c.kind_by_name.result c.kind_by_name.ensures))

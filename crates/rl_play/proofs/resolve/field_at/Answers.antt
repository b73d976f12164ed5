use Rattle.std.proofs.Common.{◌≡◌, ℕ, List, subst}
use Rattle.rl_model.specs.Rows.{ChipData}
use Rattle.rl_model.specs.Chip.{field_path}
use Rattle.rl_log.specs.Named.{field_named}
use Rattle.rl_play.proofs.NamedLemmas.{found_row}
use Rattle.rl_play.proofs.resolve.field_at.Goals as goal

pub returns : goal.returns
returns c =
    subst (λ (t : List ℕ). c.field_by_path.result ≡ field_named c.args.model.now.chip t) c.text.ensures.text
    (subst (λ (k : ChipData). c.field_by_path.result ≡ field_named k c.text.result.now) c.chip.ensures.chip
    (found_row (field_path c.chip.result.now) c.chip.result.now.fields c.text.result.now c.field_by_path.result
    c.field_by_path.ensures))

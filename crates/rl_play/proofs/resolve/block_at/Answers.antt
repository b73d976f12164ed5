use Rattle.std.proofs.Common.{◌≡◌, ℕ, ◌<◌, List, subst}
use Rattle.rl_model.specs.Rows.{ChipData}
use Rattle.rl_log.specs.Named.{block_named}
use Rattle.rl_play.proofs.NamedLemmas.{found_first}
use Rattle.rl_play.proofs.ReadyLemmas.{some_in}
use Rattle.rl_play.proofs.resolve.block_at.Goals as goal

pub returns : goal.returns
returns c = record {
  named =
      subst (λ (t : List ℕ). c.block_by_path.result ≡ block_named c.args.model.now.chip t) c.text.ensures.text
      (subst (λ (k : ChipData). c.block_by_path.result ≡ block_named k c.text.result.now) c.chip.ensures.chip
      (found_first c.chip.result.now.paths c.chip.result.now.blocks c.text.result.now c.block_by_path.result
      c.block_by_path.ensures));
  in_range = some_in _ (λ n. n < c.args.model.now.chip.blocks)
      (λ n e. subst (λ (k : ChipData). n < k.blocks) c.chip.ensures.chip ((c.block_by_path.ensures n).0 e).0);
}

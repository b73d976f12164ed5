use Rattle.std.proofs.Common.{◌≡◌, ℕ, ◌+◌, ◌<◌, List, length, subst}
use Rattle.rl_model.specs.Rows.{ChipData}
use Rattle.rl_log.specs.Named.{mem_named}
use Rattle.rl_play.proofs.NamedLemmas.{found_from}
use Rattle.rl_play.proofs.ReadyLemmas.{some_in}
use Rattle.rl_play.proofs.resolve.mem_at.Goals as goal

pub returns : goal.returns
returns c = record {
  named =
      subst (λ (t : List ℕ). c.mem_by_path.result ≡ mem_named c.args.model.now.chip t) c.text.ensures.text
      (subst (λ (k : ChipData). c.mem_by_path.result ≡ mem_named k c.text.result.now) c.chip.ensures.chip
      (found_from c.chip.result.now.paths (c.chip.result.now.scopes + length c.chip.result.now.regs)
      (length c.chip.result.now.mems) c.text.result.now c.mem_by_path.result c.mem_by_path.ensures));
  in_range = some_in _ (λ n. n < length c.args.model.now.chip.mems)
      (λ n e. subst (λ (k : ChipData). n < length k.mems) c.chip.ensures.chip ((c.mem_by_path.ensures n).0 e).0);
}

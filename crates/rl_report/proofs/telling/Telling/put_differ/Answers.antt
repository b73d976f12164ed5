use Rattle.std.proofs.Common.{sym, ◌∙◌}
use Rattle.rl_report.specs.Outcome.{has_differ}
use Rattle.rl_report.proofs.GatherLemmas.{gathers_if, gathers_more, gathers_last, gathers_failed}
use Rattle.rl_report.proofs.PieceLemmas.{stays_then, stays_stopped}
use Rattle.rl_report.proofs.telling.Telling.put_differ.Goals as goal

pub returns-in_err-gather-clause-bytes : goal.returns-in_err-gather-clause-bytes
returns-in_err-gather-clause-bytes g c =
    gathers_if (has_differ c.args.self.now.event.now) (sym c.has_differ.ensures ∙ c.if-not-has_differ.false) (gathers_failed _ _ _ _ _ _ _ c.from_residual.ensures.0 c.in_err-gather.ensures.bytes.part)

pub returns-clause-bytes : goal.returns-clause-bytes
returns-clause-bytes g c =
    gathers_if (has_differ c.args.self.now.event.now) (sym c.has_differ.ensures ∙ c.if-not-has_differ.false)
    (gathers_more _ _ _ _ _ _ _ _ _ c.in_ok-gather.ensures.bytes.whole (gathers_last _ _ _ _ _ _ c.put_names.ensures.bytes))

pub returns-in_err-gather-clause-stays : goal.returns-in_err-gather-clause-stays
returns-in_err-gather-clause-stays g c = stays_stopped _ _ _ _ _ c.from_residual.ensures.0 c.in_err-gather.ensures.stays

pub returns-clause-stays : goal.returns-clause-stays
returns-clause-stays g c = stays_then _ _ _ _ _ _ c.in_ok-gather.ensures.stays c.put_names.ensures.stays

use Rattle.std.proofs.Common.{length, ap, sym, ◌∙◌}
use Rattle.rl_report.specs.Lines.{first_line}
use Rattle.rl_report.proofs.PieceLemmas.{cause_stopped, cause_kept}
use Rattle.rl_report.proofs.TakenLemmas.{on_err}
use Rattle.rl_report.proofs.lines.fill.Goals as goal

pub returns-in_err-count-clause-size : goal.returns-in_err-count-clause-size
returns-in_err-count-clause-size g c = c.requires.size ∙ ap (λ l. length (first_line l)) (sym c.in_err-count.ensures.same)

pub returns-in_err-count-clause-kept : goal.returns-in_err-count-clause-kept
returns-in_err-count-clause-kept g c = on_err c.from_residual.result (c.in_err-count.ensures.same, c.requires.going)

pub returns-in_err-count-clause-cause : goal.returns-in_err-count-clause-cause
returns-in_err-count-clause-cause g c = cause_stopped _ _ _ _ c.from_residual.ensures.0 c.in_err-count.ensures.cause

pub returns-clause-cause : goal.returns-clause-cause
returns-clause-cause g c = cause_kept _ _ _ _ c.in_ok-count.ensures.cause

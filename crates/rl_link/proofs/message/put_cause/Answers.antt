use Rattle.std.proofs.Common.{◌++◌, subst}
use Rattle.rl_report.specs.Pieces.{PutsText}
use Rattle.rl_report.proofs.PieceLemmas.{text_after, text_stopped}
use Rattle.rl_link.specs.Message.{where_told}
use Rattle.rl_link.proofs.message.put_cause.Goals as goal

pub returns-in_err-put_where : goal.returns-in_err-put_where
returns-in_err-put_where g c = text_stopped _ _ _ _ _ _ _ c.from_residual.ensures.0 c.in_err-put_where.ensures

pub returns : goal.returns
returns g c =
    subst (λ t. PutsText g.Q.Sink c.args.sink.now c.put_all.new.sink (where_told c.args.broken.line ++ t) c.put_all.result) c.cause_text.ensures
    (text_after _ _ _ _ _ _ _ _ c.in_ok-put_where.ensures c.put_all.ensures)

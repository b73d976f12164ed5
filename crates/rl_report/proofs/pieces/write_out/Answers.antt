use Rattle.rl_report.proofs.PieceLemmas.{stays_stopped}
use Rattle.std.proofs.Common.{◌++◌, ap, append-nil}
use Rattle.rl_report.proofs.GatherLemmas.{gathers_stopped}
use Rattle.rl_report.proofs.pieces.write_out.Goals as goal

pub returns-in_err-put_all-clause-stays : goal.returns-in_err-put_all-clause-stays
returns-in_err-put_all-clause-stays g c = stays_stopped _ _ _ _ _ c.from_residual.ensures.0 c.in_err-put_all.ensures.stays

pub returns-clause-stays : goal.returns-clause-stays
returns-clause-stays g c = c.in_ok-put_all.ensures.stays

pub returns-in_err-put_all-clause-bytes : goal.returns-in_err-put_all-clause-bytes
returns-in_err-put_all-clause-bytes g c =
    gathers_stopped _ _ _ _ _ _ c.from_residual.ensures.0 (rw (append-nil c.args.text.now) (rw c.as_bytes.ensures at c.in_err-put_all.ensures.bytes.part))

pub returns-clause-bytes : goal.returns-clause-bytes
returns-clause-bytes g c = record {
  whole = record { gone = c.args.text.now; split = ap (λ l. c.args.text.now ++ l) c.clear.ensures; appended = rw c.as_bytes.ensures at c.in_ok-put_all.ensures.bytes.whole };
  part = tt;
}

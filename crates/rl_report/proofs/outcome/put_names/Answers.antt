use Rattle.std.proofs.Common.{arith}
use Rattle.rl_model.specs.Fields.{count_of}
use Rattle.rl_report.specs.Outcome.{name_text}
use Rattle.rl_report.proofs.ListingLemmas.{next_number, no_number}
use Rattle.rl_report.proofs.PieceLemmas.{keeps_more, keeps_stopped, keeps_all}
use Rattle.rl_report.proofs.GatherLemmas.{less_over, over_stopped, none_over}
use Rattle.rl_report.proofs.outcome.put_names.Goals as goal

pub loop-place-preserved : goal.loop-place-preserved
loop-place-preserved g c =
    let chip = c.args.model.now.chip in
    let i = c.loop-place.invariant in
    let e = c.in_ok-put_name.ensures in
    record {
      put = less_over _ _ _ _ _ _ _ _ _ _ i.put (next_number (name_text chip c.args.reg c.args.differ) c.loop-place.place (count_of chip c.args.reg) (omega arith)) e.bytes.whole;
      kept = keeps_more _ _ _ _ _ i.kept e.stays;
    }

pub returns-in_err-put_name-clause-bytes : goal.returns-in_err-put_name-clause-bytes
returns-in_err-put_name-clause-bytes g c =
    let chip = c.args.model.now.chip in
    over_stopped _ _ _ _ _ _ _ _ _ _ _ c.loop-place.invariant.put
    (next_number (name_text chip c.args.reg c.args.differ) c.loop-place.place (count_of chip c.args.reg) (omega arith)) c.from_residual.ensures.0 c.in_err-put_name.ensures.bytes.part

pub returns-clause-bytes : goal.returns-clause-bytes
returns-clause-bytes g c =
    let chip = c.args.model.now.chip in
    record { whole = none_over _ _ _ _ _ _ c.loop-place.invariant.put (no_number (name_text chip c.args.reg c.args.differ) c.loop-place.place (count_of chip c.args.reg) (omega arith)); part = tt }

pub returns-in_err-put_name-clause-stays : goal.returns-in_err-put_name-clause-stays
returns-in_err-put_name-clause-stays g c = keeps_stopped _ _ _ _ _ _ c.from_residual.ensures.0 c.loop-place.invariant.kept c.in_err-put_name.ensures.stays

pub returns-clause-stays : goal.returns-clause-stays
returns-clause-stays g c = keeps_all _ _ _ _ c.loop-place.invariant.kept

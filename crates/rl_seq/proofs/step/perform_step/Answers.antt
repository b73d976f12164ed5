use Rattle.std.proofs.Common.{Ok, Err}
use Rattle.rl_seq.proofs.Following.{follows_one, follows_err}
use Rattle.rl_seq.proofs.step.perform_step.Goals as goal

pub returns-in_err-step : goal.returns-in_err-step
returns-in_err-step g c =
    let done = c.perform_into.ensures.does in
    let failed = c.in_err-step.ensures in
    record {
      follows = follows_err g.R.Recorder _ _ _ c.args.tally.now _ _ _ c.from_residual.result
          (follows_one g.R.Recorder _ _ _ _ _ _ c.args.op c.perform_into.new.event
          (Err c.in_err-step.field-0.0) done.ready done.parts done.performs tt tt failed.broken failed.cause failed.steady)
          c.from_residual.ensures.0;
    }

pub returns : goal.returns
returns g c =
    let done = c.perform_into.ensures.does in
    let took = c.in_ok-step.ensures in
    record {
      follows = follows_one g.R.Recorder _ _ _ _ _ _ c.args.op c.perform_into.new.event
          (Ok (tt {0})) done.ready done.parts done.performs took.taken c.count.ensures tt took.cause took.steady;
    }

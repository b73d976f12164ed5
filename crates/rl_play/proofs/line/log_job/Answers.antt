use Rattle.std.proofs.Common.{refl}
use Rattle.rl_play.proofs.ReadyLemmas.{steady_ends, steady_target}
use Rattle.rl_play.proofs.line.log_job.Goals as goal

pub returns-clause-stays : goal.returns-clause-stays
returns-clause-stays g c =
    let e = c.record_job-result.ensures in
    record {
      ready = record { ready = e.ready; parts = e.parts };
      sink = record {
        cause = e.cause;
        ends = steady_ends _ _ _ _ _ _ e.steady;
        target = steady_target _ _ _ _ _ _ e.steady;
      };
      same = record { model = refl; device = refl; adapters = refl; out = refl; counts = refl };
    }

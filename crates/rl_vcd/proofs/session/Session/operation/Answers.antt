use Rattle.std.proofs.Common.{sym, ◌∙◌}
use Rattle.rl_play.specs.Work.{single}
use Rattle.rl_play.proofs.LineLemmas.{one_is}
use Rattle.rl_play.proofs.StageLemmas.{name_missing, none_of, sink_as}
use Rattle.rl_vcd.proofs.LineLemmas.{op_drawn}
use Rattle.rl_vcd.proofs.RecordLemmas.{log_stays, steady_dump, steady_log}
use Rattle.rl_vcd.proofs.SessionLemmas.{line_unknown}
use Rattle.rl_vcd.proofs.session.Session.operation.Goals as goal

pub returns : goal.returns
returns g c =
    let asks = one_is _ c.in-Some.op single (sym c.op_of.ensures.named ∙ c.in-Some.is) in
    let done = c.perform_into.ensures.does in
    let r = c.step.ensures in
    record {
      draws = op_drawn g.K.Sink _ _ _ _ _ _ _ _ _ _ _ c.step.result _ asks done.performs r.taken r.broken c.ran.ensures;
      ready = record { ready = done.ready; parts = done.parts };
      stays = sink_as g.L.Sink _ _ c.step.result _ c.ran.ensures (log_stays g.L.Sink _ _ _ _ _ _ _ r.cause r.steady);
      same = record { log = steady_log _ _ _ _ _ _ _ _ r.steady; dump = steady_dump _ _ _ _ _ _ _ _ r.steady };
    }

pub returns-in_default : goal.returns-in_default
returns-in_default g c =
    line_unknown g.L.Sink g.K.Sink _ _ _ _ c.requires
    (name_missing _ single _ (sym c.op_of.ensures.named ∙ none_of _ c.in_default.not-Some))

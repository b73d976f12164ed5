use Rattle.std.proofs.Common.{refl, sym, ◌∙◌}
use Rattle.rl_play.specs.Work.{single}
use Rattle.rl_play.proofs.LineLemmas.{one_is, plain_ran}
use Rattle.rl_play.proofs.Recorded.{op_logged}
use Rattle.rl_play.proofs.StageLemmas.{name_missing, none_of, sink_as, stage_still}
use Rattle.rl_play.proofs.line.operation.Goals as goal

pub returns-clause-run : goal.returns-clause-run
returns-clause-run g c =
    let asks = one_is _ c.in-Some.op single (sym c.op_of.ensures.named ∙ c.in-Some.is) in
    let logs = op_logged _ _ _ _ _ _ _ _ c.record.result c.perform_into.ensures.does.performs c.record.ensures.whole c.record.ensures.part in
    plain_ran _ (single c.in-Some.op) _ _ c.record.result _ asks (λ told. refl) (λ told. refl) c.ran.ensures logs

pub returns-clause-stays : goal.returns-clause-stays
returns-clause-stays g c = record {
  ready = record { ready = c.perform_into.ensures.does.ready; parts = c.perform_into.ensures.does.parts };
  sink = sink_as g.K.Sink _ _ c.record.result _ c.ran.ensures c.record.ensures.stays;
  same = record { model = refl; device = refl; adapters = refl; out = refl; counts = refl };
}

pub returns-in_default-clause-run : goal.returns-in_default-clause-run
returns-in_default-clause-run g c = name_missing _ single _ (sym c.op_of.ensures.named ∙ none_of _ c.in_default.not-Some)

pub returns-in_default-clause-stays : goal.returns-in_default-clause-stays
returns-in_default-clause-stays g c = stage_still g.D.Device g.K.Sink _ c.args.stage.now _ c.requires.ready

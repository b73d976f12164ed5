use Rattle.std.proofs.Common.{refl, sym, ◌∙◌}
use Rattle.rl_play.specs.Work.{burst_read_work}
use Rattle.rl_play.proofs.LineLemmas.{both_are, plain_ran}
use Rattle.rl_play.proofs.StageLemmas.{map_missing, none_of, number_missing, stage_as, stage_still}
use Rattle.rl_play.proofs.line.read_burst.Goals as goal

pub returns-clause-run : goal.returns-clause-run
returns-clause-run g c =
    let asks = both_are _ _ c.in-Some.mem c.in-Some-map_asked.through
    (λ i t. burst_read_work c.args.stage.now.model.now i t c.args.line.now.first c.args.line.now.second)
    (sym c.mem_at.ensures.named ∙ c.in-Some.is) (sym c.map_asked.ensures.named ∙ c.in-Some-map_asked.is) in
    plain_ran _ _ _ _ c.log_job.result _ asks (λ told. refl) (λ told. refl) c.ran.ensures c.log_job.ensures.logs.tallied.logs

pub returns-clause-stays : goal.returns-clause-stays
returns-clause-stays g c = stage_as g.D.Device g.K.Sink _ _ _ c.log_job.result _ c.ran.ensures c.log_job.ensures.stays

pub returns-in_default-clause-run : goal.returns-in_default-clause-run
returns-in_default-clause-run g c =
    number_missing _ _ (λ i t. burst_read_work c.args.stage.now.model.now i t c.args.line.now.first c.args.line.now.second) _
    (sym c.mem_at.ensures.named ∙ none_of _ c.in_default.not-Some)

pub returns-in_default-clause-stays : goal.returns-in_default-clause-stays
returns-in_default-clause-stays g c = stage_still g.D.Device g.K.Sink _ c.args.stage.now _ c.requires.ready

pub returns-in_default-map_asked-clause-run : goal.returns-in_default-map_asked-clause-run
returns-in_default-map_asked-clause-run g c =
    map_missing _ _ (λ i t. burst_read_work c.args.stage.now.model.now i t c.args.line.now.first c.args.line.now.second) _ c.in-Some.mem
    (sym c.mem_at.ensures.named ∙ c.in-Some.is) (sym c.map_asked.ensures.named ∙ none_of _ c.in_default-map_asked.not-Some)

pub returns-in_default-map_asked-clause-stays : goal.returns-in_default-map_asked-clause-stays
returns-in_default-map_asked-clause-stays g c = stage_still g.D.Device g.K.Sink _ c.args.stage.now _ c.requires.ready

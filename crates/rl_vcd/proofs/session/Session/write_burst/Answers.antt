use Rattle.std.proofs.Common.{Ok, ap, sym, ◌∙◌}
use Rattle.rl_play.specs.Work.{burst_write_work}
use Rattle.rl_play.proofs.LineLemmas.{both_are}
use Rattle.rl_play.proofs.StageLemmas.{map_missing, none_of, number_missing}
use Rattle.rl_vcd.proofs.SessionLemmas.{line_burst, line_unknown}
use Rattle.rl_vcd.proofs.session.Session.write_burst.Goals as goal

pub returns : goal.returns
returns g c =
    let asks = both_are _ _ c.in-Some.mem c.in-Some-map_asked.through
    (λ i t. burst_write_work c.args.self.now.model.now i t c.args.first c.args.values.now)
    (sym c.mem_at.ensures.named ∙ c.in-Some.is) (sym c.map_asked.ensures.named ∙ c.in-Some-map_asked.is)
    ∙ ap (λ values. Ok (burst_write_work c.args.self.now.model.now c.in-Some.mem c.in-Some-map_asked.through c.args.first values))
    (sym c.items-values.ensures.items) in
    let e = c.burst_write.ensures in
    line_burst g.L.Sink g.K.Sink _ _ _ _ _ _ _ _ c.burst_write.result _ asks c.ran.ensures e.hands_over e.model e.ready e.cause e.steady

pub returns-in_default : goal.returns-in_default
returns-in_default g c =
    line_unknown g.L.Sink g.K.Sink _ _ _ _ c.requires
    (number_missing _ _ (λ i t. burst_write_work c.args.self.now.model.now i t c.args.first c.args.values.now) _
    (sym c.mem_at.ensures.named ∙ none_of _ c.in_default.not-Some))

pub returns-in_default-map_asked : goal.returns-in_default-map_asked
returns-in_default-map_asked g c =
    line_unknown g.L.Sink g.K.Sink _ _ _ _ c.requires
    (map_missing _ _ (λ i t. burst_write_work c.args.self.now.model.now i t c.args.first c.args.values.now) _ c.in-Some.mem
    (sym c.mem_at.ensures.named ∙ c.in-Some.is) (sym c.map_asked.ensures.named ∙ none_of _ c.in_default-map_asked.not-Some))

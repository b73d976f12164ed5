use Rattle.std.proofs.Common.{refl, sym, ◌∙◌}
use Rattle.rl_log.specs.Entry.{plan_of}
use Rattle.rl_play.specs.Work.{sequence}
use Rattle.rl_play.proofs.LineLemmas.{one_is}
use Rattle.rl_play.proofs.StageLemmas.{name_missing, none_of, ready_still, sink_as, sink_failed, sink_then}
use Rattle.rl_vcd.proofs.LineLemmas.{begin_failed, closing_drawn, events_failed}
use Rattle.rl_vcd.proofs.RecordLemmas.{log_stays, sequence_drawn, steady_dump, steady_log}
use Rattle.rl_vcd.proofs.SessionLemmas.{line_unknown}
use Rattle.rl_vcd.proofs.session.Session.sequence.Goals as goal

pub returns-in_default : goal.returns-in_default
returns-in_default g c =
    line_unknown g.L.Sink g.K.Sink _ _ _ _ c.requires
    (name_missing _ (λ block. sequence c.args.which c.args.path.now (plan_of c.args.which c.args.self.now.model.now block)) _
    (sym c.block_asked.ensures.named ∙ none_of _ c.in_default.not-Some))

pub returns-in_err-put_sequence_begin : goal.returns-in_err-put_sequence_begin
returns-in_err-put_sequence_begin g c =
    let asks = one_is _ c.in-Some.block (λ block. sequence c.args.which c.args.path.now (plan_of c.args.which c.args.self.now.model.now block))
    (sym c.block_asked.ensures.named ∙ c.in-Some.is) in
    record {
      draws = begin_failed g.K.Sink _ _ _ _ _ _ _ _ c.from_residual.ensures.0 asks c.in_err-put_sequence_begin.ensures.bytes.part;
      ready = ready_still _ _ _ c.requires;
      stays = sink_failed g.L.Sink _ _ _ _ c.in_err-put_sequence_begin.ensures.stays;
      same = record { log = refl; dump = refl };
    }

pub returns-in_err-tally : goal.returns-in_err-tally
returns-in_err-tally g c =
    let asks = one_is _ c.in-Some.block (λ block. sequence c.args.which c.args.path.now (plan_of c.args.which c.args.self.now.model.now block))
    (sym c.block_asked.ensures.named ∙ c.in-Some.is) in
    let begin = c.in_ok-put_sequence_begin.ensures in
    let e = c.in_err-tally.ensures in
    record {
      draws = events_failed g.K.Sink _ _ _ _ _ _ _ _ _ _ _ c.from_residual-in_err-tally.ensures.0 asks begin.bytes.whole
          (sequence_drawn g.L.Sink g.K.Sink _ _ _ _ _ _ e.hands_over);
      ready = record { ready = e.stays.ready; parts = e.stays.parts };
      stays = sink_then g.L.Sink _ _ _ _ _ begin.stays
          (sink_failed g.L.Sink _ _ _ _ (log_stays g.L.Sink _ _ _ _ _ _ _ e.stays.cause e.stays.steady));
      same = record { log = steady_log _ _ _ _ _ _ _ _ e.stays.steady; dump = steady_dump _ _ _ _ _ _ _ _ e.stays.steady };
    }

pub returns : goal.returns
returns g c =
    let asks = one_is _ c.in-Some.block (λ block. sequence c.args.which c.args.path.now (plan_of c.args.which c.args.self.now.model.now block))
    (sym c.block_asked.ensures.named ∙ c.in-Some.is) in
    let begin = c.in_ok-put_sequence_begin.ensures in
    let e = c.in_ok-tally.ensures in
    let ends = c.put_sequence_end.ensures in
    record {
      draws = closing_drawn g.K.Sink _ _ _ _ _ _ _ _ _ _ _ _ _ c.put_sequence_end.result _ asks begin.bytes.whole
          (sequence_drawn g.L.Sink g.K.Sink _ _ _ _ _ _ e.hands_over) c.of.ensures c.ran.ensures ends.bytes;
      ready = record { ready = e.stays.ready; parts = e.stays.parts };
      stays = sink_then g.L.Sink _ _ _ _ _ begin.stays (sink_then g.L.Sink _ _ _ _ _
          (log_stays g.L.Sink _ _ _ _ _ _ _ e.stays.cause e.stays.steady) (sink_as g.L.Sink _ _ c.put_sequence_end.result _ c.ran.ensures ends.stays));
      same = record { log = steady_log _ _ _ _ _ _ _ _ e.stays.steady; dump = steady_dump _ _ _ _ _ _ _ _ e.stays.steady };
    }

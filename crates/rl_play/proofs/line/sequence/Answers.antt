use Rattle.std.proofs.Common.{refl, sym, ◌∙◌}
use Rattle.rl_log.specs.Entry.{plan_of}
use Rattle.rl_play.specs.Work.{sequence}
use Rattle.rl_play.proofs.LineLemmas.{begin_failed, events_failed, closing_ran, one_is}
use Rattle.rl_play.proofs.StageLemmas.{name_missing, none_of, ready_still, sink_as, sink_failed, sink_then, stage_still}
use Rattle.rl_play.proofs.line.sequence.Goals as goal

pub returns-in_err-put_sequence_begin-clause-run : goal.returns-in_err-put_sequence_begin-clause-run
returns-in_err-put_sequence_begin-clause-run g c =
    let asks = one_is _ c.in-Some.block (λ block. sequence c.args.which c.args.path.now (plan_of c.args.which c.args.stage.now.model.now block))
    (sym c.block_asked.ensures.named ∙ c.in-Some.is) in
    begin_failed _ _ _ _ _ _ _ c.from_residual.ensures.0 asks c.in_err-put_sequence_begin.ensures.bytes.part

pub returns-in_err-tally-clause-run : goal.returns-in_err-tally-clause-run
returns-in_err-tally-clause-run g c =
    let asks = one_is _ c.in-Some.block (λ block. sequence c.args.which c.args.path.now (plan_of c.args.which c.args.stage.now.model.now block))
    (sym c.block_asked.ensures.named ∙ c.in-Some.is) in
    events_failed _ _ _ _ _ _ _ _ _ c.from_residual-in_err-tally.ensures.0 asks
    c.in_ok-put_sequence_begin.ensures.bytes.whole c.in_err-tally.ensures.logs.tallied

pub returns-clause-run : goal.returns-clause-run
returns-clause-run g c =
    let asks = one_is _ c.in-Some.block (λ block. sequence c.args.which c.args.path.now (plan_of c.args.which c.args.stage.now.model.now block))
    (sym c.block_asked.ensures.named ∙ c.in-Some.is) in
    closing_ran _ _ _ _ _ _ _ _ _ _ _ c.put_sequence_end.result _ asks c.in_ok-put_sequence_begin.ensures.bytes.whole
    c.in_ok-tally.ensures.logs.tallied c.of.ensures c.ran.ensures c.put_sequence_end.ensures.bytes

pub returns-in_default-clause-run : goal.returns-in_default-clause-run
returns-in_default-clause-run g c =
    name_missing _ (λ block. sequence c.args.which c.args.path.now (plan_of c.args.which c.args.stage.now.model.now block)) _
    (sym c.block_asked.ensures.named ∙ none_of _ c.in_default.not-Some)

pub returns-in_default-clause-stays : goal.returns-in_default-clause-stays
returns-in_default-clause-stays g c = stage_still g.D.Device g.K.Sink _ c.args.stage.now _ c.requires.ready

pub returns-in_err-put_sequence_begin-clause-stays : goal.returns-in_err-put_sequence_begin-clause-stays
returns-in_err-put_sequence_begin-clause-stays g c = record {
  ready = ready_still _ _ _ c.requires.ready;
  sink = sink_failed g.K.Sink _ _ _ _ c.in_err-put_sequence_begin.ensures.stays;
  same = record { model = refl; device = refl; adapters = refl; out = refl; counts = refl };
}

pub returns-in_err-tally-clause-stays : goal.returns-in_err-tally-clause-stays
returns-in_err-tally-clause-stays g c =
    let s = c.in_err-tally.ensures.stays in
    record {
      ready = s.ready;
      sink = sink_then g.K.Sink _ _ _ _ _ c.in_ok-put_sequence_begin.ensures.stays (sink_failed g.K.Sink _ _ _ _ s.sink);
      same = record { model = s.same.model; device = s.same.device; adapters = s.same.adapters; out = s.same.out; counts = s.same.counts };
    }

pub returns-clause-stays : goal.returns-clause-stays
returns-clause-stays g c =
    let s = c.in_ok-tally.ensures.stays in
    let ends = sink_as g.K.Sink _ _ c.put_sequence_end.result _ c.ran.ensures c.put_sequence_end.ensures.stays in
    record {
      ready = s.ready;
      sink = sink_then g.K.Sink _ _ _ _ _ c.in_ok-put_sequence_begin.ensures.stays (sink_then g.K.Sink _ _ _ _ _ s.sink ends);
      same = record { model = s.same.model; device = s.same.device; adapters = s.same.adapters; out = s.same.out; counts = s.same.counts };
    }

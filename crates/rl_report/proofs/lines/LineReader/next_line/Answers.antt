use Rattle.std.proofs.Common.{◌∙◌}
use Rattle.rl_report.proofs.TakenLemmas.{asks_more, on_err}
use Rattle.rl_report.proofs.lines.LineReader.next_line.Goals as goal

pub returns-in_err-take_more-clause-asks : goal.returns-in_err-take_more-clause-asks
returns-in_err-take_more-clause-asks g c =
    let f = asks_more _ _ c.loop-got.invariant.holds c.in_default.ensures.none_whole in
    on_err c.from_residual.result f

pub returns-in-Some-clause-phase : goal.returns-in-Some-clause-phase
returns-in-Some-clause-phase g c = record {
  asked = c.take_line.ensures.phase.asked ∙ c.loop-got.invariant.asked;
  found = c.take_line.ensures.phase.found ∙ c.loop-got.invariant.found;
  ended = λ at_end. c.take_line.ensures.phase.ended (c.loop-got.invariant.stays_ended at_end);
  closed = λ told. c.take_line.ensures.phase.closed (c.loop-got.invariant.closed ∙ told);
}

pub returns-in-Some-clause-held : goal.returns-in-Some-clause-held
returns-in-Some-clause-held g c = c.take_line.ensures.held

pub returns-in_err-take_more-clause-phase : goal.returns-in_err-take_more-clause-phase
returns-in_err-take_more-clause-phase g c = record {
  asked = c.take_more.ensures.phase.asked ∙ c.take_line.ensures.phase.asked ∙ c.loop-got.invariant.asked;
  found = c.take_more.ensures.found ∙ c.take_line.ensures.phase.found ∙ c.loop-got.invariant.found;
  ended = λ at_end. c.take_more.ensures.phase.ended (c.take_line.ensures.phase.ended (c.loop-got.invariant.stays_ended at_end));
  closed = λ told. c.take_more.ensures.phase.closed ∙ c.take_line.ensures.phase.closed (c.loop-got.invariant.closed ∙ told);
}

pub returns-in_err-take_more-clause-held : goal.returns-in_err-take_more-clause-held
returns-in_err-take_more-clause-held g c = c.take_more.ensures.held

use Rattle.std.proofs.Common.{arith, ap, length, ◌∙◌, sym}
use Rattle.rl_report.specs.Reading.{input_of}
use Rattle.rl_report.proofs.TakenLemmas.{passes_start, keeps_head, from_err, head_fault_after}
use Rattle.rl_report.specs.Lines.{first_line}
use Rattle.rl_report.proofs.lines.LineReader.read_head.Goals as goal

pub loop-taken-init : goal.loop-taken-init
loop-taken-init g c =
    record {
      input = keeps_head _ _ _ c.requires.empty (ap (λ r. input_of r (g.S.Source.left c.args.source.now)) c.begin.ensures);
      passes = passes_start _ c.requires.empty;
      few = omega (arith, ap length c.requires.empty);
      asked = ap (λ r. r.asked) c.begin.ensures;
      found = ap (λ r. r.found) c.begin.ensures;
      refused = ap (λ r. r.refused) c.begin.ensures;
      ended = λ e. ap (λ r. r.ended) c.begin.ensures ∙ e;
      closed = ap (λ r. r.closed) c.begin.ensures;
      line = ap (λ r. r.line) c.begin.ensures;
      later = omega arith;
    }

pub returns-then-is_err-clause-at_fault : goal.returns-then-is_err-clause-at_fault
returns-then-is_err-clause-at_fault g c =
    let kept = from_err c.take_more.result (sym c.is_err.ensures.value ∙ c.if-is_err.true) c.take_more.ensures.kept in
    let nothing = rw c.in-Nothing.is at c.in-Ok.ensures.took in
    λ e. head_fault_after _ _ c.take_more.new.self _ _ c.loop-taken.starts _ _ _ nothing c.loop-taken.invariant.input c.loop-taken.invariant.passes c.take_more.ensures.input kept.0 kept.1

pub returns-in_default-clause-asked : goal.returns-in_default-clause-asked
returns-in_default-clause-asked g c = c.take_part.ensures.phase.asked ∙ c.loop-taken.invariant.asked

pub returns-in_default-clause-refused : goal.returns-in_default-clause-refused
returns-in_default-clause-refused g c = c.take_part.ensures.phase.refused ∙ c.loop-taken.invariant.refused

pub returns-in_default-clause-ended : goal.returns-in_default-clause-ended
returns-in_default-clause-ended g c = λ at_end. c.take_part.ensures.phase.ended (c.loop-taken.invariant.ended at_end)

pub returns-in_default-clause-closed : goal.returns-in_default-clause-closed
returns-in_default-clause-closed g c = c.take_part.ensures.phase.closed ∙ c.loop-taken.invariant.closed

pub returns-in_default-clause-line : goal.returns-in_default-clause-line
returns-in_default-clause-line g c = c.take_part.ensures.line ∙ c.loop-taken.invariant.line

pub returns-in_default-clause-later : goal.returns-in_default-clause-later
returns-in_default-clause-later g c = c.loop-taken.invariant.later

pub returns-in-Last-clause-asked : goal.returns-in-Last-clause-asked
returns-in-Last-clause-asked g c = c.take_part.ensures.phase.asked ∙ c.loop-taken.invariant.asked

pub returns-in-Last-clause-refused : goal.returns-in-Last-clause-refused
returns-in-Last-clause-refused g c = c.take_part.ensures.phase.refused ∙ c.loop-taken.invariant.refused

pub returns-in-Last-clause-ended : goal.returns-in-Last-clause-ended
returns-in-Last-clause-ended g c = λ at_end. c.take_part.ensures.phase.ended (c.loop-taken.invariant.ended at_end)

pub returns-in-Last-clause-closed : goal.returns-in-Last-clause-closed
returns-in-Last-clause-closed g c = c.take_part.ensures.phase.closed ∙ c.loop-taken.invariant.closed

pub returns-in-Last-clause-line : goal.returns-in-Last-clause-line
returns-in-Last-clause-line g c = c.take_part.ensures.line ∙ c.loop-taken.invariant.line

pub returns-in-Last-clause-later : goal.returns-in-Last-clause-later
returns-in-Last-clause-later g c = c.loop-taken.invariant.later

pub returns-then-is_err-clause-asked : goal.returns-then-is_err-clause-asked
returns-then-is_err-clause-asked g c = c.take_more.ensures.phase.asked ∙ c.take_part.ensures.phase.asked ∙ c.loop-taken.invariant.asked

pub returns-then-is_err-clause-refused : goal.returns-then-is_err-clause-refused
returns-then-is_err-clause-refused g c = c.take_more.ensures.phase.refused ∙ c.take_part.ensures.phase.refused ∙ c.loop-taken.invariant.refused

pub returns-then-is_err-clause-ended : goal.returns-then-is_err-clause-ended
returns-then-is_err-clause-ended g c = λ at_end. c.take_more.ensures.phase.ended (c.take_part.ensures.phase.ended (c.loop-taken.invariant.ended at_end))

pub returns-then-is_err-clause-closed : goal.returns-then-is_err-clause-closed
returns-then-is_err-clause-closed g c = c.take_more.ensures.phase.closed ∙ c.take_part.ensures.phase.closed ∙ c.loop-taken.invariant.closed

pub returns-then-is_err-clause-line : goal.returns-then-is_err-clause-line
returns-then-is_err-clause-line g c = c.take_more.ensures.line ∙ c.take_part.ensures.line ∙ c.loop-taken.invariant.line

pub take_more-requires-clause-short : goal.take_more-requires-clause-short
take_more-requires-clause-short g c =
    let nothing = rw c.in-Nothing.is at c.in-Ok.ensures.took in
    omega (arith, ap (λ r. length r.pending) nothing.same, nothing.few)

pub take_more-requires-clause-none_whole : goal.take_more-requires-clause-none_whole
take_more-requires-clause-none_whole g c =
    let nothing = rw c.in-Nothing.is at c.in-Ok.ensures.took in
    ap (λ r. first_line r.pending) nothing.same ∙ nothing.none_whole ∙ ap (λ r. r.pending) (sym nothing.same)

pub take_more-requires-clause-going : goal.take_more-requires-clause-going
take_more-requires-clause-going g c =
    let nothing = rw c.in-Nothing.is at c.in-Ok.ensures.took in
    ap (λ r. r.ended) nothing.same ∙ nothing.going

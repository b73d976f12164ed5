use Rattle.std.proofs.Common.{arith, refl, ap, ◌∙◌}
use Rattle.std.proofs.KnownBytes.{Appends-nil}
use Rattle.rl_play.specs.declared.playing.Turn.TheVariants.{Stop}
use Rattle.rl_play.proofs.FaultLemmas.{still_going}
use Rattle.rl_play.proofs.LeavesLemmas.{leaves_behind, leaves_going, leaves_none, leaves_on}
use Rattle.rl_play.proofs.PlayLemmas.{passes_first, passes_both, ends_both}
use Rattle.rl_vcd.proofs.session.Session.run_script.Goals as goal

pub loop-number-init : goal.loop-number-init
loop-number-init g c = record {
  ready = c.requires.ready;
  parts = record { chip = refl; layout = refl };
  found = c.requires.found;
  going = c.requires.going;
  ended = λ ended. ended;
  in_range = omega arith;
  leaves = leaves_none g.L.Sink _ _;
  going_on = passes_first _ _ _ (Appends-nil _);
  breaking = λ ended left last h. h;
  same = record { log = refl; dump = refl };
  drawing = λ left last status dump going d. d;
}

pub loop-number-preserved : goal.loop-number-preserved
loop-number-preserved g c =
    let i = c.loop-number.invariant in
    let e = c.run_next.ensures in
    let p = e.draws.plays in
    let last = p.last c.in-Next.is in
    record {
      ready = e.ready.ready;
      parts = record { chip = e.ready.parts.chip ∙ i.parts.chip; layout = e.ready.parts.layout ∙ i.parts.layout };
      found = e.leaves.reads.found;
      going = e.leaves.reads.going c.in-Next.is;
      ended = λ ended. e.leaves.reads.ended (i.ended ended);
      in_range = omega (arith, last);
      leaves = leaves_on g.L.Sink _ _ _ _ _ _ _ _ i.leaves (leaves_going g.L.Sink _ _ _ _ _ e.leaves.leaves);
      going_on = passes_both _ _ _ _ _ _ i.going_on (p.next c.in-Next.is);
      breaking = λ ended left last h. i.breaking (still_going _ _ e.leaves.reads.ended ended) left last
          (p.later_fault c.in-Next.is ended left last h);
      same = record { log = e.same.log ∙ i.same.log; dump = e.same.dump ∙ i.same.dump };
      drawing = λ left last status dump going d. i.drawing left last status dump
          (λ f. still_going _ _ e.leaves.reads.ended (going f)) (e.draws.draws_next c.in-Next.is left last status dump going d);
    }

pub returns-in-Stop-clause-draws : goal.returns-in-Stop-clause-draws
returns-in-Stop-clause-draws g c =
    let i = c.loop-number.invariant in
    let e = c.run_next.ensures in
    let p = e.draws.plays in
    record {
      draws = i.drawing _ _ _ _ (λ is. (e.leaves.goes_on (c.in-Stop.is ∙ ap Stop is)).unended) (e.draws.draws_stop _ c.in-Stop.is);
      log = ends_both _ _ _ _ _ _ _ _ _ _ i.going_on (p.stop _ c.in-Stop.is);
      at_fault = λ is. let stop = c.in-Stop.is ∙ ap Stop is in
          i.breaking (e.leaves.goes_on stop).unended _ _ (p.at_fault stop);
    }

pub returns-in-Stop-clause-leaves : goal.returns-in-Stop-clause-leaves
returns-in-Stop-clause-leaves g c =
    let i = c.loop-number.invariant in
    leaves_behind g.L.Sink _ _ _ _ _ _ _ _ _ _ _ _ _ i.ended i.leaves c.in-Stop.is c.run_next.ensures.leaves

pub returns-in-Stop-clause-ready : goal.returns-in-Stop-clause-ready
returns-in-Stop-clause-ready g c = c.run_next.ensures.ready.ready

pub returns-in-Stop-clause-parts : goal.returns-in-Stop-clause-parts
returns-in-Stop-clause-parts g c =
    let first = c.loop-number.invariant.parts in
    let last = c.run_next.ensures.ready.parts in
    record { chip = last.chip ∙ first.chip; layout = last.layout ∙ first.layout }

pub returns-in-Stop-clause-same : goal.returns-in-Stop-clause-same
returns-in-Stop-clause-same g c =
    let i = c.loop-number.invariant.same in
    let e = c.run_next.ensures.same in
    record { log = e.log ∙ i.log; dump = e.dump ∙ i.dump }

pub loop-number-smaller : goal.loop-number-smaller
loop-number-smaller g c = omega (arith, c.run_next.ensures.draws.plays.last c.in-Next.is)

pub overflow_add-number : goal.overflow_add-number
overflow_add-number g c = omega (arith, c.loop-number.invariant.in_range)

pub run_next-requires-clause-ready : goal.run_next-requires-clause-ready
run_next-requires-clause-ready g c = c.loop-number.invariant.ready

pub run_next-requires-clause-found : goal.run_next-requires-clause-found
run_next-requires-clause-found g c = c.loop-number.invariant.found

pub run_next-requires-clause-going : goal.run_next-requires-clause-going
run_next-requires-clause-going g c = c.loop-number.invariant.going

use Rattle.std.proofs.Common.{arith, refl, ap, ◌∙◌}
use Rattle.std.proofs.KnownBytes.{Appends-nil}
use Rattle.rl_play.specs.declared.playing.Turn.TheVariants.{Stop}
use Rattle.rl_play.proofs.FaultLemmas.{still_going}
use Rattle.rl_play.proofs.LeavesLemmas.{leaves_behind, leaves_going, leaves_none, leaves_on}
use Rattle.rl_play.proofs.PlayLemmas.{passes_first, passes_both, ends_both}
use Rattle.rl_play.proofs.playing.play_lines.Goals as goal

pub loop-number-init : goal.loop-number-init
loop-number-init g c = record {
  ready = c.requires.ready;
  parts = record { chip = refl; layout = refl };
  found = c.requires.found;
  going = c.requires.going;
  ended = λ ended. ended;
  in_range = omega arith;
  leaves = leaves_none g.L.Sink _ _;
  going_on = passes_first _ _ _ (Appends-nil _);
  breaking = λ ended left last h. h;
  cutting = λ ended next others k. k;
  doing = λ total last standings state h. h;
  playing = λ last status p. p;
  taking = λ ended left last p. p;
}

pub loop-number-preserved : goal.loop-number-preserved
loop-number-preserved g c =
    let i = c.loop-number.invariant in
    let e = c.play_line.ensures in
    let last = e.plays.last c.in-Next.is in
    record {
      ready = e.ready.ready;
      parts = record { chip = e.ready.parts.chip ∙ i.parts.chip; layout = e.ready.parts.layout ∙ i.parts.layout };
      found = e.leaves.reads.found;
      going = e.leaves.reads.going c.in-Next.is;
      ended = λ ended. e.leaves.reads.ended (i.ended ended);
      in_range = omega (arith, last);
      leaves = leaves_on g.L.Sink _ _ _ _ _ _ _ _ i.leaves (leaves_going g.L.Sink _ _ _ _ _ e.leaves.leaves);
      going_on = passes_both _ _ _ _ _ _ i.going_on (e.plays.next c.in-Next.is);
      breaking = λ ended left last h. i.breaking (still_going _ _ e.leaves.reads.ended ended) left last
          (e.plays.later_fault c.in-Next.is ended left last h);
      cutting = λ ended next others k. i.cutting (still_going _ _ e.leaves.reads.ended ended) next others
          (e.plays.later_cut c.in-Next.is ended next others k);
      doing = λ total last standings state h. i.doing total last standings state
          (e.plays.done_next c.in-Next.is total last standings state h);
      playing = λ last status p. i.playing last status (e.plays.plays_next c.in-Next.is last status p);
      taking = λ ended left last p. i.taking (still_going _ _ e.leaves.reads.ended ended) left last
          (e.plays.later_taken c.in-Next.is ended left last p);
    }

pub returns-in-Stop-clause-plays : goal.returns-in-Stop-clause-plays
returns-in-Stop-clause-plays g c =
    let i = c.loop-number.invariant in
    let e = c.play_line.ensures in
    record {
      on_any_device = i.playing _ _ (e.plays.plays_stop _ c.in-Stop.is);
      taken = λ is. let stop = c.in-Stop.is ∙ ap Stop is in i.taking (e.leaves.goes_on stop).unended _ _ (e.plays.taken stop);
      log = ends_both _ _ _ _ _ _ _ _ _ _ i.going_on (e.plays.stop _ c.in-Stop.is);
      at_fault = λ is. let stop = c.in-Stop.is ∙ ap Stop is in
          i.breaking (e.leaves.goes_on stop).unended _ _ (e.plays.at_fault stop);
      done = i.doing _ _ _ _ (e.plays.done_stop _ c.in-Stop.is);
      none_lost = λ is. let stop = c.in-Stop.is ∙ ap Stop is in i.cutting (e.leaves.goes_on stop).unended _ _ (e.plays.cut stop);
      counted = rw c.in-Stop.is at e.plays.counted;
    }

pub returns-in-Stop-clause-leaves : goal.returns-in-Stop-clause-leaves
returns-in-Stop-clause-leaves g c =
    let i = c.loop-number.invariant in
    leaves_behind g.L.Sink _ _ _ _ _ _ _ _ _ _ _ _ _ i.ended i.leaves c.in-Stop.is c.play_line.ensures.leaves

pub returns-in-Stop-clause-ready : goal.returns-in-Stop-clause-ready
returns-in-Stop-clause-ready g c = c.play_line.ensures.ready.ready

pub returns-in-Stop-clause-parts : goal.returns-in-Stop-clause-parts
returns-in-Stop-clause-parts g c =
    let first = c.loop-number.invariant.parts in
    let last = c.play_line.ensures.ready.parts in
    record { chip = last.chip ∙ first.chip; layout = last.layout ∙ first.layout }

pub loop-number-smaller : goal.loop-number-smaller
loop-number-smaller g c = omega (arith, c.play_line.ensures.plays.last c.in-Next.is)

pub overflow_add-number : goal.overflow_add-number
overflow_add-number g c = omega (arith, c.loop-number.invariant.in_range)

pub play_line-requires-clause-ready : goal.play_line-requires-clause-ready
play_line-requires-clause-ready g c = c.loop-number.invariant.ready

pub play_line-requires-clause-found : goal.play_line-requires-clause-found
play_line-requires-clause-found g c = c.loop-number.invariant.found

pub play_line-requires-clause-going : goal.play_line-requires-clause-going
play_line-requires-clause-going g c = c.loop-number.invariant.going

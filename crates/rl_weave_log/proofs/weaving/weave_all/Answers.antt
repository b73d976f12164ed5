use Rattle.std.proofs.Common.{arith, refl, ap, ◌∙◌}
use Rattle.std.proofs.KnownBytes.{Appends-nil}
use Rattle.rl_play.specs.declared.playing.Turn.TheVariants.{Stop}
use Rattle.rl_play.proofs.FaultLemmas.{still_going}
use Rattle.rl_play.proofs.LeavesLemmas.{leaves_behind, leaves_going, leaves_none, leaves_on}
use Rattle.rl_play.proofs.PlayLemmas.{passes_both, ends_both}
use Rattle.rl_weave_log.proofs.Lines.{passes_begun}
use Rattle.rl_weave_log.proofs.StageLemmas.{stays_here, stays_then}
use Rattle.rl_weave_log.proofs.weaving.weave_all.Goals as goal

pub loop-number-init : goal.loop-number-init
loop-number-init g c = record {
  stays = stays_here g.D.Device _ c.args.stage.now c.requires.line.gathering.ready;
  group = c.requires.line.gathering.group;
  found = c.requires.line.found;
  going = c.requires.line.going;
  ended = λ ended. ended;
  in_range = omega arith;
  leaves = leaves_none g.L.Sink _ _;
  going_on = passes_begun _ _ _ _ _ _ (g.L.Sink.written c.args.stage.now.out.now) _ _ _ _ refl (Appends-nil _);
  breaking = λ ended rest last h. h;
}

pub loop-number-preserved : goal.loop-number-preserved
loop-number-preserved g c =
    let i = c.loop-number.invariant in
    let e = c.weave_line.ensures in
    let next = c.in-Next.is in
    let last = e.weaves.last next in
    record {
      stays = stays_then g.D.Device _ _ _ _ _ i.stays e.stays;
      group = e.group next;
      found = e.leaves.reads.found;
      going = e.leaves.reads.going next;
      ended = λ ended. e.leaves.reads.ended (i.ended ended);
      in_range = omega (arith, last);
      leaves = leaves_on g.L.Sink _ _ _ _ _ _ _ _ i.leaves (leaves_going g.L.Sink _ _ _ _ _ e.leaves.leaves);
      going_on = passes_both _ _ _ _ _ _ i.going_on (e.weaves.next next);
      breaking = λ ended rest last h. i.breaking (still_going _ _ e.leaves.reads.ended ended) rest last
          (e.weaves.later_fault next ended rest last h);
    }

pub returns-in-Stop-clause-stays : goal.returns-in-Stop-clause-stays
returns-in-Stop-clause-stays g c = stays_then g.D.Device _ _ _ _ _ c.loop-number.invariant.stays c.weave_line.ensures.stays

pub returns-in-Stop-clause-weaves : goal.returns-in-Stop-clause-weaves
returns-in-Stop-clause-weaves g c =
    let i = c.loop-number.invariant in
    let e = c.weave_line.ensures in
    record {
      log = ends_both _ _ _ _ _ _ _ _ _ _ i.going_on (e.weaves.stop _ c.in-Stop.is);
      at_fault = λ is. let stop = c.in-Stop.is ∙ ap Stop is in
          i.breaking (e.leaves.goes_on stop).unended _ _ (e.weaves.at_fault stop);
      counted = rw c.in-Stop.is at e.weaves.counted;
    }

pub returns-in-Stop-clause-leaves : goal.returns-in-Stop-clause-leaves
returns-in-Stop-clause-leaves g c =
    let i = c.loop-number.invariant in
    leaves_behind g.L.Sink _ _ _ _ _ _ _ _ _ _ _ _ _ i.ended i.leaves c.in-Stop.is c.weave_line.ensures.leaves

use Rattle.std.proofs.Common.{◌≡◌, ◌≢◌, Err, ap, ◌∙◌}
use Rattle.rl_log.specs.declared.status.Status.TheVariants.{SourceFault}
use Rattle.rl_play.proofs.EndingLemmas.{counted_none}
use Rattle.rl_play.proofs.FaultLemmas.{no_source}
use Rattle.rl_play.proofs.LeavesLemmas.{counted_turn, leaves_ended, leaves_taken, leaves_untaken, no_source_turn, stop_is_no_next, stopped}
use Rattle.rl_play.proofs.PlayLemmas.{early_stops}
use Rattle.rl_report.specs.declared.lines.Got.TheVariants as got
use Rattle.rl_weave_log.proofs.Faults.{breaks_here, breaks_later}
use Rattle.rl_weave_log.proofs.Lines.{ends_at_end, next_passes, stop_ends}
use Rattle.rl_weave_log.proofs.weaving.weave_line.Goals as goal

pub returns-in-Err-clause-leaves : goal.returns-in-Err-clause-leaves
returns-in-Err-clause-leaves g c =
    let e = c.take_line.ensures in
    leaves_untaken g.L.Sink _ _ _ _ _ _ _ c.in-Err.status e.found e.ended
    (λ fault. (e.at_fault (c.in-Err.is ∙ ap Err fault)).goes_on) c.in-Err.ensures.leaves

pub returns-then-is_end-clause-leaves : goal.returns-then-is_end-clause-leaves
returns-then-is_end-clause-leaves g c =
    let e = c.take_line.ensures in
    leaves_ended g.L.Sink _ _ _ _ _ _ _ _ _ c.end_script.result e.found e.ended c.in-Ok.ensures.leaves c.end_script.ensures.leaves

pub returns-clause-leaves : goal.returns-clause-leaves
returns-clause-leaves g c =
    let e = c.take_line.ensures in
    let r = c.take_in_handed.ensures in
    leaves_taken g.L.Sink _ _ _ _ _ _ _ _ _ c.take_in_handed.result e.found (λ is. c.in-Ok.ensures.going (r.short is)) e.ended
    c.in-Ok.ensures.leaves r.stays.leaves

pub returns-in-Err-clause-weaves : goal.returns-in-Err-clause-weaves
returns-in-Err-clause-weaves g c =
    let e = c.take_line.ensures in
    record {
      next = λ is. absurd (stop_is_no_next c.in-Err.status is);
      stop = λ status is. let same = stopped c.in-Err.status status is in
          early_stops _ c.in-Err.status status _ _ _ _ _ _ same c.in-Err.ensures.broken c.in-Err.ensures.told;
      at_fault = λ is. let fault = stopped c.in-Err.status SourceFault is in
          let cut = e.at_fault (c.in-Err.is ∙ ap Err fault) in
          breaks_here _ _ c.args.script.now.weave c.args.stage.now.model.now _ _ _ _ _ _ _ c.take_line.new.lines cut.none_lost
          (cut.none_whole, cut.still) c.in-Err.ensures.told;
      later_fault = λ is. absurd (stop_is_no_next c.in-Err.status is);
      last = λ is. absurd (stop_is_no_next c.in-Err.status is);
      counted = counted_none c.in-Err.status _ c.in-Err.ensures.broken;
    }

pub returns-then-is_end-clause-weaves : goal.returns-then-is_end-clause-weaves
returns-then-is_end-clause-weaves g c =
    let is_end : c.in-Ok.got ≡ got.End = c.is_end.ensures.end c.if-is_end.true in
    record {
      next = λ is. absurd (stop_is_no_next c.end_script.result is);
      stop = λ status is. let same = stopped c.end_script.result status is in
          ends_at_end _ _ c.args.script.now.weave c.args.stage.now.model.now _ _ (g.L.Sink.written c.args.stage.now.out.now) _ _ _ _ _ _ c.in-Ok.got
          c.take_line.new.lines _ c.end_script.result status _ _ _ is_end same c.in-Ok.ensures.handed c.in-Ok.ensures.told
          c.end_script.ensures.ends;
      at_fault = λ is. let fault = stopped c.end_script.result SourceFault is in
          absurd (no_source _ _ _ c.end_script.ensures.leaves.cause fault);
      later_fault = λ is. absurd (stop_is_no_next c.end_script.result is);
      last = λ is. absurd (stop_is_no_next c.end_script.result is);
      counted = c.end_script.ensures.counted;
    }

pub returns-clause-weaves : goal.returns-clause-weaves
returns-clause-weaves g c =
    let not_end : c.in-Ok.got ≢ got.End = c.is_end.ensures.more c.if-is_end.false in
    let handed = c.in-Ok.ensures.handed in
    let told = c.in-Ok.ensures.told in
    let r = c.take_in_handed.ensures in
    record {
      next = λ is. next_passes _ _ c.args.script.now.weave _ c.args.stage.now.model.now _ _ _ _ _ _ (g.L.Sink.written c.args.stage.now.out.now) _ _ _ _
          _ _ c.in-Ok.got _ c.take_line.new.lines _ not_end (r.short is) handed c.line-line.ensures told (rw is at r.turn);
      stop = λ status is. stop_ends _ _ c.args.script.now.weave _ c.args.stage.now.model.now _ _ _ _ _ _ (g.L.Sink.written c.args.stage.now.out.now) _ _
          _ _ _ _ c.in-Ok.got _ c.take_line.new.lines _ status not_end handed c.line-line.ensures told (rw is at r.turn);
      at_fault = λ is. absurd (no_source_turn c.take_in_handed.result _ _ r.stays.leaves.cause is);
      later_fault = λ is going left last f. breaks_later _ _ c.args.script.now.weave _ c.args.stage.now.model.now _ _ _ _ _ _
          (g.L.Sink.written c.args.stage.now.out.now) _ _ _ _ _ c.in-Ok.got _ c.take_line.new.lines _ left last not_end (r.short is) handed
          c.line-line.ensures told (rw is at r.turn) going f;
      last = r.last;
      counted = counted_turn c.take_in_handed.result _ r.stays.counted;
    }

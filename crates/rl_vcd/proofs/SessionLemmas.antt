-- A line of a session that was run, drawn and written, put together from what its calls tell.
use Rattle.std.proofs.Common.{◌≡◌, ℕ, List, None, Some, Result, Ok, Err, refl, sym, ap, subst}
use Rattle.std.specs.declared.option.Option.{Option}
use Rattle.rl_access.specs.declared.event.Op.{Op}
use Rattle.rl_access.specs.declared.event.Tally.{Tally}
use Rattle.rl_access.specs.Model.{IsReady, ModelData}
use Rattle.rl_access.specs.Rules.{Grant}
use Rattle.rl_access.specs.Runs.{IsBurst}
use Rattle.rl_bench.specs.State.{bench_state}
use Rattle.rl_bus.specs.Causes.{HasCause}
use Rattle.rl_bus.specs.Standing.{Standing}
use Rattle.rl_bus.specs.declared.device.Failed.{Failed}
use Rattle.rl_log.specs.declared.refusal.LineRefusal.{LineRefusal}
use Rattle.rl_log.specs.declared.status.Status.TheVariants.{SinkFault}
use Rattle.rl_play.specs.AnyDevice.{RunsOn}
use Rattle.rl_play.specs.Work.{Work, asked, burst}
use Rattle.rl_play.specs.declared.playing.Turn.{Turn}
use Rattle.rl_play.specs.declared.playing.Turn.TheVariants.{Next, Stop}
use Rattle.rl_play.proofs.LeavesLemmas.{leaves_failed, leaves_went, not_by_counts}
use Rattle.rl_play.proofs.LineLemmas.{GoesAs}
use Rattle.rl_play.proofs.StageLemmas.{ready_still, sink_as, sink_still}
use Rattle.rl_report.specs.declared.sink.Sink.{Ghosts as Sink}
use Rattle.rl_script.specs.declared.line.Line.TheVariants as say
use Rattle.rl_vcd.specs.Lines.{DrawsOn, DrawsStop, DrawsWhole}
use Rattle.rl_vcd.specs.Playing.{CanRun, RunsLine, RunsTurn, spot_of}
use Rattle.rl_vcd.specs.declared.session.Session.{Session}
use Rattle.rl_vcd.proofs.LineLemmas.{burst_ran, ran_blank}
use Rattle.rl_vcd.proofs.RecordLemmas.{Breaks, Takes, burst_drawn, log_stays, steady, steady_dump, steady_log}

module _ {L K : Type 0} (log : Sink L) (sink : Sink K) where
  -- nothing was done
  stays_put : (given : Result Work LineRefusal) (adapters : List Standing) (s : Session L K) (o : Option LineRefusal) → CanRun adapters s
      → DrawsOn sink given (spot_of log s adapters) (spot_of log s adapters) s.pen.dump.now s.pen.dump.now (Ok o)
      → RunsLine log sink given adapters adapters s s (Ok o)
  stays_put given adapters s o ready d = record {
    draws = d;
    ready = ready_still s.model.now adapters (Some (bench_state s.bench.now)) ready;
    stays = sink_still log s.pen.log.now o;
    same = record { log = refl; dump = refl };
  }

  -- a name isn't there
  pub line_unknown : (given : Result Work LineRefusal) (why : LineRefusal) (adapters : List Standing) (s : Session L K) → CanRun adapters s
      → RunsOn given (spot_of log s adapters) (spot_of log s adapters) (Ok (Some why))
      → RunsLine log sink given adapters adapters s s (Ok (Some why))
  line_unknown given why adapters s ready r = stays_put given adapters s (Some why) ready (r.0, refl, refl)

  pub line_blank : (adapters : List Standing) (s : Session L K) → CanRun adapters s
      → RunsLine log sink (asked s.model.now (Ok say.Blank)) adapters adapters s s (Ok None)
  line_blank adapters s ready =
      stays_put (asked s.model.now (Ok say.Blank)) adapters s None ready
      (ran_blank sink s.model.now (Ok say.Blank) (spot_of log s adapters) s.pen.dump.now refl)

  pub line_as : (given other : Result Work LineRefusal) (adapters now : List Standing) (old new : Session L K)
      (r : Result (Option LineRefusal) Failed) → given ≡ other → RunsLine log sink other adapters now old new r
      → RunsLine log sink given adapters now old new r
  line_as given other adapters now old new r same h =
      subst (λ given. RunsLine log sink given adapters now old new r) (sym same) h

  pub line_burst : (given : Result Work LineRefusal) (granted : Grant) (op : Op) (ops : List Op) (adapters now : List Standing)
      (old new : Session L K) (went : Result Tally Failed) (r : Result (Option LineRefusal) Failed)
      → given ≡ Ok (burst granted op ops) → GoesAs went r
      → IsBurst (Takes log sink) (Breaks log sink) old.pen new.pen (spot_of log old adapters).scene (spot_of log new now).scene granted op ops went
      → new.model.now ≡ old.model.now → CanRun now new → HasCause (log.faults old.pen.log.now) (log.faults new.pen.log.now) went
      → steady log sink new.pen ≡ steady log sink old.pen → RunsLine log sink given adapters now old new r
  line_burst given granted op ops adapters now old new went r is so done same ready cause kept = record {
    draws = burst_ran sink given granted op ops (spot_of log old adapters) (spot_of log new now) old.pen.dump.now new.pen.dump.now went r is so
        (burst_drawn log sink granted op ops (spot_of log old adapters).scene (spot_of log new now).scene old.pen new.pen went done);
    ready = record {
      ready = ready;
      parts = record { chip = ap (λ (m : ModelData). m.chip) same; layout = ap (λ (m : ModelData). m.layout) same };
    };
    stays = sink_as log old.pen.log.now new.pen.log.now went r so (log_stays log old.pen.log.now new.pen.log.now _ _ _ _ went cause kept);
    same = record { log = steady_log _ _ _ _ _ _ _ _ kept; dump = steady_dump _ _ _ _ _ _ _ _ kept };
  }

  -- ---- a turn

  -- the line was run
  pub turn_next : (number : ℕ) (given other : Result Work LineRefusal) (o : Option LineRefusal) (adapters now : List Standing)
      (old new : Session L K) → given ≡ other → o ≡ None → RunsLine log sink other adapters now old new (Ok o)
      → RunsTurn log sink number given adapters now old new Next
  turn_next number given other o adapters now old new is none r =
      let h : RunsLine log sink other adapters now old new (Ok None) = subst (λ o. RunsLine log sink other adapters now old new (Ok o)) none r in
      record {
        draws = subst (λ given. DrawsWhole sink given (spot_of log old adapters) (spot_of log new now) old.pen.dump.now new.pen.dump.now)
            (sym is) h.draws;
        counted = tt;
        ready = h.ready;
        leaves = leaves_went log old.pen.log.now new.pen.log.now _ h.stays;
        same = h.same;
      }

  -- the log failed at it
  pub turn_failed : (number : ℕ) (given other : Result Work LineRefusal) (failed : Failed) (adapters now : List Standing) (old new : Session L K)
      → given ≡ other → RunsLine log sink other adapters now old new (Err failed)
      → RunsTurn log sink number given adapters now old new (Stop SinkFault)
  turn_failed number given other failed adapters now old new is h = record {
    draws = subst (λ given. DrawsStop sink number given (spot_of log old adapters) (spot_of log new now) SinkFault old.pen.dump.now new.pen.dump.now)
        (sym is) (h.draws number);
    counted = not_by_counts SinkFault refl;
    ready = h.ready;
    leaves = leaves_failed log old.pen.log.now new.pen.log.now failed h.stays;
    same = h.same;
  }

  pub turn_as : (number : ℕ) (given other : Result Work LineRefusal) (adapters now : List Standing) (old new : Session L K) (turn : Turn)
      → given ≡ other → RunsTurn log sink number other adapters now old new turn → RunsTurn log sink number given adapters now old new turn
  turn_as number given other adapters now old new turn is h =
      subst (λ given. RunsTurn log sink number given adapters now old new turn) (sym is) h

use Rattle.std.proofs.Common.{Err, ap, refl, sym, ◌∙◌}
use Rattle.rl_log.specs.declared.status.Status.TheVariants.{Memory}
use Rattle.rl_play.specs.Work.{asked}
use Rattle.rl_play.proofs.LeavesLemmas.{leaves_unmade, leaves_went, leaves_written, not_by_counts}
use Rattle.rl_play.proofs.PlayLemmas.{read_not, read_ok, refusal_is}
use Rattle.rl_play.proofs.StageLemmas.{ready_still}
use Rattle.rl_vcd.proofs.LineLemmas.{read_refused, stops_early, unknown_stops}
use Rattle.rl_vcd.proofs.SessionLemmas.{turn_failed, turn_next}
use Rattle.rl_vcd.proofs.session.Session.run_read.Goals as goal

pub returns-in-Ok-None : goal.returns-in-Ok-None
returns-in-Ok-None g c =
    turn_next g.L.Sink g.K.Sink c.args.number _ _ _ _ _ _ _
    (ap (asked c.args.self.now.model.now) (read_ok c.args.line.now c.args.read.now _ c.in-Ok.is c.requires.read))
    c.in-Ok-None.field-0-is c.in-Ok-None.ensures

pub returns-in-Ok-Some : goal.returns-in-Ok-Some
returns-in-Ok-Some g c =
    let r = c.in-Ok-Some.ensures in
    let e = c.refuse.ensures in
    record {
      draws = unknown_stops g.K.Sink _ _ _ _ _ _ _ _ _ _ _
          (ap (asked c.args.self.now.model.now) (read_ok c.args.line.now c.args.read.now _ c.in-Ok.is c.requires.read))
          c.in-Ok-Some.field-0-is r.draws e.tells;
      counted = e.counted;
      ready = r.ready;
      leaves = leaves_written g.L.Sink 0 0 _ _ _ _ _ (leaves_went g.L.Sink _ _ _ r.stays) e.leaves;
      same = record { log = r.same.log; dump = r.same.dump };
    }

pub returns-in-Err-run_line : goal.returns-in-Err-run_line
returns-in-Err-run_line g c =
    turn_failed g.L.Sink g.K.Sink c.args.number _ _ _ _ _ _ _
    (ap (asked c.args.self.now.model.now) (read_ok c.args.line.now c.args.read.now _ c.in-Ok.is c.requires.read)) c.in-Err-run_line.ensures

pub returns-in-Some : goal.returns-in-Some
returns-in-Some g c =
    let r = c.refusal_of.ensures in
    let why = refusal_is c.in-Err.fault _ c.in-Some.refusal c.in-Some.is r.refusal r.memory in
    let says = read_not c.args.line.now c.args.read.now c.in-Err.fault c.in-Err.is c.requires.read why.0 ∙ ap Err why.1 in
    let e = c.refuse-in-Some.ensures in
    record {
      draws = read_refused g.K.Sink c.args.number _ _ _ _ _ _ (ap (asked c.args.self.now.model.now) says) e.tells;
      counted = e.counted;
      ready = ready_still _ _ _ c.requires.ready;
      leaves = e.leaves;
      same = record { log = refl; dump = refl };
    }

pub returns-in-None : goal.returns-in-None
returns-in-None g c = record {
  draws = stops_early g.K.Sink c.args.number _ Memory _ _ refl;
  counted = not_by_counts Memory refl;
  ready = ready_still _ _ _ c.requires.ready;
  leaves = leaves_unmade g.L.Sink 0 _;
  same = record { log = refl; dump = refl };
}

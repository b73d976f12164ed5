use Rattle.std.proofs.Common.{Err, refl, ap, ◌∙◌}
use Rattle.std.proofs.KnownBytes.{Keeps-refl}
use Rattle.rl_session_run.proofs.StaysLemmas.{earlier_put, open_memory, stays_open}
use Rattle.rl_grade.specs.Adapters.{fresh_standings}
use Rattle.rl_grade_report.proofs.SessionLemmas.{begun_is, leaves_graded, script_early, script_told, script_unread}
use Rattle.rl_grade_report.proofs.grading.grade_script.Goals as goal

pub grade_tasks-requires-clause-first : goal.grade_tasks-requires-clause-first
grade_tasks-requires-clause-first g c = begun_is _ _ c.args.desc _ c.requires.fresh (c.in-Ok.ensures.first _) c.requires.none

pub returns-in_default-clause-tells : goal.returns-in_default-clause-tells
returns-in_default-clause-tells g c = script_early _ c.args.asked c.args.mark c.args.waivers.now c.args.desc _ _ _ refl (Keeps-refl _)

pub returns-in_default-clause-leaves : goal.returns-in_default-clause-leaves
returns-in_default-clause-leaves g c = open_memory g.K.Sink _ _

pub returns-in-Ok-read_script-clause-tells : goal.returns-in-Ok-read_script-clause-tells
returns-in-Ok-read_script-clause-tells g c =
    let bytes = rw c.deref.ensures.value at c.grade_tasks.ensures.bytes in
    let status = rw c.deref.ensures.value at c.grade_tasks.ensures.status in
    rw c.status_of.ensures (script_told c.args.asked c.args.mark c.args.waivers.now _ c.args.desc _ _ _ _ _ _ _ c.requires.fresh (c.in-Ok.ensures.first _)
    c.requires.none c.in-Ok-read_script.ensures.tasks bytes status c.grade_tasks.ensures.leaves.broken)

pub returns-in-Ok-read_script-clause-leaves : goal.returns-in-Ok-read_script-clause-leaves
returns-in-Ok-read_script-clause-leaves g c =
    let t = c.grade_tasks.ensures in
    let stays = stays_open _ _ _ _ _ _ (earlier_put _ _ _ _ t.bytes) t.leaves.stays in
    rw c.status_of.ensures (leaves_graded g.K.Sink _ _ _ _ _ c.read_script.ensures.source_later t.whole t.leaves.cause stays)

pub returns-in-Err-clause-leaves : goal.returns-in-Err-clause-leaves
returns-in-Err-clause-leaves g c =
    let e = c.end_unread.ensures in
    record {
      source_later = c.read_script.ensures.source_later;
      cause = record { source_fault = λ is. c.read_script.ensures.cause (c.in-Err.is ∙ ap Err (e.source is)); sink_fault = e.sink; known = e.known };
      stays = e.stays;
    }

pub returns-in-Err-clause-tells : goal.returns-in-Err-clause-tells
returns-in-Err-clause-tells g c =
    script_unread _ c.args.asked c.args.mark c.args.waivers.now c.args.desc _ fresh_standings _ _ _ _ (c.in-Ok.ensures.first fresh_standings).model_is c.in-Err.ensures.refused c.end_unread.ensures.ends

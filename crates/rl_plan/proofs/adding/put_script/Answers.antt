use Rattle.std.proofs.Common.{[], Err, refl, ap, ◌∙◌}
use Rattle.std.proofs.KnownBytes.{Keeps-refl}
use Rattle.rl_session_run.proofs.StaysLemmas.{open_memory}
use Rattle.rl_plan.proofs.AddingLemmas.{script_early, script_told, script_unread}
use Rattle.rl_plan.proofs.SessionLemmas.{leaves_planned}
use Rattle.rl_plan.proofs.adding.put_script.Goals as goal

pub returns-in_default-clause-tells : goal.returns-in_default-clause-tells
returns-in_default-clause-tells g c = script_early _ c.args.asked c.args.desc _ _ _ refl (Keeps-refl _)

pub returns-in_default-clause-leaves : goal.returns-in_default-clause-leaves
returns-in_default-clause-leaves g c = open_memory g.K.Sink _ _

pub returns-in-Ok-read_script-clause-tells : goal.returns-in-Ok-read_script-clause-tells
returns-in-Ok-read_script-clause-tells g c =
    script_told _ c.args.asked c.args.desc _ _ _ _ _ (c.in-Ok.ensures.first []) c.requires.none c.in-Ok-read_script.ensures.tasks
    c.put_needed.ensures.tells

pub returns-in-Ok-read_script-clause-leaves : goal.returns-in-Ok-read_script-clause-leaves
returns-in-Ok-read_script-clause-leaves g c =
    let p = c.put_needed.ensures in
    leaves_planned g.K.Sink _ _ _ _ _ c.read_script.ensures.source_later p.cause p.stays

pub returns-in-Err-clause-tells : goal.returns-in-Err-clause-tells
returns-in-Err-clause-tells g c =
    script_unread _ c.args.asked c.args.desc _ _ _ _ _ (c.in-Ok.ensures.first []) c.in-Err.ensures.refused c.end_unread.ensures.ends

pub returns-in-Err-clause-leaves : goal.returns-in-Err-clause-leaves
returns-in-Err-clause-leaves g c =
    let e = c.end_unread.ensures in
    record {
      source_later = c.read_script.ensures.source_later;
      cause = record { source_fault = λ is. c.read_script.ensures.cause (c.in-Err.is ∙ ap Err (e.source is)); sink_fault = e.sink; known = e.known };
      stays = e.stays;
    }

use Rattle.rl_grade_report.proofs.AddLemmas.{added_leaves, added_told, added_unread}
use Rattle.rl_grade_report.proofs.SessionLemmas.{unread_leaves}
use Rattle.rl_grade_report.proofs.add.run_add.Goals as goal

pub returns-in-Err-clause-tells : goal.returns-in-Err-clause-tells
returns-in-Err-clause-tells g c = added_unread _ c.args.bound _ _ c.in-Err.ensures.broken

pub returns-in-Err-clause-leaves : goal.returns-in-Err-clause-leaves
returns-in-Err-clause-leaves g c =
    unread_leaves g.K.Sink _ _ _ _ c.read_all.ensures.later c.in-Err.ensures.broken c.in-Err.ensures.cause

pub returns-clause-tells : goal.returns-clause-tells
returns-clause-tells g c =
    let p = c.put_added.ensures in
    let f = c.end_log.ensures in
    added_told c.args.bound c.in-Ok.bytes.items c.put_added.result c.status_of-status.result _ c.status_of-status.ensures
    (rw c.deref.ensures.value at p.status) f.kept _ _ _ _ c.in-Ok.ensures.bytes (rw c.deref.ensures.value at p.bytes) p.leaves.broken f.told

pub returns-clause-leaves : goal.returns-clause-leaves
returns-clause-leaves g c =
    let p = c.put_added.ensures in
    let f = c.end_log.ensures in
    added_leaves c.args.bound c.in-Ok.bytes.items c.put_added.result c.status_of-status.result _ c.status_of-status.ensures
    (rw c.deref.ensures.value at p.status) f.kept g.K.Sink _ _ _ _ _ c.read_all.ensures.later (rw c.deref.ensures.value at p.bytes) p.leaves.cause
    p.leaves.stays f.told f.later f.cause f.ended f.not_ended

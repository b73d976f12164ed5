use Rattle.std.proofs.Common.{◌∙◌}
use Rattle.rl_session_run.proofs.StaysLemmas.{open_put}
use Rattle.rl_plan.proofs.SessionLemmas.{text_caused, text_told}
use Rattle.rl_plan.proofs.run.put_plan.Goals as goal

pub returns-clause-tells : goal.returns-clause-tells
returns-clause-tells g c = rw c.status_of.ensures (text_told _ _ _ _ _ (c.deref.ensures.value ∙ c.in-Some.ensures) c.put_all.ensures.bytes)

pub returns-clause-cause : goal.returns-clause-cause
returns-clause-cause g c = rw c.status_of.ensures (text_caused _ _ _ c.put_all.ensures.stays.cause)

pub returns-clause-stays : goal.returns-clause-stays
returns-clause-stays g c =
    let e = c.put_all.ensures in
    open_put g.K.Sink.written g.K.Sink.faults g.K.Sink.ends _ _ _ _ e.bytes e.stays.cause e.stays.ends

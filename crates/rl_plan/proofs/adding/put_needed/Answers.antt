use Rattle.std.proofs.Common.{refl, ap, ◌∙◌}
use Rattle.rl_session_run.proofs.StaysLemmas.{open_put, open_same}
use Rattle.rl_plan.specs.Adding.{needed_text}
use Rattle.rl_plan.proofs.SessionLemmas.{text_caused, text_told}
use Rattle.rl_plan.proofs.adding.put_needed.Goals as goal

pub needed_text-requires-clause-can_try : goal.needed_text-requires-clause-can_try
needed_text-requires-clause-can_try g c =
    let e = c.unflawed_desc.ensures in
    record { built_with = e.built_with; kinds = rw e.desc c.requires.kinds; fits = rw e.desc c.requires.fits }

pub returns-in-Ok-clause-tells : goal.returns-in-Ok-clause-tells
returns-in-Ok-clause-tells g c =
    rw c.status_of.ensures
    (text_told _ _ _ _ _ (c.deref.ensures.value ∙ c.in-Ok.ensures ∙ ap (λ d. needed_text d c.args.asked c.args.script.items) c.unflawed_desc.ensures.desc)
    c.put_all.ensures.bytes)

pub returns-in-Ok-clause-cause : goal.returns-in-Ok-clause-cause
returns-in-Ok-clause-cause g c = rw c.status_of.ensures (text_caused _ _ _ c.put_all.ensures.stays.cause)

pub returns-in-Ok-clause-stays : goal.returns-in-Ok-clause-stays
returns-in-Ok-clause-stays g c =
    let e = c.put_all.ensures in
    open_put g.K.Sink.written g.K.Sink.faults g.K.Sink.ends _ _ _ _ e.bytes e.stays.cause e.stays.ends

pub returns-in-Err-clause-stays : goal.returns-in-Err-clause-stays
returns-in-Err-clause-stays g c = open_same g.K.Sink.written g.K.Sink.faults g.K.Sink.ends c.args.log.now c.args.log.now refl

use Rattle.std.proofs.Common.{rules, Err, ap, ◌∙◌}
use Rattle.rl_play.proofs.FaultLemmas.{no_source}
use Rattle.rl_session_run.proofs.OpeningLemmas.{checked_opens, checked_stops, over_stops}
use Rattle.rl_session_run.proofs.StaysLemmas.{open_refused, open_stopped}
use Rattle.rl_session_run.proofs.StopLemmas.{handed_err, handed_is, handed_on}
use Rattle.rl_session_run.proofs.checking.open_checked.Goals as goal

pub returns-in_err-desc-clause-stops : goal.returns-in_err-desc-clause-stops
returns-in_err-desc-clause-stops g c =
    let stops = over_stops g.C.Check.over g.met.C.Check.keeps_refusals _ _ _ _ _ c.in_err-desc.ensures.stops in
    search rules

pub returns-in_err-desc-clause-leaves : goal.returns-in_err-desc-clause-leaves
returns-in_err-desc-clause-leaves g c =
    let e = c.open_session.ensures in
    let leaves = open_stopped g.K.Sink _ _ _ _ _ e.source_later c.in_err-desc.ensures.cause e.keeps_earlier e.stays in
    search rules

pub returns-in_err-check-clause-stops : goal.returns-in_err-check-clause-stops
returns-in_err-check-clause-stops g c =
    let e = c.in_ok-desc.ensures in
    let stops = checked_stops g.C.Check.over g.K.Sink.written _ _ _ _ _ _ _ _ _ e.opens e.unwritten c.in_err-check.ensures.checks.stops in
    handed_on c.from_residual-in_err-check.result c.in_err-check.field-0.0 _ c.from_residual-in_err-check.ensures stops

pub returns-in_err-check-clause-leaves : goal.returns-in_err-check-clause-leaves
returns-in_err-check-clause-leaves g c =
    let e = c.open_session.ensures in
    let k = c.in_err-check.ensures.checks in
    let leaves = open_refused g.K.Sink _ _ _ _ _ _ e.source_later e.keeps_earlier e.stays k.cause k.stays in
    handed_on c.from_residual-in_err-check.result c.in_err-check.field-0.0 _ c.from_residual-in_err-check.ensures leaves

pub returns-clause-opens : goal.returns-clause-opens
returns-clause-opens g c =
    checked_opens g.C.Check.over _ _ _ _ _ c.in_ok-desc.ensures.opens c.in_ok-check.ensures.checks.allowed

pub returns-clause-unwritten : goal.returns-clause-unwritten
returns-clause-unwritten g c = c.in_ok-check.ensures.checks.unwritten ∙ c.in_ok-desc.ensures.unwritten

pub returns-clause-allowed : goal.returns-clause-allowed
returns-clause-allowed g c = c.in_ok-check.ensures.checks.allowed

pub returns-in_err-desc-clause-at_fault : goal.returns-in_err-desc-clause-at_fault
returns-in_err-desc-clause-at_fault g c = λ is.
    c.open_session.ensures.at_fault (c.in_err-desc.was ∙ ap Err (handed_is _ _ _ c.from_residual.ensures is))

pub returns-in_err-check-clause-at_fault : goal.returns-in_err-check-clause-at_fault
returns-in_err-check-clause-at_fault g c = λ is.
    absurd (no_source _ _ _ c.in_err-check.ensures.checks.cause (handed_is _ _ _ c.from_residual-in_err-check.ensures is))

pub returns-in_err-desc-clause-unread : goal.returns-in_err-desc-clause-unread
returns-in_err-desc-clause-unread g c = λ fault memory.
    let on = handed_err _ _ c.from_residual.ensures in
    c.in_err-desc.ensures.unread (λ e. fault (on ∙ e)) (λ e. memory (on ∙ e))

pub returns-in_err-check-clause-unread : goal.returns-in_err-check-clause-unread
returns-in_err-check-clause-unread g c = λ fault memory. c.in_ok-desc.ensures.unread (λ e. cc) (λ e. cc)

pub returns-clause-unread : goal.returns-clause-unread
returns-clause-unread g c = λ fault memory. c.in_ok-desc.ensures.unread (λ e. cc) (λ e. cc)

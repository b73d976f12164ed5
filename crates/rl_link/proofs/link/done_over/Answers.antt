use Rattle.std.proofs.Common.{Err, ap, sym, subst, ◌∙◌}
use Rattle.rl_link.specs.declared.answer.Cause.TheVariants.{Unclear}
use Rattle.rl_link.specs.Answers.{done_by}
use Rattle.rl_link.specs.Causes.{IsCauseOfBreak}
use Rattle.rl_link.proofs.BreakLemmas.{by_done, handed_on, misanswered, unanswered}
use Rattle.rl_link.specs.Peer.{CountsLines, TakesDone}
use Rattle.rl_link.proofs.ComingLemmas.{done_here, takes_then_line}
use Rattle.rl_link.proofs.link.done_over.Goals as goal

pub returns-clause-done : goal.returns-clause-done
returns-clause-done g c =
    subst (λ t. TakesDone g.S.Source.left c.args.talk.now t c.in_ok-done.done) (sym c.take_line.ensures)
    (done_here _ _ _ _ _ c.in_ok-said.ensures.heard c.in_ok-said.ensures.front (sym c.in_ok-done.ensures))

pub returns-clause-lines : goal.returns-clause-lines
returns-clause-lines g c =
    subst (λ t. CountsLines g.S.Source.left c.args.talk.now t) (sym c.take_line.ensures)
    (takes_then_line _ _ _ _ _ c.in_ok-said.ensures.lines c.in_ok-said.ensures.front)

pub returns-in_err-said-clause-cause : goal.returns-in_err-said-clause-cause
returns-in_err-said-clause-cause g c =
    let e = c.in_err-said.ensures in
    handed_on _ _ _ c.from_residual.ensures
    (unanswered g.S.Source g.K.Sink _ _ _ _ e.cause e.held e.unsent e.unread e.closed e.too_long e.too_many)

pub returns-in_err-done-clause-cause : goal.returns-in_err-done-clause-cause
returns-in_err-done-clause-cause g c =
    let e = sym c.in_err-done.ensures in
    handed_on _ _ _ c.from_residual-in_err-done.ensures
    (by_done _ _ e (IsCauseOfBreak g.S.Source g.K.Sink done_by c.args.talk.now c.ask.new.self)
    (λ is. misanswered done_by _ _ _ Unclear c.in_ok-said.ensures.heard (e ∙ ap Err is)))

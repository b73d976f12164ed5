use Rattle.std.proofs.Common.{Err, ap, sym, subst, ◌∙◌}
use Rattle.rl_link.specs.declared.answer.Cause.TheVariants.{Unclear, TooWide}
use Rattle.rl_link.specs.Answers.{answer_to}
use Rattle.rl_link.specs.Causes.{IsCauseOfBreak}
use Rattle.rl_link.proofs.BreakLemmas.{by_answer, handed_on, misanswered, unanswered}
use Rattle.rl_link.specs.Peer.{CountsLines, TakesAnswer}
use Rattle.rl_link.proofs.ComingLemmas.{answers_here, takes_then_line}
use Rattle.rl_link.proofs.link.transfer_over.Goals as goal

pub returns-clause-answer : goal.returns-clause-answer
returns-clause-answer g c =
    subst (λ t. TakesAnswer g.S.Source.left c.args.talk.now t c.args.op.now c.in_ok-answer.answer) (sym c.take_line.ensures)
    (answers_here _ _ _ _ _ _ _ c.in_ok-said.ensures.heard c.in_ok-said.ensures.front (sym c.in_ok-answer.ensures.answer))

pub returns-clause-lines : goal.returns-clause-lines
returns-clause-lines g c =
    subst (λ t. CountsLines g.S.Source.left c.args.talk.now t) (sym c.take_line.ensures)
    (takes_then_line _ _ _ _ _ c.in_ok-said.ensures.lines c.in_ok-said.ensures.front)

pub returns-in_err-said-clause-cause : goal.returns-in_err-said-clause-cause
returns-in_err-said-clause-cause g c =
    let e = c.in_err-said.ensures in
    handed_on _ _ _ c.from_residual.ensures
    (unanswered g.S.Source g.K.Sink _ _ _ _ e.cause e.held e.unsent e.unread e.closed e.too_long e.too_many)

pub returns-in_err-answer-clause-cause : goal.returns-in_err-answer-clause-cause
returns-in_err-answer-clause-cause g c =
    let op = c.args.op.now in
    let e = sym c.in_err-answer.ensures.answer in
    let heard = c.in_ok-said.ensures.heard in
    handed_on _ _ _ c.from_residual-in_err-answer.ensures
    (by_answer op.write op.bytes _ _ e (IsCauseOfBreak g.S.Source g.K.Sink (answer_to op.write op.bytes) c.args.talk.now c.ask.new.self)
    (λ is. misanswered (answer_to op.write op.bytes) _ _ _ Unclear heard (e ∙ ap Err is))
    (λ is. misanswered (answer_to op.write op.bytes) _ _ _ TooWide heard (e ∙ ap Err is)))

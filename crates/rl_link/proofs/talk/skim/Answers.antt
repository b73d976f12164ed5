use Rattle.std.proofs.Common.{◌≡◌, rules, ap, sym, ◌∙◌, subst, arith, length, ◌+◌, ◌-◌, ◌^◌, min}
use Rattle.rl_report.specs.Lines.{after_line, first_line}
use Rattle.rl_link.specs.Answers.{is_nothing}
use Rattle.rl_link.specs.Coming.{coming, Skips, Takes}
use Rattle.rl_link.proofs.ComingLemmas.{skips_none, skips_more, skips_line, takes_none, takes_then_line, after_shorter, has_line}
use Rattle.rl_link.proofs.BreakLemmas.{quiet, spoken}
use Rattle.rl_link.proofs.SaidLemmas.{silent}
use Rattle.rl_link.proofs.talk.skim.Goals as goal

pub loop-len-smaller : goal.loop-len-smaller
loop-len-smaller g c = omega (arith, ap length c.pass_on.ensures.held, after_shorter c.loop-len.held (has_line _ _ c.in-Some.ensures.some))

pub loop-len-init : goal.loop-len-init
loop-len-init g c = record { skips = λ left. skips_none _; lines = λ left. takes_none _ _; later = omega arith }

pub loop-len-preserved : goal.loop-len-preserved
loop-len-preserved g c =
    let here = c.loop-len.held in
    let whole = has_line _ _ c.in-Some.ensures.some in
    let passed = sym (silent _) ∙ ap is_nothing (sym c.front_says.ensures) ∙ sym c.is_nothing.ensures ∙ c.if-not-is_nothing.false in
    record {
      skips = λ left. skips_more _ _ _ (c.loop-len.invariant.skips left)
          (subst (λ h. Skips (coming here left) (coming h left)) (sym c.pass_on.ensures.held) (skips_line here left whole passed));
      lines = λ left. subst (λ n. Takes c.args.lines.now n (coming c.args.held.now left) (coming c.pass_on.new.held left)) (sym c.pass_on.ensures.lines)
          (subst (λ h. Takes c.args.lines.now (min (c.loop-len.lines + 1) (2 ^ 64 - 1)) (coming c.args.held.now left) (coming h left)) (sym c.pass_on.ensures.held)
          (takes_then_line _ _ _ here left (c.loop-len.invariant.lines left) whole));
      later = omega (arith, c.loop-len.invariant.later, c.pass_on.ensures.lines);
    }

pub returns-clause-quiet : goal.returns-clause-quiet
returns-clause-quiet g c =
    let none : first_line c.loop-len.held ≡ c.loop-len.held = search (rules, c.line_len.ensures.none) in
    quiet _ _ c.loop-len.invariant.skips none

pub returns-then-not-is_nothing-clause-unasked : goal.returns-then-not-is_nothing-clause-unasked
returns-then-not-is_nothing-clause-unasked g c =
    let says = sym (silent _) ∙ ap is_nothing (sym c.front_says.ensures) ∙ sym c.is_nothing.ensures ∙ c.if-not-is_nothing.true in
    spoken _ _ c.loop-len.invariant.skips (has_line _ _ c.in-Some.ensures.some) says

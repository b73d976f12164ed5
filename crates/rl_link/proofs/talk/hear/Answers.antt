use Rattle.std.proofs.Common.{◌≡◌, ◌≤◌, ◌+◌, ◌-◌, ◌^◌, min, true, false, IfSome, ap, sym, ◌∙◌, subst, arith}
use Rattle.rl_link.specs.Answers.{is_nothing}
use Rattle.rl_link.specs.Coming.{coming, Skips, Takes, Hears}
use Rattle.rl_link.proofs.ComingLemmas.{skips_more, skips_kept, skips_line, hears_here, has_line, takes_more, takes_kept, takes_then_line}
use Rattle.rl_link.proofs.SaidLemmas.{silent}
use Rattle.rl_link.proofs.talk.hear.Goals as goal

pub loop-passed-preserved : goal.loop-passed-preserved
loop-passed-preserved g c =
    let left = g.S.Source.left c.next_line.new.source in
    let here = c.next_line.new.held in
    let passed = sym (silent _) ∙ ap is_nothing (sym c.front_says-said.ensures) ∙ sym c.is_nothing.ensures ∙ c.if-not-is_nothing.false in
    record {
      skips = skips_more _ _ _ (skips_more _ _ _ c.loop-passed.invariant.skips (skips_kept _ _ c.in_ok-len.ensures.coming))
          (subst (λ h. Skips (coming here left) (coming h left)) (sym c.pass_on.ensures.held) (skips_line here left (has_line _ _ c.in_ok-len.ensures.line) passed));
      lines = subst (λ n. Takes c.args.lines.now n (coming c.args.held.now (g.S.Source.left c.args.source.now)) (coming c.pass_on.new.held left)) (sym c.pass_on.ensures.lines)
          (subst (λ h. Takes c.args.lines.now (min (c.loop-passed.lines + 1) (2 ^ 64 - 1)) (coming c.args.held.now (g.S.Source.left c.args.source.now)) (coming h left))
          (sym c.pass_on.ensures.held)
          (takes_then_line _ _ _ here left (takes_more _ _ _ _ _ _ c.loop-passed.invariant.lines (takes_kept _ _ _ c.in_ok-len.ensures.coming)) (has_line _ _ c.in_ok-len.ensures.line)));
      counted = omega (arith, c.loop-passed.invariant.counted, c.pass_on.ensures.lines);
      later = omega (arith, c.in_ok-len.ensures.later);
    }

pub returns-then-not-is_nothing-clause-heard : goal.returns-then-not-is_nothing-clause-heard
returns-then-not-is_nothing-clause-heard g c =
    let left = g.S.Source.left c.next_line.new.source in
    let here = c.next_line.new.held in
    let spoken = sym (silent _) ∙ ap is_nothing (sym c.front_says-said.ensures) ∙ sym c.is_nothing.ensures ∙ c.if-not-is_nothing.true in
    subst (λ s. IfSome (coming c.args.held.now (g.S.Source.left c.args.source.now)) (λ bytes. Hears bytes s (coming here left))) (sym c.front_says-said.ensures)
    (hears_here _ here left (skips_more _ _ _ c.loop-passed.invariant.skips (skips_kept _ _ c.in_ok-len.ensures.coming)) (has_line _ _ c.in_ok-len.ensures.line) spoken)

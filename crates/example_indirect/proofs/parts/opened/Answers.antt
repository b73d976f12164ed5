use Rattle.std.proofs.Common.{sym, subst, arith}
use Rattle.rl_flaw.specs.Flaws.{AreFlawsOf}
use Rattle.example_indirect.proofs.parts.opened.Goals as goal

pub open-requires-clause-flaws : goal.open-requires-clause-flaws
open-requires-clause-flaws g c =
    let d = c.in_ok-desc.desc in
    subst (AreFlawsOf d.chip d.layout) (sym c.in_ok-desc.ensures.flawless) (λ k flaw inside. absurd (omega (arith, inside)))

use Rattle.std.proofs.Common.{◌<◌, [], ◌∷◌, ◌++◌, ap, ◌∙◌, arith}
use Rattle.std.specs.Prelude.{bit_xor}
use Rattle.std.proofs.lemmas.Nat.{one_shl}
use Rattle.rl_flaw.specs.declared.flaw.Flaw.TheVariants.{OtherReset}
use Rattle.rl_grade.proofs.Pushed.{wrong_more}
use Rattle.rl_grade.proofs.flaws.push_wrong.Goals as goal

pub loop-bit-preserved : goal.loop-bit-preserved
loop-bit-preserved c =
    let low : c.loop-bit.bit < 64 = omega (arith, c.loop-bit-test.true, c.requires) in
    wrong_more _ _ _ _ _ _ _ c.loop-bit.invariant (c.in_ok-push.ensures.items
    ∙ ap (λ m. c.loop-bit.flaws.items ++ OtherReset c.args.field c.args.kind (bit_xor c.args.value m) ∷ []) (one_shl c.loop-bit.bit 64 low))

use Rattle.std.proofs.Common.{◌≡◌, ℕ, ◌-◌, ◌&&◌, leb, ltb, arith}
use Rattle.std.proofs.lemmas.Bool.Decides.{nat_tests}
use Rattle.rl_policy.specs.Bits.{is_within}
use Rattle.rl_policy.proofs.BitLemmas.{bit-shl, bit-mask}
use Rattle.rl_policy.proofs.word.window.Goals as goal

shifted : (lsb width i : ℕ) → (leb lsb i && ltb (i - lsb) width) ≡ is_within lsb width i
shifted lsb width i = grind (arith, nat_tests)

pub returns : goal.returns
returns c = λ i l. simp (bit-shl, c.mask.ensures, bit-mask) (shifted c.args.lsb c.args.width i)

use Rattle.std.proofs.Common.{◌≡◌, ◌-◌, ◌∙◌, ap, Bool, true, false, cond, refl}
use Rattle.rl_policy.specs.Bits.{bit}
use Rattle.rl_policy.proofs.BitLemmas.{bit-from_bits}
use Rattle.rl_bench.proofs.DepositLemmas.{part_bit}
use Rattle.rl_bench.proofs.seat.with_value.Goals as goal

choose : (t x y w : Bool) → (t ≡ true → x ≡ y) → cond t x w ≡ cond t y w
choose true x y w h = h refl
choose false x y w h = refl

pub returns-in-Some : goal.returns-in-Some
returns-in-Some c b k =
    let f = c.args.row.now in
    let v = c.in-Some.value in
    let inside : bit c.args.free b ≡ true → bit c.put.result b ≡ bit v (b - f.lsb) =
    λ h. ap (λ n. bit n b) c.put.ensures ∙ bit-from_bits 64 _ b k
    ∙ part_bit f.lsb f.width v c.mask.result (bit 0) b c.mask.ensures
    ∙ ap (λ t. cond t (bit v (b - f.lsb)) (bit 0 b)) (c.requires.free b k h) in
    rw (c.in-Some.is, c.replaced.ensures b k) (choose (bit c.args.free b) (bit c.put.result b) (bit v (b - f.lsb)) (bit c.args.word b) inside)

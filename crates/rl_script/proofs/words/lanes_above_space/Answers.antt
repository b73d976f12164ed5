use Rattle.std.proofs.Common.{leb, sym, ap, ◌∙◌, arith, w8}
use lib.Count.{count_trailing_zeros}
use Rattle.std.proofs.lemmas.Simd.{bitmask_splat, leading_from_mask_l, trailing_mask_l}
use Rattle.rl_script.proofs.words.lanes_above_space.Goals as goal

pub returns-then-mask-eq0 : goal.returns-then-mask-eq0
returns-then-mask-eq0 c =
    let v = c.args.bytes.now in
    let mask = bitmask_splat w8 leb v 8 32 c.told-bytes (omega arith) in
    sym (leading_from_mask_l (λ x. leb x 32) v (sym mask ∙ c.if-mask-eq0.true) ∙ c.told-bytes)

pub returns-else-mask-eq0 : goal.returns-else-mask-eq0
returns-else-mask-eq0 c =
    let v = c.args.bytes.now in
    let mask = bitmask_splat w8 leb v 8 32 c.told-bytes (omega arith) in
    ap (count_trailing_zeros 64) mask ∙ trailing_mask_l (λ x. leb x 32) 64 v (omega arith) (omega arith)

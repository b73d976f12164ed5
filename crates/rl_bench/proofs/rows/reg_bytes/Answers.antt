use Rattle.std.proofs.Common.{◌++◌, ◌∷◌, [], map, ap, ◌∙◌, arith}
use Rattle.std.proofs.lemmas.List.{take_all}
use Rattle.rl_bench.proofs.RowLemmas.{regs_more}
use Rattle.rl_bench.proofs.rows.reg_bytes.Goals as goal

pub loop-reg-preserved : goal.loop-reg-preserved
loop-reg-preserved c =
    c.in_ok-push.ensures.items
    ∙ ap (λ rows. rows ++ c.bytes.result ∷ []) c.loop-reg.invariant
    ∙ regs_more c.args.chip.now.regs c.loop-reg.reg c.bytes.result c.bytes.ensures.value

pub returns : goal.returns
returns c =
    c.loop-reg.invariant ∙ ap (map (λ r. r.bytes)) (take_all c.loop-reg.reg c.args.chip.now.regs (omega (arith, c.loop-reg-test.false, c.regs-reg-end.ensures.count)))

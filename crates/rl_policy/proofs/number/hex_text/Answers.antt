use Rattle.std.proofs.Common.{◌-◌, arith}
use Rattle.std.proofs.lemmas.Grind.{elements}
use Rattle.rl_policy.proofs.TextLemmas.{hex_place}
use Rattle.rl_policy.proofs.number.hex_text.Goals as goal

pub loop-k-preserved : goal.loop-k-preserved
loop-k-preserved c = record {
  count = grind (arith, elements);
  written = λ k h. grind (arith, elements, c.loop-k.invariant.written k, hex_place c.args.value (c.args.digits - 1 - c.loop-k.k));
  others = λ k h. grind (arith, elements, c.loop-k.invariant.others k);
}

use Rattle.std.proofs.Common.{refl, arith, ◌∙◌}
use Rattle.rl_report.proofs.DigitLemmas.{none_put, two_more}
use Rattle.rl_report.proofs.numbers.write_digits.Goals as goal

pub loop-at-init : goal.loop-at-init
loop-at-init c = record { full = refl; within = omega arith; even = c.requires; put = none_put c.args.n c.args.text.now }

pub loop-at-preserved : goal.loop-at-preserved
loop-at-preserved c =
    let i = c.loop-at.invariant in
    record {
      full = omega (arith, c.write_pair.auto.text, i.full);
      within = omega arith;
      even = omega (arith, i.even);
      put = two_more c.loop-at.at c.loop-at.rest c.loop-at.text _ (omega (arith, i.even)) c.write_pair.ensures ∙ i.put;
    }

use Rattle.std.proofs.Common.{◌≡◌, ◌+◌, ◌%◌, set, arith, length-set}
use Rattle.std.proofs.lemmas.List.{set_comm, drop-set}
use Rattle.io.specs.Digits.{hex_digit_ascii}
use Rattle.rl_report.proofs.DigitLemmas.{pairs_at}
use Rattle.rl_report.proofs.numbers.write_pair.Goals as goal

pub returns : goal.returns
returns c =
    let p = pairs_at c.args.byte c.requires.byte in
    let at = c.args.at in
    let text = c.args.text.now in
    let low = hex_digit_ascii (c.args.byte % 16) in
    let e : at + 1 + 1 ≡ at + 2 = omega arith in
    rw (p.0, p.1, set_comm text at (at + 1) _ _ (λ x. omega arith), drop-set (set text (at + 1) low) at _ (omega (arith, length-set text (at + 1) low)), drop-set text (at + 1) _ (omega arith), e)

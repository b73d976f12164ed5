use Rattle.std.proofs.Common.{◌++◌, ◌/◌, ◌%◌, ap, ◌∙◌, mod-eq_of_lt}
use Rattle.rl_report.specs.Numbers.{lanes_text}
use Rattle.rl_report.proofs.NumberLemmas.{lanes_pushed, lanes_fit}
use Rattle.rl_report.proofs.text.Text.push_lanes.Goals as goal

pub returns-clause-text : goal.returns-clause-text
returns-clause-text c =
    let whole = mod-eq_of_lt (lanes_fit c.from.result c.args.bytes (rw c.from.ensures c.ranges.lanes.fits)) in
    lanes_pushed c.args.self.now c.push.new.self c.push-2.new.self c.drop_last.new.self c.args.bytes c.from.result c.requires.few
    (c.push.ensures.text ∙ ap (λ l. c.args.self.now ++ l) (c.four_digits.ensures.value ∙ ap (λ m. lanes_text 4 (m / 16 % 16)) whole))
    (c.push-2.ensures.text ∙ ap (λ l. c.push.new.self ++ l) (c.four_digits-2.ensures.value ∙ ap (λ m. lanes_text 4 (m % 16)) whole))
    c.drop_last.ensures
    ∙ ap (λ n. c.args.self.now ++ lanes_text c.args.bytes n) c.from.ensures

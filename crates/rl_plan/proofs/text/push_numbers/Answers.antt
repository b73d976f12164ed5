use Rattle.rl_report.specs.Operation.{number_text}
use Rattle.rl_plan.proofs.Pushed.{text_more}
use Rattle.rl_plan.proofs.text.push_numbers.Goals as goal

pub loop-number-preserved : goal.loop-number-preserved
loop-number-preserved c =
    text_more number_text _ _ _ c.args.numbers.now c.loop-number.number-index _ c.loop-number-test.true c.loop-number.invariant
    c.in_ok-push_number.ensures

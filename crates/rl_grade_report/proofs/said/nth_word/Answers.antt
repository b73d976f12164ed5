use Rattle.std.proofs.Common.{ℕ, eqb, rules, tests}
use Rattle.std.proofs.lemmas.Iterator.Consumers.{nth_from_yields_List}
use Rattle.std.proofs.lemmas.Iterator.Splits.{YieldsList-from_slice_split}
use Rattle.rl_grade_report.proofs.said.nth_word.Goals as goal

pub returns : goal.returns
returns c =
    nth_from_yields_List c.nth.result _ c.args.place c.nth.ensures.ran
    (YieldsList-from_slice_split _ (λ (b : ℕ). eqb b 32) c.args.line.now c.split.ensures.rest c.split.ensures.done c.split.ensures.closure
    (λ x r q k. search (rules, tests)))

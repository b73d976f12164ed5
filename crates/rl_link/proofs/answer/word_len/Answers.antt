use Rattle.std.proofs.Common.{◌∙◌, rules, tests}
use Rattle.std.specs.Char.{is_ascii_whitespace}
use Rattle.std.proofs.lemmas.Iterator.{YieldsList-from_slice}
use Rattle.std.proofs.lemmas.Iterator.Search.{position_from_yields_List}
use Rattle.rl_policy.proofs.Positions.{or_length}
use Rattle.rl_link.proofs.SaidLemmas.{within}
use Rattle.rl_link.proofs.answer.word_len.Goals as goal

pub returns : goal.returns
returns c =
    let e = position_from_yields_List is_ascii_whitespace _ _ c.position.result c.position.ensures.ran (YieldsList-from_slice c.args.text.now cc) (λ x b q k. search (rules, tests)) in
    let is = c.unwrap_or.ensures ∙ or_length is_ascii_whitespace c.args.text.now c.position.result e in
    record { len = is; within = rw is (within is_ascii_whitespace c.args.text.now) }

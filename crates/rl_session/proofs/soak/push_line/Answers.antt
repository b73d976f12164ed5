use Rattle.std.proofs.Common.{◌++◌, codes, decimal}
use Rattle.rl_report.specs.Pieces.{joined}
use Rattle.rl_session.specs.Soak.{verb_text, value_pieces, line_text}
use Rattle.rl_session.proofs.ListingLemmas.{pushed_twice, then_pushed, extended, joined_four}
use Rattle.rl_session.proofs.soak.push_line.Goals as goal

pub returns : goal.returns
returns c =
    let first = c.args.text.now.items in
    let verb = verb_text c.args.step in
    let number = decimal c.args.k in
    let value = joined (value_pieces c.args.step c.args.v) in
    let one = rw c.verb.ensures at c.in_ok-extend_from_slice.ensures.items in
    let two = rw (c.as_bytes.ensures.value, c.format.ensures.text) at c.in_ok-extend_from_slice-2.ensures.items in
    then_pushed _ first _ _ (codes "\n") (verb ++ number ++ value) (line_text c.args.step c.args.k c.args.v)
    (pushed_twice first _ _ (verb ++ number) value (pushed_twice first _ _ verb number one two) c.in_ok-push_value.ensures)
    (joined_four verb number value (codes "\n")) (extended _ _ _ (codes "\n") c.extend_from_slice-3.ensures.items)

use Rattle.std.proofs.Common.{◌++◌}
use Rattle.std.specs.Prelude.{flat_map}
use Rattle.rl_session.proofs.ListingLemmas.{extended, pushed_twice, then_pushed}
use Rattle.rl_grade_report.specs.Keys.{end_of, head_of, key_text, said_by}
use Rattle.rl_grade_report.proofs.Parts.{mapped_three}
use Rattle.rl_grade_report.proofs.keys.push_written.Goals as goal

pub returns : goal.returns
returns c =
    let first = c.args.text.now.items in
    let form = c.args.form in
    let head = head_of form c.args.kind.now in
    let keys = flat_map (λ k. key_text form (said_by k)) c.args.keys.now in
    let one = pushed_twice first _ _ head keys c.in_ok-push_head.ensures c.in_ok-push_keys.ensures in
    then_pushed _ first _ _ (end_of form) (head ++ keys) _ one (mapped_three head (key_text form) said_by c.args.keys.now (end_of form))
    (extended _ _ _ (end_of form) (rw c.end_of.ensures at c.extend_from_slice.ensures.items))

use Rattle.std.proofs.Common.{◌++◌}
use Rattle.rl_session.specs.Soak.{description_text, rows_text, reg_text, maps_text, place_text}
use Rattle.rl_session.proofs.ListingLemmas.{pushed_twice, then_pushed, joined_three}
use Rattle.rl_session.proofs.soak.push_description.Goals as goal

pub returns : goal.returns
unfolding description_text
returns c =
    let first = c.args.text.now.items in
    then_pushed _ first _ _ (rows_text place_text 0 64) (rows_text reg_text 0 64 ++ maps_text) description_text
    (pushed_twice first _ _
    (rows_text reg_text 0 64) maps_text c.in_ok-push_rows.ensures c.in_ok-extend_from_slice.ensures.items)
    (joined_three (rows_text reg_text 0 64) maps_text (rows_text place_text 0 64)) c.push_rows-2.ensures

use Rattle.std.proofs.Common.{[], ◌∷◌, codes}
use Rattle.rl_report.specs.Pieces.{joined}
use Rattle.rl_session.proofs.ListingLemmas.{then_pushed}
use Rattle.rl_grade_report.specs.Keys.{said_by}
use Rattle.rl_grade_report.proofs.Parts.{joined_last}
use Rattle.rl_grade_report.proofs.keys.push_member.Goals as goal

pub returns : goal.returns
returns c =
    let key = said_by c.args.key in
    let front = codes ", \"" ∷ key.name ∷ codes "\": " ∷ [] in
    then_pushed _ c.args.text.now.items _ _ key.text (joined front) _ c.in_ok-push_pieces.ensures (joined_last front key.text) c.push_value.ensures

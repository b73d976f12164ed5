use Rattle.std.proofs.Common.{[], ◌∷◌}
use Rattle.rl_policy.specs.Numbers.{hex_digits}
use Rattle.rl_report.specs.Pieces.{joined}
use Rattle.rl_session.proofs.ListingLemmas.{then_pushed, extended, joined_two}
use Rattle.rl_session.proofs.soak.push_hex.Goals as goal

pub returns : goal.returns
returns c =
    let before = c.args.before.now in
    let digits = hex_digits c.args.v in
    let pushed = rw (c.front.ensures, c.spell-len.ensures.digits) at c.extend_from_slice-2.ensures.items in
    then_pushed _ c.args.text.now.items _ _ digits before
    (joined (before ∷ digits ∷ [])) c.in_ok-extend_from_slice.ensures.items (joined_two before digits)
    (extended _ _ _ digits pushed)

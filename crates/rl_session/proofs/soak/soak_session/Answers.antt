use Rattle.rl_session.specs.Soak.{soak_text}
use Rattle.rl_session.proofs.ListingLemmas.{pushed_thrice}
use Rattle.rl_session.proofs.soak.soak_session.Goals as goal

pub returns : goal.returns
unfolding soak_text
returns c =
    pushed_thrice _ _ _ _ _ _ _ c.in_ok-text.ensures.items c.in_ok-push_description.ensures
    c.in_ok-extend_from_slice.ensures.items c.in_ok-push_script.ensures

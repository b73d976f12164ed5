use Rattle.std.proofs.Common.{◌∙◌}
use Rattle.rl_session.proofs.SessionLemmas.{described_ok, described_err}
use Rattle.rl_session.proofs.opening.described.Goals as goal

pub returns-clause-read : goal.returns-clause-read
returns-clause-read g c =
    let e = c.read_description.ensures in
    described_ok _ _ _ _ (c.deref.ensures.value ∙ c.in-Ok.ensures) e.valid e.read

pub returns-clause-refused : goal.returns-clause-refused
returns-clause-refused g c =
    described_err _ _ _ _ (c.deref.ensures.value ∙ c.in-Ok.ensures) c.read_description.ensures.refused

use Rattle.rl_session.proofs.RefusalLemmas.{plain_reason}
use Rattle.rl_session.proofs.refusals.put_map_refused.Goals as goal

pub returns-in_default : goal.returns-in_default
returns-in_default g c =
    rw (plain_reason c.args.cause _ c.in_default.not-SharedAddress c.map_reason.ensures) c.put_plain.ensures

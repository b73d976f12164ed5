use Rattle.std.proofs.Common.{[], refl}
use Rattle.rl_session_run.proofs.StaysLemmas.{open_memory}
use Rattle.rl_session_run.proofs.ScriptLemmas.{rest_cut, plays_rest}
use Rattle.rl_session_run.proofs.playing.play_described.Goals as goal

pub returns-in_default-clause-plays : goal.returns-in_default-clause-plays
returns-in_default-clause-plays g c = rest_cut _ _ _ _ _ _ _ refl (λ e. absurd (cc))

pub returns-in_default-clause-leaves : goal.returns-in_default-clause-leaves
returns-in_default-clause-leaves g c = open_memory g.K.Sink _ _

pub returns-clause-plays : goal.returns-clause-plays
returns-clause-plays g c =
    plays_rest c.args.desc _ _ _ _ _ _ _ _ _ _ (c.in-Ok.ensures.first []) c.requires.silent c.play.ensures.any_device

pub returns-clause-leaves : goal.returns-clause-leaves
returns-clause-leaves g c =
    let e = c.play.ensures in
    record {
      source_later = e.source_later;
      cause = e.cause;
      stays = record { earlier = e.keeps_earlier; later = e.sink_later; ends_kept = e.ends_kept };
    }

use Rattle.rl_play.proofs.EndingLemmas.{append_none}
use Rattle.rl_play.proofs.buffered.Buffered.new.Goals as goal

pub returns-clause-told : goal.returns-clause-told
returns-clause-told g c = append_none _

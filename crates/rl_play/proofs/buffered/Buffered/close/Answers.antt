use Rattle.std.proofs.KnownBytes.{Keeps-trans, append_known-kept}
use Rattle.rl_play.proofs.EndingLemmas.{keeps_when_empty, none_kept, on_ok}
use Rattle.rl_play.proofs.buffered.Buffered.close.Goals as goal

pub returns-clause-told : goal.returns-clause-told
returns-clause-told g c = Keeps-trans _ _ _ c.in_ok-flush.ensures.told (append_known-kept _ _ _ c.finish.ensures.kept)

pub returns-clause-whole : goal.returns-clause-whole
returns-clause-whole g c =
    let b = c.flush.new.self in
    on_ok _ _ (keeps_when_empty _ _ _ _ c.in_ok-flush.ensures.told
    (none_kept b.bytes b.start b.end b.ordered c.in_ok-flush.ensures.empty) c.finish.ensures.kept)

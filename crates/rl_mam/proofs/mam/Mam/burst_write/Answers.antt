use Rattle.std.proofs.Common.{◌<◌, length, sym, subst}
use Rattle.rl_mam.proofs.Arms.{on_ok}
use Rattle.rl_mam.proofs.Outside.{burst_leaves, where_ok}
use Rattle.rl_mam.proofs.mam.Mam.burst_write.Goals as goal

pub returns-in-Ok-clause-hands_over : goal.returns-in-Ok-clause-hands_over
returns-in-Ok-clause-hands_over g c = rw (← c.in-Ok.ensures.at, ← c.mem.ensures) (on_ok _ _ c.burst_at.ensures.hands_over)

pub returns-in-Ok-clause-outside : goal.returns-in-Ok-clause-outside
returns-in-Ok-clause-outside g c =
    rw (← c.mem.ensures) (where_ok c.args.self.now.regions c.args.first c.args.k (length c.args.values.now) c.in-Ok.at _ c.in-Ok.ensures.location (λ r low high.
    burst_leaves g.R.Recorder.takes g.R.Recorder.breaks c.args.rec.now c.burst_at.new.rec _ _ _ _ c.mem.result c.in-Ok.at c.args.map c.args.values.now _ r c.burst_at.ensures.hands_over
    c.chip-sound.ensures.sound
    (subst (λ n. n < length c.args.model.now.chip.mems) (sym c.mem.ensures) c.requires.manager.mem) c.requires.ready.device low high))

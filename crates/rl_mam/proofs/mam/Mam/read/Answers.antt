use Rattle.std.proofs.Common.{◌<◌, length, sym, subst, arith}
use Rattle.rl_mam.proofs.Outside.{read_leaves, where_ok}
use Rattle.rl_mam.proofs.mam.Mam.read.Goals as goal

pub returns-in-Ok-clause-outside : goal.returns-in-Ok-clause-outside
returns-in-Ok-clause-outside g c =
    rw (← c.mem.ensures) (where_ok c.args.self.now.regions c.args.first c.args.k 1 c.in-Ok.at _ c.in-Ok.ensures.location (λ r low high.
    read_leaves _ _ c.mem.result c.in-Ok.at c.args.map _ r c.mem_read.ensures.does.performs c.chip-sound.ensures.sound
    (subst (λ n. n < length c.args.model.now.chip.mems) (sym c.mem.ensures) c.requires.manager.mem) c.requires.ready.device (low, omega arith)))

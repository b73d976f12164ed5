use Rattle.std.proofs.Common.{refl, sym}
use Rattle.rl_model.specs.declared.rows.Item.TheVariants as item
use Rattle.rl_access.specs.Rules.{by_backdoor, at_location, fitting}
use Rattle.rl_access.proofs.BackPerforms.{then_only}
use Rattle.rl_access.proofs.MemoryPerforms.{mem_poke_performs}
use Rattle.rl_access.proofs.backdoor.mem_poke_into.Goals as goal

pub returns-in-Ok-clause-performs : goal.returns-in-Ok-clause-performs
returns-in-Ok-clause-performs g c =
    let m = c.args.model.now in
    let mem = c.args.mem in
    let inside = then_only (at_location m mem c.args.index) (by_backdoor m (item.Mem mem)) _ _ _ c.by_backdoor.ensures c.at_location-grant.ensures.grant refl in
    let granted = then_only (fitting m (item.Mem mem) c.args.value) _ _ _ _ (sym inside) c.fitting.ensures.grant c.in-Ok.is in
    mem_poke_performs m _ _ _ _ mem c.args.index c.args.value _ _ _ granted c.deposit_location.ensures.step refl c.fill_memory.ensures.event c.deposit_location.ensures.asked

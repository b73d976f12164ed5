use Rattle.std.proofs.Common.{refl}
use Rattle.rl_model.specs.declared.rows.Item.TheVariants as item
use Rattle.rl_access.specs.Rules.{by_backdoor, fitting}
use Rattle.rl_access.proofs.BackPerforms.{then_only, back_write_performs}
use Rattle.rl_access.proofs.backdoor.back_write_into.Goals as goal

pub returns-in-Ok-clause-performs : goal.returns-in-Ok-clause-performs
returns-in-Ok-clause-performs g c =
    let m = c.args.model.now in
    let granted = then_only (fitting m (item.Reg c.args.reg) c.args.value) (by_backdoor m (item.Reg c.args.reg)) _ _ _ c.by_backdoor.ensures c.fitting.ensures.grant c.in-Ok.is in
    back_write_performs m c.predict_raw.new.self _ _ _ _ c.args.reg c.args.value c.sampled-sampled.result c.value_written-word.result _ _ _ granted c.sampled-sampled.ensures.found
    c.value_written-word.ensures c.deposit.ensures.step c.predict_raw.ensures refl c.fill.ensures.event c.deposit.ensures.asked

use Rattle.std.proofs.Common.{sym, ap, ◌∙◌}
use Rattle.std.specs.Prelude.{option_map}
use Rattle.rl_model.specs.declared.rows.Item.TheVariants as item
use Rattle.rl_map.proofs.Accepting.{item_reg, item_other}
use Rattle.rl_map.proofs.checks.item_at.Goals as goal

pub returns-in-Some : goal.returns-in-Some
returns-in-Some c = record {
  there = ((c.reg_by_path.ensures c.in-Some.reg).0 c.in-Some.is).0;
  exact = item_reg c.args.chip.now c.args.path.now _ c.in-Some.reg c.reg_by_path.ensures c.in-Some.is;
}

pub returns-in-Some-mem_by_path : goal.returns-in-Some-mem_by_path
returns-in-Some-mem_by_path c = record {
  there = ((c.mem_by_path.ensures c.in-Some-mem_by_path.mem).0 c.in-Some-mem_by_path.is).0;
  exact = ap (λ o. option_map (λ n. item.Mem n) o) (sym c.in-Some-mem_by_path.is) ∙ item_other c.args.chip.now c.args.path.now _ _ c.reg_by_path.ensures c.in-None.is c.mem_by_path.ensures;
}

pub returns-in-None-mem_by_path-clause-exact : goal.returns-in-None-mem_by_path-clause-exact
returns-in-None-mem_by_path-clause-exact c = ap (λ o. option_map (λ n. item.Mem n) o) (sym c.in-None-mem_by_path.is)
    ∙ item_other c.args.chip.now c.args.path.now _ _ c.reg_by_path.ensures c.in-None.is c.mem_by_path.ensures

use Rattle.example_indirect.proofs.chip.table_window.Goals as goal

pub returns-in-Some-Some-clause-index_reg : goal.returns-in-Some-Some-clause-index_reg
returns-in-Some-Some-clause-index_reg c = ((c.reg_by_path-index_reg.ensures c.in-Some-Some.index_reg).0 c.in-Some-Some.is-0).0

pub returns-in-Some-Some-clause-data_reg : goal.returns-in-Some-Some-clause-data_reg
returns-in-Some-Some-clause-data_reg c = ((c.reg_by_path-data_reg.ensures c.in-Some-Some.data_reg).0 c.in-Some-Some.is-1).0

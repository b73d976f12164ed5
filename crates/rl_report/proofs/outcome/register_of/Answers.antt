use Rattle.std.proofs.Common.{Some, ap, sym, ◌∙◌}
use Rattle.rl_report.specs.declared.operation.Subject.TheVariants.{Reg, Field}
use Rattle.rl_report.proofs.OperationLemmas.{register_at}
use Rattle.rl_report.proofs.outcome.register_of.Goals as goal

pub returns-in-Reg-clause-value : goal.returns-in-Reg-clause-value
returns-in-Reg-clause-value c =
    register_at c.args.model.now.chip c.args.op (Reg c.in-Reg.reg) (sym c.subject_of.ensures ∙ c.in_ok-reg.was ∙ ap Some c.in-Reg.is)

pub returns-in-Field-clause-value : goal.returns-in-Field-clause-value
returns-in-Field-clause-value c =
    ap Some c.register_with.ensures.value
    ∙ register_at c.args.model.now.chip c.args.op (Field c.in-Field.field) (sym c.subject_of.ensures ∙ c.in_ok-reg.was ∙ ap Some c.in-Field.is)

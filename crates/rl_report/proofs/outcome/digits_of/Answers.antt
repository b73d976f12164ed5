use Rattle.std.proofs.Common.{◌*◌, Some, ap, sym, ◌∙◌}
use Rattle.rl_model.specs.Fields.{size_of}
use Rattle.rl_report.specs.declared.operation.Subject.TheVariants.{Reg, Field, Mem}
use Rattle.rl_report.proofs.OperationLemmas.{digits_at}
use Rattle.rl_report.proofs.outcome.digits_of.Goals as goal

pub returns-in-Some-Reg : goal.returns-in-Some-Reg
returns-in-Some-Reg c =
    let digits = c.item_digits.ensures in
    let subject = sym c.subject_of.ensures ∙ c.in-Some-Reg.is ∙ ap Some c.in-Some-Reg.field-0-is in
    record { value = digits.value ∙ digits_at c.args.model.now.chip c.args.op (Reg c.in-Some-Reg.reg) c.in_default.not-FieldRead subject; some = digits.some; few = digits.few }

pub returns-in-Some-Field : goal.returns-in-Some-Field
returns-in-Some-Field c =
    let chip = c.args.model.now.chip in
    let digits = c.item_digits-in-Some-Field.ensures in
    let subject = sym c.subject_of.ensures ∙ c.in-Some-Field.is ∙ ap Some c.in-Some-Field.field-0-is in
    record {
      value = digits.value ∙ ap (λ n. 2 * size_of chip n) c.register_with.ensures.value ∙ digits_at chip c.args.op (Field c.in-Some-Field.field) c.in_default.not-FieldRead subject;
      some = digits.some;
      few = digits.few;
    }

pub returns-in-Some-Mem : goal.returns-in-Some-Mem
returns-in-Some-Mem c =
    let digits = c.item_digits-in-Some-Mem.ensures in
    let subject = sym c.subject_of.ensures ∙ c.in-Some-Mem.is ∙ ap Some c.in-Some-Mem.field-0-is in
    record { value = digits.value ∙ digits_at c.args.model.now.chip c.args.op (Mem c.in-Some-Mem.mem) c.in_default.not-FieldRead subject; some = digits.some; few = digits.few }

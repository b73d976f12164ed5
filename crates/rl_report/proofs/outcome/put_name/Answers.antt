use Rattle.std.proofs.Common.{◌≡◌, ◌+◌, ◌<◌, length, arith, ap, sym, ◌∙◌}
use Rattle.rl_policy.specs.Bits.{bit}
use Rattle.rl_model.specs.Rows.{FieldSeen}
use Rattle.rl_model.specs.Fields.{field_of, field_in, fields_of, first_of}
use Rattle.rl_mirror.proofs.FieldLemmas.{length-fields_of, field_in-fields_of}
use Rattle.rl_report.proofs.GatherLemmas.{gathers_if, gathers_more, gathers_last, gathers_failed}
use Rattle.rl_report.proofs.PieceLemmas.{stays_then, stays_stopped}
use Rattle.rl_report.proofs.outcome.put_name.Goals as goal

pub overflow_add-first : goal.overflow_add-first
overflow_add-first g c = omega (arith, c.fields_with-first.ensures.count, c.fields_with-first.ensures.bound, c.requires.place)

pub returns-in_err-gather-clause-bytes : goal.returns-in_err-gather-clause-bytes
returns-in_err-gather-clause-bytes g c =
    gathers_if (bit c.args.differ c.args.place) (sym c.has_mark.ensures ∙ c.if-not-has_mark.false) (gathers_failed _ _ _ _ _ _ _ c.from_residual.ensures.0 c.in_err-gather.ensures.bytes.part)

pub returns-clause-bytes : goal.returns-clause-bytes
returns-clause-bytes g c =
    let chip = c.args.model.now.chip in
    let reg = c.args.reg in
    let e = c.fields_with-first.ensures in
    let within : c.args.place < length (fields_of chip reg) = rw (length-fields_of chip reg e.sound c.requires.reg) c.requires.place in
    let is : field_of chip (first_of chip reg + c.args.place) ≡ field_in (fields_of chip reg) c.args.place = sym (field_in-fields_of chip reg c.args.place e.sound c.requires.reg within) in
    let name = c.name_of.ensures ∙ ap (λ n. (field_of chip (n + c.args.place)).name) e.first ∙ ap (λ (f : FieldSeen). f.name) is in
    gathers_if (bit c.args.differ c.args.place) (sym c.has_mark.ensures ∙ c.if-not-has_mark.false)
    (gathers_more _ _ _ _ _ _ _ _ _ c.in_ok-gather.ensures.bytes.whole (gathers_last _ _ _ _ _ _ (rw name at c.gather-2.ensures.bytes)))

pub returns-in_err-gather-clause-stays : goal.returns-in_err-gather-clause-stays
returns-in_err-gather-clause-stays g c = stays_stopped _ _ _ _ _ c.from_residual.ensures.0 c.in_err-gather.ensures.stays

pub returns-clause-stays : goal.returns-clause-stays
returns-clause-stays g c = stays_then _ _ _ _ _ _ c.in_ok-gather.ensures.stays c.gather-2.ensures.stays

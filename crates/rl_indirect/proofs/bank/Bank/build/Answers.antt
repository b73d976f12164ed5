use Rattle.std.proofs.Common.{sym, ap, ◌∙◌, subst}
use Rattle.rl_model.specs.Fields.{size_of}
use Rattle.rl_model.specs.Rows.{ChipData}
use Rattle.rl_mirror.specs.Mirror.{MirrorData, mirrored_of}
use Rattle.rl_mirror.proofs.FieldLemmas.{row_answer}
use Rattle.rl_access.specs.Call.{scene}
use Rattle.rl_indirect.specs.Agree.{BankAgree}
use Rattle.rl_indirect.specs.Bank.{BankData}
use Rattle.rl_indirect.specs.Window.{window_fault, outside_fault}
use Rattle.rl_indirect.proofs.Built.{refused_window, refused_outside, no_memory, believed_are, built, built_as}
use Rattle.rl_indirect.proofs.Data.{over_data}
use Rattle.rl_indirect.proofs.NewBanks.{new_banks_agree}
use Rattle.rl_indirect.proofs.bank.Bank.build.Goals as goal

pub returns-in-Some-clause-built : goal.returns-in-Some-clause-built
returns-in-Some-clause-built g c =
    let m = c.args.model.now in
    refused_window m _ c.args.window c.args.size c.in-Some.fault
    (sym (c.fault.ensures ∙ ap (λ (h : ChipData). window_fault h c.args.window c.args.size) c.chip.ensures.chip) ∙ c.in-Some.is)

pub returns-in-Some-outside_fault-clause-built : goal.returns-in-Some-outside_fault-clause-built
returns-in-Some-outside_fault-clause-built g c =
    let m = c.args.model.now in
    let w = c.args.window in
    let size = c.args.size in
    refused_outside m _ w size c.bits_of-index.result c.in-Some-outside_fault.fault c.bits_of-index.ensures
    (sym (c.in_default.ensures ∙ ap (λ (h : ChipData). window_fault h w size) c.chip.ensures.chip))
    (sym (c.outside_fault.ensures.fault ∙ ap (outside_fault size c.bits_of-index.result) (c.mirrored-believed.ensures ∙ ap (λ (x : MirrorData). mirrored_of x w.index_reg) c.mirror.ensures.mirror))
    ∙ c.in-Some-outside_fault.is)

pub returns-in_err-new-clause-built : goal.returns-in_err-new-clause-built
returns-in_err-new-clause-built g c =
    let m = c.args.model.now in
    let w = c.args.window in
    let size = c.args.size in
    no_memory m _ w size c.bits_of-index.result c.bits_of-held.result c.from_residual.result c.bits_of-index.ensures c.bits_of-held.ensures
    (sym (c.in_default.ensures ∙ ap (λ (h : ChipData). window_fault h w size) c.chip.ensures.chip))
    (sym (c.in_default-outside_fault.ensures.fault
    ∙ ap (outside_fault size c.bits_of-index.result) (c.mirrored-believed.ensures ∙ ap (λ (x : MirrorData). mirrored_of x w.index_reg) c.mirror.ensures.mirror)))
    c.from_residual.ensures.1

pub returns-in_err-new-2-clause-built : goal.returns-in_err-new-2-clause-built
returns-in_err-new-2-clause-built g c =
    let m = c.args.model.now in
    let w = c.args.window in
    let size = c.args.size in
    no_memory m _ w size c.bits_of-index.result c.bits_of-held.result c.from_residual-in_err-new-2.result c.bits_of-index.ensures c.bits_of-held.ensures
    (sym (c.in_default.ensures ∙ ap (λ (h : ChipData). window_fault h w size) c.chip.ensures.chip))
    (sym (c.in_default-outside_fault.ensures.fault
    ∙ ap (outside_fault size c.bits_of-index.result) (c.mirrored-believed.ensures ∙ ap (λ (x : MirrorData). mirrored_of x w.index_reg) c.mirror.ensures.mirror)))
    c.from_residual-in_err-new-2.ensures.1

pub returns-clause-built : goal.returns-clause-built
returns-clause-built g c =
    let m = c.args.model.now in
    let w = c.args.window in
    let size = c.args.size in
    built m _ w size c.bits_of-index.result c.bits_of-held.result c.bytes.result c.in_ok-new.field-0 c.in_ok-new-2.field-0 c.bits_of-index.ensures c.bits_of-held.ensures
    (sym (c.in_default.ensures ∙ ap (λ (h : ChipData). window_fault h w size) c.chip.ensures.chip))
    (sym (c.in_default-outside_fault.ensures.fault
    ∙ ap (outside_fault size c.bits_of-index.result) (c.mirrored-believed.ensures ∙ ap (λ (x : MirrorData). mirrored_of x w.index_reg) c.mirror.ensures.mirror)))
    (sym (row_answer c.chip-2.result.now w.data_reg c.bytes.result (λ r. r.bytes) c.bytes.ensures.value) ∙ ap (λ (h : ChipData). size_of h w.data_reg) c.chip-2.ensures.chip)
    c.in_ok-new.ensures
    (believed_are m w size _ _ _ _ _ c.mirrored-believed.ensures c.mirror.ensures.mirror c.mirrored-mirrored.ensures c.mirror-2.ensures.mirror c.in_ok-new-2.ensures)

pub returns-clause-data : goal.returns-clause-data
returns-clause-data g c =
    let m = c.args.model.now in
    let w = c.args.window in
    over_data m _ _ c.requires.device (record {
      index_reg = c.requires.index_reg;
      data_reg = c.requires.data_reg;
      bytes = sym (sym (row_answer c.chip-2.result.now w.data_reg c.bytes.result (λ r. r.bytes) c.bytes.ensures.value) ∙ ap (λ (h : ChipData). size_of h w.data_reg) c.chip-2.ensures.chip);
      window = sym (c.in_default.ensures ∙ ap (λ (h : ChipData). window_fault h w c.args.size) c.chip.ensures.chip);
    })

pub returns-clause-agree : goal.returns-clause-agree
returns-clause-agree g c =
    let m = c.args.model.now in
    let w = c.args.window in
    let size = c.args.size in
    λ adapters account a.
    subst (λ (b : BankData). BankAgree (scene m adapters account (g.D.Device.state c.args.device.now)) b)
    (sym (built_as m w size c.bits_of-index.result c.bits_of-held.result c.bytes.result c.in_ok-new.field-0 c.in_ok-new-2.field-0
    (sym (row_answer c.chip-2.result.now w.data_reg c.bytes.result (λ r. r.bytes) c.bytes.ensures.value) ∙ ap (λ (h : ChipData). size_of h w.data_reg) c.chip-2.ensures.chip)
    c.in_ok-new.ensures
    (believed_are m w size _ _ _ _ _ c.mirrored-believed.ensures c.mirror.ensures.mirror c.mirrored-mirrored.ensures c.mirror-2.ensures.mirror c.in_ok-new-2.ensures)))
    (new_banks_agree (scene m adapters account (g.D.Device.state c.args.device.now)) w size c.bits_of-index.result c.bits_of-held.result a c.chip.ensures.sound c.requires.index_reg c.requires.data_reg
    c.bits_of-index.ensures c.bits_of-held.ensures)

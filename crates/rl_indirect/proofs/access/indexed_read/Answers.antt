use Rattle.std.proofs.Common.{◌∙◌, ◌<◌, cond, length, sym, ap, subst, arith}
use Rattle.rl_map.specs.Layout.{LayoutData}
use Rattle.rl_split.specs.Step.{every}
use Rattle.rl_access.specs.declared.event.Op.TheVariants as op
use Rattle.rl_access.specs.Operation.{IsMapIn}
use Rattle.rl_plain.specs.OneStep.{read_step}
use Rattle.rl_indirect.specs.declared.window.Window.{Window}
use Rattle.rl_indirect.specs.Bank.{IsBankOf}
use Rattle.rl_indirect.proofs.Data.{over_data}
use Rattle.rl_indirect.proofs.EntrySteps.{IsOnData, entry_step, no_entry_step, on_read, past_entries}
use Rattle.rl_indirect.proofs.Found.{read_finds}
use Rattle.rl_indirect.proofs.access.indexed_read.Goals as goal

pub returns-then-k-size-clause-data : goal.returns-then-k-size-clause-data
returns-then-k-size-clause-data g c = over_data c.args.model.now _ c.args.bank.now c.requires.ready.device c.requires.bank

pub returns-then-not-is_done-clause-data : goal.returns-then-not-is_done-clause-data
returns-then-not-is_done-clause-data g c = over_data c.select-index.new.model _ c.select-index.new.bank c.select-index.ensures.ready.device c.select-index.ensures.bank

pub returns-clause-data : goal.returns-clause-data
returns-clause-data g c =
    over_data c.mirror-access.new.model _ c.select-index.new.bank c.mirror-access.ensures.does.ready.device
    (subst (λ chip. IsBankOf chip c.select-index.new.bank) (sym c.mirror-access.ensures.does.parts.chip) c.select-index.ensures.bank)

pub returns-clause-found : goal.returns-clause-found
returns-clause-found g c =
    read_finds c.args.bank.now c.select-index.new.bank _ _ _ c.args.map c.args.k c.window.result.data_reg c.args.check c.select-index.result c.mirror-access.result
    c.chip-sound.ensures.sound c.requires.bank c.size.ensures.sound (omega arith) c.select-index.ensures.selects (sym c.is_done.ensures ∙ c.if-not-is_done.false)
    (ap (λ (w : Window). w.data_reg) (c.window.ensures.window ∙ c.select-index.ensures.same.window)) c.mirror-access.ensures.does.performs

pub returns-then-k-size-clause-agree : goal.returns-then-k-size-clause-agree
returns-then-k-size-clause-agree g c = λ h. past_entries _ c.args.bank.now c.args.k _ h

pub returns-then-not-is_done-clause-agree : goal.returns-then-not-is_done-clause-agree
returns-then-not-is_done-clause-agree g c = λ h. no_entry_step _ _ c.args.bank.now c.select-index.new.bank c.args.k _ c.select-index.result (c.select-index.ensures.agree h)

pub returns-clause-agree : goal.returns-clause-agree
returns-clause-agree g c = λ h.
    let s = c.select-index.ensures in
    let reg = subst (λ (w : Window). w.data_reg < length c.select-index.new.model.chip.regs) (sym c.window.ensures.window) s.bank.data_reg in
    let map = subst (λ (l : LayoutData). IsMapIn (length l.maps) c.args.map) (sym s.parts.layout) c.requires.map in
    entry_step _ _ _ c.args.bank.now c.select-index.new.bank c.args.k _ _ c.select-index.result c.mirror-access.result (s.agree h) (sym c.is_done.ensures ∙ c.if-not-is_done.false)
    s.sound c.chip-left.ensures.sound s.bank c.window.ensures.sound s.parts.chip s.same.window
    (subst (λ (w : Window). IsOnData c.select-index.new.model (cond c.args.check (op.Check c.window.result.data_reg c.args.map) (op.Mirror c.window.result.data_reg c.args.map)) w.data_reg
    (read_step every)) c.window.ensures.window
    (on_read c.select-index.new.model c.window.result.data_reg c.args.map c.args.check reg map)) c.mirror-access.ensures.does.performs

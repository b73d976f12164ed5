use Rattle.std.proofs.Common.{◌∙◌, option_map, ap, subst}
use Rattle.std.specs.Option.{option_map_or}
use Rattle.rl_bus.specs.State.{poked}
use Rattle.rl_bus.specs.declared.table.Cell.TheVariants as cell
use Rattle.rl_indirect.specs.Bank.{EntryData, BankData, IsFound, settled, device_settled}
use Rattle.rl_indirect.proofs.bank.Bank.follow.Goals as goal

pub returns-clause-settles : goal.returns-clause-settles
returns-clause-settles g c =
    let i = c.self.inside in
    let told = g.D.Device.state c.args.device.now in
    let index = c.bits_of-index.result in
    let held = c.bits_of-held.result in
    record {
      index = index;
      held = held;
      index_found = subst (λ (b : BankData). IsFound told b.window.index_reg index) c.self.view_is c.bits_of-index.ensures;
      held_found = subst (λ (b : BankData). IsFound told b.window.data_reg held) c.self.view_is c.bits_of-held.ensures;
      bank =
          ap (λ (e : EntryData). let b : BankData = record { window = i.window; size = i.size; bytes = i.bytes; device = e; model = i.model } in b) c.follow-value.ensures.entries
          ∙ ap (λ (b : BankData). record b { device = settled b.device held index }) c.self.view_is;
      goes =
          c.deposit.ensures.step
          ∙ ap (λ o. option_map (λ s. option_map_or (λ v. poked s (cell.Reg i.window.data_reg) v) o s) told) c.follow-value.ensures.entry
          ∙ ap (λ (b : BankData). option_map (device_settled b index) told) c.self.view_is;
    }

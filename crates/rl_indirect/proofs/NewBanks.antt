-- A new bank of a device and a model that agree.
use Rattle.std.proofs.Common.{◌≡◌, ℕ, ◌<◌, length, refl, ap, ◌∙◌}
use Rattle.std.proofs.lemmas.List.Elements.{All-set, All-replicate}
use Rattle.rl_bus.specs.State.{peeked}
use Rattle.rl_bus.specs.declared.table.Cell.TheVariants as cell
use Rattle.rl_mirror.specs.Mirror.{IsValueOf, mirrored_of}
use Rattle.rl_access.specs.Call.{Scene}
use Rattle.rl_access.specs.Model.{IsModel}
use Rattle.rl_plain.specs.Agree.{Agree}
use Rattle.rl_indirect.specs.declared.window.Window.{Window}
use Rattle.rl_indirect.specs.Agree.{BankAgree}
use Rattle.rl_indirect.specs.Bank.{IsFound, all_entries, entries_of, new_bank}
use Rattle.rl_indirect.proofs.Following.{peeked_believed}

pub new_banks_agree : (s : Scene) (w : Window) (size index held : ℕ) → Agree s → IsModel s.model → w.index_reg < length s.model.chip.regs → w.data_reg < length s.model.chip.regs
    → IsFound s.device w.index_reg index → IsFound s.device w.data_reg held → BankAgree s (new_bank s.model w size index held)
new_banks_agree s w size index held a ok index_in data_in index_found held_found =
    let x = mirrored_of s.model.mirror w.data_reg in
    let i = mirrored_of s.model.mirror w.index_reg in
    let there : peeked a.device (cell.Reg w.data_reg) ≡ x = peeked_believed s a w.data_reg data_in in
    let same : held ≡ x = held_found a.device a.told ∙ there in
    let selected : index ≡ i = index_found a.device a.told ∙ peeked_believed s a w.index_reg index_in in
    record {
      agree = a;
      entries =
          ap (entries_of (all_entries held size index)) there
          ∙ ap (λ h. entries_of (all_entries h size index) x) same
          ∙ ap (λ n. entries_of (all_entries x size n) x) selected;
      values = All-set (IsValueOf s.model.chip w.data_reg) _ i x (ok.mirror.mirrored w.data_reg data_in) (All-replicate (IsValueOf s.model.chip w.data_reg) size x (ok.mirror.mirrored w.data_reg
          data_in));
      device = selected;
      model = refl;
    }

-- A device with the model's chip has the data register of a bank of that chip.
use Rattle.std.proofs.Common.{◌≡◌, ℕ, zero, suc, List, [], ◌∷◌, map, slice_get, Option, refl, ap, ◌∙◌}
use Rattle.std.specs.Prelude.{slice_index}
use Rattle.std.specs.Option.{option_map_or}
use Rattle.rl_bus.specs.Setup.{Setup, Flaws}
use Rattle.rl_bus.specs.State.{State}
use Rattle.rl_model.specs.Fields.{size_of}
use Rattle.rl_model.specs.Rows.{ChipData}
use Rattle.rl_model.specs.declared.rows.RegRow.{RegRow}
use Rattle.rl_map.specs.Layout.{LayoutData}
use Rattle.rl_map.specs.Tables.{setup_of}
use Rattle.rl_access.specs.Model.{ModelData, IsDeviceOf}
use Rattle.rl_access.proofs.Tables.{reg_there}
use Rattle.rl_indirect.specs.Bank.{BankData, IsBankOf, IsOverData}

bytes_at : (rows : List RegRow) (k : ℕ) → slice_index (map (λ (r : RegRow). r.bytes) rows) k ≡ option_map_or (λ r. r.bytes) (slice_get rows k) 0
bytes_at [] k = refl
bytes_at (r ∷ rows) zero = refl
bytes_at (r ∷ rows) (suc k) = bytes_at rows k

bytes_there : (c : ChipData) (l : LayoutData) (flaws : Flaws) (reg : ℕ) → slice_index (setup_of c l flaws).regs reg ≡ size_of c reg
unfolding setup_of
bytes_there c l flaws reg = bytes_at c.regs reg

pub over_data : (m : ModelData) (told : Option State) (b : BankData) → IsDeviceOf m told → IsBankOf m.chip b → IsOverData told b
over_data m told b device bank s e =
    let t = device s e in
    record {
      inside = (reg_there m told b.window.data_reg device bank.data_reg s e).reg b.window.data_reg refl;
      bytes = ap (λ (t : Setup). slice_index t.regs b.window.data_reg) t.setup ∙ bytes_there m.chip m.layout t.flaws b.window.data_reg ∙ bank.bytes;
    }

-- What the backdoor finds in the device.
use Rattle.std.specs.Prelude.{◌≡◌, ℕ, Bool, Option, Some, option_map}
use Rattle.rl_bus.specs.Account.{Account, Asks}
use Rattle.rl_bus.specs.Account as ask
use Rattle.rl_bus.specs.State.{State, peeked, poked}
use Rattle.rl_bus.specs.declared.table.Cell.TheVariants as cell
use Rattle.rl_access.specs.declared.event.End.TheVariants as end
use Rattle.rl_access.specs.Model.{ModelData}
use Rattle.rl_access.specs.Operation.{location_size}
use Rattle.rl_access.specs.Rules.{owned_of, low_bytes, back_left, back_outcome}

-- The bits of a register that belong to a field, found by the backdoor (uvm_reg::peek, IEEE 1800.2-2017, 18.4).
pub record IsFound (m : ModelData) (told : Option State) (reg value : ℕ) : Type 0 where
  pub sampled : ℕ
  pub found : (d : State) → told ≡ Some d → sampled ≡ peeked d (cell.Reg reg)
  pub value_is : value ≡ owned_of m reg sampled

-- The bytes of a location, found by the backdoor (uvm_mem::peek, IEEE 1800.2-2017, 18.6).
pub record IsFoundAt (m : ModelData) (told : Option State) (mem index value : ℕ) : Type 0 where
  pub sampled : ℕ
  pub found : (d : State) → told ≡ Some d → sampled ≡ peeked d (cell.Loc mem index)
  pub value_is : value ≡ low_bytes (location_size m.chip mem) sampled

-- a read that leaves its effects in the device and in the model
pub record IsReadBehind (m new : ModelData) (account later : Account) (told after : Option State) (check : Bool)
    (reg value differ : ℕ) : Type 0 where
  pub sampled : ℕ
  pub found : (d : State) → told ≡ Some d → sampled ≡ peeked d (cell.Reg reg)
  pub outcome : record { end = end.Value value; model = new; differ = differ } ≡ back_outcome m check reg sampled
  pub goes : after ≡ option_map (λ d. poked d (cell.Reg reg) (back_left m reg sampled)) told
  pub asked : Asks account later (ask.poke (cell.Reg reg) (back_left m reg sampled))

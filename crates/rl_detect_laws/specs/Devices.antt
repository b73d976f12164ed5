-- A device of a chip that is set up so.
use Rattle.std.specs.Prelude.{◌≡◌, ℕ, length}
use Rattle.rl_bus.specs.Setup.{Setup}
use Rattle.rl_bus.specs.State.{State}
use Rattle.rl_model.specs.Rows.{ChipData}

-- the device has this setup and the registers of the chip, with all beats 0
pub record IsSetUp (c : ChipData) (t : Setup) (d : State) : Type 0 where
  pub setup : d.setup ≡ t
  pub beats : (port address : ℕ) → d.beats port address ≡ 0
  pub bits : length d.bits ≡ length c.regs
  pub marks : length d.marks ≡ length c.regs

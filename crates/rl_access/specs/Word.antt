-- One word of an access to a whole register, for masters whose accesses are open at once.
use Rattle.std.specs.Prelude.{◌≡◌, ℕ, Option, Some, slice_get}
use Rattle.rl_bus.specs.Account.{Asks}
use Rattle.rl_bus.specs.Device.{IsStep}
use Rattle.rl_bus.specs.Standing.{standing_at, moved_on}
use Rattle.rl_access.specs.declared.trace.TraceItem.{TraceItem}
use Rattle.rl_access.specs.Call.{Scene}
use Rattle.rl_access.specs.Items.{asked_by, item_of, port_for, adapter_for}
use Rattle.rl_access.specs.Observed.{observing, word_ops}

-- Word k of a write of the value, or of a read where there is none, was sent at the place of a register.
pub record IsWordSent (s new : Scene) (place k : ℕ) (value : Option ℕ) (item : TraceItem) : Type 0 where
  -- the operation is the access's k-th
  pub op : slice_get (word_ops s.model.layout place value) k ≡ Some item.op
  -- it went to the place's port, with the next tag of the port's adapter, which alone moved
  pub item_is :
      item ≡ item_of (standing_at s.adapters (adapter_for s.model.layout place)) (port_for s.model.layout place)
      item.op item.answer
  pub adapters : new.adapters ≡ moved_on s.adapters (adapter_for s.model.layout place) item.op item.answer
  -- the device was asked this; it failed only where its count of errors rose
  pub asked : Asks s.account new.account (asked_by item)
  -- a device that tells its state did this one item
  pub step : IsStep s.device new.device (port_for s.model.layout place) item.op item.answer
  -- the model's predictor saw it
  pub model : new.model ≡ observing s.model item

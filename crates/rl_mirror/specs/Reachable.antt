-- Desired values that an update can reach.
use Rattle.std.specs.Prelude.{◌≡◌, ◌⊎◌, ℕ, ◌-◌, ◌<◌, ◌^◌, true, false, IsTrue, length}
use Rattle.rl_policy.specs.Bits.{bit}
use Rattle.rl_policy.specs.Reach.{is_reached, is_one_sided}
use Rattle.rl_model.specs.Rows.{ChipData}
use Rattle.rl_model.specs.Fields.{field_of, covers}
use Rattle.rl_mirror.specs.Fields.{part_of}
use Rattle.rl_mirror.specs.Mirror.{MirrorData, mirrored_of, desired_of, is_spent, IsMirrorOf}
use Rattle.rl_mirror.specs.Prediction.{predict_write, update_word_of}

-- the field's desired value is its mirrored one
abbrev pub IsSettled : ChipData → MirrorData → ℕ → Type 0
IsSettled c m n =
    let f = field_of c n in
    (b : ℕ) → covers f.shape b ≡ true → bit (desired_of m f.shape.reg) b ≡ bit (mirrored_of m f.shape.reg) b

-- a write can turn each mirrored bit of the field into the desired one
abbrev pub IsReached : ChipData → MirrorData → ℕ → Type 0
IsReached c m n =
    let f = field_of c n in
    (b : ℕ) → covers f.shape b ≡ true
    → IsTrue (is_reached f.shape.policy
    (bit (mirrored_of m f.shape.reg) b) (bit (desired_of m f.shape.reg) b) (is_spent m n))

-- An update reaches the desired value of each field. A field that each write sets or clears as a whole may wait at its
-- mirrored value, which an update doesn't keep.
pub record IsReachable (c : ChipData) (m : MirrorData) : Type 0 where
  pub reached : (n : ℕ) → n < length c.fields → is_one_sided (field_of c n).shape.policy ≡ false → IsReached c m n
  pub one_sided : (n : ℕ)
      → n < length c.fields → is_one_sided (field_of c n).shape.policy ≡ true
      → IsSettled c m n ⊎ IsReached c m n

-- The mirror after the update word was written to all fields (uvm_reg::update, IEEE 1800.2-2017, 18.4).
abbrev pub after_update : ChipData → (reg : ℕ) → MirrorData → MirrorData
after_update c reg m = predict_write c reg (update_word_of c reg m) (2 ^ 64 - 1) m

-- the field has its old desired value as mirrored and as desired value
pub record IsBrought (c : ChipData) (old new : MirrorData) (n : ℕ) : Type 0 where
  pub mirrored :
      part_of (field_of c n).shape (mirrored_of new (field_of c n).shape.reg)
      ≡ part_of (field_of c n).shape (desired_of old (field_of c n).shape.reg)
  pub desired :
      part_of (field_of c n).shape (desired_of new (field_of c n).shape.reg)
      ≡ part_of (field_of c n).shape (desired_of old (field_of c n).shape.reg)

-- The law of updates, by this project's own update words.
abbrev pub UpdateBrings : ChipData → Type 0
UpdateBrings c =
    (m : MirrorData) (n : ℕ) → IsMirrorOf c m → n < length c.fields → IsReached c m n
    → IsBrought c m (after_update c (field_of c n).shape.reg m) n

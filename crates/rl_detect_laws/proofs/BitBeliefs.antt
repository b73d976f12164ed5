-- What is believed of one bit after an operation of its register, and what the backdoor reads and leaves of it.
use Rattle.std.proofs.Common.{◌≡◌, ℕ, ◌<◌, Bool, true, false, ◌||◌, if◌then◌else◌, List, length, Some, refl, sym, ap, ◌∙◌, subst}
use Rattle.std.specs.Option.{option_map_or}
use Rattle.std.specs.Prelude.{is_some, slice_index}
use Rattle.std.proofs.lemmas.List.{get_or-set_same}
use Rattle.rl_policy.specs.Bits.{bit}
use Rattle.rl_policy.specs.Table.{after_write, after_read, is_write_only, spends_mark}
use Rattle.rl_bus.specs.declared.table.Cell.TheVariants as cell
use Rattle.rl_bus.specs.Setup.{field_at, stuck_at, or_else, held}
use Rattle.rl_bus.specs.State.{State, poked}
use Rattle.rl_model.specs.Rows.{FieldSeen, ChipData}
use Rattle.rl_model.specs.Chip.{IsSound as IsChip}
use Rattle.rl_model.specs.Fields.{fields_of, policy_in, place_at}
use Rattle.rl_split.specs.Step.{every}
use Rattle.rl_mirror.specs.Fields.{owned}
use Rattle.rl_mirror.specs.Mirror.{MirrorData, IsMirrorOf, mirrored_of, marks_in}
use Rattle.rl_mirror.specs.Prediction.{predict_raw, predict_read, written, left_by_read}
use Rattle.rl_mirror.proofs.PlaceLemmas.{place_is}
use Rattle.rl_mirror.proofs.WordLemmas.{bit-word_by_field}
use Rattle.rl_access.specs.Rules.{every_field}
use Rattle.rl_plain.specs.Agree.{believed}
use Rattle.rl_plain.specs.OneStep.{write_step}
use Rattle.rl_plain.proofs.Agreement.{here_same, spent-wstep}
use Rattle.rl_plain.proofs.Backdoor.{raw_here}
use Rattle.rl_plain.proofs.Followed.{IsPredictedWrite, IsPredictedRead, all_chosen}
use Rattle.rl_detect_laws.proofs.AccessTest.{raw_spent}
use Rattle.rl_detect_laws.proofs.Apart.{read_spent}
use Rattle.rl_detect_laws.proofs.Bashing.{written_there, read_there}
use Rattle.rl_detect_laws.proofs.StuckBit.{held_bit}

-- bit b of register n belongs to the register's k-th field
pub record IsBitAt (c : ChipData) (n k b : ℕ) : Type 0 where
  pub sound : IsChip c
  pub inside : n < length c.regs
  pub low : b < 64
  pub at : place_at (fields_of c n) b ≡ Some k

-- ---- over the bus

pub wrote_bit : (c : ChipData) (n k b value : ℕ) (old new : MirrorData) → IsBitAt c n k b → IsMirrorOf c old → IsPredictedWrite c n every value old new
    → (bit (mirrored_of new n) b ≡ after_write (policy_in (fields_of c n) k) (bit (mirrored_of old n) b) (bit value b) (marks_in c old.spent n k))
    × (marks_in c new.spent n k ≡ (marks_in c old.spent n k || spends_mark (policy_in (fields_of c n) k)))
wrote_bit c n k b value old new is built f = (
  written_there c n k b value old new is.sound is.inside built is.low is.at f,
  sym ((here_same c n old new (write_step every value) is.sound is.inside built f).marks k (place_is (fields_of c n) b k is.at).0)
      ∙ spent-wstep (fields_of c n) every value (believed c old n) k,
)

pub read_bit : (c : ChipData) (n k b read : ℕ) (old new : MirrorData) → IsBitAt c n k b → is_write_only (policy_in (fields_of c n) k) ≡ false → IsMirrorOf c old
    → IsPredictedRead c n every read old new
    → (bit (mirrored_of new n) b ≡ after_read (policy_in (fields_of c n) k) (bit read b)) × (marks_in c new.spent n k ≡ marks_in c old.spent n k)
read_bit c n k b read old new is readable built f = (
  read_there c n k b read old new is.inside built is.low is.at readable f,
  ap (λ (m : MirrorData). marks_in c m.spent n k) f.is ∙ ap (λ xs. marks_in c xs n k) (read_spent c n read f.fields old),
)

-- ---- by the backdoor

owned_bit : (fs : List FieldSeen) (k b bits : ℕ) → b < 64 → place_at fs b ≡ Some k → bit (owned fs bits) b ≡ bit bits b
owned_bit fs k b bits low at = bit-word_by_field fs (λ k b. bit bits b) b low ∙ ap (λ o. option_map_or (λ k. bit bits b) o false) at

pub raw_bit : (c : ChipData) (n k b value : ℕ) (m : MirrorData) → IsBitAt c n k b → IsMirrorOf c m
    → (bit (mirrored_of (predict_raw c n value m) n) b ≡ bit value b) × (marks_in c (predict_raw c n value m).spent n k ≡ marks_in c m.spent n k)
raw_bit c n k b value m is built = (
  ap (λ x. bit x b) (raw_here c n value m (subst (λ r. n < r) (sym built.registers) is.inside)) ∙ owned_bit (fields_of c n) k b value is.low is.at,
  ap (λ xs. marks_in c xs n k) (raw_spent c n value m),
)

pub back_read_bit : (c : ChipData) (n k b read : ℕ) (m : MirrorData) → IsBitAt c n k b → is_write_only (policy_in (fields_of c n) k) ≡ false → IsMirrorOf c m
    → (bit (mirrored_of (predict_read c n read every_field m) n) b ≡ after_read (policy_in (fields_of c n) k) (bit read b))
    × (marks_in c (predict_read c n read every_field m).spent n k ≡ marks_in c m.spent n k)
back_read_bit c n k b read m is readable built =
    read_bit c n k b read m (predict_read c n read every_field m) is readable built (record { fields = every_field; are = all_chosen c n is.sound is.inside; is = refl })

pub left_there : (fs : List FieldSeen) (k b bits : ℕ) → b < 64 → place_at fs b ≡ Some k
    → bit (left_by_read fs (owned fs bits)) b ≡ after_read (policy_in fs k) (bit bits b)
unfolding left_by_read
left_there fs k b bits low at =
    bit-word_by_field fs (λ k b. after_read (policy_in fs k) (bit (owned fs bits) b)) b low
    ∙ ap (λ o. option_map_or (λ k. after_read (policy_in fs k) (bit (owned fs bits) b)) o false) at
    ∙ ap (after_read (policy_in fs k)) (owned_bit fs k b bits low at)

pub made_there : (fs : List FieldSeen) (marks : ℕ → Bool) (k b bits word : ℕ) → b < 64 → place_at fs b ≡ Some k
    → bit (written fs marks (owned fs bits) word) b ≡ after_write (policy_in fs k) (bit bits b) (bit word b) (marks k)
unfolding written
made_there fs marks k b bits word low at =
    bit-word_by_field fs (λ k b. after_write (policy_in fs k) (bit (owned fs bits) b) (bit word b) (marks k)) b low
    ∙ ap (λ o. option_map_or (λ k. after_write (policy_in fs k) (bit (owned fs bits) b) (bit word b) (marks k)) o false) at
    ∙ ap (λ x. after_write (policy_in fs k) x (bit word b) (marks k)) (owned_bit fs k b bits low at)

-- what a deposit leaves in the device
pub deposited_bit : (d : State) (n b value : ℕ) → n < length d.bits → b < 64 → is_some (field_at d.setup n b) ≡ true
    → bit (slice_index (poked d (cell.Reg n) value).bits n) b ≡ or_else (stuck_at d.setup n b) (bit value b)
unfolding poked
deposited_bit d n b value inside low owned =
    let old = slice_index d.bits n in
    let f = λ (b : ℕ). if is_some (field_at d.setup n b) then bit value b else bit old b in
    ap (λ x. bit x b) (get_or-set_same d.bits n (held d.setup n f) 0 inside) ∙ held_bit d.setup n b f low
    ∙ ap (λ t. or_else (stuck_at d.setup n b) (if t then bit value b else bit old b)) owned

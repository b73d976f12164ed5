-- The policies of the bits of a register.
use Rattle.std.proofs.Common.{◌≡◌, ◌⊎◌, ℕ, ◌+◌, ◌<◌, ◌≤◌, cond, List, [], ◌∷◌, ◌++◌, length, length-take, take, drop, get_or, slice_get, Some, None, refl, sym, ap, ◌∙◌, inl, inr, arith}
use Rattle.std.proofs.lemmas.Bool.{cases_lt}
use Rattle.std.proofs.lemmas.List.{get_or_append_left, get_or_push}
use Rattle.std.proofs.lemmas.Option.{same_Some, slice_get_cases, slice_get_read, slice_get_within, get_or_from_slice_get}
use Rattle.rl_policy.specs.declared.effects.Effects.{Effects}
use Rattle.rl_policy.specs.Masks.{AreEffectsOf}
use Rattle.std.specs.Option.{option_or}
use Rattle.rl_policy.proofs.Positions.{position_more}
use Rattle.rl_model.specs.declared.rows.RegRow.{RegRow}
use Rattle.rl_model.specs.Rows.{FieldSeen, ChipData}
use Rattle.rl_model.specs.Data.{PartsData}
use Rattle.rl_model.specs.Rules.{all_kinds}
use Rattle.rl_model.specs.Stages.{all_next}
use Rattle.rl_model.specs.Build.{first_kinds, regs_seen, all_fields, chip_of, chip_fault}
use Rattle.rl_model.specs.Chip.{IsSound}
use Rattle.rl_model.specs.Fields.{no_field, field_in, fields_of, covers, place_at, policy_at}
use Rattle.rl_model.specs.Masks.{AllHaveSeats, HaveFields, AreEffects}
use Rattle.rl_model.proofs.Numbering.{all_plain}
use Rattle.rl_model.proofs.SoundLemmas.{get-take, get-drop}
use Rattle.rl_model.proofs.ChipLaws.{field_has_bits}
use Rattle.rl_model.proofs.ChipSound.{each_chip_sound}

pub place_nowhere : (b : ℕ) → place_at [] b ≡ None
unfolding place_at
place_nowhere b = refl

-- the field that a bit belongs to, over one field more
pub place_more : (fs : List FieldSeen) (i b : ℕ) → i < length fs
    → place_at (take (i + 1) fs) b ≡ option_or (place_at (take i fs) b) (cond (covers (field_in fs i).shape b) (Some i) None)
unfolding place_at
place_more fs i b l = position_more (λ (f : FieldSeen). covers f.shape b) fs i no_field l

-- what holds of the elements at each place of two lists, over one more of each
pub pairs_more : {X Y : Type 0} (P : X → Y → Type 0) (xs : List X) (ys : List Y) (i : ℕ) (x : X) (y : Y) → length ys ≡ i → slice_get xs i ≡ Some x → P x y
    → ((n : ℕ) (a : X) (b : Y) → n < i → slice_get xs n ≡ Some a → slice_get ys n ≡ Some b → P a b)
    → (n : ℕ) (a : X) (b : Y) → n < i + 1 → slice_get xs n ≡ Some a → slice_get (ys ++ y ∷ []) n ≡ Some b → P a b
pairs_more P xs ys i x y long at here before n a b l at_a at_b =
    let read : b ≡ get_or (ys ++ y ∷ []) n b = sym (get_or_from_slice_get (ys ++ y ∷ []) n b b at_b) in
    elim (cases_lt n i) [
      | inl low ↦
          let within : n < length ys = omega (arith, low, long) in
          before n a b low at_a (slice_get_read ys (length ys) n b refl within (read ∙ get_or_append_left ys (y ∷ []) b n within))
      | inr high ↦
          let last : n ≡ i = omega (arith, high, l) in
          let first_is : a ≡ x = same_Some a x (sym at_a ∙ ap (slice_get xs) last ∙ at) in
          let second_is : b ≡ y = read ∙ ap (λ k. get_or (ys ++ y ∷ []) k b) last ∙ get_or_push ys y b i long in
          rw (first_is, second_is) here
    ]

-- the masks of one register, of those of all
pub masks_at : (c : ChipData) (all : List Effects) (reg : ℕ) (e : Effects) → AreEffects c.regs c.fields all → reg < length c.regs → e ≡ get_or all reg e
    → AreEffectsOf (policy_at (fields_of c reg)) e
unfolding fields_of
masks_at c all reg e are l read =
    let (r, within, at, same) = row_there (slice_get_cases c.regs reg).1 in
    let each = are.each reg r e at (slice_get_read all (length all) reg e refl (omega (arith, are.long, l)) read) in
    rw at each
  where
    row_there : (((x : RegRow) × (reg < length c.regs) × (slice_get c.regs reg ≡ Some x) × (get_or c.regs reg x ≡ x)) ⊎ ((length c.regs ≤ reg) × (slice_get c.regs reg ≡ None)))
        → (x : RegRow) × (reg < length c.regs) × (slice_get c.regs reg ≡ Some x) × (get_or c.regs reg x ≡ x)
    row_there (inl found) = found
    row_there (inr past) = absurd (omega (arith, past.0, l))

-- ---- the rows of a chip that is built

pub record HasRows (regs : List RegRow) (fields : List FieldSeen) : Type 0 where
  pub seats : AllHaveSeats fields
  pub within : HaveFields regs fields

sound_rows : (c : ChipData) → IsSound c → HasRows c.regs c.fields
sound_rows c sound = record {
  seats = λ i f at. let bits = field_has_bits c sound i f at in (bits.1, bits.3);
  within = λ n r at. (sound.each_reg n r at).2;
}

pub rows_of : (parts : PartsData) (regs : List RegRow) (fields : List FieldSeen) → chip_fault parts ≡ None → regs ≡ regs_seen 0 parts.regs → fields ≡ all_next 0 first_kinds parts.regs
    → HasRows regs fields
unfolding chip_of
rows_of parts regs fields none regs_are fields_are =
    let rows : HasRows (regs_seen 0 parts.regs) (all_fields 0 (all_kinds first_kinds parts.regs) parts.regs) = sound_rows (chip_of parts) (each_chip_sound parts none) in
    rw (regs_are, fields_are, all_plain 0 first_kinds parts.regs) rows

pub seats_within : (fields : List FieldSeen) (first count : ℕ) → AllHaveSeats fields → AllHaveSeats (take count (drop first fields))
seats_within fields first count seats i f at =
    let low : i < count = omega (arith, slice_get_within (take count (drop first fields)) i f at, length-take count (drop first fields)) in
    seats (first + i) f (sym (get-take (drop first fields) i count low ∙ get-drop fields first i) ∙ at)

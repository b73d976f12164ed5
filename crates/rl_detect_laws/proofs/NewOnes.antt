-- A new device with any flaws is set up with its chip: so it is one with wrong reset values, and one with deaf items.
use Rattle.std.proofs.Common.{◌≡◌, ◌≢◌, ◌⊎◌, ℕ, zero, suc, ◌+◌, ◌-◌, ◌*◌, ◌^◌, ◌%◌, ◌<◌, ◌≤◌, true, List, length, replicate, get_or, Option, Some, None}
use Rattle.std.proofs.Common.{◌&&◌, if◌then◌else◌, [], ◌∷◌, option_map, eq-eqb, refl, sym, ap, ◌∙◌, subst, inl, inr, arith}
use Rattle.std.specs.Option.{option_or, option_map_or}
use Rattle.std.specs.Prelude.{slice_index, slice_get, sum_by}
use Rattle.std.proofs.lemmas.List.{length-map, length-replicate}
use Rattle.std.proofs.lemmas.List.FromFn.{length-map-range_with_len}
use Rattle.std.proofs.lemmas.Nat.{pow_pos, pow-add}
use Rattle.std.proofs.lemmas.Option.{slice_get_cases}
use Rattle.std.proofs.Math.Nat.{zero-mod}
use Rattle.rl_bus.specs.declared.table.Cell.TheVariants.{Loc}
use Rattle.rl_bus.specs.declared.table.ItemRow.{ItemRow}
use Rattle.rl_bus.specs.declared.table.ResetRow.{ResetRow}
use Rattle.rl_bus.specs.Setup.{Setup, Flaws, location, is_deaf, value_in, reset_of}
use Rattle.rl_bus.specs.State.{State, empty_state, reg_reset, reset_by, first_state}
use Rattle.rl_model.specs.Rows.{ChipData}
use Rattle.rl_model.specs.Chip.{IsSound}
use Rattle.rl_model.specs.declared.rows.Item.TheVariants.{Mem}
use Rattle.rl_model.specs.declared.rows.MemRow.{MemRow}
use Rattle.rl_map.specs.Layout.{LayoutData}
use Rattle.rl_map.specs.Tables.{reset_rows, setup_of}
use Rattle.rl_mirror.proofs.WordLemmas.{bytes_pow}
use Rattle.rl_access.specs.Operation.{location_size}
use Rattle.rl_access.specs.Rules.{memory_size}
use Rattle.rl_access.proofs.MemoryRows.{location_within}
use Rattle.rl_seq.specs.Choice.{turned_round}
use Rattle.rl_detect_laws.specs.Devices.{IsSetUp}
use Rattle.rl_detect_laws.specs.Deaf.{deaf_items, HasDeafItems, IsSetFirst, NewOneHasDeafMemory, NewOneHasLocations}
use Rattle.rl_detect_laws.specs.Resets.{wrong_resets, NewOneHasWrongResets}

pub regs_of : (c : ChipData) (l : LayoutData) (f : Flaws) → length (setup_of c l f).regs ≡ length c.regs
unfolding setup_of
regs_of c l f = length-map c.regs (λ r. r.bytes)

set_up_by : (c : ChipData) (t : Setup) (count : ℕ) → length t.regs ≡ length c.regs → IsSetUp c t (first_state t count)
unfolding first_state reset_by
set_up_by c t count many =
    let zeros = replicate (length t.regs) 0 in
    let blank : State = empty_state t count in
    let long : length zeros ≡ length c.regs = length-replicate (length t.regs) 0 ∙ many in
    record {
      setup = refl;
      beats = λ p a. refl;
      bits = length-map-range_with_len (reg_reset blank 0) 0 (length zeros) ∙ long;
      marks = length-replicate (length zeros) 0 ∙ long;
    }

pub new_set_up : (c : ChipData) (l : LayoutData) (f : Flaws) (count : ℕ) → IsSetUp c (setup_of c l f) (first_state (setup_of c l f) count)
new_set_up c l f count = set_up_by c (setup_of c l f) count (regs_of c l f)

pub new_one_has_wrong_resets : NewOneHasWrongResets
new_one_has_wrong_resets c l resets count =
    let is = new_set_up c l (wrong_resets resets) count in
    record { resets = resets; setup = is.setup; bits = is.bits; marks = is.marks }

-- it takes such a value
abbrev pub one_reset : (field taken : ℕ) → List ResetRow
one_reset field taken = record { field = field; kind = 0; value = taken } ∷ []

pub reset_taken : (c : ChipData) (l : LayoutData) (field taken : ℕ)
    → reset_of (setup_of c l (wrong_resets (one_reset field taken))) field 0 ≡ Some taken
unfolding setup_of
reset_taken c l field taken =
    let r : ResetRow = record { field = field; kind = 0; value = taken } in
    subst (λ b. option_or (option_map (λ (x : ResetRow). x.value) (if b && true then Some r else None)) (value_in (reset_rows 0 c.fields) field 0) ≡ Some taken)
    (sym (eq-eqb field field refl)) refl

-- ---- a memory of it holds 0

blank_locations : (t : Setup) (count : ℕ) → (first_state t count).locations ≡ replicate count 0
unfolding first_state reset_by
blank_locations t count = refl

pub zero_in : (n i : ℕ) → ◌≡◌ {A = ℕ} (get_or (replicate n 0) i 0) 0
zero_in zero i = refl
zero_in (suc n) zero = refl
zero_in (suc n) (suc i) = zero_in n i

pub zero_held : (c : ChipData) (l : LayoutData) (f : Flaws) (count mem index : ℕ)
    → let d = first_state (setup_of c l f) count in
    slice_index d.locations (location d.setup mem index) ≡ 0
zero_held c l f count mem index =
    let t = setup_of c l f in
    let n = location (first_state t count).setup mem index in
    ap (λ xs. slice_index xs n) (blank_locations t count) ∙ zero_in count n

-- which isn't 1 in each bit of some bytes
bytes_turned : (bytes : ℕ) → 1 ≤ bytes → 0 ≢ 2 ^ (8 * bytes) - 1 - 0 % 2 ^ (8 * bytes)
bytes_turned zero some same = omega (arith, some)
bytes_turned (suc n) some same =
    let long : 8 * suc n ≡ 8 * n + 8 = omega arith in
    let more : 2 ^ (8 * suc n) ≡ 2 ^ (8 * n) * 256 = ap (λ k. 2 ^ k) long ∙ pow-add 2 (8 * n) 8 in
    let low = pow_pos (8 * n) in
    let none = zero-mod (2 ^ (8 * suc n)) in
    omega (arith, more, low, none, same)

mem_fits : (c : ChipData) (mem : ℕ) → IsSound c → mem < length c.mems → (1 ≤ location_size c mem) × (1 ≤ memory_size c mem)
mem_fits c mem sound inside = by (slice_get_cases c.mems mem).1
  where
    by : ((row : MemRow) × (mem < length c.mems) × (slice_get c.mems mem ≡ Some row) × (get_or c.mems mem row ≡ row))
        ⊎ ((length c.mems ≤ mem) × (slice_get c.mems mem ≡ None)) → (1 ≤ location_size c mem) × (1 ≤ memory_size c mem)
    by (inl (row, there, is, same)) =
        let fits = sound.each_mem mem row is in (
          subst (λ (o : Option MemRow). 1 ≤ option_map_or (λ m. m.bytes) o 0) (sym is) fits.0,
          subst (λ (o : Option MemRow). 1 ≤ option_map_or (λ m. m.size) o 0) (sym is) fits.2,
        )
    by (inr (past, none)) = absurd (omega (arith, past, inside))

-- the first location, or another one to which the walk writes something else than 0
set_first : (c : ChipData) (mem index : ℕ) → IsSound c → mem < length c.mems → IsSetFirst c mem index
    → (index < memory_size c mem) × (0 ≢ turned_round c (Mem mem) index)
set_first c mem index sound inside (inl first) =
    let fits = mem_fits c mem sound inside in
    subst (λ i. (i < memory_size c mem) × (0 ≢ turned_round c (Mem mem) i)) (sym first) (fits.1, bytes_turned (location_size c mem) fits.0)
set_first c mem index sound inside (inr (low, other)) = (low, λ same. other (sym same))

pub new_one_has_locations : NewOneHasLocations
new_one_has_locations c l deaf mem index inside low =
    let f = deaf_items deaf in
    let t = setup_of c l f in
    let count = sum_by (λ m. m.size) c.mems in
    let d = first_state t count in
    let long : length d.locations ≡ count = ap length (blank_locations t count) ∙ length-replicate count 0 in
    let set_up = new_set_up c l f count in
    let there = location_within c l f mem index inside low in
    record {
      inside = subst (λ (u : Setup). location u mem index < length d.locations) (sym set_up.setup)
          (subst (λ n. location t mem index < n) (sym long) there);
      fits = subst (λ n. n < 256 ^ location_size c mem) (sym (zero_held c l f count mem index))
          (subst (λ k. 0 < k) (bytes_pow (location_size c mem)) (pow_pos (8 * location_size c mem)));
    }

pub new_deaf : (c : ChipData) (l : LayoutData) (deaf : List ItemRow)
    → HasDeafItems c l (first_state (setup_of c l (deaf_items deaf)) (sum_by (λ m. m.size) c.mems))
new_deaf c l deaf =
    let count = sum_by (λ m. m.size) c.mems in
    record {
      deaf = deaf;
      set_up = new_set_up c l (deaf_items deaf) count;
      locations = ap length (blank_locations (setup_of c l (deaf_items deaf)) count) ∙ length-replicate count 0;
    }

pub new_one_has_deaf_memory : NewOneHasDeafMemory
new_one_has_deaf_memory c l deaf mem index sound inside is shown =
    let t = setup_of c l (deaf_items deaf) in
    let count = sum_by (λ m. m.size) c.mems in
    let d = first_state t count in
    let here : slice_index d.locations (location d.setup mem index) ≡ 0 = zero_held c l (deaf_items deaf) count mem index in
    let set_up = new_set_up c l (deaf_items deaf) count in
    let at = set_first c mem index sound inside shown in (
      new_deaf c l deaf,
      record {
        index_in = at.0;
        deaf = subst (λ (u : Setup). is_deaf u (Loc mem index) ≡ true) (sym set_up.setup) is;
        fits = subst (λ n. n < 256 ^ location_size c mem) (sym here)
            (subst (λ k. 0 < k) (bytes_pow (location_size c mem)) (pow_pos (8 * location_size c mem)));
        other = λ same. at.1 (sym here ∙ same);
      },
    )

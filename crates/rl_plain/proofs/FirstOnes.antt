-- A new device and a new model are those of the first machine.
use Rattle.std.proofs.Common.{◌≡◌, ℕ, ◌*◌, ◌^◌, ◌<◌, length, replicate, Some, refl, sym, ap, ◌∙◌, subst}
use Rattle.std.specs.Prelude.{slice_index, sum_by}
use Rattle.std.proofs.lemmas.List.{get_or-replicate, length-replicate}
use Rattle.std.proofs.lemmas.Nat.{pow_pos}
use Rattle.rl_bus.specs.Setup.{Setup, location}
use Rattle.rl_bus.specs.State.{first_state, reset_by}
use Rattle.rl_model.specs.Rows.{ChipData}
use Rattle.rl_map.specs.Layout.{LayoutData}
use Rattle.rl_map.specs.Tables.{setup_of}
use Rattle.rl_split.specs.Law.{no_flaws}
use Rattle.rl_mirror.specs.Prediction.{reset, fresh}
use Rattle.rl_mirror.proofs.WordLemmas.{bytes_pow}
use Rattle.rl_access.specs.Operation.{location_size}
use Rattle.rl_access.specs.Rules.{memory_size}
use Rattle.rl_plain.specs.Machine.{mirror_of, first_machine}
use Rattle.rl_plain.specs.Calls.{HasContent, first_device, FirstOnesArePlain}
use Rattle.rl_plain.proofs.Beginning.{new_ones_agree}
use Rattle.rl_plain.proofs.Locations.{location_within}
use Rattle.rl_plain.proofs.Machines.{none_of, seen_is}

fresh_is : (c : ChipData) → fresh c ≡ mirror_of (first_machine c)
unfolding fresh reset
fresh_is c = refl

first_setup : (t : Setup) (count : ℕ) → (first_state t count).setup ≡ t
unfolding first_state reset_by
first_setup t count = refl

first_locations : (t : Setup) (count : ℕ) → (first_state t count).locations ≡ replicate count 0
unfolding first_state reset_by
first_locations t count = refl

some_bytes : (n : ℕ) → 0 < 256 ^ n
some_bytes n = subst (λ k. 0 < k) (bytes_pow n) (pow_pos (8 * n))

first_content : (c : ChipData) (l : LayoutData) (mem index : ℕ) → mem < length c.mems → index < memory_size c mem → HasContent c (first_device c l) (first_machine c) mem index
first_content c l mem index inside low =
    let t = setup_of c l no_flaws in
    let count = sum_by (λ m. m.size) c.mems in
    let room : location t mem index < count = location_within c l mem index inside low in
    let at : location (first_device c l).setup mem index ≡ location t mem index = ap (λ (u : Setup). location u mem index) (first_setup t count) in
    let held : slice_index (first_device c l).locations (location (first_device c l).setup mem index) ≡ 0 =
    ap (λ xs. slice_index xs (location (first_device c l).setup mem index)) (first_locations t count) ∙ ap (slice_index (replicate count 0)) at ∙ get_or-replicate count (location t mem index) 0 0
    room in
    record {
      has = record {
        inside = subst (λ n. n < length (first_device c l).locations) (sym at) (subst (λ n. location t mem index < n) (sym (ap length (first_locations t count) ∙ length-replicate count 0)) room);
        fits = subst (λ n. n < 256 ^ location_size c mem) (sym held) (some_bytes (location_size c mem));
      };
      holds = held;
    }

pub first_ones_are_plain : FirstOnesArePlain
first_ones_are_plain s ok steady mirror gathered told =
    let c = s.model.chip in
    let l = s.model.layout in
    let a = new_ones_agree s (sum_by (λ m. m.size) c.mems) ok.chip steady mirror gathered told in
    let both : Some (first_device c l) ≡ Some a.device = sym told ∙ a.told in
    let same : first_device c l ≡ a.device = cc in
    record {
      agree = a;
      model = seen_is c l (first_machine c) s.model refl refl (mirror ∙ fresh_is c) (none_of s.model.gathered (length l.places) ok.predictor.count gathered);
      locations = λ mem index inside low. subst (λ d. HasContent c d (first_machine c) mem index) same (first_content c l mem index inside low);
    }

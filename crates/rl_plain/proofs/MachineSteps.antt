-- What a done operation leaves and tells, against the plain machine.
use Rattle.std.proofs.Common.{◌≡◌, ◌⊎◌, ℕ, ◌^◌, ◌<◌, cond, ◌&&◌, eqb, eq-eqb, ne_eqb, length, Some, refl, sym, ap, ◌∙◌, subst, inl, inr, length-set}
use Rattle.std.specs.Prelude.{slice_index, slice_set}
use Rattle.std.proofs.lemmas.Bool.{cases_eq}
use Rattle.std.proofs.lemmas.List.{get_or-set_same, get_or-set_other}
use Rattle.rl_bus.specs.Setup.{Setup, location}
use Rattle.rl_bus.specs.State.{State}
use Rattle.rl_model.specs.Rows.{ChipData}
use Rattle.rl_map.specs.Layout.{LayoutData}
use Rattle.rl_map.specs.Tables.{setup_of}
use Rattle.rl_split.specs.Law.{no_flaws}
use Rattle.rl_access.specs.declared.event.Event.{Event}
use Rattle.rl_access.specs.declared.event.Op.{Op}
use Rattle.rl_access.specs.Call.{Scene}
use Rattle.rl_access.specs.Operation.{location_size}
use Rattle.rl_access.specs.Rules.{memory_size}
use Rattle.rl_plain.specs.OneStep.{Step, write_step, read_step, no_step}
use Rattle.rl_plain.specs.Agree.{Agree}
use Rattle.rl_plain.specs.Machine.{Machine, mirror_of, stepped, with_location, machine_after, machine_end, machine_differ}
use Rattle.rl_plain.specs.Calls.{HasContent}
use Rattle.rl_plain.proofs.Kept.{IsKept}
use Rattle.rl_plain.proofs.Locations.{apart}

-- ---- the locations of a device are those of a machine

-- at each of these
pub record HasContents (which : ℕ → ℕ → Type 0) (c : ChipData) (d : State) (p : Machine) : Type 0 where
  pub at : (mem index : ℕ) → which mem index → mem < length c.mems → index < memory_size c mem → HasContent c d p mem index

-- at none, and at all
abbrev pub nowhere : ℕ → ℕ → Type 0
nowhere mem index = ⊥

abbrev pub everywhere : ℕ → ℕ → Type 0
everywhere mem index = Unit {0}

-- both stay
stays_at : (c : ChipData) (d after : State) (p q : Machine) (mem index : ℕ) → HasContent c d p mem index → after.setup ≡ d.setup → after.locations ≡ d.locations → q.locations ≡ p.locations →
    HasContent c after q mem index
stays_at c d after p q mem index h setup locations same =
    let at : location after.setup mem index ≡ location d.setup mem index = ap (λ (t : Setup). location t mem index) setup in
    let held : slice_index after.locations (location after.setup mem index) ≡ slice_index d.locations (location d.setup mem index) =
    ap (λ x. slice_index x (location after.setup mem index)) locations ∙ ap (slice_index d.locations) at in
    record {
      has = record {
        inside = subst (λ n. n < length after.locations) (sym at) (subst (λ xs. location d.setup mem index < length xs) (sym locations) h.has.inside);
        fits = subst (λ n. n < 256 ^ location_size c mem) (sym held) h.has.fits;
      };
      holds = held ∙ h.holds ∙ ap (λ f. f mem index) (sym same);
    }

pub contents_stay : {which : ℕ → ℕ → Type 0} (c : ChipData) (d after : State) (p q : Machine) → HasContents which c d p → after.setup ≡ d.setup → after.locations ≡ d.locations →
    q.locations ≡ p.locations → HasContents which c after q
contents_stay c d after p q has setup locations same = record { at = λ mem index on inside low. stays_at c d after p q mem index (has.at mem index on inside low) setup locations same }

-- one gets a value
here_or_there : (m mem i index value kept : ℕ) → (m ≡ mem) ⊎ (m ≡ mem → ⊥) → (i ≡ index) ⊎ (i ≡ index → ⊥) → (m ≡ mem → i ≡ index → ⊥) → cond (eqb m mem && eqb i index) value kept ≡ kept
here_or_there m mem i index value kept (inl a) (inl b) differ = absurd (differ a b)
here_or_there m mem i index value kept (inl a) (inr b) differ = ap (λ t. cond (t && eqb i index) value kept) (eq-eqb m mem a) ∙ ap (λ t. cond t value kept) (ne_eqb i index b)
here_or_there m mem i index value kept (inr a) b differ = ap (λ t. cond (t && eqb i index) value kept) (ne_eqb m mem a)

here_is : (m mem i index value kept : ℕ) → m ≡ mem → i ≡ index → cond (eqb m mem && eqb i index) value kept ≡ value
here_is m mem i index value kept a b = ap (λ t. cond (t && eqb i index) value kept) (eq-eqb m mem a) ∙ ap (λ t. cond t value kept) (eq-eqb i index b)

one_stored : (c : ChipData) (l : LayoutData) (d after : State) (p : Machine) (mem index value m i : ℕ) → HasContents everywhere c d p → d.setup ≡ setup_of c l no_flaws → mem < length c.mems →
    index < memory_size c mem → value < 256 ^ location_size c mem →
    after.setup ≡ d.setup → after.locations ≡ slice_set d.locations (location d.setup mem index) value → m < length c.mems → i < memory_size c m →
    (location d.setup m i ≡ location d.setup mem index) ⊎ (location d.setup m i ≡ location d.setup mem index → ⊥) → HasContent c after (with_location mem index value p) m i
one_stored c l d after p mem index value m i has setup inside low fits same locations within below (inl e) =
    let spot = location d.setup mem index in
    let t = setup_of c l no_flaws in
    let there : location t m i ≡ location t mem index = subst (λ (u : Setup). location u m i ≡ location u mem index) setup e in
    let parts = apart c l mem index m i inside low within below there in
    let at : location after.setup m i ≡ spot = ap (λ (u : Setup). location u m i) same ∙ e in
    let room : spot < length d.locations = (has.at mem index tt inside low).has.inside in
    let held : slice_index after.locations (location after.setup m i) ≡ value =
    ap (λ xs. slice_index xs (location after.setup m i)) locations ∙ ap (slice_index (slice_set d.locations spot value)) at ∙ get_or-set_same d.locations spot value 0 room in
    record {
      has = record {
        inside = subst (λ n. n < length after.locations) (sym at) (subst (λ n. spot < n) (sym (ap length locations ∙ length-set d.locations spot value)) room);
        fits = subst (λ n. n < 256 ^ location_size c m) (sym held) (subst (λ k. value < 256 ^ location_size c k) (sym parts.0) fits);
      };
      holds = held ∙ sym (here_is m mem i index value (p.locations m i) parts.0 parts.1);
    }
one_stored c l d after p mem index value m i has setup inside low fits same locations within below (inr differ) =
    let spot = location d.setup mem index in
    let h = has.at m i tt within below in
    let at : location after.setup m i ≡ location d.setup m i = ap (λ (u : Setup). location u m i) same in
    let held : slice_index after.locations (location after.setup m i) ≡ slice_index d.locations (location d.setup m i) =
    ap (λ xs. slice_index xs (location after.setup m i)) locations ∙ ap (slice_index (slice_set d.locations spot value)) at ∙ get_or-set_other d.locations spot (location d.setup m i) value 0 differ in
    let other : m ≡ mem → i ≡ index → ⊥ = λ a b. differ (ap (λ k. location d.setup k i) a ∙ ap (location d.setup mem) b) in
    record {
      has = record {
        inside = subst (λ n. n < length after.locations) (sym at) (subst (λ n. location d.setup m i < n) (sym (ap length locations ∙ length-set d.locations spot value)) h.has.inside);
        fits = subst (λ n. n < 256 ^ location_size c m) (sym held) h.has.fits;
      };
      holds = held ∙ h.holds ∙ sym (here_or_there m mem i index value (p.locations m i) (cases_eq m mem) (cases_eq i index) other);
    }

pub contents_stored : (c : ChipData) (l : LayoutData) (d after : State) (p : Machine) (mem index value : ℕ) → HasContents everywhere c d p → d.setup ≡ setup_of c l no_flaws → mem < length c.mems →
    index < memory_size c mem → value < 256 ^ location_size c mem →
    after.setup ≡ d.setup → after.locations ≡ slice_set d.locations (location d.setup mem index) value → HasContents everywhere c after (with_location mem index value p)
contents_stored c l d after p mem index value has setup inside low fits same locations = record {
  at = λ m i on within below. one_stored c l d after p mem index value m i has setup inside low fits same locations within below (cases_eq (location d.setup m i) (location d.setup mem index));
}

-- ---- a done operation

pub record IsMachineStep (which : ℕ → ℕ → Type 0) (c : ChipData) (l : LayoutData) (p : Machine) (new : Scene) (op : Op) (place : ℕ) (event : Event) : Type 0 where
  pub agree : Agree new
  pub chip : new.model.chip ≡ c
  pub layout : new.model.layout ≡ l
  pub mirror : new.model.mirror ≡ mirror_of (machine_after c l op place p)
  pub many : length new.model.gathered ≡ length l.places
  pub kept : IsKept c new.model.mirror
  pub after : State
  pub told : new.device ≡ Some after
  pub contents : HasContents which c after (machine_after c l op place p)
  pub ends : event.end ≡ machine_end c l op place p
  pub finds : event.differ ≡ machine_differ op p

pub stepped_locations : (c : ChipData) (reg : ℕ) (step : Step) (p : Machine) → (stepped c reg step p).locations ≡ p.locations
stepped_locations c reg (write_step chosen word) p = refl
stepped_locations c reg (read_step chosen) p = refl
stepped_locations c reg no_step p = refl

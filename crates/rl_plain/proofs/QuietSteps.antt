-- An operation that sends nothing is the plain machine's.
use Rattle.std.proofs.Common.{◌≡◌, ℕ, ◌^◌, ◌%◌, ◌<◌, Bool, false, List, [], length, Option, None, Some, Ok, refl, sym, ap, ◌∙◌, subst, arith}
use Rattle.std.specs.Prelude.{◌+◌, ◌*◌, get_or, slice_index, slice_set, nat_lt}
use Rattle.std.specs.Option.{option_map_or}
use Rattle.std.proofs.lemmas.Bool.{ltb-true}
use Rattle.std.proofs.lemmas.List.{length-replicate}
use Rattle.std.proofs.Math.Nat.{mod-eq_of_lt}
use Rattle.rl_policy.specs.Bits.{bit}
use Rattle.rl_policy.specs.Table.{value_read}
use Rattle.rl_policy.proofs.BitLemmas.{from_bits-same, is_from_bits}
use Rattle.rl_bus.specs.Account.{Account}
use Rattle.rl_bus.specs.Setup.{Setup, mem_of, location}
use Rattle.rl_bus.specs.Standing.{Standing}
use Rattle.rl_bus.specs.State.{State, peeked, poked, reset_by}
use Rattle.rl_bus.specs.declared.table.Cell.TheVariants as cell
use Rattle.rl_model.specs.declared.rows.Item.TheVariants as item
use Rattle.rl_model.specs.Rows.{FieldSeen, ChipData}
use Rattle.rl_model.specs.Chip.{IsSound}
use Rattle.rl_model.specs.Fields.{fields_of, policy_in, place_at}
use Rattle.rl_map.specs.Layout.{LayoutData}
use Rattle.rl_split.specs.Step.{Register, every, ranswer, shown_bit}
use Rattle.rl_mirror.specs.Compared.{differ}
use Rattle.rl_mirror.specs.Fields.{owned, word_by_field}
use Rattle.rl_mirror.specs.Mirror.{MirrorData, marks_in}
use Rattle.rl_mirror.specs.Prediction.{predict_raw, predict_read, written, shown, set, reset}
use Rattle.rl_mirror.proofs.MirrorLemmas.{set_built, reset_built}
use Rattle.rl_mirror.proofs.ReachLemmas.{raw_reach, reset_reach, set_reach}
use Rattle.rl_mirror.proofs.WordLemmas.{owned-word_by_field, bytes_pow}
use Rattle.rl_access.specs.declared.event.End.{End}
use Rattle.rl_access.specs.declared.event.End.TheVariants as end
use Rattle.rl_access.specs.declared.event.Event.{Event}
use Rattle.rl_access.specs.declared.event.Op.{Op}
use Rattle.rl_access.specs.declared.event.Op.TheVariants as op
use Rattle.rl_access.specs.declared.event.Refused.TheVariants.{OutOfRange, TooWide}
use Rattle.rl_access.specs.declared.trace.TraceItem.{TraceItem}
use Rattle.rl_access.specs.Call.{Scene, scene, IsDone}
use Rattle.rl_access.specs.Gathering.{no_words}
use Rattle.rl_access.specs.Items.{items_of, port_for}
use Rattle.rl_access.specs.Model.{ModelData, IsModel}
use Rattle.rl_access.specs.Operation.{location_size, register_of, HasNumbers}
use Rattle.rl_access.specs.Rules.{grant, at_location, by_backdoor, memory_size, item_size, sends, named, outcome, event_of, device_after, every_field, back_written, back_value, back_left, low_bytes}
use Rattle.rl_access.proofs.Beliefs.{event_tells}
use Rattle.rl_plain.specs.Sorts as sort
use Rattle.rl_plain.specs.Sorts.{IsOf}
use Rattle.rl_plain.specs.Agree.{Agree, IsBackdoor, IsWish, IsMemoryBackdoor}
use Rattle.rl_plain.specs.OneStep.{read_step}
use Rattle.rl_plain.specs.Machine.{Machine, register_at, mirror_of, stepped, seen, with_both, with_wish, with_reset, machine_after, machine_end, machine_differ}
use Rattle.rl_plain.proofs.AccessSteps.{check_finds}
use Rattle.rl_plain.proofs.Backdoor.{IsHeld, held_by, peeked_is, alone_by, back_done}
use Rattle.rl_plain.proofs.Followed.{all_chosen}
use Rattle.rl_plain.proofs.Granted.{only_ok}
use Rattle.rl_plain.proofs.Kept.{IsKept, model_kept, raw_built, read_kept}
use Rattle.rl_plain.proofs.Locations.{memory_row}
use Rattle.rl_plain.proofs.MachineSteps.{HasContents, everywhere, contents_stay, contents_stored, IsMachineStep}
use Rattle.rl_plain.proofs.Memories.{memory_done}
use Rattle.rl_plain.proofs.PlainSteps.{read_stepped}
use Rattle.rl_plain.proofs.Resets.{reset_done}
use Rattle.rl_plain.proofs.Wishes.{stays_agreed, wish_done}

-- a burst by its name alone: it is refused as that, or done as its locations
abbrev pub IsBurstName : Op → Type 0
IsBurstName op = IsOf sort.burst op

-- ---- what an operation that sends nothing leaves and tells

pub record IsToldAlone (s new : Scene) (op : Op) (event : Event) (place sampled : ℕ) : Type 0 where
  pub model : new.model ≡ (outcome s.model op place sampled []).model
  pub event_is : event ≡ event_of s.model (named s.model op) [] (outcome s.model op place sampled [])

pub told_alone : (s new : Scene) (op : Op) (event : Event) (place : ℕ) (d : State) → (done : IsDone s new op place event) → s.device ≡ Some d → sends s.model op place ≡ [] →
    IsToldAlone s new op event place done.sampled
told_alone s new op event place d done told none =
    let trace : event.trace ≡ [] = done.answers d told ∙ ap (items_of _ d (port_for s.model.layout place)) none in
    record {
      model = done.model ∙ ap (λ (items : List TraceItem). (outcome s.model op place done.sampled items).model) trace;
      event_is = done.event_is ∙ ap (λ (items : List TraceItem). event_of s.model (named s.model op) items (outcome s.model op place done.sampled items)) trace;
    }

-- the mirror alone changes in the model
pub quiet_step : {which : ℕ → ℕ → Type 0} (c : ChipData) (l : LayoutData) (p : Machine) (new : Scene) (op : Op) (place : ℕ) (event : Event) (after : State) (mirror : MirrorData) (e : End) (found : ℕ)
    → Agree new → new.model ≡ record (seen c l p) { mirror = mirror } → new.device ≡ Some after →
    event.end ≡ e → event.differ ≡ found → IsKept c mirror → mirror ≡ mirror_of (machine_after c l op place p) → e ≡ machine_end c l op place p → found ≡ machine_differ op p →
    HasContents which c after (machine_after c l op place p) → IsMachineStep which c l p new op place event
quiet_step c l p new op place event after mirror e found agree model told ends finds kept state ended differs contents = record {
  agree = agree;
  chip = ap (λ (m : ModelData). m.chip) model;
  layout = ap (λ (m : ModelData). m.layout) model;
  mirror = ap (λ (m : ModelData). m.mirror) model ∙ state;
  many = ap (λ (m : ModelData). length m.gathered) model ∙ length-replicate (length l.places) no_words;
  kept = subst (IsKept c) (sym (ap (λ (m : ModelData). m.mirror) model)) kept;
  after = after;
  told = told;
  contents = contents;
  ends = ends ∙ ended;
  finds = finds ∙ differs;
}

-- ---- words and mirrors

raw_is : (c : ChipData) (reg value : ℕ) (p : Machine) → predict_raw c reg value (mirror_of p) ≡ mirror_of (with_both reg (owned (fields_of c reg) value) p)
unfolding predict_raw
raw_is c reg value p = refl

raw_kept : (c : ChipData) (reg value : ℕ) (m : MirrorData) → IsSound c → reg < length c.regs → IsKept c m → IsKept c (predict_raw c reg value m)
raw_kept c reg value m sound inside kept = record { built = raw_built c reg value m sound inside kept.built; reach = raw_reach c reg value m inside kept.built kept.reach }

set_is : (c : ChipData) (field value : ℕ) (p : Machine) → set c field value (mirror_of p) ≡ mirror_of (with_wish c field value p)
unfolding set
set_is c field value p = refl

pub reset_is : (c : ChipData) (kind : ℕ) (p : Machine) → reset c kind (mirror_of p) ≡ mirror_of (with_reset c kind p)
unfolding reset
reset_is c kind p = refl

owned-written : (fs : List FieldSeen) (marks : ℕ → Bool) (m value : ℕ) → owned fs (written fs marks m value) ≡ written fs marks m value
unfolding written
owned-written fs marks m value = owned-word_by_field fs _

shown_is : (fs : List FieldSeen) (r : Register) → shown fs r.bits ≡ ranswer fs every r
unfolding shown ranswer word_by_field
shown_is fs r =
    from_bits-same 64 (λ b. option_map_or (λ k. value_read (policy_in fs k) (bit r.bits b)) (place_at fs b) false) (λ b. shown_bit fs every (place_at fs b) (bit r.bits b)) (λ b low. by b
    (place_at fs b))
  where
    by : (b : ℕ) → (o : Option ℕ) → option_map_or (λ k. value_read (policy_in fs k) (bit r.bits b)) o false ≡ shown_bit fs every o (bit r.bits b)
    by b None = refl
    by b (Some k) = refl

-- ---- the device

-- it keeps its locations
record KeepsLocations (d after : State) : Type 0 where
  setup : after.setup ≡ d.setup
  locations : after.locations ≡ d.locations

poked_keeps : (d : State) (reg value : ℕ) → KeepsLocations d (poked d (cell.Reg reg) value)
unfolding poked
poked_keeps d reg value = record { setup = refl; locations = refl }

reset_keeps : (d : State) (kind : ℕ) → KeepsLocations d (reset_by d kind)
unfolding reset_by
reset_keeps d kind = record { setup = refl; locations = refl }

peeked_at : (d : State) (mem index : ℕ) → peeked d (cell.Loc mem index) ≡ slice_index d.locations (location d.setup mem index)
unfolding peeked
peeked_at d mem index = refl

record IsPokedAt (d after : State) (mem index value : ℕ) : Type 0 where
  setup : after.setup ≡ d.setup
  locations : after.locations ≡ slice_set d.locations (location d.setup mem index) (value % 256 ^ (mem_of d.setup mem).bytes)

poked_at : (d : State) (mem index value : ℕ) → IsPokedAt d (poked d (cell.Loc mem index) value) mem index value
unfolding poked
poked_at d mem index value = record { setup = refl; locations = refl }

low_is : (bytes x : ℕ) → x < 256 ^ bytes → low_bytes bytes x ≡ x
low_is bytes x fits =
    let zero_first : (i : ℕ) → 0 + i ≡ i = λ i. omega arith in
    sym (is_from_bits (8 * bytes) x (λ i. bit x (0 + i)) (subst (λ n. x < n) (sym (bytes_pow bytes)) fits) (λ i l. sym (ap (bit x) (zero_first i))))

-- ---- what was found by the backdoor

record IsFoundIn (c : ChipData) (l : LayoutData) (p : Machine) (reg sampled : ℕ) : Type 0 where
  sample : owned (fields_of c reg) sampled ≡ get_or p.bits reg 0
  value : back_value (seen c l p) reg sampled ≡ ranswer (fields_of c reg) every (register_at c p reg)

module _ (c : ChipData) (l : LayoutData) (p : Machine) (adapters : List Standing) (account : Account) (told : Option State) (new : Scene) where
  abbrev s : Scene
  s = scene (seen c l p) adapters account told

  found_in : (reg sampled : ℕ) (d : State) → IsHeld s d reg → sampled ≡ slice_index d.bits reg → IsFoundIn c l p reg sampled
  found_in reg sampled d h found =
      let fs = fields_of c reg in
      let sample : owned fs sampled ≡ get_or p.bits reg 0 = ap (owned fs) found ∙ sym h.own ∙ h.bits in
      record { sample = sample; value = ap (shown fs) sample ∙ shown_is fs (register_at c p reg) }

  -- a read of the register, or a check
  record IsReadBack (which : ℕ → ℕ → Type 0) (reg sampled : ℕ) (d : State) : Type 0 where
    value : back_value s.model reg sampled ≡ ranswer (fields_of c reg) every (register_at c p reg)
    kept : IsKept c (predict_read c reg (back_value s.model reg sampled) every_field (mirror_of p))
    state : predict_read c reg (back_value s.model reg sampled) every_field (mirror_of p) ≡ mirror_of (stepped c reg (read_step every) p)
    contents : HasContents which c (poked d (cell.Reg reg) (back_left s.model reg sampled)) (stepped c reg (read_step every) p)

  read_back : {which : ℕ → ℕ → Type 0} (reg sampled : ℕ) → reg < length c.regs → IsModel s.model → (a : Agree s) → HasContents which c a.device p → sampled ≡ slice_index a.device.bits reg →
      IsReadBack which reg sampled a.device
  read_back reg sampled inside ok a has found =
      let d = a.device in
      let at = found_in reg sampled d (held_by s reg ok a inside) found in
      let left = back_left s.model reg sampled in
      let keeps = poked_keeps d reg left in
      record {
        value = at.value;
        kept = read_kept c reg (back_value s.model reg sampled) every_field (mirror_of p) ok.chip inside (model_kept s.model ok);
        state = ap (λ x. predict_read c reg x every_field (mirror_of p)) at.value ∙ read_stepped c reg every_field every p ok.chip inside ok.mirror (all_chosen c reg ok.chip inside);
        contents = contents_stay c d (poked d (cell.Reg reg) left) p _ has keeps.setup keeps.locations refl;
      }

  -- ---- an operation that sends nothing, by what it leaves

  alone_step : {which : ℕ → ℕ → Type 0} (op : Op) (event : Event) (place : ℕ) (after : State) (mirror : MirrorData) → (a : Agree s) → (done : IsDone s new op place event) →
      let o = outcome s.model op place done.sampled [] in
      sends s.model op place ≡ [] → device_after s.model op done.sampled [] a.device ≡ after → o.model ≡ record (seen c l p) { mirror = mirror } → Agree new → IsKept c mirror →
      mirror ≡ mirror_of (machine_after c l op place p) → o.end ≡ machine_end c l op place p → o.differ ≡ machine_differ op p → HasContents which c after (machine_after c l op place p) →
      IsMachineStep which c l p new op place event
  alone_step op event place after mirror a done none device model agree kept state ended differs contents =
      let o = outcome s.model op place done.sampled [] in
      let by = alone_by s new op event place a.device done a.told none in
      let tells = told_alone s new op event place a.device done a.told none in
      let says = event_tells (register_of s.model.chip (named s.model op)) (named s.model op) [] o in
      quiet_step c l p new op place event after mirror o.end o.differ agree (by.model ∙ model) (by.told ∙ ap Some device)
      (ap (λ (e : Event). e.end) tells.event_is ∙ says.end_is) (ap (λ (e : Event). e.differ) tells.event_is ∙ says.differ_is) kept state ended differs contents

  -- the device and the model stay
  stays_step : {which : ℕ → ℕ → Type 0} (op : Op) (event : Event) (place : ℕ) → IsModel s.model → (a : Agree s) → HasContents which c a.device p → (done : IsDone s new op place event) →
      let o = outcome s.model op place done.sampled [] in
      sends s.model op place ≡ [] → device_after s.model op done.sampled [] a.device ≡ a.device → o.model ≡ s.model → machine_after c l op place p ≡ p →
      o.end ≡ machine_end c l op place p → o.differ ≡ machine_differ op p → IsMachineStep which c l p new op place event
  stays_step {which} op event place ok a has done none device model same ended differs =
      let by = alone_by s new op event place a.device done a.told none in
      alone_step op event place a.device (mirror_of p) a done none device model (stays_agreed s new (mirror_of p) a (by.told ∙ ap Some device) (by.model ∙ model) (λ reg. refl))
      (model_kept s.model ok) (ap mirror_of (sym same)) ended differs (subst (HasContents which c a.device) (sym same) has)

  -- ---- each operation of the backdoor on registers

  pub back_step : {which : ℕ → ℕ → Type 0} (op : Op) (event : Event) (place : ℕ) → IsBackdoor op → HasNumbers c (length l.maps) op → IsModel s.model → (a : Agree s) →
      HasContents which c a.device p → IsDone s new op place event → IsMachineStep which c l p new op place event
  back_step (op.BackWrite n value) event place is numbers ok a has done =
      let fs = fields_of c n in
      let d = a.device in
      let found = found_in n done.sampled d (held_by s n ok a numbers) (done.found d a.told ∙ peeked_is d n) in
      let v = back_written s.model n value done.sampled in
      let marks = marks_in c p.spent n in
      let keeps = poked_keeps d n v in
      alone_step (op.BackWrite n value) event place (poked d (cell.Reg n) v) (predict_raw c n v (mirror_of p)) a done refl refl refl
      (back_done s new (op.BackWrite n value) event place is numbers ok a done) (raw_kept c n v (mirror_of p) ok.chip numbers (model_kept s.model ok))
      (raw_is c n v p ∙ ap (λ x. mirror_of (with_both n x p)) (owned-written fs marks (owned fs done.sampled) value ∙ ap (λ x. written fs marks x value) found.sample)) refl refl
      (contents_stay c d (poked d (cell.Reg n) v) p _ has keeps.setup keeps.locations refl)
  back_step (op.Poke n value) event place is numbers ok a has done =
      let d = a.device in
      let keeps = poked_keeps d n value in
      alone_step (op.Poke n value) event place (poked d (cell.Reg n) value) (predict_raw c n value (mirror_of p)) a done refl refl refl
      (back_done s new (op.Poke n value) event place is numbers ok a done) (raw_kept c n value (mirror_of p) ok.chip numbers (model_kept s.model ok)) (raw_is c n value p) refl refl
      (contents_stay c d (poked d (cell.Reg n) value) p _ has keeps.setup keeps.locations refl)
  back_step (op.Peek n) event place is numbers ok a has done =
      let fs = fields_of c n in
      let d = a.device in
      let found = found_in n done.sampled d (held_by s n ok a numbers) (done.found d a.told ∙ peeked_is d n) in
      let v = owned fs done.sampled in
      alone_step (op.Peek n) event place d (predict_raw c n v (mirror_of p)) a done refl refl refl (back_done s new (op.Peek n) event place is numbers ok a done)
      (raw_kept c n v (mirror_of p) ok.chip numbers (model_kept s.model ok))
      (raw_is c n v p ∙ ap (λ x. mirror_of (with_both n x p)) (owned-word_by_field fs (λ k b. bit done.sampled b) ∙ found.sample)) (ap end.Value found.sample) refl
      (contents_stay c d d p _ has refl refl refl)
  back_step (op.BackRead n) event place is numbers ok a has done =
      let v = back_value s.model n done.sampled in
      let read = read_back n done.sampled numbers ok a has (done.found a.device a.told ∙ peeked_is a.device n) in
      alone_step (op.BackRead n) event place (poked a.device (cell.Reg n) (back_left s.model n done.sampled)) (predict_read c n v every_field (mirror_of p)) a done refl refl refl
      (back_done s new (op.BackRead n) event place is numbers ok a done) read.kept read.state (ap end.Value read.value) refl read.contents
  back_step (op.BackCheck n) event place is numbers ok a has done =
      let v = back_value s.model n done.sampled in
      let read = read_back n done.sampled numbers ok a has (done.found a.device a.told ∙ peeked_is a.device n) in
      alone_step (op.BackCheck n) event place (poked a.device (cell.Reg n) (back_left s.model n done.sampled)) (predict_read c n v every_field (mirror_of p)) a done refl refl refl
      (back_done s new (op.BackCheck n) event place is numbers ok a done) read.kept read.state (ap end.Value read.value)
      (ap (λ x. differ c n x (mirror_of p)) read.value ∙ check_finds c n p ok.chip numbers) read.contents
  back_step _ event place is numbers ok a has done = absurd is

  -- ---- desired values

  pub wish_step : {which : ℕ → ℕ → Type 0} (op : Op) (event : Event) (place : ℕ) → IsWish op → HasNumbers c (length l.maps) op → IsModel s.model → (a : Agree s) →
      HasContents which c a.device p → IsDone s new op place event → IsMachineStep which c l p new op place event
  wish_step (op.Set field value) event place is numbers ok a has done =
      alone_step (op.Set field value) event place a.device (set c field value (mirror_of p)) a done refl refl refl (wish_done s new (op.Set field value) event place is a done)
      (record { built = set_built c field value (mirror_of p) ok.chip numbers ok.mirror; reach = set_reach c field value (mirror_of p) ok.chip numbers ok.mirror ok.reach })
      (set_is c field value p) refl refl (contents_stay c a.device a.device p _ has refl refl refl)
  wish_step (op.Show n) event place is numbers ok a has done =
      alone_step (op.Show n) event place a.device (mirror_of p) a done refl refl refl (wish_done s new (op.Show n) event place is a done) (model_kept s.model ok) refl refl refl has
  wish_step _ event place is numbers ok a has done = absurd is

  -- ---- a reset

  pub reset_step : {which : ℕ → ℕ → Type 0} (kind : ℕ) (event : Event) (place : ℕ) → IsModel s.model → (a : Agree s) → HasContents which c a.device p →
      IsDone s new (op.Reset kind) place event → IsMachineStep which c l p new (op.Reset kind) place event
  reset_step kind event place ok a has done =
      let d = a.device in
      let keeps = reset_keeps d kind in
      alone_step (op.Reset kind) event place (reset_by d kind) (reset c kind (mirror_of p)) a done refl refl refl (reset_done s new (op.Reset kind) event place tt ok a done)
      (record { built = reset_built c kind (mirror_of p) ok.chip ok.mirror; reach = reset_reach c kind (mirror_of p) ok.chip ok.mirror ok.reach })
      (reset_is c kind p) refl refl (contents_stay c d (reset_by d kind) p _ has keeps.setup keeps.locations refl)

  -- ---- the backdoor of a memory, and a burst by its name alone

  pub memory_step : (op : Op) (event : Event) (place : ℕ) → IsMemoryBackdoor op → HasNumbers c (length l.maps) op → IsModel s.model → (a : Agree s) →
      HasContents everywhere c a.device p → grant s.model op ≡ Ok place → IsDone s new op place event → IsMachineStep everywhere c l p new op place event
  memory_step (op.MemPeek mem index) event place is numbers ok a has granted done =
      let d = a.device in
      let low : index < memory_size c mem = ltb-true index (memory_size c mem) (only_ok (by_backdoor s.model (item.Mem mem)) (nat_lt index (memory_size c mem)) OutOfRange place granted).1 in
      let h = has.at mem index tt numbers low in
      let found : done.sampled ≡ slice_index d.locations (location d.setup mem index) = done.found d a.told ∙ peeked_at d mem index in
      let value : low_bytes (location_size c mem) done.sampled ≡ p.locations mem index = ap (low_bytes (location_size c mem)) found ∙ low_is (location_size c mem) (slice_index d.locations
      (location d.setup mem index)) h.has.fits ∙ h.holds in
      stays_step (op.MemPeek mem index) event place ok a has done refl refl refl refl (ap end.Value value) refl
  memory_step (op.MemPoke mem index value) event place is numbers ok a has granted done =
      let d = a.device in
      let ready = a.believed_is.ready in
      let first = only_ok (at_location s.model mem index (by_backdoor s.model (item.Mem mem))) (nat_lt value (256 ^ item_size c (item.Mem mem))) TooWide place granted in
      let low : index < memory_size c mem = ltb-true index (memory_size c mem) (only_ok (by_backdoor s.model (item.Mem mem)) (nat_lt index (memory_size c mem)) OutOfRange place first.0).1 in
      let small : value < 256 ^ location_size c mem = ltb-true value (256 ^ location_size c mem) first.1 in
      let bytes : (mem_of d.setup mem).bytes ≡ location_size c mem = ap (λ (t : Setup). (mem_of t mem).bytes) ready.setup ∙ (memory_row c l mem numbers).bytes in
      let whole : value % 256 ^ (mem_of d.setup mem).bytes ≡ value = mod-eq_of_lt (subst (λ n. value < 256 ^ n) (sym bytes) small) in
      let after = poked d (cell.Loc mem index) value in
      let poke = poked_at d mem index value in
      alone_step (op.MemPoke mem index value) event place after (mirror_of p) a done refl refl refl (memory_done s new (op.MemPoke mem index value) event place is a done)
      (model_kept s.model ok) refl refl refl
      (contents_stored c l d after p mem index value has ready.setup numbers low small poke.setup (poke.locations ∙ ap (slice_set d.locations (location d.setup mem index)) whole))
  memory_step _ event place is numbers ok a has granted done = absurd is

  pub burst_step : {which : ℕ → ℕ → Type 0} (op : Op) (event : Event) (place : ℕ) → IsBurstName op → IsModel s.model → (a : Agree s) → HasContents which c a.device p →
      IsDone s new op place event → IsMachineStep which c l p new op place event
  burst_step (op.BurstWrite mem map first count) event place is ok a has done =
      stays_step (op.BurstWrite mem map first count) event place ok a has done refl refl refl refl refl refl
  burst_step (op.BurstRead mem map first count) event place is ok a has done =
      stays_step (op.BurstRead mem map first count) event place ok a has done refl refl refl refl refl refl
  burst_step _ event place is ok a has done = absurd is

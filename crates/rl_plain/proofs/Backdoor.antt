-- The backdoor deposits in the device what is then believed.
use Rattle.std.proofs.Common.{◌≡◌, ℕ, ◌<◌, Bool, false, cond, List, [], length, Option, None, Some, option_map, refl, sym, ap, ◌∙◌, subst, inl, inr, arith, length-set}
use Rattle.std.specs.Prelude.{slice_index, slice_set, is_some}
use Rattle.std.specs.Option.{option_map_or}
use Rattle.std.proofs.lemmas.Bool.{cases_eq}
use Rattle.std.proofs.lemmas.List.{get_or-set_same, get_or-set_other, set-get_or}
use Rattle.rl_policy.specs.Bits.{bit}
use Rattle.rl_policy.specs.Table.{after_read, value_read}
use Rattle.rl_policy.proofs.BitLemmas.{from_bits-same, bit-from_bits, bit-max}
use Rattle.rl_bus.specs.Setup.{Setup, field_at, policy_of, stuck_at, or_else, held}
use Rattle.rl_bus.specs.State.{State, poked, peeked}
use Rattle.rl_bus.specs.declared.table.Cell.TheVariants as cell
use Rattle.rl_model.specs.Rows.{FieldSeen, ChipData}
use Rattle.rl_model.specs.Chip.{IsSound}
use Rattle.rl_model.specs.Fields.{fields_of, policy_in, place_at}
use Rattle.rl_map.specs.Layout.{LayoutData}
use Rattle.rl_map.specs.Tables.{setup_of}
use Rattle.rl_split.specs.Law.{no_flaws, IsReady}
use Rattle.rl_split.proofs.Policies.{has_row, policy_by_place}
use Rattle.rl_mirror.specs.Fields.{owned, word_by_field}
use Rattle.rl_mirror.specs.Mirror.{MirrorData, mirrored_of, marks_in}
use Rattle.rl_mirror.specs.Prediction.{predict_raw, predict_read, learned_by_read, learned_bit, shown, left_by_read}
use Rattle.rl_mirror.proofs.FieldLemmas.{row_of, field_list}
use Rattle.rl_mirror.proofs.PlaceLemmas.{place_is}
use Rattle.rl_mirror.proofs.WordLemmas.{owned_bit, owned-word_by_field}
use Rattle.rl_access.specs.declared.event.Event.{Event}
use Rattle.rl_access.specs.declared.event.Op.{Op}
use Rattle.rl_access.specs.declared.event.Op.TheVariants as op
use Rattle.rl_access.specs.declared.trace.TraceItem.{TraceItem}
use Rattle.rl_access.specs.Call.{Scene, IsDone}
use Rattle.rl_access.specs.Gathering.{IsNothingGathered}
use Rattle.rl_access.specs.Items.{items_of, port_for}
use Rattle.rl_access.specs.Model.{ModelData, IsModel}
use Rattle.rl_access.specs.Operation.{HasNumbers}
use Rattle.rl_access.specs.Rules.{grant, sends, outcome, every_field, device_after, back_written, back_left, back_value}
use Rattle.rl_plain.specs.Agree.{IsAsBelieved, Agree, IsBackdoor, KeepsAgreement}
use Rattle.rl_plain.proofs.Registers.{learned_is}
use Rattle.rl_plain.proofs.Agreement.{refused_agree}
use Rattle.rl_plain.specs.Sorts as sort

-- ---- a deposit in a device without flaws

some_mapped : {A B : Type 0} (f : A → B) (o : Option A) → is_some (option_map f o) ≡ is_some o
some_mapped f None = refl
some_mapped f (Some x) = refl

deposit_by : (fs : List FieldSeen) (value m b : ℕ) (o : Option ℕ) → place_at fs b ≡ o → m ≡ owned fs m → b < 64 → cond (is_some o) (bit value b) (bit m b) ≡ option_map_or (λ k. bit value b) o false
deposit_by fs value m b None at own low = owned_bit fs m b own low ∙ ap (λ (o : Option ℕ). option_map_or (λ k. bit m b) o false) at
deposit_by fs value m b (Some k) at own low = refl

pub is_field : (c : ChipData) (l : LayoutData) (reg b : ℕ) → IsSound c → reg < length c.regs → is_some (field_at (setup_of c l no_flaws) reg b) ≡ is_some (place_at (fields_of c reg) b)
is_field c l reg b sound inside =
    let (r, row) = row_of c reg inside in
    sym (some_mapped (policy_of (setup_of c l no_flaws)) (field_at (setup_of c l no_flaws) reg b))
    ∙ ap is_some (policy_by_place c l reg b sound (has_row c reg r row.at))
    ∙ some_mapped (policy_in (fields_of c reg)) (place_at (fields_of c reg) b)

pub none_stuck : (c : ChipData) (l : LayoutData) (reg b : ℕ) (x : Bool) → or_else (stuck_at (setup_of c l no_flaws) reg b) x ≡ x
unfolding setup_of
none_stuck c l reg b x = refl

held_deposit : (c : ChipData) (l : LayoutData) (reg value m : ℕ) → IsSound c → reg < length c.regs → m ≡ owned (fields_of c reg) m →
    held (setup_of c l no_flaws) reg (λ b. cond (is_some (field_at (setup_of c l no_flaws) reg b)) (bit value b) (bit m b)) ≡ owned (fields_of c reg) value
unfolding held word_by_field
held_deposit c l reg value m sound inside own =
    let t = setup_of c l no_flaws in
    let fs = fields_of c reg in
    from_bits-same 64 (λ b. or_else (stuck_at t reg b) (cond (is_some (field_at t reg b)) (bit value b) (bit m b))) (λ b. option_map_or (λ k. bit value b) (place_at fs b) false)
    (λ b low.
    none_stuck c l reg b (cond (is_some (field_at t reg b)) (bit value b) (bit m b))
    ∙ ap (λ s. cond s (bit value b) (bit m b)) (is_field c l reg b sound inside)
    ∙ deposit_by fs value m b (place_at fs b) refl own low)

abbrev with_bits : State → (reg v : ℕ) → State
with_bits d reg v = record d { bits = slice_set d.bits reg v }

deposited : (c : ChipData) (l : LayoutData) (d : State) (reg value : ℕ) → IsSound c → reg < length c.regs → IsReady c l d → slice_index d.bits reg ≡ owned (fields_of c reg) (slice_index d.bits reg) →
    poked d (cell.Reg reg) value ≡ with_bits d reg (owned (fields_of c reg) value)
unfolding poked
deposited c l d reg value sound inside ready own =
    ap (λ (t : Setup). with_bits d reg (held t reg (λ b. cond (is_some (field_at t reg b)) (bit value b) (bit (slice_index d.bits reg) b)))) ready.setup
    ∙ ap (with_bits d reg) (held_deposit c l reg value (slice_index d.bits reg) sound inside own)

-- ---- the model believes what was deposited

pub agree_deposit : (s new : Scene) (a : Agree s) (reg v : ℕ) (mirror : MirrorData) → new.device ≡ Some (with_bits a.device reg v) → new.model ≡ record s.model { mirror = mirror } →
    reg < length s.model.chip.regs →
    mirrored_of mirror reg ≡ v → ((q : ℕ) → (q ≡ reg → ⊥) → mirrored_of mirror q ≡ mirrored_of s.model.mirror q) → mirror.spent ≡ s.model.mirror.spent → Agree new
agree_deposit s new a reg v mirror told is inside here others spent =
    let c = s.model.chip in
    let d = a.device in
    let by = a.believed_is in
    let within : reg < length d.bits = subst (λ n. reg < n) (sym by.ready.bits) inside in
    let held : IsAsBelieved c s.model.layout mirror (with_bits d reg v) = record {
      ready = record { setup = by.ready.setup; beats = by.ready.beats; bits = length-set d.bits reg v ∙ by.ready.bits; marks = by.ready.marks };
      steady = by.steady;
      holds = λ q l. record {
        bits =
            elim (cases_eq q reg) [
              | inl same ↦ ap (slice_index (slice_set d.bits reg v)) same ∙ get_or-set_same d.bits reg v 0 within ∙ sym here ∙ ap (mirrored_of mirror) (sym same)
              | inr other ↦ get_or-set_other d.bits reg q v 0 other ∙ (by.holds q l).bits ∙ sym (others q other)
            ];
        marks = λ b k low at. (by.holds q l).marks b k low at ∙ ap (λ x. marks_in c x q k) (sym spent);
      };
      alone = by.alone;
    } in
    record {
      device = with_bits d reg v;
      told = told;
      believed_is = subst (λ (x : ModelData). IsAsBelieved x.chip x.layout x.mirror (with_bits d reg v)) (sym is) held;
      gathered = subst (λ (x : ModelData). IsNothingGathered x.gathered) (sym is) a.gathered;
    }

pub raw_here : (c : ChipData) (reg value : ℕ) (m : MirrorData) → reg < length m.mirrored → mirrored_of (predict_raw c reg value m) reg ≡ owned (fields_of c reg) value
unfolding predict_raw
raw_here c reg value m l = get_or-set_same m.mirrored reg (owned (fields_of c reg) value) 0 l

pub raw_other : (c : ChipData) (reg value q : ℕ) (m : MirrorData) → (q ≡ reg → ⊥) → mirrored_of (predict_raw c reg value m) q ≡ mirrored_of m q
unfolding predict_raw
raw_other c reg value q m other = get_or-set_other m.mirrored reg q (owned (fields_of c reg) value) 0 other

raw_spent : (c : ChipData) (reg value : ℕ) (m : MirrorData) → (predict_raw c reg value m).spent ≡ m.spent
unfolding predict_raw
raw_spent c reg value m = refl

read_here : (c : ChipData) (reg read : ℕ) (m : MirrorData) → reg < length m.mirrored → mirrored_of (predict_read c reg read every_field m) reg ≡ learned_by_read (fields_of c reg) (bit every_field)
    read (mirrored_of m reg)
unfolding predict_read
read_here c reg read m l = get_or-set_same m.mirrored reg (learned_by_read (fields_of c reg) (bit every_field) read (mirrored_of m reg)) 0 l

read_other : (c : ChipData) (reg read q : ℕ) (m : MirrorData) → (q ≡ reg → ⊥) → mirrored_of (predict_read c reg read every_field m) q ≡ mirrored_of m q
unfolding predict_read
read_other c reg read q m other = get_or-set_other m.mirrored reg q (learned_by_read (fields_of c reg) (bit every_field) read (mirrored_of m reg)) 0 other

read_spent : (c : ChipData) (reg read : ℕ) (m : MirrorData) → (predict_read c reg read every_field m).spent ≡ m.spent
unfolding predict_read
read_spent c reg read m = refl

-- ---- what a read by the backdoor leaves

owned-left : (fs : List FieldSeen) (m : ℕ) → owned fs (left_by_read fs m) ≡ left_by_read fs m
unfolding left_by_read
owned-left fs m = owned-word_by_field fs (λ k b. after_read (policy_in fs k) (bit m b))

bit-shown : (fs : List FieldSeen) (m b : ℕ) → b < 64 → bit (shown fs m) b ≡ option_map_or (λ k. value_read (policy_in fs k) (bit m b)) (place_at fs b) false
unfolding shown word_by_field
bit-shown fs m b low = bit-from_bits 64 (λ b. option_map_or (λ k. value_read (policy_in fs k) (bit m b)) (place_at fs b) false) b low

left_learned : (fs : List FieldSeen) (m : ℕ) → length fs < 65 → left_by_read fs m ≡ learned_by_read fs (bit every_field) (shown fs m) m
unfolding left_by_read learned_by_read word_by_field
left_learned fs m few =
    from_bits-same 64 (λ b. option_map_or (λ k. after_read (policy_in fs k) (bit m b)) (place_at fs b) false)
    (λ b. option_map_or (λ k. cond (bit every_field k) (learned_bit (policy_in fs k) (bit (shown fs m) b) (bit m b)) (bit m b)) (place_at fs b) false)
    (λ b low. by b low (place_at fs b) refl)
  where
    by : (b : ℕ) → b < 64 → (o : Option ℕ) → place_at fs b ≡ o →
        option_map_or (λ k. after_read (policy_in fs k) (bit m b)) o false ≡ option_map_or (λ k. cond (bit every_field k) (learned_bit (policy_in fs k) (bit (shown fs m) b) (bit m b)) (bit m b)) o
        false
    by b low None at = refl
    by b low (Some k) at =
        let seen : bit (shown fs m) b ≡ value_read (policy_in fs k) (bit m b) = bit-shown fs m b low ∙ ap (λ (o : Option ℕ). option_map_or (λ k. value_read (policy_in fs k) (bit m b)) o false) at in
        learned_is (policy_in fs k) (bit m b)
        ∙ ap (λ v. learned_bit (policy_in fs k) v (bit m b)) (sym seen)
        ∙ ap (λ t. cond t (learned_bit (policy_in fs k) (bit (shown fs m) b) (bit m b)) (bit m b)) (sym (bit-max k (omega (arith, few, (place_is fs b k at).0))))

-- ---- each call

-- the device and the model after an operation that sends nothing
pub record IsAlone (s new : Scene) (op : Op) (place : ℕ) (d : State) (sampled : ℕ) : Type 0 where
  pub told : new.device ≡ Some (device_after s.model op sampled [] d)
  pub model : new.model ≡ (outcome s.model op place sampled []).model

pub alone_by : (s new : Scene) (op : Op) (event : Event) (place : ℕ) (d : State) → (done : IsDone s new op place event) → s.device ≡ Some d → sends s.model op place ≡ [] →
    IsAlone s new op place d done.sampled
alone_by s new op event place d done told none =
    let trace : event.trace ≡ [] = done.answers d told ∙ ap (items_of _ d (port_for s.model.layout place)) none in
    record {
      told = done.goes ∙ ap (option_map (device_after s.model op done.sampled event.trace)) told ∙ ap (λ (items : List TraceItem). Some (device_after s.model op done.sampled items d)) trace;
      model = done.model ∙ ap (λ (items : List TraceItem). (outcome s.model op place done.sampled items).model) trace;
    }

pub peeked_is : (d : State) (reg : ℕ) → peeked d (cell.Reg reg) ≡ slice_index d.bits reg
unfolding peeked
peeked_is d reg = refl

-- what the register has
pub record IsHeld (s : Scene) (d : State) (reg : ℕ) : Type 0 where
  pub within : reg < length s.model.mirror.mirrored
  pub bits : slice_index d.bits reg ≡ mirrored_of s.model.mirror reg
  pub own : slice_index d.bits reg ≡ owned (fields_of s.model.chip reg) (slice_index d.bits reg)

pub held_by : (s : Scene) (reg : ℕ) → IsModel s.model → (a : Agree s) → reg < length s.model.chip.regs → IsHeld s a.device reg
held_by s reg ok a inside =
    let bits : slice_index a.device.bits reg ≡ mirrored_of s.model.mirror reg = (a.believed_is.holds reg inside).bits in
    record {
      within = subst (λ n. reg < n) (sym ok.mirror.registers) inside;
      bits = bits;
      own = subst (λ n. n ≡ owned (fields_of s.model.chip reg) n) (sym bits) (ok.mirror.mirrored reg inside).owned;
    }

-- a deposit, in the device and in the model
pub raw_agrees : (s new : Scene) (a : Agree s) (reg value : ℕ) → IsModel s.model → reg < length s.model.chip.regs → new.device ≡ Some (poked a.device (cell.Reg reg) value) →
    new.model ≡ record s.model { mirror = predict_raw s.model.chip reg value s.model.mirror } → Agree new
raw_agrees s new a reg value ok inside told is =
    let c = s.model.chip in
    let h = held_by s reg ok a inside in
    agree_deposit s new a reg (owned (fields_of c reg) value) (predict_raw c reg value s.model.mirror)
    (told ∙ ap Some (deposited c s.model.layout a.device reg value ok.chip inside a.believed_is.ready h.own)) is inside
    (raw_here c reg value s.model.mirror h.within) (λ q other. raw_other c reg value q s.model.mirror other) (raw_spent c reg value s.model.mirror)

-- a read that leaves its effects
read_agrees : (s new : Scene) (a : Agree s) (reg sampled : ℕ) → IsModel s.model → reg < length s.model.chip.regs → sampled ≡ slice_index a.device.bits reg →
    new.device ≡ Some (poked a.device (cell.Reg reg) (back_left s.model reg sampled)) →
    new.model ≡ record s.model { mirror = predict_read s.model.chip reg (back_value s.model reg sampled) every_field s.model.mirror } → Agree new
read_agrees s new a reg sampled ok inside found told is =
    let c = s.model.chip in
    let fs = fields_of c reg in
    let m = mirrored_of s.model.mirror reg in
    let h = held_by s reg ok a inside in
    let sample : owned fs sampled ≡ m = ap (owned fs) found ∙ sym h.own ∙ h.bits in
    let few : length fs < 65 = omega (arith, (field_list c reg ok.chip inside).few) in
    agree_deposit s new a reg (left_by_read fs m) (predict_read c reg (back_value s.model reg sampled) every_field s.model.mirror)
    (told ∙ ap Some (deposited c s.model.layout a.device reg (back_left s.model reg sampled) ok.chip inside a.believed_is.ready h.own
    ∙ ap (with_bits a.device reg) (ap (λ x. owned fs (left_by_read fs x)) sample ∙ owned-left fs m))) is inside
    (read_here c reg (back_value s.model reg sampled) s.model.mirror h.within ∙ ap (λ x. learned_by_read fs (bit every_field) (shown fs x) m) sample ∙ sym (left_learned fs m few))
    (λ q other. read_other c reg (back_value s.model reg sampled) q s.model.mirror other) (read_spent c reg (back_value s.model reg sampled) s.model.mirror)

pub back_done : (s new : Scene) (op : Op) (event : Event) (place : ℕ) → IsBackdoor op → HasNumbers s.model.chip (length s.model.layout.maps) op → IsModel s.model → Agree s →
    IsDone s new op place event → Agree new
back_done s new (op.BackWrite reg value) event place is numbers ok a done =
    let by = alone_by s new (op.BackWrite reg value) event place a.device done a.told refl in
    raw_agrees s new a reg (back_written s.model reg value done.sampled) ok numbers by.told by.model
back_done s new (op.Poke reg value) event place is numbers ok a done =
    let by = alone_by s new (op.Poke reg value) event place a.device done a.told refl in
    raw_agrees s new a reg value ok numbers by.told by.model
back_done s new (op.BackRead reg) event place is numbers ok a done =
    let by = alone_by s new (op.BackRead reg) event place a.device done a.told refl in
    read_agrees s new a reg done.sampled ok numbers (done.found a.device a.told ∙ peeked_is a.device reg) by.told by.model
back_done s new (op.BackCheck reg) event place is numbers ok a done =
    let by = alone_by s new (op.BackCheck reg) event place a.device done a.told refl in
    read_agrees s new a reg done.sampled ok numbers (done.found a.device a.told ∙ peeked_is a.device reg) by.told by.model
back_done s new (op.Peek reg) event place is numbers ok a done =
    let c = s.model.chip in
    let fs = fields_of c reg in
    let by = alone_by s new (op.Peek reg) event place a.device done a.told refl in
    let h = held_by s reg ok a numbers in
    let found : done.sampled ≡ slice_index a.device.bits reg = done.found a.device a.told ∙ peeked_is a.device reg in
    let sample : owned fs done.sampled ≡ slice_index a.device.bits reg = ap (owned fs) found ∙ sym h.own in
    agree_deposit s new a reg (slice_index a.device.bits reg) (predict_raw c reg (owned fs done.sampled) s.model.mirror)
    (by.told ∙ ap (λ bits. let d : State = record a.device { bits = bits } in Some d) (sym (set-get_or a.device.bits reg 0))) by.model numbers
    (raw_here c reg (owned fs done.sampled) s.model.mirror h.within ∙ ap (owned fs) sample ∙ sym h.own)
    (λ q other. raw_other c reg (owned fs done.sampled) q s.model.mirror other) (raw_spent c reg (owned fs done.sampled) s.model.mirror)
back_done s new _ event place is numbers ok a done = absurd is

pub backdoor_keeps_agreement : KeepsAgreement sort.backdoor
backdoor_keeps_agreement s new op event is numbers ok a performs =
    refused_agree s new op event (grant s.model op) a performs (λ place granted done. back_done s new op event place is numbers ok a done)

-- Beside a device in which one field has another policy stands the device as it is described, and both do the same, until a read
-- meets the field's bits where they differ.
use Rattle.std.proofs.Common.{◌≡◌, ℕ, ◌^◌, ◌<◌, nat_lt, Bool, true, false, if◌then◌else◌, List, [], length, map, set, replicate, All, Option, Some, option_map, Ok, Err, MatchResult}
use Rattle.std.proofs.Common.{refl, sym, ap, ◌∙◌, subst, inl, inr}
use Rattle.std.specs.Prelude.{is_some, slice_index}
use Rattle.std.specs.List.{range_with_len}
use Rattle.std.proofs.lemmas.Bool.{cases_eq, cases_Bool, false≢true}
use Rattle.std.proofs.lemmas.List.{ext_get_or, get_or-set_same, get_or-set_other, length-set}
use Rattle.rl_policy.specs.Bits.{bit, from_bits}
use Rattle.rl_policy.specs.declared.policy.Policy.{Policy}
use Rattle.rl_bus.specs.declared.table.Cell.TheVariants as cell
use Rattle.rl_bus.specs.Setup.{Setup, field_at, held}
use Rattle.rl_bus.specs.Standing.{standing_at}
use Rattle.rl_bus.specs.State.{State, peeked, poked, reg_reset, reset_by}
use Rattle.rl_model.specs.Rows.{ChipData}
use Rattle.rl_model.specs.Fields.{field_of, size_of}
use Rattle.rl_model.specs.declared.rows.Item.TheVariants.{Reg}
use Rattle.rl_map.specs.Layout.{LayoutData, place_at as row_at}
use Rattle.rl_map.specs.Tables.{setup_of}
use Rattle.rl_split.specs.Access.{all_bytes, ops_of}
use Rattle.rl_split.specs.Law.{IsReady, no_flaws}
use Rattle.rl_split.specs.Runs.{state_after_all as ops_after}
use Rattle.rl_access.specs.declared.event.Event.{Event}
use Rattle.rl_access.specs.declared.event.Op.{Op}
use Rattle.rl_access.specs.declared.event.Op.TheVariants as op
use Rattle.rl_access.specs.Call.{Scene, IsDone, IsRefused, Performs}
use Rattle.rl_access.specs.Items.{items_of, state_after_all, port_for, adapter_for}
use Rattle.rl_access.specs.Model.{ModelData, IsModel}
use Rattle.rl_access.specs.Operation.{reg_of, HasNumbers}
use Rattle.rl_access.specs.declared.event.Refused.TheVariants.{TooWide}
use Rattle.rl_access.specs.declared.trace.TraceItem.{TraceItem}
use Rattle.rl_access.specs.Rules.{Grant, grant, way as way_to, sends, found_by, back_left, back_written, device_after}
use Rattle.rl_access.proofs.Places.{place_size}
use Rattle.rl_plain.specs.EachCall.{AgreeWithMemories}
use Rattle.rl_plain.proofs.Answered.{answered, done_of}
use Rattle.rl_plain.proofs.Backdoor.{peeked_is}
use Rattle.rl_plain.proofs.EachCall.{each_call_keeps_agreement}
use Rattle.rl_plain.proofs.Granted.{only_ok, way_found, place_for}
use Rattle.rl_detect_laws.specs.Policies.{other_policy, AreWrittenAlike}
use Rattle.rl_detect_laws.proofs.Alongside.{ArePair, AreAccessed, both_written, both_read, same_bits}
use Rattle.rl_detect_laws.proofs.Bashing.{items_same}
use Rattle.rl_detect_laws.proofs.Checks.{IsSceneOf, over, some_is, done_over, from_own}
use Rattle.rl_detect_laws.proofs.KeptModel.{outcome_model}
use Rattle.rl_detect_laws.proofs.OtherPolicy.{is_own, own_bit}
use Rattle.rl_detect_laws.proofs.Standing.{outcome_of}

-- ---- the bits of two devices

-- they are the same but for the field's own, and those too where they aren't free
pub record AreBitsBeside (c : ChipData) (l : LayoutData) (field : ℕ) (free : Bool) (xs ys : List ℕ) : Type 0 where
  pub many : length xs ≡ length ys
  pub others : (r : ℕ) → (r ≡ reg_of c field → ⊥) → slice_index xs r ≡ slice_index ys r
  pub loose : (b : ℕ) → b < 64 → is_own c l field (reg_of c field) b ≡ false
      → bit (slice_index xs (reg_of c field)) b ≡ bit (slice_index ys (reg_of c field)) b
  pub tight : free ≡ false → slice_index xs (reg_of c field) ≡ slice_index ys (reg_of c field)

pub all_same : (c : ChipData) (l : LayoutData) (field : ℕ) (free : Bool) (xs ys : List ℕ) → xs ≡ ys → AreBitsBeside c l field free xs ys
all_same c l field free xs ys same = record {
  many = ap length same;
  others = λ r other. ap (λ zs. slice_index zs r) same;
  loose = λ b low off. ap (λ zs. bit (slice_index zs (reg_of c field)) b) same;
  tight = λ closed. ap (λ zs. slice_index zs (reg_of c field)) same;
}

-- bits that aren't free may be
freed : (c : ChipData) (l : LayoutData) (field : ℕ) (from to : Bool) (xs ys : List ℕ) → (to ≡ false → from ≡ false)
    → AreBitsBeside c l field from xs ys → AreBitsBeside c l field to xs ys
freed c l field from to xs ys less h =
    record { many = h.many; others = h.others; loose = h.loose; tight = λ closed. h.tight (less closed) }

-- with no free bit they are all the same
closed_same : (c : ChipData) (l : LayoutData) (field : ℕ) (xs ys : List ℕ) → AreBitsBeside c l field false xs ys → xs ≡ ys
closed_same c l field xs ys h =
    ext_get_or 0 xs ys h.many (λ r inside. elim (cases_eq r (reg_of c field)) [
      | inl same ↦ ap (slice_index xs) same ∙ h.tight refl ∙ ap (slice_index ys) (sym same)
      | inr other ↦ h.others r other
    ])

-- a register's bits in both, and those of any register where none of it is free
at_register : (c : ChipData) (l : LayoutData) (field : ℕ) (free : Bool) (xs ys : List ℕ) (n : ℕ) → (n ≡ reg_of c field → free ≡ false)
    → AreBitsBeside c l field free xs ys → slice_index xs n ≡ slice_index ys n
at_register c l field free xs ys n closed h =
    elim (cases_eq n (reg_of c field)) [
      | inl same ↦ ap (slice_index xs) same ∙ h.tight (closed same) ∙ ap (slice_index ys) (sym same)
      | inr other ↦ h.others n other
    ]

-- but for the field's own
like_at : (c : ChipData) (l : LayoutData) (field : ℕ) (free : Bool) (xs ys : List ℕ) (n b : ℕ) → AreBitsBeside c l field free xs ys → b < 64
    → is_own c l field n b ≡ false → bit (slice_index xs n) b ≡ bit (slice_index ys n) b
like_at c l field free xs ys n b h low off =
    elim (cases_eq n (reg_of c field)) [
      | inl same ↦
          ap (λ r. bit (slice_index xs r) b) same ∙ h.loose b low (ap (λ r. is_own c l field r b) (sym same) ∙ off)
          ∙ ap (λ r. bit (slice_index ys r) b) (sym same)
      | inr other ↦ ap (λ x. bit x b) (h.others n other)
    ]

-- a register takes a value in each: the same, but for the field's own bits where they may be free then
put_beside : (c : ChipData) (l : LayoutData) (field : ℕ) (from to : Bool) (xs ys : List ℕ) (n v w : ℕ) → AreBitsBeside c l field from xs ys → n < length xs
    → ((b : ℕ) → b < 64 → is_own c l field n b ≡ false → bit v b ≡ bit w b) → (to ≡ false → v ≡ w) → ((n ≡ reg_of c field → ⊥) → v ≡ w)
    → ((n ≡ reg_of c field → ⊥) → to ≡ false → from ≡ false) → AreBitsBeside c l field to (set xs n v) (set ys n w)
put_beside c l field from to xs ys n v w h inside like closed away less =
    let within : n < length ys = subst (λ k. n < k) h.many inside in
    let here : (r : ℕ) → r ≡ n → (slice_index (set xs n v) r ≡ v) × (slice_index (set ys n w) r ≡ w) = λ r same. (
      ap (slice_index (set xs n v)) same ∙ get_or-set_same xs n v 0 inside,
      ap (slice_index (set ys n w)) same ∙ get_or-set_same ys n w 0 within,
    ) in
    let there : (r : ℕ) → (r ≡ n → ⊥) → (slice_index (set xs n v) r ≡ slice_index xs r) × (slice_index (set ys n w) r ≡ slice_index ys r) =
    λ r other. (get_or-set_other xs n r v 0 other, get_or-set_other ys n r w 0 other) in
    record {
      many = length-set xs n v ∙ h.many ∙ sym (length-set ys n w);
      others = λ r other. elim (cases_eq r n) [
        | inl same ↦ (here r same).0 ∙ away (λ at. other (same ∙ at)) ∙ sym (here r same).1
        | inr apart ↦ (there r apart).0 ∙ h.others r other ∙ sym (there r apart).1
      ];
      loose = λ b low off. elim (cases_eq (reg_of c field) n) [
        | inl same ↦
            ap (λ x. bit x b) (here (reg_of c field) same).0 ∙ like b low (ap (λ r. is_own c l field r b) (sym same) ∙ off)
            ∙ sym (ap (λ x. bit x b) (here (reg_of c field) same).1)
        | inr apart ↦
            ap (λ x. bit x b) (there (reg_of c field) apart).0 ∙ h.loose b low off ∙ sym (ap (λ x. bit x b) (there (reg_of c field) apart).1)
      ];
      tight = λ shut. elim (cases_eq (reg_of c field) n) [
        | inl same ↦ (here (reg_of c field) same).0 ∙ closed shut ∙ sym (here (reg_of c field) same).1
        | inr apart ↦
            (there (reg_of c field) apart).0 ∙ h.tight (less (λ at. apart (sym at)) shut) ∙ sym (there (reg_of c field) apart).1
      ];
    }

-- ---- a scene, and the device as it is described

pub record IsBeside (c : ChipData) (l : LayoutData) (field : ℕ) (q : Policy) (free : Bool) (s : Scene) (e : State) : Type 0 where
  pub device : State
  pub scene_is : IsSceneOf c l s device
  pub open scene_is use *
  pub pair : ArePair c l field q device e
  pub bits : AreBitsBeside c l field free device.bits e.bits
  pub agree : AgreeWithMemories (over s e)

-- the operation is done beside too, with this event
pub record GoesBeside (c : ChipData) (l : LayoutData) (field : ℕ) (q : Policy) (free : Bool) (s new : Scene) (o : Op) (event : Event) (e : State) : Type 0 where
  pub after : State
  pub performs : Performs (over s e) (over new after) o event
  pub beside : IsBeside c l field q free new after

pub may_be_free : (c : ChipData) (l : LayoutData) (field : ℕ) (q : Policy) (from to : Bool) (s : Scene) (e : State) → (to ≡ false → from ≡ false)
    → IsBeside c l field q from s e → IsBeside c l field q to s e
may_be_free c l field q from to s e less h = record {
  device = h.device;
  scene_is = h.scene_is;
  pair = h.pair;
  bits = freed c l field from to h.device.bits e.bits less h.bits;
  agree = h.agree;
}

ready_of : (c : ChipData) (l : LayoutData) (field : ℕ) (q : Policy) (free : Bool) (s : Scene) (e : State) → IsBeside c l field q free s e → IsReady c l e
ready_of c l field q free s e h =
    let same : h.agree.agree.device ≡ e = some_is (sym h.agree.agree.told) in
    from_own c l s.model (λ x y. IsReady x y e) h.chip h.layout
    (subst (λ d. IsReady s.model.chip s.model.layout d) same h.agree.agree.believed_is.ready)

-- ---- an operation that is done

module _ (s new : Scene) (field : ℕ) (q : Policy) (from to : Bool) (o : Op) (place : ℕ) (event : Event) (e : State)
    (h : IsBeside s.model.chip s.model.layout field q from s e) (numbers : HasNumbers s.model.chip (length s.model.layout.maps) o)
    (granted : grant s.model o ≡ Ok place) (done : IsDone s new o place event) where
  abbrev m : ModelData
  m = s.model

  -- where both come to such states, it goes beside
  finish : (next after : State) → new.device ≡ Some next → IsDone (over s e) (over new after) o place event
      → ArePair s.model.chip s.model.layout field q next after → AreBitsBeside s.model.chip s.model.layout field to next.bits after.bits
      → GoesBeside s.model.chip s.model.layout field q to s new o event e
  finish next after goes did pair bits =
      let performs : Performs (over s e) (over new after) o event =
      subst (λ (g : Grant). MatchResult g (λ place. IsDone (over s e) (over new after) o place event) (λ why. IsRefused (over s e) (over new after) o why event))
      (sym granted) did in
      let left = outcome_of m o place done.sampled event.trace in
      record {
        after = after;
        performs = performs;
        beside = record {
          device = next;
          scene_is = record {
            model = subst IsModel (sym done.model) (outcome_model m o place done.sampled event.trace h.model numbers);
            chip = ap (λ (x : ModelData). x.chip) done.model ∙ left.0;
            layout = ap (λ (x : ModelData). x.layout) done.model ∙ left.1;
            told = goes;
          };
          pair = pair;
          bits = bits;
          agree = each_call_keeps_agreement (over s e) (over new after) o event numbers h.model h.agree performs;
        };
      }

  -- an access to a register over the bus, of which both answer the same
  accessed : (n : ℕ) → (a : AreAccessed s.model.chip s.model.layout field q h.device e (port_for s.model.layout place) n (sends s.model o place))
      → found_by e o ≡ found_by h.device o → ((k : ℕ) (x : State) → device_after s.model o k event.trace x ≡ state_after_all x event.trace)
      → AreBitsBeside s.model.chip s.model.layout field to (set h.device.bits n a.held) (set e.bits n a.other)
      → GoesBeside s.model.chip s.model.layout field q to s new o event e
  accessed n a found goes bits =
      let d = h.device in
      let port = port_for m.layout place in
      let ops = sends m o place in
      let adapter = standing_at s.adapters (adapter_for m.layout place) in
      let next = state_after_all d event.trace in
      let after = state_after_all e event.trace in
      let trace = done.answers d h.told in
      let alike = items_same adapter e d port ops a.answers in
      let fine = subst (All (λ x. x.failed ≡ false)) (sym a.answers) a.fine in
      let next_is : next ≡ ops_after d port ops = ap (state_after_all d) trace ∙ (answered adapter d port ops a.fine).state in
      let after_is : after ≡ ops_after e port ops = ap (state_after_all e) (trace ∙ sym alike) ∙ (answered adapter e port ops fine).state in
      finish next after
      (done.goes ∙ ap (option_map (device_after m o done.sampled event.trace)) h.told ∙ ap Some (goes done.sampled d))
      (done_over s new o place event d e after h.told found (λ y. items_same y e d port ops a.answers) (goes (found_by d o) e) done)
      (record {
        setup = ap (λ (x : State). x.setup) next_is ∙ a.pair.setup;
        beats = λ p x. ap (λ (y : State). y.beats p x) next_is ∙ a.pair.beats p x;
        marks = ap (λ (x : State). x.marks) next_is ∙ a.pair.marks ∙ sym (ap (λ (x : State). x.marks) after_is);
        locations = ap (λ (x : State). x.locations) next_is ∙ a.pair.locations ∙ sym (ap (λ (x : State). x.locations) after_is);
        items = ap (λ (x : State). x.items) next_is ∙ a.pair.items ∙ sym (ap (λ (x : State). x.items) after_is);
      })
      (subst (λ xs. AreBitsBeside m.chip m.layout field to xs after.bits) (sym (ap (λ (x : State). x.bits) next_is ∙ a.held_is))
      (subst (λ ys. AreBitsBeside m.chip m.layout field to (set d.bits n a.held) ys) (sym (ap (λ (x : State). x.bits) after_is ∙ a.other_is)) bits))

-- a deposit puts these bits into both
deposited : (c : ChipData) (l : LayoutData) (field : ℕ) (q : Policy) (n v : ℕ) (d : State) → d.setup ≡ setup_of c l (other_policy field q)
    → (poked d (cell.Reg n) v).bits
    ≡ set d.bits n (from_bits 64 (λ b. if is_some (field_at (setup_of c l no_flaws) n b) then bit v b else bit (slice_index d.bits n) b))
unfolding poked held setup_of
deposited c l field q n v d at =
    ap (λ (t : Setup). set d.bits n (held t n (λ b. if is_some (field_at t n b) then bit v b else bit (slice_index d.bits n) b))) at

described_deposited : (c : ChipData) (l : LayoutData) (n v : ℕ) (e : State) → e.setup ≡ setup_of c l no_flaws
    → (poked e (cell.Reg n) v).bits
    ≡ set e.bits n (from_bits 64 (λ b. if is_some (field_at (setup_of c l no_flaws) n b) then bit v b else bit (slice_index e.bits n) b))
unfolding poked held setup_of
described_deposited c l n v e at =
    ap (λ (t : Setup). set e.bits n (held t n (λ b. if is_some (field_at t n b) then bit v b else bit (slice_index e.bits n) b))) at

poked_pair : (c : ChipData) (l : LayoutData) (field : ℕ) (q : Policy) (n v : ℕ) (d e : State) → ArePair c l field q d e
    → ArePair c l field q (poked d (cell.Reg n) v) (poked e (cell.Reg n) v)
unfolding poked
poked_pair c l field q n v d e pair =
    record { setup = pair.setup; beats = pair.beats; marks = pair.marks; locations = pair.locations; items = pair.items }

reset_pair : (c : ChipData) (l : LayoutData) (field : ℕ) (q : Policy) (d e : State) → ArePair c l field q d e
    → ArePair c l field q (reset_by d 0) (reset_by e 0)
unfolding reset_by
reset_pair c l field q d e pair = record {
  setup = pair.setup;
  beats = λ p a. refl;
  marks = ap (λ (xs : List ℕ). replicate (length xs) 0) pair.marks;
  locations = pair.locations;
  items = pair.items;
}

reset_bits : (c : ChipData) (l : LayoutData) (field : ℕ) (q : Policy) (d e : State) → d.setup ≡ setup_of c l (other_policy field q)
    → e.setup ≡ setup_of c l no_flaws → d.bits ≡ e.bits → (reset_by d 0).bits ≡ (reset_by e 0).bits
unfolding reset_by held setup_of
reset_bits c l field q d e at described same =
    ap (λ (t : Setup). let x : State = record d { setup = t } in map (reg_reset x 0) (range_with_len 0 (length d.bits))) at
    ∙ ap (λ (xs : List ℕ). let x : State = record e { setup = setup_of c l no_flaws; bits = xs } in map (reg_reset x 0) (range_with_len 0 (length xs))) same
    ∙ ap (λ (t : Setup). let x : State = record e { setup = t } in map (reg_reset x 0) (range_with_len 0 (length e.bits))) (sym described)

-- ---- the operations of the sequences

-- refused or done
by_grant : (c : ChipData) (l : LayoutData) (field : ℕ) (q : Policy) (from to : Bool) (s new : Scene) (o : Op) (event : Event) (e : State) (g : Grant)
    → grant s.model o ≡ g → (to ≡ false → from ≡ false) → IsBeside c l field q from s e
    → ((place : ℕ) → grant s.model o ≡ Ok place → GoesBeside c l field q to s new o event e)
    → MatchResult g (λ place. IsDone s new o place event) (λ why. IsRefused s new o why event) → GoesBeside c l field q to s new o event e
by_grant c l field q from to s new o event e (Ok place) granted less h done is = done place granted
by_grant c l field q from to s new o event e (Err why) granted less h done refused =
    let stays = may_be_free c l field q from to s e less h in
    record {
      after = e;
      performs = subst (λ (g : Grant). MatchResult g (λ place. IsDone (over s e) (over new e) o place event) (λ why. IsRefused (over s e) (over new e) o why event))
          (sym granted) (record { event_is = refused.event_is; unchanged = ap (λ x. over x e) refused.unchanged });
      beside = subst (λ x. IsBeside c l field q to x e) (sym refused.unchanged) stays;
    }

away_like : (m : ModelData) (field n v w : ℕ) → IsModel m → field < length m.chip.fields → (n ≡ reg_of m.chip field → ⊥) → v < 2 ^ 64 → w < 2 ^ 64
    → ((b : ℕ) → b < 64 → is_own m.chip m.layout field n b ≡ false → bit v b ≡ bit w b) → v ≡ w
away_like m field n v w ok inside other small low like =
    same_bits v w small low (λ b below. elim (cases_Bool (is_own m.chip m.layout field n b)) [
      | inl on ↦ absurd (other (sym (own_bit m.chip m.layout field n b ok.chip inside on).reg_is))
      | inr off ↦ like b below off
    ])

-- what an operation asks for, and what it then does, of any chip and layout
abbrev Asks : (field : ℕ) → Policy → (from to : Bool) → (n : ℕ) → Op → Scene → Scene → Event → State → (Type 0 → Type 0) → ChipData → LayoutData → Type 0
Asks field q from to n o s new event e Also c l =
    field < length c.fields → AreWrittenAlike (field_of c field).shape.policy q → HasNumbers c (length l.maps) o
    → Also (n ≡ reg_of c field) → IsBeside c l field q from s e → GoesBeside c l field q to s new o event e

-- a write that was granted leaves no free bit in its register
abbrev IfAway : (from to : Bool) → Type 0 → Type 0
IfAway from to Own = (Own → ⊥) → to ≡ false → from ≡ false

write_own : (s new : Scene) (field : ℕ) (q : Policy) (from to : Bool) (n : ℕ) (map : Option ℕ) (value place : ℕ) (event : Event) (e : State)
    → grant s.model (op.Write n map value) ≡ Ok place → Performs s new (op.Write n map value) event
    → Asks field q from to n (op.Write n map value) s new event e (IfAway from to) s.model.chip s.model.layout
write_own s new field q from to n map value place event e granted performs inside alike numbers less h =
    let o = op.Write n map value in
    let m = s.model in
    let c = m.chip in
    let l = m.layout in
    let d = h.device in
    let ready = ready_of c l field q from s e h in
    let way = way_found m (Reg n) map true place (only_ok (way_to m (Reg n) map true) (nat_lt value (256 ^ size_of c n)) TooWide place granted).0 in
    let at = place_for m n place true h.model way in
    let both = both_written c l field q place n d e inside alike h.pair ready h.bits.many value at
    (λ b low off. like_at c l field from d.bits e.bits n b h.bits low off) in
    let access = subst (λ k. (a : AreAccessed c l field q d e (row_at l place).port n (ops_of l place 0 (all_bytes k) value true)) × (a.held ≡ a.other))
    (place_size m (Reg n) place h.model way.there) both in
    let in_d : n < length d.bits = subst (λ k. n < k) (sym (h.bits.many ∙ ready.bits)) numbers.0 in
    accessed s new field q from to o place event e h numbers granted (done_of s new o place event granted performs) n access.0 refl (λ k x. refl)
    (put_beside c l field from to d.bits e.bits n access.0.held access.0.other h.bits in_d access.0.like (λ shut. access.1) (λ other. access.1) less)

-- a check reads the same of a register without free bits, and may free those of the field
record IfChecked (from to : Bool) (Own : Type 0) : Type 0 where
  tight : Own → from ≡ false
  frees : Own → to ≡ false → ⊥
  away : (Own → ⊥) → to ≡ false → from ≡ false

check_own : (s new : Scene) (field : ℕ) (q : Policy) (from to : Bool) (n : ℕ) (map : Option ℕ) (place : ℕ) (event : Event) (e : State)
    → grant s.model (op.Check n map) ≡ Ok place → Performs s new (op.Check n map) event
    → Asks field q from to n (op.Check n map) s new event e (IfChecked from to) s.model.chip s.model.layout
check_own s new field q from to n map place event e granted performs inside alike numbers also h =
    let o = op.Check n map in
    let m = s.model in
    let c = m.chip in
    let l = m.layout in
    let d = h.device in
    let ready = ready_of c l field q from s e h in
    let way = way_found m (Reg n) map false place granted in
    let at = place_for m n place false h.model way in
    let both = both_read c l field q place n d e inside alike h.pair ready h.bits.many at
    (at_register c l field from d.bits e.bits n also.tight h.bits) in
    let access = subst (λ k. AreAccessed c l field q d e (row_at l place).port n (ops_of l place 0 (all_bytes k) 0 false))
    (place_size m (Reg n) place h.model way.there) both in
    let in_d : n < length d.bits = subst (λ k. n < k) (sym (h.bits.many ∙ ready.bits)) numbers.0 in
    let apart = λ (other : n ≡ reg_of c field → ⊥).
    away_like m field n access.held access.other h.model inside other access.small.0 access.small.1 access.like in
    accessed s new field q from to o place event e h numbers granted (done_of s new o place event granted performs) n access refl (λ k x. refl)
    (put_beside c l field from to d.bits e.bits n access.held access.other h.bits in_d access.like
    (λ shut. apart (λ own. also.frees own shut)) apart also.away)

-- a deposit of what is found in a register without free bits
abbrev IfTight : (from : Bool) → Type 0 → Type 0
IfTight from Own = Own → from ≡ false

deposit_own : (s new : Scene) (field : ℕ) (q : Policy) (from : Bool) (o : Op) (n : ℕ) (value : ℕ → ℕ) (place : ℕ) (event : Event) (e : State)
    → grant s.model o ≡ Ok place → Performs s new o event → ((k : ℕ) (items : List TraceItem) (x : State) → device_after s.model o k items x ≡ poked x (cell.Reg n) (value k))
    → ((x : State) → found_by x o ≡ peeked x (cell.Reg n)) → sends s.model o place ≡ [] → n < length s.model.chip.regs
    → Asks field q from from n o s new event e (IfTight from) s.model.chip s.model.layout
deposit_own s new field q from o n value place event e granted performs puts finds none there inside alike numbers closed h =
    let m = s.model in
    let c = m.chip in
    let l = m.layout in
    let d = h.device in
    let port = port_for l place in
    let done = done_of s new o place event granted performs in
    let ready = ready_of c l field q from s e h in
    let tight = at_register c l field from d.bits e.bits n closed h.bits in
    let v = value (found_by d o) in
    let found : found_by e o ≡ found_by d o = finds e ∙ peeked_is e n ∙ sym tight ∙ sym (peeked_is d n) ∙ sym (finds d) in
    let next = poked d (cell.Reg n) v in
    let after = poked e (cell.Reg n) v in
    let own = λ (x : ℕ). from_bits 64 (λ b. if is_some (field_at (setup_of c l no_flaws) n b) then bit v b else bit x b) in
    let in_d : n < length d.bits = subst (λ k. n < k) (sym (h.bits.many ∙ ready.bits)) there in
    let w = own (slice_index d.bits n) in
    finish s new field q from from o place event e h numbers granted done next after
    (done.goes ∙ ap (option_map (device_after m o done.sampled event.trace)) h.told
    ∙ ap Some (puts done.sampled event.trace d ∙ ap (λ k. poked d (cell.Reg n) (value k)) (done.found d h.told)))
    (done_over s new o place event d e after h.told found
    (λ a. ap (items_of a e port) none ∙ sym (ap (items_of a d port) none)) (puts (found_by d o) event.trace e) done)
    (poked_pair c l field q n v d e h.pair)
    (subst (λ xs. AreBitsBeside c l field from xs after.bits) (sym (deposited c l field q n v d h.pair.setup))
    (subst (λ ys. AreBitsBeside c l field from (set d.bits n w) ys) (sym (described_deposited c l n v e ready.setup ∙ ap (λ x. set e.bits n (own x)) (sym tight)))
    (put_beside c l field from from d.bits e.bits n w w h.bits in_d (λ b low off. refl) (λ shut. refl) (λ other. refl) (λ other shut. shut))))

reset_own : (s new : Scene) (field : ℕ) (q : Policy) (n : ℕ) (event : Event) (e : State) → Performs s new (op.Reset 0) event
    → Asks field q false false n (op.Reset 0) s new event e (λ Own. Unit {0}) s.model.chip s.model.layout
reset_own s new field q n event e performs inside alike numbers also h =
    let o = op.Reset 0 in
    let m = s.model in
    let c = m.chip in
    let l = m.layout in
    let d = h.device in
    let ready = ready_of c l field q false s e h in
    finish s new field q false false o 0 event e h numbers refl performs (reset_by d 0) (reset_by e 0)
    (performs.goes ∙ ap (option_map (λ (x : State). reset_by x 0)) h.told)
    (done_over s new o 0 event d e (reset_by e 0) h.told refl (λ a. refl) refl performs)
    (reset_pair c l field q d e h.pair)
    (all_same c l field false (reset_by d 0).bits (reset_by e 0).bits
    (reset_bits c l field q d e h.pair.setup ready.setup (closed_same c l field d.bits e.bits h.bits)))

-- ---- of any chip and layout

-- a field whose other policy takes each write alike
pub record IsOfField (c : ChipData) (field : ℕ) (q : Policy) : Type 0 where
  pub inside : field < length c.fields
  pub alike : AreWrittenAlike (field_of c field).shape.policy q

module _ (c : ChipData) (l : LayoutData) (field : ℕ) (q : Policy) (of : IsOfField c field q) where
  pub write_granted : (from to : Bool) (n : ℕ) (map : Option ℕ) (value place : ℕ) → HasNumbers c (length l.maps) (op.Write n map value)
      → ((n ≡ reg_of c field → ⊥) → to ≡ false → from ≡ false) → (s new : Scene) (event : Event) (e : State) → IsBeside c l field q from s e
      → grant s.model (op.Write n map value) ≡ Ok place → Performs s new (op.Write n map value) event
      → GoesBeside c l field q to s new (op.Write n map value) event e
  write_granted from to n map value place numbers less s new event e h granted performs =
      from_own c l s.model (Asks field q from to n (op.Write n map value) s new event e (IfAway from to)) h.chip h.layout
      (write_own s new field q from to n map value place event e granted performs) of.inside of.alike numbers less h

  -- of another register
  pub write_other : (free : Bool) (n : ℕ) (map : Option ℕ) (value : ℕ) → HasNumbers c (length l.maps) (op.Write n map value)
      → (s new : Scene) (event : Event) (e : State) → IsBeside c l field q free s e → Performs s new (op.Write n map value) event
      → GoesBeside c l field q free s new (op.Write n map value) event e
  write_other free n map value numbers s new event e h performs =
      by_grant c l field q free free s new (op.Write n map value) event e (grant s.model (op.Write n map value)) refl (λ shut. shut) h
      (λ place granted. write_granted free free n map value place numbers (λ other shut. shut) s new event e h granted performs) performs

  check_goes : (from to : Bool) (n : ℕ) (map : Option ℕ) → HasNumbers c (length l.maps) (op.Check n map) → (to ≡ false → from ≡ false)
      → IfChecked from to (n ≡ reg_of c field) → (s new : Scene) (event : Event) (e : State) → IsBeside c l field q from s e
      → Performs s new (op.Check n map) event → GoesBeside c l field q to s new (op.Check n map) event e
  check_goes from to n map numbers less also s new event e h performs =
      by_grant c l field q from to s new (op.Check n map) event e (grant s.model (op.Check n map)) refl less h
      (λ place granted.
      from_own c l s.model (Asks field q from to n (op.Check n map) s new event e (IfChecked from to)) h.chip h.layout
      (check_own s new field q from to n map place event e granted performs) of.inside of.alike numbers also h) performs

  pub check_frees : (n : ℕ) (map : Option ℕ) → HasNumbers c (length l.maps) (op.Check n map) → (s new : Scene) (event : Event) (e : State)
      → IsBeside c l field q false s e → Performs s new (op.Check n map) event → GoesBeside c l field q true s new (op.Check n map) event e
  check_frees n map numbers =
      check_goes false true n map numbers (λ shut. absurd (false≢true (sym shut))) (record {
        tight = λ own. refl;
        frees = λ own shut. false≢true (sym shut);
        away = λ other shut. absurd (false≢true (sym shut));
      })

  pub check_other : (free : Bool) (n : ℕ) (map : Option ℕ) → (n ≡ reg_of c field → ⊥) → HasNumbers c (length l.maps) (op.Check n map)
      → (s new : Scene) (event : Event) (e : State) → IsBeside c l field q free s e → Performs s new (op.Check n map) event
      → GoesBeside c l field q free s new (op.Check n map) event e
  check_other free n map other numbers =
      check_goes free free n map numbers (λ shut. shut)
      (record { tight = λ own. absurd (other own); frees = λ own shut. other own; away = λ apart shut. shut })

  -- by the backdoor, of a register without free bits
  pub back_check_goes : (free : Bool) (n : ℕ) → n < length c.regs → (n ≡ reg_of c field → free ≡ false) → (s new : Scene) (event : Event) (e : State)
      → IsBeside c l field q free s e → Performs s new (op.BackCheck n) event → GoesBeside c l field q free s new (op.BackCheck n) event e
  back_check_goes free n there closed s new event e h performs =
      by_grant c l field q free free s new (op.BackCheck n) event e (grant s.model (op.BackCheck n)) refl (λ shut. shut) h
      (λ place granted.
      from_own c l s.model (λ x y. n < length x.regs → Asks field q free free n (op.BackCheck n) s new event e (IfTight free) x y) h.chip h.layout
      (λ there. deposit_own s new field q free (op.BackCheck n) n (back_left s.model n) place event e granted performs (λ k items x. refl) (λ x. refl) refl there)
      there of.inside of.alike there closed h) performs

  pub back_write_goes : (free : Bool) (n value : ℕ) → n < length c.regs → (n ≡ reg_of c field → free ≡ false) → (s new : Scene) (event : Event) (e : State)
      → IsBeside c l field q free s e → Performs s new (op.BackWrite n value) event → GoesBeside c l field q free s new (op.BackWrite n value) event e
  back_write_goes free n value there closed s new event e h performs =
      by_grant c l field q free free s new (op.BackWrite n value) event e (grant s.model (op.BackWrite n value)) refl (λ shut. shut) h
      (λ place granted.
      from_own c l s.model (λ x y. n < length x.regs → Asks field q free free n (op.BackWrite n value) s new event e (IfTight free) x y) h.chip h.layout
      (λ there. deposit_own s new field q free (op.BackWrite n value) n (back_written s.model n value) place event e granted performs (λ k items x. refl) (λ x. refl) refl there)
      there of.inside of.alike there closed h) performs

  pub reset_goes : HasNumbers c (length l.maps) (op.Reset 0) → (s new : Scene) (event : Event) (e : State) → IsBeside c l field q false s e
      → Performs s new (op.Reset 0) event → GoesBeside c l field q false s new (op.Reset 0) event e
  reset_goes numbers s new event e h performs =
      from_own c l s.model (Asks field q false false 0 (op.Reset 0) s new event e (λ Own. Unit {0})) h.chip h.layout
      (reset_own s new field q 0 event e performs) of.inside of.alike numbers tt h

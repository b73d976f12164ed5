-- The first check of a register after a HARD reset names a field that took another value than the one that is believed.
use Rattle.std.proofs.Common.{◌≡◌, ◌≢◌, ◌⊎◌, ℕ, ◌-◌, ◌*◌, ◌^◌, ◌<◌, Bool, true, false, if◌then◌else◌, List, [], ◌∷◌, length, map, get_or, Option, None}
use Rattle.std.proofs.Common.{Some, option_map, Ok, refl, sym, ap, ◌∙◌, subst, inl, inr, arith}
use Rattle.std.specs.Prelude.{slice_index}
use Rattle.std.proofs.lemmas.Bool.{and_parts, cases_eq}
use Rattle.std.proofs.lemmas.List.{get_or-replicate, length-replicate}
use Rattle.std.proofs.lemmas.List.FromFn.{get_or-map-range_with_len, length-map-range_with_len}
use Rattle.rl_policy.specs.Table.{is_write_only}
use Rattle.rl_bus.specs.declared.table.ResetRow.{ResetRow}
use Rattle.rl_bus.specs.State.{State, reg_reset, reset_by}
use Rattle.rl_model.specs.Rows.{FieldSeen, ChipData}
use Rattle.rl_model.specs.Chip.{IsSound, value_for}
use Rattle.rl_model.specs.Fields.{field_of, first_of, fields_of, field_in, size_of}
use Rattle.rl_model.specs.declared.rows.Item.TheVariants.{Reg}
use Rattle.rl_map.specs.Layout.{LayoutData}
use Rattle.rl_map.specs.Tables.{setup_of}
use Rattle.rl_split.specs.Law.{no_flaws, IsReady}
use Rattle.rl_split.specs.Step.{Register, every, ranswer}
use Rattle.rl_mirror.specs.Fields.{part_of}
use Rattle.rl_mirror.specs.Mirror.{MirrorData, mirrored_of}
use Rattle.rl_mirror.specs.Prediction.{after_reset, reset}
use Rattle.rl_mirror.proofs.FieldLemmas.{field_list, seated}
use Rattle.rl_mirror.proofs.MirrorLemmas.{place_of, reset_built}
use Rattle.rl_mirror.proofs.ReachLemmas.{reset_reach}
use Rattle.rl_mirror.proofs.ResetLemmas.{reset_fits}
use Rattle.rl_access.specs.declared.event.Event.{Event}
use Rattle.rl_access.specs.declared.event.Op.{Op}
use Rattle.rl_access.specs.declared.event.Op.TheVariants as op
use Rattle.rl_access.specs.declared.trace.TraceItem.{TraceItem}
use Rattle.rl_access.specs.Call.{Scene, IsDone, Performs}
use Rattle.rl_access.specs.Laws.{IsComparedField, IsFoundOther, ChecksRegister}
use Rattle.rl_access.specs.Model.{ModelData, IsModel}
use Rattle.rl_access.specs.Operation.{reg_of, register_of, HasNumbers}
use Rattle.rl_access.specs.Rules.{grant, named, Outcome, outcome, event_at}
use Rattle.rl_access.proofs.Beliefs.{check_names}
use Rattle.rl_seq.specs.declared.sequence.Sequence.TheVariants.{HwReset}
use Rattle.rl_seq.specs.Choice.{is_of, may_read}
use Rattle.rl_seq.specs.Plan.{Plan, stop, each_below}
use Rattle.rl_seq.specs.Sequences.{map_at, items_of, is_chosen, is_visited, at_place, visit, visit_all, walk}
use Rattle.rl_plain.proofs.Kept.{model_with}
use Rattle.rl_plain.proofs.Answered.{done_of}
use Rattle.rl_detect_laws.specs.Resets.{wrong_resets, HasWrongResets, IsResetOtherwise, IsNamedBy, WrongResetIsNamed}
use Rattle.rl_detect_laws.specs.Visited.{IsVisited}
use Rattle.rl_detect_laws.proofs.Checks.{IsSceneOf, Holding, other_check, own_check}
use Rattle.rl_detect_laws.proofs.Comes.{ComesTo, Either, either_if, comes_if, either_each, comes_each, come_found}
use Rattle.rl_detect_laws.proofs.Forgetting.{setup_without, without}
use Rattle.rl_detect_laws.proofs.Reaching.{is_place, check_is}
use Rattle.rl_detect_laws.proofs.Wrong.{described_part, taken_part}
use Rattle.rl_plain.proofs.NothingFound.{same_part}

-- ---- the plan

-- a check of another register
pub record IsOtherCheck (c : ChipData) (l : LayoutData) (reg : ℕ) (o : Op) : Type 0 where
  pub checked : ℕ
  pub map : Option ℕ
  pub is : o ≡ op.Check checked map
  pub numbers : HasNumbers c (length l.maps) (op.Check checked map)
  pub other : reg ≡ checked → ⊥

-- a check of this one, which is granted from any model of the chip and the layout
pub record IsOwnCheck (c : ChipData) (l : LayoutData) (reg : ℕ) (o : Op) : Type 0 where
  pub map : Option ℕ
  pub is : o ≡ op.Check reg map
  pub numbers : HasNumbers c (length l.maps) (op.Check reg map)
  pub place : ℕ
  pub granted : (m : ModelData) → m.chip ≡ c → m.layout ≡ l → grant m (op.Check reg map) ≡ Ok place

abbrev EitherCheck : (c : ChipData) (l : LayoutData) (reg : ℕ) → Plan → Type 0
EitherCheck c l reg p = Either (IsOtherCheck c l reg) (IsOwnCheck c l reg) p

abbrev ComesToCheck : (c : ChipData) (l : LayoutData) (reg : ℕ) → Plan → Type 0
ComesToCheck c l reg p = ComesTo (IsOtherCheck c l reg) (IsOwnCheck c l reg) p

own_visit : (s : ModelData) (reg place : ℕ) → IsModel s → reg < length s.chip.regs → place < length s.layout.places → is_visited HwReset s.layout reg place ≡ true
    → IsOwnCheck s.chip s.layout reg (op.Check reg (Some (map_at s.layout place)))
own_visit s reg place ok inside there visited =
    let c = s.chip in
    let l = s.layout in
    let both = and_parts (is_of l place (Reg reg)) (may_read l place) visited in
    record {
      map = Some (map_at l place);
      is = refl;
      numbers = (inside, (ok.layout.each_place place there).map);
      place = place;
      granted = (check_is c l reg place (is_place c l place (Reg reg) ok.layout ok.built there both.0) both.1).granted;
    }

-- at each place: a check of the register that is visited, or nothing
either_visit : (s : ModelData) (reg q place : ℕ) → IsModel s → q < length s.chip.regs → place < length s.layout.places
    → EitherCheck s.chip s.layout reg (visit HwReset s.chip s.layout q place)
either_visit s reg q place ok inside there = by (is_visited HwReset s.layout q place) refl (cases_eq reg q)
  where
    by : (b : Bool) → is_visited HwReset s.layout q place ≡ b → (reg ≡ q) ⊎ (reg ≡ q → ⊥)
        → EitherCheck s.chip s.layout reg (visit HwReset s.chip s.layout q place)
    by true so (inl same) =
        either_if (IsOtherCheck s.chip s.layout reg) (IsOwnCheck s.chip s.layout reg) (is_visited HwReset s.layout q place) (at_place HwReset s.chip s.layout q place)
        (inr (inl (subst (λ n. IsOwnCheck s.chip s.layout n (op.Check q (Some (map_at s.layout place)))) (sym same) (own_visit s q place ok inside there so))))
    by true so (inr other) =
        either_if (IsOtherCheck s.chip s.layout reg) (IsOwnCheck s.chip s.layout reg) (is_visited HwReset s.layout q place) (at_place HwReset s.chip s.layout q place)
        (inl (
          record {
            checked = q;
            map = Some (map_at s.layout place);
            is = refl;
            numbers = (inside, (ok.layout.each_place place there).map);
            other = other;
          },
          tt,
        ))
    by false so which =
        subst (λ b. EitherCheck s.chip s.layout reg (if b then at_place HwReset s.chip s.layout q place else stop)) (sym so) (inl tt)

pub comes : (s : ModelData) (block : Option ℕ) (reg place : ℕ) → IsModel s → IsVisited HwReset s.chip s.layout block reg place
    → ComesToCheck s.chip s.layout reg (walk HwReset s.chip s.layout block)
comes s block reg place ok v =
    let c = s.chip in
    let l = s.layout in
    let others = IsOtherCheck c l reg in
    let own = IsOwnCheck c l reg in
    let places = λ (q : ℕ) (inside : q < length c.regs) (k : ℕ) (there : k < length l.places). either_visit s reg q k ok inside there in
    comes_each others own (items_of HwReset c) reg (visit_all HwReset c l block)
    (λ q inside. either_if others own (is_chosen HwReset c l block q) (each_below (length l.places) (visit HwReset c l q))
    (either_each others own (length l.places) (visit HwReset c l q) (places q inside))) v.number_in
    (comes_if others own (is_chosen HwReset c l block reg) (each_below (length l.places) (visit HwReset c l reg)) v.chosen
    (comes_each others own (length l.places) place (visit HwReset c l reg) (places reg v.number_in) v.place_in
    (comes_if others own (is_visited HwReset l reg place) (at_place HwReset c l reg place) v.visited
    (inl (own_visit s reg place ok v.number_in v.place_in v.visited)))))

-- ---- the reset

pub reset_setup : (d : State) → (reset_by d 0).setup ≡ d.setup
unfolding reset_by
reset_setup d = refl

pub without_resets : (c : ChipData) (l : LayoutData) (resets : List ResetRow) → setup_without (setup_of c l (wrong_resets resets)) ≡ setup_of c l no_flaws
unfolding setup_of
without_resets c l resets = refl

ready_again : (c : ChipData) (l : LayoutData) (d : State) → HasWrongResets c l d → IsReady c l (without (reset_by d 0))
unfolding reset_by
ready_again c l d w = record {
  setup = ap setup_without w.setup ∙ without_resets c l w.resets;
  beats = λ p a. refl;
  bits = length-map-range_with_len (reg_reset d 0) 0 (length d.bits) ∙ w.bits;
  marks = length-replicate (length d.marks) 0 ∙ w.marks;
}

no_marks : (c : ChipData) (l : LayoutData) (d : State) (q : ℕ) → HasWrongResets c l d → q < length c.regs → slice_index (reset_by d 0).marks q ≡ 0
unfolding reset_by
no_marks c l d q w inside = get_or-replicate (length d.marks) q 0 0 (subst (λ n. q < n) (sym w.marks) inside)

bits_again : (c : ChipData) (l : LayoutData) (d : State) (q : ℕ) → HasWrongResets c l d → q < length c.regs → slice_index (reset_by d 0).bits q ≡ reg_reset d 0 q
unfolding reset_by
bits_again c l d q w inside = get_or-map-range_with_len (reg_reset d 0) 0 (length d.bits) q q 0 (subst (λ n. q < n) (sym w.bits) inside) (omega arith)

pub believed_again : (c : ChipData) (m : MirrorData) (q : ℕ) → q < length m.mirrored → mirrored_of (reset c 0 m) q ≡ after_reset (fields_of c q) 0 (mirrored_of m q)
unfolding reset
believed_again c m q inside =
    get_or-map-range_with_len (λ reg. after_reset (fields_of c reg) 0 (get_or m.mirrored reg 0)) 0 (length m.mirrored) q q 0 inside (omega arith)

model_again : (m : ModelData) → IsModel m → IsModel (record m { mirror = reset m.chip 0 m.mirror })
model_again m ok =
    model_with m (reset m.chip 0 m.mirror) m.gathered ok
    (record { built = reset_built m.chip 0 m.mirror ok.chip ok.mirror; reach = reset_reach m.chip 0 m.mirror ok.chip ok.mirror ok.reach }) ok.predictor

-- model and device after it
pub reset_to : (s new : Scene) (e : Event) (d : State) → IsModel s.model → s.device ≡ Some d → IsDone s new (op.Reset 0) 0 e
    → IsSceneOf s.model.chip s.model.layout new (reset_by d 0)
reset_to s new e d ok told done = record {
  model = subst IsModel (sym done.model) (model_again s.model ok);
  chip = ap (λ (x : ModelData). x.chip) done.model;
  layout = ap (λ (x : ModelData). x.layout) done.model;
  told = done.goes ∙ ap (option_map (λ (x : State). reset_by x 0)) told;
}

-- what stands then
reset_leaves : (s new : Scene) (e : Event) (d : State) (reg : ℕ) → IsModel s.model → s.device ≡ Some d → HasWrongResets s.model.chip s.model.layout d
    → reg < length s.model.chip.regs → IsDone s new (op.Reset 0) 0 e
    → Holding s.model.chip s.model.layout reg (reg_reset d 0 reg) (after_reset (fields_of s.model.chip reg) 0 (mirrored_of s.model.mirror reg)) new
reset_leaves s new e d reg ok told w inside done =
    let m = s.model in
    record {
      device = reset_by d 0;
      scene_is = reset_to s new e d ok told done;
      ready = ready_again m.chip m.layout d w;
      unmarked = λ q low. no_marks m.chip m.layout d q w low;
      bits_are = bits_again m.chip m.layout d reg w inside;
      believed = ap (λ (x : ModelData). mirrored_of x.mirror reg) done.model
          ∙ believed_again m.chip m.mirror reg (subst (λ n. reg < n) (sym ok.mirror.registers) inside);
    }

-- ---- the check

op_is : (r : Option ℕ) (o : Op) (items : List TraceItem) (out : Outcome) → (event_at r o items out).op ≡ o
op_is None o items out = refl
op_is (Some reg) o items out = refl

checks_it : (m : ModelData) (reg : ℕ) (map : Option ℕ) → ChecksRegister (named m (op.Check reg map)) reg
checks_it m reg map = refl

-- a field whose bits aren't those that are believed is named
names_it : (c : ChipData) (l : LayoutData) (field bits mirrored : ℕ) → IsSound c → field < length c.fields → IsComparedField (field_of c field).shape
    → part_of (field_of c field).shape bits ≢ part_of (field_of c field).shape mirrored
    → (s new : Scene) (o : Op) (e : Event) → IsOwnCheck c l (reg_of c field) o → Holding c l (reg_of c field) bits mirrored s → Performs s new o e
    → IsNamedBy c field e
names_it c l field bits mirrored sound inside compared apart s new o e own h performs = by (subst (λ o. Performs s new o e) own.is performs)
  where
    by : Performs s new (op.Check (reg_of c field) own.map) e → IsNamedBy c field e
    by performs =
        let reg = reg_of c field in
        let fs = fields_of c reg in
        let k = field - first_of c reg in
        let r : Register = record { bits = bits; spent = λ k. false } in
        let at = place_of c field sound inside in
        let called = named s.model (op.Check reg own.map) in
        let granted = own.granted s.model h.chip h.layout in
        let done = done_of s new (op.Check reg own.map) own.place e granted performs in
        let ends = own_check c l s new reg own.place own.map e bits mirrored own.numbers h granted performs in
        let readable : is_write_only (field_in fs k).shape.policy ≡ false = subst (λ (f : FieldSeen). is_write_only f.shape.policy ≡ false) (sym at.field) compared.readable in
        let read : part_of (field_of c field).shape (ranswer fs every r) ≡ part_of (field_of c field).shape bits =
        subst (λ (f : FieldSeen). part_of f.shape (ranswer fs every r) ≡ part_of f.shape bits) at.field
        (same_part (8 * size_of c reg) fs k r (field_list c reg sound (seated c field sound inside).reg) at.place readable) in
        let other : part_of (field_of c field).shape (ranswer fs every r) ≢ part_of (field_of c field).shape (mirrored_of s.model.mirror reg) =
        λ same. apart (sym read ∙ same ∙ ap (part_of (field_of c field).shape) h.believed) in
        let found : IsFoundOther (field_of c field).shape (ranswer fs every r) (mirrored_of s.model.mirror reg) = record { compared = compared; other = other } in
        let here : (k < length fs) × IsFoundOther (field_in fs k).shape (ranswer fs every r) (mirrored_of s.model.mirror reg) =
        (at.place, subst (λ (f : FieldSeen). IsFoundOther f.shape (ranswer fs every r) (mirrored_of s.model.mirror reg)) (sym at.field) found) in
        let there : (k < length (fields_of s.model.chip reg)) × IsFoundOther (field_in (fields_of s.model.chip reg) k).shape (ranswer fs every r) (mirrored_of s.model.mirror reg) =
        subst (λ (x : ChipData). (k < length (fields_of x reg)) × IsFoundOther (field_in (fields_of x reg) k).shape (ranswer fs every r) (mirrored_of s.model.mirror reg)) (sym h.chip) here in
        record {
          check = subst (λ o. ChecksRegister o reg)
              (sym (ap (λ (x : Event). x.op) done.event_is ∙ op_is (register_of s.model.chip called) called e.trace (outcome s.model (op.Check reg own.map) own.place done.sampled e.trace)))
              (checks_it s.model reg own.map);
          names = (check_names s new (op.Check reg own.map) e reg (ranswer fs every r) k performs refl ends).1 there;
        }

other_stays : (c : ChipData) (l : LayoutData) (reg bits mirrored : ℕ) (s new : Scene) (o : Op) (e : Event) → IsOtherCheck c l reg o → Holding c l reg bits mirrored s
    → Performs s new o e → Holding c l reg bits mirrored new
other_stays c l reg bits mirrored s new o e other h performs =
    other_check c l s new other.checked other.map e bits mirrored reg other.numbers other.other h (subst (λ o. Performs s new o e) other.is performs)

-- ---- the law

parts_apart : (c : ChipData) (l : LayoutData) (d : State) (field kept : ℕ) → IsSound c → field < length c.fields → HasWrongResets c l d → IsResetOtherwise c d.setup field
    → part_of (field_of c field).shape (reg_reset d 0 (reg_of c field)) ≢ part_of (field_of c field).shape (after_reset (fields_of c (reg_of c field)) 0 kept)
parts_apart c l d field kept sound inside w wrong same =
    let reg = reg_of c field in
    let fs = fields_of c reg in
    let at = place_of c field sound inside in
    let k = field - first_of c reg in
    let list = field_list c reg sound (seated c field sound inside).reg in
    let says : value_for 0 (field_in fs k).resets ≡ Some wrong.described = subst (λ (f : FieldSeen). value_for 0 f.resets ≡ Some wrong.described) (sym at.field) wrong.says in
    let small : wrong.described < 2 ^ (field_of c field).shape.width = reset_fits c field 0 wrong.described sound inside wrong.says in
    let fits : wrong.described < 2 ^ (field_in fs k).shape.width = subst (λ (f : FieldSeen). wrong.described < 2 ^ f.shape.width) (sym at.field) small in
    let believed : part_of (field_of c field).shape (after_reset fs 0 kept) ≡ wrong.described =
    subst (λ (f : FieldSeen). part_of f.shape (after_reset fs 0 kept) ≡ wrong.described) at.field (described_part (8 * size_of c reg) fs k wrong.described kept list at.place says fits) in
    let taken = taken_part c l d w.resets field wrong.taken sound inside w.setup wrong.takes wrong.fits in
    wrong.other (sym taken ∙ same ∙ believed)

pub wrong_reset_is_named : WrongResetIsNamed
wrong_reset_is_named s new d block [] field place ok told w inside compared wrong v run = absurd run
wrong_reset_is_named s new d block (t ∷ events) field place ok told w inside compared wrong v (mid, first, rest) =
    let c = s.model.chip in
    let l = s.model.layout in
    let reg = reg_of c field in
    let bits = reg_reset d 0 reg in
    let mirrored = after_reset (fields_of c reg) 0 (mirrored_of s.model.mirror reg) in
    let after = reset_leaves s mid t.event d reg ok told w v.number_in first.performs in
    inr (come_found (IsOtherCheck c l reg) (IsOwnCheck c l reg) (Holding c l reg bits mirrored) (IsNamedBy c field)
    (other_stays c l reg bits mirrored)
    (names_it c l field bits mirrored ok.chip inside compared (parts_apart c l d field (mirrored_of s.model.mirror reg) ok.chip inside w wrong))
    (walk HwReset c l block) mid new events (comes s.model block reg place ok v) after rest)

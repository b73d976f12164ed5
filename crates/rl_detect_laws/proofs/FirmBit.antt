-- A bit that is stuck, or whose register is deaf, goes as the computation says.
use Rattle.std.proofs.Common.{◌≡◌, ◌≢◌, ℕ, ◌-◌, ◌<◌, Bool, true, false, ◌||◌, List, length, Option, None, Some, Ok}
use Rattle.std.proofs.Common.{refl, sym, ap, ◌∙◌, subst, inl, inr}
use Rattle.std.specs.Prelude.{is_some}
use Rattle.std.proofs.lemmas.List.{length-set}
use Rattle.rl_policy.specs.Bits.{bit}
use Rattle.rl_policy.specs.Table.{either_alone, after_write, after_read, value_read, is_write_only, spends_mark}
use Rattle.rl_policy.specs.declared.policy.Policy.{Policy}
use Rattle.rl_bus.specs.declared.table.Cell.TheVariants as cell
use Rattle.rl_bus.specs.Setup.{Setup, field_at, is_deaf, stuck_at, or_else}
use Rattle.rl_bus.specs.State.{peeked, poked}
use Rattle.rl_model.specs.Rows.{FieldSeen, ChipData}
use Rattle.rl_model.specs.Chip.{IsSound as IsChip}
use Rattle.rl_model.specs.Fields.{field_of, first_of, fields_of, policy_in}
use Rattle.rl_map.specs.Layout.{LayoutData}
use Rattle.rl_map.specs.Tables.{setup_of}
use Rattle.rl_split.specs.Law.{no_flaws}
use Rattle.rl_split.specs.Step.{Register, every, ranswer}
use Rattle.rl_mirror.specs.Mirror.{MirrorData, IsMirrorOf, mirrored_of, marks_in}
use Rattle.rl_mirror.specs.Fields.{owned}
use Rattle.rl_mirror.specs.Prediction.{predict_raw, predict_read, shown, left_by_read, written as raw_written}
use Rattle.rl_mirror.specs.Reachable.{IsReachable}
use Rattle.rl_mirror.proofs.ReachLemmas.{raw_reach}
use Rattle.rl_access.specs.declared.event.Event.{Event}
use Rattle.rl_access.specs.declared.event.Op.{Op}
use Rattle.rl_access.specs.declared.event.Op.TheVariants as op
use Rattle.rl_access.specs.Call.{Scene, IsDone, Performs}
use Rattle.rl_access.specs.Laws.{ChecksRegister}
use Rattle.rl_access.specs.Model.{ModelData, IsModel}
use Rattle.rl_access.specs.Operation.{reg_of, HasNumbers}
use Rattle.rl_access.specs.Rules.{grant, every_field, found_by, back_value, back_left, back_written}
use Rattle.rl_plain.specs.Agree.{believed}
use Rattle.rl_plain.proofs.Answered.{done_of}
use Rattle.rl_plain.proofs.Backdoor.{alone_by, peeked_is, is_field}
use Rattle.rl_plain.proofs.Kept.{IsKept, model_with, raw_built, read_kept}
use Rattle.rl_plain.proofs.NothingFound.{shows}
use Rattle.rl_detect_laws.specs.BitFlaws.{HoldsStuck}
use Rattle.rl_detect_laws.specs.Resets.{IsNamedBy}
use Rattle.rl_detect_laws.specs.Sides.{Sides, BitFlaw, sticks, hears_nothing, goes_by, held_written, held_deposited, written, checked, checked_behind, written_behind, differs}
use Rattle.rl_detect_laws.specs.Sides.{differs_behind}
use Rattle.rl_detect_laws.proofs.AccessTest.{Agreeing, write_agrees, check_agrees, back_write_agrees, back_check_agrees, shown_there}
use Rattle.rl_detect_laws.proofs.Apart.{names_read}
use Rattle.rl_detect_laws.proofs.Bashing.{IsStuckSetup, Holding, unmarked_bits, IsCheckedTo, write_done, check_done, check_deaf, answered_there}
use Rattle.rl_detect_laws.proofs.BitBash.{IsBit}
use Rattle.rl_detect_laws.proofs.BitBeliefs.{IsBitAt, wrote_bit, read_bit, raw_bit, back_read_bit, left_there, made_there, deposited_bit}
use Rattle.rl_detect_laws.proofs.BitWalk.{Reaches, ActsSo}
use Rattle.rl_detect_laws.proofs.DeafReads.{NoneStuck}
use Rattle.rl_detect_laws.proofs.StuckBit.{unstuck, IsFirm}

-- the setup has this flaw of the bit
abbrev pub IsFirmBy : BitFlaw → Setup → (reg b : ℕ) → Type 0
IsFirmBy (sticks v) t reg b = (stuck_at t reg b ≡ Some v) × ((r k : ℕ) → ((r ≡ reg) × (k ≡ b) → ⊥) → stuck_at t r k ≡ None)
IsFirmBy hears_nothing t reg b = NoneStuck t × (is_deaf t (cell.Reg reg) ≡ true)
IsFirmBy (goes_by q) t reg b = ⊥

-- the bit is held and believed so
pub record SeenFirm (c : ChipData) (l : LayoutData) (t : Setup) (reg k b : ℕ) (flaw : BitFlaw) (x : Sides) (s : Scene) : Type 0 where
  pub holding : Holding c l t reg b x.held s
  pub stuck : HoldsStuck flaw x.held
  pub believed : bit (mirrored_of s.model.mirror reg) b ≡ x.believed
  pub spent : marks_in c s.model.mirror.spent reg k ≡ x.spent

is_firm : (flaw : BitFlaw) (t : Setup) (reg b : ℕ) (v : Bool) → b < 64 → IsFirmBy flaw t reg b → HoldsStuck flaw v → IsFirm t reg b v
is_firm (sticks u) t reg b v low firm stuck = record { low = low; here = inl (firm.0 ∙ ap Some (sym stuck)); others = firm.1 }
is_firm hears_nothing t reg b v low firm stuck = record { low = low; here = inr (firm.0 reg b, firm.1); others = λ r k other. firm.0 r k }
is_firm (goes_by q) t reg b v low firm stuck = absurd firm

-- a write leaves it held, and a deposit does where it is stuck
kept_written : (flaw : BitFlaw) (t : Setup) (reg b : ℕ) (v word marked : Bool) → IsFirmBy flaw t reg b → HoldsStuck flaw v → held_written flaw v word marked ≡ v
kept_written (sticks u) t reg b v word marked firm stuck = sym stuck
kept_written hears_nothing t reg b v word marked firm stuck = refl
kept_written (goes_by q) t reg b v word marked firm stuck = absurd firm

kept_deposited : (flaw : BitFlaw) (t : Setup) (reg b : ℕ) (value : Bool) → IsFirmBy flaw t reg b → or_else (stuck_at t reg b) value ≡ held_deposited flaw value
kept_deposited (sticks u) t reg b value firm = ap (λ o. or_else o value) firm.0
kept_deposited hears_nothing t reg b value firm = ap (λ o. or_else o value) (firm.0 reg b)
kept_deposited (goes_by q) t reg b value firm = absurd firm

stuck_deposited : (flaw : BitFlaw) (value : Bool) → HoldsStuck flaw (held_deposited flaw value)
stuck_deposited (sticks u) value = refl
stuck_deposited hears_nothing value = tt
stuck_deposited (goes_by q) value = tt

pub apart_by : (x y : Bool) → either_alone x y ≡ true → x ≢ y
apart_by true true so same = let both : false ≡ true = so in absurd (cc)
apart_by false false so same = let both : false ≡ true = so in absurd (cc)
apart_by true false so same = cc
apart_by false true so same = cc

module _ (c : ChipData) (l : LayoutData) (t : Setup) (field b i : ℕ) (flaw : BitFlaw) (sound : IsChip c)
    (is : IsBit c field (reg_of c field) (field - first_of c (reg_of c field)) b i) (plain : unstuck t ≡ setup_of c l no_flaws) (firm : IsFirmBy flaw t (reg_of c field) b) where
  abbrev reg : ℕ
  reg = reg_of c field

  abbrev k : ℕ
  k = field - first_of c (reg_of c field)

  abbrev p : Policy
  p = (field_of c field).shape.policy

  abbrev fs : List FieldSeen
  fs = fields_of c (reg_of c field)

  abbrev Seen : Sides → Scene → Type 0
  Seen = SeenFirm c l t (reg_of c field) (field - first_of c (reg_of c field)) b flaw

  at_bit : IsBitAt c (reg_of c field) (field - first_of c (reg_of c field)) b
  at_bit = record { sound = sound; inside = is.reg_in; low = is.low; at = is.at }

  p_is : policy_in (fields_of c (reg_of c field)) (field - first_of c (reg_of c field)) ≡ (field_of c field).shape.policy
  p_is = ap (λ (f : FieldSeen). f.shape.policy) is.field_is

  readable : is_write_only (policy_in (fields_of c (reg_of c field)) (field - first_of c (reg_of c field))) ≡ false
  readable = ap is_write_only p_is ∙ is.compared.readable

  setup : (v : Bool) → HoldsStuck flaw v → IsStuckSetup c l t (reg_of c field) b v
  setup v stuck = record { plain = plain; alone = is_firm flaw t (reg_of c field) b v is.low firm stuck; reg_in = is.reg_in }

  built_of : (x : Sides) (s : Scene) → Seen x s → IsMirrorOf c s.model.mirror
  built_of x s h = subst (λ (y : ChipData). IsMirrorOf y s.model.mirror) h.holding.chip h.holding.model.mirror

  -- ---- over the bus

  write_own : (x : Sides) (s new : Scene) (e : Event) (map : Option ℕ) (value place : ℕ) → Seen x s → HasNumbers c (length l.maps) (op.Write (reg_of c field) map value)
      → grant s.model (op.Write (reg_of c field) map value) ≡ Ok place → Performs s new (op.Write (reg_of c field) map value) e
      → Seen (written flaw (field_of c field).shape.policy (bit value b) x) new
  write_own x s new e map value place h numbers granted performs =
      let w = write_done c l s new t reg b x.held reg map value place e (setup x.held h.stuck) h.holding numbers granted performs in
      let both = wrote_bit c reg k b value s.model.mirror new.model.mirror at_bit (built_of x s h) w.predicted in
      let same = kept_written flaw t reg b x.held (bit value b) x.marked firm h.stuck in
      record {
        holding = subst (λ v. Holding c l t reg b v new) (sym same) w.stands;
        stuck = subst (HoldsStuck flaw) (sym same) h.stuck;
        believed = both.0 ∙ ap (λ q. after_write q (bit (mirrored_of s.model.mirror reg) b) (bit value b) (marks_in c s.model.mirror.spent reg k)) p_is
            ∙ ap (λ v. after_write p v (bit value b) (marks_in c s.model.mirror.spent reg k)) h.believed ∙ ap (after_write p x.believed (bit value b)) h.spent;
        spent = both.1 ∙ ap (λ q. marks_in c s.model.mirror.spent reg k || spends_mark q) p_is ∙ ap (λ v. v || spends_mark p) h.spent;
      }

  -- a check that leaves the bit so
  check_to : (x y : Sides) (s new : Scene) (e : Event) (map : Option ℕ) → Seen x s → HoldsStuck flaw y.held → y.believed ≡ after_read (field_of c field).shape.policy x.held
      → y.spent ≡ x.spent → Performs s new (op.Check (reg_of c field) map) e → IsCheckedTo c l t (reg_of c field) b x.held y.held s new (reg_of c field) e
      → Seen y new × (either_alone x.held x.believed ≡ true → IsNamedBy c field e)
  check_to x y s new e map h stuck learned same performs done =
      let read = ranswer fs every (unmarked_bits done.bits) in
      let read_so : bit read b ≡ x.held = answered_there fs k b done.bits is.low is.at readable ∙ done.held refl in
      let both = read_bit c reg k b read s.model.mirror new.model.mirror at_bit readable (built_of x s h) done.predicted in (
        record {
          holding = done.stands;
          stuck = stuck;
          believed = both.0 ∙ ap (λ q. after_read q (bit read b)) p_is ∙ ap (after_read p) read_so ∙ sym learned;
          spent = both.1 ∙ h.spent ∙ sym same;
        },
        λ shown. names_read c field b i s new (op.Check reg map) e read is h.holding.chip refl done.checks performs done.ends
            (λ equal. apart_by x.held x.believed shown (sym read_so ∙ equal ∙ h.believed)),
      )

  check_own : (f : BitFlaw) → f ≡ flaw → (x : Sides) (s new : Scene) (e : Event) (map : Option ℕ) (place : ℕ) → Seen x s → HasNumbers c (length l.maps) (op.Check (reg_of c field) map)
      → grant s.model (op.Check (reg_of c field) map) ≡ Ok place → Performs s new (op.Check (reg_of c field) map) e
      → Seen (checked f (field_of c field).shape.policy x) new × (differs f x ≡ true → IsNamedBy c field e)
  check_own (sticks v) same x s new e map place h numbers granted performs =
      let stuck : x.held ≡ v = subst (λ f. HoldsStuck f x.held) (sym same) h.stuck in
      let held : stuck_at t reg b ≡ Some x.held = (subst (λ f. IsFirmBy f t reg b) (sym same) firm).0 ∙ ap Some (sym stuck) in
      let done = check_done c l s new t reg b x.held reg map place e (setup x.held h.stuck) (inl held) h.holding numbers granted performs in
      check_to x (checked (sticks v) p x) s new e map h (subst (λ f. HoldsStuck f v) same refl) refl refl performs
      (subst (λ u. IsCheckedTo c l t reg b x.held u s new reg e) stuck done)
  check_own hears_nothing same x s new e map place h numbers granted performs =
      let none = (subst (λ f. IsFirmBy f t reg b) (sym same) firm).0 in
      let done = check_deaf c l s new t reg k b x.held map place e (setup x.held h.stuck) none is.at h.holding numbers granted performs in
      check_to x (checked hears_nothing p x) s new e map h (subst (λ f. HoldsStuck f (after_read p x.held)) same tt) refl refl performs
      (subst (λ q. IsCheckedTo c l t reg b x.held (after_read q x.held) s new reg e) p_is done)
  check_own (goes_by q) same x s new e map place h numbers granted performs = absurd (subst (λ f. IsFirmBy f t reg b) (sym same) firm)

  -- ---- by the backdoor

  -- a deposit, and what is believed with it
  deposit_own : (x y : Sides) (s new : Scene) (o : Op) (place value : ℕ) (mirror : MirrorData) → (h : Seen x s) → IsKept c mirror
      → new.device ≡ Some (poked h.holding.device (cell.Reg (reg_of c field)) value) → new.model ≡ record s.model { mirror = mirror }
      → held_deposited flaw (bit value b) ≡ y.held → bit (mirrored_of mirror (reg_of c field)) b ≡ y.believed
      → marks_in c mirror.spent (reg_of c field) (field - first_of c (reg_of c field)) ≡ y.spent → Seen y new
  unfolding poked
  deposit_own x y s new o place value mirror h kept goes model held bits marks =
      let w = h.holding in
      let d = w.device in
      let first : ModelData = record s.model { mirror = mirror } in
      let ok : IsModel first =
      model_with s.model mirror s.model.gathered w.model (subst (λ z. IsKept z mirror) (sym w.chip) kept) w.model.predictor in
      let owned : is_some (field_at d.setup reg b) ≡ true =
      ap (λ (u : Setup). is_some (field_at u reg b)) (w.setup)
      ∙ ap (λ (u : Setup). is_some (field_at u reg b)) plain ∙ is_field c l reg b sound is.reg_in ∙ ap is_some is.at in
      let bit_so = deposited_bit d reg b value (subst (λ n. reg < n) (sym w.bits) is.reg_in) is.low owned
      ∙ ap (λ (u : Setup). or_else (stuck_at u reg b) (bit value b)) w.setup ∙ kept_deposited flaw t reg b (bit value b) firm in
      record {
        holding = record {
          device = poked d (cell.Reg reg) value;
          scene_is = record {
            model = subst IsModel (sym model) ok;
            chip = ap (λ (m : ModelData). m.chip) model ∙ w.chip;
            layout = ap (λ (m : ModelData). m.layout) model ∙ w.layout;
            told = goes;
          };
          set_up = record { setup = w.setup; beats = w.beats; bits = length-set d.bits reg _ ∙ w.bits; marks = w.marks };
          here = bit_so ∙ held;
        };
        stuck = subst (HoldsStuck flaw) held (stuck_deposited flaw (bit value b));
        believed = ap (λ (m : ModelData). bit (mirrored_of m.mirror reg) b) model ∙ bits;
        spent = ap (λ (m : ModelData). marks_in c m.mirror.spent reg k) model ∙ marks;
      }

  kept_of : (x : Sides) (s : Scene) → Seen x s → IsKept c s.model.mirror
  kept_of x s h = record { built = built_of x s h; reach = subst (λ (y : ChipData). IsReachable y s.model.mirror) h.holding.chip h.holding.model.reach }

  -- what the backdoor finds of the bit
  found_bit : (x : Sides) (s new : Scene) (o : Op) (e : Event) → (h : Seen x s) → (done : IsDone s new o 0 e)
      → found_by h.holding.device o ≡ peeked h.holding.device (cell.Reg (reg_of c field)) → bit done.sampled b ≡ x.held
  found_bit x s new o e h done peeks =
      ap (λ n. bit n b) (done.found h.holding.device h.holding.told ∙ peeks ∙ peeked_is h.holding.device reg) ∙ h.holding.here

  back_check_own : (x : Sides) (s new : Scene) (e : Event) → Seen x s → grant s.model (op.BackCheck (reg_of c field)) ≡ Ok 0
      → Performs s new (op.BackCheck (reg_of c field)) e
      → Seen (checked_behind flaw (field_of c field).shape.policy x) new × (differs_behind x ≡ true → IsNamedBy c field e)
  back_check_own x s new e h granted performs =
      let m = s.model in
      let chip = h.holding.chip in
      let q = policy_in fs k in
      let done = done_of s new (op.BackCheck reg) 0 e granted performs in
      let by = alone_by s new (op.BackCheck reg) e 0 h.holding.device done h.holding.told refl in
      let held_so = found_bit x s new (op.BackCheck reg) e h done refl in
      let read = back_value m reg done.sampled in
      let left = back_left m reg done.sampled in
      let read_so : bit read b ≡ x.held =
      ap (λ (y : ChipData). bit (shown (fields_of y reg) (owned (fields_of y reg) done.sampled)) b) chip ∙ shown_there fs k b done.sampled is.low is.at
      ∙ ap (value_read q) held_so ∙ shows q x.held readable in
      let left_so : bit left b ≡ after_read p x.held =
      ap (λ (y : ChipData). bit (left_by_read (fields_of y reg) (owned (fields_of y reg) done.sampled)) b) chip ∙ left_there fs k b done.sampled is.low is.at
      ∙ ap (after_read q) held_so ∙ ap (λ r. after_read r x.held) p_is in
      let both = back_read_bit c reg k b read m.mirror at_bit readable (built_of x s h) in
      let believes = λ (y : ChipData). predict_read y reg read every_field m.mirror in (
        deposit_own x (checked_behind flaw p x) s new (op.BackCheck reg) 0 left (believes m.chip) h
            (subst (λ y. IsKept c (believes y)) (sym chip) (read_kept c reg read every_field m.mirror sound is.reg_in (kept_of x s h)))
            by.told by.model (ap (held_deposited flaw) left_so)
            (ap (λ y. bit (mirrored_of (believes y) reg) b) chip ∙ both.0 ∙ ap (after_read q) read_so ∙ ap (λ r. after_read r x.held) p_is)
            (ap (λ y. marks_in c (believes y).spent reg k) chip ∙ both.1 ∙ h.spent),
        λ shown. names_read c field b i s new (op.BackCheck reg) e read is chip refl
            (subst (λ o. ChecksRegister o reg) (sym (ap (λ (y : Event). y.op) done.event_is)) refl) performs (ap (λ (y : Event). y.end) done.event_is)
            (λ equal. apart_by x.held x.believed shown (sym read_so ∙ equal ∙ h.believed)),
      )

  back_write_own : (x : Sides) (s new : Scene) (e : Event) (value : ℕ) → Seen x s → grant s.model (op.BackWrite (reg_of c field) value) ≡ Ok 0
      → Performs s new (op.BackWrite (reg_of c field) value) e
      → Seen (written_behind flaw (field_of c field).shape.policy (bit value b) x) new
  back_write_own x s new e value h granted performs =
      let m = s.model in
      let chip = h.holding.chip in
      let q = policy_in fs k in
      let done = done_of s new (op.BackWrite reg value) 0 e granted performs in
      let by = alone_by s new (op.BackWrite reg value) e 0 h.holding.device done h.holding.told refl in
      let held_so = found_bit x s new (op.BackWrite reg value) e h done refl in
      let made = back_written m reg value done.sampled in
      let made_so : bit made b ≡ after_write p x.held (bit value b) x.spent =
      ap (λ (y : ChipData). bit (raw_written (fields_of y reg) (marks_in y m.mirror.spent reg) (owned (fields_of y reg) done.sampled) value) b) chip
      ∙ made_there fs (marks_in c m.mirror.spent reg) k b done.sampled value is.low is.at
      ∙ ap (λ v. after_write q v (bit value b) (marks_in c m.mirror.spent reg k)) held_so ∙ ap (after_write q x.held (bit value b)) h.spent
      ∙ ap (λ r. after_write r x.held (bit value b) x.spent) p_is in
      let both = raw_bit c reg k b made m.mirror at_bit (built_of x s h) in
      let believes = λ (y : ChipData). predict_raw y reg made m.mirror in
      let sound_so : IsKept c (believes c) = record {
        built = raw_built c reg made m.mirror sound is.reg_in (built_of x s h);
        reach = raw_reach c reg made m.mirror is.reg_in (built_of x s h) (kept_of x s h).reach;
      } in
      deposit_own x (written_behind flaw p (bit value b) x) s new (op.BackWrite reg value) 0 made (believes m.chip) h
      (subst (λ y. IsKept c (believes y)) (sym chip) sound_so) by.told by.model (ap (held_deposited flaw) made_so)
      (ap (λ y. bit (mirrored_of (believes y) reg) b) chip ∙ both.0 ∙ made_so) (ap (λ y. marks_in c (believes y).spent reg k) chip ∙ both.1 ∙ h.spent)

  -- ---- other registers

  seen_after : (x : Sides) (s new : Scene) → Seen x s → Agreeing c l t (reg_of c field) b x.held (believed c s.model.mirror (reg_of c field)) new → Seen x new
  seen_after x s new h a = record {
    holding = a.holding;
    stuck = h.stuck;
    believed = ap (λ n. bit n b) (sym a.as_before.bits) ∙ h.believed;
    spent = sym (a.as_before.marks k is.inside) ∙ h.spent;
  }

  other_own : (x : Sides) (s new : Scene) (e : Event) (o : Op) (q : ℕ) → (reg_of c field ≡ q → ⊥) → Reaches o q → HasNumbers c (length l.maps) o → Seen x s
      → Performs s new o e → Seen x new
  other_own x s new e o q other reaches numbers h performs = by o reaches numbers performs
    where
      kept : Register
      kept = believed c s.model.mirror (reg_of c field)

      agrees : Agreeing c l t (reg_of c field) b x.held (believed c s.model.mirror (reg_of c field)) s
      agrees = record { holding = h.holding; as_before = record { bits = refl; marks = λ k inside. refl } }

      away : (n : ℕ) → n ≡ q → reg_of c field ≡ n → ⊥
      away n same own = other (own ∙ same)

      by : (o : Op) → Reaches o q → HasNumbers c (length l.maps) o → Performs s new o e → Seen x new
      by (op.Write n map value) reaches numbers performs =
          seen_after x s new h (write_agrees c l t (reg_of c field) b x.held kept n map value (setup x.held h.stuck) numbers (away n reaches) s new e agrees performs)
      by (op.Check n map) reaches numbers performs =
          seen_after x s new h (check_agrees c l t (reg_of c field) b x.held kept n map (setup x.held h.stuck) numbers (away n reaches) s new e agrees performs)
      by (op.BackWrite n value) reaches numbers performs =
          seen_after x s new h (back_write_agrees c l t (reg_of c field) b x.held kept n value numbers (away n reaches) s new e agrees performs)
      by (op.BackCheck n) reaches numbers performs =
          seen_after x s new h (back_check_agrees c l t (reg_of c field) b x.held kept n numbers (away n reaches) s new e agrees performs)
      by _ reaches numbers performs = absurd reaches

  pub firm_acts : ActsSo c l field b flaw (field_of c field).shape.policy (SeenFirm c l t (reg_of c field) (field - first_of c (reg_of c field)) b flaw)
  firm_acts = record {
    parts = λ x s h. record { model = h.holding.model; chip = h.holding.chip; layout = h.holding.layout };
    believes = λ x s h. h.believed;
    writes = write_own;
    checks = λ x s new e map place h numbers granted performs. check_own flaw refl x s new e map place h numbers granted performs;
    checks_behind = back_check_own;
    writes_behind = back_write_own;
    others = other_own;
  }

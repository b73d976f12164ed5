-- A device and a model that agree still do after an access.
use Rattle.std.proofs.Common.{◌≡◌, ℕ, ◌<◌, Bool, true, false, ◌&&◌, ◌||◌, List, length, Option, None, Some, Ok, Err, MatchResult, refl, sym, ap, ◌∙◌, subst, inl, inr}
use Rattle.std.specs.Prelude.{slice_index}
use Rattle.std.proofs.lemmas.Bool.{cases_eq}
use Rattle.std.proofs.lemmas.List.{get_or-set_same, get_or-set_other}
use Rattle.rl_policy.specs.Bits.{bit}
use Rattle.rl_policy.specs.Table.{spends_mark}
use Rattle.rl_policy.proofs.BitLemmas.{bit-from_bits}
use Rattle.rl_bus.specs.State.{State}
use Rattle.rl_model.specs.Rows.{FieldSeen, ChipData}
use Rattle.rl_model.specs.Chip.{IsSound}
use Rattle.rl_model.specs.Fields.{fields_of, policy_in, place_at}
use Rattle.rl_map.specs.Layout.{LayoutData}
use Rattle.rl_split.specs.Step.{Register, wstep, rstep, ranswer}
use Rattle.rl_split.specs.Law.{IsReady, Holds, marked_bit, marks_with}
use Rattle.rl_mirror.specs.Mirror.{MirrorData, IsMirrorOf, mirrored_of, marks_in}
use Rattle.rl_mirror.specs.Prediction.{predict_write, predict_read, learned_by_write, learned_by_read, spent_after}
use Rattle.rl_mirror.proofs.FieldLemmas.{seated}
use Rattle.rl_mirror.proofs.PlaceLemmas.{place_is}
use Rattle.rl_access.specs.declared.event.Event.{Event}
use Rattle.rl_access.specs.declared.event.Op.{Op}
use Rattle.rl_access.specs.declared.event.Op.TheVariants as op
use Rattle.rl_access.specs.Call.{Scene, IsDone, IsRefused}
use Rattle.rl_access.specs.Model.{IsModel}
use Rattle.rl_access.specs.Operation.{reg_of, register_of, HasNumbers}
use Rattle.rl_access.specs.Rules.{Grant, grant}
use Rattle.rl_plain.specs.OneStep.{Step, write_step, read_step, no_step, register_after, device_after, step_of, IsAccess}
use Rattle.rl_plain.specs.Agree.{believed, is_spendable, IsMarkedAlone, IsAsBelieved, Agree, KeepsAgreement}
use Rattle.rl_plain.proofs.Registers.{written_bits, left_bits, marks_after, other_marks}
use Rattle.rl_plain.proofs.Followed.{FollowsStep}
use Rattle.rl_plain.proofs.Accesses.{IsStepped}
use Rattle.rl_plain.proofs.EachAccess.{one_step}
use Rattle.rl_plain.specs.Sorts as sort

-- ---- two descriptions of a register

pub record IsSame (c : ChipData) (reg : ℕ) (r x : Register) : Type 0 where
  pub bits : r.bits ≡ x.bits
  pub marks : (k : ℕ) → k < length (fields_of c reg) → r.spent k ≡ x.spent k

pub holds_as : (c : ChipData) (d : State) (reg : ℕ) (r x : Register) → IsSame c reg r x → Holds c d reg r → Holds c d reg x
holds_as c d reg r x same h = record {
  bits = h.bits ∙ same.bits;
  marks = λ b k low at. h.marks b k low at ∙ same.marks k (place_is (fields_of c reg) b k at).0;
}

-- ---- the mirror after a prediction

pub spent-wstep : (fs : List FieldSeen) (chosen : ℕ → Bool) (word : ℕ) (r : Register) (k : ℕ) → (wstep fs chosen word r).spent k ≡ (r.spent k || (chosen k && spends_mark (policy_in fs k)))
unfolding wstep
spent-wstep fs chosen word r k = refl

pub spent-rstep : (fs : List FieldSeen) (chosen : ℕ → Bool) (r : Register) (k : ℕ) → (rstep fs chosen r).spent k ≡ r.spent k
unfolding rstep
spent-rstep fs chosen r k = refl

mirrored-write : (c : ChipData) (reg word fields : ℕ) (m : MirrorData) → reg < length m.mirrored →
    mirrored_of (predict_write c reg word fields m) reg ≡ learned_by_write (fields_of c reg) (bit fields) (marks_in c m.spent reg) (mirrored_of m reg) word (mirrored_of m reg)
unfolding predict_write
mirrored-write c reg word fields m l = get_or-set_same m.mirrored reg (learned_by_write (fields_of c reg) (bit fields) (marks_in c m.spent reg) (mirrored_of m reg) word (mirrored_of m reg)) 0 l

mirrored-write_other : (c : ChipData) (reg q word fields : ℕ) (m : MirrorData) → (q ≡ reg → ⊥) → mirrored_of (predict_write c reg word fields m) q ≡ mirrored_of m q
unfolding predict_write
mirrored-write_other c reg q word fields m other = get_or-set_other m.mirrored reg q (learned_by_write (fields_of c reg) (bit fields) (marks_in c m.spent reg) (mirrored_of m reg) word
    (mirrored_of m reg)) 0 other

spent-write : (c : ChipData) (reg word fields : ℕ) (m : MirrorData) → (predict_write c reg word fields m).spent ≡ spent_after c reg fields m.spent
unfolding predict_write
spent-write c reg word fields m = refl

mirrored-read : (c : ChipData) (reg read fields : ℕ) (m : MirrorData) → reg < length m.mirrored →
    mirrored_of (predict_read c reg read fields m) reg ≡ learned_by_read (fields_of c reg) (bit fields) read (mirrored_of m reg)
unfolding predict_read
mirrored-read c reg read fields m l = get_or-set_same m.mirrored reg (learned_by_read (fields_of c reg) (bit fields) read (mirrored_of m reg)) 0 l

mirrored-read_other : (c : ChipData) (reg q read fields : ℕ) (m : MirrorData) → (q ≡ reg → ⊥) → mirrored_of (predict_read c reg read fields m) q ≡ mirrored_of m q
unfolding predict_read
mirrored-read_other c reg q read fields m other = get_or-set_other m.mirrored reg q (learned_by_read (fields_of c reg) (bit fields) read (mirrored_of m reg)) 0 other

spent-read : (c : ChipData) (reg read fields : ℕ) (m : MirrorData) → (predict_read c reg read fields m).spent ≡ m.spent
unfolding predict_read
spent-read c reg read fields m = refl

-- ---- what is believed is what the device has

pub here_same : (c : ChipData) (reg : ℕ) (old new : MirrorData) (step : Step) → IsSound c → reg < length c.regs → IsMirrorOf c old → FollowsStep c reg old new (believed c old reg) step →
    IsSame c reg (register_after (fields_of c reg) step (believed c old reg)) (believed c new reg)
here_same c reg old new (write_step chosen word) sound l built f =
    let fs = fields_of c reg in
    let r = believed c old reg in
    let inside : reg < length old.mirrored = subst (λ n. reg < n) (sym built.registers) l in
    record {
      bits =
          written_bits fs chosen f.fields word r (built.mirrored reg l).owned f.are
          ∙ sym (mirrored-write c reg word f.fields old inside)
          ∙ ap (λ m. mirrored_of m reg) (sym f.is);
      marks = λ k place.
          spent-wstep fs chosen word r k
          ∙ marks_after c reg f.fields k old.spent chosen sound l built.marks place f.are
          ∙ ap (λ s. marks_in c s reg k) (sym (spent-write c reg word f.fields old))
          ∙ ap (λ (m : MirrorData). marks_in c m.spent reg k) (sym f.is);
    }
here_same c reg old new (read_step chosen) sound l built f =
    let fs = fields_of c reg in
    let r = believed c old reg in
    let inside : reg < length old.mirrored = subst (λ n. reg < n) (sym built.registers) l in
    record {
      bits =
          left_bits fs chosen f.fields r (built.mirrored reg l).owned f.are
          ∙ sym (mirrored-read c reg (ranswer fs chosen r) f.fields old inside)
          ∙ ap (λ m. mirrored_of m reg) (sym f.is);
      marks = λ k place.
          spent-rstep fs chosen r k
          ∙ ap (λ s. marks_in c s reg k) (sym (spent-read c reg (ranswer fs chosen r) f.fields old))
          ∙ ap (λ (m : MirrorData). marks_in c m.spent reg k) (sym f.is);
    }
here_same c reg old new no_step sound l built f = record {
  bits = ap (λ m. mirrored_of m reg) (sym f);
  marks = λ k place. ap (λ (m : MirrorData). marks_in c m.spent reg k) (sym f);
}

pub other_same : (c : ChipData) (reg q : ℕ) (old new : MirrorData) (r : Register) (step : Step) → IsSound c → q < length c.regs → (q ≡ reg → ⊥) → IsMirrorOf c old → FollowsStep c reg old new r step →
    IsSame c q (believed c old q) (believed c new q)
other_same c reg q old new r (write_step chosen word) sound l other built f = record {
  bits = sym (mirrored-write_other c reg q word f.fields old other) ∙ ap (λ m. mirrored_of m q) (sym f.is);
  marks = λ k place.
      other_marks c reg q f.fields k old.spent sound l other built.marks place
      ∙ ap (λ s. marks_in c s q k) (sym (spent-write c reg word f.fields old))
      ∙ ap (λ (m : MirrorData). marks_in c m.spent q k) (sym f.is);
}
other_same c reg q old new r (read_step chosen) sound l other built f = record {
  bits = sym (mirrored-read_other c reg q (ranswer (fields_of c reg) chosen r) f.fields old other) ∙ ap (λ m. mirrored_of m q) (sym f.is);
  marks = λ k place.
      ap (λ s. marks_in c s q k) (sym (spent-read c reg (ranswer (fields_of c reg) chosen r) f.fields old))
      ∙ ap (λ (m : MirrorData). marks_in c m.spent q k) (sym f.is);
}
other_same c reg q old new r no_step sound l other built f = record {
  bits = ap (λ m. mirrored_of m q) (sym f);
  marks = λ k place. ap (λ (m : MirrorData). marks_in c m.spent q k) (sym f);
}

-- ---- other registers of the device

pub other_bits : (c : ChipData) (d : State) (reg q : ℕ) (step : Step) (r : Register) (count : ℕ) → (q ≡ reg → ⊥) → slice_index (device_after c d reg step r count).bits q ≡ slice_index d.bits q
other_bits c d reg q (write_step chosen word) r count other = get_or-set_other d.bits reg q (wstep (fields_of c reg) chosen word r).bits 0 other
other_bits c d reg q (read_step chosen) r count other = get_or-set_other d.bits reg q (rstep (fields_of c reg) chosen r).bits 0 other
other_bits c d reg q no_step r count other = refl

other_marked : (c : ChipData) (d : State) (reg q : ℕ) (step : Step) (r : Register) (count : ℕ) → (q ≡ reg → ⊥) → slice_index (device_after c d reg step r count).marks q ≡ slice_index d.marks q
other_marked c d reg q (write_step chosen word) r count other =
    get_or-set_other d.marks reg q (marks_with (fields_of c reg) (wstep (fields_of c reg) chosen word r).spent (slice_index d.marks reg)) 0 other
other_marked c d reg q (read_step chosen) r count other = refl
other_marked c d reg q no_step r count other = refl

other_holds : (c : ChipData) (d : State) (reg q : ℕ) (step : Step) (r x : Register) (count : ℕ) → (q ≡ reg → ⊥) → Holds c d q x → Holds c (device_after c d reg step r count) q x
other_holds c d reg q step r x count other h = record {
  bits = other_bits c d reg q step r count other ∙ h.bits;
  marks = λ b k low at. ap (λ n. bit n b) (other_marked c d reg q step r count other) ∙ h.marks b k low at;
}

-- ---- marks that no write sets

bit-marks_with : (fs : List FieldSeen) (spent : ℕ → Bool) (marks b : ℕ) → b < 64 → bit (marks_with fs spent marks) b ≡ marked_bit spent (place_at fs b) (bit marks b)
unfolding marks_with
bit-marks_with fs spent marks b l = bit-from_bits 64 (λ b. marked_bit spent (place_at fs b) (bit marks b)) b l

none_spent : (x t u : Bool) → x ≡ false → u ≡ false → (x || (t && u)) ≡ false
none_spent true t u e f = absurd (cc)
none_spent false t true e f = absurd (cc)
none_spent false true false e f = refl
none_spent false false false e f = refl

still_alone : (c : ChipData) (d : State) (reg : ℕ) (chosen : ℕ → Bool) (word : ℕ) (r : Register) (b : ℕ) (o : Option ℕ) → b < 64 → Holds c d reg r → place_at (fields_of c reg) b ≡ o →
    is_spendable (fields_of c reg) o ≡ false →
    bit (slice_index d.marks reg) b ≡ false → marked_bit (wstep (fields_of c reg) chosen word r).spent o (bit (slice_index d.marks reg) b) ≡ false
still_alone c d reg chosen word r b None low h at e was = was
still_alone c d reg chosen word r b (Some k) low h at e was =
    spent-wstep (fields_of c reg) chosen word r k
    ∙ none_spent (r.spent k) (chosen k) (spends_mark (policy_in (fields_of c reg) k)) (sym (h.marks b k low at) ∙ was) e

pub here_alone : (c : ChipData) (l : LayoutData) (d : State) (reg : ℕ) (step : Step) (r : Register) (count : ℕ) → IsReady c l d → reg < length c.regs → Holds c d reg r → IsMarkedAlone c d reg →
    IsMarkedAlone c (device_after c d reg step r count) reg
here_alone c l d reg (write_step chosen word) r count ready inside h alone b low e =
    let fs = fields_of c reg in
    let within : reg < length d.marks = subst (λ n. reg < n) (sym ready.marks) inside in
    let marks = marks_with fs (wstep fs chosen word r).spent (slice_index d.marks reg) in
    ap (λ n. bit n b) (get_or-set_same d.marks reg marks 0 within)
    ∙ bit-marks_with fs (wstep fs chosen word r).spent (slice_index d.marks reg) b low
    ∙ still_alone c d reg chosen word r b (place_at fs b) low h refl e (alone b low e)
here_alone c l d reg (read_step chosen) r count ready inside h alone b low e = alone b low e
here_alone c l d reg no_step r count ready inside h alone b low e = alone b low e

-- ---- the device after an access

as_believed : (s new : Scene) (op : Op) (event : Event) (place reg : ℕ) (d : State) → IsModel s.model → IsAsBelieved s.model.chip s.model.layout s.model.mirror d → reg < length s.model.chip.regs →
    (st : IsStepped s new op event place reg d (believed s.model.chip s.model.mirror reg)) → IsAsBelieved s.model.chip s.model.layout new.model.mirror st.stepped.after
as_believed s new op event place reg d ok a inside st =
    let c = s.model.chip in
    let old = s.model.mirror in
    let r = believed c old reg in
    let step = step_of s.model op place in
    let after = st.stepped.after in
    let count = length event.trace in
    let moved : after ≡ device_after c d reg step r count = st.stepped.step in
    record {
      ready = st.stepped.ready;
      steady = a.steady;
      holds = λ q l.
          elim (cases_eq q reg) [
            | inl same ↦
                subst (λ n. Holds c after n (believed c new.model.mirror n)) (sym same)
                (holds_as c after reg (register_after (fields_of c reg) step r) (believed c new.model.mirror reg) (here_same c reg old new.model.mirror step ok.chip inside ok.mirror
                st.follows.mirror) st.stepped.holds)
            | inr other ↦
                subst (λ x. Holds c x q (believed c new.model.mirror q)) (sym moved)
                (other_holds c d reg q step r (believed c new.model.mirror q) count other
                (holds_as c d q (believed c old q) (believed c new.model.mirror q) (other_same c reg q old new.model.mirror r step ok.chip l other ok.mirror st.follows.mirror) (a.holds q l)))
          ];
      alone = λ q l.
          elim (cases_eq q reg) [
            | inl same ↦ subst (λ n. IsMarkedAlone c after n) (sym same) (subst (λ x. IsMarkedAlone c x reg) (sym moved) (here_alone c s.model.layout d reg step r count a.ready inside
                (a.holds reg inside) (a.alone reg inside)))
            | inr other ↦ λ b low e. ap (λ (x : State). bit (slice_index x.marks q) b) moved ∙ ap (λ n. bit n b) (other_marked c d reg q step r count other) ∙ a.alone q l b low e
          ];
    }

pub agree_after : (s new : Scene) (op : Op) (event : Event) (place reg : ℕ) → IsModel s.model → (a : Agree s) → reg < length s.model.chip.regs → IsStepped s new op event place reg a.device
    (believed s.model.chip s.model.mirror reg) → Agree new
agree_after s new op event place reg ok a inside st = record {
  device = st.stepped.after;
  told = st.stepped.told;
  believed_is =
      subst (λ c. IsAsBelieved c new.model.layout new.model.mirror st.stepped.after) (sym st.follows.chip)
      (subst (λ l. IsAsBelieved s.model.chip l new.model.mirror st.stepped.after) (sym st.follows.layout) (as_believed s new op event place reg a.device ok a.believed_is inside st));
  gathered = st.follows.gathered a.gathered;
}

-- ---- each access

pub record HasRegister (c : ChipData) (op : Op) : Type 0 where
  pub reg : ℕ
  pub register : register_of c op ≡ Some reg
  pub inside : reg < length c.regs

pub register_in : (c : ChipData) (maps : ℕ) (op : Op) → IsSound c → IsAccess op → HasNumbers c maps op → HasRegister c op
register_in c maps (op.Write reg map value) sound is numbers = record { reg = reg; register = refl; inside = numbers.0 }
register_in c maps (op.Read reg map) sound is numbers = record { reg = reg; register = refl; inside = numbers.0 }
register_in c maps (op.Mirror reg map) sound is numbers = record { reg = reg; register = refl; inside = numbers.0 }
register_in c maps (op.Check reg map) sound is numbers = record { reg = reg; register = refl; inside = numbers.0 }
register_in c maps (op.FieldWrite field map value) sound is numbers = record { reg = reg_of c field; register = refl; inside = (seated c field sound numbers.0).reg }
register_in c maps (op.FieldRead field map) sound is numbers = record { reg = reg_of c field; register = refl; inside = (seated c field sound numbers.0).reg }
register_in c maps (op.Update reg map) sound is numbers = record { reg = reg; register = refl; inside = numbers.0 }
register_in c maps (op.OtherWrite reg map value) sound is numbers = record { reg = reg; register = refl; inside = numbers.0 }
register_in c maps (op.OtherRead reg map) sound is numbers = record { reg = reg; register = refl; inside = numbers.0 }
register_in c maps _ sound is numbers = absurd is

-- a refused operation changes nothing
pub refused_agree : (s new : Scene) (op : Op) (event : Event) (g : Grant) → Agree s → MatchResult g (λ place. IsDone s new op place event) (λ why. IsRefused s new op why event) → ((place : ℕ) →
    g ≡ Ok place → IsDone s new op place event → Agree new) → Agree new
refused_agree s new op event (Ok place) a is granted = granted place refl is
refused_agree s new op event (Err why) a is granted = subst Agree (sym is.unchanged) a

pub access_keeps_agreement : KeepsAgreement sort.access
access_keeps_agreement s new op event is numbers ok a performs =
    let c = s.model.chip in
    let n = register_in c (length s.model.layout.maps) op ok.chip is numbers in
    refused_agree s new op event (grant s.model op) a performs
    (λ place granted done.
    agree_after s new op event place n.reg ok a n.inside
    (one_step s new op event place n.reg a.device (believed c s.model.mirror n.reg) is numbers n.register
    (record { model = ok; told = a.told; ready = a.believed_is.ready; holds = a.believed_is.holds n.reg n.inside }) granted done))

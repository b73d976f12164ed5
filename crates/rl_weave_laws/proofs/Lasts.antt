-- The last word of an access: what is then believed is the machine after one step, and the event is the machine's.
use Rattle.std.proofs.Common.{◌≡◌, ℕ, ◌^◌, ◌<◌, get_or, ◌∷◌, ◌++◌, ◌&&◌, ◌||◌, [], false, List, length, map, Option, None, Some, is_some, Ok, refl, sym, ap, ◌∙◌, subst}
use Rattle.std.specs.Prelude.{unwrap_or}
use Rattle.std.proofs.lemmas.Simd.{map-map}
use Rattle.rl_bus.specs.declared.op.Answer.{Answer}
use Rattle.rl_bus.specs.State.{State}
use Rattle.rl_model.specs.Rows.{ChipData, FieldSeen}
use Rattle.rl_model.specs.Chip.{IsSound}
use Rattle.rl_model.specs.Fields.{fields_of, policy_in, place_at as place_at_bit}
use Rattle.rl_model.specs.declared.rows.Item.{Item}
use Rattle.rl_model.specs.declared.rows.Item.TheVariants as item
use Rattle.rl_map.specs.Layout.{LayoutData, place_at, place_of}
use Rattle.rl_policy.specs.Bits.{bit, from_bits}
use Rattle.rl_policy.specs.Table.{after_write, spends_mark}
use Rattle.rl_policy.proofs.BitLemmas.{from_bits-same}
use Rattle.rl_mirror.proofs.PlaceLemmas.{place_is}
use Rattle.rl_mirror.specs.Mirror.{MirrorData, IsMirrorOf}
use Rattle.rl_mirror.specs.Prediction.{predict_write, predict_read}
use Rattle.rl_split.specs.Access.{all_bytes, joined}
use Rattle.rl_split.specs.Law.{IsPlaceOf, IsReady, Holds}
use Rattle.rl_split.specs.Runs.{answers_of}
use Rattle.rl_split.specs.Step.{Register, every, ranswer, wstep, rstep, written_bit, left_bit, shown_bit}
use Rattle.rl_split.specs.UnderWay.{whole_ops}
use Rattle.rl_split.proofs.Accesses.{whole_read_is_step}
use Rattle.rl_split.proofs.Sending.{IsHere}
use Rattle.rl_access.specs.declared.event.End.{End}
use Rattle.rl_access.specs.declared.event.End.TheVariants as end
use Rattle.rl_access.specs.declared.event.Event.{Event}
use Rattle.rl_access.specs.declared.event.Op.{Op}
use Rattle.rl_access.specs.declared.event.Op.TheVariants as op
use Rattle.rl_access.specs.declared.trace.TraceItem.{TraceItem}
use Rattle.rl_access.specs.Items.{words_answered}
use Rattle.rl_access.specs.Model.{ModelData, IsModel}
use Rattle.rl_access.specs.Observed.{implied, predicted, reg_in}
use Rattle.rl_access.specs.Rules.{every_field, grant, map_of_place, named, register_event, quiet, value_of, whole}
use Rattle.rl_access.proofs.WholeGathered.{op_in, told_of, list_of, implied_is}
use Rattle.rl_plain.specs.Calls.{without_items}
use Rattle.rl_plain.specs.Machine.{Machine, mirror_of, register_at, seen, stepped, machine_after, answer_in, done_by, machine_step}
use Rattle.rl_plain.specs.OneStep.{register_after}
use Rattle.rl_plain.proofs.Agreement.{IsSame, spent-wstep, spent-rstep}
use Rattle.rl_plain.proofs.Followed.{FollowsStep, all_chosen}
use Rattle.rl_plain.proofs.PlainSteps.{plain_state}
use Rattle.rl_weave.specs.Access.{op_with}
use Rattle.rl_weave.specs.Step.{good_end}
use Rattle.rl_weave.proofs.Granted.{IsGranted, granted_size}
use Rattle.rl_weave_laws.specs.Half.{step_of, answered, IsAlike, gathered_of}
use Rattle.rl_weave_laws.proofs.Words.{gathered_whole}

-- ---- the value of a read

abbrev answer_in_item : TraceItem → Answer
answer_in_item i = i.answer

-- the answers bring what the register answers
pub value_brought : (c : ChipData) (l : LayoutData) (begun : State) (p : Machine) (place reg : ℕ) (items : List TraceItem) →
    IsPlaceOf c l place reg false → IsReady c l begun → Holds c begun reg (register_at c p reg) →
    map op_in items ≡ whole_ops l place 0 false → map answer_in_item items ≡ answers_of begun (place_at l place).port (map op_in items) →
    joined l place 0 (all_bytes (place_at l place).bytes) (words_answered items) ≡ ranswer (fields_of c reg) every (register_at c p reg)
value_brought c l begun p place reg items at ready holds ops answers =
    let chosen = all_bytes (place_at l place).bytes in
    let words : words_answered items ≡ map (λ (a : Answer). a.word) (answers_of begun (place_at l place).port (whole_ops l place 0 false)) =
    sym (map-map (λ (a : Answer). a.word) answer_in_item items)
    ∙ ap (map (λ (a : Answer). a.word)) (answers ∙ ap (answers_of begun (place_at l place).port) ops)
    in
    ap (joined l place 0 chosen) words ∙ (whole_read_is_step c l begun place reg (register_at c p reg) at ready holds).value_is

-- ---- the prediction

reg_of_item : (i : Item) (reg : ℕ) → i ≡ item.Reg reg → reg_in i ≡ reg
reg_of_item i reg e = ap reg_in e

-- the predictor takes the words for what they imply
pub predicted_is : (c : ChipData) (l : LayoutData) (place : ℕ) (value : Option ℕ) (items : List TraceItem) (last : TraceItem) (m : MirrorData) →
    IsHere l place 0 → unwrap_or value 0 < 256 ^ (place_at l place).bytes → map op_in (items ++ last ∷ []) ≡ whole_ops l place (unwrap_or value 0) (is_some value) →
    predicted c l place (gathered_of (is_some value) (items ++ last ∷ [])) m ≡ implied c l place value (items ++ last ∷ []) m
unfolding told_of list_of
predicted_is c l place value items last m here fits ops =
    ap (λ g. predicted c l place g m) (gathered_whole (is_some value) items last) ∙ implied_is c l place value (items ++ last ∷ []) m here fits ops

pub follows : (c : ChipData) (l : LayoutData) (begun : State) (p : Machine) (place reg : ℕ) (value : Option ℕ) (items : List TraceItem) (last : TraceItem) (m : MirrorData) →
    IsSound c → reg < length c.regs → IsHere l place 0 → unwrap_or value 0 < 256 ^ (place_at l place).bytes →
    IsPlaceOf c l place reg (is_some value) → IsReady c l begun → Holds c begun reg (register_at c p reg) → m ≡ mirror_of p →
    map op_in (items ++ last ∷ []) ≡ whole_ops l place (unwrap_or value 0) (is_some value) → map answer_in_item (items ++ last ∷ []) ≡ answers_of begun (place_at l place).port
    (map op_in (items ++ last ∷ [])) →
    FollowsStep c reg (mirror_of p) (predicted c l place (gathered_of (is_some value) (items ++ last ∷ [])) m) (register_at c p reg) (step_of value)
follows c l begun p place reg None items last m sound inside here fits at ready holds mirror ops answers =
    let all = items ++ last ∷ [] in
    record {
      fields = every_field;
      are = all_chosen c reg sound inside;
      is =
          predicted_is c l place None items last m here fits ops
          ∙ ap (λ r. predict_read c r (joined l place 0 (all_bytes (place_at l place).bytes) (words_answered all)) every_field m) (reg_of_item (place_at l place).item reg at.item)
          ∙ ap (λ v. predict_read c reg v every_field m) (value_brought c l begun p place reg all at ready holds ops answers)
          ∙ ap (predict_read c reg (ranswer (fields_of c reg) every (register_at c p reg)) every_field) mirror;
    }
follows c l begun p place reg (Some value) items last m sound inside here fits at ready holds mirror ops answers =
    record {
      fields = every_field;
      are = all_chosen c reg sound inside;
      is =
          predicted_is c l place (Some value) items last m here fits ops
          ∙ ap (λ r. predict_write c r value every_field m) (reg_of_item (place_at l place).item reg at.item)
          ∙ ap (predict_write c reg value every_field) mirror;
    }

-- ---- the machine

pub seen_grant : (m : ModelData) (p : Machine) (reg : ℕ) (map value : Option ℕ) (place : ℕ) → grant m (op_with reg map value) ≡ Ok place →
    grant (seen m.chip m.layout p) (op_with reg map value) ≡ Ok place
seen_grant m p reg map None place e = e
seen_grant m p reg map (Some value) place e = e

after_is : (c : ChipData) (l : LayoutData) (p : Machine) (reg : ℕ) (map value : Option ℕ) (place : ℕ) →
    machine_after c l (op_with reg map value) place p ≡ stepped c reg (step_of value) p
after_is c l p reg map None place = refl
after_is c l p reg map (Some value) place = refl

pub machine_is : (m : ModelData) (p : Machine) (reg : ℕ) (map value : Option ℕ) (place : ℕ) → grant m (op_with reg map value) ≡ Ok place →
    (machine_step m.chip m.layout p (op_with reg map value)).machine ≡ stepped m.chip reg (step_of value) p
unfolding machine_step
machine_is m p reg map value place granted =
    ap (λ g. (done_by m.chip m.layout (op_with reg map value) p g).machine) (seen_grant m p reg map value place granted) ∙ after_is m.chip m.layout p reg map value place

-- what is then believed is the machine's
pub believed_is : (m : ModelData) (p : Machine) (reg : ℕ) (value : Option ℕ) (new : MirrorData) → IsSound m.chip → reg < length m.chip.regs →
    IsMirrorOf m.chip m.mirror → m.mirror ≡ mirror_of p → FollowsStep m.chip reg (mirror_of p) new (register_at m.chip p reg) (step_of value) →
    new ≡ mirror_of (stepped m.chip reg (step_of value) p)
believed_is m p reg value new sound inside built same follow = plain_state m.chip reg p new (step_of value) sound inside (subst (IsMirrorOf m.chip) same built) follow

-- ---- the event

abbrev bare : Op → (reg : ℕ) → End → MirrorData → Event
bare o reg e m = record { op = o; end = e; trace = []; mirrored = get_or m.mirrored reg 0; desired = get_or m.desired reg 0; differ = 0 }

-- the event of an access none of whose words failed
pub event_is : (m new : ModelData) (p : Machine) (reg : ℕ) (map value : Option ℕ) (place : ℕ) (items : List TraceItem) (e : End) → new.chip ≡ m.chip →
    new.layout ≡ m.layout → grant m (op_with reg map value) ≡ Ok place →
    new.mirror ≡ mirror_of (stepped m.chip reg (step_of value) p) → e ≡ good_end new reg place value items →
    (value ≡ None → value_of new (whole new reg place 0) items ≡ ranswer (fields_of m.chip reg) every (register_at m.chip p reg)) →
    without_items (register_event (named new (op_with reg map value)) reg items (quiet e new)) ≡ (machine_step m.chip m.layout p (op_with reg map value)).event
unfolding machine_step
event_is m new p reg map None place items e chip layout granted mirror ends brought =
    ap (λ l. bare (op.OtherRead reg (map_of_place l (place_of l (item.Reg reg) map) map)) reg e new.mirror) layout
    ∙ ap (λ x. bare (named m (op.OtherRead reg map)) reg x new.mirror) (ends ∙ ap end.Value (brought refl))
    ∙ ap (bare (named m (op.OtherRead reg map)) reg (answer_in m.chip reg p)) mirror
    ∙ sym (ap (λ g. (done_by m.chip m.layout (op.OtherRead reg map) p g).event) (seen_grant m p reg map None place granted))
event_is m new p reg map (Some value) place items e chip layout granted mirror ends brought =
    ap (λ l. bare (op.OtherWrite reg (map_of_place l (place_of l (item.Reg reg) map) map) value) reg e new.mirror) layout
    ∙ ap (λ x. bare (named m (op.OtherWrite reg map value)) reg x new.mirror) ends
    ∙ ap (bare (named m (op.OtherWrite reg map value)) reg end.Done) mirror
    ∙ sym (ap (λ g. (done_by m.chip m.layout (op.OtherWrite reg map value) p g).event) (seen_grant m p reg map (Some value) place granted))

-- the value that a read is told to have brought
pub value_is : (m : ModelData) (reg place : ℕ) (map value : Option ℕ) (items : List TraceItem) → IsModel m → IsGranted m reg map value place →
    value_of m (whole m reg place 0) items ≡ joined m.layout place 0 (all_bytes (place_at m.layout place).bytes) (words_answered items)
value_is m reg place map value items ok at = ap (λ n. joined m.layout place 0 (all_bytes n) (words_answered items)) (sym (granted_size m reg map value place ok at))

pub good_is : (new : ModelData) (c : ChipData) (reg place : ℕ) (value : Option ℕ) (items : List TraceItem) (r : Register) →
    (value ≡ None → value_of new (whole new reg place 0) items ≡ ranswer (fields_of c reg) every r) →
    good_end new reg place value items ≡ answered c reg value r
good_is new c reg place None items r brought = ap end.Value (brought refl)
good_is new c reg place (Some value) items r brought = refl

-- ---- registers that are alike

pub alike : (c : ChipData) (reg : ℕ) (r x : Register) → IsSame c reg r x → IsAlike c reg r x
alike c reg r x same = record { bits = same.bits; marks = same.marks }

pub alike_as_is : (c : ChipData) (reg : ℕ) (r : Register) → IsAlike c reg r r
alike_as_is c reg r = record { bits = refl; marks = λ k inside. refl }

pub alike_through : (c : ChipData) (reg : ℕ) (r x y : Register) → IsAlike c reg r x → IsAlike c reg x y → IsAlike c reg r y
alike_through c reg r x y first then_so = record { bits = first.bits ∙ then_so.bits; marks = λ k inside. first.marks k inside ∙ then_so.marks k inside }

written_alike : (fs : List FieldSeen) (word : ℕ) (r x : Register) → r.bits ≡ x.bits → ((k : ℕ) → k < length fs → r.spent k ≡ x.spent k) →
    (wstep fs every word r).bits ≡ (wstep fs every word x).bits
unfolding wstep
written_alike fs word r x bits marks =
    from_bits-same 64 (λ b. written_bit fs every r.spent (place_at_bit fs b) (bit r.bits b) (bit word b)) (λ b. written_bit fs every x.spent (place_at_bit fs b) (bit x.bits b) (bit word b))
    (λ b low. by b (place_at_bit fs b) refl)
  where
    by : (b : ℕ) (o : Option ℕ) → place_at_bit fs b ≡ o →
        written_bit fs every r.spent o (bit r.bits b) (bit word b) ≡ written_bit fs every x.spent o (bit x.bits b) (bit word b)
    by b None at = ap (λ n. bit n b) bits
    by b (Some k) at =
        ap (λ n. after_write (policy_in fs k) (bit n b) (bit word b) (r.spent k)) bits
        ∙ ap (after_write (policy_in fs k) (bit x.bits b) (bit word b)) (marks k (place_is fs b k at).0)

left_alike : (fs : List FieldSeen) (r x : Register) → r.bits ≡ x.bits → (rstep fs every r).bits ≡ (rstep fs every x).bits
unfolding rstep
left_alike fs r x bits = ap (λ n. from_bits 64 (λ b. left_bit fs every (place_at_bit fs b) (bit n b))) bits

answer_alike : (fs : List FieldSeen) (r x : Register) → r.bits ≡ x.bits → ranswer fs every r ≡ ranswer fs every x
unfolding ranswer
answer_alike fs r x bits = ap (λ n. from_bits 64 (λ b. shown_bit fs every (place_at_bit fs b) (bit n b))) bits

-- a step of registers that are alike leaves them so, and they answer alike
pub steps_alike : (c : ChipData) (reg : ℕ) (value : Option ℕ) (r x : Register) → IsAlike c reg r x →
    IsAlike c reg (register_after (fields_of c reg) (step_of value) r) (register_after (fields_of c reg) (step_of value) x)
steps_alike c reg None r x same = record {
  bits = left_alike (fields_of c reg) r x same.bits;
  marks = λ k inside. spent-rstep (fields_of c reg) every r k ∙ same.marks k inside ∙ sym (spent-rstep (fields_of c reg) every x k);
}
steps_alike c reg (Some word) r x same = record {
  bits = written_alike (fields_of c reg) word r x same.bits same.marks;
  marks = λ k inside.
      spent-wstep (fields_of c reg) every word r k
      ∙ ap (λ t. t || (every k && spends_mark (policy_in (fields_of c reg) k))) (same.marks k inside)
      ∙ sym (spent-wstep (fields_of c reg) every word x k);
}

pub answers_alike : (c : ChipData) (reg : ℕ) (value : Option ℕ) (r x : Register) → IsAlike c reg r x → answered c reg value r ≡ answered c reg value x
answers_alike c reg None r x same = ap end.Value (answer_alike (fields_of c reg) r x same.bits)
answers_alike c reg (Some word) r x same = refl

-- Which policies show a stuck bit, which a deaf register, and that a new device with a stuck bit holds it.
use Rattle.std.proofs.Common.{◌≡◌, ◌≢◌, ℕ, ◌<◌, Bool, true, false, not, ◌&&◌, List, [], ◌∷◌, length, replicate, All, Some}
use Rattle.std.proofs.Common.{refl, sym, ap, ◌∙◌, subst, arith}
use Rattle.std.specs.Prelude.{slice_index}
use Rattle.std.proofs.lemmas.List.{length-map, length-replicate}
use Rattle.std.proofs.lemmas.Bool.{and_parts}
use Rattle.std.proofs.lemmas.List.Elements.{All-nil, All-cons}
use Rattle.std.proofs.lemmas.List.FromFn.{get_or-map-range_with_len, length-map-range_with_len}
use Rattle.rl_policy.proofs.BitLemmas.{bit-from_bits}
use Rattle.rl_policy.specs.Bits.{bit}
use Rattle.rl_policy.specs.Table.{either_alone, after_write, after_read}
use Rattle.rl_policy.specs.declared.policy.Policy.{Policy}
use Rattle.rl_policy.specs.declared.policy.Policy.TheVariants.{W1}
use Rattle.rl_bus.specs.declared.table.StuckRow.{StuckRow}
use Rattle.rl_bus.specs.Setup.{Setup, stuck_at, or_else, held}
use Rattle.rl_bus.specs.State.{State, reg_reset, reset_by, first_state}
use Rattle.rl_model.specs.Rows.{ChipData}
use Rattle.rl_map.specs.Layout.{LayoutData}
use Rattle.rl_map.specs.Tables.{setup_of}
use Rattle.rl_mirror.proofs.FieldLemmas.{seated}
use Rattle.rl_access.specs.Operation.{reg_of}
use Rattle.rl_detect_laws.specs.Devices.{IsSetUp}
use Rattle.rl_detect_laws.specs.Deaf.{IsTurned, turned_from_0, turned_from_1, PoliciesTurn}
use Rattle.rl_detect_laws.specs.Stuck.{stuck_bit, bit_of, turned_at_0, turned_at_1, beside_at_0, beside_at_1, PoliciesShowTurned, PoliciesShowBeside, NewOneHasStuckBit}
use Rattle.rl_detect_laws.proofs.BitBash.{stuck_there}

-- ---- the policies

-- with either mark, a step leaves something else than this
abbrev leaves_other : (Bool → Bool) → Bool → Bool
leaves_other step v = either_alone (step false) v && either_alone (step true) v

apart : (x v : Bool) → either_alone x v ≡ true → x ≢ v
apart true true so same = let both : false ≡ true = so in absurd (cc)
apart false false so same = let both : false ≡ true = so in absurd (cc)
apart true false so same = cc
apart false true so same = cc

other_left : (step : Bool → Bool) (v : Bool) → leaves_other step v ≡ true → (spent : Bool) → step spent ≢ v
other_left step v so false = apart (step false) v (and_parts (either_alone (step false) v) (either_alone (step true) v) so).0
other_left step v so true = apart (step true) v (and_parts (either_alone (step false) v) (either_alone (step true) v) so).1

abbrev pub all_of : (Policy → Bool) → List Policy → Bool
all_of test [] = true
all_of test (p ∷ ps) = test p && all_of test ps

all_leave_other : (step : Policy → Bool → Bool) (v : Bool) (ps : List Policy) → all_of (λ p. leaves_other (step p) v) ps ≡ true
    → All (λ p. (spent : Bool) → step p spent ≢ v) ps
all_leave_other step v [] so = All-nil (λ (p : Policy). (spent : Bool) → step p spent ≢ v)
all_leave_other step v (p ∷ ps) so =
    let both = and_parts (leaves_other (step p) v) (all_of (λ p. leaves_other (step p) v) ps) so in
    All-cons (λ (p : Policy). (spent : Bool) → step p spent ≢ v) p ps (other_left (step p) v both.0) (all_leave_other step v ps both.1)

-- the other value is written, or the same, once a read left the bit
abbrev write_turned : Bool → Policy → Bool → Bool
write_turned v p spent = after_write p (after_read p v) (not (after_read p v)) spent

abbrev write_same : Bool → Policy → Bool → Bool
write_same v p spent = after_write p (after_read p v) (after_read p v) spent

pub policies_show_turned : PoliciesShowTurned
policies_show_turned = (all_leave_other (write_turned false) false turned_at_0 refl, all_leave_other (write_turned true) true turned_at_1 refl)

pub policies_show_beside : PoliciesShowBeside
policies_show_beside = (all_leave_other (write_same false) false beside_at_0 refl, all_leave_other (write_same true) true beside_at_1 refl)

-- those of a deaf register
turned_first : (value : Bool) → IsTurned W1 value false
turned_first true same = cc
turned_first false same = cc

pub policies_turn : PoliciesTurn
policies_turn =
    (all_leave_other (λ p. after_write p false true) false turned_from_0 refl, all_leave_other (λ p. after_write p true false) true turned_from_1 refl, turned_first)

-- ---- a new device

regs_of : (c : ChipData) (l : LayoutData) (s : StuckRow) → length (setup_of c l (stuck_bit s)).regs ≡ length c.regs
unfolding setup_of
regs_of c l s = length-map c.regs (λ r. r.bytes)

held_stuck : (t : Setup) (r k : ℕ) (v : Bool) (f : ℕ → Bool) → k < 64 → stuck_at t r k ≡ Some v → bit (held t r f) k ≡ v
unfolding held
held_stuck t r k v f low stuck = bit-from_bits 64 (λ b. or_else (stuck_at t r b) (f b)) k low ∙ ap (λ o. or_else o (f k)) stuck

record IsNewDevice (c : ChipData) (t : Setup) (reg b : ℕ) (v : Bool) (d : State) : Type 0 where
  set_up : IsSetUp c t d
  here : bit (slice_index d.bits reg) b ≡ v

fresh_ones : (c : ChipData) (t : Setup) (count reg b : ℕ) (v : Bool) → length t.regs ≡ length c.regs → reg < length c.regs → b < 64 → stuck_at t reg b ≡ Some v
    → IsNewDevice c t reg b v (first_state t count)
unfolding first_state reset_by
fresh_ones c t count reg b v many inside low stuck =
    let zeros = replicate (length t.regs) 0 in
    let blank : State = record { setup = t; bits = zeros; marks = zeros; locations = replicate count 0; beats = λ p a. 0; items = 0 } in
    let long : length zeros ≡ length c.regs = length-replicate (length t.regs) 0 ∙ many in
    record {
      set_up = record {
        setup = refl;
        beats = λ p a. refl;
        bits = length-map-range_with_len (reg_reset blank 0) 0 (length zeros) ∙ long;
        marks = length-replicate (length zeros) 0 ∙ long;
      };
      here = ap (λ x. bit x b) (get_or-map-range_with_len (reg_reset blank 0) 0 (length zeros) reg reg 0 (subst (λ m. reg < m) (sym long) inside) (omega arith))
          ∙ held_stuck t reg b v _ low stuck;
    }

pub new_one_has_stuck_bit : NewOneHasStuckBit
new_one_has_stuck_bit c l s count sound inside within =
    let t = setup_of c l (stuck_bit s) in
    let reg = reg_of c s.field in
    let b = bit_of c s in
    let seat = seated c s.field sound inside in
    let new = fresh_ones c t count reg b s.value (regs_of c l s) seat.reg (omega (arith, seat.inside, seat.bytes, within)) (stuck_there c l s inside) in
    record { set_up = new.set_up; holds = new.here }

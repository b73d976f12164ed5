-- Other masters' accesses to different registers, in any order.
use Rattle.std.proofs.Common.{◌≡◌, ℕ, ◌+◌, ◌-◌, ◌<◌, ◌≤◌, Bool, true, false, ◌&&◌, ◌||◌, cond, eqb, eq-eqb, ne_eqb, List, [], length}
use Rattle.std.proofs.Common.{get_or, map, Option, None, Some, Ok, Err, refl, sym, ap, ◌∙◌, subst, inl, inr, arith}
use Rattle.std.specs.Prelude.{slice_set}
use Rattle.std.proofs.lemmas.Bool.{cases_eq}
use Rattle.std.proofs.lemmas.List.{get_or_default, get_or-set_same, get_or-set_other, length-set, set_comm, same_lists}
use Rattle.std.proofs.lemmas.List.FromFn.{get_or-map-range_with_len, length-map-range_with_len}
use Rattle.rl_policy.specs.Bits.{bit, from_bits}
use Rattle.rl_policy.specs.Table.{after_write, spends_mark}
use Rattle.rl_policy.proofs.BitLemmas.{from_bits-same}
use Rattle.rl_model.specs.Chip.{IsSound}
use Rattle.rl_model.specs.Fields.{field_of, first_of, count_of, fields_of, policy_in, place_at}
use Rattle.rl_model.specs.Rows.{FieldSeen, ChipData}
use Rattle.rl_map.specs.Layout.{LayoutData}
use Rattle.rl_split.specs.Step.{Register, every, wstep, rstep, ranswer, written_bit, left_bit, shown_bit}
use Rattle.rl_mirror.specs.Mirror.{IsMirrorOf, marks_in}
use Rattle.rl_mirror.proofs.FieldLemmas.{seated, length-fields_of, number_within, owner_is}
use Rattle.rl_mirror.proofs.PlaceLemmas.{place_is}
use Rattle.rl_access.specs.declared.event.End.{End}
use Rattle.rl_access.specs.declared.event.End.TheVariants as end
use Rattle.rl_access.specs.declared.event.Event.{Event}
use Rattle.rl_access.specs.declared.event.Op.{Op}
use Rattle.rl_access.specs.declared.event.Op.TheVariants as op
use Rattle.rl_access.specs.Operation.{register_of}
use Rattle.rl_access.specs.Rules.{Grant, grant, named}
use Rattle.rl_plain.specs.Machine.{Machine, desired_after, done_by, machine_after, machine_differ, machine_end, machine_step, mark_after, mirror_of, register_at, seen, taking, told, value_at}
use Rattle.rl_plain.specs.Masters.{IsOther, OtherStepsCommute}
use Rattle.rl_plain.specs.OneStep.{Step, write_step, read_step, no_step, register_after}
use Rattle.rl_plain.proofs.Agreement.{spent-wstep, spent-rstep}

-- ---- what two machines have in common

-- the same register, with the same desired value
record Shares (c : ChipData) (p q : Machine) (reg : ℕ) : Type 0 where
  bits : get_or q.bits reg 0 ≡ get_or p.bits reg 0
  desired : get_or q.desired reg 0 ≡ get_or p.desired reg 0
  marks : (k : ℕ) → k < length (fields_of c reg) → marks_in c q.spent reg k ≡ marks_in c p.spent reg k

itself : (c : ChipData) (p : Machine) (reg : ℕ) → Shares c p p reg
itself c p reg = record { bits = refl; desired = refl; marks = λ k low. refl }

-- a step looks at no more of a register
pub written_by : (fs : List FieldSeen) (chosen : ℕ → Bool) (word : ℕ) (r x : Register) → r.bits ≡ x.bits
    → ((k : ℕ) (old new : Bool) → k < length fs → after_write (policy_in fs k) old new (r.spent k) ≡ after_write (policy_in fs k) old new (x.spent k))
    → (wstep fs chosen word r).bits ≡ (wstep fs chosen word x).bits
unfolding wstep
written_by fs chosen word r x bits same =
    from_bits-same 64 (λ b. written_bit fs chosen r.spent (place_at fs b) (bit r.bits b) (bit word b)) (λ b. written_bit fs chosen x.spent (place_at fs b) (bit x.bits b) (bit word b))
    (λ b low. ap (λ n. written_bit fs chosen r.spent (place_at fs b) (bit n b) (bit word b)) bits ∙ by b (place_at fs b) refl)
  where
    by : (b : ℕ) (o : Option ℕ) → place_at fs b ≡ o → written_bit fs chosen r.spent o (bit x.bits b) (bit word b) ≡ written_bit fs chosen x.spent o (bit x.bits b) (bit word b)
    by b None at = refl
    by b (Some k) at = ap (λ v. cond (chosen k) v (bit x.bits b)) (same k (bit x.bits b) (bit word b) (place_is fs b k at).0)

pub left_alike : (fs : List FieldSeen) (chosen : ℕ → Bool) (r x : Register) → r.bits ≡ x.bits → (rstep fs chosen r).bits ≡ (rstep fs chosen x).bits
unfolding rstep
left_alike fs chosen r x bits = ap (λ n. from_bits 64 (λ b. left_bit fs chosen (place_at fs b) (bit n b))) bits

pub answers_alike : (fs : List FieldSeen) (chosen : ℕ → Bool) (r x : Register) → r.bits ≡ x.bits → ranswer fs chosen r ≡ ranswer fs chosen x
unfolding ranswer
answers_alike fs chosen r x bits = ap (λ n. from_bits 64 (λ b. shown_bit fs chosen (place_at fs b) (bit n b))) bits

bits_alike : (fs : List FieldSeen) (step : Step) (r x : Register) → r.bits ≡ x.bits → ((k : ℕ) → k < length fs → r.spent k ≡ x.spent k) → (register_after fs step r).bits ≡ (register_after fs step
    x).bits
bits_alike fs (write_step chosen word) r x bits marks =
    written_by fs chosen word r x bits (λ k old new low. ap (after_write (policy_in fs k) old new) (marks k low))
bits_alike fs (read_step chosen) r x bits marks = left_alike fs chosen r x bits
bits_alike fs no_step r x bits marks = bits

marks_alike : (fs : List FieldSeen) (step : Step) (r x : Register) (k : ℕ) → r.spent k ≡ x.spent k → (register_after fs step r).spent k ≡ (register_after fs step x).spent k
marks_alike fs (write_step chosen word) r x k same =
    spent-wstep fs chosen word r k ∙ ap (λ s. s || (chosen k && spends_mark (policy_in fs k))) same ∙ sym (spent-wstep fs chosen word x k)
marks_alike fs (read_step chosen) r x k same = spent-rstep fs chosen r k ∙ same ∙ sym (spent-rstep fs chosen x k)
marks_alike fs no_step r x k same = same

-- ---- a step of another register

mark_there : (c : ChipData) (p : Machine) (reg : ℕ) (step : Step) (n : ℕ) → n < length p.spent → get_or (taking c reg step p).spent n false ≡ mark_after c reg (register_after (fields_of c reg) step
    (register_at c p reg)) p n
mark_there c p reg step n inside =
    get_or-map-range_with_len (mark_after c reg (register_after (fields_of c reg) step (register_at c p reg)) p) 0 (length p.spent) n n false inside (omega arith)

-- it leaves every other register
takes_elsewhere : (c : ChipData) (p : Machine) (i j : ℕ) (step : Step) → IsSound c → IsMirrorOf c (mirror_of p) → j < length c.regs → (j ≡ i → ⊥) → Shares c p (taking c i step p) j
takes_elsewhere c p i j step sound built inside other =
    let r = register_after (fields_of c i) step (register_at c p i) in
    record {
      bits = get_or-set_other p.bits i j r.bits 0 other;
      desired = get_or-set_other p.desired i j (desired_after (fields_of c i) step r.bits (get_or p.desired i 0)) 0 other;
      marks = λ k low.
          let n = first_of c j + k in
          let within : n < length c.fields = number_within c j k sound inside low in
          let there : n < length p.spent = omega (arith, within, built.marks) in
          let many : length (fields_of c j) ≡ count_of c j = length-fields_of c j sound inside in
          let own : (field_of c n).shape.reg ≡ j = owner_is c j n sound inside (omega arith) (omega (arith, many, low)) in
          let off : eqb (field_of c n).shape.reg i ≡ false = ap (λ m. eqb m i) own ∙ ne_eqb j i other in
          mark_there c p i step n there ∙ ap (λ t. cond t (r.spent (n - first_of c i)) (get_or p.spent n false)) off;
    }

-- ---- two steps

same_marks : (c : ChipData) (p q : Machine) (reg : ℕ) (step : Step) (k : ℕ) → Shares c p q reg → k < length (fields_of c reg)
    → (register_after (fields_of c reg) step (register_at c q reg)).spent k ≡ (register_after (fields_of c reg) step (register_at c p reg)).spent k
same_marks c p q reg step k shares low = marks_alike (fields_of c reg) step (register_at c q reg) (register_at c p reg) k (shares.marks k low)

same_bits : (c : ChipData) (p q : Machine) (reg : ℕ) (step : Step) → Shares c p q reg → (register_after (fields_of c reg) step (register_at c q reg)).bits ≡ (register_after (fields_of c reg) step
    (register_at c p reg)).bits
same_bits c p q reg step shares = bits_alike (fields_of c reg) step (register_at c q reg) (register_at c p reg) shares.bits shares.marks

-- a mark that both orders set
mark_by : (c : ChipData) (p : Machine) (i j : ℕ) (one two : Step) (n : ℕ) → IsSound c → IsMirrorOf c (mirror_of p) → i < length c.regs → j < length c.regs → (i ≡ j → ⊥) → n < length p.spent →
    (field_of c n).shape.reg ≡ j
    → get_or (taking c j two (taking c i one p)).spent n false ≡ get_or (taking c i one (taking c j two p)).spent n false
mark_by c p i j one two n sound built li lj differ inside own =
    let pi = taking c i one p in
    let pj = taking c j two p in
    let within : n < length c.fields = omega (arith, inside, built.marks) in
    let s = seated c n sound within in
    let first : first_of c j ≤ n = subst (λ r. first_of c r ≤ n) own s.first in
    let last : n < first_of c j + count_of c j = subst (λ r. n < first_of c r + count_of c r) own s.last in
    let many : length (fields_of c j) ≡ count_of c j = length-fields_of c j sound lj in
    let low : n - first_of c j < length (fields_of c j) = omega (arith, first, last, many) in
    let other : j ≡ i → ⊥ = λ same. differ (sym same) in
    let long : (reg : ℕ) (step : Step) → length (taking c reg step p).spent ≡ length p.spent = λ reg step.
    length-map-range_with_len (mark_after c reg (register_after (fields_of c reg) step (register_at c p reg)) p) 0 (length p.spent) in
    let here : eqb (field_of c n).shape.reg j ≡ true = eq-eqb (field_of c n).shape.reg j own in
    let off : eqb (field_of c n).shape.reg i ≡ false = ap (λ m. eqb m i) own ∙ ne_eqb j i other in
    mark_there c pi j two n (omega (arith, inside, long i one))
    ∙ ap (λ t. cond t ((register_after (fields_of c j) two (register_at c pi j)).spent (n - first_of c j)) (get_or pi.spent n false)) here
    ∙ same_marks c p pi j two (n - first_of c j) (takes_elsewhere c p i j one sound built lj other) low
    ∙ sym (mark_there c p j two n inside ∙ ap (λ t. cond t ((register_after (fields_of c j) two (register_at c p j)).spent (n - first_of c j)) (get_or p.spent n false)) here)
    ∙ sym (mark_there c pj i one n (omega (arith, inside, long j two)) ∙ ap (λ t. cond t ((register_after (fields_of c i) one (register_at c pj i)).spent (n - first_of c i)) (get_or pj.spent n
    false)) off)

-- and one that neither sets
mark_beside : (c : ChipData) (p : Machine) (i j : ℕ) (one two : Step) (n : ℕ) → n < length p.spent → ((field_of c n).shape.reg ≡ i → ⊥) → ((field_of c n).shape.reg ≡ j → ⊥)
    → get_or (taking c j two (taking c i one p)).spent n false ≡ get_or p.spent n false
mark_beside c p i j one two n inside not_i not_j =
    let pi = taking c i one p in
    let long : length pi.spent ≡ length p.spent = length-map-range_with_len (mark_after c i (register_after (fields_of c i) one (register_at c p i)) p) 0 (length p.spent) in
    mark_there c pi j two n (omega (arith, inside, long))
    ∙ ap (λ t. cond t ((register_after (fields_of c j) two (register_at c pi j)).spent (n - first_of c j)) (get_or pi.spent n false)) (ne_eqb (field_of c n).shape.reg j not_j)
    ∙ mark_there c p i one n inside
    ∙ ap (λ t. cond t ((register_after (fields_of c i) one (register_at c p i)).spent (n - first_of c i)) (get_or p.spent n false)) (ne_eqb (field_of c n).shape.reg i not_i)

each_mark : (c : ChipData) (p : Machine) (i j : ℕ) (one two : Step) (n : ℕ) → IsSound c → IsMirrorOf c (mirror_of p) → i < length c.regs → j < length c.regs → (i ≡ j → ⊥) → n < length p.spent
    → get_or (taking c j two (taking c i one p)).spent n false ≡ get_or (taking c i one (taking c j two p)).spent n false
each_mark c p i j one two n sound built li lj differ inside =
    elim (cases_eq (field_of c n).shape.reg j) [
      | inl on_j ↦ mark_by c p i j one two n sound built li lj differ inside on_j
      | inr not_j ↦
          elim (cases_eq (field_of c n).shape.reg i) [
            | inl on_i ↦ sym (mark_by c p j i two one n sound built lj li (λ same. differ (sym same)) inside on_i)
            | inr not_i ↦ mark_beside c p i j one two n inside not_i not_j ∙ sym (mark_beside c p j i two one n inside not_j not_i)
          ]
    ]

-- ---- the machine after two steps

many_marks : (c : ChipData) (p : Machine) (reg : ℕ) (step : Step) → length (taking c reg step p).spent ≡ length p.spent
many_marks c p reg step = length-map-range_with_len (mark_after c reg (register_after (fields_of c reg) step (register_at c p reg)) p) 0 (length p.spent)

-- the bits, and the desired values, of two registers in either order
two_values : (xs : List ℕ) (i j a b x y : ℕ) → (i ≡ j → ⊥) → b ≡ y → a ≡ x → slice_set (slice_set xs i a) j b ≡ slice_set (slice_set xs j y) i x
two_values xs i j a b x y differ same also = set_comm xs i j a b differ ∙ ap (λ n. slice_set (slice_set xs j n) i a) same ∙ ap (slice_set (slice_set xs j y) i) also

swapped : (c : ChipData) (p : Machine) (i j : ℕ) (one two : Step) → IsSound c → IsMirrorOf c (mirror_of p) → i < length c.regs → j < length c.regs → (i ≡ j → ⊥)
    → taking c j two (taking c i one p) ≡ taking c i one (taking c j two p)
swapped c p i j one two sound built li lj differ =
    let pi = taking c i one p in
    let pj = taking c j two p in
    let other : j ≡ i → ⊥ = λ same. differ (sym same) in
    let on_j : Shares c p pi j = takes_elsewhere c p i j one sound built lj other in
    let on_i : Shares c p pj i = takes_elsewhere c p j i two sound built li differ in
    let a = (register_after (fields_of c i) one (register_at c p i)).bits in
    let b = (register_after (fields_of c j) two (register_at c p j)).bits in
    let x = (register_after (fields_of c i) one (register_at c pj i)).bits in
    let y = (register_after (fields_of c j) two (register_at c pi j)).bits in
    let same_y : y ≡ b = same_bits c p pi j two on_j in
    let same_x : a ≡ x = sym (same_bits c p pj i one on_i) in
    let wish_i = desired_after (fields_of c i) one a (get_or p.desired i 0) in
    let wish_j = desired_after (fields_of c j) two b (get_or p.desired j 0) in
    let bits : (taking c j two pi).bits ≡ (taking c i one pj).bits = two_values p.bits i j a y x b differ same_y same_x in
    let desired : (taking c j two pi).desired ≡ (taking c i one pj).desired =
    two_values p.desired i j wish_i (desired_after (fields_of c j) two y (get_or pi.desired j 0)) (desired_after (fields_of c i) one x (get_or pj.desired i 0)) wish_j differ
    (ap (λ n. desired_after (fields_of c j) two n (get_or pi.desired j 0)) same_y ∙ ap (desired_after (fields_of c j) two b) on_j.desired)
    (ap (λ n. desired_after (fields_of c i) one n (get_or p.desired i 0)) same_x ∙ ap (desired_after (fields_of c i) one x) (sym on_i.desired)) in
    let left : length (taking c j two pi).spent ≡ length p.spent = many_marks c pi j two ∙ many_marks c p i one in
    let right : length (taking c i one pj).spent ≡ length p.spent = many_marks c pj i one ∙ many_marks c p j two in
    let spent : (taking c j two pi).spent ≡ (taking c i one pj).spent =
    same_lists _ _ (left ∙ sym right) (λ n d low.
    get_or_default (taking c j two pi).spent n d false low
    ∙ each_mark c p i j one two n sound built li lj differ (omega (arith, low, left))
    ∙ sym (get_or_default (taking c i one pj).spent n d false (omega (arith, low, left, right)))) in
    ap (λ v. let m : Machine = record { bits = v; desired = (taking c j two pi).desired; spent = (taking c j two pi).spent; locations = p.locations } in m) bits
    ∙ ap (λ v. let m : Machine = record { bits = (taking c i one pj).bits; desired = v; spent = (taking c j two pi).spent; locations = p.locations } in m) desired
    ∙ ap (λ v. let m : Machine = record { bits = (taking c i one pj).bits; desired = (taking c i one pj).desired; spent = v; locations = p.locations } in m) spent

-- ---- an access of another master

-- what it is on every machine: refused for the same cause, or a step of its register
record IsMaster (c : ChipData) (l : LayoutData) (o : Op) (reg : ℕ) : Type 0 where
  step : Step
  answer : Grant
  name : Op
  ends : Machine → End
  granted : (q : Machine) → grant (seen c l q) o ≡ answer
  named_is : (q : Machine) → named (seen c l q) o ≡ name
  register : register_of c name ≡ Some reg
  after_is : (place : ℕ) (q : Machine) → machine_after c l o place q ≡ taking c reg step q
  ends_are : (place : ℕ) (q : Machine) → machine_end c l o place q ≡ ends q
  ends_alike : (q x : Machine) → get_or q.bits reg 0 ≡ get_or x.bits reg 0 → ends q ≡ ends x
  finds : (q : Machine) → machine_differ o q ≡ 0

master_of : (c : ChipData) (l : LayoutData) (o : Op) (reg : ℕ) (p : Machine) → IsOther o → register_of c o ≡ Some reg → IsMaster c l o reg
master_of c l (op.OtherWrite n map value) reg p is register =
    let same : n ≡ reg = cc in
    subst (λ k. IsMaster c l (op.OtherWrite n map value) k) same (record {
      step = write_step every value;
      answer = grant (seen c l p) (op.OtherWrite n map value);
      name = named (seen c l p) (op.OtherWrite n map value);
      ends = λ q. end.Done;
      granted = λ q. refl;
      named_is = λ q. refl;
      register = refl;
      after_is = λ place q. refl;
      ends_are = λ place q. refl;
      ends_alike = λ q x e. refl;
      finds = λ q. refl;
    })
master_of c l (op.OtherRead n map) reg p is register =
    let same : n ≡ reg = cc in
    subst (λ k. IsMaster c l (op.OtherRead n map) k) same (record {
      step = read_step every;
      answer = grant (seen c l p) (op.OtherRead n map);
      name = named (seen c l p) (op.OtherRead n map);
      ends = λ q. end.Value (ranswer (fields_of c n) every (register_at c q n));
      granted = λ q. refl;
      named_is = λ q. refl;
      register = refl;
      after_is = λ place q. refl;
      ends_are = λ place q. refl;
      ends_alike = λ q x e. ap end.Value (answers_alike (fields_of c n) every (register_at c q n) (register_at c x n) e);
      finds = λ q. refl;
    })
master_of c l _ reg p is register = absurd is

-- the machine and the event after it
abbrev moved : (c : ChipData) (reg : ℕ) → Step → Grant → Machine → Machine
moved c reg step (Ok place) q = taking c reg step q
moved c reg step (Err why) q = q

abbrev event_by : (c : ChipData) (o : Op) (e : End) → Grant → (q after : Machine) → Event
event_by c o e (Ok place) q after = told c o e 0 after
event_by c o e (Err why) q after = told c o (end.Refused why) 0 q

stepped_by : (c : ChipData) (l : LayoutData) (o : Op) (reg : ℕ) (q : Machine) (g : Grant) → (m : IsMaster c l o reg) → (done_by c l o q g).machine ≡ moved c reg m.step g q
stepped_by c l o reg q (Ok place) m = m.after_is place q
stepped_by c l o reg q (Err why) m = refl

told_by : (c : ChipData) (l : LayoutData) (o : Op) (reg : ℕ) (q : Machine) (g : Grant) → (m : IsMaster c l o reg) → (done_by c l o q g).event ≡ event_by c m.name (m.ends q) g q (moved c reg m.step g
    q)
told_by c l o reg q (Ok place) m =
    ap (λ n. told c n (machine_end c l o place q) (machine_differ o q) (machine_after c l o place q)) (m.named_is q)
    ∙ ap (λ e. told c m.name e (machine_differ o q) (machine_after c l o place q)) (m.ends_are place q)
    ∙ ap (λ d. told c m.name (m.ends q) d (machine_after c l o place q)) (m.finds q)
    ∙ ap (told c m.name (m.ends q) 0) (m.after_is place q)
told_by c l o reg q (Err why) m = ap (λ n. told c n (end.Refused why) 0 q) (m.named_is q)

machine_is : (c : ChipData) (l : LayoutData) (o : Op) (reg : ℕ) (q : Machine) → (m : IsMaster c l o reg) → (machine_step c l q o).machine ≡ moved c reg m.step m.answer q
unfolding machine_step
machine_is c l o reg q m = ap (λ g. (done_by c l o q g).machine) (m.granted q) ∙ stepped_by c l o reg q m.answer m

event_is : (c : ChipData) (l : LayoutData) (o : Op) (reg : ℕ) (q : Machine) → (m : IsMaster c l o reg) → (machine_step c l q o).event ≡ event_by c m.name (m.ends q) m.answer q (moved c reg m.step
    m.answer q)
unfolding machine_step
event_is c l o reg q m = ap (λ g. (done_by c l o q g).event) (m.granted q) ∙ told_by c l o reg q m.answer m

-- ---- events

-- both machines have the register
record Has (reg : ℕ) (q : Machine) : Type 0 where
  bits : reg < length q.bits
  desired : reg < length q.desired

told_alike : (c : ChipData) (o : Op) (reg : ℕ) (e : End) (p q : Machine) → register_of c o ≡ Some reg → get_or q.bits reg 0 ≡ get_or p.bits reg 0 → get_or q.desired reg 0 ≡ get_or p.desired reg 0 →
    told c o e 0 q ≡ told c o e 0 p
told_alike c o reg e p q register bits desired =
    let by : Option ℕ → (v w : Machine) → Event = λ r v w. record { op = o; end = e; trace = []; mirrored = value_at r v.bits; desired = value_at r w.desired; differ = 0 } in
    ap (λ r. by r q q) register
    ∙ ap (λ n. let x : Event = record { op = o; end = e; trace = []; mirrored = n; desired = get_or q.desired reg 0; differ = 0 } in x) bits
    ∙ ap (λ n. let x : Event = record { op = o; end = e; trace = []; mirrored = get_or p.bits reg 0; desired = n; differ = 0 } in x) desired
    ∙ sym (ap (λ r. by r p p) register)

events_alike : (c : ChipData) (l : LayoutData) (o : Op) (reg : ℕ) (p q : Machine) (g : Grant) → (m : IsMaster c l o reg) → Shares c p q reg → Has reg p → Has reg q
    → event_by c m.name (m.ends q) g q (moved c reg m.step g q) ≡ event_by c m.name (m.ends p) g p (moved c reg m.step g p)
events_alike c l o reg p q (Ok place) m shares here there =
    let fs = fields_of c reg in
    let a = (register_after fs m.step (register_at c p reg)).bits in
    let b = (register_after fs m.step (register_at c q reg)).bits in
    let same : b ≡ a = same_bits c p q reg m.step shares in
    ap (λ e. told c m.name e 0 (taking c reg m.step q)) (m.ends_alike q p shares.bits)
    ∙ told_alike c m.name reg (m.ends p) (taking c reg m.step p) (taking c reg m.step q) m.register
    (get_or-set_same q.bits reg b 0 there.bits ∙ same ∙ sym (get_or-set_same p.bits reg a 0 here.bits))
    (get_or-set_same q.desired reg (desired_after fs m.step b (get_or q.desired reg 0)) 0 there.desired
    ∙ ap (λ n. desired_after fs m.step n (get_or q.desired reg 0)) same
    ∙ ap (desired_after fs m.step a) shares.desired
    ∙ sym (get_or-set_same p.desired reg (desired_after fs m.step a (get_or p.desired reg 0)) 0 here.desired))
events_alike c l o reg p q (Err why) m shares here there = told_alike c m.name reg (end.Refused why) p q m.register shares.bits shares.desired

-- ---- two of them

moves_elsewhere : (c : ChipData) (p : Machine) (i j : ℕ) (step : Step) (g : Grant) → IsSound c → IsMirrorOf c (mirror_of p) → j < length c.regs → (j ≡ i → ⊥) → Shares c p (moved c i step g p) j
moves_elsewhere c p i j step (Ok place) sound built inside other = takes_elsewhere c p i j step sound built inside other
moves_elsewhere c p i j step (Err why) sound built inside other = itself c p j

still_has : (c : ChipData) (p : Machine) (i j : ℕ) (step : Step) (g : Grant) → Has j p → Has j (moved c i step g p)
still_has c p i j step (Ok place) has =
    let r = register_after (fields_of c i) step (register_at c p i) in
    record {
      bits = subst (λ n. j < n) (sym (length-set p.bits i r.bits)) has.bits;
      desired = subst (λ n. j < n) (sym (length-set p.desired i (desired_after (fields_of c i) step r.bits (get_or p.desired i 0)))) has.desired;
    }
still_has c p i j step (Err why) has = has

swapped_by : (c : ChipData) (p : Machine) (i j : ℕ) (one two : Step) (g h : Grant) → IsSound c → IsMirrorOf c (mirror_of p) → i < length c.regs → j < length c.regs → (i ≡ j → ⊥)
    → moved c j two h (moved c i one g p) ≡ moved c i one g (moved c j two h p)
swapped_by c p i j one two (Ok place) (Ok spot) sound built li lj differ = swapped c p i j one two sound built li lj differ
swapped_by c p i j one two (Ok place) (Err why) sound built li lj differ = refl
swapped_by c p i j one two (Err why) h sound built li lj differ = refl

pub other_steps_commute : OtherStepsCommute
other_steps_commute c l p one two i j sound built is_one is_two on_i on_j li lj differ =
    let m = master_of c l one i p is_one on_i in
    let n = master_of c l two j p is_two on_j in
    let pi = moved c i m.step m.answer p in
    let pj = moved c j n.step n.answer p in
    let after_one : (machine_step c l p one).machine ≡ pi = machine_is c l one i p m in
    let after_two : (machine_step c l p two).machine ≡ pj = machine_is c l two j p n in
    let other : j ≡ i → ⊥ = λ same. differ (sym same) in
    let has_i : Has i p = record { bits = subst (λ k. i < k) (sym built.registers) li; desired = subst (λ k. i < k) (sym built.wishes) li } in
    let has_j : Has j p = record { bits = subst (λ k. j < k) (sym built.registers) lj; desired = subst (λ k. j < k) (sym built.wishes) lj } in
    record {
      machine =
          ap (λ (q : Machine). (machine_step c l q two).machine) after_one
          ∙ machine_is c l two j pi n
          ∙ swapped_by c p i j m.step n.step m.answer n.answer sound built li lj differ
          ∙ sym (ap (λ (q : Machine). (machine_step c l q one).machine) after_two ∙ machine_is c l one i pj m);
      first =
          ap (λ (q : Machine). (machine_step c l q one).event) after_two
          ∙ event_is c l one i pj m
          ∙ events_alike c l one i p pj m.answer m (moves_elsewhere c p j i n.step n.answer sound built li differ) has_i (still_has c p j i n.step n.answer has_i)
          ∙ sym (event_is c l one i p m);
      second =
          ap (λ (q : Machine). (machine_step c l q two).event) after_one
          ∙ event_is c l two j pi n
          ∙ events_alike c l two j p pi n.answer n (moves_elsewhere c p i j m.step m.answer sound built lj other) has_j (still_has c p i j m.step m.answer has_j)
          ∙ sym (event_is c l two j p n);
    }

-- Beside a sequence over a device in which one field has another policy runs the device as it is described, and tells the same:
-- each read of the field's register comes after a write of it.
use Rattle.std.proofs.Common.{◌≡◌, ◌≢◌, ℕ, zero, suc, ◌*◌, ◌^◌, ◌<◌, ◌==◌, bit_xor, Bool, true, false, not, ◌&&◌, List, [], ◌∷◌, ◌++◌, length, All, Option, Some}
use Rattle.std.proofs.Common.{refl, sym, ap, ◌∙◌, subst, eqb-true, eq-eqb, inl, inr, arith}
use Rattle.std.specs.Prelude.{sum_by}
use Rattle.std.proofs.lemmas.Bool.{and_parts, cases_Bool, false≢true, false_from_ne_true}
use Rattle.std.proofs.lemmas.List.Elements.{All-nil, All-cons}
use Rattle.rl_policy.specs.declared.policy.Policy.{Policy}
use Rattle.rl_policy.specs.declared.policy.Policy.TheVariants.{Rw, Wrc, Wrs, Wc, Ws, Wsrc, Wcrs}
use Rattle.rl_bus.specs.Setup.{held}
use Rattle.rl_bus.specs.State.{State, reset_by, first_state}
use Rattle.rl_model.specs.Rows.{ChipData}
use Rattle.rl_model.specs.Fields.{size_of}
use Rattle.rl_model.specs.declared.rows.Item.TheVariants.{Reg}
use Rattle.rl_map.specs.Layout.{LayoutData}
use Rattle.rl_map.specs.Tables.{setup_of}
use Rattle.rl_split.specs.Law.{no_flaws}
use Rattle.rl_mirror.specs.Mirror.{mirrored_of}
use Rattle.rl_access.specs.declared.event.Event.{Event}
use Rattle.rl_access.specs.declared.event.Op.{Op}
use Rattle.rl_access.specs.declared.event.Op.TheVariants as op
use Rattle.rl_access.specs.Call.{Scene, Performs}
use Rattle.rl_access.specs.HandsOver.{Told}
use Rattle.rl_access.specs.Model.{ModelData, IsModel}
use Rattle.rl_access.specs.Operation.{reg_of}
use Rattle.rl_seq.specs.declared.sequence.Sequence.{Sequence}
use Rattle.rl_seq.specs.declared.sequence.Sequence.TheVariants.{HwReset, BitBash, Access, Shared, MemWalk}
use Rattle.rl_seq.specs.Choice.{is_of, may_read, may_write, is_bit_compared, turned_round}
use Rattle.rl_seq.specs.Plan.{Plan, stop, step, look, followed_by, only_if, each_below, Runs}
use Rattle.rl_seq.specs.Sequences.{map_at, check_at, bash_once, bash_bit, access_at, check_other, share_at, is_chosen, is_visited, at_place, visit, visit_all, walk, plan_of}
use Rattle.rl_plain.proofs.EachCall.{new_ones_agree_with_memories}
use Rattle.rl_detect_laws.specs.Policies.{over, other_policy, as_described, AreWrittenAlike, AllAlike, PoliciesWrittenAlike, NewOnesAgreeBut, AgreesBut, IsReadAt, WritesBetween}
use Rattle.rl_detect_laws.specs.Policies.{OtherPolicyTellsNothing, OtherPolicyIsNeverNamed}
use Rattle.rl_detect_laws.proofs.Beside.{IsBeside, GoesBeside, IsOfField, all_same, may_be_free, write_granted, write_other, check_frees, check_other as check_apart}
use Rattle.rl_detect_laws.proofs.Beside.{back_check_goes, back_write_goes, reset_goes}
use Rattle.rl_detect_laws.proofs.BitBash.{split}
use Rattle.rl_detect_laws.proofs.Checks.{some_is}
use Rattle.rl_detect_laws.proofs.NewOnes.{new_set_up}
use Rattle.rl_detect_laws.proofs.Quiet.{nothing_is_named}
use Rattle.rl_detect_laws.proofs.Reaching.{is_place, write_is, bash_granted}

-- ---- plans

join : (p q : Plan) (s mid new : Scene) (front back : List Told) → Runs p s front mid → Runs q mid back new → Runs (followed_by p q) s (front ++ back) new
join stop q s mid new [] back same rest = subst (λ x. Runs q x back new) same rest
join stop q s mid new (t ∷ front) back run rest = absurd run
join (step o p) q s mid new [] back run rest = absurd run
join (step o p) q s mid new (t ∷ front) back (next, one, run) rest = (next, one, join p q next mid new front back run rest)
join (look f) q s mid new front back run rest = join (f s.model) q s mid new front back run rest

-- the device as it is described runs the plan too, and tells the same
record RunsBeside (c : ChipData) (l : LayoutData) (field : ℕ) (q : Policy) (free : Bool) (p : Plan) (s new : Scene) (told : List Told) (e : State) : Type 0 where
  after : State
  runs : Runs p (over s e) told (over new after)
  beside : IsBeside c l field q free new after

module _ (c : ChipData) (l : LayoutData) (field : ℕ) (q : Policy) where
  abbrev Goes : (from to : Bool) → Plan → Type 0
  Goes from to p =
      (s new : Scene) (told : List Told) (e : State) → IsBeside c l field q from s e → Runs p s told new
      → RunsBeside c l field q to p s new told e

  goes_stop : (free : Bool) → Goes free free stop
  goes_stop free s new [] e h run =
      record { after = e; runs = ap (λ x. over x e) run; beside = subst (λ x. IsBeside c l field q free x e) (sym run) h }
  goes_stop free s new (t ∷ told) e h run = absurd run

  goes_at : (b to : Bool) (o : Op) (p : Plan) (s new : Scene) (told : List Told) (e : State)
      → ((mid : Scene) (event : Event) → Performs s mid o event → GoesBeside c l field q b s mid o event e) → Goes b to p
      → Runs (step o p) s told new → RunsBeside c l field q to (step o p) s new told e
  goes_at b to o p s new [] e first rest run = absurd run
  goes_at b to o p s new (t ∷ told) e first rest (mid, one, run) =
      let here = first mid t.event one.performs in
      let more = rest mid new told here.after here.beside run in
      record {
        after = more.after;
        runs = (over mid here.after, record { performs = here.performs; model = one.model }, more.runs);
        beside = more.beside;
      }

  goes_step : (from b to : Bool) (o : Op) (p : Plan)
      → ((s mid : Scene) (event : Event) (e : State) → IsBeside c l field q from s e → Performs s mid o event → GoesBeside c l field q b s mid o event e)
      → Goes b to p → Goes from to (step o p)
  goes_step from b to o p first rest s new told e h run =
      goes_at b to o p s new told e (λ mid event performs. first s mid event e h performs) rest run

  goes_look : (to : Bool) (f : ModelData → Plan) (s new : Scene) (told : List Told) (e : State) → RunsBeside c l field q to (f s.model) s new told e
      → RunsBeside c l field q to (look f) s new told e
  goes_look to f s new told e went = record { after = went.after; runs = went.runs; beside = went.beside }

  goes_both : (from b to : Bool) (p r : Plan) → Goes from b p → Goes b to r → Goes from to (followed_by p r)
  goes_both from b to p r g k s new told e h run =
      let both = split p r s told new run in
      let first = g s both.mid both.front e h both.first in
      let second = k both.mid new both.back first.after first.beside both.second in
      record {
        after = second.after;
        runs = subst (λ ts. Runs (followed_by p r) (over s e) ts (over new second.after)) (sym both.is)
            (join p r (over s e) (over both.mid first.after) (over new second.after) both.front both.back first.runs second.runs);
        beside = second.beside;
      }

  goes_from : (from b to : Bool) (p : Plan) → (b ≡ false → from ≡ false) → Goes b to p → Goes from to p
  goes_from from b to p less g s new told e h run = g s new told e (may_be_free c l field q from b s e less h) run

  goes_to : (from b to : Bool) (p : Plan) → (to ≡ false → b ≡ false) → Goes from b p → Goes from to p
  goes_to from b to p less g s new told e h run =
      let went = g s new told e h run in
      record { after = went.after; runs = went.runs; beside = may_be_free c l field q b to new went.after less went.beside }

  none_shut : {A : Type 0} → true ≡ false → A
  none_shut shut = absurd (false≢true (sym shut))

  goes_if : (from to : Bool) (b : Bool) (p : Plan) → (to ≡ false → from ≡ false) → (b ≡ true → Goes from to p) → Goes from to (only_if b p)
  goes_if from to true p less g = g refl
  goes_if from to false p less g = goes_to from from to stop less (goes_stop from)

  goes_each : (free : Bool) (n : ℕ) (f : ℕ → Plan) → ((k : ℕ) → k < n → Goes free free (f k)) → Goes free free (each_below n f)
  goes_each free zero f g = goes_stop free
  goes_each free (suc n) f g =
      goes_both free free free (each_below n f) (f n) (goes_each free n f (λ k low. g k (omega (arith, low)))) (g n (omega arith))

  -- where one of them at most frees bits
  goes_one : (n : ℕ) (f : ℕ → Plan) (here : ℕ → Bool) → ((k : ℕ) → k < n → here k ≡ true → Goes false true (f k))
      → ((k : ℕ) → k < n → here k ≡ false → (free : Bool) → Goes free free (f k))
      → ((k j : ℕ) → k < n → j < n → here k ≡ true → here j ≡ true → k ≡ j) → Goes false true (each_below n f)
  goes_one zero f here frees quiet only = goes_to false false true stop none_shut (goes_stop false)
  goes_one (suc n) f here frees quiet only =
      elim (cases_Bool (here n)) [
        | inl on ↦
            goes_both false false true (each_below n f) (f n)
            (goes_each false n f (λ k low. quiet k (omega (arith, low))
            (false_from_ne_true (here k) (λ yes. let same = only k n (omega (arith, low)) (omega arith) yes on in omega (arith, same, low))) false))
            (frees n (omega arith) on)
        | inr off ↦
            goes_both false true true (each_below n f) (f n)
            (goes_one n f here (λ k low. frees k (omega (arith, low))) (λ k low. quiet k (omega (arith, low)))
            (λ k j low below. only k j (omega (arith, low)) (omega (arith, below)))) (quiet n (omega arith) off true)
      ]

-- ---- the sequences

module _ (m : ModelData) (field : ℕ) (q : Policy) (ok : IsModel m) (of : IsOfField m.chip field q) where
  abbrev c : ChipData
  c = m.chip

  abbrev l : LayoutData
  l = m.layout

  abbrev Go : (from to : Bool) → Plan → Type 0
  Go from to p = Goes m.chip m.layout field q from to p

  map_in : (place : ℕ) → place < length m.layout.places → map_at m.layout place < length m.layout.maps
  map_in place there = (ok.layout.each_place place there).map

  other_reg : (n : ℕ) → (n == reg_of m.chip field) ≡ false → n ≡ reg_of m.chip field → ⊥
  other_reg n off same = false≢true (sym off ∙ eq-eqb n (reg_of m.chip field) same)

  -- a check, and one of another register
  check_own : (place : ℕ) → reg_of m.chip field < length m.chip.regs → place < length m.layout.places → Go false true (check_at m.layout (reg_of m.chip field) place)
  check_own place inside there =
      goes_step m.chip m.layout field q false true true (op.Check (reg_of m.chip field) (Some (map_at m.layout place))) stop
      (check_frees m.chip m.layout field q of (reg_of m.chip field) (Some (map_at m.layout place)) (inside, map_in place there))
      (goes_stop m.chip m.layout field q true)

  check_away : (free : Bool) (n place : ℕ) → (n ≡ reg_of m.chip field → ⊥) → n < length m.chip.regs → place < length m.layout.places → Go free free (check_at m.layout n place)
  check_away free n place other inside there =
      goes_step m.chip m.layout field q free free free (op.Check n (Some (map_at m.layout place))) stop
      (check_apart m.chip m.layout field q of free n (Some (map_at m.layout place)) other (inside, map_in place there))
      (goes_stop m.chip m.layout field q free)

  -- over all registers, of which the field's own may free bits
  registers : (which : Sequence) (block : Option ℕ) → ((n : ℕ) → n < length m.chip.regs → n ≡ reg_of m.chip field → Go false true (visit_all which m.chip m.layout block n))
      → ((n : ℕ) → n < length m.chip.regs → (n ≡ reg_of m.chip field → ⊥) → (free : Bool) → Go free free (visit_all which m.chip m.layout block n))
      → Go false true (each_below (length m.chip.regs) (visit_all which m.chip m.layout block))
  registers which block own away =
      goes_one m.chip m.layout field q (length m.chip.regs) (visit_all which m.chip m.layout block) (λ n. n == reg_of m.chip field)
      (λ n low on. own n low (eqb-true n (reg_of m.chip field) on)) (λ n low off. away n low (other_reg n off))
      (λ k j low below on also. eqb-true k (reg_of m.chip field) on ∙ sym (eqb-true j (reg_of m.chip field) also))

  -- where each visit of a register goes, so do all
  visits : (which : Sequence) (block : Option ℕ) (free : Bool) (n : ℕ)
      → ((place : ℕ) → place < length m.layout.places → is_visited which m.layout n place ≡ true → Go free free (at_place which m.chip m.layout n place))
      → Go free free (visit_all which m.chip m.layout block n)
  visits which block free n each =
      goes_if m.chip m.layout field q free free (is_chosen which m.chip m.layout block n) (each_below (length m.layout.places) (visit which m.chip m.layout n)) (λ shut. shut)
      (λ chosen. goes_each m.chip m.layout field q free (length m.layout.places) (visit which m.chip m.layout n)
      (λ place there. goes_if m.chip m.layout field q free free (is_visited which m.layout n place) (at_place which m.chip m.layout n place) (λ shut. shut) (each place there)))

  -- and where they start and end with free bits
  all_free : (which : Sequence) (block : Option ℕ) (n : ℕ)
      → ((place : ℕ) → place < length m.layout.places → is_visited which m.layout n place ≡ true → Go true true (at_place which m.chip m.layout n place))
      → Go false true (visit_all which m.chip m.layout block n)
  all_free which block n each =
      goes_from m.chip m.layout field q false true true (visit_all which m.chip m.layout block n) (none_shut m.chip m.layout field q) (visits which block true n each)

  -- ---- hardware reset

  reset_visits : (block : Option ℕ) (n : ℕ) → n < length m.chip.regs → n ≡ reg_of m.chip field → WritesBetween HwReset m.layout (reg_of m.chip field)
      → Go false true (visit_all HwReset m.chip m.layout block n)
  reset_visits block n inside same between =
      goes_if m.chip m.layout field q false true (is_chosen HwReset m.chip m.layout block n) (each_below (length m.layout.places) (visit HwReset m.chip m.layout n)) (none_shut m.chip m.layout field q)
      (λ chosen. goes_one m.chip m.layout field q (length m.layout.places) (visit HwReset m.chip m.layout n) (is_visited HwReset m.layout n)
      (λ place there on. goes_if m.chip m.layout field q false true (is_visited HwReset m.layout n place) (check_at m.layout n place) (none_shut m.chip m.layout field q)
      (λ visited. subst (λ r. Go false true (check_at m.layout r place)) (sym same) (check_own place (subst (λ r. r < length m.chip.regs) same inside) there)))
      (λ place there off free. goes_if m.chip m.layout field q free free (is_visited HwReset m.layout n place) (check_at m.layout n place) (λ shut. shut)
      (λ visited. absurd (false≢true (sym off ∙ visited))))
      (λ k j low below on also. between k j (read_at k low on) (read_at j below also)))
    where
      read_at : (place : ℕ) → place < length m.layout.places → is_visited HwReset m.layout n place ≡ true → IsReadAt m.layout (reg_of m.chip field) place
      read_at place there visited =
          let both = and_parts (is_of m.layout place (Reg n)) (may_read m.layout place) visited in
          record { place_in = there; register = subst (λ r. is_of m.layout place (Reg r) ≡ true) same both.0; right = both.1 }

  reset_plan : (block : Option ℕ) → WritesBetween HwReset m.layout (reg_of m.chip field) → Go false true (plan_of HwReset m.chip m.layout block)
  reset_plan block between =
      goes_both m.chip m.layout field q false false true (step (op.Reset 0) stop) (walk HwReset m.chip m.layout block)
      (goes_step m.chip m.layout field q false false false (op.Reset 0) stop (reset_goes m.chip m.layout field q of (omega (arith, ok.chip.two_kinds))) (goes_stop m.chip m.layout field q false))
      (registers HwReset block (λ n inside same. reset_visits block n inside same between)
      (λ n inside other free. visits HwReset block free n (λ place there visited. check_away free n place other inside there)))

  -- ---- bit bash

  bash_own : (reg place b : ℕ) → reg ≡ reg_of m.chip field → reg < length m.chip.regs → place < length m.layout.places → is_visited BitBash m.layout reg place ≡ true
      → b < 8 * size_of m.chip reg → Go true true (bash_once reg (map_at m.layout place) b)
  bash_own reg place b same inside there visited low s new told e h run =
      let map = Some (map_at m.layout place) in
      let both = and_parts (is_of m.layout place (Reg reg)) (may_read m.layout place && may_write m.layout place) visited in
      let at = is_place m.chip m.layout place (Reg reg) ok.layout ok.built there both.0 in
      let writes = (and_parts (may_read m.layout place) (may_write m.layout place) both.1).1 in
      let numbers : (reg < length m.chip.regs) × (map_at m.layout place < length m.layout.maps) = (inside, map_in place there) in
      let value = bit_xor (mirrored_of s.model.mirror reg) (2 ^ b) in
      let own_inside : reg < length s.model.chip.regs = subst (λ (x : ChipData). reg < length x.regs) (sym h.chip) inside in
      let own_low : b < 8 * size_of s.model.chip reg = subst (λ (x : ChipData). b < 8 * size_of x reg) (sym h.chip) low in
      goes_look m.chip m.layout field q true _ s new told e
      (goes_at m.chip m.layout field q false true (op.Write reg map value) (step (op.Check reg map) stop) s new told e
      (λ mid event performs. write_granted m.chip m.layout field q of true false reg map value place numbers (λ other shut. absurd (other same)) s mid event e h
      (bash_granted m.chip m.layout reg place b at writes s.model h.model h.chip h.layout own_inside own_low) performs)
      (goes_step m.chip m.layout field q false true true (op.Check reg map) stop (check_frees m.chip m.layout field q of reg map numbers) (goes_stop m.chip m.layout field q true)) run)

  bash_away : (free : Bool) (n place b : ℕ) → (n ≡ reg_of m.chip field → ⊥) → n < length m.chip.regs → place < length m.layout.places
      → Go free free (bash_once n (map_at m.layout place) b)
  bash_away free n place b other inside there s new told e h run =
      let map = Some (map_at m.layout place) in
      let numbers : (n < length m.chip.regs) × (map_at m.layout place < length m.layout.maps) = (inside, map_in place there) in
      let value = bit_xor (mirrored_of s.model.mirror n) (2 ^ b) in
      goes_look m.chip m.layout field q free _ s new told e
      (goes_step m.chip m.layout field q free free free (op.Write n map value) (step (op.Check n map) stop) (write_other m.chip m.layout field q of free n map value numbers)
      (goes_step m.chip m.layout field q free free free (op.Check n map) stop (check_apart m.chip m.layout field q of free n map other numbers) (goes_stop m.chip m.layout field q free)) s new told e h run)

  bash_place : (free : Bool) (n place : ℕ) → ((b : ℕ) → b < 8 * size_of m.chip n → Go free free (bash_once n (map_at m.layout place) b))
      → Go free free (at_place BitBash m.chip m.layout n place)
  bash_place free n place once =
      goes_each m.chip m.layout field q free (8 * size_of m.chip n) (bash_bit m.chip n (map_at m.layout place))
      (λ b low. goes_if m.chip m.layout field q free free (is_bit_compared m.chip n b) (followed_by (bash_once n (map_at m.layout place) b) (bash_once n (map_at m.layout place) b)) (λ shut. shut)
      (λ compared. goes_both m.chip m.layout field q free free free (bash_once n (map_at m.layout place) b) (bash_once n (map_at m.layout place) b) (once b low) (once b low)))

  bash_plan : (block : Option ℕ) → Go false true (plan_of BitBash m.chip m.layout block)
  bash_plan block =
      registers BitBash block
      (λ n inside same. all_free BitBash block n (λ place there visited. bash_place true n place (λ b low. bash_own n place b same inside there visited low)))
      (λ n inside other free. visits BitBash block free n (λ place there visited. bash_place free n place (λ b low. bash_away free n place b other inside there)))

  -- ---- access

  access_own : (reg place : ℕ) → reg ≡ reg_of m.chip field → reg < length m.chip.regs → place < length m.layout.places → is_visited Access m.layout reg place ≡ true
      → Go true true (access_at m.chip reg (map_at m.layout place))
  access_own reg place same inside there visited s new told e h run =
      let map = Some (map_at m.layout place) in
      let both = and_parts (is_of m.layout place (Reg reg)) (may_read m.layout place && may_write m.layout place) visited in
      let at = is_place m.chip m.layout place (Reg reg) ok.layout ok.built there both.0 in
      let writes = (and_parts (may_read m.layout place) (may_write m.layout place) both.1).1 in
      let numbers : (reg < length m.chip.regs) × (map_at m.layout place < length m.layout.maps) = (inside, map_in place there) in
      let value = mirrored_of s.model.mirror reg in
      let fourth = step (op.Check reg map) stop in
      let third = step (op.BackWrite reg value) fourth in
      let second = step (op.BackCheck reg) third in
      goes_look m.chip m.layout field q true _ s new told e
      (goes_at m.chip m.layout field q false true (op.Write reg map (turned_round m.chip (Reg reg) value)) second s new told e
      (λ mid event performs. write_granted m.chip m.layout field q of true false reg map (turned_round m.chip (Reg reg) value) place numbers (λ other shut. absurd (other same)) s mid event e h
      ((write_is m.chip m.layout reg place value at writes).granted s.model h.chip h.layout) performs)
      (goes_step m.chip m.layout field q false false true (op.BackCheck reg) third (back_check_goes m.chip m.layout field q of false reg inside (λ own. refl))
      (goes_step m.chip m.layout field q false false true (op.BackWrite reg value) fourth (back_write_goes m.chip m.layout field q of false reg value inside (λ own. refl))
      (goes_step m.chip m.layout field q false true true (op.Check reg map) stop (check_frees m.chip m.layout field q of reg map numbers) (goes_stop m.chip m.layout field q true)))) run)

  access_away : (free : Bool) (n place : ℕ) → (n ≡ reg_of m.chip field → ⊥) → n < length m.chip.regs → place < length m.layout.places
      → Go free free (access_at m.chip n (map_at m.layout place))
  access_away free n place other inside there s new told e h run =
      let map = Some (map_at m.layout place) in
      let numbers : (n < length m.chip.regs) × (map_at m.layout place < length m.layout.maps) = (inside, map_in place there) in
      let value = mirrored_of s.model.mirror n in
      let fourth = step (op.Check n map) stop in
      let third = step (op.BackWrite n value) fourth in
      let second = step (op.BackCheck n) third in
      goes_look m.chip m.layout field q free _ s new told e
      (goes_step m.chip m.layout field q free free free (op.Write n map (turned_round m.chip (Reg n) value)) second
      (write_other m.chip m.layout field q of free n map (turned_round m.chip (Reg n) value) numbers)
      (goes_step m.chip m.layout field q free free free (op.BackCheck n) third (back_check_goes m.chip m.layout field q of free n inside (λ own. absurd (other own)))
      (goes_step m.chip m.layout field q free free free (op.BackWrite n value) fourth (back_write_goes m.chip m.layout field q of free n value inside (λ own. absurd (other own)))
      (goes_step m.chip m.layout field q free free free (op.Check n map) stop (check_apart m.chip m.layout field q of free n map other numbers) (goes_stop m.chip m.layout field q free))))
      s new told e h run)

  access_plan : (block : Option ℕ) → Go false true (plan_of Access m.chip m.layout block)
  access_plan block =
      registers Access block
      (λ n inside same. all_free Access block n (λ place there visited. access_own n place same inside there visited))
      (λ n inside other free. visits Access block free n (λ place there visited. access_away free n place other inside there))

  -- ---- shared access

  is_other : (reg written place : ℕ) → Bool
  is_other reg written place = not (place == written) && (is_of m.layout place (Reg reg) && may_read m.layout place)

  share_own : (reg written : ℕ) → reg ≡ reg_of m.chip field → reg < length m.chip.regs → written < length m.layout.places → is_visited Shared m.layout reg written ≡ true
      → WritesBetween Shared m.layout (reg_of m.chip field) → Go true true (share_at m.chip m.layout reg written)
  share_own reg written same inside there visited between s new told e h run =
      let map = Some (map_at m.layout written) in
      let both = and_parts (is_of m.layout written (Reg reg)) (may_write m.layout written) visited in
      let at = is_place m.chip m.layout written (Reg reg) ok.layout ok.built there both.0 in
      let numbers : (reg < length m.chip.regs) × (map_at m.layout written < length m.layout.maps) = (inside, map_in written there) in
      let value = mirrored_of s.model.mirror reg in
      goes_look m.chip m.layout field q true _ s new told e
      (goes_at m.chip m.layout field q false true (op.Write reg map (turned_round m.chip (Reg reg) value)) (each_below (length m.layout.places) (check_other m.layout reg written)) s new told e
      (λ mid event performs. write_granted m.chip m.layout field q of true false reg map (turned_round m.chip (Reg reg) value) written numbers (λ other shut. absurd (other same)) s mid event e h
      ((write_is m.chip m.layout reg written value at both.1).granted s.model h.chip h.layout) performs)
      (goes_one m.chip m.layout field q (length m.layout.places) (check_other m.layout reg written)
      (λ place. not (place == written) && (is_of m.layout place (Reg reg) && may_read m.layout place))
      (λ place low on. goes_if m.chip m.layout field q false true (not (place == written) && (is_of m.layout place (Reg reg) && may_read m.layout place)) (check_at m.layout reg place)
      (none_shut m.chip m.layout field q)
      (λ chosen. subst (λ r. Go false true (check_at m.layout r place)) (sym same) (check_own place (subst (λ r. r < length m.chip.regs) same inside) low)))
      (λ place low off free. goes_if m.chip m.layout field q free free (not (place == written) && (is_of m.layout place (Reg reg) && may_read m.layout place)) (check_at m.layout reg place)
      (λ shut. shut) (λ chosen. absurd (false≢true (sym off ∙ chosen))))
      (λ k j low below on also. between written k j (read_beside k low on) (read_beside j below also))) run)
    where
      not_false : (b : Bool) → not b ≡ true → b ≡ false
      not_false true e = absurd (false≢true e)
      not_false false e = refl

      read_beside : (place : ℕ) → place < length m.layout.places → (not (place == written) && (is_of m.layout place (Reg reg) && may_read m.layout place)) ≡ true
          → IsReadAt m.layout (reg_of m.chip field) place × (place ≢ written)
      read_beside place low chosen =
          let both = and_parts (not (place == written)) (is_of m.layout place (Reg reg) && may_read m.layout place) chosen in
          let rest = and_parts (is_of m.layout place (Reg reg)) (may_read m.layout place) both.1 in (
            record { place_in = low; register = subst (λ r. is_of m.layout place (Reg r) ≡ true) same rest.0; right = rest.1 },
            λ at. false≢true (sym (not_false (place == written) both.0) ∙ eq-eqb place written at),
          )

  share_away : (free : Bool) (n written : ℕ) → (n ≡ reg_of m.chip field → ⊥) → n < length m.chip.regs → written < length m.layout.places
      → Go free free (share_at m.chip m.layout n written)
  share_away free n written other inside there s new told e h run =
      let map = Some (map_at m.layout written) in
      let value = mirrored_of s.model.mirror n in
      goes_look m.chip m.layout field q free _ s new told e
      (goes_step m.chip m.layout field q free free free (op.Write n map (turned_round m.chip (Reg n) value)) (each_below (length m.layout.places) (check_other m.layout n written))
      (write_other m.chip m.layout field q of free n map (turned_round m.chip (Reg n) value) (inside, map_in written there))
      (goes_each m.chip m.layout field q free (length m.layout.places) (check_other m.layout n written)
      (λ place low. goes_if m.chip m.layout field q free free (not (place == written) && (is_of m.layout place (Reg n) && may_read m.layout place)) (check_at m.layout n place) (λ shut. shut)
      (λ chosen. check_away free n place other inside low))) s new told e h run)

  share_plan : (block : Option ℕ) → WritesBetween Shared m.layout (reg_of m.chip field) → Go false true (plan_of Shared m.chip m.layout block)
  share_plan block between =
      registers Shared block
      (λ n inside same. all_free Shared block n (λ place there visited. share_own n place same inside there visited between))
      (λ n inside other free. visits Shared block free n (λ place there visited. share_away free n place other inside there))

  -- ---- each

  sequence_goes : (which : Sequence) (block : Option ℕ) → WritesBetween which m.layout (reg_of m.chip field) → Go false true (plan_of which m.chip m.layout block)
  sequence_goes HwReset block between = reset_plan block between
  sequence_goes BitBash block between = bash_plan block
  sequence_goes Access block between = access_plan block
  sequence_goes Shared block between = share_plan block between
  sequence_goes MemWalk block between = absurd between

-- ---- the law

begins : (s : Scene) (field : ℕ) (p : Policy) → IsModel s.model → (a : AgreesBut s field p)
    → IsBeside s.model.chip s.model.layout field p false s (as_described s.model.chip s.model.layout a.device)
begins s field p ok a =
    let c = s.model.chip in
    let l = s.model.layout in
    let e = as_described c l a.device in
    let same : a.agree.agree.device ≡ e = some_is (sym a.agree.agree.told) in
    record {
      device = a.device;
      scene_is = record { model = ok; chip = refl; layout = refl; told = a.told };
      pair = record {
        setup = a.setup;
        beats = λ port address. ap (λ (d : State). d.beats port address) (sym same) ∙ a.agree.agree.believed_is.ready.beats port address;
        marks = refl;
        locations = refl;
        items = refl;
      };
      bits = all_same c l field false a.device.bits a.device.bits refl;
      agree = a.agree;
    }

pub other_policy_tells_nothing : OtherPolicyTellsNothing
other_policy_tells_nothing s new which block told field p ok a inside alike between run =
    let went = sequence_goes s.model field p ok (record { inside = inside; alike = alike }) which block between s new told
    (as_described s.model.chip s.model.layout a.device) (begins s field p ok a) run in
    record { after = went.after; runs = went.runs }

pub other_policy_is_never_named : OtherPolicyIsNeverNamed
other_policy_is_never_named s new which block told field p ok a inside alike between run =
    let tells = other_policy_tells_nothing s new which block told field p ok a inside alike between run in
    nothing_is_named (over s (as_described s.model.chip s.model.layout a.device)) (over new tells.after) which block told ok a.agree (inl tells.runs)

-- ---- the policies

two : (P : Policy → Type 0) (a b : Policy) → P a → P b → All P (a ∷ b ∷ [])
two P a b h k = All-cons P a (b ∷ []) h (All-cons P b [] k (All-nil P))

three : (P : Policy → Type 0) (a b c : Policy) → P a → P b → P c → All P (a ∷ b ∷ c ∷ [])
three P a b c h k j = All-cons P a (b ∷ c ∷ []) h (two P b c k j)

pair_alike : (a b : Policy) → AreWrittenAlike a a → AreWrittenAlike a b → AreWrittenAlike b a → AreWrittenAlike b b → AllAlike (a ∷ b ∷ [])
pair_alike a b h k j i =
    two (λ p. All (AreWrittenAlike p) (a ∷ b ∷ [])) a b (two (AreWrittenAlike a) a b h k) (two (AreWrittenAlike b) a b j i)

stored : (p : Policy) → AreWrittenAlike p Rw → AreWrittenAlike p Wrc → AreWrittenAlike p Wrs → All (AreWrittenAlike p) (Rw ∷ Wrc ∷ Wrs ∷ [])
stored p h k j = three (AreWrittenAlike p) Rw Wrc Wrs h k j

pub policies_written_alike : PoliciesWrittenAlike
policies_written_alike = (
  three (λ p. All (AreWrittenAlike p) (Rw ∷ Wrc ∷ Wrs ∷ [])) Rw Wrc Wrs
      (stored Rw (record { writes = λ h o w s. refl; reads = λ h. refl; marks = refl }) (record { writes = λ h o w s. refl; reads = λ h. refl; marks = refl })
      (record { writes = λ h o w s. refl; reads = λ h. refl; marks = refl }))
      (stored Wrc (record { writes = λ h o w s. refl; reads = λ h. refl; marks = refl }) (record { writes = λ h o w s. refl; reads = λ h. refl; marks = refl })
      (record { writes = λ h o w s. refl; reads = λ h. refl; marks = refl }))
      (stored Wrs (record { writes = λ h o w s. refl; reads = λ h. refl; marks = refl }) (record { writes = λ h o w s. refl; reads = λ h. refl; marks = refl })
      (record { writes = λ h o w s. refl; reads = λ h. refl; marks = refl })),
  pair_alike Wc Wcrs (record { writes = λ h o w s. refl; reads = λ h. refl; marks = refl }) (record { writes = λ h o w s. refl; reads = λ h. refl; marks = refl })
      (record { writes = λ h o w s. refl; reads = λ h. refl; marks = refl }) (record { writes = λ h o w s. refl; reads = λ h. refl; marks = refl }),
  pair_alike Ws Wsrc (record { writes = λ h o w s. refl; reads = λ h. refl; marks = refl }) (record { writes = λ h o w s. refl; reads = λ h. refl; marks = refl })
      (record { writes = λ h o w s. refl; reads = λ h. refl; marks = refl }) (record { writes = λ h o w s. refl; reads = λ h. refl; marks = refl }),
)

-- ---- new ones

described_first : (c : ChipData) (l : LayoutData) (field : ℕ) (p : Policy) (count : ℕ)
    → as_described c l (first_state (setup_of c l (other_policy field p)) count) ≡ first_state (setup_of c l no_flaws) count
unfolding first_state reset_by setup_of held
described_first c l field p count = refl

pub new_ones_agree_but : NewOnesAgreeBut
new_ones_agree_but s field p ok steady mirror gathered told =
    let c = s.model.chip in
    let l = s.model.layout in
    let count = sum_by (λ m. m.size) c.mems in
    let d = first_state (setup_of c l (other_policy field p)) count in
    record {
      device = d;
      told = told;
      setup = (new_set_up c l (other_policy field p) count).setup;
      agree = new_ones_agree_with_memories (over s (as_described c l d)) ok steady mirror gathered (ap Some (described_first c l field p count));
    }

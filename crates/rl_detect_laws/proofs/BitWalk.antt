-- The sequences over one bit: where each operation makes of it what the computation says, they find what that shows.
use Rattle.std.proofs.Common.{◌≡◌, ◌≢◌, ◌⊎◌, ℕ, ◌*◌, ◌^◌, ◌<◌, ◌==◌, nat_lt, bit_xor, Bool, true, false, not, ◌&&◌, length, Option, Some, Ok}
use Rattle.std.proofs.Common.{if◌then◌else◌, Err, refl, sym, ap, ◌∙◌, subst, inl, inr, eqb-true, arith}
use Rattle.std.specs.Prelude.{unwrap_or}
use Rattle.std.proofs.lemmas.Bool.{and_parts, or_cases, cases_Bool, cases_eq, cases_lt, false_from_ne_true}
use borrow.Author.Tests.{lt-ltb}
use Rattle.rl_policy.specs.Bits.{bit}
use Rattle.rl_policy.specs.Table.{either_alone, after_read}
use Rattle.rl_policy.specs.declared.policy.Policy.{Policy}
use Rattle.rl_policy.specs.declared.policy.Policy.TheVariants.{Ro}
use Rattle.rl_model.specs.Rows.{ChipData}
use Rattle.rl_model.specs.Chip.{backdoor_of}
use Rattle.rl_model.specs.Fields.{field_of, size_of}
use Rattle.rl_model.specs.declared.rows.Item.TheVariants.{Reg}
use Rattle.rl_map.specs.Layout.{LayoutData}
use Rattle.rl_mirror.specs.Mirror.{mirrored_of}
use Rattle.rl_access.specs.declared.event.Event.{Event}
use Rattle.rl_access.specs.declared.event.Op.{Op}
use Rattle.rl_access.specs.declared.event.Op.TheVariants as op
use Rattle.rl_access.specs.declared.event.Refused.TheVariants.{NoBackdoor, TooWide}
use Rattle.rl_access.specs.Call.{Scene, Performs}
use Rattle.rl_access.specs.Model.{ModelData, IsModel}
use Rattle.rl_access.specs.Operation.{reg_of, HasNumbers}
use Rattle.rl_access.specs.Rules.{grant}
use Rattle.rl_access.proofs.Bytes.{bytes_bits}
use Rattle.rl_seq.specs.declared.sequence.Sequence.{Sequence}
use Rattle.rl_seq.specs.declared.sequence.Sequence.TheVariants.{HwReset, BitBash, Access, Shared, MemWalk}
use Rattle.rl_seq.specs.Choice.{is_of, may_read, may_write, is_bit_compared, turned_round}
use Rattle.rl_seq.specs.Plan.{Plan, stop, step, followed_by, each_below}
use Rattle.rl_seq.specs.Sequences.{map_at, check_at, bash_once, bash_bit, access_at, check_other, share_at, is_chosen, is_visited, at_place, visit, visit_all, walk}
use Rattle.rl_seq.proofs.Granting.{met, turned_fits, bashed_fits}
use Rattle.rl_detect_laws.specs.BitFlaws.{HasTwoPlaces, IsLowest, IsShown}
use Rattle.rl_detect_laws.specs.Resets.{IsNamedBy}
use Rattle.rl_detect_laws.specs.Sides.{Sides, BitFlaw, sticks, hears_nothing, goes_by, held_read, answered, written, checked, checked_behind, written_behind, differs, differs_behind}
use Rattle.rl_detect_laws.specs.Sides.{turned, shows_twice, shows_behind}
use Rattle.rl_detect_laws.specs.Visited.{HasEvent, IsVisited}
use Rattle.rl_detect_laws.proofs.AccessTest.{turned_there}
use Rattle.rl_detect_laws.proofs.Bashing.{turned_bit}
use Rattle.rl_detect_laws.proofs.BitBash.{Finds, both_true}
use Rattle.rl_detect_laws.proofs.DeafRegister.{behind_of}
use Rattle.rl_detect_laws.proofs.Leads.{Leads, Nothing, leads_stop, leads_step, leads_both, leads_if, leads_on, leads_off, leads_found, leads_wider, leads_from_none, leads_all, leads_at, leads_twice}
use Rattle.rl_detect_laws.proofs.Leads.{leads_finds}
use Rattle.rl_detect_laws.proofs.Reaching.{IsPlaceOf, is_place, way_to, check_is}

-- ---- what each operation makes of the bit

pub record HasParts (c : ChipData) (l : LayoutData) (s : Scene) : Type 0 where
  pub model : IsModel s.model
  pub chip : s.model.chip ≡ c
  pub layout : s.model.layout ≡ l

-- the operation of a sequence is of this register
abbrev pub Reaches : Op → ℕ → Type 0
Reaches (op.Write n map value) q = n ≡ q
Reaches (op.Check n map) q = n ≡ q
Reaches (op.BackWrite n value) q = n ≡ q
Reaches (op.BackCheck n) q = n ≡ q
Reaches _ q = ⊥

-- scenes in which bit b of the field's register is so
pub record ActsSo (c : ChipData) (l : LayoutData) (field b : ℕ) (flaw : BitFlaw) (p : Policy) (Seen : Sides → Scene → Type 0) : Type 0 where
  pub parts : (x : Sides) (s : Scene) → Seen x s → HasParts c l s
  pub believes : (x : Sides) (s : Scene) → Seen x s → bit (mirrored_of s.model.mirror (reg_of c field)) b ≡ x.believed
  pub writes : (x : Sides) (s new : Scene) (e : Event) (map : Option ℕ) (value place : ℕ) → Seen x s → HasNumbers c (length l.maps) (op.Write (reg_of c field) map value)
      → grant s.model (op.Write (reg_of c field) map value) ≡ Ok place → Performs s new (op.Write (reg_of c field) map value) e
      → Seen (written flaw p (bit value b) x) new
  pub checks : (x : Sides) (s new : Scene) (e : Event) (map : Option ℕ) (place : ℕ) → Seen x s → HasNumbers c (length l.maps) (op.Check (reg_of c field) map)
      → grant s.model (op.Check (reg_of c field) map) ≡ Ok place → Performs s new (op.Check (reg_of c field) map) e
      → Seen (checked flaw p x) new × (differs flaw x ≡ true → IsNamedBy c field e)
  pub checks_behind : (x : Sides) (s new : Scene) (e : Event) → Seen x s → grant s.model (op.BackCheck (reg_of c field)) ≡ Ok 0
      → Performs s new (op.BackCheck (reg_of c field)) e
      → Seen (checked_behind flaw p x) new × (differs_behind x ≡ true → IsNamedBy c field e)
  pub writes_behind : (x : Sides) (s new : Scene) (e : Event) (value : ℕ) → Seen x s → grant s.model (op.BackWrite (reg_of c field) value) ≡ Ok 0
      → Performs s new (op.BackWrite (reg_of c field) value) e
      → Seen (written_behind flaw p (bit value b) x) new
  pub others : (x : Sides) (s new : Scene) (e : Event) (o : Op) (q : ℕ) → (reg_of c field ≡ q → ⊥) → Reaches o q → HasNumbers c (length l.maps) o → Seen x s
      → Performs s new o e → Seen x new

mirrored_fits : (m : ModelData) (reg : ℕ) → IsModel m → reg < length m.chip.regs → nat_lt (mirrored_of m.mirror reg) (256 ^ size_of m.chip reg) ≡ true
mirrored_fits m reg ok inside = lt-ltb (mirrored_of m.mirror reg) (256 ^ size_of m.chip reg) (omega (arith, (ok.mirror.mirrored reg inside).fits, bytes_bits (size_of m.chip reg)))

-- a further check that reads what is believed leaves what the first one left
after_again : (p : Policy) (v : Bool) → after_read p (after_read p v) ≡ after_read p v
after_again Ro v = refl
after_again _ v = refl

read_again : (f : BitFlaw) (p : Policy) (v : Bool) → held_read f p (held_read f p v) ≡ held_read f p v
read_again (sticks u) p v = refl
read_again hears_nothing p v = after_again p v
read_again (goes_by q) p v = after_again q v

alike_by : (x y : Bool) → either_alone x y ≡ false → x ≡ y
alike_by true true so = refl
alike_by true false so = absurd (cc)
alike_by false true so = absurd (cc)
alike_by false false so = refl

checked_again : (f : BitFlaw) (p : Policy) (y : Sides) → differs f (checked f p y) ≡ false → checked f p (checked f p y) ≡ checked f p y
checked_again f p y alike =
    let held = held_read f p y.held in
    let learned : after_read p (answered f held) ≡ after_read p (answered f y.held) =
    ap (after_read p) (alike_by (answered f held) (after_read p (answered f y.held)) alike) ∙ after_again p (answered f y.held) in
    ap (λ h. let x : Sides = record y { held = h; believed = after_read p (answered f held) } in x) (read_again f p y.held)
    ∙ ap (λ b. let x : Sides = record y { held = held; believed = b } in x) learned

module _ (m : ModelData) (field b : ℕ) (flaw : BitFlaw) (Seen : Sides → Scene → Type 0) (ok : IsModel m) (reg_in : reg_of m.chip field < length m.chip.regs)
    (low : b < 8 * size_of m.chip (reg_of m.chip field))
    (acts : ActsSo m.chip m.layout field b flaw (field_of m.chip field).shape.policy Seen) where
  abbrev named : Event → Type 0
  named = IsNamedBy m.chip field

  abbrev reg : ℕ
  reg = reg_of m.chip field

  abbrev p : Policy
  p = (field_of m.chip field).shape.policy

  abbrev maps : ℕ
  maps = length m.layout.maps

  abbrev goes : (From To : Scene → Type 0) → Plan → Type 0
  goes From To plan = Leads From To (IsNamedBy m.chip field) plan

  map_in : (place : ℕ) → place < length m.layout.places → map_at m.layout place < length m.layout.maps
  map_in place there = (ok.layout.each_place place there).map

  -- ---- other registers

  other_step : (x : Sides) (q : ℕ) (o : Op) (rest : Plan) → (reg_of m.chip field ≡ q → ⊥) → Reaches o q → HasNumbers m.chip (length m.layout.maps) o
      → goes (Seen x) (Seen x) rest → goes (Seen x) (Seen x) (step o rest)
  other_step x q o rest other reaches numbers more =
      leads_step named (Seen x) (Seen x) (Seen x) o rest (λ s new e h performs. inr (acts.others x s new e o q other reaches numbers h performs)) more

  module _ (x : Sides) (q place : ℕ) (other : reg_of m.chip field ≡ q → ⊥) (inside : q < length m.chip.regs) (there : place < length m.layout.places) where
    numbers : (q < length m.chip.regs) × (map_at m.layout place < length m.layout.maps)
    numbers = (inside, map_in place there)

    bash_other : (j : ℕ) → goes (Seen x) (Seen x) (bash_once q (map_at m.layout place) j)
    bash_other j s new told h run =
        let map = Some (map_at m.layout place) in
        other_step x q (op.Write q map (bit_xor (mirrored_of s.model.mirror q) (2 ^ j))) (step (op.Check q map) stop) other refl numbers
        (other_step x q (op.Check q map) stop other refl numbers (leads_stop named (Seen x))) s new told h run

    access_other : goes (Seen x) (Seen x) (access_at m.chip q (map_at m.layout place))
    access_other s new told h run =
        let map = Some (map_at m.layout place) in
        let value = mirrored_of s.model.mirror q in
        let fourth = step (op.Check q map) stop in
        let third = step (op.BackWrite q value) fourth in
        other_step x q (op.Write q map (turned_round m.chip (Reg q) value)) (step (op.BackCheck q) third) other refl numbers
        (other_step x q (op.BackCheck q) third other refl inside
        (other_step x q (op.BackWrite q value) fourth other refl inside
        (other_step x q (op.Check q map) stop other refl numbers (leads_stop named (Seen x))))) s new told h run

    share_other : goes (Seen x) (Seen x) (share_at m.chip m.layout q place)
    share_other s new told h run =
        let map = Some (map_at m.layout place) in
        let value = mirrored_of s.model.mirror q in
        other_step x q (op.Write q map (turned_round m.chip (Reg q) value)) (each_below (length m.layout.places) (check_other m.layout q place)) other refl numbers
        (leads_all named (Seen x) (length m.layout.places) (check_other m.layout q place)
        (λ k under. leads_if named (Seen x) (not (k == place) && (is_of m.layout k (Reg q) && may_read m.layout k)) (check_at m.layout q k)
        (λ so. other_step x q (op.Check q (Some (map_at m.layout k))) stop other refl (inside, map_in k under) (leads_stop named (Seen x))))) s new told h run

    place_other : (which : Sequence) → (which ≡ BitBash) ⊎ ((which ≡ Access) ⊎ (which ≡ Shared)) → goes (Seen x) (Seen x) (at_place which m.chip m.layout q place)
    place_other which (inl bash) =
        subst (λ w. goes (Seen x) (Seen x) (at_place w m.chip m.layout q place)) (sym bash)
        (leads_all named (Seen x) (8 * size_of m.chip q) (bash_bit m.chip q (map_at m.layout place))
        (λ j under. leads_if named (Seen x) (is_bit_compared m.chip q j) (followed_by (bash_once q (map_at m.layout place) j) (bash_once q (map_at m.layout place) j))
        (λ so. leads_both named (Seen x) (Seen x) (Seen x) (bash_once q (map_at m.layout place) j) (bash_once q (map_at m.layout place) j) (bash_other j) (bash_other j))))
    place_other which (inr (inl access)) = subst (λ w. goes (Seen x) (Seen x) (at_place w m.chip m.layout q place)) (sym access) access_other
    place_other which (inr (inr shared)) = subst (λ w. goes (Seen x) (Seen x) (at_place w m.chip m.layout q place)) (sym shared) share_other

  all_other : (x : Sides) (which : Sequence) (block : Option ℕ) (q : ℕ) → (which ≡ BitBash) ⊎ ((which ≡ Access) ⊎ (which ≡ Shared)) → (reg_of m.chip field ≡ q → ⊥)
      → q < length m.chip.regs → goes (Seen x) (Seen x) (visit_all which m.chip m.layout block q)
  all_other x which block q kind other inside =
      leads_if named (Seen x) (is_chosen which m.chip m.layout block q) (each_below (length m.layout.places) (visit which m.chip m.layout q))
      (λ chosen. leads_all named (Seen x) (length m.layout.places) (visit which m.chip m.layout q)
      (λ place there. leads_if named (Seen x) (is_visited which m.layout q place) (at_place which m.chip m.layout q place)
      (λ visited. place_other x q place other inside there which kind)))

  -- a sequence that finds it in its own register
  walk_finds : (x : Sides) (which : Sequence) (block : Option ℕ) → (which ≡ BitBash) ⊎ ((which ≡ Access) ⊎ (which ≡ Shared))
      → each_below (length m.chip.regs) (visit_all which m.chip m.layout block) ≡ walk which m.chip m.layout block
      → goes (Seen x) Nothing (visit_all which m.chip m.layout block (reg_of m.chip field)) → Finds (Seen x) (IsNamedBy m.chip field) (walk which m.chip m.layout block)
  walk_finds x which block kind same finds =
      subst (Finds (Seen x) named) same
      (leads_finds named (Seen x) (each_below (length m.chip.regs) (visit_all which m.chip m.layout block))
      (leads_at named (Seen x) Nothing (length m.chip.regs) reg (visit_all which m.chip m.layout block) reg_in
      (λ q below. all_other x which block q kind (λ own. omega (arith, own, below)) (omega (arith, below, reg_in))) finds
      (λ q above under. leads_from_none named Nothing (visit_all which m.chip m.layout block q))))

  -- ---- this register

  module _ (place : ℕ) (there : place < length m.layout.places) (mine : is_of m.layout place (Reg (reg_of m.chip field)) ≡ true) where
    own_place : IsPlaceOf m.chip m.layout place (Reg (reg_of m.chip field))
    own_place = is_place m.chip m.layout place (Reg (reg_of m.chip field)) ok.layout ok.built there mine

    own_numbers : (reg_of m.chip field < length m.chip.regs) × (map_at m.layout place < length m.layout.maps)
    own_numbers = (reg_in, map_in place there)

    write_leads : (To : Scene → Type 0) (x y : Sides) (value : ℕ) (rest : Plan) → may_write m.layout place ≡ true
        → nat_lt value (256 ^ size_of m.chip (reg_of m.chip field)) ≡ true → written flaw (field_of m.chip field).shape.policy (bit value b) x ≡ y
        → goes (Seen y) To rest → goes (Seen x) To (step (op.Write (reg_of m.chip field) (Some (map_at m.layout place)) value) rest)
    write_leads To x y value rest right fits same more =
        leads_step named (Seen x) (Seen y) To (op.Write reg (Some (map_at m.layout place)) value) rest
        (λ s new e h performs.
        let has = acts.parts x s h in
        let granted : grant s.model (op.Write reg (Some (map_at m.layout place)) value) ≡ Ok place =
        met _ place _ TooWide (way_to m.chip m.layout place (Reg reg) true own_place right s.model has.layout)
        (subst (λ c. nat_lt value (256 ^ size_of c (reg_of m.chip field)) ≡ true) (sym has.chip) fits) in
        inr (subst (λ z. Seen z new) same (acts.writes x s new e (Some (map_at m.layout place)) value place h own_numbers granted performs))) more

    check_done : (x : Sides) (s new : Scene) (e : Event) → may_read m.layout place ≡ true → Seen x s
        → Performs s new (op.Check (reg_of m.chip field) (Some (map_at m.layout place))) e
        → Seen (checked flaw (field_of m.chip field).shape.policy x) new × (differs flaw x ≡ true → IsNamedBy m.chip field e)
    check_done x s new e right h performs =
        let has = acts.parts x s h in
        acts.checks x s new e (Some (map_at m.layout place)) place h own_numbers
        ((check_is m.chip m.layout reg place own_place right).granted s.model has.chip has.layout) performs

    check_leads : (To : Scene → Type 0) (x : Sides) (rest : Plan) → may_read m.layout place ≡ true → goes (Seen (checked flaw (field_of m.chip field).shape.policy x)) To rest
        → goes (Seen x) To (step (op.Check (reg_of m.chip field) (Some (map_at m.layout place))) rest)
    check_leads To x rest right more =
        leads_step named (Seen x) (Seen (checked flaw p x)) To (op.Check reg (Some (map_at m.layout place))) rest
        (λ s new e h performs. inr (check_done x s new e right h performs).0) more

    check_finds : (To : Scene → Type 0) (x : Sides) (rest : Plan) → may_read m.layout place ≡ true → differs flaw x ≡ true
        → goes (Seen x) To (step (op.Check (reg_of m.chip field) (Some (map_at m.layout place))) rest)
    check_finds To x rest right shown =
        leads_step named (Seen x) Nothing To (op.Check reg (Some (map_at m.layout place))) rest
        (λ s new e h performs. inl ((check_done x s new e right h performs).1 shown)) (leads_from_none named To rest)

  -- the value that is believed fits, and so does the one with a bit turned round
  believed_fits : (x : Sides) (s : Scene) → Seen x s → nat_lt (mirrored_of s.model.mirror (reg_of m.chip field)) (256 ^ size_of m.chip (reg_of m.chip field)) ≡ true
  believed_fits x s h =
      let has = acts.parts x s h in
      subst (λ c. nat_lt (mirrored_of s.model.mirror (reg_of m.chip field)) (256 ^ size_of c (reg_of m.chip field)) ≡ true) has.chip
      (mirrored_fits s.model reg has.model (subst (λ c. reg_of m.chip field < length c.regs) (sym has.chip) reg_in))

  turned_value : (x : Sides) (s : Scene) → Seen x s
      → bit (turned_round m.chip (Reg (reg_of m.chip field)) (mirrored_of s.model.mirror (reg_of m.chip field))) b ≡ not x.believed
  turned_value x s h =
      let has = acts.parts x s h in
      subst (λ c. reg_of m.chip field < length c.regs → b < 8 * size_of c (reg_of m.chip field)
      → bit (turned_round c (Reg (reg_of m.chip field)) (mirrored_of s.model.mirror (reg_of m.chip field))) b ≡ not (bit (mirrored_of s.model.mirror (reg_of m.chip field)) b)) has.chip
      (λ inside under. turned_there s.model reg b has.model inside under) reg_in low
      ∙ ap not (acts.believes x s h)

  bashed_value : (x : Sides) (s : Scene) (j : ℕ) → j < 8 * size_of m.chip (reg_of m.chip field) → Seen x s
      → nat_lt (bit_xor (mirrored_of s.model.mirror (reg_of m.chip field)) (2 ^ j)) (256 ^ size_of m.chip (reg_of m.chip field)) ≡ true
  bashed_value x s j under h =
      let has = acts.parts x s h in
      subst (λ c. reg_of m.chip field < length c.regs → j < 8 * size_of c (reg_of m.chip field)
      → nat_lt (bit_xor (mirrored_of s.model.mirror (reg_of m.chip field)) (2 ^ j)) (256 ^ size_of c (reg_of m.chip field)) ≡ true) has.chip
      (λ inside under. bashed_fits s.model reg j has.model inside under) reg_in under

  -- ---- bit bash

  abbrev after_once : Sides → Sides
  after_once x = checked flaw (field_of m.chip field).shape.policy (turned flaw (field_of m.chip field).shape.policy x)

  abbrev Some_sides : Scene → Type 0
  Some_sides s = (x : Sides) × Seen x s

  module _ (place : ℕ) (there : place < length m.layout.places) (mine : is_of m.layout place (Reg (reg_of m.chip field)) ≡ true)
      (reads : may_read m.layout place ≡ true) (writes : may_write m.layout place ≡ true) where
    once_goes : (x : Sides) → goes (Seen x) (Seen (after_once x)) (bash_once (reg_of m.chip field) (map_at m.layout place) b)
    once_goes x s new told h run =
        let v = mirrored_of s.model.mirror reg in
        write_leads place there mine (Seen (after_once x)) x (turned flaw p x) (bit_xor v (2 ^ b)) (step (op.Check reg (Some (map_at m.layout place))) stop) writes
        (bashed_value x s b low h) (ap (λ w. written flaw p w x) (turned_bit v b ∙ ap not (acts.believes x s h)))
        (check_leads place there mine (Seen (after_once x)) (turned flaw p x) stop reads (leads_stop named (Seen (after_once x)))) s new told h run

    once_finds : (x : Sides) → differs flaw (turned flaw (field_of m.chip field).shape.policy x) ≡ true
        → goes (Seen x) Nothing (bash_once (reg_of m.chip field) (map_at m.layout place) b)
    once_finds x shown s new told h run =
        let v = mirrored_of s.model.mirror reg in
        write_leads place there mine Nothing x (turned flaw p x) (bit_xor v (2 ^ b)) (step (op.Check reg (Some (map_at m.layout place))) stop) writes
        (bashed_value x s b low h) (ap (λ w. written flaw p w x) (turned_bit v b ∙ ap not (acts.believes x s h)))
        (check_finds place there mine Nothing (turned flaw p x) stop reads shown) s new told h run

    twice_finds : (x : Sides) → shows_twice flaw (field_of m.chip field).shape.policy x ≡ true
        → goes (Seen x) Nothing (followed_by (bash_once (reg_of m.chip field) (map_at m.layout place) b) (bash_once (reg_of m.chip field) (map_at m.layout place) b))
    twice_finds x shown =
        let once = bash_once reg (map_at m.layout place) b in
        elim (or_cases (differs flaw (turned flaw p x)) (differs flaw (turned flaw p (after_once x))) shown) [
          | inl first ↦ leads_both named (Seen x) Nothing Nothing once once (once_finds x first) (leads_from_none named Nothing once)
          | inr second ↦ leads_both named (Seen x) (Seen (after_once x)) Nothing once once (once_goes x) (once_finds (after_once x) second)
        ]

    -- another bit is turned round
    other_goes : (j : ℕ) → j < 8 * size_of m.chip (reg_of m.chip field) → goes Some_sides Some_sides (bash_once (reg_of m.chip field) (map_at m.layout place) j)
    other_goes j under s new told (x, h) run =
        let v = mirrored_of s.model.mirror reg in
        let y = written flaw p (bit (bit_xor v (2 ^ j)) b) x in
        write_leads place there mine Some_sides x y (bit_xor v (2 ^ j)) (step (op.Check reg (Some (map_at m.layout place))) stop) writes (bashed_value x s j under h) refl
        (check_leads place there mine Some_sides y stop reads (λ s new told h run. leads_stop named Some_sides s new told (checked flaw p y, h) run)) s new told h run

    any_finds : ((y : Sides) → shows_twice flaw (field_of m.chip field).shape.policy y ≡ true)
        → goes Some_sides Nothing (followed_by (bash_once (reg_of m.chip field) (map_at m.layout place) b) (bash_once (reg_of m.chip field) (map_at m.layout place) b))
    any_finds shown s new told (x, h) run = twice_finds x (shown x) s new told h run

    -- a visit
    lowest_finds : (x : Sides) → is_bit_compared m.chip (reg_of m.chip field) b ≡ true → IsLowest m.chip (reg_of m.chip field) b
        → shows_twice flaw (field_of m.chip field).shape.policy x ≡ true → goes (Seen x) Nothing (at_place BitBash m.chip m.layout (reg_of m.chip field) place)
    lowest_finds x compared lowest shown =
        let map = map_at m.layout place in
        let both = λ (j : ℕ). followed_by (bash_once reg map j) (bash_once reg map j) in
        leads_at named (Seen x) Nothing (8 * size_of m.chip reg) b (bash_bit m.chip reg map) low
        (λ j below. leads_off named (Seen x) (is_bit_compared m.chip reg j) (both j) (lowest j below))
        (leads_on named (Seen x) Nothing (is_bit_compared m.chip reg b) (both b) compared (twice_finds x shown))
        (λ j above under. leads_from_none named Nothing (bash_bit m.chip reg map j))

    each_finds : is_bit_compared m.chip (reg_of m.chip field) b ≡ true → ((y : Sides) → shows_twice flaw (field_of m.chip field).shape.policy y ≡ true)
        → goes Some_sides Nothing (at_place BitBash m.chip m.layout (reg_of m.chip field) place)
    each_finds compared shown =
        let map = map_at m.layout place in
        let once = bash_once reg map in
        leads_at named Some_sides Nothing (8 * size_of m.chip reg) b (bash_bit m.chip reg map) low
        (λ j below. leads_if named Some_sides (is_bit_compared m.chip reg j) (followed_by (once j) (once j))
        (λ so. let under : j < 8 * size_of m.chip (reg_of m.chip field) = omega (arith, below, low) in
        leads_both named Some_sides Some_sides Some_sides (once j) (once j) (other_goes j under) (other_goes j under)))
        (leads_on named Some_sides Nothing (is_bit_compared m.chip reg b) (followed_by (once b) (once b)) compared (any_finds shown))
        (λ j above under. leads_from_none named Nothing (bash_bit m.chip reg map j))

  -- ---- a visit at each of some places

  -- where a visit finds it at each place, the visit of the register does
  each_place : (From : Scene → Type 0) (which : Sequence) (block : Option ℕ) (place : ℕ) → IsVisited which m.chip m.layout block (reg_of m.chip field) place
      → ((k : ℕ) → k < length m.layout.places → is_visited which m.layout (reg_of m.chip field) k ≡ true → goes From Nothing (at_place which m.chip m.layout (reg_of m.chip field) k))
      → goes From Nothing (visit_all which m.chip m.layout block (reg_of m.chip field))
  each_place From which block place at finds =
      let visits = visit which m.chip m.layout reg in
      leads_on named From Nothing (is_chosen which m.chip m.layout block reg) (each_below (length m.layout.places) visits) at.chosen
      (leads_at named From Nothing (length m.layout.places) place visits at.place_in
      (λ k below. leads_if named From (is_visited which m.layout reg k) (at_place which m.chip m.layout reg k)
      (λ so. leads_found named From From (at_place which m.chip m.layout reg k) (finds k (omega (arith, below, at.place_in)) so)))
      (leads_on named From Nothing (is_visited which m.layout reg place) (at_place which m.chip m.layout reg place) at.visited (finds place at.place_in at.visited))
      (λ k above under. leads_from_none named Nothing (visits k)))

  abbrev has_both : ℕ → Bool
  has_both k = may_read m.layout k && may_write m.layout k

  bash_finds : (x : Sides) (block : Option ℕ) (place : ℕ) → is_bit_compared m.chip (reg_of m.chip field) b ≡ true
      → (IsLowest m.chip (reg_of m.chip field) b × (shows_twice flaw (field_of m.chip field).shape.policy x ≡ true))
      ⊎ ((y : Sides) → shows_twice flaw (field_of m.chip field).shape.policy y ≡ true)
      → IsVisited BitBash m.chip m.layout block (reg_of m.chip field) place → goes (Seen x) Nothing (visit_all BitBash m.chip m.layout block (reg_of m.chip field))
  bash_finds x block place compared (inl first) at =
      each_place (Seen x) BitBash block place at
      (λ k there visited.
      let both = and_parts (is_of m.layout k (Reg reg)) (has_both k) visited in
      let rights = and_parts (may_read m.layout k) (may_write m.layout k) both.1 in
      lowest_finds k there both.0 rights.0 rights.1 x compared first.0 first.1)
  bash_finds x block place compared (inr shown) at =
      λ s new told h run.
      each_place Some_sides BitBash block place at
      (λ k there visited.
      let both = and_parts (is_of m.layout k (Reg reg)) (has_both k) visited in
      let rights = and_parts (may_read m.layout k) (may_write m.layout k) both.1 in
      each_finds k there both.0 rights.0 rights.1 compared shown) s new told (x, h) run

  -- ---- access

  -- by the backdoor it is granted
  behind_granted : (x : Sides) (s : Scene) → unwrap_or (backdoor_of m.chip (Reg (reg_of m.chip field))) false ≡ true → Seen x s
      → grant s.model (op.BackCheck (reg_of m.chip field)) ≡ Ok 0
  behind_granted x s behind h =
      ap (λ c. if unwrap_or (backdoor_of c (Reg (reg_of m.chip field))) false then Ok 0 else Err NoBackdoor) (acts.parts x s h).chip
      ∙ ap (λ b. if b then Ok 0 else Err NoBackdoor) behind

  module _ (place : ℕ) (there : place < length m.layout.places) (mine : is_of m.layout place (Reg (reg_of m.chip field)) ≡ true)
      (reads : may_read m.layout place ≡ true) (writes : may_write m.layout place ≡ true)
      (behind : unwrap_or (backdoor_of m.chip (Reg (reg_of m.chip field))) false ≡ true) where
    -- the value is deposited, and checked over the bus
    back_finds : (y : Sides) (value : ℕ) → nat_lt value (256 ^ size_of m.chip (reg_of m.chip field)) ≡ true
        → differs flaw (written_behind flaw (field_of m.chip field).shape.policy (bit value b) y) ≡ true
        → goes (Seen y) Nothing (step (op.BackWrite (reg_of m.chip field) value) (step (op.Check (reg_of m.chip field) (Some (map_at m.layout place))) stop))
    back_finds y value fits shown =
        let z = written_behind flaw p (bit value b) y in
        let last = step (op.Check reg (Some (map_at m.layout place))) stop in
        leads_step named (Seen y) (Seen z) Nothing (op.BackWrite reg value) last
        (λ s new e h performs.
        let granted : grant s.model (op.BackWrite reg value) ≡ Ok 0 =
        met _ 0 _ TooWide (behind_granted y s behind h)
        (subst (λ c. nat_lt value (256 ^ size_of c (reg_of m.chip field)) ≡ true) (sym (acts.parts y s h).chip) fits) in
        inr (acts.writes_behind y s new e value h granted performs))
        (check_finds place there mine Nothing z stop reads shown)

    access_finds : (x : Sides) → shows_behind flaw (field_of m.chip field).shape.policy x ≡ true
        → goes (Seen x) Nothing (access_at m.chip (reg_of m.chip field) (map_at m.layout place))
    access_finds x shown s new told h run =
        let v = mirrored_of s.model.mirror reg in
        let y = turned flaw p x in
        let map = Some (map_at m.layout place) in
        let third = step (op.BackWrite reg v) (step (op.Check reg map) stop) in
        let behind_it : goes (Seen y) Nothing (step (op.BackCheck reg) third) =
        elim (or_cases (differs_behind y) (differs flaw (written_behind flaw p x.believed (checked_behind flaw p y))) shown) [
          | inl first ↦
              leads_step named (Seen y) Nothing Nothing (op.BackCheck reg) third
              (λ s new e h performs. inl ((acts.checks_behind y s new e h (behind_granted y s behind h) performs).1 first)) (leads_from_none named Nothing third)
          | inr second ↦
              leads_step named (Seen y) (Seen (checked_behind flaw p y)) Nothing (op.BackCheck reg) third
              (λ s new e h performs. inr (acts.checks_behind y s new e h (behind_granted y s behind h) performs).0)
              (back_finds (checked_behind flaw p y) v (believed_fits x s h)
              (subst (λ w. differs flaw (written_behind flaw p w (checked_behind flaw p y)) ≡ true) (sym (acts.believes x s h)) second))
        ] in
        write_leads place there mine Nothing x y (turned_round m.chip (Reg reg) v) (step (op.BackCheck reg) third) writes (turned_fits m.chip (Reg reg) v)
        (ap (λ w. written flaw p w x) (turned_value x s h)) behind_it s new told h run

  access_all : (x : Sides) (block : Option ℕ) (place : ℕ) → shows_behind flaw (field_of m.chip field).shape.policy x ≡ true
      → IsVisited Access m.chip m.layout block (reg_of m.chip field) place → goes (Seen x) Nothing (visit_all Access m.chip m.layout block (reg_of m.chip field))
  access_all x block place shown at =
      each_place (Seen x) Access block place at
      (λ k there visited.
      let both = and_parts (is_of m.layout k (Reg reg)) (has_both k) visited in
      let rights = and_parts (may_read m.layout k) (may_write m.layout k) both.1 in
      access_finds k there both.0 rights.0 rights.1 (behind_of m.chip m.layout block reg at.chosen) x shown)

  -- ---- shared

  -- seen so, or after a check
  abbrev maybe_checked : Sides → Scene → Type 0
  maybe_checked y s = Seen y s ⊎ Seen (checked flaw (field_of m.chip field).shape.policy y) s

  -- a check finds it, or leaves what a check leaves
  check_again : (y : Sides) (k : ℕ) → k < length m.layout.places → is_of m.layout k (Reg (reg_of m.chip field)) ≡ true → may_read m.layout k ≡ true
      → goes (maybe_checked y) (Seen (checked flaw (field_of m.chip field).shape.policy y)) (check_at m.layout (reg_of m.chip field) k)
  check_again y k there mine reads s new told (inl first) run =
      check_leads k there mine (Seen (checked flaw p y)) y stop reads (leads_stop named (Seen (checked flaw p y))) s new told first run
  check_again y k there mine reads s new told (inr again) run =
      elim (cases_Bool (differs flaw (checked flaw p y))) [
        | inl shown ↦ check_finds k there mine (Seen (checked flaw p y)) (checked flaw p y) stop reads shown s new told again run
        | inr alike ↦
            subst (λ z. HasEvent named told ⊎ Seen z new) (checked_again flaw p y alike)
            (check_leads k there mine (Seen (checked flaw p (checked flaw p y))) (checked flaw p y) stop reads
            (leads_stop named (Seen (checked flaw p (checked flaw p y)))) s new told again run)
      ]

  -- a place that may be written, and another one that may be read
  module _ (place other : ℕ) (place_in : place < length m.layout.places) (other_in : other < length m.layout.places) (apart : place ≢ other)
      (mine : is_of m.layout place (Reg (reg_of m.chip field)) ≡ true) (its : is_of m.layout other (Reg (reg_of m.chip field)) ≡ true)
      (writes : may_write m.layout place ≡ true) (reads : may_read m.layout other ≡ true) where
    abbrev read_there : ℕ → Bool
    read_there k = not (k == place) && (is_of m.layout k (Reg (reg_of m.chip field)) && may_read m.layout k)

    read_other : read_there other ≡ true
    read_other =
        both_true (not (other == place)) (is_of m.layout other (Reg reg) && may_read m.layout other)
        (ap not (false_from_ne_true (other == place) (λ same. apart (sym (eqb-true other place same)))))
        (both_true (is_of m.layout other (Reg reg)) (may_read m.layout other) its reads)

    rights_of : (k : ℕ) → read_there k ≡ true → (is_of m.layout k (Reg (reg_of m.chip field)) ≡ true) × (may_read m.layout k ≡ true)
    rights_of k so =
        and_parts (is_of m.layout k (Reg reg)) (may_read m.layout k) (and_parts (not (k == place)) (is_of m.layout k (Reg reg) && may_read m.layout k) so).1

    -- a write here, and the checks at the others
    share_leads : (To : Scene → Type 0) (x : Sides)
        → goes (Seen (turned flaw (field_of m.chip field).shape.policy x)) To (each_below (length m.layout.places) (check_other m.layout (reg_of m.chip field) place))
        → goes (Seen x) To (share_at m.chip m.layout (reg_of m.chip field) place)
    share_leads To x more s new told h run =
        let v = mirrored_of s.model.mirror reg in
        write_leads place place_in mine To x (turned flaw p x) (turned_round m.chip (Reg reg) v) (each_below (length m.layout.places) (check_other m.layout reg place)) writes
        (turned_fits m.chip (Reg reg) v) (ap (λ w. written flaw p w x) (turned_value x s h)) more s new told h run

    share_goes : (x : Sides) → goes (Seen x) (Seen (after_once x)) (share_at m.chip m.layout (reg_of m.chip field) place)
    share_goes x =
        let y = turned flaw p x in
        let maybe = maybe_checked y in
        let after = Seen (checked flaw p y) in
        let checks = check_other m.layout reg place in
        share_leads after x (λ s new told h run.
        leads_at named maybe after (length m.layout.places) other checks other_in
        (λ k below. leads_if named maybe (read_there k) (check_at m.layout reg k)
        (λ so. let rights = rights_of k so in
        leads_wider named maybe after maybe (check_at m.layout reg k) (λ s after. inr after) (check_again y k (omega (arith, below, other_in)) rights.0 rights.1)))
        (leads_on named maybe after (read_there other) (check_at m.layout reg other) read_other (check_again y other other_in its reads))
        (λ k above under. leads_if named after (read_there k) (check_at m.layout reg k)
        (λ so. let rights = rights_of k so in
        λ s new told one run. check_again y k under rights.0 rights.1 s new told (inr one) run))
        s new told (inl h) run)

    share_finds : (x : Sides) → differs flaw (turned flaw (field_of m.chip field).shape.policy x) ≡ true
        → goes (Seen x) Nothing (share_at m.chip m.layout (reg_of m.chip field) place)
    share_finds x shown =
        let y = turned flaw p x in
        let checks = check_other m.layout reg place in
        share_leads Nothing x
        (leads_at named (Seen y) Nothing (length m.layout.places) other checks other_in
        (λ k below. leads_if named (Seen y) (read_there k) (check_at m.layout reg k)
        (λ so. let rights = rights_of k so in check_finds k (omega (arith, below, other_in)) rights.0 (Seen y) y stop rights.1 shown))
        (leads_on named (Seen y) Nothing (read_there other) (check_at m.layout reg other) read_other (check_finds other other_in its Nothing y stop reads shown))
        (λ k above under. leads_from_none named Nothing (checks k)))

  -- two places that may be read and written, in their order, and whatever others
  module _ (i k : ℕ) (first : i < k) (k_in : k < length m.layout.places) (mine : is_of m.layout i (Reg (reg_of m.chip field)) ≡ true)
      (its : is_of m.layout k (Reg (reg_of m.chip field)) ≡ true) (here : (may_read m.layout i ≡ true) × (may_write m.layout i ≡ true))
      (there : (may_read m.layout k ≡ true) × (may_write m.layout k ≡ true)) where
    abbrev visited_at : ℕ → Bool
    visited_at j = is_visited Shared m.layout (reg_of m.chip field) j

    i_in : i < length m.layout.places
    i_in = omega (arith, first, k_in)

    -- one of the two may be read beside any other place
    visit_goes : (j : ℕ) → j < length m.layout.places → visited_at j ≡ true → (x : Sides)
        → goes (Seen x) (Seen (after_once x)) (share_at m.chip m.layout (reg_of m.chip field) j)
    visit_goes j j_in so x =
        let both = and_parts (is_of m.layout j (Reg reg)) (may_write m.layout j) so in
        elim (cases_eq j i) [
          | inl same ↦ share_goes j k j_in k_in (λ equal. omega (arith, equal, same, first)) both.0 its both.1 there.0 x
          | inr away ↦ share_goes j i j_in i_in away both.0 mine both.1 here.0 x
        ]

    visit_finds : (j : ℕ) → j < length m.layout.places → visited_at j ≡ true → (x : Sides) → differs flaw (turned flaw (field_of m.chip field).shape.policy x) ≡ true
        → goes (Seen x) Nothing (share_at m.chip m.layout (reg_of m.chip field) j)
    visit_finds j j_in so x shown =
        let both = and_parts (is_of m.layout j (Reg reg)) (may_write m.layout j) so in
        elim (cases_eq j i) [
          | inl same ↦ share_finds j k j_in k_in (λ equal. omega (arith, equal, same, first)) both.0 its both.1 there.0 x shown
          | inr away ↦ share_finds j i j_in i_in away both.0 mine both.1 here.0 x shown
        ]

    -- none of the places was visited yet, or one
    abbrev maybe_visited : Sides → Scene → Type 0
    maybe_visited x s = Seen x s ⊎ Seen (after_once x) s

    -- a visit finds it, or is the first
    either_visit : (x : Sides) → differs flaw (turned flaw (field_of m.chip field).shape.policy (after_once x)) ≡ true → (j : ℕ) → j < length m.layout.places → visited_at j ≡ true
        → goes (maybe_visited x) (Seen (after_once x)) (share_at m.chip m.layout (reg_of m.chip field) j)
    either_visit x shown j j_in so s new told (inl none) run = visit_goes j j_in so x s new told none run
    either_visit x shown j j_in so s new told (inr one) run =
        leads_found named (Seen (after_once x)) (Seen (after_once x)) (share_at m.chip m.layout reg j) (visit_finds j j_in so (after_once x) shown) s new told one run

    in_order : (x : Sides) (block : Option ℕ) → is_chosen Shared m.chip m.layout block (reg_of m.chip field) ≡ true
        → shows_twice flaw (field_of m.chip field).shape.policy x ≡ true → goes (Seen x) Nothing (visit_all Shared m.chip m.layout block (reg_of m.chip field))
    in_order x block chosen shown =
        let visits = visit Shared m.chip m.layout reg in
        let at = λ (j : ℕ). share_at m.chip m.layout reg j in
        let once = Seen (after_once x) in
        let seen_i : visited_at i ≡ true = both_true (is_of m.layout i (Reg reg)) (may_write m.layout i) mine here.1 in
        let seen_k : visited_at k ≡ true = both_true (is_of m.layout k (Reg reg)) (may_write m.layout k) its there.1 in
        leads_on named (Seen x) Nothing (is_chosen Shared m.chip m.layout block reg) (each_below (length m.layout.places) visits) chosen
        (elim (or_cases (differs flaw (turned flaw p x)) (differs flaw (turned flaw p (after_once x))) shown) [
          | inl now ↦
              leads_at named (Seen x) Nothing (length m.layout.places) i visits i_in
              (λ j below. leads_if named (Seen x) (visited_at j) (at j)
              (λ so. leads_found named (Seen x) (Seen x) (at j) (visit_finds j (omega (arith, below, i_in)) so x now)))
              (leads_on named (Seen x) Nothing (visited_at i) (at i) seen_i (visit_finds i i_in seen_i x now))
              (λ j above below. leads_from_none named Nothing (visits j))
          | inr later ↦
              λ s new told h run.
              leads_twice named (maybe_visited x) once Nothing (length m.layout.places) i k visits first k_in
              (λ j below. leads_if named (maybe_visited x) (visited_at j) (at j)
              (λ so. leads_wider named (maybe_visited x) once (maybe_visited x) (at j) (λ s after. inr after) (either_visit x later j (omega (arith, below, i_in)) so)))
              (leads_on named (maybe_visited x) once (visited_at i) (at i) seen_i (either_visit x later i i_in seen_i))
              (λ j above below. leads_if named once (visited_at j) (at j)
              (λ so. leads_found named once once (at j) (visit_finds j (omega (arith, below, k_in)) so (after_once x) later)))
              (leads_on named once Nothing (visited_at k) (at k) seen_k (visit_finds k k_in seen_k (after_once x) later))
              (λ j above below. leads_from_none named Nothing (visits j)) s new told (inl h) run
        ])

  share_all : (x : Sides) (block : Option ℕ) (place other : ℕ) → HasTwoPlaces m.layout (reg_of m.chip field) place other
      → shows_twice flaw (field_of m.chip field).shape.policy x ≡ true
      → IsVisited Shared m.chip m.layout block (reg_of m.chip field) place → goes (Seen x) Nothing (visit_all Shared m.chip m.layout block (reg_of m.chip field))
  share_all x block place other two shown at =
      let mine = (and_parts (is_of m.layout place (Reg reg)) (may_write m.layout place) at.visited).0 in
      elim (cases_lt place other) [
        | inl less ↦ in_order place other less two.other_in mine two.there.0 two.here (two.there.1, two.there.2) x block at.chosen shown
        | inr most ↦
            let less : other < place = omega (arith, most, two.apart) in
            in_order other place less at.place_in two.there.0 mine (two.there.1, two.there.2) two.here x block at.chosen shown
      ]

  -- ---- each sequence

  pub finds_by : (which : Sequence) (x : Sides) (block : Option ℕ) (place : ℕ) → is_bit_compared m.chip (reg_of m.chip field) b ≡ true
      → IsVisited which m.chip m.layout block (reg_of m.chip field) place
      → IsShown which m.chip m.layout (reg_of m.chip field) b place flaw (field_of m.chip field).shape.policy x
      → Finds (Seen x) (IsNamedBy m.chip field) (walk which m.chip m.layout block)
  finds_by HwReset x block place compared at shown = absurd shown
  finds_by BitBash x block place compared at shown = walk_finds x BitBash block (inl refl) refl (bash_finds x block place compared shown at)
  finds_by Access x block place compared at shown = walk_finds x Access block (inr (inl refl)) refl (access_all x block place shown at)
  finds_by Shared x block place compared at (other, two, shown) = walk_finds x Shared block (inr (inr refl)) refl (share_all x block place other two shown at)
  finds_by MemWalk x block place compared at shown = absurd shown

-- The access test over a deaf register: its first visit finds it, and those of other registers leave it as it is.
use Rattle.std.proofs.Common.{◌≡◌, ◌≢◌, ◌⊎◌, ℕ, ◌+◌, ◌-◌, ◌*◌, ◌<◌, Bool, true, false, not, ◌&&◌, List, [], ◌∷◌, length, Option, None, Some, Ok, Err}
use Rattle.std.proofs.Common.{if◌then◌else◌, refl, sym, ap, ◌∙◌, subst, inl, inr, arith}
use Rattle.std.specs.Prelude.{unwrap_or}
use Rattle.std.proofs.lemmas.Bool.{and_parts, cases_eq}
use Rattle.rl_policy.specs.Bits.{bit}
use Rattle.rl_policy.specs.Table.{after_write}
use Rattle.rl_bus.specs.declared.table.Cell.TheVariants as cell
use Rattle.rl_bus.specs.declared.table.ItemRow.{ItemRow}
use Rattle.rl_bus.specs.declared.table.StuckRow.{StuckRow}
use Rattle.rl_bus.specs.Setup.{Setup, stuck_at, is_deaf}
use Rattle.rl_model.specs.Rows.{FieldSeen, ChipData}
use Rattle.rl_model.specs.Chip.{IsSound as IsChip, backdoor_of}
use Rattle.rl_model.specs.Fields.{field_of, first_of, fields_of, field_in, policy_in, size_of}
use Rattle.rl_model.specs.declared.rows.Item.TheVariants.{Reg}
use Rattle.rl_map.specs.Layout.{LayoutData}
use Rattle.rl_map.specs.Tables.{setup_of}
use Rattle.rl_split.specs.Law.{no_flaws}
use Rattle.rl_split.specs.Step.{Register}
use Rattle.rl_mirror.specs.Mirror.{IsMirrorOf, mirrored_of, is_spent}
use Rattle.rl_mirror.proofs.FieldLemmas.{seated}
use Rattle.rl_mirror.proofs.MirrorLemmas.{place_of}
use Rattle.rl_access.specs.declared.event.Event.{Event}
use Rattle.rl_access.specs.declared.event.Op.TheVariants as op
use Rattle.rl_access.specs.declared.event.Refused.TheVariants.{NoBackdoor}
use Rattle.rl_access.specs.Call.{Scene, Performs}
use Rattle.rl_access.specs.Laws.{IsFoundOther, ChecksRegister}
use Rattle.rl_access.specs.Model.{ModelData, IsModel}
use Rattle.rl_access.specs.Operation.{reg_of}
use Rattle.rl_access.specs.Rules.{grant}
use Rattle.rl_access.proofs.Beliefs.{check_names}
use Rattle.rl_plain.specs.Agree.{believed}
use Rattle.rl_seq.specs.declared.sequence.Sequence.TheVariants.{Access}
use Rattle.rl_seq.specs.Choice.{is_of, may_read, may_write, is_reg_tested, has_writable_field, turned_round, exclusion_from}
use Rattle.rl_seq.specs.Plan.{stop, step, each_below}
use Rattle.rl_seq.specs.Sequences.{map_at, access_at, items_of, is_chosen, is_visited, at_place, visit, visit_all, walk}
use Rattle.rl_detect_laws.specs.Deaf.{deaf_items, IsTurned, DeafRegisterIsNamed}
use Rattle.rl_detect_laws.specs.Resets.{IsNamedBy}
use Rattle.rl_detect_laws.specs.Visited.{IsVisited}
use Rattle.rl_detect_laws.proofs.AccessTest.{Agreeing, write_agrees, check_agrees, back_write_agrees, back_check_agrees, back_checked, turned_there}
use Rattle.rl_detect_laws.proofs.Bashing.{IsStuckSetup, Holding, holding_first, write_done, written_there}
use Rattle.rl_detect_laws.proofs.BitBash.{IsBit, readable_there, parts_apart, the_bit, Keeps, Finds, keeps_stop, keeps_step, finds_if, Either, either_if, either_each, finds_among}
use Rattle.rl_detect_laws.proofs.Reaching.{IsPlaceOf, is_place, write_is}
use Rattle.rl_detect_laws.proofs.StuckBit.{unstuck, IsFirm}
use Rattle.rl_plain.proofs.NothingFound.{shows}

-- ---- the deaf register

-- a visit of it, where it is believed so
record IsDeafVisit (c : ChipData) (l : LayoutData) (t : Setup) (field b i : ℕ) (v : Bool) (kept : Register) : Type 0 where
  is : IsBit c field (reg_of c field) (field - first_of c (reg_of c field)) b i
  setup : IsStuckSetup c l t (reg_of c field) b v
  size : b < 8 * size_of c (reg_of c field)
  believed_so : bit kept.bits b ≡ v
  turned : IsTurned (policy_in (fields_of c (reg_of c field)) (field - first_of c (reg_of c field))) v (kept.spent (field - first_of c (reg_of c field)))

turned_own : (m : ModelData) (c : ChipData) (reg b : ℕ) → IsModel m → m.chip ≡ c → reg < length c.regs → b < 8 * size_of c reg
    → bit (turned_round c (Reg reg) (mirrored_of m.mirror reg)) b ≡ not (bit (mirrored_of m.mirror reg) b)
turned_own m c reg b ok chip inside low =
    subst (λ x. reg < length x.regs → b < 8 * size_of x reg → bit (turned_round x (Reg reg) (mirrored_of m.mirror reg)) b ≡ not (bit (mirrored_of m.mirror reg) b)) chip
    (λ inside low. turned_there m reg b ok inside low) inside low

pub back_granted : (m : ModelData) (c : ChipData) (reg : ℕ) → m.chip ≡ c → unwrap_or (backdoor_of c (Reg reg)) false ≡ true → grant m (op.BackCheck reg) ≡ Ok 0
back_granted m c reg chip behind =
    ap (λ x. if unwrap_or (backdoor_of x (Reg reg)) false then Ok 0 else Err NoBackdoor) chip ∙ ap (λ b. if b then Ok 0 else Err NoBackdoor) behind

-- a check by the backdoor names the field where the bit is believed to be another one
named_back : (c : ChipData) (l : LayoutData) (t : Setup) (field b i : ℕ) (v : Bool) (kept : Register) (s new : Scene) (e : Event) → IsDeafVisit c l t field b i v kept
    → Holding c l t (reg_of c field) b v s → unwrap_or (backdoor_of c (Reg (reg_of c field))) false ≡ true → Performs s new (op.BackCheck (reg_of c field)) e
    → bit (mirrored_of s.model.mirror (reg_of c field)) b ≢ v → IsNamedBy c field e
named_back c l t field b i v kept s new e w h behind performs other =
    let reg = reg_of c field in
    let k = field - first_of c reg in
    let fs = fields_of c reg in
    let done = back_checked c l t reg k b v s new 0 e h w.is.low w.is.at (back_granted s.model c reg h.chip behind) performs in
    let read_so : bit done.read b ≡ v = done.bits ∙ shows (policy_in fs k) v (readable_there c field reg k b i w.is) in
    let found : IsFoundOther (field_of c field).shape done.read (mirrored_of s.model.mirror reg) = record {
      compared = w.is.compared;
      other = parts_apart c field reg k b i done.read (mirrored_of s.model.mirror reg) w.is (λ same. other (sym same ∙ read_so));
    } in
    let here : (k < length fs) × IsFoundOther (field_in fs k).shape done.read (mirrored_of s.model.mirror reg) =
    (w.is.inside, subst (λ (f : FieldSeen). IsFoundOther f.shape done.read (mirrored_of s.model.mirror reg)) (sym w.is.field_is) found) in
    let there : (k < length (fields_of s.model.chip reg)) × IsFoundOther (field_in (fields_of s.model.chip reg) k).shape done.read (mirrored_of s.model.mirror reg) =
    subst (λ (x : ChipData). (k < length (fields_of x reg)) × IsFoundOther (field_in (fields_of x reg) k).shape done.read (mirrored_of s.model.mirror reg)) (sym h.chip) here in
    record {
      check = subst (λ o. ChecksRegister o reg) (sym done.checks) refl;
      names = (check_names s new (op.BackCheck reg) e reg done.read k performs refl done.ends).1 there;
    }

own_finds : (c : ChipData) (l : LayoutData) (t : Setup) (field b i : ℕ) (v : Bool) (kept : Register) (place : ℕ) → IsDeafVisit c l t field b i v kept
    → IsPlaceOf c l place (Reg (reg_of c field)) → may_write l place ≡ true → map_at l place < length l.maps → unwrap_or (backdoor_of c (Reg (reg_of c field))) false ≡ true
    → Finds (Agreeing c l t (reg_of c field) b v kept) (IsNamedBy c field) (access_at c (reg_of c field) (map_at l place))
own_finds c l t field b i v kept place w at writes in_map behind s new [] h run = absurd run
own_finds c l t field b i v kept place w at writes in_map behind s new (x ∷ []) h (mid, first, rest) = absurd rest
own_finds c l t field b i v kept place w at writes in_map behind s new (x ∷ y ∷ told) h (mid, first, (last, second, rest)) =
    let reg = reg_of c field in
    let k = field - first_of c reg in
    let m = mirrored_of s.model.mirror reg in
    let value = turned_round c (Reg reg) m in
    let hold = h.holding in
    let numbers : (reg < length c.regs) × (map_at l place < length l.maps) = (w.is.reg_in, in_map) in
    let wrote = write_done c l s mid t reg b v reg (Some (map_at l place)) value place x.event w.setup hold numbers
    ((write_is c l reg place m at writes).granted s.model hold.chip hold.layout) first.performs in
    let built = subst (λ (x : ChipData). IsMirrorOf x s.model.mirror) hold.chip hold.model.mirror in
    let spent = (believed c s.model.mirror reg).spent k in
    let p = policy_in (fields_of c reg) k in
    let written : bit (mirrored_of mid.model.mirror reg) b ≡ after_write p v (not v) (kept.spent k) =
    written_there c reg k b value s.model.mirror mid.model.mirror (subst IsChip hold.chip hold.model.chip) w.is.reg_in built w.is.low w.is.at wrote.predicted
    ∙ ap (λ n. after_write p (bit m b) n spent) (turned_own s.model c reg b hold.model hold.chip w.is.reg_in w.size)
    ∙ ap (λ n. after_write p n (not n) spent) (ap (λ x. bit x b) (sym h.as_before.bits) ∙ w.believed_so)
    ∙ ap (after_write p v (not v)) (sym (h.as_before.marks k w.is.inside)) in
    inr (inl (named_back c l t field b i v kept mid last y.event w wrote.stands behind second.performs
    (λ same. w.turned (sym written ∙ same))))

-- ---- the plan of the sequence

other_keeps : (c : ChipData) (l : LayoutData) (t : Setup) (reg b : ℕ) (v : Bool) (kept : Register) (q map : ℕ) → IsStuckSetup c l t reg b v → q < length c.regs → map < length l.maps
    → (reg ≡ q → ⊥) → Keeps (Agreeing c l t reg b v kept) (access_at c q map)
other_keeps c l t reg b v kept q map is inside in_map other s new told h run =
    let numbers : (q < length c.regs) × (map < length l.maps) = (inside, in_map) in
    let m = mirrored_of s.model.mirror q in
    let stands = Agreeing c l t reg b v kept in
    let fourth = step (op.Check q (Some map)) stop in
    let third = step (op.BackWrite q m) fourth in
    let second = step (op.BackCheck q) third in
    keeps_step stands (op.Write q (Some map) (turned_round c (Reg q) m)) second (write_agrees c l t reg b v kept q (Some map) (turned_round c (Reg q) m) is numbers other)
    (keeps_step stands (op.BackCheck q) third (back_check_agrees c l t reg b v kept q inside other)
    (keeps_step stands (op.BackWrite q m) fourth (back_write_agrees c l t reg b v kept q m inside other)
    (keeps_step stands (op.Check q (Some map)) stop (check_agrees c l t reg b v kept q (Some map) is numbers other) (keeps_stop stands)))) s new told h run

pub behind_of : (c : ChipData) (l : LayoutData) (block : Option ℕ) (reg : ℕ) → is_chosen Access c l block reg ≡ true → unwrap_or (backdoor_of c (Reg reg)) false ≡ true
behind_of c l block reg chosen =
    let both = and_parts (is_reg_tested c reg block (exclusion_from Access) && unwrap_or (backdoor_of c (Reg reg)) false) (has_writable_field c reg) chosen in
    (and_parts (is_reg_tested c reg block (exclusion_from Access)) (unwrap_or (backdoor_of c (Reg reg)) false) both.0).1

-- a place of this register
own_place : (m : ModelData) (t : Setup) (field b i : ℕ) (v : Bool) (kept : Register) (place : ℕ) → IsModel m → IsDeafVisit m.chip m.layout t field b i v kept → place < length m.layout.places
    → unwrap_or (backdoor_of m.chip (Reg (reg_of m.chip field))) false ≡ true → is_visited Access m.layout (reg_of m.chip field) place ≡ true
    → Finds (Agreeing m.chip m.layout t (reg_of m.chip field) b v kept) (IsNamedBy m.chip field) (at_place Access m.chip m.layout (reg_of m.chip field) place)
own_place m t field b i v kept place ok w there behind visited =
    let c = m.chip in
    let l = m.layout in
    let reg = reg_of c field in
    let both = and_parts (is_of l place (Reg reg)) (may_read l place && may_write l place) visited in
    own_finds c l t field b i v kept place w (is_place c l place (Reg reg) ok.layout ok.built there both.0) (and_parts (may_read l place) (may_write l place) both.1).1
    (ok.layout.each_place place there).map behind

either_place : (m : ModelData) (block : Option ℕ) (t : Setup) (field b i : ℕ) (v : Bool) (kept : Register) (q place : ℕ) → IsModel m → IsDeafVisit m.chip m.layout t field b i v kept
    → q < length m.chip.regs → is_chosen Access m.chip m.layout block q ≡ true → place < length m.layout.places
    → Either (Agreeing m.chip m.layout t (reg_of m.chip field) b v kept) (IsNamedBy m.chip field) (visit Access m.chip m.layout q place)
either_place m block t field b i v kept q place ok w inside chosen there =
    either_if stands named (is_visited Access l q place) (at_place Access c l q place) (λ visited. by (cases_eq reg q) visited)
  where
    c : ChipData
    c = m.chip

    l : LayoutData
    l = m.layout

    reg : ℕ
    reg = reg_of m.chip field

    stands : Scene → Type 0
    stands = Agreeing m.chip m.layout t (reg_of m.chip field) b v kept

    named : Event → Type 0
    named = IsNamedBy m.chip field

    by : (reg_of m.chip field ≡ q) ⊎ (reg_of m.chip field ≡ q → ⊥) → is_visited Access m.layout q place ≡ true
        → Either (Agreeing m.chip m.layout t (reg_of m.chip field) b v kept) (IsNamedBy m.chip field) (at_place Access m.chip m.layout q place)
    by (inr other) visited = inl (other_keeps m.chip m.layout t (reg_of m.chip field) b v kept q (map_at m.layout place) w.setup inside (ok.layout.each_place place there).map other)
    by (inl same) visited =
        inr (subst (λ r. unwrap_or (backdoor_of m.chip (Reg r)) false ≡ true → is_visited Access m.layout r place ≡ true
        → Finds (Agreeing m.chip m.layout t (reg_of m.chip field) b v kept) (IsNamedBy m.chip field) (at_place Access m.chip m.layout r place)) same
        (λ behind visited. own_place m t field b i v kept place ok w there behind visited) (behind_of m.chip m.layout block q chosen) visited)

deaf_walk : (m : ModelData) (block : Option ℕ) (t : Setup) (field b i : ℕ) (v : Bool) (kept : Register) (place : ℕ) → IsModel m → IsDeafVisit m.chip m.layout t field b i v kept
    → IsVisited Access m.chip m.layout block (reg_of m.chip field) place
    → Finds (Agreeing m.chip m.layout t (reg_of m.chip field) b v kept) (IsNamedBy m.chip field) (walk Access m.chip m.layout block)
deaf_walk m block t field b i v kept place ok w at =
    let c = m.chip in
    let l = m.layout in
    let reg = reg_of c field in
    let stands = Agreeing c l t reg b v kept in
    let named = IsNamedBy c field in
    finds_among stands named (items_of Access c) reg (visit_all Access c l block) at.number_in
    (λ q inside. either_if stands named (is_chosen Access c l block q) (each_below (length l.places) (visit Access c l q))
    (λ chosen. either_each stands named (length l.places) (visit Access c l q) (λ k there. either_place m block t field b i v kept q k ok w inside chosen there)))
    (finds_if stands named (is_chosen Access c l block reg) (each_below (length l.places) (visit Access c l reg)) at.chosen
    (finds_among stands named (length l.places) place (visit Access c l reg) at.place_in
    (λ k there. either_place m block t field b i v kept reg k ok w at.number_in at.chosen there)
    (finds_if stands named (is_visited Access l reg place) (at_place Access c l reg place) at.visited
    (own_place m t field b i v kept place ok w at.place_in (behind_of c l block reg at.chosen) at.visited))))

-- ---- the law

pub none_stuck : (c : ChipData) (l : LayoutData) (deaf : List ItemRow) (r k : ℕ) → stuck_at (setup_of c l (deaf_items deaf)) r k ≡ None
unfolding setup_of
none_stuck c l deaf r k = refl

pub without_them : (c : ChipData) (l : LayoutData) (deaf : List ItemRow) → unstuck (setup_of c l (deaf_items deaf)) ≡ setup_of c l no_flaws
unfolding setup_of
without_them c l deaf = refl

pub deaf_register_is_named : DeafRegisterIsNamed
deaf_register_is_named s new d block told field i place ok is has bad v run =
    let c = s.model.chip in
    let l = s.model.layout in
    let t = setup_of c l (deaf_items has.deaf) in
    let reg = reg_of c field in
    let k = field - first_of c reg in
    let b = (field_of c field).shape.lsb + i in
    let kept = believed c s.model.mirror reg in
    let row : StuckRow = record { field = field; bit = i; value = bad.value } in
    let own = the_bit c row ok.chip (record { field_in = bad.field_in; bit_in = bad.bit_in; compared = bad.compared }) in
    let seat = seated c field ok.chip bad.field_in in
    let at = place_of c field ok.chip bad.field_in in
    let firm : IsFirm t reg b bad.value = record {
      low = own.low;
      here = inr (none_stuck c l has.deaf reg b, subst (λ (u : Setup). is_deaf u (cell.Reg reg) ≡ true) has.setup bad.deaf);
      others = λ r k other. none_stuck c l has.deaf r k;
    } in
    let turned : IsTurned (field_of c field).shape.policy bad.value (kept.spent k) =
    subst (λ n. IsTurned (field_of c field).shape.policy bad.value (is_spent s.model.mirror n)) (sym at.number) bad.turned in
    let w : IsDeafVisit c l t field b i bad.value kept = record {
      is = own;
      setup = record { plain = without_them c l has.deaf; alone = firm; reg_in = own.reg_in };
      size = omega (arith, seat.inside, bad.bit_in);
      believed_so = bad.believed;
      turned = subst (λ (f : FieldSeen). IsTurned f.shape.policy bad.value (kept.spent k)) (sym own.field_is) turned;
    } in
    deaf_walk s.model block t field b i bad.value kept place ok w v s new told (record {
      holding = holding_first t reg b bad.value s d ok is has.set_up bad.held;
      as_before = record { bits = refl; marks = λ k inside. refl };
    }) run

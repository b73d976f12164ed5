-- The sequences that write before they check find a bit that is held otherwise than it is believed, at the first visit of its register.
use Rattle.std.proofs.Common.{◌≡◌, ◌≢◌, ◌⊎◌, ℕ, zero, suc, ◌+◌, ◌-◌, ◌*◌, ◌^◌, ◌<◌, ◌==◌, bit_xor, Bool, true, false, not, ◌&&◌, List, [], ◌∷◌, length, replicate}
use Rattle.std.proofs.Common.{Option, Some, refl, sym, ap, ◌∙◌, subst, eqb-true, inl, inr, below_more, arith}
use Rattle.std.specs.Prelude.{slice_index, unwrap_or}
use Rattle.std.proofs.lemmas.Bool.{and_parts, cases_eq, false_from_ne_true}
use Rattle.std.proofs.lemmas.List.{length-replicate}
use Rattle.std.proofs.lemmas.List.FromFn.{get_or-map-range_with_len}
use Rattle.std.proofs.lemmas.List.Elements.{All-nil, All-cons}
use Rattle.rl_policy.proofs.BitLemmas.{bit-zero, from_bits-same}
use Rattle.rl_policy.specs.Bits.{bit}
use Rattle.rl_policy.specs.declared.policy.Policy.TheVariants.{Ro, Rc, Rs, W1t, W0t}
use Rattle.rl_bus.specs.declared.table.ResetRow.{ResetRow}
use Rattle.rl_bus.specs.declared.table.StuckRow.{StuckRow}
use Rattle.rl_bus.specs.State.{State, empty_state, reg_reset, reset_by, first_state}
use Rattle.rl_model.specs.Rows.{FieldSeen, ChipData}
use Rattle.rl_model.specs.Chip.{backdoor_of, value_for}
use Rattle.rl_model.specs.Fields.{field_of, first_of, fields_of, size_of}
use Rattle.rl_model.specs.declared.rows.Field.{Field}
use Rattle.rl_model.specs.declared.rows.Item.TheVariants.{Reg}
use Rattle.rl_map.specs.Layout.{LayoutData}
use Rattle.rl_map.specs.Tables.{setup_of}
use Rattle.rl_mirror.specs.Fields.{part_of}
use Rattle.rl_mirror.specs.Mirror.{mirrored_of}
use Rattle.rl_mirror.specs.Prediction.{after_reset, blank, fresh}
use Rattle.rl_mirror.proofs.FieldLemmas.{field_list, seated}
use Rattle.rl_mirror.proofs.MirrorLemmas.{blank_built, place_of}
use Rattle.rl_mirror.proofs.ResetLemmas.{reset_fits}
use Rattle.rl_access.specs.declared.event.Event.{Event}
use Rattle.rl_access.specs.declared.event.Op.{Op}
use Rattle.rl_access.specs.declared.event.Op.TheVariants as op
use Rattle.rl_access.specs.Call.{Scene, Performs}
use Rattle.rl_access.specs.Model.{ModelData, IsModel}
use Rattle.rl_access.specs.Operation.{reg_of}
use Rattle.rl_seq.specs.declared.sequence.Sequence.{Sequence}
use Rattle.rl_seq.specs.declared.sequence.Sequence.TheVariants.{HwReset, BitBash, Access, Shared, MemWalk}
use Rattle.rl_seq.specs.Choice.{is_of, may_read, may_write, is_bit_compared, turned_round}
use Rattle.rl_seq.specs.Plan.{Plan, stop, step, followed_by, each_below}
use Rattle.rl_seq.specs.Sequences.{map_at, check_at, bash_once, bash_bit, access_at, check_other, share_at, is_chosen, is_visited, at_place, visit, visit_all, walk}
use Rattle.rl_detect_laws.specs.Otherwise.{IsMarkedAlike, IsHeldOtherwise, NewOneIsHeldOtherwise, KeepsApart, PoliciesKeepApart}
use Rattle.rl_detect_laws.specs.Otherwise.{ChecksWritten, HeldOtherwiseIsNamed}
use Rattle.rl_detect_laws.specs.Policies.{IsReadAt}
use Rattle.rl_detect_laws.specs.Resets.{wrong_resets, IsNamedBy}
use Rattle.rl_detect_laws.specs.Stuck.{IsComparedBit}
use Rattle.rl_detect_laws.specs.Visited.{RunsAll, HasEvent, IsVisited}
use Rattle.rl_detect_laws.proofs.Apart.{IsApart, IsKept, write_apart, check_apart, back_write_apart, back_check_apart, check_names_it, back_check_names_it}
use Rattle.rl_detect_laws.proofs.BitBash.{IsBit, the_bit, is_compared_bit, both_true, Keeps, Finds, Either, keeps_stop, keeps_step, keeps_both, keeps_if, keeps_each}
use Rattle.rl_detect_laws.proofs.BitBash.{finds_first, finds_if, either_if, either_each, finds_among}
use Rattle.rl_detect_laws.proofs.DeafRegister.{back_granted, behind_of}
use Rattle.rl_detect_laws.proofs.Forgetting.{setup_without}
use Rattle.rl_detect_laws.proofs.NewDeaf.{none_spent}
use Rattle.rl_detect_laws.proofs.HwReset.{believed_again, without_resets}
use Rattle.rl_detect_laws.proofs.NewOnes.{one_reset, reset_taken, new_one_has_wrong_resets, new_set_up, regs_of, zero_in}
use Rattle.rl_detect_laws.proofs.Reaching.{is_place, check_is}
use Rattle.rl_detect_laws.proofs.Wrong.{described_part, taken_part}

-- ---- plans

-- an operation that leaves what stands, and then what finds it
finds_step : (Stands : Scene → Type 0) (IsSo : Event → Type 0) (o : Op) (p : Plan)
    → ((s new : Scene) (e : Event) → Stands s → Performs s new o e → Stands new) → Finds Stands IsSo p → Finds Stands IsSo (step o p)
finds_step Stands IsSo o p stays finds s new [] h run = absurd run
finds_step Stands IsSo o p stays finds s new (t ∷ told) h (mid, one, run) =
    inr (finds mid new told (stays s mid t.event h one.performs) run)

-- an operation whose event is so
finds_here : (Stands : Scene → Type 0) (IsSo : Event → Type 0) (o : Op) (p : Plan)
    → ((s new : Scene) (e : Event) → Stands s → Performs s new o e → IsSo e) → Finds Stands IsSo (step o p)
finds_here Stands IsSo o p so s new [] h run = absurd run
finds_here Stands IsSo o p so s new (t ∷ told) h (mid, one, run) = inl (so s mid t.event h one.performs)

module _ (m : ModelData) (field b i : ℕ) (ok : IsModel m) (is : IsBit m.chip field (reg_of m.chip field) (field - first_of m.chip (reg_of m.chip field)) b i)
    (kept : IsKept m.chip (reg_of m.chip field) (field - first_of m.chip (reg_of m.chip field)) b) where
  abbrev stands : Scene → Type 0
  stands = IsApart m.chip m.layout (reg_of m.chip field) b

  abbrev named : Event → Type 0
  named = IsNamedBy m.chip field

  map_in : (place : ℕ) → place < length m.layout.places → map_at m.layout place < length m.layout.maps
  map_in place there = (ok.layout.each_place place there).map

  -- ---- other registers

  bash_keeps : (q place j : ℕ) → (reg_of m.chip field ≡ q → ⊥) → q < length m.chip.regs → place < length m.layout.places → Keeps stands (bash_once q (map_at m.layout place) j)
  bash_keeps q place j other inside there s new told h run =
      let map = Some (map_at m.layout place) in
      let numbers : (q < length m.chip.regs) × (map_at m.layout place < length m.layout.maps) = (inside, map_in place there) in
      let value = bit_xor (mirrored_of s.model.mirror q) (2 ^ j) in
      keeps_step stands (op.Write q map value) (step (op.Check q map) stop) (write_apart m.chip m.layout (reg_of m.chip field) _ b kept q map value numbers)
      (keeps_step stands (op.Check q map) stop (check_apart m.chip m.layout (reg_of m.chip field) _ b kept q map other numbers) (keeps_stop stands)) s new told h run

  access_keeps : (q place : ℕ) → (reg_of m.chip field ≡ q → ⊥) → q < length m.chip.regs → place < length m.layout.places → Keeps stands (access_at m.chip q (map_at m.layout place))
  access_keeps q place other inside there s new told h run =
      let map = Some (map_at m.layout place) in
      let numbers : (q < length m.chip.regs) × (map_at m.layout place < length m.layout.maps) = (inside, map_in place there) in
      let value = mirrored_of s.model.mirror q in
      let fourth = step (op.Check q map) stop in
      let third = step (op.BackWrite q value) fourth in
      let second = step (op.BackCheck q) third in
      keeps_step stands (op.Write q map (turned_round m.chip (Reg q) value)) second
      (write_apart m.chip m.layout (reg_of m.chip field) _ b kept q map (turned_round m.chip (Reg q) value) numbers)
      (keeps_step stands (op.BackCheck q) third (back_check_apart m.chip m.layout (reg_of m.chip field) _ b kept q inside other)
      (keeps_step stands (op.BackWrite q value) fourth (back_write_apart m.chip m.layout (reg_of m.chip field) _ b kept q value inside other)
      (keeps_step stands (op.Check q map) stop (check_apart m.chip m.layout (reg_of m.chip field) _ b kept q map other numbers) (keeps_stop stands)))) s new told h run

  check_keeps : (q place : ℕ) → (reg_of m.chip field ≡ q → ⊥) → q < length m.chip.regs → place < length m.layout.places → Keeps stands (check_at m.layout q place)
  check_keeps q place other inside there =
      keeps_step stands (op.Check q (Some (map_at m.layout place))) stop
      (check_apart m.chip m.layout (reg_of m.chip field) _ b kept q (Some (map_at m.layout place)) other (inside, map_in place there)) (keeps_stop stands)

  share_keeps : (q place : ℕ) → (reg_of m.chip field ≡ q → ⊥) → q < length m.chip.regs → place < length m.layout.places → Keeps stands (share_at m.chip m.layout q place)
  share_keeps q place other inside there s new told h run =
      let map = Some (map_at m.layout place) in
      let value = mirrored_of s.model.mirror q in
      keeps_step stands (op.Write q map (turned_round m.chip (Reg q) value)) (each_below (length m.layout.places) (check_other m.layout q place))
      (write_apart m.chip m.layout (reg_of m.chip field) _ b kept q map (turned_round m.chip (Reg q) value) (inside, map_in place there))
      (keeps_each stands (length m.layout.places) (check_other m.layout q place)
      (λ k low. keeps_if stands (not (k == place) && (is_of m.layout k (Reg q) && may_read m.layout k)) (check_at m.layout q k) (λ so. check_keeps q k other inside low))) s new told h run

  -- what a visit of another register does leaves what stands
  place_keeps : (which : Sequence) (q place : ℕ) → (reg_of m.chip field ≡ q → ⊥) → q < length m.chip.regs → place < length m.layout.places
      → (which ≡ BitBash) ⊎ ((which ≡ Access) ⊎ (which ≡ Shared)) → Keeps stands (at_place which m.chip m.layout q place)
  place_keeps which q place other inside there (inl bash) =
      subst (λ w. Keeps stands (at_place w m.chip m.layout q place)) (sym bash)
      (keeps_each stands (8 * size_of m.chip q) (bash_bit m.chip q (map_at m.layout place))
      (λ j low. keeps_if stands (is_bit_compared m.chip q j) (followed_by (bash_once q (map_at m.layout place) j) (bash_once q (map_at m.layout place) j))
      (λ so. keeps_both stands (bash_once q (map_at m.layout place) j) (bash_once q (map_at m.layout place) j) (bash_keeps q place j other inside there) (bash_keeps q place j other inside there))))
  place_keeps which q place other inside there (inr (inl access)) =
      subst (λ w. Keeps stands (at_place w m.chip m.layout q place)) (sym access) (access_keeps q place other inside there)
  place_keeps which q place other inside there (inr (inr shared)) =
      subst (λ w. Keeps stands (at_place w m.chip m.layout q place)) (sym shared) (share_keeps q place other inside there)

  -- ---- this one

  check_finds : (place : ℕ) → place < length m.layout.places → is_of m.layout place (Reg (reg_of m.chip field)) ≡ true → may_read m.layout place ≡ true
      → (p : Plan) → Finds stands named (step (op.Check (reg_of m.chip field) (Some (map_at m.layout place))) p)
  check_finds place there mine right p =
      let at = is_place m.chip m.layout place (Reg (reg_of m.chip field)) ok.layout ok.built there mine in
      let numbers : (reg_of m.chip field < length m.chip.regs) × (map_at m.layout place < length m.layout.maps) = (is.reg_in, map_in place there) in
      finds_here stands named (op.Check (reg_of m.chip field) (Some (map_at m.layout place))) p
      (λ s new e h performs. check_names_it m.chip m.layout field b i (Some (map_at m.layout place)) place s new e is numbers h
      ((check_is m.chip m.layout (reg_of m.chip field) place at right).granted s.model h.chip h.layout) performs)

  bash_finds : (place j : ℕ) → place < length m.layout.places → is_of m.layout place (Reg (reg_of m.chip field)) ≡ true → may_read m.layout place ≡ true
      → Finds stands named (bash_once (reg_of m.chip field) (map_at m.layout place) j)
  bash_finds place j there mine right s new told h run =
      let map = Some (map_at m.layout place) in
      let value = bit_xor (mirrored_of s.model.mirror (reg_of m.chip field)) (2 ^ j) in
      finds_step stands named (op.Write (reg_of m.chip field) map value) (step (op.Check (reg_of m.chip field) map) stop)
      (write_apart m.chip m.layout (reg_of m.chip field) _ b kept (reg_of m.chip field) map value (is.reg_in, map_in place there))
      (check_finds place there mine right stop) s new told h run

  access_finds : (place : ℕ) → place < length m.layout.places → unwrap_or (backdoor_of m.chip (Reg (reg_of m.chip field))) false ≡ true
      → Finds stands named (access_at m.chip (reg_of m.chip field) (map_at m.layout place))
  access_finds place there behind s new told h run =
      let reg = reg_of m.chip field in
      let map = Some (map_at m.layout place) in
      let value = mirrored_of s.model.mirror reg in
      let third = step (op.BackWrite reg value) (step (op.Check reg map) stop) in
      finds_step stands named (op.Write reg map (turned_round m.chip (Reg reg) value)) (step (op.BackCheck reg) third)
      (write_apart m.chip m.layout reg _ b kept reg map (turned_round m.chip (Reg reg) value) (is.reg_in, map_in place there))
      (finds_here stands named (op.BackCheck reg) third
      (λ s new e h performs. back_check_names_it m.chip m.layout field b i 0 s new e is h (back_granted s.model m.chip reg h.chip behind) performs)) s new told h run

  share_finds : (place other : ℕ) → place < length m.layout.places → IsReadAt m.layout (reg_of m.chip field) other → other ≢ place
      → Finds stands named (share_at m.chip m.layout (reg_of m.chip field) place)
  share_finds place other there at apart s new told h run =
      let reg = reg_of m.chip field in
      let map = Some (map_at m.layout place) in
      let value = mirrored_of s.model.mirror reg in
      let reads = λ (k : ℕ). not (k == place) && (is_of m.layout k (Reg reg) && may_read m.layout k) in
      let away : (other == place) ≡ false = false_from_ne_true (other == place) (λ same. apart (eqb-true other place same)) in
      finds_step stands named (op.Write reg map (turned_round m.chip (Reg reg) value)) (each_below (length m.layout.places) (check_other m.layout reg place))
      (write_apart m.chip m.layout reg _ b kept reg map (turned_round m.chip (Reg reg) value) (is.reg_in, map_in place there))
      (finds_among stands named (length m.layout.places) other (check_other m.layout reg place) at.place_in
      (λ k low. either_if stands named (reads k) (check_at m.layout reg k)
      (λ so. let both = and_parts (not (k == place)) (is_of m.layout k (Reg reg) && may_read m.layout k) so in
      let rights = and_parts (is_of m.layout k (Reg reg)) (may_read m.layout k) both.1 in
      inr (check_finds k low rights.0 rights.1 stop)))
      (finds_if stands named (reads other) (check_at m.layout reg other)
      (both_true (not (other == place)) (is_of m.layout other (Reg reg) && may_read m.layout other) (ap not away)
      (both_true (is_of m.layout other (Reg reg)) (may_read m.layout other) at.register at.right))
      (check_finds other at.place_in at.register at.right stop))) s new told h run

  -- at any other place it finds it, or leaves what stands
  share_either : (place : ℕ) → place < length m.layout.places → Either stands named (share_at m.chip m.layout (reg_of m.chip field) place)
  share_either place there =
      let reg = reg_of m.chip field in
      let map = Some (map_at m.layout place) in
      let reads = λ (k : ℕ). not (k == place) && (is_of m.layout k (Reg reg) && may_read m.layout k) in
      let checks = each_below (length m.layout.places) (check_other m.layout reg place) in
      let writes = λ (v : ℕ). write_apart m.chip m.layout reg _ b kept reg map (turned_round m.chip (Reg reg) v) (is.reg_in, map_in place there) in
      elim (either_each stands named (length m.layout.places) (check_other m.layout reg place)
      (λ k low. either_if stands named (reads k) (check_at m.layout reg k)
      (λ so. let both = and_parts (not (k == place)) (is_of m.layout k (Reg reg) && may_read m.layout k) so in
      let rights = and_parts (is_of m.layout k (Reg reg)) (may_read m.layout k) both.1 in
      inr (check_finds k low rights.0 rights.1 stop)))) [
        | inl keeps ↦ inl (λ s new told h run.
            let v = mirrored_of s.model.mirror reg in
            keeps_step stands (op.Write reg map (turned_round m.chip (Reg reg) v)) checks (writes v) keeps s new told h run)
        | inr finds ↦ inr (λ s new told h run.
            let v = mirrored_of s.model.mirror reg in
            finds_step stands named (op.Write reg map (turned_round m.chip (Reg reg) v)) checks (writes v) finds s new told h run)
      ]

  -- ---- a sequence that finds it at each of some places, and leaves what stands at the others

  walk_finds : (which : Sequence) (block : Option ℕ) (place : ℕ) → (which ≡ BitBash) ⊎ ((which ≡ Access) ⊎ (which ≡ Shared))
      → (each_below (length m.chip.regs) (visit_all which m.chip m.layout block) ≡ walk which m.chip m.layout block)
      → is_chosen which m.chip m.layout block (reg_of m.chip field) ≡ true → place < length m.layout.places → is_visited which m.layout (reg_of m.chip field) place ≡ true
      → ((k : ℕ) → k < length m.layout.places → is_visited which m.layout (reg_of m.chip field) k ≡ true → Either stands named (at_place which m.chip m.layout (reg_of m.chip field) k))
      → Finds stands named (at_place which m.chip m.layout (reg_of m.chip field) place) → Finds stands named (walk which m.chip m.layout block)
  walk_finds which block place kind same chosen there visited each here =
      let reg = reg_of m.chip field in
      subst (Finds stands named) same
      (finds_among stands named (length m.chip.regs) reg (visit_all which m.chip m.layout block) is.reg_in
      (λ q inside. elim (cases_eq reg q) [
        | inl own ↦ subst (λ r. Either stands named (visit_all which m.chip m.layout block r)) own own_either
        | inr other ↦
            either_if stands named (is_chosen which m.chip m.layout block q) (each_below (length m.layout.places) (visit which m.chip m.layout q))
            (λ chosen. either_each stands named (length m.layout.places) (visit which m.chip m.layout q)
            (λ k low. either_if stands named (is_visited which m.layout q k) (at_place which m.chip m.layout q k)
            (λ so. inl (place_keeps which q k other inside low kind))))
      ])
      (finds_if stands named (is_chosen which m.chip m.layout block reg) (each_below (length m.layout.places) (visit which m.chip m.layout reg)) chosen
      (finds_among stands named (length m.layout.places) place (visit which m.chip m.layout reg) there own_place
      (finds_if stands named (is_visited which m.layout reg place) (at_place which m.chip m.layout reg place) visited here))))
    where
      own_place : (k : ℕ) → k < length m.layout.places → Either stands named (visit which m.chip m.layout (reg_of m.chip field) k)
      own_place k low = either_if stands named (is_visited which m.layout (reg_of m.chip field) k) (at_place which m.chip m.layout (reg_of m.chip field) k) (λ so. each k low so)

      own_either : Either stands named (visit_all which m.chip m.layout block (reg_of m.chip field))
      own_either =
          either_if stands named (is_chosen which m.chip m.layout block (reg_of m.chip field)) (each_below (length m.layout.places) (visit which m.chip m.layout (reg_of m.chip field)))
          (λ chosen. either_each stands named (length m.layout.places) (visit which m.chip m.layout (reg_of m.chip field)) own_place)

  bash_at : (place : ℕ) → place < length m.layout.places → is_visited BitBash m.layout (reg_of m.chip field) place ≡ true → b < 8 * size_of m.chip (reg_of m.chip field)
      → is_bit_compared m.chip (reg_of m.chip field) b ≡ true → Finds stands named (at_place BitBash m.chip m.layout (reg_of m.chip field) place)
  bash_at place there visited low compared =
      let reg = reg_of m.chip field in
      let both = and_parts (is_of m.layout place (Reg reg)) (may_read m.layout place && may_write m.layout place) visited in
      let right = (and_parts (may_read m.layout place) (may_write m.layout place) both.1).0 in
      let twice = λ (j : ℕ). followed_by (bash_once reg (map_at m.layout place) j) (bash_once reg (map_at m.layout place) j) in
      let once = λ (j : ℕ). finds_first stands named (bash_once reg (map_at m.layout place) j) (bash_once reg (map_at m.layout place) j) (bash_finds place j there both.0 right) in
      finds_among stands named (8 * size_of m.chip reg) b (bash_bit m.chip reg (map_at m.layout place)) low
      (λ j below. either_if stands named (is_bit_compared m.chip reg j) (twice j) (λ so. inr (once j)))
      (finds_if stands named (is_bit_compared m.chip reg b) (twice b) compared (once b))

  access_all : (block : Option ℕ) (place : ℕ) → IsVisited Access m.chip m.layout block (reg_of m.chip field) place → Finds stands named (walk Access m.chip m.layout block)
  access_all block place v =
      let behind = behind_of m.chip m.layout block (reg_of m.chip field) v.chosen in
      walk_finds Access block place (inr (inl refl)) refl v.chosen v.place_in v.visited (λ k low so. inr (access_finds k low behind)) (access_finds place v.place_in behind)

  bash_all : (block : Option ℕ) (place : ℕ) → b < 8 * size_of m.chip (reg_of m.chip field) → is_bit_compared m.chip (reg_of m.chip field) b ≡ true
      → IsVisited BitBash m.chip m.layout block (reg_of m.chip field) place → Finds stands named (walk BitBash m.chip m.layout block)
  bash_all block place low compared v =
      walk_finds BitBash block place (inl refl) refl v.chosen v.place_in v.visited (λ k there so. inr (bash_at k there so low compared)) (bash_at place v.place_in v.visited low compared)

  share_all : (block : Option ℕ) (place other : ℕ) → IsReadAt m.layout (reg_of m.chip field) other → other ≢ place
      → IsVisited Shared m.chip m.layout block (reg_of m.chip field) place → Finds stands named (walk Shared m.chip m.layout block)
  share_all block place other at apart v =
      walk_finds Shared block place (inr (inr refl)) refl v.chosen v.place_in v.visited (λ k low so. share_either k low) (share_finds place other v.place_in at apart)

-- ---- the law

apart_first : (s : Scene) (d : State) (field i : ℕ) → IsModel s.model → s.device ≡ Some d → IsMarkedAlike s.model.chip s.model.layout d s.model.mirror
    → (o : IsHeldOtherwise s.model.chip d s.model.mirror field i)
    → IsApart s.model.chip s.model.layout (reg_of s.model.chip field) ((field_of s.model.chip field).shape.lsb + i) s
apart_first s d field i ok told alike o = record {
  device = d;
  scene_is = record { model = ok; chip = refl; layout = refl; told = told };
  ready = record {
    setup = ap setup_without alike.resets.setup ∙ without_resets s.model.chip s.model.layout alike.resets.resets;
    beats = alike.beats;
    bits = alike.resets.bits;
    marks = alike.resets.marks;
  };
  marked = alike.marks;
  apart = o.other;
}

pub held_otherwise_is_named : HeldOtherwiseIsNamed
held_otherwise_is_named s new d which block told field i place ok told_d alike other kept at checks run = by which at checks run
  where
    c : ChipData
    c = s.model.chip

    row : StuckRow
    row = record { field = field; bit = i; value = false }

    bit_in : IsComparedBit s.model.chip (record { field = field; bit = i; value = false })
    bit_in = record { field_in = other.field_in; bit_in = other.bit_in; compared = other.compared }

    b : ℕ
    b = (field_of s.model.chip field).shape.lsb + i

    own : IsBit s.model.chip field (reg_of s.model.chip field) (field - first_of s.model.chip (reg_of s.model.chip field)) ((field_of s.model.chip field).shape.lsb + i) i
    own = the_bit s.model.chip (record { field = field; bit = i; value = false }) ok.chip bit_in

    keeps : IsKept s.model.chip (reg_of s.model.chip field) (field - first_of s.model.chip (reg_of s.model.chip field)) ((field_of s.model.chip field).shape.lsb + i)
    keeps = record { reg_in = own.reg_in; low = own.low; at = own.at; kept = subst (λ (f : FieldSeen). KeepsApart f.shape.policy) (sym own.field_is) kept }

    begins : IsApart s.model.chip s.model.layout (reg_of s.model.chip field) ((field_of s.model.chip field).shape.lsb + i) s
    begins = apart_first s d field i ok told_d alike other

    by : (which : Sequence) → IsVisited which s.model.chip s.model.layout block (reg_of s.model.chip field) place → ChecksWritten which s.model.layout (reg_of s.model.chip field) place
        → RunsAll which block s told new → HasEvent (IsNamedBy s.model.chip field) told
    by HwReset at checks run = absurd checks
    by BitBash at checks run =
        let seat = seated s.model.chip field ok.chip other.field_in in
        bash_all s.model field b i ok own keeps block place (omega (arith, seat.inside, other.bit_in)) (is_compared_bit s.model.chip (record { field = field; bit = i; value = false }) ok.chip bit_in) at
        s new told begins run
    by Access at checks run = access_all s.model field b i ok own keeps block place at s new told begins run
    by Shared at (again, read, apart) run = share_all s.model field b i ok own keeps block place again read apart at s new told begins run
    by MemWalk at checks run = absurd checks

-- ---- the policies

stays_apart : (x : Bool) → x ≢ not x
stays_apart true same = cc
stays_apart false same = cc

kept_ro : KeepsApart Ro
kept_ro held written spent = stays_apart held

kept_rc : KeepsApart Rc
kept_rc held written spent = stays_apart held

kept_rs : KeepsApart Rs
kept_rs held written spent = stays_apart held

kept_w1t : KeepsApart W1t
kept_w1t true true spent same = cc
kept_w1t true false spent same = cc
kept_w1t false true spent same = cc
kept_w1t false false spent same = cc

kept_w0t : KeepsApart W0t
kept_w0t true true spent same = cc
kept_w0t true false spent same = cc
kept_w0t false true spent same = cc
kept_w0t false false spent same = cc

pub policies_keep_apart : PoliciesKeepApart
policies_keep_apart =
    All-cons KeepsApart Ro (Rc ∷ Rs ∷ W1t ∷ W0t ∷ []) kept_ro (All-cons KeepsApart Rc (Rs ∷ W1t ∷ W0t ∷ []) kept_rc
    (All-cons KeepsApart Rs (W1t ∷ W0t ∷ []) kept_rs (All-cons KeepsApart W1t (W0t ∷ []) kept_w1t (All-cons KeepsApart W0t [] kept_w0t (All-nil KeepsApart)))))

-- ---- a new device

same_bool : (x y : Bool) → (x ≡ y) ⊎ (x ≢ y)
same_bool true true = inl refl
same_bool false false = inl refl
same_bool true false = inr (λ same. cc)
same_bool false true = inr (λ same. cc)

-- all bits of two numbers are the same, or some bit isn't
same_or_other : (n : ℕ) (x y : ℕ → Bool) → ((i : ℕ) → i < n → x i ≡ y i) ⊎ ((i : ℕ) × (i < n) × (x i ≢ y i))
same_or_other zero x y = inl (λ i low. absurd (omega (arith, low)))
same_or_other (suc n) x y =
    elim (same_bool (x n) (y n)) [
      | inr other ↦ inr (n, omega arith, other)
      | inl same ↦ elim (same_or_other n x y) [
        | inr found ↦ inr (found.0, omega (arith, found.1), found.2)
        | inl all ↦ inl (λ i low. below_more (λ j. x j ≡ y j) n all same i (omega (arith, low)))
      ]
    ]

other_bit_of : (f : Field) (x y : ℕ) → part_of f x ≢ part_of f y → (i : ℕ) × (i < f.width) × (bit x (f.lsb + i) ≢ bit y (f.lsb + i))
other_bit_of f x y other =
    elim (same_or_other f.width (λ i. bit x (f.lsb + i)) (λ i. bit y (f.lsb + i))) [
      | inl all ↦ absurd (other (from_bits-same f.width (λ i. bit x (f.lsb + i)) (λ i. bit y (f.lsb + i)) all))
      | inr found ↦ found
    ]

blank_marks : (c : ChipData) (l : LayoutData) (resets : List ResetRow) (count reg b : ℕ)
    → bit (slice_index (first_state (setup_of c l (wrong_resets resets)) count).marks reg) b ≡ false
unfolding first_state reset_by
blank_marks c l resets count reg b =
    let t = setup_of c l (wrong_resets resets) in
    ap (λ n. bit n b) (zero_in (length (empty_state t count).marks) reg) ∙ bit-zero b

first_bits : (c : ChipData) (l : LayoutData) (resets : List ResetRow) (count reg : ℕ) → reg < length c.regs
    → let t = setup_of c l (wrong_resets resets) in slice_index (first_state t count).bits reg ≡ reg_reset (empty_state t count) 0 reg
unfolding first_state reset_by
first_bits c l resets count reg inside =
    let t = setup_of c l (wrong_resets resets) in
    let zeros = replicate (length t.regs) 0 in
    let there : reg < length zeros = subst (λ n. reg < n) (sym (length-replicate (length t.regs) 0 ∙ regs_of c l (wrong_resets resets))) inside in
    get_or-map-range_with_len (reg_reset (empty_state t count) 0) 0 (length zeros) reg reg 0 there (omega (arith, there))

first_believed : (c : ChipData) (reg : ℕ) → reg < length c.regs → mirrored_of (fresh c) reg ≡ after_reset (fields_of c reg) 0 (mirrored_of (blank c) reg)
unfolding fresh
first_believed c reg inside = believed_again c (blank c) reg (subst (λ n. reg < n) (sym (blank_built c).registers) inside)

pub new_one_is_held_otherwise : NewOneIsHeldOtherwise
new_one_is_held_otherwise c l field described taken count sound inside compared says fits other =
    let resets = one_reset field taken in
    let t = setup_of c l (wrong_resets resets) in
    let reg = reg_of c field in
    let f = (field_of c field).shape in
    let fs = fields_of c reg in
    let k = field - first_of c reg in
    let at = place_of c field sound inside in
    let there = (seated c field sound inside).reg in
    let list = field_list c reg sound there in
    let held = taken_part c l (empty_state t count) resets field taken sound inside refl (reset_taken c l field taken) fits in
    let m = mirrored_of (blank c) reg in
    let believed_so : part_of f (after_reset fs 0 m) ≡ described =
    subst (λ (g : FieldSeen). value_for 0 g.resets ≡ Some described → described < 2 ^ g.shape.width → part_of g.shape (after_reset fs 0 m) ≡ described) at.field
    (λ says fits. described_part (8 * size_of c reg) fs k described m list at.place says fits) says (reset_fits c field 0 described sound inside says) in
    let found = other_bit_of f (reg_reset (empty_state t count) 0 reg) (after_reset fs 0 m) (λ same. other (sym held ∙ same ∙ believed_so)) in
    record {
      alike = record {
        resets = new_one_has_wrong_resets c l resets count;
        beats = (new_set_up c l (wrong_resets resets) count).beats;
        marks = λ reg b k there low at. blank_marks c l resets count reg b ∙ sym (none_spent c (first_of c reg + k));
      };
      i = found.0;
      otherwise = record {
        field_in = inside;
        bit_in = found.1;
        compared = compared;
        other = λ same. found.2 (ap (λ n. bit n (f.lsb + found.0)) (sym (first_bits c l resets count reg there)) ∙ same
            ∙ ap (λ n. bit n (f.lsb + found.0)) (first_believed c reg there));
      };
    }

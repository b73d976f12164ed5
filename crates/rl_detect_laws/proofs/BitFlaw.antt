-- A bit that is stuck, deaf or has another policy is found by the sequences whose steps show it.
use Rattle.std.proofs.Common.{◌≡◌, ℕ, ◌+◌, ◌-◌, Bool, true, false, ◌||◌, List, [], ◌∷◌, Option, refl, sym, ap, ◌∙◌, eq-eqb, arith}
use Rattle.rl_bus.specs.declared.table.Cell.TheVariants as cell
use Rattle.rl_bus.specs.declared.table.ItemRow.TheVariants.{Reg as Deaf}
use Rattle.rl_bus.specs.declared.table.StuckRow.{StuckRow}
use Rattle.rl_bus.specs.Setup.{is_deaf}
use Rattle.rl_policy.specs.declared.policy.Policy.{Policy}
use Rattle.rl_model.specs.Rows.{ChipData}
use Rattle.rl_model.specs.Fields.{field_of, first_of}
use Rattle.rl_map.specs.Layout.{LayoutData}
use Rattle.rl_map.specs.Tables.{setup_of}
use Rattle.rl_split.specs.Law.{no_flaws}
use Rattle.rl_mirror.specs.Mirror.{is_spent}
use Rattle.rl_mirror.proofs.FieldLemmas.{seated}
use Rattle.rl_mirror.proofs.MirrorLemmas.{place_of}
use Rattle.rl_access.specs.Call.{Scene}
use Rattle.rl_access.specs.HandsOver.{Told}
use Rattle.rl_access.specs.Operation.{reg_of}
use Rattle.rl_seq.specs.declared.sequence.Sequence.{Sequence}
use Rattle.rl_seq.specs.declared.sequence.Sequence.TheVariants.{HwReset, BitBash, Access, Shared, MemWalk}
use Rattle.rl_seq.specs.Plan.{Runs}
use Rattle.rl_seq.specs.Sequences.{walk}
use Rattle.rl_detect_laws.specs.BitFlaws.{HasFlaw, IsComparedAt, IsShown, BitFlawIsNamed, only_flaw}
use Rattle.rl_detect_laws.specs.Deaf.{deaf_items}
use Rattle.rl_detect_laws.specs.Resets.{IsNamedBy}
use Rattle.rl_detect_laws.specs.Sides.{Sides, BitFlaw, sticks, hears_nothing, goes_by}
use Rattle.rl_detect_laws.specs.Stuck.{IsComparedBit}
use Rattle.rl_detect_laws.specs.Visited.{RunsAll, HasEvent}
use Rattle.rl_detect_laws.proofs.Bashing.{holding_first}
use Rattle.rl_detect_laws.proofs.BitBash.{IsBit, the_bit, is_compared_bit, stuck_there, stuck_setup}
use Rattle.rl_detect_laws.proofs.BitWalk.{ActsSo, finds_by}
use Rattle.rl_detect_laws.proofs.DeafRegister.{none_stuck, without_them}
use Rattle.rl_detect_laws.proofs.FirmBit.{IsFirmBy, SeenFirm, firm_acts}
use Rattle.rl_detect_laws.proofs.PolicyBit.{SeenOther, policy_acts}
use Rattle.rl_detect_laws.proofs.StuckBit.{unstuck}

deaf_alone : (c : ChipData) (l : LayoutData) (reg : ℕ) → is_deaf (setup_of c l (deaf_items (Deaf reg ∷ []))) (cell.Reg reg) ≡ true
unfolding setup_of
deaf_alone c l reg = ap (λ b. b || false) (eq-eqb reg reg refl)

-- the three that begin with their walk
runs_walk : (which : Sequence) (block : Option ℕ) (s new : Scene) (told : List Told) (reg b place : ℕ) (flaw : BitFlaw) (p : Policy) (x : Sides)
    → IsShown which s.model.chip s.model.layout reg b place flaw p x → RunsAll which block s told new → Runs (walk which s.model.chip s.model.layout block) s told new
runs_walk HwReset block s new told reg b place flaw p x shown run = absurd shown
runs_walk BitBash block s new told reg b place flaw p x shown run = run
runs_walk Access block s new told reg b place flaw p x shown run = run
runs_walk Shared block s new told reg b place flaw p x shown run = run
runs_walk MemWalk block s new told reg b place flaw p x shown run = absurd shown

pub bit_flaw_is_named : BitFlawIsNamed
bit_flaw_is_named s new d which block told field i place flaw x ok told_d has at shown run = by flaw has shown
  where
    row : Bool → StuckRow
    row v = record { field = field; bit = i; value = v }

    b : ℕ
    b = (field_of s.model.chip field).shape.lsb + i

    finds : (flaw : BitFlaw) (Seen : Sides → Scene → Type 0) → HasFlaw s.model.chip s.model.layout d s.model.mirror field i flaw x
        → ActsSo s.model.chip s.model.layout field ((field_of s.model.chip field).shape.lsb + i) flaw (field_of s.model.chip field).shape.policy Seen → Seen x s
        → IsShown which s.model.chip s.model.layout (reg_of s.model.chip field) ((field_of s.model.chip field).shape.lsb + i) place flaw (field_of s.model.chip field).shape.policy x
        → HasEvent (IsNamedBy s.model.chip field) told
    finds flaw Seen has acts seen shown =
        let c = s.model.chip in
        let seat = seated c field ok.chip has.field_in in
        let compared = is_compared_bit c (row false) ok.chip (record { field_in = has.field_in; bit_in = has.bit_in; compared = has.compared }) in
        finds_by s.model field ((field_of s.model.chip field).shape.lsb + i) flaw Seen ok seat.reg (omega (arith, seat.inside, has.bit_in)) acts which x block place compared at shown
        s new told seen (runs_walk which block s new told (reg_of c field) b place flaw (field_of c field).shape.policy x shown run)

    own : IsComparedAt s.model.chip field i
        → IsBit s.model.chip field (reg_of s.model.chip field) (field - first_of s.model.chip (reg_of s.model.chip field)) ((field_of s.model.chip field).shape.lsb + i) i
    own is = the_bit s.model.chip (row false) ok.chip (record { field_in = is.field_in; bit_in = is.bit_in; compared = is.compared })

    -- it keeps what it holds
    firm : (flaw : BitFlaw) → HasFlaw s.model.chip s.model.layout d s.model.mirror field i flaw x
        → unstuck (setup_of s.model.chip s.model.layout (only_flaw s.model.chip field i flaw)) ≡ setup_of s.model.chip s.model.layout no_flaws
        → IsFirmBy flaw (setup_of s.model.chip s.model.layout (only_flaw s.model.chip field i flaw)) (reg_of s.model.chip field) ((field_of s.model.chip field).shape.lsb + i)
        → IsShown which s.model.chip s.model.layout (reg_of s.model.chip field) ((field_of s.model.chip field).shape.lsb + i) place flaw (field_of s.model.chip field).shape.policy x
        → HasEvent (IsNamedBy s.model.chip field) told
    firm flaw has plain stands shown =
        let c = s.model.chip in
        let l = s.model.layout in
        let t = setup_of c l (only_flaw c field i flaw) in
        let number = (place_of c field ok.chip has.field_in).number in
        finds flaw (SeenFirm c l t (reg_of c field) (field - first_of c (reg_of c field)) b flaw) has
        (firm_acts c l t field b i flaw ok.chip (own has.own) plain stands)
        (record {
          holding = holding_first t (reg_of c field) b x.held s d ok told_d has.set_up has.held;
          stuck = has.stuck;
          believed = has.believed;
          spent = ap (is_spent s.model.mirror) number ∙ has.spent;
        }) shown

    by : (flaw : BitFlaw) → HasFlaw s.model.chip s.model.layout d s.model.mirror field i flaw x
        → IsShown which s.model.chip s.model.layout (reg_of s.model.chip field) ((field_of s.model.chip field).shape.lsb + i) place flaw (field_of s.model.chip field).shape.policy x
        → HasEvent (IsNamedBy s.model.chip field) told
    by (sticks v) has shown =
        let c = s.model.chip in
        let l = s.model.layout in
        let is : IsComparedBit c (row v) = record { field_in = has.field_in; bit_in = has.bit_in; compared = has.compared } in
        let setup = stuck_setup c l (row v) ok.chip is in
        firm (sticks v) has setup.plain (stuck_there c l (row v) has.field_in, setup.alone.others) shown
    by hears_nothing has shown =
        let c = s.model.chip in
        let l = s.model.layout in
        let items = Deaf (reg_of c field) ∷ [] in
        firm hears_nothing has (without_them c l items) (none_stuck c l items, deaf_alone c l (reg_of c field)) shown
    by (goes_by q) has shown =
        let c = s.model.chip in
        let l = s.model.layout in
        let bit_own = own has.own in
        let number = (place_of c field ok.chip has.field_in).number in
        let k = field - first_of c (reg_of c field) in
        finds (goes_by q) (SeenOther c l field q (reg_of c field) k b) has (policy_acts c l field b i q ok.chip has.field_in bit_own)
        (record {
          device = d;
          scene_is = record { model = ok; chip = refl; layout = refl; told = told_d };
          set_up = has.set_up;
          mark_of = has.mark_of;
          each_mark = has.each_mark;
          held = has.held;
          marked = sym (has.each_mark (reg_of c field) b k bit_own.reg_in bit_own.low bit_own.at) ∙ has.marked;
          believed = has.believed;
          spent = ap (is_spent s.model.mirror) number ∙ has.spent;
        }) shown

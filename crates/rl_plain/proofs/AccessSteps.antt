-- An access to a register over the bus is the plain machine's.
use Rattle.std.proofs.Common.{◌≡◌, ℕ, ◌<◌, true, false, length, Option, Some, Ok, refl, ap, ◌∙◌, subst}
use Rattle.std.proofs.lemmas.List.{length-replicate}
use Rattle.rl_bus.specs.Account.{Account}
use Rattle.rl_bus.specs.Standing.{Standing}
use Rattle.std.specs.Prelude.{List}
use Rattle.rl_bus.specs.State.{State}
use Rattle.rl_model.specs.Chip.{IsSound}
use Rattle.rl_model.specs.Fields.{fields_of, field_of}
use Rattle.rl_model.specs.Rows.{ChipData}
use Rattle.rl_map.specs.Layout.{LayoutData}
use Rattle.rl_split.specs.Step.{Register, every, ranswer}
use Rattle.rl_mirror.specs.Compared.{differ}
use Rattle.rl_mirror.specs.Fields.{part_of}
use Rattle.rl_access.specs.declared.event.End.TheVariants as end
use Rattle.rl_access.specs.declared.event.Event.{Event}
use Rattle.rl_access.specs.declared.event.Op.{Op}
use Rattle.rl_access.specs.declared.event.Op.TheVariants as op
use Rattle.rl_access.specs.Call.{Scene, scene, IsDone}
use Rattle.rl_access.specs.Gathering.{no_words}
use Rattle.rl_access.specs.Model.{IsModel}
use Rattle.rl_access.specs.Operation.{register_of, reg_of, HasNumbers}
use Rattle.rl_access.specs.Rules.{grant}
use Rattle.rl_plain.specs.OneStep.{Step, write_step, read_step, no_step, device_after, step_of, end_of, reached_fields, field_word, IsAccess}
use Rattle.rl_plain.specs.Agree.{Agree}
use Rattle.rl_plain.specs.Machine.{Machine, register_at, mirror_of, seen, stepped, machine_after, machine_end, machine_differ}
use Rattle.rl_plain.proofs.Accesses.{IsStepped, differ_in}
use Rattle.rl_plain.proofs.Agreement.{register_in, agree_after}
use Rattle.rl_plain.proofs.EachAccess.{one_step}
use Rattle.rl_plain.proofs.Kept.{step_kept}
use Rattle.rl_plain.proofs.MachineSteps.{HasContents, contents_stay, IsMachineStep, stepped_locations}
use Rattle.rl_plain.proofs.NothingFound.{nothing_found}
use Rattle.rl_plain.proofs.PlainSteps.{plain_state}

-- ---- the machine's row is the step of the operation

after_is : (c : ChipData) (l : LayoutData) (op : Op) (place reg : ℕ) (p : Machine) → IsAccess op → register_of c op ≡ Some reg → stepped c reg (step_of (seen c l p) op place) p ≡ machine_after c l op
    place p
after_is c l (op.Write n map value) place reg p is e = let same : reg ≡ n = cc in ap (λ k. stepped c k (write_step every value) p) same
after_is c l (op.Read n map) place reg p is e = let same : reg ≡ n = cc in ap (λ k. stepped c k (read_step every) p) same
after_is c l (op.Mirror n map) place reg p is e = let same : reg ≡ n = cc in ap (λ k. stepped c k (read_step every) p) same
after_is c l (op.Check n map) place reg p is e = let same : reg ≡ n = cc in ap (λ k. stepped c k (read_step every) p) same
after_is c l (op.FieldWrite field map value) place reg p is e =
    let same : reg ≡ reg_of c field = cc in ap (λ k. stepped c k (write_step (reached_fields (seen c l p) field place true) (field_word (seen c l p) field place value)) p) same
after_is c l (op.FieldRead field map) place reg p is e =
    let same : reg ≡ reg_of c field = cc in ap (λ k. stepped c k (read_step (reached_fields (seen c l p) field place false)) p) same
after_is c l (op.Update n map) place reg p is e = let same : reg ≡ n = cc in ap (λ k. stepped c k (step_of (seen c l p) (op.Update n map) place) p) same
after_is c l (op.OtherWrite n map value) place reg p is e = let same : reg ≡ n = cc in ap (λ k. stepped c k (write_step every value) p) same
after_is c l (op.OtherRead n map) place reg p is e = let same : reg ≡ n = cc in ap (λ k. stepped c k (read_step every) p) same
after_is c l _ place reg p is e = absurd is

ends_as : (c : ChipData) (l : LayoutData) (op : Op) (place reg : ℕ) (p : Machine) → IsAccess op → register_of c op ≡ Some reg → end_of (seen c l p) op place (register_at c p reg) ≡ machine_end c l op
    place p
ends_as c l (op.Write n map value) place reg p is e = refl
ends_as c l (op.Read n map) place reg p is e = let same : reg ≡ n = cc in ap (λ k. end.Value (ranswer (fields_of c n) every (register_at c p k))) same
ends_as c l (op.Mirror n map) place reg p is e = let same : reg ≡ n = cc in ap (λ k. end.Value (ranswer (fields_of c n) every (register_at c p k))) same
ends_as c l (op.Check n map) place reg p is e = let same : reg ≡ n = cc in ap (λ k. end.Value (ranswer (fields_of c n) every (register_at c p k))) same
ends_as c l (op.FieldWrite field map value) place reg p is e = refl
ends_as c l (op.FieldRead field map) place reg p is e =
    let same : reg ≡ reg_of c field = cc in
    ap (λ k. end.Value (part_of (field_of c field).shape (ranswer (fields_of c (reg_of c field)) (reached_fields (seen c l p) field place false) (register_at c p k)))) same
ends_as c l (op.Update n map) place reg p is e = refl
ends_as c l (op.OtherWrite n map value) place reg p is e = refl
ends_as c l (op.OtherRead n map) place reg p is e = let same : reg ≡ n = cc in ap (λ k. end.Value (ranswer (fields_of c n) every (register_at c p k))) same
ends_as c l _ place reg p is e = absurd is

pub check_finds : (c : ChipData) (reg : ℕ) (p : Machine) → IsSound c → reg < length c.regs → differ c reg (ranswer (fields_of c reg) every (register_at c p reg)) (mirror_of p) ≡ 0
unfolding differ
check_finds c reg p sound inside = nothing_found c reg (register_at c p reg) sound inside

finds_as : (c : ChipData) (op : Op) (reg : ℕ) (p : Machine) → IsAccess op → IsSound c → reg < length c.regs → differ_in c op reg (register_at c p reg) (mirror_of p) ≡ machine_differ op p
finds_as c (op.Write n map value) reg p is sound inside = refl
finds_as c (op.Read n map) reg p is sound inside = refl
finds_as c (op.Mirror n map) reg p is sound inside = refl
finds_as c (op.Check n map) reg p is sound inside = check_finds c reg p sound inside
finds_as c (op.FieldWrite field map value) reg p is sound inside = refl
finds_as c (op.FieldRead field map) reg p is sound inside = refl
finds_as c (op.Update n map) reg p is sound inside = refl
finds_as c (op.OtherWrite n map value) reg p is sound inside = refl
finds_as c (op.OtherRead n map) reg p is sound inside = refl
finds_as c _ reg p is sound inside = absurd is

-- ---- the device keeps its locations

setup_after : (c : ChipData) (d : State) (reg : ℕ) (step : Step) (r : Register) (count : ℕ) → (device_after c d reg step r count).setup ≡ d.setup
setup_after c d reg (write_step chosen word) r count = refl
setup_after c d reg (read_step chosen) r count = refl
setup_after c d reg no_step r count = refl

locations_after : (c : ChipData) (d : State) (reg : ℕ) (step : Step) (r : Register) (count : ℕ) → (device_after c d reg step r count).locations ≡ d.locations
locations_after c d reg (write_step chosen word) r count = refl
locations_after c d reg (read_step chosen) r count = refl
locations_after c d reg no_step r count = refl

-- ---- each access

access_by : {which : ℕ → ℕ → Type 0} (c : ChipData) (l : LayoutData) (p : Machine) (adapters : List Standing) (account : Account) (told : Option State) (new : Scene) (op : Op) (event : Event)
    (place reg : ℕ) →
    let s = scene (seen c l p) adapters account told in
    IsAccess op → IsModel s.model → (a : Agree s) → HasContents which c a.device p → register_of c op ≡ Some reg → reg < length c.regs → IsStepped s new op event place reg a.device (register_at c p
    reg) → IsMachineStep which c l p new op place event
access_by {which} c l p adapters account told new op event place reg is ok a has register inside st =
    let s = scene (seen c l p) adapters account told in
    let m = s.model in
    let r = register_at c p reg in
    let step = step_of m op place in
    let row : stepped c reg step p ≡ machine_after c l op place p = after_is c l op place reg p is register in
    let count = length event.trace in
    let moved : st.stepped.after ≡ device_after c a.device reg step r count = st.stepped.step in
    record {
      agree = agree_after s new op event place reg ok a inside st;
      chip = st.follows.chip;
      layout = st.follows.layout;
      mirror = plain_state c reg p new.model.mirror step ok.chip inside ok.mirror st.follows.mirror ∙ ap mirror_of row;
      many = st.follows.many ∙ length-replicate (length l.places) no_words;
      kept = step_kept c reg (mirror_of p) new.model.mirror r step ok.chip inside (record { built = ok.mirror; reach = ok.reach }) st.follows.mirror;
      after = st.stepped.after;
      told = st.stepped.told;
      contents = subst (HasContents which c st.stepped.after) row
          (contents_stay c a.device st.stepped.after p (stepped c reg step p) has
          (ap (λ (x : State). x.setup) moved ∙ setup_after c a.device reg step r count) (ap (λ (x : State). x.locations) moved ∙ locations_after c a.device reg step r count) (stepped_locations c reg
          step p));
      ends = st.stepped.ends ∙ ends_as c l op place reg p is register;
      finds = st.finds ∙ finds_as c op reg p is ok.chip inside;
    }

pub access_step : {which : ℕ → ℕ → Type 0} (c : ChipData) (l : LayoutData) (p : Machine) (adapters : List Standing) (account : Account) (told : Option State) (new : Scene) (op : Op) (event : Event)
    (place : ℕ) →
    let s = scene (seen c l p) adapters account told in
    IsAccess op → HasNumbers c (length l.maps) op → IsModel s.model → (a : Agree s) → HasContents which c a.device p → grant s.model op ≡ Ok place → IsDone s new op place event →
    IsMachineStep which c l p new op place event
access_step c l p adapters account told new op event place is numbers ok a has granted done =
    let s = scene (seen c l p) adapters account told in
    let n = register_in c (length l.maps) op ok.chip is numbers in
    access_by c l p adapters account told new op event place n.reg is ok a has n.register n.inside
    (one_step s new op event place n.reg a.device (register_at c p n.reg) is numbers n.register
    (record { model = ok; told = a.told; ready = a.believed_is.ready; holds = a.believed_is.holds n.reg n.inside }) granted done)

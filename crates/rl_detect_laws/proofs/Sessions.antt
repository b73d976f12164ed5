-- A session whose script has a line of a sequence is found to have what each run of the sequence finds.
use Rattle.std.proofs.Common.{◌≡◌, ℕ, ◌+◌, ◌-◌, ◌^◌, ◌<◌, true, false, ◌||◌, List, [], ◌∷◌, ◌++◌, codes, length, map}
use Rattle.std.proofs.Common.{Option, Some, None, option_map, Result, Ok, Err, refl, sym, ap, subst, ◌∙◌, inl, inr, eq-eqb, arith}
use Rattle.std.specs.Prelude.{unwrap_or, slice_index}
use Rattle.std.proofs.lemmas.List.Elements.{All-head}
use Rattle.std.proofs.lemmas.Option.{slice_get-get_or}
use Rattle.rl_bus.specs.Account.{without_peer}
use Rattle.rl_policy.proofs.BitLemmas.{bit-zero}
use Rattle.rl_policy.specs.Bits.{bit}
use Rattle.rl_bus.specs.declared.op.AdapterKind.{AdapterKind}
use Rattle.rl_bus.specs.declared.table.Cell.TheVariants as cell
use Rattle.rl_bus.specs.declared.table.ItemRow.TheVariants as row
use Rattle.rl_bus.specs.declared.table.ResetRow.{ResetRow}
use Rattle.rl_bus.specs.declared.table.StuckRow.{StuckRow}
use Rattle.rl_bus.specs.Setup.{Setup, Flaws, is_deaf, location}
use Rattle.rl_bus.specs.Standing.{Standing, kinds_of}
use Rattle.rl_bus.specs.State.{first_state}
use Rattle.rl_model.specs.Rows.{FieldSeen, ChipData}
use Rattle.rl_model.specs.Fields.{no_field, field_of, first_of as first_field}
use Rattle.rl_model.specs.declared.rows.Item.TheVariants.{Reg}
use Rattle.rl_map.specs.Layout.{LayoutData, place_at}
use Rattle.rl_map.specs.Tables.{setup_of}
use Rattle.rl_flaw.specs.declared.flaw.Flaw.{Flaw}
use Rattle.rl_flaw.specs.declared.flaw.Flaw.TheVariants.{OtherReset, Deaf}
use Rattle.rl_flaw.specs.Flaws.{width_of, IsFlawOf, AreFlawsOf, flaws_of, first_of, locations_of}
use Rattle.rl_mirror.specs.Mirror.{mirrored_of}
use Rattle.rl_mirror.specs.Prediction.{fresh}
use Rattle.rl_access.specs.declared.event.Event.{Event}
use Rattle.rl_access.specs.Call.{Scene}
use Rattle.rl_access.specs.HandsOver.{Told}
use Rattle.rl_access.specs.Laws.{IsComparedField}
use Rattle.rl_access.specs.Model.{IsModel}
use Rattle.rl_access.specs.Operation.{reg_of}
use Rattle.rl_access.specs.Tally.{is_bus_error}
use Rattle.rl_access.specs.World.{World, scene_at}
use Rattle.rl_seq.specs.declared.sequence.Sequence.{Sequence}
use Rattle.rl_seq.specs.declared.sequence.Sequence.TheVariants.{HwReset as HwResetOf, BitBash as BitBashOf, Access as AccessOf, MemWalk as MemWalkOf}
use Rattle.rl_seq.specs.Sequences.{map_at}
use Rattle.rl_desc.specs.declared.fault.DescFault.{DescFault}
use Rattle.rl_desc.specs.Data.{DescData}
use Rattle.rl_desc.specs.Described.{described, document_of, first_fault, description_of}
use Rattle.rl_desc.specs.Reading.{document_data}
use Rattle.rl_desc.proofs.ThereLemmas.{flaws_there}
use Rattle.rl_script.specs.Commands.{sequence_name}
use Rattle.rl_script.specs.Spelling.{spelling}
use Rattle.rl_script.specs.declared.line.Line.TheVariants as say
use Rattle.rl_script.specs.declared.line.Sequence.{Sequence as Word}
use Rattle.rl_script.specs.declared.line.Sequence.TheVariants.{HwReset, BitBash, Access, Shared, MemWalk}
use Rattle.rl_script.proofs.AgainLemmas.{read_again}
use Rattle.rl_log.specs.Entry.{framed, sequence_course}
use Rattle.rl_log.specs.Events.{Happened, events_from}
use Rattle.rl_log.specs.Lines.{told_at}
use Rattle.rl_log.specs.Log.{comes_of, said, said_by as read_as}
use Rattle.rl_log.specs.Recording.{no_counts}
use Rattle.rl_session.specs.Judged.{first_world, judged_by, events_by, judged_events}
use Rattle.rl_session.specs.Session.{head_of, said_by, opening_after, opening_of, script_of}
use Rattle.rl_plain.specs.Agree.{HasNoVolatile, HasLocations}
use Rattle.rl_session_laws.proofs.Openings.{each_opening_sound}
use Rattle.rl_detect_laws.specs.BitFlaws.{IsComparedAt, HasFlaw}
use Rattle.rl_detect_laws.specs.BitTables.{first_sides, first_believed}
use Rattle.rl_detect_laws.specs.Deaf.{deaf_items, HasDeafItems, IsDeafTo, IsMarkedCheck, IsDeafBit, IsTurned}
use Rattle.rl_detect_laws.specs.Errors.{FailsAtWord, HasError, SendsSome, is_error_at}
use Rattle.rl_detect_laws.specs.Logged.{Leads, HasLogged, HasRun, Shows}
use Rattle.rl_detect_laws.specs.Otherwise.{IsNewOtherwise}
use Rattle.rl_detect_laws.specs.Resets.{wrong_resets, HasWrongResets, IsResetOtherwise, IsNamedBy}
use Rattle.rl_detect_laws.specs.Sessions.{IsPlayed, HasSequence, IsFound, LoneLineIsPlayed, SessionFindsWrongReset, SessionFindsKeptReset, SessionFindsError}
use Rattle.rl_detect_laws.specs.Sessions.{IsOnlyStuck, SessionFindsStuckBit, SessionFindsStuckBitBeside, SessionFindsStuckReset, SessionFindsDeafRegister, SessionFindsDeafMemory, SessionMarksOnlyDeaf}
use Rattle.rl_detect_laws.specs.Sessions.{HasOnlyFlaw, SessionFindsBitFlaw}
use Rattle.rl_detect_laws.specs.Sides.{BitFlaw, sticks, hears_nothing, goes_by}
use Rattle.rl_detect_laws.specs.Stuck.{HasStuckBit, IsComparedBit}
use Rattle.rl_detect_laws.specs.Visited.{RunsAll, HasEvent, IsVisited}
use Rattle.rl_detect_laws.proofs.ApartFound.{held_otherwise_is_named, new_one_is_held_otherwise}
use Rattle.rl_detect_laws.proofs.BitBash.{stuck_bit_is_named, stuck_bit_beside_is_named}
use Rattle.rl_detect_laws.proofs.BitFlaw.{bit_flaw_is_named}
use Rattle.rl_detect_laws.proofs.BitTables.{new_one_has_flaw}
use Rattle.rl_detect_laws.proofs.Checks.{from_own}
use Rattle.rl_detect_laws.proofs.DeafAlone.{only_deaf_is_marked}
use Rattle.rl_detect_laws.proofs.DeafRegister.{deaf_register_is_named}
use Rattle.rl_detect_laws.proofs.DeafWalk.{deaf_memory_is_found}
use Rattle.rl_detect_laws.proofs.EachLine.{IsWorldOf, leads_keeps}
use Rattle.rl_detect_laws.proofs.Errors.{visited_error_is_found}
use Rattle.rl_detect_laws.proofs.HwReset.{wrong_reset_is_named}
use Rattle.rl_detect_laws.proofs.Logged.{line_comes, sequence_is_logged, shown_is_found}
use Rattle.rl_detect_laws.proofs.NewDeaf.{new_ones_agree_on_bits, none_spent}
use Rattle.rl_detect_laws.proofs.NewOnes.{one_reset, reset_taken, new_set_up, new_deaf, zero_held, new_one_has_deaf_memory, new_one_has_locations}
use Rattle.rl_detect_laws.proofs.StuckReset.{stuck_reset_is_named}
use Rattle.rl_detect_laws.proofs.Turned.{new_one_has_stuck_bit}

-- ---- events

behind : (IsSo : Event → Type 0) (earlier rest : List Happened) → HasLogged IsSo rest → HasLogged IsSo (earlier ++ rest)
behind IsSo [] rest h = h
behind IsSo (e ∷ earlier) rest h = inr (behind IsSo earlier rest h)

in_front : (IsSo : Event → Type 0) (own later : List Happened) → HasLogged IsSo own → HasLogged IsSo (own ++ later)
in_front IsSo [] later h = absurd h
in_front IsSo (e ∷ own) later (inl h) = inl h
in_front IsSo (e ∷ own) later (inr h) = inr (in_front IsSo own later h)

all_shown : (IsSo : Event → Type 0) → ((e : Event) → IsSo e → Shows e) → (events : List Happened) → HasLogged IsSo events → HasLogged Shows events
all_shown IsSo shows [] h = absurd h
all_shown IsSo shows (e ∷ events) (inl h) = inl (shows e.event h)
all_shown IsSo shows (e ∷ events) (inr h) = inr (all_shown IsSo shows events h)

named_shows : (c : ChipData) (field : ℕ) (e : Event) → IsNamedBy c field e → Shows e
named_shows c field e h =
    let k = field - first_field c (reg_of c field) in
    inl (λ none. let no : true ≡ false = sym h.names ∙ ap (λ n. bit n k) none ∙ bit-zero k in absurd (cc))

marked_shows : (c : ChipData) (mem map index read : ℕ) (e : Event) → IsMarkedCheck c mem map index read e → Shows e
marked_shows c mem map index read e h = inl (λ none. let no = sym h.marked ∙ none in absurd (cc))

-- ---- a session

-- what each run of the sequence has, the judged log has
found : (bytes : List ℕ) (adapters : List Standing) (desc : DescData) (before : List (List ℕ)) (which : Sequence) (block : Option ℕ) (IsSo : Event → Type 0)
    → IsPlayed bytes adapters desc → (has : HasSequence bytes adapters desc before which block) → ((e : Event) → IsSo e → Shows e)
    → ((told : List Told) (new : Scene) → RunsAll which block (scene_at has.world (without_peer 0)) told new → HasEvent IsSo told)
    → IsFound bytes adapters IsSo
found bytes adapters desc before which block IsSo played has shows finds =
    let w = first_world desc adapters in
    let run = sequence_is_logged 1 w has.world before has.after has.line which block has.says in
    let own = finds (map told_at run.own) run.new run.runs in
    let among = behind IsSo run.earlier (run.own ++ run.later) (in_front IsSo run.own run.later own) in
    let event = subst (λ ls. HasLogged IsSo (events_from 1 w ls)) (sym has.lines) (subst (HasLogged IsSo) (sym run.all) among) in
    record {
      status = ap (λ o. (judged_by o bytes adapters).status) played.opens
          ∙ shown_is_found 1 no_counts w played.last (script_of bytes) played.leads
          (all_shown IsSo shows (events_from 1 w (script_of bytes)) event);
      event = subst (HasLogged IsSo) (sym (ap (λ o. events_by o bytes adapters) played.opens)) event;
    }

-- and so where it is the first line, and starts in the first world
found_first : (bytes : List ℕ) (adapters : List Standing) (desc : DescData) (which : Sequence) (block : Option ℕ) (IsSo : Event → Type 0)
    → IsPlayed bytes adapters desc → HasSequence bytes adapters desc [] which block → ((e : Event) → IsSo e → Shows e)
    → ((told : List Told) (new : Scene) → RunsAll which block (scene_at (first_world desc adapters) (without_peer 0)) told new → HasEvent IsSo told)
    → IsFound bytes adapters IsSo
found_first bytes adapters desc which block IsSo played has shows finds =
    found bytes adapters desc [] which block IsSo played has shows
    (subst (λ v. (told : List Told) (new : Scene) → RunsAll which block (scene_at v (without_peer 0)) told new → HasEvent IsSo told)
    (sym has.says.leads) finds)

-- ---- a script of one line

abbrev lone : Word → List ℕ
lone word = codes "seq " ++ sequence_name word ++ codes " *"

lone_said : (word : Word) → said 1 (lone word) ≡ Ok (say.Seq word None)
unfolding spelling
lone_said HwReset = ap read_as (read_again (say.Seq HwReset None) tt (tt, omega arith))
lone_said BitBash = ap read_as (read_again (say.Seq BitBash None) tt (tt, omega arith))
lone_said Access = ap read_as (read_again (say.Seq Access None) tt (tt, omega arith))
lone_said Shared = ap read_as (read_again (say.Seq Shared None) tt (tt, omega arith))
lone_said MemWalk = ap read_as (read_again (say.Seq MemWalk None) tt (tt, omega arith))

pub lone_line_is_played : LoneLineIsPlayed
lone_line_is_played bytes adapters desc word kinds opens is =
    let w = first_world desc adapters in
    let e = framed word None (sequence_course word None w) in
    let comes : comes_of w (said 1 (lone word)) ≡ Ok e = ap (comes_of w) (lone_said word) ∙ line_comes w word None None refl in (
      record {
        kinds = kinds;
        opens = opens;
        last = e.course.world;
        leads = subst (λ ls. Leads 1 w ls e.course.world) (sym is) (e, comes, refl);
      },
      record {
        line = lone word;
        after = [];
        lines = is;
        world = w;
        says = record { leads = refl; word = word; over = None; says = lone_said word; sequence_is = refl; block_is = refl };
      },
    )

-- ---- the first world

first_stands : (desc : DescData) (adapters : List Standing) → IsModel (first_world desc adapters).model
    → IsWorldOf desc.chip desc.layout (setup_of desc.chip desc.layout (flaws_of desc.flaws)) (first_world desc adapters)
first_stands desc adapters sound =
    let new = new_set_up desc.chip desc.layout (flaws_of desc.flaws) (locations_of desc.chip) in
    record { model = sound; chip = refl; layout = refl; setup = new.setup; bits = new.bits; marks = new.marks }

model_of : (bytes : List ℕ) (adapters : List Standing) (desc : DescData) → IsPlayed bytes adapters desc → IsModel (first_world desc adapters).model
model_of bytes adapters desc played = each_opening_sound bytes adapters desc played.kinds played.opens

-- what the flaws name is there
described_there : {A : Type 0} (f : A → DescData) (o : Option A) (desc : DescData)
    → ((x : A) → AreFlawsOf (f x).chip (f x).layout (f x).flaws) → option_map f o ≡ Some desc → AreFlawsOf desc.chip desc.layout desc.flaws
described_there f None desc h is = absurd (cc)
described_there f (Some x) desc h is =
    let same : f x ≡ desc = cc in subst (λ (d : DescData). AreFlawsOf d.chip d.layout d.flaws) same (h x)

said_there : (fault : Option DescFault) (given : Option DescData) (desc : DescData) → said_by fault given ≡ Ok desc → given ≡ Some desc
said_there (Some fault) given desc is = absurd (cc)
said_there None None desc is = absurd (cc)
said_there None (Some other) desc is = let same : other ≡ desc = cc in ap Some same

head_there : (head : List ℕ) (kinds : List AdapterKind) (desc : DescData)
    → said_by (first_fault head kinds) (description_of head kinds) ≡ Ok desc → AreFlawsOf desc.chip desc.layout desc.flaws
unfolding described description_of
head_there head kinds desc is =
    described_there (λ doc. described (document_data doc) kinds) (document_of head) desc
    (λ doc. let d = described (document_data doc) kinds in flaws_there d.chip d.layout (document_data doc).flaws)
    (said_there (first_fault head kinds) (description_of head kinds) desc is)

after_there : (head : Result (List ℕ) (List ℕ)) (kinds : List AdapterKind) (desc : DescData) → opening_after head kinds ≡ Ok desc
    → AreFlawsOf desc.chip desc.layout desc.flaws
after_there (Ok head) kinds desc is = head_there head kinds desc is
after_there (Err line) kinds desc is = absurd (cc)

opened_there : (bytes : List ℕ) (kinds : List AdapterKind) (desc : DescData) → opening_of bytes kinds ≡ Ok desc
    → AreFlawsOf desc.chip desc.layout desc.flaws
unfolding opening_of
opened_there bytes kinds desc is = after_there (head_of bytes) kinds desc is

-- the only one of them
only_there : (desc : DescData) (flaw : Flaw) → desc.flaws ≡ flaw ∷ [] → AreFlawsOf desc.chip desc.layout desc.flaws
    → IsFlawOf desc.chip desc.layout flaw
only_there desc flaw is all =
    All-head (IsFlawOf desc.chip desc.layout) flaw [] (subst (AreFlawsOf desc.chip desc.layout) is all)

width_is : (c : ChipData) (field : ℕ) → field < length c.fields → width_of c field ≡ (field_of c field).shape.width
width_is c field inside =
    ap (λ (o : Option FieldSeen). unwrap_or (option_map (λ s. s.shape.width) o) 0) (slice_get-get_or c.fields field no_field inside)

-- ---- a wrong reset value

-- a run from a world where the setup has these wrong reset values
reset_at : (c : ChipData) (l : LayoutData) (v : World) (resets : List ResetRow) (block : Option ℕ) (field place : ℕ) (told : List Told) (new : Scene)
    → IsWorldOf c l (setup_of c l (wrong_resets resets)) v → field < length c.fields → IsComparedField (field_of c field).shape
    → IsResetOtherwise c (setup_of c l (wrong_resets resets)) field → IsVisited HwResetOf c l block (reg_of c field) place
    → RunsAll HwResetOf block (scene_at v (without_peer 0)) told new → HasEvent (IsNamedBy c field) told
reset_at c l v resets block field place told new h inside compared other at run =
    from_own c l v.model
    (λ x y. HasWrongResets x y v.device → field < length x.fields → IsComparedField (field_of x field).shape → IsResetOtherwise x v.device.setup field
    → IsVisited HwResetOf x y block (reg_of x field) place → HasEvent (IsNamedBy x field) told) h.chip h.layout
    (λ is inside compared other at.
    wrong_reset_is_named (scene_at v (without_peer 0)) new v.device block told field place h.model refl is inside compared other at run)
    (record { resets = resets; setup = h.setup; bits = h.bits; marks = h.marks }) inside compared
    (subst (λ u. IsResetOtherwise c u field) (sym h.setup) other) at

pub session_finds_wrong_reset : SessionFindsWrongReset
session_finds_wrong_reset bytes adapters desc before block field place played has wrong compared at =
    let c = desc.chip in
    let l = desc.layout in
    let t = setup_of c l (wrong_resets (one_reset field wrong.taken)) in
    let there = only_there desc (OtherReset field 0 wrong.taken) wrong.flaw (opened_there bytes (kinds_of adapters) desc played.opens) in
    let stands = subst (λ fs. IsWorldOf c l (setup_of c l (flaws_of fs)) (first_world desc adapters)) wrong.flaw
    (first_stands desc adapters (model_of bytes adapters desc played)) in
    let v = leads_keeps c l t before 1 (first_world desc adapters) has.world stands has.says.leads in
    let other : IsResetOtherwise c t field = record {
      described = wrong.described;
      says = wrong.says;
      taken = wrong.taken;
      takes = reset_taken c l field wrong.taken;
      fits = subst (λ n. wrong.taken < 2 ^ n) (width_is c field there.0) there.2;
      other = wrong.other;
    } in
    found bytes adapters desc before HwResetOf block (IsNamedBy c field) played has (named_shows c field)
    (λ told new run. reset_at c l has.world (one_reset field wrong.taken) block field place told new v there.0 compared other at run)

pub session_finds_kept_reset : SessionFindsKeptReset
session_finds_kept_reset bytes adapters desc which block field place played has wrong compared kept at checks =
    let c = desc.chip in
    let l = desc.layout in
    let w = first_world desc adapters in
    let sound = model_of bytes adapters desc played in
    let there = only_there desc (OtherReset field 0 wrong.taken) wrong.flaw (opened_there bytes (kinds_of adapters) desc played.opens) in
    let new_one = new_one_is_held_otherwise c l field wrong.described wrong.taken (locations_of c) sound.chip there.0 compared wrong.says
    (subst (λ n. wrong.taken < 2 ^ n) (width_is c field there.0) there.2) wrong.other in
    let is = subst (λ fs. IsNewOtherwise c l field (first_of c l fs)) (sym wrong.flaw) new_one in
    found_first bytes adapters desc which block (IsNamedBy c field) played has (named_shows c field)
    (λ told new run. held_otherwise_is_named (scene_at w (without_peer 0)) new w.device which block told field is.i place sound refl is.alike is.otherwise kept at checks run)

-- ---- an address that answers errors

error_at : (c : ChipData) (l : LayoutData) (t : Setup) (v : World) (which : Sequence) (block : Option ℕ) (number place index : ℕ) (told : List Told) (new : Scene)
    → IsWorldOf c l t v → IsVisited which c l block number place → SendsSome which c number → (error : HasError l t place index)
    → RunsAll which block (scene_at v (without_peer 0)) told new → HasEvent (FailsAtWord l place index error.stands.number) told
error_at c l t v which block number place index told new h at sends error run =
    from_own c l v.model
    (λ x y. IsVisited which x y block number place → SendsSome which x number → (error : HasError y v.device.setup place index)
    → HasEvent (FailsAtWord y place index error.stands.number) told)
    h.chip h.layout
    (λ at sends error. visited_error_is_found (scene_at v (without_peer 0)) new v.device which block told number place index h.model refl at sends error run)
    at sends (record {
      address = error.address;
      stands = error.stands;
      fails = subst (λ u. is_error_at u (place_at l place).port error.address ≡ true) (sym h.setup) error.fails;
    })

pub session_finds_error : SessionFindsError
session_finds_error bytes adapters desc before which block number place index played has at sends error =
    let c = desc.chip in
    let l = desc.layout in
    let t = setup_of c l (flaws_of desc.flaws) in
    let v = leads_keeps c l t before 1 (first_world desc adapters) has.world
    (first_stands desc adapters (model_of bytes adapters desc played)) has.says.leads in
    found bytes adapters desc before which block (FailsAtWord l place index error.stands.number) played has (λ e h. inr (ap is_bus_error h.at.ends))
    (λ told new run. error_at c l t has.world which block number place index told new v at sends error run)

-- ---- a stuck bit

-- what a sequence names of the one bit that is stuck, the first line of a session finds
stuck_found : (bytes : List ℕ) (adapters : List Standing) (desc : DescData) (which : Sequence) (block : Option ℕ) (stuck : StuckRow)
    → IsPlayed bytes adapters desc → HasSequence bytes adapters desc [] which block → IsOnlyStuck desc stuck → IsComparedBit desc.chip stuck
    → (IsModel (first_world desc adapters).model → HasStuckBit desc.chip desc.layout (first_world desc adapters).device stuck
    → (told : List Told) (new : Scene) → RunsAll which block (scene_at (first_world desc adapters) (without_peer 0)) told new
    → HasEvent (IsNamedBy desc.chip stuck.field) told)
    → IsFound bytes adapters (IsNamedBy desc.chip stuck.field)
stuck_found bytes adapters desc which block stuck played has only is finds =
    let sound = model_of bytes adapters desc played in
    found_first bytes adapters desc which block (IsNamedBy desc.chip stuck.field) played has (named_shows desc.chip stuck.field)
    (finds sound (subst (λ fs. HasStuckBit desc.chip desc.layout (first_of desc.chip desc.layout fs) stuck) (sym only)
    (new_one_has_stuck_bit desc.chip desc.layout stuck (locations_of desc.chip) sound.chip is.field_in is.bit_in)))

pub session_finds_stuck_bit : SessionFindsStuckBit
session_finds_stuck_bit bytes adapters desc block stuck place played has only is shown at =
    let w = first_world desc adapters in
    stuck_found bytes adapters desc BitBashOf block stuck played has only is (λ sound there told new run.
    stuck_bit_is_named (scene_at w (without_peer 0)) new w.device block told stuck place sound refl there is shown at run)

pub session_finds_stuck_bit_beside : SessionFindsStuckBitBeside
session_finds_stuck_bit_beside bytes adapters desc block stuck beside place played has only is shown other at =
    let w = first_world desc adapters in
    stuck_found bytes adapters desc BitBashOf block stuck played has only is (λ sound there told new run.
    stuck_bit_beside_is_named (scene_at w (without_peer 0)) new w.device block told stuck beside place sound refl there is shown other at run)

pub session_finds_stuck_reset : SessionFindsStuckReset
session_finds_stuck_reset bytes adapters desc block stuck place played has only is other at =
    let w = first_world desc adapters in
    stuck_found bytes adapters desc HwResetOf block stuck played has only is (λ sound there told new run.
    stuck_reset_is_named (scene_at w (without_peer 0)) new w.device block told stuck place sound refl there is other at run)

-- ---- a deaf item

deaf_reg : (c : ChipData) (l : LayoutData) (reg : ℕ) → is_deaf (setup_of c l (deaf_items (row.Reg reg ∷ []))) (cell.Reg reg) ≡ true
unfolding setup_of
deaf_reg c l reg = subst (λ b. (b || false) ≡ true) (sym (eq-eqb reg reg refl)) refl

pub session_finds_deaf_register : SessionFindsDeafRegister
session_finds_deaf_register bytes adapters desc block field i place played has only steady is at =
    let c = desc.chip in
    let l = desc.layout in
    let reg = reg_of c field in
    let w = first_world desc adapters in
    let sound = model_of bytes adapters desc played in
    let deaf = row.Reg reg ∷ [] in
    let d = first_of c l (Deaf (Reg reg) ∷ []) in
    let f = (field_of c field).shape in
    let deaf_bit : IsDeafBit c d (fresh c) field i = record {
      deaf = subst (λ (u : Setup). is_deaf u (cell.Reg reg) ≡ true) (sym (new_set_up c l (deaf_items deaf) (locations_of c)).setup) (deaf_reg c l reg);
      field_in = is.field_in;
      bit_in = is.bit_in;
      compared = is.compared;
      value = bit (mirrored_of (fresh c) reg) (f.lsb + i);
      held = ap (λ n. bit n (f.lsb + i)) (sym (new_ones_agree_on_bits c l deaf (locations_of c) reg sound.chip steady at.number_in));
      believed = refl;
      turned = subst (λ b. IsTurned f.policy (bit (mirrored_of (fresh c) reg) (f.lsb + i)) b) (sym (none_spent c field)) is.turned;
    } in
    found_first bytes adapters desc AccessOf block (IsNamedBy c field) played has (named_shows c field)
    (λ told new run.
    deaf_register_is_named (scene_at w (without_peer 0)) new w.device block told field i place sound refl
    (subst (λ fs. HasDeafItems c l (first_of c l fs)) (sym only) (new_deaf c l deaf))
    (subst (λ fs. IsDeafBit c (first_of c l fs) (fresh c) field i) (sym only) deaf_bit) at run)

pub session_finds_deaf_memory : SessionFindsDeafMemory
session_finds_deaf_memory bytes adapters desc block mem index place played has only shown at =
    let c = desc.chip in
    let l = desc.layout in
    let w = first_world desc adapters in
    let sound = model_of bytes adapters desc played in
    let t = setup_of c l (deaf_items only.deaf) in
    let named : is_deaf t (cell.Loc mem index) ≡ true = only.named in
    let new_one = new_one_has_deaf_memory c l only.deaf mem index sound.chip at.number_in named shown in
    let both = subst (λ (f : Flaws). let d = first_state (setup_of c l f) (locations_of c) in HasDeafItems c l d × IsDeafTo c d mem index) (sym only.flaws) new_one in
    let zero : slice_index w.device.locations (location w.device.setup mem index) ≡ 0 = zero_held c l (flaws_of desc.flaws) (locations_of c) mem index in
    found_first bytes adapters desc MemWalkOf block (IsMarkedCheck c mem (map_at l place) index 0) played has (marked_shows c mem (map_at l place) index 0)
    (λ told new run.
    subst (λ n. HasEvent (IsMarkedCheck c mem (map_at l place) index n) told) zero
    (deaf_memory_is_found (scene_at w (without_peer 0)) new w.device block told mem index place sound refl both.0 both.1 at run))

pub session_marks_only_deaf : SessionMarksOnlyDeaf
session_marks_only_deaf bytes adapters desc block played has only =
    let c = desc.chip in
    let l = desc.layout in
    let w = first_world desc adapters in
    let sound = model_of bytes adapters desc played in
    let logged = sequence_is_logged 1 w has.world [] has.after has.line MemWalkOf block has.says in
    let told = map told_at logged.own in
    let run : HasRun MemWalkOf block has.world (judged_events bytes adapters) = record {
      earlier = logged.earlier;
      own = logged.own;
      later = logged.later;
      all = ap (λ o. events_by o bytes adapters) played.opens ∙ ap (events_from 1 w) has.lines ∙ logged.all;
      new = logged.new;
      runs = logged.runs;
    } in
    let deaf = subst (λ (f : Flaws). HasDeafItems c l (first_state (setup_of c l f) (locations_of c))) (sym only.flaws) (new_deaf c l only.deaf) in
    let room = subst (λ (f : Flaws). HasLocations c (first_state (setup_of c l f) (locations_of c))) (sym only.flaws) (new_one_has_locations c l only.deaf) in
    let runs = subst (λ v. RunsAll MemWalkOf block (scene_at v (without_peer 0)) told logged.new) has.says.leads logged.runs in
    (run, only_deaf_is_marked (scene_at w (without_peer 0)) logged.new w.device block told sound refl deaf room runs)

-- ---- a flaw of a bit

flaw_first : (desc : DescData) (adapters : List Standing) (field i : ℕ) (flaw : BitFlaw) → IsModel (first_world desc adapters).model → HasNoVolatile desc.chip
    → IsComparedAt desc.chip field i → HasOnlyFlaw desc field i flaw
    → HasFlaw desc.chip desc.layout (first_world desc adapters).device (fresh desc.chip) field i flaw (first_sides flaw (first_believed desc.chip field i))
flaw_first desc adapters field i (sticks v) sound steady is only =
    let c = desc.chip in
    let l = desc.layout in
    subst (λ fs. HasFlaw c l (first_of c l fs) (fresh c) field i (sticks v) (first_sides (sticks v) (first_believed c field i))) (sym only)
    (new_one_has_flaw c l field i (sticks v) (locations_of c) sound.chip steady is)
flaw_first desc adapters field i hears_nothing sound steady is only =
    let c = desc.chip in
    let l = desc.layout in
    subst (λ fs. HasFlaw c l (first_of c l fs) (fresh c) field i hears_nothing (first_sides hears_nothing (first_believed c field i))) (sym only)
    (new_one_has_flaw c l field i hears_nothing (locations_of c) sound.chip steady is)
flaw_first desc adapters field i (goes_by q) sound steady is only =
    let c = desc.chip in
    let l = desc.layout in
    subst (λ fs. HasFlaw c l (first_of c l fs) (fresh c) field i (goes_by q) (first_sides (goes_by q) (first_believed c field i))) (sym only)
    (new_one_has_flaw c l field i (goes_by q) (locations_of c) sound.chip steady is)

pub session_finds_bit_flaw : SessionFindsBitFlaw
session_finds_bit_flaw bytes adapters desc which block field i place flaw played has only steady is at shown =
    let c = desc.chip in
    let w = first_world desc adapters in
    let sound = model_of bytes adapters desc played in
    found_first bytes adapters desc which block (IsNamedBy c field) played has (named_shows c field)
    (λ told new run.
    bit_flaw_is_named (scene_at w (without_peer 0)) new w.device which block told field i place flaw (first_sides flaw (first_believed c field i)) sound refl
    (flaw_first desc adapters field i flaw sound steady is only) at shown run)

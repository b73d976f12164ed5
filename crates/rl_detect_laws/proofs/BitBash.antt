-- A bit of the register is turned round twice: after the first check the stuck bit is believed as a read leaves it, and the second
-- finds it other than it was written.
use Rattle.std.proofs.Common.{◌≡◌, ◌≢◌, ◌⊎◌, ℕ, zero, suc, ◌+◌, ◌-◌, ◌*◌, ◌^◌, ◌<◌, ◌≤◌, ◌==◌, bit_xor, Bool, true, false, not, ◌&&◌, List, [], ◌∷◌, ◌++◌, length}
use Rattle.std.proofs.Common.{Option, None, Some, option_map, Ok, if◌then◌else◌, refl, sym, ap, ◌∙◌, subst, inl, inr, eqb-true, eq-eqb, arith}
use Rattle.std.proofs.lemmas.Bool.{and_parts, cases_lt, false_from_ne_true}
use Rattle.rl_policy.proofs.BitLemmas.{bit-from_bits}
use Rattle.rl_policy.specs.Bits.{bit, is_within}
use Rattle.rl_policy.specs.Table.{after_write, after_read, is_write_only}
use Rattle.rl_bus.specs.declared.table.FieldRow.{FieldRow}
use Rattle.rl_bus.specs.declared.table.StuckRow.{StuckRow}
use Rattle.rl_bus.specs.Setup.{Setup, field_of as row_of_field, stuck_at}
use Rattle.rl_bus.specs.State.{State}
use Rattle.rl_model.specs.Rows.{FieldSeen, ChipData}
use Rattle.rl_model.specs.Fields.{field_of, first_of, count_of, fields_of, field_in, policy_in, size_of}
use Rattle.rl_model.specs.Chip.{IsSound as IsChip}
use Rattle.rl_model.specs.declared.rows.Field.{Field}
use Rattle.rl_model.specs.declared.rows.Item.TheVariants.{Reg}
use Rattle.rl_map.specs.Layout.{LayoutData}
use Rattle.rl_map.specs.Tables.{setup_of}
use Rattle.rl_split.specs.Law.{no_flaws}
use Rattle.rl_split.specs.Step.{every, ranswer}
use Rattle.rl_mirror.specs.Compared.{is_compared}
use Rattle.rl_mirror.specs.Fields.{part_of}
use Rattle.rl_mirror.specs.Mirror.{IsMirrorOf, mirrored_of}
use Rattle.rl_mirror.proofs.FieldLemmas.{field_list, seated, length-fields_of}
use Rattle.rl_mirror.proofs.MirrorLemmas.{place_of}
use Rattle.rl_access.specs.declared.event.Event.{Event}
use Rattle.rl_access.specs.declared.event.Op.{Op}
use Rattle.rl_access.specs.declared.event.Op.TheVariants as op
use Rattle.rl_access.specs.Call.{Scene, Performs}
use Rattle.rl_access.specs.HandsOver.{Told}
use Rattle.rl_access.specs.Laws.{IsComparedField, IsFoundOther, ChecksRegister, NamesField}
use Rattle.rl_access.specs.Model.{ModelData, IsModel}
use Rattle.rl_access.specs.Operation.{reg_of, HasNumbers}
use Rattle.rl_access.specs.Rules.{grant}
use Rattle.rl_access.proofs.Beliefs.{check_names}
use Rattle.rl_plain.specs.Agree.{believed}
use Rattle.rl_seq.specs.declared.sequence.Sequence.TheVariants.{BitBash}
use Rattle.rl_seq.specs.Choice.{is_of, may_read, may_write, is_bit_compared}
use Rattle.rl_seq.specs.Plan.{Plan, stop, step, look, followed_by, only_if, each_below, Runs}
use Rattle.rl_seq.specs.Sequences.{map_at, bash_once, bash_bit, items_of, is_chosen, is_visited, at_place, visit, visit_all, walk}
use Rattle.rl_seq.proofs.Choosing.{any_found}
use Rattle.rl_detect_laws.specs.Resets.{IsNamedBy}
use Rattle.rl_detect_laws.specs.Stuck.{stuck_bit, bit_of, HasStuckBit, IsComparedBit, IsShownTurned, IsShownBeside, StuckBitIsNamed, StuckBitBesideIsNamed}
use Rattle.rl_detect_laws.specs.Visited.{RunsAll, HasEvent, IsVisited}
use Rattle.rl_detect_laws.proofs.Bashing.{IsStuckSetup, Holding, holding_first, unmarked_bits, write_done, check_done, write_stays, check_stays}
use Rattle.rl_detect_laws.proofs.Bashing.{written_there, read_there, answered_there, turned_bit, other_bit}
use Rattle.rl_detect_laws.proofs.Reaching.{IsPlaceOf, is_place, check_is, bash_granted}
use Rattle.rl_detect_laws.proofs.StuckBit.{unstuck}
use Rattle.rl_detect_laws.proofs.Wrong.{IsBitOf, bit_of as own_bit, row_is}
use Rattle.rl_plain.proofs.NothingFound.{covered}

-- ---- the stuck bit, in its register

-- it is bit b of the register, and belongs to its k-th field, which is compared
pub record IsBit (c : ChipData) (field reg k b i : ℕ) : Type 0 where
  pub own : IsBitOf (fields_of c reg) k b
  pub open own use *
  pub inside : k < length (fields_of c reg)
  pub field_is : field_in (fields_of c reg) k ≡ field_of c field
  pub offset : (field_of c field).shape.lsb + i ≡ b
  pub within : i < (field_of c field).shape.width
  pub compared : IsComparedField (field_of c field).shape
  pub reg_in : reg < length c.regs

pub readable_there : (c : ChipData) (field reg k b i : ℕ) → IsBit c field reg k b i → is_write_only (policy_in (fields_of c reg) k) ≡ false
readable_there c field reg k b i is = subst (λ (f : FieldSeen). is_write_only f.shape.policy ≡ false) (sym is.field_is) is.compared.readable

part_bit : (f : Field) (x i : ℕ) → i < f.width → bit (part_of f x) i ≡ bit x (f.lsb + i)
part_bit f x i low = bit-from_bits f.width (λ i. bit x (f.lsb + i)) i low

pub parts_apart : (c : ChipData) (field reg k b i x y : ℕ) → IsBit c field reg k b i → bit x b ≢ bit y b
    → part_of (field_of c field).shape x ≢ part_of (field_of c field).shape y
parts_apart c field reg k b i x y is apart same =
    let f = (field_of c field).shape in
    apart (ap (bit x) (sym is.offset) ∙ sym (part_bit f x i is.within) ∙ ap (λ n. bit n i) same ∙ part_bit f y i is.within ∙ ap (bit y) is.offset)

-- ---- a check of the register

-- where the bit is believed to be another one, it names the field
pub named_by : (c : ChipData) (l : LayoutData) (t : Setup) (field reg k b i : ℕ) (v : Bool) (s new : Scene) (map : Option ℕ) (place : ℕ) (e : Event)
    → IsBit c field reg k b i → IsStuckSetup c l t reg b v → stuck_at t reg b ≡ Some v → Holding c l t reg b v s → reg_of c field ≡ reg → k ≡ field - first_of c reg
    → HasNumbers c (length l.maps) (op.Check reg map) → grant s.model (op.Check reg map) ≡ Ok place → Performs s new (op.Check reg map) e
    → bit (mirrored_of s.model.mirror reg) b ≢ v → IsNamedBy c field e
named_by c l t field reg k b i v s new map place e is setup stuck h own number numbers granted performs other =
    let fs = fields_of c reg in
    let done = check_done c l s new t reg b v reg map place e setup (inl stuck) h numbers granted performs in
    let read = ranswer fs every (unmarked_bits done.bits) in
    let read_so : bit read b ≡ v = answered_there fs k b done.bits is.low is.at (readable_there c field reg k b i is) ∙ done.held refl in
    let apart : bit read b ≢ bit (mirrored_of s.model.mirror reg) b = λ same. other (sym same ∙ read_so) in
    let found : IsFoundOther (field_of c field).shape read (mirrored_of s.model.mirror reg) = record {
      compared = is.compared;
      other = parts_apart c field reg k b i read (mirrored_of s.model.mirror reg) is apart;
    } in
    let here : (k < length fs) × IsFoundOther (field_in fs k).shape read (mirrored_of s.model.mirror reg) =
    (is.inside, subst (λ (f : FieldSeen). IsFoundOther f.shape read (mirrored_of s.model.mirror reg)) (sym is.field_is) found) in
    let there : (k < length (fields_of s.model.chip reg)) × IsFoundOther (field_in (fields_of s.model.chip reg) k).shape read (mirrored_of s.model.mirror reg) =
    subst (λ (x : ChipData). (k < length (fields_of x reg)) × IsFoundOther (field_in (fields_of x reg) k).shape read (mirrored_of s.model.mirror reg)) (sym h.chip) here in
    record {
      check = subst (ChecksRegister e.op) (sym own) done.checks;
      names = subst (NamesField e) (number ∙ ap (λ r. field - first_of c r) (sym own)) ((check_names s new (op.Check reg map) e reg read k performs refl done.ends).1 there);
    }

-- ---- one bit turned round once

-- a read of the stuck bit leaves it so
abbrev left_by : ChipData → (reg k : ℕ) → Bool → Bool
left_by c reg k v = after_read (policy_in (fields_of c reg) k) v

-- this bit of the register is turned round, which does this to what is written of the stuck one, and shows it
record IsTry (c : ChipData) (reg k b : ℕ) (v : Bool) (j : ℕ) : Type 0 where
  size : j < 8 * size_of c reg
  compared : is_bit_compared c reg j ≡ true
  turn : Bool → Bool
  turns : (x : ℕ) → bit (bit_xor x (2 ^ j)) b ≡ turn (bit x b)
  lost : (spent : Bool) → after_write (policy_in (fields_of c reg) k) (left_by c reg k v) (turn (left_by c reg k v)) spent ≢ v

record IsBashedOnce (c : ChipData) (l : LayoutData) (t : Setup) (field reg k b j : ℕ) (v : Bool) (s new : Scene) (told : List Told) : Type 0 where
  stands : Holding c l t reg b v new
  believed : bit (mirrored_of new.model.mirror reg) b ≡ left_by c reg k v
  named : IsTry c reg k b v j → bit (mirrored_of s.model.mirror reg) b ≡ left_by c reg k v → HasEvent (IsNamedBy c field) told

-- what a visit of the register needs
record IsVisit (c : ChipData) (l : LayoutData) (t : Setup) (field reg k b i : ℕ) (v : Bool) (place : ℕ) : Type 0 where
  is : IsBit c field reg k b i
  setup : IsStuckSetup c l t reg b v
  stuck : stuck_at t reg b ≡ Some v
  own : reg_of c field ≡ reg
  number : k ≡ field - first_of c reg
  at : IsPlaceOf c l place (Reg reg)
  reads : may_read l place ≡ true
  writes : may_write l place ≡ true
  map_in : map_at l place < length l.maps

bashed_once : (c : ChipData) (l : LayoutData) (t : Setup) (field reg k b i : ℕ) (v : Bool) (place j : ℕ) → IsVisit c l t field reg k b i v place → j < 8 * size_of c reg
    → (s new : Scene) (told : List Told) → Holding c l t reg b v s → Runs (bash_once reg (map_at l place) j) s told new → IsBashedOnce c l t field reg k b j v s new told
bashed_once c l t field reg k b i v place j w size s new [] h run = absurd run
bashed_once c l t field reg k b i v place j w size s new (x ∷ []) h (mid, first, rest) = absurd rest
bashed_once c l t field reg k b i v place j w size s new (x ∷ y ∷ []) h (mid, first, (last, second, same)) =
    let map = Some (map_at l place) in
    let m = mirrored_of s.model.mirror reg in
    let value = bit_xor m (2 ^ j) in
    let numbers : (reg < length c.regs) × (map_at l place < length l.maps) = (w.is.reg_in, w.map_in) in
    let own_numbers : reg < length s.model.chip.regs = subst (λ (x : ChipData). reg < length x.regs) (sym h.chip) w.is.reg_in in
    let own_size : j < 8 * size_of s.model.chip reg = subst (λ (x : ChipData). j < 8 * size_of x reg) (sym h.chip) size in
    let wrote = write_done c l s mid t reg b v reg map value place x.event w.setup h numbers
    (bash_granted c l reg place j w.at w.writes s.model h.model h.chip h.layout own_numbers own_size) first.performs in
    let granted = (check_is c l reg place w.at w.reads).granted mid.model wrote.stands.chip wrote.stands.layout in
    let done = check_done c l mid last t reg b v reg map place y.event w.setup (inl w.stuck) wrote.stands numbers granted second.performs in
    let readable = readable_there c field reg k b i w.is in
    let fs = fields_of c reg in
    let p = policy_in fs k in
    let read = ranswer fs every (unmarked_bits done.bits) in
    let read_so : bit read b ≡ v = answered_there fs k b done.bits w.is.low w.is.at readable ∙ done.held refl in
    let built = subst (λ (x : ChipData). IsMirrorOf x s.model.mirror) h.chip h.model.mirror in
    let mid_built = subst (λ (x : ChipData). IsMirrorOf x mid.model.mirror) wrote.stands.chip wrote.stands.model.mirror in
    let spent = (believed c s.model.mirror reg).spent k in
    let after : bit (mirrored_of last.model.mirror reg) b ≡ left_by c reg k v =
    read_there c reg k b read mid.model.mirror last.model.mirror w.is.reg_in mid_built w.is.low w.is.at readable done.predicted ∙ ap (after_read p) read_so in
    record {
      stands = subst (Holding c l t reg b v) (sym same) done.stands;
      believed = ap (λ (z : Scene). bit (mirrored_of z.model.mirror reg) b) same ∙ after;
      named = λ try so.
          let written : bit (mirrored_of mid.model.mirror reg) b ≡ after_write p (left_by c reg k v) (try.turn (left_by c reg k v)) spent =
          written_there c reg k b value s.model.mirror mid.model.mirror (subst IsChip h.chip h.model.chip) w.is.reg_in built w.is.low w.is.at wrote.predicted
          ∙ ap (λ n. after_write p (bit m b) n spent) (try.turns m) ∙ ap (λ n. after_write p n (try.turn n) spent) so in
          inr (inl (named_by c l t field reg k b i v mid last map place y.event w.is w.setup w.stuck wrote.stands w.own w.number numbers granted second.performs
          (λ same. try.lost spent (sym written ∙ same))));
    }
bashed_once c l t field reg k b i v place j w size s new (x ∷ y ∷ z ∷ told) h (mid, first, (last, second, more)) = absurd more

-- ---- plans

pub record Split (p q : Plan) (s : Scene) (told : List Told) (new : Scene) : Type 0 where
  pub mid : Scene
  pub front : List Told
  pub back : List Told
  pub is : told ≡ front ++ back
  pub first : Runs p s front mid
  pub second : Runs q mid back new

pub split : (p q : Plan) (s : Scene) (told : List Told) (new : Scene) → Runs (followed_by p q) s told new → Split p q s told new
split stop q s told new run = record { mid = s; front = []; back = told; is = refl; first = refl; second = run }
split (step o p) q s [] new run = absurd run
split (step o p) q s (x ∷ told) new (mid, one, rest) =
    let more = split p q mid told new rest in
    record { mid = more.mid; front = x ∷ more.front; back = more.back; is = ap (λ xs. x ∷ xs) more.is; first = (mid, one, more.first); second = more.second }
split (look f) q s told new run =
    let more = split (f s.model) q s told new run in
    record { mid = more.mid; front = more.front; back = more.back; is = more.is; first = more.first; second = more.second }

pub in_front : (IsSo : Event → Type 0) (front back : List Told) → HasEvent IsSo front → HasEvent IsSo (front ++ back)
in_front IsSo [] back h = absurd h
in_front IsSo (x ∷ front) back (inl h) = inl h
in_front IsSo (x ∷ front) back (inr h) = inr (in_front IsSo front back h)

pub in_back : (IsSo : Event → Type 0) (front back : List Told) → HasEvent IsSo back → HasEvent IsSo (front ++ back)
in_back IsSo [] back h = h
in_back IsSo (x ∷ front) back h = inr (in_back IsSo front back h)

-- the plan leaves what stands
abbrev pub Keeps : (Scene → Type 0) → Plan → Type 0
Keeps Stands p = (s new : Scene) (told : List Told) → Stands s → Runs p s told new → Stands new

-- one of its events is so
abbrev pub Finds : (Scene → Type 0) → (Event → Type 0) → Plan → Type 0
Finds Stands IsSo p = (s new : Scene) (told : List Told) → Stands s → Runs p s told new → HasEvent IsSo told

pub keeps_stop : (Stands : Scene → Type 0) → Keeps Stands stop
keeps_stop Stands s new [] h run = subst Stands (sym run) h
keeps_stop Stands s new (x ∷ told) h run = absurd run

pub keeps_step : (Stands : Scene → Type 0) (o : Op) (p : Plan) → ((s new : Scene) (e : Event) → Stands s → Performs s new o e → Stands new) → Keeps Stands p
    → Keeps Stands (step o p)
keeps_step Stands o p stays k s new [] h run = absurd run
keeps_step Stands o p stays k s new (x ∷ told) h (mid, one, rest) = k mid new told (stays s mid x.event h one.performs) rest

pub keeps_both : (Stands : Scene → Type 0) (p q : Plan) → Keeps Stands p → Keeps Stands q → Keeps Stands (followed_by p q)
keeps_both Stands p q k j s new told h run =
    let both = split p q s told new run in
    j both.mid new both.back (k s both.mid both.front h both.first) both.second

pub keeps_if : (Stands : Scene → Type 0) (b : Bool) (p : Plan) → (b ≡ true → Keeps Stands p) → Keeps Stands (only_if b p)
keeps_if Stands true p k = k refl
keeps_if Stands false p k = keeps_stop Stands

pub keeps_each : (Stands : Scene → Type 0) (n : ℕ) (f : ℕ → Plan) → ((k : ℕ) → k < n → Keeps Stands (f k)) → Keeps Stands (each_below n f)
keeps_each Stands zero f k = keeps_stop Stands
keeps_each Stands (suc n) f k = keeps_both Stands (each_below n f) (f n) (keeps_each Stands n f (λ j low. k j (omega (arith, low)))) (k n (omega arith))

pub finds_first : (Stands : Scene → Type 0) (IsSo : Event → Type 0) (p q : Plan) → Finds Stands IsSo p → Finds Stands IsSo (followed_by p q)
finds_first Stands IsSo p q finds s new told h run =
    let both = split p q s told new run in
    subst (HasEvent IsSo) (sym both.is) (in_front IsSo both.front both.back (finds s both.mid both.front h both.first))

pub finds_second : (Stands : Scene → Type 0) (IsSo : Event → Type 0) (p q : Plan) → Keeps Stands p → Finds Stands IsSo q → Finds Stands IsSo (followed_by p q)
finds_second Stands IsSo p q keeps finds s new told h run =
    let both = split p q s told new run in
    subst (HasEvent IsSo) (sym both.is) (in_back IsSo both.front both.back (finds both.mid new both.back (keeps s both.mid both.front h both.first) both.second))

pub finds_if : (Stands : Scene → Type 0) (IsSo : Event → Type 0) (b : Bool) (p : Plan) → b ≡ true → Finds Stands IsSo p → Finds Stands IsSo (only_if b p)
finds_if Stands IsSo true p so finds = finds
finds_if Stands IsSo false p so finds = absurd (cc)

-- it leaves what stands, or one of its events is so
abbrev pub Either : (Scene → Type 0) → (Event → Type 0) → Plan → Type 0
Either Stands IsSo p = Keeps Stands p ⊎ Finds Stands IsSo p

pub either_both : (Stands : Scene → Type 0) (IsSo : Event → Type 0) (p q : Plan) → Either Stands IsSo p → Either Stands IsSo q → Either Stands IsSo (followed_by p q)
either_both Stands IsSo p q (inl k) (inl j) = inl (keeps_both Stands p q k j)
either_both Stands IsSo p q (inl k) (inr f) = inr (finds_second Stands IsSo p q k f)
either_both Stands IsSo p q (inr f) j = inr (finds_first Stands IsSo p q f)

pub either_if : (Stands : Scene → Type 0) (IsSo : Event → Type 0) (b : Bool) (p : Plan) → (b ≡ true → Either Stands IsSo p) → Either Stands IsSo (only_if b p)
either_if Stands IsSo true p h = h refl
either_if Stands IsSo false p h = inl (keeps_stop Stands)

pub either_each : (Stands : Scene → Type 0) (IsSo : Event → Type 0) (n : ℕ) (f : ℕ → Plan) → ((k : ℕ) → k < n → Either Stands IsSo (f k)) → Either Stands IsSo (each_below n f)
either_each Stands IsSo zero f h = inl (keeps_stop Stands)
either_each Stands IsSo (suc n) f h =
    either_both Stands IsSo (each_below n f) (f n) (either_each Stands IsSo n f (λ j low. h j (omega (arith, low)))) (h n (omega arith))

finds_now : (Stands : Scene → Type 0) (IsSo : Event → Type 0) (p q : Plan) → Either Stands IsSo p → Finds Stands IsSo q → Finds Stands IsSo (followed_by p q)
finds_now Stands IsSo p q (inl k) f = finds_second Stands IsSo p q k f
finds_now Stands IsSo p q (inr h) f = finds_first Stands IsSo p q h

pub finds_among : (Stands : Scene → Type 0) (IsSo : Event → Type 0) (n k : ℕ) (f : ℕ → Plan) → k < n → ((j : ℕ) → j < n → Either Stands IsSo (f j))
    → Finds Stands IsSo (f k) → Finds Stands IsSo (each_below n f)
finds_among Stands IsSo zero k f low all finds = absurd (omega (arith, low))
finds_among Stands IsSo (suc n) k f low all finds =
    by (cases_lt k n) (λ less. finds_among Stands IsSo n k f less (λ j under. all j (omega (arith, under))) finds)
  where
    by : (k < n) ⊎ (n ≤ k) → (k < n → Finds Stands IsSo (each_below n f)) → Finds Stands IsSo (each_below (suc n) f)
    by (inl less) before = finds_first Stands IsSo (each_below n f) (f n) (before less)
    by (inr most) before =
        let same : k ≡ n = omega (arith, low, most) in
        finds_now Stands IsSo (each_below n f) (f n) (either_each Stands IsSo n f (λ j under. all j (omega (arith, under)))) (subst (λ j. Finds Stands IsSo (f j)) same finds)

pub finds_each : (Stands : Scene → Type 0) (IsSo : Event → Type 0) (n k : ℕ) (f : ℕ → Plan) → k < n → ((j : ℕ) → j < n → Keeps Stands (f j))
    → Finds Stands IsSo (f k) → Finds Stands IsSo (each_below n f)
finds_each Stands IsSo n k f low keeps finds = finds_among Stands IsSo n k f low (λ j under. inl (keeps j under)) finds

-- ---- the plan of the sequence

bash_keeps : (c : ChipData) (l : LayoutData) (t : Setup) (reg b : ℕ) (v : Bool) (q map j : ℕ) → IsStuckSetup c l t reg b v → stuck_at t reg b ≡ Some v
    → q < length c.regs → map < length l.maps → Keeps (Holding c l t reg b v) (bash_once q map j)
bash_keeps c l t reg b v q map j is stuck inside in_map s new told h run =
    let numbers : (q < length c.regs) × (map < length l.maps) = (inside, in_map) in
    let value = bit_xor (mirrored_of s.model.mirror q) (2 ^ j) in
    let stands = Holding c l t reg b v in
    keeps_step stands (op.Write q (Some map) value) (step (op.Check q (Some map)) stop) (write_stays c l t reg b v q (Some map) value is numbers)
    (keeps_step stands (op.Check q (Some map)) stop (check_stays c l t reg b v q (Some map) is (inl stuck) numbers) (keeps_stop stands)) s new told h run

visit_keeps : (m : ModelData) (t : Setup) (reg b : ℕ) (v : Bool) (q place : ℕ) → IsModel m → IsStuckSetup m.chip m.layout t reg b v → stuck_at t reg b ≡ Some v
    → q < length m.chip.regs → place < length m.layout.places → Keeps (Holding m.chip m.layout t reg b v) (visit BitBash m.chip m.layout q place)
visit_keeps m t reg b v q place ok is stuck inside there =
    let c = m.chip in
    let l = m.layout in
    let stands = Holding c l t reg b v in
    let map = map_at l place in
    let once = λ (j : ℕ). bash_keeps c l t reg b v q map j is stuck inside (ok.layout.each_place place there).map in
    keeps_if stands (is_visited BitBash l q place) (at_place BitBash c l q place)
    (λ visited. keeps_each stands (8 * size_of c q) (bash_bit c q map)
    (λ j low. keeps_if stands (is_bit_compared c q j) (followed_by (bash_once q map j) (bash_once q map j))
    (λ compared. keeps_both stands (bash_once q map j) (bash_once q map j) (once j) (once j))))

all_keep : (m : ModelData) (block : Option ℕ) (t : Setup) (reg b : ℕ) (v : Bool) (q : ℕ) → IsModel m → IsStuckSetup m.chip m.layout t reg b v
    → stuck_at t reg b ≡ Some v → q < length m.chip.regs → Keeps (Holding m.chip m.layout t reg b v) (visit_all BitBash m.chip m.layout block q)
all_keep m block t reg b v q ok is stuck inside =
    let c = m.chip in
    let l = m.layout in
    let stands = Holding c l t reg b v in
    keeps_if stands (is_chosen BitBash c l block q) (each_below (length l.places) (visit BitBash c l q))
    (λ chosen. keeps_each stands (length l.places) (visit BitBash c l q) (λ place there. visit_keeps m t reg b v q place ok is stuck inside there))

-- twice: the second finds it
bit_finds : (c : ChipData) (l : LayoutData) (t : Setup) (field reg k b i : ℕ) (v : Bool) (place j : ℕ) → IsVisit c l t field reg k b i v place → IsTry c reg k b v j
    → Finds (Holding c l t reg b v) (IsNamedBy c field) (followed_by (bash_once reg (map_at l place) j) (bash_once reg (map_at l place) j))
bit_finds c l t field reg k b i v place j w try s new told h run =
    let once = bash_once reg (map_at l place) j in
    let both = split once once s told new run in
    let first = bashed_once c l t field reg k b i v place j w try.size s both.mid both.front h both.first in
    let second = bashed_once c l t field reg k b i v place j w try.size both.mid new both.back first.stands both.second in
    subst (HasEvent (IsNamedBy c field)) (sym both.is) (in_back (IsNamedBy c field) both.front both.back (second.named try first.believed))

walk_finds : (m : ModelData) (block : Option ℕ) (t : Setup) (field reg k b i : ℕ) (v : Bool) (place j : ℕ) → IsModel m → IsVisit m.chip m.layout t field reg k b i v place
    → IsTry m.chip reg k b v j → IsVisited BitBash m.chip m.layout block reg place
    → Finds (Holding m.chip m.layout t reg b v) (IsNamedBy m.chip field) (walk BitBash m.chip m.layout block)
walk_finds m block t field reg k b i v place j ok w try at =
    let c = m.chip in
    let l = m.layout in
    let stands = Holding c l t reg b v in
    let named = IsNamedBy c field in
    let map = map_at l place in
    let once = λ (j : ℕ). bash_keeps c l t reg b v reg map j w.setup w.stuck at.number_in w.map_in in
    finds_each stands named (items_of BitBash c) reg (visit_all BitBash c l block) at.number_in (λ q inside. all_keep m block t reg b v q ok w.setup w.stuck inside)
    (finds_if stands named (is_chosen BitBash c l block reg) (each_below (length l.places) (visit BitBash c l reg)) at.chosen
    (finds_each stands named (length l.places) place (visit BitBash c l reg) at.place_in (λ q there. visit_keeps m t reg b v reg q ok w.setup w.stuck at.number_in there)
    (finds_if stands named (is_visited BitBash l reg place) (at_place BitBash c l reg place) at.visited
    (finds_each stands named (8 * size_of c reg) j (bash_bit c reg map) try.size
    (λ j low. keeps_if stands (is_bit_compared c reg j) (followed_by (bash_once reg map j) (bash_once reg map j))
    (λ so. keeps_both stands (bash_once reg map j) (bash_once reg map j) (once j) (once j)))
    (finds_if stands named (is_bit_compared c reg j) (followed_by (bash_once reg map j) (bash_once reg map j)) try.compared
    (bit_finds c l t field reg k b i v place j w try))))))

-- ---- the law

pub both_true : (a b : Bool) → a ≡ true → b ≡ true → (a && b) ≡ true
both_true true b so h = h
both_true false b so h = absurd (cc)

-- the stuck bit as one of its register
pub the_bit : (c : ChipData) (s : StuckRow) → IsChip c → IsComparedBit c s
    → IsBit c s.field (reg_of c s.field) (s.field - first_of c (reg_of c s.field)) (bit_of c s) s.bit
the_bit c s sound is =
    let reg = reg_of c s.field in
    let k = s.field - first_of c reg in
    let at = place_of c s.field sound is.field_in in
    let seat = seated c s.field sound is.field_in in
    let list = field_list c reg sound seat.reg in
    let own : IsBitOf (fields_of c reg) k (bit_of c s) =
    subst (λ (f : FieldSeen). s.bit < f.shape.width → IsBitOf (fields_of c reg) k (f.shape.lsb + s.bit)) at.field
    (λ low. own_bit (8 * size_of c reg) (fields_of c reg) k s.bit list at.place low) is.bit_in in
    record {
      own = own;
      inside = at.place;
      field_is = at.field;
      offset = refl;
      within = is.bit_in;
      compared = is.compared;
      reg_in = seat.reg;
    }

pub is_compared_bit : (c : ChipData) (s : StuckRow) → IsChip c → IsComparedBit c s → is_bit_compared c (reg_of c s.field) (bit_of c s) ≡ true
is_compared_bit c s sound is =
    let reg = reg_of c s.field in
    let k = s.field - first_of c reg in
    let at = place_of c s.field sound is.field_in in
    let seat = seated c s.field sound is.field_in in
    let many = length-fields_of c reg sound seat.reg in
    let p = λ (j : ℕ). let f = (field_of c (first_of c reg + j)).shape in is_within f.lsb f.width (bit_of c s) && is_compared f in
    let f = (field_of c s.field).shape in
    let compared : is_compared f ≡ true = both_true f.compare (not (is_write_only f.policy)) is.compared.compare (ap not is.compared.readable) in
    let here : (is_within f.lsb f.width (bit_of c s) && is_compared f) ≡ true =
    both_true (is_within f.lsb f.width (bit_of c s)) (is_compared f) (covered (field_of c s.field) s.bit is.bit_in) compared in
    any_found p (count_of c reg) k (omega (arith, many, at.place))
    (subst (λ n. (is_within (field_of c n).shape.lsb (field_of c n).shape.width (bit_of c s) && is_compared (field_of c n).shape) ≡ true) (sym at.number) here)

-- what the setup has stuck
pub one_stuck : (c : ChipData) (l : LayoutData) (s : StuckRow) (r k : ℕ) → s.field < length c.fields
    → stuck_at (setup_of c l (stuck_bit s)) r k ≡ (if (reg_of c s.field == r) && (bit_of c s == k) then Some s.value else None)
unfolding setup_of
one_stuck c l s r k inside =
    by ((row_of_field (setup_of c l (stuck_bit s)) s.field).reg == r && (row_of_field (setup_of c l (stuck_bit s)) s.field).lsb + s.bit == k)
    ∙ ap (λ (f : FieldRow). if (f.reg == r) && (f.lsb + s.bit == k) then Some s.value else None) (row_is c l (stuck_bit s) s.field inside)
  where
    by : (b : Bool) → option_map (λ (x : StuckRow). x.value) (if b then Some s else None) ≡ (if b then Some s.value else None)
    by true = refl
    by false = refl

not_both : (r reg k b : ℕ) → ((r ≡ reg) × (k ≡ b) → ⊥) → ((reg == r) && (b == k)) ≡ false
not_both r reg k b other =
    false_from_ne_true ((reg == r) && (b == k))
    (λ yes. let both = and_parts (reg == r) (b == k) yes in other (sym (eqb-true reg r both.0), sym (eqb-true b k both.1)))

without_it : (c : ChipData) (l : LayoutData) (s : StuckRow) → unstuck (setup_of c l (stuck_bit s)) ≡ setup_of c l no_flaws
unfolding setup_of
without_it c l s = refl

pub stuck_there : (c : ChipData) (l : LayoutData) (s : StuckRow) → s.field < length c.fields
    → stuck_at (setup_of c l (stuck_bit s)) (reg_of c s.field) (bit_of c s) ≡ Some s.value
stuck_there c l s inside =
    let reg = reg_of c s.field in
    let b = bit_of c s in
    one_stuck c l s reg b inside ∙ ap (λ x. if x then Some s.value else None) (both_true (reg == reg) (b == b) (eq-eqb reg reg refl) (eq-eqb b b refl))

pub stuck_setup : (c : ChipData) (l : LayoutData) (s : StuckRow) → IsChip c → IsComparedBit c s
    → IsStuckSetup c l (setup_of c l (stuck_bit s)) (reg_of c s.field) (bit_of c s) s.value
stuck_setup c l s sound is =
    let reg = reg_of c s.field in
    let b = bit_of c s in
    let own = the_bit c s sound is in
    record {
      plain = without_it c l s;
      alone = record {
        low = own.low;
        here = inl (stuck_there c l s is.field_in);
        others = λ r k other. one_stuck c l s r k is.field_in ∙ ap (λ x. if x then Some s.value else None) (not_both r reg k b other);
      };
      reg_in = own.reg_in;
    }

named_by_try : (s new : Scene) (d : State) (block : Option ℕ) (told : List Told) (stuck : StuckRow) (place j : ℕ) → IsModel s.model → s.device ≡ Some d
    → HasStuckBit s.model.chip s.model.layout d stuck → IsComparedBit s.model.chip stuck
    → IsTry s.model.chip (reg_of s.model.chip stuck.field) (stuck.field - first_of s.model.chip (reg_of s.model.chip stuck.field)) (bit_of s.model.chip stuck) stuck.value j
    → IsVisited BitBash s.model.chip s.model.layout block (reg_of s.model.chip stuck.field) place → RunsAll BitBash block s told new
    → HasEvent (IsNamedBy s.model.chip stuck.field) told
named_by_try s new d block told stuck place j ok is has compared try v run =
    let c = s.model.chip in
    let l = s.model.layout in
    let t = setup_of c l (stuck_bit stuck) in
    let reg = reg_of c stuck.field in
    let k = stuck.field - first_of c reg in
    let b = bit_of c stuck in
    let both = and_parts (is_of l place (Reg reg)) (may_read l place && may_write l place) v.visited in
    let rights = and_parts (may_read l place) (may_write l place) both.1 in
    let w : IsVisit c l t stuck.field reg k b stuck.bit stuck.value place = record {
      is = the_bit c stuck ok.chip compared;
      setup = stuck_setup c l stuck ok.chip compared;
      stuck = stuck_there c l stuck compared.field_in;
      own = refl;
      number = refl;
      at = is_place c l place (Reg reg) ok.layout ok.built v.place_in both.0;
      reads = rights.0;
      writes = rights.1;
      map_in = (ok.layout.each_place place v.place_in).map;
    } in
    walk_finds s.model block t stuck.field reg k b stuck.bit stuck.value place j ok w try v s new told
    (holding_first t reg b stuck.value s d ok is has.set_up has.holds) run

pub stuck_bit_is_named : StuckBitIsNamed
stuck_bit_is_named s new d block told stuck place ok is has compared shown v run =
    let c = s.model.chip in
    let seat = seated c stuck.field ok.chip compared.field_in in
    let own = the_bit c stuck ok.chip compared in
    named_by_try s new d block told stuck place (bit_of c stuck) ok is has compared (record {
      size = omega (arith, seat.inside, compared.bit_in);
      compared = is_compared_bit c stuck ok.chip compared;
      turn = not;
      turns = λ x. turned_bit x (bit_of c stuck);
      lost = subst (λ (f : FieldSeen). IsShownTurned f.shape.policy stuck.value) (sym own.field_is) shown;
    }) v run

pub stuck_bit_beside_is_named : StuckBitBesideIsNamed
stuck_bit_beside_is_named s new d block told stuck other place ok is has compared shown beside v run =
    let c = s.model.chip in
    let own = the_bit c stuck ok.chip compared in
    named_by_try s new d block told stuck place other ok is has compared (record {
      size = beside.bit_in;
      compared = beside.compared;
      turn = λ b. b;
      turns = λ x. other_bit x other (bit_of c stuck) beside.other;
      lost = subst (λ (f : FieldSeen). IsShownBeside f.shape.policy stuck.value) (sym own.field_is) shown;
    }) v run

-- A device with deaf memories beside a twin that hears: they go on alike, and each location that hears holds the same in both.
use Rattle.std.proofs.Common.{◌≡◌, ℕ, zero, suc, ◌<◌, Bool, true, false, not, List, [], ◌∷◌, length, get_or, set, Option, None, Some, if◌then◌else◌, refl, sym, ap, ◌∙◌, subst}
use Rattle.std.specs.Prelude.{slice_index, slice_set}
use Rattle.std.proofs.lemmas.List.{get_or-set_other, length-set}
use Rattle.rl_policy.specs.Bits.{bit, from_bits}
use Rattle.rl_bus.specs.declared.op.BusOp.{BusOp}
use Rattle.rl_bus.specs.declared.table.Cell.{Cell}
use Rattle.rl_bus.specs.declared.table.Cell.TheVariants.{Reg, Loc}
use Rattle.rl_bus.specs.declared.table.WordRow.{WordRow}
use Rattle.rl_bus.specs.Setup.{Setup, mem_of, location, is_deaf}
use Rattle.rl_bus.specs.Spread.{lane_bit, spread_bit, lanes_in}
use Rattle.rl_bus.specs.State.{State, counted, word_at, is_faulty, beats_on, beats_back, after_reading, after_writing, after_word, after_touch, state_after}
use Rattle.rl_model.specs.Rows.{ChipData}
use Rattle.rl_split.specs.Runs.{state_after_all}
use Rattle.rl_access.specs.Rules.{memory_size}
use Rattle.rl_access.proofs.Setups.{setup-state_after}
use Rattle.rl_detect_laws.proofs.Twins.{hearing, twin, heard, AreAlike, goes_alike}
use Rattle.rl_detect_laws.proofs.Untouched.{IsGuarded, IsKnown, known_word, parted}

-- each location of a memory that hears holds the same
pub record IsSame (c : ChipData) (t : Setup) (xs ys : List ℕ) : Type 0 where
  pub long : length xs ≡ length ys
  pub same : (m i : ℕ) → m < length c.mems → i < memory_size c m → is_deaf t (Loc m i) ≡ false → slice_index xs (location t m i) ≡ slice_index ys (location t m i)

-- ---- one item

left : (P : List ℕ → List ℕ → Type 0) (b : Bool) (x y v : State) → (b ≡ true → P x.locations v.locations) → (b ≡ false → P y.locations v.locations)
    → P (if b then x else y).locations v.locations
left P true x y v h k = h refl
left P false x y v h k = k refl

right : (P : List ℕ → List ℕ → Type 0) (b : Bool) (x v w : State) → P x.locations v.locations → P x.locations w.locations
    → P x.locations (if b then v else w).locations
right P true x v w h k = h
right P false x v w h k = k

both : (P : List ℕ → List ℕ → Type 0) (b : Bool) (x y v w : State) → P x.locations v.locations → P y.locations w.locations
    → P (if b then x else y).locations (if b then v else w).locations
both P true x y v w h k = h
both P false x y v w h k = k

set_same : (xs ys : List ℕ) (at v k : ℕ) → length xs ≡ length ys → get_or xs k 0 ≡ get_or ys k 0 → get_or (set xs at v) k 0 ≡ get_or (set ys at v) k 0
set_same [] [] at v k long h = h
set_same [] (y ∷ ys) at v k long h = absurd (cc)
set_same (x ∷ xs) [] at v k long h = absurd (cc)
set_same (x ∷ xs) (y ∷ ys) zero v zero long h = refl
set_same (x ∷ xs) (y ∷ ys) zero v (suc k) long h = h
set_same (x ∷ xs) (y ∷ ys) (suc at) v zero long h = h
set_same (x ∷ xs) (y ∷ ys) (suc at) v (suc k) long h = set_same xs ys at v k (cc) h

reading : (c : ChipData) (d : State) (b m xs : List ℕ) (lanes : ℕ → Bool) (at : Cell) → IsSame c d.setup d.locations xs
    → IsSame c d.setup (after_reading d lanes at).locations (after_reading (twin d b m xs) lanes at).locations
reading c d b m xs lanes (Reg r) h = h
reading c d b m xs lanes (Loc n i) h = h

-- a write that the device doesn't hear
unheard : (c : ChipData) (d : State) (b m xs : List ℕ) (word lanes : ℕ → Bool) (at : Cell) → IsGuarded c d.setup → IsKnown c at
    → is_deaf d.setup at ≡ true → IsSame c d.setup d.locations xs → IsSame c d.setup d.locations (after_writing (twin d b m xs) word lanes at).locations
unheard c d b m xs word lanes (Reg r) g known deaf h = h
unheard c d b m xs word lanes (Loc n i) g known deaf h =
    let t = d.setup in
    right (IsSame c t) (mem_of t n).writable d _ (twin d b m xs) (record {
      long = h.long ∙ sym (length-set xs (location t n i) _);
      same = λ j k inside low hears. h.same j k inside low hears
          ∙ sym (get_or-set_other xs (location t n i) (location t j k) _ 0
          (λ meets. parted c t n i j k g known.0 known.1 inside low deaf hears (sym meets)));
    }) h

-- one that it hears
written : (c : ChipData) (d : State) (b m xs : List ℕ) (word lanes : ℕ → Bool) (at : Cell) → IsKnown c at
    → is_deaf d.setup at ≡ false → IsSame c d.setup d.locations xs
    → IsSame c d.setup (after_writing d word lanes at).locations (after_writing (twin d b m xs) word lanes at).locations
written c d b m xs word lanes (Reg r) known hears h = h
written c d b m xs word lanes (Loc n i) known hears h =
    let t = d.setup in
    let at = location t n i in
    let left_there : ℕ → ℕ = λ x. from_bits 64 (λ b. if lanes b then word b else bit x b) in
    both (IsSame c t) (mem_of t n).writable _ d _ (twin d b m xs) (record {
      long = length-set d.locations at _ ∙ h.long ∙ sym (length-set xs at _);
      same = λ j k inside low so.
          set_same d.locations xs at (left_there (slice_index d.locations at)) (location t j k) h.long (h.same j k inside low so)
          ∙ ap (λ x. slice_index (slice_set xs at (left_there x)) (location t j k)) (h.same n i known.0 known.1 hears);
    }) h

word : (c : ChipData) (d : State) (b m xs : List ℕ) (op : BusOp) (w : WordRow) → IsGuarded c d.setup → IsKnown c w.cell → IsSame c d.setup d.locations xs
    → IsSame c d.setup (after_word d op w).locations (after_word (twin d b m xs) op w).locations
word c d b m xs op w g known h =
    let lanes = lanes_in w.lanes op.lanes in
    let e = twin d b m xs in
    let x = after_writing d (spread_bit lanes (bit op.word)) (lane_bit lanes) w.cell in
    let y = after_writing e (spread_bit lanes (bit op.word)) (lane_bit lanes) w.cell in
    both (IsSame c d.setup) (not op.write) (after_reading d (lane_bit lanes) w.cell) (if is_deaf d.setup w.cell then d else x)
    (after_reading e (lane_bit lanes) w.cell) y (reading c d b m xs (lane_bit lanes) w.cell h)
    (left (IsSame c d.setup) (is_deaf d.setup w.cell) d x y
    (λ deaf. unheard c d b m xs (spread_bit lanes (bit op.word)) (lane_bit lanes) w.cell g known deaf h)
    (λ hears. written c d b m xs (spread_bit lanes (bit op.word)) (lane_bit lanes) w.cell known hears h))

touched : (c : ChipData) (d : State) (b m xs : List ℕ) (port : ℕ) (op : BusOp) (o : Option WordRow) → IsGuarded c d.setup
    → ((w : WordRow) → o ≡ Some w → IsKnown c w.cell) → IsSame c d.setup d.locations xs
    → IsSame c d.setup (after_touch d port op o).locations (after_touch (twin d b m xs) port op o).locations
touched c d b m xs port op None g known h = h
touched c d b m xs port op (Some w) g known h =
    let e = twin d b m xs in
    let x : State = record d { beats = beats_back d w.place } in
    let y : State = record (after_word d op w) { beats = beats_on d port op } in
    let v : State = record e { beats = beats_back e w.place } in
    let z : State = record (after_word e op w) { beats = beats_on e port op } in
    both (IsSame c d.setup) (is_faulty d port op) x y v z h (word c d b m xs op w g (known w refl) h)

own : (c : ChipData) (d : State) (b m xs : List ℕ) (port : ℕ) (op : BusOp) → IsGuarded c d.setup → IsSame c d.setup d.locations xs
    → IsSame c d.setup (state_after d port op).locations (state_after (twin d b m xs) port op).locations
unfolding state_after
own c d b m xs port op g h =
    touched c (counted d) b m xs port op (word_at d port op) g (λ w found. known_word c d port op w g found) h

-- ---- items one after another

-- the other device is the twin of this one, and holds the same where this one hears
pub record Follows (c : ChipData) (t : Setup) (d e : State) : Type 0 where
  pub here : d.setup ≡ t
  pub there : e.setup ≡ hearing t
  pub alike : AreAlike d e
  pub same : IsSame c t d.locations e.locations

pub begins : (c : ChipData) (t : Setup) (d : State) → d.setup ≡ t → Follows c t d (heard d)
begins c t d is = record {
  here = is;
  there = ap hearing is;
  alike = record { deaf = []; stuck = d.setup.flaws.stuck; setup = refl; beats = refl; items = refl };
  same = record { long = refl; same = λ m i inside low so. refl };
}

is_twin : (d e : State) → e.setup ≡ hearing d.setup → e.beats ≡ d.beats → e.items ≡ d.items → e ≡ twin d e.bits e.marks e.locations
is_twin d e setup beats items =
    ap (λ t. let x : State = record e { setup = t } in x) setup
    ∙ ap (λ b. let x : State = record e { setup = hearing d.setup; beats = b } in x) beats
    ∙ ap (λ n. let x : State = record e { setup = hearing d.setup; beats = d.beats; items = n } in x) items

item_same : (c : ChipData) (d e : State) (port : ℕ) (op : BusOp) → IsGuarded c d.setup → e.setup ≡ hearing d.setup → AreAlike d e
    → IsSame c d.setup d.locations e.locations → IsSame c d.setup (state_after d port op).locations (state_after e port op).locations
item_same c d e port op g there alike h =
    subst (λ (x : State). IsSame c d.setup (state_after d port op).locations (state_after x port op).locations) (sym (is_twin d e there alike.beats alike.items))
    (own c d e.bits e.marks e.locations port op g h)

follow : (c : ChipData) (t : Setup) (d e : State) (port : ℕ) (op : BusOp) → IsGuarded c t → Follows c t d e
    → Follows c t (state_after d port op) (state_after e port op)
follow c t d e port op g h = record {
  here = setup-state_after d port op ∙ h.here;
  there = setup-state_after e port op ∙ h.there;
  alike = goes_alike d e port op h.alike;
  same = subst (λ (u : Setup). IsGuarded c u → e.setup ≡ hearing u → IsSame c u d.locations e.locations
      → IsSame c u (state_after d port op).locations (state_after e port op).locations) h.here
      (λ g there same. item_same c d e port op g there h.alike same) g h.there h.same;
}

pub all_follow : (c : ChipData) (t : Setup) (d e : State) (port : ℕ) (ops : List BusOp) → IsGuarded c t → Follows c t d e
    → Follows c t (state_after_all d port ops) (state_after_all e port ops)
all_follow c t d e port [] g h = h
all_follow c t d e port (op ∷ ops) g h = all_follow c t (state_after d port op) (state_after e port op) port ops g (follow c t d e port op g h)

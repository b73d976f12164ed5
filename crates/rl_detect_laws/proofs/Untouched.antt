-- No item changes the locations of a deaf memory, nor how much a device holds.
use Rattle.std.proofs.Common.{◌≡◌, ℕ, ◌<◌, Bool, true, false, not, List, [], ◌∷◌, length, get_or, All, Option, None, Some, option_map, if◌then◌else◌, refl, sym, ap, ◌∙◌, subst}
use Rattle.std.specs.Prelude.{slice_index, slice_get}
use Rattle.std.specs.List.{list_any}
use Rattle.std.proofs.lemmas.List.{get_or-set_other, length-set}
use Rattle.std.proofs.lemmas.List.Elements.{All-filter}
use Rattle.std.proofs.lemmas.Option.{slice_get_within, get_or_from_slice_get}
use Rattle.rl_policy.specs.Bits.{bit}
use Rattle.rl_bus.specs.declared.op.BusOp.{BusOp}
use Rattle.rl_bus.specs.declared.table.Cell.{Cell}
use Rattle.rl_bus.specs.declared.table.Cell.TheVariants as cell
use Rattle.rl_bus.specs.declared.table.ItemRow.{ItemRow}
use Rattle.rl_bus.specs.declared.table.WordRow.{WordRow}
use Rattle.rl_bus.specs.Setup.{Setup, mem_of, location, is_of, is_deaf, stands_for, words_at}
use Rattle.rl_bus.specs.Spread.{lane_bit, spread_bit, lanes_in}
use Rattle.rl_bus.specs.State.{State, counted, word_at, is_faulty, after_reading, after_writing, after_word, after_touch, state_after}
use Rattle.rl_model.specs.declared.rows.Item.{Item}
use Rattle.rl_model.specs.declared.rows.Item.TheVariants as item
use Rattle.rl_model.specs.Rows.{ChipData}
use Rattle.rl_map.specs.Layout.{LayoutData, place_at, cell_of, index_of, IsLocation, IsSound}
use Rattle.rl_map.specs.Maps.{IsBuiltWith}
use Rattle.rl_access.specs.declared.trace.TraceItem.{TraceItem}
use Rattle.rl_access.specs.Items.{state_after_all}
use Rattle.rl_access.specs.Rules.{memory_size}
use Rattle.rl_access.proofs.Setups.{setup-state_after}

-- ---- the cells of words

-- a location is one of a memory of the chip
abbrev pub IsKnown : ChipData → Cell → Type 0
IsKnown c (cell.Reg r) = Unit {0}
IsKnown c (cell.Loc m i) = (m < length c.mems) × (i < memory_size c m)

some_of : {A : Type 0} (f : A → ℕ) (o : Option A) (n : ℕ) → option_map f o ≡ Some n → (a : A) × (o ≡ Some a) × (f a ≡ n)
some_of f None n e = absurd (cc)
some_of f (Some a) n e = (a, refl, cc)

known_there : (c : ChipData) (l : LayoutData) (place index : ℕ) (i : Item) → IsBuiltWith l c → IsLocation l place index → (place_at l place).item ≡ i
    → IsKnown c (cell_of i index)
known_there c l place index (item.Reg r) built at is = tt
known_there c l place index (item.Mem m) built at is =
    let found = some_of (λ m. m.size) (slice_get c.mems m) (place_at l place).size ((built place at.place_in).1 m is) in
    let size : memory_size c m ≡ (place_at l place).size = size_at c m found.0 (place_at l place).size found.1 found.2 in
    (slice_get_within c.mems m found.0 found.1, subst (λ n. index < n) (sym size) at.index_in)
  where
    size_at : (c : ChipData) (m : ℕ) (row : _) (n : ℕ) → slice_get c.mems m ≡ Some row → row.size ≡ n → memory_size c m ≡ n
    size_at c m row n e same = cc

pub rows_known : (c : ChipData) (l : LayoutData) → IsSound l → IsBuiltWith l c → All (λ (w : WordRow). IsKnown c w.cell) l.rows
rows_known c l sound built k d low =
    let w = get_or l.rows k d in
    let r = sound.each_row k d low in
    let is : w.cell ≡ cell_of (place_at l w.place).item (index_of w.cell) = ap (λ (x : WordRow). x.cell) r.row in
    subst (IsKnown c) (sym is) (known_there c l w.place (index_of w.cell) (place_at l w.place).item built r.location refl)

-- ---- what stays

-- a setup whose words are known ones, in which the locations of two memories stand apart
pub record IsGuarded (c : ChipData) (t : Setup) : Type 0 where
  pub known : All (λ (w : WordRow). IsKnown c w.cell) t.words
  pub apart : (n k m i : ℕ) → n < length c.mems → k < memory_size c n → m < length c.mems → i < memory_size c m
      → location t n k ≡ location t m i → n ≡ m

-- each location of a deaf memory holds what it did
abbrev pub DeafKept : ChipData → Setup → List ℕ → List ℕ → Type 0
DeafKept c t xs ys =
    (m i : ℕ) → m < length c.mems → i < memory_size c m → is_deaf t (cell.Loc m i) ≡ true → slice_index ys (location t m i) ≡ slice_index xs (location t m i)

pub record IsKept (c : ChipData) (t : Setup) (x y : State) : Type 0 where
  pub deaf : DeafKept c t x.locations y.locations
  pub bits : length y.bits ≡ length x.bits
  pub marks : length y.marks ≡ length x.marks
  pub locations : length y.locations ≡ length x.locations

same : (c : ChipData) (t : Setup) (x : State) → IsKept c t x x
same c t x = record { deaf = λ m i inside low so. refl; bits = refl; marks = refl; locations = refl }

further : (c : ChipData) (t : Setup) (x y z : State) → IsKept c t x y → IsKept c t y z → IsKept c t x z
further c t x y z h k = record {
  deaf = λ m i inside low so. k.deaf m i inside low so ∙ h.deaf m i inside low so;
  bits = k.bits ∙ h.bits;
  marks = k.marks ∙ h.marks;
  locations = k.locations ∙ h.locations;
}

-- ---- one item

same_memory : (m : ℕ) (i j : ℕ) (rows : List ItemRow) → list_any (is_of (cell.Loc m i)) rows ≡ list_any (is_of (cell.Loc m j)) rows
same_memory m i j rows = refl

-- a deaf location and one that hears stand apart
pub parted : (c : ChipData) (t : Setup) (n k m i : ℕ) → IsGuarded c t → n < length c.mems → k < memory_size c n → m < length c.mems → i < memory_size c m
    → is_deaf t (cell.Loc n k) ≡ true → is_deaf t (cell.Loc m i) ≡ false → location t n k ≡ location t m i → ⊥
parted c t n k m i g inside low within below deaf hears meets =
    let is = g.apart n k m i inside low within below meets in
    let too : is_deaf t (cell.Loc m i) ≡ true = subst (λ j. is_deaf t (cell.Loc j i) ≡ true) is (same_memory n i k t.flaws.deaf ∙ deaf) in
    let both : true ≡ false = sym too ∙ hears in
    absurd (cc)

by_test : (c : ChipData) (t : Setup) (b : Bool) (s x y : State) → (b ≡ true → IsKept c t s x) → (b ≡ false → IsKept c t s y) → IsKept c t s (if b then x else y)
by_test c t true s x y h k = h refl
by_test c t false s x y h k = k refl

reading : (c : ChipData) (t : Setup) (s : State) (lanes : ℕ → Bool) (at : Cell) → IsKept c t s (after_reading s lanes at)
reading c t s lanes (cell.Reg r) = record { deaf = λ m i inside low so. refl; bits = length-set s.bits r _; marks = refl; locations = refl }
reading c t s lanes (cell.Loc m i) = same c t s

writing : (c : ChipData) (s : State) (word lanes : ℕ → Bool) (at : Cell) → IsGuarded c s.setup → IsKnown c at → is_deaf s.setup at ≡ false
    → IsKept c s.setup s (after_writing s word lanes at)
writing c s word lanes (cell.Reg r) g known hears = record {
  deaf = λ m i inside low so. refl;
  bits = length-set s.bits r _;
  marks = length-set s.marks r _;
  locations = refl;
}
writing c s word lanes (cell.Loc m i) g known hears =
    let t = s.setup in
    by_test c t (mem_of t m).writable s _ s
    (λ so. record {
      deaf = λ n k inside low deaf.
          get_or-set_other s.locations (location t m i) (location t n k) _ 0 (parted c t n k m i g inside low known.0 known.1 deaf hears);
      bits = refl;
      marks = refl;
      locations = length-set s.locations (location t m i) _;
    }) (λ so. same c t s)

word : (c : ChipData) (s : State) (op : BusOp) (w : WordRow) → IsGuarded c s.setup → IsKnown c w.cell → IsKept c s.setup s (after_word s op w)
word c s op w g known =
    let t = s.setup in
    by_test c t (not op.write) s _ _ (λ so. reading c t s (lane_bit (lanes_in w.lanes op.lanes)) w.cell)
    (λ so. by_test c t (is_deaf t w.cell) s s _ (λ deaf. same c t s)
    (λ hears. writing c s (spread_bit (lanes_in w.lanes op.lanes) (bit op.word)) (lane_bit (lanes_in w.lanes op.lanes)) w.cell g known hears))

touched : (c : ChipData) (s : State) (port : ℕ) (op : BusOp) (o : Option WordRow) → IsGuarded c s.setup
    → ((w : WordRow) → o ≡ Some w → IsKnown c w.cell) → IsKept c s.setup s (after_touch s port op o)
touched c s port op None g known = same c s.setup s
touched c s port op (Some w) g known =
    let h = word c s op w g (known w refl) in
    by_test c s.setup (is_faulty s port op) s _ _
    (λ faulty. record { deaf = λ m i inside low so. refl; bits = refl; marks = refl; locations = refl })
    (λ fine. record { deaf = h.deaf; bits = h.bits; marks = h.marks; locations = h.locations })

pub known_word : (c : ChipData) (s : State) (port : ℕ) (op : BusOp) (w : WordRow) → IsGuarded c s.setup → word_at s port op ≡ Some w → IsKnown c w.cell
known_word c s port op w g found =
    let words = words_at s.setup port op.address op.write in
    let k = s.beats port op.address in
    let all : All (λ (w : WordRow). IsKnown c w.cell) words =
    All-filter (stands_for port op.address op.write) (λ (w : WordRow). IsKnown c w.cell) s.setup.words g.known in
    subst (λ (x : WordRow). IsKnown c x.cell) (get_or_from_slice_get words k w w found) (all k w (slice_get_within words k w found))

own_kept : (c : ChipData) (s : State) (port : ℕ) (op : BusOp) → IsGuarded c s.setup → IsKept c s.setup s (state_after s port op)
unfolding state_after
own_kept c s port op g =
    let h = touched c (counted s) port op (word_at s port op) g (λ w found. known_word c s port op w g found) in
    record { deaf = h.deaf; bits = h.bits; marks = h.marks; locations = h.locations }

item_kept : (c : ChipData) (t : Setup) (s : State) (port : ℕ) (op : BusOp) → IsGuarded c t → s.setup ≡ t → IsKept c t s (state_after s port op)
item_kept c t s port op g is = subst (λ (t : Setup). IsGuarded c t → IsKept c t s (state_after s port op)) is (own_kept c s port op) g

-- ---- items one after another

pub all_kept : (c : ChipData) (t : Setup) (s : State) (items : List TraceItem) → IsGuarded c t → s.setup ≡ t → IsKept c t s (state_after_all s items)
all_kept c t s [] g is = same c t s
all_kept c t s (item ∷ items) g is =
    let after = state_after s item.port item.op in
    further c t s after (state_after_all after items) (item_kept c t s item.port item.op g is)
    (all_kept c t after items g (setup-state_after s item.port item.op ∙ is))

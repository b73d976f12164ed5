-- Items of an access to one cell of two devices: they are answered the same, and touch no other cell.
use Rattle.std.proofs.Common.{◌≡◌, ℕ, ◌+◌, ◌/◌, ◌%◌, ◌*◌, ◌<◌, Bool, true, false, not, ◌&&◌, ◌||◌, ◌==◌, if◌then◌else◌, List, [], ◌∷◌, ◌++◌, length, map, All, Some, None, refl, sym, ap, subst, ◌∙◌}
use Rattle.std.specs.Prelude.{get_or, nat_le, slice_get, slice_index, slice_set}
use Rattle.std.specs.List.{list_any, position_from}
use Rattle.std.proofs.lemmas.Bool.{eq-eqb}
use Rattle.std.proofs.lemmas.List.{append-nil, append_assoc, get_or-set_other, length-set}
use Rattle.std.proofs.lemmas.List.Elements.{All-head, All-tail}
use Rattle.rl_policy.proofs.BitLemmas.{from_bits-same}
use Rattle.rl_policy.specs.Access.{bit_answered, bit_left, bit_written, mark_written}
use Rattle.rl_policy.specs.Bits.{bit, from_bits}
use Rattle.rl_bus.specs.declared.op.Answer.{Answer}
use Rattle.rl_bus.specs.declared.op.BusOp.{BusOp}
use Rattle.rl_bus.specs.declared.table.Cell.{Cell}
use Rattle.rl_bus.specs.declared.table.Cell.TheVariants.{Reg, Loc}
use Rattle.rl_bus.specs.declared.table.Lanes.{Lanes}
use Rattle.rl_bus.specs.declared.table.MemRow.{MemRow}
use Rattle.rl_bus.specs.declared.table.RangeRow.{RangeRow}
use Rattle.rl_bus.specs.declared.table.WordRow.{WordRow}
use Rattle.rl_bus.specs.Setup.{Flaws, Setup, held, is_deaf, is_named, location, mem_of, no_mem, or_else, policy_at, stuck_at, words_at}
use Rattle.rl_bus.specs.Spread.{gathered_bit, lane_bit, lanes_in, spread_bit}
use Rattle.rl_bus.specs.Standing.{Standing}
use Rattle.rl_bus.specs.State.{State, after_reading, after_touch, after_word, after_writing, answer_at, answer_of, beats_back, beats_on, counted, is_faulty, shown_bit, state_after, word_at, word_shown}
use Rattle.rl_map.specs.declared.word.Word.{Word}
use Rattle.rl_split.specs.Law.{no_flaws}
use Rattle.rl_split.proofs.Turns.{IsTurn, Stands, last_stands, turn_meets, turn_moves}
use Rattle.rl_access.specs.declared.trace.TraceItem.{TraceItem}
use Rattle.rl_access.specs.Items.{item_of, items_of, state_after_all, took_item, words_answered}
use Rattle.rl_access.proofs.Setups.{setup-state_after}
use Rattle.rl_grade.proofs.Related.{flawed}
use Rattle.rl_grade.proofs.TogetherBeliefs.{set_both}
use Rattle.rl_grade.proofs.TogetherMakeup.{IsCalm, SameMakeup}

-- ---- one cell of two devices

-- both hold the same in it
pub record SameIn (k : Cell) (d e : State) : Type 0 where
  pub bits : (r : ℕ) → k ≡ Reg r → slice_index e.bits r ≡ slice_index d.bits r
  pub marks : (r : ℕ) → k ≡ Reg r → slice_index e.marks r ≡ slice_index d.marks r
  pub locations : (m i : ℕ) → k ≡ Loc m i → e.locations ≡ d.locations

-- what the second holds is what the first does, but for the cell
pub record TouchesOnly (k : Cell) (d e : State) : Type 0 where
  pub setup : e.setup ≡ d.setup
  pub size : length e.bits ≡ length d.bits
  pub mark_size : length e.marks ≡ length d.marks
  pub bits : (q : ℕ) → (k ≡ Reg q → ⊥) → slice_index e.bits q ≡ slice_index d.bits q
  pub marks : (q : ℕ) → (k ≡ Reg q → ⊥) → slice_index e.marks q ≡ slice_index d.marks q
  pub locations : (r : ℕ) → k ≡ Reg r → e.locations ≡ d.locations

pub record IsSized (d e : State) : Type 0 where
  pub bits : length e.bits ≡ length d.bits
  pub marks : length e.marks ≡ length d.marks

pub record SameMemory (t u : Setup) (m i : ℕ) : Type 0 where
  pub mems : u.mems ≡ t.mems
  pub hears : is_deaf u (Loc m i) ≡ is_deaf t (Loc m i)

-- the cell is made the same
abbrev pub SameCell : Cell → Setup → Setup → Type 0
SameCell (Reg r) t u = SameMakeup t u r
SameCell (Loc m i) t u = SameMemory t u m i

pub reg_same : (r : ℕ) (d e : State) → slice_index e.bits r ≡ slice_index d.bits r → slice_index e.marks r ≡ slice_index d.marks r → SameIn (Reg r) d e
reg_same r d e x m = record {
  bits = λ q is. let at : r ≡ q = cc in subst (λ k. slice_index e.bits k ≡ slice_index d.bits k) at x;
  marks = λ q is. let at : r ≡ q = cc in subst (λ k. slice_index e.marks k ≡ slice_index d.marks k) at m;
  locations = λ m i is. absurd cc;
}

pub loc_same : (m i : ℕ) (d e : State) → e.locations ≡ d.locations → SameIn (Loc m i) d e
loc_same m i d e same = record { bits = λ r is. absurd cc; marks = λ r is. absurd cc; locations = λ n j is. same }

pub stays : (k : Cell) (d : State) → TouchesOnly k d d
stays k d = record { setup = refl; size = refl; mark_size = refl; bits = λ q other. refl; marks = λ q other. refl; locations = λ r is. refl }

pub touches_on : (k : Cell) (d e f : State) → TouchesOnly k d e → TouchesOnly k e f → TouchesOnly k d f
touches_on k d e f h o = record {
  setup = o.setup ∙ h.setup;
  size = o.size ∙ h.size;
  mark_size = o.mark_size ∙ h.mark_size;
  bits = λ q other. o.bits q other ∙ h.bits q other;
  marks = λ q other. o.marks q other ∙ h.marks q other;
  locations = λ r is. o.locations r is ∙ h.locations r is;
}

pub other_cell : (r q : ℕ) → (Reg r ≡ Reg q → ⊥) → q ≡ r → ⊥
other_cell r q other is = other (ap Reg (sym is))

-- ---- a word touches its cell alone

touches_if : (b : Bool) (k : Cell) (s x y : State) → TouchesOnly k s x → TouchesOnly k s y → TouchesOnly k s (if b then x else y)
touches_if true k s x y h o = h
touches_if false k s x y h o = o

reading_touches : (s : State) (lanes : ℕ → Bool) (c : Cell) → TouchesOnly c s (after_reading s lanes c)
reading_touches s lanes (Reg r) = record {
  setup = refl;
  size = length-set s.bits r _;
  mark_size = refl;
  bits = λ q other. get_or-set_other s.bits r q _ 0 (other_cell r q other);
  marks = λ q other. refl;
  locations = λ q is. refl;
}
reading_touches s lanes (Loc m i) = stays (Loc m i) s

writing_touches : (s : State) (word lanes : ℕ → Bool) (c : Cell) → TouchesOnly c s (after_writing s word lanes c)
writing_touches s word lanes (Reg r) = record {
  setup = refl;
  size = length-set s.bits r _;
  mark_size = length-set s.marks r _;
  bits = λ q other. get_or-set_other s.bits r q _ 0 (other_cell r q other);
  marks = λ q other. get_or-set_other s.marks r q _ 0 (other_cell r q other);
  locations = λ q is. refl;
}
writing_touches s word lanes (Loc m i) =
    touches_if (mem_of s.setup m).writable (Loc m i) s _ s
    (record {
      setup = refl;
      size = refl;
      mark_size = refl;
      bits = λ q other. refl;
      marks = λ q other. refl;
      locations = λ r is. absurd cc;
    })
    (stays (Loc m i) s)

pub word_touches : (s : State) (op : BusOp) (w : WordRow) → TouchesOnly w.cell s (after_word s op w)
word_touches s op w =
    let lanes = lanes_in w.lanes op.lanes in
    touches_if (not op.write) w.cell s _ _ (reading_touches s (lane_bit lanes) w.cell)
    (touches_if (is_deaf s.setup w.cell) w.cell s s _ (stays w.cell s) (writing_touches s (spread_bit lanes (bit op.word)) (lane_bit lanes) w.cell))

-- ---- and does the same to it in both

same_if : (a b : Bool) (k : Cell) (x y v w : State) → b ≡ a → SameIn k x v → SameIn k y w → SameIn k (if a then x else y) (if b then v else w)
same_if true true k x y v w is h o = h
same_if false false k x y v w is h o = o
same_if true false k x y v w is h o = absurd cc
same_if false true k x y v w is h o = absurd cc

pub held_same : (t u : Setup) (r : ℕ) (f k : ℕ → Bool) → SameMakeup t u r → ((b : ℕ) → b < 64 → k b ≡ f b) → held u r k ≡ held t r f
unfolding held
held_same t u r f k made same =
    from_bits-same 64 (λ b. or_else (stuck_at u r b) (k b)) (λ b. or_else (stuck_at t r b) (f b))
    (λ b low. ap (λ o. or_else o (k b)) (made.stuck b) ∙ ap (or_else (stuck_at t r b)) (same b low))

reading_same : (s z : State) (lanes : ℕ → Bool) (c : Cell) → SameCell c s.setup z.setup → IsSized s z → SameIn c s z
    → SameIn c (after_reading s lanes c) (after_reading z lanes c)
reading_same s z lanes (Reg r) made size same =
    let x = same.bits r refl in
    reg_same r (after_reading s lanes (Reg r)) (after_reading z lanes (Reg r))
    (set_both s.bits z.bits r _ _ size.bits
    (held_same s.setup z.setup r (λ b. bit_left (policy_at s.setup r b) (bit (slice_index s.bits r) b) (lanes b))
    (λ b. bit_left (policy_at z.setup r b) (bit (slice_index z.bits r) b) (lanes b)) made
    (λ b low. ap (λ o. bit_left o (bit (slice_index z.bits r) b) (lanes b)) (made.policies b)
    ∙ ap (λ v. bit_left (policy_at s.setup r b) (bit v b) (lanes b)) x)))
    (same.marks r refl)
reading_same s z lanes (Loc m i) made size same = same

abbrev stored_as : (ls : List ℕ) (at : ℕ) (word lanes : ℕ → Bool) → List ℕ
stored_as ls at word lanes = slice_set ls at (from_bits 64 (λ b. if lanes b then word b else bit (slice_index ls at) b))

writing_same : (s z : State) (word lanes : ℕ → Bool) (c : Cell) → SameCell c s.setup z.setup → IsSized s z → SameIn c s z
    → SameIn c (after_writing s word lanes c) (after_writing z word lanes c)
writing_same s z word lanes (Reg r) made size same =
    let x = same.bits r refl in
    let m = same.marks r refl in
    reg_same r (after_writing s word lanes (Reg r)) (after_writing z word lanes (Reg r))
    (set_both s.bits z.bits r _ _ size.bits
    (held_same s.setup z.setup r
    (λ b. bit_written (policy_at s.setup r b) (bit (slice_index s.bits r) b) (bit (slice_index s.marks r) b) (word b) (lanes b))
    (λ b. bit_written (policy_at z.setup r b) (bit (slice_index z.bits r) b) (bit (slice_index z.marks r) b) (word b) (lanes b)) made
    (λ b low. ap (λ o. bit_written o (bit (slice_index z.bits r) b) (bit (slice_index z.marks r) b) (word b) (lanes b)) (made.policies b)
    ∙ ap (λ v. bit_written (policy_at s.setup r b) (bit v b) (bit (slice_index z.marks r) b) (word b) (lanes b)) x
    ∙ ap (λ v. bit_written (policy_at s.setup r b) (bit (slice_index s.bits r) b) (bit v b) (word b) (lanes b)) m)))
    (set_both s.marks z.marks r _ _ size.marks
    (from_bits-same 64 (λ b. mark_written (policy_at z.setup r b) (bit (slice_index z.marks r) b) (lanes b))
    (λ b. mark_written (policy_at s.setup r b) (bit (slice_index s.marks r) b) (lanes b))
    (λ b low. ap (λ o. mark_written o (bit (slice_index z.marks r) b) (lanes b)) (made.policies b)
    ∙ ap (λ v. mark_written (policy_at s.setup r b) (bit v b) (lanes b)) m)))
writing_same s z word lanes (Loc m i) made size same =
    let row : mem_of z.setup m ≡ mem_of s.setup m = ap (λ ms. get_or ms m no_mem) made.mems in
    same_if (mem_of s.setup m).writable (mem_of z.setup m).writable (Loc m i) _ s _ z (ap (λ (x : MemRow). x.writable) row)
    (loc_same m i _ _
    (ap (λ (x : MemRow). stored_as z.locations (x.first + i) word lanes) row
    ∙ ap (λ ls. stored_as ls (location s.setup m i) word lanes) (same.locations m i refl)))
    same

hears_same : (c : Cell) (t u : Setup) → SameCell c t u → is_deaf u c ≡ is_deaf t c
hears_same (Reg r) t u made = made.hears
hears_same (Loc m i) t u made = made.hears

pub word_same : (s z : State) (op : BusOp) (w : WordRow) → SameCell w.cell s.setup z.setup → IsSized s z → SameIn w.cell s z
    → SameIn w.cell (after_word s op w) (after_word z op w)
word_same s z op w made size same =
    let lanes = lanes_in w.lanes op.lanes in
    same_if (not op.write) (not op.write) w.cell _ _ _ _ refl (reading_same s z (lane_bit lanes) w.cell made size same)
    (same_if (is_deaf s.setup w.cell) (is_deaf z.setup w.cell) w.cell s _ z _ (hears_same w.cell s.setup z.setup made) same
    (writing_same s z (spread_bit lanes (bit op.word)) (lane_bit lanes) w.cell made size same))

shown_same : (s z : State) (c : Cell) (b : ℕ) → SameCell c s.setup z.setup → SameIn c s z → shown_bit z c b ≡ shown_bit s c b
shown_same s z (Reg r) b made same =
    ap (λ o. bit_answered o (bit (slice_index z.bits r) b)) (made.policies b)
    ∙ ap (λ v. bit_answered (policy_at s.setup r b) (bit v b)) (same.bits r refl)
shown_same s z (Loc m i) b made same =
    ap (λ ms. bit (slice_index z.locations ((get_or ms m no_mem).first + i)) b) made.mems
    ∙ ap (λ ls. bit (slice_index ls (location s.setup m i)) b) (same.locations m i refl)

pub word_shown_same : (s z : State) (op : BusOp) (w : WordRow) → SameCell w.cell s.setup z.setup → SameIn w.cell s z → word_shown z op w ≡ word_shown s op w
word_shown_same s z op w made same =
    let lanes = lanes_in w.lanes op.lanes in
    from_bits-same 64 (gathered_bit lanes (shown_bit z w.cell)) (gathered_bit lanes (shown_bit s w.cell))
    (λ b low. ap (λ x. bit lanes.enabled (b / 8) && x) (shown_same s z w.cell (8 * slice_index lanes.bytes (b / 8) + b % 8) made same))

-- ---- one item over a device of which none fails

abbrev pub fine_word : ℕ → Answer
fine_word n = record { word = n; failed = false }

pub calm_fine : (d : State) (port : ℕ) (o : BusOp) → IsCalm d.setup → o.bytes ≡ slice_index d.setup.ports port → is_faulty d port o ≡ false
calm_fine d port o calm width =
    ap (λ b. not b || is_named d.setup port o.address d.items) (eq-eqb o.bytes (slice_index d.setup.ports port) width)
    ∙ ap (λ rs. list_any (λ (r : RangeRow). r.port == port && nat_le r.from o.address && nat_le o.address r.to) rs || list_any (λ nth. nth == d.items) d.setup.flaws.nths) calm.ranges
    ∙ ap (λ ns. list_any (λ nth. nth == d.items) ns) calm.nths

pub touch_is : (d : State) (port : ℕ) (o : BusOp) (r : WordRow) → word_at d port o ≡ Some r → is_faulty (counted d) port o ≡ false
    → state_after d port o ≡ record (after_word (counted d) o r) { beats = beats_on (counted d) port o }
unfolding state_after
touch_is d port o r found fine =
    ap (after_touch (counted d) port o) found
    ∙ ap (λ b. if b then record (counted d) { beats = beats_back (counted d) r.place } else record (after_word (counted d) o r) { beats = beats_on (counted d) port o }) fine

pub answer_is : (d : State) (port : ℕ) (o : BusOp) (r : WordRow) → word_at d port o ≡ Some r → is_faulty (counted d) port o ≡ false
    → answer_of d port o ≡ fine_word (if o.write then 0 else word_shown (counted d) o r)
unfolding answer_of
answer_is d port o r found fine =
    ap (answer_at (counted d) port o) found
    ∙ ap (λ b. if b then (let bad : Answer = record { word = 0; failed = true } in bad) else fine_word (if o.write then 0 else word_shown (counted d) o r)) fine

-- ---- items one after another

abbrev pub fails : TraceItem → Bool
fails item = item.answer.failed

pub record Swept (k : Cell) (d e : State) (items others : List TraceItem) : Type 0 where
  pub fine : (n : ℕ) → position_from fails n items ≡ None
  pub other_fine : (n : ℕ) → position_from fails n others ≡ None
  pub words : words_answered others ≡ words_answered items
  pub same : SameIn k (state_after_all d items) (state_after_all e others)
  pub touches : TouchesOnly k d (state_after_all d items)
  pub beats : (p a : ℕ) → (state_after_all d items).beats p a ≡ 0

pub items_is : (s : Standing) (d : State) (port : ℕ) (o : BusOp) (ops : List BusOp) (n : ℕ) → answer_of d port o ≡ fine_word n
    → items_of s d port (o ∷ ops)
    ≡ item_of s port o (fine_word n) ∷ items_of (took_item s (item_of s port o (fine_word n))) (state_after d port o) port ops
items_is s d port o ops n is =
    ap (λ (a : Answer). item_of s port o a
    ∷ (if a.failed then [] else items_of (took_item s (item_of s port o a)) (state_after d port o) port ops)) is

one_swept : (k : Cell) (s z : Standing) (d e : State) (port : ℕ) (o : BusOp) (ops : List BusOp) (n m : ℕ) → TouchesOnly k d (state_after d port o)
    → answer_of d port o ≡ fine_word n → answer_of e port o ≡ fine_word m → m ≡ n
    → Swept k (state_after d port o) (state_after e port o) (items_of (took_item s (item_of s port o (fine_word n))) (state_after d port o) port ops)
    (items_of (took_item z (item_of z port o (fine_word m))) (state_after e port o) port ops)
    → Swept k d e (items_of s d port (o ∷ ops)) (items_of z e port (o ∷ ops))
one_swept k s z d e port o ops n m touches answer other same rest =
    let item = item_of s port o (fine_word n) in
    let more = items_of (took_item s item) (state_after d port o) port ops in
    let item' = item_of z port o (fine_word m) in
    let more' = items_of (took_item z item') (state_after e port o) port ops in
    subst (λ is. Swept k d e is (items_of z e port (o ∷ ops))) (sym (items_is s d port o ops n answer))
    (subst (λ js. Swept k d e (item ∷ more) js) (sym (items_is z e port o ops m other))
    (record {
      fine = λ i. rest.fine (i + 1);
      other_fine = λ i. rest.other_fine (i + 1);
      words = ap (λ x. x ∷ words_answered more') same ∙ ap (λ ws. n ∷ ws) rest.words;
      same = rest.same;
      touches = touches_on k d (state_after d port o) (state_after_all (state_after d port o) more) touches rest.touches;
      beats = rest.beats;
    }))

-- it is a device with these flaws that met these words of those that are sent
pub record IsAt (t : Setup) (g : Flaws) (port : ℕ) (sent done : List Word) (d : State) : Type 0 where
  pub setup : d.setup ≡ flawed t g
  pub stands : Stands d port sent done

-- what the next item does to it, by the row that it meets
pub record IsItem (t : Setup) (g : Flaws) (port : ℕ) (sent next : List Word) (o : BusOp) (r : WordRow) (d : State) : Type 0 where
  pub state : state_after d port o ≡ record (after_word (counted d) o r) { beats = beats_on (counted d) port o }
  pub answer : answer_of d port o ≡ fine_word (if o.write then 0 else word_shown (counted d) o r)
  pub at : IsAt t g port sent next (state_after d port o)

-- after such an item of both
record AreItems (k : Cell) (d e : State) (port : ℕ) (o : BusOp) (r : WordRow) : Type 0 where
  touches : TouchesOnly k d (state_after d port o)
  size : IsSized (state_after d port o) (state_after e port o)
  same : SameIn k (state_after d port o) (state_after e port o)
  word : (if o.write then 0 else word_shown (counted e) o r) ≡ (if o.write then 0 else word_shown (counted d) o r)

are_items : (t u : Setup) (g h : Flaws) (port : ℕ) (sent next : List Word) (o : BusOp) (r : WordRow) (k : Cell) (d e : State) → r.cell ≡ k
    → d.setup ≡ t → e.setup ≡ u → SameCell k t u → IsSized d e → SameIn k d e
    → state_after d port o ≡ record (after_word (counted d) o r) { beats = beats_on (counted d) port o }
    → state_after e port o ≡ record (after_word (counted e) o r) { beats = beats_on (counted e) port o } → AreItems k d e port o r
are_items t u g h port sent next o r k d e cell first second made size same state other =
    let made' : SameCell r.cell d.setup e.setup =
    subst (λ c. SameCell c d.setup e.setup) (sym cell) (subst (λ x. SameCell k x e.setup) (sym first) (subst (λ x. SameCell k t x) (sym second) made)) in
    let held : SameIn r.cell d e = subst (λ c. SameIn c d e) (sym cell) same in
    let before : SameIn r.cell (counted d) (counted e) = record { bits = held.bits; marks = held.marks; locations = held.locations } in
    let sized : IsSized (counted d) (counted e) = record { bits = size.bits; marks = size.marks } in
    let after = subst (λ c. SameIn c (after_word (counted d) o r) (after_word (counted e) o r)) cell (word_same (counted d) (counted e) o r made' sized before) in
    let mine = subst (λ c. TouchesOnly c (counted d) (after_word (counted d) o r)) cell (word_touches (counted d) o r) in
    let its = subst (λ c. TouchesOnly c (counted e) (after_word (counted e) o r)) cell (word_touches (counted e) o r) in
    record {
      touches = subst (TouchesOnly k d) (sym state) (record {
        setup = mine.setup;
        size = mine.size;
        mark_size = mine.mark_size;
        bits = mine.bits;
        marks = mine.marks;
        locations = mine.locations;
      });
      size = record {
        bits = ap (λ (x : State). length x.bits) other ∙ its.size ∙ size.bits ∙ sym (ap (λ (x : State). length x.bits) state ∙ mine.size);
        marks = ap (λ (x : State). length x.marks) other ∙ its.mark_size ∙ size.marks ∙ sym (ap (λ (x : State). length x.marks) state ∙ mine.mark_size);
      };
      same = subst (λ x. SameIn k x (state_after e port o)) (sym state)
          (subst (λ y. SameIn k (record (after_word (counted d) o r) { beats = beats_on (counted d) port o }) y) (sym other)
          (record { bits = after.bits; marks = after.marks; locations = after.locations }));
      word = ap (λ n. if o.write then 0 else n) (word_shown_same (counted d) (counted e) o r made' before);
    }

module _ (t : Setup) (port : ℕ) (write : Bool) (cell : Cell) (row : Word → WordRow) (op : Word → BusOp) (lanes : Word → Lanes) (sent : List Word)
    (plain : t.flaws ≡ no_flaws) where
  abbrev Turn : Word → Type 0
  Turn w = IsTurn t port write cell row op lanes sent w

  abbrev bare : State → State
  bare d = record d { setup = t }

  meets : (g : Flaws) (done rest : List Word) (w : Word) (d : State) → IsAt t g port sent done d → Turn w → sent ≡ done ++ w ∷ rest
      → (r : WordRow) × (word_at d port (op w) ≡ Some r) × (r.cell ≡ cell)
  meets g done rest w d at turn is =
      let met = turn_meets (bare d) t port write cell row op lanes sent done rest w refl plain turn is (record { at = at.stands.at }) in (
        met.row,
        ap (λ (u : Setup). slice_get (words_at u port (op w).address (op w).write) (d.beats port (op w).address)) at.setup ∙ met.found,
        met.cell_is,
      )

  meets_again : (g h : Flaws) (done : List Word) (o : BusOp) (d e : State) → IsAt t g port sent done d → IsAt t h port sent done e
      → word_at e port o ≡ word_at d port o
  meets_again g h done o d e at there =
      ap (λ (u : Setup). slice_get (words_at u port o.address o.write) (e.beats port o.address)) there.setup
      ∙ ap (slice_get (words_at t port o.address o.write)) (there.stands.at port o.address ∙ sym (at.stands.at port o.address))
      ∙ sym (ap (λ (u : Setup). slice_get (words_at u port o.address o.write) (d.beats port o.address)) at.setup)

  pub item : (g : Flaws) (done rest : List Word) (w : Word) (d : State) (r : WordRow) → IsCalm (flawed t g) → IsAt t g port sent done d → Turn w
      → sent ≡ done ++ w ∷ rest → word_at d port (op w) ≡ Some r → IsItem t g port sent (done ++ w ∷ []) (op w) r d
  item g done rest w d r calm at turn is found =
      let o = op w in
      let fine : is_faulty (counted d) port o ≡ false =
      calm_fine (counted d) port o (subst IsCalm (sym at.setup) calm) (turn.width ∙ ap (λ (u : Setup). slice_index u.ports port) (sym at.setup)) in
      let state = touch_is d port o r found fine in
      record {
        state = state;
        answer = answer_is d port o r found fine;
        at = record {
          setup = setup-state_after d port o ∙ at.setup;
          stands = turn_moves (bare d) (state_after d port o) t port write cell row op lanes sent done rest w refl turn is (record { at = at.stands.at })
              (λ p a. ap (λ (x : State). x.beats p a) state ∙ ap (λ (u : Setup). beats_on (record d { setup = u }) port o p a) at.setup);
        };
      }

  module _ (g h : Flaws) (first : IsCalm (flawed t g)) (second : IsCalm (flawed t h)) (made : SameCell cell (flawed t g) (flawed t h)) where
    pub swept : (done rest : List Word) (s z : Standing) (d e : State) → All Turn rest → sent ≡ done ++ rest → IsAt t g port sent done d
        → IsAt t h port sent done e → IsSized d e → SameIn cell d e → Swept cell d e (items_of s d port (map op rest)) (items_of z e port (map op rest))
    swept done [] s z d e turns is at there size same = record {
      fine = λ n. refl;
      other_fine = λ n. refl;
      words = refl;
      same = same;
      touches = stays cell d;
      beats = last_stands d port sent (subst (Stands d port sent) (sym (is ∙ append-nil done)) at.stands);
    }
    swept done (w ∷ rest) s z d e turns is at there size same =
        let turn = All-head Turn w rest turns in
        let o = op w in
        let (r, found, cell_is) = meets g done rest w d at turn is in
        let mine = item g done rest w d r first at turn is found in
        let its = item h done rest w e r second there turn is (meets_again g h done o d e at there ∙ found) in
        let both = are_items (flawed t g) (flawed t h) g h port sent (done ++ w ∷ []) o r cell d e cell_is at.setup there.setup made size same mine.state its.state in
        one_swept cell s z d e port o (map op rest) _ _ both.touches mine.answer its.answer both.word
        (swept (done ++ w ∷ []) rest _ _ (state_after d port o) (state_after e port o) (All-tail Turn w rest turns) (is ∙ sym (append_assoc done (w ∷ []) rest))
        mine.at its.at both.size both.same)

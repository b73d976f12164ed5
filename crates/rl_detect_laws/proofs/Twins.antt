-- A device beside one with other deaf items and other stuck bits: whatever the two hold, their beats go the same way, and the
-- same items fail. One that hears, and holds the same, answers reads the same.
use Rattle.std.proofs.Common.{◌≡◌, ℕ, Bool, true, false, not, List, [], ◌∷◌, Option, None, Some, All, if◌then◌else◌, refl, sym, ap, ◌∙◌, subst}
use Rattle.std.proofs.lemmas.List.Elements.{All-nil, All-cons, All-head, All-tail}
use Rattle.rl_policy.specs.Bits.{bit}
use Rattle.rl_bus.specs.declared.op.Answer.{Answer}
use Rattle.rl_bus.specs.declared.op.BusOp.{BusOp}
use Rattle.rl_bus.specs.declared.table.Cell.{Cell}
use Rattle.rl_bus.specs.declared.table.Cell.TheVariants.{Reg, Loc}
use Rattle.rl_bus.specs.declared.table.ItemRow.{ItemRow}
use Rattle.rl_bus.specs.declared.table.StuckRow.{StuckRow}
use Rattle.rl_bus.specs.declared.table.WordRow.{WordRow}
use Rattle.rl_bus.specs.Setup.{Setup, Flaws, mem_of, is_deaf, held}
use Rattle.rl_bus.specs.Spread.{lane_bit, spread_bit, lanes_in}
use Rattle.rl_bus.specs.State.{State, counted, word_at, is_faulty, beats_on, after_reading, after_writing, after_word, after_touch, answer_at, state_after, answer_of}
use Rattle.rl_split.specs.Runs.{answers_of, state_after_all}
use Rattle.rl_access.specs.declared.trace.TraceItem.{TraceItem}
use Rattle.rl_access.specs.Items.{state_after_all as items_after}
use Rattle.rl_detect_laws.proofs.Answering.{answers_as}

abbrev with_others : List ItemRow → List StuckRow → Flaws → Flaws
with_others deaf stuck f = record f { deaf = deaf; stuck = stuck }

-- what it has, with these deaf items and stuck bits
abbrev flawed : List ItemRow → List StuckRow → Setup → Setup
flawed deaf stuck t = record t { flaws = with_others deaf stuck t.flaws }

abbrev all_hear : Flaws → Flaws
all_hear f = record f { deaf = [] }

-- what it has, with nothing deaf
abbrev pub hearing : Setup → Setup
hearing t = record t { flaws = all_hear t.flaws }

-- a device that hears, at the same beats, and holds this
abbrev pub twin : State → (bits marks locations : List ℕ) → State
twin d bits marks locations = record d { setup = hearing d.setup; bits = bits; marks = marks; locations = locations }

-- one with these flaws
abbrev other : State → List ItemRow → List StuckRow → (bits marks locations : List ℕ) → State
other d deaf stuck bits marks locations = record d { setup = flawed deaf stuck d.setup; bits = bits; marks = marks; locations = locations }

-- it has other deaf items and stuck bits at most, and is at the same beats
pub record AreAlike (d e : State) : Type 0 where
  pub deaf : List ItemRow
  pub stuck : List StuckRow
  pub setup : e.setup ≡ flawed deaf stuck d.setup
  pub beats : e.beats ≡ d.beats
  pub items : e.items ≡ d.items

is_other : (d e : State) → (a : AreAlike d e) → e ≡ other d a.deaf a.stuck e.bits e.marks e.locations
is_other d e a =
    let t = flawed a.deaf a.stuck d.setup in
    ap (λ t. let x : State = record e { setup = t } in x) a.setup
    ∙ ap (λ b. let x : State = record e { setup = t; beats = b } in x) a.beats
    ∙ ap (λ n. let x : State = record e { setup = t; beats = d.beats; items = n } in x) a.items

-- ---- one item

-- a word changes what a device holds, and nothing else
pub record IsSameBut (x y : State) : Type 0 where
  pub setup : y.setup ≡ x.setup
  pub items : y.items ≡ x.items

by_test : (b : Bool) (s x y : State) → IsSameBut s x → IsSameBut s y → IsSameBut s (if b then x else y)
by_test true s x y h k = h
by_test false s x y h k = k

reading : (s : State) (lanes : ℕ → Bool) (c : Cell) → IsSameBut s (after_reading s lanes c)
reading s lanes (Reg r) = record { setup = refl; items = refl }
reading s lanes (Loc m i) = record { setup = refl; items = refl }

writing : (s : State) (word lanes : ℕ → Bool) (c : Cell) → IsSameBut s (after_writing s word lanes c)
writing s word lanes (Reg r) = record { setup = refl; items = refl }
writing s word lanes (Loc m i) = by_test (mem_of s.setup m).writable s _ s (record { setup = refl; items = refl }) (record { setup = refl; items = refl })

pub word : (s : State) (op : BusOp) (w : WordRow) → IsSameBut s (after_word s op w)
word s op w =
    by_test (not op.write) s _ _ (reading s (lane_bit (lanes_in w.lanes op.lanes)) w.cell)
    (by_test (is_deaf s.setup w.cell) s s _ (record { setup = refl; items = refl })
    (writing s (spread_bit (lanes_in w.lanes op.lanes) (bit op.word)) (lane_bit (lanes_in w.lanes op.lanes)) w.cell))

either_alike : (t : Bool) (x y v w : State) → AreAlike x v → AreAlike y w → AreAlike (if t then x else y) (if t then v else w)
either_alike true x y v w h k = h
either_alike false x y v w h k = k

touched : (d : State) (deaf : List ItemRow) (stuck : List StuckRow) (b m xs : List ℕ) (port : ℕ) (op : BusOp) (o : Option WordRow)
    → AreAlike (after_touch d port op o) (after_touch (other d deaf stuck b m xs) port op o)
touched d deaf stuck b m xs port op None = record { deaf = deaf; stuck = stuck; setup = refl; beats = refl; items = refl }
touched d deaf stuck b m xs port op (Some w) =
    either_alike (is_faulty d port op) _ _ _ _ (record { deaf = deaf; stuck = stuck; setup = refl; beats = refl; items = refl }) (record {
      deaf = deaf;
      stuck = stuck;
      setup = (word (other d deaf stuck b m xs) op w).setup ∙ ap (flawed deaf stuck) (sym (word d op w).setup);
      beats = refl;
      items = (word (other d deaf stuck b m xs) op w).items ∙ sym (word d op w).items;
    })

state_other : (d : State) (deaf : List ItemRow) (stuck : List StuckRow) (b m xs : List ℕ) (port : ℕ) (op : BusOp)
    → AreAlike (state_after d port op) (state_after (other d deaf stuck b m xs) port op)
unfolding state_after
state_other d deaf stuck b m xs port op = touched (counted d) deaf stuck b m xs port op (word_at d port op)

pub goes_alike : (d e : State) (port : ℕ) (op : BusOp) → AreAlike d e → AreAlike (state_after d port op) (state_after e port op)
goes_alike d e port op a =
    subst (λ (x : State). AreAlike (state_after d port op) (state_after x port op)) (sym (is_other d e a)) (state_other d a.deaf a.stuck e.bits e.marks e.locations port op)

either_fails : (t : Bool) (x y v w : Answer) → x.failed ≡ v.failed → y.failed ≡ w.failed → (if t then x else y).failed ≡ (if t then v else w).failed
either_fails true x y v w h k = h
either_fails false x y v w h k = k

answer_other : (d : State) (deaf : List ItemRow) (stuck : List StuckRow) (b m xs : List ℕ) (port : ℕ) (op : BusOp) (o : Option WordRow)
    → (answer_at d port op o).failed ≡ (answer_at (other d deaf stuck b m xs) port op o).failed
answer_other d deaf stuck b m xs port op None = refl
answer_other d deaf stuck b m xs port op (Some w) = either_fails (is_faulty d port op) _ _ _ _ refl refl

answered_other : (d : State) (deaf : List ItemRow) (stuck : List StuckRow) (b m xs : List ℕ) (port : ℕ) (op : BusOp)
    → (answer_of d port op).failed ≡ (answer_of (other d deaf stuck b m xs) port op).failed
unfolding answer_of
answered_other d deaf stuck b m xs port op = answer_other (counted d) deaf stuck b m xs port op (word_at d port op)

fails_alike : (d e : State) (port : ℕ) (op : BusOp) → AreAlike d e → (answer_of d port op).failed ≡ (answer_of e port op).failed
fails_alike d e port op a =
    subst (λ (x : State). (answer_of d port op).failed ≡ (answer_of x port op).failed) (sym (is_other d e a))
    (answered_other d a.deaf a.stuck e.bits e.marks e.locations port op)

-- ---- items one after another

abbrev fine : Answer → Type 0
fine a = a.failed ≡ false

pub none_fails : (d e : State) (port : ℕ) (ops : List BusOp) → AreAlike d e → All (λ a. a.failed ≡ false) (answers_of e port ops)
    → All (λ a. a.failed ≡ false) (answers_of d port ops)
none_fails d e port [] a h = All-nil fine
none_fails d e port (op ∷ ops) a h =
    let more : List Answer = answers_of (state_after e port op) port ops in
    All-cons fine (answer_of d port op) (answers_of (state_after d port op) port ops) (fails_alike d e port op a ∙ All-head fine (answer_of e port op) more h)
    (none_fails (state_after d port op) (state_after e port op) port ops (goes_alike d e port op a) (All-tail fine (answer_of e port op) more h))

pub all_alike : (d e : State) (port : ℕ) (ops : List BusOp) → AreAlike d e → AreAlike (state_after_all d port ops) (state_after_all e port ops)
all_alike d e port [] a = a
all_alike d e port (op ∷ ops) a = all_alike (state_after d port op) (state_after e port op) port ops (goes_alike d e port op a)

-- the same through items
pub items_alike : (d e : State) (items : List TraceItem) → AreAlike d e → AreAlike (items_after d items) (items_after e items)
items_alike d e [] a = a
items_alike d e (item ∷ items) a = items_alike (state_after d item.port item.op) (state_after e item.port item.op) items (goes_alike d e item.port item.op a)

-- ---- writes are answered the same

no_word : (b : Bool) (x y : ℕ) → b ≡ true → ◌≡◌ {A = ℕ} (if b then 0 else x) (if b then 0 else y)
no_word true x y so = refl
no_word false x y so = absurd (cc)

write_at : (d : State) (deaf : List ItemRow) (stuck : List StuckRow) (b m xs : List ℕ) (port : ℕ) (op : BusOp) (o : Option WordRow) → op.write ≡ true
    → answer_at (other d deaf stuck b m xs) port op o ≡ answer_at d port op o
write_at d deaf stuck b m xs port op None writes = refl
write_at d deaf stuck b m xs port op (Some w) writes =
    ap (λ (n : ℕ). let fine : Answer = record { word = n; failed = false } in
    let bad : Answer = record { word = 0; failed = true } in
    if is_faulty d port op then bad else fine) (no_word op.write _ _ writes)

write_other : (d : State) (deaf : List ItemRow) (stuck : List StuckRow) (b m xs : List ℕ) (port : ℕ) (op : BusOp) → op.write ≡ true
    → answer_of (other d deaf stuck b m xs) port op ≡ answer_of d port op
unfolding answer_of
write_other d deaf stuck b m xs port op writes = write_at (counted d) deaf stuck b m xs port op (word_at d port op) writes

write_alike : (d e : State) (port : ℕ) (op : BusOp) → AreAlike d e → op.write ≡ true → answer_of e port op ≡ answer_of d port op
write_alike d e port op a writes =
    subst (λ (x : State). answer_of x port op ≡ answer_of d port op) (sym (is_other d e a)) (write_other d a.deaf a.stuck e.bits e.marks e.locations port op writes)

pub writes_alike : (d e : State) (port : ℕ) (ops : List BusOp) → AreAlike d e → All (λ (op : BusOp). op.write ≡ true) ops
    → answers_of e port ops ≡ answers_of d port ops
writes_alike d e port [] a h = refl
writes_alike d e port (op ∷ ops) a h =
    ap (λ (x : Answer). x ∷ answers_of (state_after e port op) port ops) (write_alike d e port op a (All-head (λ (o : BusOp). o.write ≡ true) op ops h))
    ∙ ap (λ (more : List Answer). answer_of d port op ∷ more)
    (writes_alike (state_after d port op) (state_after e port op) port ops (goes_alike d e port op a) (All-tail (λ (o : BusOp). o.write ≡ true) op ops h))

-- ---- reads: the one that holds the same answers the same

abbrev pub heard : State → State
heard d = twin d d.bits d.marks d.locations

test_heard : (b : Bool) (x y v w : State) → b ≡ true → v ≡ heard x → (if b then v else w) ≡ heard (if b then x else y)
test_heard true x y v w so h = h
test_heard false x y v w so h = absurd (cc)

read_heard : (s : State) (lanes : ℕ → Bool) (c : Cell) → after_reading (heard s) lanes c ≡ heard (after_reading s lanes c)
unfolding held
read_heard s lanes (Reg r) = refl
read_heard s lanes (Loc m i) = refl

word_heard : (s : State) (op : BusOp) (w : WordRow) → op.write ≡ false → after_word (heard s) op w ≡ heard (after_word s op w)
word_heard s op w reads =
    test_heard (not op.write) _ _ _ _ (ap not reads) (read_heard s (lane_bit (lanes_in w.lanes op.lanes)) w.cell)

either_heard : (t : Bool) (x y v w : State) → v ≡ heard x → w ≡ heard y → (if t then v else w) ≡ heard (if t then x else y)
either_heard true x y v w h k = h
either_heard false x y v w h k = k

touch_heard : (s : State) (port : ℕ) (op : BusOp) (o : Option WordRow) → op.write ≡ false → after_touch (heard s) port op o ≡ heard (after_touch s port op o)
touch_heard s port op None reads = refl
touch_heard s port op (Some w) reads =
    either_heard (is_faulty s port op) _ _ _ _ refl
    (ap (λ (x : State). let y : State = record x { beats = beats_on s port op } in y) (word_heard s op w reads))

state_heard : (s : State) (port : ℕ) (op : BusOp) → op.write ≡ false → state_after (heard s) port op ≡ heard (state_after s port op)
unfolding state_after
state_heard s port op reads = touch_heard (counted s) port op (word_at s port op) reads

answer_heard : (s : State) (port : ℕ) (op : BusOp) → answer_of (heard s) port op ≡ answer_of s port op
unfolding answer_of
answer_heard s port op =
    answers_as (counted s) (counted (heard s)) port op (record { faulty = refl; registers = λ r. refl; locations = λ m i. refl }) (word_at s port op)

pub reads_heard : (d : State) (port : ℕ) (ops : List BusOp) → All (λ (op : BusOp). op.write ≡ false) ops → answers_of (heard d) port ops ≡ answers_of d port ops
reads_heard d port [] h = refl
reads_heard d port (op ∷ ops) h =
    let first : op.write ≡ false = All-head (λ (o : BusOp). o.write ≡ false) op ops h in
    ap (λ (a : Answer). a ∷ answers_of (state_after (heard d) port op) port ops) (answer_heard d port op)
    ∙ ap (λ (x : State). answer_of d port op ∷ answers_of x port ops) (state_heard d port op first)
    ∙ ap (λ (more : List Answer). answer_of d port op ∷ more) (reads_heard (state_after d port op) port ops (All-tail (λ (o : BusOp). o.write ≡ false) op ops h))

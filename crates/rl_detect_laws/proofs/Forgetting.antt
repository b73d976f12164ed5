-- Items never look at reset values: a device without its wrong ones answers and goes on as it does with them.
use Rattle.std.proofs.Common.{◌≡◌, ℕ, Bool, true, false, not, List, [], ◌∷◌, Option, None, Some, if◌then◌else◌, refl, ap, ◌∙◌}
use Rattle.rl_policy.specs.Bits.{bit}
use Rattle.rl_bus.specs.declared.op.Answer.{Answer}
use Rattle.rl_bus.specs.declared.op.BusOp.{BusOp}
use Rattle.rl_bus.specs.declared.table.Cell.{Cell}
use Rattle.rl_bus.specs.declared.table.Cell.TheVariants.{Reg, Loc}
use Rattle.rl_bus.specs.declared.table.WordRow.{WordRow}
use Rattle.rl_bus.specs.Setup.{Setup, Flaws, mem_of, is_deaf, held}
use Rattle.rl_bus.specs.Spread.{lane_bit, spread_bit, lanes_in}
use Rattle.rl_bus.specs.Standing.{Standing}
use Rattle.rl_bus.specs.State.{State, counted, word_at, is_faulty, beats_on, after_reading, after_writing, after_word, after_touch, state_after, answer_of}
use Rattle.rl_access.specs.declared.trace.TraceItem.{TraceItem}
use Rattle.rl_access.specs.Items.{item_of, took_item, items_of, state_after_all}
use Rattle.rl_detect_laws.proofs.Answering.{answers_as}

abbrev no_resets : Flaws → Flaws
no_resets f = record f { resets = [] }

abbrev pub setup_without : Setup → Setup
setup_without t = record t { flaws = no_resets t.flaws }

-- the device without its wrong reset values
abbrev pub without : State → State
without d = record d { setup = setup_without d.setup }

-- ---- one item

by_test : (b : Bool) (x y v w : State) → v ≡ without x → w ≡ without y → (if b then v else w) ≡ without (if b then x else y)
by_test true x y v w p q = p
by_test false x y v w p q = q

reading : (s : State) (lanes : ℕ → Bool) (c : Cell) → after_reading (without s) lanes c ≡ without (after_reading s lanes c)
unfolding held
reading s lanes (Reg r) = refl
reading s lanes (Loc m i) = refl

writing : (s : State) (word lanes : ℕ → Bool) (c : Cell) → after_writing (without s) word lanes c ≡ without (after_writing s word lanes c)
unfolding held
writing s word lanes (Reg r) = refl
writing s word lanes (Loc m i) = by_test (mem_of s.setup m).writable _ s _ (without s) refl refl

word : (s : State) (op : BusOp) (w : WordRow) → after_word (without s) op w ≡ without (after_word s op w)
word s op w =
    by_test (not op.write) _ _ _ _ (reading s (lane_bit (lanes_in w.lanes op.lanes)) w.cell)
    (by_test (is_deaf s.setup w.cell) s _ (without s) _ refl
    (writing s (spread_bit (lanes_in w.lanes op.lanes) (bit op.word)) (lane_bit (lanes_in w.lanes op.lanes)) w.cell))

touch : (s : State) (port : ℕ) (op : BusOp) (w : Option WordRow) → after_touch (without s) port op w ≡ without (after_touch s port op w)
touch s port op None = refl
touch s port op (Some w) =
    by_test (is_faulty s port op) _ _ _ _ refl
    (ap (λ (x : State). let y : State = record x { beats = beats_on s port op } in y) (word s op w))

pub goes_without : (s : State) (port : ℕ) (op : BusOp) → state_after (without s) port op ≡ without (state_after s port op)
unfolding state_after
goes_without s port op = touch (counted s) port op (word_at s port op)

pub answers_without : (s : State) (port : ℕ) (op : BusOp) → answer_of (without s) port op ≡ answer_of s port op
unfolding answer_of
answers_without s port op =
    answers_as (counted s) (counted (without s)) port op (record { faulty = refl; registers = λ r. refl; locations = λ m i. refl }) (word_at s port op)

-- ---- items one after another

abbrev rest_of : Standing → ℕ → BusOp → List BusOp → State → Answer → List TraceItem
rest_of a port op ops d answer =
    let item = item_of a port op answer in
    item ∷ (if item.answer.failed then [] else items_of (took_item a item) d port ops)

pub items_without : (a : Standing) (d : State) (port : ℕ) (ops : List BusOp) → items_of a (without d) port ops ≡ items_of a d port ops
items_without a d port [] = refl
items_without a d port (op ∷ ops) =
    let item = item_of a port op (answer_of d port op) in
    ap (rest_of a port op ops (state_after (without d) port op)) (answers_without d port op)
    ∙ ap (λ (x : State). rest_of a port op ops x (answer_of d port op)) (goes_without d port op)
    ∙ ap (λ (r : List TraceItem). item ∷ (if item.answer.failed then [] else r)) (items_without (took_item a item) (state_after d port op) port ops)

pub all_without : (d : State) (items : List TraceItem) → state_after_all (without d) items ≡ without (state_after_all d items)
all_without d [] = refl
all_without d (item ∷ items) =
    ap (λ (x : State). state_after_all x items) (goes_without d item.port item.op) ∙ all_without (state_after d item.port item.op) items

-- No item changes what a device has.
use Rattle.std.proofs.Common.{◌≡◌, ℕ, Bool, true, false, cond, not, List, [], ◌∷◌, Option, None, Some, refl, ◌∙◌}
use Rattle.rl_bus.specs.Setup.{Setup, mem_of, is_deaf}
use Rattle.rl_bus.specs.Spread.{lane_bit, spread_bit, lanes_in}
use Rattle.rl_policy.specs.Bits.{bit}
use Rattle.rl_bus.specs.State.{State, counted, word_at, is_faulty, after_reading, after_writing, after_word, after_touch, state_after}
use Rattle.rl_bus.specs.declared.op.BusOp.{BusOp}
use Rattle.rl_bus.specs.declared.table.Cell.{Cell}
use Rattle.rl_bus.specs.declared.table.Cell.TheVariants.{Reg, Loc}
use Rattle.rl_bus.specs.declared.table.WordRow.{WordRow}
use Rattle.rl_access.specs.declared.trace.TraceItem.{TraceItem}
use Rattle.rl_access.specs.Items.{state_after_all}

setup_cond : (b : Bool) (x y : State) (t : Setup) → x.setup ≡ t → y.setup ≡ t → (cond b x y).setup ≡ t
setup_cond true x y t p q = p
setup_cond false x y t p q = q

setup-after_reading : (s : State) (lanes : ℕ → Bool) (c : Cell) → (after_reading s lanes c).setup ≡ s.setup
setup-after_reading s lanes (Reg r) = refl
setup-after_reading s lanes (Loc m i) = refl

setup-after_writing : (s : State) (word lanes : ℕ → Bool) (c : Cell) → (after_writing s word lanes c).setup ≡ s.setup
setup-after_writing s word lanes (Reg r) = refl
setup-after_writing s word lanes (Loc m i) = setup_cond (mem_of s.setup m).writable _ s s.setup refl refl

setup-after_word : (s : State) (op : BusOp) (w : WordRow) → (after_word s op w).setup ≡ s.setup
setup-after_word s op w =
    setup_cond (not op.write) _ _ s.setup (setup-after_reading s (lane_bit (lanes_in w.lanes op.lanes)) w.cell)
    (setup_cond (is_deaf s.setup w.cell) s _ s.setup refl (setup-after_writing s (spread_bit (lanes_in w.lanes op.lanes) (bit op.word)) (lane_bit (lanes_in w.lanes op.lanes)) w.cell))

setup-after_touch : (s : State) (port : ℕ) (op : BusOp) (w : Option WordRow) → (after_touch s port op w).setup ≡ s.setup
setup-after_touch s port op None = refl
setup-after_touch s port op (Some w) = setup_cond (is_faulty s port op) _ _ s.setup refl (setup-after_word s op w)

pub setup-state_after : (s : State) (port : ℕ) (op : BusOp) → (state_after s port op).setup ≡ s.setup
unfolding state_after
setup-state_after s port op = setup-after_touch (counted s) port op (word_at s port op)

pub setup-state_after_all : (s : State) (items : List TraceItem) → (state_after_all s items).setup ≡ s.setup
setup-state_after_all s [] = refl
setup-state_after_all s (item ∷ items) = setup-state_after_all (state_after s item.port item.op) items ∙ setup-state_after s item.port item.op

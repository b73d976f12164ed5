-- What a device answers to an item goes by the items that it fails and by the bits that it shows.
use Rattle.std.proofs.Common.{◌≡◌, ℕ, Bool, true, false, Option, None, Some, if◌then◌else◌, refl, ap, ◌∙◌}
use Rattle.rl_policy.specs.Bits.{from_bits}
use Rattle.rl_bus.specs.declared.op.Answer.{Answer}
use Rattle.rl_bus.specs.declared.op.BusOp.{BusOp}
use Rattle.rl_bus.specs.declared.table.Cell.{Cell}
use Rattle.rl_bus.specs.declared.table.Cell.TheVariants.{Reg, Loc}
use Rattle.rl_bus.specs.declared.table.WordRow.{WordRow}
use Rattle.rl_bus.specs.Spread.{gathered_bit, lanes_in}
use Rattle.rl_bus.specs.State.{State, is_faulty, shown_bit, answer_at}

-- a device fails the item where the other does, and shows the same of each cell
pub record AnswersAs (s t : State) (port : ℕ) (op : BusOp) : Type 0 where
  pub faulty : is_faulty t port op ≡ is_faulty s port op
  pub registers : (r : ℕ) → shown_bit t (Reg r) ≡ shown_bit s (Reg r)
  pub locations : (mem index : ℕ) → shown_bit t (Loc mem index) ≡ shown_bit s (Loc mem index)

shown : (s t : State) (port : ℕ) (op : BusOp) → AnswersAs s t port op → (c : Cell) → shown_bit t c ≡ shown_bit s c
shown s t port op same (Reg r) = same.registers r
shown s t port op same (Loc mem index) = same.locations mem index

abbrev answer_with : BusOp → WordRow → (ℕ → Bool) → Bool → Answer
answer_with op w f faulty =
    if faulty then record { word = 0; failed = true }
    else record { word = (if op.write then 0 else from_bits 64 (gathered_bit (lanes_in w.lanes op.lanes) f)); failed = false }

pub answers_as : (s t : State) (port : ℕ) (op : BusOp) → AnswersAs s t port op → (o : Option WordRow) → answer_at t port op o ≡ answer_at s port op o
answers_as s t port op same None = refl
answers_as s t port op same (Some w) =
    ap (λ f. answer_with op w f (is_faulty t port op)) (shown s t port op same w.cell) ∙ ap (answer_with op w (shown_bit s w.cell)) same.faulty

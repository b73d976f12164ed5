use Rattle.std.proofs.Common.{◌≡◌, ℕ, ◌∙◌, false, arith}
use Rattle.std.proofs.lemmas.Bool.Decides.{nat_tests}
use Rattle.rl_policy.proofs.BitLemmas.{bit-zero}
use Rattle.rl_bus.specs.declared.table.FieldRow.{FieldRow}
use Rattle.rl_bus.specs.Setup.{covers}
use Rattle.rl_bench.proofs.seat.seat_in.Goals as goal

other : (f : FieldRow) (reg b : ℕ) → (f.reg ≡ reg → ⊥) → false ≡ covers f reg b
other f reg b h = grind (arith, nat_tests)

pub returns-else-row-reg : goal.returns-else-row-reg
returns-else-row-reg c b k = bit-zero b ∙ other c.args.row.now c.args.reg b c.if-row-reg.false

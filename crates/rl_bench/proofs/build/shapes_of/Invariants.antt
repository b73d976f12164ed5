use Rattle.std.proofs.Common.{◌≡◌, ℕ, ◌<◌, length, get_or}
use Rattle.rl_bench.specs.Shape.{IsShapeOf}
use Rattle.rl_bench.specs.declared.shape.Shape.{Shape}
use Rattle.rl_bench.specs.Tables.{setup_held}
use Rattle.rl_bench.proofs.build.shapes_of.Given as goal

abbrev pub invariant-loop-reg : goal.invariant-loop-reg
invariant-loop-reg l = record {
  count : length l.shapes.items ≡ l.reg;
  each : (r : ℕ) (d : Shape) → r < l.reg → IsShapeOf (record { setup = setup_held l.tables; reg = r }) (get_or l.shapes.items r d);
}

-- The masks and the words of a register.
use Rattle.std.proofs.Common.{◌≡◌, ℕ, ◌<◌, List, length, get_or, sym, ◌∙◌, subst, arith}
use Rattle.std.specs.Prelude.{slice_index}
use Rattle.std.proofs.lemmas.List.{get_or_read}
use Rattle.rl_bus.specs.Setup.{Setup}
use Rattle.rl_bench.specs.declared.shape.Shape.{Shape}
use Rattle.rl_bench.specs.declared.cells.Cells.{Cells}
use Rattle.rl_bench.specs.Shape.{IsShapeOf}
use Rattle.rl_bench.specs.Board.{AreShapesOf, FitCells, HasRoom}

pub shape_at : (t : Setup) (shapes : List Shape) (r : ℕ) (s : Shape) → AreShapesOf t shapes → r < length t.regs → s ≡ get_or shapes r s → IsShapeOf (record { setup = t; reg = r }) s
shape_at t shapes r s h l e = subst (λ x. IsShapeOf (record { setup = t; reg = r }) x) (sym e) (h.each r s l)

-- the shape and a word of a register, as they are read
pub record IsRead (t : Setup) (words : List ℕ) (r : ℕ) (s : Shape) (word : ℕ) : Type 0 where
  pub shape_is : IsShapeOf (record { setup = t; reg = r }) s
  pub word_is : word ≡ slice_index words r

pub reg_read : {t : Setup} {shapes : List Shape} {c : Cells} (r : ℕ) {s : Shape} {word : ℕ} → AreShapesOf t shapes → FitCells t c → r < length t.regs
    → s ≡ get_or shapes r s → word ≡ get_or c.bits.items r word → IsRead t c.bits.items r s word
reg_read {t} {shapes} {c} r {s} {word} h fit low e f = record { shape_is = shape_at t shapes r s h low e; word_is = get_or_read c.bits.items r word (omega arith) f 0 }

-- cells of the same lengths
pub fit_with : (t : Setup) (old new : Cells) → FitCells t old → length new.bits.items ≡ length old.bits.items → length new.marks.items ≡ length old.marks.items
    → length new.locations.items ≡ length old.locations.items → FitCells t new
fit_with t old new fit bits marks locations = record {
  bits = bits ∙ fit.bits;
  marks = marks ∙ fit.marks;
  mems = subst (HasRoom t) (sym locations) fit.mems;
}

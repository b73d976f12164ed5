-- What a window without a fault is.
use Rattle.std.proofs.Common.{◌≡◌, ℕ, Bool, true, false, not, cond, eqb, eq-eqb, Option, None, Some, refl}
use Rattle.rl_model.specs.Rows.{ChipData}
use Rattle.rl_indirect.specs.declared.window.Window.{Window}
use Rattle.rl_indirect.specs.declared.window.WindowFault.{WindowFault}
use Rattle.rl_indirect.specs.Window.{is_index, is_data, is_size, window_fault}

passed : (t : Bool) (why : WindowFault) (o : Option WindowFault) → cond t (Some why) o ≡ None → (t ≡ false) × (o ≡ None)
passed true why o e = absurd (cc)
passed false why o e = (refl, e)

held : (t : Bool) → not t ≡ false → t ≡ true
held true e = refl
held false e = absurd (cc)

pub record IsWindow (c : ChipData) (w : Window) (size : ℕ) : Type 0 where
  pub apart : w.index_reg ≡ w.data_reg → ⊥
  pub index : is_index c w.index_reg ≡ true
  pub data_is : is_data c w.data_reg ≡ true
  pub size_is : is_size c w.index_reg size ≡ true

pub window_parts : (c : ChipData) (w : Window) (size : ℕ) → window_fault c w size ≡ None → IsWindow c w size
window_parts c w size none =
    let one = passed (eqb w.index_reg w.data_reg) _ _ none in
    let two = passed (not (is_index c w.index_reg)) _ _ one.1 in
    let three = passed (not (is_data c w.data_reg)) _ _ two.1 in
    let four = passed (not (is_size c w.index_reg size)) _ _ three.1 in
    record {
      apart = λ same. let on : eqb w.index_reg w.data_reg ≡ true = eq-eqb _ _ same in let off = one.0 in absurd (cc);
      index = held _ two.0;
      data_is = held _ three.0;
      size_is = held _ four.0;
    }

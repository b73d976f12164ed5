use Rattle.std.proofs.Common.{◌≡◌, ℕ, ◌*◌, Option, Some, None, option_map, ap, sym}
use Rattle.std.specs.Prelude.{unwrap_or}
use Rattle.std.specs.Option.{option_map_or}
use Rattle.rl_model.specs.Rows.{ChipData}
use Rattle.rl_model.specs.Chip.{bytes_of}
use Rattle.rl_model.specs.declared.rows.Item.{Item}
use Rattle.rl_model.specs.declared.rows.Item.TheVariants.{Reg, Mem}
use Rattle.rl_report.specs.Outcome.{item_size}
use Rattle.rl_report.proofs.outcome.item_digits.Goals as goal

of_some : {A : Type 0} (f : A → ℕ) (o : Option A) (n : ℕ) → option_map f o ≡ Some n → option_map_or f o 0 ≡ n
of_some f None n e = ap (λ o. unwrap_or o 0) e
of_some f (Some x) n e = ap (λ o. unwrap_or o 0) e

item_bytes : (c : ChipData) (item : Item) (n : ℕ) → bytes_of c item ≡ Some n → item_size c item ≡ n
item_bytes c (Reg reg) n e = of_some _ _ n e
item_bytes c (Mem mem) n e = of_some _ _ n e

pub returns-clause-value : goal.returns-clause-value
returns-clause-value c = ap (λ n. 2 * n) (sym (item_bytes c.args.model.now.chip c.args.item _ (rw c.chip.ensures.chip at c.bytes.ensures.value)))

-- The parts of a turn of the memory walk.
use Rattle.std.proofs.Common.{◌≡◌, ℕ, zero, suc, ◌-◌, ◌≤◌, None, Some, sym, ap, ◌∙◌, arith}
use Rattle.rl_model.specs.Rows.{ChipData}
use Rattle.rl_model.specs.declared.rows.Item.TheVariants.{Mem}
use Rattle.rl_access.specs.declared.event.Op.TheVariants as op
use Rattle.rl_seq.specs.Choice.{turned_round}
use Rattle.rl_seq.specs.Visits.{check_filled_op, walk_part, write_number_op}

module _ (c : ChipData) (mem map : ℕ) where
  pub walk_fills : (k part : ℕ) → part ≡ 0 → Some (op.MemWrite mem (Some map) k (turned_round c (Mem mem) k)) ≡ walk_part c mem map k part
  walk_fills k part at = sym (ap (walk_part c mem map k) at)

  pub walk_checks : (k turn part : ℕ) → part ≡ 1 → (1 ≤ turn) × (k ≡ turn - 1) → Some (check_filled_op c mem map k) ≡ walk_part c mem map turn part
  walk_checks k zero part at before = absurd (omega (arith, before.0))
  walk_checks k (suc n) part at before =
      let same : k ≡ n = omega (arith, before.1) in
      ap (λ k. Some (check_filled_op c mem map k)) same ∙ sym (ap (walk_part c mem map (suc n)) at)

  pub walk_writes : (k turn part : ℕ) → part ≡ 2 → (1 ≤ turn) × (k ≡ turn - 1) → Some (write_number_op c mem map k) ≡ walk_part c mem map turn part
  walk_writes k zero part at before = absurd (omega (arith, before.0))
  walk_writes k (suc n) part at before =
      let same : k ≡ n = omega (arith, before.1) in
      ap (λ k. Some (write_number_op c mem map k)) same ∙ sym (ap (walk_part c mem map (suc n)) at)

  -- the first location has none before it
  pub checks_none : (turn part : ℕ) → part ≡ 1 → (1 ≤ turn → ⊥) → None ≡ walk_part c mem map turn part
  checks_none zero part at none = sym (ap (walk_part c mem map 0) at)
  checks_none (suc n) part at none = absurd (none (omega arith))

  pub writes_none : (turn part : ℕ) → part ≡ 2 → (1 ≤ turn → ⊥) → None ≡ walk_part c mem map turn part
  writes_none zero part at none = sym (ap (walk_part c mem map 0) at)
  writes_none (suc n) part at none = absurd (none (omega arith))

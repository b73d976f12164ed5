use Rattle.std.proofs.Common.{◌≡◌, ◌&&◌, Bool, ap, sym, ◌∙◌, refl, arith}
use Rattle.std.specs.Prelude.{ℕ, List, slice_index}
use Rattle.rl_policy.specs.Bits.{bit, from_bits}
use Rattle.rl_bus.specs.declared.table.Lanes.{Lanes}
use Rattle.rl_split.proofs.Adding.{has_room, bit_added, bit_left_out}
use Rattle.rl_split.proofs.lanes.lanes_for.Goals as goal
use Rattle.rl_split.proofs.lanes.lanes_for.Goals.{then-is_chosen, else-is_chosen}

abbrev lanes : ℕ → List ℕ → Lanes
lanes enabled bytes = record { enabled = enabled; bytes = bytes }

pub loop-lane-init : goal.loop-lane-init
unfolding from_bits
loop-lane-init c = refl

pub overflow_add-enabled : goal.overflow_add-enabled
overflow_add-enabled c =
    let w = c.args.word.now in
    omega (arith, has_room c.loop-lane.lane c.loop-lane.enabled (λ k. bit w.lanes k && bit c.args.chosen (slice_index w.bytes k)) c.loop-lane-test.true c.loop-lane.invariant)

pub loop-lane-preserved : goal.loop-lane-preserved
loop-lane-preserved c =
    let w = c.args.word.now in
    let f : ℕ → Bool = λ k. bit w.lanes k && bit c.args.chosen (slice_index w.bytes k) in
    elim c.if-is_chosen.branch [
      | then-is_chosen v ↦ v.enabled-is ∙ bit_added c.loop-lane.lane c.loop-lane.enabled f c.loop-lane-test.true c.loop-lane.invariant (sym c.is_chosen.ensures ∙ v.if-is_chosen.true)
      | else-is_chosen v ↦ v.enabled-is ∙ bit_left_out c.loop-lane.lane c.loop-lane.enabled f c.loop-lane.invariant (sym c.is_chosen.ensures ∙ v.if-is_chosen.false)
    ]

pub returns : goal.returns
returns c =
    let end : c.loop-lane.lane ≡ 8 = omega arith in
    let w = c.args.word.now in
    let f : ℕ → Bool = λ k. bit w.lanes k && bit c.args.chosen (slice_index w.bytes k) in
    ap (λ e. lanes e w.bytes) (c.loop-lane.invariant ∙ ap (λ n. from_bits n f) end)

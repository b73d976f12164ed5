use Rattle.std.proofs.Common.{◌≡◌, ℕ, ◌+◌, ◌<◌, cond, ap, sym, ◌∙◌, arith, Option, Some, None, take, length, get_or, subst}
use Rattle.std.specs.List.Sorted.{IsNonDecreasingBy}
use Rattle.std.specs.Prelude.{position, option_map}
use Rattle.std.specs.Option.{option_or}
use Rattle.rl_policy.specs.declared.policy.Policy.{Policy}
use Rattle.rl_bus.specs.Setup.{covers, policy_of, no_field}
use Rattle.rl_policy.specs.Masks.{more_owned_bit}
use Rattle.rl_bench.specs.Tables.{setup_held}
use Rattle.rl_policy.proofs.MaskLemmas.{effects_same, own_bit}
use Rattle.rl_policy.proofs.Positions.{position_more}
use Rattle.rl_bench.proofs.StretchLemmas.{no_place_before, no_place_behind, other_reg, fields_there}
use Rattle.rl_bench.proofs.build.effects_of.Goals as goal

pub loop-k-init : goal.loop-k-init
loop-k-init c =
    let t = setup_held c.args.tables.now in
    let reg = c.args.reg in
    let own = fields_there t.fields c.fields_of-own.result.first c.fields_of-own.result.end reg _ c.deref.ensures.value c.fields_of-own.ensures in
    effects_same _ _ c.none-effects.result
    (λ b _. sym (ap (option_map (policy_of t))
    (no_place_before (λ f. covers f reg b) t.fields c.fields_of-own.result.first no_field (omega (arith, own.order, own.within))
    (λ j l. other_reg (get_or t.fields j no_field) reg b (own.before j no_field l))))) c.none-effects.ensures

pub loop-k-preserved : goal.loop-k-preserved
loop-k-preserved c =
    let t = setup_held c.args.tables.now in
    let row = c.index.result.now in
    let i = c.loop-k.k in
    let reg = c.args.reg in
    let own = fields_there t.fields c.fields_of-own.result.first c.fields_of-own.result.end reg _ c.deref.ensures.value c.fields_of-own.ensures in
    let l : i < length t.fields = omega (arith, c.loop-k-test.true, own.within) in
    let place : ℕ → Option ℕ = λ b. position (λ f. covers f reg b) (take i t.fields) in
    let held : ℕ → Option Policy = λ b. option_map (policy_of t) (place b) in
    let more : (b : ℕ) → position (λ f. covers f reg b) (take (i + 1) t.fields) ≡ option_or (place b) (cond (covers row reg b) (Some i) None) =
    λ b. position_more (λ f. covers f reg b) t.fields i row l
    ∙ ap (λ f. option_or (place b) (cond (covers f reg b) (Some i) None)) (sym c.index.ensures) in
    effects_same _ _ c.with_field-effects.result (λ b k.
    ap (λ s. more_owned_bit (held b) s c.policy_of.result) (c.seat_in.ensures b k)
    ∙ ap (more_owned_bit (held b) (covers row reg b)) c.policy_of.ensures
    ∙ own_bit (policy_of t) (place b) (covers row reg b) i
    ∙ ap (option_map (policy_of t)) (sym (more b)))
    (c.with_field-effects.ensures held c.loop-k.invariant)

pub returns : goal.returns
returns c =
    let t = setup_held c.args.tables.now in
    let reg = c.args.reg in
    let own = fields_there t.fields c.fields_of-own.result.first c.fields_of-own.result.end reg _ c.deref.ensures.value c.fields_of-own.ensures in
    let k = c.loop-k.k in
    effects_same _ _ c.loop-k.effects
    (λ b _. ap (option_map (policy_of t))
    (no_place_behind (λ f. covers f reg b) t.fields k no_field (omega (arith, c.loop-k.auto.k-end own.order, own.within))
    (λ j l m. other_reg (get_or t.fields j no_field) reg b (own.behind j no_field (omega (arith, l, c.loop-k-test.false)) m)))) c.loop-k.invariant

pub fields_of-own-requires : goal.fields_of-own-requires
fields_of-own-requires c = subst (λ fields. IsNonDecreasingBy (λ f. f.reg) fields) (sym c.deref.ensures.value) c.requires.fields_rise

use Rattle.std.proofs.Common.{◌≡◌, ℕ, ◌+◌, ◌-◌, ◌<◌, List, false, length, take, drop, get_or, slice_get, Some, ap, subst, ◌∙◌, arith}
use Rattle.std.proofs.lemmas.List.{length_push}
use Rattle.std.proofs.lemmas.Option.{slice_get-get_or, slice_get_within}
use Rattle.rl_policy.specs.declared.effects.Effects.{Effects}
use Rattle.rl_policy.specs.Masks.{AreEffectsOf}
use Rattle.rl_model.specs.declared.rows.RegRow.{RegRow}
use Rattle.rl_model.specs.Fields.{policy_at}
use Rattle.rl_model.proofs.EffectLemmas.{pairs_more, seats_within}
use Rattle.rl_model.proofs.effects.all_effects.Goals as goal

abbrev no_row : RegRow
no_row = record { bytes = 0; backdoor = false; skip = record { bits = 0 }; first = 0; count = 0 }

row_at : (regs : List RegRow) (i : ℕ) → i < length regs → slice_get regs i ≡ Some (get_or regs i no_row)
row_at regs i low = slice_get-get_or regs i no_row low

pub effects_of-requires : goal.effects_of-requires
effects_of-requires c = seats_within c.args.fields.now _ _ c.requires.seats

pub slice_bounds-effects_of-end : goal.slice_bounds-effects_of-end
slice_bounds-effects_of-end c = omega (arith, c.requires.within c.loop-reg.reg-index _ (row_at c.args.regs.now c.loop-reg.reg-index c.loop-reg-test.true))

pub loop-reg-preserved : goal.loop-reg-preserved
loop-reg-preserved c =
    let regs = c.args.regs.now in
    let fields = c.args.fields.now in
    let i = c.loop-reg.reg-index in
    let all = c.loop-reg.all.items in
    let row : RegRow = get_or regs i no_row in
    let at : slice_get regs i ≡ Some row = row_at regs i c.loop-reg-test.true in
    let count : (row.first + row.count) - row.first ≡ row.count = omega arith in
    let here : AreEffectsOf (policy_at (take row.count (drop row.first fields))) c.effects_of.result =
    subst (λ (n : ℕ). AreEffectsOf (policy_at (take n (drop row.first fields))) c.effects_of.result) count c.effects_of.ensures in
    record {
      long = ap (λ (es : List Effects). length es) c.in_ok-push.ensures.items ∙ length_push all c.effects_of.result ∙ ap (λ n. n + 1) c.loop-reg.invariant.long;
      each = λ n r e l at_r at_e.
          pairs_more (λ (r : RegRow) (e : Effects). AreEffectsOf (policy_at (take r.count (drop r.first fields))) e) regs all i row c.effects_of.result
          c.loop-reg.invariant.long at here c.loop-reg.invariant.each n r e l at_r
          (subst (λ (es : List Effects). slice_get es n ≡ Some e) c.in_ok-push.ensures.items at_e);
    }

pub returns : goal.returns
returns c =
    let end : c.loop-reg.reg-index ≡ length c.args.regs.now = omega (arith, c.loop-reg-test.false, c.loop-reg.auto.reg-index-end) in
    record {
      long = c.loop-reg.invariant.long ∙ end;
      each = λ n r e at_r at_e. c.loop-reg.invariant.each n r e (omega (arith, slice_get_within c.args.regs.now n r at_r, end)) at_r at_e;
    }

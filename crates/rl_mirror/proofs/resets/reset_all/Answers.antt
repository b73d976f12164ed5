use Rattle.std.proofs.Common.{◌≡◌, ℕ, ◌<◌, map, length, get_or, sym, ◌∙◌, arith}
use Rattle.std.specs.List.{range_with_len}
use Rattle.std.proofs.lemmas.List.{same_lists, get_or_default}
use Rattle.std.proofs.lemmas.List.FromFn.{get_or-map-range_with_len, length-map-range_with_len}
use Rattle.rl_model.specs.Fields.{fields_of}
use Rattle.rl_mirror.specs.Prediction.{after_reset}
use Rattle.rl_mirror.proofs.resets.reset_all.Goals as goal

pub returns-clause-value : goal.returns-clause-value
returns-clause-value c =
    let old = c.args.values.now in
    let new = c.loop-reg.values in
    let after : ℕ → ℕ = λ reg. after_reset (fields_of c.args.chip.now reg) c.args.kind (get_or old reg 0) in
    let long : length new ≡ length old = c.loop-reg.invariant.long in
    same_lists new (map after (range_with_len 0 (length old)))
    (long ∙ sym (length-map-range_with_len after 0 (length old)))
    (λ n d l.
    let within : n < length old = omega (arith, long, l) in
    let done : n < c.loop-reg.reg = omega (arith, within, c.requires.count, c.regs-reg-end.ensures.count, c.loop-reg-test.false) in
    get_or_default new n d 0 l ∙ c.loop-reg.invariant.done n done ∙ sym (get_or-map-range_with_len after 0 (length old) n n d within (omega arith)))

use Rattle.std.proofs.Common.{◌≡◌, ℕ, ◌<◌, Some, Option, take, length, ap, sym, ◌∙◌, arith, slice_get, refl, subst}
use Rattle.std.specs.Prelude.{option_map}
use Rattle.std.proofs.lemmas.List.{get_or_read}
use Rattle.std.proofs.lemmas.Option.{slice_get_read}
use Rattle.rl_policy.specs.declared.policy.Policy.{Policy}
use Rattle.rl_policy.specs.Masks.{more_owned_bit}
use Rattle.rl_policy.proofs.MaskLemmas.{effects_same, own_bit}
use Rattle.rl_model.specs.declared.rows.Field.{Field}
use Rattle.rl_model.specs.Rows.{FieldSeen}
use Rattle.rl_model.specs.Fields.{no_field, field_in, policy_in, covers, place_at}
use Rattle.rl_model.specs.Masks.{HasSeat}
use Rattle.rl_model.proofs.EffectLemmas.{place_nowhere, place_more}
use Rattle.rl_model.proofs.effects.effects_of.Goals as goal

pub loop-field-init : goal.loop-field-init
loop-field-init c =
    let fs = c.args.fields.now in
    effects_same _ _ c.none-effects.result (λ b _. sym (ap (option_map (policy_in fs)) (place_nowhere b))) c.none-effects.ensures

pub window-requires-clause-some : goal.window-requires-clause-some
window-requires-clause-some c =
    let fs = c.args.fields.now in
    let i = c.loop-field.field-index in
    let at : slice_get fs i ≡ Some c.field-item.result = slice_get_read fs (length fs) i c.field-item.result refl (omega (arith, c.loop-field-test.true)) c.field-item.is in
    (subst (λ (f : FieldSeen). HasSeat f) (sym c.field.view_is) (c.requires i c.field-item.result at)).0

pub window-requires-clause-most : goal.window-requires-clause-most
window-requires-clause-most c =
    let fs = c.args.fields.now in
    let i = c.loop-field.field-index in
    let at : slice_get fs i ≡ Some c.field-item.result = slice_get_read fs (length fs) i c.field-item.result refl (omega (arith, c.loop-field-test.true)) c.field-item.is in
    (subst (λ (f : FieldSeen). HasSeat f) (sym c.field.view_is) (c.requires i c.field-item.result at)).1

pub loop-field-preserved : goal.loop-field-preserved
loop-field-preserved c =
    let fs = c.args.fields.now in
    let i = c.loop-field.field-index in
    let l : i < length fs = omega (arith, c.loop-field-test.true) in
    let shape : c.field.inside.shape ≡ (field_in fs i).shape = ap (λ (g : FieldSeen). g.shape) (c.field.view_is ∙ get_or_read fs i c.field-item.result l c.field-item.is no_field) in
    let held : ℕ → Option Policy = λ b. option_map (policy_in fs) (place_at (take i fs) b) in
    effects_same _ _ c.with_field-effects.result (λ b k.
    ap (λ s. more_owned_bit (held b) s c.field.inside.shape.policy) (c.window.ensures b k)
    ∙ ap (λ (f : Field). more_owned_bit (held b) (covers f b) f.policy) shape
    ∙ own_bit (policy_in fs) (place_at (take i fs) b) (covers (field_in fs i).shape b) i
    ∙ ap (option_map (policy_in fs)) (sym (place_more fs i b l)))
    (c.with_field-effects.ensures held c.loop-field.invariant)

use Rattle.std.proofs.Common.{ap, sym, ◌∙◌}
use Rattle.rl_link.proofs.NameLemmas.{path_joined, seen_at}
use Rattle.rl_link.proofs.TextLemmas.{pieces_of_three}
use Rattle.rl_model.specs.Fields.{field_of, no_field}
use Rattle.rl_link.proofs.names.field_name.Goals as goal

pub returns : goal.returns
returns c =
    let fields = c.args.chip.now.fields in
    let shape = seen_at (λ f. f.shape) fields c.args.field no_field _ c.field-reg.ensures.value in
    let name = seen_at (λ f. f.name) fields c.args.field no_field _ c.field_name.ensures in
    pieces_of_three _ _ _ _ _ _ _ c.new-name.ensures.items c.in_ok-push.ensures c.in_ok-push-2.ensures c.in_ok-push-3.ensures
    ∙ path_joined c.args.chip.now _ _ _ (field_of c.args.chip.now c.args.field) c.path.ensures (sym (ap (λ s. s.reg) shape)) (sym name)

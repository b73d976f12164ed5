use Rattle.std.proofs.Common.{Some, sym, ap, ◌∙◌}
use Rattle.rl_model.specs.Rows.{FieldSeen}
use Rattle.rl_model.proofs.Reading.{read_at}
use Rattle.rl_model.proofs.chip.Chip.field_name.Goals as goal

pub returns : goal.returns
returns c =
    read_at (λ (f : FieldSeen). f.name) c.args.self.now.fields c.args.field c.index-row.result.now c.requires (rw (← c.self.view_is) c.index-row.ensures)
    ∙ ap (λ (f : FieldSeen). Some f.name) (sym c.row.view_is) ∙ ap Some (sym c.text.ensures)

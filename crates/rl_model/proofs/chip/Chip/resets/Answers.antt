use Rattle.std.proofs.Common.{Some, sym, ap, ◌∙◌}
use Rattle.rl_model.specs.Rows.{FieldSeen}
use Rattle.rl_model.proofs.Reading.{read_at}
use Rattle.rl_model.proofs.chip.Chip.resets.Goals as goal

pub returns : goal.returns
returns c =
    read_at (λ (f : FieldSeen). f.resets) c.args.self.now.fields c.args.field c.index-row.result.now c.requires (rw (← c.self.view_is) c.index-row.ensures)
    ∙ ap (λ (f : FieldSeen). Some f.resets) (sym c.row.view_is) ∙ ap Some (sym c.as_slice.ensures.value)

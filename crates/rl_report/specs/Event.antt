-- The text of an event: a line for the operation and what came of it, and a line for each bus item.
use Rattle.std.specs.Prelude.{ℕ, List, [], ◌∷◌, codes, flat_map}
use Rattle.rl_access.specs.declared.event.Event.{Event}
use Rattle.rl_access.specs.Model.{ModelData}
use Rattle.rl_report.specs.Item.{item_line}
use Rattle.rl_report.specs.Operation.{op_text}
use Rattle.rl_report.specs.Outcome.{result_text}
use Rattle.rl_report.specs.Pieces.{joined}

unfoldable pub event_line : ModelData → Event → List ℕ
event_line m e = joined (op_text m e.op ∷ result_text m.chip e ∷ codes "\n" ∷ [])

unfoldable pub event_text : ModelData → Event → List ℕ
event_text m e = joined (event_line m e ∷ flat_map (item_line m.layout) e.trace ∷ [])

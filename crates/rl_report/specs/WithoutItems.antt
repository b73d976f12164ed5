-- A text without the lines that begin with two spaces, as those of bus items do.
use Rattle.std.specs.Prelude.{◌≡◌, ℕ, ◌==◌, Bool, true, false, not, if◌then◌else◌, List, [], ◌∷◌, length, take, filter, codes, bytes_eq, All, None}
use Rattle.std.specs.List.{concat}
use Rattle.rl_model.specs.Rules.{is_name}
use Rattle.rl_model.specs.Data.{PartsData}
use Rattle.rl_model.specs.Rows.{ChipData}
use Rattle.rl_model.specs.Build.{chip_of, chip_fault}
use Rattle.rl_bus.specs.declared.op.AdapterKind.{AdapterKind}
use Rattle.rl_map.specs.declared.parts.MapNode.{MapNode}
use Rattle.rl_map.specs.declared.parts.PlacePart.{PlacePart}
use Rattle.rl_map.specs.Layout.{LayoutData}
use Rattle.rl_map.specs.Maps.{layout_of}
use Rattle.rl_map.specs.Faults.{layout_fault}
use Rattle.rl_access.specs.declared.event.Event.{Event}
use Rattle.rl_access.specs.Model.{ModelData, IsModel}
use Rattle.rl_report.specs.Event.{event_text}
use Rattle.rl_report.specs.Lines.{onto_first}

-- the lines of a text, each with the 10 that ends it. The last one may lack it.
abbrev pub ended_lines : List ℕ → List (List ℕ)
ended_lines [] = []
ended_lines (b ∷ bs) = if b == 10 then (b ∷ []) ∷ ended_lines bs else onto_first b (ended_lines bs)

-- it begins with two spaces
abbrev pub is_indented : List ℕ → Bool
is_indented line = bytes_eq (take 2 line) (codes "  ")

-- the text without the lines that begin with two spaces
unfoldable pub plain_part : List ℕ → List ℕ
plain_part text = concat (filter (λ line. not (is_indented line)) (ended_lines text))

-- ---- one line

-- its last byte is a 10, and no other is
abbrev pub is_one_line : List ℕ → Bool
is_one_line [] = false
is_one_line (b ∷ bs) = if b == 10 then length bs == 0 else is_one_line bs

-- one line, which begins with no two spaces
pub record IsLine (text : List ℕ) : Type 0 where
  pub one : is_one_line text ≡ true
  pub flush : is_indented text ≡ false

-- one line, which begins with two spaces
pub record IsIndented (text : List ℕ) : Type 0 where
  pub one : is_one_line text ≡ true
  pub indented : is_indented text ≡ true

-- ---- events

-- each reset kind and each map has a name
pub record HasNames (c : ChipData) (l : LayoutData) : Type 0 where
  pub kinds : All (λ kind. is_name kind ≡ true) c.kinds
  pub maps : All (λ map. is_name map.name ≡ true) l.maps

-- so it is in a chip and a layout of parts that no condition refuses
abbrev pub BuiltOnesHaveNames : Type 0
BuiltOnesHaveNames = (parts : PartsData) (maps : List MapNode) (places : List PlacePart) (kinds : List AdapterKind)
    → chip_fault parts ≡ None → layout_fault (chip_of parts) maps places kinds ≡ None
    → HasNames (chip_of parts) (layout_of (chip_of parts) maps places kinds)

-- the text of an event, without the lines that begin with two spaces, is the text of the event without its items
abbrev pub ItemsAreIndented : Type 0
ItemsAreIndented = (m : ModelData) (e : Event) → IsModel m → HasNames m.chip m.layout
    → plain_part (event_text m e) ≡ event_text m (record e { trace = [] })

-- An access of a master as an operation of another master, and an access of a weave under way.
use Rattle.std.specs.Prelude.{◌≡◌, ℕ, List, [], Option, None, Some, Ok, length, get_or, All}
use Rattle.rl_map.specs.Layout.{words_of}
use Rattle.rl_access.specs.declared.event.Op.{Op}
use Rattle.rl_access.specs.declared.event.Op.TheVariants.{OtherWrite, OtherRead}
use Rattle.rl_access.specs.Event.{ItemFits}
use Rattle.rl_access.specs.Model.{ModelData}
use Rattle.rl_access.specs.Operation.{HasNumbers}
use Rattle.rl_access.specs.Rules.{grant}
use Rattle.rl_weave.specs.declared.access.Access.{Access}
use Rattle.rl_weave.specs.declared.woven.Woven.{Woven}

-- ---- the operation: a write of the value, or a read where there is none

abbrev pub op_with : (reg : ℕ) → (map value : Option ℕ) → Op
op_with reg map None = OtherRead reg map
op_with reg map (Some value) = OtherWrite reg map value

abbrev pub op_of : Access → Op
op_of a = op_with a.reg a.map a.value

abbrev pub IsNumbered : ModelData → Access → Type 0
IsNumbered m a = HasNumbers m.chip (length m.layout.maps) (op_of a)

-- ---- an access of a weave

abbrev pub no_woven : Woven
no_woven = record { access = record { reg = 0; map = None; value = None }; place = 0; words = 0; items = [] }

abbrev pub woven_at : List Woven → ℕ → Woven
woven_at accesses k = get_or accesses k no_woven

-- The model meets no refusal of the access, has the place and the number of words that were found, and the items that
-- were sent so far fit it.
pub record IsWovenOn (m : ModelData) (v : Woven) : Type 0 where
  pub numbers : IsNumbered m v.access
  pub granted : grant m (op_of v.access) ≡ Ok v.place
  pub words : v.words ≡ length (words_of m.layout v.place 0)
  pub items : All (ItemFits m.layout) v.items

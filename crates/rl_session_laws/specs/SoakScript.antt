-- What the script of the session that is made from a number reads as.
use Rattle.std.specs.Prelude.{◌≡◌, ℕ, zero, suc, ◌+◌, List, [], ◌∷◌, ◌++◌, map as each, codes, decimal, slice_index_or, None, Ok}
use Rattle.rl_script.specs.declared.line.Line.{Line}
use Rattle.rl_script.specs.declared.line.Line.TheVariants as line
use Rattle.rl_script.specs.declared.line.Sequence.TheVariants.{BitBash}
use Rattle.rl_script.specs.Spelling.{spelling}
use Rattle.rl_log.specs.Log.{said}
use Rattle.rl_session.specs.Session.{script_of}
use Rattle.rl_session.specs.Session.{head_of}
use Rattle.rl_session.specs.Soak.{next_state, drawn, description_text, soak_text}

-- ---- what is drawn

-- the commands of a soak: one in eight of each, and two of writes
pub data Command : Type 0 where
  Write : Command
  Read : Command
  Check : Command
  Set : Command
  Update : Command
  Peek : Command
  FieldWrite : Command

abbrev pub commands : List Command
commands = Write ∷ Write ∷ Read ∷ Check ∷ Set ∷ Update ∷ Peek ∷ FieldWrite ∷ []

unfoldable pub command_of : ℕ → Command
command_of c = slice_index_or commands c Write

abbrev pub register : ℕ → List ℕ
register k = codes "r" ++ decimal k

-- each register has one field, f
abbrev pub only_field : ℕ → List ℕ
only_field k = register k ++ codes ".f"

-- the operation of a command on register k, with value v where it takes one
abbrev pub operation : Command → (k v : ℕ) → Line
operation Write k v = line.Write (register k) v None
operation Read k v = line.Read (register k) None
operation Check k v = line.Check (register k) None
operation Set k v = line.Set (only_field k) v
operation Update k v = line.Update (register k) None
operation Peek k v = line.Peek (register k)
operation FieldWrite k v = line.FieldWrite (only_field k) v None

-- three draws: one of eight commands, one of 64 registers, a value of 31 bits
abbrev pub drawn_after : ℕ → Line
drawn_after x =
    operation (command_of (drawn (next_state x) 8)) (drawn (next_state (next_state x)) 64)
    (drawn (next_state (next_state (next_state x))) 2147483648)

-- so many drawn lines, and then a bit-bash of the whole chip
unfoldable pub drawn_lines : (count x : ℕ) → List Line
drawn_lines zero x = line.Seq BitBash None ∷ []
drawn_lines (suc count) x = drawn_after x ∷ drawn_lines count (next_state (next_state (next_state x)))

-- each text, the first one with that number, says the line at its place, and there are as many of both
abbrev pub AllSay : (number : ℕ) → List (List ℕ) → List Line → Type 0
AllSay number [] [] = Unit {0}
AllSay number [] (l ∷ ls) = ⊥
AllSay number (text ∷ texts) [] = ⊥
AllSay number (text ∷ texts) (l ∷ ls) = (said number text ≡ Ok l) × AllSay (number + 1) texts ls

-- The description stands before the separator. The lines of the script are the drawn ones in their canonical
-- spelling, and say them: none is refused.
pub record ReadsAsDrawn (n : ℕ) : Type 0 where
  pub head : head_of (soak_text n) ≡ Ok description_text
  pub spellings : script_of (soak_text n) ≡ each spelling (drawn_lines 20000 n)
  pub readings : AllSay 1 (script_of (soak_text n)) (drawn_lines 20000 n)

abbrev pub ScriptReads : Type 0
ScriptReads = (n : ℕ) → ReadsAsDrawn n

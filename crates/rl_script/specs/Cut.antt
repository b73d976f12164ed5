-- The operands of a command on an item, each read from its word once the words are cut.
use Rattle.std.specs.Prelude.{ℕ, Bool, true, false, ◌&&◌, nat_le, if◌then◌else◌, List, [], ◌∷◌, drop, Option, Some, None, Result, Ok, Err}
use Rattle.rl_policy.specs.Numbers.{number_of}
use Rattle.rl_script.specs.declared.fault.LineFault.{LineFault}
use Rattle.rl_script.specs.declared.fault.LineFault.TheVariants.{WrongCount, CountOutOfRange}
use Rattle.rl_script.specs.declared.line.Line.{Line}
use Rattle.rl_script.specs.declared.command.Item.{Item}
use Rattle.rl_script.specs.Words.{begins_with}
use Rattle.rl_script.specs.Commands.{row_of, line_of, may_count}
use Rattle.rl_script.specs.Reading.{◌>>=◌, word_at, path_of, name_of, fitting}

-- the next word where the command has one there, and else the word before it
abbrev pub word_or : Bool → List ℕ → List (List ℕ) → Result (List ℕ × List (List ℕ)) LineFault
word_or present before ws = if present then word_at ws else Ok (before, ws)

-- whether a map follows, and nothing else; and the last word
abbrev pub map_word : Bool → List ℕ → List (List ℕ) → Result (Bool × List ℕ) LineFault
map_word takes before [] = if takes && begins_with 64 before then Err WrongCount else Ok (false, before)
map_word takes before (w ∷ []) = if takes && begins_with 64 w then Ok (true, w) else Err WrongCount
map_word takes before (w ∷ v ∷ ws) = Err WrongCount

abbrev pub value_if : Bool → List ℕ → Result ℕ LineFault
value_if present w = if present then fitting (number_of w) else Ok 0

abbrev pub map_of : Bool → List ℕ → Result (Option (List ℕ)) LineFault
map_of false w = Ok None
map_of true w = name_of (drop 1 w) >>= λ name. Ok (Some name)

unfoldable pub operands_of : Item → List ℕ → List ℕ → List ℕ → Bool → List ℕ → Result Line LineFault
operands_of item p a b named w = do
  path ← path_of p
  first ← value_if (nat_le 1 (row_of item).numbers) a
  second ← value_if (nat_le 2 (row_of item).numbers) b
  m ← map_of named w
  if may_count item second then Ok (line_of item path first second m) else Err CountOutOfRange

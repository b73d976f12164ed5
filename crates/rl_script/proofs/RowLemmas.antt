-- What each command has behind its path, and what each line on an item says, by going over all of them.
use Rattle.std.proofs.Common.{◌≡◌, ℕ, ◌≤◌, if◌then◌else◌, refl, arith}
use Rattle.std.specs.Prelude.{IfSome, nat_le}
use Rattle.rl_script.specs.declared.command.Item.{Item}
use Rattle.rl_script.specs.declared.command.Item.TheVariants as items
use Rattle.rl_script.specs.declared.line.Line.{Line}
use Rattle.rl_script.specs.declared.line.Line.TheVariants as line
use Rattle.rl_script.specs.declared.line_ref.ItemLine.{ItemLine}
use Rattle.rl_script.specs.Commands.{row_of, said}
use Rattle.rl_script.specs.Said.{item_said}
use Rattle.rl_script.specs.Spelling.{map_in}

pub few_numbers : (item : Item) → (row_of item).numbers ≤ 2
few_numbers items.Write = omega arith
few_numbers _ = omega arith

-- a number, where a command has so many
abbrev pub number_in : (which count number : ℕ) → ℕ
number_in which count number = if nat_le which count then number else 0

-- the line again; and it says no number and no map that its command lacks
pub record IsSaidBy (l : Line) (s : ItemLine) : Type 0 where
  pub back : item_said s ≡ l
  pub first : number_in 1 (row_of s.item).numbers s.first ≡ s.first
  pub second : number_in 2 (row_of s.item).numbers s.second ≡ s.second
  pub map : map_in s.item s.map ≡ s.map

pub said_is : (l : Line) → IfSome (said l) (IsSaidBy l)
said_is line.Blank = tt
said_is (line.BurstWrite mem first values m) = tt
said_is (line.Reset kind) = tt
said_is (line.Seq which block) = tt
said_is _ = record { back = refl; first = refl; second = refl; map = refl }

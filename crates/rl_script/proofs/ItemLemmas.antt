-- A line with a command on one item, whatever the command.
use Rattle.std.proofs.Common.{◌≡◌, ℕ, zero, suc, ◌^◌, ◌<◌, ◌≤◌, Bool, true, false, ◌&&◌, nat_le, IsTrue, if◌then◌else◌, List, [], ◌∷◌, take, Option, None, refl}
use Rattle.std.specs.Prelude.{IfSome}
use Rattle.std.specs.List.{AllByRecursion}
use Rattle.std.proofs.lemmas.Bool.{leb-true}
use Rattle.rl_script.specs.declared.command.Item.{Item}
use Rattle.rl_script.specs.declared.command.Item.TheVariants as items
use Rattle.rl_script.specs.Commands.{row_of, line_of, may_count}
use Rattle.rl_script.specs.Names.{is_name, is_path}
use Rattle.rl_script.specs.Spelling.{item_words, numbers_in, map_in, words_of_line, IsLine, HasGoodCount}
use Rattle.rl_script.specs.Bursts.{is_burst_write}
use Rattle.rl_script.proofs.AgainLemmas.{and_parts}

-- its spelling has the numbers and the map that the command has
pub item_line_words : (item : Item) (path : List ℕ) (first second : ℕ) (m : Option (List ℕ))
    → words_of_line (line_of item path first second m) ≡ item_words item path (numbers_in item first second) (map_in item m)
item_line_words items.Write path first second m = refl
item_line_words _ path first second m = refl

good_numbers : (count first second : ℕ) → first < 2 ^ 64 → second < 2 ^ 64 → AllByRecursion (λ n. n < 2 ^ 64) (take count (first ∷ second ∷ []))
good_numbers zero first second a b = tt
good_numbers (suc zero) first second a b = (a, tt)
good_numbers (suc (suc zero)) first second a b = (a, (b, tt))
good_numbers (suc (suc (suc count))) first second a b = (a, (b, tt))

good_map : (takes : Bool) (m : Option (List ℕ)) → IfSome m (λ name. IsTrue (is_name name)) → IfSome (if takes then m else None) (λ name. IsTrue (is_name name))
good_map true m n = n
good_map false m n = tt

-- it is a line where its operands are what they should be
pub item_line_is : (item : Item) (path : List ℕ) (first second : ℕ) (m : Option (List ℕ))
    → IsTrue (is_path path) → first < 2 ^ 64 → second < 2 ^ 64 → IfSome m (λ name. IsTrue (is_name name)) → IsLine (line_of item path first second m)
item_line_is items.Write path first second m p a b n = (p, good_numbers 1 first second a b, n)
item_line_is item path first second m p a b n = (p, good_numbers (row_of item).numbers first second a b, good_map (row_of item).map m n)

good_range : (n : ℕ) → (nat_le 1 n && nat_le n 256) ≡ true → (1 ≤ n) × (n ≤ 256)
good_range n h = let both = and_parts (nat_le 1 n) (nat_le n 256) h in (leb-true 1 n both.0, leb-true n 256 both.1)

-- and reads back where its count is good
pub item_line_counts : (item : Item) (path : List ℕ) (first second : ℕ) (m : Option (List ℕ)) → may_count item second ≡ true → HasGoodCount (line_of item path first second m)
item_line_counts items.Write path first second m h = tt
item_line_counts items.BurstRead path first second m h = good_range second h
item_line_counts _ path first second m h = tt

pub item_line_is_no_burst : (item : Item) (path : List ℕ) (first second : ℕ) (m : Option (List ℕ)) → is_burst_write (line_of item path first second m) ≡ false
item_line_is_no_burst items.Write path first second m = refl
item_line_is_no_burst _ path first second m = refl

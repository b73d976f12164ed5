-- A command is looked for group by group.
use Rattle.std.proofs.Common.{◌≡◌, ℕ, Bool, List, [], ◌∷◌, ◌++◌, map, Option, Some, None, refl, sym, ap, ◌∙◌, inl, inr}
use Rattle.std.specs.Prelude.{find, option_map}
use Rattle.std.specs.Str.{bytes_eq}
use Rattle.std.proofs.lemmas.Bool.{cases_Bool}
use Rattle.std.proofs.lemmas.List.Folds.{find-append}
use Rattle.rl_script.specs.declared.command.Item.{Item}
use Rattle.rl_script.specs.declared.command.Command.TheVariants as command
use Rattle.rl_script.specs.Commands.{item_name, command_name, command_named, items, other_commands}

-- what is found among the first is found, and else what is among the others
pub found_first : {A : Type 0} (p : A → Bool) (xs ys : List A) (x : A) → find p xs ≡ Some x → find p (xs ++ ys) ≡ Some x
found_first p xs ys x e = rw (find-append p xs ys, e) refl

pub found_later : {A : Type 0} (p : A → Bool) (xs ys : List A) → find p xs ≡ None → find p (xs ++ ys) ≡ find p ys
found_later p xs ys e = rw (find-append p xs ys, e) refl

-- the same of an answer that is known
pub in_first : {A : Type 0} (p : A → Bool) (xs ys : List A) (x : A) (found : Option A) → found ≡ find p xs → found ≡ Some x → Some x ≡ find p (xs ++ ys)
in_first p xs ys x found is some = sym (found_first p xs ys x (sym is ∙ some))

pub in_later : {A : Type 0} (p : A → Bool) (xs ys : List A) (found later : Option A) → found ≡ find p xs → found ≡ None → later ≡ find p ys → later ≡ find p (xs ++ ys)
in_later p xs ys found later is none rest = rest ∙ sym (found_later p xs ys (sym is ∙ none))

on_items : (w : List ℕ) (some : List Item) → find (λ c. bytes_eq (command_name c) w) (map command.OnItem some) ≡ option_map command.OnItem (find (λ item. bytes_eq (item_name item) w) some)
on_items w [] = refl
on_items w (item ∷ some) =
    elim (cases_Bool (bytes_eq (item_name item) w)) [
      | inl holds ↦ rw holds refl
      | inr fails ↦ rw fails (on_items w some)
    ]

pub on_item : (w : List ℕ) (item : Item) → find (λ i. bytes_eq (item_name i) w) items ≡ Some item → command_named w ≡ Some (command.OnItem item)
on_item w item e = found_first (λ c. bytes_eq (command_name c) w) (map command.OnItem items) other_commands (command.OnItem item) (on_items w items ∙ ap (option_map command.OnItem) e)

pub on_none : (w : List ℕ) → find (λ i. bytes_eq (item_name i) w) items ≡ None → command_named w ≡ find (λ c. bytes_eq (command_name c) w) other_commands
on_none w e = found_later (λ c. bytes_eq (command_name c) w) (map command.OnItem items) other_commands (on_items w items ∙ ap (option_map command.OnItem) e)

-- A look-up that answers exactly the number of a name finds its first place among the names.
use Rattle.std.proofs.Common.{◌≡◌, ℕ, ◌+◌, ◌<◌, Bool, true, false, cond, List, [], length, get_or, take, drop, map, nat_lt, Option}
use Rattle.std.proofs.Common.{Some, None, refl, sym, ap, ◌∙◌, subst, arith, get_or-take, get_or-drop, length-take, length-drop}
use Rattle.std.specs.Prelude.{◌≢◌, IfSome, slice_get, position, bytes_eq, option_map, ◌↔◌}
use Rattle.std.specs.List.{position_or_len}
use Rattle.std.proofs.lemmas.Bool.Decides.{nat_tests}
use Rattle.std.proofs.lemmas.List.Sums.{position_or_len_is}
use Rattle.std.proofs.lemmas.Option.{slice_get_within, slice_get-get_or, get_or_from_slice_get, slice_get-map}
use Rattle.std.proofs.lemmas.Slice.Eq.{bytes_eq-Decides}
use Rattle.rl_access.specs.declared.event.Op.{Op}
use Rattle.rl_access.specs.Model.{ModelData}
use Rattle.rl_script.specs.declared.command.Item.{Item}
use Rattle.rl_script.specs.declared.command.Item.TheVariants as item
use Rattle.rl_script.specs.declared.line_ref.ItemLine.{ItemLine}
use Rattle.rl_script.specs.Commands.{line_of, saying}
use Rattle.rl_script.specs.Said.{item_said}
use Rattle.rl_log.specs.Named.{number_of, item_op, op_named}

lt_true : (a b : ℕ) → a < b → nat_lt a b ≡ true
lt_true a b h = grind (arith, nat_tests)

lt_same : (a : ℕ) → nat_lt a a ≡ false
lt_same a = grind (arith, nat_tests)

at_first : {X : Type 0} (p : X → Bool) (xs : List X) (n : ℕ) → position_or_len p xs ≡ n → n < length xs
    → position p xs ≡ Some n
at_first p xs n e low = ap (λ t. cond t (Some (position_or_len p xs)) None) (lt_true _ _ (omega (arith, e))) ∙ ap Some e

at_none : {X : Type 0} (p : X → Bool) (xs : List X) → position_or_len p xs ≡ length xs → position p xs ≡ None
at_none p xs e =
    ap (λ n. cond (nat_lt n (length xs)) (Some (position_or_len p xs)) None) e ∙ ap
    (λ t. cond t (Some (position_or_len p xs)) None) (lt_same (length xs))

not_true : (b : Bool) → (b ≡ true → ⊥) → b ≡ false
not_true true h = absurd (h refl)
not_true false h = refl

pub found_in : (names : List (List ℕ)) (name : List ℕ) (o : Option ℕ) →
    ((n : ℕ) → (o ≡ Some n) ↔ (slice_get names n ≡ Some name)) → o ≡ number_of names name
found_in names name o h = sym (by o refl)
  where
    other : (k : ℕ) → k < length names → (o ≡ Some k → ⊥) → bytes_eq name (get_or names k []) ≡ false
    other k low refuse =
        not_true _ (λ e. let same : name ≡ get_or names k [] = (bytes_eq-Decides name (get_or names k [])).0 e in
        refuse ((h k).1 (slice_get-get_or names k [] low ∙ ap Some (sym same))))

    by : (v : Option ℕ) → o ≡ v → position (bytes_eq name) names ≡ v
    by None e = at_none (bytes_eq name) names
        (position_or_len_is (bytes_eq name) names (length names) [] (omega arith)
        (λ k low. other k low (λ f. let g = sym e ∙ f in cc)) (λ low. absurd (omega arith)))
    by (Some n) e =
        let at = (h n).0 e in
        let inside : n < length names = slice_get_within names n name at in
        let read : name ≡ get_or names n [] = sym (get_or_from_slice_get names n name [] at) in
        at_first (bytes_eq name) names n
        (position_or_len_is (bytes_eq name) names n [] (omega arith)
        (λ k less. other k (omega arith) (λ f. let g : Some n ≡ Some k = sym e ∙ f in let m : n ≡ k = cc in absurd
        (omega arith)))
        (λ low. (bytes_eq-Decides name (get_or names n [])).1 read)) inside

-- a number from a place on, so many
pub found_from : (paths : List (List ℕ)) (first len : ℕ) (path : List ℕ) (o : Option ℕ) →
    ((n : ℕ) → (o ≡ Some n) ↔ ((n < len) × (slice_get paths (first + n) ≡ Some path))) → o ≡ number_of
    (take len (drop first paths)) path
found_from paths first len path o h = found_in (take len (drop first paths)) path o (λ n. (forth n, back n))
  where
    part_at : (k : ℕ) → k < len → get_or (take len (drop first paths)) k [] ≡ get_or paths (first + k) []
    part_at k low = get_or-take len (drop first paths) k [] low ∙ get_or-drop first paths k []

    inside : (k : ℕ) → k < len → first + k < length paths → k < length (take len (drop first paths))
    inside k low high = let n = length-take len (drop first paths) in let m = length-drop first paths in omega arith

    within : (k : ℕ) → k < length (take len (drop first paths)) → (k < len) × (first + k < length paths)
    within k low = let n = length-take len (drop first paths) in let m = length-drop first paths in
        (omega arith, omega arith)

    forth : (n : ℕ) → o ≡ Some n → slice_get (take len (drop first paths)) n ≡ Some path
    forth n e =
        let at = (h n).0 e in
        slice_get-get_or (take len (drop first paths)) n [] (inside n at.0 (slice_get_within paths (first + n) path at.1))
        ∙ ap Some (part_at n at.0 ∙ get_or_from_slice_get paths (first + n) path [] at.1)

    back : (n : ℕ) → slice_get (take len (drop first paths)) n ≡ Some path → o ≡ Some n
    back n e =
        let in_part = within n (slice_get_within (take len (drop first paths)) n path e) in
        (h n).1 (
          in_part.0,
          slice_get-get_or paths (first + n) [] in_part.1 ∙ ap Some
              (sym (part_at n in_part.0) ∙ get_or_from_slice_get (take len (drop first paths)) n path [] e),
        )

-- a number among the first so many
pub found_first : (paths : List (List ℕ)) (len : ℕ) (path : List ℕ) (o : Option ℕ) →
    ((n : ℕ) → (o ≡ Some n) ↔ ((n < len) × (slice_get paths n ≡ Some path))) → o ≡ number_of (take len paths) path
found_first paths len path o h =
    found_from paths 0 len path o (λ n. subst (λ k. (o ≡ Some n) ↔ ((n < len) × (slice_get paths k ≡ Some path)))
    (omega arith) (h n))

-- the name of a row
pub found_row : {X : Type 0} (name_of : X → List ℕ) (rows : List X) (name : List ℕ) (o : Option ℕ) →
    ((n : ℕ) → (o ≡ Some n) ↔ (option_map name_of (slice_get rows n) ≡ Some name)) → o ≡ number_of (map name_of rows) name
found_row name_of rows name o h =
    found_in (map name_of rows) name o (λ n. (
      λ e. slice_get-map name_of rows n ∙ (h n).0 e,
      λ e. (h n).1
          (sym (slice_get-map name_of rows n) ∙ e),
    ))

-- ---- the operation of a line on an item

by_item : (m : ModelData) (i : Item) (path : List ℕ) (first second : ℕ) (map : Option (List ℕ)) → i ≢ item.BurstRead
    → op_named m (line_of i path first second map) ≡ item_op m (saying i path first second map)
by_item m item.BurstRead path first second map other = absurd (other refl)
by_item m _ path first second map other = refl

pub item_op_is : (m : ModelData) (l : ItemLine) → l.item ≢ item.BurstRead → op_named m (item_said l) ≡ item_op m l
item_op_is m l other = by_item m l.item l.path l.first l.second l.map other

pub holds_where : (P : Op → Type 0) (r o : Option Op) → r ≡ o → ((x : Op) → o ≡ Some x → P x) → IfSome r P
holds_where P r o e h = subst (λ q. IfSome q P) (sym e) (by_value o h)
  where
    by_value : (o : Option Op) → ((x : Op) → o ≡ Some x → P x) → IfSome o P
    by_value None h = tt
    by_value (Some x) h = h x refl

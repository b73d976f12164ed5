-- A path goes on from a block's path exactly where a chain of scopes leads up to the block.
use Rattle.std.proofs.Common.{◌≡◌, ◌⊎◌, ℕ, zero, suc, ◌+◌, ◌<◌, ◌≤◌, Bool, true, ◌==◌, nat_lt, IsTrue, ◌↔◌, List, [], ◌∷◌, ◌++◌, length, length-append}
use Rattle.std.proofs.Common.{append_assoc, take, drop, drop-cons, get_or, Option, Some, None, bytes_eq, refl, sym, ap, subst, ◌∙◌, inl, inr, arith}
use Rattle.std.proofs.lemmas.Bool.Decides.{nat_tests}
use Rattle.std.proofs.lemmas.Slice.Eq.{bytes_eq-Decides}
use Rattle.std.proofs.lemmas.Option.{none-some}
use Rattle.std.proofs.lemmas.List.{take-append-drop}
use Rattle.rl_model.specs.Rules.{is_name}
use Rattle.rl_model.specs.Rows.{ChipData}
use Rattle.rl_model.specs.declared.rows.Item.{Item}
use Rattle.rl_model.specs.declared.rows.Item.TheVariants.{Reg, Mem}
use Rattle.rl_model.specs.Chip.{IsSound, HasItem, place_of, path_of_item, is_inside, path_at, last_dot, one_later, HasParent, IsChain, Holds}
use Rattle.rl_model.proofs.Dots.{no_dot, take_front}

-- ---- a path after a dot

abbrev Goes : List ℕ → List ℕ → Type 0
Goes front p = (rest : List ℕ) × (p ≡ front ++ 46 ∷ rest)

get-here : (a : List ℕ) (x : ℕ) (b : List ℕ) → get_or (a ++ x ∷ b) (length a) 0 ≡ x
get-here [] x b = refl
get-here (y ∷ ys) x b = get-here ys x b

goes : (b p : List ℕ) → is_inside b p ≡ true → Goes b p
goes b p h =
    let lt : length b < length p = grind (arith, nat_tests) in
    let front : bytes_eq (take (length b) p) b ≡ true = grind (arith, nat_tests) in
    let dot : get_or p (length b) 0 ≡ 46 = grind (arith, nat_tests) in
    let front_is : take (length b) p ≡ b = (bytes_eq-Decides (take (length b) p) b).0 front in
    let rest = drop (suc (length b)) p in
    let back_is : drop (length b) p ≡ 46 ∷ rest = drop-cons p (length b) 0 lt ∙ ap (λ (x : ℕ). x ∷ rest) dot in
    (rest, sym (take-append-drop (length b) p) ∙ (ap (λ (l : List ℕ). l ++ drop (length b) p) front_is ∙ ap (λ (l : List ℕ). b ++ l) back_is))

is_inside-append : (b rest : List ℕ) → is_inside b (b ++ 46 ∷ rest) ≡ true
is_inside-append b rest =
    let count : length (b ++ 46 ∷ rest) ≡ length b + suc (length rest) = length-append b (46 ∷ rest) in
    let lt : nat_lt (length b) (length (b ++ 46 ∷ rest)) ≡ true = grind (arith, nat_tests) in
    let front : bytes_eq (take (length b) (b ++ 46 ∷ rest)) b ≡ true = (bytes_eq-Decides (take (length b) (b ++ 46 ∷ rest)) b).1 (take_front b (46 ∷ rest)) in
    let dot : (get_or (b ++ 46 ∷ rest) (length b) 0 == 46) ≡ true = ap (λ (x : ℕ). x == 46) (get-here b 46 rest) in
    rw (lt, front, dot)

-- a path with a dot is no name
one_later_some : (o : Option ℕ) → one_later o true ≡ None → ⊥
one_later_some None h = none-some 0 (sym h)
one_later_some (Some k) h = none-some (k + 1) (sym h)

later_none : (o : Option ℕ) (b : Bool) → one_later o b ≡ None → o ≡ None
later_none None b h = refl
later_none (Some k) b h = absurd (none-some (k + 1) (sym h))

has_dot : (a b : List ℕ) → last_dot (a ++ 46 ∷ b) ≡ None → ⊥
has_dot [] b h = one_later_some (last_dot b) h
has_dot (x ∷ xs) b h = has_dot xs b (later_none (last_dot (xs ++ 46 ∷ b)) (x == 46) h)

name_no_dot : (a b n : List ℕ) → is_name n ≡ true → n ≡ a ++ 46 ∷ b → ⊥
name_no_dot a b n named is = has_dot a b (ap last_dot (sym is) ∙ no_dot n named)

-- two fronts of one path: one goes on from the other, or they are the same
abbrev Compared : List ℕ → List ℕ → List ℕ → List ℕ → Type 0
Compared a x f y = (a ≡ f) ⊎ (Goes a f ⊎ ((rest : List ℕ) × (y ≡ rest ++ 46 ∷ x)))

head_is : (x y : ℕ) (xs ys : List ℕ) → x ∷ xs ≡ y ∷ ys → x ≡ y
head_is x y xs ys e = cc

tail_is : (x y : ℕ) (xs ys : List ℕ) → x ∷ xs ≡ y ∷ ys → xs ≡ ys
tail_is x y xs ys e = cc

compare : (a x f y : List ℕ) → a ++ 46 ∷ x ≡ f ++ 46 ∷ y → Compared a x f y
compare [] x [] y e = inl refl
compare [] x (g ∷ gs) y e = inr (inl (gs, ap (λ (c : ℕ). c ∷ gs) (sym (head_is 46 g x (gs ++ 46 ∷ y) e))))
compare (b ∷ bs) x [] y e = inr (inr (bs, sym (tail_is b 46 (bs ++ 46 ∷ x) y e)))
compare (b ∷ bs) x (g ∷ gs) y e =
    let same : b ≡ g = head_is b g (bs ++ 46 ∷ x) (gs ++ 46 ∷ y) e in
    elim (compare bs x gs y (tail_is b g (bs ++ 46 ∷ x) (gs ++ 46 ∷ y) e)) [
      | inl equal ↦ inl (let all : b ∷ bs ≡ g ∷ gs = cc in all)
      | inr other ↦
          elim other [
            | inl (rest, is) ↦ inr (inl (rest, (let all : g ∷ gs ≡ b ∷ (bs ++ 46 ∷ rest) = cc in all)))
            | inr longer ↦ inr (inr longer)
          ]
    ]

-- ---- up the chain

holds_up : (n : ℕ) (c : ChipData) → IsSound c → (block : ℕ) (path : List ℕ) → block < c.scopes → length path ≤ n → HasParent c path → Goes (path_at c block) path → Holds c block path
holds_up n c s block path lt few (inl top) (rest, is) = absurd (name_no_dot (path_at c block) rest path top is)
holds_up zero c s block path lt few (inr (scope, in_scope)) (rest, is) =
    absurd (omega (arith, ap (λ (l : List ℕ). length l) is, length-append (path_at c block) (46 ∷ rest)))
holds_up (suc n) c s block path lt few (inr (scope, in_scope)) (rest, is) =
    let front = path_at c scope in
    elim (compare (path_at c block) rest front in_scope.name (sym is ∙ in_scope.joined)) [
      | inl same ↦ (
        [],
        record {
          name = in_scope.name;
          scope = lt;
          named = in_scope.named;
          joined = in_scope.joined ∙ ap (λ (l : List ℕ). l ++ 46 ∷ in_scope.name) (sym same);
        },
      )
      | inr other ↦
          elim other [
            | inl goes_on ↦
                let shorter : length front ≤ n = omega (arith, ap (λ (l : List ℕ). length l) in_scope.joined, length-append front (46 ∷ in_scope.name)) in
                let (chain, leads) = holds_up n c s block front lt shorter (s.parents scope (omega (arith, s.paths, in_scope.scope))) goes_on in
                (scope ∷ chain, (in_scope, leads))
            | inr (more, name_is) ↦ absurd (name_no_dot more rest in_scope.name in_scope.named name_is)
          ]
    ]

goes_down : (c : ChipData) (block : ℕ) (chain path : List ℕ) → IsChain c block chain path → Goes (path_at c block) path
goes_down c block [] path in_scope = (in_scope.name, in_scope.joined)
goes_down c block (scope ∷ chain) path (in_scope, leads) =
    let (rest, is) = goes_down c block chain (path_at c scope) leads in (
      rest ++ 46 ∷ in_scope.name,
      in_scope.joined ∙ (ap (λ (l : List ℕ). l ++ 46 ∷ in_scope.name) is ∙ append_assoc (path_at c block) (46 ∷ rest) (46 ∷ in_scope.name)),
    )

pub inside_iff_holds : (c : ChipData) → IsSound c → (block : ℕ) (path : List ℕ) → block < c.scopes → HasParent c path → IsTrue (is_inside (path_at c block) path) ↔ Holds c block path
inside_iff_holds c s block path lt parent = (
  λ h. holds_up (length path) c s block path lt (omega arith) parent (goes (path_at c block) path h),
  λ (chain, leads).
      let (rest, is) = goes_down c block chain path leads in
      ap (λ (l : List ℕ). is_inside (path_at c block) l) is ∙ is_inside-append (path_at c block) rest,
)

pub within_item : (c : ChipData) → IsSound c → (item : Item) (block : ℕ) (result : Bool) → HasItem c item → block < c.blocks → result ≡ is_inside (path_at c block) (path_of_item c item)
    → IsTrue result ↔ Holds c block (path_of_item c item)
within_item c s item block result has lt is =
    let scope : block < c.scopes = omega (arith, s.scopes) in
    let place : place_of c item < length c.paths = place_there item has in
    let P : Bool → Type 0 = λ b. IsTrue b ↔ Holds c block (path_of_item c item) in
    subst P (sym is) (inside_iff_holds c s block (path_of_item c item) scope (s.parents (place_of c item) place))
  where
    place_there : (item : Item) → HasItem c item → place_of c item < length c.paths
    place_there (Reg n) has = omega (arith, s.paths)
    place_there (Mem n) has = omega (arith, s.paths)

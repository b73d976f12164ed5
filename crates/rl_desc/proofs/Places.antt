-- The number of an element, from what a look-up answers.
use Rattle.std.proofs.Common.{◌≡◌, ℕ, ◌+◌, ◌<◌, ◌≤◌, Bool, true, false, List, [], length, get_or, take, drop, Option, Some, None, option_map, refl, sym, ap, ◌∙◌, inl, inr, arith}
use Rattle.std.specs.Prelude.{◌↔◌, nat_lt, ◌==◌, position, bytes_eq, slice_get}
use Rattle.std.specs.List.{position_or_len}
use Rattle.std.proofs.lemmas.Bool.{cases_Bool, false≢true}
use Rattle.std.proofs.lemmas.Bool.Decides.{nat_tests}
use Rattle.std.proofs.lemmas.List.{get_or-take, get_or-drop, length-take, length-drop}
use Rattle.std.proofs.lemmas.List.Sums.{passes_at_first, fails_before_first, position_or_len_is}
use Rattle.std.proofs.lemmas.Option.{none-some, same_Some, slice_get_within, slice_get-get_or, get_or_from_slice_get}
use Rattle.std.proofs.lemmas.Slice.Eq.{bytes_eq-Decides}
use Rattle.rl_policy.specs.declared.policy.Policy.TheVariants.{Ro}
use Rattle.rl_model.specs.Rows.{ChipData, FieldSeen}
use Rattle.rl_model.specs.Chip.{field_path}
use Rattle.rl_map.specs.Layout.{LayoutData, port_at, no_port}
use Rattle.rl_desc.specs.Flaws.{field_at, text_at, port_of_map}

none_is : (r : Option ℕ) → ((n : ℕ) → r ≡ Some n → ⊥) → r ≡ None
none_is None h = refl
none_is (Some n) h = absurd (h n refl)

-- the first that passes is the one that was found, and none passes where none was
number_is : {X : Type 0} (d : X) (p : X → Bool) (xs : List X) (r : Option ℕ)
    → ((n : ℕ) (x : X) → slice_get xs n ≡ Some x → p x ≡ true → r ≡ Some n)
    → ((n : ℕ) → r ≡ Some n → (x : X) × (slice_get xs n ≡ Some x) × (p x ≡ true))
    → r ≡ position p xs
number_is d p xs r there here =
    elim (cases_Bool (nat_lt (position_or_len p xs) (length xs))) [
      | inl e ↦
          let lt : position_or_len p xs < length xs = grind (arith, nat_tests) in
          rw e (there (position_or_len p xs) (get_or xs (position_or_len p xs) d) (slice_get-get_or xs (position_or_len p xs) d lt) (passes_at_first p xs d lt))
      | inr e ↦
          let past : length xs ≤ position_or_len p xs = grind (arith, nat_tests) in
          rw e (none_is r (λ n is.
          let (x, at, sure) = here n is in
          let within = slice_get_within xs n x at in
          let missed : p (get_or xs n x) ≡ false = fails_before_first p xs n x (omega arith) in
          false≢true (sym missed ∙ (ap p (get_or_from_slice_get xs n x x at) ∙ sure))))
    ]

mapped : {X : Type 0} (f : X → List ℕ) (path : List ℕ) (o : Option X) → option_map f o ≡ Some path
    → (x : X) × (o ≡ Some x) × (bytes_eq (f x) path ≡ true)
mapped f path None h = absurd (none-some path h)
mapped f path (Some x) h = (x, refl, (bytes_eq-Decides (f x) path).1 (same_Some (f x) path h))

no_field : FieldSeen
no_field = record {
  shape = record { reg = 0; lsb = 0; width = 0; policy = Ro; volatile = false; compare = false; alone = false };
  name = [];
  resets = [];
}

pub field_is : (chip : ChipData) (path : List ℕ) (r : Option ℕ)
    → ((n : ℕ) → (r ≡ Some n) ↔ (option_map (field_path chip) (slice_get chip.fields n) ≡ Some path)) → r ≡ field_at chip path
field_is chip path r iff =
    number_is no_field (λ f. bytes_eq (field_path chip f) path) chip.fields r
    (λ n f at is. (iff n).1 (rw at (ap (λ (s : List ℕ). Some s) ((bytes_eq-Decides (field_path chip f) path).0 is))))
    (λ n e. mapped (field_path chip) path (slice_get chip.fields n) ((iff n).0 e))

pub text_is : (text : List ℕ) (texts : List (List ℕ)) (r : Option ℕ) → ((n : ℕ) → (r ≡ Some n) ↔ (slice_get texts n ≡ Some text))
    → r ≡ text_at text texts
text_is text texts r iff =
    number_is [] (λ t. bytes_eq t text) texts r
    (λ n t at is. (iff n).1 (at ∙ ap (λ (s : List ℕ). Some s) ((bytes_eq-Decides t text).0 is)))
    (λ n e. (text, (iff n).0 e, (bytes_eq-Decides text text).1 refl))

part_at : (texts : List (List ℕ)) (from count n : ℕ) (d : List ℕ) → n < count → get_or (take count (drop from texts)) n d ≡ get_or texts (from + n) d
part_at texts from count n d lt = get_or-take count (drop from texts) n d lt ∙ get_or-drop from texts n d

part_out : (text : List ℕ) (texts : List (List ℕ)) (from count n : ℕ) → (n < count) × (slice_get texts (from + n) ≡ Some text)
    → slice_get (take count (drop from texts)) n ≡ Some text
part_out text texts from count n (lt, at) =
    let part : List (List ℕ) = take count (drop from texts) in
    let within : from + n < length texts = slice_get_within texts (from + n) text at in
    let inside : n < length part = omega (arith, length-take count (drop from texts), length-drop from texts) in
    slice_get-get_or part n text inside
    ∙ ap (λ (s : List ℕ). Some s) (part_at texts from count n text lt ∙ get_or_from_slice_get texts (from + n) text text at)

part_in : (text : List ℕ) (texts : List (List ℕ)) (from count n : ℕ) → slice_get (take count (drop from texts)) n ≡ Some text
    → (n < count) × (slice_get texts (from + n) ≡ Some text)
part_in text texts from count n at =
    let part : List (List ℕ) = take count (drop from texts) in
    let inside : n < length part = slice_get_within part n text at in
    let lt : n < count = omega (arith, length-take count (drop from texts)) in
    let within : from + n < length texts = omega (arith, length-take count (drop from texts), length-drop from texts) in (
      lt,
      slice_get-get_or texts (from + n) text within
          ∙ ap (λ (s : List ℕ). Some s) (sym (part_at texts from count n text lt) ∙ get_or_from_slice_get part n text text at),
    )

-- a text among `count` texts from `from` on
pub part_is : (text : List ℕ) (texts : List (List ℕ)) (from count : ℕ) (r : Option ℕ)
    → ((n : ℕ) → (r ≡ Some n) ↔ ((n < count) × (slice_get texts (from + n) ≡ Some text))) → r ≡ text_at text (take count (drop from texts))
part_is text texts from count r iff =
    text_is text (take count (drop from texts)) r
    (λ n. (λ e. part_out text texts from count n ((iff n).0 e), λ at. (iff n).1 (part_in text texts from count n at)))

pub port_is : (layout : LayoutData) (map port : ℕ) → port < length layout.ports
    → ((k : ℕ) → k < port → ((port_at layout k).map == map) ≡ false) → ((port_at layout port).map == map) ≡ true
    → Some port ≡ port_of_map layout map
port_is layout map port lt before here =
    let first : position_or_len (λ p. p.map == map) layout.ports ≡ port =
    position_or_len_is (λ p. p.map == map) layout.ports port no_port (omega arith) before (λ _. here) in
    let sure : nat_lt port (length layout.ports) ≡ true = grind (arith, nat_tests) in
    rw (first, sure)

pub port_none : (layout : LayoutData) (map : ℕ) → ((k : ℕ) → k < length layout.ports → ((port_at layout k).map == map) ≡ false)
    → None ≡ port_of_map layout map
port_none layout map none =
    let first : position_or_len (λ p. p.map == map) layout.ports ≡ length layout.ports =
    position_or_len_is (λ p. p.map == map) layout.ports (length layout.ports) no_port (omega arith) none (λ h. absurd (omega arith)) in
    let past : nat_lt (length layout.ports) (length layout.ports) ≡ false = grind (arith, nat_tests) in
    rw (first, past)

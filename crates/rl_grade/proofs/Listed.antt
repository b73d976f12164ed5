-- Each flaw of the lists is one of the description.
use Rattle.std.proofs.Common.{◌≡◌, ℕ, ◌^◌, ◌<◌, ◌≤◌, zero, suc, Bool, true, false, not, if◌then◌else◌, List, [], ◌∷◌}
use Rattle.std.proofs.Common.{◌++◌, length, map, filter, All, Option, Some, None, Result, Ok, Err, refl, sym, ap, subst, arith}
use Rattle.std.specs.Prelude.{IfOk, bit_xor, bytes_eq, option_map, option_and_then, slice_get, unwrap_or, nat_lt}
use Rattle.std.specs.List.{range_with_len}
use Rattle.std.proofs.lemmas.List.FromFn.{length-range_with_len, get_or-range_with_len}
use Rattle.std.proofs.lemmas.List.Elements.{All-append, All-cons, All-map, All-nil, All-weaker}
use Rattle.std.proofs.lemmas.Nat.{xor_lt, pow_below}
use Rattle.rl_policy.specs.declared.policy.Policy.{Policy}
use Rattle.rl_policy.specs.Names.{name_of}
use Rattle.rl_model.specs.declared.rows.Item.{Item}
use Rattle.rl_model.specs.Chip.{HasItem, IsSound, value_for}
use Rattle.rl_model.specs.Rows.{ChipData, FieldSeen}
use Rattle.rl_model.proofs.ChipLaws.{value_below}
use Rattle.rl_map.specs.Layout.{LayoutData, IsSound as IsSoundLayout, place_at}
use Rattle.rl_bus.specs.declared.table.WordRow.{WordRow}
use Rattle.rl_flaw.specs.declared.flaw.Flaw.{Flaw}
use Rattle.rl_flaw.specs.declared.flaw.Flaw.TheVariants.{Deaf, ErrorNth, ErrorRange, OtherPolicy, OtherReset, Stuck}
use Rattle.rl_flaw.specs.Flaws.{IsFlawOf, width_of}
use Rattle.rl_bench.specs.Beats.{no_word}
use Rattle.rl_desc.specs.Flaws.{reset_value}
use Rattle.rl_grade.specs.Flaws.{field_flaws, is_own, item_flaws, own_addresses, policies_beside, policy_of, row_at, session_flaws, stuck_bits, wrong_by, wrong_resets}

-- each number below n
in_range : (n : ℕ) → All (λ b. b < n) (range_with_len 0 n)
in_range n = λ k d low. let few : k < n = subst (λ m. k < m) (length-range_with_len 0 n) low in
    subst (λ m. m < n) (sym (get_or-range_with_len 0 n k d few)) (omega (arith, few))

pub each_below : (P : Flaw → Type 0) (f : ℕ → Flaw) (n : ℕ) → ((b : ℕ) → b < n → P (f b)) → All P (map f (range_with_len 0 n))
each_below P f n h =
    All-map P f (range_with_len 0 n) (All-weaker (λ b. b < n) (λ b. P (f b)) h (range_with_len 0 n) (in_range n))

module _ (c : ChipData) (chip : IsSound c) (l : LayoutData) where
  stuck_are : (f : ℕ) (v : Bool) → f < length c.fields → All (IsFlawOf c l) (stuck_bits f (width_of c f) v)
  stuck_are f v inside = each_below (IsFlawOf c l) (λ b. Stuck f b v) (width_of c f) (λ b low. (inside, low))

  wrong_are : (f k : ℕ) (o : Option ℕ) → f < length c.fields → k < length c.kinds
      → ((v : ℕ) → o ≡ Some v → v < 2 ^ width_of c f) → All (IsFlawOf c l) (wrong_by f (width_of c f) k o)
  wrong_are f k None inside kind fits = All-nil (IsFlawOf c l)
  wrong_are f k (Some v) inside kind fits =
      each_below (IsFlawOf c l) (λ b. OtherReset f k (bit_xor v (2 ^ b))) (width_of c f)
      (λ b low. (inside, kind, xor_lt (width_of c f) v (2 ^ b) (fits v refl) (pow_below b (width_of c f) low)))

  resets_are : (f kinds : ℕ) → f < length c.fields → kinds ≤ length c.kinds
      → ((k v : ℕ) → reset_value c f k ≡ Some v → v < 2 ^ width_of c f)
      → All (IsFlawOf c l) (wrong_resets c f (width_of c f) kinds)
  resets_are f zero inside few fits = All-nil (IsFlawOf c l)
  resets_are f (suc kinds) inside few fits =
      All-append (IsFlawOf c l) (wrong_resets c f (width_of c f) kinds) (wrong_by f (width_of c f) kinds (reset_value c f kinds))
      (resets_are f kinds inside (omega arith) fits)
      (wrong_are f kinds (reset_value c f kinds) inside (omega arith) (fits kinds))

  policies_are : (f : ℕ) (o : Option Policy) (policies : List Policy) → f < length c.fields
      → All (IsFlawOf c l) (policies_beside f o policies)
  policies_are f None policies inside = All-nil (IsFlawOf c l)
  policies_are f (Some own) policies inside =
      All-map (IsFlawOf c l) (OtherPolicy f) (filter (λ p. not (bytes_eq (name_of p) (name_of own))) policies)
      (λ k d low. inside)

  value_fits : (f k v : ℕ) → reset_value c f k ≡ Some v → v < 2 ^ width_of c f
  value_fits f k v is = by (slice_get c.fields f) refl is
    where
      by : (o : Option FieldSeen) → slice_get c.fields f ≡ o → option_and_then (λ x. value_for k x.resets) o ≡ Some v
          → v < 2 ^ unwrap_or (option_map (λ s. s.shape.width) o) 0
      by None at e = absurd cc
      by (Some x) at e = value_below c chip f x k v at e

  pub field_flaws_are : (f : ℕ) (policies : List Policy) → f < length c.fields → All (IsFlawOf c l) (field_flaws c f policies)
  field_flaws_are f policies inside =
      let width = width_of c f in
      let resets = wrong_resets c f width (length c.kinds) in
      let others = policies_beside f (policy_of c f) policies in
      All-append (IsFlawOf c l) (stuck_bits f width false ++ stuck_bits f width true ++ resets) others
      (All-append (IsFlawOf c l) (stuck_bits f width false ++ stuck_bits f width true) resets
      (All-append (IsFlawOf c l) (stuck_bits f width false) (stuck_bits f width true) (stuck_are f false inside) (stuck_are f true inside))
      (resets_are f (length c.kinds) inside (omega arith) (value_fits f)))
      (policies_are f (policy_of c f) policies inside)

  address_if : (b : Bool) (r : WordRow) → r.port < length l.ports
      → All (IsFlawOf c l) (if b then ErrorRange r.port r.address r.address ∷ [] else [])
  address_if true r inside =
      All-cons (IsFlawOf c l) (ErrorRange r.port r.address r.address) [] inside (All-nil (IsFlawOf c l))
  address_if false r inside = All-nil (IsFlawOf c l)

  addresses_are : (layout : IsSoundLayout l) (i : Item) (words : ℕ) → words ≤ length l.rows
      → All (IsFlawOf c l) (own_addresses c l.rows i words)
  addresses_are layout i zero few = All-nil (IsFlawOf c l)
  addresses_are layout i (suc k) few =
      let here = layout.each_row k no_word (omega arith) in
      let port : (row_at l.rows k).port ≡ (place_at l (row_at l.rows k).place).port = ap (λ (r : WordRow). r.port) here.row in
      let inside : (row_at l.rows k).port < length l.ports =
      subst (λ p. p < length l.ports) (sym port) (layout.each_place (row_at l.rows k).place here.location.place_in).port_in in
      All-append (IsFlawOf c l) (own_addresses c l.rows i k)
      (if is_own c l.rows k i then ErrorRange (row_at l.rows k).port (row_at l.rows k).address (row_at l.rows k).address ∷ [] else [])
      (addresses_are layout i k (omega arith)) (address_if (is_own c l.rows k i) (row_at l.rows k) inside)

  pub item_flaws_are : IsSoundLayout l → (i : Item) → HasItem c i → All (IsFlawOf c l) (item_flaws c l i)
  item_flaws_are layout i inside =
      All-cons (IsFlawOf c l) (Deaf i) (own_addresses c l.rows i (length l.rows)) inside
      (addresses_are layout i (length l.rows) (omega arith))

  nth_if : (b : Bool) (n : ℕ) → All (IsFlawOf c l) (if b then ErrorNth n ∷ [] else [])
  nth_if true n = All-cons (IsFlawOf c l) (ErrorNth n) [] tt (All-nil (IsFlawOf c l))
  nth_if false n = All-nil (IsFlawOf c l)

  pub session_flaws_are : (items : ℕ) → All (IsFlawOf c l) (session_flaws items)
  session_flaws_are items =
      All-append (IsFlawOf c l) (if nat_lt 0 items then ErrorNth 1 ∷ [] else [])
      (if nat_lt 1 items then ErrorNth items ∷ [] else []) (nth_if (nat_lt 0 items) 1) (nth_if (nat_lt 1 items) items)

-- what holds of a list holds of what an answer has of it
pub each_of : {X E : Type 0} (r : Result X E) (items : X → List Flaw) (P : List Flaw → Type 0) (list : List Flaw)
    → IfOk r (λ x. items x ≡ list) → P list → IfOk r (λ x. P (items x))
each_of (Ok x) items P list is h = subst P (sym is) h
each_of (Err e) items P list is h = tt

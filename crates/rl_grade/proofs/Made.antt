-- Each flaw of a place's list is a single one of it.
use Rattle.std.proofs.Common.{◌≡◌, ℕ, ◌^◌, ◌<◌, ◌≤◌, zero, suc, Bool, true, false, not, if◌then◌else◌, inl, inr, List, [], ◌∷◌, ◌++◌, length, filter, All, Option, Some, None, refl, sym, subst, arith}
use Rattle.std.specs.Prelude.{bit_xor, bytes_eq, nat_lt}
use Rattle.std.proofs.lemmas.Bool.{ltb-true}
use Rattle.std.proofs.lemmas.List.Elements.{All-append, All-cons, All-map, All-nil, All-weaker, filter_passes}
use Rattle.rl_policy.specs.declared.policy.Policy.{Policy}
use Rattle.rl_policy.specs.Names.{name_of}
use Rattle.rl_model.specs.declared.rows.Item.{Item}
use Rattle.rl_flaw.specs.declared.flaw.Flaw.{Flaw}
use Rattle.rl_flaw.specs.declared.flaw.Flaw.TheVariants.{Deaf, ErrorNth, ErrorRange, OtherPolicy, OtherReset, Stuck}
use Rattle.rl_flaw.specs.Flaws.{width_of}
use Rattle.rl_desc.specs.Data.{DescData}
use Rattle.rl_desc.specs.Flaws.{reset_value}
use Rattle.rl_policy.specs.declared.policy.TheConstants.{POLICIES}
use Rattle.rl_grade.specs.declared.place.Place.{Place}
use Rattle.rl_grade.specs.declared.place.Place.TheVariants.{OfItem, OfField, OfSession}
use Rattle.rl_grade.specs.Flaws.{is_own, own_addresses, policies_beside, policy_of, row_at, stuck_bits, wrong_by, wrong_resets}
use Rattle.rl_grade.specs.Place.{flaws_at}
use Rattle.rl_grade.specs.Single.{IsOtherThan, IsSingleAt, IsWrongIn}
use Rattle.rl_grade.proofs.Listed.{each_below}

isnt : (b : Bool) → not b ≡ true → b ≡ false
isnt true e = absurd cc
isnt false e = refl

others : (own : Policy) (ps : List Policy) → All (IsOtherThan (Some own)) (filter (λ p. not (bytes_eq (name_of p) (name_of own))) ps)
others own ps =
    All-weaker (λ p. not (bytes_eq (name_of p) (name_of own)) ≡ true) (IsOtherThan (Some own))
    (λ p is. isnt (bytes_eq (name_of p) (name_of own)) is) (filter (λ p. not (bytes_eq (name_of p) (name_of own))) ps)
    (filter_passes (λ p. not (bytes_eq (name_of p) (name_of own))) ps)

module _ (d : DescData) (items f : ℕ) where
  abbrev Is : Flaw → Type 0
  Is = IsSingleAt d items (OfField f)

  abbrev width : ℕ
  width = width_of d.chip f

  stuck_single : (v : Bool) → All Is (stuck_bits f width v)
  stuck_single v = each_below Is (λ b. Stuck f b v) width (λ b low. (refl, low))

  wrong_single : (k : ℕ) (o : Option ℕ) → k < length d.chip.kinds → reset_value d.chip f k ≡ o → All Is (wrong_by f width k o)
  wrong_single k None kind is = All-nil Is
  wrong_single k (Some v) kind is =
      each_below Is (λ b. OtherReset f k (bit_xor v (2 ^ b))) width
      (λ b low. (refl, kind, subst (λ o. IsWrongIn width o (bit_xor v (2 ^ b))) (sym is) (b, low, refl)))

  resets_single : (kinds : ℕ) → kinds ≤ length d.chip.kinds → All Is (wrong_resets d.chip f width kinds)
  resets_single zero few = All-nil Is
  resets_single (suc kinds) few =
      All-append Is (wrong_resets d.chip f width kinds) (wrong_by f width kinds (reset_value d.chip f kinds))
      (resets_single kinds (omega arith)) (wrong_single kinds (reset_value d.chip f kinds) (omega arith) refl)

  policies_single : (o : Option Policy) (ps : List Policy) → policy_of d.chip f ≡ o → All Is (policies_beside f o ps)
  policies_single None ps is = All-nil Is
  policies_single (Some own) ps is =
      let left = filter (λ p. not (bytes_eq (name_of p) (name_of own))) ps in
      All-map Is (OtherPolicy f) left
      (All-weaker (IsOtherThan (Some own)) (λ p. Is (OtherPolicy f p)) (λ p other. (refl, subst (λ o. IsOtherThan o p) (sym is) other)) left
      (others own ps))

  field_single : All Is (flaws_at d items (OfField f))
  field_single =
      let resets = wrong_resets d.chip f width (length d.chip.kinds) in
      let beside = policies_beside f (policy_of d.chip f) POLICIES in
      All-append Is (stuck_bits f width false ++ stuck_bits f width true ++ resets) beside
      (All-append Is (stuck_bits f width false ++ stuck_bits f width true) resets
      (All-append Is (stuck_bits f width false) (stuck_bits f width true) (stuck_single false) (stuck_single true))
      (resets_single (length d.chip.kinds) (omega arith)))
      (policies_single (policy_of d.chip f) POLICIES refl)

module _ (d : DescData) (items : ℕ) (i : Item) where
  abbrev IsAt : Flaw → Type 0
  IsAt = IsSingleAt d items (OfItem i)

  abbrev address : ℕ → Flaw
  address k = ErrorRange (row_at d.layout.rows k).port (row_at d.layout.rows k).address (row_at d.layout.rows k).address

  address_single : (k : ℕ) (b : Bool) → k < length d.layout.rows → is_own d.chip d.layout.rows k i ≡ b
      → All IsAt (if b then address k ∷ [] else [])
  address_single k true low own = All-cons IsAt (address k) [] (refl, (k, low, own, refl, refl)) (All-nil IsAt)
  address_single k false low own = All-nil IsAt

  addresses_single : (words : ℕ) → words ≤ length d.layout.rows → All IsAt (own_addresses d.chip d.layout.rows i words)
  addresses_single zero few = All-nil IsAt
  addresses_single (suc k) few =
      All-append IsAt (own_addresses d.chip d.layout.rows i k) (if is_own d.chip d.layout.rows k i then address k ∷ [] else [])
      (addresses_single k (omega arith)) (address_single k (is_own d.chip d.layout.rows k i) (omega arith) refl)

  item_single : All IsAt (flaws_at d items (OfItem i))
  item_single =
      All-cons IsAt (Deaf i) (own_addresses d.chip d.layout.rows i (length d.layout.rows)) refl
      (addresses_single (length d.layout.rows) (omega arith))

module _ (d : DescData) (items : ℕ) where
  abbrev IsOf : Flaw → Type 0
  IsOf = IsSingleAt d items OfSession

  first_single : (b : Bool) → nat_lt 0 items ≡ b → All IsOf (if b then ErrorNth 1 ∷ [] else [])
  first_single true is = All-cons IsOf (ErrorNth 1) [] (ltb-true 0 items is, inl refl) (All-nil IsOf)
  first_single false is = All-nil IsOf

  last_single : (b : Bool) → nat_lt 1 items ≡ b → All IsOf (if b then ErrorNth items ∷ [] else [])
  last_single true is =
      let many : 1 < items = ltb-true 1 items is in
      All-cons IsOf (ErrorNth items) [] (omega (arith, many), inr refl) (All-nil IsOf)
  last_single false is = All-nil IsOf

  session_single : All IsOf (flaws_at d items OfSession)
  session_single =
      All-append IsOf (if nat_lt 0 items then ErrorNth 1 ∷ [] else []) (if nat_lt 1 items then ErrorNth items ∷ [] else [])
      (first_single (nat_lt 0 items) refl) (last_single (nat_lt 1 items) refl)

pub none_made_up : (d : DescData) (items : ℕ) (place : Place) → All (IsSingleAt d items place) (flaws_at d items place)
none_made_up d items (OfField f) = field_single d items f
none_made_up d items (OfItem i) = item_single d items i
none_made_up d items OfSession = session_single d items

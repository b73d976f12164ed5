-- No flaw stands twice.
use Rattle.std.proofs.Common.{◌≡◌, ◌≢◌, ◌⊎◌, inl, inr, ℕ, ◌+◌, ◌^◌, ◌<◌, ◌≤◌, zero, suc, Bool, true, false, not, if◌then◌else◌, ◌&&◌, ◌==◌}
use Rattle.std.proofs.Common.{List, [], ◌∷◌, ◌++◌, length, map, filter, take, All, Option, Some, None, refl, sym, ap, subst, ◌∙◌, arith, get_or-take, length-take}
use Rattle.std.specs.Prelude.{AllPairs, Contains, bit_xor, bytes_eq, nat_lt}
use Rattle.std.specs.List.{list_any, range_with_len}
use Rattle.std.specs.Int.{bit_at}
use Rattle.std.proofs.lemmas.Bool.{cases_eq, cases_lt, eq-eqb, eqb-true, ltb-true}
use Rattle.std.proofs.lemmas.List.Elements.{All-append, All-cons, All-filter, All-map, All-nil, All-weaker}
use Rattle.std.proofs.lemmas.List.Folds.{list_any_at}
use Rattle.std.proofs.lemmas.List.Kept.{AllPairs-cons}
use Rattle.std.proofs.lemmas.Nat.Bits.{bit_at-pow_same, bit_at-pow_other, bit_at_xor, bit_at-lt}
use Rattle.rl_policy.specs.declared.policy.Policy.{Policy}
use Rattle.rl_policy.specs.declared.policy.Policy.TheVariants.{Ro, Rw, Rc, Rs, Wrc, Wrs, Wc, Ws, Wsrc, Wcrs, W1c, W1s, W1t, W0c, W0s, W0t, W1src, W1crs, W0src, W0crs, Wo, Woc, Wos, W1, Wo1}
use Rattle.rl_policy.specs.Names.{name_of}
use Rattle.rl_model.specs.declared.rows.Item.{Item}
use Rattle.rl_model.specs.declared.rows.Item.TheVariants as item
use Rattle.rl_model.specs.Rows.{ChipData}
use Rattle.rl_bus.specs.declared.table.Cell.{Cell}
use Rattle.rl_bus.specs.declared.table.Cell.TheVariants.{Reg, Loc}
use Rattle.rl_bus.specs.declared.table.WordRow.{WordRow}
use Rattle.rl_bench.specs.Beats.{no_word}
use Rattle.rl_flaw.specs.declared.flaw.Flaw.{Flaw}
use Rattle.rl_flaw.specs.declared.flaw.Flaw.TheVariants.{Deaf, ErrorNth, ErrorRange, OtherPolicy, OtherReset, Stuck}
use Rattle.rl_flaw.specs.Flaws.{width_of}
use Rattle.rl_desc.specs.Data.{DescData}
use Rattle.rl_desc.specs.Flaws.{reset_value}
use Rattle.rl_policy.specs.declared.policy.TheConstants.{POLICIES}
use Rattle.rl_grade.specs.declared.place.Place.{Place}
use Rattle.rl_grade.specs.declared.place.Place.TheVariants.{OfItem, OfField, OfSession}
use Rattle.rl_grade.specs.Flaws.{is_of, is_own, is_tried, is_tried_with, own_addresses, policies_beside, policy_of, row_at, stuck_bits, wrong_by, wrong_resets}
use Rattle.rl_grade.specs.Place.{flaws_at}
use Rattle.rl_grade.specs.Single.{HasAddress, IsSingleAt, NoneStandsTwice, PlacesAreApart}
use Rattle.rl_grade.proofs.Made.{none_made_up}

-- ---- lists of which no two elements are the same

abbrev pub Apart : {X : Type 0} → List X → Type 0
Apart [] = Unit {0}
Apart (x ∷ xs) = All (λ y. x ≢ y) xs × Apart xs

pub apart_pairs : {X : Type 0} (xs : List X) → Apart xs → AllPairs (λ x y. x ≢ y) xs
apart_pairs [] h = λ i j d low high. absurd (omega arith)
apart_pairs (x ∷ xs) h = AllPairs-cons (λ x y. x ≢ y) x xs h.0 (apart_pairs xs h.1)

-- of two lists that have nothing in common, by what holds of the elements of each
pub apart_append : {X : Type 0} (P Q : X → Type 0) → ((x y : X) → P x → Q y → x ≢ y) → (xs ys : List X) → All P xs → All Q ys
    → Apart xs → Apart ys → Apart (xs ++ ys)
apart_append P Q other [] ys p q a b = b
apart_append P Q other (x ∷ xs) ys p q a b = (
  All-append (λ y. x ≢ y) xs ys a.0 (All-weaker Q (λ y. x ≢ y) (λ y has. other x y (p 0 x (omega arith)) has) ys q),
  apart_append P Q other xs ys (λ k d low. p (suc k) d (omega (arith, low))) q a.1 b,
)

pub apart_map : {X Y : Type 0} (f : X → Y) → ((a b : X) → f a ≡ f b → a ≡ b) → (xs : List X) → Apart xs → Apart (map f xs)
apart_map f one [] h = tt
apart_map f one (x ∷ xs) h = (
  All-map (λ y. f x ≢ y) f xs (All-weaker (λ y. x ≢ y) (λ y. f x ≢ f y) (λ y other same. other (one x y same)) xs h.0),
  apart_map f one xs h.1,
)

apart_filter : {X : Type 0} (test : X → Bool) (xs : List X) → Apart xs → Apart (filter test xs)
apart_filter test [] h = tt
apart_filter test (x ∷ xs) h = by (test x) (apart_filter test xs h.1)
  where
    by : (b : Bool) → Apart (filter test xs) → Apart (if b then x ∷ filter test xs else filter test xs)
    by true rest = (All-filter test (λ y. x ≢ y) xs h.0, rest)
    by false rest = rest

from_on : (a n : ℕ) → All (λ y. a ≤ y) (range_with_len a n)
from_on a zero = All-nil (λ y. a ≤ y)
from_on a (suc n) =
    All-cons (λ y. a ≤ y) a (range_with_len (a + 1) n) (omega arith)
    (All-weaker (λ y. a + 1 ≤ y) (λ y. a ≤ y) (λ y low. omega (arith, low)) (range_with_len (a + 1) n) (from_on (a + 1) n))

pub apart_range : (a n : ℕ) → Apart (range_with_len a n)
apart_range a zero = tt
apart_range a (suc n) = (
  All-weaker (λ y. a + 1 ≤ y) (λ y. a ≢ y) (λ y low same. omega (arith, low, same)) (range_with_len (a + 1) n) (from_on (a + 1) n),
  apart_range (a + 1) n,
)

-- ---- of a field

xor_one : (v a b : ℕ) → bit_xor v (2 ^ a) ≡ bit_xor v (2 ^ b) → a ≡ b
xor_one v a b same = elim (cases_eq a b) [
  | inl is ↦ is
  | inr other ↦
      let x = bit_at_xor v (2 ^ a) a in
      let y = bit_at_xor v (2 ^ b) a in
      let s = bit_at-pow_same a in
      let t = bit_at-pow_other b a other in
      let e = ap (λ n. bit_at n a) same in
      let low = bit_at-lt v a in
      absurd (omega (arith, x, y, s, t, e, low))
]

-- the number of a policy
abbrev number_of : Policy → ℕ
number_of Ro = 0
number_of Rw = 1
number_of Rc = 2
number_of Rs = 3
number_of Wrc = 4
number_of Wrs = 5
number_of Wc = 6
number_of Ws = 7
number_of Wsrc = 8
number_of Wcrs = 9
number_of W1c = 10
number_of W1s = 11
number_of W1t = 12
number_of W0c = 13
number_of W0s = 14
number_of W0t = 15
number_of W1src = 16
number_of W1crs = 17
number_of W0src = 18
number_of W0crs = 19
number_of Wo = 20
number_of Woc = 21
number_of Wos = 22
number_of W1 = 23
number_of Wo1 = 24

all_by : (p : Policy) (ps : List Policy) → All (λ n. number_of p ≢ n) (map number_of ps) → All (λ q. p ≢ q) ps
all_by p [] h = All-nil (λ q. p ≢ q)
all_by p (q ∷ ps) h =
    All-cons (λ q. p ≢ q) q ps (λ same. h 0 (number_of q) (omega arith) (ap number_of same))
    (all_by p ps (λ k d low. h (suc k) d (omega (arith, low))))

apart_by_number : (ps : List Policy) → Apart (map number_of ps) → Apart ps
apart_by_number [] h = tt
apart_by_number (p ∷ ps) h = (all_by p ps h.0, apart_by_number ps h.1)

policies_apart : Apart POLICIES
policies_apart = apart_by_number POLICIES (apart_range 0 25)

module _ (c : ChipData) (f width : ℕ) where
  abbrev IsStuck : Bool → Flaw → Type 0
  IsStuck v flaw = (b : ℕ) × (flaw ≡ Stuck f b v)

  abbrev IsWrong : ℕ → Flaw → Type 0
  IsWrong kinds flaw = (k : ℕ) × (v : ℕ) × (k < kinds) × (flaw ≡ OtherReset f k v)

  abbrev IsOther : Flaw → Type 0
  IsOther flaw = (p : Policy) × (flaw ≡ OtherPolicy f p)

  stuck_are : (v : Bool) → All (IsStuck v) (stuck_bits f width v)
  stuck_are v = All-map (IsStuck v) (λ b. Stuck f b v) (range_with_len 0 width)
      (All-weaker (λ b. 0 ≤ b) (λ b. IsStuck v (Stuck f b v)) (λ b low. (b, refl)) (range_with_len 0 width) (from_on 0 width))

  stuck_apart : (v : Bool) → Apart (stuck_bits f width v)
  stuck_apart v = apart_map (λ b. Stuck f b v) (λ a b same. cc) (range_with_len 0 width) (apart_range 0 width)

  wrong_are : (k : ℕ) (o : Option ℕ) → All (λ flaw. (v : ℕ) × (flaw ≡ OtherReset f k v)) (wrong_by f width k o)
  wrong_are k None = All-nil (λ flaw. (v : ℕ) × (flaw ≡ OtherReset f k v))
  wrong_are k (Some own) =
      All-map (λ flaw. (v : ℕ) × (flaw ≡ OtherReset f k v)) (λ b. OtherReset f k (bit_xor own (2 ^ b))) (range_with_len 0 width)
      (All-weaker (λ b. 0 ≤ b) (λ b. (v : ℕ) × (OtherReset f k (bit_xor own (2 ^ b)) ≡ OtherReset f k v))
      (λ b low. (bit_xor own (2 ^ b), refl)) (range_with_len 0 width) (from_on 0 width))

  wrong_apart : (k : ℕ) (o : Option ℕ) → Apart (wrong_by f width k o)
  wrong_apart k None = tt
  wrong_apart k (Some own) =
      apart_map (λ b. OtherReset f k (bit_xor own (2 ^ b)))
      (λ a b same. let value : bit_xor own (2 ^ a) ≡ bit_xor own (2 ^ b) = cc in xor_one own a b value)
      (range_with_len 0 width) (apart_range 0 width)

  resets_are : (kinds : ℕ) → All (IsWrong kinds) (wrong_resets c f width kinds)
  resets_are zero = All-nil (IsWrong 0)
  resets_are (suc kinds) =
      All-append (IsWrong (suc kinds)) (wrong_resets c f width kinds) (wrong_by f width kinds (reset_value c f kinds))
      (All-weaker (IsWrong kinds) (IsWrong (suc kinds)) (λ flaw (k, v, low, is). (k, v, omega (arith, low), is)) (wrong_resets c f width kinds)
      (resets_are kinds))
      (All-weaker (λ flaw. (v : ℕ) × (flaw ≡ OtherReset f kinds v)) (IsWrong (suc kinds)) (λ flaw (v, is). (kinds, v, omega arith, is))
      (wrong_by f width kinds (reset_value c f kinds)) (wrong_are kinds (reset_value c f kinds)))

  resets_apart : (kinds : ℕ) → Apart (wrong_resets c f width kinds)
  resets_apart zero = tt
  resets_apart (suc kinds) =
      apart_append (IsWrong kinds) (λ flaw. (v : ℕ) × (flaw ≡ OtherReset f kinds v))
      (λ x y (k, v, low, is) (u, named) same. let kind : k ≡ kinds = cc in omega (arith, low, kind))
      (wrong_resets c f width kinds) (wrong_by f width kinds (reset_value c f kinds))
      (resets_are kinds) (wrong_are kinds (reset_value c f kinds)) (resets_apart kinds) (wrong_apart kinds (reset_value c f kinds))

  others_are : (o : Option Policy) → All IsOther (policies_beside f o POLICIES)
  others_are None = All-nil IsOther
  others_are (Some own) =
      let left = filter (λ p. not (bytes_eq (name_of p) (name_of own))) POLICIES in
      All-map IsOther (OtherPolicy f) left (λ k d low. (_, refl))

  others_apart : (o : Option Policy) → Apart (policies_beside f o POLICIES)
  others_apart None = tt
  others_apart (Some own) =
      apart_map (OtherPolicy f) (λ a b same. cc) (filter (λ p. not (bytes_eq (name_of p) (name_of own))) POLICIES)
      (apart_filter (λ p. not (bytes_eq (name_of p) (name_of own))) POLICIES policies_apart)

  abbrev IsAnyStuck : Flaw → Type 0
  IsAnyStuck flaw = (v : Bool) × IsStuck v flaw

  abbrev IsBefore : Flaw → Type 0
  IsBefore flaw = IsAnyStuck flaw ⊎ IsWrong (length c.kinds) flaw

  either_stuck : All IsAnyStuck (stuck_bits f width false ++ stuck_bits f width true)
  either_stuck =
      All-append IsAnyStuck (stuck_bits f width false) (stuck_bits f width true)
      (All-weaker (IsStuck false) IsAnyStuck (λ flaw is. (false, is)) (stuck_bits f width false) (stuck_are false))
      (All-weaker (IsStuck true) IsAnyStuck (λ flaw is. (true, is)) (stuck_bits f width true) (stuck_are true))

  either_apart : Apart (stuck_bits f width false ++ stuck_bits f width true)
  either_apart =
      apart_append (IsStuck false) (IsStuck true) (λ x y (a, is) (b, named) same. cc)
      (stuck_bits f width false) (stuck_bits f width true) (stuck_are false) (stuck_are true) (stuck_apart false) (stuck_apart true)

  before_are : All IsBefore (stuck_bits f width false ++ stuck_bits f width true ++ wrong_resets c f width (length c.kinds))
  before_are =
      All-append IsBefore (stuck_bits f width false ++ stuck_bits f width true) (wrong_resets c f width (length c.kinds))
      (All-weaker IsAnyStuck IsBefore (λ flaw is. inl is) (stuck_bits f width false ++ stuck_bits f width true) either_stuck)
      (All-weaker (IsWrong (length c.kinds)) IsBefore (λ flaw is. inr is) (wrong_resets c f width (length c.kinds)) (resets_are (length c.kinds)))

  before_apart : Apart (stuck_bits f width false ++ stuck_bits f width true ++ wrong_resets c f width (length c.kinds))
  before_apart =
      apart_append IsAnyStuck (IsWrong (length c.kinds)) (λ x y (v, (b, is)) (k, u, low, named) same. cc)
      (stuck_bits f width false ++ stuck_bits f width true) (wrong_resets c f width (length c.kinds))
      either_stuck (resets_are (length c.kinds)) either_apart (resets_apart (length c.kinds))

  no_policy : (x y : Flaw) → IsBefore x → IsOther y → x ≢ y
  no_policy x y (inl (v, (b, is))) (p, named) same = cc
  no_policy x y (inr (k, u, low, is)) (p, named) same = cc

  field_apart : Apart (stuck_bits f width false ++ stuck_bits f width true ++ wrong_resets c f width (length c.kinds)
      ++ policies_beside f (policy_of c f) POLICIES)
  field_apart =
      apart_append IsBefore IsOther no_policy
      (stuck_bits f width false ++ stuck_bits f width true ++ wrong_resets c f width (length c.kinds))
      (policies_beside f (policy_of c f) POLICIES) before_are (others_are (policy_of c f)) before_apart (others_apart (policy_of c f))

-- ---- of a register or memory

both : (a b : Bool) → (a && b) ≡ true → (a ≡ true) × (b ≡ true)
both true b is = (refl, is)
both false b is = absurd (cc)

no_not : (b : Bool) → not b ≡ true → b ≡ true → ⊥
no_not true is h = cc
no_not false is h = cc

abbrev failing : List WordRow → ℕ → Flaw
failing rows k = ErrorRange (row_at rows k).port (row_at rows k).address (row_at rows k).address

module _ (c : ChipData) (rows : List WordRow) where
  -- of two words at one address that are tried only the first is anybody's own
  never_later : (i j : Item) (k m : ℕ) → k < m → m < length rows → is_own c rows k i ≡ true → is_own c rows m j ≡ true
      → (row_at rows k).port ≡ (row_at rows m).port → (row_at rows k).address ≡ (row_at rows m).address → ⊥
  never_later i j k m less within own other port address =
      let first = both (is_of (row_at rows k).cell i && is_tried c (row_at rows k).cell) _ own in
      let tried = (both (is_of (row_at rows k).cell i) (is_tried c (row_at rows k).cell) first.0).1 in
      let last = both (is_of (row_at rows m).cell j && is_tried c (row_at rows m).cell) _ other in
      let there : k < length (take m rows) = let n = length-take m rows in omega (arith, less, within, n) in
      let same : is_tried_with c (row_at rows m) (row_at rows k) ≡ true =
      all_three _ _ _ (eq-eqb _ _ port) (eq-eqb _ _ address) tried in
      no_not (list_any (is_tried_with c (row_at rows m)) (take m rows)) last.1
      (list_any_at (is_tried_with c (row_at rows m)) (take m rows) k no_word there
      (ap (is_tried_with c (row_at rows m)) (get_or-take m rows k no_word less) ∙ same))
    where
      all_three : (x y z : Bool) → x ≡ true → y ≡ true → z ≡ true → (x && y && z) ≡ true
      all_three x y z a b d = cc

  one_word : (i j : Item) (k m : ℕ) → k < length rows → m < length rows → is_own c rows k i ≡ true → is_own c rows m j ≡ true
      → (row_at rows k).port ≡ (row_at rows m).port → (row_at rows k).address ≡ (row_at rows m).address → k ≡ m
  one_word i j k m low high own other port address = elim (cases_lt k m) [
    | inl less ↦ absurd (never_later i j k m less high own other port address)
    | inr most ↦ elim (cases_lt m k) [
      | inl less ↦ absurd (never_later j i m k less low other own (sym port) (sym address))
      | inr least ↦ omega (arith, most, least)
    ]
  ]

  one_item : (cell : Cell) (i j : Item) → is_of cell i ≡ true → is_of cell j ≡ true → i ≡ j
  one_item (Reg r) (item.Reg a) (item.Reg b) is same = ap item.Reg (sym (eqb-true r a is) ∙ eqb-true r b same)
  one_item (Loc m n) (item.Mem a) (item.Mem b) is same = ap item.Mem (sym (eqb-true m a is) ∙ eqb-true m b same)
  one_item (Reg r) (item.Mem a) j is same = absurd (cc)
  one_item (Reg r) (item.Reg a) (item.Mem b) is same = absurd (cc)
  one_item (Loc m n) (item.Reg a) j is same = absurd (cc)
  one_item (Loc m n) (item.Mem a) (item.Reg b) is same = absurd (cc)

  owner : (i j : Item) (k : ℕ) → is_own c rows k i ≡ true → is_own c rows k j ≡ true → i ≡ j
  owner i j k own other =
      let cell = (row_at rows k).cell in
      one_item cell i j (both (is_of cell i) (is_tried c cell) (both (is_of cell i && is_tried c cell) _ own).0).0
      (both (is_of cell j) (is_tried c cell) (both (is_of cell j && is_tried c cell) _ other).0).0

  module _ (i : Item) where
    -- it is the address of one of the first so many words
    abbrev IsFailing : ℕ → Flaw → Type 0
    IsFailing words flaw = (k : ℕ) × (k < words) × (is_own c rows k i ≡ true) × (flaw ≡ failing rows k)

    abbrev IsLast : ℕ → Flaw → Type 0
    IsLast k flaw = (is_own c rows k i ≡ true) × (flaw ≡ failing rows k)

    last_is : (k : ℕ) (b : Bool) → is_own c rows k i ≡ b → All (IsLast k) (if b then failing rows k ∷ [] else [])
    last_is k true own = All-cons (IsLast k) (failing rows k) [] (own, refl) (All-nil (IsLast k))
    last_is k false own = All-nil (IsLast k)

    last_apart : (k : ℕ) (b : Bool) → Apart (if b then failing rows k ∷ [] else [])
    last_apart k true = (All-nil (λ y. failing rows k ≢ y), tt)
    last_apart k false = tt

    failing_are : (words : ℕ) → All (IsFailing words) (own_addresses c rows i words)
    failing_are zero = All-nil (IsFailing 0)
    failing_are (suc k) =
        All-append (IsFailing (suc k)) (own_addresses c rows i k) (if is_own c rows k i then failing rows k ∷ [] else [])
        (All-weaker (IsFailing k) (IsFailing (suc k)) (λ flaw (m, low, own, is). (m, omega (arith, low), own, is)) (own_addresses c rows i k) (failing_are k))
        (All-weaker (IsLast k) (IsFailing (suc k)) (λ flaw (own, is). (k, omega arith, own, is))
        (if is_own c rows k i then failing rows k ∷ [] else []) (last_is k (is_own c rows k i) refl))

    addresses_apart : (words : ℕ) → words ≤ length rows → Apart (own_addresses c rows i words)
    addresses_apart zero few = tt
    addresses_apart (suc k) few =
        apart_append (IsFailing k) (IsLast k)
        (λ x y (m, low, own, is) (other, named) same.
        let port : (row_at rows m).port ≡ (row_at rows k).port = cc in
        let address : (row_at rows m).address ≡ (row_at rows k).address = cc in
        never_later i i m k low few own other port address)
        (own_addresses c rows i k) (if is_own c rows k i then failing rows k ∷ [] else [])
        (failing_are k) (last_is k (is_own c rows k i) refl) (addresses_apart k (omega (arith, few))) (last_apart k (is_own c rows k i))

    item_apart : Apart (Deaf i ∷ own_addresses c rows i (length rows))
    item_apart = (
      All-weaker (IsFailing (length rows)) (λ y. Deaf i ≢ y) (λ y (k, low, own, is) same. cc) (own_addresses c rows i (length rows))
          (failing_are (length rows)),
      addresses_apart (length rows) (omega arith),
    )

-- ---- of a session

session_apart : (items : ℕ) (a b : Bool) → nat_lt 1 items ≡ b
    → Apart ((if a then ErrorNth 1 ∷ [] else []) ++ (if b then ErrorNth items ∷ [] else []))
session_apart items true true is =
    let many : 1 < items = ltb-true 1 items is in (
      All-cons (λ y. ErrorNth 1 ≢ y) (ErrorNth items) [] (λ same. let one : 1 ≡ items = cc in omega (arith, many, one))
          (All-nil (λ y. ErrorNth 1 ≢ y)),
      (All-nil (λ y. ErrorNth items ≢ y), tt),
    )
session_apart items true false is = (All-nil (λ y. ErrorNth 1 ≢ y), tt)
session_apart items false true is = (All-nil (λ y. ErrorNth items ≢ y), tt)
session_apart items false false is = tt

-- ---- all

pub place_apart : (d : DescData) (items : ℕ) (place : Place) → Apart (flaws_at d items place)
place_apart d items (OfItem i) = item_apart d.chip d.layout.rows i
place_apart d items (OfField f) = field_apart d.chip f (width_of d.chip f)
place_apart d items OfSession = session_apart items (nat_lt 0 items) (nat_lt 1 items) refl

pub none_stands_twice : NoneStandsTwice
none_stands_twice d items place = apart_pairs (flaws_at d items place) (place_apart d items place)

module _ (d : DescData) (items : ℕ) where
  abbrev Is : Place → Flaw → Type 0
  Is = IsSingleAt d items

  -- the place that a flaw tells itself
  stuck_at : (place : Place) (f b : ℕ) (v : Bool) → Is place (Stuck f b v) → place ≡ OfField f
  stuck_at (OfField g) f b v (is, low) = ap OfField (sym is)
  stuck_at (OfItem i) f b v h = absurd h
  stuck_at OfSession f b v h = absurd h

  reset_at : (place : Place) (f k v : ℕ) → Is place (OtherReset f k v) → place ≡ OfField f
  reset_at (OfField g) f k v (is, kind, wrong) = ap OfField (sym is)
  reset_at (OfItem i) f k v h = absurd h
  reset_at OfSession f k v h = absurd h

  policy_at : (place : Place) (f : ℕ) (p : Policy) → Is place (OtherPolicy f p) → place ≡ OfField f
  policy_at (OfField g) f p (is, other) = ap OfField (sym is)
  policy_at (OfItem i) f p h = absurd h
  policy_at OfSession f p h = absurd h

  deaf_at : (place : Place) (i : Item) → Is place (Deaf i) → place ≡ OfItem i
  deaf_at (OfField g) i h = absurd h
  deaf_at (OfItem j) i is = ap OfItem (sym is)
  deaf_at OfSession i h = absurd h

  nth_at : (place : Place) (n : ℕ) → Is place (ErrorNth n) → place ≡ OfSession
  nth_at (OfField g) n h = absurd h
  nth_at (OfItem i) n h = absurd h
  nth_at OfSession n h = refl

  range_at : (place : Place) (port from to : ℕ) → Is place (ErrorRange port from to)
      → (i : Item) × (place ≡ OfItem i) × HasAddress d.chip d.layout.rows i port from
  range_at (OfField g) port from to h = absurd h
  range_at (OfItem i) port from to (is, has) = (i, refl, has)
  range_at OfSession port from to h = absurd h

  one_owner : (i j : Item) (port address : ℕ) → HasAddress d.chip d.layout.rows i port address
      → HasAddress d.chip d.layout.rows j port address → i ≡ j
  one_owner i j port address (k, low, own, at, from) (m, high, other, there, again) =
      let word = one_word d.chip d.layout.rows i j k m low high own other (at ∙ sym there) (from ∙ sym again) in
      owner d.chip d.layout.rows i j k own (subst (λ n. is_own d.chip d.layout.rows n j ≡ true) (sym word) other)

  -- a flaw is a single one of one place alone
  one_place : (place other : Place) (flaw : Flaw) → Is place flaw → Is other flaw → place ≡ other
  one_place place other (Stuck f b v) h k = stuck_at place f b v h ∙ sym (stuck_at other f b v k)
  one_place place other (OtherReset f kind v) h k = reset_at place f kind v h ∙ sym (reset_at other f kind v k)
  one_place place other (OtherPolicy f p) h k = policy_at place f p h ∙ sym (policy_at other f p k)
  one_place place other (Deaf i) h k = deaf_at place i h ∙ sym (deaf_at other i k)
  one_place place other (ErrorNth n) h k = nth_at place n h ∙ sym (nth_at other n k)
  one_place place other (ErrorRange port from to) h k =
      let (i, is, has) = range_at place port from to h in
      let (j, same, again) = range_at other port from to k in
      is ∙ ap OfItem (one_owner i j port from has again) ∙ sym same

pub places_are_apart : PlacesAreApart
places_are_apart d items place other flaw (k, low, is) (m, high, same) =
    one_place d items place other flaw
    (subst (IsSingleAt d items place) is (none_made_up d items place k flaw low))
    (subst (IsSingleAt d items other) same (none_made_up d items other m flaw high))

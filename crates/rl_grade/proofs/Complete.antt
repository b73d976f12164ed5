-- Each single flaw is in its list.
use Rattle.std.proofs.Common.{◌≡◌, ◌⊎◌, inl, inr, ℕ, ◌^◌, ◌<◌, ◌≤◌, zero, suc, Bool, true, false, not, if◌then◌else◌}
use Rattle.std.proofs.Common.{List, [], ◌∷◌, ◌++◌, length, map, filter, Option, Some, None, refl, sym, ap, subst, ◌∙◌, arith}
use Rattle.std.specs.Prelude.{bit_xor, bytes_eq, nat_lt, Contains}
use Rattle.std.specs.List.{range_with_len}
use Rattle.std.proofs.lemmas.Bool.{ltb-true, ltb-false}
use Rattle.std.proofs.lemmas.List.FromFn.{get_or-map-range_with_len, length-map-range_with_len}
use Rattle.std.proofs.lemmas.List.Elements.{Contains-append_left, Contains-append_right}
use Rattle.rl_policy.specs.declared.policy.Policy.{Policy}
use Rattle.rl_policy.specs.declared.policy.Policy.TheVariants.{Ro, Rw, Rc, Rs, Wrc, Wrs, Wc, Ws, Wsrc, Wcrs, W1c, W1s, W1t, W0c, W0s, W0t, W1src, W1crs, W0src, W0crs, Wo, Woc, Wos, W1, Wo1}
use Rattle.rl_policy.specs.Names.{name_of}
use Rattle.rl_model.specs.declared.rows.Item.{Item}
use Rattle.rl_model.specs.Rows.{ChipData}
use Rattle.rl_bus.specs.declared.table.WordRow.{WordRow}
use Rattle.rl_flaw.specs.declared.flaw.Flaw.{Flaw}
use Rattle.rl_flaw.specs.declared.flaw.Flaw.TheVariants.{Deaf, ErrorNth, ErrorRange, OtherPolicy, OtherReset, Stuck}
use Rattle.rl_flaw.specs.Flaws.{width_of}
use Rattle.rl_desc.specs.Data.{DescData}
use Rattle.rl_desc.specs.Flaws.{reset_value}
use Rattle.rl_policy.specs.declared.policy.TheConstants.{POLICIES}
use Rattle.rl_grade.specs.declared.place.Place.{Place}
use Rattle.rl_grade.specs.declared.place.Place.TheVariants.{OfItem, OfField, OfSession}
use Rattle.rl_grade.specs.Flaws.{is_own, item_flaws, own_addresses, policies_beside, policy_of, row_at, stuck_bits, wrong_by, wrong_resets, wrong_values}
use Rattle.rl_grade.specs.Place.{flaws_at}
use Rattle.rl_grade.specs.Single.{IsOtherThan, IsSingleAt, IsWrongIn}

here : {X : Type 0} (x : X) (xs : List X) → Contains (x ∷ xs) x
here x xs = (0, omega arith, refl)

later : {X : Type 0} (y x : X) (xs : List X) → Contains xs x → Contains (y ∷ xs) x
later y x xs (k, low, is) = (suc k, omega arith, is)

has_made : (f : ℕ → Flaw) (n b : ℕ) → b < n → Contains (map f (range_with_len 0 n)) (f b)
has_made f n b low =
    (b, subst (λ m. b < m) (sym (length-map-range_with_len f 0 n)) low, get_or-map-range_with_len f 0 n b b (f b) low (omega arith))

has_mapped : (f : Policy → Flaw) (ps : List Policy) (p : Policy) → Contains ps p → Contains (map f ps) (f p)
has_mapped f [] p (k, low, is) = absurd (omega arith)
has_mapped f (q ∷ ps) p (zero, low, is) = (0, omega arith, ap f is)
has_mapped f (q ∷ ps) p (suc k, low, is) = later (f q) (f p) (map f ps) (has_mapped f ps p (k, omega arith, is))

pass_one : (test : Policy → Bool) (ps : List Policy) (q p : Policy) (b : Bool) → test q ≡ b → test p ≡ true
    → (Contains ps p → Contains (filter test ps) p) → Contains (q ∷ ps) p
    → Contains (if b then q ∷ filter test ps else filter test ps) p
pass_one test ps q p true is passes rest (zero, low, same) = (0, omega arith, same)
pass_one test ps q p true is passes rest (suc k, low, same) = later q p (filter test ps) (rest (k, omega arith, same))
pass_one test ps q p false is passes rest (zero, low, same) = let t : test q ≡ true = ap test same ∙ passes in absurd (cc)
pass_one test ps q p false is passes rest (suc k, low, same) = rest (k, omega arith, same)

has_passed : (test : Policy → Bool) (ps : List Policy) (p : Policy) → test p ≡ true → Contains ps p → Contains (filter test ps) p
has_passed test [] p passes (k, low, is) = absurd (omega arith)
has_passed test (q ∷ ps) p passes at = pass_one test ps q p (test q) refl passes (has_passed test ps p passes) at

-- ---- of a field

each_policy : (p : Policy) → Contains POLICIES p
each_policy Ro = (0, omega arith, refl)
each_policy Rw = (1, omega arith, refl)
each_policy Rc = (2, omega arith, refl)
each_policy Rs = (3, omega arith, refl)
each_policy Wrc = (4, omega arith, refl)
each_policy Wrs = (5, omega arith, refl)
each_policy Wc = (6, omega arith, refl)
each_policy Ws = (7, omega arith, refl)
each_policy Wsrc = (8, omega arith, refl)
each_policy Wcrs = (9, omega arith, refl)
each_policy W1c = (10, omega arith, refl)
each_policy W1s = (11, omega arith, refl)
each_policy W1t = (12, omega arith, refl)
each_policy W0c = (13, omega arith, refl)
each_policy W0s = (14, omega arith, refl)
each_policy W0t = (15, omega arith, refl)
each_policy W1src = (16, omega arith, refl)
each_policy W1crs = (17, omega arith, refl)
each_policy W0src = (18, omega arith, refl)
each_policy W0crs = (19, omega arith, refl)
each_policy Wo = (20, omega arith, refl)
each_policy Woc = (21, omega arith, refl)
each_policy Wos = (22, omega arith, refl)
each_policy W1 = (23, omega arith, refl)
each_policy Wo1 = (24, omega arith, refl)

has_policy : (f : ℕ) (own : Option Policy) (p : Policy) → IsOtherThan own p → Contains (policies_beside f own POLICIES) (OtherPolicy f p)
has_policy f None p other = absurd other
has_policy f (Some own) p other =
    has_mapped (OtherPolicy f) (filter (λ q. not (bytes_eq (name_of q) (name_of own))) POLICIES) p
    (has_passed (λ q. not (bytes_eq (name_of q) (name_of own))) POLICIES p (ap not other) (each_policy p))

has_wrong : (f width k : ℕ) (own : Option ℕ) (v : ℕ) → IsWrongIn width own v → Contains (wrong_by f width k own) (OtherReset f k v)
has_wrong f width k None v wrong = absurd wrong
has_wrong f width k (Some own) v (b, low, is) =
    subst (λ w. Contains (wrong_values f width k own) (OtherReset f k w)) (sym is)
    (has_made (λ b. OtherReset f k (bit_xor own (2 ^ b))) width b low)

reset_by : (c : ChipData) (f width k v kinds : ℕ) (b : Bool) → nat_lt k kinds ≡ b → k < suc kinds
    → IsWrongIn width (reset_value c f k) v
    → (k < kinds → Contains (wrong_resets c f width kinds) (OtherReset f k v)) → Contains (wrong_resets c f width (suc kinds)) (OtherReset f k v)
reset_by c f width k v kinds true is low wrong before =
    Contains-append_left (wrong_resets c f width kinds) (wrong_by f width kinds (reset_value c f kinds)) (OtherReset f k v)
    (before (ltb-true k kinds is))
reset_by c f width k v kinds false is low wrong before =
    let high : kinds ≤ k = ltb-false k kinds is in
    let same : k ≡ kinds = omega (arith, high, low) in
    Contains-append_right (wrong_resets c f width kinds) (wrong_by f width kinds (reset_value c f kinds)) (OtherReset f k v)
    (subst (λ n. Contains (wrong_by f width n (reset_value c f n)) (OtherReset f k v)) same (has_wrong f width k (reset_value c f k) v wrong))

has_reset : (c : ChipData) (f width k v kinds : ℕ) → k < kinds → IsWrongIn width (reset_value c f k) v
    → Contains (wrong_resets c f width kinds) (OtherReset f k v)
has_reset c f width k v zero low wrong = absurd (omega arith)
has_reset c f width k v (suc kinds) low wrong =
    reset_by c f width k v kinds (nat_lt k kinds) refl low wrong (λ fewer. has_reset c f width k v kinds fewer wrong)

has_stuck : (f width b : ℕ) (v : Bool) → b < width → Contains (stuck_bits f width false ++ stuck_bits f width true) (Stuck f b v)
has_stuck f width b false low =
    Contains-append_left (stuck_bits f width false) (stuck_bits f width true) (Stuck f b false) (has_made (λ b. Stuck f b false) width b low)
has_stuck f width b true low =
    Contains-append_right (stuck_bits f width false) (stuck_bits f width true) (Stuck f b true) (has_made (λ b. Stuck f b true) width b low)

-- ---- of a register or memory

abbrev failing : List WordRow → ℕ → Flaw
failing rows k = ErrorRange (row_at rows k).port (row_at rows k).address (row_at rows k).address

abbrev failing_if : ChipData → List WordRow → Item → ℕ → List Flaw
failing_if c rows i k = if is_own c rows k i then failing rows k ∷ [] else []

address_by : (c : ChipData) (rows : List WordRow) (i : Item) (k words : ℕ) (b : Bool) → nat_lt k words ≡ b → k < suc words
    → is_own c rows k i ≡ true → (k < words → Contains (own_addresses c rows i words) (failing rows k))
    → Contains (own_addresses c rows i (suc words)) (failing rows k)
address_by c rows i k words true is low own before =
    Contains-append_left (own_addresses c rows i words) (failing_if c rows i words) (failing rows k) (before (ltb-true k words is))
address_by c rows i k words false is low own before =
    let high : words ≤ k = ltb-false k words is in
    let same : k ≡ words = omega (arith, high, low) in
    Contains-append_right (own_addresses c rows i words) (failing_if c rows i words) (failing rows k)
    (subst (λ n. Contains (failing_if c rows i n) (failing rows k)) same
    (subst (λ b. Contains (if b then failing rows k ∷ [] else []) (failing rows k)) (sym own) (here (failing rows k) [])))

has_address : (c : ChipData) (rows : List WordRow) (i : Item) (k words : ℕ) → k < words → is_own c rows k i ≡ true
    → Contains (own_addresses c rows i words) (failing rows k)
has_address c rows i k zero low own = absurd (omega arith)
has_address c rows i k (suc words) low own =
    address_by c rows i k words (nat_lt k words) refl low own (λ fewer. has_address c rows i k words fewer own)

-- ---- of a session

abbrev nths : (items : ℕ) (a b : Bool) → List Flaw
nths items a b = (if a then ErrorNth 1 ∷ [] else []) ++ (if b then ErrorNth items ∷ [] else [])

nth_by : (items n : ℕ) (a b : Bool) → nat_lt 0 items ≡ a → nat_lt 1 items ≡ b → 0 < items → (n ≡ 1) ⊎ (n ≡ items)
    → Contains (nths items a b) (ErrorNth n)
nth_by items n false b none other some which =
    let empty : items ≤ 0 = ltb-false 0 items none in absurd (omega (arith, empty, some))
nth_by items n true b first other some (inl is) =
    subst (λ m. Contains (nths items true b) (ErrorNth m)) (sym is) (here (ErrorNth 1) (if b then ErrorNth items ∷ [] else []))
nth_by items n true true first other some (inr is) =
    subst (λ m. Contains (nths items true true) (ErrorNth m)) (sym is)
    (later (ErrorNth 1) (ErrorNth items) (ErrorNth items ∷ []) (here (ErrorNth items) []))
nth_by items n true false first other some (inr is) =
    let few : items ≤ 1 = ltb-false 1 items other in
    let one : items ≡ 1 = omega (arith, few, some) in
    subst (λ m. Contains (nths items true false) (ErrorNth m)) (sym (is ∙ one)) (here (ErrorNth 1) [])

-- ---- all

pub complete : (d : DescData) (items : ℕ) (place : Place) (flaw : Flaw) → IsSingleAt d items place flaw → Contains (flaws_at d items place) flaw
complete d items (OfField f) (Stuck g b v) (is, low) =
    subst (λ h. Contains (flaws_at d items (OfField f)) (Stuck h b v)) (sym is)
    (Contains-append_left _ (policies_beside f (policy_of d.chip f) POLICIES) (Stuck f b v)
    (Contains-append_left _ (wrong_resets d.chip f (width_of d.chip f) (length d.chip.kinds)) (Stuck f b v) (has_stuck f (width_of d.chip f) b v low)))
complete d items (OfField f) (OtherReset g k v) (is, kind, wrong) =
    subst (λ h. Contains (flaws_at d items (OfField f)) (OtherReset h k v)) (sym is)
    (Contains-append_left _ (policies_beside f (policy_of d.chip f) POLICIES) (OtherReset f k v)
    (Contains-append_right (stuck_bits f (width_of d.chip f) false ++ stuck_bits f (width_of d.chip f) true) _ (OtherReset f k v)
    (has_reset d.chip f (width_of d.chip f) k v (length d.chip.kinds) kind wrong)))
complete d items (OfField f) (OtherPolicy g p) (is, other) =
    subst (λ h. Contains (flaws_at d items (OfField f)) (OtherPolicy h p)) (sym is)
    (Contains-append_right (stuck_bits f (width_of d.chip f) false ++ stuck_bits f (width_of d.chip f) true
    ++ wrong_resets d.chip f (width_of d.chip f) (length d.chip.kinds)) _ (OtherPolicy f p)
    (has_policy f (policy_of d.chip f) p other))
complete d items (OfField f) (ErrorRange p a b) h = absurd h
complete d items (OfField f) (ErrorNth n) h = absurd h
complete d items (OfField f) (Deaf i) h = absurd h
complete d items (OfItem i) (Deaf j) is =
    subst (λ x. Contains (item_flaws d.chip d.layout i) (Deaf x)) (sym is) (here (Deaf i) (own_addresses d.chip d.layout.rows i (length d.layout.rows)))
complete d items (OfItem i) (ErrorRange port from to) (same, (k, low, own, port_is, from_is)) =
    let row = row_at d.layout.rows k in
    let has : Contains (item_flaws d.chip d.layout i) (ErrorRange row.port row.address row.address) =
    later (Deaf i) (ErrorRange row.port row.address row.address) (own_addresses d.chip d.layout.rows i (length d.layout.rows))
    (has_address d.chip d.layout.rows i k (length d.layout.rows) low own) in
    subst (λ b. Contains (item_flaws d.chip d.layout i) (ErrorRange port from b)) (sym same)
    (subst (λ a. Contains (item_flaws d.chip d.layout i) (ErrorRange port a a)) from_is
    (subst (λ p. Contains (item_flaws d.chip d.layout i) (ErrorRange p row.address row.address)) port_is has))
complete d items (OfItem i) (Stuck f b v) h = absurd h
complete d items (OfItem i) (OtherReset f k v) h = absurd h
complete d items (OfItem i) (OtherPolicy f p) h = absurd h
complete d items (OfItem i) (ErrorNth n) h = absurd h
complete d items OfSession (ErrorNth n) (some, which) = nth_by items n (nat_lt 0 items) (nat_lt 1 items) refl refl some which
complete d items OfSession (Stuck f b v) h = absurd h
complete d items OfSession (OtherReset f k v) h = absurd h
complete d items OfSession (OtherPolicy f p) h = absurd h
complete d items OfSession (ErrorRange p a b) h = absurd h
complete d items OfSession (Deaf i) h = absurd h

-- One flaw more behind those that were appended.
use Rattle.std.proofs.Common.{◌≡◌, ℕ, ◌+◌, ◌^◌, Bool, true, false, not, if◌then◌else◌, List, [], ◌∷◌, ◌++◌, map, filter, refl, sym, ap, ◌∙◌, append_assoc, append-nil, arith, add-one}
use Rattle.std.specs.Prelude.{bit_xor, bytes_eq, length, Option, Some, None, option_map, slice_get, unwrap_or}
use Rattle.std.proofs.lemmas.List.{map-append}
use Rattle.std.proofs.lemmas.List.Elements.{filter-append}
use Rattle.std.proofs.lemmas.List.FromFn.{map-range_with_len_more}
use Rattle.rl_policy.specs.declared.policy.Policy.{Policy}
use Rattle.rl_policy.specs.Names.{name_of}
use Rattle.rl_model.specs.declared.rows.Item.{Item}
use Rattle.rl_model.specs.declared.rows.Field.{Field}
use Rattle.rl_model.specs.Rows.{ChipData, FieldSeen}
use Rattle.rl_bus.specs.declared.table.WordRow.{WordRow}
use Rattle.rl_flaw.specs.declared.flaw.Flaw.{Flaw}
use Rattle.rl_flaw.specs.declared.flaw.Flaw.TheVariants.{ErrorRange, OtherPolicy, OtherReset, Stuck}
use Rattle.rl_desc.specs.Flaws.{reset_value}
use Rattle.rl_grade.specs.Flaws.{field_flaws, is_own, other_policies, own_addresses, policies_beside, policy_of, row_at, stuck_bits, wrong_by, wrong_resets, wrong_values}

behind : {X : Type 0} (xs ys zs all new : List X) → new ≡ (xs ++ ys) ++ zs → all ≡ ys ++ zs → new ≡ xs ++ all
behind xs ys zs all new is whole = is ∙ append_assoc xs ys zs ∙ ap (λ ws. xs ++ ws) (sym whole)

pub stuck_more : (before now new : List Flaw) (field bit : ℕ) (value : Bool) → now ≡ before ++ stuck_bits field bit value
    → new ≡ now ++ Stuck field bit value ∷ [] → new ≡ before ++ stuck_bits field (bit + 1) value
stuck_more before now new field bit value so is =
    behind before (stuck_bits field bit value) (Stuck field bit value ∷ []) (stuck_bits field (bit + 1) value) new
    (is ∙ ap (λ xs. xs ++ Stuck field bit value ∷ []) so) (map-range_with_len_more (λ b. Stuck field b value) 0 bit bit (omega arith))

pub wrong_more : (before now new : List Flaw) (field bit kind value : ℕ) → now ≡ before ++ wrong_values field bit kind value
    → new ≡ now ++ OtherReset field kind (bit_xor value (2 ^ bit)) ∷ []
    → new ≡ before ++ wrong_values field (bit + 1) kind value
wrong_more before now new field bit kind value so is =
    let one = OtherReset field kind (bit_xor value (2 ^ bit)) in
    behind before (wrong_values field bit kind value) (one ∷ []) (wrong_values field (bit + 1) kind value) new
    (is ∙ ap (λ xs. xs ++ one ∷ []) so)
    (map-range_with_len_more (λ b. OtherReset field kind (bit_xor value (2 ^ b))) 0 bit bit (omega arith))

pub resets_more : (c : ChipData) (before now new : List Flaw) (field width kind : ℕ)
    → now ≡ before ++ wrong_resets c field width kind
    → new ≡ now ++ wrong_by field width kind (reset_value c field kind)
    → new ≡ before ++ wrong_resets c field width (kind + 1)
resets_more c before now new field width kind so is =
    behind before (wrong_resets c field width kind) (wrong_by field width kind (reset_value c field kind))
    (wrong_resets c field width (kind + 1)) new
    (is ∙ ap (λ xs. xs ++ wrong_by field width kind (reset_value c field kind)) so)
    (ap (wrong_resets c field width) (add-one kind))

pub addresses_more : (c : ChipData) (rows : List WordRow) (i : Item) (before now new : List Flaw) (k : ℕ)
    → now ≡ before ++ own_addresses c rows i k
    → new ≡ now ++ (if is_own c rows k i then ErrorRange (row_at rows k).port (row_at rows k).address (row_at rows k).address ∷ [] else [])
    → new ≡ before ++ own_addresses c rows i (k + 1)
addresses_more c rows i before now new k so is =
    let one = if is_own c rows k i then ErrorRange (row_at rows k).port (row_at rows k).address (row_at rows k).address ∷ [] else [] in
    behind before (own_addresses c rows i k) one (own_addresses c rows i (k + 1)) new
    (is ∙ ap (λ xs. xs ++ one) so) (ap (own_addresses c rows i) (add-one k))

grown : (field : ℕ) (own : Policy) (some : List Policy) (p : Policy) (b : Bool) → bytes_eq (name_of p) (name_of own) ≡ b
    → other_policies field own (some ++ p ∷ []) ≡ other_policies field own some ++ (if not b then OtherPolicy field p ∷ [] else [])
grown field own some p b is =
    let test : Policy → Bool = λ q. not (bytes_eq (name_of q) (name_of own)) in
    ap (map (OtherPolicy field)) (filter-append test some (p ∷ []))
    ∙ map-append (OtherPolicy field) (filter test some) (filter test (p ∷ []))
    ∙ ap (λ xs. other_policies field own some ++ xs) (last b is)
  where
    split : (c : Bool) → map (OtherPolicy field) (if c then p ∷ [] else []) ≡ (if c then OtherPolicy field p ∷ [] else [])
    split true = refl
    split false = refl

    last : (b : Bool) → bytes_eq (name_of p) (name_of own) ≡ b
        → other_policies field own (p ∷ []) ≡ (if not b then OtherPolicy field p ∷ [] else [])
    last b is = split (not (bytes_eq (name_of p) (name_of own))) ∙ ap (λ c. if not c then OtherPolicy field p ∷ [] else []) is

-- the next policy is another one
pub policy_more : (before now new : List Flaw) (field : ℕ) (own : Policy) (some : List Policy) (p : Policy) (all : List Policy)
    → bytes_eq (name_of p) (name_of own) ≡ false → all ≡ some ++ p ∷ [] → now ≡ before ++ other_policies field own some
    → new ≡ now ++ OtherPolicy field p ∷ [] → new ≡ before ++ other_policies field own all
policy_more before now new field own some p all other is so grows =
    behind before (other_policies field own some) (OtherPolicy field p ∷ []) (other_policies field own all) new
    (grows ∙ ap (λ xs. xs ++ OtherPolicy field p ∷ []) so)
    (ap (other_policies field own) is ∙ grown field own some p false other)

-- it is the field's own
pub policy_passed : (before now new : List Flaw) (field : ℕ) (own : Policy) (some : List Policy) (p : Policy) (all : List Policy)
    → bytes_eq (name_of p) (name_of own) ≡ true → all ≡ some ++ p ∷ [] → now ≡ before ++ other_policies field own some
    → new ≡ now → new ≡ before ++ other_policies field own all
policy_passed before now new field own some p all same is so stays =
    stays ∙ so ∙ ap (λ xs. before ++ xs)
    (sym (ap (other_policies field own) is ∙ grown field own some p true same ∙ append-nil (other_policies field own some)))

-- ---- of a field all

width_in : (o : Option FieldSeen) (shape : Field) → option_map (λ (f : FieldSeen). f.shape) o ≡ Some shape
    → unwrap_or (option_map (λ (f : FieldSeen). f.shape.width) o) 0 ≡ shape.width
width_in None shape is = ap (λ (o : Option Field). unwrap_or (option_map (λ (s : Field). s.width) o) 0) is
width_in (Some f) shape is = ap (λ (o : Option Field). unwrap_or (option_map (λ (s : Field). s.width) o) 0) is

policy_in : (o : Option FieldSeen) (shape : Field) → option_map (λ (f : FieldSeen). f.shape) o ≡ Some shape
    → option_map (λ (f : FieldSeen). f.shape.policy) o ≡ Some shape.policy
policy_in None shape is = ap (option_map (λ (s : Field). s.policy)) is
policy_in (Some f) shape is = ap (option_map (λ (s : Field). s.policy)) is

pub all_of_field : (c : ChipData) (field : ℕ) (shape : Field) (policies : List Policy) (none low high wrong all : List Flaw)
    → option_map (λ (f : FieldSeen). f.shape) (slice_get c.fields field) ≡ Some shape → none ≡ []
    → low ≡ none ++ stuck_bits field shape.width false → high ≡ low ++ stuck_bits field shape.width true
    → wrong ≡ high ++ wrong_resets c field shape.width (length c.kinds) → all ≡ wrong ++ other_policies field shape.policy policies
    → all ≡ field_flaws c field policies
all_of_field c field shape policies none low high wrong all is empty first second third fourth =
    let a = stuck_bits field shape.width false in
    let b = stuck_bits field shape.width true in
    let r = wrong_resets c field shape.width (length c.kinds) in
    let p = other_policies field shape.policy policies in
    fourth ∙ ap (λ xs. xs ++ p) (third ∙ ap (λ xs. xs ++ r) (second ∙ ap (λ xs. xs ++ b) (first ∙ ap (λ xs. xs ++ a) empty)))
    ∙ sym (ap (λ w. stuck_bits field w false ++ stuck_bits field w true ++ wrong_resets c field w (length c.kinds) ++ policies_beside field (policy_of c field) policies)
    (width_in (slice_get c.fields field) shape is)
    ∙ ap (λ o. a ++ b ++ r ++ policies_beside field o policies) (policy_in (slice_get c.fields field) shape is))

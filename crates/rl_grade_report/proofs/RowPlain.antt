-- The names of a chip are plain.
use Rattle.std.proofs.Common.{◌≡◌, ℕ, zero, suc, ◌+◌, ◌<◌, ◌≤◌, Bool, true, false, not, ◌&&◌, cond, eqb, nat_lt, List, [], ◌∷◌, ◌++◌, length, take, map, slice_get, Some, None, option_map, unwrap_or}
use Rattle.std.proofs.Common.{refl, sym, ap, ◌∙◌, inl, inr, arith, length-append, lit≤}
use Rattle.std.proofs.lemmas.Bool.{cases_Bool, and_parts}
use Rattle.std.proofs.lemmas.Bool.Decides.{nat_tests}
use Rattle.std.proofs.lemmas.List.Folds.{list_all-append}
use Rattle.std.proofs.lemmas.Option.{none-some, same_Some, slice_get_within}
use Rattle.std.specs.List.{list_all}
use Rattle.std.specs.Char.{digit_char}
use Rattle.std.specs.Int.Digits.{digits_of, AllBelowBase}
use Rattle.std.proofs.lemmas.Int.Digits.{all_below_base_digits_of}
use Rattle.rl_policy.specs.declared.policy.Policy.{Policy}
use Rattle.rl_policy.specs.declared.policy.Policy.TheVariants.{Ro, Rw, Rc, Rs, Wrc, Wrs, Wc, Ws, Wsrc, Wcrs, W1c, W1s, W1t, W0c, W0s, W0t, W1src, W1crs, W0src, W0crs, Wo, Woc, Wos, W1, Wo1}
use Rattle.rl_policy.specs.Names.{name_of}
use Rattle.rl_policy.specs.Numbers.{hex_digits, spelled}
use Rattle.rl_model.specs.declared.fault.Spot.{Spot}
use Rattle.rl_model.specs.declared.parts.ResetPart.{ResetPart}
use Rattle.rl_model.specs.declared.rows.Item.{Item}
use Rattle.rl_model.specs.declared.rows.Item.TheVariants.{Reg, Mem}
use Rattle.rl_model.specs.Data.{FieldData, RegData, PartsData}
use Rattle.rl_model.specs.Rows.{ChipData}
use Rattle.rl_model.specs.Chip.{IsSound, HasItem, HasParent, IsFieldOf, field_path, path_at, path_of_item}
use Rattle.rl_model.specs.Paths.{is_among, with_text}
use Rattle.rl_model.specs.Rules.{is_name, is_name_byte, is_letter, field_checks, field_of, first_of, fields_fault, regs_fault, kinds_with, kinds_after, all_kinds, reg_path, row_of}
use Rattle.rl_model.specs.Build.{first_kinds, chip_of, chip_fault}
use Rattle.rl_model.proofs.SoundLemmas.{there, passed, both_None}
use Rattle.rl_model.proofs.FieldLookUps.{some_is}
use Rattle.rl_model.specs.declared.fault.Array.TheVariants as array
use Rattle.rl_grade_report.specs.Groups.{kind_text}
use Rattle.rl_grade_report.specs.Lines.{field_name}
use Rattle.rl_grade_report.proofs.RowText.{is_plain, are_plain}

plain_byte : (c : ℕ) → is_name_byte c ≡ true → is_plain c ≡ true
plain_byte c h = grind (arith, nat_tests)

plain_bytes : (s : List ℕ) → list_all is_name_byte s ≡ true → are_plain s ≡ true
plain_bytes [] h = refl
plain_bytes (c ∷ cs) h =
    let (here, more) = and_parts (is_name_byte c) (list_all is_name_byte cs) h in
    rw (plain_byte c here) (plain_bytes cs more)

pub plain_name : (s : List ℕ) → is_name s ≡ true → are_plain s ≡ true
plain_name [] h = refl
plain_name (c ∷ cs) h =
    let (short, both) = and_parts (nat_lt (length cs) 32) (is_letter c && list_all is_name_byte cs) h in
    let (letter, more) = and_parts (is_letter c) (list_all is_name_byte cs) both in
    let here : is_name_byte c ≡ true = rw letter refl in
    rw (plain_byte c here) (plain_bytes cs more)

-- ---- paths

plain_joined : (front name : List ℕ) → are_plain front ≡ true → is_name name ≡ true → are_plain (front ++ 46 ∷ name) ≡ true
plain_joined front name f n = list_all-append is_plain front (46 ∷ name) ∙ rw (f, plain_name name n) refl

plain_path : (c : ChipData) → IsSound c → (n : ℕ) (path : List ℕ) → length path ≤ n → HasParent c path → are_plain path ≡ true
plain_path c s n path short (inl top) = plain_name path top
plain_path c s zero path short (inr (scope, in_scope)) =
    absurd (omega (arith, short, ap length in_scope.joined, length-append (path_at c scope) (46 ∷ in_scope.name)))
plain_path c s (suc n) path short (inr (scope, in_scope)) =
    let front = path_at c scope in
    let shorter : length front ≤ n = omega (arith, short, ap length in_scope.joined, length-append front (46 ∷ in_scope.name)) in
    let inner = plain_path c s n front shorter (s.parents scope (omega (arith, in_scope.scope, s.paths))) in
    ap are_plain in_scope.joined ∙ plain_joined front in_scope.name inner in_scope.named

path_plain : (c : ChipData) → IsSound c → (i : ℕ) → i < length c.paths → are_plain (path_at c i) ≡ true
path_plain c s i lt = plain_path c s (length (path_at c i)) (path_at c i) (omega arith) (s.parents i lt)

pub item_plain : (c : ChipData) → IsSound c → (item : Item) → HasItem c item → are_plain (path_of_item c item) ≡ true
item_plain c s (Reg n) lt = path_plain c s (c.scopes + n) (omega (arith, lt, s.paths))
item_plain c s (Mem n) lt = path_plain c s (c.scopes + length c.regs + n) (omega (arith, lt, s.paths))

pub field_plain : (c : ChipData) → IsSound c → (i : ℕ) → i < length c.fields → are_plain (field_name c i) ≡ true
field_plain c s i lt =
    let (f, at) = there c.fields i lt in
    let fits = s.each_field i f at in
    let (r, at_r, _) = some_is (slice_get c.regs f.shape.reg) (IsFieldOf i f.shape) fits.0 in
    let reg = slice_get_within c.regs f.shape.reg r at_r in
    ap (λ o. are_plain (unwrap_or (option_map (field_path c) o) [])) at
    ∙ plain_joined (path_at c (c.scopes + f.shape.reg)) f.name (path_plain c s (c.scopes + f.shape.reg) (omega (arith, reg, s.paths))) fits.2

-- ---- kinds

abbrev all_plain : List (List ℕ) → Bool
all_plain ts = list_all are_plain ts

plain_with : (ks : List (List ℕ)) (t : List ℕ) → all_plain ks ≡ true → are_plain t ≡ true → all_plain (with_text ks t) ≡ true
plain_with ks t a b =
    elim (cases_Bool (is_among t ks)) [
      | inl among ↦ rw among a
      | inr new ↦ rw new (list_all-append are_plain ks (t ∷ []) ∙ rw (a, b) refl)
    ]

plain_resets : (ks : List (List ℕ)) (rs : List ResetPart) → all_plain ks ≡ true → list_all (λ r. is_name r.kind) rs ≡ true → all_plain (kinds_with ks rs) ≡ true
plain_resets ks [] a h = a
plain_resets ks (r ∷ rs) a h =
    let (here, more) = and_parts (is_name r.kind) (list_all (λ (r : ResetPart). is_name r.kind) rs) h in
    plain_resets (with_text ks r.kind) rs (plain_with ks r.kind a (plain_name r.kind here)) more

named : (spot : Spot) (bytes : ℕ) (earlier : List FieldData) (f : FieldData) → first_of spot (field_checks bytes earlier f) ≡ None
    → list_all (λ r. is_name r.kind) f.resets ≡ true
named spot bytes earlier f h =
    let names : not (is_name f.name && list_all (λ r. is_name r.kind) f.resets) ≡ false = passed spot (field_checks bytes earlier f) h 0 _ refl in
    grind (arith, nat_tests)

plain_fields : (spot : Spot) (r : RegData) (i : ℕ) (ks : List (List ℕ)) (fs : List FieldData) → fields_fault spot r i ks fs ≡ None → all_plain ks ≡ true
    → all_plain (kinds_after ks fs) ≡ true
plain_fields spot r i ks [] h a = a
plain_fields spot r i ks (f ∷ fs) h a =
    let step = both_None _ _ h in
    let own = both_None _ _ step.0 in
    plain_fields spot r (i + 1) (kinds_with ks f.resets) fs step.1 (plain_resets ks f.resets a (named (field_of spot i) r.bytes (take i r.fields) f own.0))

plain_regs : (i scopes : ℕ) (paths ks : List (List ℕ)) (rs : List RegData) → regs_fault i scopes paths ks rs ≡ None → all_plain ks ≡ true
    → all_plain (all_kinds ks rs) ≡ true
plain_regs i scopes paths ks [] h a = a
plain_regs i scopes paths ks (r ∷ rs) h a =
    let step = both_None _ _ h in
    let own = both_None _ _ step.0 in
    let inner = both_None _ _ own.1 in
    plain_regs (i + 1) scopes (paths ++ reg_path r ∷ []) (kinds_after ks r.fields) rs step.1 (plain_fields (row_of array.Reg i) r 0 ks r.fields inner.1 a)

kinds_plain : (parts : PartsData) → chip_fault parts ≡ None → all_plain (all_kinds first_kinds parts.regs) ≡ true
unfolding chip_fault
kinds_plain parts h =
    let blocks = both_None _ _ h in
    let files = both_None _ _ blocks.1 in
    let regs = both_None _ _ files.1 in
    plain_regs 0 _ _ first_kinds parts.regs regs.0 refl

plain_at : (ts : List (List ℕ)) (i : ℕ) (t : List ℕ) → all_plain ts ≡ true → slice_get ts i ≡ Some t → are_plain t ≡ true
plain_at [] i t a at = absurd (none-some t at)
plain_at (x ∷ xs) zero t a at = ap are_plain (sym (same_Some x t at)) ∙ (and_parts (are_plain x) (all_plain xs) a).0
plain_at (x ∷ xs) (suc i) t a at = plain_at xs i t (and_parts (are_plain x) (all_plain xs) a).1 at

pub kind_plain : (parts : PartsData) → chip_fault parts ≡ None → (k : ℕ) → k < length (chip_of parts).kinds → are_plain (kind_text (chip_of parts) k) ≡ true
unfolding chip_of
kind_plain parts h k lt =
    let (t, at) = there (all_kinds first_kinds parts.regs) k lt in
    ap (λ o. are_plain (unwrap_or o [])) at ∙ plain_at (all_kinds first_kinds parts.regs) k t (kinds_plain parts h) at

-- ---- words and numbers

pub policy_plain : (p : Policy) → are_plain (name_of p) ≡ true
policy_plain Ro = refl
policy_plain Rw = refl
policy_plain Rc = refl
policy_plain Rs = refl
policy_plain Wrc = refl
policy_plain Wrs = refl
policy_plain Wc = refl
policy_plain Ws = refl
policy_plain Wsrc = refl
policy_plain Wcrs = refl
policy_plain W1c = refl
policy_plain W1s = refl
policy_plain W1t = refl
policy_plain W0c = refl
policy_plain W0s = refl
policy_plain W0t = refl
policy_plain W1src = refl
policy_plain W1crs = refl
policy_plain W0src = refl
policy_plain W0crs = refl
policy_plain Wo = refl
policy_plain Woc = refl
policy_plain Wos = refl
policy_plain W1 = refl
policy_plain Wo1 = refl

plain_digit : (d : ℕ) → d < 16 → is_plain (digit_char d) ≡ true
plain_digit d lt = grind (arith, nat_tests)

plain_digits : (ds : List ℕ) → AllBelowBase 16 ds → are_plain (map digit_char ds) ≡ true
plain_digits [] h = refl
plain_digits (d ∷ ds) h = rw (plain_digit d (omega (arith, h.0))) (plain_digits ds h.1)

hex_by : (v : ℕ) (t : Bool) → are_plain (cond t (48 ∷ []) (map digit_char (digits_of 16 v))) ≡ true
hex_by v true = refl
hex_by v false = plain_digits (digits_of 16 v) (all_below_base_digits_of 16 v (lit≤ tt))

pub number_plain : (v : ℕ) → are_plain (spelled v) ≡ true
unfolding hex_digits
number_plain v = hex_by v (eqb v 0)

-- The single flaws of a description, as lists.
use Rattle.std.specs.Prelude.{ℕ, ◌-◌, ◌^◌, ◌==◌, ◌&&◌, ◌||◌, take, slice_index_or, unwrap_or, zero, suc, nat_lt, if◌then◌else◌, not, bit_xor}
use Rattle.std.specs.Prelude.{Bool, true, false, List, [], ◌∷◌, ◌++◌, length, map, filter, bytes_eq, Option, Some, None, slice_get, option_map}
use Rattle.std.specs.List.{list_any, range_with_len}
use Rattle.rl_policy.specs.declared.policy.Policy.{Policy}
use Rattle.rl_policy.specs.Names.{name_of}
use Rattle.rl_model.specs.Rows.{ChipData}
use Rattle.rl_model.specs.declared.rows.Item.{Item}
use Rattle.rl_model.specs.declared.rows.Item.TheVariants as item
use Rattle.rl_bus.specs.declared.table.Cell.{Cell}
use Rattle.rl_bus.specs.declared.table.Cell.TheVariants.{Reg, Loc}
use Rattle.rl_bus.specs.declared.table.WordRow.{WordRow}
use Rattle.rl_map.specs.Layout.{LayoutData}
use Rattle.rl_bench.specs.Beats.{no_word}
use Rattle.rl_flaw.specs.declared.flaw.Flaw.{Flaw}
use Rattle.rl_flaw.specs.declared.flaw.Flaw.TheVariants.{Deaf, OtherPolicy, OtherReset, Stuck, ErrorNth, ErrorRange}
use Rattle.rl_flaw.specs.Flaws.{width_of}
use Rattle.rl_desc.specs.Flaws.{reset_value}

-- how many locations a memory has
abbrev pub size_of : ChipData → ℕ → ℕ
size_of c mem = unwrap_or (option_map (λ m. m.size) (slice_get c.mems mem)) 0

-- each bit of a field, stuck at a value
abbrev pub stuck_bits : (field width : ℕ) → (value : Bool) → List Flaw
stuck_bits field width value = map (λ b. Stuck field b value) (range_with_len 0 width)

-- each value that is wrong in one bit
abbrev pub wrong_values : (field width kind value : ℕ) → List Flaw
wrong_values field width kind value = map (λ b. OtherReset field kind (bit_xor value (2 ^ b))) (range_with_len 0 width)

abbrev pub wrong_by : (field width kind : ℕ) → Option ℕ → List Flaw
wrong_by field width kind None = []
wrong_by field width kind (Some value) = wrong_values field width kind value

-- of each kind below that one that the field has a value for
abbrev pub wrong_resets : ChipData → (field width kinds : ℕ) → List Flaw
wrong_resets c field width zero = []
wrong_resets c field width (suc kinds) =
    wrong_resets c field width kinds ++ wrong_by field width kinds (reset_value c field kinds)

-- each of these policies that isn't the field's own
abbrev pub other_policies : (field : ℕ) → (own : Policy) → List Policy → List Flaw
other_policies field own policies =
    map (OtherPolicy field) (filter (λ p. not (bytes_eq (name_of p) (name_of own))) policies)

abbrev pub policy_of : ChipData → ℕ → Option Policy
policy_of c field = option_map (λ f. f.shape.policy) (slice_get c.fields field)

abbrev pub policies_beside : (field : ℕ) → Option Policy → List Policy → List Flaw
policies_beside field None policies = []
policies_beside field (Some own) policies = other_policies field own policies

-- of a field: each bit stuck at 0 and at 1, each reset value that is wrong in one bit, and each other policy
abbrev pub field_flaws : ChipData → (field : ℕ) → List Policy → List Flaw
field_flaws c field policies =
    let width = width_of c field in
    stuck_bits field width false ++ stuck_bits field width true
    ++ wrong_resets c field width (length c.kinds) ++ policies_beside field (policy_of c field) policies

-- ---- of a register or memory as a whole

-- the address of a word of this cell is tried: a register's, or one of a memory's first or last location
abbrev pub is_tried : ChipData → Cell → Bool
is_tried c (Reg reg) = true
is_tried c (Loc mem index) = nat_lt mem (length c.mems) && (index == 0 || index == size_of c mem - 1)

abbrev pub is_of : Cell → Item → Bool
is_of (Reg reg) (item.Reg own) = reg == own
is_of (Loc mem index) (item.Mem own) = mem == own
is_of (Reg reg) (item.Mem own) = false
is_of (Loc mem index) (item.Reg own) = false

-- another word's address is tried, and is the word's
abbrev pub is_tried_with : ChipData → WordRow → WordRow → Bool
is_tried_with c row other = other.port == row.port && other.address == row.address && is_tried c other.cell

abbrev pub row_at : List WordRow → ℕ → WordRow
row_at rows k = slice_index_or rows k no_word

-- word k is the item's, its address is tried, and it is the first at its address of which this is so
abbrev pub is_own : ChipData → List WordRow → ℕ → Item → Bool
is_own c rows k item =
    is_of (row_at rows k).cell item && is_tried c (row_at rows k).cell
    && not (list_any (is_tried_with c (row_at rows k)) (take k rows))

-- each address of the item as a range that fails, of the first so many words
abbrev pub own_addresses : ChipData → List WordRow → Item → (words : ℕ) → List Flaw
own_addresses c rows item zero = []
own_addresses c rows item (suc k) =
    own_addresses c rows item k
    ++ (if is_own c rows k item
    then ErrorRange (row_at rows k).port (row_at rows k).address (row_at rows k).address ∷ []
    else [])

-- it is deaf, and each of its addresses fails
abbrev pub item_flaws : ChipData → LayoutData → Item → List Flaw
item_flaws c l item = Deaf item ∷ own_addresses c l.rows item (length l.rows)

-- the first and the last of so many items fail
abbrev pub session_flaws : (items : ℕ) → List Flaw
session_flaws items =
    (if nat_lt 0 items then ErrorNth 1 ∷ [] else []) ++ (if nat_lt 1 items then ErrorNth items ∷ [] else [])

-- The keys of each array in order, and how a row is tested for them.
use Rattle.std.specs.Prelude.{ℕ, ◌+◌, ◌||◌, Bool, false, if◌then◌else◌, List, [], ◌∷◌, map, Option, Some, None, option_and_then, unwrap_or}
use Rattle.std.specs.Str.{bytes_eq}
use Rattle.toml.specs.Data.{Data, Members, no_members, member, get_member}
use Rattle.rl_model.specs.declared.fault.Spot.{Spot}
use Rattle.rl_desc.specs.declared.key.Key.{Key}
use Rattle.rl_desc.specs.declared.key.Key.TheVariants as key
use Rattle.rl_desc.specs.declared.fault.Rows.{Rows}
use Rattle.rl_desc.specs.declared.fault.DescCause.{DescCause}
use Rattle.rl_desc.specs.declared.fault.DescCause.TheVariants.{UnknownKey, MissingKey}
use Rattle.rl_desc.specs.declared.fault.DescFault.{DescFault}
use Rattle.rl_desc.specs.declared.words.FlawKind.{FlawKind}
use Rattle.rl_desc.specs.declared.words.FlawKind.TheVariants as kind
use Rattle.rl_desc.specs.Keys.{key_name}
use Rattle.rl_desc.specs.Words.{policy_named, kind_named, access_named, addressing_named, rights_named, predict_named}
use Rattle.rl_desc.specs.Spots.{spot_in}
use Rattle.rl_desc.specs.Shapes.{Shape, text, truth, number, word, tables, exclusions, resets}
use Rattle.rl_desc.specs.Refusals.{error_of, value_of, or_else, first, at_spot}

-- ---- the keys of a row

abbrev pub value_at : Key → Members → Option Data
value_at k row = get_member (key_name k) row

abbrev pub if_there : {X : Type 0} → Shape X → Key → Option Data → Option DescCause
if_there shape k None = None
if_there shape k (Some d) = error_of (shape k d)

abbrev pub if_missing : {X : Type 0} → Shape X → Key → Option Data → Option DescCause
if_missing shape k None = Some (MissingKey k)
if_missing shape k (Some d) = error_of (shape k d)

-- a key that a row may have, and one that it must have
abbrev pub optional : {X : Type 0} → Shape X → Key → Members → Option DescCause
optional shape k row = if_there shape k (value_at k row)

abbrev pub required : {X : Type 0} → Shape X → Key → Members → Option DescCause
required shape k row = if_missing shape k (value_at k row)

-- what a key holds
abbrev pub held : {X : Type 0} → Shape X → Key → Members → Option X
held shape k row = option_and_then (λ d. value_of (shape k d)) (value_at k row)

abbrev pub held_or : {X : Type 0} → X → Shape X → Key → Members → X
held_or other shape k row = unwrap_or (held shape k row) other

abbrev pub is_one_of : List Key → List ℕ → Bool
is_one_of [] name = false
is_one_of (k ∷ ks) name = bytes_eq name (key_name k) || is_one_of ks name

-- a row has none but these keys
abbrev pub only : List Key → Members → Option DescCause
only ks no_members = None
only ks (member name d ms) = if is_one_of ks name then only ks ms else Some UnknownKey

-- ---- columns

-- a key and how a row is tested for it
abbrev pub Column : Type 0
Column = Key × (Key → Members → Option DescCause)

abbrev pub keys_of : List Column → List Key
keys_of columns = map (λ c. c.0) columns

-- each key in order is as it should be
abbrev pub column_fault : List Column → Option Spot → Members → Option DescFault
column_fault columns spot row = first (map (λ c. at_spot spot (c.1 c.0 row)) columns)

-- A row has no other key, and then each key in order is as it should be.
abbrev pub row_fault : List Column → Option Spot → Members → Option DescFault
row_fault columns spot row = or_else (at_spot spot (only (keys_of columns) row)) (column_fault columns spot row)

-- the first fault of rows that are counted from i
abbrev pub first_from : ℕ → (ℕ → Members → Option DescFault) → List Members → Option DescFault
first_from i fault [] = None
first_from i fault (row ∷ rows) = or_else (fault i row) (first_from (i + 1) fault rows)

-- the first fault of the rows of a place
abbrev pub in_rows : Rows → (Spot → Members → Option DescFault) → List Members → Option DescFault
in_rows place fault rows = first_from 0 (λ i. fault (spot_in place i)) rows

abbrev pub rows_at : Key → Members → List Members
rows_at k row = held_or [] tables k row

-- ---- the tables of a description

abbrev pub top_columns : List Column
top_columns =
    (key.Block, optional tables) ∷ (key.File, optional tables) ∷ (key.Reg, optional tables) ∷ (key.Mem, optional tables)
    ∷ (key.Map, optional tables) ∷ (key.Place, optional tables) ∷ (key.Flaw, optional tables) ∷ []

abbrev pub scope_columns : List Column
scope_columns = (key.Name, required text) ∷ (key.Of, optional text) ∷ []

-- what follows the names of a register
abbrev pub reg_body_columns : List Column
reg_body_columns =
    (key.Bytes, required number) ∷ (key.Backdoor, optional truth) ∷ (key.Skip, optional exclusions)
    ∷ (key.Field, optional tables) ∷ []

abbrev pub reg_columns : List Column
reg_columns = (key.Name, required text) ∷ (key.Of, optional text) ∷ reg_body_columns

-- whether and how a check compares a field
abbrev pub field_check_columns : List Column
field_check_columns =
    (key.Volatile, optional truth) ∷ (key.Compare, optional truth) ∷ (key.Alone, optional truth)
    ∷ (key.Reset, optional resets) ∷ []

abbrev pub field_columns : List Column
field_columns =
    (key.Name, required text) ∷ (key.Lsb, required number) ∷ (key.Width, required number)
    ∷ (key.Policy, required (word policy_named)) ∷ field_check_columns

-- what follows the names of a memory
abbrev pub mem_body_columns : List Column
mem_body_columns =
    (key.Bytes, required number) ∷ (key.Size, required number) ∷ (key.Access, optional (word access_named))
    ∷ (key.Backdoor, optional truth) ∷ (key.Skip, optional exclusions) ∷ []

abbrev pub mem_columns : List Column
mem_columns = (key.Name, required text) ∷ (key.Of, optional text) ∷ mem_body_columns

-- how a map is reached: in its parent, or as a root by an adapter
abbrev pub map_way_columns : List Column
map_way_columns =
    (key.Parent, optional text) ∷ (key.Offset, optional number) ∷ (key.Adapter, optional text)
    ∷ (key.Predict, optional (word predict_named)) ∷ []

abbrev pub map_columns : List Column
map_columns =
    (key.Name, required text) ∷ (key.Bytes, required number) ∷ (key.Endian, optional (word kind_named))
    ∷ (key.Addressing, optional (word addressing_named)) ∷ (key.Base, optional number) ∷ map_way_columns

abbrev pub place_columns : List Column
place_columns =
    (key.Map, required text) ∷ (key.Item, required text) ∷ (key.Offset, optional number)
    ∷ (key.Rights, optional (word rights_named)) ∷ []

-- the keys of a flaw of a kind
abbrev pub flaw_columns : FlawKind → List Column
flaw_columns kind.OtherPolicy = (key.Field, required text) ∷ (key.Policy, required (word policy_named)) ∷ []
flaw_columns kind.OtherReset = (key.Field, required text) ∷ (key.On, required text) ∷ (key.Value, required number) ∷ []
flaw_columns kind.Stuck = (key.Field, required text) ∷ (key.Bit, required number) ∷ (key.Value, required number) ∷ []
flaw_columns kind.ErrorRange = (key.Map, required text) ∷ (key.From, required number) ∷ (key.To, required number) ∷ []
flaw_columns kind.ErrorNth = (key.Nth, required number) ∷ []
flaw_columns kind.Deaf = (key.Item, required text) ∷ []

abbrev pub flaw_keys : List Key
flaw_keys =
    key.Kind ∷ key.Field ∷ key.Policy ∷ key.On ∷ key.Value ∷ key.Bit ∷ key.Map ∷ key.From ∷ key.To
    ∷ key.Nth ∷ key.Item ∷ []

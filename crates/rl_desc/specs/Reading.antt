-- The first fault of the rows of a description, and what they say where there is none.
use Rattle.std.specs.Prelude.{Bool, true, false, not, [], ◌∷◌, map, codes, Option, Some, None}
use Rattle.toml.specs.Data.{Members}
use Rattle.rl_policy.specs.declared.policy.Policy.TheVariants as policy
use Rattle.rl_model.specs.declared.fault.Spot.{Spot}
use Rattle.rl_model.specs.declared.fault.Array.TheVariants as arrays
use Rattle.rl_model.specs.declared.parts.ScopePart.{ScopePart}
use Rattle.rl_model.specs.declared.parts.MemPart.{MemPart}
use Rattle.rl_model.specs.Data.{FieldData, RegData}
use Rattle.rl_map.specs.declared.path.Kind.TheVariants as endian
use Rattle.rl_map.specs.declared.parts.MapNode.{MapNode}
use Rattle.rl_map.specs.declared.parts.PlacePart.{PlacePart}
use Rattle.rl_desc.specs.declared.key.Key.TheVariants as key
use Rattle.rl_desc.specs.declared.fault.Rows.TheVariants.{Array, Fields}
use Rattle.rl_desc.specs.declared.fault.DescFault.{DescFault}
use Rattle.rl_desc.specs.declared.words.Access.{Access}
use Rattle.rl_desc.specs.declared.words.Access.TheVariants as access
use Rattle.rl_desc.specs.declared.words.Addressing.{Addressing}
use Rattle.rl_desc.specs.declared.words.Addressing.TheVariants as addressing
use Rattle.rl_desc.specs.declared.words.Predict.{Predict}
use Rattle.rl_desc.specs.declared.words.Predict.TheVariants as predict
use Rattle.rl_desc.specs.declared.words.FlawKind.{FlawKind}
use Rattle.rl_desc.specs.declared.words.FlawKind.TheVariants as kind
use Rattle.rl_desc.specs.declared.flaw.FlawPart.{FlawPart}
use Rattle.rl_desc.specs.declared.flaw.FlawPart.TheVariants as flaw
use Rattle.rl_desc.specs.Words.{policy_named, kind_named, access_named, addressing_named, rights, rights_named, predict_named, flaw_kind_named, skip}
use Rattle.rl_desc.specs.Data.{DocumentData}
use Rattle.rl_desc.specs.Shapes.{text, truth, number, word, exclusions, resets}
use Rattle.rl_desc.specs.Refusals.{or_else, first, at_spot}
use Rattle.rl_desc.specs.Columns.{required, held, held_or, only, column_fault, row_fault, in_rows, rows_at, top_columns, scope_columns}
use Rattle.rl_desc.specs.Columns.{reg_columns, field_columns, mem_columns, map_columns, place_columns, flaw_columns, flaw_keys}

-- ---- the first fault

abbrev pub scope_fault : Spot → Members → Option DescFault
scope_fault spot row = row_fault scope_columns (Some spot) row

abbrev pub field_fault : Spot → Members → Option DescFault
field_fault spot row = row_fault field_columns (Some spot) row

abbrev pub reg_fault : Spot → Members → Option DescFault
reg_fault spot row =
    or_else (row_fault reg_columns (Some spot) row) (in_rows (Fields spot) field_fault (rows_at key.Field row))

abbrev pub mem_fault : Spot → Members → Option DescFault
mem_fault spot row = row_fault mem_columns (Some spot) row

abbrev pub map_fault : Spot → Members → Option DescFault
map_fault spot row = row_fault map_columns (Some spot) row

abbrev pub place_fault : Spot → Members → Option DescFault
place_fault spot row = row_fault place_columns (Some spot) row

abbrev pub kind_fault : Spot → Members → Option FlawKind → Option DescFault
kind_fault spot row None = None
kind_fault spot row (Some k) = column_fault (flaw_columns k) (Some spot) row

abbrev pub flaw_fault : Spot → Members → Option DescFault
flaw_fault spot row =
    first
    (at_spot (Some spot) (only flaw_keys row) ∷ at_spot (Some spot) (required (word flaw_kind_named) key.Kind row)
    ∷ kind_fault spot row (held (word flaw_kind_named) key.Kind row) ∷ [])

abbrev pub document_fault : Members → Option DescFault
document_fault doc =
    first
    (row_fault top_columns None doc
    ∷ in_rows (Array arrays.Block) scope_fault (rows_at key.Block doc)
    ∷ in_rows (Array arrays.File) scope_fault (rows_at key.File doc)
    ∷ in_rows (Array arrays.Reg) reg_fault (rows_at key.Reg doc)
    ∷ in_rows (Array arrays.Mem) mem_fault (rows_at key.Mem doc)
    ∷ in_rows (Array arrays.Map) map_fault (rows_at key.Map doc)
    ∷ in_rows (Array arrays.Place) place_fault (rows_at key.Place doc)
    ∷ in_rows (Array arrays.Flaw) flaw_fault (rows_at key.Flaw doc) ∷ [])

-- ---- what is described

abbrev pub scope_of : Members → ScopePart
scope_of row = record { name = held_or [] text key.Name row; of = held text key.Of row }

abbrev pub field_of : Members → FieldData
field_of row =
    let volatile = held_or false truth key.Volatile row in
    record {
      name = held_or [] text key.Name row;
      lsb = held_or 0 number key.Lsb row;
      width = held_or 0 number key.Width row;
      policy = held_or policy.Ro (word policy_named) key.Policy row;
      volatile = volatile;
      compare = held_or (not volatile) truth key.Compare row;
      alone = held_or false truth key.Alone row;
      resets = held_or [] resets key.Reset row;
    }

abbrev pub reg_of : Members → RegData
reg_of row = record {
  name = held_or [] text key.Name row;
  of = held text key.Of row;
  bytes = held_or 0 number key.Bytes row;
  backdoor = held_or true truth key.Backdoor row;
  skip = held_or (skip 0) exclusions key.Skip row;
  fields = map field_of (rows_at key.Field row);
}

abbrev pub is_writable : Access → Bool
is_writable access.ReadWrite = true
is_writable access.ReadOnly = false

abbrev pub mem_of : Members → MemPart
mem_of row = record {
  name = held_or [] text key.Name row;
  of = held text key.Of row;
  bytes = held_or 0 number key.Bytes row;
  size = held_or 0 number key.Size row;
  writable = is_writable (held_or access.ReadWrite (word access_named) key.Access row);
  backdoor = held_or true truth key.Backdoor row;
  skip = held_or (skip 0) exclusions key.Skip row;
}

abbrev pub counts_words : Addressing → Bool
counts_words addressing.Byte = false
counts_words addressing.Word = true

abbrev pub is_explicit : Predict → Bool
is_explicit predict.Implicit = false
is_explicit predict.Explicit = true

abbrev pub map_of : Members → MapNode
map_of row = record {
  name = held_or [] text key.Name row;
  base = held_or 0 number key.Base row;
  bytes = held_or 0 number key.Bytes row;
  kind = held_or endian.Little (word kind_named) key.Endian row;
  word = counts_words (held_or addressing.Byte (word addressing_named) key.Addressing row);
  parent = held text key.Parent row;
  offset = held_or 0 number key.Offset row;
  adapter = held_or (codes "plain") text key.Adapter row;
  explicit = is_explicit (held_or predict.Implicit (word predict_named) key.Predict row);
}

abbrev pub place_of : Members → PlacePart
place_of row = record {
  map = held_or [] text key.Map row;
  item = held_or [] text key.Item row;
  offset = held_or 0 number key.Offset row;
  rights = held_or (rights 3) (word rights_named) key.Rights row;
}

abbrev pub flaw_as : FlawKind → Members → FlawPart
flaw_as kind.OtherPolicy row =
    flaw.OtherPolicy (held_or [] text key.Field row) (held_or policy.Ro (word policy_named) key.Policy row)
flaw_as kind.OtherReset row =
    flaw.OtherReset (held_or [] text key.Field row) (held_or [] text key.On row) (held_or 0 number key.Value row)
flaw_as kind.Stuck row =
    flaw.Stuck (held_or [] text key.Field row) (held_or 0 number key.Bit row) (held_or 0 number key.Value row)
flaw_as kind.ErrorRange row =
    flaw.ErrorRange (held_or [] text key.Map row) (held_or 0 number key.From row) (held_or 0 number key.To row)
flaw_as kind.ErrorNth row = flaw.ErrorNth (held_or 0 number key.Nth row)
flaw_as kind.Deaf row = flaw.Deaf (held_or [] text key.Item row)

abbrev pub flaw_of : Members → FlawPart
flaw_of row = flaw_as (held_or kind.Deaf (word flaw_kind_named) key.Kind row) row

-- what a description's rows say
abbrev pub document_data : Members → DocumentData
document_data doc = record {
  parts = record {
    blocks = map scope_of (rows_at key.Block doc);
    files = map scope_of (rows_at key.File doc);
    regs = map reg_of (rows_at key.Reg doc);
    mems = map mem_of (rows_at key.Mem doc);
  };
  maps = map map_of (rows_at key.Map doc);
  places = map place_of (rows_at key.Place doc);
  flaws = map flaw_of (rows_at key.Flaw doc);
}

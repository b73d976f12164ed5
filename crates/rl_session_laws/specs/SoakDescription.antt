-- What the description of the session that is made from a number is: a table, and what its rows say.
use Rattle.std.specs.Prelude.{◌≡◌, ℕ, zero, suc, ◌+◌, ◌*◌, pos, true, false, List, [], ◌∷◌, map as each, codes, Some, None}
use Rattle.std.specs.List.{range_with_len}
use Rattle.toml.specs.Data.{Data, string, integer, array, table, Items, no_items, item, Members, no_members, member}
use Rattle.rl_policy.specs.Names.{name_of}
use Rattle.rl_model.specs.Data.{FieldData, RegData}
use Rattle.rl_bus.specs.declared.op.AdapterKind.{AdapterKind}
use Rattle.rl_map.specs.declared.path.Kind.{Kind}
use Rattle.rl_map.specs.declared.path.Kind.TheVariants.{Big, Little}
use Rattle.rl_map.specs.declared.parts.MapNode.{MapNode}
use Rattle.rl_map.specs.declared.parts.PlacePart.{PlacePart}
use Rattle.rl_desc.specs.Data.{DocumentData}
use Rattle.rl_desc.specs.Words.{skip, rights}
use Rattle.rl_desc.specs.Reading.{document_fault, document_data}
use Rattle.rl_desc.specs.Described.{document_of, first_fault, rows_fault, description_of, described}
use Rattle.rl_session.specs.Session.{said_by, opening_of}
use Rattle.rl_session.specs.Soak.{policy_of, map_of, description_text, soak_text}
use Rattle.rl_session_laws.specs.SoakScript.{register}

-- one row for each number from the first on
abbrev pub rows : (ℕ → Data) → (first count : ℕ) → Items
rows row first zero = no_items
rows row first (suc count) = item (row first) (rows row (first + 1) count)

-- the keys of a table ascend

abbrev pub field_row : ℕ → Data
field_row k =
    table (member (codes "lsb") (integer (pos 0)) (member (codes "name") (string (codes "f"))
    (member (codes "policy") (string (name_of (policy_of k))) (member (codes "reset") (integer (pos 0))
    (member (codes "width") (integer (pos 32)) no_members)))))

abbrev pub reg_row : ℕ → Data
reg_row k =
    table (member (codes "bytes") (integer (pos 4)) (member (codes "field") (array (item (field_row k) no_items))
    (member (codes "name") (string (register k)) no_members)))

-- the two maps

abbrev pub bus_row : Data
bus_row =
    table (member (codes "adapter") (string (codes "plain")) (member (codes "bytes") (integer (pos 2))
    (member (codes "endian") (string (codes "big")) (member (codes "name") (string (codes "bus")) no_members))))

abbrev pub per_row : Data
per_row =
    table (member (codes "adapter") (string (codes "apb")) (member (codes "bytes") (integer (pos 4))
    (member (codes "endian") (string (codes "little")) (member (codes "name") (string (codes "per")) no_members))))

abbrev pub place_row : ℕ → Data
place_row k =
    table (member (codes "item") (string (register k)) (member (codes "map") (string (map_of k))
    (member (codes "offset") (integer (pos (4 * k))) no_members)))

-- two maps, and 64 registers with a place each
unfoldable pub soak_table : Members
soak_table =
    member (codes "map") (array (item bus_row (item per_row no_items)))
    (member (codes "place") (array (rows place_row 0 64)) (member (codes "reg") (array (rows reg_row 0 64)) no_members))

-- ---- what its rows say

-- a field of 32 bits, whose policy is that of the number, and which is 0 after a hard reset
abbrev pub field_data : ℕ → FieldData
field_data k = record {
  name = codes "f";
  lsb = 0;
  width = 32;
  policy = policy_of k;
  volatile = false;
  compare = true;
  alone = false;
  resets = record { kind = codes "HARD"; value = 0 } ∷ [];
}

-- four bytes with this one field
abbrev pub reg_data : ℕ → RegData
reg_data k = record {
  name = register k;
  of = None;
  bytes = 4;
  backdoor = true;
  skip = skip 0;
  fields = field_data k ∷ [];
}

-- a root at base 0
abbrev pub map_data : (name : List ℕ) (bytes : ℕ) → Kind → (adapter : List ℕ) → MapNode
map_data name bytes kind adapter = record {
  name = name;
  base = 0;
  bytes = bytes;
  kind = kind;
  word = false;
  parent = None;
  offset = 0;
  adapter = adapter;
  explicit = false;
}

-- even registers stand on one bus, odd ones on the other
abbrev pub place_data : ℕ → PlacePart
place_data k = record { map = map_of k; item = register k; offset = 4 * k; rights = rights 3 }

-- the meant description: 64 registers, two maps, and a place for each register
unfoldable pub soak_data : DocumentData
soak_data = record {
  parts = record { blocks = []; files = []; regs = each reg_data (range_with_len 0 64); mems = [] };
  maps = map_data (codes "bus") 2 Big (codes "plain") ∷ map_data (codes "per") 4 Little (codes "apb") ∷ [];
  places = each place_data (range_with_len 0 64);
  flaws = [];
}

-- The description is that table, whose rows have the right form and say that, whatever kinds of adapters there are.
-- The session opens with what these rows describe.
pub record DescriptionReads : Type 0 where
  pub is_table : document_of description_text ≡ Some soak_table
  pub has_form : document_fault soak_table ≡ None
  pub says : document_data soak_table ≡ soak_data
  pub fault : (kinds : List AdapterKind) → first_fault description_text kinds ≡ rows_fault soak_data kinds
  pub describes : (kinds : List AdapterKind) → description_of description_text kinds ≡ Some (described soak_data kinds)
  pub opens : (n : ℕ) (kinds : List AdapterKind)
      → opening_of (soak_text n) kinds ≡ said_by (rows_fault soak_data kinds) (Some (described soak_data kinds))

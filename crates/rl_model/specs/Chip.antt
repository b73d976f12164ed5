-- What a chip answers.
use Rattle.std.specs.Prelude.{◌≡◌, ◌≢◌, ◌⊎◌, true, false, nat_le, IsSomeAnd, sum_by, ℕ, ◌+◌, ◌*◌, ◌^◌, ◌<◌, ◌≤◌, ◌==◌, nat_lt, ◌&&◌, Bool, if◌then◌else◌}
use Rattle.std.specs.Prelude.{List, [], ◌∷◌, ◌++◌, length, map, take, slice_get, slice_index, Option, Some, None, option_map, unwrap_or, bytes_eq}
use Rattle.rl_model.specs.declared.rows.Item.{Item}
use Rattle.rl_model.specs.declared.rows.Item.TheVariants.{Reg, Mem}
use Rattle.std.specs.List.{list_any}
use Rattle.rl_model.specs.declared.rows.Field.{Field}
use Rattle.rl_model.specs.declared.rows.RegRow.{RegRow}
use Rattle.rl_model.specs.declared.rows.MemRow.{MemRow}
use Rattle.rl_model.specs.Rules.{is_name, names_in}
use Rattle.rl_model.specs.Paths.{AllDiffer}
use Rattle.rl_model.specs.Build.{first_kinds}
use Rattle.rl_model.specs.declared.rows.Reset.{Reset}
use Rattle.rl_model.specs.declared.sets.Skip.{Skip}
use Rattle.rl_model.specs.Rows.{FieldSeen, ChipData}

-- the item is there
abbrev pub HasItem : ChipData → Item → Type 0
HasItem c (Reg n) = n < length c.regs
HasItem c (Mem n) = n < length c.mems

abbrev pub bytes_of : ChipData → Item → Option ℕ
bytes_of c (Reg n) = option_map (λ r. r.bytes) (slice_get c.regs n)
bytes_of c (Mem n) = option_map (λ m. m.bytes) (slice_get c.mems n)

abbrev pub backdoor_of : ChipData → Item → Option Bool
backdoor_of c (Reg n) = option_map (λ r. r.backdoor) (slice_get c.regs n)
backdoor_of c (Mem n) = option_map (λ m. m.backdoor) (slice_get c.mems n)

-- rows without a backdoor, and else as they are
abbrev pub closed_reg : RegRow → RegRow
closed_reg r = record r { backdoor = false }

abbrev pub closed_mem : MemRow → MemRow
closed_mem m = record m { backdoor = false }

-- the chip as it is, but nothing in it has a backdoor
abbrev pub closed_chip : ChipData → ChipData
closed_chip c = record c { regs = map closed_reg c.regs; mems = map closed_mem c.mems }

-- The sequences that leave the item out, by the names of their resources (IEEE 1800.2-2017, Annex E).
abbrev pub skip_of : ChipData → Item → Option Skip
skip_of c (Reg n) = option_map (λ r. r.skip) (slice_get c.regs n)
skip_of c (Mem n) = option_map (λ m. m.skip) (slice_get c.mems n)

-- the place of an item's path
abbrev pub place_of : ChipData → Item → ℕ
place_of c (Reg n) = c.scopes + n
place_of c (Mem n) = c.scopes + length c.regs + n

abbrev pub path_at : ChipData → ℕ → List ℕ
path_at c i = unwrap_or (slice_get c.paths i) []

-- The hierarchical name, its names joined by dots (uvm_reg_block, IEEE 1800.2-2017, 18.1; uvm_reg_file, 18.3).
abbrev pub path_of_item : ChipData → Item → List ℕ
path_of_item c item = path_at c (place_of c item)

-- The value for a kind of reset (uvm_reg_field::set_reset, IEEE 1800.2-2017, 18.5).
abbrev pub value_for : ℕ → List Reset → Option ℕ
value_for kind [] = None
value_for kind (r ∷ rs) = if r.kind == kind then Some r.value else value_for kind rs

-- a path that goes on from the block's path
abbrev pub is_inside : List ℕ → List ℕ → Bool
is_inside block path =
    nat_lt (length block) (length path)
    && (bytes_eq (take (length block) path) block && slice_index path (length block) == 46)

-- the path is a name after the path of the scope with this number, a block or a file
pub record IsInScope (c : ChipData) (scope_number : ℕ) (path : List ℕ) : Type 0 where
  pub name : List ℕ
  pub scope : scope_number < c.scopes
  pub named : is_name name ≡ true
  pub joined : path ≡ path_at c scope_number ++ 46 ∷ name

-- the path is a name at the top, or stands in a block or file
abbrev pub HasParent : ChipData → List ℕ → Type 0
HasParent c path = (is_name path ≡ true) ⊎ ((s : ℕ) × IsInScope c s path)

-- up from the path through the scopes of the chain to the block, each stands in the next
abbrev pub IsChain : ChipData → ℕ → List ℕ → List ℕ → Type 0
IsChain c block [] path = IsInScope c block path
IsChain c block (s ∷ chain) path = IsInScope c s path × IsChain c block chain (path_at c s)

-- the block, or a block or file inside it, holds the path
abbrev pub Holds : ChipData → ℕ → List ℕ → Type 0
Holds c block path = (chain : List ℕ) × IsChain c block chain path

-- the path of a field
abbrev pub field_path : ChipData → FieldSeen → List ℕ
field_path c f = path_at c (c.scopes + f.shape.reg) ++ 46 ∷ f.name

-- field n is the register's, and has the name
abbrev pub IsNamed : ChipData → ℕ → List ℕ → ℕ → Type 0
IsNamed c reg name n = IsSomeAnd (slice_get c.fields n) (λ f. (f.shape.reg ≡ reg) × (f.name ≡ name))

abbrev pub one_later : Option ℕ → Bool → Option ℕ
one_later (Some i) b = Some (i + 1)
one_later None b = if b then Some 0 else None

-- the place of the last dot
abbrev pub last_dot : List ℕ → Option ℕ
last_dot [] = None
last_dot (c ∷ cs) = one_later (last_dot cs) (c == 46)

-- ---- what holds of every chip

abbrev pub RegFits : ChipData → RegRow → Type 0
RegFits c r = (1 ≤ r.bytes) × (r.bytes ≤ 8) × (r.first + r.count ≤ length c.fields)

-- field i is one of the register's fields, and inside the register
abbrev pub IsFieldOf : ℕ → Field → RegRow → Type 0
IsFieldOf i f r = (r.first ≤ i) × (i < r.first + r.count) × (f.lsb + f.width ≤ 8 * r.bytes)

abbrev pub FieldFits : ChipData → ℕ → FieldSeen → Type 0
FieldFits c i f =
    IsSomeAnd (slice_get c.regs f.shape.reg) (IsFieldOf i f.shape) × (1 ≤ f.shape.width) × (is_name f.name ≡ true)
    × (list_any (λ r. nat_le (2 ^ f.shape.width) r.value) f.resets ≡ false)

-- the kind is one of the chip's, and the value is below 2 to the power of the field's width
abbrev pub ResetFits : ChipData → FieldSeen → Reset → Type 0
ResetFits c f r = (r.kind < length c.kinds) × (r.value < 2 ^ f.shape.width)

-- the field is a register's, and its bits lie within 64
abbrev pub HasBits : ChipData → Field → Type 0
HasBits c f = (f.reg < length c.regs) × (1 ≤ f.width) × (f.width ≤ 64) × (f.lsb + f.width ≤ 64)

-- two fields of one register
abbrev pub AreApart : FieldSeen → FieldSeen → Type 0
AreApart f g =
    (f.name ≢ g.name) × ((f.shape.lsb + f.shape.width ≤ g.shape.lsb) ⊎ (g.shape.lsb + g.shape.width ≤ f.shape.lsb))

abbrev pub MemFits : MemRow → Type 0
MemFits m = (1 ≤ m.bytes) × (m.bytes ≤ 8) × (1 ≤ m.size)

-- counts are within their limits, fields lie in their registers and share no bit
pub record IsSound (c : ChipData) : Type 0 where
  pub blocks : c.blocks ≤ 256
  pub scopes : c.blocks ≤ c.scopes
  pub files : c.scopes ≤ 512
  pub regs : length c.regs ≤ 1024
  pub mems : length c.mems ≤ 64
  pub fields : length c.fields < 2 ^ 32
  pub kinds : length c.kinds ≤ 16
  -- HARD is 0 and SOFT is 1
  pub known_kinds : take 2 c.kinds ≡ first_kinds
  pub two_kinds : 2 ≤ length c.kinds
  pub paths : length c.paths ≡ c.scopes + length c.regs + length c.mems
  pub each_reg : (n : ℕ) (r : RegRow) → slice_get c.regs n ≡ Some r → RegFits c r
  pub each_field : (i : ℕ) (f : FieldSeen) → slice_get c.fields i ≡ Some f → FieldFits c i f
  -- a field that stands among a register's is that register's
  pub owned : (n i : ℕ) (r : RegRow) (f : FieldSeen) → slice_get c.regs n ≡ Some r → slice_get c.fields i ≡ Some f
      → r.first ≤ i → i < r.first + r.count → f.shape.reg ≡ n
  pub apart : (i j : ℕ) (f g : FieldSeen) → slice_get c.fields i ≡ Some f → slice_get c.fields j ≡ Some g → i < j
      → f.shape.reg ≡ g.shape.reg → AreApart f g
  pub each_mem : (n : ℕ) (m : MemRow) → slice_get c.mems n ≡ Some m → MemFits m
  pub locations : sum_by (λ m. m.size) c.mems ≤ 65536
  pub distinct_paths : AllDiffer c.paths
  pub distinct_kinds : AllDiffer c.kinds
  pub parents : (i : ℕ) → i < length c.paths → HasParent c (path_at c i)
  pub deep : (i : ℕ) → i < length c.paths → names_in (path_at c i) ≤ 8
  pub few_fields : (n : ℕ) (r : RegRow) → slice_get c.regs n ≡ Some r → r.count ≤ 64
  pub all_fields : length c.fields ≤ 65536
  -- the fields of the registers follow one another
  pub firsts : (n : ℕ) (r : RegRow) → slice_get c.regs n ≡ Some r → r.first ≡ sum_by (λ r. r.count) (take n c.regs)
  pub counts : length c.fields ≡ sum_by (λ r. r.count) c.regs
  pub each_reset : (i : ℕ) (f : FieldSeen) (k : ℕ) (r : Reset)
      → slice_get c.fields i ≡ Some f → slice_get f.resets k ≡ Some r
      → ResetFits c f r
  -- a field has at most one value for a kind
  pub one_value : (i : ℕ) (f : FieldSeen) (k l : ℕ) (r s : Reset)
      → slice_get c.fields i ≡ Some f → slice_get f.resets k ≡ Some r → slice_get f.resets l ≡ Some s
      → r.kind ≡ s.kind → k ≡ l

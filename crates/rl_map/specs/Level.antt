-- A path of address maps, from an item's own map up to the root.
use Rattle.std.specs.Prelude.{ℕ, ◌≤◌, List, [], ◌∷◌, length, All, if◌then◌else◌, Bool, false, true}
use Rattle.std.specs.List.{list_any}
use Rattle.rl_bus.specs.Lanes.{IsWidth}
use Rattle.rl_map.specs.declared.path.Kind.{Kind}
use Rattle.rl_map.specs.declared.path.Kind.TheVariants.{Little, Big, LittleFifo, BigFifo}
use Rattle.rl_map.specs.declared.path.Level.{Level}

-- at most four maps, each of 1, 2, 4 or 8 bytes
pub record IsPath (path : List Level) : Type 0 where
  pub short : length path ≤ 4
  pub widths : All (λ level. IsWidth level.bytes) path

-- How far apart two neighbouring words of a map are, in its own unit of addresses: bytes or words (uvm_reg_map, IEEE
-- 1800.2-2017, 18.2).
abbrev pub stride_of : Level → ℕ
stride_of level = if level.word then 1 else level.bytes

-- All words of an item go to one address (UVM_LITTLE_FIFO and UVM_BIG_FIFO of uvm_reg_map, IEEE 1800.2-2017, 18.2).
abbrev pub is_fifo : Kind → Bool
is_fifo Little = false
is_fifo Big = false
is_fifo LittleFifo = true
is_fifo BigFifo = true

abbrev pub has_fifo : List Level → Bool
has_fifo path = list_any (λ level. is_fifo level.kind) path

-- the width of the root; of no path at all it is 0
abbrev pub root_bytes : List Level → ℕ
root_bytes [] = 0
root_bytes (level ∷ []) = level.bytes
root_bytes (level ∷ up ∷ more) = root_bytes (up ∷ more)

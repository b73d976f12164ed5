-- The mark of a session: FNV-1a of 64 bits.
use Rattle.std.specs.Prelude.{ℕ, ◌*◌, ◌%◌, ◌^◌, List, [], ◌∷◌, bit_xor}

abbrev pub mark_with : (mark byte : ℕ) → ℕ
mark_with mark byte = bit_xor mark byte * 1099511628211 % 2 ^ 64

-- with these bytes behind those that were marked
unfoldable pub mark_from : (mark : ℕ) → List ℕ → ℕ
mark_from mark [] = mark
mark_from mark (byte ∷ bytes) = mark_from (mark_with mark byte) bytes

abbrev pub mark_of : List ℕ → ℕ
mark_of bytes = mark_from 14695981039346656037 bytes

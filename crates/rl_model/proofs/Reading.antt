-- What a call reads of the rows of an opened chip.
use Rattle.std.proofs.Common.{◌≡◌, ℕ, ◌<◌, List, length, get_or, slice_get, Some, refl, ap, subst}
use Rattle.std.specs.Prelude.{option_map}
use Rattle.std.proofs.lemmas.Option.{slice_get_read}
use Rattle.rl_model.specs.Rows.{ChipData}
use Rattle.rl_model.specs.Chip.{IsSound}

pub sound_as : (inside chip : ChipData) → inside ≡ chip → IsSound inside → IsSound chip
sound_as inside chip same sound = subst (λ (c : ChipData). IsSound c) same sound

-- a part of the row at a number
pub read_at : {X Y : Type 0} (part : X → Y) (rows : List X) (n : ℕ) (row : X) → n < length rows → row ≡ get_or rows n row → option_map part (slice_get rows n) ≡ Some (part row)
read_at part rows n row low is = ap (option_map part) (slice_get_read rows (length rows) n row refl low is)

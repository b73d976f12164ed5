-- The earlier bytes of a sink.
use Rattle.std.specs.Prelude.{◌≡◌, ℕ, List, length, take, Option, Some, IfSome, option_map}

-- what was written before is the front of what is written now
abbrev pub KeepsEarlier : (old new : Option (List ℕ)) → Type 0
KeepsEarlier old new = IfSome old (λ xs. option_map (take (length xs)) new ≡ Some xs)

-- What a buffered sink tells.
use Rattle.std.proofs.Common.{◌≡◌, ℕ, List, ◌++◌, Some, None, take, drop, ap, ◌∙◌, append_assoc, take-append-drop}
use Rattle.std.specs.declared.option.Option.{Option}
use Rattle.std.specs.Io.KnownBytes.{Appends, Keeps, append_known}

-- bytes that were kept back were written
pub told_after : (a b : Option (List ℕ)) (kept : List ℕ) (n : ℕ) → Appends a b (take n kept) → Keeps
    (append_known a kept) (append_known b (drop n kept))
told_after None b kept n h = tt
told_after (Some xs) None kept n h = absurd h
told_after (Some xs) (Some ys) kept n h =
    ap (λ l. l ++ drop n kept) h ∙ append_assoc xs (take n kept) (drop n kept) ∙ ap (λ l. xs ++ l) (take-append-drop n kept)

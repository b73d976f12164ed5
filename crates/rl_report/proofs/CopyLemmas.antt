-- A piece that is copied as its first and its last bytes.
use Rattle.std.proofs.Common.{◌≡◌, ℕ, ◌+◌, ◌-◌, ◌≤◌, List, ◌++◌, length, take, drop, sym, ap, ◌∙◌, arith, append_assoc, length-take-le}
use Rattle.std.proofs.Common.{length-drop, take-add, take-take, take_at, drop_at, take_all, take-append-drop}

-- of a front that was copied, a shorter one
front_copied : (old new piece : List ℕ) (end count rest stop : ℕ) → end ≤ length old → rest ≤ count → stop ≡ end + count
    → take stop new ≡ take end old ++ take count piece → take (end + rest) new ≡ take end old ++ take rest piece
front_copied old new piece end count rest stop within few is copied =
    let size = length-take-le end old within in
    let front = take end old in
    sym (take-take (end + rest) stop new (omega (arith, is)))
    ∙ ap (take (end + rest)) copied
    ∙ take-add end rest (front ++ take count piece)
    ∙ ap (λ l. l ++ take rest (drop end (front ++ take count piece))) (take_at front (take count piece) end size)
    ∙ ap (λ l. front ++ take rest l) (drop_at front (take count piece) end size)
    ∙ ap (λ l. front ++ l) (take-take rest count piece few)

-- the first and the last bytes of a piece, which may overlap, are the piece
pub ends_copied : (old mid new piece : List ℕ) (end count rest stop last : ℕ) → end ≤ length old → rest ≡ length piece - count → count ≤ length piece
    → length piece ≤ count + count → stop ≡ end + count
    → take stop mid ≡ take end old ++ take count piece → take last new ≡ take (end + rest) mid ++ take count (drop rest piece) → take last new ≡ take end old ++ piece
ends_copied old mid new piece end count rest stop last within is enough whole stops first second =
    let size : length (drop rest piece) ≡ length piece - rest = length-drop rest piece in
    second
    ∙ ap (λ l. l ++ take count (drop rest piece)) (front_copied old mid piece end count rest stop within (omega arith) stops first)
    ∙ append_assoc (take end old) (take rest piece) (take count (drop rest piece))
    ∙ ap (λ l. take end old ++ (take rest piece ++ l)) (take_all count (drop rest piece) (omega (arith, size)))
    ∙ ap (λ l. take end old ++ l) (take-append-drop rest piece)

-- Texts that are put together piece by piece.
use Rattle.std.proofs.Common.{◌≡◌, ℕ, suc, ◌+◌, ◌/◌, ◌%◌, ◌^◌, ◌<◌, List, [], ◌∷◌, ◌++◌, length, get_or, take, ap, sym, ◌∙◌, append_assoc, append-nil}
use Rattle.std.specs.List.{flat_map}
use Rattle.std.proofs.lemmas.List.{take_more}
use Rattle.std.proofs.lemmas.Grind.{flat_map-append}
use Rattle.rl_bus.specs.declared.transfer.ApbTransfer.{ApbTransfer}
use Rattle.rl_bus.specs.declared.transfer.ApbResponse.{ApbResponse}
use Rattle.rl_vcd.specs.declared.pins.Bus.{Bus}
use Rattle.rl_vcd.specs.Signals.{joined, binary}
use Rattle.rl_vcd.specs.Pins.{pins_at, changes}
use Rattle.rl_vcd.specs.Dump.{cycle_text, access_text}

-- the last piece
pub last : (t0 t1 a : List ℕ) → t1 ≡ t0 ++ a → t1 ≡ t0 ++ joined (a ∷ [])
unfolding joined
last t0 t1 a h = h ∙ ap (λ l. t0 ++ l) (sym (append-nil a))

-- a piece, and then the others
pub more : (t0 t1 t2 a : List ℕ) (rest : List (List ℕ)) → t1 ≡ t0 ++ a → t2 ≡ t1 ++ joined rest → t2 ≡ t0 ++ joined (a ∷ rest)
unfolding joined
more t0 t1 t2 a rest h k = k ∙ ap (λ l. l ++ joined rest) h ∙ append_assoc t0 a (joined rest)

-- two texts
pub both : (t0 t1 t2 a b : List ℕ) → t1 ≡ t0 ++ a → t2 ≡ t1 ++ b → t2 ≡ t0 ++ (a ++ b)
both t0 t1 t2 a b h k = k ∙ ap (λ l. l ++ b) h ∙ append_assoc t0 a b

-- a digit, and those below it
pub digits_more : (t0 t1 t2 : List ℕ) (digits low n d : ℕ) → digits ≡ suc low → d ≡ 48 + n / 2 ^ low % 2 → t1 ≡ t0 ++ d ∷ [] → t2 ≡ t1 ++ binary low n
    → t2 ≡ t0 ++ binary digits n
digits_more t0 t1 t2 digits low n d h e p q =
    q ∙ ap (λ l. l ++ binary low n) p ∙ append_assoc t0 (d ∷ []) (binary low n) ∙ ap (λ x. t0 ++ x ∷ binary low n) e ∙ ap (λ b. t0 ++ binary b n) (sym h)

next_of : {X : Type 0} (f : X → List ℕ) (xs : List X) (k : ℕ) (d : X) → k < length xs → flat_map f (take (k + 1) xs) ≡ flat_map f (take k xs) ++ f (get_or xs k d)
next_of f xs k d l = ap (flat_map f) (take_more xs k d l) ∙ flat_map-append f (take k xs) (get_or xs k d ∷ []) ∙ ap (λ t. flat_map f (take k xs) ++ t) (append-nil (f (get_or xs k d)))

-- the text of the next one
pub next_text : {X : Type 0} (f : X → List ℕ) (xs : List X) (k : ℕ) (d : X) (t0 t1 t2 : List ℕ) → k < length xs → t1 ≡ t0 ++ flat_map f (take k xs) → t2 ≡ t1 ++ f (get_or xs k d)
    → t2 ≡ t0 ++ flat_map f (take (k + 1) xs)
next_text f xs k d t0 t1 t2 l h e = both t0 t1 t2 (flat_map f (take k xs)) (f (get_or xs k d)) h e ∙ ap (λ t. t0 ++ t) (sym (next_of f xs k d l))

-- one more cycle of the access phase
pub access_more : (b : Bus) (t : ApbTransfer) (r : ApbResponse) (n k j : ℕ) (t0 t1 t2 : List ℕ) → j ≡ suc k → t1 ≡ t0 ++ access_text b t r n k
    → t2 ≡ t1 ++ cycle_text (n + k + 1) (changes b (pins_at t r k) (pins_at t r (k + 1))) → t2 ≡ t0 ++ access_text b t r n j
access_more b t r n k j t0 t1 t2 e h f =
    both t0 t1 t2 (access_text b t r n k) (cycle_text (n + k + 1) (changes b (pins_at t r k) (pins_at t r (k + 1)))) h f ∙ ap (λ i. t0 ++ access_text b t r n i) (sym e)

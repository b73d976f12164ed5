-- Lines that are put together piece by piece.
use Rattle.std.proofs.Common.{◌≡◌, ℕ, zero, suc, min, take, length, arith, ◌+◌, ◌/◌, ◌%◌, ◌^◌, List, [], ◌∷◌, ◌++◌, ap, sym, ◌∙◌, append_assoc, append-nil}
use Rattle.std.proofs.lemmas.List.{take_all}
use Rattle.rl_report.specs.Numbers.{lanes_text}
use Rattle.rl_report.specs.Pieces.{joined}

of_three : (a b c : List ℕ) → (([] ++ a) ++ b) ++ c ≡ joined (a ∷ b ∷ c ∷ [])
unfolding joined
of_three a b c = simp (append_assoc, append-nil)

pub pieces_of_three : (t0 t1 t2 t3 a b c : List ℕ) → t0 ≡ [] → t1 ≡ t0 ++ a → t2 ≡ t1 ++ b → t3 ≡ t2 ++ c → t3 ≡ joined (a ∷ b ∷ c ∷ [])
pieces_of_three t0 t1 t2 t3 a b c h0 h1 h2 h3 = h3 ∙ ap (λ l. l ++ c) (h2 ∙ ap (λ l. l ++ b) (h1 ∙ ap (λ l. l ++ a) h0)) ∙ of_three a b c

of_five : (a b c d e : List ℕ) → (((([] ++ a) ++ b) ++ c) ++ d) ++ e ≡ joined (a ∷ b ∷ c ∷ d ∷ e ∷ [])
unfolding joined
of_five a b c d e = simp (append_assoc, append-nil)

pub pieces_of_five : (t0 t1 t2 t3 t4 t5 a b c d e : List ℕ) → t0 ≡ [] → t1 ≡ t0 ++ a → t2 ≡ t1 ++ b → t3 ≡ t2 ++ c → t4 ≡ t3 ++ d → t5 ≡ t4 ++ e → t5 ≡ joined (a ∷ b ∷ c ∷ d ∷ e ∷ [])
pieces_of_five t0 t1 t2 t3 t4 t5 a b c d e h0 h1 h2 h3 h4 h5 =
    h5 ∙ ap (λ l. l ++ e) (h4 ∙ ap (λ l. l ++ d) (h3 ∙ ap (λ l. l ++ c) (h2 ∙ ap (λ l. l ++ b) (h1 ∙ ap (λ l. l ++ a) h0)))) ∙ of_five a b c d e

of_eleven : (a b c d e f g h i j k : List ℕ) → (((((((((([] ++ a) ++ b) ++ c) ++ d) ++ e) ++ f) ++ g) ++ h) ++ i) ++ j) ++ k
    ≡ joined (a ∷ b ∷ c ∷ d ∷ e ∷ f ∷ g ∷ h ∷ i ∷ j ∷ k ∷ [])
unfolding joined
of_eleven a b c d e f g h i j k = simp (append_assoc, append-nil)

pub pieces_of_eleven : (t0 t1 t2 t3 t4 t5 t6 t7 t8 t9 t10 t11 a b c d e f g h i j k : List ℕ) → t0 ≡ [] → t1 ≡ t0 ++ a → t2 ≡ t1 ++ b → t3 ≡ t2 ++ c → t4 ≡ t3 ++ d → t5 ≡ t4 ++ e
    → t6 ≡ t5 ++ f → t7 ≡ t6 ++ g → t8 ≡ t7 ++ h → t9 ≡ t8 ++ i → t10 ≡ t9 ++ j → t11 ≡ t10 ++ k
    → t11 ≡ joined (a ∷ b ∷ c ∷ d ∷ e ∷ f ∷ g ∷ h ∷ i ∷ j ∷ k ∷ [])
pieces_of_eleven t0 t1 t2 t3 t4 t5 t6 t7 t8 t9 t10 t11 a b c d e f g h i j k h0 h1 h2 h3 h4 h5 h6 h7 h8 h9 h10 h11 =
    h11 ∙ ap (λ l. l ++ k)
    (h10 ∙ ap (λ l. l ++ j)
    (h9 ∙ ap (λ l. l ++ i)
    (h8 ∙ ap (λ l. l ++ h)
    (h7 ∙ ap (λ l. l ++ g) (h6 ∙ ap (λ l. l ++ f) (h5 ∙ ap (λ l. l ++ e) (h4 ∙ ap (λ l. l ++ d) (h3 ∙ ap (λ l. l ++ c) (h2 ∙ ap (λ l. l ++ b) (h1 ∙ ap (λ l. l ++ a) h0))))))))))
    ∙ of_eleven a b c d e f g h i j k

-- a digit, and those of the lower lanes
pub lanes_more : (text t1 t2 : List ℕ) (bytes low lanes d : ℕ) → bytes ≡ suc low → d ≡ 48 + lanes / 2 ^ low % 2 → t1 ≡ text ++ d ∷ [] → t2 ≡ t1 ++ lanes_text low lanes
    → t2 ≡ text ++ lanes_text bytes lanes
lanes_more text t1 t2 bytes low lanes d h e p q =
    q ∙ ap (λ l. l ++ lanes_text low lanes) p ∙ append_assoc text (d ∷ []) (lanes_text low lanes) ∙ ap (λ x. text ++ x ∷ lanes_text low lanes) e
    ∙ ap (λ b. text ++ lanes_text b lanes) (sym h)

-- at most so many
most_of : (m : ℕ) (l : List ℕ) → take (min (length l) m) l ≡ take m l
most_of m [] =
    let none : min 0 m ≡ 0 = omega arith in
    ap (λ k. take {A = ℕ} k []) none ∙ sym (take_all m [] (omega arith))
most_of zero (x ∷ l) =
    let none : min (length (x ∷ l)) 0 ≡ 0 = omega arith in
    ap (λ k. take k (x ∷ l)) none
most_of (suc m) (x ∷ l) =
    let more : min (length (x ∷ l)) (suc m) ≡ suc (min (length l) m) = omega arith in
    ap (λ k. take k (x ∷ l)) more ∙ ap (λ t. x ∷ t) (most_of m l)

pub take_most : (n m : ℕ) (l : List ℕ) → n ≡ min (length l) m → take n l ≡ take m l
take_most n m l e = ap (λ k. take k l) e ∙ most_of m l

-- What is kept of an address.
use Rattle.std.proofs.Common.{◌≡◌, ℕ, ◌<◌, true, List, length, get_or, sym, arith, subst}
use Rattle.std.specs.Prelude.{All}
use Rattle.std.proofs.lemmas.Bool.Decides.{nat_tests}
use Rattle.rl_bus.specs.declared.table.WordRow.{WordRow}
use Rattle.rl_bus.specs.Setup.{stands_at}
use Rattle.rl_bench.specs.declared.find.Stretch.{Stretch}
use Rattle.rl_bench.specs.Stretch.{IsStretch, IsHint}

own_port : (w : WordRow) (p a : ℕ) → stands_at p a w ≡ true → w.port ≡ p
own_port w p a t = grind (arith, nat_tests)

own_address : (w : WordRow) (p a : ℕ) → stands_at p a w ≡ true → w.address ≡ a
own_address w p a t = grind (arith, nat_tests)

-- of the address where the first word stands
pub stretch_of_hint : (words : List WordRow) (s : Stretch) (p a : ℕ) (d : WordRow) → IsHint words s → s.first < s.end
    → stands_at p a (get_or words s.first d) ≡ true → IsStretch (stands_at p a) words s.first s.end
stretch_of_hint words s p a d h some t =
    let w : WordRow = get_or words s.first d in
    let P : ℕ → Type 0 = λ q. IsStretch (stands_at q w.address) words s.first s.end in
    let Q : ℕ → Type 0 = λ c. IsStretch (stands_at p c) words s.first s.end in
    subst Q (own_address w p a t) (subst P (own_port w p a t) (h d some))

pub hint_of_stretch : (words : List WordRow) (s : Stretch) (p a : ℕ) → IsStretch (stands_at p a) words s.first s.end → IsHint words s
hint_of_stretch words s p a h d some =
    let w : WordRow = get_or words s.first d in
    let t : stands_at p a w ≡ true = h.inside s.first d (omega arith) some in
    let P : ℕ → Type 0 = λ q. IsStretch (stands_at q a) words s.first s.end in
    let Q : ℕ → Type 0 = λ c. IsStretch (stands_at w.port c) words s.first s.end in
    subst Q (sym (own_address w p a t)) (subst P (sym (own_port w p a t)) h)

-- what a slot holds
pub hint_at : (words : List WordRow) (slots : List Stretch) (i : ℕ) (s : Stretch) → All (IsHint words) slots → i < length slots → s ≡ get_or slots i s → IsHint words s
hint_at words slots i s all inside e = subst (IsHint words) (sym e) (all i s inside)

-- The items of a chip, and what is numbered one after another.
use Rattle.std.proofs.Common.{◌≡◌, ℕ, zero, suc, ◌+◌, ◌<◌, ◌≤◌, List, [], ◌∷◌, ◌++◌, length, map, All, sym, ap, ◌∙◌, append_assoc, arith}
use Rattle.std.specs.List.{range_with_len}
use Rattle.std.proofs.lemmas.List.Elements.{All-append, All-cons, All-map, All-nil}
use Rattle.std.proofs.lemmas.List.FromFn.{map-range_with_len_more}
use Rattle.rl_model.specs.declared.rows.Item.TheVariants.{Reg, Mem}
use Rattle.rl_model.specs.Chip.{HasItem}
use Rattle.rl_model.specs.Rows.{ChipData}
use Rattle.rl_plan.specs.Text.{items_of}

-- one more behind those that were appended
pub numbered_more : {A : Type 0} (f : ℕ → A) (a k j : ℕ) (before now new : List A) → a + k ≡ j
    → now ≡ before ++ map f (range_with_len a k) → new ≡ now ++ f j ∷ [] → new ≡ before ++ map f (range_with_len a (k + 1))
numbered_more f a k j before now new at so is =
    is ∙ ap (λ xs. xs ++ f j ∷ []) so ∙ append_assoc before (map f (range_with_len a k)) (f j ∷ [])
    ∙ ap (λ xs. before ++ xs) (sym (map-range_with_len_more f a k j at))

pub numbers_below : (n s m : ℕ) → s + n ≤ m → All (λ k. k < m) (range_with_len s n)
numbers_below zero s m few = All-nil (λ k. k < m)
numbers_below (suc n) s m few =
    All-cons (λ k. k < m) s (range_with_len (s + 1) n) (omega arith) (numbers_below n (s + 1) m (omega arith))

-- each is there
pub items_there : (c : ChipData) → All (HasItem c) (items_of c)
items_there c =
    All-append (HasItem c) (map Reg (range_with_len 0 (length c.regs))) (map Mem (range_with_len 0 (length c.mems)))
    (All-map (HasItem c) Reg (range_with_len 0 (length c.regs)) (numbers_below (length c.regs) 0 (length c.regs) (omega arith)))
    (All-map (HasItem c) Mem (range_with_len 0 (length c.mems)) (numbers_below (length c.mems) 0 (length c.mems) (omega arith)))

-- Names one after another.
use Rattle.std.proofs.Common.{◌≡◌, ℕ, ◌+◌, ◌<◌, List, [], ◌∷◌, ◌++◌, length, get_or, take, map, Option, Some, None, refl, sym, ap, ◌∙◌}
use Rattle.std.specs.Prelude.{slice_get, option_map}
use Rattle.std.proofs.Common.{append-nil, codes}
use Rattle.rl_model.specs.Rows.{ChipData, FieldSeen}
use Rattle.rl_model.specs.Chip.{path_at, field_path}
use Rattle.rl_report.specs.Pieces.{joined}
use Rattle.std.proofs.lemmas.List.{take_more, map-append}
use Rattle.std.proofs.lemmas.Option.{slice_get_within, slice_get-get_or}

some_same : {X : Type 0} {a b : X} → Some a ≡ Some b → a ≡ b
some_same h = cc

pub mapped_next : {X Y : Type 0} (f : X → Y) (xs : List X) (k : ℕ) (d : X) → k < length xs → map f (take k xs) ++ f (get_or xs k d) ∷ [] ≡ map f (take (k + 1) xs)
mapped_next f xs k d l = sym (ap (map f) (take_more xs k d l) ∙ map-append f (take k xs) (get_or xs k d ∷ []))

pub next_is : {X : Type 0} (xs : List X) (k : ℕ) (x : X) → slice_get xs k ≡ Some x → take k xs ++ x ∷ [] ≡ take (k + 1) xs
next_is xs k x e =
    let l : k < length xs = slice_get_within xs k x e in
    let at : get_or xs k x ≡ x = some_same (sym (slice_get-get_or xs k x l) ∙ e) in
    ap (λ z. take k xs ++ z ∷ []) (sym at) ∙ sym (take_more xs k x l)

-- a register's path, a dot and a name
pub path_joined : (c : ChipData) (path name : List ℕ) (reg : ℕ) (f : FieldSeen) → path ≡ path_at c (c.scopes + reg) → reg ≡ f.shape.reg → name ≡ f.name
    → joined (path ∷ codes "." ∷ name ∷ []) ≡ field_path c f
unfolding joined
path_joined c path name reg f p r n =
    ap (λ l. l ++ 46 ∷ (name ++ [])) (p ∙ ap (λ k. path_at c (c.scopes + k)) r) ∙ ap (λ l. path_at c (c.scopes + f.shape.reg) ++ 46 ∷ l) (append-nil name ∙ n)

seen_by : {X Y : Type 0} (g : X → Y) (xs : List X) (k : ℕ) (d : X) (y : Y) (o : Option X) → slice_get xs k ≡ o → option_map g o ≡ Some y → g (get_or xs k d) ≡ y
seen_by g xs k d y None e h = absurd (cc)
seen_by g xs k d y (Some x) e h =
    let at : get_or xs k d ≡ x = some_same (sym (slice_get-get_or xs k d (slice_get_within xs k x e)) ∙ e) in
    ap g at ∙ some_same h

-- what stands at k, seen through a function
pub seen_at : {X Y : Type 0} (g : X → Y) (xs : List X) (k : ℕ) (d : X) (y : Y) → option_map g (slice_get xs k) ≡ Some y → g (get_or xs k d) ≡ y
seen_at g xs k d y h = seen_by g xs k d y (slice_get xs k) refl h

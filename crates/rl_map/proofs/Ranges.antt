-- Tests over the bytes of an item.
use Rattle.std.proofs.Common.{◌≡◌, ℕ, ◌<◌, ◌==◌, ◌||◌, Bool, true, false, List, [], ◌∷◌, refl, ap, ◌∙◌}
use Rattle.std.specs.List.{list_any, range_with_len}
use Rattle.std.specs.Prelude.{map}
use Rattle.rl_map.specs.declared.path.Level.{Level}
use Rattle.rl_map.specs.declared.seat.Location.{Location}
use Rattle.rl_map.specs.Access.{climb}
use Rattle.rl_map.specs.Seat.{access_of, seat_of}
use Rattle.rl_map.specs.Words.{seats_of}
use Rattle.rl_map.proofs.Growing.{is_none_of, is_some_of}

mapped_any : {X Y : Type 0} (f : X → Y) (p : Y → Bool) (xs : List X) → list_any p (map f xs) ≡ list_any (λ x. p (f x)) xs
mapped_any f p [] = refl
mapped_any f p (x ∷ xs) = ap (λ t. p (f x) || t) (mapped_any f p xs)

pub has_order_of : (path : List Level) (base : ℕ) (item : Location) (order j : ℕ) → j < item.bytes → ((climb (access_of item j) path).order == order) ≡ true
    → list_any (λ seat. seat.order == order) (seats_of path base item) ≡ true
has_order_of path base item order j low e =
    mapped_any (seat_of path base item) (λ seat. seat.order == order) (range_with_len 0 item.bytes)
    ∙ is_some_of (λ j. (climb (access_of item j) path).order == order) item.bytes j low e

pub no_order_of : (path : List Level) (base : ℕ) (item : Location) (order : ℕ) → ((j : ℕ) → j < item.bytes → ((climb (access_of item j) path).order == order) ≡ false)
    → list_any (λ seat. seat.order == order) (seats_of path base item) ≡ false
no_order_of path base item order h =
    mapped_any (seat_of path base item) (λ seat. seat.order == order) (range_with_len 0 item.bytes)
    ∙ is_none_of (λ j. (climb (access_of item j) path).order == order) item.bytes h

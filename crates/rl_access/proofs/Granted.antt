-- What a grant says of the place.
use Rattle.std.proofs.Common.{◌≡◌, ℕ, Bool, true, false, Option, None, Some, Ok, Err, refl, subst}
use Rattle.rl_model.specs.declared.rows.Item.{Item}
use Rattle.rl_model.specs.declared.rows.Item.TheVariants as item
use Rattle.rl_map.specs.Layout.{LayoutData, place_at, port_at, place_of, has_right}
use Rattle.rl_map.proofs.Lookups.{place_there}
use Rattle.rl_access.specs.declared.event.Refused.{Refused}
use Rattle.rl_access.specs.declared.event.Refused.TheVariants.{NoRight, NotObserved}
use Rattle.rl_access.specs.Access.{IsPlaceIn}
use Rattle.rl_access.specs.Model.{ModelData}
use Rattle.rl_access.specs.Rules.{Grant, only_where, placed, with_right, with_watch, way, watched_way}

pub only_ok : (g : Grant) (holds : Bool) (why : Refused) (place : ℕ) → only_where g holds why ≡ Ok place → (g ≡ Ok place) × (holds ≡ true)
only_ok (Ok p) true why place e = (e, refl)
only_ok (Ok p) false why place e = absurd (cc)
only_ok (Err first) holds why place e = absurd (cc)

pub placed_ok : (o : Option ℕ) (place : ℕ) → placed o ≡ Ok place → o ≡ Some place
placed_ok None place e = absurd (cc)
placed_ok (Some p) place e = cc

pub right_ok : (l : LayoutData) (write : Bool) (g : Grant) (place : ℕ) → with_right l write g ≡ Ok place → (g ≡ Ok place) × (has_right (place_at l place).rights write ≡ true)
right_ok l write (Ok p) place e =
    let both = only_ok (Ok p) (has_right (place_at l p).rights write) NoRight place e in
    let first : Ok p ≡ Ok place = both.0 in
    let same : p ≡ place = cc in
    (first, subst (λ n. has_right (place_at l n).rights write ≡ true) same both.1)
right_ok l write (Err first) place e = absurd (cc)

pub watch_ok : (l : LayoutData) (g : Grant) (place : ℕ) → with_watch l g ≡ Ok place → (g ≡ Ok place) × ((port_at l (place_at l place).port).explicit ≡ true)
watch_ok l (Ok p) place e =
    let both = only_ok (Ok p) (port_at l (place_at l p).port).explicit NotObserved place e in
    let first : Ok p ≡ Ok place = both.0 in
    let same : p ≡ place = cc in
    (first, subst (λ n. (port_at l (place_at l n).port).explicit ≡ true) same both.1)
watch_ok l (Err first) place e = absurd (cc)

pub place_found : (l : LayoutData) (i : Item) (map : Option ℕ) (place : ℕ) → place_of l i map ≡ Some place → IsPlaceIn l i place
place_found l i map place e = let at = place_there l i map place e in record { inside = at.0; item_is = at.1 }

-- a place of the item with the right of the direction
pub record IsWay (l : LayoutData) (i : Item) (write : Bool) (place : ℕ) : Type 0 where
  pub there : IsPlaceIn l i place
  pub right : has_right (place_at l place).rights write ≡ true

pub way_found : (m : ModelData) (i : Item) (map : Option ℕ) (write : Bool) (place : ℕ) → way m i map write ≡ Ok place → IsWay m.layout i write place
way_found m i map write place e =
    let both = right_ok m.layout write (placed (place_of m.layout i map)) place e in
    record { there = place_found m.layout i map place (placed_ok (place_of m.layout i map) place both.0); right = both.1 }

-- and under a root that a predictor watches
pub record IsWatchedWay (l : LayoutData) (reg : ℕ) (map : Option ℕ) (write : Bool) (place : ℕ) : Type 0 where
  pub found : place_of l (item.Reg reg) map ≡ Some place
  pub way : IsWay l (item.Reg reg) write place
  pub explicit : (port_at l (place_at l place).port).explicit ≡ true

pub watched_way_found : (m : ModelData) (reg : ℕ) (map : Option ℕ) (write : Bool) (place : ℕ) → watched_way m reg map write ≡ Ok place → IsWatchedWay m.layout reg map write place
watched_way_found m reg map write place e =
    let l = m.layout in
    let right = right_ok l write (with_watch l (placed (place_of l (item.Reg reg) map))) place e in
    let watch = watch_ok l (placed (place_of l (item.Reg reg) map)) place right.0 in
    let found = placed_ok (place_of l (item.Reg reg) map) place watch.0 in
    record { found = found; way = record { there = place_found l (item.Reg reg) map place found; right = right.1 }; explicit = watch.1 }

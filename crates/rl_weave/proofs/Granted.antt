-- What a grant of another master's access says of its place.
use Rattle.std.proofs.Common.{◌≡◌, ℕ, ◌^◌, ◌<◌, nat_lt, ltb, true, Option, None, Some, is_some, Ok, sym, subst, arith}
use Rattle.std.specs.Prelude.{unwrap_or}
use Rattle.std.proofs.lemmas.Bool.Decides.{nat_tests}
use Rattle.rl_model.specs.declared.rows.Item.TheVariants as item
use Rattle.rl_model.specs.Fields.{size_of}
use Rattle.rl_map.specs.Layout.{LayoutData, place_at, port_at, place_of, has_right}
use Rattle.rl_access.specs.declared.event.Refused.TheVariants.{TooWide}
use Rattle.rl_access.specs.declared.trace.TraceItem.{TraceItem}
use Rattle.rl_access.specs.Access.{IsPlaceIn}
use Rattle.rl_access.specs.Gathering.{IsRegister, IsRegisterPlace}
use Rattle.rl_access.specs.Model.{ModelData, IsModel}
use Rattle.rl_access.specs.Observed.{observing}
use Rattle.rl_access.specs.Rules.{watched_way, grant}
use Rattle.rl_access.proofs.Bytes.{zero_fits}
use Rattle.rl_access.proofs.Granted.{only_ok, watched_way_found}
use Rattle.rl_access.proofs.Places.{place_size}
use Rattle.rl_weave.specs.declared.woven.Woven.{Woven}
use Rattle.rl_weave.specs.Access.{op_with, IsWovenOn}

pub record IsGranted (m : ModelData) (reg : ℕ) (map value : Option ℕ) (place : ℕ) : Type 0 where
  pub found : place_of m.layout (item.Reg reg) map ≡ Some place
  pub there : IsPlaceIn m.layout (item.Reg reg) place
  pub explicit : (port_at m.layout (place_at m.layout place).port).explicit ≡ true
  pub right : has_right (place_at m.layout place).rights (is_some value) ≡ true
  pub fits : unwrap_or value 0 < 256 ^ size_of m.chip reg

watched : (m : ModelData) (reg : ℕ) (map value : Option ℕ) (place : ℕ) → watched_way m reg map (is_some value) ≡ Ok place →
    unwrap_or value 0 < 256 ^ size_of m.chip reg → IsGranted m reg map value place
watched m reg map value place e fits =
    let at = watched_way_found m reg map (is_some value) place e in
    record { found = at.found; there = at.way.there; explicit = at.explicit; right = at.way.right; fits = fits }

below : (a b : ℕ) → ltb a b ≡ true → a < b
below a b e = grind (arith, nat_tests)

pub granted_is : (m : ModelData) (reg : ℕ) (map value : Option ℕ) (place : ℕ) → grant m (op_with reg map value) ≡ Ok place →
    IsGranted m reg map value place
granted_is m reg map None place e = watched m reg map None place e (zero_fits 256 (size_of m.chip reg) (omega arith))
granted_is m reg map (Some value) place e =
    let both = only_ok (watched_way m reg map true) (nat_lt value (256 ^ size_of m.chip reg)) TooWide place e in
    watched m reg map (Some value) place both.0 (below value (256 ^ size_of m.chip reg) both.1)

pub register_place : (l : LayoutData) (reg place : ℕ) → IsPlaceIn l (item.Reg reg) place → IsRegisterPlace l place
register_place l reg place at = record { inside = at.inside; register = subst IsRegister (sym at.item_is) tt }

pub granted_size : (m : ModelData) (reg : ℕ) (map value : Option ℕ) (place : ℕ) → IsModel m → IsGranted m reg map value place →
    (place_at m.layout place).bytes ≡ size_of m.chip reg
granted_size m reg map value place ok at = place_size m (item.Reg reg) place ok at.there

pub granted_value : (m : ModelData) (reg : ℕ) (map value : Option ℕ) (place : ℕ) → IsModel m → IsGranted m reg map value place →
    unwrap_or value 0 < 256 ^ (place_at m.layout place).bytes
granted_value m reg map value place ok at = subst (λ n. unwrap_or value 0 < 256 ^ n) (sym (granted_size m reg map value place ok at)) at.fits

-- ---- a model whose predictor saw an item

grant_observing : (m : ModelData) (item : TraceItem) (reg : ℕ) (map value : Option ℕ) (place : ℕ) → grant m (op_with reg map value) ≡ Ok place →
    grant (observing m item) (op_with reg map value) ≡ Ok place
grant_observing m item reg map None place e = e
grant_observing m item reg map (Some value) place e = e

pub woven_observing : (m new : ModelData) (item : TraceItem) (v : Woven) → new ≡ observing m item → IsWovenOn m v → IsWovenOn new v
woven_observing m new item v e on =
    subst (λ x. IsWovenOn x v) (sym e) (record {
      numbers = on.numbers;
      granted = grant_observing m item v.access.reg v.access.map v.access.value v.place on.granted;
      words = on.words;
      items = on.items;
    })

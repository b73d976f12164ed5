use Rattle.std.proofs.Common.{◌≡◌, ℕ, ◌+◌, ◌*◌, ◌^◌, ◌<◌, ◌≤◌, List, length, get_or, sym, ap, subst, arith, add-one}
use Rattle.std.proofs.Math.Nat.{pow-le-pow_right, pow-succ'}
use Rattle.rl_map.specs.declared.path.Level.{Level}
use Rattle.rl_map.specs.declared.seat.Access.{Access}
use Rattle.rl_bus.specs.Lanes.{IsWidth}
use Rattle.rl_map.specs.Level.{IsPath}
use Rattle.rl_map.specs.Access.{IsAccess, through}
use Rattle.rl_map.proofs.Chunks.{through_access, order_lt, address_lt}

-- after `i` maps the numbers of an access are this small
pub record HasRoom (i : ℕ) (access : Access) : Type 0 where
  pub is_access : IsAccess access
  pub offset : access.offset < 2 ^ 64
  pub address : access.address < 2 ^ 68 * 16 ^ i
  pub order : access.order < 16 ^ i

pub through_room : (i : ℕ) (a : Access) (m : Level) → HasRoom i a → IsWidth m.bytes → m.offset < 2 ^ 64 → HasRoom (i + 1) (through a m)
through_room i a m room w fits =
    let more : 16 ^ (i + 1) ≡ 16 * 16 ^ i = rw add-one (pow-succ' 16 i) in
    record {
      is_access = through_access a m w;
      offset = fits;
      address = rw more (address_lt a m (16 ^ i) room.is_access w room.offset room.address);
      order = rw more (omega (arith, order_lt a m (16 ^ i) room.is_access w room.order));
    }

pub room_next : (path : List Level) (i : ℕ) (a b : Access) (none : Level) → IsPath path → i < length path → HasRoom i a → b ≡ through a (get_or path i none) → b.offset < 2 ^ 64 → HasRoom (i + 1) b
room_next path i a b none ok low room e fits =
    let level = get_or path i none in
    subst (HasRoom (i + 1)) (sym e) (through_room i a level room (ok.widths i none low) (omega (arith, fits, ap (λ (x : Access). x.offset) e)))

-- a path has at most four maps
room_in_four : (i : ℕ) → i ≤ 4 → 16 ^ i ≤ 2 ^ 16
room_in_four i short = pow-le-pow_right {n = 16} (omega arith) short

pub address_fits : (i : ℕ) (a : Access) → i ≤ 4 → HasRoom i a → a.address < 2 ^ 100
address_fits i a short room = omega (arith, room.address, room_in_four i short)

pub order_fits : (i : ℕ) (a : Access) → i ≤ 4 → HasRoom i a → a.order < 2 ^ 24
order_fits i a short room = omega (arith, room.order, room_in_four i short)

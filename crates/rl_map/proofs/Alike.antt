use Rattle.std.proofs.Common.{◌≡◌, ℕ, ◌+◌, ◌*◌, ◌/◌, ◌%◌, false, List, [], ◌∷◌, arith, ap, ◌∙◌, refl}
use Rattle.std.specs.Int.{div_ceil}
use Rattle.std.specs.List.{AllByRecursion}
use Rattle.std.proofs.lemmas.List.Elements.{recursion_from_All}
use Rattle.rl_map.specs.declared.path.Level.{Level}
use Rattle.rl_map.specs.declared.seat.Access.{Access}
use Rattle.rl_map.specs.declared.seat.Location.{Location}
use Rattle.rl_map.specs.declared.seat.Seat.{Seat}
use Rattle.rl_map.specs.Access.{climb, through, address_of}
use Rattle.rl_map.specs.Seat.{seat_of, access_of}
use Rattle.rl_map.specs.Laws.{byte_climb, byte_seat_of, ByteAddressedAlike}

abbrev AllBytes : List Level → Type 0
AllBytes path = AllByRecursion (λ map. map.word ≡ false) path

abbrev pub seat_at : ℕ → Access → Seat
seat_at base top = record { order = top.order; address = base + top.address; lane = top.byte }

climbs_alike : (base : ℕ) (path : List Level) → AllBytes path → (a : Access) → a.word ≡ false
    → seat_at base (climb a path) ≡ byte_climb base path a.offset a.address a.bytes a.byte a.order
climbs_alike base [] all a e = refl
climbs_alike base (map ∷ up) all a e =
    climbs_alike base up all.1 (through a map) all.0 ∙ ap (λ x. byte_climb base up map.offset x map.bytes (a.byte % map.bytes) (through a map).order) (rw (e, all.0) refl)

swapped : (x c n : ℕ) → x * c * n ≡ x * n * c
swapped x c n = omega arith

alike_path : (path : List Level) → AllBytes path → (base : ℕ) (item : Location) (byte : ℕ) → seat_of path base item byte ≡ byte_seat_of path base item byte
alike_path [] all base item byte = refl
alike_path (map ∷ up) all base item byte =
    let a = access_of item byte in
    climbs_alike base up all.1 (through a map) all.0
    ∙ ap (λ x. byte_climb base up map.offset x map.bytes (byte % map.bytes) (through a map).order)
    (rw all.0 (ap (λ x. address_of map.kind (item.offset + x) map.bytes (div_ceil item.bytes map.bytes) (byte / map.bytes))
    (swapped item.index (div_ceil item.bytes map.bytes) map.bytes)))

pub alike : ByteAddressedAlike
alike path base item byte all = alike_path path (recursion_from_All (λ map. map.word ≡ false) path all) base item byte

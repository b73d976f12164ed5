use Rattle.std.proofs.Common.{◌≡◌, ◌^◌, ◌<◌, length, sym, ap, ◌∙◌, subst}
use Rattle.rl_map.specs.declared.rows.MapRow.{MapRow}
use Rattle.rl_map.specs.Level.{IsPath}
use Rattle.rl_map.specs.declared.rows.PlaceRow.{PlaceRow}
use Rattle.rl_map.specs.declared.seat.Seat.{Seat}
use Rattle.rl_map.specs.Layout.{no_map, no_port, no_place, place_at, map_at, port_at, IsLocation, IsSound}
use Rattle.rl_map.proofs.Lookups.{read_is, seat_shown}
use Rattle.rl_map.proofs.Opened.{opened}
use Rattle.rl_map.proofs.layout.Layout.seat.Goals as goal

pub seat-requires-clause-fits : goal.seat-requires-clause-fits
seat-requires-clause-fits c =
    let l = opened c.self.inside in
    let sound : IsSound l = c.self.invariant.0 in
    let there : IsLocation l c.args.place c.args.index = subst (λ v. IsLocation v c.args.place c.args.index) (sym c.self.view_is) c.requires.location in
    let byte_in : c.args.byte < (place_at l c.args.place).bytes = subst (λ v. c.args.byte < (place_at v c.args.place).bytes) (sym c.self.view_is) c.requires.byte in
    let row_is : c.index-row.result.now ≡ place_at l c.args.place = read_is l.places c.args.place _ no_place there.place_in c.index-row.ensures in
    let place = sound.each_place c.args.place there.place_in in
    let map_is : c.index-map.result.now ≡ map_at l c.index-row.result.now.map =
    read_is l.maps c.index-row.result.now.map _ no_map (subst (λ (r : PlaceRow). r.map < length l.maps) (sym row_is) place.map) c.index-map.ensures in
    let port_is : c.index-port.result.now ≡ port_at l c.index-row.result.now.port =
    read_is l.ports c.index-row.result.now.port _ no_port (subst (λ (r : PlaceRow). r.port < length l.ports) (sym row_is) place.port_in) c.index-port.ensures in
    let same = seat_shown l c.args.place c.args.index c.from.result c.index-row.result.now c.index-map.result.now c.index-port.result.now c.levels.result.now c.location.result
    row_is map_is port_is c.levels.ensures.levels c.location.ensures in
    subst (λ (s : Seat). s.address < 2 ^ 64) (sym same)
    ((sound.each_location c.args.place c.args.index there).fits c.from.result (subst (λ n. n < (place_at l c.args.place).bytes) (sym c.from.ensures) byte_in))

pub seat-requires-clause-path : goal.seat-requires-clause-path
seat-requires-clause-path c =
    let l = opened c.self.inside in
    let sound : IsSound l = c.self.invariant.0 in
    let there : IsLocation l c.args.place c.args.index = subst (λ v. IsLocation v c.args.place c.args.index) (sym c.self.view_is) c.requires.location in
    let row_is : c.index-row.result.now ≡ place_at l c.args.place = read_is l.places c.args.place _ no_place there.place_in c.index-row.ensures in
    let inside : c.index-row.result.now.map < length l.maps = subst (λ (r : PlaceRow). r.map < length l.maps) (sym row_is) (sound.each_place c.args.place there.place_in).map in
    let map_is : c.index-map.result.now ≡ map_at l c.index-row.result.now.map = read_is l.maps c.index-row.result.now.map _ no_map inside c.index-map.ensures in
    subst IsPath (sym (c.levels.ensures.levels ∙ ap (λ (m : MapRow). m.path) map_is)) (sound.each_map c.index-row.result.now.map inside).path

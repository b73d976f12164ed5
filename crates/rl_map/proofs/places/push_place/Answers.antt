use Rattle.std.proofs.Common.{◌≡◌, ◌*◌, ◌++◌, sym, ap, ◌∙◌, subst, arith}
use Rattle.std.specs.Prelude.{flat_map}
use Rattle.std.specs.List.{range_with_len}
use Rattle.rl_map.specs.Layout.{location_of}
use Rattle.rl_map.specs.Level.{IsPath}
use Rattle.rl_map.specs.Locations.{AreStraight}
use Rattle.rl_map.specs.Building.{path_in, port_for, location_rows_of}
use Rattle.rl_map.proofs.Placing.{location_more}
use Rattle.rl_map.proofs.Keeping.{low_words, kept_of, path_read, fits_read}
use Rattle.rl_map.proofs.places.push_place.Goals as goal

pub location-words-requires : goal.location-words-requires
location-words-requires c =
    let maps = c.args.maps.now in
    let ports = c.args.ports.now in
    let p = c.args.place.now in
    let i = c.loop-index.index in
    let kept = c.of-kept.result in
    let all = kept_of maps ports p _ _ _ _ kept c.requires.map c.requires.port c.index-maps-place.is c.index-ports-place.is c.levels.ensures.levels c.location.ensures c.of-kept.ensures in
    low_words (path_in maps p) (port_for ports p).base (location_of p i) kept.words (i * kept.step) c.requires.path c.requires.most
    (c.requires.fits i c.loop-index-test.true) (all i c.loop-index-test.true)

pub loop-index-preserved : goal.loop-index-preserved
loop-index-preserved c =
    let maps = c.args.maps.now in
    let ports = c.args.ports.now in
    let p = c.args.place.now in
    let i = c.loop-index.index in
    let all = kept_of maps ports p _ _ _ _ c.of-kept.result c.requires.map c.requires.port c.index-maps-place.is c.index-ports-place.is c.levels.ensures.levels c.location.ensures c.of-kept.ensures in
    location_more maps ports c.args.number p i _ _ _ c.as_slice.result.now c.loop-index.invariant c.in_ok-push_words.ensures
    (c.as_slice.ensures.words ∙ c.location-words.ensures ∙ sym (all i c.loop-index-test.true))

pub of-kept-requires-clause-path : goal.of-kept-requires-clause-path
of-kept-requires-clause-path c = subst IsPath (sym (path_read c.args.maps.now c.args.place.now _ _ c.requires.map c.index-maps-place.is c.levels.ensures.levels)) c.requires.path

pub of-kept-requires-clause-fits : goal.of-kept-requires-clause-fits
of-kept-requires-clause-fits c =
    fits_read c.args.maps.now c.args.ports.now c.args.place.now _ _ _ _ c.requires.map c.requires.port c.index-maps-place.is c.index-ports-place.is c.levels.ensures.levels c.location.ensures
    c.requires.fits

pub of-kept-requires-clause-straight : goal.of-kept-requires-clause-straight
of-kept-requires-clause-straight c =
    let p = c.args.place.now in
    subst (λ path. AreStraight path c.location.result p.size) (sym (path_read c.args.maps.now p _ _ c.requires.map c.index-maps-place.is c.levels.ensures.levels))
    (subst (λ item. AreStraight (path_in c.args.maps.now p) item p.size) (sym c.location.ensures) c.requires.straight)

pub returns-clause-rows : goal.returns-clause-rows
returns-clause-rows c =
    let p = c.args.place.now in
    let rows = location_rows_of c.args.maps.now c.args.ports.now c.args.number p in
    let whole : c.loop-index.index ≡ p.size = omega (arith, c.loop-index-test.false) in
    c.loop-index.invariant ∙ ap (λ n. c.args.rows.now.items ++ flat_map rows (range_with_len 0 n)) whole

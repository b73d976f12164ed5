use Rattle.std.proofs.Common.{◌<◌, length, sym, ◌∙◌, subst, arith}
use Rattle.rl_map.specs.declared.rows.MapRow.{MapRow}
use Rattle.rl_map.specs.declared.rows.PortRow.{PortRow}
use Rattle.rl_map.specs.Level.{IsPath}
use Rattle.rl_map.specs.Layout.{no_map}
use Rattle.rl_map.proofs.Chunks.{some_width}
use Rattle.rl_map.proofs.Placing.{room_is}
use Rattle.std.proofs.lemmas.Result.{err_from_is_err_and}
use Rattle.rl_map.proofs.Accepting.{own_many, own_absent, own_twice, own_lined, own_words, row_seat, told}
use Rattle.rl_map.proofs.checks.checked_place.Goals as goal

pub returns-clause-room : goal.returns-clause-room
returns-clause-room c =
    let row = c.in_ok-row.row in
    let placed = c.in_ok-row.ensures.placed in
    room_is c.args.maps.now c.args.ports.now c.args.words row c.index-maps-row.result c.index-ports-row.result c.levels.result.now placed.map
    (subst (λ n. n < length c.args.ports.now) (sym placed.port) (c.requires.tables.1.each_map row.map no_map placed.map).port)
    c.index-maps-row.is c.index-ports-row.is c.levels.ensures.levels c.in_ok-check_words.ensures.room c.in_ok-check_words.ensures.seated

pub returns-clause-once : goal.returns-clause-once
returns-clause-once c = sym c.is_placed.ensures ∙ c.if-is_placed.false

pub returns-in_err-check_fifo-clause-fault : goal.returns-in_err-check_fifo-clause-fault
returns-in_err-check_fifo-clause-fault c =
    let p = err_from_is_err_and c.from_residual-in_err-check_fifo.result c.from_residual-in_err-check_fifo.ensures.1 in
    told c.from_residual-in_err-check_fifo.result _ c.in_err-check_fifo.field-0.0 p.0 p.1 p.2
    (own_lined c.args.chip.now c.args.maps.now c.args.ports.now c.args.places.now c.args.words c.args.part.now c.in_ok-row.row _ (omega arith) c.in_ok-row.ensures.fault c.in_ok-row.ensures.row
    (sym c.is_placed.ensures ∙ c.if-is_placed.false) c.in_err-check_fifo.ensures.fault)

pub returns-in_err-check_words-clause-fault : goal.returns-in_err-check_words-clause-fault
returns-in_err-check_words-clause-fault c =
    let row = c.in_ok-row.row in
    let at = row_seat c.args.chip.now c.args.maps.now c.args.ports.now row c.index-maps-row.result c.index-ports-row.result c.levels.result.now c.requires.tables
    c.in_ok-row.ensures.placed c.index-maps-row.is c.index-ports-row.is c.levels.ensures.levels in
    let p = err_from_is_err_and c.from_residual-in_err-check_words.result c.from_residual-in_err-check_words.ensures.1 in
    told c.from_residual-in_err-check_words.result _ c.in_err-check_words.field-0.0 p.0 p.1 p.2
    (own_words c.args.chip.now c.args.maps.now c.args.ports.now c.args.places.now c.args.words c.args.part.now row _ (omega arith) c.in_ok-row.ensures.fault c.in_ok-row.ensures.row
    (sym c.is_placed.ensures ∙ c.if-is_placed.false) c.in_ok-check_fifo.ensures.fault at ∙ c.in_err-check_words.ensures.fault)

pub returns-clause-fault : goal.returns-clause-fault
returns-clause-fault c =
    let row = c.in_ok-row.row in
    let at = row_seat c.args.chip.now c.args.maps.now c.args.ports.now row c.index-maps-row.result c.index-ports-row.result c.levels.result.now c.requires.tables
    c.in_ok-row.ensures.placed c.index-maps-row.is c.index-ports-row.is c.levels.ensures.levels in
    own_words c.args.chip.now c.args.maps.now c.args.ports.now c.args.places.now c.args.words c.args.part.now row _ (omega arith) c.in_ok-row.ensures.fault c.in_ok-row.ensures.row
    (sym c.is_placed.ensures ∙ c.if-is_placed.false) c.in_ok-check_fifo.ensures.fault at ∙ c.in_ok-check_words.ensures.fault

pub returns-then-places-ge-MOST_PLACES-clause-fault : goal.returns-then-places-ge-MOST_PLACES-clause-fault
returns-then-places-ge-MOST_PLACES-clause-fault c =
    own_many c.args.chip.now c.args.maps.now c.args.ports.now c.args.places.now c.args.words c.args.part.now c.if-places-ge-MOST_PLACES.true

pub returns-in_err-row-clause-fault : goal.returns-in_err-row-clause-fault
returns-in_err-row-clause-fault c =
    let p = err_from_is_err_and c.from_residual.result c.from_residual.ensures.1 in
    told c.from_residual.result _ c.in_err-row.field-0.0 p.0 p.1 p.2
    (own_absent c.args.chip.now c.args.maps.now c.args.ports.now c.args.places.now c.args.words c.args.part.now _ (omega arith) c.in_err-row.ensures.fault)

pub returns-then-is_placed-clause-fault : goal.returns-then-is_placed-clause-fault
returns-then-is_placed-clause-fault c =
    own_twice c.args.chip.now c.args.maps.now c.args.ports.now c.args.places.now c.args.words c.args.part.now c.in_ok-row.row (omega arith) c.in_ok-row.ensures.fault c.in_ok-row.ensures.row
    (sym c.is_placed.ensures ∙ c.if-is_placed.true)

pub returns-clause-row : goal.returns-clause-row
returns-clause-row c =
    let row = c.in_ok-row.row in
    let placed = c.in_ok-row.ensures.placed in
    record {
      placed = placed;
      port_in = subst (λ n. n < length c.args.ports.now) (sym placed.port) (c.requires.tables.1.each_map row.map no_map placed.map).port;
      mem = c.in_ok-check_fifo.ensures.mem;
    }

pub bounds-ports-row : goal.bounds-ports-row
bounds-ports-row c =
    let placed = c.in_ok-row.ensures.placed in
    subst (λ n. n < length c.args.ports.now) (sym placed.port) (c.requires.tables.1.each_map c.in_ok-row.row.map no_map placed.map).port

pub check_words-requires-clause-path : goal.check_words-requires-clause-path
check_words-requires-clause-path c =
    let row = c.in_ok-row.row in
    let map = c.index-maps-row.result in
    subst IsPath (sym c.levels.ensures.levels)
    (subst (λ (m : MapRow). IsPath m.path) (sym c.index-maps-row.is) (c.requires.tables.1.each_map row.map map c.in_ok-row.ensures.placed.map).path)

pub check_words-requires-clause-width : goal.check_words-requires-clause-width
check_words-requires-clause-width c =
    let row = c.in_ok-row.row in
    let placed = c.in_ok-row.ensures.placed in
    let inside : row.port < length c.args.ports.now = subst (λ n. n < length c.args.ports.now) (sym placed.port) (c.requires.tables.1.each_map row.map no_map placed.map).port in
    subst (λ (p : PortRow). 0 < p.bytes) (sym c.index-ports-row.is) (some_width (c.requires.tables.1.each_port row.port c.index-ports-row.result inside).width)

pub overflow_cast-port : goal.overflow_cast-port
overflow_cast-port c =
    let placed = c.in_ok-row.ensures.placed in
    let tables = c.requires.tables.1 in
    omega (arith, placed.port, (tables.each_map c.in_ok-row.row.map no_map placed.map).port, tables.few, tables.fewer)

pub offset_bounds-ports-row : goal.offset_bounds-ports-row
offset_bounds-ports-row c =
    let placed = c.in_ok-row.ensures.placed in
    let tables = c.requires.tables.1 in
    omega (arith, placed.port, (tables.each_map c.in_ok-row.row.map no_map placed.map).port, tables.few, tables.fewer)

pub returns-clause-few : goal.returns-clause-few
returns-clause-few c = c.if-places-ge-MOST_PLACES.false

use Rattle.std.proofs.Common.{sym, subst}
use Rattle.rl_bus.specs.Setup.{Setup}
use Rattle.rl_map.specs.Tables.{setup_of}
use Rattle.rl_flaw.specs.Flaws.{flaws_of}
use Rattle.rl_bench.specs.Board.{IsSetup, HasRoom}
use Rattle.rl_bench.proofs.SetupLemmas.{is_setup, has_room}
use Rattle.rl_bench.proofs.bench.Bench.build.Goals as goal

pub new-requires-clause-setup : goal.new-requires-clause-setup
new-requires-clause-setup c =
    subst IsSetup (sym c.in_ok-tables.ensures.held)
    (is_setup c.args.chip.now c.args.layout.now c.args.flaws.now c.count_locations-locations.ensures.sound c.in_ok-tables.ensures.layout c.requires.built_with c.requires.flaws)

pub new-requires-clause-room : goal.new-requires-clause-room
new-requires-clause-room c =
    let t : Setup = setup_of c.args.chip.now c.args.layout.now (flaws_of c.args.flaws.now) in
    let P : Setup → Type 0 = λ t. HasRoom t c.count_locations-locations.result in
    subst P (sym c.in_ok-tables.ensures.held)
    (subst (HasRoom t) (sym c.count_locations-locations.ensures.count) (has_room c.args.chip.now c.args.layout.now (flaws_of c.args.flaws.now)))

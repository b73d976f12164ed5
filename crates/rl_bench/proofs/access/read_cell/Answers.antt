use Rattle.std.proofs.Common.{ap, ◌∙◌, refl}
use Rattle.std.proofs.lemmas.List.{length-set}
use Rattle.std.specs.Prelude.{slice_set}
use Rattle.rl_policy.specs.Bits.{bit, from_bits}
use Rattle.rl_policy.specs.Access.{bit_left, bit_answered}
use Rattle.rl_bus.specs.Setup.{policy_at, held}
use Rattle.rl_bus.specs.Spread.{lane_bit, gathered_bit}
use Rattle.rl_bench.specs.Board.{state_of}
use Rattle.rl_bench.specs.Tables.{setup_held}
use Rattle.rl_bench.proofs.CellLemmas.{reg_read, fit_with}
use Rattle.rl_bench.proofs.access.read_cell.Goals as goal

pub returns-in-Reg-clause-state : goal.returns-in-Reg-clause-state
returns-in-Reg-clause-state c beats items =
    let t = setup_held c.args.board.now.tables in
    let old = c.args.cells.now in
    let seen = reg_read c.in-Reg.reg c.args.board.now.shaped c.requires.fit (c.requires.cell.reg c.in-Reg.reg c.in-Reg.is) c.index.ensures c.index-in-Reg.ensures in
    rw c.in-Reg.is (ap (λ v. record (state_of t old beats items) { bits = slice_set old.bits.items c.in-Reg.reg v })
    (c.read-word.ensures.bits _ seen.shape_is ∙ ap (λ n. held t c.in-Reg.reg (λ b. bit_left (policy_at t c.in-Reg.reg b) (bit n b) (lane_bit c.args.lanes.now b))) seen.word_is))

pub returns-in-Reg-clause-answer : goal.returns-in-Reg-clause-answer
returns-in-Reg-clause-answer c beats items =
    let t = setup_held c.args.board.now.tables in
    let old = c.args.cells.now in
    let seen = reg_read c.in-Reg.reg c.args.board.now.shaped c.requires.fit (c.requires.cell.reg c.in-Reg.reg c.in-Reg.is) c.index.ensures c.index-in-Reg.ensures in
    rw c.in-Reg.is (c.read-word.ensures.word _ seen.shape_is ∙ ap (λ n. from_bits 64 (gathered_bit c.args.lanes.now (λ b. bit_answered (policy_at t c.in-Reg.reg b) (bit n b)))) seen.word_is)

pub location-at-requires-clause-mem : goal.location-at-requires-clause-mem
location-at-requires-clause-mem c = (c.requires.cell.loc c.in-Loc.mem c.in-Loc.index c.in-Loc.is).0

pub returns-in-Reg-clause-fit : goal.returns-in-Reg-clause-fit
returns-in-Reg-clause-fit c =
    let old = c.args.cells.now in
    fit_with _ old _ c.requires.fit (length-set old.bits.items c.in-Reg.reg _) refl refl

pub read-word-requires : goal.read-word-requires
read-word-requires c = c.requires.lanes

pub gather-requires : goal.gather-requires
gather-requires c = c.requires.lanes

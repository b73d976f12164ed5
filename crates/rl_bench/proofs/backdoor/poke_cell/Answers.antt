use Rattle.std.proofs.Common.{◌≡◌, ◌*◌, ◌^◌, ◌%◌, ap, ◌∙◌, arith, refl}
use Rattle.std.specs.Prelude.{slice_set, bit_and}
use Rattle.std.proofs.lemmas.List.{get_or_read, length-set}
use Rattle.std.proofs.lemmas.Nat.{and_mask}
use Rattle.rl_bus.specs.Setup.{field_at, policy_of, location, mem_of, no_mem}
use Rattle.rl_bus.specs.State.{poked}
use Rattle.rl_bench.specs.Board.{state_of}
use Rattle.rl_bench.specs.Tables.{setup_held}
use Rattle.rl_bench.proofs.CellLemmas.{reg_read, fit_with}
use Rattle.rl_bench.proofs.DepositLemmas.{owned_some, pow_bytes}
use Rattle.rl_bench.proofs.HeldLemmas.{held_same}
use Rattle.rl_bench.proofs.backdoor.poke_cell.Goals as goal

pub returns-in-Reg-clause-state : goal.returns-in-Reg-clause-state
unfolding poked
returns-in-Reg-clause-state c beats items =
    let t = setup_held c.args.board.now.tables in
    let r = c.in-Reg.reg in
    let old = c.args.cells.now in
    let seen = reg_read r c.args.board.now.shaped c.requires.fit (c.requires.cell.reg r c.in-Reg.is) c.index.ensures c.index-in-Reg.ensures in
    rw c.in-Reg.is (ap (λ v. record (state_of t old beats items) { bits = slice_set old.bits.items r v })
    (c.hold.ensures _ seen.shape_is
    ∙ held_same t r _ _ (λ b k. rw (c.replaced-deposited.ensures b k, seen.shape_is.effects.owned b k, owned_some (policy_of t) (field_at t r b), seen.word_is) refl)))

pub index-requires-in-Loc : goal.index-requires-in-Loc
index-requires-in-Loc c = omega (arith, (c.requires.cell.loc c.in-Loc.mem c.in-Loc.index c.in-Loc.is).0, c.args.board.now.tables.mems.ok.0)

pub location-at-requires-clause-mem : goal.location-at-requires-clause-mem
location-at-requires-clause-mem c = (c.requires.cell.loc c.in-Loc.mem c.in-Loc.index c.in-Loc.is).0

pub returns-in-Loc-clause-state : goal.returns-in-Loc-clause-state
unfolding poked
returns-in-Loc-clause-state c beats items =
    let t = setup_held c.args.board.now.tables in
    let old = c.args.cells.now in
    let mem = c.in-Loc.mem in
    let l = (c.requires.cell.loc mem c.in-Loc.index c.in-Loc.is).0 in
    let row : c.index-in-Loc.result.now ≡ mem_of t mem = get_or_read t.mems mem _ l c.index-in-Loc.ensures no_mem in
    rw (c.in-Loc.is, c.location-at.ensures.at) (ap (λ v. record (state_of t old beats items) { locations = slice_set old.locations.items (location t mem c.in-Loc.index) v })
    (ap (bit_and c.args.value) c.mask.ensures ∙ and_mask c.args.value (8 * c.index-in-Loc.result.now.bytes) ∙ ap (λ n. c.args.value % n) (pow_bytes c.index-in-Loc.result.now.bytes)
    ∙ ap (λ m. c.args.value % 256 ^ m.bytes) row))

pub returns-in-Reg-clause-fit : goal.returns-in-Reg-clause-fit
returns-in-Reg-clause-fit c =
    let old = c.args.cells.now in
    fit_with _ old _ c.requires.fit (length-set old.bits.items c.in-Reg.reg _) refl refl

pub returns-in-Loc-clause-fit : goal.returns-in-Loc-clause-fit
returns-in-Loc-clause-fit c =
    let old = c.args.cells.now in
    fit_with _ old _ c.requires.fit refl refl (length-set old.locations.items c.location-at.result _)

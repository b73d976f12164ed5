use Rattle.std.proofs.Common.{◌≡◌, ℕ, ◌<◌, ap, sym, ◌∙◌, arith, true, refl}
use Rattle.std.specs.Prelude.{slice_set, slice_index}
use Rattle.std.proofs.lemmas.List.{get_or_read, length-set}
use Rattle.rl_policy.specs.Bits.{bit, from_bits}
use Rattle.rl_policy.proofs.BitLemmas.{is_from_bits, bit-from_bits}
use Rattle.rl_policy.specs.Access.{bit_written, mark_written}
use Rattle.rl_bus.specs.Setup.{policy_at, held, location, mem_of, no_mem}
use Rattle.rl_bus.specs.Spread.{spread_bit, lane_bit}
use Rattle.rl_bench.specs.Board.{state_of}
use Rattle.rl_bench.specs.Tables.{setup_held}
use Rattle.rl_bench.proofs.CellLemmas.{reg_read, fit_with}
use Rattle.rl_bench.proofs.access.write_cell.Goals as goal

pub returns-in-Reg-clause-state : goal.returns-in-Reg-clause-state
returns-in-Reg-clause-state c beats items =
    let t = setup_held c.args.board.now.tables in
    let r = c.in-Reg.reg in
    let old = c.args.cells.now in
    let there = c.requires.cell.reg r c.in-Reg.is in
    let seen = reg_read r c.args.board.now.shaped c.requires.fit there c.index.ensures c.index-in-Reg.ensures in
    let m : c.index-in-Reg-2.result.now ≡ slice_index old.marks.items r = get_or_read old.marks.items r _ (omega arith) c.index-in-Reg-2.ensures 0 in
    let word = spread_bit c.args.lanes.now (bit c.args.word) in
    let lanes = lane_bit c.args.lanes.now in
    rw c.in-Reg.is
    (ap (λ v. record (state_of t old beats items) { bits = slice_set old.bits.items r v; marks = slice_set old.marks.items r c.write-written.result.1 })
    (c.write-written.ensures.bits _ seen.shape_is
    ∙ ap (λ n. held t r (λ b. bit_written (policy_at t r b) (bit n b) (bit c.index-in-Reg-2.result.now b) (word b) (lanes b))) seen.word_is
    ∙ ap (λ n. held t r (λ b. bit_written (policy_at t r b) (bit (slice_index old.bits.items r) b) (bit n b) (word b) (lanes b))) m)
    ∙ ap (λ v. record (state_of t old beats items) {
      bits =
          slice_set old.bits.items r
          (held t r (λ b. bit_written (policy_at t r b) (bit (slice_index old.bits.items r) b) (bit (slice_index old.marks.items r) b) (word b) (lanes b)));
      marks = slice_set old.marks.items r v;
    })
    (c.write-written.ensures.marks _ seen.shape_is
    ∙ ap (λ n. from_bits 64 (λ b. mark_written (policy_at t r b) (bit n b) (lanes b))) m))

pub index-requires-in-Loc : goal.index-requires-in-Loc
index-requires-in-Loc c = omega (arith, (c.requires.cell.loc c.in-Loc.mem c.in-Loc.index c.in-Loc.is).0, c.args.board.now.tables.mems.ok.0)

pub location-at-requires-clause-mem : goal.location-at-requires-clause-mem
location-at-requires-clause-mem c = (c.requires.cell.loc c.in-Loc.mem c.in-Loc.index c.in-Loc.is).0

pub returns-then-index-clause-state : goal.returns-then-index-clause-state
returns-then-index-clause-state c beats items =
    let t = setup_held c.args.board.now.tables in
    let old = c.args.cells.now in
    let mem = c.in-Loc.mem in
    let here = location t mem c.in-Loc.index in
    let l = (c.requires.cell.loc mem c.in-Loc.index c.in-Loc.is).0 in
    let writable : (mem_of t mem).writable ≡ true = ap (λ row. row.writable) (sym (get_or_read t.mems mem _ l c.index-in-Loc.ensures no_mem)) ∙ c.if-index.true in
    let x : c.index-then-index.result.now ≡ slice_index old.locations.items here =
    get_or_read old.locations.items c.location-at.result _ c.location-at.ensures.within c.index-then-index.ensures 0 ∙ ap (slice_index old.locations.items) c.location-at.ensures.at in
    let lane : (b : ℕ) → b < 64 → bit c.covered.result b ≡ lane_bit c.args.lanes.now b = λ b k. ap (λ n. bit n b) c.covered.ensures ∙ bit-from_bits 64 _ b k in
    let carried : (b : ℕ) → b < 64 → bit c.spread-carried.result b ≡ spread_bit c.args.lanes.now (bit c.args.word) b = λ b k. ap (λ n. bit n b) c.spread-carried.ensures ∙ bit-from_bits 64 _ b k in
    rw (c.in-Loc.is, writable, c.location-at.ensures.at) (ap (λ v. record (state_of t old beats items) { locations = slice_set old.locations.items here v })
    (is_from_bits 64 _ _ c.replaced.type_inv (λ b k. rw (c.replaced.ensures b k, lane b k, carried b k, x) refl)))

pub covered-requires : goal.covered-requires
covered-requires c = c.requires.lanes

pub spread-carried-requires : goal.spread-carried-requires
spread-carried-requires c = c.requires.lanes

pub write-written-requires : goal.write-written-requires
write-written-requires c = c.requires.lanes

pub returns-in-Reg-clause-fit : goal.returns-in-Reg-clause-fit
returns-in-Reg-clause-fit c =
    let old = c.args.cells.now in
    fit_with _ old _ c.requires.fit (length-set old.bits.items c.in-Reg.reg _) (length-set old.marks.items c.in-Reg.reg _) refl

pub returns-then-index-clause-fit : goal.returns-then-index-clause-fit
returns-then-index-clause-fit c =
    let old = c.args.cells.now in
    fit_with _ old _ c.requires.fit refl refl (length-set old.locations.items c.location-at.result _)

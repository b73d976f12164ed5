use Rattle.std.proofs.Common.{◌≡◌, ℕ, ◌<◌, ap, ◌∙◌, arith, List, length, ⊎_elim, eqb, true, false, replicate, map}
use Rattle.std.specs.Prelude.{slice_index}
use Rattle.std.specs.List.{range_with_len}
use Rattle.std.proofs.lemmas.Bool.{cases_eq}
use Rattle.std.proofs.lemmas.Bool.Decides.{nat_tests}
use Rattle.std.proofs.lemmas.List.{get_or_read, get_or-set_same, get_or-set_other, length-set}
use Rattle.std.proofs.lemmas.List.FromFn.{fill_by_all}
use Rattle.rl_policy.specs.Bits.{bit}
use Rattle.rl_bus.specs.Setup.{Setup, field_at}
use Rattle.rl_bus.specs.State.{State, reset_bit, reset_by, reg_reset}
use Rattle.rl_bench.specs.Shape.{RegOf, IsShapeOf}
use Rattle.rl_bench.specs.Board.{state_of}
use Rattle.rl_bench.specs.Tables.{setup_held}
use Rattle.rl_bench.proofs.CellLemmas.{shape_at}
use Rattle.rl_bench.proofs.HeldLemmas.{held_same}
use Rattle.rl_bench.proofs.reset.reset_cells.Goals as goal

pub overflow_cast-reg : goal.overflow_cast-reg
overflow_cast-reg c = record { fits = omega (arith, c.loop-reg-test.true, c.args.board.now.sound.few_regs) }

pub loop-reg-preserved : goal.loop-reg-preserved
loop-reg-preserved c =
    let t = setup_held c.args.board.now.tables in
    let reg = c.loop-reg.reg in
    let was = c.loop-reg.invariant in
    let now = c.loop-reg.cells in
    let old = c.args.cells.now in
    let s : State = state_of t old (λ p a. 0) 0 in
    let l : reg < length t.regs = omega (arith, c.loop-reg-test.true, c.len-reg-end.ensures, c.args.board.now.tables.regs.ok.0) in
    let within : reg < length now.bits.items = omega (arith, l, was.long, c.requires.bits) in
    let at : RegOf = record { setup = t; reg = reg } in
    let e : IsShapeOf at c.index-in-loop-reg.result.now = shape_at t c.args.board.now.shapes.items reg c.index-in-loop-reg.result.now c.args.board.now.shaped l c.index-in-loop-reg.ensures in
    let x : c.index.result.now ≡ slice_index old.bits.items reg = get_or_read now.bits.items reg _ within c.index.ensures 0 ∙ was.rest reg (omega arith) in
    let new : c.hold.result ≡ reg_reset s c.args.kind reg =
    c.hold.ensures at e ∙ held_same t reg _ _ (λ b k. c.reset_word-word.ensures b k ∙ ap (λ n. reset_bit t c.args.kind (field_at t reg b) b (bit n b)) x) in
    record {
      long = length-set now.bits.items reg c.hold.result ∙ was.long;
      marks = was.marks;
      locations = was.locations;
      done = λ r k. ⊎_elim
          (λ (same : r ≡ reg). rw same (get_or-set_same now.bits.items reg c.hold.result 0 within ∙ new))
          (λ (other : r ≡ reg → ⊥). get_or-set_other now.bits.items reg r c.hold.result 0 other ∙ was.done r (omega (arith, k, other)))
          (cases_eq r reg);
      rest = λ r k. let other : r ≡ reg → ⊥ = λ same. omega (arith, k, same) in get_or-set_other now.bits.items reg r c.hold.result 0 other ∙ was.rest r (omega (arith, k));
    }

abbrev made : Setup → ℕ → List ℕ → List ℕ → List ℕ → State
made t items bits marks locations = record { setup = t; bits = bits; marks = marks; locations = locations; beats = λ p a. 0; items = items }

-- cells whose registers are all reset
whole : (t : Setup) (items n : ℕ) (word : ℕ → ℕ) (bits marks marks' locations locations' : List ℕ) → length bits ≡ n → ((k : ℕ) → k < n → slice_index bits k ≡ word k)
    → marks ≡ marks' → locations ≡ locations' → made t items bits marks locations ≡ made t items (map word (range_with_len 0 n)) marks' locations'
whole t items n word bits marks marks' locations locations' long done m l =
    ap (λ x. made t items x marks locations) (fill_by_all word bits n 0 long done)
    ∙ ap (λ x. made t items (map word (range_with_len 0 n)) x locations) m ∙ ap (made t items (map word (range_with_len 0 n)) marks') l

pub returns-then-kind-eq0-clause-state : goal.returns-then-kind-eq0-clause-state
unfolding reset_by
returns-then-kind-eq0-clause-state c beats items =
    let yes : eqb c.args.kind 0 ≡ true = grind (arith, nat_tests, c.if-kind-eq0.true) in
    let marks : c.fill.new.self.items ≡ replicate (length c.args.cells.now.marks.items) 0 =
    c.fill.ensures.items (λ y e. e) ∙ ap (λ n. replicate n 0) (c.loop-reg.cells.marks.ok.0 ∙ ap (λ v. length v.items) c.loop-reg.invariant.marks) in
    rw yes (whole (setup_held c.args.board.now.tables) items (length c.args.cells.now.bits.items)
    (reg_reset (state_of (setup_held c.args.board.now.tables) c.args.cells.now beats items) c.args.kind) _ _ _ _ _ c.loop-reg.invariant.long
    (λ k l. c.loop-reg.invariant.done k (omega (arith, l, c.requires.bits, c.loop-reg-test.false, c.len-reg-end.ensures, c.args.board.now.tables.regs.ok.0))) marks
    (ap (λ v. v.items) c.loop-reg.invariant.locations))

pub returns-else-kind-eq0-clause-state : goal.returns-else-kind-eq0-clause-state
unfolding reset_by
returns-else-kind-eq0-clause-state c beats items =
    let no : eqb c.args.kind 0 ≡ false = grind (arith, nat_tests, c.if-kind-eq0.false) in
    rw no (whole (setup_held c.args.board.now.tables) items (length c.args.cells.now.bits.items)
    (reg_reset (state_of (setup_held c.args.board.now.tables) c.args.cells.now beats items) c.args.kind) _ _ _ _ _ c.loop-reg.invariant.long
    (λ k l. c.loop-reg.invariant.done k (omega (arith, l, c.requires.bits, c.loop-reg-test.false, c.len-reg-end.ensures, c.args.board.now.tables.regs.ok.0)))
    (ap (λ v. v.items) c.loop-reg.invariant.marks) (ap (λ v. v.items) c.loop-reg.invariant.locations))

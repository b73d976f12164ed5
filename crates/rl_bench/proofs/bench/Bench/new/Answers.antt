use Rattle.std.proofs.Common.{◌≡◌, ℕ, List, length, refl, sym, ap, ◌∙◌, subst, replicate}
use Rattle.std.proofs.lemmas.List.{length-replicate}
use Rattle.rl_bus.specs.Setup.{Setup}
use Rattle.rl_bus.specs.State.{State, reset_by, first_state}
use Rattle.rl_bench.specs.Board.{state_of, HasRoom}
use Rattle.rl_bench.specs.Beats.{beats_of}
use Rattle.rl_bench.specs.Tables.{setup_held}
use Rattle.rl_bench.proofs.BeatLemmas.{no_beats}
use Rattle.rl_bench.proofs.NamedLemmas.{named_first}
use Rattle.rl_bench.proofs.QueueLemmas.{first_beaten}
use Rattle.rl_bench.proofs.bench.Bench.new.Goals as goal

abbrev start : Setup → List ℕ → List ℕ → List ℕ → State
start t bits marks locations = record { setup = t; bits = bits; marks = marks; locations = locations; beats = λ p a. 0; items = 0 }

pub reset_cells-requires : goal.reset_cells-requires
reset_cells-requires c =
    let t = setup_held c.in_ok-board.board.tables in
    let made = c.in_ok-memory.ensures in
    record {
      bits = ap length made.bits ∙ length-replicate (length t.regs) 0;
      marks = ap length made.marks ∙ length-replicate (length t.regs) 0;
      mems = subst (HasRoom t) (sym (ap length made.locations ∙ length-replicate c.args.locations 0))
          (subst (λ s. HasRoom s c.args.locations) (sym c.in_ok-board.ensures) c.requires.room);
    }

pub returns-clause-failures : goal.returns-clause-failures
returns-clause-failures c = refl

pub returns-clause-state : goal.returns-clause-state
unfolding first_state
returns-clause-state c =
    let t = setup_held c.in_ok-board.board.tables in
    let cells = c.in_ok-memory.memory.cells in
    let made = c.in_ok-memory.ensures in
    let none = replicate (length t.regs) 0 in
    ap (λ b. state_of t c.reset_cells.new.cells b 0) (ap (λ xs. beats_of t.words xs) made.beats ∙ no_beats t.words _)
    ∙ c.reset_cells.ensures.state (λ p a. 0) 0
    ∙ ap (λ x. reset_by (start t x cells.marks.items cells.locations.items) 0) made.bits
    ∙ ap (λ m. reset_by (start t none m cells.locations.items) 0) made.marks
    ∙ ap (λ l. reset_by (start t none none l) 0) made.locations
    ∙ ap (λ s. first_state s c.args.locations) c.in_ok-board.ensures

pub invariant_of-result : goal.invariant_of-result
invariant_of-result c =
    let board = c.in_ok-board.board in
    let t = setup_held board.tables in
    let beats = c.in_ok-memory.memory.beats.items in
    let first = c.in_ok-memory.ensures.beats in
    let none : beats_of t.words beats ≡ (λ p a. 0) = ap (λ xs. beats_of t.words xs) first ∙ no_beats t.words _ in
    record {
      quiet = λ p a few. ap (λ (b : ℕ → ℕ → ℕ). b p a) none;
      fit = c.reset_cells.ensures.fit;
      beaten = first_beaten t.words board.queues.items beats (length t.words) board.queued refl first;
      named = named_first (state_of t c.reset_cells.new.cells (beats_of t.words beats) 0) (λ p a. ap (λ (b : ℕ → ℕ → ℕ). b p a) none);
      hinted = c.in_ok-memory.ensures.hints t.words;
    }

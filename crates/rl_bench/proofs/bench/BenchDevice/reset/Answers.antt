use Rattle.std.proofs.Common.{◌≡◌, ◌∙◌, ap, length, Some}
use Rattle.std.proofs.lemmas.List.{with_items_is}
use Rattle.std.specs.Vec.{with_items}
use Rattle.rl_bus.specs.State.{State}
use Rattle.rl_bench.specs.Beats.{beats_of}
use Rattle.rl_bench.specs.Board.{state_of}
use Rattle.rl_bench.specs.State.{bench_state}
use Rattle.rl_bench.specs.Tables.{setup_held}
use Rattle.rl_bench.proofs.NamedLemmas.{named_first}
use Rattle.rl_bench.proofs.StepLemmas.{same_beats}
use Rattle.rl_bench.proofs.bench.BenchDevice.reset.Goals as goal

pub invariant_of-self-clause-named : goal.invariant_of-self-clause-named
invariant_of-self-clause-named c =
    let b = c.args.self.now in
    let words = b.board.tables.words.value.items in
    let ws = c.clear_beats.new.beats in
    let e : (with_items b.beats ws).items ≡ ws = with_items_is b.beats ws (c.clear_beats.auto.beats ∙ c.deref_mut.ensures.len) in
    let after : State = record (bench_state b) { beats = beats_of words (with_items b.beats ws).items } in
    named_first after (λ p a. rw e (c.clear_beats.ensures words p a))

pub invariant_of-self-clause-beaten : goal.invariant_of-self-clause-beaten
invariant_of-self-clause-beaten c =
    let b = c.args.self.now in
    let ws = c.clear_beats.new.beats in
    let e : (with_items b.beats ws).items ≡ ws = with_items_is b.beats ws (c.clear_beats.auto.beats ∙ c.deref_mut.ensures.len) in
    λ p a write more. ap length e ∙ c.clear_beats.auto.beats ∙ ap length c.deref_mut.ensures.value ∙ b.beaten p a write more

pub invariant_of-self-clause-quiet : goal.invariant_of-self-clause-quiet
invariant_of-self-clause-quiet c =
    let b = c.args.self.now in
    let words = b.board.tables.words.value.items in
    let ws = c.clear_beats.new.beats in
    let e : (with_items b.beats ws).items ≡ ws = with_items_is b.beats ws (c.clear_beats.auto.beats ∙ c.deref_mut.ensures.len) in
    λ p a few. rw e (c.clear_beats.ensures words p a)

pub returns-clause-step : goal.returns-clause-step
returns-clause-step c =
    let b = c.args.self.now in
    let t = setup_held b.board.tables in
    let ws = c.clear_beats.new.beats in
    let e : (with_items b.beats ws).items ≡ ws = with_items_is b.beats ws (c.clear_beats.auto.beats ∙ c.deref_mut.ensures.len) in
    let none : beats_of t.words (with_items b.beats ws).items ≡ (λ p a. 0) = same_beats (λ p a. rw e (c.clear_beats.ensures t.words p a)) in
    ap Some
    (ap (λ beats. state_of t c.reset_cells.new.cells beats b.items) none
    ∙ c.reset_cells.ensures.state (beats_of t.words b.beats.items) b.items)

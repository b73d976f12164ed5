use Rattle.std.proofs.Common.{◌≡◌, ◌+◌, ◌∙◌, Bool, length, subst, sym, ap, ℕ, true, false, Some, arith, is_some, eqb, ltb, cond, ◌&&◌}
use Rattle.std.specs.Prelude.{position, filter, slice_index, slice_set, option_copied}
use Rattle.std.specs.List.{list_any}
use Rattle.rl_bench.specs.Beats.{is_queue, IsQuiet}
use Rattle.rl_bench.proofs.NamedLemmas.{named_back, named_on, quiet_back}
use Rattle.rl_bench.proofs.QueueLemmas.{back_is, quiet_set, set_is}
use Rattle.std.proofs.lemmas.List.{with_items_is}
use Rattle.std.specs.Vec.{with_items}
use Rattle.rl_bus.specs.Setup.{stands_for, stands_at}
use Rattle.rl_bus.specs.State.{counted, word_at, is_faulty, beats_on}
use Rattle.rl_bench.specs.Beats.{beats_of}
use Rattle.rl_bench.specs.Board.{state_of}
use Rattle.rl_bench.specs.State.{bench_state, failures_after}
use Rattle.rl_bench.proofs.StepLemmas.{missing_state, missing_answer, faulty_state, faulty_answer, touched_state, touched_answer, filter_le, word_in, stands_there, moved, answer_small, none_small}
use Rattle.rl_bench.proofs.bench.Bench.item.Goals as goal

pub returns-in_default-clause-state : goal.returns-in_default-clause-state
returns-in_default-clause-state c =
    let b = c.args.self.now in
    let s = bench_state b in
    ap (λ n. state_of s.setup b.cells s.beats n) c.saturating_add-self.ensures
    ∙ missing_state s c.args.port c.args.op.now (sym (rw c.deref.ensures.value at c.find-found.ensures.word) ∙ ap option_copied c.in_default.is)

pub returns-in_default-clause-answer : goal.returns-in_default-clause-answer
returns-in_default-clause-answer c =
    c.failed_answer.ensures.answer
    ∙ missing_answer (bench_state c.args.self.now) c.args.port c.args.op.now (sym (rw c.deref.ensures.value at c.find-found.ensures.word) ∙ ap option_copied c.in_default.is)

pub returns-then-is_faulty-clause-state : goal.returns-then-is_faulty-clause-state
returns-then-is_faulty-clause-state c =
    let b = c.args.self.now in
    let s = bench_state b in
    let w = c.in-Some.word.now in
    let h : word_at s c.args.port c.args.op.now ≡ Some w = sym (rw c.deref.ensures.value at c.find-found.ensures.word) ∙ ap option_copied c.in-Some.is in
    let f : is_faulty (counted s) c.args.port c.args.op.now ≡ true = rw (← c.saturating_add-self.ensures) (sym c.is_faulty.ensures ∙ c.if-is_faulty.true) in
    let ws = c.send_back.new.beats in
    let e : (with_items b.beats ws).items ≡ ws = with_items_is b.beats ws (c.send_back.auto.beats ∙ c.deref_mut.ensures.len) in
    let beats : ℕ → ℕ → ℕ = beats_of b.board.tables.words.value.items (with_items b.beats ws).items in
    let done : (k : ℕ) → slice_index ws k ≡ cond (list_any (is_queue k w.place) b.board.queues.items) 0 (slice_index b.beats.items k) =
    λ k. rw (c.deref-then-is_faulty.ensures.value, c.deref_mut.ensures.value) at (c.send_back.ensures k) in
    ap (λ n. state_of s.setup b.cells beats n) c.saturating_add-self.ensures
    ∙ faulty_state s c.args.port c.args.op.now w beats h f (λ p a. rw e (back_is b.board.tables.words.value.items b.board.queues.items b.beats.items ws w.place b.board.queued b.quiet done p a))

pub returns-then-is_faulty-clause-answer : goal.returns-then-is_faulty-clause-answer
returns-then-is_faulty-clause-answer c =
    let s = bench_state c.args.self.now in
    let h : word_at s c.args.port c.args.op.now ≡ Some c.in-Some.word.now = sym (rw c.deref.ensures.value at c.find-found.ensures.word) ∙ ap option_copied c.in-Some.is in
    let f : is_faulty (counted s) c.args.port c.args.op.now ≡ true = rw (← c.saturating_add-self.ensures) (sym c.is_faulty.ensures ∙ c.if-is_faulty.true) in
    c.failed_answer-then-is_faulty.ensures.answer ∙ faulty_answer s c.args.port c.args.op.now c.in-Some.word.now h f

pub touch-answer-requires-clause-word : goal.touch-answer-requires-clause-word
touch-answer-requires-clause-word c =
    let s = bench_state c.args.self.now in
    word_in s.setup c.args.port c.args.op.now.address c.args.op.now.write _ c.in-Some.word.now c.args.self.now.board.sound
    (sym (rw c.deref.ensures.value at c.find-found.ensures.word) ∙ ap option_copied c.in-Some.is)

pub next_beat-next-requires : goal.next_beat-next-requires
next_beat-next-requires c =
    let s = bench_state c.args.self.now in
    omega (arith, c.find-found.ensures.count, filter_le (stands_for c.args.port c.args.op.now.address c.args.op.now.write) s.setup.words, c.args.self.now.board.sound.few_words)

-- the beats that an item leaves which reached its cell
abbrev beats_left : (c : goal.After-self-2-1) → ℕ → ℕ → ℕ
beats_left c = beats_of c.args.self.now.board.tables.words.value.items (with_items c.args.self.now.beats c.set_beat.new.beats).items

beats_are : (c : goal.After-self-2-1) (p a : ℕ) → beats_left c p a ≡ beats_on (counted (bench_state c.args.self.now)) c.args.port c.args.op.now p a
beats_are c p a =
    let b = c.args.self.now in
    let s = bench_state b in
    let w = c.in-Some.word.now in
    let op = c.args.op.now in
    let port = c.args.port in
    let h : word_at s port op ≡ Some w = sym (rw c.deref.ensures.value at c.find-found.ensures.word) ∙ ap option_copied c.in-Some.is in
    let ws = c.set_beat.new.beats in
    let e : (with_items b.beats ws).items ≡ ws = with_items_is b.beats ws (c.set_beat.auto.beats ∙ c.deref_mut-2.ensures.len) in
    let there : is_some (position (stands_at port op.address) s.setup.words) ≡ true = stands_there s.setup port op.address op.write _ w h in
    let at = c.find-found.result.at in
    let next = c.next_beat-next.result in
    let set_there : ws ≡ cond (ltb at.first at.end) (slice_set b.beats.items at.first next) b.beats.items = rw c.deref_mut-2.ensures.value at c.set_beat.ensures in
    let next_is : next ≡ cond
    (ltb (c.find-found.result.beat + 1) (length (filter (stands_for port op.address op.write) b.board.tables.words.value.items)))
    (c.find-found.result.beat + 1) 0 = rw c.find-found.ensures.count at c.next_beat-next.ensures in
    rw e (ap (λ xs. beats_of b.board.tables.words.value.items xs p a) set_there
    ∙ set_is b.board.tables.words.value.items b.beats.items port op.address at.first at.end next c.find-found.result.beat p a op.write b.beaten b.quiet next_is c.find-found.ensures.at
    ∙ moved (eqb p port && eqb a op.address) _ next _ (s.beats p a) there
    (rw ((rw c.deref.ensures.value at c.find-found.ensures.beat), c.find-found.ensures.count) at c.next_beat-next.ensures))

pub returns-clause-state : goal.returns-clause-state
returns-clause-state c =
    let s = bench_state c.args.self.now in
    let h : word_at s c.args.port c.args.op.now ≡ Some c.in-Some.word.now = sym (rw c.deref.ensures.value at c.find-found.ensures.word) ∙ ap option_copied c.in-Some.is in
    let f : is_faulty (counted s) c.args.port c.args.op.now ≡ false = rw (← c.saturating_add-self.ensures) (sym c.is_faulty.ensures ∙ c.if-is_faulty.false) in
    ap (λ n. state_of s.setup c.touch-answer.new.cells (beats_left c.before) n) c.saturating_add-self.ensures
    ∙ touched_state s c.args.port c.args.op.now c.in-Some.word.now (state_of s.setup c.touch-answer.new.cells s.beats (counted s).items) (beats_left c.before) h f
    (c.touch-answer.ensures.state s.beats (counted s).items) (beats_are c.before)

pub returns-clause-answer : goal.returns-clause-answer
returns-clause-answer c =
    let s = bench_state c.args.self.now in
    let op = c.args.op.now in
    let h : word_at s c.args.port op ≡ Some c.in-Some.word.now = sym (rw c.deref.ensures.value at c.find-found.ensures.word) ∙ ap option_copied c.in-Some.is in
    let f : is_faulty (counted s) c.args.port op ≡ false = rw (← c.saturating_add-self.ensures) (sym c.is_faulty.ensures ∙ c.if-is_faulty.false) in
    touched_answer s c.args.port op c.in-Some.word.now c.touch-answer.result h f (c.touch-answer.ensures.answer s.beats (counted s).items)

pub returns-clause-small : goal.returns-clause-small
returns-clause-small c =
    let s = bench_state c.args.self.now in
    rw (c.touch-answer.ensures.answer s.beats s.items) (answer_small s c.args.op.now c.in-Some.word.now c.requires.lanes c.requires.width)

pub invariant_of-self-2-clause-quiet : goal.invariant_of-self-2-clause-quiet
invariant_of-self-2-clause-quiet c =
    let b = c.args.self.now in
    let words = b.board.tables.words.value.items in
    let op = c.args.op.now in
    let port = c.args.port in
    let ws = c.set_beat.new.beats in
    let e : (with_items b.beats ws).items ≡ ws = with_items_is b.beats ws (c.set_beat.auto.beats ∙ c.deref_mut-2.ensures.len) in
    let at = c.find-found.result.at in
    let next = c.next_beat-next.result in
    let set_there : ws ≡ cond (ltb at.first at.end) (slice_set b.beats.items at.first next) b.beats.items = rw c.deref_mut-2.ensures.value at c.set_beat.ensures in
    let stands : Bool = is_some (position (stands_at port op.address) words) in
    let next_is : next ≡ cond (ltb (c.find-found.result.beat + 1) (length (filter (stands_for port op.address op.write) words)))
    (c.find-found.result.beat + 1) 0 = rw c.find-found.ensures.count at c.next_beat-next.ensures in
    subst (IsQuiet words) (sym e)
    (quiet_set words b.beats.items ws port op.address c.find-found.result.beat op.write stands b.quiet
    (λ p a. ap (λ xs. beats_of words xs p a) set_there
    ∙ set_is words b.beats.items port op.address at.first at.end next c.find-found.result.beat p a op.write b.beaten b.quiet next_is c.find-found.ensures.at
    ∙ ap (λ n. cond (eqb p port && eqb a op.address && stands) n (beats_of words b.beats.items p a)) next_is))

pub returns-in_default-clause-cause : goal.returns-in_default-clause-cause
returns-in_default-clause-cause c = c.failed_answer.ensures.cause

pub returns-then-is_faulty-clause-cause : goal.returns-then-is_faulty-clause-cause
returns-then-is_faulty-clause-cause c = c.failed_answer-then-is_faulty.ensures.cause

pub invariant_of-self-then-is_faulty-clause-quiet : goal.invariant_of-self-then-is_faulty-clause-quiet
invariant_of-self-then-is_faulty-clause-quiet c =
    let b = c.args.self.now in
    let words = b.board.tables.words.value.items in
    let w = c.in-Some.word.now in
    let ws = c.send_back.new.beats in
    let e : (with_items b.beats ws).items ≡ ws = with_items_is b.beats ws (c.send_back.auto.beats ∙ c.deref_mut.ensures.len) in
    let done : (k : ℕ) → slice_index ws k ≡ cond (list_any (is_queue k w.place) b.board.queues.items) 0 (slice_index b.beats.items k) =
    λ k. rw (c.deref-then-is_faulty.ensures.value, c.deref_mut.ensures.value) at (c.send_back.ensures k) in
    subst (IsQuiet words) (sym e) (quiet_back words b.beats.items ws w.place b.quiet (λ p a. back_is words b.board.queues.items b.beats.items ws w.place b.board.queued b.quiet done p a))

pub invariant_of-self-then-is_faulty-clause-named : goal.invariant_of-self-then-is_faulty-clause-named
invariant_of-self-then-is_faulty-clause-named c =
    let b = c.args.self.now in
    let w = c.in-Some.word.now in
    let ws = c.send_back.new.beats in
    let e : (with_items b.beats ws).items ≡ ws = with_items_is b.beats ws (c.send_back.auto.beats ∙ c.deref_mut.ensures.len) in
    let beats : ℕ → ℕ → ℕ = beats_of b.board.tables.words.value.items (with_items b.beats ws).items in
    let done : (k : ℕ) → slice_index ws k ≡ cond (list_any (is_queue k w.place) b.board.queues.items) 0 (slice_index b.beats.items k) =
    λ k. rw (c.deref-then-is_faulty.ensures.value, c.deref_mut.ensures.value) at (c.send_back.ensures k) in
    named_back (bench_state b) w.place beats b.named (λ p a. rw e (back_is b.board.tables.words.value.items b.board.queues.items b.beats.items ws w.place b.board.queued b.quiet done p a))

pub invariant_of-self-2-clause-named : goal.invariant_of-self-2-clause-named
invariant_of-self-2-clause-named c =
    let s = bench_state c.args.self.now in
    let h : word_at s c.args.port c.args.op.now ≡ Some c.in-Some.word.now = sym (rw c.deref.ensures.value at c.find-found.ensures.word) ∙ ap option_copied c.in-Some.is in
    let f : is_faulty (counted s) c.args.port c.args.op.now ≡ false = rw (← c.saturating_add-self.ensures) (sym c.is_faulty.ensures ∙ c.if-is_faulty.false) in
    named_on s c.args.port c.args.op.now c.in-Some.word.now (state_of s.setup c.touch-answer.new.cells s.beats (counted s).items) (beats_left c)
    c.args.self.now.board.sound.even c.args.self.now.named h f (c.touch-answer.ensures.state s.beats (counted s).items) (beats_are c)

pub invariant_of-self-2-clause-beaten : goal.invariant_of-self-2-clause-beaten
invariant_of-self-2-clause-beaten c =
    let b = c.args.self.now in
    let ws = c.set_beat.new.beats in
    let e : (with_items b.beats ws).items ≡ ws = with_items_is b.beats ws (c.set_beat.auto.beats ∙ c.deref_mut-2.ensures.len) in
    λ p a write more. ap length e ∙ c.set_beat.auto.beats ∙ ap length c.deref_mut-2.ensures.value ∙ b.beaten p a write more

pub invariant_of-self-clause-hinted : goal.invariant_of-self-clause-hinted
invariant_of-self-clause-hinted c = c.keep.ensures c.args.self.now.board.tables.words.value.items c.find-found.ensures.at c.args.self.now.hinted

pub invariant_of-self-then-is_faulty-clause-hinted : goal.invariant_of-self-then-is_faulty-clause-hinted
invariant_of-self-then-is_faulty-clause-hinted c = c.keep.ensures c.args.self.now.board.tables.words.value.items c.find-found.ensures.at c.args.self.now.hinted

pub invariant_of-self-2-clause-hinted : goal.invariant_of-self-2-clause-hinted
invariant_of-self-2-clause-hinted c = c.keep.ensures c.args.self.now.board.tables.words.value.items c.find-found.ensures.at c.args.self.now.hinted

pub invariant_of-self-then-is_faulty-clause-beaten : goal.invariant_of-self-then-is_faulty-clause-beaten
invariant_of-self-then-is_faulty-clause-beaten c =
    let b = c.args.self.now in
    let ws = c.send_back.new.beats in
    let e : (with_items b.beats ws).items ≡ ws = with_items_is b.beats ws (c.send_back.auto.beats ∙ c.deref_mut.ensures.len) in
    λ p a write more. ap length e ∙ c.send_back.auto.beats ∙ ap length c.deref_mut.ensures.value ∙ b.beaten p a write more

-- ---- what an item leaves alone

pub invariant_of-self-clause-quiet : goal.invariant_of-self-clause-quiet
invariant_of-self-clause-quiet c = c.args.self.now.quiet

pub invariant_of-self-clause-fit : goal.invariant_of-self-clause-fit
invariant_of-self-clause-fit c = c.args.self.now.fit

pub invariant_of-self-clause-beaten : goal.invariant_of-self-clause-beaten
invariant_of-self-clause-beaten c = c.args.self.now.beaten

pub invariant_of-self-clause-named : goal.invariant_of-self-clause-named
invariant_of-self-clause-named c = c.args.self.now.named

pub invariant_of-self-then-is_faulty-clause-fit : goal.invariant_of-self-then-is_faulty-clause-fit
invariant_of-self-then-is_faulty-clause-fit c = c.args.self.now.fit

pub touch-answer-requires-clause-fit : goal.touch-answer-requires-clause-fit
touch-answer-requires-clause-fit c = c.args.self.now.fit

pub invariant_of-self-2-clause-fit : goal.invariant_of-self-2-clause-fit
invariant_of-self-2-clause-fit c = c.touch-answer.ensures.fit

-- ---- failed items

pub returns-in_default-clause-failures : goal.returns-in_default-clause-failures
returns-in_default-clause-failures c = c.failed_answer.ensures.failures ∙ ap (failures_after c.args.self.now.failures) (sym c.failed_answer.ensures.answer)

pub returns-then-is_faulty-clause-failures : goal.returns-then-is_faulty-clause-failures
returns-then-is_faulty-clause-failures c =
    c.failed_answer-then-is_faulty.ensures.failures ∙ ap (failures_after c.args.self.now.failures) (sym c.failed_answer-then-is_faulty.ensures.answer)

pub returns-in_default-clause-small : goal.returns-in_default-clause-small
returns-in_default-clause-small c = none_small c.failed_answer.result c.args.op.now c.failed_answer.ensures.answer c.requires.width

pub returns-then-is_faulty-clause-small : goal.returns-then-is_faulty-clause-small
returns-then-is_faulty-clause-small c = none_small c.failed_answer-then-is_faulty.result c.args.op.now c.failed_answer-then-is_faulty.ensures.answer c.requires.width

use Rattle.std.proofs.Common.{◌≡◌, ℕ, ◌+◌, ◌≤◌, false, Result, Ok, List, [], ◌++◌, length, take, drop, arith, sym, ap, ◌∙◌, take-append-drop, take_at, length-take-le, length-drop}
use Rattle.std.proofs.lemmas.List.{drop-drop, drop_all, take_rest}
use Rattle.std.specs.Prelude.{min}
use Rattle.rl_bus.specs.declared.device.Failed.{Failed}
use Rattle.rl_report.specs.Memory.{SourceData, next, is_failing}
use Rattle.rl_report.proofs.memory.MemSourceSource.read.Goals as goal

-- what was copied out of the rest, and what is left of it
moved : (bytes to buf : List ℕ) (at n : ℕ) → to ≡ take n (drop at bytes) ++ drop n buf → n ≤ length (drop at bytes) → drop at bytes ≡ take n to ++ drop (at + n) bytes
moved bytes to buf at n copied fits =
    let front : take n to ≡ take n (drop at bytes) = ap (take n) copied ∙ take_at _ _ n (length-take-le n (drop at bytes) fits) in
    sym (take-append-drop n (drop at bytes)) ∙ ap (λ l. l ++ drop n (drop at bytes)) (sym front) ∙ ap (λ l. take n to ++ l) (drop-drop n at bytes)

-- nothing is copied into room for a byte only where nothing is left
ended : (bytes : List ℕ) (at n : ℕ) → n ≡ 0 → length (drop at bytes) ≤ 0 → drop (at + n) bytes ≡ []
ended bytes at n e none = drop_all (at + n) bytes (omega (arith, length-drop at bytes))

-- sources with the same parts
same_source : (l m : List ℕ) (p q : ℕ) (f g : List ℕ) (c d a b : ℕ) → l ≡ m → p ≡ q → f ≡ g → c ≡ d → a ≡ b
    → ◌≡◌ {A = SourceData} (record { left = l; piece = p; fails = f; calls = c; faults = a }) (record { left = m; piece = q; fails = g; calls = d; faults = b })
same_source l m p q f g c d a b v w x y z = cc

abbrev ok_count : ℕ → Result ℕ Failed
ok_count n = Ok n

pub returns-clause-bytes : goal.returns-clause-bytes
returns-clause-bytes c =
    let s = c.self.inside in
    let bytes = s.bytes.items in
    let at = s.at in
    let n = c.copy_front-count.result in
    let h = rw (c.deref-2.ensures.value, take_rest bytes at) at c.copy_front-count.ensures in
    let left = ap (λ (d : SourceData). d.left) c.self.view_is in
    (sym left ∙ moved bytes _ _ at n h.copied (omega arith), λ none room. ended bytes at n none (omega arith))

pub returns-clause-after : goal.returns-clause-after
returns-clause-after c =
    let s = c.self.inside in
    let view = c.self.view_is in
    same_source _ _ _ _ _ _ _ _ _ _ (sym (drop-drop c.copy_front-count.result s.at s.bytes.items) ∙ ap (λ (d : SourceData). drop c.copy_front-count.result d.left) view)
    (ap (λ (d : SourceData). d.piece) view) (ap (λ (d : SourceData). d.fails) view)
    (c.saturating_add-self-inside.ensures ∙ ap (λ (d : SourceData). next d.calls) view) (ap (λ (d : SourceData). d.faults) view)

pub returns-then-contains-clause-after : goal.returns-then-contains-clause-after
returns-then-contains-clause-after c =
    let view = c.self.view_is in
    same_source _ _ _ _ _ _ _ _ _ _ (ap (λ (d : SourceData). d.left) view) (ap (λ (d : SourceData). d.piece) view) (ap (λ (d : SourceData). d.fails) view)
    (c.saturating_add-self-inside.ensures ∙ ap (λ (d : SourceData). next d.calls) view)
    (c.saturating_add-self-inside-then-contains.ensures ∙ ap (λ (d : SourceData). next d.faults) view)

pub returns-clause-answer : goal.returns-clause-answer
returns-clause-answer c =
    let view = c.self.view_is in
    let contained = rw c.deref.ensures.value at c.contains.ensures.value in
    let goes : is_failing c.args.self.now.fails c.args.self.now.calls ≡ false = sym (ap (λ (d : SourceData). is_failing d.fails d.calls) view) ∙ sym contained ∙ c.if-contains.false in
    let h = rw (c.deref-2.ensures.value, take_rest c.self.inside.bytes.items c.self.inside.at) at c.copy_front-count.ensures in
    rw goes (ap ok_count (h.count ∙ ap (λ (d : SourceData). min (min (length d.left) (length c.args.buf.now)) d.piece) view))

use Rattle.std.proofs.Common.{◌≡◌, ℕ, ◌+◌, ◌<◌, ◌≤◌, Bool, false, List, [], length, get_or, take, sym, ap, ◌∙◌, arith}
use Rattle.std.proofs.lemmas.List.{append-nil}
use Rattle.std.proofs.lemmas.List.Elements.{filter_more}
use Rattle.std.specs.Prelude.{filter, slice_get, option_copied}
use Rattle.rl_bus.specs.declared.table.WordRow.{WordRow}
use Rattle.rl_bus.specs.Setup.{stands_at, stands_for}
use Rattle.rl_bench.specs.Stretch.{IsStretch}
use Rattle.rl_bench.proofs.ListLemmas.{found_here, found_other, count_here}
use Rattle.rl_bench.proofs.StretchLemmas.{none_taken, all_taken, not_for}
use Rattle.rl_bench.proofs.find.find_word.Goals as goal
use Rattle.rl_bench.proofs.find.find_word.Goals.{then-beat-count, else-beat-count}

-- one more that doesn't pass
filter_other : {X : Type 0} (p : X → Bool) (xs : List X) (i : ℕ) (d : X) → i < length xs → p (get_or xs i d) ≡ false → filter p (take i xs) ≡ filter p (take (i + 1) xs)
filter_other p xs i d l h = sym (rw h at (filter_more p xs i d l) ∙ append-nil (filter p (take i xs)))

pub loop-k-init : goal.loop-k-init
loop-k-init c =
    let q = stands_for c.args.port c.args.address c.args.write in
    let none : filter q (take c.args.at.first c.args.words.now) ≡ [] =
    none_taken q c.args.words.now c.args.at.first (λ k d l m. not_for c.args.port c.args.address c.args.write (get_or c.args.words.now k d) (c.requires.before k d l)) in
    record { found = sym (ap (λ xs. slice_get xs c.args.beat) none); count = sym (ap length none); behind = omega arith }

pub loop-k-preserved-then-not-lets_through : goal.loop-k-preserved-then-not-lets_through
loop-k-preserved-then-not-lets_through c =
    let p = stands_for c.args.port c.args.address c.args.write in
    let was = c.loop-k.invariant in
    let i = c.loop-k.k in
    let l : i < length c.args.words.now = omega (arith, c.loop-k-test.true, c.requires.within) in
    let other = sym (c.lets_through.ensures c.args.port c.args.address (c.requires.inside i _ c.loop-k.auto.k (omega (arith, c.loop-k-test.true)))) ∙ c.if-not-lets_through.true in
    let same = filter_other p c.args.words.now i _ l other in
    record {
      found = was.found ∙ ap (λ xs. slice_get xs c.args.beat) same;
      count = was.count ∙ ap length same;
      behind = omega (arith, was.behind);
    }

pub loop-k-preserved : goal.loop-k-preserved
loop-k-preserved c =
    let p = stands_for c.args.port c.args.address c.args.write in
    let was = c.loop-k.invariant in
    let i = c.loop-k.k in
    let l : i < length c.args.words.now = omega (arith, c.loop-k-test.true, c.requires.within) in
    let stands = sym (c.lets_through.ensures c.args.port c.args.address (c.requires.inside i _ c.loop-k.auto.k (omega (arith, c.loop-k-test.true)))) ∙ c.if-not-lets_through.false in
    record {
      found = elim c.if-beat-count.branch [
        | then-beat-count w ↦ ap option_copied w.found-is ∙ found_here p c.args.words.now i c.args.beat _ l stands (w.if-beat-count.true ∙ was.count)
        | else-beat-count w ↦ ap option_copied w.found-is ∙ was.found ∙ found_other p c.args.words.now i c.args.beat _ l stands (λ e. w.if-beat-count.false (e ∙ sym was.count))
      ];
      count = rw was.count (count_here p c.args.words.now i _ l stands);
      behind = omega (arith, was.behind);
    }

-- a stretch holds all that stands for an access
all_found : (p a : ℕ) (write : Bool) (words : List WordRow) (first end k : ℕ) → IsStretch (stands_at p a) words first end → end ≤ k
    → filter (stands_for p a write) (take k words) ≡ filter (stands_for p a write) words
all_found p a write words first end k at past = all_taken (stands_for p a write) words k (λ i d l m. not_for p a write (get_or words i d) (at.behind i d (omega (arith, l, past)) m))

pub returns-clause-word : goal.returns-clause-word
returns-clause-word c =
    c.loop-k.invariant.found
    ∙ ap (λ xs. slice_get xs c.args.beat) (all_found c.args.port c.args.address c.args.write c.args.words.now _ _ c.loop-k.k c.requires (omega (arith, c.loop-k-test.false)))

pub returns-clause-count : goal.returns-clause-count
returns-clause-count c =
    c.loop-k.invariant.count ∙ ap length (all_found c.args.port c.args.address c.args.write c.args.words.now _ _ c.loop-k.k c.requires (omega (arith, c.loop-k-test.false)))

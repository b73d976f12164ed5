use Rattle.std.proofs.Common.{◌≡◌, ℕ, ◌+◌, ◌-◌, ◌<◌, length, get_or, ap, ◌∙◌, subst, arith}
use Rattle.rl_map.specs.Layout.{key_of}
use Rattle.rl_bench.specs.Stretch.{IsStretch, stands_beside}
use Rattle.rl_bench.proofs.StretchLemmas.{stretch_one, any_default}
use Rattle.rl_bench.proofs.find.words_beside.Goals as goal
use Rattle.rl_bench.proofs.find.words_beside.Goals.{else-k-gt0-via-then-k-gt0+else-same_address, else-k-gt0-via-else-k-gt0, else-k-words-via-then-k-words+else-same_address-2}
use Rattle.rl_bench.proofs.find.words_beside.Goals.{else-k-words-via-else-k-words}

pub returns : goal.returns
returns c d =
    let words = c.args.words.now in
    let k = c.args.k in
    let before : (j : ℕ) → j + 1 ≡ k → key_of (get_or words j d) ≡ key_of (get_or words k d) → ⊥ = elim c.else-k-gt0.branch [
      | else-k-gt0-via-then-k-gt0+else-same_address w ↦ λ j e same.
          let at : k - 1 ≡ j = omega (arith, e) in
          w.same_address.ensures w.if-same_address.false d (ap (λ n. key_of (get_or words n d)) at ∙ same)
      | else-k-gt0-via-else-k-gt0 w ↦ λ j e same. omega (arith, e, w.if-k-gt0.false)
    ] in
    let behind : k + 1 < length words → key_of (get_or words k d) ≡ key_of (get_or words (k + 1) d) → ⊥ = elim c.else-k-words.branch [
      | else-k-words-via-then-k-words+else-same_address-2 w ↦ λ m same. w.same_address-then-k-words.ensures w.if-same_address-2.false d same
      | else-k-words-via-else-k-words w ↦ λ m same. omega (arith, m, w.if-k-words.false)
    ] in
    stretch_one words k d c.requires.rise c.requires.k before behind

pub words_at-requires : goal.words_at-requires
words_at-requires c = c.requires.rise

pub words_at-requires-then-same_address-2 : goal.words_at-requires-then-same_address-2
words_at-requires-then-same_address-2 c = c.requires.rise

pub returns-then-same_address : goal.returns-then-same_address
returns-then-same_address c d =
    let words = c.args.words.now in
    subst (λ w. IsStretch (stands_beside w) words c.words_at.result.first c.words_at.result.end) (any_default words c.args.k _ d c.requires.k) c.words_at.ensures

pub returns-then-same_address-2 : goal.returns-then-same_address-2
returns-then-same_address-2 c d =
    let words = c.args.words.now in
    let at = c.words_at-then-same_address-2 in
    subst (λ w. IsStretch (stands_beside w) words at.result.first at.result.end) (any_default words c.args.k _ d c.requires.k) at.ensures

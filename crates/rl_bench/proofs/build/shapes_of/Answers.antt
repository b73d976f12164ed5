use Rattle.std.proofs.Common.{◌≡◌, ◌+◌, ◌<◌, ap, ◌∙◌, ⊎_elim, arith, length}
use Rattle.std.proofs.lemmas.Bool.{cases_eq}
use Rattle.std.proofs.lemmas.List.{length_push, get_or_push, get_or_append_left}
use Rattle.rl_bench.proofs.build.shapes_of.Goals as goal

pub loop-reg-preserved : goal.loop-reg-preserved
loop-reg-preserved c =
    let was = c.loop-reg.invariant in
    let old = c.loop-reg.shapes.items in
    let reg = c.loop-reg.reg in
    record {
      count = rw c.in_ok-push.ensures.items (length_push old c.shape_of.result ∙ ap (λ n. n + 1) was.count);
      each = λ r d k. rw c.in_ok-push.ensures.items (⊎_elim
          (λ (same : r ≡ reg). rw (same, get_or_push old c.shape_of.result d reg was.count) c.shape_of.ensures)
          (λ (other : r ≡ reg → ⊥). let l : r < reg = omega (arith, k, other) in let w : r < length old = omega (arith, l, was.count) in rw (get_or_append_left old _ d r w) (was.each r d l))
          (cases_eq r reg));
    }

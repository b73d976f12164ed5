use Rattle.std.proofs.Common.{◌+◌, List, ap, sym, ◌∙◌, subst, arith}
use Rattle.rl_bench.specs.declared.beats.Queue.{Queue}
use Rattle.rl_bench.specs.Beats.{no_word}
use Rattle.rl_bench.proofs.QueueLemmas.{AreQueuesSoFar, no_queues, few_at, many_at}
use Rattle.rl_bench.proofs.beats.queues_of.Goals as goal
use Rattle.rl_bench.proofs.beats.queues_of.Goals.{then-is_queued+in_ok-push, else-is_queued}

pub loop-k-init : goal.loop-k-init
loop-k-init c = subst (AreQueuesSoFar c.args.words.now 0) (sym c.new-queues.ensures.items) (no_queues c.args.words.now)

pub loop-k-preserved : goal.loop-k-preserved
loop-k-preserved c =
    let words = c.args.words.now in
    let k = c.loop-k.k in
    let queues = c.loop-k.queues.items in
    let at = c.words_beside-at.result in
    let P : List Queue → Type 0 = AreQueuesSoFar words (k + 1) in
    elim c.if-is_queued.branch [
      | then-is_queued+in_ok-push w ↦
          subst P (sym (ap (λ v. v.items) w.queues-is ∙ w.in_ok-push.ensures.items))
          (many_at words k queues _ at.first at.end c.loop-k-test.true (c.words_beside-at.ensures _) c.loop-k.invariant)
      | else-is_queued w ↦
          subst P (sym (ap (λ v. v.items) w.queues-is))
          (few_at words k queues _ c.loop-k-test.true (c.is_queued.ensures w.if-is_queued.false) c.loop-k.invariant)
    ]

pub is_queued-requires : goal.is_queued-requires
is_queued-requires c = c.words_beside-at.ensures _

pub overflow_cast-at : goal.overflow_cast-at
overflow_cast-at c =
    let s = c.words_beside-at.ensures no_word in
    omega (arith, s.order, s.within, c.requires.few)

pub words_beside-at-requires-clause-rise : goal.words_beside-at-requires-clause-rise
words_beside-at-requires-clause-rise c = c.requires.rise

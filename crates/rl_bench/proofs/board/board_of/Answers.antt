use Rattle.std.proofs.Common.{◌<◌, ◌^◌, List, length, sym, subst}
use Rattle.rl_bus.specs.declared.table.WordRow.{WordRow}
use Rattle.rl_bench.specs.Beats.{AreQueuesOf}
use Rattle.rl_bench.specs.Stretch.{AreOrdered}
use Rattle.rl_bench.proofs.board.board_of.Goals as goal

pub queues_of-requires : goal.queues_of-requires
queues_of-requires c = record {
  rise = subst AreOrdered (sym c.words.ensures) c.requires.words_rise;
  few = subst (λ (ws : List WordRow). length ws < 2 ^ 32) (sym c.words.ensures) c.requires.few_words;
}

pub invariant_of-result : goal.invariant_of-result
invariant_of-result c = record {
  sound = c.requires;
  queued = subst (λ ws. AreQueuesOf ws c.in_ok-queues.queues.items) c.words.ensures c.in_ok-queues.ensures;
  shaped = c.in_ok-shapes.ensures;
}

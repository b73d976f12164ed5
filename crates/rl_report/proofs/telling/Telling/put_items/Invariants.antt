-- The items from the next one on are left.
use Rattle.std.proofs.Common.{drop}
use Rattle.std.specs.List.{flat_map}
use Rattle.rl_report.specs.Item.{item_line}
use Rattle.rl_report.proofs.GatherLemmas.{IsLeftOver}
use Rattle.rl_report.proofs.PieceLemmas.{SinkKeeps}
use Rattle.rl_report.proofs.telling.Telling.put_items.Given as goal

abbrev pub invariant-loop-k : goal.invariant-loop-k
invariant-loop-k g l =
    let written = g.K.Sink.written in
    record {
      put : IsLeftOver (written l.initial.sink) (written l.sink) l.initial.text l.text (flat_map (item_line l.self.model.now.layout) l.self.event.now.trace)
          (flat_map (item_line l.self.model.now.layout) (drop l.k l.self.event.now.trace));
      kept : SinkKeeps g.K.Sink l.initial.sink l.sink;
    }

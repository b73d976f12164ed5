-- The names from the next place on are left.
use Rattle.std.proofs.Common.{◌-◌}
use Rattle.std.specs.List.{flat_map, range_with_len}
use Rattle.rl_model.specs.Fields.{count_of}
use Rattle.rl_report.specs.Outcome.{name_text, names_text}
use Rattle.rl_report.proofs.GatherLemmas.{IsLeftOver}
use Rattle.rl_report.proofs.PieceLemmas.{SinkKeeps}
use Rattle.rl_report.proofs.outcome.put_names.Given as goal

abbrev pub invariant-loop-place : goal.invariant-loop-place
invariant-loop-place g l =
    let written = g.K.Sink.written in
    record {
      put : IsLeftOver (written l.initial.sink) (written l.sink) l.initial.text l.text (names_text l.model.chip l.reg l.differ)
          (flat_map (name_text l.model.chip l.reg l.differ) (range_with_len l.place (count_of l.model.chip l.reg - l.place)));
      kept : SinkKeeps g.K.Sink l.initial.sink l.sink;
    }

use Rattle.std.proofs.Common.{◌≡◌, ◌≤◌, ◌++◌, ◌*◌, drop, length, map}
use Rattle.rl_model.specs.Rules.{regs_fault, all_kinds, reg_path}
use Rattle.rl_model.specs.Build.{regs_seen}
use Rattle.rl_model.specs.Stages.{all_next}
use Rattle.rl_model.proofs.build.add_regs.Given as goal

abbrev pub invariant-loop-part : goal.invariant-loop-part
invariant-loop-part l =
    let rest = drop l.part-index l.parts in
    record {
      row : l.row ≡ l.part-index;
      few : l.row ≤ 1024;
      few_fields : length l.fields.items ≤ 64 * l.row;
      few_kinds : length l.kinds ≤ 16;
      fault : regs_fault l.row l.scopes l.paths l.kinds rest ≡ regs_fault 0 l.scopes l.initial.paths l.initial.kinds l.parts;
      paths : l.paths ++ map reg_path rest ≡ l.initial.paths ++ map reg_path l.parts;
      kinds : all_kinds l.kinds rest ≡ all_kinds l.initial.kinds l.parts;
      regs : l.regs.items ++ regs_seen (length l.fields.items) rest ≡ regs_seen 0 l.parts;
      fields : l.fields.items ++ all_next l.row l.kinds rest ≡ all_next 0 l.initial.kinds l.parts;
    }

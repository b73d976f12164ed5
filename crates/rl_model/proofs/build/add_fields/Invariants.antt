use Rattle.std.proofs.Common.{◌≡◌, ◌≤◌, ◌++◌, ◌*◌, drop, length}
use Rattle.rl_model.specs.Rules.{fields_fault, kinds_after}
use Rattle.rl_model.specs.Stages.{fields_next}
use Rattle.rl_model.proofs.FewFields.{AreOwn}
use Rattle.rl_model.proofs.build.add_fields.Given as goal

abbrev pub invariant-loop-i : goal.invariant-loop-i
invariant-loop-i l =
    let rest = drop l.i l.reg.fields in
    record {
      few : length l.kinds ≤ 16;
      own : AreOwn (8 * l.reg.bytes) l.reg.fields l.i;
      fault : fields_fault l.spot l.reg l.i l.kinds rest ≡ fields_fault l.spot l.reg 0 l.initial.kinds l.reg.fields;
      fields : l.fields.items ++ fields_next l.spot.row l.kinds rest ≡ l.initial.fields.items ++ fields_next l.spot.row l.initial.kinds l.reg.fields;
      kinds : kinds_after l.kinds rest ≡ kinds_after l.initial.kinds l.reg.fields;
    }

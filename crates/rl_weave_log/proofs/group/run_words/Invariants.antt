-- Some words were sent, and at most so many are left.
use Rattle.std.proofs.Common.{◌≡◌, ◌-◌, ◌≤◌, map, IfSome}
use Rattle.rl_weave.specs.Weave.{IsWeave, IsWeaveOn, words_left}
use Rattle.rl_weave_log.proofs.Words.{Sent}
use Rattle.rl_weave_log.specs.Setting.{weaving_at}
use Rattle.rl_weave_log.specs.Stage.{StaysAt, setting_on}
use Rattle.rl_weave_log.proofs.group.run_words.Given as goal

abbrev pub invariant-loop-k : goal.invariant-loop-k
invariant-loop-k g l =
    let all = map (λ b. (goal.Adapter-dyn g (b.vtable, b.value)).standing b.value) in
    let first = setting_on g.D.Device g.L.Sink (all l.fn.stage.adapters.now.items) l.fn.script l.fn.stage in
    let out = l.stage.out.now in
    let was = l.fn.stage.out.now in
    record {
      stays : StaysAt g.D.Device (all l.stage.adapters.now.items) l.fn.stage l.stage;
      weave : IsWeaveOn l.stage.model.now l.script.weave;
      sound : (l.k ≡ 0 → ⊥) → IsWeave l.script.weave;
      left : IsWeave l.script.weave → words_left l.script.weave ≤ 512 - l.k;
      sent : IfSome first.device (λ d. Sent 512 (weaving_at first d) (512 - l.k) first.text
          (setting_on g.D.Device g.L.Sink (all l.stage.adapters.now.items) l.script l.stage));
      later : g.L.Sink.faults was ≤ g.L.Sink.faults out;
      ends_kept : g.L.Sink.ends out ≡ g.L.Sink.ends was;
      same_target : g.L.Sink.target out ≡ g.L.Sink.target was;
    }

use Rattle.std.proofs.Common.{◌≡◌, ◌==◌, ap, ◌∙◌, sym}
use Rattle.std.specs.Prelude.{position}
use Rattle.rl_weave.specs.Weave.{WeaveData}
use Rattle.rl_weave.proofs.Weaves.{none_has}
use Rattle.rl_weave.proofs.weave.Weave.same_register.Goals as goal

pub returns-in-None-clause-apart : goal.returns-in-None-clause-apart
returns-in-None-clause-apart c =
    let accesses : c.deref.result.now ≡ c.args.self.now.accesses = c.deref.ensures.value ∙ ap (λ (w : WeaveData). w.accesses) c.self.view_is in
    none_has c.args.reg c.args.self.now.accesses (sym (ap (position (λ v. v.access.reg == c.args.reg)) accesses) ∙ sym c.place_of.ensures ∙ c.in-None.is)

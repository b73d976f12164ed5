use Rattle.std.proofs.Common.{ap, sym, ◌∙◌, refl, ◌≡◌, Some, None, ◌==◌}
use Rattle.std.specs.Prelude.{find}
use Rattle.std.proofs.lemmas.List.{get_or_read}
use Rattle.rl_bus.specs.Setup.{no_field}
use Rattle.rl_bench.specs.Tables.{setup_held}
use Rattle.rl_bench.proofs.tables.Tables.policy_of.Goals as goal

pub returns-in-Some : goal.returns-in-Some
returns-in-Some c =
    let t = setup_held c.args.self.now in
    let found : find (λ f. f.field == c.args.field) t.flaws.policies ≡ Some c.in-Some.row = rw (← c.deref.ensures.value) (sym c.other_policy.ensures ∙ c.in-Some.is) in
    rw found refl

pub returns-in-None : goal.returns-in-None
returns-in-None c =
    let t = setup_held c.args.self.now in
    let found : find (λ f. f.field == c.args.field) t.flaws.policies ≡ None = rw (← c.deref.ensures.value) (sym c.other_policy.ensures ∙ c.in-None.is) in
    rw found (ap (λ f. f.policy) (get_or_read t.fields c.args.field c.index.result.now c.requires c.index.ensures no_field))

use Rattle.std.proofs.Common.{◌≡◌, ◌∷◌, ◌∙◌, string_bytes, sym, arith, rules}
use Rattle.std.proofs.lemmas.Grind.{common_steps}
use Rattle.toml.proofs.Views.{Entry}
use Rattle.toml.specs.View.{view, members_view}
use Rattle.rl_desc.specs.Shapes.{number}
use Rattle.rl_desc.proofs.ValueLemmas.{ok_from_value, kinds-more}
use Rattle.rl_desc.proofs.value.kinds.Goals as goal

pub loop-kind-preserved : goal.loop-kind-preserved
loop-kind-preserved c =
    let k = c.args.at.key in
    let d = view c.in-Some.value.now in
    let e : Entry = (c.in-Some.kind.now, c.in-Some.value.now) in
    let iter : c.loop-kind.kind-iterator ≡ e ∷ c.next.new.self = grind (arith, common_steps) in
    let read = ok_from_value (number k d) c.in_ok-value.value (sym c.in_ok-value.ensures.1) in
    let name : c.of-kind.result ≡ string_bytes c.in-Some.kind.now = search rules in
    rw (c.in_ok-push.ensures.items, name) (
    sym (kinds-more k (string_bytes c.in-Some.kind.now) d (members_view c.next.new.self) c.in_ok-value.value c.loop-kind.resets.items read)
    ∙ rw iter at c.loop-kind.invariant
    )

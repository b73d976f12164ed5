use Rattle.rl_session.proofs.KindLemmas.{kinds_more, kinds_all}
use Rattle.rl_session.proofs.opening.kinds_of.Goals as goal

pub loop-adapter-preserved : goal.loop-adapter-preserved
loop-adapter-preserved g c =
    kinds_more (λ b. (goal.Adapter-dyn g (b.vtable, b.value)).standing b.value) c.args.adapters.now.items _ _ _ _ _ _
    c.deref-adapter-items.ensures.value c.loop-adapter-test.true c.adapter-item.is c.boxed_kind.ensures c.loop-adapter.invariant
    c.in_ok-push.ensures.items

pub returns : goal.returns
returns g c =
    kinds_all (λ b. (goal.Adapter-dyn g (b.vtable, b.value)).standing b.value) c.args.adapters.now.items _ _ _
    c.deref-adapter-items.ensures.value c.loop-adapter-test.false c.loop-adapter.invariant

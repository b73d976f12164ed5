use Rattle.std.proofs.Common.{refl, subst}
use Rattle.rl_map.specs.LayoutText.{layout_text}
use Rattle.rl_desc.specs.Data.{DescData}
use Rattle.rl_log.specs.declared.status.Status.TheVariants.{Passed, SinkFault}
use Rattle.rl_log.specs.Telling.{Tells}
use Rattle.rl_log.proofs.TellingLemmas.{tells_all, tells_front}
use Rattle.regrun.proofs.showing.put_description.Goals as goal

pub returns-in-Ok-clause-tells : goal.returns-in-Ok-clause-tells
returns-in-Ok-clause-tells g c =
    subst (λ (d : DescData). Tells Passed Passed (g.L.Sink.written c.args.out.now)
    (g.L.Sink.written c.put_layout.new.sink) (layout_text d.chip d.layout)) c.desc.view_is
    (tells_all _ _ _ _ c.in-Ok.ensures.bytes.whole)

pub returns-in-Err-clause-tells : goal.returns-in-Err-clause-tells
returns-in-Err-clause-tells g c =
    subst (λ (d : DescData). Tells SinkFault Passed (g.L.Sink.written c.args.out.now)
    (g.L.Sink.written c.put_layout.new.sink) (layout_text d.chip d.layout)) c.desc.view_is
    (tells_front _ _ _ _ _ refl c.in-Err.ensures.bytes.part)

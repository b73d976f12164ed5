use Rattle.std.proofs.Common.{◌≡◌, subst}
use Rattle.rl_desc.specs.Data.{DescData}
use Rattle.rl_link.specs.Requests.{names_of}
use Rattle.rl_link.proofs.RequestLemmas.{first_if}
use Rattle.rl_link.proofs.host.StreamsHost.device.Goals as goal

pub returns-clause-first : goal.returns-clause-first
returns-clause-first g c =
    let made = c.build-2.ensures in
    first_if g.S.Source.left g.K.Sink.written c.args.self c.args.desc.now c.in_ok-names.names c.build-2.result
    (subst (λ (d : DescData). c.in_ok-names.names ≡ names_of d.chip d.layout) c.desc.view_is c.in_ok-names.ensures)
    made.names made.streams made.empty made.whole

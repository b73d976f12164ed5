use Rattle.std.proofs.Common.{◌++◌, ap, ◌∙◌}
use Rattle.rl_report.specs.Numbers.{lanes_text}
use Rattle.rl_report.proofs.ItemLemmas.{word_fits}
use Rattle.rl_report.proofs.PieceLemmas.{appended_nine}
use Rattle.rl_report.proofs.item.push_transfer.Goals as goal

pub push_padded-requires-clause-fits : goal.push_padded-requires-clause-fits
push_padded-requires-clause-fits c =
    rw (c.word_of.ensures, c.port_bytes-bytes.ensures, c.layout.ensures.layout) (word_fits c.args.model.now.layout c.args.item.now c.requires.fits)

pub returns : goal.returns
returns c =
    let item = c.args.item.now in
    let lanes = c.push_lanes.ensures.text ∙ ap (λ n. c.push-2.new.self ++ lanes_text n item.op.lanes) c.requires.fits.bytes in
    appended_nine _ _ _ _ _ _ _ _ _ _ _ _ _ _ _ _ _ _ _
    c.push_way.ensures.text
    c.push_hex.ensures.text
    c.push.ensures.text
    (rw (c.word_of.ensures, c.port_bytes-bytes.ensures, c.layout.ensures.layout) at c.push_padded.ensures.text)
    c.push-2.ensures.text
    lanes
    c.push-3.ensures.text
    (c.push-4.ensures.text ∙ ap (λ l. c.push-3.new.self ++ l) (c.as_bytes.ensures.value ∙ c.format.ensures.text))
    c.push_answer.ensures

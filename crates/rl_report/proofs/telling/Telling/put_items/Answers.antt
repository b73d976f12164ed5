use Rattle.std.proofs.Common.{subst, arith}
use Rattle.rl_report.specs.Item.{item_line}
use Rattle.rl_report.proofs.ListingLemmas.{next_item, no_item}
use Rattle.rl_report.proofs.PieceLemmas.{keeps_more, keeps_stopped, keeps_all}
use Rattle.rl_report.proofs.GatherLemmas.{less_over, over_stopped, none_over}
use Rattle.std.proofs.lemmas.Option.{get_or_from_slice_get, slice_get_within}
use Rattle.rl_access.specs.Event.{ItemFits}
use Rattle.rl_report.proofs.telling.Telling.put_items.Goals as goal

pub loop-k-preserved : goal.loop-k-preserved
loop-k-preserved g c =
    let i = c.loop-k.invariant in
    let e = c.in_ok-put_item.ensures in
    record {
      put = less_over _ _ _ _ _ _ _ _ _ _ i.put (next_item (item_line c.args.self.now.model.now.layout) c.args.self.now.event.now.trace c.loop-k.k c.item.result c.item.ensures) e.bytes.whole;
      kept = keeps_more _ _ _ _ _ i.kept e.stays;
    }

pub returns-in_err-put_item-clause-bytes : goal.returns-in_err-put_item-clause-bytes
returns-in_err-put_item-clause-bytes g c =
    over_stopped _ _ _ _ _ _ _ _ _ _ _ c.loop-k.invariant.put
    (next_item (item_line c.args.self.now.model.now.layout) c.args.self.now.event.now.trace c.loop-k.k c.item.result c.item.ensures) c.from_residual.ensures.0 c.in_err-put_item.ensures.bytes.part

pub returns-clause-bytes : goal.returns-clause-bytes
returns-clause-bytes g c =
    record { whole = none_over _ _ _ _ _ _ c.loop-k.invariant.put (no_item (item_line c.args.self.now.model.now.layout) c.args.self.now.event.now.trace c.loop-k.k (omega arith)); part = tt }

pub returns-in_err-put_item-clause-stays : goal.returns-in_err-put_item-clause-stays
returns-in_err-put_item-clause-stays g c = keeps_stopped _ _ _ _ _ _ c.from_residual.ensures.0 c.loop-k.invariant.kept c.in_err-put_item.ensures.stays

pub returns-clause-stays : goal.returns-clause-stays
returns-clause-stays g c = keeps_all _ _ _ _ c.loop-k.invariant.kept

pub put_item-requires : goal.put_item-requires
put_item-requires g c =
    let trace = c.args.self.now.event.now.trace in
    let item = c.item.result in
    subst (ItemFits c.args.self.now.model.now.layout) (get_or_from_slice_get trace c.loop-k.k item item c.item.ensures)
    (c.requires.items c.loop-k.k item (slice_get_within trace c.loop-k.k item c.item.ensures))

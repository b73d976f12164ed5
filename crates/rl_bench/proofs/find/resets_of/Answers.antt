use Rattle.std.proofs.Common.{ltb, leb, rules}
use Rattle.std.proofs.lemmas.List.Sorted.{IsPartitionedBy-ltb, IsPartitionedBy-leb, IsPartitionPoint-from_clause}
use Rattle.rl_bus.specs.declared.table.ResetRow.{ResetRow}
use Rattle.rl_bench.proofs.StretchLemmas.{between}
use Rattle.rl_bench.proofs.find.resets_of.Goals as goal

pub returns : goal.returns
returns c =
    let xs = c.args.resets.now in
    let t = c.args.field in
    let low = IsPartitionPoint-from_clause
    (λ (r : ResetRow). ltb r.field t) xs c.partition_point-first.result c.partition_point-first.ensures.partitioned
    (IsPartitionedBy-ltb (λ r. r.field) xs t c.requires) (λ a r f k. search rules) in
    let high = IsPartitionPoint-from_clause
    (λ (r : ResetRow). leb r.field t) xs c.partition_point-end.result c.partition_point-end.ensures.partitioned (IsPartitionedBy-leb (λ r. r.field) xs t c.requires) (λ a r f k. search rules) in
    between (λ r. r.field) xs t c.partition_point-first.result c.partition_point-end.result c.partition_point-first.ensures.bound c.partition_point-end.ensures.bound low.0 low.1 high.0 high.1

use Rattle.std.proofs.Common.{ltb, leb, rules}
use Rattle.std.proofs.lemmas.List.Sorted.{IsPartitionedBy-ltb, IsPartitionedBy-leb, IsPartitionPoint-from_clause}
use Rattle.rl_bus.specs.declared.table.FieldRow.{FieldRow}
use Rattle.rl_bench.proofs.StretchLemmas.{between}
use Rattle.rl_bench.proofs.find.fields_of.Goals as goal

pub returns : goal.returns
returns c =
    let xs = c.args.fields.now in
    let t = c.args.reg in
    let low = IsPartitionPoint-from_clause
    (λ (f : FieldRow). ltb f.reg t) xs c.partition_point-first.result c.partition_point-first.ensures.partitioned (IsPartitionedBy-ltb (λ f. f.reg) xs t c.requires) (λ a r f k. search rules) in
    let high = IsPartitionPoint-from_clause
    (λ (f : FieldRow). leb f.reg t) xs c.partition_point-end.result c.partition_point-end.ensures.partitioned (IsPartitionedBy-leb (λ f. f.reg) xs t c.requires) (λ a r f k. search rules) in
    between (λ f. f.reg) xs t c.partition_point-first.result c.partition_point-end.result c.partition_point-first.ensures.bound c.partition_point-end.ensures.bound low.0 low.1 high.0 high.1

use Rattle.std.proofs.Common.{◌+◌, ◌*◌, ◌^◌, ltb, get_or, rules, arith}
use Rattle.std.proofs.lemmas.List.Sorted.{IsPartitionedBy-ltb, IsPartitionPoint-from_clause}
use Rattle.rl_bus.specs.declared.table.WordRow.{WordRow}
use Rattle.rl_map.specs.Layout.{key_of}
use Rattle.rl_bench.proofs.StretchLemmas.{lt_from, le_from}
use Rattle.rl_bench.proofs.find.search.Goals as goal

pub returns-clause-before : goal.returns-clause-before
returns-clause-before c k d l =
    let xs = c.args.words.now in
    let t = c.args.port * 2 ^ 64 + c.args.address in
    let point = IsPartitionPoint-from_clause
    (λ (w : WordRow). ltb (key_of w) t) xs c.partition_point.result c.partition_point.ensures.partitioned (IsPartitionedBy-ltb key_of xs t c.requires) (λ a r f k. search rules) in
    lt_from (key_of (get_or xs k d)) t (point.0 k d (omega arith) l)

pub returns-clause-behind : goal.returns-clause-behind
returns-clause-behind c k d l m =
    let xs = c.args.words.now in
    let t = c.args.port * 2 ^ 64 + c.args.address in
    let point = IsPartitionPoint-from_clause
    (λ (w : WordRow). ltb (key_of w) t) xs c.partition_point.result c.partition_point.ensures.partitioned (IsPartitionedBy-ltb key_of xs t c.requires) (λ a r f k. search rules) in
    le_from (key_of (get_or xs k d)) t (point.1 k d l m)

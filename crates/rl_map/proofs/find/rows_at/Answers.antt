use Rattle.std.proofs.Common.{◌≡◌, ◌+◌, ◌-◌, ◌==◌, Bool, not, length, take, drop, take_all, length-drop, ◌*◌, ◌^◌, ltb, eqb, arith, rules, sym, ap, ◌∙◌}
use Rattle.std.specs.Prelude.{filter}
use Rattle.std.specs.List.{position_or_len}
use Rattle.std.proofs.lemmas.List.Sorted.{IsPartitionPoint-from_clause, IsPartitionedBy-ltb}
use Rattle.rl_bus.specs.declared.table.WordRow.{WordRow}
use Rattle.rl_map.specs.Layout.{key_of}
use Rattle.rl_map.proofs.Sorting.{group_is, standing_by_key}
use Rattle.rl_map.proofs.find.rows_at.Goals as goal
use Rattle.rl_map.proofs.Bools.{ge_from, lt_from}

pub returns : goal.returns
returns c =
    let key = c.from.result * (c.from-2.result + 1) + c.from-3.result in
    let rows = c.args.rows.now in
    let start = c.partition_point.result in
    let at = IsPartitionPoint-from_clause (λ r. ltb (key_of r) key) rows _ c.partition_point.ensures.partitioned (IsPartitionedBy-ltb key_of rows key c.requires.ascending) (λ a r q k. search rules) in
    let same : key ≡ c.args.port * 2 ^ 64 + c.args.address = rw (c.from.ensures, c.from-2.ensures, c.from-3.ensures) (omega arith) in
    let rest : take (length rows - start) (drop start rows) ≡ drop start rows = take_all (length rows - start) (drop start rows) (omega (arith, length-drop start rows)) in
    let other : WordRow → Bool = λ r. not (key_of r == key) in
    let count : c.count_in_front.result ≡ position_or_len other (drop start rows) = c.count_in_front.ensures.count ∙ ap (position_or_len other) rest in
    rw (rest, count)
    (sym (group_is rows key start c.requires.ascending (λ k d i j. lt_from _ _ (at.0 k d i j)) (λ k d i j. ge_from _ _ (at.1 k d i j)) c.partition_point.ensures.bound)
    ∙ ap (λ k. filter (λ r. eqb (key_of r) k) rows) same
    ∙ sym (standing_by_key rows c.args.port c.args.address (omega (arith, c.ranges.address.fits)) c.requires.low))

use Rattle.std.proofs.Common.{◌+◌, ap, ◌∙◌, arith}
use Rattle.rl_bench.proofs.RowLemmas.{sizes_more, sizes_in}
use Rattle.rl_bench.proofs.rows.count_locations.Goals as goal

pub loop-mem-preserved : goal.loop-mem-preserved
loop-mem-preserved c =
    ap (λ n. n + c.size-count.result) c.loop-mem.invariant
    ∙ sizes_more c.args.chip.now.mems c.loop-mem.mem c.size-count.result c.size-count.ensures.value

pub overflow_add-count : goal.overflow_add-count
overflow_add-count c =
    let mems = c.args.chip.now.mems in
    omega (arith, c.loop-mem.invariant, sizes_in mems c.loop-mem.mem c.size-count.result c.size-count.ensures.value, c.mems-mem-end.ensures.sound.locations)

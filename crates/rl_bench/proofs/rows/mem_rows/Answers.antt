use Rattle.std.proofs.Common.{◌+◌, ◌++◌, ◌∷◌, [], refl, ap, ◌∙◌, arith}
use Rattle.std.proofs.lemmas.List.{take_all}
use Rattle.rl_map.specs.Tables.{mem_rows}
use Rattle.rl_bench.proofs.RowLemmas.{mem_more, sizes_more, sizes_in}
use Rattle.rl_bench.proofs.rows.mem_rows.Goals as goal

pub loop-mem-preserved : goal.loop-mem-preserved
loop-mem-preserved c =
    let was = c.loop-mem.invariant in
    let mems = c.args.chip.now.mems in
    let k = c.loop-mem.mem in
    let size = c.size-size.result in
    record {
      rows = c.in_ok-push.ensures.items
          ∙ ap (λ rows. rows ++ record { first = c.loop-mem.first; bytes = c.bytes.result; size = size; writable = c.writable.result } ∷ []) was.rows
          ∙ mem_more mems k c.loop-mem.first c.bytes.result size c.writable.result c.size-size.ensures.value c.bytes.ensures.value c.writable.ensures was.first;
      first = ap (λ n. n + size) was.first ∙ sizes_more mems k size c.size-size.ensures.value;
    }

pub loop-mem-init : goal.loop-mem-init
loop-mem-init c = record { rows = c.new-rows.ensures.items; first = refl }

pub returns : goal.returns
returns c =
    c.loop-mem.invariant.rows ∙ ap (mem_rows 0) (take_all c.loop-mem.mem c.args.chip.now.mems (omega (arith, c.loop-mem-test.false, c.mems-mem-end.ensures.count)))

pub overflow_add-first : goal.overflow_add-first
overflow_add-first c =
    let mems = c.args.chip.now.mems in
    omega (arith, c.loop-mem.invariant.first, sizes_in mems c.loop-mem.mem c.size-size.result c.size-size.ensures.value, c.mems-mem-end.ensures.sound.locations)

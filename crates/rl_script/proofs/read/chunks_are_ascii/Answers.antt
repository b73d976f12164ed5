use Rattle.std.proofs.Common.{◌≡◌, true, false, take, sym, ◌∙◌}
use Rattle.std.specs.List.{list_all}
use Rattle.rl_script.specs.Reading.{is_ascii}
use Rattle.rl_script.proofs.ChunkLemmas.{chunk_fails, chunk_passes, last_kept}
use Rattle.rl_script.proofs.read.chunks_are_ascii.Goals as goal

pub returns-then-not-all_ascii : goal.returns-then-not-all_ascii
returns-then-not-all_ascii c =
    let rest = c.loop-chunk.rest.now in
    let e : list_all is_ascii (take 16 rest) ≡ false = rw (← c.in-Some.ensures.cases.0) (sym c.all_ascii.ensures ∙ c.if-not-all_ascii.true) in
    sym (sym c.loop-chunk.invariant.same ∙ chunk_fails 16 rest e)

pub loop-chunk-preserved : goal.loop-chunk-preserved
loop-chunk-preserved c =
    let rest = c.loop-chunk.rest.now in
    let e : list_all is_ascii (take 16 rest) ≡ true = rw (← c.in-Some.ensures.cases.0) (sym c.all_ascii.ensures ∙ c.if-not-all_ascii.false) in
    record {
      same = rw c.in-Some.ensures.cases.1 (chunk_passes 16 rest e ∙ c.loop-chunk.invariant.same);
      last = rw c.in-Some.ensures.cases.1 (last_kept rest c.loop-chunk.invariant.last);
    }

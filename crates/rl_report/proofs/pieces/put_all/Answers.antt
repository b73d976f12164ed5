use Rattle.std.proofs.Common.{◌≡◌, ℕ, ◌-◌, List, ◌++◌, arith, length, take, drop, ap, ◌∙◌, append_assoc, take-append-drop}
use Rattle.std.proofs.lemmas.List.{take_rest}
use Rattle.std.proofs.KnownBytes.{Appends-trans, Appends-kept}
use Rattle.rl_report.proofs.PieceLemmas.{puts_stopped, keeps_stopped}
use Rattle.rl_report.proofs.pieces.put_all.Goals as goal

-- n more bytes are done
moves : (all done rest : List ℕ) (n : ℕ) → done ++ rest ≡ all → (done ++ take n rest) ++ take (length rest - n) (drop n rest) ≡ all
moves all done rest n split =
    ap (λ l. (done ++ take n rest) ++ l) (take_rest rest n) ∙ append_assoc done (take n rest) (drop n rest) ∙ ap (λ l. done ++ l) (take-append-drop n rest) ∙ split

pub loop-rest-preserved : goal.loop-rest-preserved
loop-rest-preserved g c =
    let (done, split, appended) = c.loop-rest.invariant.put in
    let e = c.in_ok-count.ensures in
    let rest = c.loop-rest.rest.now in
    let n = c.in_ok-count.count in
    let kept = c.loop-rest.invariant.kept in
    record {
      put = (done ++ take n rest, moves _ done rest n split, Appends-trans _ _ _ _ _ appended e.bytes);
      kept = record { later = omega (arith, kept.later, e.cause.later); ends = e.ends_kept ∙ kept.ends; target = e.same_target ∙ kept.target };
    }

pub returns-in_err-count : goal.returns-in_err-count
returns-in_err-count g c =
    let (done, split, appended) = c.loop-rest.invariant.put in
    let e = c.in_err-count.ensures in
    record {
      bytes = puts_stopped _ _ _ _ c.from_residual.ensures.0 (record { front = done; rest = c.loop-rest.rest.now; split = split; appended = Appends-kept _ _ _ _ appended e.bytes });
      stays = keeps_stopped _ _ _ _ _ _ c.from_residual.ensures.0 c.loop-rest.invariant.kept (record { cause = e.cause; ends = e.ends_kept; target = e.same_target });
    }

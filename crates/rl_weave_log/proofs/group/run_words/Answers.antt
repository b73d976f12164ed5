use Rattle.std.proofs.Common.{◌+◌, ◌-◌, arith, refl, ◌∙◌}
use Rattle.rl_weave.proofs.Left.{few_left, none_left}
use Rattle.rl_weave_log.proofs.StageLemmas.{stays_here, stays_then}
use Rattle.rl_weave_log.proofs.Words.{begun, none_open, set, some_open, words_all, words_most, words_next, words_stop}
use Rattle.rl_weave_log.proofs.group.run_words.Goals as goal

pub loop-k-init : goal.loop-k-init
loop-k-init g c = record {
  stays = stays_here g.D.Device _ c.args.stage.now c.requires.weaving.ready;
  weave = c.requires.weaving.weave;
  sound = λ some. absurd (some refl);
  left = λ ok. few_left c.args.stage.now.model.now c.args.script.now.weave c.layout.ensures.sound ok c.requires.weaving.weave;
  sent = begun 512 (set _ _ _ _ _ _ _) _ refl;
  later = omega arith;
  ends_kept = refl;
  same_target = refl;
}

pub loop-k-preserved : goal.loop-k-preserved
loop-k-preserved g c =
    let i = c.loop-k.invariant in
    let e = c.in_ok-run_word.ensures in
    record {
      stays = stays_then g.D.Device _ _ _ _ _ i.stays e.stays;
      weave = e.weave;
      sound = λ some. e.sound;
      left = λ ok. omega (arith, e.fewer, i.left c.open_count.ensures.weave);
      sent = words_next _ _ _ _ _ _ _ _ 512 (512 - c.loop-k.k) (512 - (c.loop-k.k + 1)) _ (set _ _ _ _ _ _ _) _ _ (omega arith) i.sent
          (some_open _ _ c.open_count.ensures.count (omega (arith, c.if-open_count-eq0.false))) e.writes;
      later = omega (arith, i.later, e.sink.cause.later);
      ends_kept = e.sink.ends ∙ i.ends_kept;
      same_target = e.sink.target ∙ i.same_target;
    }

pub returns-then-open_count-eq0-clause-writes : goal.returns-then-open_count-eq0-clause-writes
returns-then-open_count-eq0-clause-writes g c =
    words_all _ _ _ _ _ _ _ _ 512 _ _ (set _ _ _ _ _ _ _) _ c.loop-k.invariant.sent
    (none_open _ _ c.open_count.ensures.count (omega (arith, c.if-open_count-eq0.true)))

pub returns-in_err-run_word-clause-writes : goal.returns-in_err-run_word-clause-writes
returns-in_err-run_word-clause-writes g c =
    words_stop _ _ _ _ _ _ _ _ 512 (512 - c.loop-k.k) (512 - (c.loop-k.k + 1)) _ (set _ _ _ _ _ _ _) _ _ _ c.from_residual.ensures.0 (omega arith)
    c.loop-k.invariant.sent (some_open _ _ c.open_count.ensures.count (omega (arith, c.if-open_count-eq0.false)))
    c.in_err-run_word.ensures.writes

pub returns-clause-writes : goal.returns-clause-writes
returns-clause-writes g c =
    words_most _ _ _ _ _ _ _ _ 512 (512 - c.loop-k.k) _ (set _ _ _ _ _ _ _) _ (omega arith) c.loop-k.invariant.sent

pub returns-then-open_count-eq0-clause-closed : goal.returns-then-open_count-eq0-clause-closed
returns-then-open_count-eq0-clause-closed g c = omega (arith, c.open_count.ensures.count, c.if-open_count-eq0.true)

pub returns-clause-closed : goal.returns-clause-closed
returns-clause-closed g c =
    let i = c.loop-k.invariant in
    let ok = i.sound (λ none. absurd (omega (arith, none))) in
    none_left _ ok (omega (arith, i.left ok))

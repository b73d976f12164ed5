use Rattle.std.proofs.Common.{ap, sym, subst, ◌∙◌}
use Rattle.rl_access.specs.Gathering.{IsPredictorOf, gathered_at, gathered_with}
use Rattle.rl_access.specs.Observed.{Seen}
use Rattle.rl_access.proofs.Gathers.{whole_taken}
use Rattle.rl_access.proofs.Taken.{emptied_predictor, set_predictor, part_taken_in, part_shorter}
use Rattle.rl_access.proofs.predictor.Predictor.take_in.Goals as goal

pub returns-then-gather-clause-gathered : goal.returns-then-gather-clause-gathered
returns-then-gather-clause-gathered c =
    whole_taken c.args.chip.now c.args.layout.now c.args.place (gathered_with c.args.layout.now c.args.place c.args.op.now c.args.word (gathered_at c.args.self.now c.args.place)) c.args.self.now
    c.gather.new.self c.forget.new.self c.args.mirror.now
    c.gather.ensures.gathered c.forget.ensures (sym c.gather.ensures.whole ∙ c.if-gather.true)

pub returns-then-gather-clause-predictor : goal.returns-then-gather-clause-predictor
returns-then-gather-clause-predictor c =
    emptied_predictor c.args.layout.now c.args.place (gathered_with c.args.layout.now c.args.place c.args.op.now c.args.word (gathered_at c.args.self.now c.args.place)) c.args.self.now
    c.gather.new.self c.forget.new.self c.requires.predictor c.requires.place.inside c.gather.ensures.gathered c.forget.ensures

pub returns-else-gather : goal.returns-else-gather
returns-else-gather c =
    let l = c.args.layout.now in
    let more = gathered_with l c.args.place c.args.op.now c.args.word (gathered_at c.args.self.now c.args.place) in
    let part = sym c.gather.ensures.whole ∙ c.if-gather.false in
    let same = part_taken_in c.args.chip.now l c.args.place more c.args.self.now c.args.mirror.now part in
    record {
      gathered = c.gather.ensures.gathered ∙ sym (ap (λ (s : Seen). s.gathered) same);
      predicted = sym (ap (λ (s : Seen). s.mirror) same);
      predictor = subst (IsPredictorOf l) (sym c.gather.ensures.gathered)
          (set_predictor l c.args.place more c.args.self.now c.requires.predictor c.requires.place.inside (part_shorter l c.args.place more part c.gather.ensures.most));
      mirror = c.requires.mirror;
      reach = λ reach. reach;
    }

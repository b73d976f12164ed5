use Rattle.std.proofs.Common.{IfSome, ap, sym, subst, ◌∙◌}
use Rattle.rl_access.specs.Gathering.{IsRegisterPlace}
use Rattle.rl_access.specs.Observed.{Seen}
use Rattle.rl_access.proofs.Gathers.{nowhere_observed, word_observed}
use Rattle.rl_access.proofs.predictor.Predictor.see.Goals as goal

pub returns-in_default : goal.returns-in_default
returns-in_default c =
    let same = nowhere_observed c.args.chip.now c.args.layout.now c.args.watched c.args.op.now c.args.answer.now c.args.self.now c.args.mirror.now c.in_default.is in
    record {
      gathered = sym (ap (λ (s : Seen). s.gathered) same);
      predicted = sym (ap (λ (s : Seen). s.mirror) same);
      predictor = c.requires.predictor;
      mirror = c.requires.mirror;
      reach = λ reach. reach;
    }

pub take_in-requires : goal.take_in-requires
take_in-requires c = record {
  built_with = c.requires.built_with;
  predictor = c.requires.predictor;
  mirror = c.requires.mirror;
  place = subst (λ w. IfSome w (IsRegisterPlace c.args.layout.now)) c.in-Some.is c.requires.watched;
}

pub returns-else-answer : goal.returns-else-answer
returns-else-answer c =
    let done = c.take_in.ensures in
    let same = word_observed c.args.chip.now c.args.layout.now c.args.watched c.in-Some.place c.word_told.result c.args.op.now c.args.answer.now c.args.self.now c.args.mirror.now c.in-Some.is
    c.if-answer.false c.word_told.ensures in
    record {
      gathered = done.gathered ∙ sym (ap (λ (s : Seen). s.gathered) same);
      predicted = done.predicted ∙ sym (ap (λ (s : Seen). s.mirror) same);
      predictor = done.predictor;
      mirror = done.mirror;
      reach = done.reach;
    }

use Rattle.std.proofs.Common.{◌≡◌, ℕ, ◌+◌, ◌≤◌, List, [], ◌∷◌, ◌++◌, length, drop, refl, sym, ap, ◌∙◌, append_assoc, arith}
use Rattle.std.proofs.lemmas.List.{at_drop_all}
use Rattle.rl_model.specs.declared.parts.ResetPart.{ResetPart}
use Rattle.rl_model.specs.declared.rows.Reset.{Reset}
use Rattle.rl_model.specs.Paths.{with_text, number_in}
use Rattle.rl_model.specs.Rules.{kinds_with}
use Rattle.rl_model.specs.Stages.{numbered}
use Rattle.rl_model.proofs.BuildLemmas.{all_built, next_part}
use Rattle.rl_model.proofs.build.add_resets.Goals as goal

pub loop-part-preserved : goal.loop-part-preserved
loop-part-preserved c =
    let l = c.loop-part in
    let was = l.invariant in
    let part : ResetPart = c.part-item.result in
    let rest : List ResetPart = drop (l.part-index + 1) c.args.parts.now in
    let here : drop l.part-index c.args.parts.now ≡ part ∷ rest = next_part c.args.parts.now l.part-index part c.loop-part-test.true c.part-item.is in
    let kinds : c.find_or_add.new.self ≡ with_text l.kinds part.kind = c.in_ok-kind.ensures.added ∙ ap (with_text l.kinds) c.text.ensures in
    let number : c.in_ok-kind.kind ≡ number_in l.kinds part.kind = c.in_ok-kind.ensures.number ∙ ap (number_in l.kinds) c.text.ensures in
    let reset : ℕ → Reset = λ kind. record { kind = kind; value = part.value } in
    let items : c.push.new.self.items ≡ l.resets.items ++ reset (number_in l.kinds part.kind) ∷ [] =
    c.in_ok-push.ensures.items ∙ ap (λ kind. l.resets.items ++ reset kind ∷ []) number in
    record {
      resets =
          ap (λ rs. rs ++ numbered c.find_or_add.new.self rest) items
          ∙ ap (λ ks. (l.resets.items ++ reset (number_in l.kinds part.kind) ∷ []) ++ numbered ks rest) kinds
          ∙ append_assoc l.resets.items (reset (number_in l.kinds part.kind) ∷ []) (numbered (with_text l.kinds part.kind) rest)
          ∙ sym (ap (λ ps. l.resets.items ++ numbered l.kinds ps) here) ∙ was.resets;
      kinds = ap (λ ks. kinds_with ks rest) kinds ∙ sym (ap (kinds_with l.kinds) here) ∙ was.kinds;
    }

pub loop-part-init : goal.loop-part-init
loop-part-init c = record {
  resets = ap (λ resets. resets ++ numbered c.args.kinds.now c.args.parts.now) c.new-resets.ensures.items;
  kinds = refl;
}

pub returns-clause-resets : goal.returns-clause-resets
returns-clause-resets c =
    let l = c.loop-part in
    let end : length c.args.parts.now ≤ l.part-index = omega (arith, c.loop-part-test.false) in
    all_built (numbered l.kinds) refl _ _ _ _ end l.invariant.resets

pub returns-clause-kinds : goal.returns-clause-kinds
returns-clause-kinds c =
    let l = c.loop-part in
    let end : length c.args.parts.now ≤ l.part-index = omega (arith, c.loop-part-test.false) in
    sym (at_drop_all (kinds_with l.kinds) c.args.parts.now l.part-index end) ∙ l.invariant.kinds

-- The words of a group, on the device model with whatever flaws.
use Rattle.std.proofs.Common.{◌≡◌, ℕ, zero, suc, ◌+◌, Bool, true, false, cond, List, [], ◌∷◌, ◌++◌, Option, None, Some, refl, sym, ap, ◌∙◌, subst}
use Rattle.rl_bus.specs.Account.{without_peer}
use Rattle.rl_access.specs.declared.event.Event.{Event}
use Rattle.rl_access.specs.declared.trace.TraceItem.{TraceItem}
use Rattle.rl_access.specs.Model.{ModelData, IsModel}
use Rattle.rl_access.specs.World.{scene_at}
use Rattle.rl_report.specs.Item.{item_line}
use Rattle.rl_weave.specs.Step.{IsStepOf}
use Rattle.rl_weave.specs.Weave.{IsWeave}
use Rattle.rl_weave.proofs.Weaves.{weave_stepped}
use Rattle.rl_weave_log.specs.WeaveLog.{Part, Weaving, followed, line_at_end, nothing, step_text, words}
use Rattle.rl_weave_laws.specs.AnyDevice.{AreBegun, EachGroupRuns, turns_text}
use Rattle.rl_weave_laws.specs.Groups.{counted_in}
use Rattle.rl_weave_laws.specs.Half.{IsOpen}
use Rattle.rl_weave_laws.specs.Runs.{Turn, RunsTo, events_of}
use Rattle.rl_weave_laws.proofs.AnyWords.{each_word_is_taken, none_open_gathers_nothing, unsent_are_begun}
use Rattle.rl_weave_laws.proofs.Counting.{counted_on}
use Rattle.rl_weave_laws.proofs.GroupWords.{step_at, word_is_step, woven_now}
use Rattle.rl_weave_laws.proofs.Open.{is_done, is_open, item_at, none_is_open, which_at, word_at, words_more, words_none}
use Rattle.rl_weave_laws.proofs.Texts.{line_same}

-- ---- the text of a word tells nothing of the mirror

end_same : (m n : ModelData) (end : Option Event) → n.chip ≡ m.chip → n.layout ≡ m.layout → line_at_end n end ≡ line_at_end m end
end_same m n None chip layout = refl
end_same m n (Some e) chip layout = line_same m n e chip layout

text_same : (m n : ModelData) (item : TraceItem) (end : Option Event) → n.chip ≡ m.chip → n.layout ≡ m.layout → step_text n item end ≡ step_text m item end
text_same m n item end chip layout =
    ap (λ l. item_line l item ++ line_at_end n end) layout ∙ ap (λ t. item_line m.layout item ++ t) (end_same m n end chip layout)

turns_same : (m n : ModelData) (turns : List Turn) → n.chip ≡ m.chip → n.layout ≡ m.layout → turns_text n turns ≡ turns_text m turns
turns_same m n [] chip layout = refl
turns_same m n (t ∷ turns) chip layout =
    ap (λ x. x ++ turns_text n turns) (text_same m n t.step.item t.step.end chip layout)
    ∙ ap (λ x. step_text m t.step.item t.step.end ++ x) (turns_same m n turns chip layout)

-- ---- the words of a group

abbrev turn_at : Weaving → Turn
turn_at g = record { which = which_at g; step = step_at g }

record IsRun (g : Weaving) (errors : ℕ) (part : Part) : Type 0 where
  turns : List Turn
  later : ℕ
  run : RunsTo g.weave (scene_at g.world (without_peer errors)) turns part.after.weave (scene_at part.after.world (without_peer later))
  text : part.text ≡ turns_text g.world.model turns
  counted : part.after.counts ≡ counted_in g.counts (events_of turns)
  sound : IsModel part.after.world.model
  begun : AreBegun part.after.world.model part.after.weave

none_run : (g : Weaving) (errors : ℕ) → IsModel g.world.model → AreBegun g.world.model g.weave → IsRun g errors (nothing g)
none_run g errors model begun = record {
  turns = [];
  later = errors;
  run = (refl, refl);
  text = refl;
  counted = refl;
  sound = model;
  begun = begun;
}

one_run : (g : Weaving) (errors : ℕ) (others : Weaving → Part) → IsModel g.world.model → IsOpen g.weave (which_at g)
    → IsStepOf (scene_at g.world (without_peer errors)) (scene_at (word_at g).after.world (without_peer (errors + 1))) (woven_now g) (step_at g)
    → IsRun (word_at g).after (errors + 1) (others (word_at g).after) → IsRun g errors (followed (word_at g) others)
one_run g errors others model there here rest =
    let next = (word_at g).after in
    let m = g.world.model in
    let n = next.world.model in
    let chip : n.chip ≡ m.chip = refl in
    let layout : n.layout ≡ m.layout = refl in
    record {
      turns = turn_at g ∷ rest.turns;
      later = rest.later;
      run = (scene_at next.world (without_peer (errors + 1)), model, there, here, rest.run);
      text = ap (λ t. t ++ (others next).text) (text_same m n (item_at g) (step_at g).end chip layout)
          ∙ ap (λ t. step_text m (item_at g) (step_at g).end ++ t) (rest.text ∙ turns_same m n rest.turns chip layout);
      counted = rest.counted ∙ sym (counted_on (step_at g).end (events_of rest.turns) g.counts);
      sound = rest.sound;
      begun = rest.begun;
    }

runs : (most : ℕ) (g : Weaving) (errors : ℕ) → IsModel g.world.model → IsWeave g.weave → AreBegun g.world.model g.weave → IsRun g errors (words most g)
runs zero g errors model ok begun = subst (IsRun g errors) (sym (words_none g)) (none_run g errors model begun)
runs (suc most) g errors model ok begun =
    subst (IsRun g errors) (sym (words_more most g))
    (by (is_done g) refl (λ h e sound good are. runs most h e sound good are))
  where
    by : (t : Bool) → is_done g ≡ t
        → ((h : Weaving) (e : ℕ) → IsModel h.world.model → IsWeave h.weave → AreBegun h.world.model h.weave → IsRun h e (words most h))
        → IsRun g errors (cond t (nothing g) (followed (word_at g) (words most)))
    by true none others = none_run g errors model begun
    by false some others =
        let next = (word_at g).after in
        let there = is_open g some in
        let here = word_is_step g errors model ok there (begun.each (which_at g) there).granted (begun.each (which_at g) there).words in
        let taken = each_word_is_taken (scene_at g.world (without_peer errors)) (scene_at next.world (without_peer (errors + 1))) g.weave (which_at g) (step_at g) model ok there begun here in
        one_run g errors (words most) model there here
        (others next (errors + 1) taken.sound (weave_stepped g.weave (which_at g) (item_at g) ok there) taken.begun)

pub each_group_runs : EachGroupRuns
each_group_runs g errors model ok on unsent nothing =
    let begun = unsent_are_begun g.world.model g.weave ok on unsent nothing in
    let r = runs 512 g errors model ok begun in
    let after = (words 512 g).after in
    let none = none_is_open g model ok on in
    record {
      turns = r.turns;
      left = after.weave;
      later = r.later;
      run = r.run;
      none_left = none;
      text = r.text;
      counted = r.counted;
      sound = r.sound;
      nothing = none_open_gathers_nothing after.world.model after.weave r.begun none;
    }

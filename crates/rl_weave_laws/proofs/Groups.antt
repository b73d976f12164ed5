-- A group writes the event lines of the plain machine, in some order.
use Rattle.std.proofs.Common.{◌≡◌, ℕ, zero, suc, ◌+◌, Bool, true, false, cond, List, [], ◌∷◌, ◌++◌, map, Some, refl, sym, ap, ◌∙◌, subst, append_assoc}
use Rattle.std.specs.List.{concat}
use Rattle.std.specs.List.Sorted.{IsPermutation}
use Rattle.std.proofs.lemmas.List.Sorted.{IsPermutation-map, length_permutation}
use Rattle.rl_bus.specs.Account.{without_peer}
use Rattle.rl_bus.specs.State.{State}
use Rattle.rl_model.specs.Chip.{IsSound}
use Rattle.rl_access.specs.Model.{ModelData, IsModel}
use Rattle.rl_access.specs.World.{World, scene_at}
use Rattle.rl_plain.specs.Agree.{Agree}
use Rattle.rl_plain.specs.Calls.{without_items}
use Rattle.rl_plain.specs.Machine.{Machine, seen}
use Rattle.rl_report.specs.Event.{event_line}
use Rattle.rl_report.specs.WithoutItems.{plain_part, HasNames}
use Rattle.rl_weave.specs.Weave.{IsWeave}
use Rattle.rl_weave.proofs.Weaves.{weave_stepped}
use Rattle.rl_weave_laws.specs.Half.{IsHalf, machine_after_word}
use Rattle.rl_weave_laws.specs.Runs.{Turn, RunsTo, ended, events_of, op_at, with_event}
use Rattle.rl_weave_laws.proofs.AnyOrder.{order_does_not_matter}
use Rattle.rl_weave_laws.proofs.Counting.{counted_bare, counted_on, orders_count}
use Rattle.rl_weave_laws.proofs.Courses.{weave_is_plain}
use Rattle.rl_weave_laws.proofs.Halves.{fresh_is_half, step_keeps_half}
use Rattle.rl_weave_laws.proofs.Models.{step_keeps_model}
use Rattle.rl_weave_laws.proofs.Orders.{ended_are_all}
use Rattle.rl_weave_log.specs.WeaveLog.{Weaving, Part, nothing, followed, words}
use Rattle.rl_weave_laws.specs.Groups.{counted_in, event_lines, course_of, GroupIsPlain}
use Rattle.rl_weave_laws.proofs.Open.{is_done, is_open, item_at, none_is_open, which_at, word_at, words_more, words_none}
use Rattle.rl_weave_laws.proofs.Texts.{bare_lines, lines_on, word_left}
use Rattle.rl_weave_laws.proofs.GroupWords.{step_at, woven_now, word_is_step}

some_is : {x y : State} → Some x ≡ Some y → x ≡ y
some_is e = cc

-- ---- the turns of a group

abbrev turn_at : Weaving → Turn
turn_at g = record { which = which_at g; step = step_at g }

abbrev turns : ℕ → Weaving → List Turn
turns zero g = []
turns (suc most) g = cond (is_done g) [] (turn_at g ∷ turns most (word_at g).after)

-- what some of its words do and write
record IsSent (m : ModelData) (g : Weaving) (errors : ℕ) (turns : List Turn) (part : Part) : Type 0 where
  later : ℕ
  run : RunsTo g.weave (scene_at g.world (without_peer errors)) turns part.after.weave (scene_at part.after.world (without_peer later))
  sound : IsModel part.after.world.model
  counted : part.after.counts ≡ counted_in g.counts (events_of turns)
  text : (rest : List ℕ)
      → plain_part (part.text ++ rest) ≡ concat (event_lines m (events_of turns)) ++ plain_part rest

none_sent : (m : ModelData) (g : Weaving) (errors : ℕ) → IsModel g.world.model → IsSent m g errors [] (nothing g)
none_sent m g errors model = record { later = errors; run = (refl, refl); sound = model; counted = refl; text = λ rest. refl }

module _ (m : ModelData) (chip : IsSound m.chip) (names : HasNames m.chip m.layout) where
  -- a word, and then the others
  one_sent : (g : Weaving) (errors : ℕ) (begun : State) (p : Machine) (ts : List Turn) (others : Weaving → Part)
      → g.world.model.chip ≡ m.chip → g.world.model.layout ≡ m.layout → IsModel g.world.model → IsWeave g.weave
      → is_done g ≡ false → IsHalf begun p g.world.model g.world.device g.weave
      → IsSent m (word_at g).after (errors + 1) ts (others (word_at g).after)
      → IsSent m g errors (turn_at g ∷ ts) (followed (word_at g) others)
  one_sent g errors begun p ts others same_chip same_layout model ok some half rest =
      let next = (word_at g).after in
      let there = is_open g some in
      let here = word_is_step g errors model ok there (half.open_ones (which_at g) there).granted (half.open_ones (which_at g) there).words in
      let q = others next in
      let first = (word_at g).text in
      let lines = concat (event_lines m (with_event (step_at g).end [])) in
      let more = concat (event_lines m (events_of ts)) in
      record {
        later = rest.later;
        run = (scene_at next.world (without_peer (errors + 1)), model, there, here, rest.run);
        sound = rest.sound;
        counted = rest.counted ∙ sym (counted_on (step_at g).end (events_of ts) g.counts);
        text = λ r.
            ap plain_part (append_assoc first q.text r)
            ∙ word_left m next.world.model (item_at g) (step_at g).end (q.text ++ r) chip names same_chip same_layout
            ∙ ap (λ t. lines ++ t) (rest.text r)
            ∙ sym (append_assoc lines more (plain_part r))
            ∙ ap (λ t. t ++ plain_part r) (sym (lines_on m (step_at g).end (events_of ts)));
      }

  sent : (most : ℕ) (g : Weaving) (errors : ℕ) (begun : State) (p : Machine) → g.world.model.chip ≡ m.chip
      → g.world.model.layout ≡ m.layout → IsModel g.world.model → IsWeave g.weave
      → IsHalf begun p g.world.model g.world.device g.weave → IsSent m g errors (turns most g) (words most g)
  sent zero g errors begun p same_chip same_layout model ok half =
      subst (IsSent m g errors []) (sym (words_none g)) (none_sent m g errors model)
  sent (suc most) g errors begun p same_chip same_layout model ok half =
      subst (IsSent m g errors (turns (suc most) g)) (sym (words_more most g))
      (by (is_done g) refl (λ h e b q c l sound good halved. sent most h e b q c l sound good halved))
    where
      by : (t : Bool) → is_done g ≡ t
          → ((h : Weaving) (e : ℕ) (b : State) (q : Machine) → h.world.model.chip ≡ m.chip → h.world.model.layout ≡ m.layout
          → IsModel h.world.model → IsWeave h.weave → IsHalf b q h.world.model h.world.device h.weave
          → IsSent m h e (turns most h) (words most h))
          → IsSent m g errors (cond t [] (turn_at g ∷ turns most (word_at g).after))
          (cond t (nothing g) (followed (word_at g) (words most)))
      by true none others = none_sent m g errors model
      by false some others =
          let next = (word_at g).after in
          let s = scene_at g.world (without_peer errors) in
          let new = scene_at next.world (without_peer (errors + 1)) in
          let there = is_open g some in
          let here = word_is_step g errors model ok there (half.open_ones (which_at g) there).granted (half.open_ones (which_at g) there).words in
          let after = step_keeps_half s new begun g.world.device p g.weave (which_at g) (step_at g) model refl ok there half here in
          let sound = step_keeps_model s new begun g.world.device p g.weave (which_at g) (step_at g) model refl ok there half here in
          let q = machine_after_word g.world.model p (woven_now g) (item_at g) in
          let now : IsHalf begun q next.world.model next.world.device next.weave =
          subst (λ d. IsHalf begun q next.world.model d next.weave) (sym (some_is after.told)) after.half in
          one_sent g errors begun p (turns most next) (words most) same_chip same_layout model ok some half
          (others next (errors + 1) begun q same_chip same_layout sound
          (weave_stepped g.weave (which_at g) (item_at g) ok there) now)

-- ---- a group

-- whatever the count of errors
agree_at : (w : World) (later : ℕ) → Agree (scene_at w (without_peer later)) → Agree (scene_at w (without_peer 0))
agree_at w later h = record { device = h.device; told = h.told; believed_is = h.believed_is; gathered = h.gathered }

seen_again : (m n : ModelData) (p : Machine) → n ≡ seen m.chip m.layout p → n ≡ seen n.chip n.layout p
seen_again m n p is =
    is
    ∙ ap (λ c. seen c m.layout p) (sym (ap (λ (x : ModelData). x.chip) is))
    ∙ ap (λ l. seen n.chip l p) (sym (ap (λ (x : ModelData). x.layout) is))

pub group_is_plain : GroupIsPlain
group_is_plain g p names world gathered =
    let m = g.world.model in
    let s = scene_at g.world (without_peer 0) in
    let a = world.agree in
    let w = g.weave in
    let ts = turns 512 g in
    let after = (words 512 g).after in
    let course = course_of g p in
    let half = fresh_is_half s p w world.sound a world.model gathered.weave gathered.on gathered.unsent in
    let begun : IsHalf a.device p m g.world.device w =
    subst (λ d. IsHalf a.device p m d w) (sym (some_is a.told)) half in
    let r = sent m world.sound.chip names 512 g 0 a.device p refl refl world.sound gathered.weave begun in
    let new = scene_at after.world (without_peer r.later) in
    let none = none_is_open g world.sound gathered.weave gathered.on in
    let plain = weave_is_plain s new p w after.weave ts world.sound a world.model gathered.weave gathered.on gathered.unsent r.run
    r.sound none in
    let order = order_does_not_matter s new p w after.weave ts world.sound a world.model gathered.weave gathered.on
    gathered.unsent r.run r.sound none in
    record {
      lines = record {
        order = event_lines m (events_of ts);
        same = subst (IsPermutation (event_lines m course.events)) (bare_lines m (events_of ts))
            (IsPermutation-map (event_line m) course.events (map without_items (events_of ts)) order.1);
        text_is = r.text;
      };
      world = record {
        sound = r.sound;
        agree = agree_at after.world r.later plain.0;
        model = seen_again m after.world.model course.machine order.0;
      };
      same = record { chip = ap (λ (x : ModelData). x.chip) order.0; layout = ap (λ (x : ModelData). x.layout) order.0 };
      counted = r.counted
          ∙ sym (counted_bare (events_of ts) g.counts)
          ∙ ap (counted_in g.counts) plain.2
          ∙ orders_count m.chip m.layout p w ts g.counts
          (length_permutation (map (op_at w) w.still_open) (ended w ts) (ended_are_all w s ts after.weave new gathered.weave r.run none));
    }

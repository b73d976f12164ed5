-- How far a script was done, line by line.
use Rattle.std.proofs.Common.{◌≡◌, ◌≢◌, ℕ, ◌+◌, ◌-◌, ◌^◌, ◌<◌, ◌≤◌, min, List, [], ◌∷◌, ◌++◌, length, Option, Some, None, IfSome, Result, Ok, Err, refl, sym, ap, subst, ◌∙◌, append_assoc, arith}
use Rattle.rl_access.specs.Model.{ModelData}
use Rattle.rl_bus.specs.Standing.{Standing}
use Rattle.rl_bus.specs.State.{State}
use Rattle.rl_report.specs.declared.lines.Got.{Got}
use Rattle.rl_report.specs.declared.lines.Got.TheVariants as got
use Rattle.rl_report.specs.Got.{Hands}
use Rattle.rl_report.specs.Lines.{first_line, after_line, lines_of}
use Rattle.rl_report.specs.Reading.{Reading, input_of}
use Rattle.rl_script.specs.declared.line.Line.{Line}
use Rattle.rl_log.specs.declared.counts.Counts.{Counts}
use Rattle.rl_play.specs.declared.playing.Turn.TheVariants.{Next, Stop}
use Rattle.rl_log.specs.declared.status.Status.{Status}
use Rattle.rl_log.specs.declared.refusal.LineRefusal.{LineRefusal}
use Rattle.rl_play.specs.Done.{steps_on, script_steps, Does, DoesFirst}
use Rattle.rl_log.specs.Endings.{added, both}
use Rattle.rl_log.specs.Recording.{no_counts, with_event}
use Rattle.rl_log.specs.Entry.{Entry, entry_of}
use Rattle.rl_play.specs.Heard.{heard}
use Rattle.rl_log.specs.Log.{comes_of, said, there}
use Rattle.rl_play.specs.Played.{IsTurn, RanOn, Stopped}
use Rattle.rl_play.specs.Recording.{IsDone, led_to, with_steps}
use Rattle.rl_access.specs.World.{World, world, Step, IsAt}
use Rattle.rl_play.proofs.PlayLemmas.{heard_said, hands_some, lines_more}
use Rattle.rl_play.proofs.Traces.{IsTrace, done_none, trace_entry}

-- ---- some events, and others behind them

led_append : (w : World) (xs ys : List Step) → led_to w (xs ++ ys) ≡ led_to (led_to w xs) ys
led_append w [] ys = refl
led_append w (s ∷ xs) ys = led_append s.world xs ys

with_append : (counts : Counts) (xs ys : List Step) → with_steps counts (xs ++ ys) ≡ with_steps (with_steps counts xs) ys
with_append counts [] ys = refl
with_append counts (s ∷ xs) ys = with_append (with_event counts s.event) xs ys

-- each event is counted once
many_steps : (counts : Counts) (steps : List Step) → counts.events ≤ 2 ^ 64 - 1 →
    (with_steps counts steps).events ≡ min (counts.events + length steps) (2 ^ 64 - 1)
many_steps counts [] few = omega arith
many_steps counts (s ∷ steps) few =
    let rest = many_steps (with_event counts s.event) steps (omega arith) in omega (arith, rest)

-- ---- a line of a script

trace_of : (w : World) (s : Result Line LineRefusal) (entry : Entry) → comes_of w s ≡ Ok entry → IsTrace w entry.course
trace_of w (Err why) entry is = absurd cc
trace_of w (Ok line) entry is = trace_entry w line entry (given (entry_of w line) is)
  where
    given : (o : Option Entry) → there o ≡ Ok entry → o ≡ Some entry
    given None e = absurd cc
    given (Some x) e = cc

steps_more : (number : ℕ) (w : World) (bytes : List ℕ) (s : Result Line LineRefusal) → 0 < length bytes
    → s ≡ said number (first_line bytes)
    → script_steps number w (lines_of bytes) ≡ steps_on (comes_of w s)
    (λ w. script_steps (number + 1) w (lines_of (after_line bytes)))
unfolding script_steps
steps_more number w bytes s some is =
    ap (script_steps number w) (lines_more bytes some)
    ∙ ap (λ s. steps_on (comes_of w s) (λ w. script_steps (number + 1) w (lines_of (after_line bytes)))) (sym is)

-- nothing more was done
pub does_none : (number : ℕ) (m : ModelData) (a : List Standing) (st : Option State) (input : Option (List ℕ))
    (counts : Counts) → Does number m a st input counts counts m a st
does_none number m a None input counts = tt
does_none number m a (Some d) None counts = tt
does_none number m a (Some d) (Some bytes) counts =
    done_none (script_steps number (world m a d) (lines_of bytes)) (world m a d) counts counts m a (Some d) refl
    (record { model_is = refl; adapters_are = refl; device_is = refl })

stopped_done : (number : ℕ) (comes r : Result Entry LineRefusal) (rest : World → List Step) (status : Status)
    (old new : Option (List ℕ)) (counts now : Counts) (w : World) (m : ModelData) (a : List Standing)
    (st : Option State) → comes ≡ r
    → Stopped number comes status old new counts now w m a st → IsDone (steps_on r rest) w counts now m a st
stopped_done number comes (Err why) rest status old new counts now w m a st is h =
    let s = h.stays why is in done_none [] w counts now m a st s.0 s.1
stopped_done number comes (Ok entry) rest status old new counts now w m a st is h =
    let d = h.done entry is in
    let more = rest entry.course.world in
    record {
      done = d.done;
      others = d.others ++ more;
      split = sym (append_assoc d.done d.others more) ∙ ap
          (λ l. l ++ more) d.split;
      counted = d.counted;
      after = d.after;
    }

-- a script ended at a line
pub does_stop : (number : ℕ) (counts now : Counts) (m n : ModelData) (a b : List Standing)
    (before after : Option State) (input : Option (List ℕ)) (g : Got) (line : List ℕ) (reading : Reading)
    (left : Option (List ℕ)) (s : Result Line LineRefusal)
    (status : Status) (old new : Option (List ℕ)) → g ≢ got.End → IfSome input (λ bytes. Hands bytes g reading left)
    → line ≡ reading.line → s ≡ heard number g line
    → IfSome before (λ d. IsTurn number (comes_of (world m a d) s) old new counts now (world m a d) n b after
    (Stop status)) → Does number m a before input counts now n b after
does_stop number counts now m n a b None after input g line reading left s status old new not_end h is heard t = tt
does_stop number counts now m n a b (Some d) after None g line reading left s status old new not_end h is heard t = tt
does_stop number counts now m n a b (Some d) after (Some bytes) g line reading left s status old new not_end h is heard t =
    let w = world m a d in
    let rest : World → List Step = λ w. script_steps (number + 1) w (lines_of (after_line bytes)) in
    subst (λ steps. IsDone steps w counts now n b after)
    (sym (steps_more number w bytes s (hands_some bytes g reading left not_end h)
    (heard ∙ heard_said number bytes line g reading left not_end h is)))
    (stopped_done number (comes_of w s) (comes_of w s) rest status old new counts now w n b after refl t)

-- where these are the world's
does_at : (number : ℕ) (m n : ModelData) (a b : List Standing) (st after : Option State) (w : World)
    (input : Option (List ℕ)) (bytes : List ℕ) (counts now : Counts) → IsAt m a st w → input ≡ Some bytes
    → Does number m a st input counts now n b after
    → IsDone (script_steps number w (lines_of bytes)) w counts now n b after
does_at number m n a b st after w input bytes counts now here is h =
    let h1 = subst (λ i. Does number m a st i counts now n b after) is h in
    let h2 = subst (λ s. Does number m a s (Some bytes) counts now n b after) here.device_is h1 in
    let h3 = subst (λ (m : ModelData). IsDone (script_steps number (world m a w.device) (lines_of bytes))
    (world m a w.device) counts now n b after) here.model_is h2 in
    subst (λ a. IsDone (script_steps number (world w.model a w.device) (lines_of bytes))
    (world w.model a w.device) counts now n b after) here.adapters_are h3

-- a line was done, and then the first of the events behind it
done_behind : (number : ℕ) (counts mid now : Counts) (w : World) (bytes : List ℕ) (s : Result Line LineRefusal)
    (old new : Option (List ℕ)) (m n : ModelData) (a b : List Standing) (st after : Option State)
    (input : Option (List ℕ)) → 0 < length bytes
    → s ≡ said number (first_line bytes) → input ≡ Some (after_line bytes) → RanOn
    (comes_of w s) old new counts mid m a st → Does (number + 1) m a st input mid now n b after → IsDone
    (script_steps number w (lines_of bytes)) w counts now n b after
done_behind number counts mid now w bytes s old new m n a b st after input some is rest r h =
    let c = r.entry.course in
    let t = trace_of w s r.entry r.is in
    let more = script_steps (number + 1) c.world (lines_of (after_line bytes)) in
    let d = does_at (number + 1) m n a b st after c.world input (after_line bytes) mid now r.after rest h in
    let all : script_steps number w (lines_of bytes) ≡ c.steps ++ more =
    steps_more number w bytes s some is ∙ ap
    (λ r. steps_on r (λ w. script_steps (number + 1) w (lines_of (after_line bytes)))) r.is in
    record {
      done = c.steps ++ d.done;
      others = d.others;
      split = append_assoc c.steps d.done d.others ∙ ap (λ l. c.steps ++ l) d.split ∙ sym all;
      counted = d.counted ∙ ap (λ k. with_steps k d.done) (r.counted ∙ t.counted counts) ∙ sym
          (with_append counts c.steps d.done);
      after = subst (IsAt n b after) (sym (led_append w c.steps d.done ∙ ap (λ v. led_to v d.done) t.leads)) d.after;
    }

pub does_next : (number : ℕ) (counts mid now : Counts) (m n k : ModelData) (a b e : List Standing)
    (before after last : Option State) (input : Option (List ℕ)) (g : Got) (line : List ℕ) (reading : Reading)
    (left : Option (List ℕ))
    (s : Result Line LineRefusal) (old new : Option (List ℕ)) → g ≢ got.End → g ≢ got.TooLong → IfSome input
    (λ bytes. Hands bytes g reading left) → line ≡ reading.line → s ≡ heard number g line
    → IfSome before (λ d. IsTurn number (comes_of (world m a d) s) old new counts mid (world m a d) n b after Next)
    → Does (number + 1) n b after (input_of reading left) mid now k e last
    → Does number m a before input counts now k e last
does_next number counts mid now m n k a b e None after last input g line reading left s old new not_end not_long h is
    heard t f =
    tt
does_next number counts mid now m n k a b e (Some d) after last None g line reading left s old new not_end not_long h is
    heard t f =
    tt
does_next number counts mid now m n k a b e (Some d) after last
    (Some bytes) got.Line line reading left s old new not_end not_long h is heard t f =
    done_behind number counts mid now (world m a d) bytes s old new n k b e after last (input_of reading left) h.some
    (heard ∙ heard_said number bytes line got.Line reading left not_end h is) h.rest t f
does_next number counts mid now m n k a b e (Some d) after last (Some bytes) got.TooLong line reading left s old new
    not_end not_long h is heard t f =
    absurd (not_long refl)
does_next number counts mid now m n k a b e (Some d) after last (Some bytes) got.End line reading left s old new not_end
    not_long h is heard t f =
    absurd (not_end refl)

-- ---- a call

pub does_first : (m n : ModelData) (a b : List Standing) (st after : Option State) (input : Option (List ℕ))
    (before own now : Counts) → now ≡ added before own → Does 1 m a st input no_counts own n b after
    → DoesFirst m a st input before now n b after
does_first m n a b None after input before own now risen h = tt
does_first m n a b (Some d) after None before own now risen h = tt
does_first m n a b (Some d) after (Some bytes) before own now risen h =
    let all : now ≡ added before (with_steps no_counts h.done) = risen ∙ ap (added before) h.counted in
    let many = many_steps no_counts h.done (omega arith) in
    record {
      done = h.done;
      others = h.others;
      split = h.split;
      events = ap (λ (c : Counts). c.events) all ∙ capped before.events (with_steps no_counts h.done).events
          (length h.done) many;
      risen = all;
      after = h.after;
    }
  where
    capped : (start events count : ℕ) → events ≡ min (0 + count) (2 ^ 64 - 1) → both start events ≡ both start count
    capped start events count is = omega (arith, is)

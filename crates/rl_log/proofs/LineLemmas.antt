-- The log of a script is the text of its events, line by line.
use Rattle.std.proofs.Common.{◌≡◌, ◌⊎◌, inl, inr, ℕ, ◌+◌, List, [], ◌∷◌, ◌++◌, map, Option, Some, None, IfSome, Result, Ok, Err, option_map, refl, sym, ap, subst, ◌∙◌, append_assoc}
use Rattle.rl_access.specs.HandsOver.{Told}
use Rattle.rl_access.specs.Model.{ModelData}
use Rattle.rl_access.specs.World.{World, Step}
use Rattle.rl_script.specs.declared.line.Line.{Line}
use Rattle.rl_script.specs.declared.line.Line.TheVariants as say
use Rattle.rl_log.specs.declared.counts.Counts.{Counts}
use Rattle.rl_log.specs.declared.refusal.LineRefusal.{LineRefusal}
use Rattle.rl_log.specs.declared.refusal.LineRefusal.TheVariants.{NoSuchName}
use Rattle.rl_log.specs.Course.{Course, told_of}
use Rattle.rl_log.specs.Entry.{Entry, plain, framed, sequence_course, op_course, burst_write_course, burst_read_course, with_both, op_entry, entry_of}
use Rattle.rl_log.specs.Events.{Happened, happened, happened_in, happened_on, events_from, counted_on}
use Rattle.rl_log.specs.Lines.{told_at, line_text, Ran, ran_text, events_of, text_of, AreFirst, SaysRefused, IsLogOf, EveryLogTellsItsEvents}
use Rattle.rl_log.specs.Log.{Ending, said, there, comes_of, goes_on, script_from}
use Rattle.rl_log.specs.Named.{mem_named, map_asked, block_asked, op_named}
use Rattle.rl_log.specs.Recording.{events_text, with_events}
use Rattle.rl_log.specs.Texts.{refused_text, end_text}
use Rattle.rl_log.proofs.EventLemmas.{IsFineEntry, entry_fine, counted_more, counted_steps}

-- ---- a line

-- each step is told with the model right after it
happened_told : (m : ModelData) (steps : List Step) → map told_at (happened m steps) ≡ map told_of steps
happened_told m [] = refl
happened_told m (s ∷ steps) = ap (λ told. told_of s ∷ told) (happened_told s.world.model steps)

-- the text of a line is that of what it tells
abbrev TellsText : Line → Entry → Type 0
TellsText l e = e.text ≡ line_text l e.course.told

both_told : (l : Line) (n : Option ℕ) (t : Option (Option ℕ)) (make : ℕ → Option ℕ → Entry)
    → ((i : ℕ) (t : Option ℕ) → TellsText l (make i t)) → IfSome (with_both n t make) (TellsText l)
both_told l None t make h = tt
both_told l (Some i) None make h = tt
both_told l (Some i) (Some t) make h = h i t

made_told : {A : Type 0} (l : Line) (o : Option A) (make : A → Entry) → ((x : A) → TellsText l (make x))
    → IfSome (option_map make o) (TellsText l)
made_told l None make h = tt
made_told l (Some x) make h = h x

one_told : (w : World) (l : Line) → ((told : List Told) → events_text told ≡ line_text l told) → IfSome (op_entry w l) (TellsText l)
one_told w l same = made_told l (op_named w.model l) (λ o. plain (op_course o w)) (λ o. same (op_course o w).told)

entry_told : (w : World) (l : Line) → IfSome (entry_of w l) (TellsText l)
entry_told w say.Blank = refl
entry_told w (say.BurstWrite mem first values map) =
    both_told (say.BurstWrite mem first values map) (mem_named w.model.chip mem) (map_asked w.model.layout map)
    (λ i t. plain (burst_write_course i t first values w)) (λ i t. refl)
entry_told w (say.BurstRead mem first count map) =
    both_told (say.BurstRead mem first count map) (mem_named w.model.chip mem) (map_asked w.model.layout map)
    (λ i t. plain (burst_read_course i t first count w)) (λ i t. refl)
entry_told w (say.Seq which over) =
    made_told (say.Seq which over) (block_asked w.model.chip over) (λ block. framed which over (sequence_course which block w)) (λ block. refl)
entry_told w l = one_told w l (λ told. refl)

-- a line that was run wrote the text of its events
shown : (w : World) (l : Line) (e : Entry) → IsFineEntry w e → TellsText l e
    → e.text ≡ ran_text (record { line = l; events = happened_in w e.course })
shown w l e fine text = text ∙ ap (line_text l) (fine.tells ∙ sym (happened_told w.model e.course.steps))

-- ---- a script

abbrev More : Type 0
More = Counts → World → Ending

module _ (number : ℕ) (counts : Counts) (w : World) (bytes : List ℕ) (lines : List (List ℕ)) (rest : More) (more : World → List Happened)
    (later : (counts : Counts) (v : World) → IsLogOf (number + 1) counts lines (more v) (rest counts v).text) where
  refused_told : (why : LineRefusal)
      → IsLogOf number counts (bytes ∷ lines) (happened_on w (Err why) more) (goes_on number counts w (Err why) rest).text
  refused_told why = record {
    ran = [];
    first = tt;
    events_are = refl;
    last = refused_text number why;
    is_last = inr (record { number = number; why = why; is = refl });
    text_is = refl;
  }

  ran_told : (l : Line) (e : Entry) → said number bytes ≡ Ok l → IsFineEntry w e → TellsText l e
      → IsLogOf number counts (bytes ∷ lines) (happened_on w (Ok e) more) (goes_on number counts w (Ok e) rest).text
  ran_told l e says fine text =
      let here = happened_in w e.course in
      let then = with_events counts e.course.told in
      let t = later then e.course.world in
      let own : Ran = record { line = l; events = here } in
      let counted : counted_on then (more e.course.world) ≡ counted_on counts (here ++ more e.course.world) =
      ap (λ c. counted_on c (more e.course.world)) (ap (with_events counts) fine.tells ∙ counted_steps w.model e.course.steps counts)
      ∙ sym (counted_more here (more e.course.world) counts) in
      record {
        ran = own ∷ t.ran;
        first = (says, t.first);
        events_are = ap (λ es. here ++ es) t.events_are;
        last = t.last;
        is_last = elim t.is_last [ inl end ↦ inl (end ∙ ap end_text counted) | inr why ↦ inr why ];
        text_is = ap (λ x. e.text ++ x) t.text_is ∙ sym (append_assoc e.text (text_of t.ran) t.last)
            ∙ ap (λ x. (x ++ text_of t.ran) ++ t.last) (shown w l e fine text);
      }

  there_told : (l : Line) (o : Option Entry) → said number bytes ≡ Ok l → IfSome o (IsFineEntry w) → IfSome o (TellsText l)
      → IsLogOf number counts (bytes ∷ lines) (happened_on w (there o) more) (goes_on number counts w (there o) rest).text
  there_told l None says fine text = refused_told NoSuchName
  there_told l (Some e) says fine text = ran_told l e says fine text

  said_told : (s : Result Line LineRefusal) → said number bytes ≡ s
      → IsLogOf number counts (bytes ∷ lines) (happened_on w (comes_of w s) more) (goes_on number counts w (comes_of w s) rest).text
  said_told (Ok l) says = there_told l (entry_of w l) says (entry_fine w l) (entry_told w l)
  said_told (Err why) says = refused_told why

script_told : (lines : List (List ℕ)) (number : ℕ) (counts : Counts) (w : World)
    → IsLogOf number counts lines (events_from number w lines) (script_from number counts w lines).text
unfolding script_from events_from
script_told [] number counts w = record {
  ran = [];
  first = tt;
  events_are = refl;
  last = end_text counts;
  is_last = inl refl;
  text_is = refl;
}
script_told (bytes ∷ lines) number counts w =
    said_told number counts w bytes lines (λ counts v. script_from (number + 1) counts v lines) (λ v. events_from (number + 1) v lines)
    (λ counts v. script_told lines (number + 1) counts v) (said number bytes) refl

pub every_log_tells : EveryLogTellsItsEvents
every_log_tells number counts w lines = script_told lines number counts w

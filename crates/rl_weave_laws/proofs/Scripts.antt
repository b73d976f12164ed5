-- A woven script writes, but for its item lines, the plain log's lines of each group in some order.
use Rattle.std.proofs.Common.{◌≡◌, inl, inr, ℕ, ◌+◌, Bool, true, false, List, [], ◌∷◌, ◌++◌, map, Some, Result, Ok, Err, refl, sym, ap, ◌∙◌, subst, append_assoc, append-nil}
use Rattle.std.specs.List.{concat}
use Rattle.std.proofs.lemmas.List.{map-append}
use Rattle.std.proofs.lemmas.List.Folds.{concat-append}
use Rattle.rl_model.specs.Chip.{IsSound}
use Rattle.rl_access.specs.declared.event.Op.{Op}
use Rattle.rl_access.specs.Model.{ModelData}
use Rattle.rl_log.specs.declared.refusal.LineRefusal.{LineRefusal}
use Rattle.rl_log.specs.Log.{Ending, said}
use Rattle.rl_log.specs.declared.counts.Counts.{Counts}
use Rattle.rl_log.specs.Named.{op_named}
use Rattle.rl_log.specs.Recording.{with_event, with_events}
use Rattle.rl_log.specs.Texts.{end_text}
use Rattle.rl_plain.specs.Courses.{Course, through}
use Rattle.rl_plain.specs.Machine.{Machine, machine_step}
use Rattle.rl_session_laws.specs.PlainLog.{PlainEntry, plain_comes_of, plain_from, plain_goes_on}
use Rattle.rl_session_laws.proofs.LogLines.{end_is_line, line_stays}
use Rattle.rl_report.specs.Event.{event_line}
use Rattle.rl_report.specs.WithoutItems.{HasNames}
use Rattle.rl_script.specs.declared.line.Line.{Line}
use Rattle.rl_script.specs.declared.line.Line.TheVariants as say
use Rattle.rl_weave.specs.Access.{op_of}
use Rattle.rl_weave.specs.Weave.{WeaveData, empty}
use Rattle.rl_weave_laws.specs.Order.{added}
use Rattle.rl_weave_log.specs.declared.refusal.WovenRefusal.{WovenRefusal}
use Rattle.rl_weave_log.specs.declared.refusal.WovenRefusal.TheVariants.{Line as LineRefused}
use Rattle.rl_weave_log.specs.Adding.{adding_line}
use Rattle.rl_weave_log.specs.Refusals.{refused_woven_text}
use Rattle.rl_weave_log.specs.WeaveLog.{Weaving, comes_of, counting, goes_on, group, is_blank, joins, nothing, taken_in, woven_from}
use Rattle.rl_weave_log.proofs.Lines.{blank_comes, other_comes}
use Rattle.rl_weave_laws.specs.Groups.{counted_in, event_lines, course_of, HasLines, IsMachineWorld}
use Rattle.rl_weave_laws.specs.Scripts.{HasGroups, ScriptIsPlain, groups_on, plain_groups, says_blank}
use Rattle.rl_weave_laws.proofs.Counting.{counted_push}
use Rattle.rl_weave_laws.proofs.Entries.{has_entry, none_through, through_more, with_step, woven_refused_is_line}
use Rattle.rl_weave_laws.proofs.Groups.{group_is_plain}
use Rattle.rl_weave_laws.proofs.Joining.{IsGroup, added_joined, group_gathered, group_joined, joins_by, none_grouped, numbers_said}
use Rattle.rl_weave_laws.proofs.Texts.{lines_same}

abbrev Lines : Type 0
Lines = List (List ℕ)

abbrev Groups : Type 0
Groups = List Lines

-- ---- what is written of a script, group by group

stopped_has : (number : ℕ) (why : WovenRefusal) (plain : List ℕ) → HasGroups [] plain (refused_woven_text number why)
stopped_has number why plain =
    let is = woven_refused_is_line number why in
    record {
      orders = [];
      same = tt;
      last = refused_woven_text number why;
      is_last = is;
      text_is = line_stays (refused_woven_text number why) is;
      rest = plain;
      plain_is = refl;
      ends = inr (record { number = number; why = why; is = refl });
    }

-- the last line is that of the plain log, whose counts are the same
finished_has : (held : Lines) (text : List ℕ) (counts plain : Counts) → HasLines held text → plain ≡ counts
    → HasGroups (held ∷ []) (concat held ++ end_text plain) (text ++ end_text counts)
finished_has held text counts plain h same =
    let last = end_text counts in
    let is = end_is_line counts in
    record {
      orders = h.order ∷ [];
      same = (h.same, tt);
      last = last;
      is_last = is;
      text_is = h.text_is last ∙ ap (λ t. concat h.order ++ t) (line_stays last is)
          ∙ ap (λ t. t ++ last) (sym (append-nil (concat h.order)));
      rest = end_text plain;
      plain_is = ap (λ t. t ++ end_text plain) (sym (append-nil (concat held)));
      ends = inl (ap end_text same);
    }

more_has : (held : Lines) (groups : Groups) (text plain rest : List ℕ) → HasLines held text → HasGroups groups plain rest
    → HasGroups (held ∷ groups) (concat held ++ plain) (text ++ rest)
more_has held groups text plain rest h g = record {
  orders = h.order ∷ g.orders;
  same = (h.same, g.same);
  last = g.last;
  is_last = g.is_last;
  text_is = h.text_is rest ∙ ap (λ t. concat h.order ++ t) g.text_is
      ∙ sym (append_assoc (concat h.order) (concat (map concat g.orders)) g.last);
  rest = g.rest;
  plain_is = ap (λ t. concat held ++ t) g.plain_is ∙ sym (append_assoc (concat held) (concat (map concat groups)) g.rest);
  ends = g.ends;
}

-- one line more
held_more : (held : Lines) (text rest : List ℕ) → concat (held ++ text ∷ []) ++ rest ≡ concat held ++ (text ++ rest)
held_more held text rest =
    ap (λ t. t ++ rest) (concat-append held (text ∷ []) ∙ ap (λ t. concat held ++ t) (append-nil text))
    ∙ append_assoc (concat held) text rest

-- ---- line by line

-- names are looked up in the chip and the layout alone
abbrev model_of : ModelData → ModelData → ModelData
model_of m n = record { chip = m.chip; layout = m.layout; mirror = n.mirror; gathered = n.gathered }

op_by : (line : Line) (m n : ModelData) → m.chip ≡ n.chip → m.layout ≡ n.layout → op_named m line ≡ op_named n line
op_by line m n chip layout = named_alike m n line ∙ ap (λ x. op_named x line) (same_model m n chip layout)
  where
    same_model : (m n : ModelData) → m.chip ≡ n.chip → m.layout ≡ n.layout → model_of m n ≡ n
    same_model m n chip layout =
        ap (λ c. let x : ModelData = record { chip = c; layout = m.layout; mirror = n.mirror; gathered = n.gathered } in x) chip
        ∙ ap (λ l. let x : ModelData = record { chip = n.chip; layout = l; mirror = n.mirror; gathered = n.gathered } in x) layout

    named_alike : (m n : ModelData) (line : Line) → op_named m line ≡ op_named (model_of m n) line
    named_alike m n (say.Write reg value map) = refl
    named_alike m n _ = refl

module _ (m : ModelData) (chip : IsSound m.chip) (names : HasNames m.chip m.layout) where
  abbrev behind : Machine → WeaveData → Course
  behind p w = through m.chip m.layout p (added w)

  -- A group is read that began at the first machine; its lines led to the other one, and have these texts. The plain log's counts
  -- have each line of it.
  record IsReading (g : Weaving) (begun p : Machine) (held : Lines) (plain : Counts) : Type 0 where
    world : IsMachineWorld g.world begun
    same_chip : g.world.model.chip ≡ m.chip
    same_layout : g.world.model.layout ≡ m.layout
    read : IsGroup g.world.model g.weave
    held_is : held ≡ event_lines m (behind begun g.weave).events
    machine_is : p ≡ (behind begun g.weave).machine
    counted : plain ≡ counted_in g.counts (behind begun g.weave).events

  course_here : (g : Weaving) (begun : Machine) → g.world.model.chip ≡ m.chip → g.world.model.layout ≡ m.layout
      → course_of g begun ≡ behind begun g.weave
  course_here g begun same_chip same_layout =
      ap (λ c. through c g.world.model.layout begun (added g.weave)) same_chip
      ∙ ap (λ l. through m.chip l begun (added g.weave)) same_layout

  names_here : (n : ModelData) → n.chip ≡ m.chip → n.layout ≡ m.layout → HasNames n.chip n.layout
  names_here n same_chip same_layout =
      subst (λ c. HasNames c n.layout) (sym same_chip) (subst (HasNames m.chip) (sym same_layout) names)

  -- the group that is read is run
  record IsRun (g : Weaving) (p : Machine) (held : Lines) (plain : Counts) : Type 0 where
    lines : HasLines held (group g).text
    counts : plain ≡ (group g).after.counts
    next : IsReading (group g).after p p [] plain

  run_here : (g : Weaving) (begun p : Machine) (held : Lines) (plain : Counts) → IsReading g begun p held plain → IsRun g p held plain
  run_here g begun p held plain r =
      let course = course_here g begun r.same_chip r.same_layout in
      let done = group_is_plain g begun (names_here g.world.model r.same_chip r.same_layout) r.world
      (group_gathered g.world.model g.weave r.read) in
      let lines : event_lines g.world.model (course_of g begun).events ≡ held =
      lines_same m g.world.model (course_of g begun).events r.same_chip r.same_layout
      ∙ ap (λ (x : Course). event_lines m x.events) course ∙ sym r.held_is in
      let machine : (course_of g begun).machine ≡ p = ap (λ (x : Course). x.machine) course ∙ sym r.machine_is in
      let counts : plain ≡ (group g).after.counts =
      r.counted ∙ sym (done.counted ∙ ap (λ (x : Course). counted_in g.counts x.events) course) in
      let none = none_through m.chip m.layout p in
      record {
        counts = counts;
        lines = subst (λ ls. HasLines ls (group g).text) lines done.lines;
        next = record {
          world = subst (IsMachineWorld (group g).after.world) machine done.world;
          same_chip = done.same.chip ∙ r.same_chip;
          same_layout = done.same.layout ∙ r.same_layout;
          read = none_grouped (group g).after.world.model;
          held_is = sym (ap (λ (x : Course). event_lines m x.events) none);
          machine_is = sym (ap (λ (x : Course). x.machine) none);
          counted = counts ∙ sym (ap (λ (x : Course). counted_in (group g).after.counts x.events) none);
        };
      }

  -- a line joins the group
  record IsJoined (g : Weaving) (begun p : Machine) (held : Lines) (plain : Counts) (line : Line) (later : WeaveData) : Type 0 where
    entry : PlainEntry
    is : plain_comes_of m.chip m.layout p (Ok line) ≡ Ok entry
    next : IsReading (record g { weave = later }) begun entry.machine (held ++ entry.text ∷ []) (with_events plain entry.told)

  join_here : (g : Weaving) (begun p : Machine) (held : Lines) (plain : Counts) (line : Line) (later : WeaveData)
      → IsReading g begun p held plain → adding_line g.weave g.world.model line ≡ Ok later → IsJoined g begun p held plain line later
  join_here g begun p held plain line later r e =
      let n = g.world.model in
      let h = joins_by n g.weave later line e in
      let op = op_of h.access in
      let named : op_named m line ≡ Some op = named_there line op h.named in
      let found = has_entry m p line op named in
      let old = behind begun g.weave in
      let more : behind begun later ≡ with_step m.chip m.layout old op =
      ap (behind begun) h.later_is
      ∙ ap (through m.chip m.layout begun) (added_joined n g.weave h.access r.read.weave)
      ∙ through_more m.chip m.layout begun (added g.weave) op in
      let here : event_lines m (old.events ++ (machine_step m.chip m.layout old.machine op).event ∷ []) ≡ held ++ found.entry.text ∷ [] =
      map-append (event_line m) old.events ((machine_step m.chip m.layout old.machine op).event ∷ [])
      ∙ ap (λ ls. ls ++ event_line m (machine_step m.chip m.layout old.machine op).event ∷ []) (sym r.held_is)
      ∙ ap (λ q. held ++ event_line m (machine_step m.chip m.layout q op).event ∷ []) (sym r.machine_is)
      ∙ ap (λ t. held ++ t ∷ []) (sym found.good.text) in
      record {
        entry = found.entry;
        is = found.is;
        next = record {
          world = r.world;
          same_chip = r.same_chip;
          same_layout = r.same_layout;
          read = subst (IsGroup n) (sym h.later_is)
              (group_joined n g.weave h.access h.number r.world.sound r.read (numbers_said n g.weave line later h) h.number_is);
          held_is = sym (ap (λ (x : Course). event_lines m x.events) more ∙ here);
          machine_is = found.good.machine
              ∙ ap (λ q. (machine_step m.chip m.layout q op).machine) r.machine_is
              ∙ sym (ap (λ (x : Course). x.machine) more);
          counted = found.good.counted plain
              ∙ ap (λ q. with_event plain (machine_step m.chip m.layout q op).event) r.machine_is
              ∙ ap (λ n. with_event n (machine_step m.chip m.layout old.machine op).event) r.counted
              ∙ sym (counted_push old.events (machine_step m.chip m.layout old.machine op).event g.counts)
              ∙ sym (ap (λ (x : Course). counted_in g.counts x.events) more);
        };
      }
    where
      named_there : (line : Line) (op : Op) → op_named g.world.model line ≡ Some op → op_named m line ≡ Some op
      named_there line op is = op_by line m g.world.model (sym r.same_chip) (sym r.same_layout) ∙ is

  -- ---- a line

  abbrev Rest : Type 0
  Rest = Weaving → Machine → Lines → Groups

  -- what the plain log has behind a line
  abbrev Behind : Type 0
  Behind = Counts → Machine → List ℕ

  abbrev Goes : Rest → Behind → (Weaving → Ending) → Type 0
  Goes rest more ending =
      (g : Weaving) (begun p : Machine) (held : Lines) (plain : Counts) → IsReading g begun p held plain
      → HasGroups (rest g p held) (concat held ++ more plain p) (ending g).text

  joined_has : (number : ℕ) (g : Weaving) (begun p : Machine) (held : Lines) (plain : Counts) (line : Line) (rest : Rest) (more : Behind)
      (ending : Weaving → Ending) (r : Result WeaveData WovenRefusal) → IsReading g begun p held plain
      → adding_line g.weave g.world.model line ≡ r → Goes rest more ending
      → HasGroups (groups_on (joins g r) false (plain_comes_of m.chip m.layout p (Ok line)) p held rest)
      (concat held ++ plain_goes_on number plain (plain_comes_of m.chip m.layout p (Ok line)) more)
      (goes_on number g (joins g r) ending).text
  joined_has number g begun p held plain line rest more ending (Err why) r is next =
      stopped_has number why (concat held ++ plain_goes_on number plain (plain_comes_of m.chip m.layout p (Ok line)) more)
  joined_has number g begun p held plain line rest more ending (Ok later) r is next =
      let j = join_here g begun p held plain line later r is in
      let g2 : Weaving = record g { weave = later } in
      let counts = with_events plain j.entry.told in
      subst (λ x. HasGroups (groups_on (Ok (nothing g2)) false x p held rest) (concat held ++ plain_goes_on number plain x more) (ending g2).text)
      (sym j.is)
      (subst (λ t. HasGroups (rest g2 j.entry.machine (held ++ j.entry.text ∷ [])) t (ending g2).text)
      (held_more held j.entry.text (more counts j.entry.machine))
      (next g2 begun j.entry.machine (held ++ j.entry.text ∷ []) counts j.next))

  -- a blank line leaves the plain log as it is
  blank_plain : (number : ℕ) (p : Machine) (plain : Counts) (line : Line) (more : Behind) → is_blank line ≡ true
      → plain_goes_on number plain (plain_comes_of m.chip m.layout p (Ok line)) more ≡ more plain p
  unfolding through
  blank_plain number p plain say.Blank more is = refl
  blank_plain number p plain _ more is = absurd (cc)

  line_has : (number : ℕ) (g : Weaving) (begun p : Machine) (held : Lines) (plain : Counts) (line : Line) (rest : Rest) (more : Behind)
      (ending : Weaving → Ending) (blank : Bool) → IsReading g begun p held plain → is_blank line ≡ blank → Goes rest more ending
      → HasGroups (groups_on (taken_in g line) blank (plain_comes_of m.chip m.layout p (Ok line)) p held rest)
      (concat held ++ plain_goes_on number plain (plain_comes_of m.chip m.layout p (Ok line)) more)
      (goes_on number g (taken_in g line) ending).text
  line_has number g begun p held plain line rest more ending true r is next =
      let run = run_here g begun p held plain r in
      let after = (group g).after in
      subst (λ t. HasGroups (groups_on (taken_in g line) true (plain_comes_of m.chip m.layout p (Ok line)) p held rest) (concat held ++ t)
      (goes_on number g (taken_in g line) ending).text) (sym (blank_plain number p plain line more is))
      (subst (λ c. HasGroups (groups_on c true (plain_comes_of m.chip m.layout p (Ok line)) p held rest) (concat held ++ more plain p)
      (goes_on number g c ending).text) (sym (blank_comes g line is))
      (more_has held (rest after p []) (group g).text (more plain p) (ending after).text run.lines (next after p p [] plain run.next)))
  line_has number g begun p held plain line rest more ending false r is next =
      subst (λ c. HasGroups (groups_on c false (plain_comes_of m.chip m.layout p (Ok line)) p held rest)
      (concat held ++ plain_goes_on number plain (plain_comes_of m.chip m.layout p (Ok line)) more) (goes_on number g c ending).text)
      (sym (other_comes g line is))
      (joined_has number g begun p held plain line rest more ending (adding_line g.weave g.world.model line) r refl next)

  said_has : (number : ℕ) (g : Weaving) (begun p : Machine) (held : Lines) (plain : Counts) (says : Result Line LineRefusal) (rest : Rest)
      (more : Behind) (ending : Weaving → Ending) → IsReading g begun p held plain → Goes rest more ending
      → HasGroups (groups_on (comes_of g says) (says_blank says) (plain_comes_of m.chip m.layout p says) p held rest)
      (concat held ++ plain_goes_on number plain (plain_comes_of m.chip m.layout p says) more)
      (goes_on number g (comes_of g says) ending).text
  said_has number g begun p held plain (Ok line) rest more ending r next =
      line_has number g begun p held plain line rest more ending (is_blank line) r refl next
  said_has number g begun p held plain (Err why) rest more ending r next =
      stopped_has number (LineRefused why) (concat held ++ plain_goes_on number plain (plain_comes_of m.chip m.layout p (Err why)) more)

  -- ---- a script

  script_has : (lines : Lines) (number : ℕ) (g : Weaving) (begun p : Machine) (held : Lines) (plain : Counts) → IsReading g begun p held plain
      → HasGroups (plain_groups m.chip m.layout number g p held lines) (concat held ++ plain_from m.chip m.layout number plain p lines)
      (woven_from number g lines).text
  unfolding plain_groups woven_from plain_from
  script_has [] number g begun p held plain r =
      let run = run_here g begun p held plain r in
      finished_has held (group g).text (group g).after.counts plain run.lines run.counts
  script_has (line ∷ lines) number g begun p held plain r =
      said_has number g begun p held plain (said number line) (λ g p held. plain_groups m.chip m.layout (number + 1) g p held lines)
      (λ plain p. plain_from m.chip m.layout (number + 1) plain p lines) (λ g. woven_from (number + 1) g lines) r
      (λ g begun p held plain r. script_has lines (number + 1) g begun p held plain r)

  begun_reading : (g : Weaving) (p : Machine) → g.world.model ≡ m → g.weave ≡ empty → IsMachineWorld g.world p
      → IsReading g p p [] g.counts
  begun_reading g p is none world =
      let here = none_through m.chip m.layout p in
      let course : behind p g.weave ≡ behind p empty = ap (behind p) none in
      record {
        world = world;
        same_chip = ap (λ (x : ModelData). x.chip) is;
        same_layout = ap (λ (x : ModelData). x.layout) is;
        read = subst (IsGroup g.world.model) (sym none) (none_grouped g.world.model);
        held_is = sym (ap (λ (x : Course). event_lines m x.events) (course ∙ here));
        machine_is = sym (ap (λ (x : Course). x.machine) (course ∙ here));
        counted = sym (ap (λ (x : Course). counted_in g.counts x.events) (course ∙ here));
      }

pub script_is_plain : ScriptIsPlain
script_is_plain n counts w p lines names world =
    let m = w.model in
    script_has m world.sound.chip names lines 1 (counting n counts w) p p [] counts
    (begun_reading m world.sound.chip names (counting n counts w) p refl refl world)

-- The lines of a script on a device that does as described, and on the plain machine.
use Rattle.std.proofs.Common.{◌≡◌, ℕ, ◌+◌, List, [], ◌∷◌, ◌++◌, length, Option, Some, None, Result, Ok, Err, option_map, refl, sym, ap, subst, ◌∙◌}
use Rattle.std.specs.Option.{ok_or}
use Rattle.rl_model.specs.Chip.{IsSound}
use Rattle.rl_model.specs.Rows.{ChipData}
use Rattle.rl_map.specs.Layout.{LayoutData}
use Rattle.rl_access.specs.declared.event.Op.TheVariants as op
use Rattle.rl_access.specs.Model.{ModelData}
use Rattle.rl_access.specs.Rules.{grant}
use Rattle.rl_access.specs.Runs.{write_grant, writes_of, reads_of}
use Rattle.rl_plain.specs.Calls.{CallIsPlain, CallKeepsModel}
use Rattle.rl_plain.specs.Machine.{Machine, seen}
use Rattle.rl_plain.specs.Courses as plain
use Rattle.rl_plain.proofs.PlanNumbers.{plans_have_numbers}
use Rattle.rl_report.specs.WithoutItems.{plain_part, HasNames}
use Rattle.rl_script.specs.declared.line.Line.{Line}
use Rattle.rl_script.specs.declared.line.Line.TheVariants as line
use Rattle.rl_script.specs.declared.line.Sequence.{Sequence}
use Rattle.rl_log.specs.declared.counts.Counts.{Counts}
use Rattle.rl_log.specs.declared.refusal.LineRefusal.{LineRefusal}
use Rattle.rl_log.specs.declared.refusal.LineRefusal.TheVariants.{NoSuchName}
use Rattle.rl_log.specs.Course.{nothing_done, alone, along, burst}
use Rattle.rl_log.specs.Entry.{Entry, plain as entry_made, with_both, framed, sequence_of, plan_of, entry_of}
use Rattle.rl_log.specs.Log.{said, there, comes_of, goes_on, script_from}
use Rattle.rl_log.specs.Named.{mem_named, map_asked, block_asked, op_named}
use Rattle.rl_session_laws.specs.PlainLog.{PlainEntry, plain_entry, plain_framed, plain_entry_of, plain_comes_of, plain_goes_on, plain_from}
use Rattle.rl_log.specs.Recording.{with_events}
use Rattle.rl_access.specs.World.{World, step_of}
use Rattle.rl_session_laws.proofs.LogLines.{line_stays, refused_is_line, end_is_line}
use Rattle.rl_session_laws.proofs.PlainCourse.{IsPlainWorld, one_plain, blank_plain, along_plain, write_burst_plain, read_burst_plain}
use Rattle.rl_log.proofs.Numbers.{mem_in, map_in, op_numbers}
use Rattle.rl_session_laws.proofs.PlainText.{IsPlainEntry, over_unbroken, entry_plain, framed_plain}

-- both have no entry, or both one
abbrev IsPlainOption : ChipData → LayoutData → Option Entry → Option PlainEntry → Type 0
IsPlainOption c l None None = Unit {0}
IsPlainOption c l (Some e) (Some other) = IsPlainEntry c l e other
IsPlainOption c l None (Some other) = ⊥
IsPlainOption c l (Some e) None = ⊥

-- both refuse the line by one cause, or run it
abbrev IsPlainResult : ChipData → LayoutData → Result Entry LineRefusal → Result PlainEntry LineRefusal → Type 0
IsPlainResult c l (Err why) (Err other) = why ≡ other
IsPlainResult c l (Ok e) (Ok other) = IsPlainEntry c l e other
IsPlainResult c l (Err why) (Ok other) = ⊥
IsPlainResult c l (Ok e) (Err other) = ⊥

made_plain : {A : Type 0} (c : ChipData) (l : LayoutData) (o : Option A) (make : A → Entry) (other : A → PlainEntry) → ((x : A) → o ≡ Some x → IsPlainEntry c l (make x) (other x))
    → IsPlainOption c l (option_map make o) (option_map other o)
made_plain c l None make other h = tt
made_plain c l (Some x) make other h = h x refl

both_plain : (c : ChipData) (l : LayoutData) (mem : Option ℕ) (map : Option (Option ℕ)) (make : ℕ → Option ℕ → Entry) (other : ℕ → Option ℕ → PlainEntry)
    → ((i : ℕ) (t : Option ℕ) → mem ≡ Some i → map ≡ Some t → IsPlainEntry c l (make i t) (other i t)) → IsPlainOption c l (with_both mem map make) (with_both mem map other)
both_plain c l None map make other h = tt
both_plain c l (Some i) map make other h = made_plain c l map (make i) (other i) (λ t at. h i t refl at)

module _ (law : CallIsPlain) (keeps : CallKeepsModel) (c : ChipData) (l : LayoutData) (chip : IsSound c) (names : HasNames c l) where
  -- a line that is one operation
  op_plain : (w : World) (p : Machine) (said : Line) → IsPlainWorld c l w p
      → IsPlainOption c l (option_map (λ op. entry_made (alone (step_of w op))) (op_named w.model said)) (option_map (λ op. plain_entry c l (plain.through c l p (op ∷ []))) (op_named (seen c l p)
      said))
  op_plain w p said h =
      subst (λ m. IsPlainOption c l (option_map (λ op. entry_made (alone (step_of w op))) (op_named m said)) (option_map (λ op. plain_entry c l (plain.through c l p (op ∷ []))) (op_named (seen c l p)
      said))) (sym h.model)
      (made_plain c l (op_named (seen c l p) said) (λ op. entry_made (alone (step_of w op))) (λ op. plain_entry c l (plain.through c l p (op ∷ [])))
      (λ op is. entry_plain c l chip names (alone (step_of w op)) (plain.through c l p (op ∷ [])) (one_plain law keeps c l w p op h (op_numbers (seen c l p) said op is))))

  write_plain : (w : World) (p : Machine) (mem : List ℕ) (first : ℕ) (values : List ℕ) (map : Option (List ℕ)) → IsPlainWorld c l w p
      → IsPlainOption c l (entry_of w (line.BurstWrite mem first values map)) (plain_entry_of c l p (line.BurstWrite mem first values map))
  write_plain w p mem first values map h =
      let make = λ (m : ModelData). with_both (mem_named m.chip mem) (map_asked m.layout map) (λ i t. entry_made (burst w (write_grant w.model i t first values) (op.BurstWrite i t first
      (length values)) (writes_of i t first values))) in
      subst (λ m. IsPlainOption c l (make m) (plain_entry_of c l p (line.BurstWrite mem first values map))) (sym h.model)
      (both_plain c l (mem_named c mem) (map_asked l map) _ _
      (λ i t a b. entry_plain c l chip names _ _ (write_burst_plain law keeps c l (λ m. write_grant m i t first values) i t first values w p h (mem_in c mem i a) (map_in l map t b))))

  read_plain : (w : World) (p : Machine) (mem : List ℕ) (first count : ℕ) (map : Option (List ℕ)) → IsPlainWorld c l w p
      → IsPlainOption c l (entry_of w (line.BurstRead mem first count map)) (plain_entry_of c l p (line.BurstRead mem first count map))
  read_plain w p mem first count map h =
      let make = λ (m : ModelData). with_both (mem_named m.chip mem) (map_asked m.layout map) (λ i t. entry_made (burst w (grant w.model (op.BurstRead i t first count)) (op.BurstRead i t first count)
      (reads_of i t first count))) in
      subst (λ m. IsPlainOption c l (make m) (plain_entry_of c l p (line.BurstRead mem first count map))) (sym h.model)
      (both_plain c l (mem_named c mem) (map_asked l map) _ _
      (λ i t a b. entry_plain c l chip names _ _ (read_burst_plain law keeps c l (λ m. grant m (op.BurstRead i t first count)) i t first count w p h (mem_in c mem i a) (map_in l map t b))))

  sequence_plain : (w : World) (p : Machine) (which : Sequence) (over : Option (List ℕ)) → IsPlainWorld c l w p
      → IsPlainOption c l (entry_of w (line.Seq which over)) (plain_entry_of c l p (line.Seq which over))
  sequence_plain w p which over h =
      let make = λ (m : ModelData). option_map (λ block. framed which over (along w (plan_of which m block))) (block_asked m.chip over) in
      subst (λ m. IsPlainOption c l (make m) (plain_entry_of c l p (line.Seq which over))) (sym h.model)
      (made_plain c l (block_asked c over) (λ block. framed which over (along w (plan_of which (seen c l p) block))) (λ block. plain_framed which over c l (plain.along c l p (plan_of which
      (seen c l p) block)))
      (λ block is. framed_plain c l chip names which over (along w (plan_of which (seen c l p) block)) (plain.along c l p (plan_of which (seen c l p) block)) (over_unbroken c over block chip is)
      (along_plain law keeps c l (plan_of which (seen c l p) block) w p h (plans_have_numbers (sequence_of which) c l block chip h.sound.layout))))

  entry_is_plain : (w : World) (p : Machine) (said : Line) → IsPlainWorld c l w p → IsPlainOption c l (entry_of w said) (plain_entry_of c l p said)
  entry_is_plain w p line.Blank h = entry_plain c l chip names (nothing_done w) (plain.through c l p []) (blank_plain law keeps c l w p h)
  entry_is_plain w p (line.BurstWrite mem first values map) h = write_plain w p mem first values map h
  entry_is_plain w p (line.BurstRead mem first count map) h = read_plain w p mem first count map h
  entry_is_plain w p (line.Seq which over) h = sequence_plain w p which over h
  entry_is_plain w p said h = op_plain w p said h

  there_plain : (o : Option Entry) (other : Option PlainEntry) → IsPlainOption c l o other → IsPlainResult c l (there o) (ok_or other NoSuchName)
  there_plain None None h = refl
  there_plain (Some e) (Some other) h = h
  there_plain None (Some other) h = absurd h
  there_plain (Some e) None h = absurd h

  comes_plain : (w : World) (p : Machine) (r : Result Line LineRefusal) → IsPlainWorld c l w p → IsPlainResult c l (comes_of w r) (plain_comes_of c l p r)
  comes_plain w p (Ok said) h = there_plain (entry_of w said) (plain_entry_of c l p said) (entry_is_plain w p said h)
  comes_plain w p (Err why) h = refl

  -- ---- a script

  going_plain : (number : ℕ) (counts : Counts) (w : World) (r : Result Entry LineRefusal) (other : Result PlainEntry LineRefusal) (lines : List (List ℕ)) → IsPlainResult c l r other
      → ((counts : Counts) (w : World) (p : Machine) → IsPlainWorld c l w p → plain_part (script_from (number + 1) counts w lines).text ≡ plain_from c l (number + 1) counts p lines)
      → plain_part (goes_on number counts w r (λ counts w. script_from (number + 1) counts w lines)).text ≡ plain_goes_on number counts other (λ counts p. plain_from c l (number + 1) counts p lines)
  going_plain number counts w (Err why) (Err other) lines same next = line_stays _ (refused_is_line number why) ∙ ap (λ why. plain_goes_on number counts (Err why) (λ counts p. plain_from c l
      (number + 1) counts p lines)) same
  going_plain number counts w (Ok e) (Ok other) lines h next =
      h.text (script_from (number + 1) (with_events counts e.course.told) e.course.world lines).text
      ∙ ap (λ t. other.text ++ t) (next (with_events counts e.course.told) e.course.world other.machine h.world)
      ∙ ap (λ counts. other.text ++ plain_from c l (number + 1) counts other.machine lines) (h.counts counts)
  going_plain number counts w (Err why) (Ok other) lines h next = absurd h
  going_plain number counts w (Ok e) (Err other) lines h next = absurd h

  pub script_is_plain : (lines : List (List ℕ)) (number : ℕ) (counts : Counts) (w : World) (p : Machine) → IsPlainWorld c l w p
      → plain_part (script_from number counts w lines).text ≡ plain_from c l number counts p lines
  unfolding script_from plain_from
  script_is_plain [] number counts w p h = line_stays _ (end_is_line counts)
  script_is_plain (text ∷ lines) number counts w p h =
      going_plain number counts w (comes_of w (said number text)) (plain_comes_of c l p (said number text)) lines (comes_plain w p (said number text) h)
      (λ counts w p h. script_is_plain lines (number + 1) counts w p h)

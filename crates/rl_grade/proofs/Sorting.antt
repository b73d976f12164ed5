-- A run whose finds are kept by the registers that they are of.
use Rattle.std.proofs.Common.{◌≡◌, ◌⊎◌, inl, inr, ℕ, zero, suc, ◌+◌, ◌<◌, ◌≤◌, Bool, true, false, ◌&&◌, ◌==◌, if◌then◌else◌, List, [], ◌∷◌, ◌++◌, length, map, drop, Option, Some, None, refl, sym, ap, subst, ◌∙◌}
use Rattle.std.specs.Prelude.{IfOk, Result, Ok, Err, slice_index_or, slice_set}
use Rattle.std.specs.Option.{option_map_or, option_or}
use Rattle.std.proofs.lemmas.Bool.{cases_eq, eq-eqb, ne_eqb}
use Rattle.std.proofs.lemmas.List.{get_or-set_other, get_or-set_same, length-append, length-set, set-get_or, set_past}
use Rattle.rl_bus.specs.Standing.{Standing}
use Rattle.rl_bus.specs.State.{State}
use Rattle.rl_model.specs.Rows.{ChipData}
use Rattle.rl_access.specs.declared.event.Event.{Event}
use Rattle.rl_access.specs.declared.event.Op.{Op}
use Rattle.rl_access.specs.HandsOver.{TakesAll, Told}
use Rattle.rl_access.specs.Model.{ModelData}
use Rattle.rl_access.specs.Operation.{register_of}
use Rattle.rl_access.specs.Rules.{Grant, grant}
use Rattle.rl_access.specs.Runs.{reads_of, write_grant, writes_of}
use Rattle.rl_access.specs.Tally.{is_bus_error}
use Rattle.rl_access.specs.World.{IsAt, World, step_of, world}
use Rattle.rl_seq.specs.Plan.{Plan, look, step, stop}
use Rattle.rl_flaw.specs.declared.flaw.Flaw.{Flaw}
use Rattle.rl_desc.specs.Data.{DescData}
use Rattle.rl_log.specs.Course.{Course, along, alone, burst, first_then, through}
use Rattle.rl_log.specs.Entry.{plan_of}
use Rattle.rl_session.specs.Judged.{first_world}
use Rattle.rl_grade.specs.declared.job.Job.{Job}
use Rattle.rl_grade.specs.declared.job.Job.TheVariants.{BurstRead, BurstWrite, One, Sequence}
use Rattle.rl_grade.specs.declared.job.Task.{Task}
use Rattle.rl_grade.specs.declared.seen.Find.{Find}
use Rattle.rl_grade.specs.declared.seen.Seen.{Seen}
use Rattle.rl_grade.specs.declared.sort.Sorted.{Sorted}
use Rattle.rl_grade.specs.Adapters.{fresh_standings}
use Rattle.rl_grade.specs.Find.{new_in, shows}
use Rattle.rl_grade.specs.Heard.{Heard, heard_at}
use Rattle.rl_grade.specs.Job.{course_of, heard_by}
use Rattle.rl_grade.specs.Sorted.{AreSorted, IsBlank, Sorts, find_here, kept_first}
use Rattle.rl_grade.specs.Together.{find_in, is_of_register, with_flaws}
use Rattle.rl_grade.proofs.Driving.{world_is}
use Rattle.rl_grade.proofs.Keeping.{step_keeps}

-- ---- tables

module _ {A : Type 0} where
  abbrev at_place : List (Option A) → ℕ → Option A
  at_place table n = slice_index_or table n None

  pub kept_none : (table : List (Option A)) (at : ℕ) (value : Option A) → at_place table at ≡ None → kept_first (Some at) value table ≡ slice_set table at value
  kept_none table at value none = ap (λ o. slice_set table at (option_or o value)) none

  pub kept_some : (table : List (Option A)) (at : ℕ) (value : Option A) (x : A) → at_place table at ≡ Some x → kept_first (Some at) value table ≡ table
  kept_some table at value x some =
      ap (λ o. slice_set table at (option_or o value)) some ∙ ap (slice_set table at) (sym some) ∙ set-get_or table at None

  pub kept_past : (table : List (Option A)) (at : ℕ) (value : Option A) → length table ≤ at → kept_first (Some at) value table ≡ table
  kept_past table at value past = set_past table at (option_or (at_place table at) value) past

  pub kept_size : (at : Option ℕ) (value : Option A) (table : List (Option A)) → length (kept_first at value table) ≡ length table
  kept_size None value table = refl
  kept_size (Some at) value table = length-set table at (option_or (at_place table at) value)

  -- what stands at a place afterwards
  pub kept_here : (at : ℕ) (value : Option A) (table : List (Option A)) → at < length table → at_place (kept_first (Some at) value table) at ≡ option_or (at_place table at) value
  kept_here at value table low = get_or-set_same table at (option_or (at_place table at) value) None low

  pub kept_there : (at n : ℕ) (value : Option A) (table : List (Option A)) → (n ≡ at → ⊥) → at_place (kept_first (Some at) value table) n ≡ at_place table n
  kept_there at n value table other = get_or-set_other table at n (option_or (at_place table at) value) None other

  or_both : (a b c : Option A) → option_or (option_or a b) c ≡ option_or a (option_or b c)
  or_both None b c = refl
  or_both (Some x) b c = refl

  pub or_none : (a : Option A) → option_or a None ≡ a
  or_none None = refl
  or_none (Some x) = refl

  back_none : (table : List (Option A)) (n : ℕ) → at_place (table ++ None ∷ []) n ≡ at_place table n
  back_none [] zero = refl
  back_none [] (suc n) = refl
  back_none (x ∷ table) zero = refl
  back_none (x ∷ table) (suc n) = back_none table n

  pub blank_more : (size : ℕ) (table new : List (Option A)) → IsBlank size table → new ≡ table ++ None ∷ [] → IsBlank (size + 1) new
  blank_more size table new blank is = record {
    size_is = ap length is ∙ length-append table (None ∷ []) ∙ ap (λ n. n + 1) blank.size_is;
    none = λ at. ap (λ xs. at_place xs at) is ∙ back_none table at ∙ blank.none at;
  }

-- ---- one event

module _ (c : ChipData) (reg : ℕ) where
  abbrev Found : List Seen → Heard → List Heard → Option Find
  Found base h more = find_in c reg base (h ∷ more)

  abbrev find_by : List Seen → Heard → (own : Bool) → Option Find → Option Find
  find_by base h own rest =
      if own && shows (new_in base h.told.event)
      then Some (record { line = h.line; op = h.told.event.op; new = new_in base h.told.event }) else rest

  found_is : (base : List Seen) (h : Heard) (more : List Heard) → Found base h more ≡ find_by base h (is_of_register c reg h.told.event) (find_in c reg (drop 1 base) more)
  unfolding find_in
  found_is base h more = refl

  abbrev its_find : List Seen → Heard → Find
  its_find base h = record { line = h.line; op = h.told.event.op; new = new_in base h.told.event }

  own_find : (base : List Seen) (h : Heard) (rest : Option Find) → find_by base h true rest ≡ option_or (find_here h.line base h.told.event) rest
  own_find base h rest = by (shows (new_in base h.told.event))
    where
      by : (b : Bool) → (if b then Some (its_find base h) else rest) ≡ option_or (if b then Some (its_find base h) else None) rest
      by true = refl
      by false = refl

  passed : (base : List Seen) (h : Heard) (more : List Heard) → is_of_register c reg h.told.event ≡ false
      → find_in c reg base (h ∷ more) ≡ find_in c reg (drop 1 base) more
  passed base h more off = found_is base h more ∙ ap (λ b. find_by base h b (find_in c reg (drop 1 base) more)) off

  taken : (base : List Seen) (h : Heard) (more : List Heard) → is_of_register c reg h.told.event ≡ true
      → find_in c reg base (h ∷ more) ≡ option_or (find_here h.line base h.told.event) (find_in c reg (drop 1 base) more)
  taken base h more on =
      found_is base h more ∙ ap (λ b. find_by base h b (find_in c reg (drop 1 base) more)) on ∙ own_find base h (find_in c reg (drop 1 base) more)

  abbrev known : List (Option Find) → Option Find
  known table = slice_index_or table reg None

  event_sorted : (line : ℕ) (t : Told) (base : List Seen) (table : List (Option Find)) (more : List Heard) → reg < length table
      → option_or (known (kept_first (register_of c t.event.op) (find_here line base t.event) table)) (find_in c reg (drop 1 base) more)
      ≡ option_or (known table) (find_in c reg base (heard_at line t ∷ more))
  event_sorted line t base table more low = by (register_of c t.event.op) refl
    where
      by : (k : Option ℕ) → register_of c t.event.op ≡ k
          → option_or (known (kept_first k (find_here line base t.event) table)) (find_in c reg (drop 1 base) more)
          ≡ option_or (known table) (find_in c reg base (heard_at line t ∷ more))
      by None is =
          ap (option_or (known table)) (sym (passed base (heard_at line t) more (ap (λ k. option_map_or (λ n. n == reg) k false) is)))
      by (Some q) is = by_reg (cases_eq q reg)
        where
          by_reg : (q ≡ reg) ⊎ (q ≡ reg → ⊥)
              → option_or (known (kept_first (Some q) (find_here line base t.event) table)) (find_in c reg (drop 1 base) more)
              ≡ option_or (known table) (find_in c reg base (heard_at line t ∷ more))
          by_reg (inl at) =
              ap (λ n. option_or (known (kept_first (Some n) (find_here line base t.event) table)) (find_in c reg (drop 1 base) more)) at
              ∙ ap (λ o. option_or o (find_in c reg (drop 1 base) more)) (kept_here reg (find_here line base t.event) table low)
              ∙ or_both (known table) (find_here line base t.event) (find_in c reg (drop 1 base) more)
              ∙ ap (option_or (known table)) (sym (taken base (heard_at line t) more (ap (λ k. option_map_or (λ n. n == reg) k false) is ∙ eq-eqb q reg at)))
          by_reg (inr apart) =
              ap (λ o. option_or o (find_in c reg (drop 1 base) more)) (kept_there q reg (find_here line base t.event) table (λ at. apart (sym at)))
              ∙ ap (option_or (known table)) (sym (passed base (heard_at line t) more (ap (λ k. option_map_or (λ n. n == reg) k false) is ∙ ne_eqb q reg apart)))

-- ---- the events of a job

-- told by models of this chip
abbrev ToldOn : ChipData → List Told → Type 0
ToldOn c [] = Unit {0}
ToldOn c (t ∷ told) = (t.model.chip ≡ c) × ToldOn c told

through_on : (w : World) (ops : List Op) → ToldOn w.model.chip (through w ops).told
unfolding through
through_on w [] = tt
through_on w (o ∷ ops) =
    by (is_bus_error (step_of w o).event.end)
    (subst (λ c. ToldOn c (through (step_of w o).world ops).told) (step_keeps w o).chip (through_on (step_of w o).world ops))
  where
    by : (b : Bool) → ToldOn w.model.chip (through (step_of w o).world ops).told
        → ToldOn w.model.chip (if b then alone (step_of w o) else first_then (step_of w o) (through (step_of w o).world ops)).told
    by true rest = ((step_keeps w o).chip, tt)
    by false rest = ((step_keeps w o).chip, rest)

along_on : (w : World) (p : Plan) → ToldOn w.model.chip (along w p).told
unfolding along
along_on w stop = tt
along_on w (step o p) =
    ((step_keeps w o).chip, subst (λ c. ToldOn c (along (step_of w o).world p).told) (step_keeps w o).chip (along_on (step_of w o).world p))
along_on w (look f) = along_on w (f w.model)

burst_on : (w : World) (g : Grant) (o : Op) (ops : List Op) → ToldOn w.model.chip (burst w g o ops).told
burst_on w (Ok place) o ops = through_on w ops
burst_on w (Err why) o ops = (refl, tt)

course_on : (job : Job) (w : World) → ToldOn w.model.chip (course_of job w).told
course_on (One o) w = ((step_keeps w o).chip, tt)
course_on (BurstWrite mem at start values) w = burst_on w (write_grant w.model mem at start values) _ (writes_of mem at start values)
course_on (BurstRead mem at start count) w = burst_on w _ _ (reads_of mem at start count)
course_on (Sequence which block) w = along_on w (plan_of which w.model block)

-- What is left from here on, behind the finds so far, brings the finds of all.
pub record Going (c : ChipData) (regs : ℕ) (start : List Seen) (all : List Heard) (base : List Seen) (found : List (Option Find))
    (left : List Heard) : Type 0 where
  pub size : length found ≡ regs
  pub each : (reg : ℕ) → reg < regs → option_or (slice_index_or found reg None) (find_in c reg base left) ≡ find_in c reg start all

-- ---- a recorder with its line, with what is still to come without the flaws, and with the finds so far

module _ {R : Type 0} (line : R → ℕ) (base : R → List Seen) (found : R → List (Option Find)) where
  abbrev Takes : R → ModelData → Event → R → Type 0
  Takes old m e new = Sorts m.chip (line old) (base old) (found old) e (line new) (base new) (found new)

  size_told : (told : List Told) (old new : R) → TakesAll Takes old told new → length (found new) ≡ length (found old)
  size_told [] old new same = ap (λ r. length (found r)) same
  size_told (t ∷ told) old new (mid, one, rest) =
      size_told told mid new rest ∙ ap length one.found_is
      ∙ kept_size (register_of t.model.chip t.event.op) (find_here (line old) (base old) t.event) (found old)

  sorted_told : (c : ChipData) (reg number : ℕ) (told : List Told) (more : List Heard) (old new : R) → ToldOn c told → TakesAll Takes old told new
      → line old ≡ number → reg < length (found old)
      → option_or (slice_index_or (found new) reg None) (find_in c reg (base new) more)
      ≡ option_or (slice_index_or (found old) reg None) (find_in c reg (base old) (map (heard_at number) told ++ more))
  sorted_told c reg number [] more old new on same at low =
      ap (λ r. option_or (slice_index_or (found r) reg None) (find_in c reg (base r) more)) same
  sorted_told c reg number (t ∷ told) more old new on (mid, one, rest) at low =
      let others = map (heard_at number) told ++ more in
      let size : length (found mid) ≡ length (found old) =
      ap length one.found_is ∙ kept_size (register_of t.model.chip t.event.op) (find_here (line old) (base old) t.event) (found old) in
      let table : found mid ≡ kept_first (register_of c t.event.op) (find_here number (base old) t.event) (found old) =
      one.found_is ∙ ap (λ (x : ChipData). kept_first (register_of x t.event.op) (find_here (line old) (base old) t.event) (found old)) on.0
      ∙ ap (λ n. kept_first (register_of c t.event.op) (find_here n (base old) t.event) (found old)) at in
      sorted_told c reg number told more mid new on.1 rest (one.line_is ∙ at) (subst (λ n. reg < n) (sym size) low)
      ∙ ap (λ b. option_or (slice_index_or (found mid) reg None) (find_in c reg b others)) one.rest_is
      ∙ ap (λ f. option_or (slice_index_or f reg None) (find_in c reg (drop 1 (base old)) others)) table
      ∙ event_sorted c reg number t (base old) (found old) others low

  pub going_on : (c : ChipData) (regs : ℕ) (start : List Seen) (all : List Heard) (w : World) (t : Task) (from left : List Task) (old new : R)
      (m : ModelData) (a : List Standing) (d : State) → from ≡ t ∷ left → line old ≡ t.line → w.model.chip ≡ c
      → Going c regs start all (base old) (found old) (heard_by w from) → TakesAll Takes old (course_of t.job w).told new
      → IsAt m a (Some d) (course_of t.job w).world → Going c regs start all (base new) (found new) (heard_by (world m a d) left)
  unfolding heard_by
  going_on c regs start all w t from left old new m a d is number chip before took at = record {
    size = size_told (course_of t.job w).told old new took ∙ before.size;
    each = λ reg low.
        ap (λ v. option_or (slice_index_or (found new) reg None) (find_in c reg (base new) (heard_by v left))) (world_is m a d (course_of t.job w).world at)
        ∙ sorted_told c reg t.line (course_of t.job w).told (heard_by (course_of t.job w).world left) old new
        (subst (λ x. ToldOn x (course_of t.job w).told) chip (course_on t.job w)) took number (subst (λ n. reg < n) (sym before.size) low)
        ∙ ap (λ ts. option_or (slice_index_or (found old) reg None) (find_in c reg (base old) (heard_by w ts))) (sym is)
        ∙ before.each reg low;
  }

pub going_first : (c : ChipData) (regs : ℕ) (start : List Seen) (all : List Heard) (found : List (Option Find)) → IsBlank regs found
    → Going c regs start all start found all
going_first c regs start all found blank =
    record { size = blank.size_is; each = λ reg low. ap (λ o. option_or o (find_in c reg start all)) (blank.none reg) }

pub going_end : (c : ChipData) (regs : ℕ) (start : List Seen) (all : List Heard) (w : World) (from : List Task) (base : List Seen)
    (found : List (Option Find)) → from ≡ [] → Going c regs start all base found (heard_by w from) → AreSorted c regs start all found
unfolding heard_by find_in
going_end c regs start all w from base found none last = record {
  size = last.size;
  each = λ reg low.
      sym (or_none (slice_index_or found reg None))
      ∙ ap (λ ts. option_or (slice_index_or found reg None) (find_in c reg base (heard_by w ts))) (sym none) ∙ last.each reg low;
}

-- from the first world of a description
pub sorted_first : (c k : ChipData) (base : List Seen) (tasks : List Task) (found : List (Option Find)) (m : ModelData) (a : List Standing) (d : State)
    (desc other : DescData) → AreSorted k (length k.regs) base (heard_by (world m a d) tasks) found → k ≡ c
    → IsAt m a (Some d) (first_world desc a) → desc ≡ other → AreSorted c (length c.regs) base (heard_by (first_world other a) tasks) found
sorted_first c k base tasks found m a d desc other sorted chip at same =
    subst (λ (x : ChipData). AreSorted x (length x.regs) base (heard_by (first_world other a) tasks) found) chip
    (subst (λ w. AreSorted k (length k.regs) base (heard_by w tasks) found)
    (world_is m a d (first_world desc a) at ∙ ap (λ x. first_world x a) same) sorted)

-- over adapters that have sent nothing
pub sorted_afresh : {E : Type 0} (d : DescData) (flaws : List Flaw) (tasks : List Task) (base : List Seen) (r : Result Sorted E)
    (standings : List Standing) → standings ≡ fresh_standings
    → IfOk r (λ s. AreSorted d.chip (length d.chip.regs) base (heard_by (first_world (with_flaws d flaws) standings) tasks) s.found.items)
    → IfOk r (λ s. AreSorted d.chip (length d.chip.regs) base (heard_by (first_world (with_flaws d flaws) fresh_standings) tasks) s.found.items)
sorted_afresh d flaws tasks base r standings fresh h =
    subst (λ xs. IfOk r (λ s. AreSorted d.chip (length d.chip.regs) base (heard_by (first_world (with_flaws d flaws) xs) tasks) s.found.items)) fresh h

-- What woven accesses count: one event each.
use Rattle.std.proofs.Common.{◌≡◌, ℕ, zero, suc, Bool, true, false, cond, List, [], ◌∷◌, ◌++◌, length, map, Option, None, Some, Ok, Err, refl, sym, ap, ◌∙◌, subst}
use Rattle.std.specs.Prelude.{count_ones}
use Rattle.rl_model.specs.Rows.{ChipData}
use Rattle.rl_map.specs.Layout.{LayoutData}
use Rattle.rl_access.specs.declared.event.Event.{Event}
use Rattle.rl_access.specs.declared.event.Op.{Op}
use Rattle.rl_access.specs.Rules.{Grant, grant}
use Rattle.rl_access.specs.Tally.{is_bus_error, more}
use Rattle.rl_log.specs.declared.counts.Counts.{Counts}
use Rattle.rl_log.specs.Recording.{with_event}
use Rattle.rl_plain.specs.Calls.{without_items}
use Rattle.rl_plain.specs.Courses.{through}
use Rattle.rl_plain.specs.Machine.{Machine, done_by, machine_step, seen}
use Rattle.rl_weave.specs.declared.access.Access.{Access}
use Rattle.rl_weave.specs.Access.{op_of, op_with, woven_at}
use Rattle.rl_weave.specs.Weave.{WeaveData, is_over, stepped}
use Rattle.rl_weave_log.specs.WeaveLog.{counted_at_end}
use Rattle.rl_weave_laws.specs.Groups.{counted_in}
use Rattle.rl_weave_laws.specs.Runs.{Turn, ended, op_at, with_event as and_event}

-- ---- events one after another

pub counted_bare : (es : List Event) (counts : Counts) → counted_in counts (map without_items es) ≡ counted_in counts es
counted_bare [] counts = refl
counted_bare (e ∷ es) counts = counted_bare es (with_event counts e)

pub counted_push : (es : List Event) (e : Event) (counts : Counts) → counted_in counts (es ++ e ∷ []) ≡ with_event (counted_in counts es) e
counted_push [] e counts = refl
counted_push (x ∷ es) e counts = counted_push es e (with_event counts x)

pub counted_on : (end : Option Event) (es : List Event) (counts : Counts)
    → counted_in counts (and_event end es) ≡ counted_in (counted_at_end counts end) es
counted_on None es counts = refl
counted_on (Some e) es counts = refl

-- ---- one event that names nothing and is no bus error

abbrev one_more : Counts → Counts
one_more counts = record {
  events = more counts.events 1;
  differences = more counts.differences (count_ones 0);
  errors = counts.errors;
}

record IsQuiet (e : Event) : Type 0 where
  differ : e.differ ≡ 0
  fine : is_bus_error e.end ≡ false

quiet_counts : (e : Event) (counts : Counts) → IsQuiet e → with_event counts e ≡ one_more counts
quiet_counts e counts h =
    ap (λ d. let n : Counts = record { events = more counts.events 1; differences = more counts.differences (count_ones d); errors = cond (is_bus_error e.end) (more counts.errors 1) counts.errors } in
    n) h.differ
    ∙ ap (λ b. let n : Counts = record { events = more counts.events 1; differences = more counts.differences (count_ones 0); errors = cond b (more counts.errors 1) counts.errors } in n) h.fine

quiet_by : (c : ChipData) (l : LayoutData) (p : Machine) (reg : ℕ) (map value : Option ℕ) (g : Grant) → IsQuiet (done_by c l (op_with reg map value) p g).event
quiet_by c l p reg map None (Ok place) = record { differ = refl; fine = refl }
quiet_by c l p reg map (Some value) (Ok place) = record { differ = refl; fine = refl }
quiet_by c l p reg map None (Err why) = record { differ = refl; fine = refl }
quiet_by c l p reg map (Some value) (Err why) = record { differ = refl; fine = refl }

step_quiet : (c : ChipData) (l : LayoutData) (p : Machine) (a : Access) → IsQuiet (machine_step c l p (op_of a)).event
unfolding machine_step
step_quiet c l p a = quiet_by c l p a.reg a.map a.value (grant (seen c l p) (op_of a))

-- ---- accesses one after another

abbrev many_more : ℕ → Counts → Counts
many_more zero counts = counts
many_more (suc n) counts = many_more n (one_more counts)

-- each is another master's
abbrev pub AreOthers : List Op → Type 0
AreOthers [] = Unit {0}
AreOthers (op ∷ ops) = ((a : Access) × (op ≡ op_of a)) × AreOthers ops

through_counts : (c : ChipData) (l : LayoutData) (ops : List Op) (p : Machine) (counts : Counts) → AreOthers ops
    → counted_in counts (through c l p ops).events ≡ many_more (length ops) counts
unfolding through
through_counts c l [] p counts others = refl
through_counts c l (op ∷ ops) p counts others =
    let done = machine_step c l p op in
    let quiet : IsQuiet done.event = subst (λ o. IsQuiet (machine_step c l p o).event) (sym others.0.1) (step_quiet c l p others.0.0) in
    ap (λ n. counted_in n (through c l done.machine ops).events) (quiet_counts done.event counts quiet)
    ∙ through_counts c l ops done.machine (one_more counts) others.1

added_others : (w : WeaveData) (xs : List ℕ) → AreOthers (map (op_at w) xs)
added_others w [] = tt
added_others w (x ∷ xs) = (((woven_at w.accesses x).access, refl), added_others w xs)

pub ended_others : (w : WeaveData) (turns : List Turn) → AreOthers (ended w turns)
ended_others w [] = tt
ended_others w (t ∷ turns) = by (is_over (woven_at w.accesses t.which) t.step.item) (ended_others (stepped w t.which t.step.item) turns)
  where
    by : (over : Bool) → AreOthers (ended (stepped w t.which t.step.item) turns)
        → AreOthers (cond over (op_of (woven_at w.accesses t.which).access ∷ ended (stepped w t.which t.step.item) turns) (ended (stepped w t.which t.step.item) turns))
    by true rest = (((woven_at w.accesses t.which).access, refl), rest)
    by false rest = rest

-- as many in one order as in the other
pub orders_count : (c : ChipData) (l : LayoutData) (p : Machine) (w : WeaveData) (turns : List Turn) (counts : Counts)
    → length (ended w turns) ≡ length (map (op_at w) w.still_open)
    → counted_in counts (through c l p (ended w turns)).events ≡ counted_in counts (through c l p (map (op_at w) w.still_open)).events
orders_count c l p w turns counts same =
    through_counts c l (ended w turns) p counts (ended_others w turns)
    ∙ ap (λ n. many_more n counts) same
    ∙ sym (through_counts c l (map (op_at w) w.still_open) p counts (added_others w w.still_open))

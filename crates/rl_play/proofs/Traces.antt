-- The events of a course, with what stands after each.
use Rattle.std.proofs.Common.{◌≡◌, ℕ, Bool, true, false, if◌then◌else◌, List, [], ◌∷◌, length, Option, Some, None, option_map, Ok, Err, refl, sym, ap, subst, ◌∙◌, append-nil}
use Rattle.rl_access.specs.declared.event.Op.{Op}
use Rattle.rl_access.specs.declared.event.Op.TheVariants as op
use Rattle.rl_access.specs.Model.{ModelData}
use Rattle.rl_access.specs.Rules.{Grant, grant}
use Rattle.rl_access.specs.Runs.{write_grant, writes_of, reads_of}
use Rattle.rl_access.specs.Tally.{is_bus_error}
use Rattle.rl_bus.specs.Standing.{Standing}
use Rattle.rl_bus.specs.State.{State}
use Rattle.rl_script.specs.declared.line.Line.{Line}
use Rattle.rl_script.specs.declared.line.Line.TheVariants as line
use Rattle.rl_seq.specs.Plan.{Plan, stop, step, look}
use Rattle.rl_log.specs.declared.counts.Counts.{Counts}
use Rattle.rl_log.specs.Course.{Course, nothing_done, alone, first_then, through, along, burst}
use Rattle.rl_log.specs.Entry.{Entry, entry_of, framed, plain, plan_of, with_both}
use Rattle.rl_log.specs.Named.{block_asked, map_asked, mem_named, op_named}
use Rattle.rl_play.specs.Recording.{IsDone, led_to, with_steps}
use Rattle.rl_log.specs.Recording.{with_event, with_events}
use Rattle.rl_access.specs.World.{World, Step, step_of, unchanged, IsAt}

-- from this world on
pub record IsTrace (w : World) (c : Course) : Type 0 where
  pub counted : (counts : Counts) → with_events counts c.told ≡ with_steps counts c.steps
  pub leads : led_to w c.steps ≡ c.world

trace_none : (w : World) → IsTrace w (nothing_done w)
trace_none w = record { counted = λ counts. refl; leads = refl }

trace_alone : (w : World) (s : Step) → IsTrace w (alone s)
trace_alone w s = record { counted = λ counts. refl; leads = refl }

trace_first : (w : World) (s : Step) (others : Course) → IsTrace s.world others → IsTrace w (first_then s others)
trace_first w s others t = record { counted = λ counts. t.counted (with_event counts s.event); leads = t.leads }

trace_if : (b : Bool) (w : World) (s : Step) (others : Course) → IsTrace s.world others → IsTrace w
    (if b then alone s else first_then s others)
trace_if true w s others t = trace_alone w s
trace_if false w s others t = trace_first w s others t

trace_through : (ops : List Op) (w : World) → IsTrace w (through w ops)
unfolding through
trace_through [] w = trace_none w
trace_through (op ∷ ops) w =
    let s = step_of w op in trace_if (is_bus_error s.event.end) w s (through s.world ops) (trace_through ops s.world)

pub trace_along : (p : Plan) (w : World) → IsTrace w (along w p)
unfolding along
trace_along stop w = trace_none w
trace_along (step op p) w = let s = step_of w op in trace_first w s (along s.world p) (trace_along p s.world)
trace_along (look f) w = trace_along (f w.model) w

pub trace_burst : (granted : Grant) (op : Op) (ops : List Op) (w : World) → IsTrace w (burst w granted op ops)
trace_burst (Ok place) op ops w = trace_through ops w
trace_burst (Err why) op ops w = trace_alone w (unchanged w op why)

some_is : {A : Type 0} {x y : A} → Some x ≡ Some y → x ≡ y
some_is e = cc

-- ---- of a line

trace_made : {A : Type 0} (w : World) (o : Option A) (make : A → Course) (enter : Course → Entry) (entry : Entry) →
    ((c : Course) → (enter c).course ≡ c) → ((x : A) → IsTrace w (make x)) → option_map (λ x. enter (make x)) o ≡ Some entry
    → IsTrace w entry.course
trace_made w None make enter entry same trace is = absurd cc
trace_made w (Some x) make enter entry same trace is =
    let one : enter (make x) ≡ entry = some_is is in
    subst (IsTrace w) (sym (same (make x)) ∙ ap (λ (e : Entry). e.course) one) (trace x)

trace_both : (w : World) (mem : Option ℕ) (map : Option (Option ℕ)) (make : ℕ → Option ℕ → Course) (entry : Entry) →
    ((i : ℕ) (t : Option ℕ) → IsTrace w (make i t)) → with_both mem map (λ i t. plain (make i t)) ≡ Some entry
    → IsTrace w entry.course
trace_both w None map make entry trace is = absurd cc
trace_both w (Some i) map make entry trace is = trace_made w map (make i) plain entry (λ c. refl) (trace i) is

trace_op : (w : World) (named : Option Op) (entry : Entry) → option_map
    (λ op. plain (alone (step_of w op))) named ≡ Some entry → IsTrace w entry.course
trace_op w named entry is =
    trace_made w named (λ op. alone (step_of w op)) plain entry (λ c. refl) (λ op. trace_alone w (step_of w op)) is

pub trace_entry : (w : World) (l : Line) (entry : Entry) → entry_of w l ≡ Some entry → IsTrace w entry.course
trace_entry w line.Blank entry is =
    let one : plain (nothing_done w) ≡ entry = some_is is in
    subst (IsTrace w) (ap (λ (e : Entry). e.course) one) (trace_none w)
trace_entry w (line.BurstWrite mem first values map) entry is =
    trace_both w (mem_named w.model.chip mem) (map_asked w.model.layout map)
    (λ i t. burst w (write_grant w.model i t first values) (op.BurstWrite i t first (length values))
    (writes_of i t first values)) entry
    (λ i t. trace_burst (write_grant w.model i t first values) (op.BurstWrite i t first (length values))
    (writes_of i t first values) w) is
trace_entry w (line.BurstRead mem first count map) entry is =
    trace_both w (mem_named w.model.chip mem) (map_asked w.model.layout map)
    (λ i t. burst w (grant w.model (op.BurstRead i t first count)) (op.BurstRead i t first count)
    (reads_of i t first count)) entry
    (λ i t. trace_burst (grant w.model (op.BurstRead i t first count)) (op.BurstRead i t first count)
    (reads_of i t first count) w) is
trace_entry w (line.Seq which over) entry is =
    trace_made w (block_asked w.model.chip over) (λ block. along w (plan_of which w.model block))
    (framed which over) entry (λ c. refl) (λ block. trace_along (plan_of which w.model block) w) is
trace_entry w l entry is = trace_op w (op_named w.model l) entry is

-- ---- done as a whole, or not begun

pub done_all : (c : Course) (w : World) (counts now : Counts) (m : ModelData) (a : List Standing) (st : Option State)
    → IsTrace w c → now ≡ with_events counts c.told → IsAt m a st c.world → IsDone c.steps w counts now m a st
done_all c w counts now m a st t counted here =
    record {
      done = c.steps;
      others = [];
      split = append-nil c.steps;
      counted = counted
          ∙ t.counted counts;
      after = subst (IsAt m a st) (sym t.leads) here;
    }

pub done_none : (steps : List Step) (w : World) (counts now : Counts) (m : ModelData) (a : List Standing)
    (st : Option State) → now ≡ counts → IsAt m a st w → IsDone steps w counts now m a st
done_none steps w counts now m a st same here =
    record { done = []; others = steps; split = refl; counted = same; after = here }

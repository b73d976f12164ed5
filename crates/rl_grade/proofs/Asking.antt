-- What a line asks for, by a model, is what comes of it in a world of the same chip and layout.
use Rattle.std.proofs.Common.{◌≡◌, ◌≢◌, ℕ, List, Option, Some, None, option_map, Result, Ok, Err, refl, sym, ap, subst, ◌∙◌}
use Rattle.rl_access.specs.declared.event.Op.{Op}
use Rattle.rl_access.specs.Model.{ModelData, IsSameChip}
use Rattle.rl_access.specs.World.{World}
use Rattle.rl_script.specs.Commands.{line_of}
use Rattle.rl_script.specs.declared.command.Item.{Item}
use Rattle.rl_script.specs.declared.command.Item.TheVariants as item
use Rattle.rl_script.specs.declared.line.Line.{Line}
use Rattle.rl_script.specs.declared.line.Line.TheVariants as line
use Rattle.rl_log.specs.declared.refusal.LineRefusal.{LineRefusal}
use Rattle.rl_log.specs.Course.{nothing_done}
use Rattle.rl_log.specs.Entry.{Entry, burst_read_course, burst_write_course, framed, op_course, plain, sequence_course, with_both}
use Rattle.rl_log.specs.Log.{comes_of, there}
use Rattle.rl_log.specs.Named.{block_asked, map_asked, mem_named, op_named}
use Rattle.rl_grade.specs.declared.job.Job.{Job}
use Rattle.rl_grade.specs.declared.job.Job.TheVariants.{BurstRead, BurstWrite, One, Sequence}
use Rattle.rl_grade.specs.Job.{course_of}
use Rattle.rl_grade.specs.Script.{job_asked, job_named, named_there}

-- ---- names are looked up in the chip and the layout alone

abbrev model_of : ModelData → ModelData → ModelData
model_of m n = record { chip = m.chip; layout = m.layout; mirror = n.mirror; gathered = n.gathered }

same_model : (m n : ModelData) → m.chip ≡ n.chip → m.layout ≡ n.layout → model_of m n ≡ n
same_model m n chip layout =
    ap (λ c. let x : ModelData = record { chip = c; layout = m.layout; mirror = n.mirror; gathered = n.gathered } in x) chip
    ∙ ap (λ l. let x : ModelData = record { chip = n.chip; layout = l; mirror = n.mirror; gathered = n.gathered } in x) layout

asked_alike : (m n : ModelData) (s : Result Line LineRefusal) → job_asked m s ≡ job_asked (model_of m n) s
asked_alike m n (Err why) = refl
asked_alike m n (Ok line.Blank) = refl
asked_alike m n (Ok _) = refl

pub asked_by : (m n : ModelData) (s : Result Line LineRefusal) → IsSameChip m n → job_asked m s ≡ job_asked n s
asked_by m n s h = asked_alike m n s ∙ ap (λ x. job_asked x s) (same_model m n (sym h.chip) (sym h.layout))

-- ---- what comes of it

-- its operations are the job's, or none where it asks for nothing; and it is refused for the same reason
abbrev pub Comes : World → Result (Option Job) LineRefusal → Result Entry LineRefusal → Type 0
Comes w (Ok None) r = (e : Entry) × (r ≡ Ok e) × (e.course ≡ nothing_done w)
Comes w (Ok (Some job)) r = (e : Entry) × (r ≡ Ok e) × (e.course ≡ course_of job w)
Comes w (Err why) r = r ≡ Err why

one_comes : (w : World) (o : Option Op) → Comes w (named_there (option_map One o)) (there (option_map (λ op. plain (op_course op w)) o))
one_comes w None = refl
one_comes w (Some op) = (plain (op_course op w), refl, refl)

both_come : (w : World) (n : Option ℕ) (t : Option (Option ℕ)) (job : ℕ → Option ℕ → Job) (entry : ℕ → Option ℕ → Entry)
    → ((i : ℕ) (t : Option ℕ) → (entry i t).course ≡ course_of (job i t) w)
    → Comes w (named_there (with_both n t job)) (there (with_both n t entry))
both_come w None t job entry h = refl
both_come w (Some i) None job entry h = refl
both_come w (Some i) (Some t) job entry h = (entry i t, refl, h i t)

block_comes : (w : World) (block : Option (Option ℕ)) (job : Option ℕ → Job) (entry : Option ℕ → Entry)
    → ((b : Option ℕ) → (entry b).course ≡ course_of (job b) w)
    → Comes w (named_there (option_map job block)) (there (option_map entry block))
block_comes w None job entry h = refl
block_comes w (Some b) job entry h = (entry b, refl, h b)

comes_here : (w : World) (s : Result Line LineRefusal) → Comes w (job_asked w.model s) (comes_of w s)
comes_here w (Err why) = refl
comes_here w (Ok line.Blank) = (plain (nothing_done w), refl, refl)
comes_here w (Ok (line.BurstWrite mem first values map)) =
    both_come w (mem_named w.model.chip mem) (map_asked w.model.layout map) (λ i t. BurstWrite i t first values)
    (λ i t. plain (burst_write_course i t first values w)) (λ i t. refl)
comes_here w (Ok (line.BurstRead mem first count map)) =
    both_come w (mem_named w.model.chip mem) (map_asked w.model.layout map) (λ i t. BurstRead i t first count)
    (λ i t. plain (burst_read_course i t first count w)) (λ i t. refl)
comes_here w (Ok (line.Seq which over)) =
    block_comes w (block_asked w.model.chip over) (Sequence which) (λ block. framed which over (sequence_course which block w)) (λ b. refl)
comes_here w (Ok l) = one_comes w (op_named w.model l)

pub comes : (m : ModelData) (w : World) (s : Result Line LineRefusal) → IsSameChip m w.model → Comes w (job_asked m s) (comes_of w s)
comes m w s h = subst (λ a. Comes w a (comes_of w s)) (sym (asked_by m w.model s h)) (comes_here w s)

-- ---- lines on an item

pub item_is_one : (m : ModelData) (i : Item) (path : List ℕ) (first second : ℕ) (map : Option (List ℕ)) → i ≢ item.BurstRead
    → option_map One (op_named m (line_of i path first second map)) ≡ job_named m (line_of i path first second map)
item_is_one m item.BurstRead path first second map other = absurd (other refl)
item_is_one m _ path first second map other = refl

pub item_asked : (m : ModelData) (i : Item) (path : List ℕ) (first second : ℕ) (map : Option (List ℕ))
    → named_there (job_named m (line_of i path first second map)) ≡ job_asked m (Ok (line_of i path first second map))
item_asked m item.BurstRead path first second map = refl
item_asked m _ path first second map = refl

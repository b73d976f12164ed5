-- Each check of a location that `mem_walk` makes finds what was written there, in the plain machine.
use Rattle.std.proofs.Common.{◌≡◌, ℕ, zero, suc, ◌+◌, ◌<◌, ◌==◌, eq-eqb, ne_eqb, Bool, true, false, ◌&&◌, if◌then◌else◌, length}
use Rattle.std.proofs.Common.{All, Option, Some, Ok, refl, sym, ap, ◌∙◌, subst, arith}
use Rattle.std.proofs.lemmas.Bool.{and_parts}
use Rattle.std.proofs.lemmas.List.Elements.{All-nil, All-cons, All-head, All-tail}
use Rattle.rl_model.specs.Rows.{ChipData}
use Rattle.rl_model.specs.declared.rows.Item.TheVariants.{Mem}
use Rattle.rl_map.specs.Layout.{LayoutData}
use Rattle.rl_access.specs.declared.event.Event.{Event}
use Rattle.rl_access.specs.declared.event.Op.{Op}
use Rattle.rl_access.specs.declared.event.Op.TheVariants as op
use Rattle.rl_access.specs.Model.{ModelData, IsModel}
use Rattle.rl_access.specs.Rules.{grant, memory_size, is_writable}
use Rattle.rl_seq.specs.declared.sequence.Sequence.TheVariants.{MemWalk}
use Rattle.rl_seq.specs.Choice.{is_of, is_tested, may_read, may_write, low_bits, turned_round, exclusion_from}
use Rattle.rl_seq.specs.Plan.{Plan, stop, step, look, followed_by, only_if, each_below}
use Rattle.rl_seq.specs.Sequences.{map_at, check_filled, write_number, settle_before, check_last, walk_location, is_chosen, is_visited, at_place, visit, visit_all, walk}
use Rattle.rl_plain.specs.Courses.{along}
use Rattle.rl_plain.specs.Machine.{Machine, seen, with_location, Done, done_at, done_by, machine_step}
use Rattle.rl_plain.proofs.PlainCourses.{plan_is_plain}
use Rattle.rl_plain.proofs.PlanNumbers.{plans_have_numbers}
use Rattle.rl_detect_laws.specs.Named.{NoLocationDiffers}
use Rattle.rl_detect_laws.proofs.Quiet.{each_told, machine_of, is_machine}
use Rattle.rl_detect_laws.proofs.Reaching.{IsPlaceOf, is_place, mem_write_is, mem_check_granted, mem_number_granted}

-- the event's check finds nothing
abbrev pub FindsNothing : Event → Type 0
FindsNothing e = e.differ ≡ 0

-- ---- plans of the machine

-- from each machine that is so, no check of the plan finds anything, and the machine is then so
record IsCourse (c : ChipData) (l : LayoutData) (p : Machine) (Then : Machine → Type 0) (plan : Plan) : Type 0 where
  quiet : All FindsNothing (along c l p plan).events
  so : Then (along c l p plan).machine

abbrev Leads : (c : ChipData) (l : LayoutData) (Now Then : Machine → Type 0) → Plan → Type 0
Leads c l Now Then plan = (p : Machine) → Now p → IsCourse c l p Then plan

stops : (c : ChipData) (l : LayoutData) (p : Machine) (Then : Machine → Type 0) → Then p → IsCourse c l p Then stop
unfolding along
stops c l p Then so = record { quiet = All-nil FindsNothing; so = so }

steps : (c : ChipData) (l : LayoutData) (p : Machine) (Then : Machine → Type 0) (o : Op) (plan : Plan) → FindsNothing (machine_step c l p o).event
    → IsCourse c l (machine_step c l p o).machine Then plan → IsCourse c l p Then (step o plan)
unfolding along
steps c l p Then o plan first rest =
    let done = machine_step c l p o in
    record { quiet = All-cons FindsNothing done.event (along c l done.machine plan).events first rest.quiet; so = rest.so }

looks : (c : ChipData) (l : LayoutData) (p : Machine) (Then : Machine → Type 0) (f : ModelData → Plan) → IsCourse c l p Then (f (seen c l p)) → IsCourse c l p Then (look f)
unfolding along
looks c l p Then f rest = record { quiet = rest.quiet; so = rest.so }

-- the first operation's part, and the rest's
head_of : (c : ChipData) (l : LayoutData) (p : Machine) (Then : Machine → Type 0) (o : Op) (plan : Plan) → IsCourse c l p Then (step o plan)
    → FindsNothing (machine_step c l p o).event
unfolding along
head_of c l p Then o plan h =
    let done = machine_step c l p o in All-head FindsNothing done.event (along c l done.machine plan).events h.quiet

tail_of : (c : ChipData) (l : LayoutData) (p : Machine) (Then : Machine → Type 0) (o : Op) (plan : Plan) → IsCourse c l p Then (step o plan)
    → IsCourse c l (machine_step c l p o).machine Then plan
unfolding along
tail_of c l p Then o plan h =
    let done = machine_step c l p o in record { quiet = All-tail FindsNothing done.event (along c l done.machine plan).events h.quiet; so = h.so }

inner_of : (c : ChipData) (l : LayoutData) (p : Machine) (Then : Machine → Type 0) (f : ModelData → Plan) → IsCourse c l p Then (look f) → IsCourse c l p Then (f (seen c l p))
unfolding along
inner_of c l p Then f h = record { quiet = h.quiet; so = h.so }

end_of : (c : ChipData) (l : LayoutData) (p : Machine) (Then : Machine → Type 0) → IsCourse c l p Then stop → Then p
unfolding along
end_of c l p Then h = h.so

-- one plan after another
goes_on : (c : ChipData) (l : LayoutData) (Mid Then : Machine → Type 0) (one two : Plan) (p : Machine) → IsCourse c l p Mid one → Leads c l Mid Then two
    → IsCourse c l p Then (followed_by one two)
goes_on c l Mid Then stop two p h k = k p (end_of c l p Mid h)
goes_on c l Mid Then (step o one) two p h k =
    steps c l p Then o (followed_by one two) (head_of c l p Mid o one h)
    (goes_on c l Mid Then one two (machine_step c l p o).machine (tail_of c l p Mid o one h) k)
goes_on c l Mid Then (look f) two p h k =
    looks c l p Then (λ m. followed_by (f m) two) (goes_on c l Mid Then (f (seen c l p)) two p (inner_of c l p Mid f h) k)

each_leads : (c : ChipData) (l : LayoutData) (So : ℕ → Machine → Type 0) (n : ℕ) (f : ℕ → Plan) → ((k : ℕ) → k < n → Leads c l (So k) (So (suc k)) (f k))
    → (p : Machine) → So 0 p → IsCourse c l p (So n) (each_below n f)
each_leads c l So zero f h p so = stops c l p (So 0) so
each_leads c l So (suc n) f h p so =
    goes_on c l (So n) (So (suc n)) (each_below n f) (f n) p (each_leads c l So n f (λ k low. h k (omega (arith, low))) p so) (h n (omega arith))

-- ---- locations of the machine

picked : (b : Bool) (v w : ℕ) → b ≡ true → (if b then v else w) ≡ v
picked true v w so = refl
picked false v w so = absurd (cc)

passed : (b : Bool) (v w : ℕ) → b ≡ false → (if b then v else w) ≡ w
passed true v w so = absurd (cc)
passed false v w so = refl

and_true : (a b : Bool) → a ≡ true → b ≡ true → (a && b) ≡ true
and_true true b so h = h
and_true false b so h = absurd (cc)

and_false : (a b : Bool) → b ≡ false → (a && b) ≡ false
and_false true b so = so
and_false false b so = refl

written : (mem k v : ℕ) (p : Machine) → (with_location mem k v p).locations mem k ≡ v
written mem k v p = picked (mem == mem && k == k) v (p.locations mem k) (and_true (mem == mem) (k == k) (eq-eqb mem mem refl) (eq-eqb k k refl))

kept : (mem k j v : ℕ) (p : Machine) → (j ≡ k → ⊥) → (with_location mem k v p).locations mem j ≡ p.locations mem j
kept mem k j v p other = passed (mem == mem && j == k) v (p.locations mem j) (and_false (mem == mem) (j == k) (ne_eqb j k other))

granted_step : (c : ChipData) (l : LayoutData) (p : Machine) (o : Op) (place : ℕ) → grant (seen c l p) o ≡ Ok place → machine_step c l p o ≡ done_at c l o place p
unfolding machine_step
granted_step c l p o place granted = ap (done_by c l o p) granted

-- ---- a location of a memory that the walk visits

record IsWalked (c : ChipData) (l : LayoutData) (mem place : ℕ) : Type 0 where
  at : IsPlaceOf c l place (Mem mem)
  reads : may_read l place ≡ true
  writing : may_write l place ≡ true
  writable : is_writable c mem ≡ true

-- it holds its number turned round
abbrev IsFilled : ChipData → (mem k : ℕ) → Machine → Type 0
IsFilled c mem k p = p.locations mem k ≡ turned_round c (Mem mem) k

-- so does the location before the k-th
abbrev IsBefore : ChipData → (mem k : ℕ) → Machine → Type 0
IsBefore c mem zero p = Unit {0}
IsBefore c mem (suc k) p = IsFilled c mem k p

writes : (c : ChipData) (l : LayoutData) (mem place k v : ℕ) (Then : Machine → Type 0) (plan : Plan) (p : Machine)
    → grant (seen c l p) (op.MemWrite mem (Some (map_at l place)) k v) ≡ Ok place → IsCourse c l (with_location mem k v p) Then plan
    → IsCourse c l p Then (step (op.MemWrite mem (Some (map_at l place)) k v) plan)
writes c l mem place k v Then plan p granted rest =
    let o = op.MemWrite mem (Some (map_at l place)) k v in
    let is = granted_step c l p o place granted in
    steps c l p Then o plan (ap (λ (d : Done). d.event.differ) is) (subst (λ (x : Machine). IsCourse c l x Then plan) (sym (ap (λ (d : Done). d.machine) is)) rest)

checks : (c : ChipData) (l : LayoutData) (mem place k v : ℕ) (Then : Machine → Type 0) (plan : Plan) (p : Machine)
    → grant (seen c l p) (op.MemCheck mem (Some (map_at l place)) k v) ≡ Ok place → p.locations mem k ≡ v → IsCourse c l p Then plan
    → IsCourse c l p Then (step (op.MemCheck mem (Some (map_at l place)) k v) plan)
checks c l mem place k v Then plan p granted holds rest =
    let o = op.MemCheck mem (Some (map_at l place)) k v in
    let is = granted_step c l p o place granted in
    steps c l p Then o plan (ap (λ (d : Done). d.event.differ) is ∙ picked (p.locations mem k == v) 0 1 (eq-eqb (p.locations mem k) v holds))
    (subst (λ (x : Machine). IsCourse c l x Then plan) (sym (ap (λ (d : Done). d.machine) is)) rest)

last : (c : ChipData) (l : LayoutData) (mem place k : ℕ) → IsWalked c l mem place → k < memory_size c mem
    → Leads c l (IsFilled c mem k) (IsFilled c mem k) (check_last c mem (map_at l place) k)
last c l mem place k w low p filled = by (k + 1 == memory_size c mem)
  where
    by : (b : Bool) → IsCourse c l p (IsFilled c mem k) (only_if b (check_filled c mem (map_at l place) k))
    by true =
        checks c l mem place k (turned_round c (Mem mem) k) (IsFilled c mem k) stop p
        (mem_check_granted c l mem place k k w.at w.reads low (seen c l p) refl refl) filled (stops c l p (IsFilled c mem k) filled)
    by false = stops c l p (IsFilled c mem k) filled

settles : (c : ChipData) (l : LayoutData) (mem place k : ℕ) → IsWalked c l mem place → k < memory_size c mem → (p : Machine)
    → IsFilled c mem k p → IsBefore c mem k p → IsCourse c l p (IsFilled c mem k) (settle_before c mem (map_at l place) k)
settles c l mem place zero w low p filled before = stops c l p (IsFilled c mem 0) filled
settles c l mem place (suc j) w low p filled before =
    let v = low_bits c (Mem mem) j in
    let q = with_location mem j v p in
    let under : j < memory_size c mem = omega (arith, low) in
    let still : IsFilled c mem (suc j) q = kept mem j (suc j) v p (λ same. absurd (omega (arith, same))) ∙ filled in
    checks c l mem place j (turned_round c (Mem mem) j) (IsFilled c mem (suc j)) (write_number c mem (map_at l place) j) p
    (mem_check_granted c l mem place j j w.at w.reads under (seen c l p) refl refl) before
    (writes c l mem place j v (IsFilled c mem (suc j)) stop p
    (mem_number_granted c l mem place j w.at w.writing w.writable under (seen c l p) refl refl) (stops c l q (IsFilled c mem (suc j)) still))

-- the location before the k-th isn't the k-th
before_stays : (c : ChipData) (mem k v : ℕ) (p : Machine) → IsBefore c mem k p → IsBefore c mem k (with_location mem k v p)
before_stays c mem zero v p before = tt
before_stays c mem (suc j) v p before = kept mem (suc j) j v p (λ same. absurd (omega (arith, same))) ∙ before

walked : (c : ChipData) (l : LayoutData) (mem place k : ℕ) → IsWalked c l mem place → k < memory_size c mem
    → Leads c l (IsBefore c mem k) (IsFilled c mem k) (walk_location c mem (map_at l place) k)
walked c l mem place k w low p before =
    let map = map_at l place in
    let v = turned_round c (Mem mem) k in
    let q = with_location mem k v p in
    writes c l mem place k v (IsFilled c mem k) (followed_by (settle_before c mem map k) (check_last c mem map k)) p
    ((mem_write_is c l mem place k k w.at w.writing w.writable low).granted (seen c l p) refl refl)
    (goes_on c l (IsFilled c mem k) (IsFilled c mem k) (settle_before c mem map k) (check_last c mem map k) q
    (settles c l mem place k w low q (written mem k v p) (before_stays c mem k v p before)) (last c l mem place k w low))

-- ---- the sequence

abbrev Anything : Machine → Type 0
Anything p = Unit {0}

forget : (c : ChipData) (l : LayoutData) (p : Machine) (Then : Machine → Type 0) (plan : Plan) → IsCourse c l p Then plan → IsCourse c l p Anything plan
forget c l p Then plan h = record { quiet = h.quiet; so = tt }

only : (c : ChipData) (l : LayoutData) (b : Bool) (plan : Plan) (p : Machine) → (b ≡ true → IsCourse c l p Anything plan) → IsCourse c l p Anything (only_if b plan)
only c l true plan p h = h refl
only c l false plan p h = stops c l p Anything tt

at_memory : (m : ModelData) (block : Option ℕ) (mem place : ℕ) → IsModel m → place < length m.layout.places → is_chosen MemWalk m.chip m.layout block mem ≡ true
    → is_visited MemWalk m.layout mem place ≡ true → (p : Machine) → IsCourse m.chip m.layout p Anything (at_place MemWalk m.chip m.layout mem place)
at_memory m block mem place ok there chosen visited p =
    let c = m.chip in
    let l = m.layout in
    let both = and_parts (is_of l place (Mem mem)) (may_read l place && may_write l place) visited in
    let rights = and_parts (may_read l place) (may_write l place) both.1 in
    let w : IsWalked c l mem place = record {
      at = is_place c l place (Mem mem) ok.layout ok.built there both.0;
      reads = rights.0;
      writing = rights.1;
      writable = (and_parts (is_tested c (Mem mem) block (exclusion_from MemWalk)) (is_writable c mem) chosen).1;
    } in
    forget c l p (IsBefore c mem (memory_size c mem)) (at_place MemWalk c l mem place)
    (each_leads c l (IsBefore c mem) (memory_size c mem) (walk_location c mem (map_at l place)) (λ k low. walked c l mem place k w low) p tt)

pub walk_finds_nothing : (m : ModelData) (block : Option ℕ) (p : Machine) → IsModel m → All FindsNothing (along m.chip m.layout p (walk MemWalk m.chip m.layout block)).events
walk_finds_nothing m block p ok =
    let c = m.chip in
    let l = m.layout in
    (each_leads c l (λ k. Anything) (length c.mems) (visit_all MemWalk c l block)
    (λ mem inside p so. only c l (is_chosen MemWalk c l block mem) (each_below (length l.places) (visit MemWalk c l mem)) p
    (λ chosen. each_leads c l (λ k. Anything) (length l.places) (visit MemWalk c l mem)
    (λ place there q so. only c l (is_visited MemWalk l mem place) (at_place MemWalk c l mem place) q
    (λ visited. at_memory m block mem place ok there chosen visited q)) p tt)) p tt).quiet

pub no_location_differs : NoLocationDiffers
no_location_differs s new block told ok w all =
    let c = s.model.chip in
    let l = s.model.layout in
    let p = machine_of s.model w.agree.device in
    let plan = walk MemWalk c l block in
    let course = plan_is_plain s new plan told p (plans_have_numbers MemWalk c l block ok.chip ok.layout) ok (is_machine s ok w) all in
    each_told FindsNothing (λ e h. h) told (subst (All FindsNothing) (sym course.events) (walk_finds_nothing s.model block p ok))

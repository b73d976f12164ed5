-- What the recorders know of the events that went to them.
use Rattle.std.proofs.Common.{◌≡◌, ℕ, ◌<◌, get_or, true, false, List, [], ◌∷◌, ◌++◌, length, drop, if◌then◌else◌, Option, Some, None, Ok, Err, refl, sym, ap, subst, ◌∙◌, append_assoc, append-nil}
use Rattle.std.proofs.lemmas.List.Elements.{All-cons, All-nil}
use Rattle.rl_access.specs.declared.event.Event.{Event}
use Rattle.rl_access.specs.declared.event.Op.{Op}
use Rattle.rl_access.specs.HandsOver.{TakesAll}
use Rattle.rl_access.specs.Model.{ModelData}
use Rattle.rl_access.specs.World.{IsAt, world}
use Rattle.rl_bus.specs.Standing.{Standing}
use Rattle.rl_map.specs.Layout.{LayoutData}
use Rattle.rl_model.specs.Rows.{ChipData}
use Rattle.rl_bus.specs.State.{State}
use Rattle.rl_desc.specs.Data.{DescData}
use Rattle.rl_flaw.specs.declared.flaw.Flaw.{Flaw}
use Rattle.rl_flaw.specs.Flaws.{AreFlawsOf, IsFlawOf}
use Rattle.rl_session.specs.Judged.{first_world}
use Rattle.rl_grade.specs.declared.job.Task.{Task}
use Rattle.rl_grade.specs.Job.{TasksFit, heard_by}
use Rattle.rl_grade.proofs.Driving.{world_is}
use Rattle.rl_grade.specs.declared.seen.Find.{Find}
use Rattle.rl_grade.specs.declared.seen.Seen.{Seen}
use Rattle.rl_grade.specs.Drive.{DrivesAll, told_of}
use Rattle.rl_grade.specs.Find.{all_seen, first_find, new_in, seen_of, shows}
use Rattle.rl_grade.specs.Heard.{Heard}
use Rattle.rl_grade.specs.Record.{Finds, Keeps, Passes, items_from}

-- the numbers in tasks are in range by the chip and the layout alone
pub fits_on : (c d : ChipData) (l k : LayoutData) (tasks : List Task) → c ≡ d → l ≡ k → TasksFit d (length k.maps) tasks → TasksFit c (length l.maps) tasks
fits_on c d l k tasks chip layout h =
    subst (λ x. TasksFit x (length l.maps) tasks) (sym chip) (subst (λ (y : LayoutData). TasksFit d (length y.maps) tasks) (sym layout) h)

-- a list of one flaw is of flaws where this is one
pub one_flaw : (d : DescData) (flaw : Flaw) (flaws : List Flaw) → flaws ≡ flaw ∷ [] → IsFlawOf d.chip d.layout flaw → AreFlawsOf d.chip d.layout flaws
one_flaw d flaw flaws is h =
    subst (AreFlawsOf d.chip d.layout) (sym is) (All-cons (IsFlawOf d.chip d.layout) flaw [] h (All-nil (IsFlawOf d.chip d.layout)))

-- each flaw of a list is one of a description that is the same
pub flaw_again : (again d : DescData) (flaws : List Flaw) (n : ℕ) (x : Flaw) → again ≡ d → AreFlawsOf d.chip d.layout flaws → n < length flaws
    → IsFlawOf again.chip again.layout (get_or flaws n x)
flaw_again again d flaws n x same each low = subst (λ (e : DescData). IsFlawOf e.chip e.layout (get_or flaws n x)) (sym same) (each n x low)

abbrev pub find_of : List Seen → Heard → Find
find_of base h = record { line = h.line; op = h.told.event.op; new = new_in base h.told.event }

pub passed_on : (base : List Seen) (h : Heard) (heard : List Heard) → shows (new_in base h.told.event) ≡ false
    → first_find base (h ∷ heard) ≡ first_find (drop 1 base) heard
unfolding first_find
passed_on base h heard quiet =
    ap (λ b. if b then Some (find_of base h) else first_find (drop 1 base) heard) quiet

pub found_here : (base : List Seen) (h : Heard) (heard : List Heard) → shows (new_in base h.told.event) ≡ true
    → first_find base (h ∷ heard) ≡ Some (find_of base h)
unfolding first_find
found_here base h heard more =
    ap (λ b. if b then Some (find_of base h) else first_find (drop 1 base) heard) more

pub none_left : (base : List Seen) → first_find base [] ≡ None
unfolding first_find
none_left base = refl

-- what was found, by the line of the answer
abbrev pub told_find : ℕ → Option (Op × Seen) → Option Find
told_find line None = None
told_find line (Some (op, new)) = Some (record { line = line; op = op; new = new })

-- ---- a recorder with what is still to come without the flaw, and what was found

module _ {R : Type 0} (base : R → List Seen) (found : R → Option (Op × Seen)) where
  abbrev Takes : R → ModelData → Event → R → Type 0
  Takes old m e new = Passes (base old) (found old) e (base new) (found new)

  abbrev Breaks : R → ModelData → Event → R → Type 0
  Breaks old m e new = Finds (base old) e (found new)

  -- behind events that passed, it is as it was before them
  passed : (heard others : List Heard) (old new : R) → TakesAll Takes old (told_of heard) new
      → first_find (base old) (heard ++ others) ≡ first_find (base new) others
  passed [] others old new same = ap (λ r. first_find (base r) others) (sym same)
  passed (h ∷ heard) others old new (mid, one, rest) =
      passed_on (base old) h (heard ++ others) one.shows_none
      ∙ ap (λ b. first_find b (heard ++ others)) (sym one.rest_is) ∙ passed heard others mid new rest

  pub found_none : {T : Type 0} (heard : List Heard) (old new : R) (x : T)
      → DrivesAll Takes Breaks old new heard (Ok x) → first_find (base old) heard ≡ None
  found_none heard old new x d =
      ap (first_find (base old)) (sym (append-nil heard)) ∙ passed heard [] old new d.whole ∙ none_left (base new)

  pub found_some : {T : Type 0} (heard : List Heard) (old new : R) (line : ℕ)
      → DrivesAll {T = T} Takes Breaks old new heard (Err line) → first_find (base old) heard ≡ told_find line (found new)
  found_some heard old new line d =
      let b = d.part in
      ap (first_find (base old)) (sym b.split) ∙ passed b.done (b.last ∷ b.others) old b.mid b.taken
      ∙ found_here (base b.mid) b.last b.others b.broken.shows_more
      ∙ ap (λ n. Some (record { line = n; op = b.last.told.event.op; new = new_in (base b.mid) b.last.told.event })) b.line_is
      ∙ ap (told_find line) (sym b.broken.found_is)

-- ---- a recorder that keeps what each event shows, and counts items

module _ {R : Type 0} (seen : R → List Seen) (items : R → ℕ) where
  abbrev Kept : R → ModelData → Event → R → Type 0
  Kept old m e new = Keeps (seen old) (items old) e (seen new) (items new)

  kept_seen : (heard : List Heard) (old new : R) → TakesAll Kept old (told_of heard) new
      → seen new ≡ seen old ++ all_seen heard
  kept_seen [] old new same = ap seen same ∙ sym (append-nil (seen old))
  kept_seen (h ∷ heard) old new (mid, one, rest) =
      kept_seen heard mid new rest ∙ ap (λ s. s ++ all_seen heard) one.seen_is
      ∙ append_assoc (seen old) (seen_of h.told.event ∷ []) (all_seen heard)

  pub kept_all : (heard : List Heard) (old new : R) → TakesAll Kept old (told_of heard) new → seen old ≡ [] → seen new ≡ all_seen heard
  kept_all heard old new took empty = kept_seen heard old new took ∙ ap (λ s. s ++ all_seen heard) empty

  pub kept_items : (heard : List Heard) (old new : R) → TakesAll Kept old (told_of heard) new
      → items new ≡ items_from (items old) heard
  kept_items [] old new same = ap items same
  kept_items (h ∷ heard) old new (mid, one, rest) =
      kept_items heard mid new rest ∙ ap (λ n. items_from n heard) one.items_are

-- ---- from the first world of a description

pub found_first : (base : List Seen) (tasks : List Task) (find : Option Find) (m : ModelData) (a : List Standing) (d : State)
    (desc other : DescData) → find ≡ first_find base (heard_by (world m a d) tasks) → IsAt m a (Some d) (first_world desc a)
    → desc ≡ other → find ≡ first_find base (heard_by (first_world other a) tasks)
found_first base tasks find m a d desc other is at same =
    is ∙ ap (λ w. first_find base (heard_by w tasks)) (world_is m a d (first_world desc a) at ∙ ap (λ x. first_world x a) same)

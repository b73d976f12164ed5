-- What is written of operations, without the lines of items, is what is written of the plain machine's.
use Rattle.std.proofs.Common.{◌≡◌, ℕ, ◌<◌, List, [], ◌∷◌, ◌++◌, codes, take, get_or, Option, Some, None, option_map, refl, sym, ap, subst, ◌∙◌, append_assoc, append-nil, get_or-take, arith}
use Rattle.std.proofs.Common.{length-take}
use Rattle.std.specs.Prelude.{bytes_eq}
use Rattle.std.proofs.lemmas.List.Quantifiers.{position-Some}
use Rattle.std.proofs.lemmas.Option.{unwrap_or-slice_get}
use Rattle.std.proofs.lemmas.Slice.Eq.{bytes_eq-Decides}
use Rattle.rl_model.specs.Chip.{IsSound}
use Rattle.rl_model.specs.Rows.{ChipData}
use Rattle.rl_map.specs.Layout.{LayoutData}
use Rattle.rl_access.specs.declared.event.Event.{Event}
use Rattle.rl_access.specs.declared.event.Op.{Op}
use Rattle.rl_access.specs.declared.event.Op.TheVariants as op
use Rattle.rl_access.specs.declared.event.Tally.{Tally}
use Rattle.rl_access.specs.HandsOver.{Told}
use Rattle.rl_access.specs.Runs.{no_tally, counted_all}
use Rattle.rl_access.specs.Tally.{counted}
use Rattle.rl_plain.specs.Calls.{without_items}
use Rattle.rl_plain.specs.Machine.{Machine, seen}
use Rattle.rl_plain.specs.Courses as plain
use Rattle.rl_report.specs.Event.{event_line, event_text}
use Rattle.rl_report.specs.Operation.{op_text}
use Rattle.rl_report.specs.Outcome.{result_text}
use Rattle.rl_report.specs.Pieces.{joined}
use Rattle.rl_report.specs.WithoutItems.{plain_part, HasNames}
use Rattle.rl_report.proofs.EventLemmas.{plain_part-event_text, event_text-without_items}
use Rattle.rl_report.proofs.NameTexts.{unbroken-path}
use Rattle.rl_report.proofs.PlainPart.{plain_part-line}
use Rattle.rl_report.proofs.Unbroken.{IsUnbroken, unbroken-fixed}
use Rattle.rl_script.specs.declared.line.Sequence.{Sequence}
use Rattle.rl_log.specs.declared.counts.Counts.{Counts}
use Rattle.rl_log.specs.Course.{Course}
use Rattle.rl_log.specs.Entry.{Entry, plain, over_text, begin_text, closed_text, framed}
use Rattle.rl_log.specs.Named.{block_asked, block_named}
use Rattle.rl_session_laws.specs.PlainLog.{told_with, told_in, PlainEntry, plain_entry, plain_framed}
use Rattle.rl_log.specs.Recording.{told_text, events_text, with_event, with_events}
use Rattle.rl_session_laws.proofs.LogLines.{begin_is_line, closing_is_line}
use Rattle.rl_session_laws.proofs.PlainCourse.{IsPlainWorld, IsPlainEvent, ArePlainEvents, IsPlainCourse}

-- what is counted over the events alone
counted_plain : {A : Type 0} (one : A → Event → A) (over : A → List Told → A) → ((a : A) (t : Told) (told : List Told) → over a (t ∷ told) ≡ over (one a t.event) told)
    → ((a : A) (e : Event) → one a e ≡ one a (without_items e)) → (c : ChipData) (l : LayoutData) (told : List Told) (events : List Event) (p : Machine) (a : A)
    → ArePlainEvents c l told events → over a told ≡ over a (told_with (seen c l p) events)
counted_plain one over each_counts none_of_items c l [] [] p a h = refl
counted_plain one over each_counts none_of_items c l [] (e ∷ events) p a h = absurd h
counted_plain one over each_counts none_of_items c l (t ∷ told) [] p a h = absurd h
counted_plain one over each_counts none_of_items c l (t ∷ told) (e ∷ events) p a h =
    each_counts a t told ∙ ap (λ a. over a told) (none_of_items a t.event ∙ ap (one a) h.0.event) ∙ counted_plain one over each_counts none_of_items c l told events p (one a e) h.1
    ∙ sym (each_counts a (record { model = seen c l p; event = e }) (told_with (seen c l p) events))

counts_plain : (c : ChipData) (l : LayoutData) (told : List Told) (events : List Event) (p : Machine) (counts : Counts) → ArePlainEvents c l told events
    → with_events counts told ≡ with_events counts (told_with (seen c l p) events)
counts_plain = counted_plain with_event with_events (λ a t told. refl) (λ a e. refl)

tally_plain : (c : ChipData) (l : LayoutData) (told : List Told) (events : List Event) (p : Machine) (tally : Tally) → ArePlainEvents c l told events
    → counted_all tally told ≡ counted_all tally (told_with (seen c l p) events)
tally_plain = counted_plain counted counted_all (λ a t told. refl) (λ a e. refl)

-- an entry of a line, and the plain one
pub record IsPlainEntry (c : ChipData) (l : LayoutData) (e : Entry) (other : PlainEntry) : Type 0 where
  pub text : (rest : List ℕ) → plain_part (e.text ++ rest) ≡ other.text ++ plain_part rest
  pub counts : (counts : Counts) → with_events counts e.course.told ≡ with_events counts other.told
  pub world : IsPlainWorld c l e.course.world other.machine

-- ---- a path that is found has no line end

over_found : (c : ChipData) (path : List ℕ) (n : ℕ) → IsSound c → block_named c path ≡ Some n → IsUnbroken path
over_found c path n sound is =
    let at = position-Some (bytes_eq path) (take c.blocks c.paths) n [] is in
    let low : n < c.blocks = let long = length-take c.blocks c.paths in let inside = at.0 in omega arith in
    let same : path ≡ get_or (take c.blocks c.paths) n [] = (bytes_eq-Decides path (get_or (take c.blocks c.paths) n [])).0 at.1 in
    subst IsUnbroken (unwrap_or-slice_get c.paths n [] ∙ sym (get_or-take c.blocks c.paths n [] low) ∙ sym same) (unbroken-path c sound n)

mapped_by : {A B : Type 0} (f : A → B) (o : Option A) (b : B) → option_map f o ≡ Some b → (a : A) × (o ≡ Some a)
mapped_by f None b h = absurd (cc)
mapped_by f (Some a) b h = (a, refl)

pub over_unbroken : (c : ChipData) (over : Option (List ℕ)) (block : Option ℕ) → IsSound c → block_asked c over ≡ Some block → IsUnbroken (over_text over)
over_unbroken c None block sound is = unbroken-fixed _ refl
over_unbroken c (Some path) block sound is = let found = mapped_by Some (block_named c path) block is in over_found c path found.0 sound found.1

-- ---- of a chip and a layout

module _ (c : ChipData) (l : LayoutData) (chip : IsSound c) (names : HasNames c l) where
  -- a text tells nothing of the mirror
  op_same : (q p : Machine) (o : Op) → op_text (seen c l q) o ≡ op_text (seen c l p) o
  op_same q p (op.Write reg map value) = refl
  op_same q p _ = refl

  line_same : (q p : Machine) (e : Event) → event_line (seen c l q) e ≡ event_line (seen c l p) e
  unfolding event_line
  line_same q p e = ap (λ t. joined (t ∷ result_text c e ∷ codes "\n" ∷ [])) (op_same q p e.op)

  told_plain : (t : Told) (e : Event) (p : Machine) (rest : List ℕ) → IsPlainEvent c l t e → plain_part (told_text t ++ rest) ≡ event_text (seen c l p) e ++ plain_part rest
  told_plain t e p rest h =
      ap (λ m. plain_part (event_text m t.event ++ rest)) h.model
      ∙ plain_part-event_text (seen c l h.machine) chip names t.event rest
      ∙ ap (λ x. x ++ plain_part rest) (line_same h.machine p t.event ∙ sym (event_text-without_items (seen c l p) t.event) ∙ ap (event_text (seen c l p)) h.event)

  events_plain : (told : List Told) (events : List Event) (p : Machine) (rest : List ℕ) → ArePlainEvents c l told events
      → plain_part (events_text told ++ rest) ≡ events_text (told_with (seen c l p) events) ++ plain_part rest
  events_plain [] [] p rest h = refl
  events_plain [] (e ∷ events) p rest h = absurd h
  events_plain (t ∷ told) [] p rest h = absurd h
  events_plain (t ∷ told) (e ∷ events) p rest h =
      ap plain_part (append_assoc (told_text t) (events_text told) rest)
      ∙ told_plain t e p (events_text told ++ rest) h.0
      ∙ ap (λ x. event_text (seen c l p) e ++ x) (events_plain told events p rest h.1)
      ∙ sym (append_assoc (event_text (seen c l p) e) (events_text (told_with (seen c l p) events)) (plain_part rest))

  -- ---- entries

  pub entry_plain : (done : Course) (other : plain.Course) → IsPlainCourse c l done other → IsPlainEntry c l (plain done) (plain_entry c l other)
  entry_plain done other h = record {
    text = λ rest. events_plain done.told other.events other.machine rest h.events;
    counts = λ counts. counts_plain c l done.told other.events other.machine counts h.events;
    world = h.world;
  }

  three_plain : (x y z new rest : List ℕ) → ((r : List ℕ) → plain_part (x ++ r) ≡ x ++ plain_part r) → ((r : List ℕ) → plain_part (y ++ r) ≡ new ++ plain_part r) → ((r : List ℕ) →
      plain_part (z ++ r) ≡ z ++ plain_part r)
      → plain_part (joined (x ∷ y ∷ z ∷ []) ++ rest) ≡ joined (x ∷ new ∷ z ∷ []) ++ plain_part rest
  unfolding joined
  three_plain x y z new rest first second third =
      ap plain_part (append_assoc x (y ++ (z ++ [])) rest)
      ∙ first ((y ++ (z ++ [])) ++ rest)
      ∙ ap (λ t. x ++ plain_part t) (append_assoc y (z ++ []) rest)
      ∙ ap (λ t. x ++ t) (second ((z ++ []) ++ rest))
      ∙ ap (λ t. x ++ (new ++ plain_part (t ++ rest))) (append-nil z)
      ∙ ap (λ t. x ++ (new ++ t)) (third rest)
      ∙ ap (λ t. x ++ (new ++ (t ++ plain_part rest))) (sym (append-nil z))
      ∙ ap (λ t. x ++ t) (sym (append_assoc new (z ++ []) (plain_part rest)))
      ∙ sym (append_assoc x (new ++ (z ++ [])) (plain_part rest))

  pub framed_plain : (which : Sequence) (over : Option (List ℕ)) (done : Course) (other : plain.Course) → IsUnbroken (over_text over) → IsPlainCourse c l done other
      → IsPlainEntry c l (framed which over done) (plain_framed which over c l other)
  framed_plain which over done other path h = record {
    text = λ rest.
        let tally = counted_all no_tally done.told in
        let same = tally_plain c l done.told other.events other.machine no_tally h.events in
        three_plain (begin_text which over) (events_text done.told) (closed_text which over tally) (events_text (told_in c l other)) rest
        (λ r. plain_part-line (begin_text which over) r (begin_is_line which over path))
        (λ r. events_plain done.told other.events other.machine r h.events)
        (λ r. plain_part-line (closed_text which over tally) r (closing_is_line which over tally.steps tally.differences tally.errors path))
        ∙ ap (λ t. joined (begin_text which over ∷ events_text (told_in c l other) ∷ closed_text which over t ∷ []) ++ plain_part rest) same;
    counts = λ counts. counts_plain c l done.told other.events other.machine counts h.events;
    world = h.world;
  }

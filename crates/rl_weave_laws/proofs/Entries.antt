-- The plain log's entry of a line that joins a group, and the last lines of a woven log.
use Rattle.std.proofs.Common.{◌≡◌, ℕ, true, false, List, [], ◌∷◌, ◌++◌, codes, decimal, Some, option_map, Ok, Err, refl, ap, ◌∙◌, append-nil}
use Rattle.std.specs.Option.{ok_or}
use Rattle.rl_model.specs.Rows.{ChipData}
use Rattle.rl_map.specs.Layout.{LayoutData}
use Rattle.rl_access.specs.declared.event.Event.{Event}
use Rattle.rl_access.specs.declared.event.Op.{Op}
use Rattle.rl_access.specs.Model.{ModelData}
use Rattle.rl_access.specs.Rules.{Grant, grant}
use Rattle.rl_log.specs.declared.refusal.LineRefusal.TheVariants.{NoSuchName}
use Rattle.rl_log.specs.Named.{op_named}
use Rattle.rl_log.specs.declared.counts.Counts.{Counts}
use Rattle.rl_log.specs.Recording.{with_event, with_events}
use Rattle.rl_plain.specs.Calls.{without_items}
use Rattle.rl_plain.specs.Courses.{Course, through}
use Rattle.rl_plain.specs.Machine.{Machine, seen, done_by, machine_step}
use Rattle.rl_session_laws.specs.PlainLog.{PlainEntry, plain_entry, plain_entry_of, plain_comes_of}
use Rattle.rl_session_laws.proofs.LogLines.{refused_is_line}
use Rattle.rl_report.specs.Event.{event_line, event_text}
use Rattle.rl_report.specs.Pieces.{joined}
use Rattle.rl_report.specs.WithoutItems.{is_one_line, is_indented, IsLine}
use Rattle.rl_report.proofs.EventLemmas.{event_text-without_items}
use Rattle.rl_report.proofs.Unbroken.{IsUnbroken, unbroken-fixed, unbroken-decimal, one_line-joined}
use Rattle.rl_script.specs.declared.line.Line.{Line}
use Rattle.rl_script.specs.declared.line.Line.TheVariants as line
use Rattle.rl_weave.specs.declared.access.WeaveFault.{WeaveFault}
use Rattle.rl_weave.specs.declared.access.WeaveFault.TheVariants.{TooMany}
use Rattle.rl_weave_log.specs.declared.refusal.WovenRefusal.{WovenRefusal}
use Rattle.rl_weave_log.specs.declared.refusal.WovenRefusal.TheVariants as refusal
use Rattle.rl_play.specs.Texts.{refused_so_text}
use Rattle.rl_weave_log.specs.Refusals.{further_reason, refused_woven_text}
use Rattle.rl_weave_laws.proofs.Texts.{line_same}

-- ---- operations one after another

pub none_through : (c : ChipData) (l : LayoutData) (p : Machine) → through c l p [] ≡ record { events = []; machine = p }
unfolding through
none_through c l p = refl

abbrev on_course : Event → Course → Course
on_course e x = record { events = e ∷ x.events; machine = x.machine }

abbrev pub with_step : ChipData → LayoutData → Course → Op → Course
with_step c l x op = record { events = x.events ++ (machine_step c l x.machine op).event ∷ []; machine = (machine_step c l x.machine op).machine }

pub through_more : (c : ChipData) (l : LayoutData) (p : Machine) (ops : List Op) (op : Op)
    → through c l p (ops ++ op ∷ []) ≡ with_step c l (through c l p ops) op
unfolding through
through_more c l p [] op = refl
through_more c l p (o ∷ ops) op =
    ap (on_course (machine_step c l p o).event) (through_more c l (machine_step c l p o).machine ops op)

-- ---- the entry of a line that is one operation

abbrev entry_at : ModelData → Machine → Op → PlainEntry
entry_at m p op = plain_entry m.chip m.layout (through m.chip m.layout p (op ∷ []))

entry_named : (m : ModelData) (p : Machine) (l : Line) (op : Op) → op_named m l ≡ Some op
    → plain_entry_of m.chip m.layout p l ≡ Some (entry_at m p op)
entry_named m p line.Blank op is = absurd (cc)
entry_named m p (line.BurstWrite mem first values map) op is = absurd (cc)
entry_named m p (line.BurstRead mem first count map) op is = absurd (cc)
entry_named m p (line.Seq which over) op is = absurd (cc)
entry_named m p _ op is = ap (option_map (entry_at m p)) is

-- the events of the machine have no items
bare_by : (c : ChipData) (l : LayoutData) (p : Machine) (op : Op) (g : Grant) → (done_by c l op p g).event.trace ≡ []
bare_by c l p op (Ok place) = refl
bare_by c l p op (Err why) = refl

bare : (c : ChipData) (l : LayoutData) (p : Machine) (op : Op) → (machine_step c l p op).event.trace ≡ []
unfolding machine_step
bare c l p op = bare_by c l p op (grant (seen c l p) op)

without_none : (e : Event) → e.trace ≡ [] → e ≡ without_items e
without_none e none = ap (λ items. let x : Event = record e { trace = items } in x) none

line_of_bare : (m n : ModelData) (e : Event) → n.chip ≡ m.chip → n.layout ≡ m.layout → e.trace ≡ [] → event_text n e ≡ event_line m e
line_of_bare m n e chip layout none =
    ap (event_text n) (without_none e none) ∙ event_text-without_items n e ∙ line_same m n e chip layout

-- its text is the line of its event, and the machine behind it takes the operation
pub record IsEntry (m : ModelData) (p : Machine) (op : Op) (entry : PlainEntry) : Type 0 where
  pub text : entry.text ≡ event_line m (machine_step m.chip m.layout p op).event
  pub machine : entry.machine ≡ (machine_step m.chip m.layout p op).machine
  pub counted : (counts : Counts) → with_events counts entry.told ≡ with_event counts (machine_step m.chip m.layout p op).event

one_entry : (m : ModelData) (p : Machine) (op : Op) → IsEntry m p op (entry_at m p op)
unfolding through
one_entry m p op =
    let done = machine_step m.chip m.layout p op in
    let after = seen m.chip m.layout done.machine in
    record {
      text = append-nil (event_text after done.event)
          ∙ line_of_bare m after done.event refl refl (bare m.chip m.layout p op);
      machine = refl;
      counted = λ counts. refl;
    }

pub record HasEntry (m : ModelData) (p : Machine) (l : Line) (op : Op) : Type 0 where
  pub entry : PlainEntry
  pub is : plain_comes_of m.chip m.layout p (Ok l) ≡ Ok entry
  pub good : IsEntry m p op entry

pub has_entry : (m : ModelData) (p : Machine) (l : Line) (op : Op) → op_named m l ≡ Some op → HasEntry m p l op
has_entry m p l op is = record {
  entry = entry_at m p op;
  is = ap (λ o. ok_or o NoSuchName) (entry_named m p l op is);
  good = one_entry m p op;
}

-- ---- the last line of a woven script

unbroken-further : (fault : WeaveFault) → IsUnbroken (further_reason fault)
unbroken-further TooMany = unbroken-fixed _ refl
unbroken-further _ = unbroken-fixed _ refl

newline_ends : is_one_line (joined (codes "\n" ∷ [])) ≡ true
unfolding joined
newline_ends = refl

so_flush : (rest : List (List ℕ)) → is_indented (joined (codes "refused line " ∷ rest)) ≡ false
unfolding joined
so_flush rest = refl

so_is_line : (number : ℕ) (reason : List ℕ) → IsUnbroken reason → IsLine (refused_so_text number reason)
so_is_line number reason whole = record {
  one = one_line-joined (codes "refused line ") _ (unbroken-fixed _ refl) (one_line-joined (decimal number) _ (unbroken-decimal number)
      (one_line-joined (codes ": ") _ (unbroken-fixed _ refl) (one_line-joined reason _ whole newline_ends)));
  flush = so_flush _;
}

pub woven_refused_is_line : (number : ℕ) (why : WovenRefusal) → IsLine (refused_woven_text number why)
woven_refused_is_line number (refusal.Line why) = refused_is_line number why
woven_refused_is_line number refusal.NotWoven = so_is_line number (codes "not woven") (unbroken-fixed _ refl)
woven_refused_is_line number (refusal.Access fault) = so_is_line number (further_reason fault) (unbroken-further fault)

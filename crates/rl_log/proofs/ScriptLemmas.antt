-- How the log of a script ends, where a burst stops, and what a line may be.
use Rattle.std.proofs.Common.{◌≡◌, ◌⊎◌, inl, inr, ℕ, suc, ◌+◌, ◌<◌, ◌≤◌, ◌==◌, ◌&&◌, nat_lt, Bool, true, false, if◌then◌else◌, List, [], ◌∷◌, ◌++◌, length, map, Option, Some, None, IfSome}
use Rattle.std.proofs.Common.{Result, Ok, Err, refl, sym, ap, subst, ◌∙◌, arith, append_assoc, eqb-true, eq-eqb}
use Rattle.std.proofs.lemmas.Bool.{false≢true, and_parts}
use Rattle.std.proofs.lemmas.Bool.Decides.{nat_tests}
use Rattle.std.specs.Io.BufRead.{strip_last}
use Rattle.rl_access.specs.declared.event.Op.{Op}
use Rattle.rl_access.specs.Tally.{is_bus_error}
use Rattle.rl_access.specs.World.{World, Step, step_of}
use Rattle.rl_script.specs.declared.line.Line.{Line}
use Rattle.rl_script.specs.Reading.{read_of}
use Rattle.rl_log.specs.declared.counts.Counts.{Counts}
use Rattle.rl_log.specs.declared.refusal.LineRefusal.{LineRefusal}
use Rattle.rl_log.specs.declared.refusal.LineRefusal.TheVariants.{TooLong, TooManyLines}
use Rattle.rl_log.specs.declared.status.Status.{Status}
use Rattle.rl_log.specs.declared.status.Status.TheVariants.{Passed, Found, Refused, SourceFault, SinkFault, Memory, Words}
use Rattle.rl_log.specs.Course.{Course, told_of, alone, first_then, through}
use Rattle.rl_log.specs.Endings.{end_status}
use Rattle.rl_log.specs.Entry.{Entry, entry_of}
use Rattle.rl_log.specs.Laws.{EndsCounted, EndsRefused, EveryLogEnds, PassesWhereClean, CodesTell, ErrorIsLast, last_failed, StopsAtError, EveryBurstStops, EntriesTellSteps, LinesAreLimited}
use Rattle.rl_log.specs.Log.{Ending, said, said_by, comes_of, after_text, goes_on, script_from, text_on, lines_text}
use Rattle.rl_log.specs.Recording.{with_events}
use Rattle.rl_log.specs.Statuses.{code_of, is_complete}
use Rattle.rl_log.specs.Texts.{refused_text, end_text}
use Rattle.rl_log.proofs.EventLemmas.{IsFineEntry, entry_fine}

-- ---- the last line

abbrev Ended : Ending → (first count : ℕ) → List ℕ → Type 0
Ended e first count text = EndsCounted e text ⊎ EndsRefused e first count text

later : (front : List ℕ) (e : Ending) (first count : ℕ) (text : List ℕ) → Ended e (first + 1) count text → Ended (after_text front e) first (suc count) (front ++ text)
later front e first count text (inl h) = inl (record {
  text_is = ap (λ t. front ++ t) h.text_is ∙ sym (append_assoc front text (end_text e.counts));
  status_is = h.status_is;
})
later front e first count text (inr h) = inr (record {
  number = h.number;
  why = h.why;
  low = omega (arith, h.low);
  high = omega (arith, h.high);
  text_is = ap (λ t. front ++ t) h.text_is ∙ sym (append_assoc front text (refused_text h.number h.why));
  status_is = h.status_is;
})

line_ends : (number count : ℕ) (counts : Counts) (w : World) (r : Result Entry LineRefusal) (rest : Counts → World → Ending) (text : World → List ℕ)
    → ((counts : Counts) (v : World) → Ended (rest counts v) (number + 1) count (text v)) → Ended (goes_on number counts w r rest) number (suc count) (text_on r text)
line_ends number count counts w (Err why) rest text more = inr (record { number = number; why = why; low = omega arith; high = omega arith; text_is = refl; status_is = refl })
line_ends number count counts w (Ok e) rest text more =
    later e.text (rest (with_events counts e.course.told) e.course.world) number count (text e.course.world) (more (with_events counts e.course.told) e.course.world)

script_ends : (lines : List (List ℕ)) (number : ℕ) (counts : Counts) (w : World) → Ended (script_from number counts w lines) number (length lines) (lines_text number w lines)
unfolding script_from lines_text
script_ends [] number counts w = inl (record { text_is = refl; status_is = refl })
script_ends (text ∷ lines) number counts w =
    line_ends number (length lines) counts w (comes_of w (said number text)) (λ counts v. script_from (number + 1) counts v lines) (λ v. lines_text (number + 1) v lines)
    (λ counts v. script_ends lines (number + 1) counts v)

pub every_log_ends : EveryLogEnds
every_log_ends number counts w lines = script_ends lines number counts w

-- ---- statuses

pub passes_where_clean : PassesWhereClean
passes_where_clean counts = by (counts.differences == 0) (counts.errors == 0) refl refl
  where
    by : (d e : Bool) → (counts.differences == 0) ≡ d → (counts.errors == 0) ≡ e
        → ((if d && e then Passed else Found) ≡ Passed → (counts.differences ≡ 0) × (counts.errors ≡ 0))
        × ((counts.differences ≡ 0) × (counts.errors ≡ 0) → (if d && e then Passed else Found) ≡ Passed)
    by true true p q = (λ _. (eqb-true counts.differences 0 p, eqb-true counts.errors 0 q), λ _. refl)
    by true false p q = (λ h. absurd (cc), λ h. let no = eq-eqb counts.errors 0 h.1 in absurd (cc))
    by false e p q = (λ h. absurd (cc), λ h. let no = eq-eqb counts.differences 0 h.0 in absurd (cc))

abbrev status_with : ℕ → Status
status_with code =
    if code == 0 then Passed else if code == 1 then Found else if code == 2 then Refused
    else if code == 3 then SourceFault else if code == 4 then SinkFault else if code == 5 then Memory else Words

told_back : (s : Status) → status_with (code_of s) ≡ s
told_back Passed = refl
told_back Found = refl
told_back Refused = refl
told_back SourceFault = refl
told_back SinkFault = refl
told_back Memory = refl
told_back Words = refl

complete_low : (s : Status) → (is_complete s ≡ true → code_of s ≤ 2) × (code_of s ≤ 2 → is_complete s ≡ true)
complete_low Passed = (λ _. omega arith, λ _. refl)
complete_low Found = (λ _. omega arith, λ _. refl)
complete_low Refused = (λ _. omega arith, λ _. refl)
complete_low SourceFault = (λ h. absurd (cc), λ h. absurd (omega (arith, h)))
complete_low SinkFault = (λ h. absurd (cc), λ h. absurd (omega (arith, h)))
complete_low Memory = (λ h. absurd (cc), λ h. absurd (omega (arith, h)))
complete_low Words = (λ h. absurd (cc), λ h. absurd (omega (arith, h)))

pub codes_tell : CodesTell
codes_tell = (complete_low, λ s t e. sym (told_back s) ∙ ap status_with e ∙ told_back t)

-- ---- a burst

more_steps : (s : Step) (steps : List Step) (n : ℕ) → is_bus_error s.event.end ≡ false → StopsAtError steps n → StopsAtError (s ∷ steps) (suc n)
more_steps s [] n fine h = record { few = omega arith; last = tt; whole = λ _. ap suc (h.whole refl) }
more_steps s (t ∷ steps) n fine h = record { few = omega (arith, h.few); last = (fine, h.last); whole = λ e. ap suc (h.whole e) }

one_step : (s : Step) (n : ℕ) → is_bus_error s.event.end ≡ true → StopsAtError (s ∷ []) (suc n)
one_step s n failed = record { few = omega arith; last = tt; whole = λ e. absurd (false≢true (sym e ∙ failed)) }

through_stops : (w : World) (ops : List Op) → StopsAtError (through w ops).steps (length ops)
unfolding through
through_stops w [] = record { few = omega arith; last = tt; whole = λ _. refl }
through_stops w (o ∷ ops) = by (is_bus_error (step_of w o).event.end) refl (through_stops (step_of w o).world ops)
  where
    by : (b : Bool) → is_bus_error (step_of w o).event.end ≡ b → StopsAtError (through (step_of w o).world ops).steps (length ops)
        → StopsAtError (if b then alone (step_of w o) else first_then (step_of w o) (through (step_of w o).world ops)).steps (suc (length ops))
    by true is rest = one_step (step_of w o) (length ops) is
    by false is rest = more_steps (step_of w o) (through (step_of w o).world ops).steps (length ops) is rest

pub every_burst_stops : EveryBurstStops
every_burst_stops = through_stops

-- ---- a line

pub entries_tell_steps : EntriesTellSteps
entries_tell_steps w l e is = (subst (λ o. IfSome o (IsFineEntry w)) is (entry_fine w l)).tells

pub lines_are_limited : LinesAreLimited
lines_are_limited number bytes l is = by (nat_lt 1000000 number) (nat_lt 4096 (length bytes)) refl refl is
  where
    by : (a b : Bool) → nat_lt 1000000 number ≡ a → nat_lt 4096 (length bytes) ≡ b
        → (if a then Err TooManyLines else if b then Err TooLong else said_by (read_of (strip_last 13 bytes))) ≡ Ok l → (number ≤ 1000000) × (length bytes ≤ 4096)
    by true b p q e = absurd (cc)
    by false true p q e = absurd (cc)
    by false false p q e = (grind (arith, nat_tests), grind (arith, nat_tests))

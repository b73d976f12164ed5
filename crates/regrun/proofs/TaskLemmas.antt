-- What a task does, of each one and written out.
use Rattle.std.proofs.Common.{◌≡◌, ◌≢◌, ℕ, ◌==◌, true, false, List, Option, Some, None, IfSome, sym, ap, subst, ◌∙◌}
use Rattle.std.specs.Io.KnownBytes.{Keeps, append_known}
use Rattle.std.proofs.lemmas.Bool.{eqb-false}
use Rattle.rl_bus.specs.Standing.{Standing, kinds_of}
use Rattle.rl_log.specs.declared.status.Status.{Status}
use Rattle.rl_log.specs.declared.status.Status.TheVariants.{Found, SourceFault, SinkFault, Words}
use Rattle.rl_log.specs.Statuses.{is_complete}
use Rattle.rl_log.specs.Earlier.{KeepsEarlier}
use Rattle.rl_play.proofs.FaultLemmas.{same_status}
use Rattle.rl_session_laws.specs.PlainLog.{IsPlainLog}
use Rattle.rl_session.specs.Judged.{Judged, judged, map_judged, soak_judged, taken_text}
use Rattle.regrun.specs.declared.words.Task.{Task}
use Rattle.regrun.specs.declared.words.Task.TheVariants.{Run, Map, Soak, Weave}
use Rattle.rl_weave_log.specs.Judged.{woven_judged, woven_taken_text}
use Rattle.rl_session_run.specs.Output.{IsJudged, Output, WritesJudged}
use Rattle.rl_session_run.proofs.JudgedLemmas.{judged_written, all_written}
use Rattle.regrun.specs.Output.{BreaksOff}
use Rattle.regrun.specs.Task.{Does, DoesTask, Runs}
use Rattle.regrun.proofs.BreakLemmas.{off_written}
use Rattle.regrun.proofs.LawLemmas.{all_lawful, events_written}
use Rattle.regrun.proofs.PlainLemmas.{same_complete, plain_written, plain_later}
use Rattle.regrun.proofs.WovenLemmas.{woven_later}

-- the task that was asked for
pub task_does : (asked task : Task) (status : Status) (input left : Option (List ℕ)) (before after : Output) → asked ≡ task
    → DoesTask task status input left before after → kinds_of after.adapters ≡ kinds_of before.adapters
    → Does asked status input left before after
task_does asked task status input left before after is does kinds =
    record { does = subst (λ t. DoesTask t status input left before after) (sym is) does; kinds = kinds }

pub run_does : (status : Status) (input left : Option (List ℕ)) (before after : Output)
    → IfSome input (λ bytes. WritesJudged (judged bytes) status before after)
    → (is_complete status ≡ true → IfSome input (λ bytes. IsPlainLog bytes before.adapters))
    → (status ≡ SourceFault → IfSome input (λ bytes. BreaksOff taken_text bytes before.adapters left before.text after.text))
    → Runs status input left before after
run_does status input left before after run plain fault = record {
  run = run;
  lawful = all_lawful input before.adapters;
  events = λ c. events_written input before.adapters after.adapters status before.text after.text c run;
  plain = λ c. plain_written input before.adapters after.adapters status before.text after.text c run (plain c);
  at_fault = fault;
}

-- ---- what was told is written out

module _ (status result : Status) (input left old told new : Option (List ℕ)) (kept : List ℕ) (before after : List Standing)
    (same : result ≢ SinkFault → result ≡ status) (given_up : is_complete status ≡ false → result ≡ status) (keeps : KeepsEarlier old new)
    (held : Keeps told (append_known new kept)) (whole : is_complete result ≡ true → Keeps told new)
    (fault : status ≡ SourceFault → Keeps told new) where
  abbrev at_first : Output
  at_first = record { text = old; adapters = before }

  abbrev told_then : Output
  told_then = record { text = told; adapters = after }

  abbrev written_then : Output
  written_then = record { text = new; adapters = after }

  all_out : (J : List ℕ → Judged) → IfSome input (λ bytes. IsJudged (J bytes) status old told after)
      → IfSome input (λ bytes. IsJudged (J bytes) result old new after)
  all_out J h = all_written input J status result old told new kept after same keeps held whole h

  break_out : (log : List ℕ → List Standing → List ℕ) → (status ≡ SourceFault → IfSome input (λ bytes. BreaksOff log bytes before left old told))
      → result ≡ SourceFault → IfSome input (λ bytes. BreaksOff log bytes before left old new)
  break_out log h is = let was = same_status status result same is in off_written log input before left old told new (h was) (fault was)

  task_written : (task : Task) → DoesTask task status input left at_first told_then → DoesTask task result input left at_first written_then
  task_written Run d = record {
    run = all_out (λ bytes. judged bytes before) d.run;
    lawful = d.lawful;
    events = λ c. events_written input before after result old new c (all_out (λ bytes. judged bytes before) d.run);
    plain = λ c. plain_later input before old told new (whole c) (d.plain (same_complete status result same c));
    at_fault = break_out taken_text d.at_fault;
  }
  task_written Map d = record {
    map = all_out (λ bytes. map_judged bytes before) d.map;
    map_status = λ is. d.map_status (sym (same (λ e. let f : Found ≡ SinkFault = sym is ∙ e in absurd (cc))) ∙ is);
    map_at_fault = λ is. d.map_at_fault (same_status status result same is);
    map_unread = λ fault memory.
        d.map_unread (λ is. fault (given_up (ap is_complete is) ∙ is)) (λ is. memory (given_up (ap is_complete is) ∙ is));
  }
  task_written (Soak n) d = record {
    soak = judged_written (soak_judged n before) status result old told new kept after same keeps held whole d.soak;
    soak_status = λ is. d.soak_status (same_status status result same is);
  }
  task_written (Weave n) d = record {
    weave = all_out (λ bytes. woven_judged n bytes before) d.weave;
    plain = λ c. woven_later n input before old told new (whole c) (d.plain (same_complete status result same c));
    weave_at_fault = break_out (woven_taken_text n) d.weave_at_fault;
  }

  pub does_written : (task : Task) → Does task status input left at_first told_then → Does task result input left at_first written_then
  does_written task d = record { does = task_written task d.does; kinds = d.kinds }

-- ---- by what is asked

pub some_asked : (o : Option Task) (task : Task) (P : Task → Type 0) → o ≡ Some task → P task → IfSome o P
some_asked o task P is h = subst (λ o. IfSome o P) (sym is) h

pub none_asked : (o : Option Task) (P : Task → Type 0) → o ≡ None → IfSome o P
none_asked o P is = subst (λ o. IfSome o P) (sym is) tt

-- ---- one task isn't another

abbrev sort_of : Task → ℕ
sort_of Run = 0
sort_of Map = 1
sort_of (Soak n) = 2
sort_of (Weave n) = 3

pub one_task : {P : Type 0} {task a b : Task} → task ≡ a → task ≡ b → (sort_of a == sort_of b) ≡ false → P
one_task is other apart = absurd (eqb-false _ _ apart (ap sort_of (sym is ∙ other)))

-- the task that was found is the one that was asked for
pub is_asked : {o asked : Option Task} {task other : Task} → asked ≡ o → asked ≡ Some task → o ≡ Some other → task ≡ other
is_asked found is asked = cc

-- ---- words that ask for nothing are no fault

pub words_no_source : {P : Type 0} → Words ≡ SourceFault → P
words_no_source is = absurd (cc)

pub words_no_sink : {P : Type 0} → Words ≡ SinkFault → P
words_no_sink is = absurd (cc)

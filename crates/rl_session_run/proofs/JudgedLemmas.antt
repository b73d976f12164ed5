-- What was told of a session, against what is judged of it.
use Rattle.std.proofs.Common.{◌≡◌, ◌≢◌, ℕ, true, false, List, Option, Some, None, IfSome, Result, Ok, Err, refl, sym, ap, subst, ◌∙◌}
use Rattle.std.specs.Io.KnownBytes.{Keeps, append_known}
use Rattle.std.proofs.lemmas.Bool.{true≢false}
use Rattle.rl_bus.specs.Standing.{Standing, kinds_of}
use Rattle.rl_bus.specs.State.{State}
use Rattle.rl_access.specs.Model.{ModelData}
use Rattle.rl_access.specs.World.{IsAt, World, world}
use Rattle.rl_desc.specs.Data.{DescData}
use Rattle.rl_report.specs.Opening.{separator_at}
use Rattle.rl_log.specs.declared.counts.Counts.{Counts}
use Rattle.rl_log.specs.declared.status.Status.{Status}
use Rattle.rl_log.specs.declared.status.Status.TheVariants.{SinkFault}
use Rattle.rl_log.specs.Earlier.{KeepsEarlier}
use Rattle.rl_log.specs.Recording.{no_counts}
use Rattle.rl_log.specs.Statuses.{is_complete}
use Rattle.rl_log.proofs.TellingLemmas.{not_sink_fault, tells_later, tells_none, tells_written}
use Rattle.rl_session.specs.Judged.{Judged, first_world, refused}
use Rattle.rl_session.specs.Session.{behind, opening_of}
use Rattle.rl_session_run.specs.Output.{IsJudged}
use Rattle.rl_session_run.specs.Telling.{Stops}

-- ---- what was told

pub told_early : (j : Judged) (status : Status) (old new : Option (List ℕ)) (adapters : List Standing)
    → is_complete status ≡ false → Keeps old new → IsJudged j status old new adapters
told_early j status old new adapters early h =
    record {
      tells = tells_none status j.status old new j.text early h;
      adapters_are = λ c. absurd
          (true≢false (sym c ∙ early));
    }

-- the same of what is judged by the bytes of an input
pub all_early : (input : Option (List ℕ)) (J : List ℕ → Judged) (status : Status) (old new : Option (List ℕ))
    (adapters : List Standing) → is_complete status ≡ false → Keeps old new
    → IfSome input (λ bytes. IsJudged (J bytes) status old new adapters)
all_early None J status old new adapters early h = tt
all_early (Some bytes) J status old new adapters early h = told_early (J bytes) status old new adapters early h

pub told_later : (j : Judged) (status : Status) (old mid new : Option (List ℕ)) (adapters : List Standing) → Keeps old mid
    → IsJudged j status mid new adapters → IsJudged j status old new adapters
told_later j status old mid new adapters h t =
    record { tells = tells_later status j.status old mid new j.text h t.tells; adapters_are = t.adapters_are }

-- a session that ended before its script
pub told_stops : (J : Result DescData (List ℕ) → Judged) (opening : Result DescData (List ℕ)) (status : Status)
    (old new : Option (List ℕ)) (adapters : List Standing) → ((line : List ℕ) → J (Err line) ≡ refused line adapters)
    → Stops opening status old new → IsJudged (J opening) status old new adapters
told_stops J (Ok desc) status old new adapters is s = told_early (J (Ok desc)) status old new adapters s.0 s.1
told_stops J (Err line) status old new adapters is s =
    subst (λ j. IsJudged j status old new adapters) (sym (is line)) (record { tells = s; adapters_are = λ c. refl })

-- a session whose script is judged so
pub told_opened : (J : Result DescData (List ℕ) → Judged) (S : (script : List ℕ) → Judged) (opening : Result DescData (List ℕ))
    (desc : DescData) (input : Option (List ℕ)) (script : List ℕ) (status : Status) (old mid new : Option (List ℕ))
    (adapters : List Standing) → opening ≡ Ok desc → input ≡ Some script → J (Ok desc) ≡ S script → Keeps old mid
    → IfSome input (λ bytes. IsJudged (S bytes) status mid new adapters) → IsJudged (J opening) status old new adapters
told_opened J S opening desc input script status old mid new adapters is rest same h t =
    let told : IsJudged (S script) status mid new adapters = subst (λ o. IfSome o (λ bytes. IsJudged (S bytes) status mid new adapters)) rest t in
    subst (λ j. IsJudged j status old new adapters) (sym (ap J is ∙ same)) (told_later (S script) status old mid new adapters h told)

-- ---- a session that is judged by what it opens with: by its line where it is refused, and else by its script

module _ (judge : Result DescData (List ℕ) → (bytes : List ℕ) → List Standing → Judged)
    (of_script : DescData → (script : List ℕ) → List Standing → Judged) where
  pub stopped_told : ((line bytes : List ℕ) (adapters : List Standing) → judge (Err line) bytes adapters ≡ refused line adapters)
      → (left : Option (List ℕ)) (adapters : List Standing) (status : Status) (old new : Option (List ℕ))
      → IfSome left (λ bytes. Stops (opening_of bytes (kinds_of adapters)) status old new)
      → IfSome left (λ bytes. IsJudged (judge (opening_of bytes (kinds_of adapters)) bytes adapters) status old new adapters)
  stopped_told is None adapters status old new s = tt
  stopped_told is (Some bytes) adapters status old new s =
      told_stops (λ o. judge o bytes adapters) (opening_of bytes (kinds_of adapters)) status old new adapters (λ line. is line bytes adapters) s

  pub opened_told : ((desc : DescData) (bytes : List ℕ) (adapters : List Standing)
      → judge (Ok desc) bytes adapters ≡ of_script desc (behind (separator_at bytes) bytes) adapters)
      → (left input : Option (List ℕ)) (adapters now : List Standing) (desc : DescData) (status : Status)
      (old mid new : Option (List ℕ)) → IfSome left (λ bytes. opening_of bytes (kinds_of adapters) ≡ Ok desc)
      → IfSome left (λ bytes. input ≡ Some (behind (separator_at bytes) bytes)) → Keeps old mid
      → IfSome input (λ script. IsJudged (of_script desc script adapters) status mid new now)
      → IfSome left (λ bytes. IsJudged (judge (opening_of bytes (kinds_of adapters)) bytes adapters) status old new now)
  opened_told same None input adapters now desc status old mid new is rest h t = tt
  opened_told same (Some bytes) input adapters now desc status old mid new is rest h t =
      told_opened (λ o. judge o bytes adapters) (λ script. of_script desc script adapters) (opening_of bytes (kinds_of adapters)) desc input
      (behind (separator_at bytes) bytes) status old mid new now is rest (same desc bytes adapters) h t

-- ---- from the first state

-- what is made of the counts and of the state, at the start of a session
pub from_first : {X : Type 0} (f : Counts → World → X) (desc : DescData) (adapters : List Standing) (m : ModelData) (st : State)
    (counts : Counts) → counts ≡ no_counts → IsAt m adapters (Some st) (first_world desc adapters)
    → f counts (world m adapters st) ≡ f no_counts (first_world desc adapters)
from_first f desc adapters m st counts none h =
    ap (λ c. f c (world m adapters st)) none ∙ ap (λ m. f no_counts (world m adapters st)) h.model_is
    ∙ ap (λ st. f no_counts (world (first_world desc adapters).model adapters st)) (some_is h.device_is)
  where
    some_is : {x y : State} → Some x ≡ Some y → x ≡ y
    some_is e = cc

-- ---- what is written in the end

pub judged_written : (j : Judged) (status result : Status) (old told new : Option (List ℕ)) (kept : List ℕ)
    (adapters : List Standing) → (result ≢ SinkFault → result ≡ status) → KeepsEarlier old new → Keeps told
    (append_known new kept)
    → (is_complete result ≡ true → Keeps told new) → IsJudged j status old told adapters
    → IsJudged j result old new adapters
judged_written j status result old told new kept adapters same keeps held whole t = record {
  tells = tells_written status result j.status old told new kept j.text same keeps held whole t.tells;
  adapters_are = λ c. t.adapters_are (subst (λ s. is_complete s ≡ true) (same (not_sink_fault result c)) c);
}

pub all_written : (left : Option (List ℕ)) (J : List ℕ → Judged) (status result : Status)
    (old told new : Option (List ℕ)) (kept : List ℕ) (adapters : List Standing) →
    (result ≢ SinkFault → result ≡ status) → KeepsEarlier old new
    → Keeps told (append_known new kept) → (is_complete result ≡ true → Keeps told new) → IfSome left
    (λ bytes. IsJudged (J bytes) status old told adapters) → IfSome left
    (λ bytes. IsJudged (J bytes) result old new adapters)
all_written None J status result old told new kept adapters same keeps held whole t = tt
all_written (Some bytes) J status result old told new kept adapters same keeps held whole t =
    judged_written (J bytes) status result old told new kept adapters same keeps held whole t

-- Line by line through a script, to its tasks or to the line that is refused.
use Rattle.std.proofs.Common.{◌≡◌, ◌≢◌, ℕ, ◌+◌, ◌<◌, List, [], ◌∷◌, ◌++◌, length, Option, Some, None, IfSome, IfErr, IsErr, Result, Ok, Err, refl, sym, ap, subst, ◌∙◌, append_assoc, append-nil}
use Rattle.std.specs.Prelude.{IsErrAnd}
use Rattle.std.proofs.lemmas.List.Elements.{All-append, All-cons, All-nil}
use Rattle.rl_access.specs.Model.{ModelData}
use Rattle.rl_model.specs.Rows.{ChipData}
use Rattle.rl_log.specs.declared.refusal.LineRefusal.{LineRefusal}
use Rattle.rl_log.specs.Log.{said}
use Rattle.rl_report.specs.declared.lines.Got.{Got}
use Rattle.rl_report.specs.declared.lines.Got.TheVariants as got
use Rattle.rl_report.specs.Got.{Hands}
use Rattle.rl_report.specs.Lines.{after_line, first_line, lines_of}
use Rattle.rl_report.specs.Reading.{Reading, input_of}
use Rattle.rl_play.specs.Heard.{heard}
use Rattle.rl_play.proofs.PlayLemmas.{hands_some, heard_said, lines_more}
use Rattle.rl_grade.specs.declared.job.Job.{Job}
use Rattle.rl_grade.specs.declared.job.Task.{Task}
use Rattle.rl_grade.specs.declared.script.ScriptFault.{ScriptFault}
use Rattle.rl_grade.specs.declared.script.ScriptFault.TheVariants as fault
use Rattle.rl_grade.specs.declared.script.Turn.TheVariants.{End, Line}
use Rattle.rl_grade.specs.declared.script.Unread.{Unread}
use Rattle.rl_grade.specs.declared.script.Unread.TheVariants.{Memory, Refused}
use Rattle.rl_grade.specs.Job.{JobFits, TasksFit}
use Rattle.rl_grade.specs.Reading.{Answers, IsAsked, IsRefused, Reads, refused_line}
use Rattle.rl_grade.specs.Script.{RefusedLine, behind, job_asked, tasks_at, tasks_from, tasks_on}

-- ---- the next line

pub reads_end : (m : ModelData) (number : ℕ) (input : Option (List ℕ)) (g : Got) (new : Reading) (left : Option (List ℕ)) → g ≡ got.End
    → IfSome input (λ bytes. Hands bytes g new left) → IfSome input (λ bytes. Reads m number bytes (input_of new left) (Ok End))
reads_end m number None g new left is h = tt
reads_end m number (Some bytes) got.End new left is h = h.0
reads_end m number (Some bytes) got.Line new left is h = absurd (cc)
reads_end m number (Some bytes) got.TooLong new left is h = absurd (cc)

pub reads_line : (m : ModelData) (number : ℕ) (input : Option (List ℕ)) (g : Got) (line : List ℕ) (new : Reading) (left : Option (List ℕ))
    (job : Option Job) → g ≢ got.End → g ≢ got.TooLong → IfSome input (λ bytes. Hands bytes g new left) → line ≡ new.line
    → job_asked m (heard number g line) ≡ Ok job → IfSome input (λ bytes. Reads m number bytes (input_of new left) (Ok (Line job)))
reads_line m number None g line new left job some short h is asked = tt
reads_line m number (Some bytes) got.Line line new left job some short h is asked = record {
  some = h.some;
  asked = ap (job_asked m) (sym (heard_said number bytes line got.Line new left some h is)) ∙ asked;
  rest_is = h.rest;
}
reads_line m number (Some bytes) got.End line new left job some short h is asked = absurd (some refl)
reads_line m number (Some bytes) got.TooLong line new left job some short h is asked = absurd (short refl)

pub reads_refused : (m : ModelData) (number : ℕ) (input : Option (List ℕ)) (g : Got) (line : List ℕ) (new : Reading) (left : Option (List ℕ))
    (why : LineRefusal) → g ≢ got.End → IfSome input (λ bytes. Hands bytes g new left) → line ≡ new.line
    → job_asked m (heard number g line) ≡ Err why
    → IfSome input (λ bytes. Reads m number bytes (input_of new left) (Err (fault.Line number why)))
reads_refused m number None g line new left why some h is asked = tt
reads_refused m number (Some bytes) g line new left why some h is asked = record {
  some = hands_some bytes g new left some h;
  number_is = refl;
  asked = ap (job_asked m) (sym (heard_said number bytes line g new left some h is)) ∙ asked;
}

pub reads_unknown : (m : ModelData) (number : ℕ) (input rest : Option (List ℕ)) (f : ScriptFault) → refused_line f ≡ None
    → IfSome input (λ bytes. Reads m number bytes rest (Err f))
reads_unknown m number None rest f is = tt
reads_unknown m number (Some bytes) rest (fault.Line at why) is = absurd (cc)
reads_unknown m number (Some bytes) rest fault.Source is = tt
reads_unknown m number (Some bytes) rest fault.Memory is = tt

-- ---- the lines so far

-- These tasks, and then what is left from that number on, are what the bytes ask for.
pub record IsReadTo (m : ModelData) (bytes : List ℕ) (tasks : List Task) (number : ℕ) (input : Option (List ℕ)) : Type 0 where
  pub rest : List ℕ
  pub input_is : input ≡ Some rest
  pub whole : tasks_from m 1 (lines_of bytes) ≡ behind tasks (tasks_from m number (lines_of rest))

behind_none : (r : Result (List Task) RefusedLine) → behind [] r ≡ r
behind_none (Ok tasks) = refl
behind_none (Err at) = refl

behind_both : (first tasks : List Task) (r : Result (List Task) RefusedLine) → behind first (behind tasks r) ≡ behind (first ++ tasks) r
behind_both first tasks (Ok others) = ap Ok (sym (append_assoc first tasks others))
behind_both first tasks (Err at) = refl

pub read_first : (m : ModelData) (input : Option (List ℕ)) → IfSome input (λ bytes. IsReadTo m bytes [] 1 input)
read_first m None = tt
read_first m (Some bytes) = record { rest = bytes; input_is = refl; whole = sym (behind_none (tasks_from m 1 (lines_of bytes))) }

tasks_more : (m : ModelData) (number : ℕ) (bytes : List ℕ) → 0 < length bytes
    → tasks_from m number (lines_of bytes) ≡ tasks_on number (job_asked m (said number (first_line bytes))) (tasks_from m (number + 1) (lines_of (after_line bytes)))
unfolding tasks_from
tasks_more m number bytes some = ap (tasks_from m number) (lines_more bytes some)

read_more : (m : ModelData) (bytes : List ℕ) (tasks new : List Task) (number : ℕ) (input rest : Option (List ℕ)) (job : Option Job)
    → IsReadTo m bytes tasks number input → IfSome input (λ left. IsAsked m number left rest job)
    → new ≡ tasks ++ tasks_at number job → IsReadTo m bytes new (number + 1) rest
read_more m bytes tasks new number input rest job h asked is =
    let a : IsAsked m number h.rest rest job = subst (λ i. IfSome i (λ left. IsAsked m number left rest job)) h.input_is asked in
    let others = tasks_from m (number + 1) (lines_of (after_line h.rest)) in
    record {
      rest = after_line h.rest;
      input_is = a.rest_is;
      whole = h.whole ∙ ap (behind tasks) (tasks_more m number h.rest a.some ∙ ap (λ x. tasks_on number x others) a.asked)
          ∙ behind_both tasks (tasks_at number job) others ∙ ap (λ ts. behind ts others) (sym is);
    }

pub read_on : (m : ModelData) (first : Option (List ℕ)) (tasks new : List Task) (number : ℕ) (input rest : Option (List ℕ)) (job : Option Job)
    → IfSome first (λ bytes. IsReadTo m bytes tasks number input) → IfSome input (λ left. Reads m number left rest (Ok (Line job)))
    → new ≡ tasks ++ tasks_at number job → IfSome first (λ bytes. IsReadTo m bytes new (number + 1) rest)
read_on m None tasks new number input rest job h asked is = tt
read_on m (Some bytes) tasks new number input rest job h asked is = read_more m bytes tasks new number input rest job h asked is

-- ---- the end

read_whole : (m : ModelData) (bytes : List ℕ) (tasks : List Task) (number : ℕ) (input : Option (List ℕ))
    → IsReadTo m bytes tasks number input → IfSome input (λ left. left ≡ []) → tasks_from m 1 (lines_of bytes) ≡ Ok tasks
unfolding tasks_from
read_whole m bytes tasks number input h ended =
    let none : h.rest ≡ [] = subst (λ i. IfSome i (λ left. left ≡ [])) h.input_is ended in
    h.whole ∙ ap (λ left. behind tasks (tasks_from m number (lines_of left))) none ∙ ap Ok (append-nil tasks)

pub read_out : (m : ModelData) (first : Option (List ℕ)) (tasks : List Task) (number : ℕ) (input rest : Option (List ℕ))
    → IfSome first (λ bytes. IsReadTo m bytes tasks number input) → IfSome input (λ left. Reads m number left rest (Ok End))
    → IfSome first (λ bytes. tasks_from m 1 (lines_of bytes) ≡ Ok tasks)
read_out m None tasks number input rest h ended = tt
read_out m (Some bytes) tasks number input rest h ended = read_whole m bytes tasks number input h ended

stops_at : (m : ModelData) (bytes : List ℕ) (tasks : List Task) (number : ℕ) (input : Option (List ℕ)) (at : RefusedLine)
    → IsReadTo m bytes tasks number input → IfSome input (λ left. IsRefused m number left at)
    → tasks_from m 1 (lines_of bytes) ≡ Err at
stops_at m bytes tasks number input at h refused =
    let r : IsRefused m number h.rest at = subst (λ i. IfSome i (λ left. IsRefused m number left at)) h.input_is refused in
    h.whole ∙ ap (behind tasks) (tasks_more m number h.rest r.some
    ∙ ap (λ x. tasks_on number x (tasks_from m (number + 1) (lines_of (after_line h.rest)))) r.asked)
    ∙ ap (λ n. let x : RefusedLine = record { number = n; why = at.why } in Err x) (sym r.number_is)

pub read_refused : (m : ModelData) (first : Option (List ℕ)) (tasks : List Task) (number : ℕ) (input rest : Option (List ℕ)) (f : ScriptFault)
    → IfSome first (λ bytes. IsReadTo m bytes tasks number input) → IfSome input (λ left. Reads m number left rest (Err f))
    → IfSome (refused_line f) (λ at. IfSome first (λ bytes. tasks_from m 1 (lines_of bytes) ≡ Err at))
read_refused m None tasks number input rest (fault.Line at why) h refused = tt
read_refused m (Some bytes) tasks number input rest (fault.Line at why) h refused = stops_at m bytes tasks number input _ h refused
read_refused m first tasks number input rest fault.Source h refused = tt
read_refused m first tasks number input rest fault.Memory h refused = tt

pub answers_as : (a b : Result (Option Job) LineRefusal) (r : Result (Option Job) Unread) → a ≡ b → Answers a r → Answers b r
answers_as a b r same h = subst (λ x. Answers x r) same h

-- ---- what is handed out

pub fits_more : (c : ChipData) (maps : ℕ) (tasks new : List Task) (number : ℕ) (job : Option Job) → TasksFit c maps tasks
    → IfSome job (JobFits c maps) → new ≡ tasks ++ tasks_at number job → TasksFit c maps new
fits_more c maps tasks new number job h fits is = subst (TasksFit c maps) (sym is) (by job fits)
  where
    by : (job : Option Job) → IfSome job (JobFits c maps) → TasksFit c maps (tasks ++ tasks_at number job)
    by None fits = subst (TasksFit c maps) (sym (append-nil tasks)) h
    by (Some j) fits =
        All-append (λ t. JobFits c maps t.job) tasks (tasks_at number (Some j)) h
        (All-cons (λ t. JobFits c maps t.job) (record { line = number; job = j }) [] fits (All-nil (λ t. JobFits c maps t.job)))

-- by the error that a `?` hands on
pub out_by : {X : Type 0} (r : Result X ScriptFault) (f : ScriptFault) (P : ScriptFault → Type 0) → IsErr r × IsErrAnd r (λ x. x ≡ f)
    → P f → IfErr r P
out_by (Ok x) f P h p = tt
out_by (Err x) f P h p = rw h.1 p

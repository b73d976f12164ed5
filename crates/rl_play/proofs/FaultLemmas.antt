-- What was told when a source failed.
use Rattle.std.proofs.Common.{◌≡◌, ◌≢◌, ℕ, ◌+◌, Bool, true, false, List, [], ◌∷◌, ◌++◌}
use Rattle.std.proofs.Common.{Option, Some, None, IfSome, Result, refl, sym, ap, subst, ◌∙◌, arith}
use Rattle.std.specs.Io.KnownBytes.{Keeps}
use Rattle.std.proofs.lemmas.Bool.{true≢false}
use Rattle.rl_bus.specs.Standing.{Standing}
use Rattle.rl_bus.specs.State.{State}
use Rattle.rl_access.specs.Model.{ModelData}
use Rattle.rl_report.specs.declared.lines.Got.{Got}
use Rattle.rl_report.specs.declared.lines.Got.TheVariants as got
use Rattle.rl_report.specs.Got.{Hands}
use Rattle.rl_report.specs.Lines.{first_line, after_line, whole_lines}
use Rattle.rl_report.specs.Reading.{Reading, input_of}
use Rattle.rl_report.proofs.LineLemmas.{whole_first}
use Rattle.rl_script.specs.declared.line.Line.{Line}
use Rattle.rl_log.specs.declared.counts.Counts.{Counts}
use Rattle.rl_play.specs.declared.playing.Turn.TheVariants.{Next}
use Rattle.rl_log.specs.declared.status.Status.{Status}
use Rattle.rl_log.specs.declared.status.Status.TheVariants.{SourceFault, SinkFault}
use Rattle.rl_log.specs.declared.refusal.LineRefusal.{LineRefusal}
use Rattle.rl_play.specs.Heard.{heard}
use Rattle.rl_log.specs.Log.{comes_of, lines_text, said, text_on}
use Rattle.rl_log.specs.Causes.{IsCaused}
use Rattle.rl_play.specs.Played.{BreaksAfter, Breaks, IsTurn, RanOn}
use Rattle.rl_access.specs.World.{World, world, IsAt}
use Rattle.rl_play.proofs.EndingLemmas.{incomplete}
use Rattle.rl_play.proofs.CutLemmas.{cut_behind, cut_here}
use Rattle.rl_play.proofs.PlayLemmas.{heard_said}

pub still_going : (old new : Bool) → (old ≡ true → new ≡ true) → new ≡ false → old ≡ false
still_going old new later going = incomplete old (λ e. true≢false (sym (later e) ∙ going))

-- ---- a fault

pub nothing_from : (number : ℕ) (w : World) (lines : List (List ℕ)) → lines ≡ [] → lines_text number w lines ≡ []
unfolding lines_text
nothing_from number w lines none = ap (lines_text number w) none

pub breaks_here : (number : ℕ) (m : ModelData) (a : List Standing) (st : Option State)
    (input left old new : Option (List ℕ)) (reading : Reading) → Keeps input (input_of reading left)
    → (first_line reading.pending ≡ reading.pending) × (reading.ended ≡ false) → Keeps old new
    → Breaks number m a st input left old new
breaks_here number m a None input left old new reading kept none same = tt
breaks_here number m a (Some d) None left old new reading kept none same = tt
breaks_here number m a (Some d) (Some bytes) left old new reading kept none same =
    let w = world m a d in
    cut_here (lines_text number w) bytes left old new reading (nothing_from number w [] refl) kept none same

-- ---- a fault behind a line

-- what comes first of the lines that were taken
first_text : (number : ℕ) (w : World) (bytes taken : List ℕ) (s : Result Line LineRefusal) → s ≡ said number
    (first_line bytes)
    → lines_text number w (whole_lines (first_line bytes ++ 10 ∷ taken)) ≡ text_on (comes_of w s)
    (λ w. lines_text (number + 1) w (whole_lines taken))
unfolding lines_text
first_text number w bytes taken s is =
    ap (lines_text number w) (whole_first bytes taken)
    ∙ ap (λ s. text_on (comes_of w s) (λ w. lines_text (number + 1) w (whole_lines taken))) (sym is)

-- where these are the world's
pub breaks_at : (number : ℕ) (m : ModelData) (a : List Standing) (st : Option State) (w : World)
    (input left old new : Option (List ℕ)) (bytes : List ℕ) → IsAt m a st w → input ≡ Some bytes
    → Breaks number m a st input left old new
    → BreaksAfter number w bytes left old new
breaks_at number m a st w input left old new bytes here is h =
    let h1 = subst (λ i. Breaks number m a st i left old new) is h in
    let h2 = subst (λ s. Breaks number m a s (Some bytes) left old new) here.device_is h1 in
    let h3 = subst (λ (m : ModelData). BreaksAfter number (world m a w.device) bytes left old new) here.model_is h2 in
    subst (λ a. BreaksAfter number (world w.model a w.device) bytes left old new) here.adapters_are h3

breaks_behind : (number : ℕ) (counts now : Counts) (w : World) (bytes : List ℕ) (s : Result Line LineRefusal)
    (old mid new left last : Option (List ℕ)) (m : ModelData) (a : List Standing) (st : Option State)
    (input : Option (List ℕ))
    → s ≡ said number (first_line bytes) → bytes ≡ first_line bytes ++ 10 ∷ after_line bytes → input ≡ Some
    (after_line bytes) → Keeps old mid → RanOn (comes_of w s) mid new counts now m a st
    → Breaks (number + 1) m a st input left new last → BreaksAfter number w bytes left old last
breaks_behind number counts now w bytes s old mid new left last m a st input is whole rest same r h =
    let more = λ (taken : List ℕ). λ (w : World). lines_text (number + 1) w (whole_lines taken) in
    cut_behind (lines_text number w) (lines_text (number + 1) r.entry.course.world) r.entry.text bytes old mid new left last
    (λ taken. first_text number w bytes taken s is ∙ ap (λ c. text_on c (more taken)) r.is) whole same r.text
    (breaks_at (number + 1) m a st r.entry.course.world input left new last (after_line bytes) r.after rest h)

pub breaks_later : (number : ℕ) (counts now : Counts) (m n : ModelData) (a b : List Standing)
    (before after : Option State) (input : Option (List ℕ)) (g : Got) (line : List ℕ) (reading : Reading)
    (reached : Option (List ℕ))
    (s : Result Line LineRefusal) (old mid new left last : Option (List ℕ)) → g ≢ got.End → g ≢ got.TooLong
    → IfSome input (λ bytes. Hands bytes g reading reached) → line ≡ reading.line → s ≡ heard number g line
    → Keeps old mid
    → IfSome before (λ d. IsTurn number (comes_of (world m a d) s) mid new counts now (world m a d) n b after Next)
    → reading.ended ≡ false
    → Breaks (number + 1) n b after (input_of reading reached) left new last → Breaks number m a before input left old last
breaks_later number counts now m n a b None after input g line reading reached s old mid new left last not_end not_long
    h is heard same t going f =
    tt
breaks_later number counts now m n a b (Some d) after None g line reading reached s old mid new left last not_end
    not_long h is heard same t going f =
    tt
breaks_later number counts now m n a b (Some d) after
    (Some bytes) got.Line line reading reached s old mid new left last not_end not_long h is heard same t going f =
    breaks_behind number counts now (world m a d) bytes s old mid new left last n b after (input_of reading reached)
    (heard ∙ heard_said number bytes line got.Line reading reached not_end h is) (h.whole going) h.rest same t f
breaks_later number counts now m n a b (Some d) after (Some bytes) got.TooLong line reading reached s old mid new left
    last not_end not_long h is heard same t going f =
    absurd (not_long refl)
breaks_later number counts now m n a b (Some d) after (Some bytes) got.End line reading reached s old mid new left last
    not_end not_long h is heard same t going f =
    absurd (not_end refl)

-- ---- a status that stays

pub same_status : (status result : Status) → (result ≢ SinkFault → result ≡ status) → result ≡ SourceFault
    → status ≡ SourceFault
same_status status result kept is = sym (kept (λ e. let f : SourceFault ≡ SinkFault = sym is ∙ e in absurd (cc))) ∙ is

-- a source that didn't fail is no cause
pub no_source : (status : Status) (sink now : ℕ) → IsCaused status 0 0 sink now → status ≢ SourceFault
no_source status sink now h is = omega (arith, h.source_fault is)

-- What was written of a woven script when its source failed.
use Rattle.std.proofs.Common.{◌≡◌, ◌≢◌, ℕ, ◌+◌, false, List, [], ◌∷◌, ◌++◌, Some, None, IfSome, refl, sym, ap, subst, ◌∙◌}
use Rattle.std.specs.declared.option.Option.{Option}
use Rattle.std.specs.declared.result.Result.{Result}
use Rattle.std.specs.Io.KnownBytes.{Keeps}
use Rattle.rl_access.specs.Model.{ModelData}
use Rattle.rl_access.specs.World.{world}
use Rattle.rl_bus.specs.Standing.{Standing}
use Rattle.rl_bus.specs.State.{State}
use Rattle.rl_log.specs.declared.counts.Counts.{Counts}
use Rattle.rl_log.specs.declared.refusal.LineRefusal.{LineRefusal}
use Rattle.rl_log.specs.Log.{said}
use Rattle.rl_play.specs.declared.playing.Turn.TheVariants.{Next}
use Rattle.rl_play.specs.Heard.{heard}
use Rattle.rl_play.proofs.CutLemmas.{cut_behind, cut_here}
use Rattle.rl_play.proofs.PlayLemmas.{heard_said}
use Rattle.rl_report.specs.declared.lines.Got.{Got}
use Rattle.rl_report.specs.declared.lines.Got.TheVariants as got
use Rattle.rl_report.specs.Got.{Hands}
use Rattle.rl_report.specs.Lines.{first_line, after_line, whole_lines}
use Rattle.rl_report.specs.Reading.{Reading, input_of}
use Rattle.rl_report.proofs.LineLemmas.{whole_first}
use Rattle.rl_script.specs.declared.line.Line.{Line}
use Rattle.rl_weave.specs.Weave.{WeaveData}
use Rattle.rl_weave_log.specs.Setting.{Setting, IsAtWeaving, weaving_at}
use Rattle.rl_weave_log.specs.Turns.{Breaks, BreaksAfter, IsTurn, WentOn}
use Rattle.rl_weave_log.specs.WeaveLog.{Weaving, closed_text, comes_of, text_on}
use Rattle.rl_weave_log.proofs.Words.{set, weaving, weaving_is}

-- ---- a fault

none_closed : (number : ℕ) (g : Weaving) → closed_text number g [] ≡ []
unfolding closed_text
none_closed number g = refl

pub breaks_here : (st : Option State) (number : ℕ) (w : WeaveData) (m : ModelData) (a : List Standing) (x : ℕ)
    (text new : Option (List ℕ)) (counts : Counts) (input left : Option (List ℕ)) (reading : Reading)
    → Keeps input (input_of reading left) → (first_line reading.pending ≡ reading.pending) × (reading.ended ≡ false)
    → Keeps text new → Breaks number (set w m a st x text counts) st input left new
breaks_here None number w m a x text new counts input left reading kept none same = tt
breaks_here (Some d) number w m a x text new counts None left reading kept none same = tt
breaks_here (Some d) number w m a x text new counts (Some bytes) left reading kept none same =
    let g = weaving w (world m a d) x counts in
    cut_here (closed_text number g) bytes left text new reading (none_closed number g) kept none same

-- ---- a fault behind a line

-- what comes first of the lines that were taken
first_text : (number : ℕ) (g : Weaving) (bytes taken : List ℕ) (says : Result Line LineRefusal)
    → says ≡ said number (first_line bytes)
    → closed_text number g (whole_lines (first_line bytes ++ 10 ∷ taken))
    ≡ text_on (comes_of g says) (λ g. closed_text (number + 1) g (whole_lines taken))
unfolding closed_text
first_text number g bytes taken says is =
    ap (closed_text number g) (whole_first bytes taken)
    ∙ ap (λ s. text_on (comes_of g s) (λ g. closed_text (number + 1) g (whole_lines taken))) (sym is)

-- where this is what stands
breaks_at : (number : ℕ) (s : Setting) (g : Weaving) (input left last : Option (List ℕ)) (bytes : List ℕ) → IsAtWeaving s g
    → input ≡ Some bytes → Breaks number s s.device input left last → BreaksAfter number g bytes left s.text last
breaks_at number s g input left last bytes at is h =
    let h1 = subst (λ i. Breaks number s s.device i left last) is h in
    let h2 = subst (λ st. Breaks number s st (Some bytes) left last) at.world_is.device_is h1 in
    subst (λ g. BreaksAfter number g bytes left s.text last) (weaving_is s g at) h2

breaks_behind : (number : ℕ) (g : Weaving) (bytes : List ℕ) (says : Result Line LineRefusal) (old mid : Option (List ℕ))
    (s : Setting) (rest left last : Option (List ℕ)) → says ≡ said number (first_line bytes)
    → bytes ≡ first_line bytes ++ 10 ∷ after_line bytes → rest ≡ Some (after_line bytes) → Keeps old mid
    → WentOn (comes_of g says) mid s → Breaks (number + 1) s s.device rest left last → BreaksAfter number g bytes left old last
breaks_behind number g bytes says old mid s rest left last is whole after same r h =
    let more = λ (taken : List ℕ). λ (g : Weaving). closed_text (number + 1) g (whole_lines taken) in
    cut_behind (closed_text number g) (closed_text (number + 1) r.part.after) r.part.text bytes old mid s.text left last
    (λ taken. first_text number g bytes taken says is ∙ ap (λ c. text_on c (more taken)) r.is) whole same r.text
    (breaks_at (number + 1) s r.part.after rest left last (after_line bytes) r.left after h)

pub breaks_later : (st : Option State) (number : ℕ) (w v : WeaveData) (m n : ModelData) (a b : List Standing)
    (after : Option State) (x y : ℕ) (text mid new : Option (List ℕ)) (counts now : Counts) (input : Option (List ℕ))
    (g : Got) (line : List ℕ) (reading : Reading) (reached left last : Option (List ℕ))
    → g ≢ got.End → g ≢ got.TooLong → IfSome input (λ bytes. Hands bytes g reading reached) → line ≡ reading.line
    → Keeps text mid
    → IfSome st (λ d. IsTurn number (comes_of (weaving w (world m a d) x counts) (heard number g line))
    (weaving w (world m a d) x counts) mid (set v n b after y new now) Next)
    → reading.ended ≡ false
    → Breaks (number + 1) (set v n b after y new now) after (input_of reading reached) left last
    → Breaks number (set w m a st x text counts) st input left last
breaks_later None number w v m n a b after x y text mid new counts now input g line reading reached left last some short h is
    same t going f =
    tt
breaks_later (Some d) number w v m n a b after x y text mid new counts now None g line reading reached left last some short h is
    same t going f =
    tt
breaks_later (Some d) number w v m n a b after x y text mid new counts now (Some bytes) got.Line line reading reached left last
    some short h is same t going f =
    breaks_behind number (weaving w (world m a d) x counts) bytes (heard number got.Line line) text mid
    (set v n b after y new now) (input_of reading reached) left last
    (heard_said number bytes line got.Line reading reached some h is) (h.whole going) h.rest same t f
breaks_later (Some d) number w v m n a b after x y text mid new counts now (Some bytes) got.TooLong line reading reached left last
    some short h is same t going f =
    absurd (short refl)
breaks_later (Some d) number w v m n a b after x y text mid new counts now (Some bytes) got.End line reading reached left last
    some short h is same t going f =
    absurd (some refl)

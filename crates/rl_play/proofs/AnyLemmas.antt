-- Line by line over any device.
use Rattle.std.proofs.Common.{◌≡◌, ◌≢◌, ℕ, suc, ◌+◌, ◌<◌, true, false, if◌then◌else◌, List, [], ◌∷◌, ◌++◌, length, Option, Some, None, IfSome, Result, Ok, Err, refl, sym, ap, subst, ◌∙◌, append_assoc}
use Rattle.std.specs.Io.KnownBytes.{Appends, Keeps, append_known, prepend_known}
use Rattle.std.proofs.KnownBytes.{Appends-trans}
use Rattle.std.proofs.lemmas.Bool.{true≢false}
use Rattle.rl_access.specs.Call.{Scene}
use Rattle.rl_access.specs.HandsOver.{Told}
use Rattle.rl_report.specs.declared.lines.Got.{Got}
use Rattle.rl_report.specs.declared.lines.Got.TheVariants as got
use Rattle.rl_report.specs.Got.{Hands}
use Rattle.rl_report.specs.Lines.{first_line, after_line, lines_of, whole_lines}
use Rattle.rl_report.specs.Pieces.{AppendsFront}
use Rattle.rl_report.specs.Reading.{Reading, input_of}
use Rattle.rl_report.proofs.LineLemmas.{whole_first, whole_none}
use Rattle.rl_report.proofs.PieceLemmas.{front_after}
use Rattle.rl_script.specs.declared.line.Line.{Line}
use Rattle.rl_log.specs.declared.counts.Counts.{Counts}
use Rattle.rl_log.specs.declared.refusal.LineRefusal.{LineRefusal}
use Rattle.rl_log.specs.declared.status.Status.{Status}
use Rattle.rl_log.specs.declared.status.Status.TheVariants.{Passed, Found, Refused, SourceFault, SinkFault, Memory, Words}
use Rattle.rl_log.specs.Endings.{added, end_status}
use Rattle.rl_log.specs.Log.{said}
use Rattle.rl_log.specs.Recording.{no_counts, with_event, with_events}
use Rattle.rl_log.specs.Statuses.{is_complete}
use Rattle.rl_log.specs.Telling.{Tells}
use Rattle.rl_log.specs.Texts.{end_text}
use Rattle.rl_play.specs.AnyDevice.{Point, RanWhole, StopsAt, ClosesAt, Close, at_end, refused, broken, unwritten, cut, HasStatus}
use Rattle.rl_play.proofs.AskedLemmas.{lines_asked}
use Rattle.rl_play.specs.AnyDevice.{Happens, told_by, text_by, DoneLine, Plays, PlaysInput, PlaysCut, PlaysTaken, PlaysAll, PlaysOnAnyDevice, RunsTaken, counting}
use Rattle.rl_play.specs.Work.{asked, text_of}
use Rattle.rl_log.specs.Earlier.{KeepsEarlier}
use Rattle.rl_play.specs.Heard.{heard}
use Rattle.std.proofs.KnownBytes.{Appends-kept}
use Rattle.rl_log.proofs.KnownLemmas.{front_later, front_none, front_written, keeps_nothing, keeps_then_appends}
use Rattle.rl_log.proofs.TellingLemmas.{not_sink_fault}
use Rattle.rl_play.proofs.EndingLemmas.{incomplete}
use Rattle.rl_play.proofs.FaultLemmas.{same_status}
use Rattle.rl_play.proofs.PlayLemmas.{heard_said, hands_some, lines_more}

with_append : (counts : Counts) (told more : List Told)
    → with_events counts (told ++ more) ≡ with_events (with_events counts told) more
with_append counts [] more = refl
with_append counts (t ∷ told) more = with_append (with_event counts t.event) told more

-- ---- a line, and the others behind it

plays_behind : (number : ℕ) (before : Point) (flushed : Option (List ℕ)) (mid last : Point) (bytes : List ℕ)
    (s : Result Line LineRefusal) (status : Status) → 0 < length bytes → s ≡ said number (first_line bytes)
    → Keeps before.text flushed → RanWhole (asked before.scene.model s) (record before { text = flushed }) mid
    → Plays (number + 1) mid (lines_of (after_line bytes)) last status → Plays number before (lines_of bytes) last status
plays_behind number before flushed mid last bytes s status some is same r p =
    let first : DoneLine = record { work = r.work; told = r.told; scene = mid.scene } in
    let text = text_of r.work r.told in
    let more = text_by last.counts p.done p.close in
    let written : Appends before.text mid.text text = keeps_then_appends before.text flushed mid.text text same r.text in
    record {
      done = first ∷ p.done;
      close = p.close;
      happens = subst (λ l. Happens number before.scene l (first ∷ p.done) p.close last.scene) (sym (lines_more bytes some))
          (ap (asked before.scene.model) (sym is) ∙ r.is, r.does, p.happens);
      counted = p.counted ∙ ap (λ c. with_events c (told_by p.done p.close)) r.counted ∙ sym
          (with_append before.counts r.told (told_by p.done p.close));
      status_is = p.status_is;
      whole = λ c. Appends-trans before.text mid.text last.text text more written (p.whole c);
      at_fault = λ f. Appends-trans before.text mid.text last.text text more written (p.at_fault f);
      part = front_after before.text mid.text last.text text more written p.part;
    }

pub plays_next : (number : ℕ) (before : Point) (flushed : Option (List ℕ)) (mid last : Point) (input : Option (List ℕ)) (g : Got)
    (line : List ℕ) (reading : Reading) (left : Option (List ℕ)) (s : Result Line LineRefusal) (status : Status)
    → g ≢ got.End → g ≢ got.TooLong → IfSome input (λ bytes. Hands bytes g reading left) → line ≡ reading.line
    → s ≡ heard number g line → Keeps before.text flushed
    → RanWhole (asked before.scene.model s) (record before { text = flushed }) mid
    → PlaysInput (number + 1) mid (input_of reading left) last status → PlaysInput number before input last status
plays_next number before flushed mid last None g line reading left s status not_end not_long h is says same r p = tt
plays_next number before flushed mid last (Some bytes) got.Line line reading left s status not_end not_long h is says same r p =
    plays_behind number before flushed mid last bytes s status h.some
    (says ∙ heard_said number bytes line got.Line reading left not_end h is) same r
    (subst (λ i. PlaysInput (number + 1) mid i last status) h.rest p)
plays_next number before flushed mid last (Some bytes) got.TooLong line reading left s status not_end not_long h is says same r p =
    absurd (not_long refl)
plays_next number before flushed mid last (Some bytes) got.End line reading left s status not_end not_long h is says same r p =
    absurd (not_end refl)

-- ---- the end of a script

-- at a line
pub plays_stop : (number : ℕ) (before : Point) (flushed : Option (List ℕ)) (after : Point) (input : Option (List ℕ)) (g : Got)
    (line : List ℕ) (reading : Reading) (left : Option (List ℕ)) (s : Result Line LineRefusal) (status : Status)
    → g ≢ got.End → IfSome input (λ bytes. Hands bytes g reading left) → line ≡ reading.line → s ≡ heard number g line
    → Keeps before.text flushed → status ≢ SourceFault
    → StopsAt number (asked before.scene.model s) (record before { text = flushed }) after status
    → PlaysInput number before input after status
plays_stop number before flushed after None g line reading left s status not_end h is says same other t = tt
plays_stop number before flushed after (Some bytes) g line reading left s status not_end h is says same other t =
    let at : s ≡ said number (first_line bytes) = says ∙ heard_said number bytes line g reading left not_end h is in
    record {
      done = [];
      close = t.close;
      happens = subst (λ l. Happens number before.scene l [] t.close after.scene)
          (sym (lines_more bytes (hands_some bytes g reading left not_end h)))
          (subst (λ s. ClosesAt number (asked before.scene.model s) before.scene t.close after.scene) at t.closes);
      counted = t.counted;
      status_is = t.status_is;
      whole = λ c. keeps_then_appends before.text flushed after.text _ same (t.whole c);
      at_fault = λ f. absurd (other f);
      part = front_later before.text flushed after.text _ same t.part;
    }

-- behind its last line
pub plays_end : (number : ℕ) (p : Point) (flushed new : Option (List ℕ)) (input : Option (List ℕ)) (g : Got) (reading : Reading)
    (left : Option (List ℕ)) (result status : Status) → g ≡ got.End → result ≡ status
    → IfSome input (λ bytes. Hands bytes g reading left) → Keeps p.text flushed → result ≢ SourceFault
    → Tells result (end_status p.counts) flushed new (end_text p.counts)
    → PlaysInput number p input (record p { text = new }) status
plays_end number p flushed new None g reading left result status is same h kept other t = tt
plays_end number p flushed new (Some bytes) g reading left result status is same h kept other t =
    let none : (bytes ≡ []) × (input_of reading left ≡ Some []) = subst (λ g. Hands bytes g reading left) is h in
    subst (λ s. Plays number p (lines_of bytes) (record p { text = new }) s) same
    (subst (λ b. Plays number p (lines_of b) (record p { text = new }) result) (sym none.0) (record {
      done = [];
      close = at_end;
      happens = refl;
      counted = refl;
      status_is = λ c. (t.whole c).0;
      whole = λ c. keeps_then_appends p.text flushed new (end_text p.counts) kept (t.whole c).1;
      at_fault = λ f. absurd (other f);
      part = front_later p.text flushed new (end_text p.counts) kept t.part;
    }))

pub cut_here : (number : ℕ) (s : Scene) (lines : List (List ℕ)) → Happens number s lines [] cut s
cut_here number s [] = refl
cut_here number s (line ∷ lines) = refl

-- with nothing more
unfoldable pub plays_cut : (number : ℕ) (p : Point) (new : Option (List ℕ)) (input : Option (List ℕ)) (result status : Status)
    → result ≡ status → is_complete result ≡ false → Keeps p.text new → PlaysInput number p input (record p { text = new }) status
plays_cut number p new None result status same early kept = tt
plays_cut number p new (Some bytes) result status same early kept =
    subst (λ s. Plays number p (lines_of bytes) (record p { text = new }) s) same (record {
      done = [];
      close = cut;
      happens = cut_here number p.scene (lines_of bytes);
      counted = refl;
      status_is = early;
      whole = λ c. absurd (true≢false (sym c ∙ early));
      at_fault = λ f. keeps_nothing p.text new kept;
      part = front_none p.text new [] kept;
    })

-- ---- a source that failed

taken_pending : (number : ℕ) (p : Point) (new : Option (List ℕ)) (bytes pending : List ℕ) (left : Option (List ℕ)) → Keeps p.text new
    → Keeps (Some bytes) (prepend_known pending left) → first_line pending ≡ pending
    → PlaysTaken number p bytes left (record p { text = new })
unfolding plays_cut
taken_pending number p new bytes pending None kept held none = absurd held
taken_pending number p new bytes pending (Some others) kept held none = record {
  plays = plays_cut number p new (Some bytes) SourceFault SourceFault refl refl kept;
  runs = record {
    taken = pending;
    others = others;
    split = held;
    is_left = refl;
    every = sym (ap length (whole_none pending none));
    no_more = refl;
  };
}

-- in the midst of a line: no line was taken whole
pub taken_here : (number : ℕ) (p : Point) (new input left : Option (List ℕ)) (reading : Reading) → Keeps p.text new
    → Keeps input (input_of reading left) → first_line reading.pending ≡ reading.pending → reading.ended ≡ false
    → PlaysCut number p input left (record p { text = new })
taken_here number p new None left reading kept held none going = tt
taken_here number p new (Some bytes) left reading kept held none going =
    taken_pending number p new bytes reading.pending left kept
    (subst (λ b. Keeps (Some bytes) (if b then Some reading.pending else prepend_known reading.pending left)) going held) none

taken_behind : (number : ℕ) (before : Point) (flushed : Option (List ℕ)) (mid last : Point) (bytes : List ℕ)
    (s : Result Line LineRefusal) (left : Option (List ℕ)) → 0 < length bytes → s ≡ said number (first_line bytes)
    → bytes ≡ first_line bytes ++ 10 ∷ after_line bytes → Keeps before.text flushed
    → RanWhole (asked before.scene.model s) (record before { text = flushed }) mid
    → PlaysTaken (number + 1) mid (after_line bytes) left last → PlaysTaken number before bytes left last
unfolding plays_behind
taken_behind number before flushed mid last bytes s left some is whole same r p =
    let line = first_line bytes in
    let t = p.runs in
    record {
      plays = plays_behind number before flushed mid last bytes s SourceFault some is same r p.plays;
      runs = record {
        taken = line ++ 10 ∷ t.taken;
        others = t.others;
        split = append_assoc line (10 ∷ t.taken) t.others ∙ ap (λ l. line ++ 10 ∷ l) t.split ∙ sym whole;
        is_left = t.is_left;
        every = ap suc t.every ∙ sym (ap length (whole_first bytes t.taken));
        no_more = t.no_more;
      };
    }

-- behind a line that was taken whole
pub taken_later : (number : ℕ) (before : Point) (flushed : Option (List ℕ)) (mid last : Point) (input : Option (List ℕ)) (g : Got)
    (line : List ℕ) (reading : Reading) (reached left : Option (List ℕ)) (s : Result Line LineRefusal)
    → g ≢ got.End → g ≢ got.TooLong → IfSome input (λ bytes. Hands bytes g reading reached) → line ≡ reading.line
    → s ≡ heard number g line → Keeps before.text flushed
    → RanWhole (asked before.scene.model s) (record before { text = flushed }) mid → reading.ended ≡ false
    → PlaysCut (number + 1) mid (input_of reading reached) left last → PlaysCut number before input left last
taken_later number before flushed mid last None g line reading reached left s not_end not_long h is says same r going p = tt
taken_later number before flushed mid last (Some bytes) got.Line line reading reached left s not_end not_long h is says same r going p =
    taken_behind number before flushed mid last bytes s left h.some
    (says ∙ heard_said number bytes line got.Line reading reached not_end h is) (h.whole going) same r
    (subst (λ i. PlaysCut (number + 1) mid i left last) h.rest p)
taken_later number before flushed mid last (Some bytes) got.TooLong line reading reached left s not_end not_long h is says same r going p =
    absurd (not_long refl)
taken_later number before flushed mid last (Some bytes) got.End line reading reached left s not_end not_long h is says same r going p =
    absurd (not_end refl)

-- ---- what is written in the end

-- the sink may still fail when what was kept back is written
pub status_on : (counts : Counts) (close : Close) (status result : Status) → (result ≢ SinkFault → result ≡ status)
    → HasStatus counts close status → HasStatus counts close result
status_on counts close status result same h = by close h
  where
    is : is_complete result ≡ true → result ≡ status
    is c = same (not_sink_fault result c)

    early : is_complete status ≡ false → is_complete result ≡ false
    early e = incomplete (is_complete result) (λ c. true≢false (sym c ∙ ap is_complete (is c) ∙ e))

    by : (close : Close) → HasStatus counts close status → HasStatus counts close result
    by at_end h = λ c. is c ∙ h (sym (ap is_complete (is c)) ∙ c)
    by (refused n why) h = λ c. is c ∙ h (sym (ap is_complete (is c)) ∙ c)
    by (broken work told) h = early h
    by (unwritten work told) h = early h
    by cut h = early h

unfoldable pub written_on : (number : ℕ) (before : Point) (lines : List (List ℕ)) (told : Point) (new : Option (List ℕ)) (kept : List ℕ)
    (status result : Status) → (result ≢ SinkFault → result ≡ status) → KeepsEarlier before.text new
    → Keeps told.text (append_known new kept) → (is_complete result ≡ true → Keeps told.text new)
    → (result ≡ SourceFault → Keeps told.text new)
    → Plays number before lines told status → Plays number before lines (record told { text = new }) result
written_on number before lines told new kept status result same keeps held whole fault p =
    let text = text_by told.counts p.done p.close in
    record {
      done = p.done;
      close = p.close;
      happens = p.happens;
      counted = p.counted;
      status_is = status_on told.counts p.close status result same p.status_is;
      whole = λ c. let is : result ≡ status = same (not_sink_fault result c) in
          Appends-kept before.text told.text new text (p.whole (sym (ap is_complete is) ∙ c)) (whole c);
      at_fault = λ f. Appends-kept before.text told.text new text (p.at_fault (same_status status result same f)) (fault f);
      part = front_written before.text told.text new kept text keeps held p.part;
    }

unfoldable pub plays_written : (number : ℕ) (before : Point) (input : Option (List ℕ)) (told : Point) (new : Option (List ℕ)) (kept : List ℕ)
    (status result : Status) → (result ≢ SinkFault → result ≡ status) → KeepsEarlier before.text new
    → Keeps told.text (append_known new kept) → (is_complete result ≡ true → Keeps told.text new)
    → (result ≡ SourceFault → Keeps told.text new)
    → PlaysInput number before input told status → PlaysInput number before input (record told { text = new }) result
plays_written number before None told new kept status result same keeps held whole fault p = tt
plays_written number before (Some bytes) told new kept status result same keeps held whole fault p =
    written_on number before (lines_of bytes) told new kept status result same keeps held whole fault p

-- the source failed, or it didn't
by_fault : (status : Status) (P : Type 0) → (status ≡ SourceFault → P) → (status ≢ SourceFault → P) → P
by_fault SourceFault P failed other = failed refl
by_fault Passed P failed other = other (λ e. absurd (cc))
by_fault Found P failed other = other (λ e. absurd (cc))
by_fault Refused P failed other = other (λ e. absurd (cc))
by_fault Memory P failed other = other (λ e. absurd (cc))
by_fault SinkFault P failed other = other (λ e. absurd (cc))
by_fault Words P failed other = other (λ e. absurd (cc))

module _ (s n : Scene) (old new : Option (List ℕ)) (counts own now : Counts) (risen : now ≡ added counts own) where
  abbrev pub start : Point
  start = record { scene = s; text = old; counts = no_counts }

  abbrev pub stop : Point
  stop = record { scene = n; text = new; counts = own }

  abbrev pub All : (input left : Option (List ℕ)) → Status → Type 0
  All input left status = PlaysOnAnyDevice (record { scene = s; text = old; counts = counts }) input left
      (record { scene = n; text = new; counts = now }) status

  all_of : (bytes : List ℕ) (left : Option (List ℕ)) (status : Status) (p : Plays 1 start (lines_of bytes) stop status)
      → (status ≡ SourceFault → RunsTaken whole_lines bytes left p.done p.close) → All (Some bytes) left status
  all_of bytes left status p fault = record {
    own = own;
    risen = risen;
    plays = p;
    asked = lines_asked 1 s (lines_of bytes) p.done p.close n p.happens;
    at_fault = fault;
  }

  pub plays_all : (input left : Option (List ℕ)) (status : Status) → PlaysInput 1 start input stop status
      → (status ≡ SourceFault → PlaysCut 1 start input left stop) → All input left status
  plays_all None left status p t = tt
  plays_all (Some bytes) left status p t =
      by_fault status (All (Some bytes) left status)
      (λ is. let c = t is in subst (All (Some bytes) left) (sym is) (all_of bytes left SourceFault c.plays (λ same. c.runs)))
      (λ other. all_of bytes left status p (λ is. absurd (other is)))

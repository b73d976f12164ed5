-- A script, line by line, as its events were drawn.
use Rattle.std.proofs.Common.{◌≡◌, ◌≢◌, ℕ, suc, ◌+◌, ◌<◌, ◌≤◌, false, if◌then◌else◌, List, [], ◌∷◌, ◌++◌, length, Option, Some, None, IfSome, Result, refl, sym, ap, subst, ◌∙◌, append_assoc}
use Rattle.std.specs.Io.KnownBytes.{Appends, Keeps, prepend_known}
use Rattle.std.proofs.KnownBytes.{Appends-trans}
use Rattle.rl_access.specs.HandsOver.{Told, TakesAll}
use Rattle.rl_log.specs.declared.counts.Counts.{Counts}
use Rattle.rl_log.specs.declared.refusal.LineRefusal.{LineRefusal}
use Rattle.rl_log.specs.declared.status.Status.{Status}
use Rattle.rl_log.specs.declared.status.Status.TheVariants.{SourceFault}
use Rattle.rl_log.specs.Causes.{IsCaused}
use Rattle.rl_log.specs.Endings.{end_status, IsCounted}
use Rattle.rl_log.specs.Log.{said}
use Rattle.rl_log.specs.Recording.{with_event, with_events}
use Rattle.rl_log.specs.Statuses.{is_complete}
use Rattle.rl_log.specs.Telling.{Tells}
use Rattle.rl_log.specs.Texts.{end_text}
use Rattle.rl_log.proofs.KnownLemmas.{front_later, keeps_then_appends}
use Rattle.rl_play.specs.AnyDevice.{Close, ClosesAt, DoneLine, Happens, Point, RunsTaken, at_end, cut, text_by, told_by}
use Rattle.rl_play.specs.Heard.{heard}
use Rattle.rl_play.specs.Leaves.{CutsLine, NotByCounts, stop_of}
use Rattle.rl_play.specs.Work.{asked, text_of}
use Rattle.rl_play.specs.declared.playing.TheConstants.{MOST_LINES}
use Rattle.rl_play.specs.declared.playing.Turn.{Turn}
use Rattle.rl_play.specs.declared.playing.Turn.TheVariants.{Next, Stop}
use Rattle.rl_play.proofs.AnyLemmas.{plays_cut}
use Rattle.rl_play.proofs.FaultLemmas.{no_source}
use Rattle.rl_play.proofs.LeavesLemmas.{stop_is_no_next, stopped}
use Rattle.rl_play.proofs.PlayLemmas.{heard_said, hands_some, lines_more}
use Rattle.rl_play.proofs.TurnLemmas.{line_ended, line_taken, line_untaken}
use Rattle.rl_report.specs.Got.{Hands}
use Rattle.rl_report.specs.Lines.{first_line, after_line, lines_of, whole_lines}
use Rattle.rl_report.specs.Reading.{Reading, input_of}
use Rattle.rl_report.specs.declared.lines.Got.{Got}
use Rattle.rl_report.specs.declared.lines.Got.TheVariants as got
use Rattle.rl_report.specs.declared.sink.Sink.{Ghosts as Sink}
use Rattle.rl_report.proofs.LineLemmas.{whole_first, whole_none}
use Rattle.rl_report.proofs.PieceLemmas.{front_after}
use Rattle.rl_script.specs.declared.line.Line.{Line}
use Rattle.rl_vcd.specs.declared.dump.Dump.{Dump}
use Rattle.rl_vcd.specs.Lines.{DrawsInput, DrawsLines, DrawsStop, DrawsTurn, DrawsWhole}
use Rattle.rl_vcd.specs.Noted.{Notes}
use Rattle.rl_vcd.specs.Script.{DrawsLine}

with_append : (counts : Counts) (told more : List Told)
    → with_events counts (told ++ more) ≡ with_events (with_events counts told) more
with_append counts [] more = refl
with_append counts (t ∷ told) more = with_append (with_event counts t.event) told more

-- ---- the lines that were taken whole of a source that failed

taken_more : (bytes : List ℕ) (left : Option (List ℕ)) (line : DoneLine) (done : List DoneLine) (close : Close)
    → bytes ≡ first_line bytes ++ 10 ∷ after_line bytes → RunsTaken whole_lines (after_line bytes) left done close
    → RunsTaken whole_lines bytes left (line ∷ done) close
taken_more bytes left line done close whole r = record {
  taken = first_line bytes ++ 10 ∷ r.taken;
  others = r.others;
  split = append_assoc (first_line bytes) (10 ∷ r.taken) r.others ∙ ap (λ l. first_line bytes ++ 10 ∷ l) r.split ∙ sym whole;
  is_left = r.is_left;
  every = ap suc r.every ∙ sym (ap length (whole_first bytes r.taken));
  no_more = r.no_more;
}

taken_none : (bytes pending : List ℕ) (left : Option (List ℕ)) → Keeps (Some bytes) (prepend_known pending left)
    → first_line pending ≡ pending → RunsTaken whole_lines bytes left [] cut
taken_none bytes pending None held none = absurd held
taken_none bytes pending (Some others) held none = record {
  taken = pending;
  others = others;
  split = held;
  is_left = refl;
  every = sym (ap length (whole_none pending none));
  no_more = refl;
}

-- the source failed in the midst of a line
cut_taken : (input left : Option (List ℕ)) (old reading : Reading) (before : Option (List ℕ)) (is_out : Type 0) → input ≡ input_of old before
    → CutsLine old before reading left is_out → IfSome input (λ bytes. RunsTaken whole_lines bytes left [] cut)
cut_taken None left old reading before is_out is c = tt
cut_taken (Some bytes) left old reading before is_out is c =
    let held : Keeps (Some bytes) (input_of reading left) = subst (λ i. Keeps i (input_of reading left)) (sym is) c.none_lost in
    taken_none bytes reading.pending left
    (subst (λ b. Keeps (Some bytes) (if b then Some reading.pending else prepend_known reading.pending left)) c.still held) c.none_whole

module _ {K : Type 0} (sink : Sink K) where
  -- events, and then others
  drawn_then : (events more : List Told) (old mid new : Dump K) → TakesAll (Notes sink) old events mid
      → TakesAll (Notes sink) mid more new → TakesAll (Notes sink) old (events ++ more) new
  drawn_then [] more old mid new same rest = subst (λ d. TakesAll (Notes sink) d more new) same rest
  drawn_then (t ∷ events) more old mid new (next, first, others) rest =
      (next, first, drawn_then events more next mid new others rest)

  -- ---- a line, and the others behind it

  lines_behind : (number : ℕ) (before : Point) (flushed : Option (List ℕ)) (mid last : Point) (bytes : List ℕ)
      (left : Option (List ℕ)) (s : Result Line LineRefusal) (status : Status) (old between new : Dump K) → 0 < length bytes
      → (status ≡ SourceFault → bytes ≡ first_line bytes ++ 10 ∷ after_line bytes)
      → s ≡ said number (first_line bytes) → Keeps before.text flushed
      → DrawsWhole sink (asked before.scene.model s) (record before { text = flushed }) mid old between
      → DrawsLines sink (number + 1) mid (after_line bytes) left last status between new
      → DrawsLines sink number before bytes left last status old new
  lines_behind number before flushed mid last bytes left s status old between new some whole is same d rest =
      let r = d.ran in
      let p = rest.plays in
      let first : DoneLine = record { work = r.work; told = r.told; scene = mid.scene } in
      let text = text_of r.work r.told in
      let more = text_by last.counts p.done p.close in
      let written : Appends before.text mid.text text = keeps_then_appends before.text flushed mid.text text same r.text in
      record {
        plays = record {
          done = first ∷ p.done;
          close = p.close;
          happens = subst (λ l. Happens number before.scene l (first ∷ p.done) p.close last.scene) (sym (lines_more bytes some))
              (ap (asked before.scene.model) (sym is) ∙ r.is, r.does, p.happens);
          counted = p.counted ∙ ap (λ c. with_events c (told_by p.done p.close)) r.counted ∙ sym
              (with_append before.counts r.told (told_by p.done p.close));
          status_is = p.status_is;
          whole = λ c. Appends-trans before.text mid.text last.text text more written (p.whole c);
          at_fault = λ f. Appends-trans before.text mid.text last.text text more written (p.at_fault f);
          part = front_after before.text mid.text last.text text more written p.part;
        };
        drawn = drawn_then r.told (told_by p.done p.close) old between new d.drawn rest.drawn;
        at_fault = λ f. taken_more bytes left first p.done p.close (whole f) (rest.at_fault f);
      }

  draws_next : (number : ℕ) (before : Point) (flushed : Option (List ℕ)) (mid last : Point) (input : Option (List ℕ)) (g : Got)
      (line : List ℕ) (reading : Reading) (reached left : Option (List ℕ)) (s : Result Line LineRefusal) (status : Status)
      (old between new : Dump K) → g ≢ got.End → g ≢ got.TooLong → IfSome input (λ bytes. Hands bytes g reading reached)
      → line ≡ reading.line → s ≡ heard number g line → Keeps before.text flushed
      → DrawsWhole sink (asked before.scene.model s) (record before { text = flushed }) mid old between
      → (status ≡ SourceFault → reading.ended ≡ false)
      → DrawsInput sink (number + 1) mid (input_of reading reached) left last status between new
      → DrawsInput sink number before input left last status old new
  draws_next number before flushed mid last None g line reading reached left s status old between new not_end not_long h is says same d going p = tt
  draws_next number before flushed mid last (Some bytes) got.Line line reading reached left s status old between new not_end not_long h is says same d going p =
      lines_behind number before flushed mid last bytes left s status old between new h.some (λ f. h.whole (going f))
      (says ∙ heard_said number bytes line got.Line reading reached not_end h is) same d
      (subst (λ i. DrawsInput sink (number + 1) mid i left last status between new) h.rest p)
  draws_next number before flushed mid last (Some bytes) got.TooLong line reading reached left s status old between new not_end not_long h is says same d going p =
      absurd (not_long refl)
  draws_next number before flushed mid last (Some bytes) got.End line reading reached left s status old between new not_end not_long h is says same d going p =
      absurd (not_end refl)

  -- ---- the end of a script

  -- at a line
  draws_stop : (number : ℕ) (before : Point) (flushed : Option (List ℕ)) (after : Point) (input : Option (List ℕ)) (g : Got)
      (line : List ℕ) (reading : Reading) (left : Option (List ℕ)) (s : Result Line LineRefusal) (status : Status)
      (old new : Dump K) → g ≢ got.End → IfSome input (λ bytes. Hands bytes g reading left) → line ≡ reading.line
      → s ≡ heard number g line → Keeps before.text flushed → status ≢ SourceFault
      → DrawsStop sink number (asked before.scene.model s) (record before { text = flushed }) after status old new
      → DrawsInput sink number before input left after status old new
  draws_stop number before flushed after None g line reading left s status old new not_end h is says same other d = tt
  draws_stop number before flushed after (Some bytes) g line reading left s status old new not_end h is says same other d =
      let t = d.stops in
      let at : s ≡ said number (first_line bytes) = says ∙ heard_said number bytes line g reading left not_end h is in
      record {
        plays = record {
          done = [];
          close = t.close;
          happens = subst (λ l. Happens number before.scene l [] t.close after.scene)
              (sym (lines_more bytes (hands_some bytes g reading left not_end h)))
              (subst (λ s. ClosesAt number (asked before.scene.model s) before.scene t.close after.scene) at t.closes);
          counted = t.counted;
          status_is = t.status_is;
          whole = λ c. keeps_then_appends before.text flushed after.text _ same (t.whole c);
          at_fault = λ f. absurd (other f);
          part = front_later before.text flushed after.text _ same t.part;
        };
        drawn = d.drawn;
        at_fault = λ f. absurd (other f);
      }

  -- behind its last line
  draws_end : (number : ℕ) (p : Point) (flushed text : Option (List ℕ)) (input : Option (List ℕ)) (g : Got) (reading : Reading)
      (left : Option (List ℕ)) (result status : Status) (d : Dump K) → g ≡ got.End → result ≡ status
      → IfSome input (λ bytes. Hands bytes g reading left) → Keeps p.text flushed → result ≢ SourceFault
      → Tells result (end_status p.counts) flushed text (end_text p.counts)
      → DrawsInput sink number p input left (record p { text = text }) status d d
  draws_end number p flushed text None g reading left result status d is same h kept other t = tt
  draws_end number p flushed text (Some bytes) g reading left result status d is same h kept other t =
      let none : (bytes ≡ []) × (input_of reading left ≡ Some []) = subst (λ g. Hands bytes g reading left) is h in
      subst (λ s. DrawsLines sink number p bytes left (record p { text = text }) s d d) same
      (subst (λ b. DrawsLines sink number p b left (record p { text = text }) result d d) (sym none.0) (record {
        plays = record {
          done = [];
          close = at_end;
          happens = refl;
          counted = refl;
          status_is = λ c. (t.whole c).0;
          whole = λ c. keeps_then_appends p.text flushed text (end_text p.counts) kept (t.whole c).1;
          at_fault = λ f. absurd (other f);
          part = front_later p.text flushed text (end_text p.counts) kept t.part;
        };
        drawn = refl;
        at_fault = λ f. absurd (other f);
      }))

  -- with nothing more
  pub draws_cut : (number : ℕ) (p : Point) (text : Option (List ℕ)) (input left : Option (List ℕ)) (result status : Status) (d : Dump K)
      → result ≡ status → is_complete result ≡ false → Keeps p.text text
      → (result ≡ SourceFault → IfSome input (λ bytes. RunsTaken whole_lines bytes left [] cut))
      → DrawsInput sink number p input left (record p { text = text }) status d d
  unfolding plays_cut
  draws_cut number p text None left result status d same early kept taken = tt
  draws_cut number p text (Some bytes) left result status d same early kept taken =
      subst (λ s. DrawsLines sink number p bytes left (record p { text = text }) s d d) same (record {
        plays = plays_cut number p text (Some bytes) result result refl early kept;
        drawn = refl;
        at_fault = taken;
      })

  -- ---- the next line

  -- no line was taken: the source or the log failed
  pub line_cut : (number : ℕ) (p : Point) (text : Option (List ℕ)) (old reading : Reading) (before left : Option (List ℕ))
      (is_out : Type 0) (status : Status) (d : Dump K) → is_complete status ≡ false → Keeps p.text text
      → (status ≡ SourceFault → CutsLine old before reading left is_out)
      → DrawsLine sink number p (input_of old before) (record p { text = text }) (input_of reading left) left reading.ended d d (Stop status)
  line_cut number p text old reading before left is_out status d early kept cuts = record {
    plays = line_untaken number p text old reading before left is_out status early kept cuts;
    draws_next = λ is. absurd (stop_is_no_next status is);
    draws_stop = λ last is. draws_cut number p text (input_of old before) left status last d (stopped status last is) early kept
        (λ f. cut_taken (input_of old before) left old reading before is_out refl (cuts f));
  }

  -- there was no further line
  pub line_over : (number : ℕ) (p : Point) (flushed text : Option (List ℕ)) (input : Option (List ℕ)) (g : Got) (reading : Reading)
      (left : Option (List ℕ)) (old now : ℕ) (status : Status) (d : Dump K) → g ≡ got.End
      → IfSome input (λ bytes. Hands bytes g reading left) → Keeps p.text flushed → IsCaused status 0 0 old now
      → Tells status (end_status p.counts) flushed text (end_text p.counts) → IsCounted status p.counts
      → DrawsLine sink number p input (record p { text = text }) (input_of reading left) left reading.ended d d (Stop status)
  line_over number p flushed text input g reading left old now status d end handed kept cause tells counted = record {
    plays = line_ended number p flushed text input g reading left old now status end handed kept cause tells counted;
    draws_next = λ is. absurd (stop_is_no_next status is);
    draws_stop = λ last is. draws_end number p flushed text input g reading left status last d end (stopped status last is)
        handed kept (no_source status old now cause) tells;
  }

  -- a line was taken, and was run or ended the script
  pub line_drawn : (number : ℕ) (before : Point) (flushed : Option (List ℕ)) (after : Point) (input : Option (List ℕ)) (g : Got)
      (line : List ℕ) (reading : Reading) (left : Option (List ℕ)) (a b : ℕ) (turn : Turn) (old new : Dump K) → g ≢ got.End
      → (turn ≡ Next → g ≢ got.TooLong) → IfSome input (λ bytes. Hands bytes g reading left) → line ≡ reading.line
      → Keeps before.text flushed
      → DrawsTurn sink number (asked before.scene.model (heard number g line)) (record before { text = flushed }) after old new turn
      → IfSome (stop_of turn) (λ s. IsCaused s 0 0 a b) → NotByCounts (stop_of turn) → (turn ≡ Next → number ≤ MOST_LINES)
      → DrawsLine sink number before input after (input_of reading left) left reading.ended old new turn
  line_drawn number before flushed after input g line reading left a b Next old new not_end short handed is kept d cause counted last =
      record {
        plays = line_taken number before flushed after input g line reading left a b Next not_end short handed is kept
            d.ran cause counted last;
        draws_next = λ e rest final status dump going p. draws_next number before flushed after final input g line reading left rest
            (heard number g line) status old new dump not_end (short e) handed is refl kept d going p;
        draws_stop = λ status e. absurd (stop_is_no_next status (sym e));
      }
  line_drawn number before flushed after input g line reading left a b (Stop status) old new not_end short handed is kept d cause counted last =
      record {
        plays = line_taken number before flushed after input g line reading left a b (Stop status) not_end short handed is kept
            d.stops cause counted last;
        draws_next = λ e. absurd (stop_is_no_next status e);
        draws_stop = λ final e. subst (λ s. DrawsInput sink number before input left after s old new) (stopped status final e)
            (draws_stop number before flushed after input g line reading left (heard number g line) status old new not_end handed
            is refl kept (no_source status a b cause) d);
      }

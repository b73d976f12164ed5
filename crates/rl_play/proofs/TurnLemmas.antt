-- The next line of a script as it was read and run, put together from what its calls tell.
use Rattle.std.proofs.Common.{◌≡◌, ◌≢◌, ℕ, ◌≤◌, false, List, Option, IfSome, refl, sym, subst}
use Rattle.std.specs.Io.KnownBytes.{Keeps}
use Rattle.rl_report.specs.declared.lines.Got.{Got}
use Rattle.rl_report.specs.declared.lines.Got.TheVariants as got
use Rattle.rl_report.specs.Got.{Hands}
use Rattle.rl_report.specs.Reading.{Reading, input_of}
use Rattle.rl_log.specs.declared.status.Status.{Status}
use Rattle.rl_log.specs.declared.status.Status.TheVariants.{SourceFault}
use Rattle.rl_log.specs.Causes.{IsCaused}
use Rattle.rl_log.specs.Endings.{end_status, IsCounted}
use Rattle.rl_log.specs.Statuses.{is_complete}
use Rattle.rl_log.specs.Telling.{Tells}
use Rattle.rl_log.specs.Texts.{end_text}
use Rattle.rl_play.specs.declared.playing.TheConstants.{MOST_LINES}
use Rattle.rl_play.specs.declared.playing.Turn.{Turn}
use Rattle.rl_play.specs.declared.playing.Turn.TheVariants.{Next, Stop}
use Rattle.rl_play.specs.AnyDevice.{Point, PlaysInput, Turns, moment_at}
use Rattle.rl_play.specs.Heard.{heard}
use Rattle.rl_play.specs.Leaves.{CutsLine, NotByCounts, stop_of}
use Rattle.rl_play.specs.Played.{Ends, PlaysLine, to_come}
use Rattle.rl_play.specs.Work.{asked}
use Rattle.rl_play.proofs.AnyLemmas.{plays_cut, plays_end, plays_next, plays_stop, taken_here, taken_later}
use Rattle.rl_play.proofs.CutLemmas.{next_here, next_later}
use Rattle.rl_play.proofs.DoneLemmas.{does_none, does_next, does_stop}
use Rattle.rl_play.proofs.EndingLemmas.{counted_none}
use Rattle.rl_play.proofs.FaultLemmas.{breaks_here, breaks_later, no_source}
use Rattle.rl_play.proofs.Judging.{judged_turn}
use Rattle.rl_play.proofs.LeavesLemmas.{counted_turn, stop_is_no_next, stopped}
use Rattle.rl_play.proofs.PlayLemmas.{early_stops, ends_at_end, next_passes, stop_ends}

-- no line was taken: the source or the sink failed
pub line_untaken : (number : ℕ) (p : Point) (new : Option (List ℕ)) (old reading : Reading) (before left : Option (List ℕ))
    (is_out : Type 0) (status : Status) → is_complete status ≡ false → Keeps p.text new
    → (status ≡ SourceFault → CutsLine old before reading left is_out)
    → PlaysLine number p (input_of old before) (record p { text = new }) (input_of reading left) left reading.ended (Stop status)
line_untaken number p new old reading before left is_out status early kept cuts =
    let s = p.scene in
    let input = input_of old before in
    record {
      plays_next = λ is. absurd (stop_is_no_next status is);
      plays_stop = λ last is. plays_cut number p new input status last (stopped status last is) early kept;
      taken = λ is. let cut = cuts (stopped status SourceFault is) in
          taken_here number p new input left reading kept cut.none_lost cut.none_whole cut.still;
      later_taken = λ is. absurd (stop_is_no_next status is);
      next = λ is. absurd (stop_is_no_next status is);
      stop = λ last is. early_stops (to_come number (moment_at p) input) status last p.text new p.counts
          s.model s.adapters s.device (stopped status last is) early kept;
      at_fault = λ is. let cut = cuts (stopped status SourceFault is) in
          breaks_here number s.model s.adapters s.device input left p.text new reading cut.none_lost (cut.none_whole, cut.still) kept;
      later_fault = λ is. absurd (stop_is_no_next status is);
      cut = λ is. let cut = cuts (stopped status SourceFault is) in next_here input left reading cut.none_lost cut.none_whole cut.still;
      later_cut = λ is. absurd (stop_is_no_next status is);
      done_next = λ is. absurd (stop_is_no_next status is);
      done_stop = λ last is. does_none number s.model s.adapters s.device input p.counts;
      last = λ is. absurd (stop_is_no_next status is);
      counted = counted_none status p.counts early;
    }

-- there was no further line
pub line_ended : (number : ℕ) (p : Point) (flushed new : Option (List ℕ)) (input : Option (List ℕ)) (g : Got) (reading : Reading)
    (left : Option (List ℕ)) (old now : ℕ) (status : Status) → g ≡ got.End → IfSome input (λ bytes. Hands bytes g reading left)
    → Keeps p.text flushed → IsCaused status 0 0 old now → Tells status (end_status p.counts) flushed new (end_text p.counts)
    → IsCounted status p.counts
    → PlaysLine number p input (record p { text = new }) (input_of reading left) left reading.ended (Stop status)
line_ended number p flushed new input g reading left old now status end handed kept cause tells counted =
    let s = p.scene in
    record {
      plays_next = λ is. absurd (stop_is_no_next status is);
      plays_stop = λ last is. plays_end number p flushed new input g reading left status last end (stopped status last is)
          handed kept (no_source status old now cause) tells;
      taken = λ is. absurd (no_source status old now cause (stopped status SourceFault is));
      later_taken = λ is. absurd (stop_is_no_next status is);
      next = λ is. absurd (stop_is_no_next status is);
      stop = λ last is. ends_at_end number p.counts s.model s.adapters s.device input g reading left status last
          p.text flushed new end (stopped status last is) handed kept tells;
      at_fault = λ is. absurd (no_source status old now cause (stopped status SourceFault is));
      later_fault = λ is. absurd (stop_is_no_next status is);
      cut = λ is. absurd (no_source status old now cause (stopped status SourceFault is));
      later_cut = λ is. absurd (stop_is_no_next status is);
      done_next = λ is. absurd (stop_is_no_next status is);
      done_stop = λ last is. does_none number s.model s.adapters s.device input p.counts;
      last = λ is. absurd (stop_is_no_next status is);
      counted = counted;
    }

-- a line was taken, and was run or ended the script
pub line_taken : (number : ℕ) (before : Point) (flushed : Option (List ℕ)) (after : Point) (input : Option (List ℕ)) (g : Got)
    (line : List ℕ) (reading : Reading) (left : Option (List ℕ)) (old now : ℕ) (turn : Turn) → g ≢ got.End
    → (turn ≡ Next → g ≢ got.TooLong) → IfSome input (λ bytes. Hands bytes g reading left) → line ≡ reading.line
    → Keeps before.text flushed
    → Turns number (asked before.scene.model (heard number g line)) (record before { text = flushed }) after turn
    → IfSome (stop_of turn) (λ s. IsCaused s 0 0 old now) → NotByCounts (stop_of turn) → (turn ≡ Next → number ≤ MOST_LINES)
    → PlaysLine number before input after (input_of reading left) left reading.ended turn
line_taken number before flushed after input g line reading left old now Next not_end short handed is kept ran cause counted last =
    let s = before.scene in
    let n = after.scene in
    let says = heard number g line in
    let judged = judged_turn number says s.model n.model s.adapters n.adapters s.account n.account s.device n.device
    flushed after.text before.counts after.counts Next ran in
    record {
      plays_next = λ e final status p. plays_next number before flushed after final input g line reading left says status
          not_end (short e) handed is refl kept ran p;
      plays_stop = λ status e. absurd (stop_is_no_next status (sym e));
      taken = λ e. absurd (stop_is_no_next SourceFault (sym e));
      later_taken = λ e going rest final p. taken_later number before flushed after final input g line reading left rest says
          not_end (short e) handed is refl kept ran going p;
      next = λ e. next_passes number before.counts after.counts s.model n.model s.adapters n.adapters s.device n.device
          input g line reading left says before.text flushed after.text not_end (short e) handed is refl kept judged;
      stop = λ status e. absurd (stop_is_no_next status (sym e));
      at_fault = λ e. absurd (stop_is_no_next SourceFault (sym e));
      later_fault = λ e going rest final f. breaks_later number before.counts after.counts s.model n.model s.adapters n.adapters
          s.device n.device input g line reading left says before.text flushed after.text rest final
          not_end (short e) handed is refl kept judged going f;
      cut = λ e. absurd (stop_is_no_next SourceFault (sym e));
      later_cut = λ e going next others k. next_later input g reading left not_end (short e) handed going next others k;
      done_next = λ e total final standings state f. does_next number before.counts after.counts total s.model n.model final
          s.adapters n.adapters standings s.device n.device state input g line reading left says flushed after.text
          not_end (short e) handed is refl judged f;
      done_stop = λ status e. absurd (stop_is_no_next status (sym e));
      last = last;
      counted = tt;
    }
line_taken number before flushed after input g line reading left old now (Stop status) not_end short handed is kept stops cause counted last =
    let s = before.scene in
    let n = after.scene in
    let says = heard number g line in
    let judged = judged_turn number says s.model n.model s.adapters n.adapters s.account n.account s.device n.device
    flushed after.text before.counts after.counts (Stop status) stops in
    let played = plays_stop number before flushed after input g line reading left says status not_end handed is refl kept
    (no_source status old now cause) stops in
    let ends = stop_ends number before.counts after.counts s.model n.model s.adapters n.adapters s.device n.device
    input g line reading left says status before.text flushed after.text not_end handed is refl kept judged in
    record {
      plays_next = λ e. absurd (stop_is_no_next status e);
      plays_stop = λ last e. subst (PlaysInput number before input after) (stopped status last e) played;
      taken = λ e. absurd (no_source status old now cause (stopped status SourceFault e));
      later_taken = λ e. absurd (stop_is_no_next status e);
      next = λ e. absurd (stop_is_no_next status e);
      stop = λ last e. subst (Ends number (moment_at before) input (moment_at after)) (stopped status last e) ends;
      at_fault = λ e. absurd (no_source status old now cause (stopped status SourceFault e));
      later_fault = λ e. absurd (stop_is_no_next status e);
      cut = λ e. absurd (no_source status old now cause (stopped status SourceFault e));
      later_cut = λ e. absurd (stop_is_no_next status e);
      done_next = λ e. absurd (stop_is_no_next status e);
      done_stop = λ last e. does_stop number before.counts after.counts s.model n.model s.adapters n.adapters s.device n.device
          input g line reading left says status flushed after.text not_end handed is refl judged;
      last = last;
      counted = counted_turn (Stop status) after.counts counted;
    }

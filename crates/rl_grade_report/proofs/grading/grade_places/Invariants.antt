-- What is left of the text is that of the places from the next one on, and so are the flaws that are left.
use Rattle.std.proofs.Common.{◌≡◌, ◌≤◌, ◌++◌, drop}
use Rattle.rl_session.proofs.ListingLemmas.{IsLeft}
use Rattle.rl_grade_report.specs.Grading.{judged_from, places_text}
use Rattle.rl_grade_report.specs.Verdict.{AreJudged}
use Rattle.rl_grade_report.specs.Progress.{base_shown}
use Rattle.rl_grade_report.proofs.grading.grade_places.Given as goal

abbrev pub invariant-loop-place : goal.invariant-loop-place
invariant-loop-place g l =
    let written = g.K.Sink.written in
    let base = base_shown l.waivers l.tasks l.shown in
    let d = l.fn.tries.desc in
    record {
      desc_is : l.progress.desc ≡ d;
      put : IsLeft (written l.initial.log) (written l.log) (places_text l.asked d base 0 l.places)
          (places_text l.asked d base l.progress.number (drop l.place-index l.places));
      judged : l.progress.judged.items ++ judged_from l.asked d base l.progress.number (drop l.place-index l.places)
          ≡ judged_from l.asked d base 0 l.places;
      each : AreJudged d.chip d.layout l.progress.judged.items;
      known_is : l.progress.known.graded ≡ l.fn.tries.graded;
      later : g.K.Sink.faults l.initial.log ≤ g.K.Sink.faults l.log;
      ends_kept : g.K.Sink.ends l.log ≡ g.K.Sink.ends l.initial.log;
      same_target : g.K.Sink.target l.log ≡ g.K.Sink.target l.initial.log;
    }

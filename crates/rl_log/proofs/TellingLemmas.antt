-- What a run has told, by how it ended.
use Rattle.std.proofs.Common.{◌≡◌, ◌≢◌, ℕ, true, false, List, refl, sym, ap, subst, ◌∙◌}
use Rattle.std.proofs.KnownBytes.{Appends-kept}
use Rattle.std.proofs.lemmas.Bool.{true≢false}
use Rattle.std.specs.declared.option.Option.{Option}
use Rattle.std.specs.Io.KnownBytes.{Appends, Keeps, append_known}
use Rattle.rl_report.specs.Pieces.{AppendsFront}
use Rattle.rl_log.specs.declared.status.Status.{Status}
use Rattle.rl_log.specs.declared.status.Status.TheVariants.{SinkFault}
use Rattle.rl_log.specs.Earlier.{KeepsEarlier}
use Rattle.rl_log.specs.Statuses.{is_complete}
use Rattle.rl_log.specs.Telling.{Tells}
use Rattle.rl_log.proofs.KnownLemmas.{front_all, front_later, front_none, front_written, keeps_then_appends}

pub tells_all : (status : Status) (old new : Option (List ℕ)) (text : List ℕ) → Appends old new text
    → Tells status status old new text
tells_all status old new text h = record { whole = λ e. (refl, h); part = front_all old new text h }

pub tells_front : (status expected : Status) (old new : Option (List ℕ)) (text : List ℕ) → is_complete status ≡ false
    → AppendsFront old new text → Tells status expected old new text
tells_front status expected old new text broken f = record { whole = λ e. absurd (true≢false (sym e ∙ broken)); part = f }

pub tells_none : (status expected : Status) (old new : Option (List ℕ)) (text : List ℕ) → is_complete status ≡ false
    → Keeps old new → Tells status expected old new text
tells_none status expected old new text broken h =
    tells_front status expected old new text broken (front_none old new text h)

pub tells_later : (status expected : Status) (old mid new : Option (List ℕ)) (text : List ℕ) → Keeps old mid
    → Tells status expected mid new text → Tells status expected old new text
tells_later status expected old mid new text h t = record {
  whole = λ e. let w = t.whole e in (w.0, keeps_then_appends old mid new text h w.1);
  part = front_later old mid new text h t.part;
}

-- ---- what is written in the end

pub not_sink_fault : (status : Status) → is_complete status ≡ true → status ≢ SinkFault
not_sink_fault status c e = true≢false (sym c ∙ ap is_complete e)

pub tells_written : (status result expected : Status) (old told new : Option (List ℕ)) (kept text : List ℕ) →
    (result ≢ SinkFault → result ≡ status) → KeepsEarlier old new → Keeps told (append_known new kept)
    → (is_complete result ≡ true → Keeps told new) → Tells status expected old told text
    → Tells result expected old new text
tells_written status result expected old told new kept text same keeps held whole t = record {
  whole = λ c. let is : result ≡ status = same (not_sink_fault result c) in
      let w = t.whole (subst (λ s. is_complete s ≡ true) is c) in
      (is ∙ w.0, Appends-kept old told new text w.1 (whole c));
  part = front_written old told new kept text keeps held t.part;
}

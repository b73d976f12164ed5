-- Bytes that are read from a list.
use Rattle.std.proofs.Common.{◌≡◌, ℕ, ◌+◌, ◌≤◌, List, [], ◌++◌, length, take, drop, Some, IfSome, arith, sym, ap, subst, ◌∙◌}
use Rattle.std.proofs.Common.{take-append-drop, take_at, length-take-le, length-drop}
use Rattle.std.proofs.lemmas.List.{drop-drop, drop_all}
use Rattle.rl_log.specs.declared.status.Status.{Status}
use Rattle.rl_log.specs.Causes.{IsCaused}
use Rattle.std.specs.declared.option.Option.{Option}
use Rattle.rl_bus.specs.declared.op.AdapterKind.{AdapterKind}
use Rattle.rl_desc.specs.Data.{DescData}
use Rattle.rl_report.specs.Reading.{Reading}
use Rattle.rl_session.specs.Session.{opening_of}
use Rattle.rl_session_run.specs.Opening.{OpensWith}
use Rattle.rl_session_run.specs.Telling.{Stops}

-- what was copied out of the rest, and what is left of it
pub moved : (bytes to buf : List ℕ) (at n : ℕ) → to ≡ take n (drop at bytes) ++ drop n buf → n ≤ length
    (drop at bytes) → drop at bytes ≡ take n to ++ drop (at + n) bytes
moved bytes to buf at n copied fits =
    let front : take n to ≡ take n (drop at bytes) = ap (take n) copied ∙ take_at _ _ n
    (length-take-le n (drop at bytes) fits) in
    sym (take-append-drop n (drop at bytes)) ∙ ap (λ l. l ++ drop n (drop at bytes)) (sym front) ∙ ap
    (λ l. take n to ++ l) (drop-drop n at bytes)

-- nothing is copied into room for a byte only where nothing is left
pub ended : (bytes : List ℕ) (at n : ℕ) → n ≡ 0 → length (drop at bytes) ≤ 0 → drop (at + n) bytes ≡ []
ended bytes at n e none = drop_all (at + n) bytes (omega (arith, length-drop at bytes))

-- a run in which nothing can fail ends by no fault
pub quiet_cause : (status : Status) (before now : ℕ) → IsCaused status 0 0 0 0 → IsCaused status 0 0 before now
quiet_cause status before now h =
    record {
      source_fault = h.source_fault;
      sink_fault = λ e. let rose = h.sink_fault e in absurd
          (omega (arith, rose));
      known = h.known;
    }

-- ---- a session in memory

pub opens_text : (bytes text : List ℕ) (kinds : List AdapterKind) (desc : DescData) (lines : Reading) (left : Option (List ℕ))
    → bytes ≡ text → IfSome (Some (drop 0 bytes)) (λ bytes. OpensWith bytes kinds desc lines left) → OpensWith text kinds desc lines left
opens_text bytes text kinds desc lines left is h = subst (λ b. OpensWith b kinds desc lines left) is h

pub stops_text : (bytes text : List ℕ) (kinds : List AdapterKind) (status : Status) (old new : Option (List ℕ))
    → bytes ≡ text → IfSome (Some (drop 0 bytes)) (λ bytes. Stops (opening_of bytes kinds) status old new)
    → Stops (opening_of text kinds) status old new
stops_text bytes text kinds status old new is h = subst (λ b. Stops (opening_of b kinds) status old new) is h

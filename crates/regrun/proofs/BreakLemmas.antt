-- What was told when a source failed.
use Rattle.std.proofs.Common.{◌≡◌, ℕ, ◌≤◌, true, false, List, [], ◌∷◌, ◌++◌, length, drop, Option, Some, None, IfSome, Result, Ok, Err}
use Rattle.std.proofs.Common.{refl, sym, ap, subst, ◌∙◌, append_assoc, length-append, arith}
use Rattle.std.specs.Io.KnownBytes.{Appends, Keeps}
use Rattle.std.proofs.lemmas.Bool.{true≢false}
use Rattle.std.proofs.KnownBytes.{Appends-kept}
use Rattle.std.proofs.Math.Seq.{drop-append_seam}
use Rattle.rl_bus.specs.declared.op.AdapterKind.{AdapterKind}
use Rattle.rl_bus.specs.Standing.{Standing, kinds_of}
use Rattle.rl_bus.specs.State.{State}
use Rattle.rl_access.specs.Model.{ModelData}
use Rattle.rl_desc.specs.Data.{DescData}
use Rattle.rl_report.specs.Lines.{first_line, after_line, whole_lines}
use Rattle.rl_report.specs.Opening.{FindsHead, TakesNoHead, separator_at}
use Rattle.rl_report.specs.Reading.{Reading, input_of}
use Rattle.rl_play.specs.Played.{LinesBreak}
use Rattle.rl_session_run.specs.Output.{run_lines}
use Rattle.rl_session_run.proofs.JudgedLemmas.{from_first}
use Rattle.rl_session_run.proofs.TakenLemmas.{after_first, nothing_behind, stays}
use Rattle.regrun.specs.Output.{woven_lines, BreaksOff}
use Rattle.rl_session.specs.Judged.{taken_by, taken_text, first_world}
use Rattle.rl_session.specs.Session.{behind, opening_of}
use Rattle.rl_log.specs.declared.counts.Counts.{Counts}
use Rattle.rl_log.specs.Recording.{no_counts}
use Rattle.rl_play.specs.Moment.{moment}
use Rattle.rl_weave_log.specs.Judged.{woven_taken_by, woven_taken_text}
use Rattle.rl_weave_log.specs.Turns.{BreaksWeave}
use Rattle.rl_weave_log.specs.WeaveLog.{closed_text, counting}
use Rattle.rl_access.specs.World.{IsAt}
use Rattle.rl_log.proofs.KnownLemmas.{keeps_nothing, keeps_then_appends}
use Rattle.rl_session.proofs.SessionLemmas.{found_head, opening_found}
use Rattle.rl_play.proofs.FaultLemmas.{nothing_from}

-- ---- a session that broke off in its head

-- the log of a front of a session: that of the whole lines behind its separator, where it opens
pub record TellsTaken (log : List ℕ → List Standing → List ℕ) (lines : DescData → List Standing → List (List ℕ) → List ℕ) : Type 0 where
  pub opened : (taken : List ℕ) (adapters : List Standing) (desc : DescData) → opening_of taken (kinds_of adapters) ≡ Ok desc
      → log taken adapters ≡ lines desc adapters (whole_lines (behind (separator_at taken) taken))
  pub nothing : (taken : List ℕ) (adapters : List Standing) → behind (separator_at taken) taken ≡ [] → log taken adapters ≡ []

run_nothing : (o : Result DescData (List ℕ)) (taken : List ℕ) (adapters : List Standing) → behind
    (separator_at taken) taken ≡ [] → taken_by o taken adapters ≡ []
run_nothing (Ok desc) taken adapters none =
    nothing_from 1 (first_world desc adapters) (whole_lines (behind (separator_at taken) taken)) (ap whole_lines none)
run_nothing (Err line) taken adapters none = refl

pub run_taken : TellsTaken taken_text run_lines
run_taken = record {
  opened = λ taken adapters desc is. ap (λ o. taken_by o taken adapters) is;
  nothing = λ taken adapters none. run_nothing (opening_of taken (kinds_of adapters)) taken adapters none;
}

woven_nothing : (n : ℕ) (o : Result DescData (List ℕ)) (taken : List ℕ) (adapters : List Standing)
    → behind (separator_at taken) taken ≡ [] → woven_taken_by n o taken adapters ≡ []
unfolding closed_text
woven_nothing n (Ok desc) taken adapters none =
    ap (λ l. closed_text 1 (counting n no_counts (first_world desc adapters)) (whole_lines l)) none
woven_nothing n (Err line) taken adapters none = refl

pub woven_taken : (n : ℕ) → TellsTaken (woven_taken_text n) (woven_lines n)
woven_taken n = record {
  opened = λ taken adapters desc is. ap (λ o. woven_taken_by n o taken adapters) is;
  nothing = λ taken adapters none. woven_nothing n (opening_of taken (kinds_of adapters)) taken adapters none;
}

pub off_in_head : {log : List ℕ → List Standing → List ℕ} {lines : DescData → List Standing → List (List ℕ) → List ℕ} → TellsTaken log lines
    → (input : Option (List ℕ)) (adapters : List Standing) (left old new : Option (List ℕ)) → IfSome input
    (λ bytes. TakesNoHead bytes left) → Keeps old new → IfSome input (λ bytes. BreaksOff log bytes adapters left old new)
off_in_head t None adapters left old new h same = tt
off_in_head t (Some bytes) adapters left old new h same = record {
  taken = h.taken;
  others = h.others;
  split = h.split;
  is_left = h.is_left;
  text = subst (Appends old new) (sym (t.nothing h.taken adapters (nothing_behind (separator_at h.taken) h.taken h.none)))
      (keeps_nothing old new same);
}

-- ---- a session that broke off in its script

-- a reader at its end, that holds these bytes
abbrev holding : List ℕ → Reading
holding bytes =
    record { pending = bytes; line = []; asked = true; found = true; refused = false; ended = true; closed = false }

-- the front of a session up to its separator's line describes the same
same_opening : (bytes taken head : List ℕ) (kinds : List AdapterKind) (desc : DescData) (new : Reading)
    (left : Option (List ℕ)) → FindsHead bytes head new left → opening_of bytes kinds ≡ Ok desc
    → separator_at taken ≡ Some (length head) → head ++ drop (length head) taken ≡ taken → opening_of taken kinds ≡ Ok desc
same_opening bytes taken head kinds desc new left f is place front =
    let g : FindsHead taken head (holding (after_line (drop (length head) taken))) None =
    record { place = place; short = f.short; front = front; rest = refl; whole = λ going. absurd (true≢false going) } in
    opening_found taken head kinds (found_head taken head (holding (after_line (drop (length head) taken))) None g)
    ∙ sym (opening_found bytes head kinds (found_head bytes head new left f)) ∙ is

module _ (log : List ℕ → List Standing → List ℕ) (lines : DescData → List Standing → List (List ℕ) → List ℕ) (t : TellsTaken log lines) where
  taken_is : (taken more : List ℕ) (place : ℕ) (adapters : List Standing) (desc : DescData) → opening_of taken
      (kinds_of adapters) ≡ Ok desc → separator_at taken ≡ Some place → after_line (drop place taken) ≡ more
      → log taken adapters ≡ lines desc adapters (whole_lines more)
  taken_is taken more place adapters desc is at rest =
      t.opened taken adapters desc is ∙ ap (λ place. lines desc adapters (whole_lines (behind place taken))) at
      ∙ ap (λ l. lines desc adapters (whole_lines l)) rest

  off_behind : (bytes head : List ℕ) (adapters : List Standing) (desc : DescData) (new : Reading)
      (reached left old mid last : Option (List ℕ)) → FindsHead bytes head new reached → new.ended ≡ false
      → opening_of bytes (kinds_of adapters) ≡ Ok desc
      → Keeps old mid → LinesBreak (lines desc adapters) (after_line (drop (length head) bytes)) left mid last
      → BreaksOff log bytes adapters left old last
  off_behind bytes head adapters desc new reached left old mid last f going is same b =
      let d = drop (length head) bytes in
      let line = first_line d in
      let before = head ++ line in
      let taken = before ++ 10 ∷ b.taken in
      let all : before ++ 10 ∷ after_line d ≡ bytes = append_assoc head line (10 ∷ after_line d) ∙ ap (λ l. head ++ l)
      (sym (f.whole going)) ∙ f.front in
      let place : separator_at taken ≡ Some (length head) =
      stays 0 (length head) true before (after_line d) b.taken (omega (arith, length-append head line))
      (ap separator_at all ∙ f.place) in
      let dropped : drop (length head) taken ≡ line ++ 10 ∷ b.taken = ap (drop (length head))
      (append_assoc head line (10 ∷ b.taken)) ∙ drop-append_seam head (line ++ 10 ∷ b.taken) in
      let front : head ++ drop (length head) taken ≡ taken = ap (λ l. head ++ l) dropped ∙ sym
      (append_assoc head line (10 ∷ b.taken)) in
      let opening = same_opening bytes taken head (kinds_of adapters) desc new reached f is place front in
      let text = taken_is taken b.taken (length head) adapters desc opening place
      (ap after_line dropped ∙ after_first d b.taken) in
      record {
        taken = taken;
        others = b.others;
        split = append_assoc before (10 ∷ b.taken) b.others ∙ ap (λ l. before ++ 10 ∷ l) b.split ∙ all;
        is_left = b.is_left;
        text = subst (Appends old last) (sym text) (keeps_then_appends old mid last
            (lines desc adapters (whole_lines b.taken)) same b.text);
      }

  off_one : (bytes head : List ℕ) (adapters : List Standing) (desc : DescData) (new : Reading)
      (reached left old mid last : Option (List ℕ)) → FindsHead bytes head new reached → new.ended ≡ false
      → opening_of bytes (kinds_of adapters) ≡ Ok desc
      → Keeps old mid → IfSome (input_of new reached) (λ rest. LinesBreak (lines desc adapters) rest left mid last)
      → BreaksOff log bytes adapters left old last
  off_one bytes head adapters desc new reached left old mid last f going is same b =
      off_behind bytes head adapters desc new reached left old mid last f going is same
      (subst (λ o. IfSome o (λ rest. LinesBreak (lines desc adapters) rest left mid last)) f.rest b)

  pub off_in_script : (input : Option (List ℕ)) (adapters : List Standing) (desc : DescData) (new : Reading)
      (reached left old mid last : Option (List ℕ)) → IfSome input
      (λ bytes. (head : List ℕ) × FindsHead bytes head new reached) → new.ended ≡ false
      → IfSome input (λ bytes. opening_of bytes (kinds_of adapters) ≡ Ok desc) → Keeps old mid
      → IfSome (input_of new reached) (λ rest. LinesBreak (lines desc adapters) rest left mid last)
      → IfSome input (λ bytes. BreaksOff log bytes adapters left old last)
  off_in_script None adapters desc new reached left old mid last f going is same b = tt
  off_in_script (Some bytes) adapters desc new reached left old mid last f going is same b =
      off_one bytes f.0 adapters desc new reached left old mid last f.1 going is same b

-- ---- from the first state

pub weave_breaks : (n : ℕ) (input : Option (List ℕ)) (desc : DescData) (adapters : List Standing) (m : ModelData) (st : State)
    (counts : Counts) (left old new : Option (List ℕ)) → counts ≡ no_counts → IsAt m adapters (Some st) (first_world desc adapters)
    → BreaksWeave n (moment m adapters (Some st) old counts) input left new
    → IfSome input (λ bytes. LinesBreak (woven_lines n desc adapters) bytes left old new)
weave_breaks n None desc adapters m st counts left old new none here h = tt
weave_breaks n (Some bytes) desc adapters m st counts left old new none here h = record {
  taken = h.taken;
  others = h.others;
  split = h.split;
  is_left = h.is_left;
  text = subst (λ g. Appends old new (closed_text 1 g (whole_lines h.taken))) (from_first (counting n) desc adapters m st counts none here) h.text;
}

-- ---- what was written in the end

pub off_written : (log : List ℕ → List Standing → List ℕ) (input : Option (List ℕ)) (adapters : List Standing) (left old told new : Option (List ℕ))
    → IfSome input (λ bytes. BreaksOff log bytes adapters left old told) → Keeps told new
    → IfSome input (λ bytes. BreaksOff log bytes adapters left old new)
off_written log None adapters left old told new h same = tt
off_written log (Some bytes) adapters left old told new h same =
    record {
      taken = h.taken;
      others = h.others;
      split = h.split;
      is_left = h.is_left;
      text = Appends-kept old told new (log h.taken adapters) h.text same;
    }

-- What the opening of a session gives, where its source tells its bytes.
use Rattle.std.proofs.Common.{◌≡◌, ℕ, ◌≤◌, Bool, true, false, List, [], length, append-nil, codes, Result, Ok, Err, IfOk, Some, None}
use Rattle.std.proofs.Common.{IfSome, if◌then◌else◌, refl, sym, ap, subst, ◌∙◌}
use Rattle.std.specs.declared.option.Option.{Option}
use Rattle.std.specs.Io.KnownBytes.{Keeps, prepend_known}
use Rattle.std.proofs.KnownBytes.{prepend_known-nil}
use Rattle.rl_bus.specs.declared.op.AdapterKind.{AdapterKind}
use Rattle.rl_desc.specs.Data.{DescData}
use Rattle.rl_report.specs.declared.opening.Head.{Head}
use Rattle.rl_report.specs.declared.opening.Head.TheVariants.{Found, Missing, TooLong}
use Rattle.rl_report.specs.Opening.{HeadIs, FindsHead, separator_at}
use Rattle.rl_report.specs.Reading.{Reading, input_of}
use Rattle.rl_log.specs.declared.status.Status.{Status}
use Rattle.rl_log.specs.declared.status.Status.TheVariants.{Refused}
use Rattle.rl_log.specs.Statuses.{is_complete}
use Rattle.rl_log.specs.Telling.{Tells}
use Rattle.rl_session.specs.Session.{behind, head_of, opening_after, opening_of}
use Rattle.rl_session.proofs.SessionLemmas.{found_head, missing_head, long_head, opening_refused, opening_found}
use Rattle.rl_session_run.specs.Opening.{IsFresh, IsUnread, LeavesScript, OpensAs, OpensWith, ReadsHead}
use Rattle.rl_session_run.specs.Telling.{Stops}
use Rattle.rl_session_run.proofs.StopLemmas.{stops_early, stops_with}

-- ---- the head

pub from_fresh : (lines : Reading) (left : Option (List ℕ)) (P : List ℕ → Type 0) → IsFresh lines
    → IfSome (input_of lines left) P → IfSome left P
from_fresh lines left P fresh h = subst (λ o. IfSome o P) (fresh.input left) h

pub head_is_found : (input : Option (List ℕ)) (answer : Head) (head : List ℕ) (new : Reading) (left : Option (List ℕ))
    → answer ≡ Found → IfSome input (λ bytes. HeadIs bytes answer head new left) → IfSome input (λ bytes. ReadsHead bytes head new left)
head_is_found None answer head new left is h = tt
head_is_found (Some bytes) answer head new left is h =
    let found : FindsHead bytes head new left = rw is at h in
    record {
      head_is = found_head bytes head new left found;
      rest = found.rest ∙ ap (λ place. Some (behind place bytes)) (sym found.place);
      finds = found;
    }

pub head_is_missing : (input : Option (List ℕ)) (answer : Head) (head : List ℕ) (new : Reading)
    (left : Option (List ℕ)) → answer ≡ Missing → IfSome input (λ bytes. HeadIs bytes answer head new left)
    → IfSome input (λ bytes. head_of bytes ≡ Err (codes "refused session: no separator\n"))
head_is_missing None answer head new left is h = tt
head_is_missing (Some bytes) answer head new left is h = let m = rw is at h in missing_head bytes m.0 m.1

pub head_is_long : (input : Option (List ℕ)) (answer : Head) (head : List ℕ) (new : Reading) (left : Option (List ℕ))
    → answer ≡ TooLong → IfSome input (λ bytes. HeadIs bytes answer head new left)
    → IfSome input (λ bytes. head_of bytes ≡ Err (codes "refused session: description too long\n"))
head_is_long None answer head new left is h = tt
head_is_long (Some bytes) answer head new left is h = let m = rw is at h in long_head bytes m.0 m.1

-- ---- the script behind the head

-- what the source has left behind what was taken of the script
unread_left : (taken script : List ℕ) (left : Option (List ℕ)) → length taken ≤ 8192 → prepend_known taken left ≡ Some script
    → IsUnread script left
unread_left taken script None few is = absurd (cc)
unread_left taken script (Some others) few is =
    record { taken = taken; others = others; split = cc; few = few; is_left = λ some. refl }

unread_behind : (ended : Bool) (taken script : List ℕ) (left : Option (List ℕ)) → length taken ≤ 8192
    → (if ended then Some taken else prepend_known taken left) ≡ Some script → IsUnread script left
unread_behind true taken script left few is = record {
  taken = taken;
  others = [];
  split = append-nil taken ∙ cc;
  few = few;
  is_left = λ some. absurd (some refl);
}
unread_behind false taken script left few is = unread_left taken script left few is

pub head_unread : (input : Option (List ℕ)) (head : List ℕ) (lines : Reading) (left : Option (List ℕ)) → length lines.pending ≤ 8192
    → IfSome input (λ bytes. ReadsHead bytes head lines left) → IfSome input (λ bytes. LeavesScript bytes left)
head_unread None head lines left few reads = tt
head_unread (Some bytes) head lines left few reads = λ _ found. unread_behind lines.ended lines.pending _ left few reads.rest

-- a session with no head has no script
pub none_unread : (input : Option (List ℕ)) (line : List ℕ) (left : Option (List ℕ))
    → IfSome input (λ bytes. head_of bytes ≡ Err line) → IfSome input (λ bytes. LeavesScript bytes left)
none_unread None line left none = tt
none_unread (Some bytes) line left none = λ head found. absurd (cc)

-- ---- a session that ended at its head

pub stops_at_head : (input : Option (List ℕ)) (line : List ℕ) (status : Status) (old new : Option (List ℕ))
    → IfSome input (λ bytes. head_of bytes ≡ Err line) → Tells status Refused old new line
    → IfSome input (λ bytes. (kinds : List AdapterKind) → Stops (opening_of bytes kinds) status old new)
stops_at_head None line status old new h t = tt
stops_at_head (Some bytes) line status old new h t =
    λ kinds. stops_with (opening_of bytes kinds) line status old new (opening_refused bytes line kinds h) t

pub stops_before_head : (input : Option (List ℕ)) (status : Status) (old new : Option (List ℕ))
    → is_complete status ≡ false → Keeps old new
    → IfSome input (λ bytes. (kinds : List AdapterKind) → Stops (opening_of bytes kinds) status old new)
stops_before_head None status old new broken h = tt
stops_before_head (Some bytes) status old new broken h =
    λ kinds. stops_early (opening_of bytes kinds) status old new broken h

pub stops_for : (input : Option (List ℕ)) (kinds : List AdapterKind) (status : Status) (old new : Option (List ℕ))
    → IfSome input (λ bytes. (kinds : List AdapterKind) → Stops (opening_of bytes kinds) status old new)
    → IfSome input (λ bytes. Stops (opening_of bytes kinds) status old new)
stops_for None kinds status old new h = tt
stops_for (Some bytes) kinds status old new h = h kinds

-- ---- the description

pub desc_stops : {K : Type 0} (written : K → Option (List ℕ)) (input : Option (List ℕ)) (head : List ℕ) (kinds : List AdapterKind)
    (lines : Reading) (left : Option (List ℕ)) (status : Status) (old mid new : K) → IfSome input (λ bytes. ReadsHead bytes head lines left)
    → mid ≡ old → Stops (opening_after (Ok head) kinds) status (written mid) (written new)
    → IfSome input (λ bytes. Stops (opening_of bytes kinds) status (written old) (written new))
desc_stops written None head kinds lines left status old mid new reads same s = tt
desc_stops written (Some bytes) head kinds lines left status old mid new reads same s =
    let stopped = subst (λ o. Stops o status (written mid) (written new)) (sym (opening_found bytes head kinds reads.head_is)) s in
    subst (λ k. Stops (opening_of bytes kinds) status (written k) (written new)) same stopped

pub desc_opens : (input : Option (List ℕ)) (head : List ℕ) (kinds : List AdapterKind) (lines : Reading) (left : Option (List ℕ)) (desc : DescData)
    → IfSome input (λ bytes. ReadsHead bytes head lines left) → opening_after (Ok head) kinds ≡ Ok desc
    → IfSome input (λ bytes. OpensWith bytes kinds desc lines left)
desc_opens None head kinds lines left desc reads is = tt
desc_opens (Some bytes) head kinds lines left desc reads is =
    record { opening = opening_found bytes head kinds reads.head_is ∙ is; head = head; reads = reads }

-- ---- what a session opens with

pub opens_as : (input : Option (List ℕ)) (kinds : List AdapterKind) (desc : DescData) (lines : Reading) (left : Option (List ℕ))
    → IfSome input (λ bytes. OpensWith bytes kinds desc lines left) → IfSome input (λ bytes. opening_of bytes kinds ≡ Ok desc)
opens_as None kinds desc lines left h = tt
opens_as (Some bytes) kinds desc lines left h = h.opening

pub rest_of : (input : Option (List ℕ)) (kinds : List AdapterKind) (desc : DescData) (lines : Reading) (left : Option (List ℕ))
    → IfSome input (λ bytes. OpensWith bytes kinds desc lines left)
    → IfSome input (λ bytes. input_of lines left ≡ Some (behind (separator_at bytes) bytes))
rest_of None kinds desc lines left h = tt
rest_of (Some bytes) kinds desc lines left h = h.reads.rest

pub head_found : (input : Option (List ℕ)) (kinds : List AdapterKind) (desc : DescData) (lines : Reading) (left : Option (List ℕ))
    → IfSome input (λ bytes. OpensWith bytes kinds desc lines left)
    → IfSome input (λ bytes. (head : List ℕ) × FindsHead bytes head lines left)
head_found None kinds desc lines left h = tt
head_found (Some bytes) kinds desc lines left h = (h.head, h.reads.finds)

-- ---- a session that refuses more than its description's faults

module _ (over : Result DescData (List ℕ) → Result DescData (List ℕ)) (keeps : (line : List ℕ) → over (Err line) ≡ Err line) where
  stops_over : (opening : Result DescData (List ℕ)) (status : Status) (old new : Option (List ℕ)) → Stops opening status old new
      → Stops (over opening) status old new
  stops_over (Ok desc) status old new s = stops_early (over (Ok desc)) status old new s.0 s.1
  stops_over (Err line) status old new s = subst (λ o. Stops o status old new) (sym (keeps line)) s

  pub over_stops : (input : Option (List ℕ)) (kinds : List AdapterKind) (status : Status) (old new : Option (List ℕ))
      → IfSome input (λ bytes. Stops (opening_of bytes kinds) status old new)
      → IfSome input (λ bytes. Stops (over (opening_of bytes kinds)) status old new)
  over_stops None kinds status old new s = tt
  over_stops (Some bytes) kinds status old new s = stops_over (opening_of bytes kinds) status old new s

pub checked_stops : {K : Type 0} (over : Result DescData (List ℕ) → Result DescData (List ℕ)) (written : K → Option (List ℕ))
    (input : Option (List ℕ)) (kinds : List AdapterKind) (desc : DescData) (lines : Reading) (left : Option (List ℕ)) (status : Status)
    (old mid new : K) → IfSome input (λ bytes. OpensWith bytes kinds desc lines left) → mid ≡ old
    → Stops (over (Ok desc)) status (written mid) (written new)
    → IfSome input (λ bytes. Stops (over (opening_of bytes kinds)) status (written old) (written new))
checked_stops over written None kinds desc lines left status old mid new opens same s = tt
checked_stops over written (Some bytes) kinds desc lines left status old mid new opens same s =
    let stopped = subst (λ o. Stops (over o) status (written mid) (written new)) (sym opens.opening) s in
    subst (λ k. Stops (over (opening_of bytes kinds)) status (written k) (written new)) same stopped

pub checked_opens : (over : Result DescData (List ℕ) → Result DescData (List ℕ)) (input : Option (List ℕ)) (kinds : List AdapterKind)
    (desc : DescData) (lines : Reading) (left : Option (List ℕ)) → IfSome input (λ bytes. OpensWith bytes kinds desc lines left)
    → over (Ok desc) ≡ Ok desc → IfSome input (λ bytes. OpensAs (over (opening_of bytes kinds)) bytes desc lines left)
checked_opens over None kinds desc lines left opens fits = tt
checked_opens over (Some bytes) kinds desc lines left opens fits =
    record { opening = ap over opens.opening ∙ fits; rest = opens.reads.rest }

-- ---- from a reader that was just built

abbrev just_built : Reading
just_built =
    record { pending = []; line = []; asked = false; found = false; refused = false; ended = false; closed = false }

fresh_input : (r : Reading) → r ≡ just_built → IsFresh r
fresh_input r is = record {
  input = λ left. ap (λ r. input_of r left) is ∙ prepend_known-nil left;
  first = ap (λ (r : Reading). r.asked) is;
  going = ap (λ (r : Reading). r.refused) is;
}

pub fresh_inputs : {E : Type 0} (r : Result Reading E) → IfOk r (λ r. r ≡ just_built) → IfOk r IsFresh
fresh_inputs (Ok r) is = fresh_input r is
fresh_inputs (Err e) is = tt

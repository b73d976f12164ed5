-- What a session over a link does.
use Rattle.std.specs.Prelude.{◌≡◌, ℕ, suc, true, List, [], map, Option, Some, None, IfSome, IsNone, IsTrue, Ok}
use Rattle.std.specs.Io.KnownBytes.{Appends}
use Rattle.rl_access.specs.Asking.{AreAsked}
use Rattle.rl_access.specs.HandsOver.{Told}
use Rattle.rl_bus.specs.Account.{Account, Request, Traffic}
use Rattle.rl_bus.specs.Standing.{Standing, kinds_of}
use Rattle.rl_link.specs.declared.link.Break.{Break}
use Rattle.rl_desc.specs.Data.{DescData}
use Rattle.rl_link.specs.declared.link.Link.{Link}
use Rattle.rl_link.specs.declared.link.Streams.{Streams}
use Rattle.rl_link.specs.Account.{reply_in}
use Rattle.rl_link.specs.Coming.{coming}
use Rattle.rl_link.specs.Requests.{NameData, names_of, request_of}
use Rattle.rl_play.specs.AnyDevice.{told_by}
use Rattle.rl_report.specs.Pieces.{joined}
use Rattle.rl_log.specs.declared.status.Status.{Status}
use Rattle.rl_log.specs.declared.status.Status.TheVariants.{Passed, Found}
use Rattle.rl_log.specs.Statuses.{code_of}
use Rattle.rl_session_run.specs.Script.{RunsSession}
use Rattle.rl_link.specs.Opening.{linked_opening}

-- ---- a session

-- The account of a link to these streams that was just made, and has sent and taken nothing.
abbrev pub first_account : {S K N M : Type 0} → (left : S → Option (List ℕ)) → (written : K → Option (List ℕ))
    → Streams S K N M → DescData → Account
first_account left written streams desc = record {
  errors = 0;
  talk = Some (record {
    going = true;
    sent = written streams.sink;
    coming = coming [] (left streams.source);
    request = request_of (names_of desc.chip desc.layout);
    reply = reply_in;
  });
}

-- The link that is handed out is closed: it has sent what its account tells, and has failed as often. Where it isn't
-- broken, its talk went on to the end.
pub record IsClosed {S K N M : Type 0} (written : K → Option (List ℕ)) (account : Account) (link : Link S K N M)
    : Type 0 where
  pub talk : Traffic
  pub talk_is : account.talk ≡ Some talk
  pub errors : link.errors ≡ account.errors
  pub sent : written link.talk.sink ≡ talk.sent
  pub whole : IsNone link.broken → IsTrue talk.going

abbrev pub AreClosed : {S K N M : Type 0} → (written : K → Option (List ℕ)) → Option Account → Option (Link S K N M)
    → Type 0
AreClosed written None None = Unit {0}
AreClosed written (Some account) (Some link) = IsClosed written account link
AreClosed written None (Some link) = ⊥
AreClosed written (Some account) None = ⊥

-- What was written is the request of each thing that these events ask for, in order.
pub record SendsRequests (names : NameData) (told : List Told) (old new : Option (List ℕ)) : Type 0 where
  pub asked : List Request
  pub said : AreAsked told asked
  pub sent : Appends old new (joined (map (request_of names) asked))

-- It is refused by what it describes and for the link, or its script is played on what it describes without
-- backdoors, over a link to these streams, which is asked exactly what the log's events say. Its source has `others`
-- left. After one that failed, exactly the lines that were taken whole are in the log.
pub record RunsLinked {P K N M : Type 0} (left : P → Option (List ℕ)) (written : K → Option (List ℕ))
    (streams : Streams P K N M) (bytes : List ℕ) (others : Option (List ℕ)) (status : Status)
    (old new : Option (List ℕ)) (adapters now : List Standing) (link : Option (Link P K N M)) : Type 0 where
  pub account : Option Account
  pub runs :
      RunsSession (linked_opening bytes (kinds_of adapters)) bytes others status old new adapters now
      (first_account left written streams) account
  pub closed : AreClosed written account link
  -- Unless the link broke, the requests that were written are exactly those of the log's events.
  pub requests : (desc : DescData) → (opens : linked_opening bytes (kinds_of adapters) ≡ Ok desc)
      → IfSome link (λ it. IsNone it.broken
      → let played = runs.played desc opens in
      SendsRequests (names_of desc.chip desc.layout) (told_by played.plays.done played.plays.close)
      (written streams.sink) (written it.talk.sink))

-- ---- the program

-- how the link broke, where there is one that did
abbrev pub broken_of : {S K N M : Type 0} → Option (Link S K N M) → Option Break
broken_of None = None
broken_of (Some link) = link.broken

-- how many resets and changes the peer didn't do
abbrev pub undone_of : {S K N M : Type 0} → Option (Link S K N M) → ℕ
undone_of None = 0
undone_of (Some link) = link.undone

-- one that wasn't done counts as a difference does
abbrev pub counted_in : Status → (undone : ℕ) → Status
counted_in Passed (suc n) = Found
counted_in status undone = status

-- 7 for a link that broke
abbrev pub exit_code : Status → (broken : Option Break) → (undone : ℕ) → ℕ
exit_code status None undone = code_of (counted_in status undone)
exit_code status (Some broken) undone = 7

-- A link that isn't broken has sent the request of each thing that it was asked.
use Rattle.std.proofs.Common.{◌≡◌, ℕ, not, List, [], ◌∷◌, map, Option, None, Some, Result, Ok, Err, IfOk, IfSome, IsNone, IsSome, is_some, IsTrue, refl, sym, ap, subst, ◌∙◌}
use Rattle.std.specs.Io.KnownBytes.{Appends}
use Rattle.std.proofs.KnownBytes.{Appends-nil, Appends-trans}
use Rattle.rl_bus.specs.Account.{Account, Request, AsksAll, Speaks, Traffic, Talks}
use Rattle.rl_bus.specs.Standing.{Standing, kinds_of}
use Rattle.rl_desc.specs.Data.{DescData}
use Rattle.rl_log.specs.declared.status.Status.{Status}
use Rattle.rl_play.specs.AnyDevice.{told_by}
use Rattle.rl_report.specs.Pieces.{joined}
use Rattle.rl_session_run.specs.Script.{RunsSession}
use Rattle.rl_link.specs.declared.link.Break.{Break}
use Rattle.rl_link.specs.declared.link.Link.{Link}
use Rattle.rl_link.specs.declared.link.Streams.{Streams}
use Rattle.rl_link.specs.Account.{account_of, reply_in, talk_of}
use Rattle.rl_link.specs.Coming.{coming}
use Rattle.rl_link.specs.Opening.{linked_opening}
use Rattle.rl_link.specs.Requests.{NameData, names_of, request_of}
use Rattle.rl_link.specs.Session.{AreClosed, IsClosed, RunsLinked, SendsRequests, first_account}

-- what one talk leaves for the next
record IsSent (first last : Traffic) (xs : List Request) : Type 0 where
  went : IsTrue last.going → IsTrue first.going
  same : last.request ≡ first.request
  sent : IsTrue last.going → Appends first.sent last.sent (joined (map first.request xs))

none_sent : (t : Traffic) → IsSent t t []
unfolding joined
none_sent t = record { went = λ going. going; same = refl; sent = λ going. Appends-nil t.sent }

more_sent : (first mid last : Traffic) (x : Request) (xs : List Request) → Speaks first mid x → IsSent mid last xs → IsSent first last (x ∷ xs)
unfolding joined
more_sent first mid last x xs one rest = record {
  went = λ going. one.went (rest.went going);
  same = rest.same ∙ one.same.0;
  sent = λ going. Appends-trans first.sent mid.sent last.sent (first.request x) (joined (map first.request xs)) (one.sends (rest.went going))
      (subst (λ f. Appends mid.sent last.sent (joined (map f xs))) one.same.0 (rest.sent going));
}

-- where it begins, it ends
record IsTalk (first : Traffic) (after : Option Traffic) (xs : List Request) : Type 0 where
  last : Traffic
  is : after ≡ Some last
  sent : IsSent first last xs

goes_on : (t : Traffic) (mid after : Option Traffic) (x : Request) (xs : List Request) → Talks (Some t) mid x
    → ((m : Traffic) → mid ≡ Some m → IsTalk m after xs) → IsTalk t after (x ∷ xs)
goes_on t None after x xs one rest = absurd one
goes_on t (Some m) after x xs one rest =
    let r = rest m refl in
    record { last = r.last; is = r.is; sent = more_sent t m r.last x xs one r.sent }

talked : (xs : List Request) (before after : Account) (t : Traffic) → before.talk ≡ Some t → AsksAll before xs after → IsTalk t after.talk xs
talked [] before after t is h = record { last = t; is = ap (λ (a : Account). a.talk) h ∙ is; sent = none_sent t }
talked (x ∷ xs) before after t is h =
    goes_on t h.0.talk after.talk x xs (subst (λ o. Talks o h.0.talk x) is h.1.talks) (λ m same. talked xs h.0 after m same h.2)

same_talk : {t u : Traffic} (o : Option Traffic) → o ≡ Some t → o ≡ Some u → t ≡ u
same_talk o a b = cc

pub requests_sent : (xs : List Request) (before after : Account) (t u : Traffic) → before.talk ≡ Some t → after.talk ≡ Some u → AsksAll before xs after
    → IsTrue u.going → Appends t.sent u.sent (joined (map t.request xs))
requests_sent xs before after t u first last h going =
    let it = talked xs before after t first h in
    let same : it.last ≡ u = same_talk after.talk it.is last in
    subst (λ (v : Traffic). IsTrue v.going → Appends t.sent v.sent (joined (map t.request xs))) same it.sent.sent going

-- ---- a session

module _ {P K N M : Type 0} (left : P → Option (List ℕ)) (written : K → Option (List ℕ)) (streams : Streams P K N M) where
  -- what was sent over the link that is handed out
  link_requests : (bytes : List ℕ) (others : Option (List ℕ)) (status : Status) (old new : Option (List ℕ)) (adapters now : List Standing) (account : Option Account)
      (link : Option (Link P K N M))
      → (runs : RunsSession (linked_opening bytes (kinds_of adapters)) bytes others status old new adapters now (first_account left written streams) account)
      → AreClosed written account link → (desc : DescData) → (opens : linked_opening bytes (kinds_of adapters) ≡ Ok desc)
      → IfSome link (λ it. IsNone it.broken
      → let played = runs.played desc opens in
      SendsRequests (names_of desc.chip desc.layout) (told_by played.plays.done played.plays.close) (written streams.sink) (written it.talk.sink))
  link_requests bytes others status old new adapters now None None runs closed desc opens = tt
  link_requests bytes others status old new adapters now None (Some it) runs closed desc opens = absurd closed
  link_requests bytes others status old new adapters now (Some account) None runs closed desc opens = absurd closed
  link_requests bytes others status old new adapters now (Some account) (Some it) runs closed desc opens = λ unbroken.
      let asked = (runs.played desc opens).asked in
      let names = names_of desc.chip desc.layout in
      record {
        asked = asked.asked;
        said = asked.said;
        sent = subst (λ s. Appends (written streams.sink) s (joined (map (request_of names) asked.asked))) (sym closed.sent)
            (requests_sent asked.asked (first_account left written streams desc) account _ closed.talk refl closed.talk_is asked.asks
            (closed.whole unbroken));
      }

  pub runs_linked : (input others : Option (List ℕ)) (status : Status) (old new : Option (List ℕ)) (adapters now : List Standing) (account : Option Account)
      (link : Option (Link P K N M))
      → IfSome input (λ bytes. RunsSession (linked_opening bytes (kinds_of adapters)) bytes others status old new adapters now (first_account left written streams) account)
      → AreClosed written account link
      → IfSome input (λ bytes. RunsLinked left written streams bytes others status old new adapters now link)
  runs_linked None others status old new adapters now account link runs closed = tt
  runs_linked (Some bytes) others status old new adapters now account link runs closed = record {
    account = account;
    runs = runs;
    closed = closed;
    requests = link_requests bytes others status old new adapters now account link runs closed;
  }

-- ---- a link that is closed

still_some : (o : Option Break) → IsSome o → IsNone o → ⊥
still_some None some none = cc
still_some (Some b) some none = cc

was_going : (o p : Option Break) → (IsSome o → p ≡ o) → IsNone p → IsTrue (not (is_some o))
was_going None p kept none = refl
was_going (Some b) p kept none = absurd (still_some (Some b) refl (subst IsNone (kept refl) none))

pub closed_is : {S K N M : Type 0} (left : S → Option (List ℕ)) (written : K → Option (List ℕ)) (old new : Link S K N M) → (IsSome old.broken → new ≡ old)
    → new.talk.sink ≡ old.talk.sink → new.errors ≡ old.errors → IsClosed written (account_of left written old) new
closed_is left written old new kept sink errors = record {
  talk = talk_of left written old;
  talk_is = refl;
  errors = errors;
  sent = ap written sink;
  whole = was_going old.broken new.broken (λ some. ap (λ l. l.broken) (kept some));
}

-- ---- a link that was just made

pub first_is : {S K N M : Type 0} (left : S → Option (List ℕ)) (written : K → Option (List ℕ)) (streams : Streams S K N M) (desc : DescData) (link : Link S K N M)
    → link.names ≡ names_of desc.chip desc.layout → link.talk.source ≡ streams.source → link.talk.sink ≡ streams.sink → link.talk.held ≡ []
    → link.broken ≡ None → link.errors ≡ 0 → account_of left written link ≡ first_account left written streams desc
first_is left written streams desc link names source sink held broken errors =
    let made : ℕ → Option Break → Option (List ℕ) → List ℕ → Option (List ℕ) → NameData → Account = λ e b s h l n. record {
      errors = e;
      talk = Some (record { going = not (is_some b); sent = s; coming = coming h l; request = request_of n; reply = reply_in });
    } in
    let t = link.talk in
    ap (λ e. made e link.broken (written t.sink) t.held (left t.source) link.names) errors
    ∙ ap (λ b. made 0 b (written t.sink) t.held (left t.source) link.names) broken
    ∙ ap (λ s. made 0 None (written s) t.held (left t.source) link.names) sink
    ∙ ap (λ h. made 0 None (written streams.sink) h (left t.source) link.names) held
    ∙ ap (λ s. made 0 None (written streams.sink) [] (left s) link.names) source
    ∙ ap (λ n. made 0 None (written streams.sink) [] (left streams.source) n) names

pub first_if : {S K N M E : Type 0} (left : S → Option (List ℕ)) (written : K → Option (List ℕ)) (streams : Streams S K N M) (desc : DescData)
    (names : NameData) (r : Result (Link S K N M) E) → names ≡ names_of desc.chip desc.layout
    → IfOk r (λ link. link.names ≡ names) → IfOk r (λ link. (link.talk.source ≡ streams.source) × (link.talk.sink ≡ streams.sink))
    → IfOk r (λ link. link.talk.held ≡ []) → IfOk r (λ link. (link.broken ≡ None) × (link.errors ≡ 0) × (link.undone ≡ 0))
    → IfOk r (λ link. account_of left written link ≡ first_account left written streams desc)
first_if left written streams desc names (Ok link) is n s h w = first_is left written streams desc link (n ∙ is) s.0 s.1 h w.0 w.1
first_if left written streams desc names (Err e) is n s h w = tt

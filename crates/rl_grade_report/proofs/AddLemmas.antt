-- Shares that are added: the lines of their text, their sums, and what is written.
use Rattle.std.proofs.Common.{◌≡◌, ◌≢◌, ℕ, suc, ◌+◌, ◌-◌, ◌<◌, ◌≤◌, Bool, true, false, cond, eqb, ltb, not, List, [], ◌∷◌, length}
use Rattle.std.proofs.Common.{Option, Some, None, IfSome, Result, Ok, Err, IfOk, IfErr, IsErr, refl, sym, ap, subst, ◌∙◌, arith}
use Rattle.std.specs.Prelude.{IsErrAnd, find, position}
use Rattle.std.specs.List.{position_or_len, range_with_len}
use Rattle.std.specs.Io.KnownBytes.{Keeps}
use Rattle.std.proofs.KnownBytes.{Keeps-refl}
use Rattle.std.proofs.lemmas.Bool.{eqb-true, ltb-false}
use Rattle.std.proofs.lemmas.List.{drop_all, length-drop, take_all}
use Rattle.rl_bus.specs.Causes.{Rose}
use Rattle.rl_report.specs.declared.sink.Sink.{Ghosts as Sink}
use Rattle.rl_report.specs.Ends.{EndedOnce}
use Rattle.rl_report.specs.Lines.{after_line, first_line, lines_of}
use Rattle.rl_report.specs.Pieces.{Puts}
use Rattle.rl_report.proofs.LineLemmas.{line_behind, line_front}
use Rattle.rl_log.specs.declared.status.Status.{Status}
use Rattle.rl_log.specs.declared.status.Status.TheVariants.{SinkFault}
use Rattle.rl_log.specs.Causes.{IsCaused}
use Rattle.rl_log.specs.Statuses.{is_complete}
use Rattle.rl_log.proofs.TellingLemmas.{tells_none, tells_written}
use Rattle.rl_play.proofs.EndingLemmas.{append_none}
use Rattle.rl_play.proofs.PlayLemmas.{lines_more}
use Rattle.rl_session_run.specs.Stays.{LeavesEnded, LeavesOpen, Stays}
use Rattle.rl_session_run.proofs.StaysLemmas.{earlier_kept, earlier_put, open_ended, stays_open}
use Rattle.rl_grade_report.specs.declared.shares.Part.{Part}
use Rattle.rl_grade_report.specs.declared.shares.SharesFault.{SharesFault}
use Rattle.rl_grade_report.specs.declared.shares.SharesFault.TheVariants.{Refused, Memory}
use Rattle.rl_grade_report.specs.declared.shares.Unfit.{Unfit}
use Rattle.rl_grade_report.specs.declared.totals.Totals.{Totals}
use Rattle.rl_grade_report.specs.Added.{added_of, sums_of, sums_told}
use Rattle.rl_grade_report.specs.Progress.{TellsGraded, status_of}
use Rattle.rl_grade_report.specs.Shares.{Came, and_then, closed, refused_by, shares_from, with_line}
use Rattle.rl_grade_report.specs.Totals.{is_below}
use Rattle.rl_grade_report.proofs.SessionLemmas.{caused_by, complete_by, complete_if, told_by}

-- ---- the first line

ends_by : (b n : ℕ) (bs : List ℕ) (t : Bool) → n ≡ length (first_line bs) → cond (not t) (1 + n) 0 ≡ length (cond t [] (b ∷ first_line bs))
ends_by b n bs true e = refl
ends_by b n bs false e = omega (arith, e)

first_ends : (p : List ℕ) → position_or_len (λ c. eqb c 10) p ≡ length (first_line p)
first_ends [] = refl
first_ends (b ∷ bs) = ends_by b (position_or_len (λ c. eqb c 10) bs) bs (eqb b 10) (first_ends bs)

found_at : (n size : ℕ) (t : Bool) → Some size ≡ cond t (Some n) None → size ≡ n
found_at n size true is = cc
found_at n size false is = absurd (cc)

none_at : (n len : ℕ) (t : Bool) → ltb n len ≡ t → None ≡ cond t (Some n) None → len ≤ n
none_at n len true low is = absurd (cc)
none_at n len false low is = ltb-false n len low

-- where a 10 stands
pub line_found : (p : List ℕ) (size : ℕ) → Some size ≡ position (λ c. eqb c 10) p → size ≡ length (first_line p)
line_found p size is =
    let n = position_or_len (λ c. eqb c 10) p in found_at n size (ltb n (length p)) is ∙ first_ends p

-- where none does
pub line_all : (p : List ℕ) → None ≡ position (λ c. eqb c 10) p → (p ≡ first_line p) × ([] ≡ after_line p)
line_all p is =
    let n = position_or_len (λ c. eqb c 10) p in
    let size = length (first_line p) in
    let long : length p ≤ size = omega (arith, none_at n (length p) (ltb n (length p)) refl is, first_ends p) in
    (sym (take_all size p long) ∙ line_front p size refl, sym (drop_all (size + 1) p (omega (arith, long))) ∙ line_behind p size refl)

-- what is behind it is shorter
pub behind_shorter : (p : List ℕ) → 0 < length p → length (after_line p) < length p
behind_shorter p some =
    let size = length (first_line p) in
    let is : length p - (size + 1) ≡ length (after_line p) = simp length-drop at (ap length (line_behind p size refl)) in
    omega (arith, is, some)

-- ---- line by line

pub no_line : (bytes : List ℕ) → eqb (length bytes) 0 ≡ true → lines_of bytes ≡ []
no_line [] none = refl
no_line (b ∷ bs) none = absurd (omega (arith, eqb-true (length (b ∷ bs)) 0 none))

pub some_byte : (bytes : List ℕ) → eqb (length bytes) 0 ≡ false → 0 < length bytes
some_byte [] some = absurd (cc)
some_byte (b ∷ bs) some = omega arith

-- the first line and what is behind it
pub line_cut : (bytes line behind : List ℕ) → 0 < length bytes → line ≡ first_line bytes → behind ≡ after_line bytes
    → lines_of bytes ≡ line ∷ lines_of behind
line_cut bytes line behind some first after =
    lines_more bytes some ∙ ap (λ l. l ∷ lines_of (after_line bytes)) (sym first) ∙ ap (λ bs. line ∷ lines_of bs) (sym after)

module _ (c : Came) (number : ℕ) (lines rest : List (List ℕ)) (line : List ℕ) (is : lines ≡ line ∷ rest) where
  abbrev by : Result Came Unfit → Result (List Part) Unfit
  by r = and_then r (λ next. shares_from next (number + 1) rest)

  from_line : shares_from c number lines ≡ by (with_line c number line)
  unfolding shares_from
  from_line = ap (shares_from c number) is

  pub line_on : (next : Came) → with_line c number line ≡ Ok next → shares_from c number lines ≡ shares_from next (number + 1) rest
  line_on next at = from_line ∙ ap by at

  -- a line that is refused, unless memory ran out
  pub line_refused : (f : SharesFault) (all : Result (List Part) Unfit) → shares_from c number lines ≡ all
      → IfSome (refused_by f) (λ why. with_line c number line ≡ Err why) → IfSome (refused_by f) (λ why. all ≡ Err why)
  line_refused (Refused why) all same at = sym same ∙ from_line ∙ ap by at
  line_refused Memory all same at = tt

pub lines_end : (c : Came) (number : ℕ) (lines : List (List ℕ)) (all : Result (List Part) Unfit) → lines ≡ []
    → shares_from c number lines ≡ all → closed c ≡ all
unfolding shares_from
lines_end c number lines all none same = sym (ap (shares_from c number) none) ∙ same

pub out_by : {X : Type 0} (r : Result X SharesFault) (f : SharesFault) (P : SharesFault → Type 0) → IsErr r × IsErrAnd r (λ x. x ≡ f)
    → P f → IfErr r P
out_by (Ok x) f P h p = tt
out_by (Err x) f P h p = rw h.1 p

-- ---- what is lacking

module _ (test : ℕ → Bool) (before every : ℕ) (low : before < every) where
  -- the numbers behind those that were tried
  one_less : range_with_len (before + 1) (every - before) ≡ (before + 1) ∷ range_with_len (before + 1 + 1) (every - (before + 1))
  one_less =
      let count : every - before ≡ suc (every - (before + 1)) = omega (arith, low) in
      ap (range_with_len (before + 1)) count

  pub number_passed : test (before + 1) ≡ false
      → find test (range_with_len (before + 1) (every - before)) ≡ find test (range_with_len (before + 1 + 1) (every - (before + 1)))
  number_passed fails =
      ap (find test) one_less
      ∙ ap (λ b. cond b (Some (before + 1)) (find test (range_with_len (before + 1 + 1) (every - (before + 1))))) fails

-- ---- sums

pub same_totals : (a b x y m n u v p q : ℕ) → a ≡ b → x ≡ y → m ≡ n → u ≡ v → p ≡ q
    → (let t : Totals = record { flaws = a; found = x; hidden = m; waived = u; needless = p } in t)
    ≡ record { flaws = b; found = y; hidden = n; waived = v; needless = q }
same_totals a b x y m n u v p q flaws found hidden waived needless = cc

-- ---- what is written

complete_told : (bound : Option ℕ) (r : Result Totals Unfit) → is_complete (sums_told bound r).status ≡ true
complete_told bound (Ok sums) = complete_if (is_below bound sums)
complete_told bound (Err why) = refl

module _ (bound : Option ℕ) (text : List ℕ) (r : Result Status Status) (status result : Status) (is : status ≡ status_of r)
    (right : IfOk r (λ s. s ≡ (added_of bound text).status)) (same : result ≢ SinkFault → result ≡ status) where
  pub added_told : (input : Option (List ℕ)) (old mid new : Option (List ℕ)) → IfSome input (λ bytes. text ≡ bytes)
      → Puts old mid (added_of bound text).text r → IfErr r (λ s. is_complete s ≡ false) → Keeps mid new
      → IfSome input (λ bytes. TellsGraded (added_of bound bytes) result old new)
  added_told None old mid new all p broken kept = tt
  added_told (Some bytes) old mid new all p broken kept =
      let g = added_of bound text in
      let told = subst (λ s. TellsGraded g s old mid) (sym is) (told_by r g.status old mid g.text p right broken) in
      let earlier = earlier_kept old mid new (earlier_put old mid g.text r p) kept in
      subst (λ bytes. TellsGraded (added_of bound bytes) result old new) all
      (tells_written status result g.status old mid new [] g.text same earlier (subst (Keeps mid) (sym (append_none new)) kept) (λ c. kept) told)

  pub added_leaves : {K : Type 0} (sink : Sink K) (source source_now : ℕ) (old mid new : K) → source ≤ source_now
      → Puts (sink.written old) (sink.written mid) (added_of bound text).text r
      → IfErr r (λ s. IsCaused s 0 0 (sink.faults old) (sink.faults mid)) → Stays sink.faults sink.ends sink.target old mid
      → Keeps (sink.written mid) (sink.written new) → sink.faults mid ≤ sink.faults new
      → (result ≡ SinkFault → status ≢ SinkFault → Rose (sink.faults mid) (sink.faults new))
      → (is_complete result ≡ true → EndedOnce (sink.ends mid) (sink.ends new))
      → (is_complete result ≡ false → sink.ends new ≡ sink.ends mid) → LeavesEnded sink result source source_now old new
  added_leaves sink source source_now old mid new later p cause stays kept log_later rose ended not_ended =
      let g = added_of bound text in
      let whole = complete_by r g.status right (complete_told bound (sums_of text)) in
      let earlier = earlier_put (sink.written old) (sink.written mid) g.text r p in
      let left : LeavesOpen sink (status_of r) source source_now old mid = record {
        source_later = later;
        cause = caused_by r source source_now (sink.faults old) (sink.faults mid) whole cause;
        stays = stays_open sink.written sink.faults sink.ends sink.target old mid earlier stays;
      } in
      open_ended sink status result source source_now old mid new (subst (λ s. LeavesOpen sink s source source_now old mid) (sym is) left)
      same kept log_later rose ended not_ended

pub added_unread : (input : Option (List ℕ)) (bound : Option ℕ) (status : Status) (old : Option (List ℕ)) → is_complete status ≡ false
    → IfSome input (λ bytes. TellsGraded (added_of bound bytes) status old old)
added_unread None bound status old broken = tt
added_unread (Some bytes) bound status old broken =
    let g = added_of bound bytes in tells_none status g.status old old g.text broken (Keeps-refl old)

-- The addresses where words queue.
use Rattle.std.proofs.Common.{◌≡◌, ℕ, zero, suc, ◌+◌, ◌-◌, ◌<◌, ◌≤◌, Bool, true, false, cond, ◌&&◌, ◌||◌, eqb, ltb, List, [], ◌∷◌, ◌++◌, length}
use Rattle.std.proofs.Common.{get_or, set, take, refl, sym, ap, ◌∙◌, arith, Option, Some, None, subst, ⊎_elim, replicate, lt-ltb, le-ltb}
use Rattle.std.specs.Prelude.{filter, position, unwrap_or, slice_index, slice_set, is_some}
use Rattle.std.specs.List.{list_any}
use Rattle.std.proofs.lemmas.Bool.Decides.{nat_tests}
use Rattle.std.proofs.lemmas.Bool.{cases_lt, cases_eq, false≢true}
use Rattle.std.proofs.lemmas.List.Folds.{list_any_none, list_any-append, list_any_at, list_any_more}
use Rattle.std.proofs.lemmas.List.{get_or-set_other, length-replicate}
use Rattle.std.proofs.lemmas.List.Elements.{All-append, All-cons, All-nil}
use Rattle.std.proofs.lemmas.List.Filters.{length-filter_more}
use Rattle.std.proofs.lemmas.List.Quantifiers.{position-Some}
use Rattle.rl_bus.specs.declared.table.WordRow.{WordRow}
use Rattle.rl_bus.specs.Setup.{stands_at, stands_for}
use Rattle.rl_bench.specs.declared.beats.Queue.{Queue}
use Rattle.rl_bench.specs.Beats.{beat_in, beats_of, no_word, has_place, count_for, is_queue, IsQueueIn, AreQueuesOf, IsQuiet, HasBeats}
use Rattle.rl_bench.specs.Stretch.{IsStretch}
use Rattle.rl_bench.proofs.BeatLemmas.{one_address, stands_at_own}
use Rattle.rl_bench.proofs.StretchLemmas.{none_taken, all_taken, stretch_some, any_default, set_long}

-- ---- how many stand at an address

inside_long : {X : Type 0} (p : X → Bool) (xs : List X) (i j n : ℕ) (d : X) → IsStretch p xs i j → i + n ≤ j → length (filter p (take (i + n) xs)) ≡ n
inside_long p xs i j zero d s l =
    let e : i + zero ≡ i = omega arith in
    ap (λ k. length (filter p (take k xs))) e ∙ ap length (none_taken p xs i (λ k d l m. s.before k d l))
inside_long p xs i j (suc n) d s l =
    let e : i + suc n ≡ (i + n) + 1 = omega arith in
    let yes : p (get_or xs (i + n) d) ≡ true = s.inside (i + n) d (omega arith) (omega (arith, l)) in
    let within : i + n < length xs = omega (arith, l, s.within) in
    ap (λ k. length (filter p (take k xs))) e
    ∙ length-filter_more p xs (i + n) d within
    ∙ ap (λ b. length (filter p (take (i + n) xs)) + cond b 1 0) yes
    ∙ ap (λ k. k + 1) (inside_long p xs i j n d s (omega (arith, l)))
    ∙ one_more n
  where
    one_more : (n : ℕ) → n + 1 ≡ suc n
    one_more n = omega arith

pub stretch_long : {X : Type 0} (p : X → Bool) (xs : List X) (i j : ℕ) (d : X) → IsStretch p xs i j → length (filter p xs) ≡ j - i
stretch_long p xs i j d s =
    let e : i + (j - i) ≡ j = omega (arith, s.order) in
    sym (ap length (all_taken p xs j (λ k d l m. s.behind k d l m)))
    ∙ sym (ap (λ k. length (filter p (take k xs))) e)
    ∙ inside_long p xs i j (j - i) d s (omega (arith, s.order))

both_le : {X : Type 0} (p q : X → Bool) (xs : List X) → length (filter (λ x. p x && q x) xs) ≤ length (filter p xs)
both_le p q [] = omega arith
both_le p q (x ∷ xs) = by (p x) (q x) (both_le p q xs)
  where
    by : (b c : Bool) → length (filter (λ x. p x && q x) xs) ≤ length (filter p xs)
        → length (cond (b && c) (x ∷ filter (λ x. p x && q x) xs) (filter (λ x. p x && q x) xs)) ≤ length (cond b (x ∷ filter p xs) (filter p xs))
    by true true h = omega (arith, h)
    by true false h = omega (arith, h)
    by false c h = h

direction_le : (words : List WordRow) (p a : ℕ) (write : Bool) → count_for words p a write ≤ length (filter (stands_at p a) words)
direction_le words p a write = both_le (stands_at p a) (λ w. cond write w.writes w.reads) words

-- where at most one word stands, none queues
pub few_there : (words : List WordRow) (p a i j : ℕ) (d : WordRow) → IsStretch (stands_at p a) words i j → j - i ≤ 1 → (write : Bool) → count_for words p a write ≤ 1
few_there words p a i j d s few write = omega (arith, direction_le words p a write, stretch_long (stands_at p a) words i j d s, few)

-- words queue or not, by either direction
few_both : (n : Bool → ℕ) → n false ≤ 1 → n true ≤ 1 → (write : Bool) → n write ≤ 1
few_both n f t true = t
few_both n f t false = f

data Queues (words : List WordRow) (p a : ℕ) : Type 0 where
  several : (write : Bool) → 1 < count_for words p a write → Queues words p a
  single : ((write : Bool) → count_for words p a write ≤ 1) → Queues words p a

queues_there : (words : List WordRow) (p a : ℕ) → Queues words p a
queues_there words p a = ⊎_elim
    (λ (m : 1 < count_for words p a false). several false m)
    (λ (f : count_for words p a false ≤ 1). ⊎_elim
    (λ (m : 1 < count_for words p a true). several true m)
    (λ (t : count_for words p a true ≤ 1). single (few_both (count_for words p a) f t))
    (cases_lt 1 (count_for words p a true)))
    (cases_lt 1 (count_for words p a false))

left : (x y : Bool) → (x && y) ≡ true → x ≡ true
left true y h = refl
left false y h = h

both_true : (x y : Bool) → x ≡ true → y ≡ true → (x && y) ≡ true
both_true true y h g = g
both_true false y h g = h

place_own : (n : ℕ) → eqb n n ≡ true
place_own n = grind (arith, nat_tests)

-- what a filter keeps stands somewhere
some_passes : {X : Type 0} (p : X → Bool) (xs : List X) (d : X) → 0 < length (filter p xs) → (i : ℕ) × (i < length xs) × (p (get_or xs i d) ≡ true)
some_passes p [] d l = absurd (omega (arith, l))
some_passes p (x ∷ xs) d l = by (p x) refl l (some_passes p xs d)
  where
    by : (b : Bool) → p x ≡ b → 0 < length (cond b (x ∷ filter p xs) (filter p xs))
        → (0 < length (filter p xs) → (i : ℕ) × (i < length xs) × (p (get_or xs i d) ≡ true)) → (i : ℕ) × (i < length (x ∷ xs)) × (p (get_or (x ∷ xs) i d) ≡ true)
    by true e m rest = (0, omega arith, e)
    by false e m rest = let r = rest m in (suc r.0, omega (arith, r.1), r.2)

-- ---- sending back

place_of_queue : (words : List WordRow) (q : Queue) (p a k place : ℕ) → IsQueueIn words q → position (stands_at p a) words ≡ Some k → is_queue k place q ≡ true → has_place words place p a ≡ true
place_of_queue words q p a k place h e t =
    let first : q.first ≡ k = grind (arith, nat_tests) in
    let same : q.place ≡ place = grind (arith, nat_tests) in
    let w : WordRow = get_or words q.first no_word in
    let stands : stands_at p a w ≡ true = subst (λ n. stands_at p a (get_or words n no_word) ≡ true) (sym first) (position-Some (stands_at p a) words k no_word e).1 in
    let at = one_address w w.port w.address p a (stands_at_own w) stands in
    subst (λ n. has_place words n p a ≡ true) same
    (subst (λ n. has_place words q.place n a ≡ true) at.0
    (subst (λ n. has_place words q.place w.port n ≡ true) at.1 h.place))

-- no queue of an address names a place without a word there
lacks : (words : List WordRow) (queues : List Queue) (p a k place : ℕ) → AreQueuesOf words queues → position (stands_at p a) words ≡ Some k
    → has_place words place p a ≡ false → list_any (is_queue k place) queues ≡ false
lacks words queues p a k place h e none = list_any_none (is_queue k place) queues (λ i d l. one (get_or queues i d) (h.each i d l))
  where
    one : (q : Queue) → IsQueueIn words q → is_queue k place q ≡ false
    one q g = by (is_queue k place q) refl
      where
        by : (b : Bool) → is_queue k place q ≡ b → b ≡ false
        by true t = sym (place_of_queue words q p a k place g e t) ∙ none
        by false t = refl

zero_cond : (b : Bool) → ◌≡◌ {A = ℕ} 0 (cond b 0 0)
zero_cond true = refl
zero_cond false = refl

pub back_is : (words : List WordRow) (all : List Queue) (old new : List ℕ) (place : ℕ) → AreQueuesOf words all → IsQuiet words old
    → ((k : ℕ) → slice_index new k ≡ cond (list_any (is_queue k place) all) 0 (slice_index old k)) → (p a : ℕ) → beats_of words new p a ≡ cond (has_place words place p a) 0 (beats_of words old p a)
back_is words all old new place h quiet done p a = by (position (stands_at p a) words) refl
  where
    at : (k : ℕ) → position (stands_at p a) words ≡ Some k → (b : Bool) → has_place words place p a ≡ b → cond (list_any (is_queue k place) all) 0 (slice_index old k) ≡ cond b 0 (slice_index old k)
    at k e false none = ap (λ b. cond b 0 (slice_index old k)) (lacks words all p a k place h e none)
    at k e true some = any (queues_there words p a)
      where
        any : Queues words p a → cond (list_any (is_queue k place) all) 0 (slice_index old k) ≡ 0
        any (several write m) =
            let here : unwrap_or (position (stands_at p a) words) 0 ≡ k = ap (λ o. unwrap_or o 0) e in
            ap (λ b. cond b 0 (slice_index old k)) (subst (λ n. list_any (is_queue n place) all ≡ true) here (h.all p a place write m some))
        any (single f) =
            let zero_there : slice_index old k ≡ 0 = sym (ap (beat_in old) e) ∙ quiet p a f in
            ap (λ n. cond (list_any (is_queue k place) all) 0 n) zero_there ∙ sym (zero_cond (list_any (is_queue k place) all))

    by : (o : Option ℕ) → position (stands_at p a) words ≡ o → beat_in new o ≡ cond (has_place words place p a) 0 (beat_in old o)
    by None e = zero_cond (has_place words place p a)
    by (Some k) e = done k ∙ at k e (has_place words place p a) refl

-- what stays quiet

next_zero : (beat n : ℕ) → n ≤ 1 → cond (ltb (beat + 1) n) (beat + 1) 0 ≡ 0
next_zero beat n k = grind (arith, nat_tests)

same_both : (p port a address : ℕ) (c : Bool) → (eqb p port && eqb a address && c) ≡ true → (p ≡ port) × (a ≡ address)
same_both p port a address true h = grind (arith, nat_tests)
same_both p port a address false h = let bad : ⊥ = none (eqb p port && eqb a address) h in absurd bad
  where
    none : (b : Bool) → (b && false) ≡ true → ⊥
    none true h = cc
    none false h = cc

pub quiet_set : (words : List WordRow) (old new : List ℕ) (port address beat : ℕ) (write c : Bool) → IsQuiet words old
    → ((p a : ℕ) → beats_of words new p a ≡ cond (eqb p port && eqb a address && c)
    (cond (ltb (beat + 1) (length (filter (stands_for port address write) words))) (beat + 1) 0) (beats_of words old p a)) → IsQuiet words new
quiet_set words old new port address beat write c quiet done p a few =
    done p a ∙ by (eqb p port && eqb a address && c) refl
  where
    next : ℕ
    next = cond (ltb (beat + 1) (length (filter (stands_for port address write) words))) (beat + 1) 0

    by : (b : Bool) → (eqb p port && eqb a address && c) ≡ b → cond b next (beats_of words old p a) ≡ 0
    by true e =
        let at = same_both p port a address c e in
        let here : count_for words port address write ≤ 1 = subst (λ n. count_for words n address write ≤ 1) at.0 (subst (λ n. count_for words p n write ≤ 1) at.1 (few write)) in
        next_zero beat (count_for words port address write) here
    by false e = quiet p a few

-- ---- the beat of an address set

-- a beat that is 0 already
same_zero : (beats : List ℕ) (i k : ℕ) → slice_index beats i ≡ 0 → slice_index (set beats i 0) k ≡ slice_index beats k
same_zero [] i k h = refl
same_zero (x ∷ beats) zero zero h = sym h
same_zero (x ∷ beats) zero (suc k) h = refl
same_zero (x ∷ beats) (suc i) zero h = refl
same_zero (x ∷ beats) (suc i) (suc k) h = same_zero beats i k h

zero_there : (words : List WordRow) (beats : List ℕ) (p a i : ℕ) → slice_index beats i ≡ 0 → beats_of words (set beats i 0) p a ≡ beats_of words beats p a
zero_there words beats p a i h = by (position (stands_at p a) words)
  where
    by : (o : Option ℕ) → beat_in (set beats i 0) o ≡ beat_in beats o
    by None = refl
    by (Some k) = same_zero beats i k h

keeps_zero : (b : Bool) (old : ℕ) → (b ≡ true → old ≡ 0) → old ≡ cond b 0 old
keeps_zero true old h = h refl
keeps_zero false old h = refl

-- where no words queue, the list may be shorter, and the beat is 0
set_short : (words : List WordRow) (beats : List ℕ) (port address i j p a : ℕ) → IsQuiet words beats
    → ((write : Bool) → count_for words port address write ≤ 1) → IsStretch (stands_at port address) words i j
    → beats_of words (cond (ltb i j) (slice_set beats i 0) beats) p a ≡ cond (eqb p port && eqb a address && is_some (position (stands_at port address) words)) 0 (beats_of words beats p a)
set_short words beats port address i j p a quiet few s =
    ⊎_elim
    (λ (l : i < j).
    let here = stretch_some (stands_at port address) words i j no_word s l in
    let zero_here : slice_index beats i ≡ 0 = sym (ap (beat_in beats) here) ∙ quiet port address few in
    ap (λ b. beats_of words (cond b (slice_set beats i 0) beats) p a) (lt-ltb i j l) ∙ zero_there words beats p a i zero_here ∙ same)
    (λ (g : j ≤ i). ap (λ b. beats_of words (cond b (slice_set beats i 0) beats) p a) (le-ltb i j g) ∙ same)
    (cases_lt i j)
  where
    c : Bool
    c = is_some (position (stands_at port address) words)

    same : beats_of words beats p a ≡ cond (eqb p port && eqb a address && c) 0 (beats_of words beats p a)
    same = keeps_zero (eqb p port && eqb a address && c) (beats_of words beats p a)
        (λ e. let at = same_both p port a address c e in rw (at.0, at.1) (quiet port address few))

pub set_is : (words : List WordRow) (beats : List ℕ) (port address i j value beat p a : ℕ) (write : Bool) → HasBeats words beats
    → IsQuiet words beats → value ≡ cond (ltb (beat + 1) (count_for words port address write)) (beat + 1) 0
    → IsStretch (stands_at port address) words i j → beats_of words (cond (ltb i j) (slice_set beats i value) beats) p a ≡ cond
    (eqb p port && eqb a address && is_some (position (stands_at port address) words)) value (beats_of words beats p a)
set_is words beats port address i j value beat p a write beaten quiet next s = by (queues_there words port address)
  where
    c : Bool
    c = is_some (position (stands_at port address) words)

    by : Queues words port address → beats_of words (cond (ltb i j) (slice_set beats i value) beats) p a ≡ cond (eqb p port && eqb a address && c) value (beats_of words beats p a)
    by (several way m) = set_long words beats port address i j value p a (beaten port address way m) s
    by (single f) =
        let none : value ≡ 0 = next ∙ next_zero beat (count_for words port address write) (f write) in
        subst (λ n. beats_of words (cond (ltb i j) (slice_set beats i n) beats) p a ≡ cond (eqb p port && eqb a address && c) n (beats_of words beats p a)) (sym none)
        (set_short words beats port address i j p a quiet f s)

-- ---- the first beats

-- where no address has a queue, none is wanted
no_queue : (words : List WordRow) (p a : ℕ) (write : Bool) → AreQueuesOf words [] → 1 < count_for words p a write → ⊥
no_queue words p a write h m =
    let at = some_passes (stands_for p a write) words no_word (omega (arith, m)) in
    let w = get_or words at.0 no_word in
    let stands : stands_at p a w ≡ true = left (stands_at p a w) _ at.2 in
    let own : (stands_at p a w && eqb w.place w.place) ≡ true = both_true (stands_at p a w) (eqb w.place w.place) stands (place_own w.place) in
    let there : has_place words w.place p a ≡ true = list_any_at (λ v. stands_at p a v && eqb v.place w.place) words at.0 no_word at.1 own in
    false≢true (h.all p a w.place write m there)

pub first_beaten : (words : List WordRow) (queues : List Queue) (beats : List ℕ) (n : ℕ) → AreQueuesOf words queues → n ≡ length words
    → beats ≡ replicate (cond (eqb (length queues) 0) 0 n) 0 → HasBeats words beats
first_beaten words [] beats n h long e p a write m = absurd (no_queue words p a write h m)
first_beaten words (q ∷ queues) beats n h long e p a write m =
    let some : eqb (length (q ∷ queues)) 0 ≡ false = grind (arith, nat_tests) in
    ap length e ∙ length-replicate (cond (eqb (length (q ∷ queues)) 0) 0 n) 0 ∙ ap (λ b. cond b 0 n) some ∙ long

-- ---- making the queues

any_push : (queues : List Queue) (q : Queue) (k place : ℕ) → list_any (is_queue k place) (queues ++ q ∷ []) ≡ (list_any (is_queue k place) queues || is_queue k place q)
any_push queues q k place = list_any-append (is_queue k place) queues (q ∷ []) ∙ ap (λ b. list_any (is_queue k place) queues || b) (or_false (is_queue k place q))
  where
    or_false : (b : Bool) → (b || false) ≡ b
    or_false true = refl
    or_false false = refl

or_left : (x y : Bool) → x ≡ true → (x || y) ≡ true
or_left true y h = refl
or_left false y h = let bad : ⊥ = cc in absurd bad

or_right : (x y : Bool) → y ≡ true → (x || y) ≡ true
or_right true y h = refl
or_right false y h = h

own_queue : (k place : ℕ) → is_queue k place (record { first = k; place = place }) ≡ true
own_queue k place = grind (arith, nat_tests)

-- the queues of the words so far
pub record AreQueuesSoFar (words : List WordRow) (n : ℕ) (queues : List Queue) : Type 0 where
  pub each : (i : ℕ) (d : Queue) → i < length queues → IsQueueIn words (get_or queues i d)
  pub all : (p a place : ℕ) (write : Bool) → 1 < count_for words p a write → has_place (take n words) place p a ≡ true
      → list_any (is_queue (unwrap_or (position (stands_at p a) words) 0) place) queues ≡ true

pub no_queues : (words : List WordRow) → AreQueuesSoFar words 0 []
no_queues words = record {
  each = λ i d l. absurd (omega (arith, l));
  all = λ p a place write more some. let bad : ⊥ = cc in absurd bad;
}

drop_false : (x : Bool) → (x || false) ≡ true → x ≡ true
drop_false true h = refl
drop_false false h = h

more_place : (words : List WordRow) (n : ℕ) (w : WordRow) (p a place : ℕ) → n < length words → w ≡ get_or words n w
    → has_place (take (n + 1) words) place p a ≡ (has_place (take n words) place p a || (stands_at p a w && eqb w.place place))
more_place words n w p a place l is =
    list_any_more (λ w. stands_at p a w && eqb w.place place) words n w l
    ∙ ap (λ v. has_place (take n words) place p a || (stands_at p a v && eqb v.place place)) (sym is)

-- how many of a direction stand at the address of a word
count_here : (words : List WordRow) (w : WordRow) (p a place : ℕ) (write : Bool) → (stands_at p a w && eqb w.place place) ≡ true
    → count_for words w.port w.address write ≤ 1 → count_for words p a write ≤ 1
count_here words w p a place write e few =
    let at = one_address w w.port w.address p a (stands_at_own w) (left (stands_at p a w) (eqb w.place place) e) in
    subst (λ n. count_for words n a write ≤ 1) at.0 (subst (λ n. count_for words w.port n write ≤ 1) at.1 few)

-- no words queue at the address of the word at n
few_all : (words : List WordRow) (n : ℕ) (queues : List Queue) (w : WordRow) (p a place : ℕ) (write : Bool)
    → count_for words w.port w.address write ≤ 1 → AreQueuesSoFar words n queues → 1 < count_for words p a write → (b : Bool)
    → (stands_at p a w && eqb w.place place) ≡ b → (has_place (take n words) place p a || b) ≡ true → list_any (is_queue (unwrap_or (position (stands_at p a) words) 0) place) queues ≡ true
few_all words n queues w p a place write few h more true e some = absurd (omega (arith, more, count_here words w p a place write e few))
few_all words n queues w p a place write few h more false e some = h.all p a place write more (drop_false (has_place (take n words) place p a) some)

pub few_more : (words : List WordRow) (n : ℕ) (queues : List Queue) (w : WordRow) → n < length words → w ≡ get_or words n w
    → ((write : Bool) → count_for words w.port w.address write ≤ 1) → AreQueuesSoFar words n queues → AreQueuesSoFar words (n + 1) queues
few_more words n queues w l is few h = record {
  each = h.each;
  all = λ p a place write more some. few_all words n queues w p a place write (few write) h more (stands_at p a w && eqb w.place place) refl (sym (more_place words n w p a place l is) ∙ some);
}

-- the word at n gets a queue
many_all : (words : List WordRow) (n : ℕ) (queues : List Queue) (w : WordRow) (i j p a place : ℕ) (write : Bool)
    → IsStretch (stands_at w.port w.address) words i j → i < j → AreQueuesSoFar words n queues → 1 < count_for words p a write → (b : Bool)
    → (stands_at p a w && eqb w.place place) ≡ b → (has_place (take n words) place p a || b) ≡ true
    → list_any (is_queue (unwrap_or (position (stands_at p a) words) 0) place) (queues ++ record { first = i; place = w.place } ∷ []) ≡ true
many_all words n queues w i j p a place write s less h more true e some =
    let q : Queue = record { first = i; place = w.place } in
    let at = one_address w w.port w.address p a (stands_at_own w) (left (stands_at p a w) (eqb w.place place) e) in
    let here : position (stands_at w.port w.address) words ≡ Some i = stretch_some (stands_at w.port w.address) words i j w s less in
    let there : position (stands_at p a) words ≡ Some i = subst (λ n. position (stands_at n a) words ≡ Some i) at.0 (subst (λ n. position (stands_at w.port n) words ≡ Some i) at.1 here) in
    let same : w.place ≡ place = place_same (stands_at p a w) w.place place e in
    let yes : is_queue (unwrap_or (position (stands_at p a) words) 0) place q ≡ true = rw there (subst (λ n. is_queue i n q ≡ true) same (own_queue i w.place)) in
    any_push queues q (unwrap_or (position (stands_at p a) words) 0) place
    ∙ or_right (list_any (is_queue (unwrap_or (position (stands_at p a) words) 0) place) queues) _ yes
  where
    place_same : (x : Bool) (n m : ℕ) → (x && eqb n m) ≡ true → n ≡ m
    place_same true n m h = grind (arith, nat_tests)
    place_same false n m h = let bad : ⊥ = cc in absurd bad
many_all words n queues w i j p a place write s less h more false e some =
    let q : Queue = record { first = i; place = w.place } in
    any_push queues q (unwrap_or (position (stands_at p a) words) 0) place
    ∙ or_left _ (is_queue (unwrap_or (position (stands_at p a) words) 0) place q) (h.all p a place write more (drop_false (has_place (take n words) place p a) some))

-- the queue of a word names a place with a word there
queue_in : (words : List WordRow) (n : ℕ) (w : WordRow) (i j : ℕ) → n < length words → w ≡ get_or words n w
    → IsStretch (stands_at w.port w.address) words i j → i < j → IsQueueIn words (record { first = i; place = w.place })
queue_in words n w i j l is s less =
    let first = get_or words i no_word in
    let inside : i < length words = omega (arith, less, s.within) in
    let stands : stands_at w.port w.address first ≡ true = s.inside i no_word (omega arith) less in
    let at = one_address first w.port w.address first.port first.address stands (stands_at_own first) in
    let own : (stands_at w.port w.address (get_or words n w) && eqb (get_or words n w).place w.place) ≡ true =
    rw (← is) (both_true (stands_at w.port w.address w) (eqb w.place w.place) (stands_at_own w) (place_own w.place)) in
    let there : has_place words w.place w.port w.address ≡ true = list_any_at (λ v. stands_at w.port w.address v && eqb v.place w.place) words n w l own in
    record {
      inside = inside;
      place = subst (λ n. has_place words w.place n first.address ≡ true) at.0 (subst (λ n. has_place words w.place w.port n ≡ true) at.1 there);
    }

each_push : (words : List WordRow) (queues : List Queue) (q : Queue)
    → ((i : ℕ) (d : Queue) → i < length queues → IsQueueIn words (get_or queues i d)) → IsQueueIn words q → (i : ℕ) (d : Queue)
    → i < length (queues ++ q ∷ []) → IsQueueIn words (get_or (queues ++ q ∷ []) i d)
each_push words queues q each last i d l = All-append (IsQueueIn words) queues (q ∷ []) each (All-cons (IsQueueIn words) q [] last (All-nil (IsQueueIn words))) i d l

pub many_more : (words : List WordRow) (n : ℕ) (queues : List Queue) (w : WordRow) (i j : ℕ) → n < length words → w ≡ get_or words n w
    → IsStretch (stands_at w.port w.address) words i j → i < j → AreQueuesSoFar words n queues → AreQueuesSoFar words (n + 1) (queues ++ record { first = i; place = w.place } ∷ [])
many_more words n queues w i j l is s less h = record {
  each = each_push words queues (record { first = i; place = w.place }) h.each (queue_in words n w i j l is s less);
  all = λ p a place write more some. many_all words n queues w i j p a place write s less h more (stands_at p a w && eqb w.place place) refl (sym (more_place words n w p a place l is) ∙ some);
}

pub few_at : (words : List WordRow) (n : ℕ) (queues : List Queue) (d : WordRow) → n < length words
    → ((write : Bool) → count_for words (get_or words n d).port (get_or words n d).address write ≤ 1) → AreQueuesSoFar words n queues → AreQueuesSoFar words (n + 1) queues
few_at words n queues d l few h = few_more words n queues (get_or words n d) l (any_default words n d (get_or words n d) l) few h

-- a word stands in the part of its own address
own_part : (words : List WordRow) (n : ℕ) (w : WordRow) (i j : ℕ) → n < length words → w ≡ get_or words n w → IsStretch (stands_at w.port w.address) words i j → i < j
own_part words n w i j l is s = ⊎_elim
    (λ (less : i < j). less)
    (λ (none : j ≤ i). absurd (⊎_elim
    (λ (low : n < i). missing (s.before n w low))
    (λ (high : i ≤ n). missing (s.behind n w (omega (arith, none, high)) l))
    (cases_lt n i)))
    (cases_lt i j)
  where
    missing : stands_at w.port w.address (get_or words n w) ≡ false → ⊥
    missing h = false≢true (sym (ap (stands_at w.port w.address) is ∙ h) ∙ stands_at_own w)

pub many_at : (words : List WordRow) (n : ℕ) (queues : List Queue) (d : WordRow) (i j : ℕ) → n < length words
    → IsStretch (stands_at (get_or words n d).port (get_or words n d).address) words i j → AreQueuesSoFar words n queues
    → AreQueuesSoFar words (n + 1) (queues ++ record { first = i; place = (get_or words n d).place } ∷ [])
many_at words n queues d i j l s h =
    let w = get_or words n d in
    let is : w ≡ get_or words n w = any_default words n d w l in
    many_more words n queues w i j l is s (own_part words n w i j l is s) h

-- ---- one queue more is sent back

or_no : (x b : Bool) → b ≡ false → (x || b) ≡ x
or_no true b e = refl
or_no false b e = e

yes_queue : (q : Queue) (k place : ℕ) → k ≡ q.first → q.place ≡ place → is_queue k place q ≡ true
yes_queue q k place e f = grind (arith, nat_tests)

other_first : (q : Queue) (k place : ℕ) → (k ≡ q.first → ⊥) → is_queue k place q ≡ false
other_first q k place e = grind (arith, nat_tests)

other_place : (q : Queue) (k place : ℕ) → (q.place ≡ place → ⊥) → is_queue k place q ≡ false
other_place q k place e = by (eqb q.first k)
  where
    apart : eqb q.place place ≡ false
    apart = grind (arith, nat_tests)

    by : (b : Bool) → (b && eqb q.place place) ≡ false
    by true = apart
    by false = refl

zero_set : (beats : List ℕ) (k : ℕ) → slice_index (set beats k 0) k ≡ 0
zero_set [] k = refl
zero_set (x ∷ beats) zero = refl
zero_set (x ∷ beats) (suc k) = zero_set beats k

pub set_step : (queues : List Queue) (beats old : List ℕ) (place i k : ℕ) (d : Queue) → i < length queues
    → (get_or queues i d).place ≡ place → slice_index beats k ≡ cond (list_any (is_queue k place) (take i queues)) 0 (slice_index old k)
    → slice_index (set beats (get_or queues i d).first 0) k ≡ cond (list_any (is_queue k place) (take (i + 1) queues)) 0 (slice_index old k)
set_step queues beats old place i k d l same h =
    let q = get_or queues i d in
    let more = list_any_more (is_queue k place) queues i d l in
    ⊎_elim
    (λ (here : k ≡ q.first).
    let any : list_any (is_queue k place) (take (i + 1) queues) ≡ true = more ∙ or_right (list_any (is_queue k place) (take i queues)) (is_queue k place q) (yes_queue q k place here same) in
    ap (slice_index (set beats q.first 0)) here ∙ zero_set beats q.first
    ∙ sym (ap (λ b. cond b 0 (slice_index old k)) any))
    (λ (other : k ≡ q.first → ⊥).
    let none : list_any (is_queue k place) (take (i + 1) queues) ≡ list_any (is_queue k place) (take i queues) =
    more ∙ or_no (list_any (is_queue k place) (take i queues)) (is_queue k place q) (other_first q k place other) in
    get_or-set_other beats q.first k 0 0 other ∙ h ∙ sym (ap (λ b. cond b 0 (slice_index old k)) none))
    (cases_eq k q.first)

pub skip_step : (queues : List Queue) (beats old : List ℕ) (place i k : ℕ) (d : Queue) → i < length queues
    → ((get_or queues i d).place ≡ place → ⊥) → slice_index beats k ≡ cond (list_any (is_queue k place) (take i queues)) 0
    (slice_index old k) → slice_index beats k ≡ cond (list_any (is_queue k place) (take (i + 1) queues)) 0 (slice_index old k)
skip_step queues beats old place i k d l other h =
    let none : list_any (is_queue k place) (take (i + 1) queues) ≡ list_any (is_queue k place) (take i queues) =
    list_any_more (is_queue k place) queues i d l ∙ or_no (list_any (is_queue k place) (take i queues)) (is_queue k place (get_or queues i d)) (other_place (get_or queues i d) k place other) in
    h ∙ sym (ap (λ b. cond b 0 (slice_index old k)) none)

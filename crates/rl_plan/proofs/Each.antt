-- What the steps show, tried for each policy.
use Rattle.std.proofs.Common.{◌≡◌, ℕ, zero, suc, ◌<◌, Bool, true, false, not, ◌&&◌, ◌||◌, List, [], ◌∷◌, length, get_or, bytes_eq, Option, Some, None, refl, ap, arith}
use Rattle.std.specs.List.{list_all}
use Rattle.rl_policy.specs.declared.policy.Policy.{Policy}
use Rattle.rl_policy.specs.declared.policy.Policy.TheVariants.{Ro, Rw, Rc, Rs, Wrc, Wrs, Wc, Ws, Wsrc, Wcrs, W1c, W1s, W1t, W0c, W0s, W0t, W1src, W1crs, W0src, W0crs, Wo, Woc, Wos, W1, Wo1}
use Rattle.rl_policy.specs.declared.policy.TheConstants.{POLICIES}
use Rattle.rl_policy.specs.Names.{name_of}
use Rattle.rl_policy.specs.Table.{is_write_only}
use Rattle.rl_plan.specs.Bits.{Flawed, ForgetsAtReset, Held, ShowsDeafOnes, ShowsStuckBits, ShowsWrongResets, TellsPoliciesApart, is_shown, takes_writes, unflawed}

first : (b c : Bool) → (b && c) ≡ true → b ≡ true
first true c h = refl
first false c h = absurd (cc)

second : (b c : Bool) → (b && c) ≡ true → c ≡ true
second true c h = h
second false c h = absurd (cc)

one_of : (f : Policy → Bool) (ps : List Policy) (i : ℕ) (d : Policy) → i < length ps → list_all f ps ≡ true → f (get_or ps i d) ≡ true
one_of f [] i d low all = absurd (omega arith)
one_of f (p ∷ ps) zero d low all = first (f p) (list_all f ps) all
one_of f (p ∷ ps) (suc i) d low all = one_of f ps i d (omega arith) (second (f p) (list_all f ps) all)

module _ (f : Policy → Bool) (all : list_all f POLICIES ≡ true) where
  tried : (i : ℕ) → i < 25 → f (get_or POLICIES i Ro) ≡ true
  tried i low = one_of f POLICIES i Ro low all

  each : (p : Policy) → f p ≡ true
  each Ro = tried 0 (omega arith)
  each Rw = tried 1 (omega arith)
  each Rc = tried 2 (omega arith)
  each Rs = tried 3 (omega arith)
  each Wrc = tried 4 (omega arith)
  each Wrs = tried 5 (omega arith)
  each Wc = tried 6 (omega arith)
  each Ws = tried 7 (omega arith)
  each Wsrc = tried 8 (omega arith)
  each Wcrs = tried 9 (omega arith)
  each W1c = tried 10 (omega arith)
  each W1s = tried 11 (omega arith)
  each W1t = tried 12 (omega arith)
  each W0c = tried 13 (omega arith)
  each W0s = tried 14 (omega arith)
  each W0t = tried 15 (omega arith)
  each W1src = tried 16 (omega arith)
  each W1crs = tried 17 (omega arith)
  each W0src = tried 18 (omega arith)
  each W0crs = tried 19 (omega arith)
  each Wo = tried 20 (omega arith)
  each Woc = tried 21 (omega arith)
  each Wos = tried 22 (omega arith)
  each W1 = tried 23 (omega arith)
  each Wo1 = tried 24 (omega arith)

-- ---- from a test that passes to what it is of

behind : (b c : Bool) → (b || c) ≡ true → b ≡ false → c ≡ true
behind true c h e = absurd (cc)
behind false c h e = h

-- first writes are still to come
abbrev holding : (mirrored stored : Bool) → Held
holding mirrored stored = record { mirrored = mirrored; spent = false; stored = stored; spent_there = false }

-- the flaw shows from each reset value on, and without one from each value in model and device
abbrev is_always_shown : Policy → Flawed → Bool
is_always_shown p f =
    is_shown p f (Some false) (holding false false) && (is_shown p f (Some true) (holding false false)
    && (is_shown p f None (holding false false) && (is_shown p f None (holding false true)
    && (is_shown p f None (holding true false) && is_shown p f None (holding true true)))))

module _ (p : Policy) (f : Flawed) where
  without_value : (mirrored stored : Bool) → is_always_shown p f ≡ true → is_shown p f None (holding mirrored stored) ≡ true
  without_value mirrored stored h = by mirrored stored (second (is_shown p f (Some true) (holding false false)) _ (second (is_shown p f (Some false) (holding false false)) _ h))
    where
      by : (mirrored stored : Bool)
          → (is_shown p f None (holding false false) && (is_shown p f None (holding false true)
          && (is_shown p f None (holding true false) && is_shown p f None (holding true true)))) ≡ true
          → is_shown p f None (holding mirrored stored) ≡ true
      by false false h = first (is_shown p f None (holding false false)) _ h
      by false true h = first (is_shown p f None (holding false true)) _ (second (is_shown p f None (holding false false)) _ h)
      by true false h =
          first (is_shown p f None (holding true false)) _
          (second (is_shown p f None (holding false true)) _ (second (is_shown p f None (holding false false)) _ h))
      by true true h =
          second (is_shown p f None (holding true false)) _
          (second (is_shown p f None (holding false true)) _ (second (is_shown p f None (holding false false)) _ h))

  -- a reset makes first writes possible again, and gives the value, where there is one
  for_each : (value : Option Bool) (held : Held) → is_always_shown p f ≡ true → is_shown p f value held ≡ true
  for_each None held h = without_value held.mirrored held.stored h
  for_each (Some false) held h = first (is_shown p f (Some false) (holding false false)) _ h
  for_each (Some true) held h =
      first (is_shown p f (Some true) (holding false false)) _ (second (is_shown p f (Some false) (holding false false)) _ h)

-- ---- policies

abbrev is_told : Policy → Policy → Bool
is_told p q = is_write_only p || (bytes_eq (name_of q) (name_of p) || is_always_shown p (unflawed q))

all_told : list_all (λ p. list_all (is_told p) POLICIES) POLICIES ≡ true
all_told = refl

pub told_apart : TellsPoliciesApart
told_apart p q value held readable other =
    for_each p (unflawed q) value held (behind (bytes_eq (name_of q) (name_of p)) _
    (behind (is_write_only p) _ (each (is_told p) (each (λ p. list_all (is_told p) POLICIES) all_told p) q) readable) other)

-- ---- stuck bits

abbrev is_stuck_shown : Bool → Policy → Bool
is_stuck_shown where_to p = is_write_only p || is_always_shown p (record (unflawed p) { stuck = Some where_to })

all_stuck : (value : Bool) → list_all (is_stuck_shown value) POLICIES ≡ true
all_stuck true = refl
all_stuck false = refl

pub stuck_shown : ShowsStuckBits
stuck_shown p stuck_at value held readable =
    for_each p (record (unflawed p) { stuck = Some stuck_at }) value held
    (behind (is_write_only p) _ (each (is_stuck_shown stuck_at) (all_stuck stuck_at) p) readable)

-- ---- deaf ones

abbrev is_deaf_shown : Policy → Bool
is_deaf_shown p = is_write_only p || (not (takes_writes p) || is_always_shown p (record (unflawed p) { deaf = true }))

all_deaf : list_all is_deaf_shown POLICIES ≡ true
all_deaf = refl

pub deaf_shown : ShowsDeafOnes
deaf_shown p value held readable takes =
    for_each p (record (unflawed p) { deaf = true }) value held
    (behind (not (takes_writes p)) _ (behind (is_write_only p) _ (each is_deaf_shown all_deaf p) readable) (ap not takes))

-- ---- wrong resets

abbrev is_wrong_shown : Bool → Policy → Bool
is_wrong_shown value p = is_write_only p || is_shown p (record (unflawed p) { wrong = true }) (Some value) (holding false false)

all_wrong : (value : Bool) → list_all (is_wrong_shown value) POLICIES ≡ true
all_wrong true = refl
all_wrong false = refl

pub wrong_shown : ShowsWrongResets
wrong_shown p value held readable = behind (is_write_only p) _ (each (is_wrong_shown value) (all_wrong value) p) readable

-- ---- what was held before a reset

pub forgets : ForgetsAtReset
forgets p f value steps held other = refl

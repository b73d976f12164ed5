-- The rows of flaws, one flaw after another.
use Rattle.std.proofs.Common.{◌≡◌, ℕ, ◌+◌, ◌<◌, ◌≤◌, List, [], ◌∷◌, ◌++◌, length, get_or, drop, refl, sym, ap, ◌∙◌, append_assoc}
use Rattle.std.proofs.lemmas.List.{append-nil}
use Rattle.rl_bus.specs.Setup.{Flaws}
use Rattle.rl_flaw.specs.declared.flaw.Flaw.{Flaw}
use Rattle.rl_flaw.specs.declared.flaw.Flaw.TheVariants.{OtherPolicy, OtherReset, Stuck, ErrorRange, ErrorNth, Deaf}
use Rattle.rl_flaw.specs.Flaws.{flaws_of, with_flaw}
use Rattle.rl_bench.proofs.ListLemmas.{drop_at, nothing_from}

-- some rows, and others behind them
abbrev pub both : Flaws → Flaws → Flaws
both t u = record {
  policies = t.policies ++ u.policies;
  resets = t.resets ++ u.resets;
  stuck = t.stuck ++ u.stuck;
  ranges = t.ranges ++ u.ranges;
  nths = t.nths ++ u.nths;
  deaf = t.deaf ++ u.deaf;
}

one_more : (t : Flaws) (flaw : Flaw) (flaws : List Flaw) → both (with_flaw t flaw) (flaws_of flaws) ≡ both t (flaws_of (flaw ∷ flaws))
one_more t (OtherPolicy f p) flaws = ap (λ rows. record (both t (flaws_of flaws)) { policies = rows }) (append_assoc t.policies _ (flaws_of flaws).policies)
one_more t (OtherReset f k v) flaws = ap (λ rows. record (both t (flaws_of flaws)) { resets = rows }) (append_assoc t.resets _ (flaws_of flaws).resets)
one_more t (Stuck f b v) flaws = ap (λ rows. record (both t (flaws_of flaws)) { stuck = rows }) (append_assoc t.stuck _ (flaws_of flaws).stuck)
one_more t (ErrorRange p a b) flaws = ap (λ rows. record (both t (flaws_of flaws)) { ranges = rows }) (append_assoc t.ranges _ (flaws_of flaws).ranges)
one_more t (ErrorNth n) flaws = ap (λ rows. record (both t (flaws_of flaws)) { nths = rows }) (append_assoc t.nths _ (flaws_of flaws).nths)
one_more t (Deaf i) flaws = ap (λ rows. record (both t (flaws_of flaws)) { deaf = rows }) (append_assoc t.deaf _ (flaws_of flaws).deaf)

pub flaws_next : (t : Flaws) (flaws : List Flaw) (i : ℕ) (d : Flaw) → i < length flaws
    → both (with_flaw t (get_or flaws i d)) (flaws_of (drop (i + 1) flaws)) ≡ both t (flaws_of (drop i flaws))
flaws_next t flaws i d low = one_more t (get_or flaws i d) (drop (i + 1) flaws) ∙ ap (λ fs. both t (flaws_of fs)) (sym (drop_at flaws i d low))

both_nothing : (t : Flaws) → both t (flaws_of []) ≡ t
both_nothing t = rw (append-nil t.policies, append-nil t.resets, append-nil t.stuck, append-nil t.ranges, append-nil t.nths, append-nil t.deaf) refl

pub flaws_done : (t all : Flaws) (flaws : List Flaw) (i : ℕ) → length flaws ≤ i → both t (flaws_of (drop i flaws)) ≡ all → t ≡ all
flaws_done t all flaws i high was = sym (both_nothing t) ∙ ap (λ fs. both t (flaws_of fs)) (sym (nothing_from flaws i high)) ∙ was

-- How a run ends: what is kept back then, and how its status goes by its counts.
use Rattle.std.proofs.Common.{◌≡◌, ◌≢◌, ℕ, ◌≤◌, arith, slice_range, OnOk, Bool, true, false, if◌then◌else◌, List, []}
use Rattle.std.proofs.Common.{Result, Ok, Err, Some, None, refl, sym, ap, subst, ◌∙◌, append-nil}
use Rattle.std.proofs.KnownBytes.{Keeps-trans}
use Rattle.std.proofs.lemmas.Bool.{true≢false}
use Rattle.std.specs.declared.option.Option.{Option}
use Rattle.std.specs.Io.KnownBytes.{Keeps, append_known}
use Rattle.rl_log.specs.declared.counts.Counts.{Counts}
use Rattle.rl_log.specs.declared.status.Status.{Status}
use Rattle.rl_log.specs.declared.status.Status.TheVariants.{Passed, Found}
use Rattle.rl_log.specs.Endings.{is_clean, end_status, IsCounted}
use Rattle.rl_log.specs.Statuses.{is_complete}

-- ---- nothing is kept back

pub append_none : (a : Option (List ℕ)) → append_known a [] ≡ a
append_none None = refl
append_none (Some xs) = ap Some (append-nil xs)

pub on_ok : {T E : Type 0} (r : Result T E) (P : Type 0) → P → OnOk r P
on_ok (Ok x) P h = h
on_ok (Err e) P h = tt

pub none_kept : (bytes : List ℕ) (start end : ℕ) → start ≤ end → end ≡ 0 → slice_range bytes start end ≡ []
none_kept bytes start end ordered none =
    let first : start ≡ 0 = omega arith in
    ap (λ e. slice_range bytes start e) none ∙ ap (λ s. slice_range bytes s 0) first

-- the bytes that were told are written, where nothing is kept back
pub keeps_when_empty : (a b c : Option (List ℕ)) (kept : List ℕ) → Keeps a (append_known b kept) → kept ≡ []
    → Keeps b c → Keeps a c
keeps_when_empty a b c kept told none written =
    Keeps-trans a b c (subst (Keeps a) (ap (append_known b) none ∙ append_none b) told) written

-- ---- a status that goes by the counts

pub counted_other : (status : Status) (counts : Counts) → status ≢ Passed → status ≢ Found → IsCounted status counts
counted_other status counts p f = record { passed = λ e. absurd (p e); found = λ e. absurd (f e) }

pub counted_none : (status : Status) (counts : Counts) → is_complete status ≡ false → IsCounted status counts
counted_none status counts broken = record {
  passed = λ e. absurd (true≢false (sym (ap is_complete e) ∙ broken));
  found = λ e. absurd (true≢false (sym (ap is_complete e) ∙ broken));
}

only_clean : (b : Bool) → (if b then Passed else Found) ≡ Passed → b ≡ true
only_clean true e = refl
only_clean false e = absurd (cc)

not_clean : (b : Bool) → (if b then Passed else Found) ≡ Found → b ≡ false
not_clean true e = absurd (cc)
not_clean false e = refl

-- a status that goes by the counts at the end of a script
pub counted_end : (status : Status) (counts : Counts) → status ≡ end_status counts → IsCounted status counts
counted_end status counts is =
    record {
      passed = λ e. only_clean (is_clean counts) (sym is ∙ e);
      found = λ e. not_clean (is_clean counts)
          (sym is ∙ e);
    }

pub incomplete : (b : Bool) → (b ≡ true → ⊥) → b ≡ false
incomplete true h = absurd (h refl)
incomplete false h = refl

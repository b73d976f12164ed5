-- The sums of shares that are all of one grading, each once.
use Rattle.std.specs.Prelude.{ℕ, ◌+◌, ◌==◌, ◌&&◌, not, Bool, if◌then◌else◌, List, [], ◌∷◌, find, slice_get, Option, Some, None, Result, Ok, Err}
use Rattle.std.specs.List.{list_any, range_with_len, sum_by}
use Rattle.rl_grade_report.specs.declared.said.Head.{Head}
use Rattle.rl_grade_report.specs.declared.shares.Part.{Part}
use Rattle.rl_grade_report.specs.declared.shares.Unfit.{Unfit}
use Rattle.rl_grade_report.specs.declared.shares.Unfit.TheVariants.{NoShare, OfAnother, Twice, Lacking}
use Rattle.rl_grade_report.specs.declared.totals.Totals.{Totals}
use Rattle.rl_grade_report.specs.Totals.{capped}

-- ---- whether they are all of one grading, each once

-- a share of the same session, and one of as many
abbrev pub is_of : (first : Head) → Part → Bool
is_of first part = part.head.mark == first.mark && part.head.share.every == first.share.every

-- the first that is of another grading
abbrev pub other_in : (first : Head) → List Part → Option Part
other_in first parts = find (λ part. not (is_of first part)) parts

-- the share of this number came
abbrev pub has_share : (number : ℕ) → List Part → Bool
has_share number parts = list_any (λ part. part.head.share.first == number) parts

-- the first that comes once more behind it
abbrev pub twice_in : List Part → Option Part
twice_in [] = None
twice_in (part ∷ parts) = if has_share part.head.share.first parts then Some part else twice_in parts

-- the least number of 1 to `every` whose share didn't come
abbrev pub lacking_in : (every : ℕ) → List Part → Option ℕ
lacking_in every parts = find (λ number. not (has_share number parts)) (range_with_len 1 every)

-- ---- their sums

abbrev pub plus : (sums more : Totals) → Totals
plus sums more = record {
  flaws = capped (sums.flaws + more.flaws);
  found = capped (sums.found + more.found);
  hidden = capped (sums.hidden + more.hidden);
  waived = capped (sums.waived + more.waived);
  needless = capped (sums.needless + more.needless);
}

-- a sum that has come to its end stays there
abbrev pub sum_of : List Part → Totals
sum_of parts = record {
  flaws = capped (sum_by (λ part. part.totals.flaws) parts);
  found = capped (sum_by (λ part. part.totals.found) parts);
  hidden = capped (sum_by (λ part. part.totals.hidden) parts);
  waived = capped (sum_by (λ part. part.totals.waived) parts);
  needless = capped (sum_by (λ part. part.totals.needless) parts);
}

-- the sums, unless one is of another grading, came more than once or is lacking; the first of these is told
abbrev pub sums_unless : (other twice : Option Part) → (lacking : Option ℕ) → (every : ℕ) → (sums : Totals)
    → Result Totals Unfit
sums_unless (Some part) twice lacking every sums = Err (OfAnother part.head.share)
sums_unless None (Some part) lacking every sums = Err (Twice part.head.share)
sums_unless None None (Some number) every sums = Err (Lacking (record { first = number; every = every }))
sums_unless None None None every sums = Ok sums

-- of shares of which this is the first
abbrev pub sums_from : (first : Head) → List Part → Result Totals Unfit
sums_from first parts =
    sums_unless (other_in first parts) (twice_in parts) (lacking_in first.share.every parts) first.share.every
    (sum_of parts)

abbrev pub sums_by : (first : Option Part) → List Part → Result Totals Unfit
sums_by None parts = Err NoShare
sums_by (Some first) parts = sums_from first.head parts

-- the sums of the totals of all shares of one grading, in any order
abbrev pub sums_in : List Part → Result Totals Unfit
sums_in parts = sums_by (slice_get parts 0) parts

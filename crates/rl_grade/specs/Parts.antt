-- That the shares of a count take each flaw once between them.
use Rattle.std.specs.Prelude.{◌≡◌, ℕ, ◌+◌, ◌<◌, ◌≤◌, true, List, ◌++◌, length, Contains, Some, slice_get}
use Rattle.rl_flaw.specs.declared.flaw.Flaw.{Flaw}
use Rattle.rl_grade.specs.declared.grade.Share.{Share}
use Rattle.rl_grade.specs.Share.{is_in_share, share_of}

-- share k of n
abbrev pub part : (k n : ℕ) → Share
part k n = record { first = k; every = n }

-- The only share of one has every flaw.
abbrev pub WholeHasAll : Type 0
WholeHasAll = (before : ℕ) (flaws : List Flaw) → share_of (part 1 1) before flaws ≡ flaws

-- of n shares this one alone takes the flaw of that number
pub record IsInOne (n number : ℕ) : Type 0 where
  pub k : ℕ
  pub from_one : 0 < k
  pub up_to_n : k ≤ n
  pub takes : is_in_share (part k n) number ≡ true
  pub alone : (j : ℕ) → 0 < j → j ≤ n → is_in_share (part j n) number ≡ true → j ≡ k

-- Each flaw is in exactly one of n shares.
abbrev pub EachIsInOne : Type 0
EachIsInOne = (n number : ℕ) → 0 < n → 0 < number → IsInOne n number

-- the flaw stands in a list behind so many others, with a number that the share takes
pub record HasNumberIn (share : Share) (before : ℕ) (flaws : List Flaw) (flaw : Flaw) : Type 0 where
  pub at : ℕ
  pub there : slice_get flaws at ≡ Some flaw
  pub takes : is_in_share share (before + at + 1) ≡ true

-- A share has exactly the flaws whose number it takes.
pub record IsByNumber (share : Share) (before : ℕ) (flaws : List Flaw) (flaw : Flaw) : Type 0 where
  pub taken : Contains (share_of share before flaws) flaw → HasNumberIn share before flaws flaw
  pub takes : HasNumberIn share before flaws flaw → Contains (share_of share before flaws) flaw

abbrev pub ShareIsByNumber : Type 0
ShareIsByNumber = (share : Share) (before : ℕ) (flaws : List Flaw) (flaw : Flaw) → IsByNumber share before flaws flaw

-- Place by place it has those that it has of all.
abbrev pub PlacesAddUp : Type 0
PlacesAddUp =
    (share : Share) (before : ℕ) (first others : List Flaw)
    → share_of share before (first ++ others)
    ≡ share_of share before first ++ share_of share (before + length first) others

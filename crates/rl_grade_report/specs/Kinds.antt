-- The kinds of single flaws.
use Rattle.std.specs.Prelude.{ℕ, List, Bool, bytes_eq, codes}
use Rattle.rl_flaw.specs.declared.flaw.Flaw.{Flaw}
use Rattle.rl_flaw.specs.declared.flaw.Flaw.TheVariants as flaw
use Rattle.rl_grade_report.specs.declared.kind.Kind.{Kind}
use Rattle.rl_grade_report.specs.declared.kind.Kind.TheVariants.{Stuck, Reset, Policy, Deaf, Address, Item}

abbrev pub kind_of : Flaw → Kind
kind_of (flaw.Stuck f b v) = Stuck
kind_of (flaw.OtherReset f k v) = Reset
kind_of (flaw.OtherPolicy f p) = Policy
kind_of (flaw.Deaf i) = Deaf
kind_of (flaw.ErrorRange p a b) = Address
kind_of (flaw.ErrorNth n) = Item

abbrev pub kind_name : Kind → List ℕ
kind_name Stuck = codes "stuck"
kind_name Reset = codes "reset"
kind_name Policy = codes "policy"
kind_name Deaf = codes "deaf"
kind_name Address = codes "address"
kind_name Item = codes "item"

-- the flaw's kind has this name
abbrev pub is_kind : Kind → Flaw → Bool
is_kind kind f = bytes_eq (kind_name (kind_of f)) (kind_name kind)

-- Whether two flaws are one.
use Rattle.std.specs.Prelude.{◌==◌, ◌&&◌, Bool, false, bytes_eq}
use Rattle.rl_policy.specs.Names.{name_of}
use Rattle.rl_map.specs.Layout.{same_item}
use Rattle.rl_flaw.specs.declared.flaw.Flaw.{Flaw}
use Rattle.rl_flaw.specs.declared.flaw.Flaw.TheVariants.{Deaf, ErrorNth, ErrorRange, OtherPolicy, OtherReset, Stuck}
use Rattle.rl_grade.specs.Hidden.{is_same}

abbrev pub is_same_flaw : Flaw → Flaw → Bool
is_same_flaw (Stuck f b v) (Stuck g c w) = f == g && (b == c && is_same v w)
is_same_flaw (OtherReset f k v) (OtherReset g l w) = f == g && (k == l && v == w)
is_same_flaw (OtherPolicy f p) (OtherPolicy g q) = f == g && bytes_eq (name_of p) (name_of q)
is_same_flaw (ErrorRange p a b) (ErrorRange q c d) = p == q && (a == c && b == d)
is_same_flaw (ErrorNth m) (ErrorNth n) = m == n
is_same_flaw (Deaf i) (Deaf j) = same_item i j
is_same_flaw _ _ = false

-- What the table of a row says as a description.
use Rattle.std.proofs.Common.{◌≡◌, ℕ, pos, ◌<◌, ◌≤◌, ◌^◌, Bool, true, false, if◌then◌else◌, nat_le, List, Some, None, is_some, Result, Ok, refl, ap, arith, lt-ltb}
use Rattle.std.proofs.lemmas.Bool.Decides.{nat_tests}
use Rattle.toml.specs.Data.{string, integer, Members}
use Rattle.rl_policy.specs.declared.policy.Policy.{Policy}
use Rattle.rl_policy.specs.declared.policy.Policy.TheVariants.{Ro, Rw, Rc, Rs, Wrc, Wrs, Wc, Ws, Wsrc, Wcrs, W1c, W1s, W1t, W0c, W0s, W0t, W1src, W1crs, W0src, W0crs, Wo, Woc, Wos, W1, Wo1}
use Rattle.rl_policy.specs.Names.{name_of}
use Rattle.rl_policy.specs.Numbers.{spelled}
use Rattle.rl_policy.proofs.TextLemmas.{spelling_reads}
use Rattle.rl_model.specs.declared.fault.Spot.{Spot}
use Rattle.rl_model.specs.declared.rows.Item.{Item}
use Rattle.rl_flaw.specs.declared.flaw.Flaw.{Flaw}
use Rattle.rl_flaw.specs.declared.flaw.Flaw.TheVariants as flaw
use Rattle.rl_flaw.specs.Flaws.{width_of}
use Rattle.rl_desc.specs.declared.key.Key.{Key}
use Rattle.rl_desc.specs.declared.key.Key.TheVariants as key
use Rattle.rl_desc.specs.declared.fault.DescCause.{DescCause}
use Rattle.rl_desc.specs.Words.{policy_named}
use Rattle.rl_desc.specs.Shapes.{number, fitting}
use Rattle.rl_desc.specs.Reading.{flaw_fault, flaw_of as part_of}
use Rattle.rl_desc.specs.Data.{DescData}
use Rattle.rl_desc.specs.Flaws.{field_at, kind_at, item_at, root_at, reset_value, flaw_of}
use Rattle.rl_grade_report.proofs.RowText.{stuck_table, reset_table, policy_table, range_table, nth_table, deaf_table}

abbrev Read : ℕ → Result ℕ DescCause
Read n = Ok n

integer_reads : (k : Key) (n : ℕ) → number k (integer (pos n)) ≡ Read n
unfolding number
integer_reads k n = refl

spelled_reads : (k : Key) (n : ℕ) → n < 2 ^ 64 → number k (string (spelled n)) ≡ Read n
unfolding number
spelled_reads k n small = ap (fitting k) (spelling_reads n small)

policy_reads : (p : Policy) → policy_named (name_of p) ≡ Some p
unfolding policy_named
policy_reads Ro = refl
policy_reads Rw = refl
policy_reads Rc = refl
policy_reads Rs = refl
policy_reads Wrc = refl
policy_reads Wrs = refl
policy_reads Wc = refl
policy_reads Ws = refl
policy_reads Wsrc = refl
policy_reads Wcrs = refl
policy_reads W1c = refl
policy_reads W1s = refl
policy_reads W1t = refl
policy_reads W0c = refl
policy_reads W0s = refl
policy_reads W0t = refl
policy_reads W1src = refl
policy_reads W1crs = refl
policy_reads W0src = refl
policy_reads W0crs = refl
policy_reads Wo = refl
policy_reads Woc = refl
policy_reads Wos = refl
policy_reads W1 = refl
policy_reads Wo1 = refl

-- The table has the form of a row of flaws, wherever it stands. In the chip and the layout it says this flaw.
pub record IsSaid (d : DescData) (row : Members) (f : Flaw) : Type 0 where
  pub form : (spot : Spot) → flaw_fault spot row ≡ None
  pub means : flaw_of d.chip d.layout (part_of row) ≡ Some f

pub stuck_said : (d : DescData) (field bit : ℕ) (value : Bool) (name : List ℕ) → field_at d.chip name ≡ Some field → bit < width_of d.chip field
    → IsSaid d (stuck_table name bit (if value then 1 else 0)) (flaw.Stuck field bit value)
unfolding flaw_of
stuck_said d field bit true name at within =
    let test = lt-ltb bit (width_of d.chip field) within in
    record {
      form = λ spot. rw (integer_reads key.Bit bit, integer_reads key.Value 1) refl;
      means = rw (integer_reads key.Bit bit, integer_reads key.Value 1, at, test) refl;
    }
stuck_said d field bit false name at within =
    let test = lt-ltb bit (width_of d.chip field) within in
    record {
      form = λ spot. rw (integer_reads key.Bit bit, integer_reads key.Value 0) refl;
      means = rw (integer_reads key.Bit bit, integer_reads key.Value 0, at, test) refl;
    }

pub reset_said : (d : DescData) (field kind value : ℕ) (name on : List ℕ) → field_at d.chip name ≡ Some field → kind_at d.chip on ≡ Some kind
    → is_some (reset_value d.chip field kind) ≡ true → value < 2 ^ width_of d.chip field → value < 2 ^ 64
    → IsSaid d (reset_table name on (spelled value)) (flaw.OtherReset field kind value)
unfolding flaw_of
reset_said d field kind value name on at at_kind has fits small =
    let reads = spelled_reads key.Value value small in
    let test = lt-ltb value (2 ^ width_of d.chip field) fits in
    record { form = λ spot. rw reads refl; means = rw (reads, at, at_kind, has, test) refl }

pub policy_said : (d : DescData) (field : ℕ) (policy : Policy) (name : List ℕ) → field_at d.chip name ≡ Some field
    → IsSaid d (policy_table name (name_of policy)) (flaw.OtherPolicy field policy)
unfolding flaw_of
policy_said d field policy name at =
    record { form = λ spot. rw (policy_reads policy) refl; means = rw (policy_reads policy, at) refl }

pub range_said : (d : DescData) (port from to : ℕ) (name : List ℕ) → root_at d.layout name ≡ Some port → from ≤ to → to < 2 ^ 64
    → IsSaid d (range_table name (spelled from) (spelled to)) (flaw.ErrorRange port from to)
unfolding flaw_of
range_said d port from to name at order small =
    let low = spelled_reads key.From from (omega (arith, order, small)) in
    let high = spelled_reads key.To to small in
    let test : nat_le from to ≡ true = grind (arith, nat_tests) in
    record { form = λ spot. rw (low, high) refl; means = rw (low, high, at, test) refl }

pub nth_said : (d : DescData) (nth : ℕ) → 0 < nth → IsSaid d (nth_table nth) (flaw.ErrorNth nth)
unfolding flaw_of
nth_said d nth some = record {
  form = λ spot. rw (integer_reads key.Nth nth) refl;
  means = rw (integer_reads key.Nth nth, lt-ltb 0 nth some) refl;
}

pub deaf_said : (d : DescData) (item : Item) (path : List ℕ) → item_at d.chip path ≡ Some item → IsSaid d (deaf_table path) (flaw.Deaf item)
unfolding flaw_of
deaf_said d item path at = record { form = λ spot. refl; means = rw at refl }

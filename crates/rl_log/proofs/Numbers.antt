-- The operation of a line has its numbers in range, and is no burst.
use Rattle.std.proofs.Common.{◌≡◌, ℕ, ◌+◌, ◌<◌, List, [], length, take, drop, map, Option, Some, None, refl, subst, arith, length-take}
use Rattle.std.specs.Prelude.{Bool, true, false, if◌then◌else◌, IfSome, option_map, option_and_then, bytes_eq}
use Rattle.std.proofs.lemmas.List.{length-map}
use Rattle.std.proofs.lemmas.List.Quantifiers.{position-Some}
use Rattle.rl_map.specs.declared.rows.MapRow.{MapRow}
use Rattle.rl_map.specs.Layout.{LayoutData, map_named, no_map}
use Rattle.rl_model.specs.Chip.{field_path}
use Rattle.rl_model.specs.Rows.{ChipData}
use Rattle.rl_access.specs.declared.event.Op.{Op}
use Rattle.rl_access.specs.declared.event.Op.TheVariants as op
use Rattle.rl_access.specs.Model.{ModelData}
use Rattle.rl_access.specs.Operation.{IsMapIn, HasNumbers, is_single}
use Rattle.rl_report.proofs.OperationLemmas.{Both}
use Rattle.rl_script.specs.declared.command.Item.{Item}
use Rattle.rl_script.specs.declared.command.Item.TheVariants as item
use Rattle.rl_script.specs.declared.command.Kind.{Kind}
use Rattle.rl_script.specs.declared.command.Kind.TheVariants as kind
use Rattle.rl_script.specs.declared.line_ref.ItemLine.{ItemLine}
use Rattle.rl_script.specs.declared.line.Line.{Line}
use Rattle.rl_script.specs.declared.line.Line.TheVariants as line
use Rattle.rl_script.specs.Commands.{row_of, kind_of, said}
use Rattle.rl_log.specs.Named.{number_of, reg_named, mem_named, field_named, kind_named, number_on, map_asked, with_number, with_map, op_with, item_op, op_named}

-- ---- the number of a name

number_in : (names : List (List ℕ)) (name : List ℕ) (n : ℕ) → number_of names name ≡ Some n → n < length names
number_in names name n is = (position-Some (bytes_eq name) names n [] is).0

pub reg_in : (c : ChipData) (path : List ℕ) (n : ℕ) → reg_named c path ≡ Some n → n < length c.regs
reg_in c path n is =
    let low = number_in (take (length c.regs) (drop c.scopes c.paths)) path n is in
    let long = length-take (length c.regs) (drop c.scopes c.paths) in omega arith

pub mem_in : (c : ChipData) (path : List ℕ) (n : ℕ) → mem_named c path ≡ Some n → n < length c.mems
mem_in c path n is =
    let low = number_in (take (length c.mems) (drop (c.scopes + length c.regs) c.paths)) path n is in
    let long = length-take (length c.mems) (drop (c.scopes + length c.regs) c.paths) in omega arith

pub field_in : (c : ChipData) (path : List ℕ) (n : ℕ) → field_named c path ≡ Some n → n < length c.fields
field_in c path n is =
    let low = number_in (map (field_path c) c.fields) path n is in
    let long = length-map c.fields (field_path c) in omega arith

pub kind_in : (c : ChipData) (name : List ℕ) (n : ℕ) → kind_named c name ≡ Some n → n < length c.kinds
kind_in c name n is = number_in c.kinds name n is

some_is : {A : Type 0} {x y : A} → Some x ≡ Some y → x ≡ y
some_is e = cc

map_there : (l : LayoutData) (o : Option ℕ) (t : Option ℕ) → ((n : ℕ) → o ≡ Some n → n < length l.maps) → option_map Some o ≡ Some t → IsMapIn (length l.maps) t
map_there l None t h is = absurd (cc)
map_there l (Some n) t h is = subst (IsMapIn (length l.maps)) (some_is is) (h n refl)

pub map_in : (l : LayoutData) (name : Option (List ℕ)) (t : Option ℕ) → map_asked l name ≡ Some t → IsMapIn (length l.maps) t
map_in l None t is = subst (IsMapIn (length l.maps)) (some_is is) tt
map_in l (Some name) t is =
    map_there l (map_named l name) t (λ n at. (position-Some (λ (m : MapRow). bytes_eq m.name name) l.maps n no_map at).0) is

-- ---- the operation of a line

by_map : (number : Option ℕ) (map : Option (Option ℕ)) (make : ℕ → Option ℕ → Op) (op : Op) (P : Op → Type 0) → ((n : ℕ) (t : Option ℕ) → number ≡ Some n → map ≡ Some t → P (make n t)) →
    with_map number map make ≡ Some op → P op
by_map None map make op P h is = absurd (cc)
by_map (Some n) None make op P h is = absurd (cc)
by_map (Some n) (Some t) make op P h is = subst P (some_is is) (h n t refl refl)

by_number : (number : Option ℕ) (make : ℕ → Op) (op : Op) (P : Op → Type 0) → ((n : ℕ) → number ≡ Some n → P (make n)) → with_number number make ≡ Some op → P op
by_number None make op P h is = absurd (cc)
by_number (Some n) make op P h is = subst P (some_is is) (h n refl)

-- what a command of this kind is on is there
abbrev IsThere : ChipData → Kind → ℕ → Type 0
IsThere c kind.Register n = n < length c.regs
IsThere c kind.Field n = n < length c.fields
IsThere c kind.Memory n = n < length c.mems

number_there : (c : ChipData) (k : Kind) (path : List ℕ) (n : ℕ) → number_on c k path ≡ Some n → IsThere c k n
number_there c kind.Register path n is = reg_in c path n is
number_there c kind.Field path n is = field_in c path n is
number_there c kind.Memory path n is = mem_in c path n is

both : {N M : Type 0} (takes : Bool) → N → M → Both takes N M
both true n m = (n, m)
both false n m = n

with_numbers : (c : ChipData) (maps : ℕ) (i : Item) (n : ℕ) (t : Option ℕ) (first second : ℕ) → IsThere c (kind_of i) n → IsMapIn maps t → HasNumbers c maps (op_with i n t first second)
with_numbers c maps item.Write n t first second h k = both true h k
with_numbers c maps i n t first second h k = both (row_of i).map h k

-- it reads no burst
abbrev is_no_burst : Item → Bool
is_no_burst item.BurstRead = false
is_no_burst _ = true

single_with : (i : Item) (n : ℕ) (t : Option ℕ) (first second : ℕ) → is_no_burst i ≡ true → is_single (op_with i n t first second) ≡ true
single_with item.BurstRead n t first second other = absurd (cc)
single_with _ n t first second other = refl

module _ (m : ModelData) where
  abbrev maps : ℕ
  maps = length m.layout.maps

  -- what holds of the command with any numbers that are there
  by_item : (P : Op → Type 0) (s : ItemLine) (takes : Bool) (o : Op)
      → ((n : ℕ) (t : Option ℕ) → IsThere m.chip (kind_of s.item) n → IsMapIn maps t → P (op_with s.item n t s.first s.second))
      → (if takes then with_map (number_on m.chip (kind_of s.item) s.path) (map_asked m.layout s.map) (λ n t. op_with s.item n t s.first s.second)
      else with_number (number_on m.chip (kind_of s.item) s.path) (λ n. op_with s.item n None s.first s.second)) ≡ Some o → P o
  by_item P s true o h is =
      by_map (number_on m.chip (kind_of s.item) s.path) (map_asked m.layout s.map) (λ n t. op_with s.item n t s.first s.second) o P
      (λ n t a b. h n t (number_there m.chip (kind_of s.item) s.path n a) (map_in m.layout s.map t b)) is
  by_item P s false o h is =
      by_number (number_on m.chip (kind_of s.item) s.path) (λ n. op_with s.item n None s.first s.second) o P
      (λ n a. h n None (number_there m.chip (kind_of s.item) s.path n a) tt) is

  said_numbers : (s : Option ItemLine) (o : Op) → option_and_then (item_op m) s ≡ Some o → HasNumbers m.chip maps o
  said_numbers None o is = absurd (cc)
  said_numbers (Some s) o is = by_item (HasNumbers m.chip maps) s (row_of s.item).map o (λ n t. with_numbers m.chip maps s.item n t s.first s.second) is

  said_single : (s : Option ItemLine) (o : Op) → IfSome s (λ x. is_no_burst x.item ≡ true) → option_and_then (item_op m) s ≡ Some o → is_single o ≡ true
  said_single None o other is = absurd (cc)
  said_single (Some s) o other is = by_item (λ op. is_single op ≡ true) s (row_of s.item).map o (λ n t a b. single_with s.item n t s.first s.second other) is

  pub op_numbers : (l : Line) (o : Op) → op_named m l ≡ Some o → HasNumbers m.chip maps o
  op_numbers (line.Reset kind) o is = by_number (kind_named m.chip kind) (λ k. op.Reset k) o (HasNumbers m.chip maps) (λ n a. kind_in m.chip kind n a) is
  op_numbers (line.BurstRead mem first count map) o is = absurd (cc)
  op_numbers l o is = said_numbers (said l) o is

  pub op_single : (l : Line) (o : Op) → op_named m l ≡ Some o → is_single o ≡ true
  op_single (line.Reset kind) o is = by_number (kind_named m.chip kind) (λ k. op.Reset k) o (λ op. is_single op ≡ true) (λ n a. refl) is
  op_single line.Blank o is = absurd (cc)
  op_single (line.BurstRead mem first count map) o is = absurd (cc)
  op_single (line.BurstWrite mem first values map) o is = absurd (cc)
  op_single (line.Seq which block) o is = absurd (cc)
  op_single l o is = said_single (said l) o refl is

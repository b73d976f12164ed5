-- What a flaw names is there.
use Rattle.std.proofs.Common.{◌≡◌, ℕ, ◌+◌, ◌^◌, ◌<◌, Bool, true, false, List, [], ◌∷◌, length, take, drop, Option, Some, None, option_map, option_and_then, Result, Ok, Err, refl, sym, inl, inr, arith}
use Rattle.std.specs.Prelude.{nat_lt, nat_le, ◌==◌, ◌&&◌, position, bytes_eq, IfSome, IfOk, is_some}
use Rattle.std.specs.List.{position_or_len, cons_option}
use Rattle.std.specs.Option.{option_or}
use Rattle.std.proofs.lemmas.Bool.{cases_Bool}
use Rattle.std.proofs.lemmas.Bool.Decides.{nat_tests}
use Rattle.std.proofs.lemmas.List.{length-take}
use Rattle.std.proofs.lemmas.List.Elements.{All-nil, All-cons, All-same}
use Rattle.std.proofs.lemmas.Option.{none-some, same_Some}
use Rattle.rl_model.specs.declared.rows.Item.TheVariants.{Reg, Mem}
use Rattle.rl_model.specs.Rows.{ChipData}
use Rattle.rl_model.specs.Chip.{HasItem, field_path}
use Rattle.rl_map.specs.Layout.{LayoutData, map_named}
use Rattle.rl_flaw.specs.declared.flaw.Flaw.{Flaw}
use Rattle.rl_flaw.specs.declared.flaw.Flaw.TheVariants as flaw
use Rattle.rl_flaw.specs.Flaws.{width_of, IsFlawOf, AreFlawsOf}
use Rattle.rl_desc.specs.Data.{DescData}
use Rattle.rl_desc.specs.declared.fault.DescFault.{DescFault}
use Rattle.rl_desc.specs.declared.flaw.FlawPart.{FlawPart}
use Rattle.rl_desc.specs.declared.flaw.FlawPart.TheVariants.{OtherPolicy, OtherReset, Stuck, ErrorRange, ErrorNth, Deaf}
use Rattle.rl_desc.specs.Refusals.{Reads}
use Rattle.rl_desc.specs.Flaws.{field_at, text_at, kind_at, reg_paths, mem_paths, item_at, port_of_map, root_at, reset_value, flaw_if, reset_flaw, stuck_flaw, flaw_of, flaws_of}

if_found : {A B : Type 0} (f : A → Option B) (P : B → Type 0) (o : Option A) → ((a : A) → o ≡ Some a → IfSome (f a) P) → IfSome (option_and_then f o) P
if_found f P None h = tt
if_found f P (Some a) h = h a refl

if_mapped : {A B : Type 0} (f : A → B) (P : B → Type 0) (o : Option A) → ((a : A) → o ≡ Some a → P (f a)) → IfSome (option_map f o) P
if_mapped f P None h = tt
if_mapped f P (Some a) h = h a refl

if_holds : (b : Bool) (x : Flaw) (P : Flaw → Type 0) → (b ≡ true → P x) → IfSome (flaw_if b x) P
if_holds true x P h = h refl
if_holds false x P h = tt

if_either : {A : Type 0} (P : A → Type 0) (a b : Option A) → IfSome a P → IfSome b P → IfSome (option_or a b) P
if_either P None b h k = k
if_either P (Some x) b h k = h

second_part : (a b : Bool) → (a && b) ≡ true → b ≡ true
second_part true b e = e
second_part false b e = absurd cc

first_part : (a b : Bool) → (a && b) ≡ true → a ≡ true
first_part true b e = refl
first_part false b e = absurd cc

below : (a b : ℕ) → nat_lt a b ≡ true → a < b
below a b e = grind (arith, nat_tests)

-- what is found is in the list
pub within : {X : Type 0} (p : X → Bool) (xs : List X) (i : ℕ) → position p xs ≡ Some i → i < length xs
within p xs i e =
    elim (cases_Bool (nat_lt (position_or_len p xs) (length xs))) [
      | inl lt ↦
          let is : position_or_len p xs ≡ i = same_Some (position_or_len p xs) i (rw lt at e) in
          let h : position_or_len p xs < length xs = below (position_or_len p xs) (length xs) lt in
          omega arith
      | inr past ↦ absurd (none-some i (rw past at e))
    ]

pub field_there : (chip : ChipData) (path : List ℕ) (f : ℕ) → field_at chip path ≡ Some f → f < length chip.fields
field_there chip path f e = within (λ x. bytes_eq (field_path chip x) path) chip.fields f e

pub kind_there : (chip : ChipData) (name : List ℕ) (k : ℕ) → kind_at chip name ≡ Some k → k < length chip.kinds
kind_there chip name k e = within (λ t. bytes_eq t name) chip.kinds k e

part_there : (text : List ℕ) (texts : List (List ℕ)) (count n : ℕ) → text_at text (take count texts) ≡ Some n → n < count
part_there text texts count n e =
    let lt : n < length (take count texts) = within (λ t. bytes_eq t text) (take count texts) n e in
    omega (arith, length-take count texts)

item_there : (chip : ChipData) (path : List ℕ) → IfSome (item_at chip path) (HasItem chip)
item_there chip path =
    if_either (HasItem chip) (option_map Reg (text_at path (reg_paths chip))) (option_map Mem (text_at path (mem_paths chip)))
    (if_mapped Reg (HasItem chip) (text_at path (reg_paths chip)) (λ n e. part_there path (drop chip.scopes chip.paths) (length chip.regs) n e))
    (if_mapped Mem (HasItem chip) (text_at path (mem_paths chip)) (λ n e. part_there path (drop (chip.scopes + length chip.regs) chip.paths) (length chip.mems) n e))

mapped_there : {A B : Type 0} (f : A → B) (P : A → Type 0) (Q : B → Type 0) (o : Option A) → ((a : A) → P a → Q (f a)) → IfSome o P → IfSome (option_map f o) Q
mapped_there f P Q None h k = tt
mapped_there f P Q (Some a) h k = h a k

chain_at : (f : ℕ → Option ℕ) (o : Option ℕ) (p : ℕ) → option_and_then f o ≡ Some p → (m : ℕ) × (f m ≡ Some p)
chain_at f None p e = absurd (none-some p e)
chain_at f (Some m) p e = (m, e)

root_there : (layout : LayoutData) (name : List ℕ) (p : ℕ) → root_at layout name ≡ Some p → p < length layout.ports
root_there layout name p e =
    let (m, is) = chain_at (port_of_map layout) (map_named layout name) p e in
    within (λ x. x.map == m) layout.ports p is

flaw_there : (chip : ChipData) (layout : LayoutData) (part : FlawPart) → IfSome (flaw_of chip layout part) (IsFlawOf chip layout)
unfolding flaw_of
flaw_there chip layout (OtherPolicy field policy) =
    if_mapped (λ f. flaw.OtherPolicy f policy) (IsFlawOf chip layout) (field_at chip field) (λ f e. field_there chip field f e)
flaw_there chip layout (OtherReset field kind value) =
    if_found (λ f. option_and_then (reset_flaw chip value f) (kind_at chip kind)) (IsFlawOf chip layout) (field_at chip field) (λ f e.
    if_found (reset_flaw chip value f) (IsFlawOf chip layout) (kind_at chip kind) (λ k there.
    if_holds (is_some (reset_value chip f k) && nat_lt value (2 ^ width_of chip f)) (flaw.OtherReset f k value) (IsFlawOf chip layout) (λ ok. (
      field_there chip field f e,
      kind_there chip kind k there,
      below value (2 ^ width_of chip f) (second_part (is_some (reset_value chip f k)) (nat_lt value (2 ^ width_of chip f)) ok),
    ))))
flaw_there chip layout (Stuck field bit value) =
    if_found (stuck_flaw chip bit value) (IsFlawOf chip layout) (field_at chip field) (λ f e.
    if_holds (nat_lt bit (width_of chip f) && nat_lt value 2) (flaw.Stuck f bit (value == 1)) (IsFlawOf chip layout) (λ ok.
    (field_there chip field f e, below bit (width_of chip f) (first_part (nat_lt bit (width_of chip f)) (nat_lt value 2) ok))))
flaw_there chip layout (ErrorRange name from to) =
    if_found (λ p. flaw_if (nat_le from to) (flaw.ErrorRange p from to)) (IsFlawOf chip layout) (root_at layout name) (λ p e.
    if_holds (nat_le from to) (flaw.ErrorRange p from to) (IsFlawOf chip layout) (λ ok. root_there layout name p e))
flaw_there chip layout (ErrorNth nth) = if_holds (nat_lt 0 nth) (flaw.ErrorNth nth) (IsFlawOf chip layout) (λ ok. tt)
flaw_there chip layout (Deaf path) =
    mapped_there flaw.Deaf (HasItem chip) (IsFlawOf chip layout) (item_at chip path) (λ i there. there) (item_there chip path)

with_there : (chip : ChipData) (layout : LayoutData) (o : Option Flaw) (flaws : List Flaw) → IfSome o (IsFlawOf chip layout)
    → AreFlawsOf chip layout flaws → AreFlawsOf chip layout (cons_option o flaws)
with_there chip layout None flaws h all = all
with_there chip layout (Some x) flaws h all = All-cons (IsFlawOf chip layout) x flaws h all

-- each flaw of a description names what is there
pub flaws_there : (chip : ChipData) (layout : LayoutData) (parts : List FlawPart) → AreFlawsOf chip layout (flaws_of chip layout parts)
flaws_there chip layout [] = All-nil (IsFlawOf chip layout)
flaws_there chip layout (part ∷ parts) =
    with_there chip layout (flaw_of chip layout part) (flaws_of chip layout parts) (flaw_there chip layout part) (flaws_there chip layout parts)

pub field_some : (chip : ChipData) (path : List ℕ) (r : Option ℕ) → r ≡ field_at chip path → IfSome r (λ f. f < length chip.fields)
field_some chip path None e = tt
field_some chip path (Some f) e = field_there chip path f (sym e)

pub kind_some : (chip : ChipData) (name : List ℕ) (r : Option ℕ) → r ≡ kind_at chip name → IfSome r (λ k. k < length chip.kinds)
kind_some chip name None e = tt
kind_some chip name (Some k) e = kind_there chip name k (sym e)

-- each flaw that was read with a chip and a layout names what is there
pub read_there : (r : Result DescData DescFault) (chip : ChipData) (layout : LayoutData) (parts : List FlawPart) (fault : Option DescFault)
    → IfOk r (λ d. d.chip ≡ chip) → IfOk r (λ d. d.layout ≡ layout) → Reads (λ d. d.flaws) r fault (flaws_of chip layout parts)
    → IfOk r (λ d. AreFlawsOf d.chip d.layout d.flaws)
read_there (Ok d) chip layout parts fault of_chip of_layout read =
    let there = All-same (IsFlawOf chip layout) d.flaws (flaws_of chip layout parts) read.1 (flaws_there chip layout parts) in
    rw (of_chip, of_layout) there
read_there (Err e) chip layout parts fault of_chip of_layout read = tt

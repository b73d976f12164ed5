-- Devices of one chip that have the same flaws of a register: it is made the same in both.
use Rattle.std.proofs.Common.{◌≡◌, ◌⊎◌, inl, inr, ℕ, ◌+◌, ◌-◌, ◌<◌, ◌≤◌, Bool, true, false, ◌&&◌, ◌||◌, ◌==◌, if◌then◌else◌, List, [], ◌∷◌, length, map}
use Rattle.std.proofs.Common.{Option, Some, None, option_map, refl, sym, ap, subst, ◌∙◌}
use Rattle.std.specs.Prelude.{IsSome, filter, find}
use Rattle.std.specs.List.{cons_option, filter_map, list_any}
use Rattle.std.specs.Option.{option_or}
use Rattle.std.proofs.lemmas.Bool.{and_parts, cases_lt, eqb-true, eq-eqb, false_from_ne_true}
use Rattle.std.proofs.lemmas.List.{get_or_past, length-map}
use Rattle.std.proofs.lemmas.List.Elements.{All-head, All-tail}
use Rattle.rl_bus.specs.declared.table.Cell.TheVariants.{Reg, Loc}
use Rattle.rl_bus.specs.declared.table.FieldRow.{FieldRow}
use Rattle.rl_bus.specs.declared.table.ItemRow.{ItemRow}
use Rattle.rl_bus.specs.declared.table.ItemRow.TheVariants as bus
use Rattle.rl_bus.specs.declared.table.PolicyRow.{PolicyRow}
use Rattle.rl_bus.specs.declared.table.ResetRow.{ResetRow}
use Rattle.rl_bus.specs.declared.table.StuckRow.{StuckRow}
use Rattle.rl_bus.specs.Setup.{Setup, field_at, field_of as row_of_field, is_deaf, is_of, names_bit, no_field as no_row, or_else, policy_at, policy_of, reset_of, stuck_at, value_in}
use Rattle.rl_bus.specs.State.{reset_bit, value_bit}
use Rattle.rl_model.specs.declared.rows.Item.TheVariants as item
use Rattle.rl_model.specs.Fields.{no_field}
use Rattle.rl_model.specs.Rows.{ChipData, FieldSeen}
use Rattle.rl_map.specs.Layout.{LayoutData}
use Rattle.rl_map.specs.Tables.{field_row, setup_of}
use Rattle.rl_access.specs.Operation.{reg_of}
use Rattle.rl_flaw.specs.declared.flaw.Flaw.{Flaw}
use Rattle.rl_flaw.specs.declared.flaw.Flaw.TheVariants.{Deaf, ErrorNth, ErrorRange, OtherPolicy, OtherReset, Stuck}
use Rattle.rl_flaw.specs.Flaws.{deaf_row, flaws_of, nth_of, policy_row, range_row, reset_row, stuck_row}
use Rattle.rl_grade.specs.Together.{AreOfRegisters, flaws_in, is_flaw_in, register_with}
use Rattle.rl_grade.proofs.HiddenFlaws.{at_field, bare, row_is}
use Rattle.rl_grade.proofs.Related.{flawed}

-- the register is made the same in both devices
pub record SameMakeup (t u : Setup) (r : ℕ) : Type 0 where
  pub fields : u.fields ≡ t.fields
  pub policies : (b : ℕ) → policy_at u r b ≡ policy_at t r b
  pub stuck : (b : ℕ) → stuck_at u r b ≡ stuck_at t r b
  pub hears : is_deaf u (Reg r) ≡ is_deaf t (Reg r)
  pub resets : (kind b : ℕ) (x : Bool) → reset_bit u kind (field_at u r b) b x ≡ reset_bit t kind (field_at t r b) b x

-- no item of it fails, and its memories hear
pub record IsCalm (t : Setup) : Type 0 where
  pub ranges : t.flaws.ranges ≡ []
  pub nths : t.flaws.nths ≡ []
  pub memories : (m i : ℕ) → is_deaf t (Loc m i) ≡ false

pub same_makeup : (t : Setup) (r : ℕ) → SameMakeup t t r
same_makeup t r = record { fields = refl; policies = λ b. refl; stuck = λ b. refl; hears = refl; resets = λ kind b x. refl }

-- ---- rows of the flaws that are kept

not_so : (a b : Bool) → (a ≡ true → b ≡ true) → b ≡ false → a ≡ false
not_so a b h never = false_from_ne_true a (λ so. let both : true ≡ false = sym (h so) ∙ never in absurd cc)

module _ {A B : Type 0} (row : A → Option B) (p : B → Bool) (q : A → Bool) (own : (x : A) (b : B) → row x ≡ Some b → p b ≡ true → q x ≡ true) where
  kept_find : (xs : List A) → find p (filter_map row (filter q xs)) ≡ find p (filter_map row xs)
  kept_find [] = refl
  kept_find (x ∷ xs) = by (row x) refl (q x) refl (kept_find xs)
    where
      by : (o : Option B) → row x ≡ o → (k : Bool) → q x ≡ k → find p (filter_map row (filter q xs)) ≡ find p (filter_map row xs)
          → find p (filter_map row (if k then x ∷ filter q xs else filter q xs)) ≡ find p (cons_option o (filter_map row xs))
      by None is true kept rest = ap (λ o. find p (cons_option o (filter_map row (filter q xs)))) is ∙ rest
      by None is false kept rest = rest
      by (Some b) is true kept rest =
          ap (λ o. find p (cons_option o (filter_map row (filter q xs)))) is ∙ ap (λ o. if p b then Some b else o) rest
      by (Some b) is false kept rest =
          rest ∙ sym (ap (λ t. if t then Some b else find p (filter_map row xs)) (not_so (p b) (q x) (own x b is) kept))

  kept_any : (xs : List A) → list_any p (filter_map row (filter q xs)) ≡ list_any p (filter_map row xs)
  kept_any [] = refl
  kept_any (x ∷ xs) = by (row x) refl (q x) refl (kept_any xs)
    where
      by : (o : Option B) → row x ≡ o → (k : Bool) → q x ≡ k → list_any p (filter_map row (filter q xs)) ≡ list_any p (filter_map row xs)
          → list_any p (filter_map row (if k then x ∷ filter q xs else filter q xs)) ≡ list_any p (cons_option o (filter_map row xs))
      by None is true kept rest = ap (λ o. list_any p (cons_option o (filter_map row (filter q xs)))) is ∙ rest
      by None is false kept rest = rest
      by (Some b) is true kept rest =
          ap (λ o. list_any p (cons_option o (filter_map row (filter q xs)))) is ∙ ap (λ t. p b || t) rest
      by (Some b) is false kept rest =
          rest ∙ sym (ap (λ t. t || list_any p (filter_map row xs)) (not_so (p b) (q x) (own x b is) kept))

-- ---- whose a row is

its_own : (a b : ℕ) → a ≡ b → (a == b) ≡ true
its_own a b is = eq-eqb a b is

pub row_reg : (c : ChipData) (l : LayoutData) (n : ℕ) → (row_of_field (bare c l) n).reg ≡ reg_of c n
unfolding setup_of
row_reg c l n = by (cases_lt n (length c.fields))
  where
    by : (n < length c.fields) ⊎ (length c.fields ≤ n) → (row_of_field (bare c l) n).reg ≡ reg_of c n
    by (inl inside) = ap (λ (f : FieldRow). f.reg) (row_is c l n inside)
    by (inr past) =
        ap (λ (f : FieldRow). f.reg) (get_or_past (map field_row c.fields) n no_row (subst (λ k. k ≤ n) (sym (length-map c.fields field_row)) past))
        ∙ sym (ap (λ (f : FieldSeen). f.shape.reg) (get_or_past c.fields n no_field past))

module _ (c : ChipData) (l : LayoutData) (r : ℕ) where
  abbrev t : Setup
  t = bare c l

  abbrev own : Flaw → Bool
  own = is_flaw_in c r

  policy_own : (n : ℕ) → reg_of c n ≡ r → (x : Flaw) (b : PolicyRow) → policy_row x ≡ Some b → (b.field == n) ≡ true → own x ≡ true
  policy_own n at (OtherPolicy f p) b is so =
      let row : PolicyRow = record { field = f; policy = p } in
      let same : row ≡ b = cc in
      its_own (reg_of c f) r (ap (reg_of c) (ap (λ (x : PolicyRow). x.field) same ∙ eqb-true b.field n so) ∙ at)
  policy_own n at (OtherReset f k v) b is so = absurd cc
  policy_own n at (Stuck f j v) b is so = absurd cc
  policy_own n at (ErrorRange p from to) b is so = absurd cc
  policy_own n at (ErrorNth nth) b is so = absurd cc
  policy_own n at (Deaf i) b is so = absurd cc

  reset_own : (n kind : ℕ) → reg_of c n ≡ r → (x : Flaw) (b : ResetRow) → reset_row x ≡ Some b → (b.field == n && b.kind == kind) ≡ true → own x ≡ true
  reset_own n kind at (OtherReset f k v) b is so =
      let row : ResetRow = record { field = f; kind = k; value = v } in
      let same : row ≡ b = cc in
      let names = and_parts (b.field == n) (b.kind == kind) so in
      its_own (reg_of c f) r (ap (reg_of c) (ap (λ (x : ResetRow). x.field) same ∙ eqb-true b.field n names.0) ∙ at)
  reset_own n kind at (OtherPolicy f p) b is so = absurd cc
  reset_own n kind at (Stuck f j v) b is so = absurd cc
  reset_own n kind at (ErrorRange p from to) b is so = absurd cc
  reset_own n kind at (ErrorNth nth) b is so = absurd cc
  reset_own n kind at (Deaf i) b is so = absurd cc

  stuck_own : (b : ℕ) → (x : Flaw) (s : StuckRow) → stuck_row x ≡ Some s → names_bit t s r b ≡ true → own x ≡ true
  stuck_own b (Stuck f j v) s is so =
      let row : StuckRow = record { field = f; bit = j; value = v } in
      let same : row ≡ s = cc in
      let names = and_parts ((row_of_field t s.field).reg == r) ((row_of_field t s.field).lsb + s.bit == b) so in
      its_own (reg_of c f) r
      (sym (row_reg c l f) ∙ ap (λ (x : StuckRow). (row_of_field t x.field).reg) same ∙ eqb-true (row_of_field t s.field).reg r names.0)
  stuck_own b (OtherPolicy f p) s is so = absurd cc
  stuck_own b (OtherReset f k v) s is so = absurd cc
  stuck_own b (ErrorRange p from to) s is so = absurd cc
  stuck_own b (ErrorNth nth) s is so = absurd cc
  stuck_own b (Deaf i) s is so = absurd cc

  deaf_own : (x : Flaw) (b : ItemRow) → deaf_row x ≡ Some b → is_of (Reg r) b ≡ true → own x ≡ true
  deaf_own (Deaf (item.Reg q)) b is so = deaf_named q b is so
    where
      deaf_named : (q : ℕ) (b : ItemRow) → deaf_row (Deaf (item.Reg q)) ≡ Some b → is_of (Reg r) b ≡ true → (q == r) ≡ true
      deaf_named q (bus.Reg s) is so = let same : q ≡ s = cc in its_own q r (same ∙ sym (eqb-true r s so))
      deaf_named q (bus.Mem s) is so = absurd cc
  deaf_own (Deaf (item.Mem m)) b is so = deaf_memory b is so
    where
      deaf_memory : (b : ItemRow) → deaf_row (Deaf (item.Mem m)) ≡ Some b → is_of (Reg r) b ≡ true → own (Deaf (item.Mem m)) ≡ true
      deaf_memory (bus.Reg s) is so = absurd cc
      deaf_memory (bus.Mem s) is so = absurd cc
  deaf_own (OtherPolicy f p) b is so = absurd cc
  deaf_own (OtherReset f k v) b is so = absurd cc
  deaf_own (Stuck f j v) b is so = absurd cc
  deaf_own (ErrorRange p from to) b is so = absurd cc
  deaf_own (ErrorNth nth) b is so = absurd cc

  -- ---- only the register's own flaws make it

  abbrev with_all : List Flaw → Setup
  with_all flaws = flawed t (flaws_of flaws)

  abbrev with_own : List Flaw → Setup
  with_own flaws = flawed t (flaws_of (flaws_in c r flaws))

  policy_by : (flaws : List Flaw) (n : ℕ) → reg_of c n ≡ r → policy_of (with_own flaws) n ≡ policy_of (with_all flaws) n
  policy_by flaws n at =
      ap (λ o. or_else (option_map (λ (f : PolicyRow). f.policy) o) (row_of_field t n).policy)
      (kept_find policy_row (λ f. f.field == n) own (policy_own n at) flaws)

  reset_by : (flaws : List Flaw) (n kind : ℕ) → reg_of c n ≡ r → reset_of (with_own flaws) n kind ≡ reset_of (with_all flaws) n kind
  reset_by flaws n kind at =
      ap (λ o. option_or (option_map (λ (f : ResetRow). f.value) o) (value_in t.resets n kind))
      (kept_find reset_row (λ f. f.field == n && f.kind == kind) own (reset_own n kind at) flaws)

  policies_by : (flaws : List Flaw) (b : ℕ) → policy_at (with_own flaws) r b ≡ policy_at (with_all flaws) r b
  policies_by flaws b = by (field_at t r b) refl
    where
      by : (o : Option ℕ) → field_at t r b ≡ o → option_map (policy_of (with_own flaws)) o ≡ option_map (policy_of (with_all flaws)) o
      by None is = refl
      by (Some n) is = ap Some (policy_by flaws n (at_field c l r b n is).reg)

  resets_by : (flaws : List Flaw) (kind b : ℕ) (x : Bool)
      → reset_bit (with_own flaws) kind (field_at t r b) b x ≡ reset_bit (with_all flaws) kind (field_at t r b) b x
  resets_by flaws kind b x = by (field_at t r b) refl
    where
      by : (o : Option ℕ) → field_at t r b ≡ o → reset_bit (with_own flaws) kind o b x ≡ reset_bit (with_all flaws) kind o b x
      by None is = refl
      by (Some n) is = ap (λ o. value_bit o (b - (row_of_field t n).lsb) x) (reset_by flaws n kind (at_field c l r b n is).reg)

  stuck_by : (flaws : List Flaw) (b : ℕ) → stuck_at (with_own flaws) r b ≡ stuck_at (with_all flaws) r b
  stuck_by flaws b = ap (option_map (λ (s : StuckRow). s.value)) (kept_find stuck_row (λ s. names_bit t s r b) own (stuck_own b) flaws)

  hears_by : (flaws : List Flaw) → is_deaf (with_own flaws) (Reg r) ≡ is_deaf (with_all flaws) (Reg r)
  hears_by flaws = kept_any deaf_row (is_of (Reg r)) own deaf_own flaws

  pub made_same : (flaws others : List Flaw) → flaws_in c r flaws ≡ flaws_in c r others → SameMakeup (with_all flaws) (with_all others) r
  made_same flaws others same = record {
    fields = refl;
    policies = λ b. sym (policies_by others b) ∙ ap (λ fs. policy_at (flawed t (flaws_of fs)) r b) (sym same) ∙ policies_by flaws b;
    stuck = λ b. sym (stuck_by others b) ∙ ap (λ fs. stuck_at (flawed t (flaws_of fs)) r b) (sym same) ∙ stuck_by flaws b;
    hears = sym (hears_by others) ∙ ap (λ fs. is_deaf (flawed t (flaws_of fs)) (Reg r)) (sym same) ∙ hears_by flaws;
    resets = λ kind b x.
        sym (resets_by others kind b x) ∙ ap (λ fs. reset_bit (flawed t (flaws_of fs)) kind (field_at t r b) b x) (sym same) ∙ resets_by flaws kind b x;
  }

-- ---- flaws of registers make no item fail

module _ (c : ChipData) where
  abbrev IsOne : Flaw → Type 0
  IsOne x = IsSome (register_with c x)

  no_range : (x : Flaw) → IsOne x → range_row x ≡ None
  no_range (OtherPolicy f p) one = refl
  no_range (OtherReset f k v) one = refl
  no_range (Stuck f j v) one = refl
  no_range (ErrorRange p from to) one = absurd cc
  no_range (ErrorNth nth) one = refl
  no_range (Deaf i) one = refl

  no_nth : (x : Flaw) → IsOne x → nth_of x ≡ None
  no_nth (OtherPolicy f p) one = refl
  no_nth (OtherReset f k v) one = refl
  no_nth (Stuck f j v) one = refl
  no_nth (ErrorRange p from to) one = refl
  no_nth (ErrorNth nth) one = absurd cc
  no_nth (Deaf i) one = refl

  no_rows : {B : Type 0} (row : Flaw → Option B) → ((x : Flaw) → IsOne x → row x ≡ None) → (flaws : List Flaw) → AreOfRegisters c flaws
      → filter_map row flaws ≡ []
  no_rows row none [] each = refl
  no_rows row none (x ∷ flaws) each =
      ap (λ o. cons_option o (filter_map row flaws)) (none x (All-head IsOne x flaws each)) ∙ no_rows row none flaws (All-tail IsOne x flaws each)

  memory_hears : (m i : ℕ) (x : Flaw) → IsOne x → (rest : List ItemRow) → list_any (is_of (Loc m i)) rest ≡ false
      → list_any (is_of (Loc m i)) (cons_option (deaf_row x) rest) ≡ false
  memory_hears m i (OtherPolicy f p) one rest h = h
  memory_hears m i (OtherReset f k v) one rest h = h
  memory_hears m i (Stuck f j v) one rest h = h
  memory_hears m i (ErrorRange p from to) one rest h = h
  memory_hears m i (ErrorNth nth) one rest h = h
  memory_hears m i (Deaf (item.Reg q)) one rest h = h
  memory_hears m i (Deaf (item.Mem q)) one rest h = absurd cc

  memories_hear : (m i : ℕ) (flaws : List Flaw) → AreOfRegisters c flaws → list_any (is_of (Loc m i)) (filter_map deaf_row flaws) ≡ false
  memories_hear m i [] each = refl
  memories_hear m i (x ∷ flaws) each =
      memory_hears m i x (All-head IsOne x flaws each) (filter_map deaf_row flaws) (memories_hear m i flaws (All-tail IsOne x flaws each))

  pub calm : (l : LayoutData) (flaws : List Flaw) → AreOfRegisters c flaws → IsCalm (flawed (bare c l) (flaws_of flaws))
  calm l flaws each = record {
    ranges = no_rows range_row no_range flaws each;
    nths = no_rows nth_of no_nth flaws each;
    memories = λ m i. memories_hear m i flaws each;
  }

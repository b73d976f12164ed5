-- What the computation over one bit shows, policy by policy, and what a new device and new beliefs are.
use Rattle.std.proofs.Common.{◌≡◌, ℕ, ◌+◌, Bool, true, false, ◌&&◌, All, List, [], ◌∷◌, length, refl, sym, ap, ◌∙◌}
use Rattle.std.specs.Prelude.{slice_index}
use Rattle.std.proofs.lemmas.Bool.{and_parts}
use Rattle.std.proofs.lemmas.List.Elements.{All-nil, All-cons}
use Rattle.rl_policy.proofs.BitLemmas.{bit-zero}
use Rattle.rl_policy.specs.Bits.{bit}
use Rattle.rl_policy.specs.declared.policy.Policy.{Policy}
use Rattle.rl_policy.specs.declared.policy.Policy.TheVariants.{Ro, Rw, Rc, Rs, Wrc, Wrs, Wc, Ws, Wsrc, Wcrs, W1c, W1s, W1t, W0c, W0s, W0t, W1src, W1crs, W0src, W0crs, Wo, Woc, Wos, W1, Wo1}
use Rattle.rl_bus.specs.declared.table.ItemRow.TheVariants.{Reg as Deaf}
use Rattle.rl_bus.specs.Setup.{Flaws, held}
use Rattle.rl_bus.specs.State.{empty_state, reset_by, first_state}
use Rattle.rl_model.specs.Chip.{IsSound}
use Rattle.rl_model.specs.Fields.{field_of}
use Rattle.rl_model.specs.Rows.{ChipData}
use Rattle.rl_map.specs.Layout.{LayoutData}
use Rattle.rl_map.specs.Tables.{setup_of}
use Rattle.rl_mirror.proofs.FieldLemmas.{seated}
use Rattle.rl_access.specs.Operation.{reg_of}
use Rattle.rl_plain.specs.Agree.{HasNoVolatile}
use Rattle.rl_detect_laws.specs.BitFlaws.{only_flaw, HoldsStuck, IsComparedAt}
use Rattle.rl_detect_laws.specs.BitTables.{first_sides, first_believed, NewOneHasFlaw, ShowsAtFirst, ShowsAlways, ShowsFrom, StuckIsShown, DeafIsShown}
use Rattle.rl_detect_laws.specs.BitTables.{FirstValueIsShown, FirstValueIsShownBehind, FirstValueShowsDeaf, OtherPolicyIsShown}
use Rattle.rl_detect_laws.specs.BitTables.{behind_at_0, behind_at_1, turned_twice, found_twice, found_anywhere, found_behind}
use Rattle.rl_detect_laws.specs.Deaf.{deaf_items}
use Rattle.rl_detect_laws.specs.Policies.{other_policy}
use Rattle.rl_detect_laws.specs.Sides.{Sides, BitFlaw, sticks, hears_nothing, goes_by, shows_twice, shows_behind}
use Rattle.rl_detect_laws.specs.Stuck.{turned_at_0, turned_at_1}
use Rattle.rl_detect_laws.proofs.NewDeaf.{none_spent, new_ones_agree_on_bits}
use Rattle.rl_detect_laws.proofs.NewOnes.{new_set_up, zero_in}
use Rattle.rl_detect_laws.proofs.Turned.{all_of, new_one_has_stuck_bit}

-- ---- a test of each value

abbrev both : (Bool → Bool) → Bool
both f = f false && f true

both_are : (f : Bool → Bool) → both f ≡ true → (v : Bool) → f v ≡ true
both_are f so false = (and_parts (f false) (f true) so).0
both_are f so true = (and_parts (f false) (f true) so).1

abbrev sides : (held marked believed spent : Bool) → Sides
sides held marked believed spent = record { held = held; marked = marked; believed = believed; spent = spent }

abbrev on_each : (Sides → Bool) → Bool
on_each test = both (λ h. both (λ m. both (λ b. both (λ s. test (sides h m b s)))))

on_all : (test : Sides → Bool) → on_each test ≡ true → (x : Sides) → test x ≡ true
on_all test so x =
    both_are (λ s. test (sides x.held x.marked x.believed s))
    (both_are (λ b. both (λ s. test (sides x.held x.marked b s)))
    (both_are (λ m. both (λ b. both (λ s. test (sides x.held m b s))))
    (both_are (λ h. both (λ m. both (λ b. both (λ s. test (sides h m b s))))) so x.held) x.marked) x.believed) x.spent

all_by : (test : Policy → Bool) (P : Policy → Type 0) → ((p : Policy) → test p ≡ true → P p) → (ps : List Policy) → all_of test ps ≡ true → All P ps
all_by test P is [] so = All-nil P
all_by test P is (p ∷ ps) so =
    let parts = and_parts (test p) (all_of test ps) so in
    All-cons P p ps (is p parts.0) (all_by test P is ps parts.1)

-- ---- the policies

abbrev always : (BitFlaw → Policy → Sides → Bool) → BitFlaw → Policy → Bool
always shows f p = on_each (shows f p)

abbrev at_first : (BitFlaw → Policy → Sides → Bool) → BitFlaw → Policy → Bool
at_first shows f p = both (λ v. shows f p (first_sides f v))

all_always : (shows : BitFlaw → Policy → Sides → Bool) (f : BitFlaw) (ps : List Policy) → all_of (always shows f) ps ≡ true → All (ShowsAlways shows f) ps
all_always shows f ps so = all_by (always shows f) (ShowsAlways shows f) (λ p yes. on_all (shows f p) yes) ps so

pub stuck_is_shown : StuckIsShown
stuck_is_shown = (
  all_always shows_twice (sticks false) turned_at_0 refl,
  all_always shows_twice (sticks true) turned_at_1 refl,
  all_always shows_behind (sticks false) behind_at_0 refl,
  all_always shows_behind (sticks true) behind_at_1 refl,
)

pub deaf_is_shown : DeafIsShown
deaf_is_shown =
    (all_always shows_twice hears_nothing turned_twice refl, both_are (λ v. shows_twice hears_nothing W1 (first_sides hears_nothing v)) refl)

-- those that the first value shows
all_from : (shows : BitFlaw → Policy → Sides → Bool) (f : BitFlaw) (believed : Bool) (ps : List Policy) → all_of (λ p. shows f p (first_sides f believed)) ps ≡ true
    → All (ShowsFrom shows f believed) ps
all_from shows f believed ps so = all_by (λ p. shows f p (first_sides f believed)) (ShowsFrom shows f believed) (λ p yes. yes) ps so

pub first_value_is_shown : FirstValueIsShown
first_value_is_shown = (
  all_from shows_twice (sticks false) false (Wrs ∷ W1 ∷ []) refl,
  all_from shows_twice (sticks false) true (Ro ∷ Rc ∷ W1c ∷ W0s ∷ W0src ∷ []) refl,
  all_from shows_twice (sticks true) false (Ro ∷ Rs ∷ W1c ∷ W0s ∷ W1crs ∷ []) refl,
  all_from shows_twice (sticks true) true (Wrc ∷ W1 ∷ []) refl,
)

pub first_value_is_shown_behind : FirstValueIsShownBehind
first_value_is_shown_behind = (
  all_from shows_behind (sticks false) false (W0t ∷ W1 ∷ []) refl,
  all_from shows_behind (sticks false) true (Ro ∷ Rc ∷ Rs ∷ W1c ∷ W1crs ∷ []) refl,
  all_from shows_behind (sticks true) false (Ro ∷ Rc ∷ Rs ∷ W0s ∷ W0src ∷ []) refl,
  all_from shows_behind (sticks true) true (W1t ∷ W1 ∷ []) refl,
)

pub first_value_shows_deaf : FirstValueShowsDeaf
first_value_shows_deaf =
    (all_from shows_twice hears_nothing false (Ws ∷ W1s ∷ W1t ∷ []) refl, all_from shows_twice hears_nothing true (Wc ∷ W0c ∷ W0t ∷ []) refl)

-- the three rows of a policy
record IsRow (p : Policy) : Type 0 where
  twice : all_of (λ q. at_first shows_twice (goes_by q) p) (found_twice p) ≡ true
  anywhere : all_of (λ q. always shows_twice (goes_by q) p) (found_anywhere p) ≡ true
  behind : all_of (λ q. at_first shows_behind (goes_by q) p) (found_behind p) ≡ true

row_of : (p : Policy) → IsRow p
row_of Ro = record { twice = refl; anywhere = refl; behind = refl }
row_of Rw = record { twice = refl; anywhere = refl; behind = refl }
row_of Rc = record { twice = refl; anywhere = refl; behind = refl }
row_of Rs = record { twice = refl; anywhere = refl; behind = refl }
row_of Wrc = record { twice = refl; anywhere = refl; behind = refl }
row_of Wrs = record { twice = refl; anywhere = refl; behind = refl }
row_of Wc = record { twice = refl; anywhere = refl; behind = refl }
row_of Ws = record { twice = refl; anywhere = refl; behind = refl }
row_of Wsrc = record { twice = refl; anywhere = refl; behind = refl }
row_of Wcrs = record { twice = refl; anywhere = refl; behind = refl }
row_of W1c = record { twice = refl; anywhere = refl; behind = refl }
row_of W1s = record { twice = refl; anywhere = refl; behind = refl }
row_of W1t = record { twice = refl; anywhere = refl; behind = refl }
row_of W0c = record { twice = refl; anywhere = refl; behind = refl }
row_of W0s = record { twice = refl; anywhere = refl; behind = refl }
row_of W0t = record { twice = refl; anywhere = refl; behind = refl }
row_of W1src = record { twice = refl; anywhere = refl; behind = refl }
row_of W1crs = record { twice = refl; anywhere = refl; behind = refl }
row_of W0src = record { twice = refl; anywhere = refl; behind = refl }
row_of W0crs = record { twice = refl; anywhere = refl; behind = refl }
row_of Wo = record { twice = refl; anywhere = refl; behind = refl }
row_of Woc = record { twice = refl; anywhere = refl; behind = refl }
row_of Wos = record { twice = refl; anywhere = refl; behind = refl }
row_of W1 = record { twice = refl; anywhere = refl; behind = refl }
row_of Wo1 = record { twice = refl; anywhere = refl; behind = refl }

pub other_policy_is_shown : OtherPolicyIsShown
other_policy_is_shown p =
    let row = row_of p in (
      all_by (λ q. at_first shows_twice (goes_by q) p) (λ q. ShowsAtFirst shows_twice (goes_by q) p)
          (λ q yes. both_are (λ v. shows_twice (goes_by q) p (first_sides (goes_by q) v)) yes) (found_twice p) row.twice,
      all_by (λ q. always shows_twice (goes_by q) p) (λ q. ShowsAlways shows_twice (goes_by q) p) (λ q yes. on_all (shows_twice (goes_by q) p) yes) (found_anywhere p) row.anywhere,
      all_by (λ q. at_first shows_behind (goes_by q) p) (λ q. ShowsAtFirst shows_behind (goes_by q) p)
          (λ q yes. both_are (λ v. shows_behind (goes_by q) p (first_sides (goes_by q) v)) yes) (found_behind p) row.behind,
    )

-- ---- a new device

blank_marks : (c : ChipData) (l : LayoutData) (f : Flaws) (count reg b : ℕ) → bit (slice_index (first_state (setup_of c l f) count).marks reg) b ≡ false
unfolding first_state reset_by
blank_marks c l f count reg b = ap (λ n. bit n b) (zero_in (length (empty_state (setup_of c l f) count).marks) reg) ∙ bit-zero b

same_bits : (c : ChipData) (l : LayoutData) (field : ℕ) (q : Policy) (count : ℕ)
    → (first_state (setup_of c l (deaf_items [])) count).bits ≡ (first_state (setup_of c l (other_policy field q)) count).bits
unfolding first_state reset_by setup_of held
same_bits c l field q count = refl

held_first : (c : ChipData) (l : LayoutData) (field i : ℕ) (flaw : BitFlaw) (count : ℕ) → IsSound c → HasNoVolatile c → IsComparedAt c field i
    → bit (slice_index (first_state (setup_of c l (only_flaw c field i flaw)) count).bits (reg_of c field)) ((field_of c field).shape.lsb + i)
    ≡ (first_sides flaw (first_believed c field i)).held
held_first c l field i (sticks v) count sound steady is = (new_one_has_stuck_bit c l (record { field = field; bit = i; value = v }) count sound is.field_in is.bit_in).holds
held_first c l field i hears_nothing count sound steady is =
    let reg = reg_of c field in
    ap (λ n. bit n ((field_of c field).shape.lsb + i)) (sym (new_ones_agree_on_bits c l (Deaf reg ∷ []) count reg sound steady (seated c field sound is.field_in).reg))
held_first c l field i (goes_by q) count sound steady is =
    let reg = reg_of c field in
    ap (λ xs. bit (slice_index xs reg) ((field_of c field).shape.lsb + i)) (sym (same_bits c l field q count))
    ∙ ap (λ n. bit n ((field_of c field).shape.lsb + i)) (sym (new_ones_agree_on_bits c l [] count reg sound steady (seated c field sound is.field_in).reg))

stuck_first : (flaw : BitFlaw) (believed : Bool) → HoldsStuck flaw (first_sides flaw believed).held
stuck_first (sticks v) believed = refl
stuck_first hears_nothing believed = tt
stuck_first (goes_by q) believed = tt

-- no mark, and this is believed
record AreFirst (flaw : BitFlaw) (believed : Bool) : Type 0 where
  marked : false ≡ (first_sides flaw believed).marked
  believes : believed ≡ (first_sides flaw believed).believed
  spent : false ≡ (first_sides flaw believed).spent

are_first : (flaw : BitFlaw) (believed : Bool) → AreFirst flaw believed
are_first (sticks v) believed = record { marked = refl; believes = refl; spent = refl }
are_first hears_nothing believed = record { marked = refl; believes = refl; spent = refl }
are_first (goes_by q) believed = record { marked = refl; believes = refl; spent = refl }

pub new_one_has_flaw : NewOneHasFlaw
new_one_has_flaw c l field i flaw count sound steady is =
    let f = only_flaw c field i flaw in
    let first = are_first flaw (first_believed c field i) in
    record {
      own = is;
      set_up = new_set_up c l f count;
      held = held_first c l field i flaw count sound steady is;
      stuck = stuck_first flaw (first_believed c field i);
      mark_of = λ reg k. false;
      each_mark = λ reg b k there low at. blank_marks c l f count reg b;
      marked = blank_marks c l f count (reg_of c field) ((field_of c field).shape.lsb + i) ∙ first.marked;
      believed = first.believes;
      spent = none_spent c field ∙ first.spent;
    }

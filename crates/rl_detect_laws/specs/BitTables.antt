-- Which policies the computation over one bit shows: the proved cells of the tables in docs/DETECTION.md.
use Rattle.std.specs.Prelude.{◌≡◌, ℕ, ◌+◌, Bool, true, false, All, List, [], ◌∷◌}
use Rattle.rl_policy.specs.Bits.{bit}
use Rattle.rl_policy.specs.declared.policy.Policy.{Policy}
use Rattle.rl_policy.specs.declared.policy.Policy.TheVariants.{Ro, Rw, Rc, Rs, Wrc, Wrs, Wc, Ws, Wsrc, Wcrs, W1c, W1s, W1t, W0c, W0s, W0t, W1src, W1crs, W0src, W0crs, Wo, Woc, Wos, W1, Wo1}
use Rattle.rl_bus.specs.State.{first_state}
use Rattle.rl_model.specs.Chip.{IsSound}
use Rattle.rl_model.specs.Fields.{field_of}
use Rattle.rl_model.specs.Rows.{ChipData}
use Rattle.rl_map.specs.Layout.{LayoutData}
use Rattle.rl_map.specs.Tables.{setup_of}
use Rattle.rl_mirror.specs.Mirror.{mirrored_of}
use Rattle.rl_mirror.specs.Prediction.{fresh}
use Rattle.rl_access.specs.Operation.{reg_of}
use Rattle.rl_plain.specs.Agree.{HasNoVolatile}
use Rattle.rl_detect_laws.specs.BitFlaws.{only_flaw, IsComparedAt, HasFlaw}
use Rattle.rl_detect_laws.specs.Sides.{Sides, BitFlaw, sticks, hears_nothing, goes_by, shows_twice, shows_behind}
use Rattle.rl_detect_laws.specs.Stuck.{turned_at_0, turned_at_1}

-- ---- at first

-- A new device holds what is believed, or where the bit sticks. No first write was taken.
abbrev pub first_sides : BitFlaw → (believed : Bool) → Sides
first_sides (sticks v) believed = record { held = v; marked = false; believed = believed; spent = false }
first_sides _ believed = record { held = believed; marked = false; believed = believed; spent = false }

-- what is believed of a bit of a field at first
abbrev pub first_believed : ChipData → (field i : ℕ) → Bool
first_believed c field i = bit (mirrored_of (fresh c) (reg_of c field)) ((field_of c field).shape.lsb + i)

-- A new device with this flaw and new beliefs are so, where no field is volatile.
abbrev pub NewOneHasFlaw : Type 0
NewOneHasFlaw =
    (c : ChipData) (l : LayoutData) (field i : ℕ) (flaw : BitFlaw) (count : ℕ)
    → IsSound c → HasNoVolatile c → IsComparedAt c field i
    → HasFlaw c l (first_state (setup_of c l (only_flaw c field i flaw)) count) (fresh c) field i flaw
    (first_sides flaw (first_believed c field i))

-- ---- what shows

-- the steps show a flaw of a new bit, whatever it resets to; or of any bit
abbrev pub ShowsAtFirst : (BitFlaw → Policy → Sides → Bool) → BitFlaw → Policy → Type 0
ShowsAtFirst shows f p = (believed : Bool) → shows f p (first_sides f believed) ≡ true

abbrev pub ShowsAlways : (BitFlaw → Policy → Sides → Bool) → BitFlaw → Policy → Type 0
ShowsAlways shows f p = (x : Sides) → shows f p x ≡ true

-- ---- a stuck bit

-- by `access_test`, at 0 and at 1
abbrev pub behind_at_0 : List Policy
behind_at_0 = Rw ∷ Wrc ∷ Wrs ∷ Ws ∷ Wsrc ∷ W1s ∷ W1t ∷ W0s ∷ W1src ∷ W0src ∷ []

abbrev pub behind_at_1 : List Policy
behind_at_1 = Rw ∷ Wrc ∷ Wrs ∷ Wc ∷ Wcrs ∷ W1c ∷ W0c ∷ W0t ∷ W1crs ∷ W0crs ∷ []

abbrev pub StuckIsShown : Type 0
StuckIsShown =
    All (ShowsAlways shows_twice (sticks false)) turned_at_0 × All (ShowsAlways shows_twice (sticks true)) turned_at_1
    × All (ShowsAlways shows_behind (sticks false)) behind_at_0
    × All (ShowsAlways shows_behind (sticks true)) behind_at_1

-- ---- a deaf register

abbrev pub turned_twice : List Policy
turned_twice = Rw ∷ Wrc ∷ Wrs ∷ Wsrc ∷ Wcrs ∷ W1src ∷ W0crs ∷ []

-- and W1, before its first write
abbrev pub DeafIsShown : Type 0
DeafIsShown = All (ShowsAlways shows_twice hears_nothing) turned_twice × ShowsAtFirst shows_twice hears_nothing W1

-- ---- what the first value shows

abbrev pub ShowsFrom : (BitFlaw → Policy → Sides → Bool) → BitFlaw → (believed : Bool) → Policy → Type 0
ShowsFrom shows f believed p = shows f p (first_sides f believed) ≡ true

-- stuck at 0, of a bit that resets to 0 and to 1, and stuck at 1
abbrev pub FirstValueIsShown : Type 0
FirstValueIsShown =
    All (ShowsFrom shows_twice (sticks false) false) (Wrs ∷ W1 ∷ [])
    × All (ShowsFrom shows_twice (sticks false) true) (Ro ∷ Rc ∷ W1c ∷ W0s ∷ W0src ∷ [])
    × All (ShowsFrom shows_twice (sticks true) false) (Ro ∷ Rs ∷ W1c ∷ W0s ∷ W1crs ∷ [])
    × All (ShowsFrom shows_twice (sticks true) true) (Wrc ∷ W1 ∷ [])

-- by `access_test`
abbrev pub FirstValueIsShownBehind : Type 0
FirstValueIsShownBehind =
    All (ShowsFrom shows_behind (sticks false) false) (W0t ∷ W1 ∷ [])
    × All (ShowsFrom shows_behind (sticks false) true) (Ro ∷ Rc ∷ Rs ∷ W1c ∷ W1crs ∷ [])
    × All (ShowsFrom shows_behind (sticks true) false) (Ro ∷ Rc ∷ Rs ∷ W0s ∷ W0src ∷ [])
    × All (ShowsFrom shows_behind (sticks true) true) (W1t ∷ W1 ∷ [])

-- of a deaf register that holds 0, and 1
abbrev pub FirstValueShowsDeaf : Type 0
FirstValueShowsDeaf =
    All (ShowsFrom shows_twice hears_nothing false) (Ws ∷ W1s ∷ W1t ∷ [])
    × All (ShowsFrom shows_twice hears_nothing true) (Wc ∷ W0c ∷ W0t ∷ [])

-- ---- another policy: of a field that is described with the first one, these

-- twice turned, of a new bit
abbrev pub found_twice : Policy → List Policy
found_twice Ro = Rw ∷ Wrc ∷ Wrs ∷ W1src ∷ W0crs ∷ W1 ∷ []
found_twice Rw =
    Ro ∷ Rc ∷ Rs ∷ Wc ∷ Ws ∷ Wsrc ∷ Wcrs ∷ W1c ∷ W1s ∷ W1t ∷ W0c ∷ W0s ∷ W0t ∷ W1crs ∷ W0src ∷ Wo ∷ Woc ∷ Wos ∷ W1 ∷ Wo1
    ∷ []
found_twice Rc = Rw ∷ Rs ∷ Wrc ∷ Wrs ∷ Ws ∷ Wsrc ∷ W1s ∷ W1src ∷ W0crs ∷ W1 ∷ []
found_twice Rs = Rw ∷ Rc ∷ Wrc ∷ Wrs ∷ Wc ∷ Wcrs ∷ W0c ∷ W1src ∷ W0crs ∷ Wo ∷ Woc ∷ Wos ∷ W1 ∷ Wo1 ∷ []
found_twice Wrc = Ro ∷ Rc ∷ Rs ∷ Wc ∷ Wcrs ∷ W1c ∷ W1t ∷ W0c ∷ W0s ∷ W0t ∷ W1crs ∷ W0src ∷ Wo ∷ Woc ∷ Wos ∷ Wo1 ∷ []
found_twice Wrs = Ro ∷ Rc ∷ Rs ∷ Ws ∷ Wsrc ∷ W1c ∷ W1s ∷ W1t ∷ W0s ∷ W0t ∷ W1crs ∷ W0src ∷ []
found_twice Wc = Rw ∷ Rs ∷ Wrc ∷ Wrs ∷ Ws ∷ Wsrc ∷ W1s ∷ W1t ∷ W1src ∷ W0crs ∷ []
found_twice Ws = Rw ∷ Rc ∷ Wrc ∷ Wrs ∷ Wc ∷ Wcrs ∷ W0c ∷ W0t ∷ W1src ∷ W0crs ∷ Wo ∷ Woc ∷ Wos ∷ Wo1 ∷ []
found_twice Wsrc = Rc ∷ Wc ∷ Wcrs ∷ W1c ∷ W1t ∷ W0c ∷ W0t ∷ W1crs ∷ W0src ∷ W0crs ∷ Wo ∷ Woc ∷ Wos ∷ Wo1 ∷ []
found_twice Wcrs = Rs ∷ Ws ∷ Wsrc ∷ W1s ∷ W1t ∷ W0s ∷ W0t ∷ W1src ∷ W1crs ∷ W0src ∷ []
found_twice W1c = Rw ∷ Wrc ∷ Wrs ∷ W1src ∷ W0crs ∷ W1 ∷ []
found_twice W1s = Rw ∷ Rc ∷ Wrc ∷ Wrs ∷ Wc ∷ Wcrs ∷ W0c ∷ W0t ∷ W1src ∷ W0crs ∷ Wo ∷ Woc ∷ Wos ∷ Wo1 ∷ []
found_twice W1t = Rw ∷ Rc ∷ Wrc ∷ Wrs ∷ Wc ∷ Wcrs ∷ W0c ∷ W0t ∷ W1src ∷ W0crs ∷ Wo ∷ Woc ∷ Wos ∷ Wo1 ∷ []
found_twice W0c = Rw ∷ Rs ∷ Wrc ∷ Wrs ∷ Ws ∷ Wsrc ∷ W1s ∷ W1t ∷ W1src ∷ W0crs ∷ []
found_twice W0s = Rw ∷ Wrc ∷ Wrs ∷ W1src ∷ W0crs ∷ W1 ∷ []
found_twice W0t = Rw ∷ Rs ∷ Wrc ∷ Wrs ∷ Ws ∷ Wsrc ∷ W1s ∷ W1t ∷ W1src ∷ W0crs ∷ []
found_twice W1src = Rc ∷ Wc ∷ Wcrs ∷ W1c ∷ W1t ∷ W0c ∷ W0t ∷ W1crs ∷ W0src ∷ W0crs ∷ Wo ∷ Woc ∷ Wos ∷ Wo1 ∷ []
found_twice W1crs = Rw ∷ Rc ∷ Wrc ∷ Wrs ∷ Wc ∷ Wcrs ∷ W0c ∷ W1src ∷ W0crs ∷ Wo ∷ Woc ∷ Wos ∷ W1 ∷ Wo1 ∷ []
found_twice W0src = Rw ∷ Rs ∷ Wrc ∷ Wrs ∷ Ws ∷ Wsrc ∷ W1s ∷ W1src ∷ W0crs ∷ W1 ∷ []
found_twice W0crs = Rs ∷ Ws ∷ Wsrc ∷ W1s ∷ W1t ∷ W0s ∷ W0t ∷ W1src ∷ W1crs ∷ W0src ∷ []
found_twice W1 = Ro ∷ Rw ∷ Rc ∷ Rs ∷ Wrc ∷ Wrs ∷ W1c ∷ W0s ∷ W1src ∷ W1crs ∷ W0src ∷ W0crs ∷ []
found_twice _ = []

-- twice turned, of any bit
abbrev pub found_anywhere : Policy → List Policy
found_anywhere Ro = Rw ∷ Wrc ∷ Wrs ∷ W1src ∷ W0crs ∷ []
found_anywhere Rw = Ro ∷ Wc ∷ Ws ∷ Wsrc ∷ Wcrs ∷ W1c ∷ W0s ∷ W1crs ∷ W0src ∷ Wo ∷ Woc ∷ Wos ∷ W1 ∷ Wo1 ∷ []
found_anywhere Rc = Rw ∷ Rs ∷ Wrc ∷ Wrs ∷ Ws ∷ Wsrc ∷ W1s ∷ W1src ∷ W0crs ∷ []
found_anywhere Rs = Rw ∷ Rc ∷ Wrc ∷ Wrs ∷ Wc ∷ Wcrs ∷ W0c ∷ W1src ∷ W0crs ∷ Wo ∷ Woc ∷ Wos ∷ Wo1 ∷ []
found_anywhere Wrc = Rc ∷ Wc ∷ Wcrs ∷ W1c ∷ W1crs ∷ W0src ∷ Wo ∷ Woc ∷ Wos ∷ Wo1 ∷ []
found_anywhere Wrs = Rs ∷ Ws ∷ Wsrc ∷ W0s ∷ W1crs ∷ W0src ∷ []
found_anywhere Wc = Rw ∷ Rs ∷ Wrc ∷ Wrs ∷ Ws ∷ Wsrc ∷ W1s ∷ W1t ∷ W1src ∷ W0crs ∷ []
found_anywhere Ws = Rw ∷ Rc ∷ Wrc ∷ Wrs ∷ Wc ∷ Wcrs ∷ W0c ∷ W0t ∷ W1src ∷ W0crs ∷ Wo ∷ Woc ∷ Wos ∷ Wo1 ∷ []
found_anywhere Wsrc = Rc ∷ Wc ∷ Wcrs ∷ W1c ∷ W1t ∷ W1crs ∷ W0src ∷ Wo ∷ Woc ∷ Wos ∷ Wo1 ∷ []
found_anywhere Wcrs = Rs ∷ Ws ∷ Wsrc ∷ W0s ∷ W0t ∷ W1crs ∷ W0src ∷ []
found_anywhere W1c = Rw ∷ Wrc ∷ Wrs ∷ W1src ∷ W0crs ∷ []
found_anywhere W1s = Rw ∷ Rc ∷ Wrc ∷ Wrs ∷ Wc ∷ Wcrs ∷ W0c ∷ W0t ∷ W1src ∷ W0crs ∷ Wo ∷ Woc ∷ Wos ∷ Wo1 ∷ []
found_anywhere W1t = Rw ∷ Rc ∷ Wrc ∷ Wrs ∷ Wc ∷ Wcrs ∷ W0c ∷ W0t ∷ W1src ∷ W0crs ∷ Wo ∷ Woc ∷ Wos ∷ Wo1 ∷ []
found_anywhere W0c = Rw ∷ Rs ∷ Wrc ∷ Wrs ∷ Ws ∷ Wsrc ∷ W1s ∷ W1t ∷ W1src ∷ W0crs ∷ []
found_anywhere W0s = Rw ∷ Wrc ∷ Wrs ∷ W1src ∷ W0crs ∷ []
found_anywhere W0t = Rw ∷ Rs ∷ Wrc ∷ Wrs ∷ Ws ∷ Wsrc ∷ W1s ∷ W1t ∷ W1src ∷ W0crs ∷ []
found_anywhere W1src = Rc ∷ Wc ∷ Wcrs ∷ W1c ∷ W1t ∷ W1crs ∷ W0src ∷ Wo ∷ Woc ∷ Wos ∷ Wo1 ∷ []
found_anywhere W1crs = Rw ∷ Rc ∷ Wrc ∷ Wrs ∷ Wc ∷ Wcrs ∷ W0c ∷ W1src ∷ W0crs ∷ Wo ∷ Woc ∷ Wos ∷ Wo1 ∷ []
found_anywhere W0src = Rw ∷ Rs ∷ Wrc ∷ Wrs ∷ Ws ∷ Wsrc ∷ W1s ∷ W1src ∷ W0crs ∷ []
found_anywhere W0crs = Rs ∷ Ws ∷ Wsrc ∷ W0s ∷ W0t ∷ W1crs ∷ W0src ∷ []
found_anywhere W1 = Rw ∷ Wrc ∷ Wrs ∷ W1src ∷ W0crs ∷ []
found_anywhere _ = []

-- by `access_test`, of a new bit
abbrev pub found_behind : Policy → List Policy
found_behind Ro = Rw ∷ Wrc ∷ Wrs ∷ Wo ∷ Wos ∷ W1 ∷ Wo1 ∷ []
found_behind Rw = Ro ∷ Rc ∷ Rs ∷ W1c ∷ W0s ∷ W1crs ∷ W0src ∷ Woc ∷ []
found_behind Rc = Rw ∷ Wrc ∷ Wrs ∷ Wo ∷ W1 ∷ Wo1 ∷ []
found_behind Rs = Rw ∷ Wrc ∷ Wrs ∷ Wo ∷ Woc ∷ Wos ∷ W1 ∷ Wo1 ∷ []
found_behind Wrc = Ro ∷ Rc ∷ Rs ∷ W1c ∷ W0s ∷ W1crs ∷ W0src ∷ Woc ∷ []
found_behind Wrs = Ro ∷ Rc ∷ Rs ∷ W1c ∷ W0s ∷ W1crs ∷ W0src ∷ Woc ∷ []
found_behind Wc = Ws ∷ Wsrc ∷ W1s ∷ W1t ∷ W1src ∷ Wos ∷ []
found_behind Ws = Wc ∷ Wcrs ∷ W0c ∷ W0t ∷ W0crs ∷ Wo ∷ Woc ∷ Wos ∷ Wo1 ∷ []
found_behind Wsrc = Wc ∷ Wcrs ∷ W0c ∷ W0t ∷ W0crs ∷ Wo ∷ Woc ∷ Wos ∷ Wo1 ∷ []
found_behind Wcrs = Ws ∷ Wsrc ∷ W1s ∷ W1t ∷ W1src ∷ Wos ∷ []
found_behind W1c = Rw ∷ Wrc ∷ Wrs ∷ Wo ∷ W1 ∷ Wo1 ∷ []
found_behind W1s = Wc ∷ Wcrs ∷ W0c ∷ W0t ∷ W0crs ∷ Wo ∷ Woc ∷ Wos ∷ Wo1 ∷ []
found_behind W1t = Wc ∷ Wcrs ∷ W0c ∷ W0t ∷ W0crs ∷ Wo ∷ Woc ∷ Wo1 ∷ []
found_behind W0c = Ws ∷ Wsrc ∷ W1s ∷ W1t ∷ W1src ∷ Wos ∷ []
found_behind W0s = Rw ∷ Wrc ∷ Wrs ∷ Wo ∷ Woc ∷ Wos ∷ W1 ∷ Wo1 ∷ []
found_behind W0t = Ws ∷ Wsrc ∷ W1s ∷ W1t ∷ W1src ∷ Wos ∷ []
found_behind W1src = Wc ∷ Wcrs ∷ W0c ∷ W0t ∷ W0crs ∷ Woc ∷ []
found_behind W1crs = Rw ∷ Wrc ∷ Wrs ∷ Wo ∷ Woc ∷ W1 ∷ Wo1 ∷ []
found_behind W0src = Rw ∷ Wrc ∷ Wrs ∷ Wo ∷ Woc ∷ W1 ∷ Wo1 ∷ []
found_behind W0crs = Ws ∷ Wsrc ∷ W1s ∷ W1t ∷ W1src ∷ Wo ∷ Wos ∷ Wo1 ∷ []
found_behind W1 = Ro ∷ Rc ∷ Rs ∷ W1c ∷ W0s ∷ W1crs ∷ W0src ∷ Wos ∷ []
found_behind _ = []

abbrev pub OtherPolicyIsShown : Type 0
OtherPolicyIsShown =
    (p : Policy)
    → All (λ q. ShowsAtFirst shows_twice (goes_by q) p) (found_twice p)
    × All (λ q. ShowsAlways shows_twice (goes_by q) p) (found_anywhere p)
    × All (λ q. ShowsAtFirst shows_behind (goes_by q) p) (found_behind p)

-- What a word of one access leaves of a half done weave.
use Rattle.std.proofs.Common.{◌≡◌, ◌⊎◌, ℕ, zero, suc, ◌<◌, ◌≤◌, ◌∷◌, [], List, length, get_or, set, Some, Ok, Option, None, refl, sym, ap, ◌∙◌, subst, inl, inr, arith}
use Rattle.std.specs.Prelude.{Contains, AllPairs}
use Rattle.std.proofs.lemmas.Bool.{cases_eq, cases_lt}
use Rattle.std.proofs.lemmas.List.{get_or-set_same, get_or-set_other}
use Rattle.rl_policy.specs.Bits.{bit}
use Rattle.rl_bus.specs.State.{State}
use Rattle.rl_model.specs.Rows.{ChipData}
use Rattle.rl_model.specs.declared.rows.Item.TheVariants as item
use Rattle.rl_map.specs.declared.word.Word.{Word}
use Rattle.rl_map.specs.Layout.{LayoutData, place_at, words_of, IsLocation, Occupies}
use Rattle.rl_map.specs.Words.{no_word}
use Rattle.rl_mirror.specs.Mirror.{MirrorData}
use Rattle.rl_split.specs.Law.{Holds}
use Rattle.rl_split.specs.Step.{Register}
use Rattle.rl_split.specs.UnderWay.{IsUnderWay, IsTouched}
use Rattle.rl_access.specs.declared.predictor.Gathered.{Gathered}
use Rattle.rl_access.specs.Gathering.{no_words, gathered_at}
use Rattle.rl_access.specs.Model.{ModelData, IsModel}
use Rattle.rl_access.specs.Rules.{grant}
use Rattle.rl_plain.specs.Agree.{IsMarkedAlone}
use Rattle.rl_plain.specs.Machine.{Machine, mirror_of, register_at}
use Rattle.rl_plain.proofs.Agreement.{IsSame, holds_as}
use Rattle.rl_weave.specs.declared.woven.Woven.{Woven}
use Rattle.rl_weave.specs.Access.{op_with, op_of, no_woven, woven_at}
use Rattle.rl_weave.specs.Weave.{WeaveData, IsWeave}
use Rattle.rl_weave.proofs.Endings.{reg_in}
use Rattle.rl_weave.proofs.Granted.{IsGranted, granted_is}
use Rattle.rl_weave.proofs.Weaves.{weave, at_open}
use Rattle.rl_weave_laws.specs.Half.{writes, carried, IsHalfDone, IsOpen, NoneOpen, IsHalf}

-- ---- whether a word of a place stands at an address

abbrev HasWord : List Word → ℕ → Type 0
HasWord ws a = (k : ℕ) × (k < length ws) × ((get_or ws k no_word).address ≡ a)

has_word : (ws : List Word) (a : ℕ) → HasWord ws a ⊎ (HasWord ws a → ⊥)
has_word [] a = inr (λ h. let low = h.1 in absurd (omega (arith, low)))
has_word (w ∷ ws) a = by (cases_eq w.address a) (has_word ws a)
  where
    none : (w.address ≡ a → ⊥) → (HasWord ws a → ⊥) → (k : ℕ) → k < length (w ∷ ws) → (get_or (w ∷ ws) k no_word).address ≡ a → ⊥
    none apart_is more zero low e = apart_is e
    none apart_is more (suc k) low e = more (k, omega (arith, low), e)

    by : (w.address ≡ a) ⊎ (w.address ≡ a → ⊥) → HasWord ws a ⊎ (HasWord ws a → ⊥) → HasWord (w ∷ ws) a ⊎ (HasWord (w ∷ ws) a → ⊥)
    by (inl e) more = inl (0, omega arith, e)
    by (inr apart_is) (inl h) = let low = h.1 in inl (suc h.0, omega (arith, low), h.2)
    by (inr apart_is) (inr more) = inr (λ h. none apart_is more h.0 h.1 h.2)

occupied : (l : LayoutData) (port address place : ℕ) → IsLocation l place 0 → Occupies l port address place 0 ⊎ (Occupies l port address place 0 → ⊥)
occupied l port address place at = by (cases_eq (place_at l place).port port) (has_word (words_of l place 0) address)
  where
    by : ((place_at l place).port ≡ port) ⊎ ((place_at l place).port ≡ port → ⊥) →
        HasWord (words_of l place 0) address ⊎ (HasWord (words_of l place 0) address → ⊥) →
        Occupies l port address place 0 ⊎ (Occupies l port address place 0 → ⊥)
    by (inl p) (inl h) = inl (record { location = at; port_is = p; number = h.0; number_in = h.1; address_is = h.2 })
    by (inl p) (inr apart_is) = inr (λ o. apart_is (o.number, o.number_in, o.address_is))
    by (inr apart_is) h = inr (λ o. apart_is o.port_is)

-- ---- accesses of a weave

strict : (i k : ℕ) → k ≤ i → (i ≡ k → ⊥) → k < i
strict i k le apart_is = elim (cases_lt k i) [ inl l ↦ l | inr ge ↦ absurd (apart_is (omega (arith, le, ge))) ]

pub regs_differ : (accesses : List Woven) (i k : ℕ) → AllPairs (λ v u. v.access.reg ≡ u.access.reg → ⊥) accesses → i < length accesses →
    k < length accesses → (i ≡ k → ⊥) → (woven_at accesses i).access.reg ≡ (woven_at accesses k).access.reg → ⊥
regs_differ accesses i k apart low high differ e =
    elim (cases_lt i k) [ inl before ↦ apart i k no_woven before high e | inr after ↦ apart k i no_woven (strict i k after differ) low (sym e) ]

-- a place has one register
pub places_differ : (m : ModelData) (v u : Woven) → IsGranted m v.access.reg v.access.map v.access.value v.place →
    IsGranted m u.access.reg u.access.map u.access.value u.place → (v.access.reg ≡ u.access.reg → ⊥) → v.place ≡ u.place → ⊥
places_differ m v u here there apart e = apart (reg_same (sym here.there.item_is ∙ ap (λ p. (place_at m.layout p).item) e ∙ there.there.item_is))
  where
    reg_same : item.Reg v.access.reg ≡ item.Reg u.access.reg → v.access.reg ≡ u.access.reg
    reg_same e = cc

pub half_granted : (m : ModelData) (v : Woven) → grant m (op_of v.access) ≡ Ok v.place → IsGranted m v.access.reg v.access.map v.access.value v.place
half_granted m v e = granted_is m v.access.reg v.access.map v.access.value v.place e

pub grant_with : (m : ModelData) (gathered : List Gathered) (mirror : MirrorData) (reg : ℕ) (map value : Option ℕ) (place : ℕ) →
    grant m (op_with reg map value) ≡ Ok place →
    grant (record m { gathered = gathered; mirror = mirror }) (op_with reg map value) ≡ Ok place
grant_with m gathered mirror reg map None place e = e
grant_with m gathered mirror reg map (Some value) place e = e

-- ---- a word of one access

abbrev pub model_with : ModelData → (place : ℕ) → Gathered → MirrorData → ModelData
model_with m place g mirror = record m { gathered = set m.gathered place g; mirror = mirror }

-- where it was the last one: its register and its addresses are as between accesses
pub record IsShut (m : ModelData) (q : Machine) (next : State) (v : Woven) (opens : List ℕ) (which : ℕ) (g : Gathered) : Type 0 where
  pub gone : Contains opens which → ⊥
  pub holds : Holds m.chip next v.access.reg (register_at m.chip q v.access.reg)
  pub marked : IsMarkedAlone m.chip next v.access.reg
  pub beats : (address : ℕ) → Occupies m.layout (place_at m.layout v.place).port address v.place 0 →
      next.beats (place_at m.layout v.place).port address ≡ 0
  pub gathered : g ≡ no_words

-- The word of access `which`, whose machine is then q: it touched its register alone, and the access is u afterwards.
pub record IsMoved (m : ModelData) (p q : Machine) (begun d next : State) (w : WeaveData) (which address : ℕ) (u : Woven) (opens : List ℕ) (g : Gathered) : Type 0 where
  pub reg : u.access.reg ≡ (woven_at w.accesses which).access.reg
  pub place : u.place ≡ (woven_at w.accesses which).place
  pub at : Occupies m.layout (place_at m.layout (woven_at w.accesses which).place).port address (woven_at w.accesses which).place 0
  pub touched : IsTouched d next (woven_at w.accesses which).access.reg (place_at m.layout (woven_at w.accesses which).place).port address
  pub fewer : (i : ℕ) → Contains opens i → IsOpen w i
  pub kept : (i : ℕ) → IsOpen w i → (i ≡ which → ⊥) → Contains opens i
  pub same : (reg : ℕ) → reg < length m.chip.regs → (reg ≡ (woven_at w.accesses which).access.reg → ⊥) →
      IsSame m.chip reg (register_at m.chip p reg) (register_at m.chip q reg)
  pub others : (i : ℕ) → IsOpen w i → (i ≡ which → ⊥) →
      IsUnderWay m.layout begun next (woven_at w.accesses i).place (woven_at w.accesses i).access.reg (carried (woven_at w.accesses i).access) (writes (woven_at w.accesses i).access)
      (length (woven_at w.accesses i).items)
  pub own : (Contains opens which × IsHalfDone begun q (model_with m (woven_at w.accesses which).place g (mirror_of q)) next u) ⊎ IsShut m q next (woven_at w.accesses which) opens which g

-- ---- the others

holds_touched : (c : ChipData) (d next : State) (own port address reg : ℕ) (r : Register) → IsTouched d next own port address → (reg ≡ own → ⊥) →
    Holds c d reg r → Holds c next reg r
holds_touched c d next own port address reg r t apart h = record {
  bits = t.bits reg apart ∙ h.bits;
  marks = λ b k low e. ap (λ n. bit n b) (t.marks reg apart) ∙ h.marks b k low e;
}

marked_touched : (c : ChipData) (d next : State) (own port address reg : ℕ) → IsTouched d next own port address → (reg ≡ own → ⊥) →
    IsMarkedAlone c d reg → IsMarkedAlone c next reg
marked_touched c d next own port address reg t apart h b low e = ap (λ n. bit n b) (t.marks reg apart) ∙ h b low e

other_half : (m : ModelData) (p q : Machine) (begun d next : State) (w : WeaveData) (which address i : ℕ) (u : Woven) (opens : List ℕ) (g : Gathered) →
    IsWeave w → IsHalf begun p m d w → IsOpen w which → IsMoved m p q begun d next w which address u opens g →
    Contains opens i → (i ≡ which → ⊥) → IsHalfDone begun q (model_with m (woven_at w.accesses which).place g (mirror_of q)) next (woven_at w.accesses i)
other_half m p q begun d next w which address i u opens g ok half here moved there differ =
    let v = woven_at w.accesses which in
    let x = woven_at w.accesses i in
    let mine = half.open_ones which here in
    let its = half.open_ones i (moved.fewer i there) in
    let inside = (at_open w i ok (moved.fewer i there)).inside in
    let apart : x.access.reg ≡ v.access.reg → ⊥ = regs_differ w.accesses i which ok.apart inside (at_open w which ok here).inside differ in
    let places : x.place ≡ v.place → ⊥ = places_differ m x v (half_granted m x its.granted) (half_granted m v mine.granted) apart in
    record {
      numbers = its.numbers;
      granted = grant_with m (set m.gathered v.place g) (mirror_of q) x.access.reg x.access.map x.access.value x.place its.granted;
      words = its.words;
      holds = holds_as m.chip begun x.access.reg (register_at m.chip p x.access.reg) (register_at m.chip q x.access.reg) (moved.same x.access.reg (reg_in m x.access.reg x.access.map x.access.value
          its.numbers) apart) its.holds;
      marked = its.marked;
      under_way = moved.others i (moved.fewer i there) differ;
      ops = its.ops;
      answers = its.answers;
      gathered = get_or-set_other m.gathered v.place x.place g no_words places ∙ its.gathered;
    }

-- ---- its own: the access is open, or shut

abbrev Own : (m : ModelData) (q : Machine) (begun next : State) (v u : Woven) (which : ℕ) (opens : List ℕ) (g : Gathered) → Type 0
Own m q begun next v u which opens g = (Contains opens which × IsHalfDone begun q (model_with m v.place g (mirror_of q)) next u) ⊎ IsShut m q next v opens which g

own_half : (m : ModelData) (q : Machine) (begun next : State) (v u : Woven) (which : ℕ) (opens : List ℕ) (g : Gathered) →
    Own m q begun next v u which opens g → Contains opens which → IsHalfDone begun q (model_with m v.place g (mirror_of q)) next u
own_half m q begun next v u which opens g (inl half) there = half.1
own_half m q begun next v u which opens g (inr shut) there = absurd (shut.gone there)

own_shut : (m : ModelData) (q : Machine) (begun next : State) (v u : Woven) (which : ℕ) (opens : List ℕ) (g : Gathered) →
    Own m q begun next v u which opens g → (Contains opens which → ⊥) → IsShut m q next v opens which g
own_shut m q begun next v u which opens g (inl half) gone = absurd (gone half.0)
own_shut m q begun next v u which opens g (inr shut) gone = shut

-- ---- the whole

pub half_moved : (m : ModelData) (p q : Machine) (begun d next : State) (w : WeaveData) (which address : ℕ) (u : Woven) (opens : List ℕ) (g : Gathered) →
    IsModel m → IsWeave w → IsHalf begun p m d w → IsOpen w which → IsMoved m p q begun d next w which address u opens g →
    IsHalf begun q (model_with m (woven_at w.accesses which).place g (mirror_of q)) next (weave (set w.accesses which u) opens)
half_moved m p q begun d next w which address u opens g model ok half here moved =
    let v = woven_at w.accesses which in
    let inside : which < length w.accesses = (at_open w which ok here).inside in
    let mine = half.open_ones which here in
    let location : IsLocation m.layout v.place 0 = moved.at.location in
    record {
      begun_ready = half.begun_ready;
      steady = half.steady;
      device = record {
        setup = moved.touched.setup ∙ half.device.setup;
        bits = moved.touched.registers ∙ half.device.bits;
        marks = moved.touched.marked ∙ half.device.marks;
      };
      mirror = refl;
      open_ones = λ i there. each i there (cases_eq i which);
      holds = λ reg low none.
          elim (cases_eq reg v.access.reg) [
            | inl e ↦ subst (λ r. Holds m.chip next r (register_at m.chip q r)) (sym e) (shut_by (λ t. none which t (at_which u inside (λ x. x.access.reg ≡ reg) (moved.reg ∙ sym e)))).holds
            | inr apart_is ↦
                holds_as m.chip next reg (register_at m.chip p reg) (register_at m.chip q reg) (moved.same reg low apart_is)
                (holds_touched m.chip d next v.access.reg (place_at m.layout v.place).port address reg (register_at m.chip p reg) moved.touched apart_is (half.holds reg low
                (before (λ x. x.access.reg ≡ reg) (λ e. apart_is (sym e)) none)))
          ];
      marked = λ reg low none.
          elim (cases_eq reg v.access.reg) [
            | inl e ↦ subst (IsMarkedAlone m.chip next) (sym e) (shut_by (λ t. none which t (at_which u inside (λ x. x.access.reg ≡ reg) (moved.reg ∙ sym e)))).marked
            | inr apart_is ↦ marked_touched m.chip d next v.access.reg (place_at m.layout v.place).port address reg moved.touched apart_is (half.marked reg low (before (λ x. x.access.reg ≡ reg)
                (λ e. apart_is (sym e)) none))
          ];
      beats = λ port a none.
          elim (occupied m.layout port a v.place location) [
            | inl o ↦
                let shut = shut_by (λ t. none which t (at_which u inside (λ x. Occupies m.layout port a x.place 0) (subst (λ n. Occupies m.layout port a n 0) (sym moved.place) o))) in
                ap (λ n. next.beats n a) (sym o.port_is) ∙ shut.beats a (subst (λ n. Occupies m.layout n a v.place 0) (sym o.port_is) o)
            | inr apart_is ↦
                moved.touched.beats port a (λ e. apart_is (subst (λ t. Occupies m.layout t a v.place 0) (sym e.0) (subst (λ t. Occupies m.layout (place_at m.layout v.place).port t v.place 0)
                (sym e.1) moved.at)))
                ∙ half.beats port a (before (λ x. Occupies m.layout port a x.place 0) apart_is none)
          ];
      gathered = λ place none.
          elim (cases_eq place v.place) [
            | inl e ↦
                ap (λ n. gathered_at (set m.gathered v.place g) n) e
                ∙ get_or-set_same m.gathered v.place g no_words (subst (λ n. v.place < n) (sym model.predictor.count) location.place_in)
                ∙ (shut_by (λ t. none which t (at_which u inside (λ x. x.place ≡ place) (moved.place ∙ sym e)))).gathered
            | inr apart_is ↦ get_or-set_other m.gathered v.place place g no_words apart_is ∙ half.gathered place (before (λ x. x.place ≡ place) (λ e. apart_is (sym e)) none)
          ];
    }
  where
    at_which : (u : Woven) → which < length w.accesses → (P : Woven → Type 0) → P u → P (woven_at (set w.accesses which u) which)
    at_which u inside P h = subst P (sym (get_or-set_same w.accesses which u no_woven inside)) h

    shut_by : (Contains opens which → ⊥) → IsShut m q next (woven_at w.accesses which) opens which g
    shut_by gone = own_shut m q begun next (woven_at w.accesses which) u which opens g moved.own gone

    each : (i : ℕ) → Contains opens i → (i ≡ which) ⊎ (i ≡ which → ⊥) →
        IsHalfDone begun q (model_with m (woven_at w.accesses which).place g (mirror_of q)) next (woven_at (set w.accesses which u) i)
    each i there (inl e) =
        subst (λ n. IsHalfDone begun q (model_with m (woven_at w.accesses which).place g (mirror_of q)) next (woven_at (set w.accesses which u) n)) (sym e)
        (at_which u (at_open w which ok here).inside (IsHalfDone begun q (model_with m (woven_at w.accesses which).place g (mirror_of q)) next) (own_half m q begun next (woven_at w.accesses which) u
        which opens g moved.own (subst (Contains opens) e there)))
    each i there (inr apart_is) =
        subst (IsHalfDone begun q (model_with m (woven_at w.accesses which).place g (mirror_of q)) next) (sym (get_or-set_other w.accesses which i u no_woven apart_is))
        (other_half m p q begun d next w which address i u opens g ok half here moved there apart_is)

    before : (P : Woven → Type 0) → (P (woven_at w.accesses which) → ⊥) → NoneOpen (weave (set w.accesses which u) opens) P → NoneOpen w P
    before P apart_is none i there h =
        elim (cases_eq i which) [
          | inl e ↦ apart_is (subst (λ n. P (woven_at w.accesses n)) e h)
          | inr other ↦ none i (moved.kept i there other) (subst P (sym (get_or-set_other w.accesses which i u no_woven other)) h)
        ]

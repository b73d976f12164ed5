-- A weave begins half done, each step leaves one, and with no access open it is an agreement.
use Rattle.std.proofs.Common.{◌≡◌, ◌⊎◌, ℕ, zero, suc, ◌+◌, ◌<◌, ◌==◌, Bool, true, false, not, ◌||◌, cond, eqb, eqb-true, List, [], ◌∷◌}
use Rattle.std.proofs.Common.{◌++◌, length, get_or, map, take, set, replicate, Option, None, Some, is_some, refl, sym, ap, ◌∙◌, subst, inl, inr, arith}
use Rattle.std.specs.Prelude.{Contains, filter, unwrap_or, IfSome, slice_index}
use Rattle.std.proofs.lemmas.Bool.{cases_lt}
use Rattle.std.proofs.lemmas.List.{length-map, length_push, map-append, take_more, take_all, get_or_default, get_or-set_same, length-replicate, get_or-replicate, get_or_past, same_lists}
use Rattle.std.proofs.lemmas.List.Elements.{All-get_or}
use Rattle.std.proofs.lemmas.Option.{slice_get_within, get_or_from_slice_get}
use Rattle.rl_policy.specs.Bits.{bit}
use Rattle.rl_bus.specs.declared.op.Answer.{Answer}
use Rattle.rl_bus.specs.declared.op.BusOp.{BusOp}
use Rattle.rl_bus.specs.State.{State, state_after, answer_of}
use Rattle.rl_model.specs.Rows.{ChipData}
use Rattle.rl_model.specs.Fields.{fields_of, size_of}
use Rattle.rl_map.specs.Layout.{LayoutData, Occupies, place_at, words_of}
use Rattle.rl_mirror.specs.Mirror.{IsMirrorOf}
use Rattle.rl_split.specs.Access.{all_bytes, joined}
use Rattle.rl_split.specs.Law.{IsPlaceOf, IsReady, Holds}
use Rattle.rl_split.specs.Runs.{state_after_all, answers_of}
use Rattle.rl_split.specs.Seats.{no_op}
use Rattle.rl_split.specs.Step.{Register, every, ranswer}
use Rattle.rl_split.specs.UnderWay.{whole_ops, whole_op, alone, IsUnderWay, IsNextWord, IsOver}
use Rattle.rl_split.proofs.Accesses.{here_of, whole_write_is_step, whole_read_is_step}
use Rattle.rl_split.proofs.UnderWay.{none_sent_is_under_way, next_word_goes_on, others_stay_under_way, all_sent_is_write, all_sent_is_read}
use Rattle.rl_access.specs.declared.event.End.TheVariants.{BusError}
use Rattle.rl_access.specs.declared.predictor.Gathered.{Gathered}
use Rattle.rl_access.specs.declared.trace.TraceItem.{TraceItem}
use Rattle.rl_access.specs.Call.{Scene}
use Rattle.rl_access.specs.Gathering.{no_words, gathered_at, IsNothingGathered}
use Rattle.rl_access.specs.Items.{words_answered}
use Rattle.rl_access.specs.Model.{ModelData, IsModel}
use Rattle.rl_access.specs.Observed.{Seen, seen as seen_of, taken_in, is_whole, predicted}
use Rattle.rl_access.specs.Rules.{value_of, whole}
use Rattle.rl_plain.specs.Agree.{believed}
use Rattle.rl_plain.specs.Calls.{without_items}
use Rattle.rl_plain.specs.Machine.{Machine, mirror_of, register_at, stepped as machine_stepped, machine_step}
use Rattle.rl_plain.specs.OneStep.{register_after, device_after}
use Rattle.rl_plain.proofs.Agreement.{holds_as, here_same, other_same, here_alone}
use Rattle.rl_plain.proofs.Followed.{FollowsStep}
use Rattle.rl_plain.proofs.Machines.{seen_is}
use Rattle.rl_weave.specs.declared.weave.Step.{Step}
use Rattle.rl_weave.specs.declared.woven.Woven.{Woven}
use Rattle.rl_weave.specs.Access.{op_of, no_woven, woven_at}
use Rattle.rl_weave.specs.Step.{IsStepOf, good_end, end_with, event_with}
use Rattle.rl_weave.specs.Weave.{WeaveData, IsWeave, is_over, stepped, without}
use Rattle.rl_weave.proofs.Endings.{reg_in}
use Rattle.rl_weave.proofs.Granted.{IsGranted, register_place, granted_value}
use Rattle.rl_weave.proofs.Weaves.{at_open, apart_from, stepped_over, stepped_going}
use Rattle.rl_weave_laws.specs.Half.{writes, carried, step_of, answered, IsAlike, register_after_word, gathered_of}
use Rattle.rl_weave_laws.specs.Half.{IsOpen, NoneOpen, IsHalf, FreshIsHalf, IsHalfAfter, StepKeepsHalf, NoneOpenAgrees}
use Rattle.rl_weave_laws.proofs.Lasts.{good_is, alike, alike_as_is, value_brought, follows, machine_is, believed_is, event_is, value_is}
use Rattle.rl_weave_laws.proofs.Moves.{half_granted, regs_differ, grant_with, model_with, IsMoved, half_moved}
use Rattle.rl_weave_laws.proofs.Words.{place_granted, IsTold, told_word, ops_count, seen_word, gathered_whole}

-- ---- lists

abbrev all_of : List TraceItem → List BusOp
all_of items = map (λ (i : TraceItem). i.op) items

abbrev answers_in : List TraceItem → List Answer
answers_in items = map (λ (i : TraceItem). i.answer) items

none_of : (gathered : List Gathered) (n : ℕ) → length gathered ≡ n → IsNothingGathered gathered → gathered ≡ replicate n no_words
none_of gathered n many none =
    same_lists gathered (replicate n no_words) (many ∙ sym (length-replicate n no_words))
    (λ k d inside. All-get_or (λ g. g ≡ no_words) gathered k d inside none ∙ sym (get_or-replicate n k no_words d (subst (λ j. k < j) many inside)))

answers_append : (s : State) (port : ℕ) (xs : List BusOp) (op : BusOp) →
    answers_of s port (xs ++ op ∷ []) ≡ answers_of s port xs ++ answer_of (state_after_all s port xs) port op ∷ []
answers_append s port [] op = refl
answers_append s port (x ∷ xs) op = ap (λ later. answer_of s port x ∷ later) (answers_append (state_after s port x) port xs op)

pub not_at : (a b : ℕ) → (a ≡ b → ⊥) → not (eqb a b) ≡ true
not_at a b apart_is = by (eqb a b) refl
  where
    by : (t : Bool) → eqb a b ≡ t → not t ≡ true
    by true e = absurd (apart_is (eqb-true a b e))
    by false e = refl

contains_later : (x i : ℕ) (xs : List ℕ) → Contains xs i → Contains (x ∷ xs) i
contains_later x i xs h = let low = h.1 in (suc h.0, omega (arith, low), h.2)

front_has : (x i : ℕ) (xs : List ℕ) (t : Bool) → Contains xs i → Contains (cond t (x ∷ xs) xs) i
front_has x i xs true h = contains_later x i xs h
front_has x i xs false h = h

first_has : (x i : ℕ) (xs : List ℕ) (t : Bool) → t ≡ true → x ≡ i → Contains (cond t (x ∷ xs) xs) i
first_has x i xs true f same = (0, omega arith, same)
first_has x i xs false f same = absurd cc

pub has_at : (x i k : ℕ) (xs : List ℕ) → k < length (x ∷ xs) → get_or (x ∷ xs) k i ≡ i → (x ≡ i) ⊎ Contains xs i
has_at x i zero xs low same = inl same
has_at x i (suc k) xs low same = inr (k, omega (arith, low), same)

pub filter_has : (p : ℕ → Bool) (i : ℕ) (xs : List ℕ) → Contains xs i → p i ≡ true → Contains (filter p xs) i
filter_has p i [] h e = let low = h.1 in absurd (omega (arith, low))
filter_has p i (x ∷ xs) h e =
    elim (has_at x i h.0 xs h.1 h.2) [
      | inl same ↦ first_has x i (filter p xs) (p x) (ap p same ∙ e) same
      | inr more ↦ front_has x i (filter p xs) (p x) (filter_has p i xs more e)
    ]

filter_step : (x i : ℕ) (xs ys : List ℕ) (t : Bool) → (Contains ys i → Contains xs i) → Contains (cond t (x ∷ ys) ys) i → Contains (x ∷ xs) i
filter_step x i xs ys true more h =
    elim (has_at x i h.0 ys h.1 h.2) [ inl same ↦ (0, omega arith, same) | inr rest ↦ contains_later x i xs (more rest) ]
filter_step x i xs ys false more h = contains_later x i xs (more h)

pub filter_from : (p : ℕ → Bool) (i : ℕ) (xs : List ℕ) → Contains (filter p xs) i → Contains xs i
filter_from p i [] h = let low = h.1 in absurd (omega (arith, low))
filter_from p i (x ∷ xs) h = filter_step x i xs (filter p xs) (p x) (λ more. filter_from p i xs more) h

-- ---- whether it is the last one

pub over_is : (v : Woven) (item : TraceItem) (t : Bool) → item.answer.failed ≡ false → eqb (length v.items + 1) v.words ≡ t → is_over v item ≡ t
over_is v item t quiet e = ap (λ b. b || eqb (length v.items + 1) v.words) quiet ∙ e

pub whole_is : (l : LayoutData) (v : Woven) (item : TraceItem) (write t : Bool) → v.words ≡ length (words_of l v.place 0) →
    eqb (length v.items + 1) v.words ≡ t → is_whole l v.place (gathered_of write (v.items ++ item ∷ [])) ≡ t
whole_is l v item write t words e =
    ap (λ (g : Gathered). length g.words == length (words_of l v.place 0)) (gathered_whole write v.items item)
    ∙ ap (λ n. n == length (words_of l v.place 0)) (length-map (v.items ++ item ∷ []) _ ∙ length_push v.items item)
    ∙ ap (λ n. (length v.items + 1) == n) (sym words)
    ∙ e

-- ---- all words

-- the register took its step
all_sent : (c : ChipData) (l : LayoutData) (begun next : State) (place reg : ℕ) (value : Option ℕ) (r : Register) →
    IsPlaceOf c l place reg (is_some value) → IsReady c l begun → Holds c begun reg r →
    IsUnderWay l begun next place reg (unwrap_or value 0) (is_some value) (length (whole_ops l place (unwrap_or value 0) (is_some value))) →
    IsOver c l next place reg (register_after (fields_of c reg) (step_of value) r)
all_sent c l begun next place reg None r at ready holds under = all_sent_is_read c l begun next place reg r at ready holds under
all_sent c l begun next place reg (Some value) r at ready holds under = all_sent_is_write c l begun next place reg value r at ready holds under

whole_alone : (l : LayoutData) (begun : State) (place value : ℕ) (write : Bool) →
    alone l begun place value write (length (whole_ops l place value write)) ≡ state_after_all begun (place_at l place).port (whole_ops l place value write)
whole_alone l begun place value write =
    let ops = whole_ops l place value write in
    ap (state_after_all begun (place_at l place).port) (take_all (length ops) ops (omega arith))

alone_marks : (c : ChipData) (l : LayoutData) (begun : State) (place reg : ℕ) (value : Option ℕ) (r : Register) →
    IsPlaceOf c l place reg (is_some value) → IsReady c l begun → Holds c begun reg r →
    slice_index (alone l begun place (unwrap_or value 0) (is_some value) (length (whole_ops l place (unwrap_or value 0) (is_some value)))).marks reg
    ≡ slice_index (device_after c begun reg (step_of value) r (length (whole_ops l place (unwrap_or value 0) (is_some value)))).marks reg
alone_marks c l begun place reg None r at ready holds =
    ap (λ (x : State). slice_index x.marks reg) (whole_alone l begun place 0 false ∙ (whole_read_is_step c l begun place reg r at ready holds).state)
alone_marks c l begun place reg (Some value) r at ready holds =
    ap (λ (x : State). slice_index x.marks reg) (whole_alone l begun place value true ∙ (whole_write_is_step c l begun place reg value r at ready holds).state)

-- the value that a read is told to have brought
brought : (m new : ModelData) (begun : State) (p : Machine) (reg : ℕ) (map value : Option ℕ) (place : ℕ) (items : List TraceItem) → IsModel m →
    new.chip ≡ m.chip → new.layout ≡ m.layout → IsGranted m reg map value place → IsPlaceOf m.chip m.layout place reg (is_some value) →
    IsReady m.chip m.layout begun → Holds m.chip begun reg (register_at m.chip p reg) → all_of items ≡ whole_ops m.layout place (unwrap_or value 0) (is_some value) →
    answers_in items ≡ answers_of begun (place_at m.layout place).port (all_of items) →
    value ≡ None → value_of new (whole new reg place 0) items ≡ ranswer (fields_of m.chip reg) every (register_at m.chip p reg)
brought m new begun p reg map None place items model chip layout at there ready holds ops answers none =
    ap (λ l. joined l place 0 (all_bytes (size_of new.chip reg)) (words_answered items)) layout
    ∙ ap (λ c. joined m.layout place 0 (all_bytes (size_of c reg)) (words_answered items)) chip
    ∙ value_is m reg place map None items model at
    ∙ value_brought m.chip m.layout begun p place reg items there ready holds ops answers
brought m new begun p reg map (Some value) place items model chip layout at there ready holds ops answers none = absurd cc

-- ---- a step

module _ (begun : State) (p : Machine) (s new : Scene) (d : State) (w : WeaveData) (which : ℕ) (step : Step) where
  abbrev m : ModelData
  m = s.model

  abbrev c : ChipData
  c = m.chip

  abbrev l : LayoutData
  l = m.layout

  -- the access, as it was before
  abbrev v : Woven
  v = woven_at w.accesses which

  abbrev value : ℕ
  value = carried v.access

  abbrev write : Bool
  write = writes v.access

  abbrev port : ℕ
  port = (place_at l v.place).port

  -- its words, and how many of them were sent
  abbrev ops : List BusOp
  ops = whole_ops l v.place value write

  abbrev k : ℕ
  k = length v.items

  -- the word of the step, and those so far with it
  abbrev item : TraceItem
  item = step.item

  abbrev items : List TraceItem
  items = v.items ++ item ∷ []

  abbrev g : Gathered
  g = gathered_of write items

  -- ---- its word

  -- the next word is due
  pub record IsDue : Type 0 where
    pub at : IsGranted m v.access.reg v.access.map v.access.value v.place
    pub place : IsPlaceOf c l v.place v.access.reg write
    pub low : k < length ops
    pub op_is : item.op ≡ whole_op l v.place value write k

  is_due : IsModel m → IsOpen w which → IsHalf begun p m d w → IsStepOf s new v step → IsDue
  is_due model here half is =
      let at = half_granted m v (half.open_ones which here).granted in
      record {
        at = at;
        place = place_granted m v.access.reg v.access.map v.access.value v.place write model at refl;
        low = slice_get_within ops k item.op is.sent.op;
        op_is = sym (get_or_from_slice_get ops k item.op no_op is.sent.op);
      }

  pub record IsWord : Type 0 where
    pub due : IsDue
    pub open due use *
    pub told : IsTold d port item new.device
    pub next : IsNextWord l begun d v.place v.access.reg value write k item.op
    pub quiet : item.answer.failed ≡ false
    -- the words so far, with this one
    pub ops_are : all_of items ≡ take (k + 1) ops
    pub answers : answers_in items ≡ answers_of begun port (all_of items)
    -- what the predictor makes of it
    pub model : new.model ≡ (let x = taken_in c l v.place g m.gathered m.mirror in
        let y : ModelData = record m { gathered = x.gathered; mirror = x.mirror } in y)

  pub is_word : IsModel m → s.device ≡ Some d → IsOpen w which → IsHalf begun p m d w → IsStepOf s new v step → IsWord
  is_word model told here half is =
      let mine = half.open_ones which here in
      let due = is_due model here half is in
      let here_is = here_of c l v.place v.access.reg write due.place in
      let t = told_word s new v.place k v.access.value item d told is.sent in
      let next : IsNextWord l begun d v.place v.access.reg value write k item.op =
      subst (IsNextWord l begun d v.place v.access.reg value write k) (sym due.op_is) (next_word_goes_on c l begun d v.place v.access.reg value write k due.place half.begun_ready half.device due.low
      mine.under_way) in
      let quiet : item.answer.failed ≡ false = ap (λ (a : Answer). a.failed) t.answer ∙ next.quiet in
      let all : all_of items ≡ take k ops ++ item.op ∷ [] = map-append (λ (i : TraceItem). i.op) v.items (item ∷ []) ∙ ap (λ xs. xs ++ item.op ∷ []) mine.ops in
      record {
        due = due;
        told = t;
        next = next;
        quiet = quiet;
        ops_are = all ∙ ap (λ o. take k ops ++ o ∷ []) due.op_is ∙ sym (take_more ops k no_op due.low);
        answers =
            map-append (λ (i : TraceItem). i.answer) v.items (item ∷ [])
            ∙ ap (λ xs. xs ++ item.answer ∷ []) (mine.answers ∙ ap (answers_of begun port) mine.ops)
            ∙ ap (λ a. answers_of begun port (take k ops) ++ a ∷ []) (t.answer ∙ next.answer)
            ∙ sym (answers_append begun port (take k ops) item.op)
            ∙ ap (answers_of begun port) (sym all);
        model =
            is.sent.model
            ∙ ap (λ (x : Seen). let y : ModelData = record m { gathered = x.gathered; mirror = x.mirror } in y)
            (seen_word c l v.place value write v.items item m.gathered m.mirror here_is (register_place l v.access.reg v.place due.at.there) due.at.explicit due.at.right t.port_is due.op_is
            (subst (λ n. k < n) (ops_count l v.place value write here_is) due.low) quiet mine.gathered);
      }

  -- ---- the other accesses

  others_stay : IsModel m → IsWeave w → IsOpen w which → IsHalf begun p m d w → IsWord → (i : ℕ) → IsOpen w i → (i ≡ which → ⊥) →
      let x = woven_at w.accesses i in
      IsUnderWay l begun (state_after d port item.op) x.place x.access.reg (carried x.access) (writes x.access) (length x.items)
  others_stay model ok here half word i there apart_is =
      let x = woven_at w.accesses i in
      let mine = half.open_ones which here in
      let its = half.open_ones i there in
      let apart : x.access.reg ≡ v.access.reg → ⊥ = regs_differ w.accesses i which ok.apart (at_open w i ok there).inside (at_open w which ok here).inside apart_is in
      let other : IsPlaceOf c l x.place x.access.reg (writes x.access) = place_granted m x.access.reg x.access.map x.access.value x.place (writes x.access) model (half_granted m x its.granted) refl in
      subst (λ o. IsUnderWay l begun (state_after d port o) x.place x.access.reg (carried x.access) (writes x.access) (length x.items)) (sym word.op_is)
      (others_stay_under_way c l begun d v.place v.access.reg value write k word.place half.begun_ready half.device word.low mine.under_way begun x.place x.access.reg (carried x.access)
      (writes x.access) (length x.items) other apart its.under_way)

  -- ---- a middle word

  middle : IsModel m → IsWeave w → IsOpen w which → IsHalf begun p m d w → IsStepOf s new v step → IsWord → eqb (k + 1) v.words ≡ false → IsHalfAfter begun p s new w which step
  middle model ok here half is word e =
      let mine = half.open_ones which here in
      let next = state_after d port item.op in
      let u : Woven = record v { items = items } in
      let going : is_over v item ≡ false = over_is v item false word.quiet e in
      let long : length items ≡ k + 1 = length_push v.items item in
      let after : new.model ≡ model_with m v.place g (mirror_of p) =
      word.model
      ∙ ap (λ t. let x : Seen = cond t (seen_of (set m.gathered v.place no_words) (predicted c l v.place g m.mirror)) (seen_of (set m.gathered v.place g) m.mirror) in let y : ModelData = record m
      { gathered = x.gathered; mirror = x.mirror } in y) (whole_is l v item write false mine.words e)
      ∙ ap (model_with m v.place g) half.mirror
      in
      let moved : IsMoved m p p begun d next w which item.op.address u w.still_open g = record {
        reg = refl;
        place = refl;
        at = word.next.at;
        touched = word.next.touched;
        fewer = λ i there. there;
        kept = λ i there apart_is. there;
        same = λ reg low apart_is. record { bits = refl; marks = λ j inside. refl };
        others = λ i there apart_is. others_stay model ok here half word i there apart_is;
        own = inl (
          here,
          record {
            numbers = mine.numbers;
            granted = grant_with m (set m.gathered v.place g) (mirror_of p) v.access.reg v.access.map v.access.value v.place mine.granted;
            words = mine.words;
            holds = mine.holds;
            marked = mine.marked;
            under_way = subst (IsUnderWay l begun next v.place v.access.reg value write) (sym long) word.next.under_way;
            ops = word.ops_are ∙ ap (λ n. take n (whole_ops l v.place value write)) (sym long);
            answers = word.answers;
            gathered = get_or-set_same m.gathered v.place g no_words (subst (λ n. v.place < n) (sym model.predictor.count) word.place.place_in);
          },
        );
      } in
      record {
        device = next;
        told = word.told.goes;
        quiet = word.quiet;
        half =
            subst (λ q. IsHalf begun q new.model next (stepped w which item)) (ap (λ t. cond t (machine_step c l p (op_of v.access)).machine p) (sym going))
            (subst (λ x. IsHalf begun p x next (stepped w which item)) (sym after)
            (subst (IsHalf begun p (model_with m v.place g (mirror_of p)) next) (stepped_going w which item going) (half_moved m p p begun d next w which item.op.address u w.still_open g model ok half
            here moved)));
        event = subst (λ o. IfSome o (λ x. without_items x ≡ (machine_step c l p (op_of v.access)).event)) (sym (is.end ∙ ap (λ t. cond t (Some (event_with new.model v item)) None) going)) tt;
        own =
            subst (λ q. IsAlike c v.access.reg (register_after_word c p v item) (register_at c q v.access.reg)) (ap (λ t. cond t (machine_step c l p (op_of v.access)).machine p) (sym going))
            (subst (λ x. IsAlike c v.access.reg x (register_at c p v.access.reg)) (ap (λ t. cond t (register_after (fields_of c v.access.reg) (step_of v.access.value) (register_at c p v.access.reg))
            (register_at c p v.access.reg)) (sym going)) (alike_as_is c v.access.reg (register_at c p v.access.reg)));
        others = λ reg low other. subst (λ q. IsAlike c reg (register_at c p reg) (register_at c q reg)) (ap (λ t. cond t (machine_step c l p (op_of v.access)).machine p) (sym going))
            (alike_as_is c reg (register_at c p reg));
        answers = subst (λ o. IfSome o (λ x. x.end ≡ answered c v.access.reg v.access.value (register_at c p v.access.reg))) (sym (is.end ∙ ap (λ t. cond t (Some (event_with new.model v item)) None)
            going)) tt;
      }

  -- ---- the last word

  last : IsModel m → IsWeave w → IsOpen w which → IsHalf begun p m d w → IsStepOf s new v step → IsWord → eqb (k + 1) v.words ≡ true → IsHalfAfter begun p s new w which step
  last model ok here half is word e =
      let reg = v.access.reg in
      let mine = half.open_ones which here in
      let next = state_after d port item.op in
      let u : Woven = record v { items = [] } in
      let r = register_at c p reg in
      let st = step_of v.access.value in
      let q = machine_stepped c reg st p in
      let here_is = here_of c l v.place reg write word.place in
      let inside : reg < length c.regs = reg_in m reg v.access.map v.access.value mine.numbers in
      let over : is_over v item ≡ true = over_is v item true word.quiet e in
      let count : k + 1 ≡ length ops = eqb-true (k + 1) v.words e ∙ mine.words ∙ sym (ops_count l v.place value write here_is) in
      let all_ops : map (λ (i : TraceItem). i.op) items ≡ ops = word.ops_are ∙ take_all (k + 1) ops (omega (arith, count)) in
      let follow = follows c l begun p v.place reg v.access.value v.items item m.mirror model.chip inside here_is (granted_value m reg v.access.map v.access.value v.place model word.at) word.place
      half.begun_ready mine.holds half.mirror all_ops word.answers in
      let believed : predicted c l v.place g m.mirror ≡ mirror_of q = believed_is m p reg v.access.value (predicted c l v.place g m.mirror) model.chip inside model.mirror half.mirror follow in
      let machine_follow : FollowsStep c reg (mirror_of p) (mirror_of q) r st = subst (λ x. FollowsStep c reg (mirror_of p) x r st) believed follow in
      let built : IsMirrorOf c (mirror_of p) = subst (IsMirrorOf c) half.mirror model.mirror in
      let after : new.model ≡ model_with m v.place no_words (mirror_of q) =
      word.model
      ∙ ap (λ t. let x : Seen = cond t (seen_of (set m.gathered v.place no_words) (predicted c l v.place g m.mirror)) (seen_of (set m.gathered v.place g) m.mirror) in let y : ModelData = record m
      { gathered = x.gathered; mirror = x.mirror } in y) (whole_is l v item write true mine.words e)
      ∙ ap (model_with m v.place no_words) believed
      in
      let under = subst (IsUnderWay l begun next v.place reg value write) count word.next.under_way in
      let done = all_sent c l begun next v.place reg v.access.value r word.place half.begun_ready mine.holds under in
      let moved : IsMoved m p q begun d next w which item.op.address u (without which w.still_open) no_words = record {
        reg = refl;
        place = refl;
        at = word.next.at;
        touched = word.next.touched;
        fewer = λ i there. filter_from (λ j. not (j == which)) i w.still_open there;
        kept = λ i there apart_is. filter_has (λ j. not (j == which)) i w.still_open there (not_at i which apart_is);
        same = λ n low apart_is. other_same c reg n (mirror_of p) (mirror_of q) r st model.chip low apart_is built machine_follow;
        others = λ i there apart_is. others_stay model ok here half word i there apart_is;
        own = inr (record {
          gone = λ t. apart_from which w.still_open t.0 which t.1 t.2;
          holds = holds_as c next reg (register_after (fields_of c reg) st r) (register_at c q reg) (here_same c reg (mirror_of p) (mirror_of q) st model.chip inside built machine_follow) done.holds;
          marked = λ b low alone_is.
              ap (λ n. bit n b) (under.marks ∙ alone_marks c l begun v.place reg v.access.value r word.place half.begun_ready mine.holds)
              ∙ here_alone c l begun reg st r (length ops) half.begun_ready inside mine.holds mine.marked b low alone_is;
          beats = done.beats;
          gathered = refl;
        });
      } in
      let told_value = brought m new.model begun p reg v.access.map v.access.value v.place items model (ap (λ (x : ModelData). x.chip) after) (ap (λ (x : ModelData). x.layout) after) word.at
      word.place half.begun_ready mine.holds all_ops word.answers in
      let same_machine : (machine_step c l p (op_of v.access)).machine ≡ q = machine_is m p reg v.access.map v.access.value v.place mine.granted in
      let chip : new.model.chip ≡ c = ap (λ (x : ModelData). x.chip) after in
      let layout : new.model.layout ≡ l = ap (λ (x : ModelData). x.layout) after in
      record {
        device = next;
        told = word.told.goes;
        quiet = word.quiet;
        half =
            subst (λ x. IsHalf begun x new.model next (stepped w which item)) (sym (ap (λ t. cond t (machine_step c l p (op_of v.access)).machine p) over ∙ same_machine))
            (subst (λ x. IsHalf begun q x next (stepped w which item)) (sym after)
            (subst (IsHalf begun q (model_with m v.place no_words (mirror_of q)) next) (stepped_over w which v u item (without which w.still_open) refl over refl refl)
            (half_moved m p q begun d next w which item.op.address u (without which w.still_open) no_words model ok half here moved)));
        event =
            subst (λ o. IfSome o (λ x. without_items x ≡ (machine_step c l p (op_of v.access)).event)) (sym (is.end ∙ ap (λ t. cond t (Some (event_with new.model v item)) None) over))
            (event_is m new.model p reg v.access.map v.access.value v.place items (end_with new.model v item) chip layout mine.granted (ap (λ (x : ModelData). x.mirror) after)
            (ap (λ t. cond t (BusError k) (good_end new.model reg v.place v.access.value items)) word.quiet)
            told_value);
        own =
            subst (λ x. IsAlike c reg (register_after_word c p v item) (register_at c x reg)) (sym (ap (λ t. cond t (machine_step c l p (op_of v.access)).machine p) over ∙ same_machine))
            (subst (λ x. IsAlike c reg x (register_at c q reg)) (ap (λ t. cond t (register_after (fields_of c reg) st r) r) (sym over))
            (alike c reg (register_after (fields_of c reg) st r) (register_at c q reg) (here_same c reg (mirror_of p) (mirror_of q) st model.chip inside built machine_follow)));
        others = λ n low other.
            subst (λ x. IsAlike c n (register_at c p n) (register_at c x n)) (sym (ap (λ t. cond t (machine_step c l p (op_of v.access)).machine p) over ∙ same_machine))
            (alike c n (register_at c p n) (register_at c q n) (other_same c reg n (mirror_of p) (mirror_of q) r st model.chip low other built machine_follow));
        answers =
            subst (λ o. IfSome o (λ x. x.end ≡ answered c reg v.access.value r)) (sym (is.end ∙ ap (λ t. cond t (Some (event_with new.model v item)) None) over))
            (ap (λ t. cond t (BusError k) (good_end new.model reg v.place v.access.value items)) word.quiet ∙ good_is new.model c reg v.place v.access.value items r told_value);
      }

pub step_keeps_half : StepKeepsHalf
step_keeps_half s new begun d p w which step model told ok here half is =
    let v = woven_at w.accesses which in
    let word = is_word begun p s new d w which step model told here half is in
    by (eqb (length v.items + 1) v.words) refl word
  where
    by : (t : Bool) → eqb (length (woven_at w.accesses which).items + 1) (woven_at w.accesses which).words ≡ t →
        IsWord begun p s new d w which step → IsHalfAfter begun p s new w which step
    by true e word = last begun p s new d w which step model ok here half is word e
    by false e word = middle begun p s new d w which step model ok here half is word e

-- ---- before the first word

pub fresh_is_half : FreshIsHalf
fresh_is_half s p w model a is ok on unsent =
    let m = s.model in
    let c = m.chip in
    let d = a.device in
    let mirror : m.mirror ≡ mirror_of p = ap (λ (x : ModelData). x.mirror) is in
    let holds : (reg : ℕ) → reg < length c.regs → Holds c d reg (register_at c p reg) = λ reg low. subst (λ x. Holds c d reg (believed c x reg)) mirror (a.believed_is.holds reg low) in
    record {
      begun_ready = a.believed_is.ready;
      steady = a.believed_is.steady;
      device = record { setup = a.believed_is.ready.setup; bits = a.believed_is.ready.bits; marks = a.believed_is.ready.marks };
      mirror = mirror;
      open_ones = λ i there.
          let inside = (at_open w i ok there).inside in
          let v = woven_at w.accesses i in
          let one = on i no_woven inside in
          let low : v.access.reg < length c.regs = reg_in m v.access.reg v.access.map v.access.value one.numbers in
          let none : v.items ≡ [] = unsent i there in
          record {
            numbers = one.numbers;
            granted = one.granted;
            words = one.words;
            holds = holds v.access.reg low;
            marked = a.believed_is.alone v.access.reg low;
            under_way = subst (λ (xs : List TraceItem). IsUnderWay m.layout d d v.place v.access.reg (carried v.access) (writes v.access) (length xs)) (sym none) (none_sent_is_under_way m.layout d
                v.place v.access.reg (carried v.access) (writes v.access));
            ops = subst (λ (xs : List TraceItem). map (λ (i : TraceItem). i.op) xs ≡ take (length xs) (whole_ops m.layout v.place (carried v.access) (writes v.access))) (sym none) refl;
            answers = subst (λ (xs : List TraceItem). map (λ (i : TraceItem). i.answer) xs ≡ answers_of d (place_at m.layout v.place).port (map (λ (i : TraceItem). i.op) xs)) (sym none) refl;
            gathered = subst (λ (xs : List TraceItem). gathered_at m.gathered v.place ≡ gathered_of (writes v.access) xs) (sym none) (nothing v.place);
          };
      holds = λ reg low apart_is. holds reg low;
      marked = λ reg low apart_is. a.believed_is.alone reg low;
      beats = λ port address apart_is. a.believed_is.ready.beats port address;
      gathered = λ place apart_is. nothing place;
    }
  where
    nothing : (place : ℕ) → gathered_at s.model.gathered place ≡ no_words
    nothing place =
        elim (cases_lt place (length s.model.gathered)) [
          | inl low ↦ All-get_or (λ g. g ≡ no_words) s.model.gathered place no_words low a.gathered
          | inr past ↦ get_or_past s.model.gathered place no_words past
        ]

-- ---- with no access open

pub none_open_agrees : NoneOpenAgrees
none_open_agrees s begun d p w model told half none =
    let m = s.model in
    let c = m.chip in
    let apart_is : (P : Woven → Type 0) → NoneOpen w P = λ P i there h. nobody i (subst (λ xs. Contains xs i) none there) in
    let believed_as : (reg : ℕ) → reg < length c.regs → Holds c d reg (believed c m.mirror reg) = λ reg low. subst (λ x. Holds c d reg (believed c x reg)) (sym half.mirror) (half.holds reg low
    (apart_is (λ v. v.access.reg ≡ reg))) in
    let all : IsNothingGathered m.gathered = λ k e low. get_or_default m.gathered k e no_words low ∙ half.gathered k (apart_is (λ v. v.place ≡ k)) in (
      record {
        device = d;
        told = told;
        believed_is = record {
          ready = record {
            setup = half.device.setup;
            beats = λ port address. half.beats port address (apart_is (λ v. Occupies m.layout port address v.place 0));
            bits = half.device.bits;
            marks =
                half.device.marks;
          };
          steady = half.steady;
          holds = believed_as;
          alone = λ reg low. half.marked reg low (apart_is (λ v. v.access.reg ≡ reg));
        };
        gathered = all;
      },
      seen_is c m.layout p m refl refl half.mirror (none_of m.gathered (length m.layout.places) model.predictor.count all),
    )
  where
    nobody : (i : ℕ) → Contains [] i → ⊥
    nobody i h = let low = h.1 in omega (arith, low)

-- One word of an open access over any device, and a register while words of other accesses go between.
use Rattle.std.proofs.Common.{◌≡◌, inl, inr, ℕ, ◌+◌, ◌<◌, ◌==◌, Bool, true, false, not, ◌||◌, cond, eqb, eqb-true, List, [], ◌∷◌, ◌++◌, length, map, set, take}
use Rattle.std.proofs.Common.{Option, None, Some, refl, sym, ap, ◌∙◌, subst, arith}
use Rattle.std.specs.Prelude.{Contains, IfSome, IfNone}
use Rattle.std.proofs.lemmas.Bool.{cases_eq}
use Rattle.std.proofs.lemmas.List.{length_push, map-append, take_more, take_all, get_or-set_same, get_or-set_other}
use Rattle.std.proofs.lemmas.Option.{slice_get_within, get_or_from_slice_get}
use Rattle.rl_bus.specs.declared.op.BusOp.{BusOp}
use Rattle.rl_model.specs.Rows.{ChipData}
use Rattle.rl_model.specs.Chip.{IsSound}
use Rattle.rl_model.specs.declared.rows.Item.TheVariants as kind
use Rattle.rl_map.specs.Layout.{LayoutData, place_at, words_of}
use Rattle.rl_mirror.specs.Mirror.{MirrorData}
use Rattle.rl_split.specs.Law.{IsPlaceOf}
use Rattle.rl_split.specs.Seats.{no_op}
use Rattle.rl_split.specs.UnderWay.{whole_ops, whole_op}
use Rattle.rl_split.proofs.Accesses.{here_of}
use Rattle.rl_split.proofs.Sending.{IsHere}
use Rattle.rl_access.specs.declared.event.End.{End}
use Rattle.rl_access.specs.declared.event.End.TheVariants.{BusError}
use Rattle.rl_access.specs.declared.event.Event.{Event}
use Rattle.rl_access.specs.declared.predictor.Gathered.{Gathered}
use Rattle.rl_access.specs.declared.trace.TraceItem.{TraceItem}
use Rattle.rl_access.specs.Call.{Scene}
use Rattle.rl_access.specs.Gathering.{IsPredictorOf, no_words, gathered_at}
use Rattle.rl_access.specs.Items.{has_failed}
use Rattle.rl_access.specs.Model.{ModelData, IsModel}
use Rattle.rl_access.specs.Observed.{Seen, seen as seen_of, implied, is_whole, predicted, reg_in as reg_in_item, taken_in}
use Rattle.rl_access.specs.Rules.{every_field}
use Rattle.rl_access.specs.Tally.{is_bus_error}
use Rattle.rl_mirror.proofs.MirrorLemmas.{write_built}
use Rattle.rl_mirror.proofs.ReachLemmas.{write_reach}
use Rattle.rl_plain.proofs.Kept.{IsKept, model_kept, model_with as model_again, read_kept}
use Rattle.rl_weave.specs.declared.weave.Step.{Step}
use Rattle.rl_weave.specs.declared.woven.Woven.{Woven}
use Rattle.rl_weave.specs.Access.{no_woven, woven_at}
use Rattle.rl_weave.specs.Step.{IsStepOf, event_with, good_end}
use Rattle.rl_weave.specs.Weave.{WeaveData, IsWeave, is_over, stepped, without}
use Rattle.rl_weave.proofs.Endings.{reg_in}
use Rattle.rl_weave.proofs.Granted.{IsGranted, granted_value, register_place}
use Rattle.rl_weave.proofs.Weaves.{weave, apart_from, at_open, stepped_going, stepped_over}
use Rattle.rl_weave_laws.specs.Half.{writes, carried, gathered_of, IsOpen}
use Rattle.rl_weave_laws.specs.AnyDevice.{IsBegun, AreBegun, UnsentAreBegun, NoneOpenGathersNothing, HasAllWords, TellsWords, IsWordTaken, EachWordIsTaken}
use Rattle.rl_weave_laws.proofs.Halves.{filter_from, filter_has, not_at, over_is, whole_is}
use Rattle.rl_weave_laws.proofs.Lasts.{predicted_is}
use Rattle.rl_weave_laws.proofs.Models.{list_set, lists_by, none_shorter}
use Rattle.rl_weave_laws.proofs.Moves.{half_granted, grant_with, model_with, places_differ, regs_differ}
use Rattle.rl_weave_laws.proofs.Words.{failed_word, ops_count, place_granted, seen_word}

-- ---- before the first word

none_begun : (m : ModelData) (v : Woven) (items : List TraceItem) → v.items ≡ items → items ≡ []
    → (h : IsBegun m (record v { items = [] })) → IsBegun m v
none_begun m v items is none h =
    subst (IsBegun m) (ap (λ (xs : List TraceItem). let u : Woven = record v { items = xs } in u) (sym (is ∙ none))) h

pub unsent_are_begun : UnsentAreBegun
unsent_are_begun m w ok on unsent none = record {
  each = λ i there.
      let v = woven_at w.accesses i in
      let mine = on i no_woven (at_open w i ok there).inside in
      none_begun m v v.items refl (unsent i there) (record {
        numbers = mine.numbers;
        granted = mine.granted;
        words = mine.words;
        ops = refl;
        quiet = refl;
        gathered = none v.place;
      });
  others = λ place apart. none place;
}

pub none_open_gathers_nothing : NoneOpenGathersNothing
none_open_gathers_nothing m w begun none place =
    begun.others place (λ i there same. nobody (subst (λ xs. Contains xs i) none there))
  where
    nobody : {i : ℕ} → Contains [] i → ⊥
    nobody h = let low = h.1 in absurd (omega (arith, low))

-- ---- the open accesses behind a word

failed_push : (items : List TraceItem) (item : TraceItem) → has_failed items ≡ false → item.answer.failed ≡ false
    → has_failed (items ++ item ∷ []) ≡ false
failed_push [] item none quiet = ap (λ b. b || false) quiet
failed_push (x ∷ xs) item none quiet = by x.answer.failed none (λ e. failed_push xs item e quiet)
  where
    by : (t : Bool) → (t || has_failed xs) ≡ false → (has_failed xs ≡ false → has_failed (xs ++ item ∷ []) ≡ false)
        → (t || has_failed (xs ++ item ∷ [])) ≡ false
    by true e rest = absurd (cc)
    by false e rest = rest e

begun_with : (m : ModelData) (gathered : List Gathered) (mirror : MirrorData) (v : Woven) → IsBegun m v
    → gathered_at gathered v.place ≡ gathered_of (writes v.access) v.items → IsBegun (record m { gathered = gathered; mirror = mirror }) v
begun_with m gathered mirror v h now = record {
  numbers = h.numbers;
  granted = grant_with m gathered mirror v.access.reg v.access.map v.access.value v.place h.granted;
  words = h.words;
  ops = h.ops;
  quiet = h.quiet;
  gathered = now;
}

-- each but the one of the word is as before, and that one is as it was found
begun_moved : (m : ModelData) (w : WeaveData) (which : ℕ) (u : Woven) (opens : List ℕ) (g : Gathered) (mirror : MirrorData)
    → IsModel m → IsWeave w → IsOpen w which → AreBegun m w → u.place ≡ (woven_at w.accesses which).place
    → ((i : ℕ) → Contains opens i → IsOpen w i) → ((i : ℕ) → IsOpen w i → (i ≡ which → ⊥) → Contains opens i)
    → (Contains opens which → IsBegun (model_with m (woven_at w.accesses which).place g mirror) u)
    → ((Contains opens which → ⊥) → g ≡ no_words)
    → AreBegun (model_with m (woven_at w.accesses which).place g mirror) (weave (set w.accesses which u) opens)
begun_moved m w which u opens g mirror model ok here begun same_place fewer kept own shut =
    let v = woven_at w.accesses which in
    let n = model_with m v.place g mirror in record {
      each = λ i there.
          elim (cases_eq i which) [
            | inl same ↦
                subst (λ k. IsBegun n (woven_at (set w.accesses which u) k)) (sym same)
                (at_which (IsBegun n) (own (subst (Contains opens) same there)))
            | inr other ↦
                let x = woven_at w.accesses i in
                let its = begun.each i (fewer i there) in
                let apart : x.access.reg ≡ v.access.reg → ⊥ =
                regs_differ w.accesses i which ok.apart (at_open w i ok (fewer i there)).inside inside other in
                let places : x.place ≡ v.place → ⊥ = places_differ m x v (half_granted m x its.granted) (half_granted m v mine.granted) apart in
                subst (IsBegun n) (sym (get_or-set_other w.accesses which i u no_woven other))
                (begun_with m (set m.gathered v.place g) mirror x its (get_or-set_other m.gathered v.place x.place g no_words places ∙ its.gathered))
          ];
      others = λ place none.
          elim (cases_eq place v.place) [
            | inl same ↦
                ap (λ k. gathered_at (set m.gathered v.place g) k) same
                ∙ get_or-set_same m.gathered v.place g no_words (subst (λ k. v.place < k) (sym model.predictor.count) place_in)
                ∙ shut (λ there. none which there (at_which (λ x. x.place ≡ place) (same_place ∙ sym same)))
            | inr other ↦
                get_or-set_other m.gathered v.place place g no_words other
                ∙ begun.others place (λ i there h. elim (cases_eq i which) [
                  | inl same ↦ other (sym (subst (λ k. (woven_at w.accesses k).place ≡ place) same h))
                  | inr apart ↦ none i (kept i there apart) (subst (λ (x : Woven). x.place ≡ place) (sym (get_or-set_other w.accesses which i u no_woven apart)) h)
                ])
          ];
    }
  where
    inside : which < length w.accesses
    inside = (at_open w which ok here).inside

    mine : IsBegun m (woven_at w.accesses which)
    mine = begun.each which here

    place_in : (woven_at w.accesses which).place < length m.layout.places
    place_in = (half_granted m (woven_at w.accesses which) mine.granted).there.inside

    at_which : (P : Woven → Type 0) → P u → P (woven_at (set w.accesses which u) which)
    at_which P h = subst P (sym (get_or-set_same w.accesses which u no_woven inside)) h

-- ---- how an access ends

good_fine : (m : ModelData) (reg place : ℕ) (value : Option ℕ) (items : List TraceItem) → is_bus_error (good_end m reg place value items) ≡ false
good_fine m reg place None items = refl
good_fine m reg place (Some value) items = refl

-- one that failed
tells_failed : (m : ModelData) (v : Woven) (item : TraceItem) (event : Event) → IsBegun m v → item.answer.failed ≡ true
    → event.trace ≡ v.items ++ item ∷ [] → event.end ≡ BusError (length v.items)
    → map (λ i. i.op) (v.items ++ item ∷ []) ≡ take (length v.items + 1) (whole_ops m.layout v.place (carried v.access) (writes v.access))
    → TellsWords m v event
tells_failed m v item event begun failed trace end ops = record {
  failed = λ word is.
      let number : length v.items ≡ word = one_word (sym end ∙ is) in
      record {
        front = v.items;
        last = item;
        are = trace;
        number = sym number;
        quiet = begun.quiet;
        failed = failed;
        ops = ap (map (λ (i : TraceItem). i.op)) trace ∙ ops
            ∙ ap (λ n. take (n + 1) (whole_ops m.layout v.place (carried v.access) (writes v.access))) number;
      };
  whole = λ fine. let no : true ≡ false = sym (ap is_bus_error end) ∙ fine in absurd (cc);
}
  where
    one_word : {a b : ℕ} → BusError a ≡ BusError b → a ≡ b
    one_word e = cc

-- one with all words
tells_whole : (m : ModelData) (v : Woven) (event : Event) (items : List TraceItem) → event.trace ≡ items → is_bus_error event.end ≡ false
    → HasAllWords m v items → TellsWords m v event
tells_whole m v event items trace fine all = record {
  failed = λ word is. let no : true ≡ false = sym (ap is_bus_error is) ∙ fine in absurd (cc);
  whole = λ _. subst (HasAllWords m v) (sym trace) all;
}

-- what a whole access implies leaves a mirror of the chip
implied_kept : (c : ChipData) (l : LayoutData) (place : ℕ) (value : Option ℕ) (items : List TraceItem) (m : MirrorData) (reg : ℕ) → IsSound c
    → reg < length c.regs → (place_at l place).item ≡ kind.Reg reg → IsKept c m → IsKept c (implied c l place value items m)
implied_kept c l place None items m reg sound inside there kept =
    let low : reg_in_item (place_at l place).item < length c.regs = subst (λ n. n < length c.regs) (sym (ap reg_in_item there)) inside in
    read_kept c (reg_in_item (place_at l place).item) _ every_field m sound low kept
implied_kept c l place (Some value) items m reg sound inside there kept =
    let low : reg_in_item (place_at l place).item < length c.regs = subst (λ n. n < length c.regs) (sym (ap reg_in_item there)) inside in
    record {
      built = write_built c (reg_in_item (place_at l place).item) value every_field m sound low kept.built;
      reach = write_reach c (reg_in_item (place_at l place).item) value every_field m sound low kept.built kept.reach;
    }

-- ---- a word

module _ (s new : Scene) (w : WeaveData) (which : ℕ) (step : Step) (model : IsModel s.model) (ok : IsWeave w) (here : IsOpen w which)
    (begun : AreBegun s.model w) (is : IsStepOf s new (woven_at w.accesses which) step) where
  abbrev m : ModelData
  m = s.model

  abbrev c : ChipData
  c = m.chip

  abbrev l : LayoutData
  l = m.layout

  abbrev v : Woven
  v = woven_at w.accesses which

  abbrev value : ℕ
  value = carried v.access

  abbrev write : Bool
  write = writes v.access

  abbrev ops : List BusOp
  ops = whole_ops l v.place value write

  abbrev k : ℕ
  k = length v.items

  abbrev item : TraceItem
  item = step.item

  abbrev items : List TraceItem
  items = v.items ++ item ∷ []

  abbrev g : Gathered
  g = gathered_of write items

  mine : IsBegun m v
  mine = begun.each which here

  at : IsGranted m v.access.reg v.access.map v.access.value v.place
  at = half_granted m v mine.granted

  placed : IsPlaceOf c l v.place v.access.reg write
  placed = place_granted m v.access.reg v.access.map v.access.value v.place write model at refl

  place_is : IsHere l v.place 0
  place_is = here_of c l v.place v.access.reg write placed

  low : k < length ops
  low = slice_get_within ops k item.op is.sent.op

  within : k < length (words_of l v.place 0)
  within = subst (λ n. k < n) (ops_count l v.place value write place_is) low

  op_is : item.op ≡ whole_op l v.place value write k
  op_is = sym (get_or_from_slice_get ops k item.op no_op is.sent.op)

  port_is : item.port ≡ (place_at l v.place).port
  port_is = ap (λ (i : TraceItem). i.port) is.sent.item_is

  -- its operations so far are the first of the access
  ops_are : map (λ (i : TraceItem). i.op) items ≡ take (k + 1) ops
  ops_are =
      map-append (λ (i : TraceItem). i.op) v.items (item ∷ [])
      ∙ ap (λ xs. xs ++ item.op ∷ []) mine.ops
      ∙ ap (λ o. take k ops ++ o ∷ []) op_is
      ∙ sym (take_more ops k no_op low)

  abbrev by_seen : Seen → ModelData
  by_seen x = record m { gathered = x.gathered; mirror = x.mirror }

  opens_from : (i : ℕ) → Contains (without which w.still_open) i → IsOpen w i
  opens_from i there = filter_from (λ j. not (j == which)) i w.still_open there

  opens_kept : (i : ℕ) → IsOpen w i → (i ≡ which → ⊥) → Contains (without which w.still_open) i
  opens_kept i there apart = filter_has (λ j. not (j == which)) i w.still_open there (not_at i which apart)

  gone : Contains (without which w.still_open) which → ⊥
  gone there = apart_from which w.still_open there.0 which there.1 there.2

  end_over : is_over v item ≡ true → step.end ≡ Some (event_with new.model v item)
  end_over over = is.end ∙ ap (λ t. cond t (Some (event_with new.model v item)) None) over

  end_going : is_over v item ≡ false → step.end ≡ None
  end_going going = is.end ∙ ap (λ t. cond t (Some (event_with new.model v item)) None) going

  -- what the access leaves once it is over
  closed : (mirror : MirrorData) → is_over v item ≡ true → new.model ≡ model_with m v.place no_words mirror
      → AreBegun new.model (stepped w which item)
  closed mirror over after =
      subst (λ n. AreBegun n (stepped w which item)) (sym after)
      (subst (AreBegun (model_with m v.place no_words mirror))
      (stepped_over w which v (record v { items = [] }) item (without which w.still_open) refl over refl refl)
      (begun_moved m w which (record v { items = [] }) (without which w.still_open) no_words mirror model ok here begun refl opens_from opens_kept
      (λ there. absurd (gone there)) (λ _. refl)))

  -- ---- the model

  some_words : 0 < length (words_of l v.place 0)
  some_words = none_shorter l m.gathered v.place model.predictor placed.place_in

  kept_model : (gathered : List Gathered) (mirror : MirrorData) → IsPredictorOf l gathered → IsKept c mirror
      → new.model ≡ record m { gathered = gathered; mirror = mirror } → IsModel new.model
  kept_model gathered mirror predictor kept after = subst IsModel (sym after) (model_again m mirror gathered model kept predictor)

  emptied : IsPredictorOf l (set m.gathered v.place no_words)
  emptied = list_set l m.gathered v.place no_words model.predictor (λ inside. some_words)

  predicted_kept : IsKept c (implied c l v.place v.access.value items m.mirror)
  predicted_kept =
      implied_kept c l v.place v.access.value items m.mirror v.access.reg model.chip
      (reg_in m v.access.reg v.access.map v.access.value mine.numbers) at.there.item_is (model_kept m model)

  -- ---- it failed

  failed_end : (t : Bool) → t ≡ true → (good : End) → cond t (BusError k) good ≡ BusError k
  failed_end true e good = refl
  failed_end false e good = absurd (cc)

  taken_failed : item.answer.failed ≡ true → IsWordTaken s new w which step
  taken_failed failed =
      let over : is_over v item ≡ true = ap (λ b. b || eqb (k + 1) v.words) failed in
      let after : new.model ≡ model_with m v.place no_words m.mirror =
      is.sent.model ∙ ap by_seen (failed_word c l v.place value k write item m.gathered m.mirror place_is
      (register_place l v.access.reg v.place at.there) at.explicit at.right port_is op_is within failed) in
      let end = end_over over in
      let mirror : new.model.mirror ≡ m.mirror = ap (λ (x : ModelData). x.mirror) after in
      let e = event_with new.model v item in
      let ends : e.end ≡ BusError k = failed_end item.answer.failed failed _ in
      record {
        begun = closed m.mirror over after;
        sound = kept_model (set m.gathered v.place no_words) m.mirror emptied (model_kept m model) after;
        event = subst (λ o. IfSome o (TellsWords m v)) (sym end) (tells_failed m v item e mine failed refl ends ops_are);
        middle = subst (λ o. IfNone o (new.model.mirror ≡ m.mirror)) (sym end) tt;
        failed = subst (λ o. IfSome o (λ e. is_bus_error e.end ≡ true → new.model.mirror ≡ m.mirror)) (sym end) (λ _. mirror);
        whole = subst (λ o. IfSome o (λ e. is_bus_error e.end ≡ false → new.model.mirror ≡ implied c l v.place v.access.value e.trace m.mirror)) (sym end)
            (λ fine. let no : true ≡ false = sym (ap is_bus_error ends) ∙ fine in absurd (cc));
      }

  -- ---- it didn't fail

  seen_is : item.answer.failed ≡ false → new.model ≡ by_seen (taken_in c l v.place g m.gathered m.mirror)
  seen_is quiet =
      is.sent.model ∙ ap by_seen (seen_word c l v.place value write v.items item m.gathered m.mirror place_is
      (register_place l v.access.reg v.place at.there) at.explicit at.right port_is op_is within quiet mine.gathered)

  by_whole : (t : Bool) → is_whole l v.place g ≡ t → item.answer.failed ≡ false
      → new.model ≡ by_seen (cond t (seen_of (set m.gathered v.place no_words) (predicted c l v.place g m.mirror)) (seen_of (set m.gathered v.place g) m.mirror))
  by_whole t e quiet =
      seen_is quiet ∙ ap (λ b. by_seen (cond b (seen_of (set m.gathered v.place no_words) (predicted c l v.place g m.mirror)) (seen_of (set m.gathered v.place g) m.mirror))) e

  taken_middle : item.answer.failed ≡ false → eqb (k + 1) v.words ≡ false → IsWordTaken s new w which step
  taken_middle quiet e =
      let going : is_over v item ≡ false = over_is v item false quiet e in
      let after : new.model ≡ model_with m v.place g m.mirror = by_whole false (whole_is l v item write false mine.words e) quiet in
      let end = end_going going in
      let u : Woven = record v { items = items } in
      let long : length items ≡ k + 1 = length_push v.items item in
      let own : IsBegun (model_with m v.place g m.mirror) u = record {
        numbers = mine.numbers;
        granted = grant_with m (set m.gathered v.place g) m.mirror v.access.reg v.access.map v.access.value v.place mine.granted;
        words = mine.words;
        ops = ops_are ∙ ap (λ n. take n ops) (sym long);
        quiet = failed_push v.items item mine.quiet quiet;
        gathered = get_or-set_same m.gathered v.place g no_words (subst (λ n. v.place < n) (sym model.predictor.count) placed.place_in);
      } in
      record {
        begun = subst (λ n. AreBegun n (stepped w which item)) (sym after)
            (subst (AreBegun (model_with m v.place g m.mirror)) (stepped_going w which item going)
            (begun_moved m w which u w.still_open g m.mirror model ok here begun refl (λ i there. there) (λ i there apart. there) (λ there. own)
            (λ shut. absurd (shut here))));
        sound = kept_model (set m.gathered v.place g) m.mirror
            (lists_by l m.gathered v item write false model.predictor mine.words (at_open w which ok here).short e) (model_kept m model) after;
        event = subst (λ o. IfSome o (TellsWords m v)) (sym end) tt;
        middle = subst (λ o. IfNone o (new.model.mirror ≡ m.mirror)) (sym end) (ap (λ (x : ModelData). x.mirror) after);
        failed = subst (λ o. IfSome o (λ e. is_bus_error e.end ≡ true → new.model.mirror ≡ m.mirror)) (sym end) tt;
        whole = subst (λ o. IfSome o (λ e. is_bus_error e.end ≡ false → new.model.mirror ≡ implied c l v.place v.access.value e.trace m.mirror)) (sym end) tt;
      }

  quiet_end : (t : Bool) → t ≡ false → (good : End) → is_bus_error good ≡ false → is_bus_error (cond t (BusError k) good) ≡ false
  quiet_end true e good fine = absurd (cc)
  quiet_end false e good fine = fine

  taken_last : item.answer.failed ≡ false → eqb (k + 1) v.words ≡ true → IsWordTaken s new w which step
  taken_last quiet e =
      let over : is_over v item ≡ true = over_is v item true quiet e in
      let count : length ops ≡ k + 1 = ops_count l v.place value write place_is ∙ sym mine.words ∙ sym (eqb-true (k + 1) v.words e) in
      let all : map (λ (i : TraceItem). i.op) items ≡ ops = ops_are ∙ take_all (k + 1) ops (omega (arith, count)) in
      let now = predicted c l v.place g m.mirror in
      let after : new.model ≡ model_with m v.place no_words now = by_whole true (whole_is l v item write true mine.words e) quiet in
      let end = end_over over in
      let is_implied : now ≡ implied c l v.place v.access.value items m.mirror =
      predicted_is c l v.place v.access.value v.items item m.mirror place_is
      (granted_value m v.access.reg v.access.map v.access.value v.place model at) all in
      let implies : new.model.mirror ≡ implied c l v.place v.access.value items m.mirror = ap (λ (x : ModelData). x.mirror) after ∙ is_implied in
      let x = event_with new.model v item in
      let fine : is_bus_error x.end ≡ false =
      quiet_end item.answer.failed quiet _ (good_fine new.model v.access.reg v.place v.access.value items) in
      record {
        begun = closed now over after;
        sound = kept_model (set m.gathered v.place no_words) now emptied (subst (IsKept c) (sym is_implied) predicted_kept) after;
        event = subst (λ o. IfSome o (TellsWords m v)) (sym end)
            (tells_whole m v x items refl fine (record { ops = all; quiet = failed_push v.items item mine.quiet quiet }));
        middle = subst (λ o. IfNone o (new.model.mirror ≡ m.mirror)) (sym end) tt;
        failed = subst (λ o. IfSome o (λ e. is_bus_error e.end ≡ true → new.model.mirror ≡ m.mirror)) (sym end)
            (λ f. let no : true ≡ false = sym f ∙ fine in absurd (cc));
        whole = subst (λ o. IfSome o (λ e. is_bus_error e.end ≡ false → new.model.mirror ≡ implied c l v.place v.access.value e.trace m.mirror)) (sym end)
            (λ _. implies);
      }

  taken_by : (f t : Bool) → item.answer.failed ≡ f → eqb (k + 1) v.words ≡ t → IsWordTaken s new w which step
  taken_by true t failed e = taken_failed failed
  taken_by false true quiet e = taken_last quiet e
  taken_by false false quiet e = taken_middle quiet e

pub each_word_is_taken : EachWordIsTaken
each_word_is_taken s new w which step model ok here begun is =
    let v = woven_at w.accesses which in
    taken_by s new w which step model ok here begun is step.item.answer.failed (eqb (length v.items + 1) v.words) refl refl

-- Word by word through a group.
use Rattle.std.proofs.Common.{◌≡◌, IsErr, ℕ, zero, suc, ◌+◌, ◌-◌, ◌<◌, ◌==◌, Bool, true, false, if◌then◌else◌, List, [], ◌∷◌, ◌++◌}
use Rattle.std.proofs.Common.{length, Some, None, Ok, Err, OnOk, OnErr, IfSome, slice_get, get_or, refl, sym, ap, subst, ◌∙◌, append_assoc, append-nil, arith}
use Rattle.std.proofs.KnownBytes.{Appends-nil, Appends-trans}
use Rattle.std.proofs.lemmas.Bool.{true≢false}
use Rattle.std.proofs.lemmas.Bool.Decides.{nat_tests}
use Rattle.std.proofs.lemmas.List.Elements.{All-push}
use Rattle.std.proofs.lemmas.Option.{get_or_from_slice_get}
use Rattle.std.specs.declared.option.Option.{Option}
use Rattle.std.specs.declared.result.Result.{Result}
use Rattle.std.specs.Io.KnownBytes.{Appends}
use Rattle.rl_bus.specs.Account.{Account}
use Rattle.rl_bus.specs.declared.op.Answer.{Answer}
use Rattle.rl_bus.specs.declared.op.BusOp.{BusOp}
use Rattle.rl_bus.specs.Standing.{Standing, standing_at}
use Rattle.rl_bus.specs.State.{State, answer_of}
use Rattle.rl_access.specs.Call.{scene}
use Rattle.rl_access.specs.Items.{item_of, port_for, adapter_for}
use Rattle.rl_access.specs.Model.{ModelData}
use Rattle.rl_access.specs.Observed.{observing, word_ops}
use Rattle.rl_access.specs.World.{World, world}
use Rattle.rl_log.specs.declared.counts.Counts.{Counts}
use Rattle.rl_play.proofs.EndingLemmas.{on_ok}
use Rattle.rl_report.specs.Pieces.{Puts, AppendsFront}
use Rattle.rl_report.proofs.PieceLemmas.{front_after, front_before}
use Rattle.rl_session.specs.Soak.{next_state, drawn}
use Rattle.rl_weave.specs.declared.weave.Step.{Step}
use Rattle.rl_weave.specs.declared.woven.Woven.{Woven}
use Rattle.rl_weave.specs.declared.access.Access.{Access}
use Rattle.rl_weave.specs.Access.{woven_at, IsWovenOn}
use Rattle.rl_weave.specs.Step.{IsStepOf, end_of}
use Rattle.rl_weave.specs.Weave.{WeaveData, IsWeaveOn, adding, empty, stepped, woven_of}
use Rattle.rl_weave_log.specs.Setting.{Setting, IsAtWeaving, IsPart, weaving_at}
use Rattle.rl_weave_log.specs.WeaveLog.{Weaving, Part, nothing, group, next_op, no_op, item_sent, after_item, step_text, counted_at_end, sends, word_by, word_drawn, words, chosen}

-- ---- one word

sent_is : (m n : ModelData) (a b : List Standing) (d : State) (account later : Account) (after : Option State) (v : Woven) (step : Step)
    → IsStepOf (scene m a account (Some d)) (scene n b later after) v step → step.item ≡ item_sent (world m a d) v
sent_is m n a b d account later after v step h =
    let s = h.sent in
    let port = port_for m.layout v.place in
    let standing = standing_at a (adapter_for m.layout v.place) in
    let op : step.item.op ≡ next_op (world m a d) v =
    sym (get_or_from_slice_get (word_ops m.layout v.place v.access.value) (length v.items) step.item.op no_op s.op) in
    s.item_is ∙ ap (λ answer. item_of standing port step.item.op answer) (s.step.answers d refl)
    ∙ ap (λ op. item_of standing port op (answer_of d port op)) op

abbrev pub weaving : WeaveData → World → ℕ → Counts → Weaving
weaving w at x counts = record { weave = w; world = at; drawing = x; counts = counts }

abbrev pub set : WeaveData → ModelData → List Standing → Option State → ℕ → Option (List ℕ) → Counts → Setting
set w m a st x text counts =
    record { weave = w; model = m; adapters = a; device = st; drawing = x; text = text; counts = counts }

-- a step sends its item
step_sends : {T E : Type 0} (old new : Option (List ℕ)) (w v : WeaveData) (m n : ModelData) (a b : List Standing) (d : State)
    (account later : Account) (after : Option State) (x which : ℕ) (step : Step) (counts now : Counts) (r : Result T E)
    → IsStepOf (scene m a account (Some d)) (scene n b later after) (woven_at w.accesses which) step
    → v ≡ stepped w which step.item → now ≡ counted_at_end counts step.end → Puts old new (step_text n step.item step.end) r
    → IsPart (sends (weaving w (world m a d) x counts) which step.item) old (set v n b after x new now) r
step_sends old new w v m n a b d account later after x which step counts now r h is counted puts =
    let u = woven_at w.accesses which in
    let model : n ≡ observing m step.item = h.sent.model in
    let ending : step.end ≡ end_of (observing m step.item) u step.item =
    h.end ∙ ap (λ m. end_of m u step.item) model in
    let text : step_text n step.item step.end ≡
    step_text (observing m step.item) step.item (end_of (observing m step.item) u step.item) =
    ap (λ m. step_text m step.item step.end) model ∙ ap (λ e. step_text (observing m step.item) step.item e) ending in
    record {
      whole = subst (λ l. OnOk r (Appends old new l)) text puts.whole;
      left = on_ok r (IsAtWeaving (set v n b after x new now) (sends (weaving w (world m a d) x counts) which step.item).after)
          (record {
            weave_is = is;
            world_is = record { model_is = model; adapters_are = h.sent.adapters; device_is = h.sent.step.goes };
            drawing_is = refl;
            counts_are = counted ∙ ap (counted_at_end counts) ending;
          });
      part = subst (λ l. OnErr r (AppendsFront old new l)) text puts.part;
    }

-- the step of the access that is drawn is the word drawn
step_draws : {T E : Type 0} (old new : Option (List ℕ)) (w v : WeaveData) (m n : ModelData) (a b : List Standing) (d : State)
    (account later : Account) (after : Option State) (x y which : ℕ) (step : Step) (counts now : Counts) (r : Result T E)
    → y ≡ next_state x → which ≡ chosen w y
    → IsStepOf (scene m a account (Some d)) (scene n b later after) (woven_at w.accesses which) step
    → v ≡ stepped w which step.item → now ≡ counted_at_end counts step.end → Puts old new (step_text n step.item step.end) r
    → IsPart (word_drawn (weaving w (world m a d) x counts)) old (set v n b after y new now) r
unfolding word_drawn
step_draws old new w v m n a b d account later after x y which step counts now r drawn chose h is counted puts =
    let s = set v n b after y new now in
    let by_item : IsPart (word_by (weaving w (world m a d) y counts) which) old s r =
    subst (λ item. IsPart (sends (weaving w (world m a d) y counts) which item) old s r)
    (sent_is m n a b d account later after (woven_at w.accesses which) step h)
    (step_sends old new w v m n a b d account later after y which step counts now r h is counted puts) in
    subst (λ z. IsPart (word_by (weaving w (world m a d) z counts) (chosen w z)) old s r) drawn
    (subst (λ k. IsPart (word_by (weaving w (world m a d) y counts) k) old s r) chose by_item)

pub step_writes : {T E : Type 0} (old new : Option (List ℕ)) (w v : WeaveData) (m n : ModelData) (a b : List Standing)
    (st : Option State) (account later : Account) (after : Option State) (x y which : ℕ) (step : Step) (counts now : Counts)
    (r : Result T E) → y ≡ next_state x → which ≡ chosen w y
    → IsStepOf (scene m a account st) (scene n b later after) (woven_at w.accesses which) step
    → v ≡ stepped w which step.item → now ≡ counted_at_end counts step.end → Puts old new (step_text n step.item step.end) r
    → IfSome st (λ d. IsPart (word_drawn (weaving w (world m a d) x counts)) old (set v n b after y new now) r)
step_writes old new w v m n a b None account later after x y which step counts now r drawn chose h is counted puts = tt
step_writes old new w v m n a b (Some d) account later after x y which step counts now r drawn chose h is counted puts =
    step_draws old new w v m n a b d account later after x y which step counts now r drawn chose h is counted puts

-- the access that is drawn
pub chosen_is : (w : WeaveData) (x i m which : ℕ) → slice_get w.still_open i ≡ Some which → i ≡ drawn x m
    → m ≡ length w.still_open → which ≡ chosen w x
chosen_is w x i m which got is count =
    sym (get_or_from_slice_get w.still_open i which 0 got) ∙ ap (λ i. get_or w.still_open i 0) (is ∙ ap (drawn x) count)

-- ---- words, one after another

abbrev prepended : List ℕ → Part → Part
prepended text p = record { text = text ++ p.text; after = p.after }

-- Some words were sent, and at most so many are left.
pub record Sent (most : ℕ) (g : Weaving) (left : ℕ) (old : Option (List ℕ)) (s : Setting) : Type 0 where
  pub text : List ℕ
  pub now : Weaving
  pub at : IsAtWeaving s now
  pub whole : words most g ≡ prepended text (words left now)
  pub written : Appends old s.text text

pub weaving_is : (s : Setting) (g : Weaving) → IsAtWeaving s g → weaving_at s g.world.device ≡ g
weaving_is s g h =
    ap (λ w. weaving w (world s.model s.adapters g.world.device) s.drawing s.counts) h.weave_is
    ∙ ap (λ m. weaving g.weave (world m s.adapters g.world.device) s.drawing s.counts) h.world_is.model_is
    ∙ ap (λ a. weaving g.weave (world g.world.model a g.world.device) s.drawing s.counts) h.world_is.adapters_are
    ∙ ap (λ x. weaving g.weave g.world x s.counts) h.drawing_is
    ∙ ap (λ c. weaving g.weave g.world g.drawing c) h.counts_are

pub at_first : (s : Setting) (d : State) → s.device ≡ Some d → IsAtWeaving s (weaving_at s d)
at_first s d is = record {
  weave_is = refl;
  world_is = record { model_is = refl; adapters_are = refl; device_is = is };
  drawing_is = refl;
  counts_are = refl;
}

sent_none : (most : ℕ) (s : Setting) (d : State) → s.device ≡ Some d → Sent most (weaving_at s d) most s.text s
sent_none most s d is = record {
  text = [];
  now = weaving_at s d;
  at = at_first s d is;
  whole = refl;
  written = Appends-nil s.text;
}

pub begun : (most : ℕ) (s : Setting) (st : Option State) → s.device ≡ st
    → IfSome st (λ d. Sent most (weaving_at s d) most s.text s)
begun most s None is = tt
begun most s (Some d) is = sent_none most s d is

-- the part that the next word is, from what stands
part_now : {T E : Type 0} (s after : Setting) (g : Weaving) (r : Result T E) → IsAtWeaving s g
    → IfSome s.device (λ d. IsPart (word_drawn (weaving_at s d)) s.text after r) → IsPart (word_drawn g) s.text after r
part_now s after g r at h =
    let told : IsPart (word_drawn (weaving_at s g.world.device)) s.text after r =
    subst (λ st. IfSome st (λ d. IsPart (word_drawn (weaving_at s d)) s.text after r)) at.world_is.device_is h in
    subst (λ g. IsPart (word_drawn g) s.text after r) (weaving_is s g at) told

open_next : (left : ℕ) (g : Weaving) → (length g.weave.still_open == 0) ≡ false
    → words (suc left) g ≡ prepended (word_drawn g).text (words left (word_drawn g).after)
unfolding words
open_next left g some =
    ap (λ b. if b then nothing g else prepended (word_drawn g).text (words left (word_drawn g).after)) some

none_next : (left : ℕ) (g : Weaving) → (length g.weave.still_open == 0) ≡ true → words left g ≡ nothing g
unfolding words
none_next zero g none = refl
none_next (suc left) g none =
    ap (λ b. if b then nothing g else prepended (word_drawn g).text (words left (word_drawn g).after)) none

open_at : (s : Setting) (g : Weaving) (b : Bool) → IsAtWeaving s g → (length s.weave.still_open == 0) ≡ b
    → (length g.weave.still_open == 0) ≡ b
open_at s g b at is = sym (ap (λ w. length w.still_open == 0) at.weave_is) ∙ is

whole_next : (most left : ℕ) (g now : Weaving) (text : List ℕ) → words most g ≡ prepended text (words (suc left) now)
    → (length now.weave.still_open == 0) ≡ false
    → words most g ≡ prepended (text ++ (word_drawn now).text) (words left (word_drawn now).after)
whole_next most left g now text whole some =
    let p = word_drawn now in
    whole ∙ ap (prepended text) (open_next left now some)
    ∙ ap (λ l. record (words left p.after) { text = l })
    (sym (append_assoc text p.text (words left p.after).text))

pub sent_more : (T E : Type 0) (most left : ℕ) (g : Weaving) (old : Option (List ℕ)) (s after : Setting) (x : T)
    → Sent most g (suc left) old s → (length s.weave.still_open == 0) ≡ false
    → IfSome s.device (λ d. IsPart {T = T} {E = E} (word_drawn (weaving_at s d)) s.text after (Ok x)) → Sent most g left old after
sent_more T E most left g old s after x h some word =
    let p = word_drawn h.now in
    let part = part_now s after h.now (Ok x) h.at word in
    record {
      text = h.text ++ p.text;
      now = p.after;
      at = part.left;
      whole = whole_next most left g h.now h.text h.whole (open_at s h.now false h.at some);
      written = Appends-trans old s.text after.text h.text p.text h.written part.whole;
    }

pub sent_stops : (T E : Type 0) (most left : ℕ) (g : Weaving) (old : Option (List ℕ)) (s after : Setting) (e : E)
    → Sent most g (suc left) old s → (length s.weave.still_open == 0) ≡ false
    → IfSome s.device (λ d. IsPart {T = T} {E = E} (word_drawn (weaving_at s d)) s.text after (Err e))
    → IsPart {T = T} {E = E} (words most g) old after (Err e)
sent_stops T E most left g old s after e h some word =
    let p = word_drawn h.now in
    let part = part_now s after h.now (Err e) h.at word in
    let whole = whole_next most left g h.now h.text h.whole (open_at s h.now false h.at some) in
    record {
      whole = tt;
      left = tt;
      part = subst (λ (q : Part). AppendsFront old after.text q.text) (sym whole)
          (front_before old after.text (h.text ++ p.text) (words left p.after).text
          (front_after old s.text after.text h.text p.text h.written part.part));
    }

sent_over : (T E : Type 0) (most left : ℕ) (g : Weaving) (old : Option (List ℕ)) (s : Setting) (x : T) (h : Sent most g left old s)
    → words left h.now ≡ nothing h.now → IsPart {T = T} {E = E} (words most g) old s (Ok x)
sent_over T E most left g old s x h none =
    let is : words most g ≡ record (nothing h.now) { text = h.text } =
    h.whole ∙ ap (prepended h.text) none ∙ ap (λ l. record (nothing h.now) { text = l }) (append-nil h.text) in
    subst (λ p. IsPart {T = T} {E = E} p old s (Ok x)) (sym is) (record { whole = h.written; left = h.at; part = tt })

-- no access is open
pub sent_all : (T E : Type 0) (most left : ℕ) (g : Weaving) (old : Option (List ℕ)) (s : Setting) (x : T)
    → Sent most g left old s → (length s.weave.still_open == 0) ≡ true → IsPart {T = T} {E = E} (words most g) old s (Ok x)
sent_all T E most left g old s x h none =
    sent_over T E most left g old s x h (none_next left h.now (open_at s h.now true h.at none))

-- no more words are sent
pub sent_most : (T E : Type 0) (most : ℕ) (g : Weaving) (old : Option (List ℕ)) (s : Setting) (x : T)
    → Sent most g 0 old s → IsPart {T = T} {E = E} (words most g) old s (Ok x)
unfolding words
sent_most T E most g old s x h = sent_over T E most 0 g old s x h refl

-- ---- a group

pub group_ends : (T E : Type 0) (old text : Option (List ℕ)) (g : Weaving) (v u : WeaveData) (n : ModelData) (b : List Standing)
    (after : Option State) (y : ℕ) (now : Counts) (x : T) → u ≡ empty → IsPart {T = T} {E = E} (words 512 g) old (set v n b after y text now) (Ok x)
    → IsPart {T = T} {E = E} (group g) old (set u n b after y text now) (Ok x)
group_ends T E old text g v u n b after y now x is h = record {
  whole = h.whole;
  left = record {
    weave_is = is;
    world_is = h.left.world_is;
    drawing_is = h.left.drawing_is;
    counts_are = h.left.counts_are;
  };
  part = tt;
}

pub group_done : (T E : Type 0) (st : Option State) (old text : Option (List ℕ)) (w v u : WeaveData) (m n : ModelData)
    (a b : List Standing) (after : Option State) (z y : ℕ) (counts now : Counts) (x : T) → u ≡ empty
    → IfSome st (λ d. IsPart {T = T} {E = E} (words 512 (weaving w (world m a d) z counts)) old (set v n b after y text now) (Ok x))
    → IfSome st (λ d. IsPart {T = T} {E = E} (group (weaving w (world m a d) z counts)) old (set u n b after y text now) (Ok x))
group_done T E None old text w v u m n a b after z y counts now x is h = tt
group_done T E (Some d) old text w v u m n a b after z y counts now x is h =
    group_ends T E old text (weaving w (world m a d) z counts) v u n b after y now x is h

pub group_fails : (T E : Type 0) (st : Option State) (old text : Option (List ℕ)) (w v : WeaveData) (m n : ModelData)
    (a b : List Standing) (after : Option State) (z y : ℕ) (counts now : Counts) (e : E)
    → IfSome st (λ d. IsPart {T = T} {E = E} (words 512 (weaving w (world m a d) z counts)) old (set v n b after y text now) (Err e))
    → IfSome st (λ d. IsPart {T = T} {E = E} (group (weaving w (world m a d) z counts)) old (set v n b after y text now) (Err e))
group_fails T E None old text w v m n a b after z y counts now e h = tt
group_fails T E (Some d) old text w v m n a b after z y counts now e h = record { whole = tt; left = tt; part = h.part }

-- ---- what the code tests

pub none_open : (n m : ℕ) → n ≡ m → n ≡ 0 → (m == 0) ≡ true
none_open n m e z = grind (arith, nat_tests)

pub some_open : (n m : ℕ) → n ≡ m → 0 < n → (m == 0) ≡ false
some_open n m e z = grind (arith, nat_tests)

pub words_next : (T E : Type 0) (st : Option State) (w : WeaveData) (m : ModelData) (a : List Standing) (x : ℕ) (counts : Counts)
    (most left less : ℕ) (old : Option (List ℕ)) (s after : Setting) (u : T) → left ≡ suc less
    → IfSome st (λ d. Sent most (weaving w (world m a d) x counts) left old s) → (length s.weave.still_open == 0) ≡ false
    → IfSome s.device (λ d. IsPart {T = T} {E = E} (word_drawn (weaving_at s d)) s.text after (Ok u))
    → IfSome st (λ d. Sent most (weaving w (world m a d) x counts) less old after)
words_next T E None w m a x counts most left less old s after u is h some part = tt
words_next T E (Some d) w m a x counts most left less old s after u is h some part =
    let g = weaving w (world m a d) x counts in
    sent_more T E most less g old s after u (subst (λ k. Sent most g k old s) is h) some part

err_part : {R F : Type 0} (p : Part) (old : Option (List ℕ)) (s : Setting) (r : Result R F) → IsErr r
    → AppendsFront old s.text p.text → IsPart p old s r
err_part p old s (Ok x) is f = absurd (true≢false (sym is))
err_part p old s (Err e) is f = record { whole = tt; left = tt; part = f }

pub words_stop : (T E : Type 0) {R F : Type 0} (st : Option State) (w : WeaveData) (m : ModelData) (a : List Standing) (x : ℕ)
    (counts : Counts) (most left less : ℕ) (old : Option (List ℕ)) (s after : Setting) (e : E) (r : Result R F) → IsErr r
    → left ≡ suc less → IfSome st (λ d. Sent most (weaving w (world m a d) x counts) left old s)
    → (length s.weave.still_open == 0) ≡ false
    → IfSome s.device (λ d. IsPart {T = T} {E = E} (word_drawn (weaving_at s d)) s.text after (Err e))
    → IfSome st (λ d. IsPart (words most (weaving w (world m a d) x counts)) old after r)
words_stop T E None w m a x counts most left less old s after e r failed is h some part = tt
words_stop T E (Some d) w m a x counts most left less old s after e r failed is h some part =
    let g = weaving w (world m a d) x counts in
    err_part (words most g) old after r failed
    (sent_stops T E most less g old s after e (subst (λ k. Sent most g k old s) is h) some part).part

pub words_all : (T E : Type 0) (st : Option State) (w : WeaveData) (m : ModelData) (a : List Standing) (x : ℕ) (counts : Counts)
    (most left : ℕ) (old : Option (List ℕ)) (s : Setting) (u : T)
    → IfSome st (λ d. Sent most (weaving w (world m a d) x counts) left old s) → (length s.weave.still_open == 0) ≡ true
    → IfSome st (λ d. IsPart {T = T} {E = E} (words most (weaving w (world m a d) x counts)) old s (Ok u))
words_all T E None w m a x counts most left old s u h none = tt
words_all T E (Some d) w m a x counts most left old s u h none =
    sent_all T E most left (weaving w (world m a d) x counts) old s u h none

pub words_most : (T E : Type 0) (st : Option State) (w : WeaveData) (m : ModelData) (a : List Standing) (x : ℕ) (counts : Counts)
    (most left : ℕ) (old : Option (List ℕ)) (s : Setting) (u : T) → left ≡ 0
    → IfSome st (λ d. Sent most (weaving w (world m a d) x counts) left old s)
    → IfSome st (λ d. IsPart {T = T} {E = E} (words most (weaving w (world m a d) x counts)) old s (Ok u))
words_most T E None w m a x counts most left old s u is h = tt
words_most T E (Some d) w m a x counts most left old s u is h =
    let g = weaving w (world m a d) x counts in
    sent_most T E most g old s u (subst (λ k. Sent most g k old s) is h)

pub joined_on : (m : ModelData) (w v : WeaveData) (a : Access) → v ≡ adding w m a → IsWeaveOn m w → IsWovenOn m (woven_of m a)
    → IsWeaveOn m v
joined_on m w v a is on one = subst (IsWeaveOn m) (sym is) (All-push (IsWovenOn m) w.accesses (woven_of m a) on one)

-- Plans that are followed one after another.
use Rattle.std.proofs.Common.{◌≡◌, ℕ, zero, suc, ◌+◌, ◌<◌, true, false, List, [], ◌∷◌, ◌++◌, Result, Ok, Err, OnOk, OnErr, refl, sym, ap, ◌∙◌, subst, nat_lt, add-one, arith}
use Rattle.std.specs.Result.{IsErr}
use borrow.Author.Tests.{ltb-true, ltb-false}
use Rattle.rl_model.specs.Rows.{ChipData}
use Rattle.rl_map.specs.Layout.{LayoutData}
use Rattle.rl_access.specs.declared.event.Event.{Event}
use Rattle.rl_access.specs.declared.event.Op.{Op}
use Rattle.rl_access.specs.declared.event.Tally.{Tally}
use Rattle.rl_access.specs.Call.{Scene}
use Rattle.rl_access.specs.HandsOver.{Told, TakesAll, BreaksAtLast}
use Rattle.rl_access.specs.Model.{ModelData, IsSameChip}
use Rattle.rl_access.specs.Runs.{IsOneStep, no_tally, counted_all}
use Rattle.rl_access.specs.Tally.{counted}
use Rattle.rl_seq.specs.Plan.{Plan, stop, step, look, followed_by, each_below, Runs, Breaks, Walks, IsSequence}

runs_then : (p q : Plan) (s mid new : Scene) (first more : List Told) → Runs p s first mid → Runs q mid more new
    → Runs (followed_by p q) s (first ++ more) new
runs_then stop q s mid new [] more h k = subst (λ x. Runs q x more new) h k
runs_then stop q s mid new (t ∷ first) more h k = absurd h
runs_then (step op p) q s mid new [] more h k = absurd h
runs_then (step op p) q s mid new (t ∷ first) more h k = (h.0, h.1, runs_then p q h.0 mid new first more h.2 k)
runs_then (look f) q s mid new first more h k = runs_then (f s.model) q s mid new first more h k

breaks_first : (p q : Plan) (s new : Scene) (told : List Told) → Breaks p s told new → Breaks (followed_by p q) s told new
breaks_first stop q s new told h = absurd h
breaks_first (step op p) q s new [] h = absurd h
breaks_first (step op p) q s new (t ∷ []) h = h
breaks_first (step op p) q s new (t ∷ u ∷ told) h = (h.0, h.1, breaks_first p q h.0 new (u ∷ told) h.2)
breaks_first (look f) q s new told h = breaks_first (f s.model) q s new told h

never : (p : Plan) (s new : Scene) → Breaks p s [] new → ⊥
never stop s new h = h
never (step op p) s new h = h
never (look f) s new h = never (f s.model) s new h

-- a step before a plan that broke
step_before : (op : Op) (p : Plan) (s mid new : Scene) (t : Told) (told : List Told) → IsOneStep s mid op t → Breaks p mid told new
    → Breaks (step op p) s (t ∷ told) new
step_before op p s mid new t (u ∷ told) one h = (mid, one, h)
step_before op p s mid new t [] one h = absurd (never p mid new h)

breaks_after : (p q : Plan) (s mid new : Scene) (first more : List Told) → Runs p s first mid → Breaks q mid more new
    → Breaks (followed_by p q) s (first ++ more) new
breaks_after stop q s mid new [] more h k = subst (λ x. Breaks q x more new) h k
breaks_after stop q s mid new (t ∷ first) more h k = absurd h
breaks_after (step op p) q s mid new [] more h k = absurd h
breaks_after (step op p) q s mid new (t ∷ first) more h k = step_before op (followed_by p q) s h.0 new t (first ++ more) h.1
    (breaks_after p q h.0 mid new first more h.2 k)
breaks_after (look f) q s mid new first more h k = breaks_after (f s.model) q s mid new first more h k

counted_more : (before : Tally) (first more : List Told) → counted_all before (first ++ more) ≡ counted_all (counted_all before first) more
counted_more before [] more = refl
counted_more before (t ∷ first) more = counted_more (counted before t.event) first more

module _ {R : Type 0} (takes breaks : R → ModelData → Event → R → Type 0) where
  takes_then : (old mid new : R) (first more : List Told) → TakesAll takes old first mid → TakesAll takes mid more new
      → TakesAll takes old (first ++ more) new
  takes_then old mid new [] more h k = subst (λ x. TakesAll takes x more new) h k
  takes_then old mid new (t ∷ first) more h k = (h.0, h.1, takes_then h.0 mid new first more h.2 k)

  one_before : (old mid new : R) (t : Told) (told : List Told) → takes old t.model t.event mid → BreaksAtLast takes breaks mid told new
      → BreaksAtLast takes breaks old (t ∷ told) new
  one_before old mid new t [] took h = absurd h
  one_before old mid new t (u ∷ told) took h = (mid, took, h)

  breaks_then : (old mid new : R) (first more : List Told) → TakesAll takes old first mid → BreaksAtLast takes breaks mid more new
      → BreaksAtLast takes breaks old (first ++ more) new
  breaks_then old mid new [] more h k = subst (λ x. BreaksAtLast takes breaks x more new) h k
  breaks_then old mid new (t ∷ first) more h k = one_before old h.0 new t (first ++ more) h.1 (breaks_then h.0 mid new first more h.2 k)

  -- one operation
  pub walks_one : {E : Type 0} (old rec : R) (s new : Scene) (before after : Tally) (op : Op) (model : ModelData) (event : Event)
      (r : Result (Unit {0}) E) → IsOneStep s new op (record { model = model; event = event })
      → OnOk r (takes old model event rec) → OnOk r (after ≡ counted before event) → OnErr r (breaks old model event rec)
      → Walks takes breaks old rec s new before after (step op stop) r
  walks_one old rec s new before after op model event (Ok x) one took counts broke = record {
    told = record { model = model; event = event } ∷ [];
    handed = record { all = (rec, took, refl); part = tt };
    counts = counts;
    run = (new, one, refl);
  }
  walks_one old rec s new before after op model event (Err e) one took counts broke = record {
    told = record { model = model; event = event } ∷ [];
    handed = record { all = tt; part = broke };
    counts = tt;
    run = one;
  }

  -- nothing
  pub walks_none : {T E : Type 0} (rec : R) (s : Scene) (tally : Tally) (x : T)
      → Walks {E = E} takes breaks rec rec s s tally tally stop (Ok x)
  walks_none rec s tally x = record { told = []; handed = record { all = refl; part = tt }; counts = refl; run = refl }

  -- one plan after another
  pub walks_then : {T U E F : Type 0} (old mid rec : R) (s m new : Scene) (t0 t1 t2 : Tally) (p q : Plan) (x : T) (r : Result U E)
      → Walks {E = F} takes breaks old mid s m t0 t1 p (Ok x) → Walks takes breaks mid rec m new t1 t2 q r
      → Walks takes breaks old rec s new t0 t2 (followed_by p q) r
  walks_then old mid rec s m new t0 t1 t2 p q x (Ok y) a b = record {
    told = a.told ++ b.told;
    handed = record { all = takes_then old mid rec a.told b.told a.handed.all b.handed.all; part = tt };
    counts = b.counts ∙ ap (λ t. counted_all t b.told) a.counts ∙ sym (counted_more t0 a.told b.told);
    run = runs_then p q s m new a.told b.told a.run b.run;
  }
  walks_then old mid rec s m new t0 t1 t2 p q x (Err e) a b = record {
    told = a.told ++ b.told;
    handed = record { all = tt; part = breaks_then old mid rec a.told b.told a.handed.all b.handed.part };
    counts = tt;
    run = breaks_after p q s m new a.told b.told a.run b.run;
  }

  -- one that broke off, whatever was to follow
  pub walks_broke : {T U E : Type 0} (old rec : R) (s new : Scene) (t0 t1 t2 : Tally) (p q : Plan) (e : E) (r : Result U E)
      → Walks {T = T} takes breaks old rec s new t0 t1 p (Err e) → IsErr r → Walks takes breaks old rec s new t0 t2 (followed_by p q) r
  walks_broke old rec s new t0 t1 t2 p q e (Ok y) a is = absurd (let no : false ≡ true = is in cc)
  walks_broke old rec s new t0 t1 t2 p q e
      (Err f) a is = record { told = a.told; handed = record { all = tt; part = a.handed.part }; counts = tt; run = breaks_first p q s new a.told a.run }

  -- a look at the model
  pub walks_look : {T E : Type 0} (old rec : R) (s new : Scene) (t0 t1 : Tally) (f : ModelData → Plan) (r : Result T E)
      → Walks takes breaks old rec s new t0 t1 (f s.model) r → Walks takes breaks old rec s new t0 t1 (look f) r
  walks_look old rec s new t0 t1 f (Ok x) a = record { told = a.told; handed = a.handed; counts = a.counts; run = a.run }
  walks_look old rec s new t0 t1 f (Err e) a = record { told = a.told; handed = a.handed; counts = a.counts; run = a.run }

  -- a plan that is the same
  pub walks_same : {T E : Type 0} (old rec : R) (s new : Scene) (t0 t1 : Tally) (p q : Plan) (r : Result T E) → p ≡ q
      → Walks takes breaks old rec s new t0 t1 p r → Walks takes breaks old rec s new t0 t1 q r
  walks_same old rec s new t0 t1 p q r e a = subst (λ x. Walks takes breaks old rec s new t0 t1 x r) e a

  pub sequence_done : {T E : Type 0} (old rec : R) (s new : Scene) (before after : Tally) (p : Plan) (x : T)
      → Walks {E = E} takes breaks old rec s new before after p (Ok x) → before ≡ no_tally
      → IsSequence {E = E} takes breaks old rec s new p (Ok after)
  sequence_done old rec s new before after p x a none = record {
    told = a.told;
    handed = record { all = a.handed.all; part = tt };
    counts = a.counts ∙ ap (λ t. counted_all t a.told) none;
    run = a.run;
  }

  pub sequence_broke : {T E : Type 0} (old rec : R) (s new : Scene) (before after : Tally) (p : Plan) (e : E) (r : Result Tally E)
      → Walks {T = T} takes breaks old rec s new before after p (Err e) → IsErr r → IsSequence takes breaks old rec s new p r
  sequence_broke old rec s new before after p e (Ok t) a is = absurd (let no : false ≡ true = is in cc)
  sequence_broke old rec s new before after p e
      (Err f) a is = record { told = a.told; handed = record { all = tt; part = a.handed.part }; counts = tt; run = a.run }

-- ---- for each number below a count

pub grown : (i : ℕ) (f : ℕ → Plan) → followed_by (each_below i f) (f i) ≡ each_below (i + 1) f
grown i f = sym (ap (λ n. each_below n f) (add-one i))

-- what broke off below a number broke off below any larger one
broke_below : (f : ℕ → Plan) (i n : ℕ) (s new : Scene) (told : List Told) → i < n → Breaks (followed_by (each_below i f) (f i)) s told new
    → Breaks (each_below n f) s told new
broke_below f i zero s new told low h = absurd (omega arith)
broke_below f i (suc n) s new told low h =
    elim (nat_lt i n) as (λ b. nat_lt i n ≡ b → Breaks (followed_by (each_below n f) (f n)) s told new) [
      | true ↦ λ less. breaks_first (each_below n f) (f n) s new told (broke_below f i n s new told (ltb-true i n less) h)
      | false ↦ λ not_less. let same : i ≡ n = let above = ltb-false i n not_less in omega arith in
          subst (λ k. Breaks (followed_by (each_below k f) (f k)) s told new) same h
    ] refl

module _ {R : Type 0} (takes breaks : R → ModelData → Event → R → Type 0) where
  pub walks_below : {T U E : Type 0} (old rec : R) (s new : Scene) (t0 t1 t2 : Tally) (f : ℕ → Plan) (i n : ℕ) (e : E) (r : Result U E)
      → i < n → Walks {T = T} takes breaks old rec s new t0 t1 (followed_by (each_below i f) (f i)) (Err e) → IsErr r
      → Walks takes breaks old rec s new t0 t2 (each_below n f) r
  walks_below old rec s new t0 t1 t2 f i n e (Ok y) low a is = absurd (let no : false ≡ true = is in cc)
  walks_below old rec s new t0 t1 t2 f i n e
      (Err z) low a is = record { told = a.told; handed = record { all = tt; part = a.handed.part }; counts = tt; run = broke_below f i n s new a.told low a.run }

-- the chip and the layout are the same, and so is a plan for them
pub same_plan : (f : ChipData → LayoutData → Plan) (m n : ModelData) → IsSameChip m n → f n.chip n.layout ≡ f m.chip m.layout
same_plan f m n parts = ap (λ c. f c n.layout) parts.chip ∙ ap (λ l. f m.chip l) parts.layout

-- what holds of a chip and a layout holds of those of any later model
pub on_chip : (P : ChipData → LayoutData → Type 0) (m n : ModelData) → IsSameChip m n → P m.chip m.layout → P n.chip n.layout
on_chip P m n parts h = subst (λ l. P n.chip l) (sym parts.layout) (subst (λ c. P c m.layout) (sym parts.chip) h)

-- ---- plans that do the same

-- what follows the one follows the other
pub record Alike (p q : Plan) : Type 0 where
  pub runs : (s new : Scene) (told : List Told) → Runs p s told new → Runs q s told new
  pub breaks : (s new : Scene) (told : List Told) → Breaks p s told new → Breaks q s told new

pub alike_same : (p : Plan) → Alike p p
alike_same p = record { runs = λ s new told h. h; breaks = λ s new told h. h }

runs_step : (op : Op) (p q : Plan) (s new : Scene) (told : List Told) → Alike p q → Runs (step op p) s told new
    → Runs (step op q) s told new
runs_step op p q s new [] a h = h
runs_step op p q s new (t ∷ told) a h = (h.0, h.1, a.runs h.0 new told h.2)

breaks_step : (op : Op) (p q : Plan) (s new : Scene) (told : List Told) → Alike p q → Breaks (step op p) s told new
    → Breaks (step op q) s told new
breaks_step op p q s new [] a h = h
breaks_step op p q s new (t ∷ []) a h = h
breaks_step op p q s new (t ∷ u ∷ told) a h = (h.0, h.1, a.breaks h.0 new (u ∷ told) h.2)

pub alike_step : (op : Op) (p q : Plan) → Alike p q → Alike (step op p) (step op q)
alike_step op p q a = record { runs = λ s new told h. runs_step op p q s new told a h; breaks = λ s new told h. breaks_step op p q s new told a h }

pub alike_look : (f g : ModelData → Plan) → ((m : ModelData) → Alike (f m) (g m)) → Alike (look f) (look g)
alike_look f g a = record { runs = λ s new told h. (a s.model).runs s new told h; breaks = λ s new told h. (a s.model).breaks s new told h }

-- a look that nothing depends on
pub alike_looked : (f : ModelData → Plan) (q : Plan) → ((m : ModelData) → Alike (f m) q) → Alike (look f) q
alike_looked f q a = record {
  runs = λ s new told h. (a s.model).runs s new told h;
  breaks = λ s new told h.
      (a s.model).breaks s new told h;
}

module _ {R : Type 0} (takes breaks : R → ModelData → Event → R → Type 0) where
  pub walks_alike : {T E : Type 0} (old rec : R) (s new : Scene) (t0 t1 : Tally) (p q : Plan) (r : Result T E) → Alike p q
      → Walks takes breaks old rec s new t0 t1 p r → Walks takes breaks old rec s new t0 t1 q r
  walks_alike old rec s new t0 t1 p q
      (Ok x) e a = record { told = a.told; handed = a.handed; counts = a.counts; run = e.runs s new a.told a.run }
  walks_alike old rec s new t0 t1 p q
      (Err x) e a = record { told = a.told; handed = a.handed; counts = a.counts; run = e.breaks s new a.told a.run }

-- Operations that are under way, each told to a recorder.
use Rattle.std.proofs.Common.{◌≡◌, ℕ, suc, ◌+◌, ◌-◌, ◌<◌, true, false, List, [], ◌∷◌, ◌++◌, length, map, drop, get_or, Option, Result, Ok, Err, refl, sym, ap, ◌∙◌, subst, arith, append_assoc}
use Rattle.std.proofs.Common.{append-nil}
use Rattle.std.specs.Bool.{MatchBool}
use Rattle.std.specs.Result.{IsErr}
use Rattle.std.proofs.lemmas.List.{drop_more}
use Rattle.rl_access.specs.declared.event.Event.{Event}
use Rattle.rl_access.specs.declared.event.Op.{Op}
use Rattle.rl_access.specs.declared.event.Op.TheVariants as op
use Rattle.rl_access.specs.declared.event.Tally.{Tally}
use Rattle.rl_access.specs.Call.{Scene}
use Rattle.rl_access.specs.HandsOver.{Told, TakesAll, BreaksAtLast}
use Rattle.rl_access.specs.Model.{ModelData}
use Rattle.rl_access.specs.Runs.{IsOneStep, RunsThrough, RunsInto, no_tally, counted_all, IsRun, writes_of, reads_of}
use Rattle.rl_access.specs.Tally.{is_bus_error, counted}

-- these operations are left, and what they give completes what is there
pub record IsRunning {R : Type 0} (takes breaks : R → ModelData → Event → R → Type 0) (old rec : R) (s now : Scene) (ops left : List Op) (tally : Tally) : Type 0 where
  pub told : List Told
  pub taken : (rest : List Told) (new : R) → TakesAll takes rec rest new → TakesAll takes old (told ++ rest) new
  pub broken : (rest : List Told) (new : R) → BreaksAtLast takes breaks rec rest new → BreaksAtLast takes breaks old (told ++ rest) new
  pub through : (rest : List Told) (new : Scene) → RunsThrough now left rest new → RunsThrough s ops (told ++ rest) new
  pub into : (rest : List Told) (new : Scene) → RunsInto now left rest new → RunsInto s ops (told ++ rest) new
  pub counts : tally ≡ counted_all no_tally told

pub running_first : {R : Type 0} (takes breaks : R → ModelData → Event → R → Type 0) (rec : R) (s : Scene) (ops left : List Op) (tally : Tally) → left ≡ ops → tally ≡ no_tally →
    IsRunning takes breaks rec rec s s ops left tally
running_first takes breaks rec s ops left tally all none = record {
  told = [];
  taken = λ rest new h. h;
  broken = λ rest new h. h;
  through = λ rest new h. subst (λ l. RunsThrough s l rest new) all h;
  into = λ rest new h. subst (λ l. RunsInto s l rest new) all h;
  counts = none;
}

counted_all-push : (tally : Tally) (told : List Told) (t : Told) → counted_all tally (told ++ t ∷ []) ≡ counted (counted_all tally told) t.event
counted_all-push tally [] t = refl
counted_all-push tally (u ∷ told) t = counted_all-push (counted tally u.event) told t

module _ {R : Type 0} (takes breaks : R → ModelData → Event → R → Type 0) where
  one_more : (rec mid : R) (t : Told) (rest : List Told) (new : R) → takes rec t.model t.event mid → BreaksAtLast takes breaks mid rest new → BreaksAtLast takes breaks rec (t ∷ rest) new
  one_more rec mid t [] new took h = absurd h
  one_more rec mid t (u ∷ rest) new took h = (mid, took, h)

  into_next : (s mid : Scene) (op : Op) (left : List Op) (t : Told) (rest : List Told) (new : Scene) → IsOneStep s mid op t → is_bus_error t.event.end ≡ false → RunsInto mid left rest new →
      RunsInto s (op ∷ left) (t ∷ rest) new
  into_next s mid op left t [] new one quiet h = absurd h
  into_next s mid op left t (u ∷ rest) new one quiet h = (mid, one, quiet, h)

  -- one more was done and taken
  pub running_next : (old rec next : R) (s now mid : Scene) (ops pending left : List Op) (op : Op) (tally : Tally) (t : Told) → IsRunning takes breaks old rec s now ops pending tally →
      pending ≡ op ∷ left
      → IsOneStep now mid op t → is_bus_error t.event.end ≡ false → takes rec t.model t.event next → (more : Tally) → more ≡ counted tally t.event → IsRunning takes breaks old next s mid ops left more
  running_next old rec next s now mid ops pending left op tally t r head one quiet took more is_more =
      let join : (rest : List Told) → r.told ++ (t ∷ rest) ≡ (r.told ++ t ∷ []) ++ rest = λ rest. sym (append_assoc r.told (t ∷ []) rest) in
      record {
        told = r.told ++ t ∷ [];
        taken = λ rest new h. subst (λ all. TakesAll takes old all new) (join rest) (r.taken (t ∷ rest) new (next, took, h));
        broken = λ rest new h. subst (λ all. BreaksAtLast takes breaks old all new) (join rest) (r.broken (t ∷ rest) new (one_more rec next t rest new took h));
        through = λ rest new h.
            let here : RunsThrough now (op ∷ left) (t ∷ rest) new = (mid, one, subst (λ b. MatchBool b ((rest ≡ []) × (new ≡ mid)) (RunsThrough mid left rest new)) (sym quiet) h) in
            subst (λ all. RunsThrough s ops all new) (join rest) (r.through (t ∷ rest) new (subst (λ l. RunsThrough now l (t ∷ rest) new) (sym head) here));
        into = λ rest new h.
            let here : RunsInto now (op ∷ left) (t ∷ rest) new = into_next now mid op left t rest new one quiet h in
            subst (λ all. RunsInto s ops all new) (join rest) (r.into (t ∷ rest) new (subst (λ l. RunsInto now l (t ∷ rest) new) (sym head) here));
        counts = is_more ∙ ap (λ x. counted x t.event) r.counts ∙ sym (counted_all-push no_tally r.told t);
      }

  -- all were done
  pub run_ended : {E : Type 0} (old rec : R) (s now : Scene) (ops left : List Op) (tally : Tally) → IsRunning takes breaks old rec s now ops left tally → left ≡ [] →
      IsRun {E = E} takes breaks old rec s now ops (Ok tally)
  run_ended {E} old rec s now ops left tally r none = record {
    told = r.told;
    handed = record { all = subst (λ all. TakesAll takes old all rec) (append-nil r.told) (r.taken [] rec refl); part = tt };
    run = (subst (λ all. RunsThrough s ops all now) (append-nil r.told) (r.through [] now (subst (λ l. RunsThrough now l [] now) (sym none) refl)), r.counts);
  }

  -- the last one ended by a bus error
  pub run_stopped : {E : Type 0} (old rec next : R) (s now mid : Scene) (ops pending left : List Op) (op : Op) (tally : Tally) (t : Told) → IsRunning takes breaks old rec s now ops pending tally →
      pending ≡ op ∷ left
      → IsOneStep now mid op t → is_bus_error t.event.end ≡ true → takes rec t.model t.event next → (more : Tally) → more ≡ counted tally t.event → IsRun {E = E} takes breaks old next s mid ops
      (Ok more)
  run_stopped {E} old rec next s now mid ops pending left op tally t r head one error took more is_more = record {
    told = r.told ++ t ∷ [];
    handed = record { all = r.taken (t ∷ []) next (next, took, refl); part = tt };
    run = (
      r.through (t ∷ []) mid (
          let here : RunsThrough now (op ∷ left) (t ∷ []) mid = (
            mid,
            one,
            subst (λ b. MatchBool b ((◌≡◌ {A = List Told} [] []) × (mid ≡ mid)) (RunsThrough mid left [] mid)) (sym error) (
              refl,
              refl,
            ),
          ) in
          subst (λ l. RunsThrough now l (t ∷ []) mid) (sym head) here
          ),
      is_more ∙ ap (λ x. counted x t.event) r.counts ∙ sym (counted_all-push no_tally r.told t),
    );
  }

  -- the recorder failed at the last one
  broke_with : {E : Type 0} (failed : E) (old rec next : R) (s now mid : Scene) (ops pending left : List Op) (op : Op) (tally : Tally) (t : Told) → IsRunning takes breaks old rec s now ops pending
      tally → pending ≡ op ∷ left
      → IsOneStep now mid op t → breaks rec t.model t.event next → IsRun takes breaks old next s mid ops (Err failed)
  broke_with failed old rec next s now mid ops pending left op tally t r head one broke = record {
    told = r.told ++ t ∷ [];
    handed = record { all = tt; part = r.broken (t ∷ []) next broke };
    run = r.into (t ∷ []) mid (subst (λ l. RunsInto now l (t ∷ []) mid) (sym head) one);
  }

  pub run_broke : {E : Type 0} (result : Result Tally E) (old rec next : R) (s now mid : Scene) (ops pending left : List Op) (op : Op) (tally : Tally) (t : Told) → IsErr result →
      IsRunning takes breaks old rec s now ops pending tally → pending ≡ op ∷ left
      → IsOneStep now mid op t → breaks rec t.model t.event next → IsRun takes breaks old next s mid ops result
  run_broke (Ok x) old rec next s now mid ops pending left op tally t failed r head one broke = absurd (let no : false ≡ true = failed in cc)
  run_broke (Err e) old rec next s now mid ops pending left op tally t failed r head one broke = broke_with e old rec next s now mid ops pending left op tally t r head one broke

-- ---- the locations that are left

-- one value more was written
pub writes_left : (mem : ℕ) (map : Option ℕ) (first k : ℕ) (values : List ℕ) (d : ℕ) → k < length values → writes_of mem map (first + k) (drop k values) ≡ op.MemWrite mem map (first + k)
    (get_or values k d) ∷ writes_of mem map (first + (k + 1)) (drop (k + 1) values)
writes_left mem map first k values d within =
    ap (writes_of mem map (first + k)) (drop_more values k d within)
    ∙ ap (λ n. op.MemWrite mem map (first + k) (get_or values k d) ∷ writes_of mem map n (drop (k + 1) values)) (omega arith)

pub reads_left : (mem : ℕ) (map : Option ℕ) (index end : ℕ) → index < end → reads_of mem map index (end - index) ≡ op.MemRead mem map index ∷ reads_of mem map (index + 1) (end - (index + 1))
reads_left mem map index end within =
    let e : end - index ≡ suc (end - (index + 1)) = omega arith in
    ap (reads_of mem map index) e

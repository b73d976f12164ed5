-- What a flaw whose changes no check compares shows: nothing of its register, and of all else what shows without it. So it is never found.
use Rattle.std.proofs.Common.{◌≡◌, ◌⊎◌, inl, inr, ℕ, suc, Bool, true, false, ◌||◌, ◌==◌, List, [], ◌∷◌, All, Option, Some, None, is_some, refl, sym, ap, ◌∙◌, arith}
use Rattle.std.specs.Option.{option_map_or}
use Rattle.std.proofs.lemmas.Bool.{cases_eq, eqb-true}
use Rattle.std.proofs.lemmas.List.Elements.{All-cons, All-head, All-nil, All-tail, All-weaker}
use Rattle.rl_bus.specs.Standing.{Standing}
use Rattle.rl_model.specs.Rows.{ChipData}
use Rattle.rl_access.specs.declared.event.Event.{Event}
use Rattle.rl_access.specs.Operation.{register_of}
use Rattle.rl_access.specs.Tally.{is_bus_error}
use Rattle.rl_flaw.specs.declared.flaw.Flaw.{Flaw}
use Rattle.rl_flaw.specs.Flaws.{flaws_of}
use Rattle.rl_desc.specs.Data.{DescData}
use Rattle.rl_session.specs.Judged.{first_world}
use Rattle.rl_grade.specs.declared.job.Task.{Task}
use Rattle.rl_grade.specs.declared.seen.Seen.{Seen}
use Rattle.rl_grade.specs.Alike.{without_flaws}
use Rattle.rl_grade.specs.Find.{all_seen, first_find, seen_of}
use Rattle.rl_grade.specs.Heard.{Heard}
use Rattle.rl_grade.specs.Hidden.{is_silent}
use Rattle.rl_grade.specs.Job.{heard_by}
use Rattle.rl_grade.specs.NeverFound.{HiddenIsNotFound, IsUncheckedIn, ShowsNothingOf, UncheckedShowsNothing, UncheckedShowsTheSame}
use Rattle.rl_grade.specs.Place.{with_flaw}
use Rattle.rl_grade.specs.Registers.{register_with}
use Rattle.rl_grade.specs.Together.{AreOfRegisters, IsSoundDesc, account_of, is_of_other, line_told, untraced, with_flaws}
use Rattle.rl_grade.specs.Unchecked.{is_unchecked}
use Rattle.rl_grade.proofs.HiddenOnes.{none_more, not_found}
use Rattle.rl_grade.proofs.TogetherAccess.{AreSound}
use Rattle.rl_grade.proofs.TogetherFinds.{head_is, no_value, none_in, of_none, of_other, of_own, own_flaws_alone, tail_is, told_both, told_is, untold_is}
use Rattle.rl_grade.proofs.TogetherMakeup.{calm}
use Rattle.rl_grade.proofs.UncheckedCourses.{IsQuietIn, ShowsNothing, tasks_quiet}
use Rattle.rl_grade.proofs.UncheckedFlaws.{IsOfRegister, first_agreed, of_register, spared_with, spared_without}

abbrev nothing : Seen
nothing = record { differ = 0; error = false }

seen_by : (n : ℕ) (b : Bool) → n ≡ 0 → b ≡ false → (let s : Seen = record { differ = n; error = b } in s) ≡ nothing
seen_by n b none fine =
    ap (λ k. let s : Seen = record { differ = k; error = b } in s) none ∙ ap (λ k. let s : Seen = record { differ = 0; error = k } in s) fine

shown : (e : Event) → ShowsNothing e → seen_of e ≡ nothing
shown e is = seen_by e.differ (is_bus_error e.end) is.differ is.error

-- ---- two runs that tell the same of each other register

module _ (c : ChipData) (reg : ℕ) where
  abbrev Quiet : Heard → Type 0
  Quiet h = IsQuietIn c reg h.told.event

  abbrev Others : List Heard → List Heard → Type 0
  Others ys zs = (q : ℕ) → (q ≡ reg → ⊥) → account_of c q ys ≡ account_of c q zs

  next : suc reg ≡ reg → ⊥
  next at = omega (arith, at)

  -- an event that is told of no other register is this one's
  own_too : (z : Heard) → ((q : ℕ) → (q ≡ reg → ⊥) → is_of_other c q z.told.event ≡ true) → register_of c z.told.event.op ≡ Some reg
  own_too z off = by (register_of c z.told.event.op) refl
    where
      by : (k : Option ℕ) → register_of c z.told.event.op ≡ k → k ≡ Some reg
      by None is = let on : true ≡ false = sym (off (suc reg) next) ∙ of_none c (suc reg) z.told.event is in absurd cc
      by (Some p) is = whose (cases_eq p reg)
        where
          whose : (p ≡ reg) ⊎ (p ≡ reg → ⊥) → Some p ≡ Some reg
          whose (inl same) = ap Some same
          whose (inr apart) = let on : true ≡ false = sym (off p apart) ∙ of_own c p z.told.event is in absurd cc

  untold_too : (q : ℕ) (y z : Heard) → line_told c q y ≡ line_told c q z → is_of_other c q y.told.event ≡ true → is_of_other c q z.told.event ≡ true
  untold_too q y z same on = by (is_of_other c q z.told.event) refl
    where
      by : (k : Bool) → is_of_other c q z.told.event ≡ k → k ≡ true
      by true is = refl
      by false is = absurd (no_value (z.line, untraced z.told.event) (sym (told_is c q z is) ∙ sym same ∙ untold_is c q y on))

  seen_next : (y z : Heard) → ((q : ℕ) → (q ≡ reg → ⊥) → line_told c q y ≡ line_told c q z) → Quiet y → Quiet z → seen_of y.told.event ≡ seen_of z.told.event
  seen_next y z others quiet its = by (register_of c y.told.event.op) refl
    where
      by : (k : Option ℕ) → register_of c y.told.event.op ≡ k → seen_of y.told.event ≡ seen_of z.told.event
      by None is =
          let both = told_both c (suc reg) y z (others (suc reg) next) (of_none c (suc reg) y.told.event is) in
          sym (ap seen_of both.1)
      by (Some q) is = whose (cases_eq q reg)
        where
          whose : (q ≡ reg) ⊎ (q ≡ reg → ⊥) → seen_of y.told.event ≡ seen_of z.told.event
          whose (inl same) =
              let own : register_of c y.told.event.op ≡ Some reg = is ∙ ap Some same in
              let too = own_too z (λ p apart. untold_too p y z (others p apart) (of_other c reg p y.told.event own (λ at. apart (sym at)))) in
              shown y.told.event (quiet own) ∙ sym (shown z.told.event (its too))
          whose (inr apart) =
              let both = told_both c q y z (others q apart) (of_own c q y.told.event is) in
              sym (ap seen_of both.1)

  seen_same : (ys zs : List Heard) → Others ys zs → All Quiet ys → All Quiet zs → all_seen ys ≡ all_seen zs
  seen_same [] [] others quiet its = refl
  seen_same [] (z ∷ zs) others quiet its = let none : [] ≡ account_of c (suc reg) (z ∷ zs) = others (suc reg) next in absurd cc
  seen_same (y ∷ ys) [] others quiet its = let none : account_of c (suc reg) (y ∷ ys) ≡ [] = others (suc reg) next in absurd cc
  seen_same (y ∷ ys) (z ∷ zs) others quiet its =
      ap (λ s. s ∷ all_seen ys) (seen_next y z (λ q apart. head_is _ _ _ _ (others q apart)) (All-head Quiet y ys quiet) (All-head Quiet z zs its))
      ∙ ap (λ more. seen_of z.told.event ∷ more) (seen_same ys zs (λ q apart. tail_is _ _ _ _ (others q apart)) (All-tail Quiet y ys quiet) (All-tail Quiet z zs its))

-- ---- the laws

parts : (d : DescData) → IsSoundDesc d → AreSound d.chip d.layout
parts d sound = record { chip = sound.chip; layout = sound.layout; built = sound.built }

one_of : (c : ChipData) (flaw : Flaw) (reg : ℕ) → register_with c flaw ≡ Some reg → AreOfRegisters c (flaw ∷ [])
one_of c flaw reg is = All-cons (λ x. is_some (register_with c x) ≡ true) flaw [] (ap is_some is) (All-nil (λ x. is_some (register_with c x) ≡ true))

none_of : (c : ChipData) → AreOfRegisters c []
none_of c = All-nil (λ x. is_some (register_with c x) ≡ true)

module _ (d : DescData) (flaw : Flaw) (adapters : List Standing) (tasks : List Task) (h : IsUncheckedIn d flaw) where
  abbrev c : ChipData
  c = d.chip

  its : IsOfRegister c flaw
  its = of_register c d.layout flaw h.sound.chip h.one h.unchecked

  abbrev with_it : List Heard
  with_it = heard_by (first_world (with_flaws d (flaw ∷ [])) adapters) tasks

  abbrev without_it : List Heard
  without_it = heard_by (first_world (with_flaws d []) adapters) tasks

  quiet_with : All (Quiet c its.reg) with_it
  quiet_with =
      let sound = parts d h.sound in
      let g = flaws_of (flaw ∷ []) in
      let still = calm c d.layout (flaw ∷ []) (one_of c flaw its.reg its.register) in
      let spared = spared_with c d.layout sound.chip its.reg its.there flaw h.one (ap is_some its.register) its.passed in
      tasks_quiet c d.layout sound g still its.reg spared tasks (first_world (with_flaws d (flaw ∷ [])) adapters)
      (first_agreed d sound (flaw ∷ []) its.reg adapters still spared)

  quiet_without : All (Quiet c its.reg) without_it
  quiet_without =
      let sound = parts d h.sound in
      let still = calm c d.layout [] (none_of c) in
      let spared = spared_without c d.layout sound.chip its.reg its.there flaw its.passed in
      tasks_quiet c d.layout sound (flaws_of []) still its.reg spared tasks (first_world (with_flaws d []) adapters)
      (first_agreed d sound [] its.reg adapters still spared)

  all_the_same : all_seen with_it ≡ all_seen without_it
  all_the_same =
      seen_same c its.reg with_it without_it
      (λ q apart. own_flaws_alone d (flaw ∷ []) [] q adapters tasks h.sound (one_of c flaw its.reg its.register) (none_of c) (none_in c flaw its.reg q its.register apart))
      quiet_with quiet_without

pub shows_the_same : UncheckedShowsTheSame
shows_the_same d flaw adapters tasks h = all_the_same d flaw adapters tasks h

its_register : (k : Option ℕ) (reg : ℕ) → option_map_or (λ r. r == reg) k false ≡ true → k ≡ Some reg
its_register None reg is = absurd cc
its_register (Some r) reg is = ap Some (eqb-true r reg is)

some_is : (p q : ℕ) → Some p ≡ Some q → p ≡ q
some_is p q is = cc

pub shows_nothing : UncheckedShowsNothing
shows_nothing d flaw reg adapters tasks h register =
    let own = its d flaw adapters tasks h in
    let same : own.reg ≡ reg = some_is own.reg reg (sym own.register ∙ register) in
    All-weaker (Quiet d.chip own.reg) (ShowsNothingOf d reg)
    (λ x quiet of_it. shown x.told.event (quiet (its_register (register_of d.chip x.told.event.op) reg of_it ∙ ap Some (sym same))))
    (with_it d flaw adapters tasks h) (quiet_with d flaw adapters tasks h)

either_true : (a b : Bool) → (a || b) ≡ true → (a ≡ true) ⊎ (b ≡ true)
either_true true b h = inl refl
either_true false b h = inr h

pub never_found : HiddenIsNotFound
never_found d flaw adapters tasks h = by (either_true (is_silent d.chip d.layout flaw) (is_unchecked d.chip flaw) h.hidden)
  where
    by : (is_silent d.chip d.layout flaw ≡ true) ⊎ (is_unchecked d.chip flaw ≡ true)
        → first_find (all_seen (heard_by (first_world (without_flaws d) adapters) tasks)) (heard_by (first_world (with_flaw d flaw) adapters) tasks) ≡ None
    by (inl silent) = not_found d flaw adapters tasks (record { sound = h.sound.chip; one = h.one; silent = silent })
    by (inr unchecked) =
        let same = shows_the_same d flaw adapters tasks (record { sound = h.sound; one = h.one; unchecked = unchecked }) in
        ap (λ base. first_find base (heard_by (first_world (with_flaw d flaw) adapters) tasks)) (sym same)
        ∙ none_more (heard_by (first_world (with_flaw d flaw) adapters) tasks)

-- What the tasks show of a register depends on its own flaws alone, and so each flaw is found among others as it is alone.
use Rattle.std.proofs.Common.{◌≡◌, ◌⊎◌, inl, inr, ℕ, suc, Bool, true, false, not, ◌&&◌, ◌==◌, if◌then◌else◌, List, [], ◌∷◌, length, map, drop, replicate, Option, Some, None, option_map, is_some, refl, sym, ap, ◌∙◌, arith}
use Rattle.std.specs.Option.{option_map_or}
use Rattle.std.proofs.lemmas.Bool.{cases_eq, eq-eqb, ne_eqb}
use Rattle.std.proofs.lemmas.List.{length-map, length-replicate}
use Rattle.std.proofs.lemmas.List.Elements.{All-cons, All-nil}
use Rattle.rl_bus.specs.Standing.{Standing}
use Rattle.rl_bus.specs.State.{empty_state, first_state}
use Rattle.rl_model.specs.declared.rows.RegRow.{RegRow}
use Rattle.rl_model.specs.Rows.{ChipData}
use Rattle.rl_map.specs.Layout.{LayoutData}
use Rattle.rl_map.specs.Tables.{setup_of}
use Rattle.rl_mirror.specs.Prediction.{blank, fresh}
use Rattle.rl_access.specs.declared.event.Event.{Event}
use Rattle.rl_access.specs.Operation.{register_of}
use Rattle.rl_flaw.specs.declared.flaw.Flaw.{Flaw}
use Rattle.rl_flaw.specs.Flaws.{flaws_of, locations_of}
use Rattle.rl_desc.specs.Data.{DescData}
use Rattle.rl_session.specs.Judged.{first_world}
use Rattle.rl_grade.specs.declared.seen.Find.{Find}
use Rattle.rl_grade.specs.declared.seen.Seen.{Seen}
use Rattle.rl_grade.specs.Alike.{without_flaws}
use Rattle.rl_grade.specs.Find.{all_seen, first_find, new_in, seen_of, shows}
use Rattle.rl_grade.specs.Heard.{Heard}
use Rattle.rl_grade.specs.Job.{heard_by}
use Rattle.rl_grade.specs.Place.{with_flaw}
use Rattle.rl_grade.specs.Together.{AreOfRegisters, FoundAsAlone, OwnFlawsAlone, account_of, find_in, flaws_in, is_of_other, is_of_register, line_told, register_with, untraced, with_flaws}
use Rattle.rl_grade.proofs.Finding.{find_of, passed_on}
use Rattle.rl_grade.proofs.HiddenFlaws.{bare}
use Rattle.rl_grade.proofs.HiddenOnes.{quiet}
use Rattle.rl_grade.proofs.Related.{flawed}
use Rattle.rl_grade.proofs.TogetherAccess.{AreReset, AreSound, are_reset}
use Rattle.rl_grade.proofs.TogetherBeliefs.{HasSize, reset_size, same_belief}
use Rattle.rl_grade.proofs.TogetherCourses.{accounts}
use Rattle.rl_grade.proofs.TogetherMakeup.{SameMakeup, calm, made_same, same_makeup}
use Rattle.rl_grade.proofs.TogetherSteps.{Alike, Rests}

-- ---- first worlds

pub blank_size : (c : ChipData) → HasSize c (blank c)
blank_size c = record {
  mirrored = length-replicate (length c.regs) 0;
  desired = length-replicate (length c.regs) 0;
  spent = length-replicate (length c.fields) false;
}

fresh_size : (c : ChipData) → HasSize c (fresh c)
unfolding fresh
fresh_size c = reset_size c 0 (blank c) (blank_size c)

-- as many registers as the chip has
pub bits_held : (c : ChipData) → length (replicate {A = ℕ} (length (map (λ (r : RegRow). r.bytes) c.regs)) 0) ≡ length c.regs
bits_held c = length-replicate (length (map (λ (r : RegRow). r.bytes) c.regs)) 0 ∙ length-map c.regs (λ (r : RegRow). r.bytes)

first_reset : (c : ChipData) (l : LayoutData) (flaws others : List Flaw) (r count : ℕ)
    → SameMakeup (flawed (bare c l) (flaws_of flaws)) (flawed (bare c l) (flaws_of others)) r
    → AreReset r (empty_state (flawed (bare c l) (flaws_of flaws)) count) (empty_state (flawed (bare c l) (flaws_of others)) count)
    (first_state (setup_of c l (flaws_of flaws)) count) (first_state (setup_of c l (flaws_of others)) count)
unfolding first_state setup_of
first_reset c l flaws others r count made =
    are_reset r 0 (empty_state (flawed (bare c l) (flaws_of flaws)) count) (empty_state (flawed (bare c l) (flaws_of others)) count) made
    (record { bits = refl; marks = refl }) refl refl

pub first_rests : (d : DescData) (flaws : List Flaw) (adapters : List Standing) → Rests d.chip d.layout (flaws_of flaws) (first_world (with_flaws d flaws) adapters)
unfolding setup_of
first_rests d flaws adapters =
    let c = d.chip in
    let mine = first_reset c d.layout flaws flaws 0 (locations_of c) (same_makeup (flawed (bare c d.layout) (flaws_of flaws)) 0) in
    record {
      chip = refl;
      layout = refl;
      size = fresh_size c;
      setup = mine.setup;
      beats = mine.beats;
      bits = mine.size ∙ bits_held c;
      marks = mine.mark_size ∙ bits_held c;
    }

first_alike : (d : DescData) (flaws others : List Flaw) (r : ℕ) (adapters : List Standing)
    → SameMakeup (flawed (bare d.chip d.layout) (flaws_of flaws)) (flawed (bare d.chip d.layout) (flaws_of others)) r
    → Alike d.chip d.layout (flaws_of flaws) (flaws_of others) r (first_world (with_flaws d flaws) adapters) (first_world (with_flaws d others) adapters)
first_alike d flaws others r adapters made =
    let c = d.chip in
    let both = first_reset c d.layout flaws others r (locations_of c) made in
    record {
      rests = first_rests d flaws adapters;
      other = first_rests d others adapters;
      same = record { belief = same_belief c r (fresh c); bits = both.bits; marks = both.marks };
      locations = both.other_locations ∙ sym both.locations;
    }

-- ---- the law

pub own_flaws_alone : OwnFlawsAlone
own_flaws_alone d flaws others reg adapters tasks sound mine its same =
    let c = d.chip in
    let l = d.layout in
    let parts : AreSound c l = record { chip = sound.chip; layout = sound.layout; built = sound.built } in
    let made = made_same c l reg others flaws (sym same) in
    accounts c l parts (flaws_of others) (flaws_of flaws) (calm c l others its) (calm c l flaws mine) reg made tasks
    (first_world (with_flaws d others) adapters) (first_world (with_flaws d flaws) adapters) (first_alike d others flaws reg adapters made)

-- ---- finds

pub head_is : {A : Type 0} (x y : A) (xs ys : List A) → x ∷ xs ≡ y ∷ ys → x ≡ y
head_is x y xs ys same = cc

pub tail_is : {A : Type 0} (x y : A) (xs ys : List A) → x ∷ xs ≡ y ∷ ys → xs ≡ ys
tail_is x y xs ys same = cc

some_is : {A : Type 0} (x y : A) → Some x ≡ Some y → x ≡ y
some_is x y same = cc

pub no_value : {A : Type 0} (x : A) → Some x ≡ None → ⊥
no_value x is = cc

-- what an event shows more, or what comes of the events behind it
abbrev found_or : List Seen → ℕ → Event → Option Find → Option Find
found_or base line e rest = if shows (new_in base e) then Some (record { line = line; op = e.op; new = new_in base e }) else rest

module _ (c : ChipData) where
  abbrev paired : ℕ → Option Event → Option (ℕ × Event)
  paired line o = option_map (λ (e : Event). (line, e)) o

  pub told_is : (q : ℕ) (h : Heard) → is_of_other c q h.told.event ≡ false → line_told c q h ≡ Some (h.line, untraced h.told.event)
  told_is q h off = ap (λ b. paired h.line (if b then None else Some (untraced h.told.event))) off

  pub untold_is : (q : ℕ) (h : Heard) → is_of_other c q h.told.event ≡ true → line_told c q h ≡ None
  untold_is q h on = ap (λ b. paired h.line (if b then None else Some (untraced h.told.event))) on

  -- what is told of both is the same, where it is told of one
  pub told_both : (q : ℕ) (a b : Heard) → line_told c q a ≡ line_told c q b → is_of_other c q a.told.event ≡ false
      → (b.line ≡ a.line) × (untraced b.told.event ≡ untraced a.told.event)
  told_both q a b same off = by (is_of_other c q b.told.event) refl
    where
      by : (k : Bool) → is_of_other c q b.told.event ≡ k → (b.line ≡ a.line) × (untraced b.told.event ≡ untraced a.told.event)
      by true is = absurd (no_value (a.line, untraced a.told.event) (sym (told_is q a off) ∙ same ∙ untold_is q b is))
      by false is =
          let pair = some_is (b.line, untraced b.told.event) (a.line, untraced a.told.event) (sym (told_is q b is) ∙ sym same ∙ told_is q a off) in
          (ap (λ (p : ℕ × Event). p.0) pair, ap (λ (p : ℕ × Event). p.1) pair)

  pub untold_both : (q : ℕ) (a b : Heard) → line_told c q a ≡ line_told c q b → is_of_other c q b.told.event ≡ true → is_of_other c q a.told.event ≡ true
  untold_both q a b same on = by (is_of_other c q a.told.event) refl
    where
      by : (k : Bool) → is_of_other c q a.told.event ≡ k → k ≡ true
      by true is = refl
      by false is = absurd (no_value (a.line, untraced a.told.event) (sym (told_is q a is) ∙ same ∙ untold_is q b on))

  -- whose an event is
  pub of_none : (q : ℕ) (e : Event) → register_of c e.op ≡ None → is_of_other c q e ≡ false
  of_none q e is = ap (λ k. option_map_or (λ n. not (n == q)) k false) is

  pub of_own : (q : ℕ) (e : Event) → register_of c e.op ≡ Some q → is_of_other c q e ≡ false
  of_own q e is = ap (λ k. option_map_or (λ n. not (n == q)) k false) is ∙ ap not (eq-eqb q q refl)

  pub of_other : (p q : ℕ) (e : Event) → register_of c e.op ≡ Some p → (p ≡ q → ⊥) → is_of_other c q e ≡ true
  of_other p q e is apart = ap (λ k. option_map_or (λ n. not (n == q)) k false) is ∙ ap not (ne_eqb p q apart)

  not_its : (q : ℕ) (e : Event) → is_of_other c q e ≡ true → is_of_register c q e ≡ false
  not_its q e on = by (register_of c e.op) on
    where
      by : (k : Option ℕ) → option_map_or (λ n. not (n == q)) k false ≡ true → option_map_or (λ n. n == q) k false ≡ false
      by None h = refl
      by (Some p) h = turned (p == q) h
        where
          turned : (b : Bool) → not b ≡ true → b ≡ false
          turned true h = cc
          turned false h = refl

  none_its : (q : ℕ) (e : Event) → register_of c e.op ≡ None → is_of_register c q e ≡ false
  none_its q e is = ap (λ k. option_map_or (λ n. n == q) k false) is

  own_its : (q : ℕ) (e : Event) → register_of c e.op ≡ Some q → is_of_register c q e ≡ true
  own_its q e is = ap (λ k. option_map_or (λ n. n == q) k false) is ∙ eq-eqb q q refl

  module _ (reg : ℕ) where
    pass_in : (base : List Seen) (h : Heard) (heard : List Heard) → is_of_register c reg h.told.event ≡ false
        → find_in c reg base (h ∷ heard) ≡ find_in c reg (drop 1 base) heard
    unfolding find_in
    pass_in base h heard off =
        ap (λ b. if b && shows (new_in base h.told.event) then Some (find_of base h) else find_in c reg (drop 1 base) heard) off

    take_in : (base : List Seen) (h : Heard) (heard : List Heard) → is_of_register c reg h.told.event ≡ true
        → find_in c reg base (h ∷ heard) ≡ found_or base h.line h.told.event (find_in c reg (drop 1 base) heard)
    unfolding find_in
    take_in base h heard on =
        ap (λ b. if b && shows (new_in base h.told.event) then Some (find_of base h) else find_in c reg (drop 1 base) heard) on

    find_is : (base : List Seen) (h : Heard) (heard : List Heard)
        → first_find base (h ∷ heard) ≡ found_or base h.line h.told.event (first_find (drop 1 base) heard)
    unfolding first_find
    find_is base h heard = refl

    -- the event shows what the one of its number does
    shows_none : (y z : Heard) (seen : List Seen) → untraced z.told.event ≡ untraced y.told.event
        → shows (new_in (seen_of z.told.event ∷ seen) y.told.event) ≡ false
    shows_none y z seen same =
        ap (λ (e : Event). shows (new_in (seen_of e ∷ seen) y.told.event)) same ∙ quiet (seen_of y.told.event)

    -- one event more
    find_next : (x y z : Heard) (xs ys zs : List Heard) → line_told c reg x ≡ line_told c reg y
        → ((q : ℕ) → (q ≡ reg → ⊥) → line_told c q y ≡ line_told c q z)
        → find_in c reg (all_seen zs) xs ≡ first_find (all_seen zs) ys
        → find_in c reg (all_seen (z ∷ zs)) (x ∷ xs) ≡ first_find (all_seen (z ∷ zs)) (y ∷ ys)
    find_next x y z xs ys zs same others rest = by (register_of c y.told.event.op) refl
      where
        passes : is_of_register c reg x.told.event ≡ false → untraced z.told.event ≡ untraced y.told.event
            → find_in c reg (all_seen (z ∷ zs)) (x ∷ xs) ≡ first_find (all_seen (z ∷ zs)) (y ∷ ys)
        passes off shown = pass_in (all_seen (z ∷ zs)) x xs off ∙ rest ∙ sym (passed_on (all_seen (z ∷ zs)) y ys (shows_none y z (all_seen zs) shown))

        by : (k : Option ℕ) → register_of c y.told.event.op ≡ k → find_in c reg (all_seen (z ∷ zs)) (x ∷ xs) ≡ first_find (all_seen (z ∷ zs)) (y ∷ ys)
        by None is =
            let mine = told_both reg y x (sym same) (of_none reg y.told.event is) in
            let next : suc reg ≡ reg → ⊥ = λ at. omega (arith, at) in
            let its = told_both (suc reg) y z (others (suc reg) next) (of_none (suc reg) y.told.event is) in
            passes (none_its reg x.told.event (ap (λ (e : Event). register_of c e.op) mine.1 ∙ is)) its.1
        by (Some q) is = by_reg (cases_eq q reg)
          where
            by_reg : (q ≡ reg) ⊎ (q ≡ reg → ⊥) → find_in c reg (all_seen (z ∷ zs)) (x ∷ xs) ≡ first_find (all_seen (z ∷ zs)) (y ∷ ys)
            by_reg (inl at) =
                let own : register_of c y.told.event.op ≡ Some reg = is ∙ ap Some at in
                let mine = told_both reg y x (sym same) (of_own reg y.told.event own) in
                take_in (all_seen (z ∷ zs)) x xs (own_its reg x.told.event (ap (λ (e : Event). register_of c e.op) mine.1 ∙ own))
                ∙ ap (λ n. found_or (all_seen (z ∷ zs)) n (untraced x.told.event) (find_in c reg (drop 1 (all_seen (z ∷ zs))) xs)) mine.0
                ∙ ap (λ (e : Event). found_or (all_seen (z ∷ zs)) y.line e (find_in c reg (drop 1 (all_seen (z ∷ zs))) xs)) mine.1
                ∙ ap (found_or (all_seen (z ∷ zs)) y.line y.told.event) rest
                ∙ sym (find_is (all_seen (z ∷ zs)) y ys)
            by_reg (inr apart) =
                let its = told_both q y z (others q apart) (of_own q y.told.event is) in
                passes (not_its reg x.told.event (untold_both reg x y same (of_other q reg y.told.event is apart))) its.1

    abbrev Others : List Heard → List Heard → Type 0
    Others ys zs = (q : ℕ) → (q ≡ reg → ⊥) → account_of c q ys ≡ account_of c q zs

    find_same : (xs ys zs : List Heard) → account_of c reg xs ≡ account_of c reg ys → Others ys zs
        → find_in c reg (all_seen zs) xs ≡ first_find (all_seen zs) ys
    unfolding find_in first_find
    find_same [] [] zs same others = refl
    find_same [] (y ∷ ys) zs same others = absurd cc
    find_same (x ∷ xs) [] zs same others = absurd cc
    find_same (x ∷ xs) (y ∷ ys) [] same others =
        let none : account_of c (suc reg) (y ∷ ys) ≡ [] = others (suc reg) (λ is. omega (arith, is)) in absurd cc
    find_same (x ∷ xs) (y ∷ ys) (z ∷ zs) same others =
        find_next x y z xs ys zs (head_is _ _ _ _ same) (λ q apart. head_is _ _ _ _ (others q apart))
        (find_same xs ys zs (tail_is _ _ _ _ same) (λ q apart. tail_is _ _ _ _ (others q apart)))

-- ---- one flaw among others

alone_in : (c : ChipData) (flaw : Flaw) (reg : ℕ) → register_with c flaw ≡ Some reg → flaws_in c reg (flaw ∷ []) ≡ flaw ∷ []
alone_in c flaw reg is =
    ap (λ o. if option_map_or (λ r. r == reg) o false then flaw ∷ [] else []) is ∙ ap (λ b. if b then flaw ∷ [] else []) (eq-eqb reg reg refl)

pub none_in : (c : ChipData) (flaw : Flaw) (reg q : ℕ) → register_with c flaw ≡ Some reg → (q ≡ reg → ⊥) → flaws_in c q (flaw ∷ []) ≡ []
none_in c flaw reg q is apart =
    ap (λ o. if option_map_or (λ r. r == q) o false then flaw ∷ [] else []) is
    ∙ ap (λ b. if b then flaw ∷ [] else []) (ne_eqb reg q (λ at. apart (sym at)))

pub found_as_alone : FoundAsAlone
found_as_alone d flaws reg flaw adapters tasks sound each one =
    let c = d.chip in
    let lone : AreOfRegisters c (flaw ∷ []) =
    All-cons (λ x. is_some (register_with c x) ≡ true) flaw [] (ap is_some one.register) (All-nil (λ x. is_some (register_with c x) ≡ true)) in
    let none : AreOfRegisters c [] = All-nil (λ x. is_some (register_with c x) ≡ true) in
    find_same c reg (heard_by (first_world (with_flaws d flaws) adapters) tasks) (heard_by (first_world (with_flaw d flaw) adapters) tasks)
    (heard_by (first_world (without_flaws d) adapters) tasks)
    (own_flaws_alone d flaws (flaw ∷ []) reg adapters tasks sound each lone (one.alone ∙ sym (alone_in c flaw reg one.register)))
    (λ q apart. own_flaws_alone d (flaw ∷ []) [] q adapters tasks sound lone none (none_in c flaw reg q one.register apart))

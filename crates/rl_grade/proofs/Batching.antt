-- Of each register one flaw at most: those that are chosen, and the answers that a run with them brings.
use Rattle.std.proofs.Common.{◌≡◌, ◌⊎◌, inl, inr, ℕ, zero, suc, ◌+◌, ◌<◌, ◌≤◌, Bool, true, false, ◌==◌, if◌then◌else◌, List, [], ◌∷◌, ◌++◌, length, map, drop, All, Option, Some, None, option_map, IfSome, is_some, refl, sym, ap, subst, ◌∙◌, arith}
use Rattle.std.specs.Prelude.{filter, slice_index_or, slice_set}
use Rattle.std.specs.List.{filter_map}
use Rattle.std.specs.Option.{option_map_or, option_or}
use Rattle.std.proofs.lemmas.Bool.{cases_eq, cases_lt, eq-eqb, ne_eqb}
use Rattle.std.proofs.lemmas.List.{append_assoc, get_or-set_other, get_or-set_same, get_or_default, get_or_past, length-set}
use Rattle.std.proofs.lemmas.List.Elements.{All-cons, All-head, All-nil, All-tail, filter_map-append}
use Rattle.rl_flaw.specs.declared.flaw.Flaw.{Flaw}
use Rattle.rl_flaw.specs.declared.flaw.Flaw.TheVariants.{Deaf, ErrorNth, ErrorRange, OtherPolicy, OtherReset, Stuck}
use Rattle.rl_flaw.specs.Flaws.{IsFlawOf}
use Rattle.rl_desc.specs.Data.{DescData}
use Rattle.rl_map.specs.Layout.{LayoutData}
use Rattle.rl_model.specs.Rows.{ChipData}
use Rattle.rl_session.specs.Judged.{first_world}
use Rattle.rl_grade.specs.declared.grade.Graded.{Graded}
use Rattle.rl_grade.specs.declared.job.Task.{Task}
use Rattle.rl_grade.specs.declared.seen.Find.{Find}
use Rattle.rl_grade.specs.declared.seen.Seen.{Seen}
use Rattle.rl_grade.specs.Adapters.{fresh_standings}
use Rattle.rl_grade.specs.Batch.{AreChosen, AreFound, AreKnown, IsChosen, IsShown, chosen_flaws, flaw_at, with_answer, with_answers}
use Rattle.rl_grade.specs.Find.{first_find}
use Rattle.rl_grade.specs.Hidden.{IsThere}
use Rattle.rl_grade.specs.Job.{heard_by}
use Rattle.rl_grade.specs.Place.{with_flaw}
use Rattle.rl_grade.specs.Share.{graded_by}
use Rattle.rl_grade.specs.Sorted.{AreSorted, IsBlank, kept_first}
use Rattle.rl_grade.specs.Together.{AreOfRegisters, IsSoundDesc, find_in, flaws_in, is_flaw_in, register_with, with_flaws}
use Rattle.rl_grade.proofs.Sorting.{kept_here, kept_past, kept_size, kept_there}
use Rattle.rl_grade.proofs.TogetherFinds.{found_as_alone}

abbrev at_place : {A : Type 0} → List (Option A) → ℕ → Option A
at_place table n = slice_index_or table n None

-- ---- what a flaw names is there

pub is_there : (c : ChipData) (l : LayoutData) (flaw : Flaw) → IsFlawOf c l flaw → IsThere c flaw
is_there c l (OtherPolicy f p) h = h
is_there c l (OtherReset f k v) h = h.0
is_there c l (Stuck f b v) h = h.0
is_there c l (ErrorRange p from to) h = tt
is_there c l (ErrorNth n) h = tt
is_there c l (Deaf i) h = h

pub are_there : (c : ChipData) (l : LayoutData) (flaws : List Flaw) → All (IsFlawOf c l) flaws → All (IsThere c) flaws
are_there c l flaws each = λ k d low. is_there c l _ (each k d low)

-- ---- the choice

pub none_chosen : (c : ChipData) (flaws : List Flaw) (table : List (Option ℕ)) → IsBlank (length c.regs) table → AreChosen c flaws table
none_chosen c flaws table blank = record {
  size = blank.size_is;
  each = λ reg number is. absurd (no_value number (sym is ∙ blank.none reg));
}
  where
    no_value : (x : ℕ) → Some x ≡ None → ⊥
    no_value x is = cc

some_is : {A : Type 0} (x y : A) → Some x ≡ Some y → x ≡ y
some_is x y same = cc

module _ (c : ChipData) (flaws : List Flaw) where
  chosen_here : (n : ℕ) (old : Option ℕ) (reg number : ℕ) → n < length flaws → register_with c (flaw_at flaws n) ≡ Some reg
      → ((k : ℕ) → old ≡ Some k → IsChosen c flaws reg k) → option_or old (Some n) ≡ Some number → IsChosen c flaws reg number
  chosen_here n None reg number inside own earlier is =
      subst (IsChosen c flaws reg) (some_is n number is) (record { inside = inside; register = own })
  chosen_here n (Some k) reg number inside own earlier is = subst (IsChosen c flaws reg) (some_is k number is) (earlier k refl)

  pub chosen_more : (n : ℕ) (o : Option ℕ) (table new : List (Option ℕ)) → AreChosen c flaws table → o ≡ register_with c (flaw_at flaws n)
      → n < length flaws → new ≡ kept_first o (Some n) table → AreChosen c flaws new
  chosen_more n o table new h own inside is = record {
    size = ap length is ∙ kept_size o (Some n) table ∙ h.size;
    each = λ reg number at. by o own reg number (ap (λ xs. at_place xs reg) (sym is) ∙ at);
  }
    where
      by : (o : Option ℕ) → o ≡ register_with c (flaw_at flaws n) → (reg number : ℕ) → at_place (kept_first o (Some n) table) reg ≡ Some number
          → IsChosen c flaws reg number
      by None own reg number at = h.each reg number at
      by (Some r) own reg number at = by_reg (cases_eq reg r) (cases_lt r (length table))
        where
          by_reg : (reg ≡ r) ⊎ (reg ≡ r → ⊥) → (r < length table) ⊎ (length table ≤ r) → IsChosen c flaws reg number
          by_reg (inr other) side = h.each reg number (sym (kept_there r reg (Some n) table other) ∙ at)
          by_reg (inl same) (inr past) = h.each reg number (sym (ap (λ xs. at_place xs reg) (kept_past table r (Some n) past)) ∙ at)
          by_reg (inl same) (inl low) =
              chosen_here n (at_place table reg) reg number inside (sym own ∙ ap Some (sym same)) (λ k k_is. h.each reg k k_is)
              (ap (λ q. option_or (at_place table q) (Some n)) same ∙ sym (kept_here r (Some n) table low)
              ∙ ap (at_place (kept_first (Some r) (Some n) table)) (sym same) ∙ at)

  -- they stand in the list
  pub all_inside : (chosen : List (Option ℕ)) → AreChosen c flaws chosen → All (λ o. IfSome o (λ n. n < length flaws)) chosen
  all_inside chosen h = λ reg d low. by (slice_index_or chosen reg d) (λ n is. (h.each reg n (get_or_default chosen reg None d low ∙ is)).inside)
    where
      by : (o : Option ℕ) → ((n : ℕ) → o ≡ Some n → n < length flaws) → IfSome o (λ n. n < length flaws)
      by None each = tt
      by (Some n) each = each n refl

-- ---- the flaws that are chosen

no_value : {A : Type 0} (x : A) → None ≡ Some x → ⊥
no_value x is = cc

module _ (c : ChipData) (flaws : List Flaw) where
  abbrev picked : List (Option ℕ) → List Flaw
  picked chosen = chosen_flaws flaws chosen

  -- each is of the register of its place, counted from this one on
  abbrev AreFrom : (from : ℕ) → List (Option ℕ) → Type 0
  AreFrom from chosen = (k number : ℕ) → at_place chosen k ≡ Some number → register_with c (flaw_at flaws number) ≡ Some (from + k)

  from_next : (from : ℕ) (o : Option ℕ) (chosen : List (Option ℕ)) → AreFrom from (o ∷ chosen) → AreFrom (from + 1) chosen
  from_next from o chosen h = λ k number is. let same : from + suc k ≡ from + 1 + k = omega arith in h (suc k) number is ∙ ap Some same

  is_in : (reg r : ℕ) (flaw : Flaw) → register_with c flaw ≡ Some r → is_flaw_in c reg flaw ≡ (r == reg)
  is_in reg r flaw is = ap (λ o. option_map_or (λ n. n == reg) o false) is

  -- of a lower register there is none
  none_before : (from reg : ℕ) (chosen : List (Option ℕ)) → AreFrom from chosen → reg < from → flaws_in c reg (picked chosen) ≡ []
  none_before from reg [] h low = refl
  none_before from reg (None ∷ chosen) h low = none_before (from + 1) reg chosen (from_next from None chosen h) (omega (arith, low))
  none_before from reg (Some n ∷ chosen) h low =
      let flaw = flaw_at flaws n in
      let apart : from + 0 ≡ reg → ⊥ = λ is. omega (arith, is, low) in
      ap (λ b. if b then flaw ∷ flaws_in c reg (picked chosen) else flaws_in c reg (picked chosen))
      (is_in reg (from + 0) flaw (h 0 n refl) ∙ ne_eqb (from + 0) reg apart)
      ∙ none_before (from + 1) reg chosen (from_next from (Some n) chosen h) (omega (arith, low))

  one_at : (from reg j number : ℕ) (chosen : List (Option ℕ)) → AreFrom from chosen → at_place chosen j ≡ Some number → reg ≡ from + j
      → flaws_in c reg (picked chosen) ≡ flaw_at flaws number ∷ []
  one_at from reg j number [] h at is = absurd (no_value number at)
  one_at from reg zero number (None ∷ chosen) h at is = absurd (no_value number at)
  one_at from reg zero number (Some n ∷ chosen) h at is =
      let flaw = flaw_at flaws n in
      ap (λ b. if b then flaw ∷ flaws_in c reg (picked chosen) else flaws_in c reg (picked chosen))
      (is_in reg (from + 0) flaw (h 0 n refl) ∙ eq-eqb (from + 0) reg (sym is))
      ∙ ap (λ rest. flaw ∷ rest) (none_before (from + 1) reg chosen (from_next from (Some n) chosen h) (omega (arith, is)))
      ∙ ap (λ k. flaw_at flaws k ∷ []) (some_is n number at)
  one_at from reg (suc j) number (None ∷ chosen) h at is =
      one_at (from + 1) reg j number chosen (from_next from None chosen h) at (omega (arith, is))
  one_at from reg (suc j) number (Some n ∷ chosen) h at is =
      let flaw = flaw_at flaws n in
      let apart : from + 0 ≡ reg → ⊥ = λ same. omega (arith, same, is) in
      ap (λ b. if b then flaw ∷ flaws_in c reg (picked chosen) else flaws_in c reg (picked chosen))
      (is_in reg (from + 0) flaw (h 0 n refl) ∙ ne_eqb (from + 0) reg apart)
      ∙ one_at (from + 1) reg j number chosen (from_next from (Some n) chosen h) at (omega (arith, is))

  all_registers : (from : ℕ) (chosen : List (Option ℕ)) → AreFrom from chosen → AreOfRegisters c (picked chosen)
  all_registers from [] h = All-nil (λ x. is_some (register_with c x) ≡ true)
  all_registers from (None ∷ chosen) h = all_registers (from + 1) chosen (from_next from None chosen h)
  all_registers from (Some n ∷ chosen) h =
      All-cons (λ x. is_some (register_with c x) ≡ true) (flaw_at flaws n) (picked chosen) (ap is_some (h 0 n refl))
      (all_registers (from + 1) chosen (from_next from (Some n) chosen h))

  from_first : (chosen : List (Option ℕ)) → AreChosen c flaws chosen → AreFrom 0 chosen
  from_first chosen h = λ k number is. let same : k ≡ 0 + k = omega arith in (h.each k number is).register ∙ ap Some same

  pub chosen_registers : (chosen : List (Option ℕ)) → AreChosen c flaws chosen → AreOfRegisters c (picked chosen)
  chosen_registers chosen h = all_registers 0 chosen (from_first chosen h)

  pub chosen_alone : (chosen : List (Option ℕ)) (reg number : ℕ) → AreChosen c flaws chosen → at_place chosen reg ≡ Some number
      → flaws_in c reg (picked chosen) ≡ flaw_at flaws number ∷ []
  chosen_alone chosen reg number h at = one_at 0 reg reg number chosen (from_first chosen h) at (omega arith)

  pub chosen_low : (chosen : List (Option ℕ)) (reg number : ℕ) → AreChosen c flaws chosen → at_place chosen reg ≡ Some number → reg < length c.regs
  chosen_low chosen reg number h at = by (cases_lt reg (length chosen))
    where
      by : (reg < length chosen) ⊎ (length chosen ≤ reg) → reg < length c.regs
      by (inl low) = subst (λ n. reg < n) h.size low
      by (inr past) = absurd (no_value number (sym (get_or_past chosen reg None past) ∙ at))

  abbrev Inside : Option ℕ → Type 0
  Inside o = IfSome o (λ n. n < length flaws)

  pub chosen_are : (l : LayoutData) (chosen : List (Option ℕ)) → All (IsFlawOf c l) flaws → All Inside chosen
      → All (IsFlawOf c l) (picked chosen)
  chosen_are l [] each inside = All-nil (IsFlawOf c l)
  chosen_are l (o ∷ chosen) each inside =
      by o (chosen_are l chosen each (All-tail Inside o chosen inside)) (All-head Inside o chosen inside)
    where
      by : (o : Option ℕ) → All (IsFlawOf c l) (picked chosen) → Inside o → All (IsFlawOf c l) (picked (o ∷ chosen))
      by None rest low = rest
      by (Some n) rest low = All-cons (IsFlawOf c l) (flaw_at flaws n) (picked chosen) (each n (ErrorNth 0) low) rest

-- ---- what a run with them finds

pub are_found : (d : DescData) (tasks : List Task) (shown : List Seen) (flaws : List Flaw) (chosen : List (Option ℕ)) (found : List (Option Find))
    → IsSoundDesc d → AreChosen d.chip flaws chosen → IsShown d tasks shown
    → AreSorted d.chip (length d.chip.regs) shown (heard_by (first_world (with_flaws d (chosen_flaws flaws chosen)) fresh_standings) tasks) found
    → AreFound d tasks shown flaws chosen found
are_found d tasks shown flaws chosen found sound choice is_shown sorted = λ reg number at.
    let c = d.chip in
    let batch = chosen_flaws flaws chosen in
    let flaw = flaw_at flaws number in
    sorted.each reg (chosen_low c flaws chosen reg number choice at)
    ∙ ap (λ s. find_in c reg s (heard_by (first_world (with_flaws d batch) fresh_standings) tasks)) is_shown
    ∙ found_as_alone d batch reg flaw fresh_standings tasks sound (chosen_registers c flaws chosen choice)
    (record { register = (choice.each reg number at).register; alone = chosen_alone c flaws chosen reg number choice at })
    ∙ sym (ap (λ s. first_find s (heard_by (first_world (with_flaw d flaw) fresh_standings) tasks)) is_shown)

-- ---- answers that are known

module _ (d : DescData) (tasks : List Task) (shown : List Seen) (flaws : List Flaw) where
  abbrev answer : ℕ → Graded
  answer number = graded_by d tasks shown (flaw_at flaws number)

  abbrev Known : List (Option Graded) → Type 0
  Known known = AreKnown d tasks shown flaws known

  pub none_known : (known : List (Option Graded)) → IsBlank (length flaws) known → Known known
  none_known known blank = record {
    size = blank.size_is;
    each = λ number it is. absurd (no_value it (sym (blank.none number) ∙ is));
  }

  abbrev given : ℕ → Option Find → Graded
  given n found = record { flaw = flaw_at flaws n; found = found }

  known_one : (n : ℕ) (found : Option Find) (known : List (Option Graded)) → Known known → n < length flaws → found ≡ (answer n).found
      → Known (with_answer flaws (Some n) found known)
  known_one n found known h inside is = record {
    size = length-set known n _ ∙ h.size;
    each = λ number it at. by number it at (cases_eq number n);
  }
    where
      by : (number : ℕ) (it : Graded) → at_place (slice_set known n (Some (given n found))) number ≡ Some it → (number ≡ n) ⊎ (number ≡ n → ⊥) → it ≡ answer number
      by number it at (inr other) = h.each number it (sym (get_or-set_other known n number (Some (given n found)) None other) ∙ at)
      by number it at (inl same) =
          let low : n < length known = subst (λ k. n < k) (sym h.size) inside in
          let now : at_place (slice_set known n (Some (given n found))) number ≡ Some (given n found) =
          ap (at_place (slice_set known n (Some (given n found)))) same ∙ get_or-set_same known n (Some (given n found)) None low in
          some_is it (given n found) (sym at ∙ now) ∙ ap (given n) is ∙ ap answer (sym same)

  dropped : (found : List (Option Find)) (k : ℕ) → at_place (drop 1 found) k ≡ at_place found (suc k)
  dropped [] k = refl
  dropped (x ∷ found) k = refl

  abbrev Brings : List (Option ℕ) → List (Option Find) → Type 0
  Brings chosen found = (k number : ℕ) → at_place chosen k ≡ Some number → (number < length flaws) × (at_place found k ≡ (answer number).found)

  known_by : (o : Option ℕ) (found : Option Find) (known : List (Option Graded)) → Known known
      → ((number : ℕ) → o ≡ Some number → (number < length flaws) × (found ≡ (answer number).found)) → Known (with_answer flaws o found known)
  known_by None found known h each = h
  known_by (Some n) found known h each = known_one n found known h (each n refl).0 (each n refl).1

  known_all : (chosen : List (Option ℕ)) (found : List (Option Find)) (known : List (Option Graded)) → Known known → Brings chosen found
      → Known (with_answers flaws chosen found known)
  unfolding with_answers
  known_all [] found known h each = h
  known_all (o ∷ chosen) found known h each =
      known_all chosen (drop 1 found) (with_answer flaws o (at_place found 0) known) (known_by o (at_place found 0) known h (λ number is. each 0 number is))
      (λ k number is. let both = each (suc k) number is in (both.0, dropped found k ∙ both.1))

  pub known_more : (chosen : List (Option ℕ)) (found : List (Option Find)) (known new : List (Option Graded)) → Known known → AreChosen d.chip flaws chosen
      → AreFound d tasks shown flaws chosen found → new ≡ with_answers flaws chosen found known → Known new
  known_more chosen found known new h choice brings is =
      subst Known (sym is) (known_all chosen found known h (λ k number at. ((choice.each k number at).inside, brings k number at)))

-- ---- loops

pub picked_next : (flaws batch new : List Flaw) (o : Option ℕ) (left rest all : List (Option ℕ)) → left ≡ o ∷ rest
    → new ≡ batch ++ chosen_flaws flaws (o ∷ []) → batch ++ chosen_flaws flaws left ≡ chosen_flaws flaws all
    → new ++ chosen_flaws flaws rest ≡ chosen_flaws flaws all
picked_next flaws batch new o left rest all is grown before =
    ap (λ xs. xs ++ chosen_flaws flaws rest) grown ∙ append_assoc batch (chosen_flaws flaws (o ∷ [])) (chosen_flaws flaws rest)
    ∙ ap (λ xs. batch ++ xs) (sym (filter_map-append (option_map (flaw_at flaws)) (o ∷ []) rest))
    ∙ ap (λ xs. batch ++ chosen_flaws flaws xs) (sym is) ∙ before

pub answers_next : (flaws : List Flaw) (o : Option ℕ) (found : Option Find) (left rest : List (Option ℕ)) (finds more : List (Option Find))
    (known new total : List (Option Graded)) → left ≡ o ∷ rest → at_place finds 0 ≡ found → drop 1 finds ≡ more → new ≡ with_answer flaws o found known
    → with_answers flaws left finds known ≡ total → with_answers flaws rest more new ≡ total
unfolding with_answers
answers_next flaws o found left rest finds more known new total is here behind grown before =
    ap (with_answers flaws rest more) (grown ∙ ap (λ f. with_answer flaws o f known) (sym here))
    ∙ ap (λ fs. with_answers flaws rest fs (with_answer flaws o (at_place finds 0) known)) (sym behind)
    ∙ ap (λ xs. with_answers flaws xs finds known) (sym is) ∙ before

pub answers_end : (flaws : List Flaw) (left : List (Option ℕ)) (finds : List (Option Find)) (known total : List (Option Graded)) → left ≡ []
    → with_answers flaws left finds known ≡ total → known ≡ total
unfolding with_answers
answers_end flaws left finds known total none last = sym (ap (λ xs. with_answers flaws xs finds known) none) ∙ last

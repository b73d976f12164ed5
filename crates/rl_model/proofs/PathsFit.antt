-- The paths of a chip differ, and each stands at the top or in a block or file.
use Rattle.std.proofs.Common.{◌≡◌, ◌⊎◌, ℕ, zero, suc, ◌+◌, ◌<◌, ◌≤◌, true, false, not, nat_lt, nat_le, List, [], ◌∷◌, ◌++◌, length, length-append}
use Rattle.std.proofs.Common.{append_assoc, map, take, slice_get, Option, Some, None, refl, sym, ap, subst, ◌∙◌, inl, inr, arith, bytes_eq}
use Rattle.std.proofs.lemmas.Bool.{cases_Bool, false≢true}
use Rattle.std.proofs.lemmas.Bool.Decides.{nat_tests}
use Rattle.std.proofs.lemmas.Slice.Eq.{bytes_eq-Decides}
use Rattle.std.proofs.lemmas.Option.{none-some, same_Some, slice_get_within}
use Rattle.std.proofs.lemmas.List.{append-nil, length-map}
use Rattle.rl_model.specs.declared.fault.Array.{Array}
use Rattle.rl_model.specs.declared.fault.Array.TheVariants as array
use Rattle.rl_model.specs.declared.fault.Spot.{Spot}
use Rattle.rl_model.specs.declared.fault.ModelCause.TheVariants.{TooMany, BadName, NoSuchParent, TooDeep, DuplicateName}
use Rattle.rl_model.specs.declared.parts.ScopePart.{ScopePart}
use Rattle.rl_model.specs.declared.parts.MemPart.{MemPart}
use Rattle.rl_model.specs.Data.{RegData}
use Rattle.rl_model.specs.Paths.{is_among, AllDiffer}
use Rattle.rl_model.specs.Rules.{Check, is_name, path_of, names_in, has_parent, path_fault, row_of, scope_path, scopes_fault, reg_path, regs_fault, kinds_after, mem_path, mems_fault}
use Rattle.rl_model.proofs.SoundLemmas.{passed, both_None, get-front, get-back, none_at}

-- ---- texts that differ

-- at the end of a longer list stands the new text
at_end : (ts : List (List ℕ)) (t u : List ℕ) (i : ℕ) → slice_get (ts ++ t ∷ []) i ≡ Some u → nat_lt i (length ts) ≡ false → (i ≡ length ts) × (t ≡ u)
at_end ts t u i at high =
    let lt : i < length (ts ++ t ∷ []) = slice_get_within (ts ++ t ∷ []) i u at in
    let count : length (ts ++ t ∷ []) ≡ length ts + 1 = length-append ts (t ∷ []) in
    let here : i ≡ length ts = grind (arith, nat_tests) in
    (here, same_Some t u (sym (get-back ts (t ∷ []) i 0 (omega arith)) ∙ at))

before : (ts : List (List ℕ)) (t u : List ℕ) (i : ℕ) → slice_get (ts ++ t ∷ []) i ≡ Some u → nat_lt i (length ts) ≡ true → slice_get ts i ≡ Some u
before ts t u i at low =
    let lt : i < length ts = grind (arith, nat_tests) in
    sym (get-front ts (t ∷ []) i lt) ∙ at

clash : (ts : List (List ℕ)) (t : List ℕ) (i : ℕ) → is_among t ts ≡ false → slice_get ts i ≡ Some t → ⊥
clash ts t i new at = false≢true (sym (none_at (bytes_eq t) ts i t new at) ∙ (bytes_eq-Decides t t).1 refl)

pub differ-push : (ts : List (List ℕ)) (t : List ℕ) → AllDiffer ts → is_among t ts ≡ false → AllDiffer (ts ++ t ∷ [])
differ-push ts t differ new i j u at_i at_j =
    elim (cases_Bool (nat_lt i (length ts))) [
      | inl low_i ↦
          elim (cases_Bool (nat_lt j (length ts))) [
            | inl low_j ↦ differ i j u (before ts t u i at_i low_i) (before ts t u j at_j low_j)
            | inr high_j ↦
                let (_, is) = at_end ts t u j at_j high_j in
                absurd (clash ts t i new (before ts t u i at_i low_i ∙ ap (λ (l : List ℕ). Some l) (sym is)))
          ]
      | inr high_i ↦
          elim (cases_Bool (nat_lt j (length ts))) [
            | inl low_j ↦
                let (_, is) = at_end ts t u i at_i high_i in
                absurd (clash ts t j new (before ts t u j at_j low_j ∙ ap (λ (l : List ℕ). Some l) (sym is)))
            | inr high_j ↦ (at_end ts t u i at_i high_i).0 ∙ sym (at_end ts t u j at_j high_j).0
          ]
    ]

-- ---- where a path stands

-- the path is a name after the path of one of the scopes
pub record HasFront (scopes : ℕ) (paths : List (List ℕ)) (p : List ℕ) : Type 0 where
  pub scope : ℕ
  pub front : List ℕ
  pub name : List ℕ
  pub within : scope < scopes
  pub at : slice_get paths scope ≡ Some front
  pub named : is_name name ≡ true
  pub joined : p ≡ front ++ 46 ∷ name

abbrev pub Stands : ℕ → List (List ℕ) → List ℕ → Type 0
Stands scopes paths p = (is_name p ≡ true) ⊎ HasFront scopes paths p

pub record PathsFit (scopes : ℕ) (paths : List (List ℕ)) : Type 0 where
  pub differ : AllDiffer paths
  pub stand : (i : ℕ) (p : List ℕ) → slice_get paths i ≡ Some p → Stands scopes paths p
  pub deep : (i : ℕ) (p : List ℕ) → slice_get paths i ≡ Some p → names_in p ≤ 8

pub no_paths : (scopes : ℕ) → PathsFit scopes []
no_paths scopes = record {
  differ = λ i j t at_i at_j. absurd (none-some t at_i);
  stand = λ i p at. absurd (none-some p at);
  deep = λ i p at. absurd (none-some p at);
}

stands_on : (scopes : ℕ) (paths : List (List ℕ)) (t p : List ℕ) → Stands scopes paths p → Stands scopes (paths ++ t ∷ []) p
stands_on scopes paths t p (inl top) = inl top
stands_on scopes paths t p (inr h) =
    inr
    record {
      scope = h.scope;
      front = h.front;
      name = h.name;
      within = h.within;
      at = get-front paths (t ∷ []) h.scope (slice_get_within paths h.scope h.front h.at) ∙ h.at;
      named = h.named;
      joined = h.joined;
    }

-- ---- a path that passes

pub record PathPasses (parents : ℕ) (paths : List (List ℕ)) (of : Option (List ℕ)) (name : List ℕ) : Type 0 where
  pub named : is_name name ≡ true
  pub parent : has_parent parents paths of ≡ true
  pub deep : names_in (path_of of name) ≤ 8
  pub new : is_among (path_of of name) paths ≡ false

path_passes : (spot : Spot) (limit parents : ℕ) (paths : List (List ℕ)) (of : Option (List ℕ)) (name : List ℕ) → path_fault spot limit parents paths of name ≡ None → PathPasses parents paths of name
path_passes spot limit parents paths of name h =
    let checks : List Check =
    (nat_le limit spot.row, TooMany) ∷ (not (is_name name), BadName) ∷ (not (has_parent parents paths of), NoSuchParent)
    ∷ (nat_lt 8 (names_in (path_of of name)), TooDeep) ∷ (is_among (path_of of name) paths, DuplicateName) ∷ [] in
    let named : not (is_name name) ≡ false = passed spot checks h 1 _ refl in
    let parent : not (has_parent parents paths of) ≡ false = passed spot checks h 2 _ refl in
    let deep : nat_lt 8 (names_in (path_of of name)) ≡ false = passed spot checks h 3 _ refl in
    record {
      named = grind (arith, nat_tests);
      parent = grind (arith, nat_tests);
      deep = grind (arith, nat_tests);
      new = passed spot checks h 4 _ refl;
    }

pub among_take : (n : ℕ) (ts : List (List ℕ)) (t : List ℕ) → is_among t (take n ts) ≡ true → (s : ℕ) × (s < n) × (slice_get ts s ≡ Some t)
among_take zero ts t h = absurd (let no : ⊥ = cc in no)
among_take (suc n) [] t h = absurd (let no : ⊥ = cc in no)
among_take (suc n) (u ∷ us) t h =
    elim (cases_Bool (bytes_eq t u)) [
      | inl here ↦ (0, (let pos : 0 < suc n = omega arith in pos), ap (λ (l : List ℕ). Some l) (sym ((bytes_eq-Decides t u).0 here)))
      | inr later ↦
          let (s, lt, at) = among_take n us t (rw later at h) in
          (suc s, (let next : suc s < suc n = omega arith in next), at)
    ]

new_stands : (scopes parents : ℕ) (paths : List (List ℕ)) (of : Option (List ℕ)) (name : List ℕ) → PathPasses parents paths of name → parents ≤ scopes → Stands scopes paths (path_of of name)
new_stands scopes parents paths None name h few = inl h.named
new_stands scopes parents paths (Some front) name h few =
    let (s, lt, at) = among_take parents paths front h.parent in
    inr record { scope = s; front = front; name = name; within = omega arith; at = at; named = h.named; joined = refl }

pub fit-push : (scopes parents : ℕ) (paths : List (List ℕ)) (of : Option (List ℕ)) (name : List ℕ) → PathsFit scopes paths → PathPasses parents paths of name → parents ≤ scopes
    → PathsFit scopes (paths ++ path_of of name ∷ [])
fit-push scopes parents paths of name fit h few =
    let t = path_of of name in record {
      differ = differ-push paths t fit.differ h.new;
      stand = λ i p at.
          elim (cases_Bool (nat_lt i (length paths))) [
            | inl low ↦ stands_on scopes paths t p (fit.stand i p (before paths t p i at low))
            | inr high ↦
                let P : List ℕ → Type 0 = Stands scopes (paths ++ t ∷ []) in
                subst P (at_end paths t p i at high).1 (stands_on scopes paths t t (new_stands scopes parents paths of name h few))
          ];
      deep = λ i p at.
          elim (cases_Bool (nat_lt i (length paths))) [
            | inl low ↦ fit.deep i p (before paths t p i at low)
            | inr high ↦
                let P : List ℕ → Type 0 = λ q. names_in q ≤ 8 in
                subst P (at_end paths t p i at high).1 h.deep
          ];
    }

-- ---- all paths

joined_on : (scopes : ℕ) (paths : List (List ℕ)) (t : List ℕ) (more : List (List ℕ)) → PathsFit scopes ((paths ++ t ∷ []) ++ more) → PathsFit scopes (paths ++ t ∷ more)
joined_on scopes paths t more fit =
    let P : List (List ℕ) → Type 0 = PathsFit scopes in
    subst P (append_assoc paths (t ∷ []) more) fit

none_on : (scopes : ℕ) (paths : List (List ℕ)) → PathsFit scopes paths → PathsFit scopes (paths ++ [])
none_on scopes paths fit =
    let P : List (List ℕ) → Type 0 = PathsFit scopes in
    subst P (sym (append-nil paths)) fit

pub scopes_fit : (scopes : ℕ) (a : Array) (i : ℕ) (paths : List (List ℕ)) (ps : List ScopePart) → scopes_fault a i paths ps ≡ None → length paths + length ps ≤ scopes → PathsFit scopes paths
    → PathsFit scopes (paths ++ map scope_path ps)
scopes_fit scopes a i paths [] h few fit = none_on scopes paths fit
scopes_fit scopes a i paths (p ∷ ps) h few fit =
    let step = both_None _ _ h in
    let passes = path_passes (row_of a i) 256 (length paths) paths p.of p.name step.0 in
    let next = fit-push scopes (length paths) paths p.of p.name fit passes (omega arith) in
    joined_on scopes paths (scope_path p) (map scope_path ps)
    (scopes_fit scopes a (i + 1) (paths ++ scope_path p ∷ []) ps step.1 (omega (arith, length-append paths (scope_path p ∷ []))) next)

pub regs_fit : (scopes i : ℕ) (paths kinds : List (List ℕ)) (rs : List RegData) → regs_fault i scopes paths kinds rs ≡ None → PathsFit scopes paths → PathsFit scopes (paths ++ map reg_path rs)
regs_fit scopes i paths kinds [] h fit = none_on scopes paths fit
regs_fit scopes i paths kinds (r ∷ rs) h fit =
    let step = both_None _ _ h in
    let own = both_None _ _ step.0 in
    let passes = path_passes (row_of array.Reg i) 1024 scopes paths r.of r.name own.0 in
    let next = fit-push scopes scopes paths r.of r.name fit passes (omega arith) in
    joined_on scopes paths (reg_path r) (map reg_path rs) (regs_fit scopes (i + 1) (paths ++ reg_path r ∷ []) (kinds_after kinds r.fields) rs step.1 next)

pub mems_fit : (scopes i blocks : ℕ) (paths : List (List ℕ)) (total : ℕ) (ms : List MemPart) → mems_fault i blocks paths total ms ≡ None → blocks ≤ scopes → PathsFit scopes paths
    → PathsFit scopes (paths ++ map mem_path ms)
mems_fit scopes i blocks paths total [] h few fit = none_on scopes paths fit
mems_fit scopes i blocks paths total (m ∷ ms) h few fit =
    let step = both_None _ _ h in
    let own = both_None _ _ step.0 in
    let passes = path_passes (row_of array.Mem i) 64 blocks paths m.of m.name own.0 in
    let next = fit-push scopes blocks paths m.of m.name fit passes few in
    joined_on scopes paths (mem_path m) (map mem_path ms) (mems_fit scopes (i + 1) blocks (paths ++ mem_path m ∷ []) (total + m.size) ms step.1 few next)

pub whole_fit : (scopes blocks : ℕ) (bs fs : List ScopePart) (kinds : List (List ℕ)) (rs : List RegData) (ms : List MemPart) (p1 p2 p3 p4 : List (List ℕ)) → scopes_fault array.Block 0 [] bs ≡ None
    → p1 ≡ map scope_path bs → scopes_fault array.File 0 p1 fs ≡ None → p2 ≡ p1 ++ map scope_path fs → regs_fault 0 scopes p2 kinds rs ≡ None → p3 ≡ p2 ++ map reg_path rs
    → mems_fault 0 blocks p3 0 ms ≡ None → p4 ≡ p3 ++ map mem_path ms → blocks ≤ scopes → length p2 ≡ scopes → PathsFit scopes p4
whole_fit scopes blocks bs fs kinds rs ms p1 p2 p3 p4 none1 is1 none2 is2 none3 is3 none4 is4 few count =
    let P : List (List ℕ) → Type 0 = PathsFit scopes in
    let count1 : length p1 ≡ length bs = ap (λ (l : List (List ℕ)). length l) is1 ∙ length-map bs scope_path in
    let count2 : length p2 ≡ length p1 + length fs = ap (λ (l : List (List ℕ)). length l) is2 ∙ (length-append p1 (map scope_path fs) ∙ ap (λ (n : ℕ). length p1 + n) (length-map fs scope_path)) in
    let fit1 : PathsFit scopes p1 = subst P (sym is1) (scopes_fit scopes array.Block 0 [] bs none1 (omega arith) (no_paths scopes)) in
    let fit2 : PathsFit scopes p2 = subst P (sym is2) (scopes_fit scopes array.File 0 p1 fs none2 (omega arith) fit1) in
    let fit3 : PathsFit scopes p3 = subst P (sym is3) (regs_fit scopes 0 p2 kinds rs none3 fit2) in
    subst P (sym is4) (mems_fit scopes 0 blocks p3 0 ms none4 few fit3)

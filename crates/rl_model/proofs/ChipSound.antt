-- A chip of parts that no condition refuses is sound.
use Rattle.std.proofs.Common.{◌≡◌, ℕ, ◌+◌, ◌≤◌, ◌<◌, false, nat_lt, nat_le, List, [], ◌∷◌, ◌++◌, length, map, take, Option, None, refl, ap, ◌∙◌, subst, arith, length-append}
use Rattle.std.proofs.lemmas.Bool.Decides.{nat_tests}
use Rattle.std.proofs.lemmas.List.{length-map}
use Rattle.rl_model.specs.declared.fault.Array.{Array}
use Rattle.rl_model.specs.declared.fault.Array.TheVariants as array
use Rattle.rl_model.specs.declared.fault.ModelCause.TheVariants.{TooMany}
use Rattle.rl_model.specs.declared.fault.Spot.{Spot}
use Rattle.rl_model.specs.declared.parts.ScopePart.{ScopePart}
use Rattle.rl_model.specs.declared.parts.MemPart.{MemPart}
use Rattle.rl_model.specs.Data.{FieldData, RegData, PartsData}
use Rattle.rl_model.specs.Rows.{ChipData}
use Rattle.rl_model.specs.Rules.{row_checks, path_checks, first_of, field_of, field_checks, scope_path, reg_path, mem_path, row_of, path_fault, kinds_with, kinds_fault, kinds_after, all_kinds, scopes_fault}
use Rattle.rl_model.specs.Rules.{fields_fault, regs_fault, mems_fault, path_of}
use Rattle.rl_model.specs.Build.{first_kinds, mem_seen, chip_of, chip_fault}
use Rattle.rl_model.specs.Chip.{IsSound}
use Rattle.rl_model.proofs.BuildLemmas.{length-regs_seen}
use Rattle.rl_model.proofs.Numbering.{known_first, two_first}
use Rattle.rl_model.proofs.Sound.{IsBuilt, each_reg, each_field, owned, apart, each_mem, locations}
use Rattle.rl_model.proofs.SoundLemmas.{passed, both_None, regs_step}
use Rattle.rl_model.proofs.PathsFit.{PathsFit, whole_fit}
use Rattle.rl_model.proofs.KindLemmas.{kinds_differ}
use Rattle.rl_model.proofs.SoundMore.{parents, deep, few_fields, firsts, counts, all_fields, each_reset, one_value}

-- ---- rows are few

-- a row that isn't refused is below the limit
low_row : (spot : Spot) (limit parents : ℕ) (paths : List (List ℕ)) (of : Option (List ℕ)) (name : List ℕ)
    → path_fault spot limit parents paths of name ≡ None → spot.row < limit
low_row spot limit parents paths of name h =
    let low : nat_le limit spot.row ≡ false =
    passed spot (row_checks spot limit parents paths of name ++ path_checks paths (path_of of name)) h 0 (nat_le limit spot.row, TooMany) refl in grind (arith, nat_tests)

few_scopes : (a : Array) (i : ℕ) (paths : List (List ℕ)) (ps : List ScopePart) → scopes_fault a i paths ps ≡ None → i ≤ 256 → i + length ps ≤ 256
few_scopes a i paths [] h few = omega (arith, few)
few_scopes a i paths (p ∷ ps) h few =
    let step = both_None _ _ h in
    let low : i < 256 = low_row (row_of a i) 256 (length paths) paths p.of p.name step.0 in
    omega (arith, few_scopes a (i + 1) (paths ++ scope_path p ∷ []) ps step.1 (omega (arith, low)))

few_regs : (i scopes : ℕ) (paths kinds : List (List ℕ)) (rs : List RegData) → regs_fault i scopes paths kinds rs ≡ None → i ≤ 1024 → i + length rs ≤ 1024
few_regs i scopes paths kinds [] h few = omega (arith, few)
few_regs i scopes paths kinds (r ∷ rs) h few =
    let step = both_None _ _ h in
    let own = both_None _ _ step.0 in
    let low : i < 1024 = low_row (row_of array.Reg i) 1024 scopes paths r.of r.name own.0 in
    omega (arith, few_regs (i + 1) scopes (paths ++ reg_path r ∷ []) (kinds_after kinds r.fields) rs step.1 (omega (arith, low)))

few_mems : (i blocks : ℕ) (paths : List (List ℕ)) (total : ℕ) (ms : List MemPart) → mems_fault i blocks paths total ms ≡ None → i ≤ 64 → i + length ms ≤ 64
few_mems i blocks paths total [] h few = omega (arith, few)
few_mems i blocks paths total (m ∷ ms) h few =
    let step = both_None _ _ h in
    let own = both_None _ _ step.0 in
    let low : i < 64 = low_row (row_of array.Mem i) 64 blocks paths m.of m.name own.0 in
    omega (arith, few_mems (i + 1) blocks (paths ++ mem_path m ∷ []) (total + m.size) ms step.1 (omega (arith, low)))

-- ---- kinds are few

few_kinds_in : (spot : Spot) (r : RegData) (i : ℕ) (kinds : List (List ℕ)) (fs : List FieldData) → fields_fault spot r i kinds fs ≡ None → length kinds ≤ 16
    → length (kinds_after kinds fs) ≤ 16
few_kinds_in spot r i kinds [] h few = few
few_kinds_in spot r i kinds (f ∷ fs) h few =
    let step = both_None _ _ h in
    let own = both_None (first_of (field_of spot i) (field_checks r.bytes (take i r.fields) f))
    (kinds_fault (field_of spot i) (kinds_with kinds f.resets)) step.0 in
    let low : nat_lt 16 (length (kinds_with kinds f.resets)) ≡ false = passed (field_of spot i) ((nat_lt 16 (length (kinds_with kinds f.resets)), TooMany) ∷ []) own.1 0
    (nat_lt 16 (length (kinds_with kinds f.resets)), TooMany) refl in
    few_kinds_in spot r (i + 1) (kinds_with kinds f.resets) fs step.1 (grind (arith, nat_tests))

few_kinds : (i scopes : ℕ) (paths kinds : List (List ℕ)) (rs : List RegData) → regs_fault i scopes paths kinds rs ≡ None → length kinds ≤ 16
    → length (all_kinds kinds rs) ≤ 16
few_kinds i scopes paths kinds [] h few = few
few_kinds i scopes paths kinds (r ∷ rs) h few =
    let step = regs_step i scopes paths kinds r rs h in
    few_kinds (i + 1) scopes (paths ++ reg_path r ∷ []) (kinds_after kinds r.fields) rs step.2
    (few_kinds_in (row_of array.Reg i) r 0 kinds r.fields step.0 few)

-- ---- the chip

-- no condition fails, of each array in turn
record Fine (parts : PartsData) : Type 0 where
  pub blocks : scopes_fault array.Block 0 [] parts.blocks ≡ None
  pub files : scopes_fault array.File 0 (map scope_path parts.blocks) parts.files ≡ None
  pub regs : regs_fault 0 (length parts.blocks + length parts.files) (map scope_path parts.blocks ++ map scope_path parts.files) first_kinds parts.regs ≡ None
  pub mems : mems_fault 0 (length parts.blocks) (map scope_path parts.blocks ++ map scope_path parts.files ++ map reg_path parts.regs) 0 parts.mems ≡ None

scopes_long : (parts : PartsData) → length (map scope_path parts.blocks ++ map scope_path parts.files) ≡ length parts.blocks + length parts.files
scopes_long parts =
    length-append (map scope_path parts.blocks) (map scope_path parts.files)
    ∙ ap (λ n. n + length (map scope_path parts.files)) (length-map parts.blocks scope_path)
    ∙ ap (λ n. length parts.blocks + n) (length-map parts.files scope_path)

fine_of : (parts : PartsData) → chip_fault parts ≡ None → Fine parts
unfolding chip_fault
fine_of parts h =
    let first : List (List ℕ) = map scope_path parts.blocks in
    let scopes : List (List ℕ) = first ++ map scope_path parts.files in
    let a = both_None _ _ h in
    let b = both_None _ _ a.1 in
    let c = both_None _ _ b.1 in
    record {
      blocks = a.0;
      files = b.0;
      regs = subst (λ n. regs_fault 0 n scopes first_kinds parts.regs ≡ None) (scopes_long parts) c.0;
      mems = subst (λ n. mems_fault 0 n (scopes ++ map reg_path parts.regs) 0 parts.mems ≡ None) (length-map parts.blocks scope_path) c.1;
    }

paths_long : (parts : PartsData)
    → length (map scope_path parts.blocks ++ map scope_path parts.files ++ map reg_path parts.regs ++ map mem_path parts.mems)
    ≡ length parts.blocks + length parts.files + length parts.regs + length parts.mems
paths_long parts =
    let scopes : List (List ℕ) = map scope_path parts.blocks ++ map scope_path parts.files in
    omega (
      arith,
      length-append (scopes ++ map reg_path parts.regs) (map mem_path parts.mems),
      length-append scopes (map reg_path parts.regs),
      scopes_long parts,
      length-map parts.regs reg_path,
      length-map parts.mems mem_path,
    )

pub each_chip_sound : (parts : PartsData) → chip_fault parts ≡ None → IsSound (chip_of parts)
unfolding chip_of
each_chip_sound parts none =
    let fine = fine_of parts none in
    let rs = parts.regs in
    let ms = parts.mems in
    let first : List (List ℕ) = map scope_path parts.blocks in
    let scopes : List (List ℕ) = first ++ map scope_path parts.files in
    let regs : List (List ℕ) = scopes ++ map reg_path rs in
    let chip : ChipData = chip_of parts in
    let built : IsBuilt chip rs = record {
      scopes = length parts.blocks + length parts.files;
      paths = scopes;
      kinds = first_kinds;
      all = all_kinds first_kinds rs;
      regs = refl;
      fields = refl;
      fault = fine.regs;
    } in
    let fit : PathsFit chip.scopes chip.paths =
    whole_fit chip.scopes chip.blocks parts.blocks parts.files first_kinds rs ms first scopes regs chip.paths fine.blocks refl fine.files refl fine.regs refl fine.mems refl
    (omega arith) (scopes_long parts) in
    let few : length chip.regs ≤ 1024 = omega (arith, length-regs_seen 0 rs, few_regs 0 _ scopes first_kinds rs fine.regs (omega arith)) in
    record {
      blocks = omega (arith, few_scopes array.Block 0 [] parts.blocks fine.blocks (omega arith));
      scopes = omega arith;
      files = omega (arith, few_scopes array.Block 0 [] parts.blocks fine.blocks (omega arith), few_scopes array.File 0 first parts.files fine.files (omega arith));
      regs = few;
      mems = omega (arith, length-map ms mem_seen, few_mems 0 chip.blocks regs 0 ms fine.mems (omega arith));
      fields = omega (arith, all_fields chip rs built few);
      kinds = few_kinds 0 chip.scopes scopes first_kinds rs fine.regs (omega arith);
      known_kinds = known_first rs;
      two_kinds = two_first rs;
      paths = omega (arith, paths_long parts, length-regs_seen 0 rs, length-map ms mem_seen);
      each_reg = each_reg chip rs built;
      each_field = each_field chip rs built;
      owned = owned chip rs built;
      apart = apart chip rs built;
      each_mem = each_mem 0 chip.blocks regs 0 ms fine.mems;
      locations = omega (arith, locations 0 chip.blocks regs 0 ms fine.mems (omega arith));
      distinct_paths = fit.differ;
      distinct_kinds = kinds_differ rs;
      parents = parents chip fit;
      deep = deep chip fit;
      few_fields = few_fields chip rs built;
      all_fields = all_fields chip rs built few;
      firsts = firsts chip rs built;
      counts = counts chip rs built;
      each_reset = each_reset chip rs built refl refl;
      one_value = one_value chip rs built refl;
    }

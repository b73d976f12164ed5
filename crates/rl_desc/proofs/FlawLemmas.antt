-- Flaws, one after the other.
use Rattle.std.proofs.Common.{◌≡◌, ℕ, ◌+◌, ◌^◌, ◌<◌, ◌≤◌, true, false, List, [], ◌∷◌, ◌++◌, Some, None, length, get_or, drop, subst, sym, ◌∙◌, ap, append_assoc, append-nil, arith}
use Rattle.std.specs.Prelude.{nat_lt, nat_le}
use Rattle.std.proofs.Math.Pow.{pow_mono}
use Rattle.std.proofs.lemmas.Bool.Decides.{nat_tests}
use Rattle.std.proofs.lemmas.List.{drop_more}
use Rattle.rl_model.specs.Rows.{ChipData}
use Rattle.rl_map.specs.Layout.{LayoutData}
use Rattle.rl_flaw.specs.declared.flaw.Flaw.{Flaw}
use Rattle.rl_desc.specs.declared.fault.DescFault.TheVariants.{TooManyFlaws, Flaw as BadFlaw}
use Rattle.rl_desc.specs.declared.flaw.FlawPart.{FlawPart}
use Rattle.rl_desc.specs.Flaws.{flaw_of, flaws_fault, flaws_of}

-- what the rest gives completes what is there
pub record Goes (chip : ChipData) (layout : LayoutData) (all : List FlawPart) (row : ℕ) (rest : List FlawPart) (flaws : List Flaw) : Type 0 where
  pub fault : flaws_fault chip layout row rest ≡ flaws_fault chip layout 0 all
  pub made : flaws ++ flaws_of chip layout rest ≡ flaws_of chip layout all

-- where the rest begins with the next part
pub at_part : {chip : ChipData} {layout : LayoutData} {parts : List FlawPart} {i row : ℕ} {part : FlawPart} {flaws : List Flaw}
    → i < length parts → part ≡ get_or parts i part → Goes chip layout parts row (drop i parts) flaws → Goes chip layout parts row (part ∷ drop (i + 1) parts) flaws
at_part {chip} {layout} {parts} {i} {row} {part} {flaws} low is so_far =
    let next : drop i parts ≡ part ∷ drop (i + 1) parts = drop_more parts i part low ∙ ap (λ (x : FlawPart). x ∷ drop (i + 1) parts) (sym is) in
    subst (λ rest. Goes chip layout parts row rest flaws) next so_far

pub goes_on : (chip : ChipData) (layout : LayoutData) (all : List FlawPart) (row : ℕ) (part : FlawPart) (rest : List FlawPart) (flaws more : List Flaw) (x : Flaw)
    → Goes chip layout all row (part ∷ rest) flaws → row < 256 → flaw_of chip layout part ≡ Some x → more ≡ flaws ++ x ∷ []
    → Goes chip layout all (row + 1) rest more
goes_on chip layout all row part rest flaws more x so_far few is pushed =
    let under : nat_le 256 row ≡ false = grind (arith, nat_tests) in
    let fault : flaws_fault chip layout row (part ∷ rest) ≡ flaws_fault chip layout (row + 1) rest = rw (under, is) in
    let made : flaws_of chip layout (part ∷ rest) ≡ x ∷ flaws_of chip layout rest = rw is in
    record {
      fault = sym fault ∙ so_far.fault;
      made = rw pushed (append_assoc flaws (x ∷ []) (flaws_of chip layout rest) ∙ (ap (λ (l : List Flaw). flaws ++ l) (sym made) ∙ so_far.made));
    }

pub too_many : (chip : ChipData) (layout : LayoutData) (all : List FlawPart) (row : ℕ) (part : FlawPart) (rest : List FlawPart) (flaws : List Flaw)
    → Goes chip layout all row (part ∷ rest) flaws → 256 ≤ row → flaws_fault chip layout 0 all ≡ Some (TooManyFlaws row)
too_many chip layout all row part rest flaws so_far many =
    let over : nat_le 256 row ≡ true = grind (arith, nat_tests) in
    let fault : flaws_fault chip layout row (part ∷ rest) ≡ Some (TooManyFlaws row) = rw over in
    sym so_far.fault ∙ fault

pub not_there : (chip : ChipData) (layout : LayoutData) (all : List FlawPart) (row : ℕ) (part : FlawPart) (rest : List FlawPart) (flaws : List Flaw)
    → Goes chip layout all row (part ∷ rest) flaws → row < 256 → flaw_of chip layout part ≡ None → flaws_fault chip layout 0 all ≡ Some (BadFlaw row)
not_there chip layout all row part rest flaws so_far few is =
    let under : nat_le 256 row ≡ false = grind (arith, nat_tests) in
    let fault : flaws_fault chip layout row (part ∷ rest) ≡ Some (BadFlaw row) = rw (under, is) in
    sym so_far.fault ∙ fault

pub all_made : (chip : ChipData) (layout : LayoutData) (all : List FlawPart) (row : ℕ) (flaws : List Flaw) → Goes chip layout all row [] flaws
    → (flaws_fault chip layout 0 all ≡ None) × (flaws ≡ flaws_of chip layout all)
all_made chip layout all row flaws so_far = (sym so_far.fault, sym (append-nil flaws) ∙ so_far.made)

-- what fits 64 bits is below 2 to any greater power
pub below_power : (value width : ℕ) → 64 ≤ width → value < 2 ^ 64 → true ≡ nat_lt value (2 ^ width)
below_power value width wide small =
    let most : 2 ^ 64 ≤ 2 ^ width = pow_mono wide in
    let lt : value < 2 ^ width = omega (arith, most) in
    grind (arith, nat_tests)

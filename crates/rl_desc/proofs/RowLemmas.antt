-- Rows, one after the other.
use Rattle.std.proofs.Common.{◌≡◌, ℕ, ◌+◌, ◌<◌, List, [], ◌∷◌, ◌++◌, map, drop, length, get_or, Option, None, sym, ap, ◌∙◌, append_assoc}
use Rattle.toml.specs.Data.{Members, as_table}
use Rattle.toml.specs.View.{view, items_view}
use Rattle.toml.specs.declared.value.Value.{Value}
use Rattle.toml.proofs.Views.{items_view-drop}
use Rattle.rl_desc.specs.declared.fault.DescFault.{DescFault}
use Rattle.rl_desc.specs.Columns.{first_from}
use Rattle.rl_desc.specs.Shapes.{with_table, tables_of}

-- what was read of i rows, and what is still read, makes the whole
abbrev pub Continues : {D : Type 0} → (ℕ → Members → Option DescFault) → (Members → D) → ℕ → List D → List Members → Option DescFault → List D → Type 0
Continues fault read i parts rest whole_fault whole = (first_from i fault rest ≡ whole_fault) × (parts ++ map read rest ≡ whole)

pub Continues-more : {D : Type 0} (fault : ℕ → Members → Option DescFault) (read : Members → D) (i j : ℕ) (parts more : List D) (row : Members) (rest : List Members) (whole_fault : Option DescFault)
    (whole : List D)
    → Continues fault read i parts (row ∷ rest) whole_fault whole → fault i row ≡ None → more ≡ parts ++ read row ∷ [] → j ≡ i + 1
    → Continues fault read j more rest whole_fault whole
Continues-more fault read i j parts more row rest whole_fault whole so_far none same next =
    let e : first_from i fault (row ∷ rest) ≡ first_from (i + 1) fault rest = rw none in
    rw (same, next) (sym e ∙ so_far.0, append_assoc parts (read row ∷ []) (map read rest) ∙ so_far.1)

-- the next row, where it is a table and where it isn't
pub tables_of-next : (vs : List Value) (n : ℕ) (v : Value) → n < length vs → v ≡ get_or vs n v
    → tables_of (items_view (drop n vs)) ≡ with_table (as_table (view v)) (tables_of (items_view (drop (n + 1) vs)))
tables_of-next vs n v lt is = ap tables_of (items_view-drop vs n v lt) ∙ ap (λ x. with_table (as_table (view x)) (tables_of (items_view (drop (n + 1) vs)))) (sym is)

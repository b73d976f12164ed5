-- The name of a port's map stands for the port, and is plain.
use Rattle.std.proofs.Common.{◌≡◌, ℕ, zero, suc, ◌+◌, ◌<◌, Bool, true, false, not, ◌==◌, List, [], ◌∷◌, ◌++◌, length, slice_get, fold, Option, Some, None, is_some, option_and_then}
use Rattle.std.proofs.Common.{refl, sym, ap, subst, ◌∙◌, inl, inr, ◌⊎◌, arith, bytes_eq, length-append, eqb-true, eq-eqb}
use Rattle.std.proofs.lemmas.Bool.{false≢true}
use Rattle.std.proofs.lemmas.Slice.Eq.{bytes_eq-Decides}
use Rattle.std.proofs.lemmas.Option.{none-some, same_Some}
use Rattle.std.specs.List.{list_any}
use Rattle.rl_model.specs.declared.fault.Array.TheVariants as array
use Rattle.rl_model.specs.Rows.{ChipData}
use Rattle.rl_model.specs.Rules.{is_name}
use Rattle.rl_model.proofs.PathLemmas.{any-position}
use Rattle.rl_model.proofs.SoundLemmas.{there, none_at, none_fails, both_None}
use Rattle.rl_bus.specs.declared.op.AdapterKind.{AdapterKind}
use Rattle.rl_map.specs.declared.fault.MapFault.TheVariants.{Bad}
use Rattle.rl_map.specs.declared.parts.MapNode.{MapNode}
use Rattle.rl_map.specs.declared.parts.PlacePart.{PlacePart}
use Rattle.rl_map.specs.declared.rows.MapRow.{MapRow}
use Rattle.rl_map.specs.declared.rows.PortRow.{PortRow}
use Rattle.rl_map.specs.Faults.{row_at, map_checks, maps_fault, layout_fault}
use Rattle.rl_map.specs.Layout.{LayoutData, no_map, no_port, map_named, map_at, port_at}
use Rattle.rl_map.specs.Maps.{MapTables, no_tables, with_map, tables_of, map_number, map_row, port_row, ports_with, layout_of}
use Rattle.rl_map.proofs.Lookups.{got}
use Rattle.rl_desc.specs.Flaws.{root_at, port_of_map}
use Rattle.rl_grade_report.specs.Groups.{root_name}
use Rattle.rl_grade_report.proofs.RowText.{are_plain}
use Rattle.rl_grade_report.proofs.RowNames.{position_at}
use Rattle.rl_grade_report.proofs.RowPlain.{plain_name}

-- maps have names that differ, and each port is of a map of its own
record IsTidy (maps : List MapRow) (ports : List PortRow) : Type 0 where
  named : (i : ℕ) (m : MapRow) → slice_get maps i ≡ Some m → are_plain m.name ≡ true
  differ : (i j : ℕ) (m n : MapRow) → slice_get maps i ≡ Some m → slice_get maps j ≡ Some n → m.name ≡ n.name → i ≡ j
  low : (i : ℕ) (p : PortRow) → slice_get ports i ≡ Some p → p.map < length maps
  apart : (i j : ℕ) (p q : PortRow) → slice_get ports i ≡ Some p → slice_get ports j ≡ Some q → p.map ≡ q.map → i ≡ j

-- what stands in a list with one more at the end
pushed : {X : Type 0} (xs : List X) (x : X) (i : ℕ) (y : X) → slice_get (xs ++ x ∷ []) i ≡ Some y → (slice_get xs i ≡ Some y) ⊎ ((i ≡ length xs) × (x ≡ y))
pushed [] x zero y at = inr (refl, same_Some x y at)
pushed [] x (suc i) y at = absurd (none-some y at)
pushed (z ∷ zs) x zero y at = inl at
pushed (z ∷ zs) x (suc i) y at =
    elim (pushed zs x i y at) [
      | inl before ↦ inl before
      | inr (last, is) ↦ inr (ap suc last, is)
    ]

one_more : {X : Type 0} (xs : List X) (x : X) → length (xs ++ x ∷ []) ≡ length xs + 1
one_more xs x = length-append xs (x ∷ [])

-- with another map
named_more : (maps : List MapRow) (ports : List PortRow) (row : MapRow) → IsTidy maps ports → are_plain row.name ≡ true
    → (i : ℕ) (m : MapRow) → slice_get (maps ++ row ∷ []) i ≡ Some m → are_plain m.name ≡ true
named_more maps ports row t plain i m at =
    elim (pushed maps row i m at) [
      | inl before ↦ t.named i m before
      | inr (_, is) ↦ subst (λ (x : MapRow). are_plain x.name ≡ true) is plain
    ]

new_name : (maps : List MapRow) (name : List ℕ) (i : ℕ) (m : MapRow) → is_some (map_number maps name) ≡ false → slice_get maps i ≡ Some m → m.name ≡ name → ⊥
new_name maps name i m new at same =
    let off : list_any (λ (m : MapRow). bytes_eq m.name name) maps ≡ false = any-position (λ (m : MapRow). bytes_eq m.name name) maps ∙ new in
    false≢true (sym (none_at (λ (m : MapRow). bytes_eq m.name name) maps i m off at) ∙ (bytes_eq-Decides m.name name).1 same)

differ_more : (maps : List MapRow) (ports : List PortRow) (row : MapRow) → IsTidy maps ports → is_some (map_number maps row.name) ≡ false
    → (i j : ℕ) (m n : MapRow) → slice_get (maps ++ row ∷ []) i ≡ Some m → slice_get (maps ++ row ∷ []) j ≡ Some n → m.name ≡ n.name → i ≡ j
differ_more maps ports row t new i j m n at_i at_j same =
    elim (pushed maps row i m at_i) [
      | inl before_i ↦ elim (pushed maps row j n at_j) [
        | inl before_j ↦ t.differ i j m n before_i before_j same
        | inr (last_j, is_j) ↦ absurd (new_name maps row.name i m new before_i (same ∙ ap (λ (x : MapRow). x.name) (sym is_j)))
      ]
      | inr (last_i, is_i) ↦ elim (pushed maps row j n at_j) [
        | inl before_j ↦ absurd (new_name maps row.name j n new before_j (sym same ∙ ap (λ (x : MapRow). x.name) (sym is_i)))
        | inr (last_j, is_j) ↦ last_i ∙ sym last_j
      ]
    ]

child : (maps : List MapRow) (ports : List PortRow) (row : MapRow) → IsTidy maps ports → are_plain row.name ≡ true → is_some (map_number maps row.name) ≡ false
    → IsTidy (maps ++ row ∷ []) ports
child maps ports row t plain new = record {
  named = named_more maps ports row t plain;
  differ = differ_more maps ports row t new;
  low = λ i p at. omega (arith, t.low i p at, one_more maps row);
  apart = t.apart;
}

low_more : (maps : List MapRow) (ports : List PortRow) (row : MapRow) (port : PortRow) → IsTidy maps ports → port.map ≡ length maps
    → (i : ℕ) (p : PortRow) → slice_get (ports ++ port ∷ []) i ≡ Some p → p.map < length (maps ++ row ∷ [])
low_more maps ports row port t is i p at =
    elim (pushed ports port i p at) [
      | inl before ↦ omega (arith, t.low i p before, one_more maps row)
      | inr (_, same) ↦ omega (arith, is, ap (λ (x : PortRow). x.map) same, one_more maps row)
    ]

apart_more : (maps : List MapRow) (ports : List PortRow) (port : PortRow) → IsTidy maps ports → port.map ≡ length maps
    → (i j : ℕ) (p q : PortRow) → slice_get (ports ++ port ∷ []) i ≡ Some p → slice_get (ports ++ port ∷ []) j ≡ Some q → p.map ≡ q.map → i ≡ j
apart_more maps ports port t is i j p q at_i at_j same =
    elim (pushed ports port i p at_i) [
      | inl before_i ↦ elim (pushed ports port j q at_j) [
        | inl before_j ↦ t.apart i j p q before_i before_j same
        | inr (_, is_j) ↦ absurd (omega (arith, t.low i p before_i, is, same, ap (λ (x : PortRow). x.map) is_j))
      ]
      | inr (last_i, is_i) ↦ elim (pushed ports port j q at_j) [
        | inl before_j ↦ absurd (omega (arith, t.low j q before_j, is, same, ap (λ (x : PortRow). x.map) is_i))
        | inr (last_j, _) ↦ last_i ∙ sym last_j
      ]
    ]

root : (maps : List MapRow) (ports : List PortRow) (row : MapRow) (port : PortRow) → IsTidy maps ports → are_plain row.name ≡ true → is_some (map_number maps row.name) ≡ false
    → port.map ≡ length maps → IsTidy (maps ++ row ∷ []) (ports ++ port ∷ [])
root maps ports row port t plain new is = record {
  named = named_more maps ports row t plain;
  differ = differ_more maps ports row t new;
  low = low_more maps ports row port t is;
  apart = apart_more maps ports port t is;
}

by_parent : (kinds : List AdapterKind) (maps : List MapRow) (ports : List PortRow) (row : MapRow) (m : MapNode) (parent : Option (List ℕ)) → IsTidy maps ports → are_plain row.name ≡ true
    → is_some (map_number maps row.name) ≡ false → IsTidy (maps ++ row ∷ []) (ports_with kinds (length maps) ports parent m)
by_parent kinds maps ports row m None t plain new = root maps ports row (port_row kinds (length maps) m) t plain new refl
by_parent kinds maps ports row m (Some parent) t plain new = child maps ports row t plain new

not_false : (b : Bool) → not b ≡ false → b ≡ true
not_false true h = refl
not_false false h = absurd (false≢true (sym h))

tidy_from : (kinds : List AdapterKind) (t : MapTables) (ms : List MapNode) → IsTidy t.maps t.ports → maps_fault kinds t ms ≡ None
    → IsTidy (fold (with_map kinds) t ms).maps (fold (with_map kinds) t ms).ports
tidy_from kinds t [] tidy h = tidy
tidy_from kinds t (m ∷ ms) tidy h =
    let step = both_None _ _ h in
    let spot = row_at array.Map (length t.maps) in
    let all = none_fails (λ cause. Bad cause spot) (map_checks kinds t.maps m) step.0 in
    let named : not (is_name m.name) ≡ false = all 1 _ refl in
    let new : is_some (map_number t.maps m.name) ≡ false = all 2 _ refl in
    let next = by_parent kinds t.maps t.ports (map_row (length t.ports) t.maps m) m m.parent tidy (plain_name m.name (not_false (is_name m.name) named)) new in
    tidy_from kinds (with_map kinds t m) ms next step.1

no_tidy : IsTidy [] []
no_tidy = record {
  named = λ i m at. absurd (none-some m at);
  differ = λ i j m n at_i at_j same. absurd (none-some m at_i);
  low = λ i p at. absurd (none-some p at);
  apart = λ i j p q at_i at_j same. absurd (none-some p at_i);
}

tidy : (kinds : List AdapterKind) (ms : List MapNode) → maps_fault kinds no_tables ms ≡ None → IsTidy (tables_of kinds ms).maps (tables_of kinds ms).ports
tidy kinds ms h = tidy_from kinds no_tables ms no_tidy h

record IsRoot (l : LayoutData) (port : ℕ) : Type 0 where
  map : ℕ
  row : MapRow
  at : slice_get l.maps map ≡ Some row
  name : root_name l port ≡ row.name
  found : port_of_map l map ≡ Some port

root_there : (l : LayoutData) → IsTidy l.maps l.ports → (port : ℕ) → port < length l.ports → IsRoot l port
root_there l t port lt =
    let (p, at_p) = there l.ports port lt in
    let (m, at_m) = there l.maps p.map (t.low port p at_p) in
    let port_is : port_at l port ≡ p = got l.ports port p no_port at_p in
    let map_is : map_at l p.map ≡ m = got l.maps p.map m no_map at_m in
    record {
      map = p.map;
      row = m;
      at = at_m;
      name = ap (λ (q : PortRow). (map_at l q.map).name) port_is ∙ ap (λ (x : MapRow). x.name) map_is;
      found = position_at (λ (q : PortRow). q.map == p.map) l.ports port p at_p (eq-eqb p.map p.map refl)
          (λ j q at_q same. t.apart j port q p at_q at_p (eqb-true q.map p.map same));
    }

root_is : (l : LayoutData) → IsTidy l.maps l.ports → (port : ℕ) → port < length l.ports → (root_at l (root_name l port) ≡ Some port) × (are_plain (root_name l port) ≡ true)
root_is l t port lt =
    let r = root_there l t port lt in
    let number : map_named l r.row.name ≡ Some r.map =
    position_at (λ (m : MapRow). bytes_eq m.name r.row.name) l.maps r.map r.row r.at ((bytes_eq-Decides r.row.name r.row.name).1 refl)
    (λ j m at_m same. t.differ j r.map m r.row at_m r.at ((bytes_eq-Decides m.name r.row.name).0 same)) in
    (ap (λ n. root_at l n) r.name ∙ ap (λ o. option_and_then (port_of_map l) o) number ∙ r.found, ap are_plain r.name ∙ t.named r.map r.row r.at)

-- a port of a layout that no condition refuses
pub root_found : (chip : ChipData) (maps : List MapNode) (places : List PlacePart) (kinds : List AdapterKind) → layout_fault chip maps places kinds ≡ None
    → let l = layout_of chip maps places kinds in
    (port : ℕ) → port < length l.ports → (root_at l (root_name l port) ≡ Some port) × (are_plain (root_name l port) ≡ true)
unfolding layout_fault layout_of
root_found chip maps places kinds h port lt =
    root_is (layout_of chip maps places kinds) (tidy kinds maps (both_None _ _ h).0) port lt

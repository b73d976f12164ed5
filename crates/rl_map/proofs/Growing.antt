-- Maps, ports and places that are added one by one.
use Rattle.std.proofs.Common.{◌≡◌, ℕ, zero, suc, ◌+◌, ◌<◌, Bool, true, false, ◌||◌, List, [], ◌∷◌, ◌++◌, length, get_or, take, Option, Some, None, refl, sym, ap, ◌∙◌, subst, arith, length-append}
use Rattle.std.specs.Prelude.{All, flat_map}
use Rattle.std.specs.List.{list_any, range_with_len}
use Rattle.std.proofs.lemmas.List.{get_or_append_left}
use Rattle.std.proofs.lemmas.List.Elements.{All-push, All-cons, All-nil}
use Rattle.std.proofs.Math.Seq.{get_or-append_seam}
use Rattle.std.proofs.lemmas.List.Quantifiers.{position-Some}
use Rattle.std.specs.Prelude.{bytes_eq}
use Rattle.rl_map.proofs.Lookups.{read_is}
use Rattle.rl_bus.specs.declared.op.AdapterKind.{AdapterKind}
use Rattle.rl_bus.specs.declared.table.WordRow.{WordRow}
use Rattle.rl_bus.specs.Lanes.{IsWidth}
use Rattle.rl_map.specs.declared.path.Level.{Level}
use Rattle.rl_map.specs.declared.parts.MapNode.{MapNode}
use Rattle.rl_map.specs.declared.rows.MapRow.{MapRow}
use Rattle.rl_map.specs.declared.rows.PortRow.{PortRow}
use Rattle.rl_map.specs.declared.rows.PlaceRow.{PlaceRow}
use Rattle.rl_map.specs.Level.{root_bytes}
use Rattle.rl_map.specs.Layout.{no_map, no_port, no_place}
use Rattle.rl_map.specs.Maps.{MapTables, no_tables, with_map, tables_of, map_number, map_with, level_of, path_under, port_under, map_row, port_row, ports_with}
use Rattle.std.proofs.lemmas.List.Sums.{fold_more}
use Rattle.rl_map.specs.Building.{IsMapRow, IsPortRow, AreTables, IsUnder, HasPort, rows_of, rows_of_all}
use Rattle.rl_map.proofs.Lists.{one_longer}

-- ---- maps and ports

root_under : (level : Level) (p : List Level) → 0 < length p → root_bytes (level ∷ p) ≡ root_bytes p
root_under level [] h = absurd (omega arith)
root_under level (x ∷ xs) h = refl

map_more : (ports more : List PortRow) (m : MapRow) → IsMapRow ports m → IsMapRow (ports ++ more) m
map_more ports more m h = record {
  path = h.path;
  some = h.some;
  port = omega (arith, h.port, length-append ports more);
  root = h.root ∙ ap (λ (p : PortRow). p.bytes) (sym (get_or_append_left ports more no_port m.port h.port));
}

port_more : (kinds : List AdapterKind) (maps : ℕ) (p : PortRow) → IsPortRow kinds maps p → IsPortRow kinds (maps + 1) p
port_more kinds maps p h = record { map = omega (arith, h.map); width = h.width; wide = h.wide; adapter = h.adapter; adapter_in = h.adapter_in; narrow = h.narrow; most = h.most }

with_child : (kinds : List AdapterKind) (maps : List MapRow) (ports : List PortRow) (row : MapRow) → AreTables kinds maps ports → length maps < 64 → IsMapRow ports row
    → AreTables kinds (maps ++ row ∷ []) ports
with_child kinds maps ports row t few fits = record {
  few = omega (arith, one_longer maps row);
  fewer = omega (arith, one_longer maps row, t.fewer);
  each_map = All-push (IsMapRow ports) maps row t.each_map fits;
  each_port = λ k d low. subst (λ n. IsPortRow kinds n (get_or ports k d)) (sym (one_longer maps row)) (port_more kinds (length maps) _ (t.each_port k d low));
}

with_root : (kinds : List AdapterKind) (maps : List MapRow) (ports : List PortRow) (row : MapRow) (port : PortRow) → AreTables kinds maps ports → length maps < 64
    → IsMapRow (ports ++ port ∷ []) row → IsPortRow kinds (length maps + 1) port → AreTables kinds (maps ++ row ∷ []) (ports ++ port ∷ [])
with_root kinds maps ports row port t few fits port_fits = record {
  few = omega (arith, one_longer maps row);
  fewer = omega (arith, one_longer maps row, one_longer ports port, t.fewer);
  each_map = All-push (IsMapRow (ports ++ port ∷ [])) maps row (λ k d low. map_more ports (port ∷ []) _ (t.each_map k d low)) fits;
  each_port = subst (λ n. All (IsPortRow kinds n) (ports ++ port ∷ [])) (sym (one_longer maps row))
      (All-push (IsPortRow kinds (length maps + 1)) ports port (λ k d low. port_more kinds (length maps) _ (t.each_port k d low)) port_fits);
}

root_row : (kinds : List AdapterKind) (maps : List MapRow) (ports : List PortRow) (m : MapNode) (name : List ℕ) (port : PortRow) → IsWidth m.bytes → port.bytes ≡ m.bytes
    → IsMapRow (ports ++ port ∷ []) (record { name = name; path = level_of m ∷ []; port = length ports })
root_row kinds maps ports m name port w e = record {
  path = record { short = omega arith; widths = All-cons (λ level. IsWidth level.bytes) (level_of m) [] w (All-nil (λ level. IsWidth level.bytes)) };
  some = omega arith;
  port = omega (arith, one_longer ports port);
  root = sym (ap (λ (p : PortRow). p.bytes) (get_or-append_seam ports port [] no_port) ∙ e);
}

child_row : (ports : List PortRow) (m : MapNode) (name : List ℕ) (parent : MapRow) → IsWidth m.bytes → IsMapRow ports parent → length parent.path < 4
    → IsMapRow ports (record { name = name; path = level_of m ∷ parent.path; port = parent.port })
child_row ports m name parent w h short = record {
  path = record { short = omega arith; widths = All-cons (λ level. IsWidth level.bytes) (level_of m) parent.path w h.path.widths };
  some = omega arith;
  port = h.port;
  root = root_under (level_of m) parent.path h.some ∙ h.root;
}

pub tables_more : (kinds : List AdapterKind) (maps : List MapRow) (ports : List PortRow) (m : MapNode) → AreTables kinds maps ports → length maps < 64 → IsWidth m.bytes
    → IsUnder maps m.parent → HasPort kinds (length maps) m.parent m
    → AreTables kinds (maps ++ map_row (length ports) maps m ∷ []) (ports_with kinds (length maps) ports m.parent m)
tables_more kinds maps ports m t few w under port = by m.parent under port
  where
    by : (parent : Option (List ℕ)) → IsUnder maps parent → HasPort kinds (length maps) parent m
        → AreTables kinds (maps ++ record {
          name = m.name;
          path = path_under maps parent (level_of m);
          port =
              port_under (length ports) maps parent;
        } ∷ []) (ports_with kinds (length maps) ports parent m)
    by None under port = with_root kinds maps ports _ (port_row kinds (length maps) m) t few (root_row kinds maps ports m m.name (port_row kinds (length maps) m) w refl) port
    by (Some name) under port =
        subst (λ o. AreTables kinds (maps ++ record { name = m.name; path = level_of m ∷ (map_with maps o).path; port = (map_with maps o).port } ∷ []) ports) (sym under.1)
        (with_child kinds maps ports _ t few (child_row ports m m.name (get_or maps under.0 no_map) w (t.each_map under.0 no_map under.2) under.3))

-- ---- tests over numbers

any_false : (t : ℕ → Bool) (first n : ℕ) → list_any t (range_with_len first n) ≡ false → (j : ℕ) → j < n → t (first + j) ≡ false
any_false t first zero e j low = absurd (omega arith)
any_false t first (suc n) e j low = by (t first) (list_any t (range_with_len (first + 1) n)) refl refl e j low (any_false t (first + 1) n)
  where
    by : (a b : Bool) → t first ≡ a → list_any t (range_with_len (first + 1) n) ≡ b → (a || b) ≡ false → (j : ℕ) → j < suc n
        → (list_any t (range_with_len (first + 1) n) ≡ false → (j : ℕ) → j < n → t (first + 1 + j) ≡ false) → t (first + j) ≡ false
    by true b p q e j low more = cc
    by false true p q e j low more = cc
    by false false p q e zero low more = subst (λ k. t k ≡ false) (let h : first ≡ first + 0 = omega arith in h) p
    by false false p q e (suc j) low more = subst (λ k. t k ≡ false) (let h : first + 1 + j ≡ first + suc j = omega arith in h) (more q j (omega arith))

pub none_of : (t : ℕ → Bool) (n : ℕ) → list_any t (range_with_len 0 n) ≡ false → (j : ℕ) → j < n → t j ≡ false
none_of t n e j low = subst (λ k. t k ≡ false) (let h : 0 + j ≡ j = omega arith in h) (any_false t 0 n e j low)

any_none : (t : ℕ → Bool) (first n : ℕ) → ((j : ℕ) → j < n → t (first + j) ≡ false) → list_any t (range_with_len first n) ≡ false
any_none t first zero h = refl
any_none t first (suc n) h =
    let here : t first ≡ false = subst (λ k. t k ≡ false) (let e : first + 0 ≡ first = omega arith in e) (h 0 (omega arith)) in
    rw here (any_none t (first + 1) n (λ j low. subst (λ k. t k ≡ false) (let e : first + suc j ≡ first + 1 + j = omega arith in e) (h (suc j) (omega arith))))

pub is_none_of : (t : ℕ → Bool) (n : ℕ) → ((j : ℕ) → j < n → t j ≡ false) → list_any t (range_with_len 0 n) ≡ false
is_none_of t n h = any_none t 0 n (λ j low. subst (λ k. t k ≡ false) (let e : j ≡ 0 + j = omega arith in e) (h j low))

any_some : (t : ℕ → Bool) (first n j : ℕ) → j < n → t (first + j) ≡ true → list_any t (range_with_len first n) ≡ true
any_some t first zero j low e = absurd (omega arith)
any_some t first (suc n) zero low e =
    let here : t first ≡ true = subst (λ k. t k ≡ true) (let h : first + 0 ≡ first = omega arith in h) e in rw here refl
any_some t first (suc n) (suc j) low e =
    or_right (t first) (any_some t (first + 1) n j (omega arith) (subst (λ k. t k ≡ true) (let h : first + suc j ≡ first + 1 + j = omega arith in h) e))
  where
    or_right : (a : Bool) {b : Bool} → b ≡ true → (a || b) ≡ true
    or_right true h = refl
    or_right false h = h

pub is_some_of : (t : ℕ → Bool) (n j : ℕ) → j < n → t j ≡ true → list_any t (range_with_len 0 n) ≡ true
is_some_of t n j low e = any_some t 0 n j low (subst (λ k. t k ≡ true) (let h : j ≡ 0 + j = omega arith in h) e)

-- ---- rows

range_more : {Y : Type 0} (f : ℕ → List Y) (first n : ℕ) → flat_map f (range_with_len first (suc n)) ≡ flat_map f (range_with_len first n) ++ f (first + n)
range_more f first zero = append_none (f first) ∙ ap f (let e : first ≡ first + 0 = omega arith in e)
  where
    append_none : {Y : Type 0} (ys : List Y) → ys ++ [] ≡ ys
    append_none [] = refl
    append_none (y ∷ ys) = ap (λ zs. y ∷ zs) (append_none ys)
range_more f first (suc n) =
    ap (λ ys. f first ++ ys) (range_more f (first + 1) n) ∙ sym (append_twice (f first) (flat_map f (range_with_len (first + 1) n)) (f (first + 1 + n)))
    ∙ ap (λ k. (f first ++ flat_map f (range_with_len (first + 1) n)) ++ f k) (let e : first + 1 + n ≡ first + suc n = omega arith in e)
  where
    append_twice : {Y : Type 0} (xs ys zs : List Y) → (xs ++ ys) ++ zs ≡ xs ++ (ys ++ zs)
    append_twice [] ys zs = refl
    append_twice (x ∷ xs) ys zs = ap (λ us. x ∷ us) (append_twice xs ys zs)

pub flat_more : {Y : Type 0} (f : ℕ → List Y) (n : ℕ) → flat_map f (range_with_len 0 (n + 1)) ≡ flat_map f (range_with_len 0 n) ++ f n
flat_more f n =
    ap (λ k. flat_map f (range_with_len 0 k)) (let e : n + 1 ≡ suc n = omega arith in e) ∙ range_more f 0 n
    ∙ ap (λ k. flat_map f (range_with_len 0 n) ++ f k) (let e : 0 + n ≡ n = omega arith in e)

flat_same : {Y : Type 0} (f g : ℕ → List Y) (first n : ℕ) → ((j : ℕ) → j < n → f (first + j) ≡ g (first + j)) → flat_map f (range_with_len first n) ≡ flat_map g (range_with_len first n)
flat_same f g first zero h = refl
flat_same f g first (suc n) h =
    let here : f first ≡ g first = subst (λ k. f k ≡ g k) (let e : first + 0 ≡ first = omega arith in e) (h 0 (omega arith)) in
    ap (λ ys. ys ++ flat_map f (range_with_len (first + 1) n)) here
    ∙ ap (λ ys. g first ++ ys) (flat_same f g (first + 1) n (λ j low. subst (λ k. f k ≡ g k) (let e : first + suc j ≡ first + 1 + j = omega arith in e) (h (suc j) (omega arith))))

-- the rows of one place more
pub rows_more : (maps : List MapRow) (ports : List PortRow) (places : List PlaceRow) (p : PlaceRow)
    → rows_of_all maps ports (places ++ p ∷ []) ≡ rows_of_all maps ports places ++ rows_of maps ports (length places) p
rows_more maps ports places p =
    let f : ℕ → List WordRow = λ q. rows_of maps ports q (get_or (places ++ p ∷ []) q no_place) in
    let g : ℕ → List WordRow = λ q. rows_of maps ports q (get_or places q no_place) in
    ap (λ n. flat_map f (range_with_len 0 n)) (one_longer places p)
    ∙ flat_more f (length places)
    ∙ ap (λ ys. ys ++ f (length places)) (flat_same f g 0 (length places) (λ j low. subst (λ k. f k ≡ g k) (let e : j ≡ 0 + j = omega arith in e)
    (ap (rows_of maps ports j) (get_or_append_left places (p ∷ []) no_place j low))))
    ∙ ap (λ r. flat_map g (range_with_len 0 (length places)) ++ rows_of maps ports (length places) r) (get_or-append_seam places p [] no_place)

pub no_port_under : (ports : ℕ) (maps : List MapRow) (parent : Option (List ℕ)) (name : List ℕ) → parent ≡ Some name → map_number maps name ≡ None → 0 ≡ port_under ports maps parent
no_port_under ports maps parent name e h =
    subst (λ o. 0 ≡ port_under ports maps o) (sym e) (ap (λ o. (map_with maps o).port) (sym h))

pub path_is : (maps : List MapRow) (parent : Option (List ℕ)) (name : List ℕ) (n : ℕ) (level : Level) (row : MapRow) → parent ≡ Some name → map_number maps name ≡ Some n
    → row ≡ get_or maps n row → level ∷ row.path ≡ path_under maps parent level
path_is maps parent name n level row e h read =
    let at = position-Some (λ (m : MapRow). bytes_eq m.name name) maps n no_map h in
    subst (λ o. level ∷ row.path ≡ path_under maps o level) (sym e)
    (ap (λ (m : MapRow). level ∷ m.path) (read_is maps n row no_map at.0 read) ∙ ap (λ o. level ∷ (map_with maps o).path) (sym h))

pub tables_by : (kinds : List AdapterKind) (maps : List MapRow) (ports : List PortRow) (m : MapNode) (seen maps' : List MapRow) (ports' : List PortRow) (row : MapRow) (count number : ℕ)
    → AreTables kinds maps ports → seen ≡ maps → length seen < 64 → IsWidth m.bytes → IsUnder seen m.parent → HasPort kinds number m.parent m
    → count ≡ length ports → number ≡ length maps → row ≡ map_row count seen m → maps' ≡ maps ++ row ∷ [] → ports' ≡ ports_with kinds number ports m.parent m
    → AreTables kinds maps' ports'
tables_by kinds maps ports m seen maps' ports' row count number t see few w under port a b e f g =
    let more = tables_more kinds maps ports m t (subst (λ x. length x < 64) see few) w (subst (λ x. IsUnder x m.parent) see under) (subst (λ n. HasPort kinds n m.parent m) b port) in
    let maps_are : maps' ≡ maps ++ map_row (length ports) maps m ∷ [] = f ∙ ap (λ r. maps ++ r ∷ []) (e ∙ ap (λ n. map_row n seen m) a ∙ ap (λ x. map_row (length ports) x m) see) in
    let ports_are : ports' ≡ ports_with kinds (length maps) ports m.parent m = g ∙ ap (λ n. ports_with kinds n ports m.parent m) b in
    subst (λ x. AreTables kinds x ports') (sym maps_are) (subst (λ y. AreTables kinds (maps ++ map_row (length ports) maps m ∷ []) y) (sym ports_are) more)

pub maps_step : (kinds : List AdapterKind) (parts : List MapNode) (i : ℕ) (maps maps' : List MapRow) (ports ports' : List PortRow) (part : MapNode)
    → i < length parts → part ≡ get_or parts i part → maps ≡ (tables_of kinds (take i parts)).maps → ports ≡ (tables_of kinds (take i parts)).ports
    → maps' ≡ maps ++ map_row (length ports) maps part ∷ [] → ports' ≡ ports_with kinds (length maps) ports part.parent part
    → (maps' ≡ (tables_of kinds (take (i + 1) parts)).maps) × (ports' ≡ (tables_of kinds (take (i + 1) parts)).ports)
maps_step kinds parts i maps maps' ports ports' part low read a b e f =
    let t = tables_of kinds (take i parts) in
    let step : tables_of kinds (take (i + 1) parts) ≡ with_map kinds t part = fold_more (with_map kinds) no_tables parts i part low ∙ ap (with_map kinds t) (sym read) in (
      e ∙ ap (λ x. x ++ map_row (length ports) x part ∷ []) a ∙ ap (λ y. t.maps ++ map_row (length y) t.maps part ∷ []) b ∙ ap (λ (s : MapTables). s.maps) (sym step),
      f ∙ ap (λ x. ports_with kinds (length x) ports part.parent part) a ∙ ap (λ y. ports_with kinds (length t.maps) y part.parent part) b ∙ ap (λ (s : MapTables). s.ports) (sym step),
    )

pub none_yet : (kinds : List AdapterKind) (maps : List MapRow) (ports : List PortRow) → maps ≡ [] → ports ≡ [] → AreTables kinds maps ports
none_yet kinds maps ports no_maps no_ports =
    let none : AreTables kinds [] [] = record { few = omega arith; fewer = omega arith; each_map = λ k d low. absurd (omega arith); each_port = λ k d low. absurd (omega arith) } in
    subst (λ x. AreTables kinds x ports) (sym no_maps) (subst (λ y. AreTables kinds [] y) (sym no_ports) none)

-- The rows at an address of a FIFO path are those of one location.
use Rattle.std.proofs.Common.{◌≡◌, ℕ, ◌<◌, true, length, get_or, sym, ap, ◌∙◌}
use Rattle.rl_bus.specs.declared.table.WordRow.{WordRow}
use Rattle.rl_map.specs.Layout.{LayoutData, place_at, cell_of, index_of, IsRowOf, Occupies, IsSound}

pub row_occupies : (l : LayoutData) (r : WordRow) → IsRowOf l r → Occupies l r.port r.address r.place (index_of r.cell)
row_occupies l r is = record {
  location = is.location;
  port_is = ap (λ (x : WordRow). x.port) (sym is.row);
  number = is.number;
  number_in = is.number_in;
  address_is = ap (λ (x : WordRow). x.address) (sym is.row);
}

-- two rows at one address of a port, of which one is on a FIFO path
pub row_owner : (l : LayoutData) → IsSound l → (a b : ℕ) (d : WordRow) → a < length l.rows → b < length l.rows
    → let r = get_or l.rows a d in let s = get_or l.rows b d in
    r.port ≡ s.port → r.address ≡ s.address → (place_at l r.place).fifo ≡ true → (r.place ≡ s.place) × (r.cell ≡ s.cell)
row_owner l sound a b d low_a low_b port address fifo =
    let r = get_or l.rows a d in
    let s = get_or l.rows b d in
    let is_r = sound.each_row a d low_a in
    let is_s = sound.each_row b d low_b in
    let there : Occupies l r.port r.address s.place (index_of s.cell) =
    let o = row_occupies l s is_s in
    record { location = o.location; port_is = o.port_is ∙ sym port; number = o.number; number_in = o.number_in; address_is = o.address_is ∙ sym address } in
    let one = sound.owner r.port r.address r.place (index_of r.cell) s.place (index_of s.cell) (row_occupies l r is_r) there fifo in (
      one.0,
      ap (λ (x : WordRow). x.cell) is_r.row
          ∙ ap (λ x. cell_of (place_at l x).item (index_of r.cell)) one.0 ∙ ap (λ x. cell_of (place_at l s.place).item x) one.1
          ∙ sym (ap (λ (x : WordRow). x.cell) is_s.row),
    )

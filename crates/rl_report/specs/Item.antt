-- The line of a bus item.
use Rattle.std.specs.Prelude.{ℕ, ◌*◌, List, [], ◌∷◌, codes, decimal, Bool, true, false, if◌then◌else◌}
use Rattle.rl_policy.specs.Numbers.{hex_digits}
use Rattle.rl_map.specs.Layout.{LayoutData, map_at, port_at}
use Rattle.rl_access.specs.declared.trace.TraceItem.{TraceItem}
use Rattle.rl_report.specs.Numbers.{padded, lanes_text}
use Rattle.rl_report.specs.Pieces.{joined}

abbrev pub way_text : (write : Bool) → List ℕ
way_text true = codes " w 0x"
way_text false = codes " r 0x"

abbrev pub answer_text : (failed : Bool) → List ℕ
answer_text true = codes " error\n"
answer_text false = codes " ok\n"

-- the word of a read is the answer's
abbrev pub word_of : TraceItem → ℕ
word_of item = if item.op.write then item.op.word else item.answer.word

-- its address, its word in two digits a byte, a binary digit for each lane, and its tag
abbrev pub transfer_text : (port_bytes : ℕ) → TraceItem → List ℕ
transfer_text port_bytes item =
    joined (hex_digits item.op.address ∷ codes " 0x" ∷ padded (2 * port_bytes) (word_of item)
    ∷ codes " " ∷ lanes_text port_bytes item.op.lanes ∷ codes " #" ∷ decimal item.tag ∷ [])

-- behind two spaces and the name of its port's root map
unfoldable pub item_line : LayoutData → TraceItem → List ℕ
item_line l item =
    let port = port_at l item.port in
    joined (codes "  " ∷ (map_at l port.map).name ∷ way_text item.op.write
    ∷ transfer_text port.bytes item ∷ answer_text item.answer.failed ∷ [])

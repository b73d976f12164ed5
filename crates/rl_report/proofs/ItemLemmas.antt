-- The line of a bus item: its word fits its digits, it is one line, and it is indented.
use Rattle.std.proofs.Common.{◌≡◌, ℕ, ◌*◌, ◌^◌, ◌<◌, Bool, true, false, if◌then◌else◌, List, [], ◌∷◌, codes, refl, subst}
use Rattle.rl_policy.specs.Numbers.{hex_digits}
use Rattle.rl_map.specs.Layout.{LayoutData, map_at, port_at}
use Rattle.rl_access.specs.declared.trace.TraceItem.{TraceItem}
use Rattle.rl_access.specs.Event.{ItemFits}
use Rattle.rl_access.specs.Model.{ModelData}
use Rattle.rl_access.proofs.Bytes.{below_digits}
use Rattle.rl_report.specs.Item.{way_text, answer_text, word_of, transfer_text, item_line}
use Rattle.rl_report.specs.Numbers.{padded, lanes_text}
use Rattle.rl_report.specs.Pieces.{joined}
use Rattle.rl_report.specs.WithoutItems.{is_one_line, is_indented, IsIndented, HasNames}
use Rattle.rl_report.proofs.NameTexts.{unbroken-map}
use Rattle.rl_report.proofs.Unbroken.{IsUnbroken, unbroken-fixed, unbroken-joined, unbroken-last, unbroken-decimal, unbroken-hex_digits, unbroken-padded, unbroken-lanes_text, one_line-joined}

-- an item's word has the digits of its port
pub word_fits : (l : LayoutData) (item : TraceItem) → ItemFits l item → word_of item < 16 ^ (2 * (port_at l item.port).bytes)
word_fits l item fits =
    let most = subst (λ n. (if item.op.write then item.op.word else item.answer.word) < 16 ^ (2 * n)) fits.bytes in
    most (elim (item.op.write) as (λ w. (if w then item.op.word else item.answer.word) < 16 ^ (2 * item.op.bytes)) [
      | true ↦ below_digits item.op.bytes item.op.word fits.word
      | false ↦ below_digits item.op.bytes item.answer.word fits.answer
    ])

answer_ends : (failed : Bool) → is_one_line (joined (answer_text failed ∷ [])) ≡ true
unfolding joined
answer_ends true = refl
answer_ends false = refl

item_is_indented : (more : List (List ℕ)) → is_indented (joined (codes "  " ∷ more)) ≡ true
unfolding joined
item_is_indented more = refl

unbroken-way_text : (write : Bool) → IsUnbroken (way_text write)
unbroken-way_text true = unbroken-fixed _ refl
unbroken-way_text false = unbroken-fixed _ refl

unbroken-transfer_text : (bytes : ℕ) (i : TraceItem) → IsUnbroken (transfer_text bytes i)
unbroken-transfer_text bytes i =
    unbroken-joined (hex_digits i.op.address) _ (unbroken-hex_digits i.op.address) (unbroken-joined (codes " 0x") _ (unbroken-fixed _ refl)
    (unbroken-joined (padded (2 * bytes) (word_of i)) _ (unbroken-padded (2 * bytes) (word_of i)) (unbroken-joined (codes " ") _ (unbroken-fixed _ refl)
    (unbroken-joined (lanes_text bytes i.op.lanes) _ (unbroken-lanes_text bytes i.op.lanes) (unbroken-joined (codes " #") _ (unbroken-fixed _ refl) (unbroken-last _ (unbroken-decimal i.tag)))))))

pub item_is_indented_line : (m : ModelData) → HasNames m.chip m.layout → (i : TraceItem) → IsIndented (item_line m.layout i)
unfolding item_line
item_is_indented_line m names i =
    let port = port_at m.layout i.port in
    record {
      one = one_line-joined (codes "  ") _ (unbroken-fixed _ refl) (one_line-joined (map_at m.layout port.map).name _ (unbroken-map m names port.map)
          (one_line-joined (way_text i.op.write) _ (unbroken-way_text i.op.write)
          (one_line-joined (transfer_text port.bytes i) _ (unbroken-transfer_text port.bytes i) (answer_ends i.answer.failed))));
      indented = item_is_indented _;
    }

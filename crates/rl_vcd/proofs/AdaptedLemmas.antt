-- An item is drawn as the transfer that the APB adapter made of it.
use Rattle.std.proofs.Common.{◌≡◌, ℕ, zero, suc, ◌+◌, ◌%◌, ◌^◌, ◌<◌, ◌==◌, ◌&&◌, nat_lt, Bool, true, false, if◌then◌else◌, List, [], ◌∷◌, ◌++◌, refl, sym, ap, ◌∙◌, arith}
use Rattle.rl_access.specs.declared.trace.TraceItem.{TraceItem}
use Rattle.rl_apb.specs.declared.pins.Pins.{Pins}
use Rattle.rl_bus.specs.Lanes.{all_lanes}
use Rattle.rl_bus.specs.declared.op.Answer.{Answer}
use Rattle.rl_bus.specs.declared.op.BusOp.{BusOp}
use Rattle.rl_bus.specs.declared.transfer.ApbResponse.{ApbResponse}
use Rattle.rl_bus.specs.declared.transfer.ApbTransfer.{ApbTransfer}
use Rattle.rl_vcd.specs.Adapted.{TransferIsDrawn, WentAs}
use Rattle.rl_vcd.specs.Dump.{access_text, cycle_text, label_text, transfer_text}
use Rattle.rl_vcd.specs.Items.{response_of, transfer_of}
use Rattle.rl_vcd.specs.Pins.{changes, idle, pins_at}
use Rattle.rl_vcd.specs.Signals.{joined}
use Rattle.rl_vcd.specs.declared.pins.Bus.{Bus}

narrow : (word : ℕ) → word < 2 ^ 32 → word % 2 ^ 32 ≡ word
narrow word small = omega (arith, small)

abbrev response_with : (word : ℕ) (failed : Bool) (waits serial : ℕ) → ApbResponse
response_with word failed waits serial = record { prdata = word; pslverr = failed; waits = waits; serial = serial }

response_is : (item : TraceItem) (t : ApbTransfer) (r : ApbResponse) → WentAs item t r → response_of item ≡ r
response_is item t r h =
    ap (λ (a : Answer). response_with (a.word % 2 ^ 32) a.failed 0 item.tag) (sym h.answers)
    ∙ ap (λ w. response_with w r.pslverr 0 item.tag) (narrow r.prdata h.read)
    ∙ ap (λ n. response_with r.prdata r.pslverr n item.tag) (sym h.at_once)
    ∙ ap (λ n. response_with r.prdata r.pslverr r.waits n) (sym h.tag ∙ sym h.replies)

abbrev transfer_with : (write : Bool) (address word lanes bytes serial : ℕ) → ApbTransfer
transfer_with write address word lanes bytes serial =
    record { write = write; paddr = address; pwdata = word; pstrb = lanes; bytes = bytes; serial = serial }

-- a read has no strobes on the pins, whatever its lanes are
abbrev with_lanes : ApbTransfer → ApbTransfer
with_lanes t = transfer_with t.write t.paddr t.pwdata (if t.write then t.pstrb else all_lanes t.bytes) t.bytes t.serial

transfer_is : (item : TraceItem) (t : ApbTransfer) (r : ApbResponse) → WentAs item t r → transfer_of item ≡ with_lanes t
transfer_is item t r h =
    let lanes = if t.write then t.pstrb else all_lanes t.bytes in
    ap (λ (o : BusOp). transfer_with o.write (o.address % 2 ^ 32) (o.word % 2 ^ 32) o.lanes o.bytes item.tag) (sym h.carries)
    ∙ ap (λ a. transfer_with t.write a (t.pwdata % 2 ^ 32) lanes t.bytes item.tag) (narrow t.paddr h.address)
    ∙ ap (λ w. transfer_with t.write t.paddr w lanes t.bytes item.tag) (narrow t.pwdata h.written)
    ∙ ap (λ n. transfer_with t.write t.paddr t.pwdata lanes t.bytes n) (sym h.tag)

-- ---- the pins

strobes : (write : Bool) (strobe lanes : ℕ) → (if write then (if write then strobe else lanes) else 0) ≡ (if write then strobe else 0)
strobes true strobe lanes = refl
strobes false strobe lanes = refl

abbrev pins_with : ApbTransfer → ApbResponse → (k strobe : ℕ) → Pins
pins_with t r k strobe = record {
  psel = true;
  penable = nat_lt 0 k;
  pwrite = t.write;
  pprot = 0;
  paddr = t.paddr;
  pwdata = if t.write then t.pwdata else 0;
  pstrb = strobe;
  pready = k == r.waits + 1;
  prdata = if k == r.waits + 1 then r.prdata else 0;
  pslverr = k == r.waits + 1 && r.pslverr;
}

same_pins : (t : ApbTransfer) (r : ApbResponse) (k : ℕ) → pins_at (with_lanes t) r k ≡ pins_at t r k
same_pins t r k = ap (pins_with t r k) (strobes t.write t.pstrb (all_lanes t.bytes))

-- ---- the text

same_access : (b : Bus) (t u : ApbTransfer) (r : ApbResponse) (n count : ℕ) → ((k : ℕ) → pins_at t r k ≡ pins_at u r k)
    → access_text b t r n count ≡ access_text b u r n count
same_access b t u r n zero same = refl
same_access b t u r n (suc k) same =
    ap (λ l. l ++ cycle_text (n + k + 1) (changes b (pins_at t r k) (pins_at t r (k + 1)))) (same_access b t u r n k same)
    ∙ ap (λ p. access_text b u r n k ++ cycle_text (n + k + 1) (changes b p (pins_at t r (k + 1)))) (same k)
    ∙ ap (λ p. access_text b u r n k ++ cycle_text (n + k + 1) (changes b (pins_at u r k) p)) (same (k + 1))

abbrev text_with : Bus → (label : List ℕ) → ApbResponse → (n : ℕ) → (first : Pins) → (access : List ℕ) → (last : Pins) → List ℕ
text_with b label r n first access last = joined (
    cycle_text n (joined (label_text label ∷ changes b idle first ∷ []))
    ∷ access
    ∷ cycle_text (n + r.waits + 2) (joined (changes b last idle ∷ label_text [] ∷ []))
    ∷ [])

same_text : (b : Bus) (label : List ℕ) (t u : ApbTransfer) (r : ApbResponse) (n : ℕ) → ((k : ℕ) → pins_at t r k ≡ pins_at u r k)
    → transfer_text b label t r n ≡ transfer_text b label u r n
same_text b label t u r n same =
    ap (λ p. text_with b label r n p (access_text b t r n (r.waits + 1)) (pins_at t r (r.waits + 1))) (same 0)
    ∙ ap (λ l. text_with b label r n (pins_at u r 0) l (pins_at t r (r.waits + 1))) (same_access b t u r n (r.waits + 1) same)
    ∙ ap (λ p. text_with b label r n (pins_at u r 0) (access_text b u r n (r.waits + 1)) p) (same (r.waits + 1))

pub transfer_is_drawn : TransferIsDrawn
transfer_is_drawn item t r h bus label n =
    ap (λ u. transfer_text bus label u (response_of item) n) (transfer_is item t r h)
    ∙ ap (λ s. transfer_text bus label (with_lanes t) s n) (response_is item t r h)
    ∙ same_text bus label (with_lanes t) t r n (same_pins t r)

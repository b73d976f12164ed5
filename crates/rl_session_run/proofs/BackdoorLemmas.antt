-- A description whose backdoors were taken away is as runnable as it was.
use Rattle.std.proofs.Common.{◌≡◌, ℕ, ◌<◌, Bool, true, false, List, map, slice_get, Result, Ok, Err, Some, None, IfSome, refl, sym, ap, subst, ◌∙◌}
use Rattle.std.specs.Prelude.{option_map}
use Rattle.std.specs.declared.option.Option.{Option}
use Rattle.std.proofs.lemmas.List.{length-map}
use Rattle.std.proofs.lemmas.Option.{slice_get-map}
use Rattle.rl_bus.specs.declared.op.AdapterKind.{AdapterKind}
use Rattle.rl_model.specs.declared.rows.Item.{Item}
use Rattle.rl_model.specs.declared.rows.Item.TheVariants.{Reg, Mem}
use Rattle.rl_model.specs.declared.rows.RegRow.{RegRow}
use Rattle.rl_model.specs.declared.rows.MemRow.{MemRow}
use Rattle.rl_model.specs.Rows.{ChipData}
use Rattle.rl_model.specs.Chip.{HasItem, bytes_of, closed_chip, closed_mem, closed_reg}
use Rattle.rl_map.specs.Layout.{LayoutData, place_at}
use Rattle.rl_map.specs.Maps.{IsBuiltWith}
use Rattle.rl_flaw.specs.declared.flaw.Flaw.{Flaw}
use Rattle.rl_flaw.specs.declared.flaw.Flaw.TheVariants.{OtherPolicy, OtherReset, Stuck, ErrorRange, ErrorNth, Deaf}
use Rattle.rl_flaw.specs.Flaws.{AreFlawsOf, IsFlawOf}
use Rattle.rl_desc.specs.Data.{DescData}
use Rattle.rl_report.specs.Reading.{Reading}
use Rattle.rl_log.specs.declared.status.Status.{Status}
use Rattle.rl_session_run.specs.Opening.{AwaitsScript, IsRunnable, OpensAs, opening_on, played_on}
use Rattle.rl_session_run.specs.Telling.{Stops}

-- ---- a chip

seen_through : {X Y : Type 0} (close : X → X) (part : X → Y) → ((x : X) → part (close x) ≡ part x) → (o : Option X)
    → option_map part (option_map close o) ≡ option_map part o
seen_through close part same None = refl
seen_through close part same (Some x) = ap Some (same x)

part_closed : {X Y : Type 0} (close : X → X) (part : X → Y) → ((x : X) → part (close x) ≡ part x) → (rows : List X) (n : ℕ)
    → option_map part (slice_get (map close rows) n) ≡ option_map part (slice_get rows n)
part_closed close part same rows n =
    ap (option_map part) (slice_get-map close rows n) ∙ seen_through close part same (slice_get rows n)

bytes_closed : (c : ChipData) (i : Item) → bytes_of (closed_chip c) i ≡ bytes_of c i
bytes_closed c (Reg n) = part_closed closed_reg (λ (r : RegRow). r.bytes) (λ r. refl) c.regs n
bytes_closed c (Mem n) = part_closed closed_mem (λ (m : MemRow). m.bytes) (λ m. refl) c.mems n

item_closed : (c : ChipData) (i : Item) → HasItem c i → HasItem (closed_chip c) i
item_closed c (Reg n) h = subst (λ k. n < k) (sym (length-map c.regs closed_reg)) h
item_closed c (Mem n) h = subst (λ k. n < k) (sym (length-map c.mems closed_mem)) h

-- ---- its layout and its flaws

built_closed : (l : LayoutData) (c : ChipData) → IsBuiltWith l c → IsBuiltWith l (closed_chip c)
built_closed l c built = λ place low.
    let here = built place low in (
      bytes_closed c (place_at l place).item ∙ here.0,
      λ m is. part_closed closed_mem (λ (m : MemRow). m.size) (λ m. refl) c.mems m ∙ here.1 m is,
    )

flaw_closed : (c : ChipData) (l : LayoutData) (f : Flaw) → IsFlawOf c l f → IsFlawOf (closed_chip c) l f
flaw_closed c l (OtherPolicy f p) h = h
flaw_closed c l (OtherReset f k v) h = h
flaw_closed c l (Stuck f b v) h = h
flaw_closed c l (ErrorRange p a b) h = h
flaw_closed c l (ErrorNth n) h = h
flaw_closed c l (Deaf i) h = item_closed c i h

flaws_closed : (c : ChipData) (l : LayoutData) (flaws : List Flaw) → AreFlawsOf c l flaws → AreFlawsOf (closed_chip c) l flaws
flaws_closed c l flaws are = λ k d low. flaw_closed c l _ (are k d low)

-- ---- a session

runnable_on : (backdoor : Bool) (desc : DescData) (kinds : List AdapterKind) → IsRunnable desc kinds → IsRunnable (played_on backdoor desc) kinds
runnable_on true desc kinds r = r
runnable_on false desc kinds r = record {
  same_kinds = r.same_kinds;
  built_with = built_closed desc.layout desc.chip r.built_with;
  flaws = flaws_closed desc.chip desc.layout desc.flaws r.flaws;
}

fitted : (backdoor has : Bool) (desc played : DescData) → played ≡ played_on has desc → has ≡ backdoor → played ≡ played_on backdoor desc
fitted backdoor has desc played is same = is ∙ ap (λ b. played_on b desc) same

pub awaits_on : (has : Bool) (desc played : DescData) (lines : Reading) (kinds : List AdapterKind) → AwaitsScript desc lines kinds
    → played ≡ played_on has desc → AwaitsScript played lines kinds
awaits_on has desc played lines kinds a is =
    subst (λ (d : DescData). AwaitsScript d lines kinds) (sym is) (record { runnable = runnable_on has desc kinds a.runnable; behind = a.behind })

stops_by : (backdoor : Bool) (opening : Result DescData (List ℕ)) (status : Status) (old new : Option (List ℕ))
    → Stops opening status old new → Stops (opening_on backdoor opening) status old new
stops_by true opening status old new s = s
stops_by false (Ok desc) status old new s = s
stops_by false (Err line) status old new s = s

pub stops_on : (backdoor : Bool) (input : Option (List ℕ)) (opening : List ℕ → Result DescData (List ℕ)) (status : Status) (old new : Option (List ℕ))
    → IfSome input (λ bytes. Stops (opening bytes) status old new)
    → IfSome input (λ bytes. Stops (opening_on backdoor (opening bytes)) status old new)
stops_on backdoor None opening status old new s = tt
stops_on backdoor (Some bytes) opening status old new s = stops_by backdoor (opening bytes) status old new s

opened_on : (backdoor : Bool) (desc : DescData) → opening_on backdoor (Ok desc) ≡ Ok (played_on backdoor desc)
opened_on true desc = refl
opened_on false desc = refl

opens_by : (backdoor : Bool) (opening : Result DescData (List ℕ)) (bytes : List ℕ) (desc played : DescData) (lines : Reading) (left : Option (List ℕ))
    → OpensAs opening bytes desc lines left → played ≡ played_on backdoor desc → OpensAs (opening_on backdoor opening) bytes played lines left
opens_by backdoor opening bytes desc played lines left o is =
    record { opening = ap (opening_on backdoor) o.opening ∙ opened_on backdoor desc ∙ ap Ok (sym is); rest = o.rest }

pub opens_on : (backdoor has : Bool) (input : Option (List ℕ)) (opening : List ℕ → Result DescData (List ℕ)) (desc played : DescData)
    (lines : Reading) (left : Option (List ℕ)) → IfSome input (λ bytes. OpensAs (opening bytes) bytes desc lines left)
    → played ≡ played_on has desc → has ≡ backdoor
    → IfSome input (λ bytes. OpensAs (opening_on backdoor (opening bytes)) bytes played lines left)
opens_on backdoor has None opening desc played lines left o is same = tt
opens_on backdoor has (Some bytes) opening desc played lines left o is same =
    opens_by backdoor (opening bytes) bytes desc played lines left o (fitted backdoor has desc played is same)

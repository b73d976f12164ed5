-- From agreement, both sides of a bank follow the index to the same entry.
use Rattle.std.proofs.Common.{◌≡◌, ℕ, ◌^◌, ◌<◌, ◌≤◌, Bool, true, false, not, ◌&&◌, cond, eqb, eq-eqb, nat_lt, List, length, length-set}
use Rattle.std.proofs.Common.{Option, None, Some, option_map, Ok, Err, MatchResult, refl, sym, ap, ◌∙◌, subst, arith}
use Rattle.std.specs.Prelude.{All, slice_index, slice_set, nat_le}
use Rattle.std.specs.Option.{option_map_or}
use Rattle.std.proofs.lemmas.Bool.Decides.{nat_tests}
use Rattle.std.proofs.lemmas.List.{get_or-set_other, set-get_or}
use Rattle.std.proofs.lemmas.List.Elements.{All-same, All-get_or}
use Rattle.rl_policy.specs.declared.policy.Policy.{Policy}
use Rattle.rl_policy.specs.declared.policy.Policy.TheVariants.{Rw}
use Rattle.rl_bus.specs.State.{State, peeked, poked}
use Rattle.rl_bus.specs.declared.table.Cell.TheVariants as cell
use Rattle.rl_model.specs.Fields.{fields_of, field_in}
use Rattle.rl_model.specs.Rows.{ChipData}
use Rattle.rl_mirror.specs.Mirror.{IsValueOf, mirrored_of}
use Rattle.rl_access.specs.declared.event.End.TheVariants as end
use Rattle.rl_access.specs.declared.event.Event.{Event}
use Rattle.rl_access.specs.declared.event.Op.TheVariants as op
use Rattle.rl_access.specs.Call.{Scene, IsDone, IsRefused, Performs}
use Rattle.rl_access.specs.Model.{ModelData, IsModel}
use Rattle.rl_access.specs.Operation.{IsMapIn}
use Rattle.rl_access.specs.Rules.{Grant, grant, taking_raw}
use Rattle.rl_access.specs.Tally.{is_bus_error}
use Rattle.rl_access.specs.Gathering.{IsNothingGathered}
use Rattle.rl_plain.specs.Agree.{Agree, IsAsBelieved}
use Rattle.rl_plain.specs.Believed.{IsBelievedDeposit, IsStored, IsTakenOver}
use Rattle.rl_plain.proofs.Backdoor.{peeked_is}
use Rattle.rl_plain.proofs.Believed.{access_is_believed, deposit_is_believed, write_is_stored}
use Rattle.rl_indirect.specs.Agree.{BankAgree, KeepsEntries}
use Rattle.rl_indirect.specs.Bank.{EntryData, BankData, IsSide, IsBank, IsBankOf, SettlesDevice, bank_believed, device_settled, entries_believed}
use Rattle.rl_indirect.specs.Bank.{entries_of, model_believed, selecting, selects_other, settled}
use Rattle.rl_indirect.specs.Indexed.{is_done}
use Rattle.rl_indirect.specs.Window.{is_rw}
use Rattle.rl_indirect.proofs.Found.{not_other, is_other}
use Rattle.rl_indirect.proofs.Windows.{window_parts}

-- ---- lists that differ in one element at most

pub same_elsewhere : (xs ys : List ℕ) (i k x : ℕ) → slice_set xs i x ≡ slice_set ys i x → (k ≡ i → ⊥) → slice_index xs k ≡ slice_index ys k
same_elsewhere xs ys i k x same other = sym (get_or-set_other xs i k x 0 other) ∙ ap (λ (l : List ℕ). slice_index l k) same ∙ get_or-set_other ys i k x 0 other

-- ---- what a device that agrees has

pub peeked_believed : (s : Scene) (a : Agree s) (reg : ℕ) → reg < length s.model.chip.regs → peeked a.device (cell.Reg reg) ≡ mirrored_of s.model.mirror reg
peeked_believed s a reg inside = peeked_is a.device reg ∙ (a.believed_is.holds reg inside).bits

pub same_device : (s : Scene) (a : Agree s) (d : State) → s.device ≡ Some d → d ≡ a.device
same_device s a d told = let both : Some d ≡ Some a.device = sym told ∙ a.told in cc

abbrev pub same_agree : (s t : Scene) → Agree s → t.device ≡ s.device → t.model ≡ s.model → Agree t
same_agree s t a device model = record {
  device = a.device;
  told = device ∙ a.told;
  believed_is = subst (λ (m : ModelData). IsAsBelieved m.chip m.layout m.mirror a.device) (sym model) a.believed_is;
  gathered = subst (λ (m : ModelData). IsNothingGathered m.gathered) (sym model) a.gathered;
}

pub same_bank : (s t : Scene) (b : BankData) → BankAgree s b → t.device ≡ s.device → t.model ≡ s.model → BankAgree t b
same_bank s t b h device model = record {
  agree = same_agree s t h.agree device model;
  entries = h.entries ∙ sym (ap (entries_believed b) model);
  values = All-same (IsValueOf t.model.chip b.window.data_reg) _ _ (ap (entries_believed b) model)
      (subst (λ (m : ModelData). All (IsValueOf m.chip b.window.data_reg) (entries_believed b s.model)) (sym model) h.values);
  device = h.device ∙ sym (ap (λ (m : ModelData). mirrored_of m.mirror b.window.index_reg) model);
  model = h.model ∙ sym (ap (λ (m : ModelData). mirrored_of m.mirror b.window.index_reg) model);
}

-- ---- both sides at once

-- what stands before the two sides follow index k, and after it
pub record Meets (w : Scene) (b : BankData) (k : ℕ) : Type 0 where
  pub agree : Agree w
  pub model : IsModel w.model
  pub bank : IsBank b
  pub index_reg : b.window.index_reg < length w.model.chip.regs
  pub data_reg : b.window.data_reg < length w.model.chip.regs
  pub apart : b.window.index_reg ≡ b.window.data_reg → ⊥
  pub inside : k < b.size
  pub index : mirrored_of w.model.mirror b.window.index_reg ≡ k
  pub selected : b.device.selected ≡ b.model.selected
  pub entries : entries_of b.device (mirrored_of w.model.mirror b.window.data_reg) ≡ entries_believed b w.model
  pub values : All (IsValueOf w.model.chip b.window.data_reg) (entries_believed b w.model)

pub record Followed (w t : Scene) (b new : BankData) (k : ℕ) : Type 0 where
  pub agree : BankAgree t new
  pub entries : entries_believed new t.model ≡ entries_believed b w.model
  pub selected : new.model.selected ≡ k

-- the bank with other sides
abbrev pub with_sides : BankData → EntryData → EntryData → BankData
with_sides b d m = record b { device = d; model = m }

same_test : (size : ℕ) (d m : EntryData) (k : ℕ) → IsSide size d → IsSide size m → d.selected ≡ m.selected → selects_other d k ≡ selects_other m k
same_test size d m k left right same =
    ap (λ n. nat_lt k n && not (eqb k d.selected)) (left.many ∙ sym right.many) ∙ ap (λ i. nat_lt k (length m.kept) && not (eqb k i)) same

-- entry k goes into the data register on both sides
moves : (w t : Scene) (b : BankData) (k : ℕ) → Meets w b k → (k ≡ b.model.selected → ⊥)
    → t.device ≡ option_map (λ s. poked s (cell.Reg b.window.data_reg) (slice_index b.device.kept k)) w.device
    → t.model ≡ taking_raw w.model b.window.data_reg (slice_index b.model.kept k)
    → Followed w t b (with_sides b (selecting b.device (mirrored_of w.model.mirror b.window.data_reg) k) (selecting b.model (mirrored_of w.model.mirror b.window.data_reg) k)) k
moves w t b k meets other device model =
    let reg = b.window.data_reg in
    let c = w.model.chip in
    let x = mirrored_of w.model.mirror reg in
    let v = slice_index b.model.kept k in
    let old : List ℕ = entries_believed b w.model in
    let before : slice_set b.device.kept b.model.selected x ≡ slice_set b.model.kept b.model.selected x =
    ap (λ i. slice_set b.device.kept i x) (sym meets.selected) ∙ meets.entries in
    let same : slice_index b.device.kept k ≡ v = same_elsewhere b.device.kept b.model.kept b.model.selected k x before other in
    let entry : slice_index old k ≡ v = get_or-set_other b.model.kept b.model.selected k x 0 other in
    let many : length old ≡ b.size = length-set b.model.kept b.model.selected x ∙ meets.bank.model.many in
    let value : IsValueOf c reg v = subst (IsValueOf c reg) entry (All-get_or (IsValueOf c reg) old k 0 (subst (λ n. k < n) (sym many) meets.inside) meets.values) in
    let taken : IsTakenOver w t reg v = record { device = device ∙ ap (λ n. option_map (λ (s : State). poked s (cell.Reg reg) n) w.device) same; model = model } in
    let deposit : IsBelievedDeposit w t reg v = deposit_is_believed w t reg v meets.data_reg meets.model meets.agree taken in
    let chip : t.model.chip ≡ c = ap (λ (m : ModelData). m.chip) model in
    let here : mirrored_of t.model.mirror reg ≡ v = deposit.here ∙ sym value.owned in
    let index : k ≡ mirrored_of t.model.mirror b.window.index_reg = sym (deposit.others b.window.index_reg meets.index_reg meets.apart ∙ meets.index) in
    let there : peeked deposit.agree.device (cell.Reg reg) ≡ mirrored_of t.model.mirror reg =
    peeked_believed t deposit.agree reg (subst (λ (h : ChipData). reg < length h.regs) (sym chip) meets.data_reg) in
    let kept : slice_set old k (mirrored_of t.model.mirror reg) ≡ old =
    ap (slice_set old k) (here ∙ sym entry) ∙ set-get_or old k 0 in
    record {
      agree = record {
        agree = deposit.agree;
        entries = ap (λ n. slice_set (slice_set b.device.kept b.device.selected x) k n) there ∙ ap (λ (l : List ℕ). slice_set l k (mirrored_of t.model.mirror reg)) meets.entries;
        values = All-same (IsValueOf t.model.chip reg) _ old kept (subst (λ (h : ChipData). All (IsValueOf h reg) old) (sym chip) meets.values);
        device = index;
        model = index;
      };
      entries = kept;
      selected = refl;
    }

-- entry k was in it before
stays : (w t : Scene) (b : BankData) (k : ℕ) → Meets w b k → k ≡ b.model.selected → t.device ≡ w.device → t.model ≡ w.model → Followed w t b (with_sides b b.device b.model) k
stays w t b k meets same device model =
    let reg = b.window.data_reg in
    let entries : entries_believed b t.model ≡ entries_believed b w.model = ap (entries_believed b) model in
    let index : k ≡ mirrored_of t.model.mirror b.window.index_reg = sym (ap (λ (m : ModelData). mirrored_of m.mirror b.window.index_reg) model ∙ meets.index) in
    record {
      agree = record {
        agree = same_agree w t meets.agree device model;
        entries = ap (entries_of b.device) (peeked_believed w meets.agree reg meets.data_reg) ∙ meets.entries ∙ sym entries;
        values = All-same (IsValueOf t.model.chip reg) _ _ entries (subst (λ (m : ModelData). All (IsValueOf m.chip reg) (entries_believed b w.model)) (sym model) meets.values);
        device = meets.selected ∙ sym same ∙ index;
        model = sym same ∙ index;
      };
      entries = entries;
      selected = sym same;
    }

none_moved : (told : Option State) → option_map (λ (s : State). s) told ≡ told
none_moved None = refl
none_moved (Some d) = refl

-- by whether k is another entry than the selected one
both_by : (w t : Scene) (b : BankData) (k : ℕ) (other : Bool) → Meets w b k → selects_other b.model k ≡ other
    → t.device ≡ option_map (λ s. option_map_or (λ value. poked s (cell.Reg b.window.data_reg) value) (cond other (Some (slice_index b.device.kept k)) None) s) w.device
    → t.model ≡ option_map_or (λ value. taking_raw w.model b.window.data_reg value) (cond other (Some (slice_index b.model.kept k)) None) w.model
    → Followed w t b (with_sides b (cond other (selecting b.device (mirrored_of w.model.mirror b.window.data_reg) k) b.device)
    (cond other (selecting b.model (mirrored_of w.model.mirror b.window.data_reg) k) b.model)) k
both_by w t b k true meets test device model = moves w t b k meets (is_other b.model k test) device model
both_by w t b k false meets test device model =
    stays w t b k meets (not_other b.model k (subst (λ n. k < n) (sym meets.bank.model.many) meets.inside) test) (device ∙ none_moved w.device) model

pub both_follow : (w t : Scene) (b new : BankData) (k : ℕ) → Meets w b k → t.device ≡ option_map (device_settled b k) w.device → t.model ≡ model_believed b w.model k
    → new ≡ with_sides b (settled b.device (mirrored_of w.model.mirror b.window.data_reg) k) (settled b.model (mirrored_of w.model.mirror b.window.data_reg) k) → Followed w t b new k
both_follow w t b new k meets device model is =
    let x = mirrored_of w.model.mirror b.window.data_reg in
    let test : selects_other b.device k ≡ selects_other b.model k = same_test b.size b.device b.model k meets.bank.device meets.bank.model meets.selected in
    let there = device ∙ ap (λ t. option_map (λ (s : State). option_map_or (λ value. poked s (cell.Reg b.window.data_reg) value) (cond t (Some (slice_index b.device.kept k)) None) s) w.device) test in
    let sides : new ≡ with_sides b (cond (selects_other b.model k) (selecting b.device x k) b.device) (settled b.model x k) =
    is ∙ ap (λ t. with_sides b (cond t (selecting b.device x k) b.device) (settled b.model x k)) test in
    subst (λ (n : BankData). Followed w t b n k) (sym sides) (both_by w t b k (selects_other b.model k) meets refl there model)

-- ---- the index register

rw_is : (p : Policy) → is_rw p ≡ true → p ≡ Rw
rw_is Rw e = refl
rw_is _ e = absurd (cc)

both_true : (x y : Bool) → (x && y) ≡ true → (x ≡ true) × (y ≡ true)
both_true true true e = (refl, refl)
both_true true false e = absurd (cc)
both_true false y e = absurd (cc)

eqb_is : (x y : ℕ) → eqb x y ≡ true → x ≡ y
eqb_is x y e = grind (arith, nat_tests)

le_is : (x y : ℕ) → nat_le x y ≡ true → x ≤ y
le_is x y e = grind (arith, nat_tests)

-- it stores what is written, and k fits
pub record IsIndexFor (c : ChipData) (reg k : ℕ) : Type 0 where
  pub width : ℕ
  pub stored : IsStored c reg width
  pub fits : k < 2 ^ width

pub index_of : (c : ChipData) (b : BankData) (k : ℕ) → IsBankOf c b → k < b.size → IsIndexFor c b.window.index_reg k
index_of c b k of inside =
    let reg = b.window.index_reg in
    let parts = window_parts c b.window b.size of.window in
    let one = both_true _ _ parts.index in
    let shape = both_true _ _ one.1 in
    let low = both_true _ _ shape.0 in
    let sizes = both_true _ _ parts.size_is in
    let most : b.size ≤ 2 ^ (field_in (fields_of c reg) 0).shape.width = le_is _ _ sizes.1 in
    record {
      width = (field_in (fields_of c reg) 0).shape.width;
      stored = record { one = eqb_is _ _ one.0; lsb = eqb_is _ _ low.0; width_is = refl; policy = rw_is _ low.1 };
      fits = omega arith;
    }

-- ---- the index register is accessed

-- what stands once the write was done
after_write : (s w : Scene) (b : BankData) (k : ℕ) (map : Option ℕ) (event : Event) (place : ℕ) → (h : BankAgree s b) → IsModel s.model → IsModel w.model → IsBankOf s.model.chip b → IsBank b →
    IsMapIn (length s.model.layout.maps) map → k < b.size
    → grant s.model (op.Write b.window.index_reg map k) ≡ Ok place → Performs s w (op.Write b.window.index_reg map k) event → (Meets w b k) × (event.end ≡ end.Done) × (entries_believed b w.model ≡
    entries_believed b s.model)
after_write s w b k map event place h ok later of bank mapped inside granted performs =
    let reg = b.window.data_reg in
    let c = s.model.chip in
    let i = index_of c b k of inside in
    let apart = (window_parts c b.window b.size of.window).apart in
    let st = access_is_believed s w (op.Write b.window.index_reg map k) event place b.window.index_reg tt (of.index_reg, mapped) refl ok h.agree granted performs in
    let done : event.end ≡ end.Done = st.ends in
    let index = write_is_stored s w event b.window.index_reg i.width k map of.index_reg mapped i.stored i.fits ok h.agree performs done in
    let still : mirrored_of w.model.mirror reg ≡ mirrored_of s.model.mirror reg = st.others reg of.data_reg (λ same. apart (sym same)) in
    let entries : entries_believed b w.model ≡ entries_believed b s.model = ap (entries_of b.model) still in
    let there : entries_of b.device (mirrored_of s.model.mirror reg) ≡ entries_believed b s.model =
    ap (entries_of b.device) (sym (peeked_believed s h.agree reg of.data_reg)) ∙ h.entries in (
      record {
        agree = st.agree;
        model = later;
        bank = bank;
        index_reg = subst (λ (x : ChipData). b.window.index_reg < length x.regs) (sym st.same.chip) of.index_reg;
        data_reg = subst (λ (x : ChipData). reg < length x.regs) (sym st.same.chip) of.data_reg;
        apart = apart;
        inside = inside;
        index = index;
        selected = h.device ∙ sym h.model;
        entries = ap (entries_of b.device) still ∙ there ∙ sym entries;
        values = All-same (IsValueOf w.model.chip reg) _ _ entries (subst (λ (x : ChipData). All (IsValueOf x reg) (entries_believed b s.model)) (sym st.same.chip) h.values);
      },
      done,
      entries,
    )

-- where the write was refused neither side follows
refused_stays : (s t : Scene) (b new : BankData) (i held : ℕ) → (h : BankAgree s b) → i ≡ b.device.selected → t.device ≡ option_map (device_settled b i) s.device → t.model ≡ s.model
    → new ≡ record b { device = settled b.device held i } → (t.device ≡ s.device) × (new ≡ b)
refused_stays s t b new i held h same device model is =
    let off : selects_other b.device i ≡ false = by (nat_lt i (length b.device.kept)) in (
      device ∙ ap (λ t. option_map (λ (s : State). option_map_or (λ value. poked s (cell.Reg b.window.data_reg) value) (cond t (Some (slice_index b.device.kept i)) None) s) s.device) off ∙ none_moved
          s.device,
      is ∙ ap (λ t. let x : BankData = record b { device = cond t (selecting b.device held i) b.device } in x) off,
    )
  where
    by : (t : Bool) → (t && not (eqb i b.device.selected)) ≡ false
    by true = ap not (eq-eqb i b.device.selected same)
    by false = refl

selection_by : (s w t : Scene) (b half new : BankData) (map : Option ℕ) (k : ℕ) (index : Event) → (h : BankAgree s b) → IsModel s.model → IsModel w.model →
    Performs s w (op.Write b.window.index_reg map k) index
    → SettlesDevice b half w.device t.device → t.model ≡ cond (is_done index.end) (model_believed half w.model k) w.model → new ≡ cond (is_done index.end) (bank_believed half w.model k) half
    → IsBankOf s.model.chip b → IsBank b → IsMapIn (length s.model.layout.maps) map → k < b.size → (g : Grant) → grant s.model (op.Write b.window.index_reg map k) ≡ g → KeepsEntries s t b new k index
selection_by s w t b half_new new map k index h ok later performs device_is model_is bank_is of bank mapped inside (Ok place) granted =
    let wm = w.model in
    let x = mirrored_of wm.mirror b.window.data_reg in
    let aw = after_write s w b k map index place h ok later of bank mapped inside granted performs in
    let meets = aw.0 in
    let on : is_done index.end ≡ true = ap is_done aw.1 in
    let i : device_is.index ≡ k = device_is.index_found meets.agree.device meets.agree.told ∙ peeked_believed w meets.agree b.window.index_reg meets.index_reg ∙ meets.index in
    let held : device_is.held ≡ x = device_is.held_found meets.agree.device meets.agree.told ∙ peeked_believed w meets.agree b.window.data_reg meets.data_reg in
    let half : half_new ≡ with_sides b (settled b.device x k) b.model =
    device_is.bank ∙ ap (λ n. with_sides b (settled b.device n device_is.index) b.model) held ∙ ap (λ n. with_sides b (settled b.device x n) b.model) i in
    let device : t.device ≡ option_map (device_settled b k) w.device = device_is.goes ∙ ap (λ n. option_map (device_settled b n) w.device) i in
    let model : t.model ≡ model_believed b wm k = model_is ∙ ap (λ t. cond t (model_believed half_new wm k) wm) on ∙ ap (λ (n : BankData). model_believed n wm k) half in
    let sides : new ≡ with_sides b (settled b.device x k) (settled b.model x k) = bank_is ∙ ap (λ t. cond t (bank_believed half_new wm k) half_new) on ∙ ap (λ (n : BankData). bank_believed n wm k)
    half in
    let f = both_follow w t b new k meets device model sides in
    record { agree = f.agree; entries = f.entries ∙ aw.2; selected = λ done. f.selected; no_error = ap is_bus_error aw.1 }
selection_by s w t b half_new new map k index h ok later performs device_is model_is bank_is of bank mapped inside (Err why) refused =
    let is : IsRefused s w (op.Write b.window.index_reg map k) why index =
    subst (λ (g : Grant). MatchResult g (λ p. IsDone s w (op.Write b.window.index_reg map k) p index) (λ why. IsRefused s w (op.Write b.window.index_reg map k) why index)) refused performs in
    let ends : index.end ≡ end.Refused why = ap (λ (e : Event). e.end) is.event_is in
    let off : is_done index.end ≡ false = ap is_done ends in
    let told : w.device ≡ s.device = ap (λ (x : Scene). x.device) is.unchanged in
    let model : t.model ≡ s.model = model_is ∙ ap (λ t. cond t (model_believed half_new w.model k) w.model) off ∙ ap (λ (x : Scene). x.model) is.unchanged in
    let i : device_is.index ≡ b.device.selected = device_is.index_found h.agree.device (told ∙ h.agree.told) ∙ peeked_believed s h.agree b.window.index_reg of.index_reg ∙ sym h.device in
    let goes : t.device ≡ option_map (device_settled b device_is.index) s.device = device_is.goes ∙ ap (option_map (device_settled b device_is.index)) told in
    let r = refused_stays s t b half_new device_is.index device_is.held h i goes model device_is.bank in
    let same : new ≡ b = bank_is ∙ ap (λ t. cond t (bank_believed half_new w.model k) half_new) off ∙ r.1 in
    record {
      agree = subst (BankAgree t) (sym same) (same_bank s t b h r.0 model);
      entries = ap (λ (n : BankData). entries_believed n t.model) same ∙ ap (entries_believed b) model;
      selected = λ done. absurd (cc);
      no_error = ap is_bus_error ends;
    }

pub selection : (s w t : Scene) (b half new : BankData) (map : Option ℕ) (k : ℕ) (index : Event) → BankAgree s b → IsModel s.model → IsModel w.model → Performs s w (op.Write b.window.index_reg map k)
    index
    → SettlesDevice b half w.device t.device → t.model ≡ cond (is_done index.end) (model_believed half w.model k) w.model → new ≡ cond (is_done index.end) (bank_believed half w.model k) half
    → IsBankOf s.model.chip b → IsBank b → IsMapIn (length s.model.layout.maps) map → k < b.size → KeepsEntries s t b new k index
selection s w t b half new map k index h ok later performs device model bank_is of bank mapped inside =
    selection_by s w t b half new map k index h ok later performs device model bank_is of bank mapped inside (grant s.model (op.Write b.window.index_reg map k)) refl

-- the register that was written is the index register
pub selection_at : (s w t : Scene) (b half new : BankData) (map : Option ℕ) (k reg : ℕ) (index : Event) → reg ≡ b.window.index_reg → Performs s w (op.Write reg map k) index → BankAgree s b →
    IsModel s.model → IsModel w.model
    → SettlesDevice b half w.device t.device → t.model ≡ cond (is_done index.end) (model_believed half w.model k) w.model → new ≡ cond (is_done index.end) (bank_believed half w.model k) half
    → IsBankOf s.model.chip b → IsBank b → IsMapIn (length s.model.layout.maps) map → k < b.size → KeepsEntries s t b new k index
selection_at s w t b half new map k reg index same performs h ok later device model bank_is of bank mapped inside =
    selection s w t b half new map k index h ok later (subst (λ r. Performs s w (op.Write r map k) index) same performs) device model bank_is of bank mapped inside

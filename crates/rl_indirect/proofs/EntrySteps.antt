-- From agreement, an access to the data register is one step of the selected entry.
use Rattle.std.proofs.Common.{◌≡◌, ℕ, ◌<◌, Bool, true, false, not, ◌&&◌, cond, List, [], length, Option, None, Some, Ok, Err, MatchResult, refl, sym, ap, ◌∙◌, subst, arith}
use Rattle.std.specs.Prelude.{All, slice_index, slice_set}
use Rattle.std.proofs.lemmas.List.{get_or-set_same, set-set}
use Rattle.std.proofs.lemmas.List.Elements.{All-same, All-set}
use Rattle.std.proofs.lemmas.List.Sums.{AllPass-from_list_all}
use Rattle.rl_policy.specs.Table.{after_write, spends_mark}
use Rattle.rl_policy.specs.declared.policy.Policy.{Policy}
use Rattle.rl_policy.specs.declared.policy.Policy.TheVariants.{W1, Wo1}
use Rattle.rl_bus.specs.State.{peeked}
use Rattle.rl_bus.specs.declared.table.Cell.TheVariants as cell
use Rattle.rl_model.specs.Fields.{fields_of, field_in, no_field, policy_in}
use Rattle.rl_model.specs.Rows.{FieldSeen, ChipData}
use Rattle.rl_split.specs.Step.{Register, every, ranswer}
use Rattle.rl_mirror.specs.Mirror.{IsValueOf, mirrored_of}
use Rattle.rl_access.specs.declared.event.End.{End}
use Rattle.rl_access.specs.declared.event.End.TheVariants as end
use Rattle.rl_access.specs.declared.event.Event.{Event}
use Rattle.rl_access.specs.declared.event.Op.{Op}
use Rattle.rl_access.specs.declared.event.Op.TheVariants as op
use Rattle.rl_access.specs.Call.{Scene, IsDone, IsRefused, Performs}
use Rattle.rl_access.specs.Model.{ModelData, IsModel}
use Rattle.rl_access.specs.Operation.{HasNumbers, IsMapIn, register_of}
use Rattle.rl_access.specs.declared.event.Refused.{Refused}
use Rattle.rl_access.specs.Rules.{Grant, grant, named, event_at, quiet, refused_event}
use Rattle.rl_access.specs.Tally.{is_bus_error}
use Rattle.rl_plain.specs.Agree.{believed}
use Rattle.rl_plain.specs.OneStep.{Step, write_step, read_step, no_step, IsAccess, end_of, register_after, step_of}
use Rattle.rl_plain.proofs.Believed.{access_is_believed}
use Rattle.rl_plain.proofs.Masters.{written_by, left_alike, answers_alike}
use Rattle.rl_indirect.specs.declared.window.Window.{Window}
use Rattle.rl_indirect.specs.declared.indexed.Indexed.TheVariants.{At, AtIndex, NoSuchEntry}
use Rattle.rl_indirect.specs.Agree.{BankAgree, IsEntryStep, KeepsEntries, entries_stepped, entry_at, is_refused}
use Rattle.rl_indirect.specs.Bank.{BankData, IsBank, IsBankOf, entries_believed, entries_of}
use Rattle.rl_indirect.specs.Indexed.{is_done}
use Rattle.rl_indirect.specs.Window.{is_data_field}
use Rattle.rl_indirect.proofs.Following.{peeked_believed, same_bank}
use Rattle.rl_indirect.proofs.Windows.{window_parts}

-- ---- marks don't count where no field takes its first write alone

unmarked : (p : Policy) (x w s t : Bool) → spends_mark p ≡ false → after_write p x w s ≡ after_write p x w t
unmarked W1 x w s t e = absurd (cc)
unmarked Wo1 x w s t e = absurd (cc)
unmarked _ x w s t e = refl

pub record HasNoMark (fs : List FieldSeen) : Type 0 where
  pub none : (k : ℕ) → k < length fs → spends_mark (policy_in fs k) ≡ false

not_true : (x y : Bool) → (not x && y) ≡ true → x ≡ false
not_true true y e = absurd (cc)
not_true false y e = refl

pub data_unmarked : (c : ChipData) (b : BankData) → IsBankOf c b → HasNoMark (fields_of c b.window.data_reg)
data_unmarked c b of =
    let fs = fields_of c b.window.data_reg in
    let all = AllPass-from_list_all (λ (f : FieldSeen). is_data_field f.shape) fs (window_parts c b.window b.size of.window).data_is in
    record { none = λ k low. not_true (spends_mark (policy_in fs k)) (not (field_in fs k).shape.volatile) (all k no_field low) }

after_same : (fs : List FieldSeen) (step : Step) (r q : Register) → HasNoMark fs → r.bits ≡ q.bits → (register_after fs step r).bits ≡ (register_after fs step q).bits
after_same fs (write_step chosen word) r q free e =
    written_by fs chosen word r q e (λ k old new low. unmarked (policy_in fs k) old new (r.spent k) (q.spent k) (free.none k low))
after_same fs (read_step chosen) r q free e = left_alike fs chosen r q e
after_same fs no_step r q free e = e

-- ---- the data register is accessed

-- an access to the data register, of which the step is this one
pub record IsOnData (m : ModelData) (o : Op) (reg : ℕ) (step : Step) : Type 0 where
  pub access : IsAccess o
  pub numbers : HasNumbers m.chip (length m.layout.maps) o
  pub register : register_of m.chip o ≡ Some reg
  pub step_is : (place : ℕ) → step_of m o place ≡ step
  -- what it ends by is no refusal, and a value read is what the register answers
  pub granted : (place : ℕ) (r : Register) → is_refused (end_of m o place r) ≡ false
  pub answers : (place : ℕ) (r : Register) (read : ℕ) → end_of m o place r ≡ end.Value read → read ≡ ranswer (fields_of m.chip reg) every r

pub on_write : (m : ModelData) (reg value : ℕ) (map : Option ℕ) → reg < length m.chip.regs → IsMapIn (length m.layout.maps) map → IsOnData m (op.Write reg map value) reg (write_step every value)
on_write m reg value map inside mapped = record {
  access = tt;
  numbers = (inside, mapped);
  register = refl;
  step_is = λ place. refl;
  granted = λ place r. refl;
  answers = λ place r read e. absurd (cc);
}

read_is : (n read : ℕ) → end.Value n ≡ end.Value read → read ≡ n
read_is n read e = cc

pub on_read : (m : ModelData) (reg : ℕ) (map : Option ℕ) (check : Bool) → reg < length m.chip.regs → IsMapIn (length m.layout.maps) map →
    IsOnData m (cond check (op.Check reg map) (op.Mirror reg map)) reg (read_step every)
on_read m reg map true inside mapped =
    record { access = tt; numbers = (inside, mapped); register = refl; step_is = λ place. refl; granted = λ place r. refl; answers = λ place r read e. read_is _ read e }
on_read m reg map false inside mapped =
    record { access = tt; numbers = (inside, mapped); register = refl; step_is = λ place. refl; granted = λ place r. refl; answers = λ place r read e. read_is _ read e }

-- what it leaves of a bank whose entry k is in the data register
pub record IsDataStep (s t : Scene) (b : BankData) (k : ℕ) (step : Step) (access : Event) : Type 0 where
  pub agree : BankAgree t b
  pub entries : entries_believed b t.model ≡ cond (is_refused access.end) (entries_believed b s.model) (entries_stepped b s.model k step)
  pub reads : (read : ℕ) → access.end ≡ end.Value read → read ≡ ranswer (fields_of s.model.chip b.window.data_reg) every (entry_at b s.model k)
  pub no_error : is_bus_error access.end ≡ false

ends_at : (on : Option ℕ) (o : Op) (e : End) (m : ModelData) → (event_at on o [] (quiet e m)).end ≡ e
ends_at None o e m = refl
ends_at (Some reg) o e m = refl

refused_ends : (m : ModelData) (o : Op) (why : Refused) (event : Event) → event ≡ refused_event m o why → event.end ≡ end.Refused why
refused_ends m o why event is = ap (λ (e : Event). e.end) is ∙ ends_at (register_of m.chip o) o (end.Refused why) m

data_by : (s t : Scene) (b : BankData) (k : ℕ) (step : Step) (o : Op) (access : Event) → (h : BankAgree s b) → IsModel s.model → IsModel t.model → IsBankOf s.model.chip b → IsBank b →
    b.model.selected ≡ k
    → IsOnData s.model o b.window.data_reg step → Performs s t o access → (g : Grant) → grant s.model o ≡ g → IsDataStep s t b k step access
data_by s t b k step o access h ok later of bank selected on performs (Ok place) granted =
    let reg = b.window.data_reg in
    let c = s.model.chip in
    let fs = fields_of c reg in
    let x = mirrored_of s.model.mirror reg in
    let y = mirrored_of t.model.mirror reg in
    let r = believed c s.model.mirror reg in
    let i = b.model.selected in
    let old : List ℕ = entries_believed b s.model in
    let apart = (window_parts c b.window b.size of.window).apart in
    let st = access_is_believed s t o access place reg on.access on.numbers on.register ok h.agree granted performs in
    let within : i < length b.model.kept = omega (arith, bank.model.selected, bank.model.many) in
    let entry : slice_index old k ≡ x = ap (slice_index old) (sym selected) ∙ get_or-set_same b.model.kept i x 0 within in
    let value : y ≡ (register_after fs step (entry_at b s.model k)).bits =
    st.here
    ∙ ap (λ st. (register_after fs st r).bits) (on.step_is place)
    ∙ after_same fs step r (entry_at b s.model k) (data_unmarked c b of) (sym entry) in
    let stepped : entries_believed b t.model ≡ entries_stepped b s.model k step =
    sym (set-set b.model.kept i x y) ∙ ap (λ j. slice_set old j y) selected ∙ ap (slice_set old k) value in
    let chip : t.model.chip ≡ c = st.same.chip in
    let good : is_refused access.end ≡ false = ap is_refused st.ends ∙ on.granted place r in
    let index : mirrored_of t.model.mirror b.window.index_reg ≡ mirrored_of s.model.mirror b.window.index_reg = st.others b.window.index_reg of.index_reg apart in
    let there : peeked st.agree.device (cell.Reg reg) ≡ y = peeked_believed t st.agree reg (subst (λ (q : ChipData). reg < length q.regs) (sym chip) of.data_reg) in
    let before : entries_of b.device x ≡ entries_of b.model x = ap (entries_of b.device) (sym (peeked_believed s h.agree reg of.data_reg)) ∙ h.entries in
    let sides : b.device.selected ≡ i = h.device ∙ sym h.model in
    let after : entries_of b.device y ≡ entries_of b.model y =
    sym (set-set b.device.kept b.device.selected x y)
    ∙ ap (λ (l : List ℕ). slice_set l b.device.selected y) before
    ∙ ap (λ j. slice_set (entries_of b.model x) j y) sides
    ∙ set-set b.model.kept i x y in
    let mine : IsValueOf c reg y = subst (λ (q : ChipData). IsValueOf q reg y) chip (later.mirror.mirrored reg (subst (λ (q : ChipData). reg < length q.regs) (sym chip) of.data_reg)) in
    record {
      agree = record {
        agree = st.agree;
        entries = ap (entries_of b.device) there ∙ after;
        values =
            subst (λ (q : ChipData). All (IsValueOf q reg) (entries_believed b t.model)) (sym chip)
            (All-same (IsValueOf c reg) _ _ (sym (set-set b.model.kept i x y)) (All-set (IsValueOf c reg) old i y mine h.values));
        device = h.device ∙ sym index;
        model = h.model ∙ sym index;
      };
      entries = stepped ∙ ap (λ t. cond t old (entries_stepped b s.model k step)) (sym good);
      reads = λ read e. on.answers place r read (sym st.ends ∙ e) ∙ answers_alike fs every r (entry_at b s.model k) (sym entry);
      no_error = st.no_error;
    }
data_by s t b k step o access h ok later of bank selected on performs (Err why) refused =
    let is : IsRefused s t o why access = subst (λ (g : Grant). MatchResult g (λ p. IsDone s t o p access) (λ why. IsRefused s t o why access)) refused performs in
    let ends : access.end ≡ end.Refused why = refused_ends s.model (named s.model o) why access is.event_is in
    let model : t.model ≡ s.model = ap (λ (q : Scene). q.model) is.unchanged in
    record {
      agree = same_bank s t b h (ap (λ (q : Scene). q.device) is.unchanged) model;
      entries = ap (entries_believed b) model ∙ ap (λ t. cond t (entries_believed b s.model) (entries_stepped b s.model k step)) (sym (ap is_refused ends));
      reads = λ read e. absurd (cc);
      no_error = ap is_bus_error ends;
    }

-- ---- the whole access by index

stepped_same : (b new : BankData) (m mid : ModelData) (k : ℕ) (step : Step) → entries_believed new mid ≡ entries_believed b m → mid.chip ≡ m.chip → new.window ≡ b.window →
    entries_stepped new mid k step ≡ entries_stepped b m k step
stepped_same b new m mid k step entries chip window =
    let by : List ℕ → List FieldSeen → List ℕ = λ l fs. slice_set l k (register_after fs step (record { bits = slice_index l k; spent = λ field. false })).bits in
    ap (λ l. by l (fields_of mid.chip new.window.data_reg)) entries
    ∙ ap (λ (c : ChipData). by (entries_believed b m) (fields_of c new.window.data_reg)) chip
    ∙ ap (λ (w : Window). by (entries_believed b m) (fields_of m.chip w.data_reg)) window

answers_same : (b new : BankData) (m mid : ModelData) (k : ℕ) → entries_believed new mid ≡ entries_believed b m → mid.chip ≡ m.chip → new.window ≡ b.window
    → ranswer (fields_of mid.chip new.window.data_reg) every (entry_at new mid k) ≡ ranswer (fields_of m.chip b.window.data_reg) every (entry_at b m k)
answers_same b new m mid k entries chip window =
    let by : List ℕ → List FieldSeen → ℕ = λ l fs. ranswer fs every (record { bits = slice_index l k; spent = λ field. false }) in
    ap (λ l. by l (fields_of mid.chip new.window.data_reg)) entries
    ∙ ap (λ (c : ChipData). by (entries_believed b m) (fields_of c new.window.data_reg)) chip
    ∙ ap (λ (w : Window). by (entries_believed b m) (fields_of m.chip w.data_reg)) window

pub entry_step : (s mid t : Scene) (b new : BankData) (k : ℕ) (step : Step) (o : Op) (index access : Event) → KeepsEntries s mid b new k index → is_done index.end ≡ true → IsModel mid.model →
    IsModel t.model → IsBankOf mid.model.chip new → IsBank new
    → mid.model.chip ≡ s.model.chip → new.window ≡ b.window → IsOnData mid.model o new.window.data_reg step → Performs mid t o access → IsEntryStep s t b new k step (At index access)
entry_step s mid t b new k step o index access keeps done ok later of bank chip window on performs =
    let d = data_by mid t new k step o access keeps.agree ok later of bank (keeps.selected done) on performs (grant mid.model o) refl in
    record {
      agree = d.agree;
      entries =
          d.entries
          ∙ ap (λ l. cond (is_refused access.end) l (entries_stepped new mid.model k step)) keeps.entries
          ∙ ap (λ l. cond (is_refused access.end) (entries_believed b s.model) l) (stepped_same b new s.model mid.model k step keeps.entries chip window);
      reads = λ read e. d.reads read e ∙ answers_same b new s.model mid.model k keeps.entries chip window;
      no_error = (keeps.no_error, d.no_error);
    }

-- the index register alone was accessed
pub no_entry_step : (s t : Scene) (b new : BankData) (k : ℕ) (step : Step) (index : Event) → KeepsEntries s t b new k index → IsEntryStep s t b new k step (AtIndex index)
no_entry_step s t b new k step index keeps = record { agree = keeps.agree; entries = keeps.entries; reads = tt; no_error = keeps.no_error }

-- there is no such entry
pub past_entries : (s : Scene) (b : BankData) (k : ℕ) (step : Step) → BankAgree s b → IsEntryStep s s b b k step NoSuchEntry
past_entries s b k step h = record { agree = h; entries = refl; reads = tt; no_error = tt }

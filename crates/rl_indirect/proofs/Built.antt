-- What `build` answers at each of its exits.
use Rattle.std.proofs.Common.{◌≡◌, ℕ, Option, None, Some, Result, Ok, Err, MatchOption, MatchResult, refl, sym, ap, ◌∙◌, subst}
use Rattle.std.specs.Result.{IsErrAnd}
use Rattle.rl_bus.specs.State.{State, peeked}
use Rattle.rl_bus.specs.declared.table.Cell.TheVariants as cell
use Rattle.rl_model.specs.Fields.{size_of}
use Rattle.rl_model.specs.Rules.{or_else}
use Rattle.rl_mirror.specs.Mirror.{MirrorData, mirrored_of}
use Rattle.rl_access.specs.Model.{ModelData}
use Rattle.rl_indirect.specs.declared.window.Window.{Window}
use Rattle.rl_indirect.specs.declared.window.WindowFault.{WindowFault}
use Rattle.rl_indirect.specs.declared.window.WindowFault.TheVariants.{Memory}
use Rattle.rl_indirect.specs.Window.{window_fault, outside_fault}
use Rattle.rl_indirect.specs.Bank.{EntryData, BankData, all_entries, new_bank, bank_fault, IsFound, IsBuilt}

-- ---- what is in a register of a device that tells its state

told_bits : Option State → (reg : ℕ) → ℕ
told_bits None reg = 0
told_bits (Some d) reg = peeked d (cell.Reg reg)

told_found : (told : Option State) (reg : ℕ) → IsFound told reg (told_bits told reg)
unfolding told_bits
told_found None reg s e = absurd (cc)
told_found (Some d) reg s e = let same : d ≡ s = cc in ap (λ (x : State). peeked x (cell.Reg reg)) same

-- ---- the answer, by its first cause

abbrev Answers : ModelData → Window → (size index held : ℕ) → Option WindowFault → Result BankData WindowFault → Type 0
Answers m w size index held fault r = MatchOption fault (MatchResult r (λ b. b ≡ new_bank m w size index held) (λ why. why ≡ Memory)) (λ why. r ≡ Err why)

none_fails : (m : ModelData) (w : Window) (size index : ℕ) → window_fault m.chip w size ≡ None → outside_fault size index (mirrored_of m.mirror w.index_reg) ≡ None → bank_fault m w size index ≡ None
none_fails m w size index window inside = ap (λ o. or_else o (outside_fault size index (mirrored_of m.mirror w.index_reg))) window ∙ inside

pub refused_window : (m : ModelData) (told : Option State) (w : Window) (size : ℕ) (fault : WindowFault) → window_fault m.chip w size ≡ Some fault → IsBuilt m told w size (Err fault)
refused_window m told w size fault is =
    let index = told_bits told w.index_reg in
    let held = told_bits told w.data_reg in
    let first : bank_fault m w size index ≡ Some fault = ap (λ o. or_else o (outside_fault size index (mirrored_of m.mirror w.index_reg))) is in
    record {
      index = index;
      held = held;
      index_found = told_found told w.index_reg;
      held_found = told_found told w.data_reg;
      answer = subst (λ o. Answers m w size index held o (Err fault)) (sym first) refl;
    }

pub refused_outside : (m : ModelData) (told : Option State) (w : Window) (size index : ℕ) (fault : WindowFault) → IsFound told w.index_reg index → window_fault m.chip w size ≡ None
    → outside_fault size index (mirrored_of m.mirror w.index_reg) ≡ Some fault → IsBuilt m told w size (Err fault)
refused_outside m told w size index fault found window is =
    let held = told_bits told w.data_reg in
    let first : bank_fault m w size index ≡ Some fault = ap (λ o. or_else o (outside_fault size index (mirrored_of m.mirror w.index_reg))) window ∙ is in
    record {
      index = index;
      held = held;
      index_found = found;
      held_found = told_found told w.data_reg;
      answer = subst (λ o. Answers m w size index held o (Err fault)) (sym first) refl;
    }

pub no_memory : (m : ModelData) (told : Option State) (w : Window) (size index held : ℕ) (r : Result BankData WindowFault) → IsFound told w.index_reg index → IsFound told w.data_reg held →
    window_fault m.chip w size ≡ None
    → outside_fault size index (mirrored_of m.mirror w.index_reg) ≡ None → IsErrAnd r (λ why. why ≡ Memory) → IsBuilt m told w size r
no_memory m told w size index held (Ok b) index_found held_found window inside is = absurd is
no_memory m told w size index held (Err why) index_found held_found window inside is = record {
  index = index;
  held = held;
  index_found = index_found;
  held_found = held_found;
  answer = subst (λ o. Answers m w size index held o (Err why)) (sym (none_fails m w size index window inside)) is;
}

abbrev pub bank_by : Window → (size bytes : ℕ) → (there believed : EntryData) → BankData
bank_by w size bytes there believed = record { window = w; size = size; bytes = bytes; device = there; model = believed }

-- the entries of the model, by what its mirror holds of the two registers
pub believed_are : (m : ModelData) (w : Window) (size index held : ℕ) (p q : MirrorData) (believed : EntryData) → index ≡ mirrored_of p w.index_reg → p ≡ m.mirror
    → held ≡ mirrored_of q w.data_reg → q ≡ m.mirror → believed ≡ all_entries held size index
    → believed ≡ all_entries (mirrored_of m.mirror w.data_reg) size (mirrored_of m.mirror w.index_reg)
believed_are m w size index held p q believed index_is p_is held_is q_is are =
    are ∙ ap (λ x. all_entries x size index) (held_is ∙ ap (λ (x : MirrorData). mirrored_of x w.data_reg) q_is)
    ∙ ap (all_entries (mirrored_of m.mirror w.data_reg) size) (index_is ∙ ap (λ (x : MirrorData). mirrored_of x w.index_reg) p_is)

pub built_as : (m : ModelData) (w : Window) (size index held bytes : ℕ) (there believed : EntryData) → bytes ≡ size_of m.chip w.data_reg → there ≡ all_entries held size index
    → believed ≡ all_entries (mirrored_of m.mirror w.data_reg) size (mirrored_of m.mirror w.index_reg)
    → bank_by w size bytes there believed ≡ new_bank m w size index held
built_as m w size index held bytes there believed bytes_are there_are believed_are =
    ap (λ n. bank_by w size n there believed) bytes_are
    ∙ ap (λ d. bank_by w size (size_of m.chip w.data_reg) d believed) there_are
    ∙ ap (λ e. bank_by w size (size_of m.chip w.data_reg) (all_entries held size index) e) believed_are

pub built : (m : ModelData) (told : Option State) (w : Window) (size index held bytes : ℕ) (there believed : EntryData) → IsFound told w.index_reg index → IsFound told w.data_reg held →
    window_fault m.chip w size ≡ None
    → outside_fault size index (mirrored_of m.mirror w.index_reg) ≡ None → bytes ≡ size_of m.chip w.data_reg → there ≡ all_entries held size index →
    believed ≡ all_entries (mirrored_of m.mirror w.data_reg) size (mirrored_of m.mirror w.index_reg)
    → IsBuilt m told w size (Ok (record { window = w; size = size; bytes = bytes; device = there; model = believed }))
built m told w size index held bytes there believed index_found held_found window inside bytes_are there_are believed_are = record {
  index = index;
  held = held;
  index_found = index_found;
  held_found = held_found;
  answer = subst (λ o. Answers m w size index held o (Ok (record { window = w; size = size; bytes = bytes; device = there; model = believed }))) (sym (none_fails m w size index window inside))
      (built_as m w size index held bytes there believed bytes_are there_are believed_are);
}

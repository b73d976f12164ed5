-- Each call keeps the beats within their lists.
use Rattle.std.proofs.Common.{◌≡◌, ℕ, ◌+◌, ◌<◌, Bool, true, false, not, cond, ◌&&◌, eqb, ltb, List, [], length, get_or, Option, Some, None, refl, arith, ⊎_elim}
use Rattle.std.specs.Prelude.{slice_get}
use Rattle.std.proofs.lemmas.Bool.{cases_lt}
use Rattle.std.proofs.lemmas.Bool.Decides.{nat_tests}
use Rattle.std.proofs.lemmas.Option.{slice_get_within, slice_get-get_or}
use Rattle.rl_bus.specs.declared.op.BusOp.{BusOp}
use Rattle.rl_bus.specs.declared.table.Cell.{Cell}
use Rattle.rl_bus.specs.declared.table.Cell.TheVariants.{Reg, Loc}
use Rattle.rl_bus.specs.declared.table.WordRow.{WordRow}
use Rattle.rl_bus.specs.Setup.{Setup, words_at, is_deaf, is_of_place, mem_of}
use Rattle.rl_bus.specs.State.{State, counted, word_at, is_faulty, after_word, after_reading, after_writing, after_touch, beats_on, beats_back, state_after, poked, hw_set, reset_by, first_state}
use Rattle.rl_bus.specs.Reached.{HasEvenWords, BeatsNameWords, KeepsBeats}

kept : (b : Bool) (x y : State) (t : Setup) → x.setup ≡ t → y.setup ≡ t → (cond b x y).setup ≡ t
kept true x y t e f = e
kept false x y t e f = f

writing_keeps : (s : State) (word lanes : ℕ → Bool) (cell : Cell) → (after_writing s word lanes cell).setup ≡ s.setup
writing_keeps s word lanes (Reg r) = refl
writing_keeps s word lanes (Loc mem index) = kept (mem_of s.setup mem).writable _ s s.setup refl refl

reading_keeps : (s : State) (lanes : ℕ → Bool) (cell : Cell) → (after_reading s lanes cell).setup ≡ s.setup
reading_keeps s lanes (Reg r) = refl
reading_keeps s lanes (Loc mem index) = refl

word_keeps : (s : State) (op : BusOp) (w : WordRow) → (after_word s op w).setup ≡ s.setup
word_keeps s op w = kept (not op.write) _ _ s.setup (reading_keeps s _ w.cell) (kept (is_deaf s.setup w.cell) s _ s.setup refl (writing_keeps s _ _ w.cell))

-- the next beat names a word
next_in : (n m k : ℕ) → k < n → n ≡ m → cond (ltb (k + 1) n) (k + 1) 0 < m
next_in n m k l e = grind (arith, nat_tests)

back_in : (b : Bool) (k m : ℕ) → k < m → cond b 0 k < m
back_in true k m l = omega (arith, l)
back_in false k m l = l

on_in : (x y p a port address m : ℕ) → (p ≡ port → a ≡ address → x < m) → y < m → cond (eqb p port && eqb a address) x y < m
on_in x y p a port address m h k = by (eqb p port && eqb a address) refl
  where
    by : (t : Bool) → (eqb p port && eqb a address) ≡ t → cond t x y < m
    by true e = h (grind (arith, nat_tests)) (grind (arith, nat_tests))
    by false e = k

touch_keeps : (s : State) (port : ℕ) (op : BusOp) (o : Option WordRow) → word_at s port op ≡ o → HasEvenWords s.setup → BeatsNameWords s → BeatsNameWords (after_touch (counted s) port op o)
touch_keeps s port op None found even h = h
touch_keeps s port op (Some w) found even h = by (is_faulty (counted s) port op)
  where
    within : s.beats port op.address < length (words_at s.setup port op.address op.write)
    within = slice_get_within (words_at s.setup port op.address op.write) (s.beats port op.address) w found

    moved : (p a : ℕ) (write : Bool) → 0 < length (words_at s.setup p a write) → p ≡ port → a ≡ op.address → cond (ltb (s.beats port op.address + 1) (length (words_at s.setup port op.address
        op.write))) (s.beats port op.address + 1) 0 < length (words_at s.setup p a write)
    moved p a write l u v =
        let some : 0 < length (words_at s.setup port op.address write) = rw (u, v) at l in
        let here : 0 < length (words_at s.setup port op.address op.write) = omega (arith, within) in
        rw (u, v) (next_in (length (words_at s.setup port op.address op.write)) (length (words_at s.setup port op.address write)) (s.beats port op.address) within (even port op.address op.write write
        here some))

    on : (t : Setup) → t ≡ s.setup → (p a : ℕ) (write : Bool) → 0 < length (words_at t p a write) → beats_on (counted s) port op p a < length (words_at t p a write)
    on t e p a write l =
        let k : 0 < length (words_at s.setup p a write) = rw e at l in
        rw e (on_in _ (s.beats p a) p a port op.address (length (words_at s.setup p a write)) (moved p a write k) (h p a write k))

    by : (b : Bool) → BeatsNameWords (cond b (record (counted s) { beats = beats_back (counted s) w.place }) (record (after_word (counted s) op w) { beats = beats_on (counted s) port op }))
    by true = λ p a write l. back_in (is_of_place s.setup w.place p a) (s.beats p a) _ (h p a write l)
    by false = on (after_word (counted s) op w).setup (word_keeps (counted s) op w)

first_names : (t : Setup) (count : ℕ) → BeatsNameWords (first_state t count)
unfolding first_state reset_by
first_names t count p a write l = l

item_names : (s : State) (port : ℕ) (op : BusOp) → HasEvenWords s.setup → BeatsNameWords s → BeatsNameWords (state_after s port op)
unfolding state_after
item_names s port op even h = touch_keeps s port op (word_at s port op) refl even h

poke_names : (s : State) (cell : Cell) (value : ℕ) → BeatsNameWords s → BeatsNameWords (poked s cell value)
unfolding poked
poke_names s (Reg r) value h = h
poke_names s (Loc mem index) value h = h

hw_names : (s : State) (field value : ℕ) → BeatsNameWords s → BeatsNameWords (hw_set s field value)
unfolding hw_set
hw_names s field value h = h

reset_names : (s : State) (kind : ℕ) → BeatsNameWords (reset_by s kind)
unfolding reset_by
reset_names s kind p a write l = l

abbrev no_word : WordRow
no_word = record { port = 0; address = 0; reads = false; writes = false; cell = Reg 0; place = 0; lanes = record { enabled = 0; bytes = [] } }

missing : (xs : List WordRow) (k : ℕ) → xs ≡ [] → slice_get xs k ≡ None
missing xs k e = rw e refl

only_missing : (xs : List WordRow) (k : ℕ) (d : WordRow) → (0 < length xs → k < length xs) → slice_get xs k ≡ None → length xs ≡ 0
only_missing xs k d within e = ⊎_elim (λ l. absurd (clash (slice_get-get_or xs k d (within l)))) (λ g. omega (arith, g)) (cases_lt 0 (length xs))
  where
    clash : slice_get xs k ≡ Some (get_or xs k d) → ⊥
    clash h = cc

pub keeps_beats : KeepsBeats
keeps_beats = record {
  first = first_names;
  item = item_names;
  poke = poke_names;
  hw = hw_names;
  reset = reset_names;
  none = λ s port op e. missing _ _ e;
  only = λ s port op h e. only_missing _ _ no_word (h port op.address op.write) e;
}

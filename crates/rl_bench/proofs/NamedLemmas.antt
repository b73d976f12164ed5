-- The beats name words, and so an item fails exactly where no word stands or a flaw says so.
use Rattle.std.proofs.Common.{◌≡◌, ℕ, ◌<◌, Bool, true, false, cond, eqb, ◌||◌, List, length, refl, sym, ◌∙◌, arith, Option, Some, None, subst}
use Rattle.std.proofs.lemmas.Bool.Decides.{nat_tests}
use Rattle.std.proofs.lemmas.Option.{slice_get_within}
use Rattle.rl_bus.specs.declared.op.Answer.{Answer}
use Rattle.rl_bus.specs.declared.op.BusOp.{BusOp}
use Rattle.rl_bus.specs.declared.table.WordRow.{WordRow}
use Rattle.rl_bus.specs.Reached.{HasEvenWords, BeatsNameWords}
use Rattle.rl_bus.specs.Setup.{words_at, is_of_place}
use Rattle.rl_bus.specs.State.{State, counted, word_at, word_shown, is_faulty, after_word, beats_back, beats_on, answer_at, answer_of}
use Rattle.rl_bus.proofs.Reached.{keeps_beats}
use Rattle.rl_bench.specs.Beats.{beats_of, has_place, IsQuiet}
use Rattle.rl_bench.specs.State.{item_fails}
use Rattle.rl_bench.proofs.StepLemmas.{touched_state}

-- beats of 0
pub named_first : (s : State) → ((p a : ℕ) → s.beats p a ≡ 0) → BeatsNameWords s
named_first s none p a write some = rw (none p a) some

-- a failed item
pub named_back : (s : State) (place : ℕ) (beats : ℕ → ℕ → ℕ) → BeatsNameWords s → ((p a : ℕ) → beats p a ≡ beats_back s place p a) → BeatsNameWords (record s { beats = beats })
named_back s place beats named same p a write some = rw (same p a) (by (is_of_place s.setup place p a))
  where
    by : (b : Bool) → cond b 0 (s.beats p a) < length (words_at s.setup p a write)
    by true = some
    by false = named p a write some

-- and then a beat other than 0 is still that of an address where words queue
pub quiet_back : (words : List WordRow) (old new : List ℕ) (place : ℕ) → IsQuiet words old
    → ((p a : ℕ) → beats_of words new p a ≡ cond (has_place words place p a) 0 (beats_of words old p a)) → IsQuiet words new
quiet_back words old new place quiet same p a few = same p a ∙ by (has_place words place p a)
  where
    by : (b : Bool) → cond b 0 (beats_of words old p a) ≡ 0
    by true = refl
    by false = quiet p a few

-- any other item
pub named_on : (s : State) (port : ℕ) (op : BusOp) (w : WordRow) (st : State) (beats : ℕ → ℕ → ℕ) → HasEvenWords s.setup → BeatsNameWords s
    → word_at s port op ≡ Some w → is_faulty (counted s) port op ≡ false → st ≡ after_word (counted s) op w
    → ((p a : ℕ) → beats p a ≡ beats_on (counted s) port op p a) → BeatsNameWords (record st { beats = beats })
named_on s port op w st beats even named h f e same = subst BeatsNameWords (sym (touched_state s port op w st beats h f e same)) (keeps_beats.item s port op even named)

abbrev answered : ℕ → Bool → Answer
answered word failed = record { word = word; failed = failed }

not_zero : (n : ℕ) → 0 < n → eqb n 0 ≡ false
not_zero n some = grind (arith, nat_tests)

failed_at : (b : Bool) (n x : ℕ) → 0 < n → (cond b (answered 0 true) (answered x false)).failed ≡ (eqb n 0 || b)
failed_at true n x some = rw (not_zero n some) refl
failed_at false n x some = rw (not_zero n some) refl

-- the answer of an item
pub failed_is : (s : State) (port : ℕ) (op : BusOp) → BeatsNameWords s → (answer_of s port op).failed ≡ item_fails s port op
unfolding answer_of
failed_is s port op named = by (word_at s port op) refl
  where
    by : (o : Option WordRow) → word_at s port op ≡ o → (answer_at (counted s) port op o).failed ≡ item_fails s port op
    by None e = rw (keeps_beats.only s port op named e) refl
    by (Some w) e =
        let within : s.beats port op.address < length (words_at s.setup port op.address op.write) = slice_get_within (words_at s.setup port op.address op.write) (s.beats port op.address) w e in
        failed_at (is_faulty (counted s) port op) (length (words_at s.setup port op.address op.write)) (cond op.write 0 (word_shown (counted s) op w)) (omega (arith, within))

-- Bytes that a sink is known to hold: what stays of them, and fronts of a text behind them.
use Rattle.std.proofs.Common.{◌≡◌, ℕ, ◌≤◌, List, [], ◌++◌, Some, None, length, take, drop, refl, sym, ap, ◌∙◌, append_assoc, append-nil}
use Rattle.std.proofs.Common.{take-append-drop, arith}
use Rattle.std.proofs.lemmas.List.{append_cancel_left, length-take, take-append-le}
use Rattle.std.specs.declared.option.Option.{Option}
use Rattle.std.specs.Io.KnownBytes.{Appends, Keeps, append_known}
use Rattle.rl_report.specs.Pieces.{AppendsFront}
use Rattle.rl_log.specs.Earlier.{KeepsEarlier}

-- ---- bytes that stay

pub keeps_nothing : (a b : Option (List ℕ)) → Keeps a b → Appends a b []
keeps_nothing None b h = tt
keeps_nothing (Some xs) None h = absurd h
keeps_nothing (Some xs) (Some ys) h = h ∙ sym (append-nil xs)

pub keeps_then_appends : (a b c : Option (List ℕ)) (more : List ℕ) → Keeps a b → Appends b c more → Appends a c more
keeps_then_appends None b c more h k = tt
keeps_then_appends (Some xs) None c more h k = absurd h
keeps_then_appends (Some xs) (Some ys) None more h k = absurd k
keeps_then_appends (Some xs) (Some ys) (Some zs) more h k = k ∙ ap (λ l. l ++ more) h

-- more bytes behind them leave the earlier ones
pub earlier_grown : (earlier old new : Option (List ℕ)) (more : List ℕ) → KeepsEarlier earlier old
    → Appends old new more → KeepsEarlier earlier new
earlier_grown None old new more kept h = tt
earlier_grown (Some xs) None new more kept h = absurd (cc)
earlier_grown (Some xs) (Some ys) None more kept h = absurd h
earlier_grown (Some xs) (Some ys) (Some zs) more kept h =
    let front : take (length xs) ys ≡ xs = cc in
    let within : length xs ≤ length ys = omega (arith, length-take (length xs) ys, ap length front) in
    ap Some (ap (take (length xs)) h ∙ take-append-le (length xs) ys more within ∙ front)

-- what begins with these bytes is these bytes and its rest
pub begins_with : (xs ys : List ℕ) → Some (take (length xs) ys) ≡ Some xs → ys ≡ xs ++ drop (length xs) ys
begins_with xs ys h =
    let front : take (length xs) ys ≡ xs = cc in
    sym (take-append-drop (length xs) ys) ∙ ap (λ l. l ++ drop (length xs) ys) front

-- ---- a front of a text

pub front_none : (a b : Option (List ℕ)) (text : List ℕ) → Keeps a b → AppendsFront a b text
front_none a b text h = record { front = []; rest = text; split = refl; appended = keeps_nothing a b h }

pub front_all : (a b : Option (List ℕ)) (text : List ℕ) → Appends a b text → AppendsFront a b text
front_all a b text h = record { front = text; rest = []; split = append-nil text; appended = h }

pub front_later : (a b c : Option (List ℕ)) (text : List ℕ) → Keeps a b → AppendsFront b c text → AppendsFront a c text
front_later a b c text h f =
    record { front = f.front; rest = f.rest; split = f.split; appended = keeps_then_appends a b c f.front h f.appended }

-- of a front that was told, what isn't kept back
not_kept : (xs ts w more kept front : List ℕ) → w ++ kept ≡ ts → ts ≡ xs ++ front → w ≡ xs ++ more → more ++ kept ≡ front
not_kept xs ts w more kept front held told grown =
    append_cancel_left xs (more ++ kept) front (sym (append_assoc xs more kept) ∙ ap (λ l. l ++ kept) (sym grown)
    ∙ held ∙ told)

-- a front was told, where the earlier bytes stay: what isn't kept back of it is a front, too
pub front_written : (old told new : Option (List ℕ)) (kept text : List ℕ) → KeepsEarlier old new → Keeps told
    (append_known new kept) → AppendsFront old told text → AppendsFront old new text
front_written None told new kept text keeps held f = record { front = []; rest = text; split = refl; appended = tt }
front_written (Some xs) None new kept text keeps held f = absurd f.appended
front_written (Some xs) (Some ts) None kept text keeps held f = absurd held
front_written (Some xs) (Some ts) (Some w) kept text keeps held f =
    let more = drop (length xs) w in
    let grown = begins_with xs w keeps in
    record {
      front = more;
      rest = kept ++ f.rest;
      split = sym (append_assoc more kept f.rest) ∙ ap (λ l. l ++ f.rest)
          (not_kept xs ts w more kept f.front held f.appended grown) ∙ f.split;
      appended = grown;
    }

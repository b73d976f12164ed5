-- Two devices of one setup but for flaws, with a relation for each bit that every call keeps: they answer the same.
use Rattle.std.proofs.Common.{◌≡◌, ◌⊎◌, inl, inr, ℕ, ◌+◌, ◌-◌, ◌*◌, ◌/◌, ◌%◌, ◌^◌, ◌<◌, ◌≤◌, Bool, true, false, not, ◌&&◌, ◌||◌, ◌==◌, if◌then◌else◌, List, [], ◌∷◌, length, map, replicate, All}
use Rattle.std.proofs.Common.{Option, Some, None, option_map, refl, sym, ap, subst, ◌∙◌, arith}
use Rattle.std.specs.Prelude.{get_or, slice_get, slice_index, slice_set, is_some, nat_le, min, filter}
use Rattle.std.specs.List.{list_any, range_with_len}
use Rattle.std.proofs.lemmas.Bool.{cases_eq, cases_lt, eq-eqb}
use Rattle.std.proofs.lemmas.List.{get_or-set_same, get_or-set_other, get_or_past, get_or-replicate, length-set, length-replicate}
use Rattle.std.proofs.lemmas.List.Elements.{All-filter, filter_passes}
use Rattle.std.proofs.lemmas.List.Folds.{list_any_at}
use Rattle.std.proofs.lemmas.List.FromFn.{get_or-map-range_with_len, length-map-range_with_len}
use Rattle.std.proofs.lemmas.Option.{slice_get_within, get_or_from_slice_get}
use Rattle.rl_policy.proofs.BitLemmas.{bit-from_bits, bit-zero, from_bits-same}
use Rattle.rl_policy.specs.Access.{bit_answered, bit_left, bit_written, mark_written}
use Rattle.rl_policy.specs.Bits.{bit, from_bits, is_within, put_bit}
use Rattle.rl_policy.specs.Table.{is_write_only}
use Rattle.rl_policy.specs.declared.policy.Policy.{Policy}
use Rattle.rl_model.specs.declared.rows.Item.{Item}
use Rattle.rl_model.specs.declared.rows.Item.TheVariants as item
use Rattle.rl_bus.specs.declared.op.Answer.{Answer}
use Rattle.rl_bus.specs.declared.op.BusOp.{BusOp}
use Rattle.rl_bus.specs.declared.table.Cell.{Cell}
use Rattle.rl_bus.specs.declared.table.Cell.TheVariants.{Reg, Loc}
use Rattle.rl_bus.specs.declared.table.WordRow.{WordRow}
use Rattle.rl_bus.specs.Setup.{Setup, Flaws, field_of, mem_of, field_at, policy_of, policy_at, stuck_at, or_else, held, location, is_deaf, stands_for, words_at, is_of_place, is_named}
use Rattle.rl_bus.specs.Spread.{gathered_bit, lane_bit, lanes_in, spread_bit}
use Rattle.rl_bus.specs.State.{State, counted, word_at, is_faulty, shown_bit, word_shown, after_reading, after_writing, after_word, beats_on, beats_back, after_touch, answer_at, state_after, answer_of}
use Rattle.rl_bus.specs.State.{peeked, poked, hw_set, reset_bit, reg_reset, reset_by, empty_state, first_state}
use Rattle.rl_grade.specs.Flaws.{is_of}
use Rattle.rl_grade.specs.Reached.{is_reached, lets}

-- this setup with these flaws
abbrev pub flawed : Setup → Flaws → Setup
flawed t g = record t { flaws = g }

-- the mark after a reset of a kind
abbrev pub kept_mark : ℕ → Bool → Bool
kept_mark kind m = if kind == 0 then false else m

-- What keeps the relation of each bit: its stored bit and mark in the one device and in the other. `Back` tells which registers have a
-- backdoor, `Moves` which fields the hardware changes.
pub record Keeps (t : Setup) (g : Flaws) (R : ℕ → ℕ → Bool → Bool → Bool → Bool → Type 0) (Back Moves : ℕ → Type 0) : Type 0 where
  pub ranges : g.ranges ≡ t.flaws.ranges
  pub nths : g.nths ≡ t.flaws.nths
  pub hears : (c : Cell) → is_deaf t c ≡ false
  pub memory : (m i : ℕ) → is_deaf (flawed t g) (Loc m i) ≡ true → is_reached t.words (item.Mem m) true ≡ true → (mem_of t m).writable ≡ false
  pub above : (r b : ℕ) → 64 ≤ b → field_at t r b ≡ None
  pub shown : (r b : ℕ) → is_reached t.words (item.Reg r) false ≡ true → (x m y n : Bool) → R r b x m y n
      → bit_answered (policy_at (flawed t g) r b) y ≡ bit_answered (policy_at t r b) x
  pub read : (r b : ℕ) → is_reached t.words (item.Reg r) false ≡ true → (l x m y n : Bool) → R r b x m y n
      → R r b (or_else (stuck_at t r b) (bit_left (policy_at t r b) x l)) m
      (or_else (stuck_at (flawed t g) r b) (bit_left (policy_at (flawed t g) r b) y l)) n
  pub written : (r b : ℕ) → is_reached t.words (item.Reg r) true ≡ true → is_deaf (flawed t g) (Reg r) ≡ false → (w l x m y n : Bool) → R r b x m y n
      → R r b (or_else (stuck_at t r b) (bit_written (policy_at t r b) x m w l)) (mark_written (policy_at t r b) m l)
      (or_else (stuck_at (flawed t g) r b) (bit_written (policy_at (flawed t g) r b) y n w l)) (mark_written (policy_at (flawed t g) r b) n l)
  pub unheard : (r b : ℕ) → is_reached t.words (item.Reg r) true ≡ true → is_deaf (flawed t g) (Reg r) ≡ true → (w l x m y n : Bool) → R r b x m y n
      → R r b (or_else (stuck_at t r b) (bit_written (policy_at t r b) x m w l)) (mark_written (policy_at t r b) m l) y n
  pub reset : (r b kind : ℕ) (x m y n : Bool) → R r b x m y n
      → R r b (or_else (stuck_at t r b) (reset_bit t kind (field_at t r b) b x)) (kept_mark kind m)
      (or_else (stuck_at (flawed t g) r b) (reset_bit (flawed t g) kind (field_at t r b) b y)) (kept_mark kind n)
  pub first : (r b : ℕ)
      → R r b (or_else (stuck_at t r b) (reset_bit t 0 (field_at t r b) b false)) false
      (or_else (stuck_at (flawed t g) r b) (reset_bit (flawed t g) 0 (field_at t r b) b false)) false
  pub same : (r b : ℕ) → Back r → (x m y n : Bool) → R r b x m y n → y ≡ x
  pub poked : (r b : ℕ) → Back r → (v x m y n : Bool) → R r b x m y n
      → R r b (or_else (stuck_at t r b) (if is_some (field_at t r b) then v else x)) m
      (or_else (stuck_at (flawed t g) r b) (if is_some (field_at t r b) then v else y)) n
  pub moved : (f b : ℕ) → Moves f → (v x m y n : Bool) → R (field_of t f).reg b x m y n
      → R (field_of t f).reg b (or_else (stuck_at t (field_of t f).reg b) (if is_within (field_of t f).lsb (field_of t f).width b then v else x)) m
      (or_else (stuck_at (flawed t g) (field_of t f).reg b) (if is_within (field_of t f).lsb (field_of t f).width b then v else y)) n

-- ---- lists of registers

-- what is held of each register, in the one device and in the other
pub record Fit (R : ℕ → ℕ → Bool → Bool → Bool → Bool → Type 0) (xs ms ys ns : List ℕ) : Type 0 where
  pub marks : length ms ≡ length xs
  pub others : length ys ≡ length xs
  pub other_marks : length ns ≡ length xs
  pub bits : (r b : ℕ) → r < length xs → b < 64
      → R r b (bit (slice_index xs r) b) (bit (slice_index ms r) b) (bit (slice_index ys r) b) (bit (slice_index ns r) b)

-- register q has this value, and each other one is as it was
record Sets (q v : ℕ) (xs new : List ℕ) : Type 0 where
  size : length new ≡ length xs
  here : q < length xs → slice_index new q ≡ v
  others : (r : ℕ) → (r ≡ q → ⊥) → slice_index new r ≡ slice_index xs r

set_at : (q v : ℕ) (xs : List ℕ) → Sets q v xs (slice_set xs q v)
set_at q v xs = record {
  size = length-set xs q v;
  here = λ low. get_or-set_same xs q v 0 low;
  others = λ r other. get_or-set_other xs q r v 0 other;
}

kept_at : (q : ℕ) (xs : List ℕ) → Sets q (slice_index xs q) xs xs
kept_at q xs = record { size = refl; here = λ low. refl; others = λ r other. refl }

module _ (R : ℕ → ℕ → Bool → Bool → Bool → Bool → Type 0) where
  moved_to : (r b x m y n p o q s : ℕ) → p ≡ x → o ≡ m → q ≡ y → s ≡ n → R r b (bit x b) (bit m b) (bit y b) (bit n b) → R r b (bit p b) (bit o b) (bit q b) (bit s b)
  moved_to r b x m y n p o q s hp ho hq hs h =
      subst (λ z. R r b (bit z b) (bit o b) (bit q b) (bit s b)) (sym hp)
      (subst (λ z. R r b (bit x b) (bit z b) (bit q b) (bit s b)) (sym ho)
      (subst (λ z. R r b (bit x b) (bit m b) (bit z b) (bit s b)) (sym hq)
      (subst (λ z. R r b (bit x b) (bit m b) (bit y b) (bit z b)) (sym hs) h)))

  set_fit : (q x m y n : ℕ) (xs ms ys ns xs' ms' ys' ns' : List ℕ) → Fit R xs ms ys ns → Sets q x xs xs' → Sets q m ms ms' → Sets q y ys ys' → Sets q n ns ns'
      → ((b : ℕ) → q < length xs → b < 64 → R q b (bit x b) (bit m b) (bit y b) (bit n b)) → Fit R xs' ms' ys' ns'
  set_fit q x m y n xs ms ys ns xs' ms' ys' ns' fit sx sm sy sn now = record {
    marks = sm.size ∙ fit.marks ∙ sym sx.size;
    others = sy.size ∙ fit.others ∙ sym sx.size;
    other_marks = sn.size ∙ fit.other_marks ∙ sym sx.size;
    bits = λ r b low small. by r b (subst (λ k. r < k) sx.size low) small (cases_eq r q);
  }
    where
      by : (r b : ℕ) → r < length xs → b < 64 → (r ≡ q) ⊎ (r ≡ q → ⊥)
          → R r b (bit (slice_index xs' r) b) (bit (slice_index ms' r) b) (bit (slice_index ys' r) b) (bit (slice_index ns' r) b)
      by r b low small (inr other) =
          moved_to r b _ _ _ _ _ _ _ _ (sx.others r other) (sm.others r other) (sy.others r other) (sn.others r other) (fit.bits r b low small)
      by r b low small (inl is) =
          let inside : q < length xs = subst (λ k. k < length xs) is low in
          subst (λ k. R k b (bit (slice_index xs' k) b) (bit (slice_index ms' k) b) (bit (slice_index ys' k) b) (bit (slice_index ns' k) b)) (sym is)
          (moved_to q b x m y n _ _ _ _ (sx.here inside) (sm.here (subst (λ k. q < k) (sym fit.marks) inside))
          (sy.here (subst (λ k. q < k) (sym fit.others) inside)) (sn.here (subst (λ k. q < k) (sym fit.other_marks) inside)) (now b inside small))

-- ---- devices

-- a device that holds this, and has its locations, beats and count from another one
abbrev pub holding : Setup → (bits marks : List ℕ) → State → State
holding t xs ms base = record base { setup = t; bits = xs; marks = ms }

abbrev at_locations : State → List ℕ → State
at_locations s locations = record s { locations = locations }

pub record AreRelated (t : Setup) (g : Flaws) (R : ℕ → ℕ → Bool → Bool → Bool → Bool → Type 0) (d e : State) : Type 0 where
  pub xs : List ℕ
  pub ms : List ℕ
  pub ys : List ℕ
  pub ns : List ℕ
  pub base : State
  pub first : d ≡ holding t xs ms base
  pub second : e ≡ holding (flawed t g) ys ns base
  pub fit : Fit R xs ms ys ns

none_shown : (o : Option Policy) → bit_answered o false ≡ false
none_shown None = refl
none_shown (Some p) = by (is_write_only p)
  where
    by : (b : Bool) → (if b then false else false) ≡ false
    by true = refl
    by false = refl

-- ---- words that let an item through

item_of : Cell → Item
item_of (Reg r) = item.Reg r
item_of (Loc m i) = item.Mem m

its_own : (c : Cell) → is_of c (item_of c) ≡ true
unfolding item_of
its_own (Reg r) = eq-eqb r r refl
its_own (Loc m i) = eq-eqb m m refl

both_true : (a b : Bool) → a ≡ true → b ≡ true → (a && b) ≡ true
both_true true b p q = q
both_true false b p q = absurd cc

second_true : (a b : Bool) → (a && b) ≡ true → b ≡ true
second_true true b h = h
second_true false b h = absurd cc

let_through : (t : Setup) (port address : ℕ) (write : Bool) (k : ℕ) (w : WordRow) → slice_get (words_at t port address write) k ≡ Some w
    → is_reached t.words (item_of w.cell) write ≡ true
let_through t port address write k w found =
    let words = words_at t port address write in
    let low = slice_get_within words k w found in
    let is : get_or words k w ≡ w = get_or_from_slice_get words k w w found in
    let stands : stands_for port address write w ≡ true =
    subst (λ x. stands_for port address write x ≡ true) is (filter_passes (stands_for port address write) t.words k w low) in
    let each : All (λ (x : WordRow). (i : Item) → lets i write x ≡ true → is_reached t.words i write ≡ true) t.words =
    λ j d inside i e. list_any_at (lets i write) t.words j d inside e in
    let here = All-filter (stands_for port address write) (λ (x : WordRow). (i : Item) → lets i write x ≡ true → is_reached t.words i write ≡ true) t.words each k w low in
    subst (λ (x : WordRow). (i : Item) → lets i write x ≡ true → is_reached t.words i write ≡ true) is here (item_of w.cell)
    (both_true (is_of w.cell (item_of w.cell)) _ (its_own w.cell) (second_true _ _ stands))

held_bit : (t : Setup) (r b : ℕ) (f : ℕ → Bool) → b < 64 → bit (held t r f) b ≡ or_else (stuck_at t r b) (f b)
unfolding held
held_bit t r b f low = bit-from_bits 64 (λ b. or_else (stuck_at t r b) (f b)) b low

-- ---- one item

module _ (t : Setup) (g : Flaws) (R : ℕ → ℕ → Bool → Bool → Bool → Bool → Type 0) (Back Moves : ℕ → Type 0) (keeps : Keeps t g R Back Moves) where
  abbrev u : Setup
  u = flawed t g

  abbrev Related : State → State → Type 0
  Related = AreRelated t g R

  are_related : (d e : State) → Related d e → (P : State → State → Type 0)
      → ((xs ms ys ns : List ℕ) (base : State) → Fit R xs ms ys ns → P (holding t xs ms base) (holding u ys ns base)) → P d e
  are_related d e h P made =
      subst (λ x. P x e) (sym h.first) (subst (λ y. P (holding t h.xs h.ms h.base) y) (sym h.second) (made h.xs h.ms h.ys h.ns h.base h.fit))

  if_related : (b c : Bool) (x y v w : State) → c ≡ b → (b ≡ true → Related x v) → (b ≡ false → Related y w) → Related (if b then x else y) (if c then v else w)
  if_related true true x y v w same h k = h refl
  if_related false false x y v w same h k = k refl
  if_related true false x y v w same h k = absurd cc
  if_related false true x y v w same h k = absurd cc

  -- the two registers r with these bits and these marks, at b below 64
  holds_bits : (r b : ℕ) (f f' : ℕ → Bool) (m n : ℕ) → b < 64
      → R r b (or_else (stuck_at t r b) (f b)) (bit m b) (or_else (stuck_at u r b) (f' b)) (bit n b) → R r b (bit (held t r f) b) (bit m b) (bit (held u r f') b) (bit n b)
  holds_bits r b f f' m n low h =
      subst (λ z. R r b z (bit m b) (bit (held u r f') b) (bit n b)) (sym (held_bit t r b f low))
      (subst (λ z. R r b (or_else (stuck_at t r b) (f b)) (bit m b) z (bit n b)) (sym (held_bit u r b f' low)) h)

  reading : (xs ms ys ns : List ℕ) (base : State) → Fit R xs ms ys ns → (lanes : ℕ → Bool) (c : Cell) → is_reached t.words (item_of c) false ≡ true
      → Related (after_reading (holding t xs ms base) lanes c) (after_reading (holding u ys ns base) lanes c)
  unfolding item_of
  reading xs ms ys ns base fit lanes (Loc m i) reached =
      record { xs = xs; ms = ms; ys = ys; ns = ns; base = base; first = refl; second = refl; fit = fit }
  reading xs ms ys ns base fit lanes (Reg r) reached =
      let f = λ (b : ℕ). bit_left (policy_at t r b) (bit (slice_index xs r) b) (lanes b) in
      let f' = λ (b : ℕ). bit_left (policy_at u r b) (bit (slice_index ys r) b) (lanes b) in
      record {
        xs = slice_set xs r (held t r f);
        ms = ms;
        ys = slice_set ys r (held u r f');
        ns = ns;
        base = base;
        first = refl;
        second = refl;
        fit = set_fit R r (held t r f) (slice_index ms r) (held u r f') (slice_index ns r) xs ms ys ns _ _ _ _ fit
            (set_at r (held t r f) xs) (kept_at r ms) (set_at r (held u r f') ys) (kept_at r ns)
            (λ b inside low. holds_bits r b f f' (slice_index ms r) (slice_index ns r) low (keeps.read r b reached (lanes b) _ _ _ _ (fit.bits r b inside low)));
      }

  holds_marks : (r b : ℕ) (k k' : ℕ → Bool) (x y : Bool) → b < 64 → R r b x (k b) y (k' b) → R r b x (bit (from_bits 64 k) b) y (bit (from_bits 64 k') b)
  holds_marks r b k k' x y low h =
      subst (λ z. R r b x z y (bit (from_bits 64 k') b)) (sym (bit-from_bits 64 k b low))
      (subst (λ z. R r b x (k b) y z) (sym (bit-from_bits 64 k' b low)) h)

  closed_if : (b : Bool) (x d e : State) → b ≡ false → Related d e → Related (if b then x else d) e
  closed_if false x d e so h = h
  closed_if true x d e so h = absurd cc

  writing : (xs ms ys ns : List ℕ) (base : State) → Fit R xs ms ys ns → (word lanes : ℕ → Bool) (c : Cell) → is_reached t.words (item_of c) true ≡ true
      → is_deaf u c ≡ false → Related (after_writing (holding t xs ms base) word lanes c) (after_writing (holding u ys ns base) word lanes c)
  unfolding item_of
  writing xs ms ys ns base fit word lanes (Loc m i) reached heard =
      if_related (mem_of t m).writable (mem_of t m).writable _ _ _ _ refl
      (λ so. record {
        xs = xs;
        ms = ms;
        ys = ys;
        ns = ns;
        base = at_locations base (slice_set base.locations (location t m i) (from_bits 64 (λ b. if lanes b then word b else bit (slice_index base.locations (location t m i)) b)));
        first = refl;
        second = refl;
        fit = fit;
      })
      (λ so. record { xs = xs; ms = ms; ys = ys; ns = ns; base = base; first = refl; second = refl; fit = fit })
  writing xs ms ys ns base fit word lanes (Reg r) reached heard =
      let x = slice_index xs r in
      let m = slice_index ms r in
      let y = slice_index ys r in
      let n = slice_index ns r in
      let f = λ (b : ℕ). bit_written (policy_at t r b) (bit x b) (bit m b) (word b) (lanes b) in
      let f' = λ (b : ℕ). bit_written (policy_at u r b) (bit y b) (bit n b) (word b) (lanes b) in
      let k = λ (b : ℕ). mark_written (policy_at t r b) (bit m b) (lanes b) in
      let k' = λ (b : ℕ). mark_written (policy_at u r b) (bit n b) (lanes b) in
      record {
        xs = slice_set xs r (held t r f);
        ms = slice_set ms r (from_bits 64 k);
        ys = slice_set ys r (held u r f');
        ns = slice_set ns r (from_bits 64 k');
        base = base;
        first = refl;
        second = refl;
        fit = set_fit R r (held t r f) (from_bits 64 k) (held u r f') (from_bits 64 k') xs ms ys ns _ _ _ _ fit
            (set_at r (held t r f) xs) (set_at r (from_bits 64 k) ms) (set_at r (held u r f') ys) (set_at r (from_bits 64 k') ns)
            (λ b inside low. holds_bits r b f f' (from_bits 64 k) (from_bits 64 k') low
            (holds_marks r b k k' _ _ low (keeps.written r b reached heard (word b) (lanes b) _ _ _ _ (fit.bits r b inside low))));
      }

  -- a write that the other device doesn't take
  unheard : (xs ms ys ns : List ℕ) (base : State) → Fit R xs ms ys ns → (word lanes : ℕ → Bool) (c : Cell) → is_reached t.words (item_of c) true ≡ true
      → is_deaf u c ≡ true → Related (after_writing (holding t xs ms base) word lanes c) (holding u ys ns base)
  unfolding item_of
  unheard xs ms ys ns base fit word lanes (Loc m i) reached deaf =
      closed_if (mem_of t m).writable _ (holding t xs ms base) (holding u ys ns base) (keeps.memory m i deaf reached)
      (record { xs = xs; ms = ms; ys = ys; ns = ns; base = base; first = refl; second = refl; fit = fit })
  unheard xs ms ys ns base fit word lanes (Reg r) reached deaf =
      let x = slice_index xs r in
      let m = slice_index ms r in
      let f = λ (b : ℕ). bit_written (policy_at t r b) (bit x b) (bit m b) (word b) (lanes b) in
      let k = λ (b : ℕ). mark_written (policy_at t r b) (bit m b) (lanes b) in
      record {
        xs = slice_set xs r (held t r f);
        ms = slice_set ms r (from_bits 64 k);
        ys = ys;
        ns = ns;
        base = base;
        first = refl;
        second = refl;
        fit = set_fit R r (held t r f) (from_bits 64 k) (slice_index ys r) (slice_index ns r) xs ms ys ns _ _ _ _ fit
            (set_at r (held t r f) xs) (set_at r (from_bits 64 k) ms) (kept_at r ys) (kept_at r ns)
            (λ b inside low.
            subst (λ z. R r b z (bit (from_bits 64 k) b) (bit (slice_index ys r) b) (bit (slice_index ns r) b)) (sym (held_bit t r b f low))
            (subst (λ z. R r b (or_else (stuck_at t r b) (f b)) z (bit (slice_index ys r) b) (bit (slice_index ns r) b)) (sym (bit-from_bits 64 k b low))
            (keeps.unheard r b reached deaf (word b) (lanes b) _ _ _ _ (fit.bits r b inside low))));
      }

  if_deaf : (a b : Bool) (d e v w : State) → a ≡ false → (b ≡ true → Related v e) → (b ≡ false → Related v w)
      → Related (if a then d else v) (if b then e else w)
  if_deaf false true d e v w so h k = h refl
  if_deaf false false d e v w so h k = k refl
  if_deaf true b d e v w so h k = absurd cc

  by_direction : (b : Bool) (d e v w x y : State) → (b ≡ false → Related d e) → (b ≡ true → Related v w)
      → Related (if not b then d else v) (if not b then e else w)
  by_direction true d e v w x y h k = k refl
  by_direction false d e v w x y h k = h refl

  word : (xs ms ys ns : List ℕ) (base : State) → Fit R xs ms ys ns → (op : BusOp) (w : WordRow) → is_reached t.words (item_of w.cell) op.write ≡ true
      → Related (after_word (holding t xs ms base) op w) (after_word (holding u ys ns base) op w)
  word xs ms ys ns base fit op w reached =
      let d = holding t xs ms base in
      let bits = spread_bit (lanes_in w.lanes op.lanes) (bit op.word) in
      let lanes = lane_bit (lanes_in w.lanes op.lanes) in
      by_direction op.write _ _ _ _ d d
      (λ reads. reading xs ms ys ns base fit lanes w.cell (subst (λ b. is_reached t.words (item_of w.cell) b ≡ true) reads reached))
      (λ writes. let reached' : is_reached t.words (item_of w.cell) true ≡ true = subst (λ b. is_reached t.words (item_of w.cell) b ≡ true) writes reached in
      if_deaf (is_deaf t w.cell) (is_deaf u w.cell) d (holding u ys ns base) _ _ (keeps.hears w.cell)
      (λ deaf. unheard xs ms ys ns base fit bits lanes w.cell reached' deaf)
      (λ heard. writing xs ms ys ns base fit bits lanes w.cell reached' heard))

  named_same : (port address count : ℕ) → is_named u port address count ≡ is_named t port address count
  named_same port address count =
      ap (λ rs. list_any (λ r. r.port == port && nat_le r.from address && nat_le address r.to) rs || list_any (λ nth. nth == count) g.nths) keeps.ranges
      ∙ ap (λ ns. list_any (λ r. r.port == port && nat_le r.from address && nat_le address r.to) t.flaws.ranges || list_any (λ nth. nth == count) ns) keeps.nths

  faulty_same : (xs ms ys ns : List ℕ) (base : State) (port : ℕ) (op : BusOp)
      → is_faulty (holding u ys ns base) port op ≡ is_faulty (holding t xs ms base) port op
  faulty_same xs ms ys ns base port op = ap (λ b. not (op.bytes == slice_index t.ports port) || b) (named_same port op.address base.items)

  abbrev beats_at : State → (ℕ → ℕ → ℕ) → State
  beats_at s beats = record s { beats = beats }

  at_beats : (d e : State) (beats : ℕ → ℕ → ℕ) → Related d e → Related (beats_at d beats) (beats_at e beats)
  at_beats d e beats h = record {
    xs = h.xs;
    ms = h.ms;
    ys = h.ys;
    ns = h.ns;
    base = beats_at h.base beats;
    first = ap (λ s. beats_at s beats) h.first;
    second = ap (λ s. beats_at s beats) h.second;
    fit = h.fit;
  }

  touch : (xs ms ys ns : List ℕ) (base : State) → Fit R xs ms ys ns → (port : ℕ) (op : BusOp) (o : Option WordRow)
      → ((w : WordRow) → o ≡ Some w → is_reached t.words (item_of w.cell) op.write ≡ true)
      → Related (after_touch (holding t xs ms base) port op o) (after_touch (holding u ys ns base) port op o)
  touch xs ms ys ns base fit port op None reached =
      record { xs = xs; ms = ms; ys = ys; ns = ns; base = base; first = refl; second = refl; fit = fit }
  touch xs ms ys ns base fit port op (Some w) reached =
      let d = holding t xs ms base in
      if_related (is_faulty d port op) (is_faulty (holding u ys ns base) port op) _ _ _ _ (faulty_same xs ms ys ns base port op)
      (λ faulty. record {
        xs = xs;
        ms = ms;
        ys = ys;
        ns = ns;
        base = beats_at base (beats_back d w.place);
        first = refl;
        second = refl;
        fit = fit;
      })
      (λ fine. at_beats _ _ (beats_on d port op) (word xs ms ys ns base fit op w (reached w refl)))

  state_by : (xs ms ys ns : List ℕ) (base : State) → Fit R xs ms ys ns → (port : ℕ) (op : BusOp)
      → Related (state_after (holding t xs ms base) port op) (state_after (holding u ys ns base) port op)
  unfolding state_after
  state_by xs ms ys ns base fit port op =
      touch xs ms ys ns (counted base) fit port op (word_at (holding t xs ms base) port op)
      (λ w found. let_through t port op.address op.write (base.beats port op.address) w found)

  pub state_related : (d e : State) → Related d e → (port : ℕ) (op : BusOp) → Related (state_after d port op) (state_after e port op)
  state_related d e h port op =
      are_related d e h (λ x y. Related (state_after x port op) (state_after y port op)) (λ xs ms ys ns base fit. state_by xs ms ys ns base fit port op)

  -- ---- what it answers

  past_end : (xs : List ℕ) (r b : ℕ) → length xs ≤ r → bit (slice_index xs r) b ≡ false
  past_end xs r b past = ap (λ x. bit x b) (get_or_past xs r 0 past) ∙ bit-zero b

  none_at : (s : Setup) (r b x : ℕ) → bit x b ≡ false → bit_answered (policy_at s r b) (bit x b) ≡ false
  none_at s r b x none = ap (bit_answered (policy_at s r b)) none ∙ none_shown (policy_at s r b)

  shown_in : (xs ms ys ns : List ℕ) (base : State) → Fit R xs ms ys ns → (c : Cell) → is_reached t.words (item_of c) false ≡ true → (b : ℕ)
      → shown_bit (holding u ys ns base) c b ≡ shown_bit (holding t xs ms base) c b
  unfolding item_of
  shown_in xs ms ys ns base fit (Loc m i) reached b = refl
  shown_in xs ms ys ns base fit (Reg r) reached b = by (cases_lt b 64) (cases_lt r (length xs))
    where
      by : (b < 64) ⊎ (64 ≤ b) → (r < length xs) ⊎ (length xs ≤ r)
          → bit_answered (policy_at u r b) (bit (slice_index ys r) b) ≡ bit_answered (policy_at t r b) (bit (slice_index xs r) b)
      by (inl low) (inl inside) = keeps.shown r b reached _ _ _ _ (fit.bits r b inside low)
      by (inl low) (inr past) =
          none_at u r b (slice_index ys r) (past_end ys r b (subst (λ k. k ≤ r) (sym fit.others) past))
          ∙ sym (none_at t r b (slice_index xs r) (past_end xs r b past))
      by (inr high) inside =
          ap (λ o. bit_answered (option_map (policy_of u) o) (bit (slice_index ys r) b)) (keeps.above r b high)
          ∙ sym (ap (λ o. bit_answered (option_map (policy_of t) o) (bit (slice_index xs r) b)) (keeps.above r b high))

  if_answers : (b c : Bool) (x y v w : Answer) → c ≡ b → v ≡ x → (b ≡ false → w ≡ y) → (if c then v else w) ≡ (if b then x else y)
  if_answers true true x y v w same h k = h
  if_answers false false x y v w same h k = k refl
  if_answers true false x y v w same h k = absurd cc
  if_answers false true x y v w same h k = absurd cc

  abbrev fine_word : ℕ → Answer
  fine_word n = record { word = n; failed = false }

  if_word : (b : Bool) (m n : ℕ) → (b ≡ false → n ≡ m) → fine_word (if b then 0 else n) ≡ fine_word (if b then 0 else m)
  if_word true m n h = refl
  if_word false m n h = ap fine_word (h refl)

  answer_in : (xs ms ys ns : List ℕ) (base : State) → Fit R xs ms ys ns → (port : ℕ) (op : BusOp) (o : Option WordRow)
      → ((w : WordRow) → o ≡ Some w → is_reached t.words (item_of w.cell) op.write ≡ true)
      → answer_at (holding u ys ns base) port op o ≡ answer_at (holding t xs ms base) port op o
  answer_in xs ms ys ns base fit port op None reached = refl
  answer_in xs ms ys ns base fit port op (Some w) reached =
      let d = holding t xs ms base in
      let e = holding u ys ns base in
      let lanes = lanes_in w.lanes op.lanes in
      if_answers (is_faulty d port op) (is_faulty e port op) _ _ _ _ (faulty_same xs ms ys ns base port op) refl
      (λ fine. if_word op.write (word_shown d op w) (word_shown e op w)
      (λ reads. from_bits-same 64 (gathered_bit lanes (shown_bit e w.cell)) (gathered_bit lanes (shown_bit d w.cell))
      (λ b low. ap (λ x. bit lanes.enabled (b / 8) && x) (shown_in xs ms ys ns base fit w.cell
      (subst (λ x. is_reached t.words (item_of w.cell) x ≡ true) reads (reached w refl)) (8 * slice_index lanes.bytes (b / 8) + b % 8)))))

  answer_by : (xs ms ys ns : List ℕ) (base : State) → Fit R xs ms ys ns → (port : ℕ) (op : BusOp)
      → answer_of (holding u ys ns base) port op ≡ answer_of (holding t xs ms base) port op
  unfolding answer_of
  answer_by xs ms ys ns base fit port op =
      answer_in xs ms ys ns (counted base) fit port op (word_at (holding t xs ms base) port op)
      (λ w found. let_through t port op.address op.write (base.beats port op.address) w found)

  pub same_answer : (d e : State) → Related d e → (port : ℕ) (op : BusOp) → answer_of e port op ≡ answer_of d port op
  same_answer d e h port op =
      are_related d e h (λ x y. answer_of y port op ≡ answer_of x port op) (λ xs ms ys ns base fit. answer_by xs ms ys ns base fit port op)

  -- ---- the other calls

  abbrev IsOpen : Cell → Type 0
  IsOpen (Reg r) = Back r
  IsOpen (Loc m i) = Unit {0}

  same_in : (xs ms ys ns : List ℕ) (r : ℕ) → Fit R xs ms ys ns → Back r → (b : ℕ) → b < 64 → bit (slice_index ys r) b ≡ bit (slice_index xs r) b
  same_in xs ms ys ns r fit back b low = by (cases_lt r (length xs))
    where
      by : (r < length xs) ⊎ (length xs ≤ r) → bit (slice_index ys r) b ≡ bit (slice_index xs r) b
      by (inl inside) = keeps.same r b back _ _ _ _ (fit.bits r b inside low)
      by (inr past) = past_end ys r b (subst (λ k. k ≤ r) (sym fit.others) past) ∙ sym (past_end xs r b past)

  -- a register with a backdoor holds the same bits
  pub same_bits : (d e : State) → Related d e → (r : ℕ) → Back r → (b : ℕ) → b < 64 → bit (peeked e (Reg r)) b ≡ bit (peeked d (Reg r)) b
  unfolding peeked
  same_bits d e h r back b low =
      are_related d e h (λ x y. bit (slice_index y.bits r) b ≡ bit (slice_index x.bits r) b) (λ xs ms ys ns base fit. same_in xs ms ys ns r fit back b low)

  -- and a location the same bytes
  pub same_location : (d e : State) → Related d e → (m i : ℕ) → peeked e (Loc m i) ≡ peeked d (Loc m i)
  unfolding peeked
  same_location d e h m i =
      are_related d e h (λ x y. slice_index y.locations (location y.setup m i) ≡ slice_index x.locations (location x.setup m i)) (λ xs ms ys ns base fit. refl)

  deposit : (xs ms ys ns : List ℕ) (base : State) → Fit R xs ms ys ns → (q : ℕ) (f f' : ℕ → Bool)
      → ((b : ℕ) → q < length xs → b < 64 → R q b (or_else (stuck_at t q b) (f b)) (bit (slice_index ms q) b) (or_else (stuck_at u q b) (f' b)) (bit (slice_index ns q) b))
      → Related (holding t (slice_set xs q (held t q f)) ms base) (holding u (slice_set ys q (held u q f')) ns base)
  deposit xs ms ys ns base fit q f f' now = record {
    xs = slice_set xs q (held t q f);
    ms = ms;
    ys = slice_set ys q (held u q f');
    ns = ns;
    base = base;
    first = refl;
    second = refl;
    fit = set_fit R q (held t q f) (slice_index ms q) (held u q f') (slice_index ns q) xs ms ys ns _ _ _ _ fit
        (set_at q (held t q f) xs) (kept_at q ms) (set_at q (held u q f') ys) (kept_at q ns)
        (λ b inside low. holds_bits q b f f' (slice_index ms q) (slice_index ns q) low (now b inside low));
  }

  poke_by : (xs ms ys ns : List ℕ) (base : State) → Fit R xs ms ys ns → (c : Cell) (v : ℕ) → IsOpen c
      → Related (poked (holding t xs ms base) c v) (poked (holding u ys ns base) c v)
  unfolding poked
  poke_by xs ms ys ns base fit (Loc m i) v back = record {
    xs = xs;
    ms = ms;
    ys = ys;
    ns = ns;
    base = at_locations base (slice_set base.locations (location t m i) (v % 256 ^ (mem_of t m).bytes));
    first = refl;
    second = refl;
    fit = fit;
  }
  poke_by xs ms ys ns base fit (Reg r) v back =
      deposit xs ms ys ns base fit r (λ b. if is_some (field_at t r b) then bit v b else bit (slice_index xs r) b)
      (λ b. if is_some (field_at t r b) then bit v b else bit (slice_index ys r) b)
      (λ b inside low. keeps.poked r b back (bit v b) _ _ _ _ (fit.bits r b inside low))

  pub poke_related : (d e : State) → Related d e → (c : Cell) (v : ℕ) → IsOpen c → Related (poked d c v) (poked e c v)
  poke_related d e h c v back =
      are_related d e h (λ x y. Related (poked x c v) (poked y c v)) (λ xs ms ys ns base fit. poke_by xs ms ys ns base fit c v back)

  move_by : (xs ms ys ns : List ℕ) (base : State) → Fit R xs ms ys ns → (f v : ℕ) → Moves f
      → Related (hw_set (holding t xs ms base) f v) (hw_set (holding u ys ns base) f v)
  unfolding hw_set
  move_by xs ms ys ns base fit f v moves =
      let row = field_of t f in
      deposit xs ms ys ns base fit row.reg (put_bit row.lsb row.width (bit v) (bit (slice_index xs row.reg)))
      (put_bit row.lsb row.width (bit v) (bit (slice_index ys row.reg)))
      (λ b inside low. keeps.moved f b moves (bit v (b - row.lsb)) _ _ _ _ (fit.bits row.reg b inside low))

  pub move_related : (d e : State) → Related d e → (f v : ℕ) → Moves f → Related (hw_set d f v) (hw_set e f v)
  move_related d e h f v moves =
      are_related d e h (λ x y. Related (hw_set x f v) (hw_set y f v)) (λ xs ms ys ns base fit. move_by xs ms ys ns base fit f v moves)

  -- ---- a reset

  all_regs : (s : Setup) (xs ms : List ℕ) (base : State) (kind r : ℕ) → r < length xs
      → slice_index (map (reg_reset (holding s xs ms base) kind) (range_with_len 0 (length xs))) r ≡ reg_reset (holding s xs ms base) kind r
  all_regs s xs ms base kind r low =
      let here : 0 + r ≡ r = omega arith in get_or-map-range_with_len (reg_reset (holding s xs ms base) kind) 0 (length xs) r r 0 low here

  cleared : (b : Bool) (ms : List ℕ) → length (if b then replicate (length ms) 0 else ms) ≡ length ms
  cleared true ms = length-replicate (length ms) 0
  cleared false ms = refl

  cleared_bit : (kind : Bool) (ms : List ℕ) (r b : ℕ) → r < length ms
      → bit (slice_index (if kind then replicate (length ms) 0 else ms) r) b ≡ (if kind then false else bit (slice_index ms r) b)
  cleared_bit true ms r b low = ap (λ x. bit x b) (get_or-replicate (length ms) r 0 0 low) ∙ bit-zero b
  cleared_bit false ms r b low = refl

  reset_fit : (xs ms ys ns : List ℕ) (base : State) (kind : ℕ) → length ms ≡ length xs → length ys ≡ length xs → length ns ≡ length xs
      → ((r b : ℕ) → r < length xs → b < 64
      → R r b (or_else (stuck_at t r b) (reset_bit t kind (field_at t r b) b (bit (slice_index xs r) b))) (kept_mark kind (bit (slice_index ms r) b))
      (or_else (stuck_at u r b) (reset_bit u kind (field_at t r b) b (bit (slice_index ys r) b))) (kept_mark kind (bit (slice_index ns r) b)))
      → Related (reset_by (holding t xs ms base) kind) (reset_by (holding u ys ns base) kind)
  unfolding reset_by
  reset_fit xs ms ys ns base kind lm ly ln now =
      let xs' = map (reg_reset (holding t xs ms base) kind) (range_with_len 0 (length xs)) in
      let ys' = map (reg_reset (holding u ys ns base) kind) (range_with_len 0 (length ys)) in
      let ms' = if kind == 0 then replicate (length ms) 0 else ms in
      let ns' = if kind == 0 then replicate (length ns) 0 else ns in
      let size : length xs' ≡ length xs = length-map-range_with_len (reg_reset (holding t xs ms base) kind) 0 (length xs) in
      let size' : length ys' ≡ length ys = length-map-range_with_len (reg_reset (holding u ys ns base) kind) 0 (length ys) in
      record {
        xs = xs';
        ms = ms';
        ys = ys';
        ns = ns';
        base = beats_at base (λ p a. 0);
        first = refl;
        second = refl;
        fit = record {
          marks = cleared (kind == 0) ms ∙ lm ∙ sym size;
          others = size' ∙ ly ∙ sym size;
          other_marks = cleared (kind == 0) ns ∙ ln ∙ sym size;
          bits = λ r b low small.
              let inside : r < length xs = subst (λ k. r < k) size low in
              subst (λ x. R r b (bit x b) (bit (slice_index ms' r) b) (bit (slice_index ys' r) b) (bit (slice_index ns' r) b)) (sym (all_regs t xs ms base kind r inside))
              (subst (λ y. R r b (bit (reg_reset (holding t xs ms base) kind r) b) (bit (slice_index ms' r) b) (bit y b) (bit (slice_index ns' r) b))
              (sym (all_regs u ys ns base kind r (subst (λ k. r < k) (sym ly) inside)))
              (subst (λ m. R r b (bit (reg_reset (holding t xs ms base) kind r) b) m (bit (reg_reset (holding u ys ns base) kind r) b) (bit (slice_index ns' r) b))
              (sym (cleared_bit (kind == 0) ms r b (subst (λ k. r < k) (sym lm) inside)))
              (subst (λ n. R r b (bit (reg_reset (holding t xs ms base) kind r) b) (kept_mark kind (bit (slice_index ms r) b)) (bit (reg_reset (holding u ys ns base) kind r) b) n)
              (sym (cleared_bit (kind == 0) ns r b (subst (λ k. r < k) (sym ln) inside)))
              (subst (λ x. R r b x (kept_mark kind (bit (slice_index ms r) b)) (bit (reg_reset (holding u ys ns base) kind r) b) (kept_mark kind (bit (slice_index ns r) b)))
              (sym (held_bit t r b _ small))
              (subst (λ y. R r b (or_else (stuck_at t r b) (reset_bit t kind (field_at t r b) b (bit (slice_index xs r) b))) (kept_mark kind (bit (slice_index ms r) b)) y
              (kept_mark kind (bit (slice_index ns r) b))) (sym (held_bit u r b _ small)) (now r b inside small))))));
        };
      }

  reset_in : (xs ms ys ns : List ℕ) (base : State) → Fit R xs ms ys ns → (kind : ℕ) → Related (reset_by (holding t xs ms base) kind) (reset_by (holding u ys ns base) kind)
  reset_in xs ms ys ns base fit kind =
      reset_fit xs ms ys ns base kind fit.marks fit.others fit.other_marks (λ r b low small. keeps.reset r b kind _ _ _ _ (fit.bits r b low small))

  pub reset_related : (d e : State) → Related d e → (kind : ℕ) → Related (reset_by d kind) (reset_by e kind)
  reset_related d e h kind =
      are_related d e h (λ x y. Related (reset_by x kind) (reset_by y kind)) (λ xs ms ys ns base fit. reset_in xs ms ys ns base fit kind)

  nothing_held : (n r b : ℕ) → r < length (replicate {A = ℕ} n 0) → bit (slice_index (replicate n 0) r) b ≡ false
  nothing_held n r b low = ap (λ x. bit x b) (get_or-replicate n r 0 0 (subst (λ k. r < k) (length-replicate n 0) low)) ∙ bit-zero b

  unmarked : (kind : ℕ) (m : Bool) → m ≡ false → kept_mark kind m ≡ false
  unmarked kind m none = by (kind == 0)
    where
      by : (b : Bool) → (if b then false else m) ≡ false
      by true = refl
      by false = none

  pub first_related : (count : ℕ) → Related (first_state t count) (first_state u count)
  unfolding first_state
  first_related count =
      let zeros = replicate (length t.regs) 0 in
      reset_fit zeros zeros zeros zeros (empty_state t count) 0 refl refl refl (λ r b low small.
      let none : bit (slice_index zeros r) b ≡ false = nothing_held (length t.regs) r b low in
      let unspent : kept_mark 0 (bit (slice_index zeros r) b) ≡ false = unmarked 0 (bit (slice_index zeros r) b) none in
      subst (λ x. R r b (or_else (stuck_at t r b) (reset_bit t 0 (field_at t r b) b x)) (kept_mark 0 (bit (slice_index zeros r) b))
      (or_else (stuck_at u r b) (reset_bit u 0 (field_at t r b) b x)) (kept_mark 0 (bit (slice_index zeros r) b))) (sym none)
      (subst (λ m. R r b (or_else (stuck_at t r b) (reset_bit t 0 (field_at t r b) b false)) m (or_else (stuck_at u r b) (reset_bit u 0 (field_at t r b) b false)) m)
      (sym unspent) (keeps.first r b)))

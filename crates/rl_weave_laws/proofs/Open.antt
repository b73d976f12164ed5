-- The words of a group end, and leave no access open.
use Rattle.std.proofs.Common.{◌≡◌, ℕ, zero, suc, ◌<◌, ◌≤◌, Bool, true, false, cond, eqb, eqb-true, length, refl, ap, ◌∙◌, arith}
use Rattle.std.specs.Prelude.{Contains}
use Rattle.std.proofs.lemmas.List.{get_or_default, nil_from_length}
use Rattle.std.proofs.lemmas.Nat.{mod_below}
use Rattle.rl_access.specs.declared.trace.TraceItem.{TraceItem}
use Rattle.rl_session.specs.Soak.{next_state, drawn}
use Rattle.rl_weave.specs.Access.{woven_at}
use Rattle.rl_weave.specs.Weave.{IsWeave, words_left}
use Rattle.rl_weave.proofs.Left.{few_left, none_left, step_takes}
use Rattle.rl_weave.proofs.Weaves.{weave_stepped}
use Rattle.rl_weave_log.specs.WeaveLog.{Weaving, Part, nothing, followed, item_sent, sends, chosen, word_drawn, words}
use Rattle.rl_weave_laws.specs.Groups.{NoneIsOpen}

-- ---- the word that is drawn

-- the access that sends it
abbrev pub which_at : Weaving → ℕ
which_at g = chosen g.weave (next_state g.drawing)

abbrev pub item_at : Weaving → TraceItem
item_at g = item_sent g.world (woven_at g.weave.accesses (which_at g))

abbrev pub word_at : Weaving → Part
word_at g = sends (record g { drawing = next_state g.drawing }) (which_at g) (item_at g)

pub word_is : (g : Weaving) → word_drawn g ≡ word_at g
unfolding word_drawn
word_is g = refl

-- whether none is open
abbrev pub is_done : Weaving → Bool
is_done g = eqb (length g.weave.still_open) 0

pub words_more : (most : ℕ) (g : Weaving) → words (suc most) g ≡ cond (is_done g) (nothing g) (followed (word_at g) (words most))
unfolding words
words_more most g = ap (λ p. cond (is_done g) (nothing g) (followed p (words most))) (word_is g)

pub words_none : (g : Weaving) → words 0 g ≡ nothing g
unfolding words
words_none g = refl

-- an open access sends it
pub some_open : (g : Weaving) → is_done g ≡ false → 0 < length g.weave.still_open
some_open g going = by (length g.weave.still_open) going
  where
    by : (n : ℕ) → eqb n 0 ≡ false → 0 < n
    by zero e = absurd cc
    by (suc n) e = omega arith

pub is_open : (g : Weaving) → is_done g ≡ false → Contains g.weave.still_open (which_at g)
is_open g going =
    let xs = g.weave.still_open in
    let i = drawn (next_state g.drawing) (length xs) in
    let inside : i < length xs = mod_below _ (length xs) (some_open g going) in
    (i, inside, get_or_default xs i (which_at g) 0 inside)

-- ---- at most as many as are left

all_sent : (most : ℕ) (g : Weaving) → IsWeave g.weave → words_left g.weave ≤ most
    → length (words most g).after.weave.still_open ≡ 0
all_sent zero g ok few = ap (λ (p : Part). length p.after.weave.still_open) (words_none g) ∙ none_left g.weave ok few
all_sent (suc most) g ok few =
    ap (λ (p : Part). length p.after.weave.still_open) (words_more most g)
    ∙ by (is_done g) refl (λ h good less. all_sent most h good less)
  where
    by : (t : Bool) → is_done g ≡ t
        → ((h : Weaving) → IsWeave h.weave → words_left h.weave ≤ most → length (words most h).after.weave.still_open ≡ 0)
        → length (cond t (nothing g) (followed (word_at g) (words most))).after.weave.still_open ≡ 0
    by true none others = eqb-true (length g.weave.still_open) 0 none
    by false some others =
        let there = is_open g some in
        let less = step_takes g.weave (which_at g) (item_at g) ok there in
        others (word_at g).after (weave_stepped g.weave (which_at g) (item_at g) ok there) (omega (arith, less, few))

pub none_is_open : NoneIsOpen
none_is_open g sound ok on =
    nil_from_length (words 512 g).after.weave.still_open (all_sent 512 g ok (few_left g.world.model g.weave sound ok on))

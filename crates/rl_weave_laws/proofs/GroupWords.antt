-- The words of a group are steps of its weave.
use Rattle.std.proofs.Common.{◌≡◌, ℕ, ◌+◌, ◌<◌, is_some, unwrap_or, length, Ok, refl, arith}
use Rattle.std.proofs.lemmas.Option.{slice_get-get_or}
use Rattle.rl_bus.specs.Account.{without_peer}
use Rattle.rl_access.specs.Model.{IsModel}
use Rattle.rl_access.specs.Observed.{word_ops}
use Rattle.rl_access.specs.Rules.{grant}
use Rattle.rl_access.specs.World.{scene_at}
use Rattle.rl_access.proofs.Whole.{whole_count, first_of_place}
use Rattle.rl_map.specs.Layout.{words_of}
use Rattle.rl_weave.specs.declared.weave.Step.{Step}
use Rattle.rl_weave.specs.declared.woven.Woven.{Woven}
use Rattle.rl_weave.specs.Access.{op_of, woven_at}
use Rattle.rl_weave.specs.Step.{IsStepOf, end_of}
use Rattle.rl_weave.specs.Weave.{IsWeave}
use Rattle.rl_weave.proofs.Weaves.{at_open}
use Rattle.rl_weave_laws.specs.Half.{IsOpen}
use Rattle.rl_weave_laws.proofs.Moves.{half_granted}
use Rattle.rl_weave_log.specs.WeaveLog.{Weaving, no_op}
use Rattle.rl_weave_laws.proofs.Open.{item_at, which_at, word_at}

abbrev pub woven_now : Weaving → Woven
woven_now g = woven_at g.weave.accesses (which_at g)

-- the word that is drawn, and the event that it ends
abbrev pub step_at : Weaving → Step
step_at g = record { item = item_at g; end = end_of (word_at g).after.world.model (woven_now g) (item_at g) }

-- its device's count of errors rises whatever it answers
pub word_is_step : (g : Weaving) (errors : ℕ) → IsModel g.world.model → IsWeave g.weave → IsOpen g.weave (which_at g)
    → grant g.world.model (op_of (woven_now g).access) ≡ Ok (woven_now g).place
    → (woven_now g).words ≡ length (words_of g.world.model.layout (woven_now g).place 0)
    → IsStepOf (scene_at g.world (without_peer errors)) (scene_at (word_at g).after.world (without_peer (errors + 1))) (woven_now g) (step_at g)
word_is_step g errors model ok there granted all =
    let v = woven_now g in
    let l = g.world.model.layout in
    let ops = word_ops l v.place v.access.value in
    let at = half_granted g.world.model v granted in
    let count = whole_count l v.place 0 (unwrap_or v.access.value 0) (is_some v.access.value) model.layout
    (first_of_place l v.place model.layout at.there.inside) in
    let short = (at_open g.weave (which_at g) ok there).short in
    let low : length v.items < length ops = omega (arith, short, all, count) in
    record {
      sent = record {
        op = slice_get-get_or ops (length v.items) no_op low;
        item_is = refl;
        adapters = refl;
        asked = record { cause = record { later = omega arith; failed = λ f. omega arith }; talks = tt };
        step = record { goes = refl; answers = λ s is. cc };
        model = refl;
      };
      end = refl;
    }

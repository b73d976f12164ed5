use Rattle.std.proofs.Common.{◌≡◌, Bool, List, length, sym, ap, subst, ◌∙◌, arith}
use Rattle.std.proofs.lemmas.List.{with_items_is}
use Rattle.std.specs.Vec.{with_items}
use Rattle.rl_policy.specs.Bits.{bit}
use Rattle.rl_model.specs.Fields.{fields_of}
use Rattle.rl_mirror.specs.Mirror.{MirrorData, IsMirrorOf, marks_in}
use Rattle.rl_mirror.specs.Prediction.{learned_by_write, predict_write}
use Rattle.rl_mirror.specs.Reachable.{IsReachable}
use Rattle.rl_mirror.proofs.ReachLemmas.{write_reach}
use Rattle.rl_mirror.proofs.MaskedLemmas.{known_is, wish_is}
use Rattle.rl_mirror.proofs.MirrorLemmas.{read_of, write_is, write_built}
use Rattle.rl_mirror.proofs.SpentLemmas.{length-spent_after}
use Rattle.rl_mirror.proofs.mirror.Mirror.predict_write.Goals as goal

pub returns-clause-value : goal.returns-clause-value
returns-clause-value c =
    let chip = c.args.chip.now in
    let reg = c.args.reg in
    let fs = fields_of chip reg in
    let marks = marks_in chip c.deref.result.now reg in
    let m : MirrorData = record { mirrored = c.self.inside.mirrored.items; desired = c.self.inside.desired.items; spent = c.self.inside.spent.items } in
    let is : m ≡ c.args.self.now = c.self.view_is in
    let mirrored = c.index-mirrored.result.now in
    let desired = c.index-desired.result.now in
    let known = c.written_over-known.result in
    let places = c.chosen-places.result in
    let read = read_of chip reg mirrored desired m c.args.self.now is c.requires.built c.requires.reg c.index-mirrored.ensures c.index-desired.ensures in
    let brings : known ≡ learned_by_write fs (bit c.args.fields) marks mirrored c.args.value mirrored =
    c.written_over-known.ensures ∙ known_is fs c.args.fields mirrored c.args.value places marks read.known c.chosen-places.ensures.bits in
    let long : length c.spend.new.spent ≡ c.self.inside.spent.len =
    omega (
      arith,
      ap (λ (xs : List Bool). length xs) c.spend.ensures,
      length-spent_after chip reg c.args.fields c.deref_mut.result.now,
      ap (λ (xs : List Bool). length xs) c.deref_mut.ensures.value,
      c.self.inside.spent.ok.0,
    ) in
    write_is chip reg c.args.value c.args.fields m mirrored desired known c.replaced.result c.deref.result.now c.deref_mut.result.now (with_items c.self.inside.spent c.spend.new.spent).items
    read.mirrored read.desired c.deref.ensures.value c.deref_mut.ensures.value brings
    (wish_is fs c.args.fields mirrored c.args.value desired known places c.replaced.result marks c.replaced.type_inv read.wish brings c.chosen-places.ensures.bits c.replaced.ensures)
    (with_items_is c.self.inside.spent c.spend.new.spent long ∙ c.spend.ensures)
    ∙ ap (predict_write chip reg c.args.value c.args.fields) is

pub returns-clause-built : goal.returns-clause-built
returns-clause-built c =
    subst (λ (m : MirrorData). IsMirrorOf c.args.chip.now m) (sym (returns-clause-value c)) (write_built c.args.chip.now c.args.reg c.args.value c.args.fields c.args.self.now
    c.chosen-places.ensures.sound c.requires.reg c.requires.built)

pub returns-clause-reach : goal.returns-clause-reach
returns-clause-reach c was =
    subst (λ (m : MirrorData). IsReachable c.args.chip.now m) (sym (returns-clause-value c)) (write_reach c.args.chip.now c.args.reg c.args.value c.args.fields c.args.self.now
    c.chosen-places.ensures.sound c.requires.reg c.requires.built was)

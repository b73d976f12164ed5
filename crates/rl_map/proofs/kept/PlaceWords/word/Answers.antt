use Rattle.std.proofs.Common.{◌*◌, ◌^◌, ◌<◌, Some, sym, ap, ◌∙◌, subst}
use Rattle.std.specs.Prelude.{option_map}
use Rattle.std.proofs.lemmas.Option.{slice_get-map, get_or_from_slice_get}
use Rattle.rl_map.specs.declared.word.Word.{Word}
use Rattle.rl_map.specs.Words.{no_word}
use Rattle.rl_map.specs.Locations.{further, kept_at}
use Rattle.rl_map.proofs.kept.PlaceWords.word.Goals as goal

pub returns : goal.returns
returns c =
    let moved = further (c.args.index * c.args.self.now.step) in
    slice_get-map moved c.args.self.now.words c.args.k ∙ ap (option_map moved) c.get.ensures ∙ ap Some (sym c.further.ensures)

pub further-requires : goal.further-requires
further-requires c =
    let kept = c.args.self.now in
    let moved = further (c.args.index * kept.step) in
    subst (λ (w : Word). w.address < 2 ^ 64)
    (get_or_from_slice_get (kept_at kept c.args.index) c.args.k (moved c.get.result) no_word (slice_get-map moved kept.words c.args.k ∙ ap (option_map moved) c.get.ensures))
    c.requires.low

use Rattle.std.proofs.Common.{◌<◌, length, sym, ap, ◌∙◌, arith}
use Rattle.std.proofs.lemmas.Bool.{eqb-false}
use Rattle.rl_map.specs.Layout.{key_of}
use Rattle.rl_map.proofs.Lookups.{default_any}
use Rattle.rl_map.proofs.shared.group_start.Goals as goal

pub returns-then-key-clause-other : goal.returns-then-key-clause-other
returns-then-key-clause-other c d apart =
    let rows = c.args.rows.now in
    let low : c.args.start < length rows = omega (arith, c.requires.start_in, c.requires.k_in) in
    absurd (eqb-false _ _ apart (ap key_of (default_any rows c.args.start d _ low) ∙ sym c.key.ensures ∙ c.if-key.true ∙ c.key-2.ensures
    ∙ ap key_of (default_any rows c.args.k _ d c.requires.k_in)))

pub returns-else-key-clause-same : goal.returns-else-key-clause-same
returns-else-key-clause-same c d same =
    let rows = c.args.rows.now in
    let low : c.args.start < length rows = omega (arith, c.requires.start_in, c.requires.k_in) in
    absurd (c.if-key.false (c.key.ensures ∙ ap key_of (default_any rows c.args.start _ d low) ∙ same
    ∙ ap key_of (default_any rows c.args.k d _ c.requires.k_in) ∙ sym c.key-2.ensures))

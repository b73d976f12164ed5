use Rattle.rl_session.proofs.LayoutLemmas.{named_then, named_failed}
use Rattle.rl_session.proofs.layout_text.put_heading.Goals as goal

pub returns-in_err-put_named : goal.returns-in_err-put_named
returns-in_err-put_named g c =
    named_failed _ _ _ _ _ _ _ _ c.from_residual.ensures.0 (rw (c.path.ensures, c.item.ensures) at c.in_err-put_named.ensures)

pub returns-in_err-put_named-2 : goal.returns-in_err-put_named-2
returns-in_err-put_named-2 g c =
    named_then _ _ _ _ _ _ _ _ _ (rw (c.path.ensures, c.item.ensures) at c.in_ok-put_named.ensures)
    (named_failed _ _ _ _ _ _ _ _ c.from_residual-in_err-put_named-2.ensures.0
    (rw (c.map_name.ensures, c.map_of.ensures.map) at c.in_err-put_named-2.ensures))

pub returns : goal.returns
returns g c =
    named_then _ _ _ _ _ _ _ _ _ (rw (c.path.ensures, c.item.ensures) at c.in_ok-put_named.ensures)
    (named_then _ _ _ _ _ _ _ _ _ (rw (c.map_name.ensures, c.map_of.ensures.map) at c.in_ok-put_named-2.ensures)
    (rw (c.rights_text-rights.ensures, c.rights.ensures) at c.put_pieces.ensures))

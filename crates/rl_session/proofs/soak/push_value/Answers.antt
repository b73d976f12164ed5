use Rattle.std.proofs.Common.{sym, append-nil, inl, inr}
use Rattle.rl_report.specs.Pieces.{joined}
use Rattle.rl_session.proofs.soak.push_value.Goals as goal

pub returns-in-Read : goal.returns-in-Read
unfolding joined
returns-in-Read c = elim c.in-Read.is [
  | inl e ↦ rw e (sym (append-nil c.args.text.now.items))
  | inr (inl e) ↦ rw e (sym (append-nil c.args.text.now.items))
  | inr (inr (inl e)) ↦ rw e (sym (append-nil c.args.text.now.items))
  | inr (inr (inr e)) ↦ rw e (sym (append-nil c.args.text.now.items))
]

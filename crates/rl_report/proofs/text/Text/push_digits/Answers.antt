use Rattle.std.proofs.Common.{◌++◌, ap, ◌∙◌, mod-eq_of_lt}
use Rattle.rl_report.specs.Numbers.{padded}
use Rattle.rl_report.proofs.ShiftLemmas.{digits_pushed, moved_fits}
use Rattle.rl_report.proofs.text.Text.push_digits.Goals as goal

pub returns-clause-text : goal.returns-clause-text
returns-clause-text g c =
    let whole = mod-eq_of_lt (moved_fits g.row.N c.args.count c.args.n c.requires.wide c.requires.few c.requires.fits) in
    digits_pushed c.self.inside.bytes c.digits_behind.new.bytes c.self.inside.len g.row.N c.args.count c.args.n c.requires.few c.digits_behind.ensures.front
    (c.digits_behind.ensures.digits ∙ ap (padded g.row.N) whole)
    ∙ ap (λ l. l ++ padded c.args.count c.args.n) c.self.view_is

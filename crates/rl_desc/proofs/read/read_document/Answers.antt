use Rattle.toml.specs.View.{table_view}
use Rattle.rl_desc.proofs.ArrayLemmas.{document_reads}
use Rattle.rl_desc.proofs.read.read_document.Goals as goal

pub returns : goal.returns
returns c =
    let (none, same) = c.in_ok-arrays.ensures in
    document_reads c.read_arrays.result (table_view c.args.table.now) _ none same c.read_arrays.ensures

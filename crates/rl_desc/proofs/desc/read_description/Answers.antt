use Rattle.std.proofs.Common.{sym, ◌∙◌}
use Rattle.std.proofs.lemmas.Bool.{false≢true}
use Rattle.rl_desc.specs.Described.{first_fault}
use Rattle.rl_desc.proofs.DocumentLemmas.{document_of-text, document_of-none}
use Rattle.rl_desc.proofs.StepLemmas.{text_valid, text_read, text_refused, text_faulty, text_stops}
use Rattle.rl_desc.proofs.desc.read_description.Goals as goal

pub returns-in-Err-clause-refused : goal.returns-in-Err-clause-refused
unfolding first_fault
returns-in-Err-clause-refused c = λ _.
    rw (document_of-none c.args.bytes.now (c.in-Err.ensures.refused (λ memory. false≢true (sym c.if-is_memory.false ∙ c.is_memory.ensures.1 memory))))

pub returns-in_err-document-clause-refused : goal.returns-in_err-document-clause-refused
returns-in_err-document-clause-refused c =
    let (text, parsed) = c.in-Ok.ensures.ok in
    let e = c.in_err-document.field-0.0 in
    text_stops c.from_residual.result e c.args.bytes.now c.args.kinds.now c.from_residual.ensures (
    text_faulty e c.args.bytes.now _ c.args.kinds.now (document_of-text c.args.bytes.now _ text parsed) c.in_err-document.ensures
    )

pub returns-clause-valid : goal.returns-clause-valid
returns-clause-valid c =
    let (text, parsed) = c.in-Ok.ensures.ok in
    let (none, same) = c.in_ok-document.ensures in
    text_valid _ c.args.bytes.now _ c.args.kinds.now (document_of-text c.args.bytes.now _ text parsed) none (rw same at c.build.ensures.exact)

pub returns-clause-read : goal.returns-clause-read
returns-clause-read c =
    let (text, parsed) = c.in-Ok.ensures.ok in
    let (none, same) = c.in_ok-document.ensures in
    text_read _ c.args.bytes.now _ c.args.kinds.now (document_of-text c.args.bytes.now _ text parsed) (rw same at c.build.ensures.exact)

pub returns-clause-refused : goal.returns-clause-refused
returns-clause-refused c =
    let (text, parsed) = c.in-Ok.ensures.ok in
    let (none, same) = c.in_ok-document.ensures in
    text_refused _ c.args.bytes.now _ c.args.kinds.now (document_of-text c.args.bytes.now _ text parsed) none (rw same at c.build.ensures.exact)

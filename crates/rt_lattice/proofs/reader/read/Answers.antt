use Rattle.std.proofs.Common.{◌∙◌, ap, Err}
use Rattle.std.proofs.lemmas.Result.{err_from_is_err_and}
use Rattle.rt_lattice.specs.Faults.{is_of_form}
use Rattle.rt_lattice.proofs.Faulty.{fault_is}
use Rattle.rt_lattice.proofs.Unique.{exact_error, exact, lattice_in, fault_in}
use Rattle.rt_lattice.proofs.reader.read.Goals as goal

pub returns-in_err-table-clause-exact : goal.returns-in_err-table-clause-exact
returns-in_err-table-clause-exact c =
    let p = err_from_is_err_and c.from_residual.result c.from_residual.ensures.1 in
    λ g. exact_error c.args.text.now _ _ g (p.1 ∙ ap Err p.2) c.in_err-table.ensures.fault

pub returns-in_err-file-clause-fault : goal.returns-in_err-file-clause-fault
returns-in_err-file-clause-fault c =
    let p = err_from_is_err_and c.from_residual-in_err-file.result c.from_residual-in_err-file.ensures.1 in
    rw (p.1, p.2) (λ m. is_of_form _ _ c.in_ok-table.ensures.table (fault_is _ _ c.in_err-file.ensures.fault m))

pub returns-in_err-file-clause-exact : goal.returns-in_err-file-clause-exact
returns-in_err-file-clause-exact c =
    let p = err_from_is_err_and c.from_residual-in_err-file.result c.from_residual-in_err-file.ensures.1 in
    λ g. exact_error c.args.text.now _ _ g (p.1 ∙ ap Err p.2) (λ m. is_of_form _ _ c.in_ok-table.ensures.table (fault_is _ _ c.in_err-file.ensures.fault m))

pub returns-clause-fault : goal.returns-clause-fault
returns-clause-fault c = fault_in c.args.text.now _ _ _ c.in_ok-table.ensures.table c.in_ok-file.ensures.none c.in_ok-file.ensures.says c.lattice_of.ensures.fault

pub returns-clause-exact : goal.returns-clause-exact
returns-clause-exact c =
    λ g. exact c.args.text.now _ g
    (lattice_in c.args.text.now _ _ _ c.in_ok-table.ensures.table c.in_ok-file.ensures.none c.in_ok-file.ensures.says c.lattice_of.ensures.known c.lattice_of.ensures.lattice)
    (fault_in c.args.text.now _ _ _ c.in_ok-table.ensures.table c.in_ok-file.ensures.none c.in_ok-file.ensures.says c.lattice_of.ensures.fault)

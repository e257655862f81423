use Rattle.std.proofs.lemmas.Result.{err_from_is_err_and}
use Rattle.rt_lattice.proofs.Completed.{keeps, lattice_says, order_fault_in, role_fault_in}
use Rattle.rt_lattice.proofs.Faulty.{unknown_fault}
use Rattle.rt_lattice.proofs.lattice.lattice_of.Goals as goal

pub returns-in_err-order-clause-fault : goal.returns-in_err-order-clause-fault
returns-in_err-order-clause-fault c =
    let p = err_from_is_err_and c.from_residual.result c.from_residual.ensures.1 in
    rw (p.1, p.2) (unknown_fault c.args.file _ c.in_err-order.ensures.fault)

pub returns-in_err-bounds-clause-fault : goal.returns-in_err-bounds-clause-fault
returns-in_err-bounds-clause-fault c =
    let p = err_from_is_err_and c.from_residual-in_err-bounds.result c.from_residual-in_err-bounds.ensures.1 in
    rw (p.1, p.2) (λ m. order_fault_in c.args.file _ _ c.in_ok-order.ensures.known c.in_ok-order.ensures.ok (c.in_err-bounds.ensures.fault m))

pub returns-in_err-roles-clause-fault : goal.returns-in_err-roles-clause-fault
returns-in_err-roles-clause-fault c =
    let p = err_from_is_err_and c.from_residual-in_err-roles.result c.from_residual-in_err-roles.ensures.1 in
    rw (p.1, p.2)
    (λ m. role_fault_in c.args.file _ _ _ c.in_ok-order.ensures.known c.in_ok-order.ensures.ok c.in_ok-bounds.ensures.none c.in_ok-bounds.ensures.bounds c.in_err-roles.ensures.fault)

pub invariant_of-result : goal.invariant_of-result
invariant_of-result c =
    keeps _ _ _ _ c.requires c.in_ok-order.ensures.named c.in_ok-order.ensures.ok c.in_ok-bounds.ensures.whole.transitive c.in_ok-bounds.ensures.none c.in_ok-bounds.ensures.bounds
    c.in_ok-roles.ensures.ok

pub returns-clause-lattice : goal.returns-clause-lattice
returns-clause-lattice c = lattice_says _ _ _ _ c.in_ok-order.ensures.ok c.in_ok-bounds.ensures.whole c.in_ok-bounds.ensures.none c.in_ok-bounds.ensures.bounds c.in_ok-roles.ensures.ok

use Rattle.std.proofs.Common.{◌≡◌, ◌<◌, All, IsTrue, length, sym, ap, subst, ◌∙◌}
use Rattle.std.proofs.lemmas.Result.{IfOk-weaker}
use Rattle.rt_lines.specs.Lines.{HasConstantsBelow}
use Rattle.rt_lines.specs.Orders.{Below}
use Rattle.rt_lattice.specs.Lattices.{size_of}
use Rattle.rt_components.specs.Groups.{group_at}
use Rattle.rt_scheme.specs.Splitting.{is_interface_line}
use Rattle.rt_settle.specs.Groups.{AreSchemesOf, joined}
use Rattle.rt_table.specs.Bodies.{lists_in, numbers_in}
use Rattle.rt_table.specs.Lists.{AreLinesOf}
use Rattle.rt_solve.specs.Runs.{Course}
use Rattle.rt_solve.specs.Inside.Courses.{AreFoundFor}
use Rattle.rt_solve.proofs.Gathering.{All-joined}
use Rattle.rt_solve.proofs.Solving.{group_read, members_within}
use Rattle.rt_solve.proofs.run.Run.found.Goals as goal

pub lines_of-requires-clause-within : goal.lines_of-requires-clause-within
lines_of-requires-clause-within g c =
    let run = c.self.inside in
    let within : c.args.group < length run.groups.now =
    subst (λ (x : Course). c.args.group < length x.task.groups) (sym c.self.view_is) c.requires in
    let at : c.items-members.result.now ≡ group_at run.groups.now c.args.group =
    c.items-members.ensures ∙ group_read run.groups.now c.items.result.now c.args.group c.index-items-group.result c.items.ensures
    (subst (λ gs. c.args.group < length gs) (sym c.items.ensures) within) c.index-items-group.is in
    subst (All (λ number. number < length run.facts.now.procs.now)) (sym at)
    (members_within run.facts.now.object.now run.lattice.now.roles run.lattice.now.order run.facts.now.procs.now run.sigs.now run.groups.now
    c.self.invariant.are_groups c.args.group within)

pub solve_group-requires-clause-interface : goal.solve_group-requires-clause-interface
solve_group-requires-clause-interface g c =
    All-joined (λ line. IsTrue (is_interface_line line)) (lists_in c.in_ok-bodies.bodies) c.in_ok-bodies.ensures.interfaces

pub solve_group-requires-clause-constants : goal.solve_group-requires-clause-constants
solve_group-requires-clause-constants g c =
    let lattice = c.self.inside.lattice.now in
    let lists = lists_in c.in_ok-bodies.bodies in
    let counted : c.order.result.now.count ≡ size_of lattice =
    ap (λ (order : Below). order.count) c.order.ensures.order ∙ c.order.ensures.lattice.counted in
    subst (λ count. All (HasConstantsBelow count) (joined lists)) (sym counted)
    (All-joined (HasConstantsBelow (size_of lattice)) lists (c.in_ok-bodies.ensures.constants c.self.invariant.given))

pub returns-clause-found : goal.returns-clause-found
returns-clause-found g c =
    let run = c.self.inside in
    let bodies = c.in_ok-bodies.bodies in
    let within : c.args.group < length run.groups.now =
    subst (λ (x : Course). c.args.group < length x.task.groups) (sym c.self.view_is) c.requires in
    let at : c.items-members.result.now ≡ group_at run.groups.now c.args.group =
    c.items-members.ensures ∙ group_read run.groups.now c.items.result.now c.args.group c.index-items-group.result c.items.ensures
    (subst (λ gs. c.args.group < length gs) (sym c.items.ensures) within) c.index-items-group.is in
    IfOk-weaker c.solve_group.result (λ found. AreSchemesOf c.order.result.now (numbers_in bodies) (joined (lists_in bodies)) found)
    (λ found. AreFoundFor c.args.self.now (group_at c.args.self.now.task.groups c.args.group) found)
    (λ found are. subst (λ (x : Course). AreFoundFor x (group_at x.task.groups c.args.group) found) c.self.view_is (record {
      bodies = lists_in bodies;
      are_lines = subst (λ members. AreLinesOf run.facts.now.object.now run.lattice.now.roles run.facts.now.procs.now run.sigs.now
          run.schemes members (lists_in bodies)) at c.in_ok-bodies.ensures.found;
      are_schemes = subst (λ members. AreSchemesOf run.lattice.now.order members (joined (lists_in bodies)) found)
          (c.in_ok-bodies.ensures.numbers ∙ at)
          (subst (λ order. AreSchemesOf order (numbers_in bodies) (joined (lists_in bodies)) found) c.order.ensures.order are);
      constants = c.in_ok-bodies.ensures.constants c.self.invariant.given;
      globals = c.in_ok-bodies.ensures.globals c.self.invariant.given;
    }))
    c.solve_group.ensures.solved

use Rattle.std.proofs.Common.{◌≡◌, length, rules, ◌∙◌, ap}
use Rattle.std.proofs.lemmas.List.Elements.{All-weaker}
use Rattle.rt_flow.specs.Reaching.{sites_of}
use Rattle.rt_body.specs.Readable.{HasOpRegisters}
use Rattle.rt_body.specs.Registers.{HasRegisters}
use Rattle.rt_body.proofs.Ranging.{op_registers}
use Rattle.rt_body.proofs.Read.{is_reading, reaching_within}
use Rattle.rt_body.proofs.body.Body.read.Goals as goal

pub invariant_of-result : goal.invariant_of-result
invariant_of-result c =
    let actions = c.in_ok-actions.actions in
    let of = rw (c.items.ensures, c.items-2.ensures) at c.in_ok-reach.ensures.of in
    let told = rw (c.items.ensures, c.items-2.ensures) at c.in_ok-reach.ensures.told in
    let sites : sites_of c.in_ok-reach.reach ≡ length actions = of.sites in
    record {
      is_body = of.is_body;
      reached = sites;
      within = reaching_within actions c.in_ok-actions.entry c.in_ok-actions.edges c.in_ok-reach.reach told;
      valued = c.in_ok-values.ensures.sites ∙ sites;
      named = c.in_ok-actions.ensures.parts.ranged;
    }

pub operations-requires-clause-registers : goal.operations-requires-clause-registers
operations-requires-clause-registers c =
    let actions = c.in_ok-actions.actions in
    rw c.items-3.ensures (All-weaker HasRegisters HasOpRegisters op_registers actions c.in_ok-actions.ensures.parts.ranged)

pub returns : goal.returns
returns c =
    let actions = c.in_ok-actions.actions in
    let of = rw (c.items.ensures, c.items-2.ensures) at c.in_ok-reach.ensures.of in
    let told = rw (c.items.ensures, c.items-2.ensures) at c.in_ok-reach.ensures.told in
    let same = rw c.items-3.ensures at c.in_ok-ops.ensures.same in
    let rest = rw c.items-3.ensures at c.in_ok-ops.ensures.rest in
    is_reading _ c.args.object.now c.args.proc.now c.in_ok-ops.ops c.in_ok-actions.ensures.parts of told same rest c.in_ok-values.ensures

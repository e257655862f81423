use Rattle.std.proofs.Common.{◌≡◌, ◌+◌, length}
use Rattle.rt_body.specs.Told.{sites_in}
use Rattle.rt_table.specs.Inside.Told.{context_of}
use Rattle.rt_table.proofs.Writing.{Leads}
use Rattle.rt_table.proofs.context.Context.written.Given as goal

abbrev pub invariant-loop : goal.invariant-loop
invariant-loop l = record {
  leads : Leads (context_of l.self) (sites_in l.self.body.now) l.fn.items.items l.opened.keys l.pending.items l.done.items;
  steps : length l.done.items + length l.opened.keys ≡ l.counter;
}

use Rattle.std.proofs.Common.{◌≡◌, ◌++◌, ◌∷◌, ◌∙◌, [], All, List, ap, length, reverse, rules, subst, sym, ℕ, ◌+◌, arith}
use Rattle.std.proofs.lemmas.List.{nil_from_length}
use Rattle.rt_body.specs.Registers.{HasRegisters}
use Rattle.rt_body.specs.Told.{sites_in}
use Rattle.rt_rows.specs.declared.name.Name.{Name}
use Rattle.rt_table.specs.Table.{told}
use Rattle.rt_table.specs.Inside.Told.{context_of}
use Rattle.rt_table.proofs.Holding.{given-held}
use Rattle.rt_table.proofs.Sound.{merge-within}
use Rattle.rt_table.proofs.Writing.{closed_in-within, item-within, leads-done, leads-end, leads-opened, leads-same, leads-start, steps-done, steps-opened}
use Rattle.rt_table.proofs.context.Context.written.Goals as goal
use Rattle.rt_table.proofs.context.Context.written.Goals.{in-None+in_ok-push-in-None, in-Some-closed_in+in_ok-push-in-Some-closed_in+in_ok-insert-in-Some-closed_in+in_ok-merge_rows-in-Some-closed_in+in_ok-put_rows-in-Some-closed_in}

pub loop-init : goal.loop-init
loop-init c = record {
  leads = leads-start (context_of c.args.self.now) (sites_in c.args.self.now.body.now) c.args.items.items c.put_items.new.pending.items c.new-done.result.items c.new-opened.result.keys
      c.new-opened.ensures.empty c.new-done.ensures.items (c.in_ok-put_items.ensures ∙ ap (λ xs. xs ++ reverse c.args.items.items) c.new-pending.ensures.items) c.requires;
  steps =
      let items : length c.new-done.result.items ≡ 0 = ap (λ xs. length xs) c.new-done.ensures.items in
      let keys : length c.new-opened.result.keys ≡ 0 = ap (λ (ks : List Name). length ks) c.new-opened.ensures.empty in
      omega (arith, items, keys);
}

pub returns-in_default : goal.returns-in_default
returns-in_default c =
    let none : length c.loop.pending.items ≡ 0 = search rules in
    leads-end (context_of c.args.self.now) (sites_in c.args.self.now.body.now) c.args.items.items c.loop.done.items c.loop.pending.items c.loop.opened.keys c.loop.invariant.leads
    (nil_from_length c.loop.pending.items none)

pub merge_rows-requires : goal.merge_rows-requires
merge_rows-requires c =
    let sites = sites_in c.args.self.now.body.now in
    closed_in-within sites c.loop.opened.keys c.in-Some.item c.in-Some-closed_in.merge (sym c.in-Some-closed_in.ensures)
    (item-within (context_of c.args.self.now) sites c.args.items.items c.loop.done.items c.loop.pending.items c.pop.new.self.items c.loop.opened.keys c.in-Some.item c.loop.invariant.leads
    c.in-Some.ensures.items)

pub loop-preserved : goal.loop-preserved
loop-preserved c =
    let context = context_of c.args.self.now in
    let sites = sites_in c.args.self.now.body.now in
    let items = c.args.items.items in
    let done = c.loop.done.items in
    let pending = c.loop.pending.items in
    let pended = c.pop.new.self.items in
    let keys = c.loop.opened.keys in
    let x = c.in-Some.item in
    let popped = c.in-Some.ensures.items in
    elim c.match-closed_in.branch [
      | in-None+in_ok-push-in-None w ↦ record {
        leads = leads-same context sites items keys c.match-closed_in.opened.keys pended c.match-closed_in.pending.items w.push.new.self.items c.match-closed_in.done.items
            (ap (λ s. s.keys) w.opened-is) (ap (λ v. v.items) w.pending-is) (ap (λ v. v.items) w.done-is)
            (leads-done context sites items done pending pended keys x c.loop.invariant.leads popped w.push.new.self.items (sym w.in-None.ensures)
            w.in_ok-push-in-None.ensures.items);
        steps = steps-done done c.match-closed_in.done.items keys c.match-closed_in.opened.keys c.loop.counter x
            (ap (λ v. v.items) w.done-is ∙ w.in_ok-push-in-None.ensures.items) (ap (λ s. s.keys) w.opened-is) c.loop.invariant.steps;
      }
      | in-Some-closed_in+in_ok-push-in-Some-closed_in+in_ok-insert-in-Some-closed_in+in_ok-merge_rows-in-Some-closed_in+in_ok-put_rows-in-Some-closed_in w ↦
          let merge = w.in-Some-closed_in.merge in
          let within = closed_in-within sites keys x merge (sym w.in-Some-closed_in.ensures)
          (item-within context sites items done pending pended keys x c.loop.invariant.leads popped)
          in
          let rows = w.in_ok-merge_rows-in-Some-closed_in.field-0 in
          let is = w.in_ok-put_rows-in-Some-closed_in.ensures ∙ ap (λ xs. xs ++ reverse (told rows)) w.in_ok-push-in-Some-closed_in.ensures.items
          ∙ ap (λ rs. (pended ++ x ∷ []) ++ reverse (told rs)) w.in_ok-merge_rows-in-Some-closed_in.ensures
          in
          record {
            leads = leads-same context sites items w.insert.new.self.keys c.match-closed_in.opened.keys w.put_rows.new.pending.items c.match-closed_in.pending.items
                done c.match-closed_in.done.items (ap (λ s. s.keys) w.opened-is) (ap (λ v. v.items) w.pending-is) (ap (λ v. v.items) w.done-is)
                (leads-opened context sites items done pending pended keys x c.loop.invariant.leads popped merge w.put_rows.new.pending.items w.insert.new.self.keys
                (sym w.in-Some-closed_in.ensures) w.in_ok-insert-in-Some-closed_in.ensures.keys is
                (merge-within context (subst (All HasRegisters) c.actions-actions.ensures.actions c.actions-actions.ensures.registers) (given-held c.args.self.now) merge
                within));
            steps = steps-opened done c.match-closed_in.done.items keys c.match-closed_in.opened.keys c.loop.counter x merge (sym w.in-Some-closed_in.ensures)
                (ap (λ v. v.items) w.done-is) (ap (λ s. s.keys) w.opened-is ∙ w.in_ok-insert-in-Some-closed_in.ensures.keys) c.loop.invariant.steps;
          }
    ]

pub unreachable-requires : goal.unreachable-requires
unreachable-requires c = omega (arith, c.loop.invariant.steps, c.loop.done.ok.0, c.loop.done.ok.1, c.loop.done.small, c.len-opened.ensures.len, c.len-opened.ensures.small, c.loop-test.false)

use Rattle.std.proofs.Common.{rules, ◌≡◌, Some, None, sym, ◌∙◌}
use Rattle.std.specs.Ordering.{nat_cmp}
use Rattle.std.specs.BTreeMap.{get}
use Rattle.std.proofs.lemmas.Result.{on_ok_weaker}
use Rattle.rt_emit.proofs.FirstOnes.{proc_pushed, proc_none, plain_pushed, plain_of}
use Rattle.rt_emit.proofs.bases.push_first.Goals as goal

pub returns-in-Some-get : goal.returns-in-Some-get
returns-in-Some-get c =
    let found : get nat_cmp c.args.letters.now c.in-Some.node ≡ Some c.in-Some-get.next.now = search rules in
    on_ok_weaker c.push_next.result
    (proc_pushed c.args.shape.now c.args.base c.in-Proc.field-0 c.in-Some.node c.empty.result c.in-Some-get.next.now c.args.letters.now
    c.args.queue.now
    c.push_next.new.queue c.in-Proc.is c.empty.ensures (sym c.node.ensures ∙ c.in-Some.is) c.requires found)
    c.push_next.ensures.holds

pub returns-in-Proc : goal.returns-in-Proc
returns-in-Proc c =
    let found : get nat_cmp c.args.letters.now c.in-Some.node ≡ None = search rules in
    proc_none c.args.shape.now c.args.base c.in-Proc.field-0 c.in-Some.node c.empty.result c.args.letters.now c.args.queue.now c.in-Proc.is
    c.empty.ensures (sym c.node.ensures ∙ c.in-Some.is) c.requires found

pub returns : goal.returns
returns c =
    on_ok_weaker c.push.result
    (plain_pushed c.args.shape.now c.args.base c.in-Some.node c.empty.result c.args.queue.now c.push.new.self (plain_of c.args.base
    c.in-Global.is)
    c.empty.ensures (sym c.node.ensures ∙ c.in-Some.is))
    c.push.ensures.holds

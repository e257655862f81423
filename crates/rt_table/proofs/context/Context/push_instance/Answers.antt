use Rattle.std.proofs.Common.{◌≡◌, ◌++◌, ◌∙◌, ap, map, rules, sym}
use Rattle.std.proofs.lemmas.Iterator.Adapters.{YieldsList-from_vec}
use Rattle.std.proofs.lemmas.Iterator.Consumers.{YieldsList-end}
use Rattle.std.proofs.lemmas.List.{map-id}
use Rattle.rt_scheme.specs.Instances.{instance_lines, instance_ports}
use Rattle.rt_table.specs.Table.{new_row}
use Rattle.rt_table.specs.Inside.Told.{context_of}
use Rattle.rt_table.proofs.context.Context.push_instance.Goals as goal

pub returns : goal.returns
returns c =
    let context = context_of c.args.self.now in
    let site = c.args.site in
    let call = c.args.call in
    let scheme = c.args.scheme.now in
    let ports = c.in_ok-labels.ensures ∙ c.in_ok-instance.ensures.ports_are in
    let end = YieldsList-end (YieldsList-from_vec c.in_ok-instance.instance.lines (search rules) (search rules)) c.loop-line.yielded c.loop-line.line-iterator c.loop-line.yielded_by
    c.next.result c.next.new.self c.in-None.is c.next.ensures.steps
    in
    let lines = sym (map-id c.loop-line.yielded) ∙ end.0 ∙ c.in_ok-instance.ensures.lines_are in
    c.loop-line.invariant ∙ ap (λ ps. c.args.rows.now ++ map (new_row context site call ps) c.loop-line.yielded) ports
    ∙ ap (λ ls. c.args.rows.now ++ map (new_row context site call (instance_ports scheme.base scheme.lines 0)) ls) lines

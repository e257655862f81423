use Rattle.std.proofs.Common.{◌≡◌, [], ◌++◌, sym, subst, ◌∙◌}
use Rattle.rt_lines.specs.Orders.{Below}
use Rattle.rt_reduction.specs.Emits.{flow_lines, AreJoined}
use Rattle.rt_emit.specs.Inside.Joins.{HasNoOuter}
use Rattle.rt_emit.proofs.Emitted.{no_outer}
use Rattle.rt_emit.proofs.emit_shape.Goals as goal

-- no order of constants is needed
abbrev none_below : Below
none_below = record { count = 0; cells = [] }

pub joined-requires : goal.joined-requires
joined-requires c =
    let is = c.in_ok-all.ensures in
    let all : c.deref.result.now ≡ flow_lines c.args.lines.now ++ is.shape = c.deref.ensures.value ∙ is.is in
    subst HasNoOuter (sym all) (no_outer none_below c.args.lines.now is.shape c.requires.scheme (is.are_shape none_below))

pub returns : goal.returns
returns c = λ order.
    let is = c.in_ok-all.ensures in
    let all : c.deref.result.now ≡ flow_lines c.args.lines.now ++ is.shape = c.deref.ensures.value ∙ is.is in
    record {
      shape = is.shape;
      are_shape = is.are_shape order;
      joined = subst (AreJoined (flow_lines c.args.lines.now ++ is.shape)) (sym c.from_vec.ensures)
          (subst (λ ls. AreJoined ls c.in_ok-joined.joined.items) all c.in_ok-joined.ensures);
    }

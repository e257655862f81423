use Rattle.std.proofs.Common.{not, refl, sym, ◌∙◌}
use Rattle.std.specs.BTreeSet.{contains}
use Rattle.std.specs.Ordering.{nat_cmp}
use Rattle.rt_record.proofs.Counting.{no_fields, none_split, is_split, same_count, fewer_letters}
use Rattle.rt_record.proofs.parting.split.Goals as goal

pub returns-then-is_empty-clause-split : goal.returns-then-is_empty-clause-split
returns-then-is_empty-clause-split c =
    no_fields c.args.lines.now (λ n. not (contains nat_cmp c.in_ok-spoiled.spoiled n)) c.in_ok-fields.fields.order.keys c.in_ok-spoiled.ensures
    c.in_ok-fields.ensures.order (c.if-is_empty.ensures.0 refl)

pub returns-then-len-lines-clause-split : goal.returns-then-len-lines-clause-split
returns-then-len-lines-clause-split c =
    none_split c.args.lines.now c.in_ok-left.left c.add_shapes.new.left (λ n. not (contains nat_cmp c.in_ok-spoiled.spoiled n))
    c.in_ok-fields.fields.first c.in_ok-fields.fields.order.keys c.in_ok-spoiled.ensures c.in_ok-fields.ensures.first c.in_ok-fields.ensures.order
    c.in_ok-left.ensures c.in_ok-add_shapes.ensures
    (sym c.len.ensures ∙ c.if-len-lines.true)

pub returns-clause-split : goal.returns-clause-split
returns-clause-split c =
    is_split c.args.lines.now c.in_ok-left.left c.add_shapes.new.left (λ n. not (contains nat_cmp c.in_ok-spoiled.spoiled n))
    c.in_ok-fields.fields.first c.in_ok-fields.fields.order.keys c.in_ok-spoiled.ensures c.in_ok-fields.ensures.first c.in_ok-fields.ensures.order
    c.in_ok-left.ensures c.in_ok-add_shapes.ensures
    (λ e. c.if-len-lines.false (c.len.ensures ∙ e))

pub returns-clause-count : goal.returns-clause-count
returns-clause-count c =
    same_count c.args.lines.now c.in_ok-left.left c.add_shapes.new.left (λ n. not (contains nat_cmp c.in_ok-spoiled.spoiled n))
    c.in_ok-fields.fields.first c.in_ok-fields.fields.order.keys c.in_ok-spoiled.ensures c.in_ok-fields.ensures.first c.in_ok-fields.ensures.order
    c.in_ok-left.ensures c.in_ok-add_shapes.ensures

pub returns-clause-smaller : goal.returns-clause-smaller
returns-clause-smaller c =
    fewer_letters c.args.lines.now c.in_ok-left.left c.add_shapes.new.left (λ n. not (contains nat_cmp c.in_ok-spoiled.spoiled n))
    c.in_ok-fields.fields.first c.in_ok-fields.fields.order.keys c.in_ok-spoiled.ensures c.in_ok-fields.ensures.first c.in_ok-fields.ensures.order
    c.in_ok-left.ensures c.in_ok-add_shapes.ensures
    (λ e. c.if-len-lines.false (c.len.ensures ∙ e))

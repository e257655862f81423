use Rattle.std.proofs.Common.{List, All, refl, sym, subst}
use Rattle.rt_lines.specs.declared.line.Line.{Line}
use Rattle.rt_lines.specs.declared.variable.Base.TheVariants.{Exist}
use Rattle.rt_lines.specs.Lines.{HasConstantsBelow}
use Rattle.rt_rules.specs.Laws.{NamesBase}
use Rattle.rt_polar.specs.Tidied.{tidied}
use Rattle.rt_reduction.specs.Emits.{AreOfScheme}
use Rattle.rt_reduction.specs.Merges.{Merges}
use Rattle.rt_reduction.proofs.Dropping.{none_to_spare_lem}
use Rattle.rt_reduction.proofs.Emitting.{emits_of_scheme_lem}
use Rattle.rt_simplify.proofs.Staying.{tidied_twice_lem}
use Rattle.rt_reduce.proofs.Keeping.{emitted_below, fewer_below, fewer_named, fewer_scheme, prepared_below, prepared_scheme}
use Rattle.rt_reduce.proofs.rounds.round_after.Goals as goal

pub left_of-requires-clause-constants : goal.left_of-requires-clause-constants
left_of-requires-clause-constants c =
    let count = c.args.order.now.count in
    let start = tidied c.args.lines in
    let written = c.in_ok-written.ensures in
    subst (All (HasConstantsBelow count)) (sym c.items.ensures)
    (emitted_below count c.args.order.now written.simple c.in_ok-written.written (written.is_written c.args.order.now)
    (prepared_below count c.args.lines start written.simple refl written.is_simple c.requires.constants))

pub returns-clause-round : goal.returns-clause-round
returns-clause-round c =
    let order = c.args.order.now in
    let written = c.in_ok-written.ensures in
    let left = c.in_ok-after.ensures in
    record {
      is_tidied = tidied_twice_lem c.args.lines;
      simple = written.simple;
      emitted = c.in_ok-written.written;
      merged = left.merged;
      is_simple = written.is_simple;
      is_emitted = written.is_written order;
      is_merged = subst (Merges order left.merged) c.items.ensures left.is_merged;
      is_dropped = left.is_dropped;
    }

pub returns-clause-begun : goal.returns-clause-begun
returns-clause-begun c =
    let written = c.in_ok-written.ensures in
    let left = c.in_ok-after.ensures in
    record {
      simple = written.simple;
      emitted = c.in_ok-written.written;
      is_simple = written.is_simple;
      is_emitted = written.is_written;
      named = λ n h. subst (λ (ls : List Line). NamesBase ls (Exist n)) c.items.ensures
          (left.named n (fewer_named left.merged c.in_ok-after.after left.stood n h));
    }

pub returns-clause-scheme : goal.returns-clause-scheme
returns-clause-scheme c =
    let written = c.in_ok-written.ensures in
    let left = c.in_ok-after.ensures in
    let simple : AreOfScheme written.simple =
    prepared_scheme c.args.lines (tidied c.args.lines) written.simple refl written.is_simple c.requires.scheme in
    fewer_scheme left.merged c.in_ok-after.after left.stood
    (left.scheme (subst AreOfScheme (sym c.items.ensures)
    (emits_of_scheme_lem c.args.order.now written.simple c.in_ok-written.written simple (written.is_written c.args.order.now))))

pub returns-clause-constants : goal.returns-clause-constants
returns-clause-constants c =
    let left = c.in_ok-after.ensures in
    fewer_below c.args.order.now.count left.merged c.in_ok-after.after left.stood left.constants

pub returns-clause-needed : goal.returns-clause-needed
returns-clause-needed c = λ before after l e.
    let left = c.in_ok-after.ensures in
    none_to_spare_lem c.args.order.now left.merged c.in_ok-after.after left.is_dropped before after l e

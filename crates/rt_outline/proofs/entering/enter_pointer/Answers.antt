use Rattle.std.proofs.Common.{inl, inr, Some, sym, subst}
use Rattle.std.proofs.lemmas.Option.{slice_get_within}
use Rattle.rt_lines.specs.declared.label.Label.TheVariants.{Load, Store}
use Rattle.rt_outline.specs.Frames.{IsMade}
use Rattle.rt_outline.proofs.entering.enter_pointer.Goals as goal

pub join-requires-clause-from : goal.join-requires-clause-from
join-requires-clause-from c = slice_get_within c.args.frame.now.origins.items c.in-Some-Some.from (Some (c.args.node, Store)) (c.requires.only c.in-Some-Some.from c.args.node Store (sym c.in-Some-Some.ensures))

pub join-requires-clause-to : goal.join-requires-clause-to
join-requires-clause-to c = slice_get_within c.args.frame.now.origins.items c.in-Some-Some.to (Some (c.args.node, Load)) (c.requires.only c.in-Some-Some.to c.args.node Load (sym c.in-Some-Some.ensures'))

pub returns-in_ok-join-in-Some-Some-clause-only : goal.returns-in_ok-join-in-Some-Some-clause-only
returns-in_ok-join-in-Some-Some-clause-only c = λ v w line h. (elim (c.in_ok-join-in-Some-Some.ensures.added.only v w line h) [
  | inl d ↦ inl d
  | inr e ↦ inr (
    e.2,
    (
      c.args.node,
      subst (λ n. IsMade c.args.frame.now.origins.items n c.args.node Store) (sym e.0) (c.requires.only c.in-Some-Some.from c.args.node Store (sym c.in-Some-Some.ensures)),
      subst (λ n. IsMade c.args.frame.now.origins.items n c.args.node Load) (sym e.1) (c.requires.only c.in-Some-Some.to c.args.node Load (sym c.in-Some-Some.ensures')),
    ),
  )
])

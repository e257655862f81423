use Rattle.std.proofs.Common.{List, All, Contains, sym, subst}
use Rattle.rt_lines.specs.declared.line.Line.{Line}
use Rattle.rt_lines.specs.Lines.{HasConstantsBelow}
use Rattle.rt_rules.specs.Rules.{Derivable}
use Rattle.rt_reduce.proofs.Handed.{some_all}
use Rattle.rt_reduce.proofs.handing.come_follow.Goals as goal

pub follow-requires-clause-others : goal.follow-requires-clause-others
follow-requires-clause-others c =
    let P : Line → Type 0 = HasConstantsBelow c.args.order.now.count in
    subst (All P) (sym c.deref-2.ensures.value)
    (some_all P c.args.before.now c.in_ok-gone.gone.items (λ m h. (c.in_ok-gone.ensures.stood m h).0) c.requires.below)

pub follow-requires-clause-lines : goal.follow-requires-clause-lines
follow-requires-clause-lines c =
    let P : Line → Type 0 = HasConstantsBelow c.args.order.now.count in
    subst (All P) (sym c.deref.ensures.value)
    (some_all P c.args.lines.now c.in_ok-come.come.items (λ m h. (c.in_ok-come.ensures.stood m h).0) c.requires.constants)

pub returns : goal.returns
returns c = λ set. record {
  gone = c.in_ok-gone.gone.items;
  come = c.in_ok-come.come.items;
  stood = λ g h. (
    (c.in_ok-gone.ensures.stood g h).0,
    λ d. (c.in_ok-gone.ensures.stood g h).1 (subst (λ (ls : List Line). Contains ls g) (sym c.in_ok-here.ensures) d),
  );
  all = c.in_ok-come.ensures.all;
  derived = λ m h. subst (λ (ls : List Line). Derivable c.args.order.now ls m) c.deref-2.ensures.value
      (c.in_ok-yes.ensures set m (subst (λ (ls : List Line). Contains ls m) (sym c.deref.ensures.value) h));
}

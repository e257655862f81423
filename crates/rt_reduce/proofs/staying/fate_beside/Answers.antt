use Rattle.std.proofs.Common.{rules, ◌≡◌, List, Bool, inr, true, false, length, set, replicate, refl, sym, ap, subst, ◌∙◌}
use Rattle.std.proofs.lemmas.Option.{get_or_from_slice_get}
use Rattle.rt_lines.specs.declared.line.Line.{Line}
use Rattle.rt_lines.specs.declared.line.Line.TheVariants.{Sub}
use Rattle.rt_rules.specs.Rules.{Derivable}
use Rattle.rt_outline.specs.Lines.{standing}
use Rattle.rt_reduce.proofs.Cleared.{others_derive, set_again}
use Rattle.rt_reduce.proofs.staying.fate_beside.Goals as goal

pub returns-then-yes-clause-same : goal.returns-then-yes-clause-same
returns-then-yes-clause-same c =
    set_again (length c.args.lines.now) c.args.i (set c.args.stands.now.items c.args.i false)
    (ap (λ (fs : List Bool). set fs c.args.i false) c.requires.flags) c.requires.within ∙ sym c.requires.flags

pub returns-else-yes-clause-same : goal.returns-else-yes-clause-same
returns-else-yes-clause-same c =
    set_again (length c.args.lines.now) c.args.i (set c.args.stands.now.items c.args.i false)
    (ap (λ (fs : List Bool). set fs c.args.i false) c.requires.flags) c.requires.within ∙ sym c.requires.flags

pub returns-else-yes-clause-fate : goal.returns-else-yes-clause-fate
returns-else-yes-clause-fate c = inr (
  search rules,
  refl,
  λ l at flags cleared d.
      let lines = c.args.lines.now in
      let line = c.index-lines-i.result in
      let asked : Line = Sub c.in-Sub.x c.in-Sub.y in
      let stands : c.deref.result.now ≡ set (replicate (length lines) true) c.args.i false =
      c.deref.ensures.value ∙ ap (λ (fs : List Bool). set fs c.args.i false) c.requires.flags in
      let same : asked ≡ l =
      sym c.in-Sub.is ∙ c.index-lines-i.is ∙ get_or_from_slice_get lines c.args.i l line at in
      (subst (λ (ls : List Line). Derivable c.args.order.now (standing ls c.deref.result.now) asked → ⊥) c.requires.own.0
      (c.in_ok-yes.ensures c.if-yes.false c.args.order.now))
      (others_derive c.args.order.now lines c.args.i c.deref.result.now flags asked stands cleared
      (subst (λ (m : Line). Derivable c.args.order.now (standing lines flags) m) (sym same) d)),
)

use Rattle.std.proofs.Common.{◌≡◌, List, Bool, All, Contains, true, false, length, set, replicate, sym, ap, subst, ◌∙◌}
use Rattle.std.proofs.lemmas.Option.{get_or_from_slice_get}
use Rattle.rt_lines.specs.declared.line.Line.{Line}
use Rattle.rt_lines.specs.Lines.{HasConstantsBelow}
use Rattle.rt_rules.specs.Rules.{Derivable}
use Rattle.rt_outline.specs.Lines.{standing}
use Rattle.rt_reduce.proofs.Cleared.{few_standing, others_derive, set_again}
use Rattle.rt_reduce.proofs.staying.is_staying.Goals as goal

pub told_by-requires-clause-sides : goal.told_by-requires-clause-sides
told_by-requires-clause-sides c = λ x h.
    let there : Contains c.args.lines.now c.index-lines-i.result = (c.args.i, c.requires.within, sym c.index-lines-i.is) in
    c.requires.outer.1 c.index-lines-i.result x there h

pub told_by-requires-clause-constants : goal.told_by-requires-clause-constants
told_by-requires-clause-constants c =
    few_standing c.args.order.now.count c.args.outer.now.lines c.deref.result.now
    (subst (All (HasConstantsBelow c.args.order.now.count)) (sym c.requires.outer.0) c.requires.constants)

pub returns-in-Yes : goal.returns-in-Yes
returns-in-Yes c = record {
  same = set_again (length c.args.lines.now) c.args.i (set c.args.stands.now.items c.args.i false)
      (ap (λ (fs : List Bool). set fs c.args.i false) c.requires.flags) c.requires.within ∙ sym c.requires.flags;
  staying = λ e. absurd (cc);
}

pub returns-in-No-clause-same : goal.returns-in-No-clause-same
returns-in-No-clause-same c =
    set_again (length c.args.lines.now) c.args.i (set c.args.stands.now.items c.args.i false)
    (ap (λ (fs : List Bool). set fs c.args.i false) c.requires.flags) c.requires.within ∙ sym c.requires.flags

pub returns-in-No-clause-staying : goal.returns-in-No-clause-staying
returns-in-No-clause-staying c = λ yes l at flags cleared d.
    let lines = c.args.lines.now in
    let line = c.index-lines-i.result in
    let stands : c.deref.result.now ≡ set (replicate (length lines) true) c.args.i false =
    c.deref.ensures.value ∙ ap (λ (fs : List Bool). set fs c.args.i false) c.requires.flags in
    let same : line ≡ l = c.index-lines-i.is ∙ get_or_from_slice_get lines c.args.i l line at in
    (subst (λ (ls : List Line). Derivable c.args.order.now (standing ls c.deref.result.now) line → ⊥) c.requires.outer.0
    (c.in_ok-led.ensures.no c.in-No.is))
    (others_derive c.args.order.now lines c.args.i c.deref.result.now flags line stands cleared
    (subst (λ (m : Line). Derivable c.args.order.now (standing lines flags) m) (sym same) d))

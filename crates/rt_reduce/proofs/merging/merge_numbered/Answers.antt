use Rattle.std.proofs.Common.{ℕ, List, All, Contains, sym, ap, subst, ◌∙◌}
use Rattle.std.specs.List.{flat_map}
use Rattle.rt_lines.specs.declared.variable.Base.TheVariants.{Exist}
use Rattle.rt_lines.specs.declared.variable.Dtv.{Dtv}
use Rattle.rt_lines.specs.declared.line.Line.{Line}
use Rattle.rt_lines.specs.Lines.{HasConstantsBelow}
use Rattle.rt_lines.specs.Sides.{sides as sides_of}
use Rattle.rt_rules.specs.Laws.{NamesBase}
use Rattle.rt_equals.specs.Comparing.{AreEquals}
use Rattle.rt_reduction.specs.Emits.{AreOfScheme}
use Rattle.rt_reduction.specs.Merges.{HasEqual, Merges}
use Rattle.rt_reduce.specs.Inside.Alike.{AreNumbered}
use Rattle.rt_reduce.specs.Inside.Compared.{IsCompared}
use Rattle.rt_reduce.proofs.Compared.{compared_first}
use Rattle.rt_reduce.proofs.Numbering.{side_in}
use Rattle.rt_reduce.proofs.merging.merge_numbered.Goals as goal

pub numbers-requires-clause-named : goal.numbers-requires-clause-named
numbers-requires-clause-named c = λ x m.
    side_in c.args.lines.now c.args.comparison.now.named c.args.sides.items c.requires.named c.requires.sides x
    (subst (λ (xs : List Dtv). Contains xs x) c.deref.ensures.value m)

pub pending_of-requires-clause-equals : goal.pending_of-requires-clause-equals
pending_of-requires-clause-equals c =
    subst (λ (ls : List Line). AreEquals ls c.args.comparison.now.named c.args.equals.now) (sym c.requires.own) c.requires.equals

pub pending_of-requires-clause-numbers : goal.pending_of-requires-clause-numbers
pending_of-requires-clause-numbers c =
    let known = c.args.comparison.now.named in
    let equals = c.args.equals.now in
    subst (λ (xs : List Dtv). AreNumbered known equals xs c.deref-3.result.now) (sym c.deref-2.ensures.value)
    (subst (λ (ns : List ℕ). AreNumbered known equals c.args.sides.items ns) (sym c.deref-3.ensures.value)
    (subst (λ (xs : List Dtv). AreNumbered known equals xs c.in_ok-numbers.numbers.items) c.deref.ensures.value c.in_ok-numbers.ensures))

pub pending_of-requires-clause-sides : goal.pending_of-requires-clause-sides
pending_of-requires-clause-sides c =
    c.deref-2.ensures.value ∙ c.requires.sides ∙ ap (flat_map sides_of) (sym c.requires.own)

pub merge_pending-requires-clause-compared : goal.merge_pending-requires-clause-compared
merge_pending-requires-clause-compared c =
    let lines = c.args.lines.now in
    let known = c.args.comparison.now.named in
    let equals = c.args.equals.now in
    let all = c.args.sides.items in
    subst (λ (ls : List Line). IsCompared ls known equals all c.deref-4.result.now)
    (sym (c.from_vec-now.ensures ∙ c.in_ok-start.ensures))
    (subst (λ (xs : List ℕ). IsCompared lines known equals all xs) (sym c.deref-4.ensures.value)
    (compared_first lines known equals all c.in_ok-numbers.numbers.items c.requires.named c.requires.equals
    (subst (λ (xs : List Dtv). AreNumbered known equals xs c.in_ok-numbers.numbers.items) c.deref.ensures.value c.in_ok-numbers.ensures)
    c.requires.sides))

pub merge_pending-requires-clause-pending : goal.merge_pending-requires-clause-pending
merge_pending-requires-clause-pending c = λ order n has.
    c.in_ok-pending.ensures order n
    (subst (λ (ls : List Line). HasEqual order ls n) (c.from_vec-now.ensures ∙ c.in_ok-start.ensures ∙ sym c.requires.own) has)

pub returns : goal.returns
returns c =
    let is = c.from_vec-now.ensures ∙ c.in_ok-start.ensures in
    record {
      merges = λ order. subst (λ (ls : List Line). Merges order c.in_ok-left.left ls) is (c.in_ok-left.ensures.merges order);
      scheme = λ h. c.in_ok-left.ensures.scheme (subst AreOfScheme (sym is) h);
      constants = λ count h. c.in_ok-left.ensures.constants count (subst (All (HasConstantsBelow count)) (sym is) h);
      named = λ n h. subst (λ (ls : List Line). NamesBase ls (Exist n)) is (c.in_ok-left.ensures.named n h);
    }

-- What is emitted has no side of another object.
use Rattle.std.proofs.Common.{◌⊎◌, inl, inr, List, ◌++◌, Contains, Bool, true, false, cond, subst}
use Rattle.std.proofs.lemmas.List.Elements.{Contains-append_cases}
use Rattle.rt_lines.specs.declared.variable.Dtv.{Dtv}
use Rattle.rt_lines.specs.declared.line.Line.{Line}
use Rattle.rt_lines.specs.declared.line.Line.TheVariants.{Var, Same}
use Rattle.rt_lines.specs.Equality.{variable_eq}
use Rattle.rt_lines.specs.Orders.{Below}
use Rattle.rt_rules.specs.Rules.{HasSide}
use Rattle.rt_reduction.specs.Emits.{IsOfScheme, AreOfScheme, flow_lines, IsKept, IsWritten, of_base, of_letter, IsShapeLine, AreShapeLines}
use Rattle.rt_reduction.proofs.Flow.{flow_source}
use Rattle.rt_emit.specs.Inside.Joins.{HasNoOuter}

module _ (order : Below) (lines : List Line) where
  written_kept : (x : Dtv) → IsWritten order lines x → IsKept order lines x.base
  written_kept x (of_base _ is_of e) = is_of.kept
  written_kept _ (of_letter x l is_word there) = is_word.is_of.kept

  shape_side : (x word z : Dtv) (t : Bool) → IsKept order lines x.base → IsKept order lines word.base →
      HasSide (cond t (Var x) (Same x word)) z → IsKept order lines z.base
  shape_side x word z true k m h = subst (λ u. IsKept order lines u.base) h k
  shape_side x word z false k m (inl h) = subst (λ u. IsKept order lines u.base) h k
  shape_side x word z false k m (inr h) = subst (λ u. IsKept order lines u.base) h m

  line_kept : (l : Line) (z : Dtv) → IsShapeLine order lines l → HasSide l z → IsKept order lines z.base
  line_kept l z i h =
      shape_side i.variable i.word z (variable_eq i.variable i.word) (written_kept i.variable i.written) i.is_word.is_of.kept (subst (λ
      k. HasSide k z) i.line h)

  pub no_outer : (shape : List Line) → AreOfScheme lines → AreShapeLines order lines shape → HasNoOuter (flow_lines lines ++ shape)
  no_outer shape scheme are l x n c h e = by (Contains-append_cases (flow_lines lines) shape l c)
    where
      by : Contains (flow_lines lines) l ⊎ Contains shape l → ⊥
      by (inl d) = subst (λ b. IsOfScheme b x.word) e (scheme l x (flow_source lines l d).0 h)
      by (inr d) = subst (IsKept order lines) e (line_kept l x ((are.each l).0 d) h)

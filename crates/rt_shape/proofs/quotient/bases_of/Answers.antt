use Rattle.std.proofs.Common.{◌≡◌, ℕ, Some, List, slice_index, sym, ap, subst, ◌∙◌, arith}
use Rattle.std.proofs.lemmas.Option.{same_Some}
use Rattle.rt_lines.specs.declared.variable.Base.{Base}
use Rattle.rt_lines.specs.Equality.{base_eq}
use Rattle.rt_lines.proofs.Equal.{base_equal}
use Rattle.rt_shape.specs.Graphs.{Graph, base_of}
use Rattle.rt_shape.proofs.Mapped.{IsCarried-more, IsCarried-all}
use Rattle.rt_shape.proofs.quotient.bases_of.Goals as goal
use Rattle.rt_lines.proofs.Same.{base_self}

-- one base has one node
coherent : (graph : Graph) (number : List ℕ) (p q : Base) (m n : ℕ) → p ≡ q → base_of graph p ≡ Some m → base_of graph q ≡ Some n → slice_index number m ≡ slice_index number n
coherent graph number p q m n same e f = ap (slice_index number) (same_Some m n (sym e ∙ ap (base_of graph) same ∙ f))

pub loop-i-preserved : goal.loop-i-preserved
loop-i-preserved c =
    IsCarried-more base_eq base_equal base_eq base_equal base_self (λ b. b) (slice_index c.args.number.now) c.args.tree.now.bases (coherent c.args.tree.now c.args.number.now)
    c.loop-i.i c.loop-i.bases.entries c.insert.new.self.entries c.loop-i.invariant c.base-base.result.0 c.base-base.result.1 c.base-base.ensures.entry c.base-base.ensures.found c.in_ok-insert.ensures.updates.0

pub returns : goal.returns
returns c = record {
  on = IsCarried-all base_eq base_equal base_eq base_equal base_self (λ b. b) (slice_index c.args.number.now) c.args.tree.now.bases c.loop-i.i c.loop-i.bases.entries c.loop-i.invariant (omega arith);
  back = λ b k e. let f = c.loop-i.invariant.from b k e in (f.1, subst (λ d. base_of c.args.tree.now d ≡ Some f.1) f.2 f.3, f.4);
}

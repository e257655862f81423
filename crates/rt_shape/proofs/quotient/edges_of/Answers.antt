use Rattle.std.proofs.Common.{◌≡◌, ℕ, Some, List, slice_index, ap, subst, arith}
use Rattle.rt_lines.specs.declared.label.Label.{Label}
use Rattle.rt_shape.specs.Graphs.{Graph, letter_eq, step_of}
use Rattle.rt_shape.specs.Inside.Classes.{pointed, AreStepsOne}
use Rattle.rt_shape.proofs.Letters.{letter_equal, letter_self}
use Rattle.rt_shape.proofs.Mapped.{IsCarried-more, IsCarried-all}
use Rattle.rt_shape.proofs.quotient.edges_of.Goals as goal

abbrev key_of : List ℕ → ℕ × Label → ℕ × Label
key_of number p = (slice_index number p.0, p.1)

coherent : (graph : Graph) (number : List ℕ) (one : AreStepsOne graph number) (p q : ℕ × Label) (m n : ℕ) → key_of number p ≡ key_of number q → step_of graph p.0 p.1 ≡ Some m → step_of graph q.0 q.1 ≡ Some n → slice_index number m ≡ slice_index number n
coherent graph number one p q m n same e f = one p.0 q.0 m n p.1 q.1 (ap (λ (x : ℕ × Label). pointed x.1) same) (ap (λ (x : ℕ × Label). x.0) same) e f

pub loop-i-preserved : goal.loop-i-preserved
loop-i-preserved c =
    IsCarried-more letter_eq letter_equal letter_eq letter_equal letter_self (key_of c.args.number.now) (slice_index c.args.number.now) c.args.tree.now.edges (coherent c.args.tree.now c.args.number.now c.requires.one)
    c.loop-i.i c.loop-i.edges.entries c.insert.new.self.entries c.loop-i.invariant (c.edge-from.result.0, c.edge-from.result.1) c.edge-from.result.2 c.edge-from.ensures.entry c.edge-from.ensures.found c.in_ok-insert.ensures.updates.0

pub returns : goal.returns
returns c = record {
  on = λ m l n e. IsCarried-all letter_eq letter_equal letter_eq letter_equal letter_self (key_of c.args.number.now) (slice_index c.args.number.now) c.args.tree.now.edges c.loop-i.i c.loop-i.edges.entries c.loop-i.invariant (omega arith) (m, l) n e;
  back = λ i l k e.
      let f = c.loop-i.invariant.from (i, l) k e in
      let label : f.0.1 ≡ l = ap (λ (x : ℕ × Label). x.1) f.2 in
      (f.0.0, f.1, ap (λ (x : ℕ × Label). x.0) f.2, subst (λ k. step_of c.args.tree.now f.0.0 k ≡ Some f.1) label f.3, f.4);
}

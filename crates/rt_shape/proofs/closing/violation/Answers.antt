use Rattle.std.proofs.Common.{◌≡◌, ℕ, ◌<◌, Option, None, Some, MatchOption, List, Contains, sym, subst}
use Rattle.std.specs.Prelude.{slice_index}
use Rattle.std.proofs.lemmas.Result.{IfOk-weaker}
use Rattle.rt_shape.specs.Graphs.{Graph}
use Rattle.rt_shape.specs.Inside.Classes.{AreClasses, AreStepsOne, AreApart, IsClosed, IsViolated}
use Rattle.rt_shape.proofs.Classed.{violated_by_pair, violated_by_steps}
use Rattle.rt_shape.proofs.closing.violation.Goals as goal

pub pair_apart-requires : goal.pair_apart-requires
pair_apart-requires c = λ i j h. subst (λ n. (i < n) × (j < n)) (sym c.requires.classes.each) (c.requires.pairs_in i j h)

pub returns-in-Some : goal.returns-in-Some
returns-in-Some c =
    let pair = c.in-Some.pair in
    let some = c.in-Some.ensures.some in
    violated_by_pair c.args.tree.now c.args.pairs.now c.args.class.now c.requires.classes pair.0 pair.1 (c.requires.pairs_in pair.0 pair.1 some.0) some.0 some.1

module _ (graph : Graph) (pairs : List (ℕ × ℕ)) (class : List ℕ) (are : AreClasses graph pairs class) (pairs_one : (i j : ℕ) → Contains pairs (i, j) → slice_index class i ≡ slice_index class j) where
  found : (o : Option (ℕ × ℕ)) → MatchOption o (AreStepsOne graph class) (λ pair. AreApart graph class pair.0 pair.1) → MatchOption o (IsClosed graph pairs class) (λ pair. IsViolated graph pairs class pair.0 pair.1)
  found None h = record { pairs_one = pairs_one; steps_one = h }
  found (Some pair) h = violated_by_steps graph pairs class are pair.0 pair.1 h

pub returns : goal.returns
returns c =
    IfOk-weaker c.steps_apart.result _ _ (found c.args.tree.now c.args.pairs.now c.args.class.now c.requires.classes c.in_default.ensures.none) c.steps_apart.ensures

use Rattle.std.proofs.Common.{◌≡◌, ◌+◌, ◌⊎◌, inl, inr, Some, length, get_or, take, ap, subst, ◌∙◌, arith}
use Rattle.std.proofs.lemmas.List.{take_all}
use Rattle.rt_lines.specs.declared.label.Label.{Label}
use Rattle.rt_lines.specs.declared.label.Label.TheVariants.{In}
use Rattle.rt_lines.specs.declared.label.Loc.TheVariants.{Arg}
use Rattle.rt_lines.specs.declared.variable.Dtv.{Dtv}
use Rattle.rt_rules.specs.Rules.{longer}
use Rattle.rt_shape.specs.Graphs.{Graph, bare, node_of, Has}
use Rattle.rt_shape.specs.Shapes.{IsFront}
use Rattle.rt_shape.proofs.Fronts.{front_of, IsFront-self, IsFront-longer, front_of-more}
use Rattle.rt_shape.proofs.tree.Tree.enter.Goals as goal

first : (old new : Graph) (x y : Dtv) → Has old y ⊎ (y ≡ x) → Has old y ⊎ IsFront y x
first old new x y (inl h) = inl h
first old new x y (inr e) = inr (IsFront-self y x e)

-- one letter further
on : (before old new : Graph) (x y z : Dtv) (l : Label) → longer x l ≡ z → (Has old y → Has before y ⊎ IsFront y x) → Has old y ⊎ (y ≡ longer x l) → Has before y ⊎ IsFront y z
on before old new x y z l e earlier (inl h) = by (earlier h)
  where
    by : Has before y ⊎ IsFront y x → Has before y ⊎ IsFront y z
    by (inl k) = inl k
    by (inr f) = inr (subst (IsFront y) e (IsFront-longer y x l f))
on before old new x y z l e earlier (inr f) = inr (IsFront-self y z (f ∙ e))

pub loop-label-init : goal.loop-label-init
loop-label-init c = record {
  letters = c.items-label-items.ensures.letters;
  within = c.in_ok-node.ensures.within;
  here = c.in_ok-node.ensures.here;
  kept = c.in_ok-node.ensures.kept;
  only = λ y h. first c.args.self.now c.enter_base.new.self (bare c.args.x.now.base) y (c.in_ok-node.ensures.only y h);
}

pub loop-label-preserved : goal.loop-label-preserved
loop-label-preserved c =
    let x = c.args.x.now in
    let n = c.loop-label.label-index in
    let letter = get_or c.items-label-items.result.now n (In (Arg 0)) in
    let more : longer (front_of x n) letter ≡ front_of x (n + 1) = front_of-more x c.items-label-items.result.now n (In (Arg 0)) c.items-label-items.ensures.letters (omega arith) in
    record {
      letters = c.items-label-items.ensures.letters;
      within = c.in_ok-node-2.ensures.within;
      here = subst (λ v. node_of c.enter_step.new.self v ≡ Some c.in_ok-node-2.node) more (c.in_ok-node-2.ensures.here (front_of x n) c.loop-label.invariant.here);
      kept = λ y n h. c.in_ok-node-2.ensures.kept y n (c.loop-label.invariant.kept y n h);
      only = λ y h. on c.args.self.now c.loop-label.self c.enter_step.new.self (front_of x n) y (front_of x (n + 1)) letter more (c.loop-label.invariant.only y) (c.in_ok-node-2.ensures.only (front_of x n) y c.loop-label.invariant.here h);
    }

pub returns-clause-only : goal.returns-clause-only
returns-clause-only c = λ y h.
    let whole : take c.loop-label.label-index c.args.x.now.word ≡ c.args.x.now.word = take_all c.loop-label.label-index c.args.x.now.word (omega (arith, ap length c.loop-label.invariant.letters)) in
    subst (λ w. Has c.args.self.now y ⊎ IsFront y (record { base = c.args.x.now.base; word = w })) whole (c.loop-label.invariant.only y h)

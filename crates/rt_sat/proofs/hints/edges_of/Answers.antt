use Rattle.std.proofs.Common.{◌≡◌, ◌*◌, ℕ, ◌<◌, List, Contains, length, refl, sym, ap, subst, ◌∙◌, arith}
use Rattle.rt_grid.specs.Tables.{Table, size_of}
use Rattle.rt_rules.proofs.Lists.{Contains-none}
use Rattle.rt_sat.specs.declared.family.Family.{Family}
use Rattle.rt_sat.specs.declared.state.Edge.{Edge}
use Rattle.rt_sat.specs.Hints.{grid_of, members_of, AreMore, IsFamily, IsStepOf, IsTold}
use Rattle.rt_sat.proofs.Emitting.{each_more, read_class, step_told, step_within}
use Rattle.rt_sat.proofs.hints.edges_of.Goals as goal

pub close-requires-clause-family : goal.close-requires-clause-family
close-requires-clause-family c = (c.requires.0, c.loop-class.invariant.family c.requires.0 c.requires.1)

pub close-requires-clause-class : goal.close-requires-clause-class
close-requires-clause-class c = omega (arith, c.loop-class-test.true, c.len-class-end.ensures, ap length c.loop-class.invariant.same)

pub index-requires-in-loop-class : goal.index-requires-in-loop-class
index-requires-in-loop-class c =
    let is : IsFamily c.requires.0 c.close.new.self = c.in_ok-close.ensures.family c.requires.0 (c.loop-class.invariant.family c.requires.0 c.requires.1) in
    omega (arith, is.each, c.loop-class-test.true, c.len-class-end.ensures, ap length c.loop-class.invariant.same, ap length c.in_ok-close.ensures.same)

pub emit-requires : goal.emit-requires
emit-requires c =
    let family : Family = c.close.new.self in
    let class : ℕ = c.loop-class.class in
    let less : class < length family.members.items = omega (arith, c.loop-class-test.true, c.len-class-end.ensures, ap length c.loop-class.invariant.same, ap length c.in_ok-close.ensures.same) in
    let is : IsFamily c.requires.0 family = c.in_ok-close.ensures.family c.requires.0 (c.loop-class.invariant.family c.requires.0 c.requires.1) in
    let read : (c.items.result.now ≡ members_of family class) × (c.index-in-loop-class.result.now ≡ grid_of family class) =
    read_class c.requires.0 family class c.items.result.now c.index.result.now c.index-in-loop-class.result.now c.index-in-loop-class.result.now is less (c.items.ensures ∙ c.index.ensures) c.index-in-loop-class.ensures in
    ap size_of read.1 ∙ is.sizes class less ∙ ap (λ xs. 2 * length xs) (sym read.0)

pub loop-class-init : goal.loop-class-init
loop-class-init c = record {
  same = refl;
  family = λ count f. f;
  told = λ known flips lines t. t;
  edges = λ known flips lines t e h. absurd (Contains-none e (subst (λ (xs : List Edge). Contains xs e) c.new-edges.ensures.items h));
  within = λ known f e h. absurd (Contains-none e (subst (λ (xs : List Edge). Contains xs e) c.new-edges.ensures.items h));
}

pub loop-class-preserved : goal.loop-class-preserved
loop-class-preserved c =
    let family : Family = c.close.new.self in
    let class : ℕ = c.loop-class.class in
    let less : class < length family.members.items = omega (arith, c.loop-class-test.true, c.len-class-end.ensures, ap length c.loop-class.invariant.same, ap length c.in_ok-close.ensures.same) in
    let is : IsFamily c.requires.0 family = c.in_ok-close.ensures.family c.requires.0 (c.loop-class.invariant.family c.requires.0 c.requires.1) in
    let read : (c.items.result.now ≡ members_of family class) × (c.index-in-loop-class.result.now ≡ grid_of family class) =
    read_class c.requires.0 family class c.items.result.now c.index.result.now c.index-in-loop-class.result.now c.index-in-loop-class.result.now is less (c.items.ensures ∙ c.index.ensures) c.index-in-loop-class.ensures in
    let old : List Edge = c.loop-class.edges.items in
    let new : List Edge = c.emit.new.edges.items in
    let Of = IsStepOf (members_of family class) (grid_of family class) in
    let more : AreMore (IsStepOf (members_of family class) (grid_of family class)) old new =
    subst (λ (xs : List ℕ). AreMore (IsStepOf xs (grid_of family class)) old new) read.0 (subst (λ (t : Table). AreMore (IsStepOf c.items.result.now t) old new) read.1 c.in_ok-emit.ensures) in
    record {
      same = c.in_ok-close.ensures.same ∙ c.loop-class.invariant.same;
      family = λ count f. c.in_ok-close.ensures.family count (c.loop-class.invariant.family count f);
      told = λ known flips lines t. c.in_ok-close.ensures.told known flips lines (c.loop-class.invariant.told known flips lines t);
      edges = λ known flips lines t. each_more Of (λ e. IsTold known flips lines e.from e.to e.count) old new
          (step_told known family class less flips lines (c.in_ok-close.ensures.told known flips lines (c.loop-class.invariant.told known flips lines t))) more (c.loop-class.invariant.edges known flips lines t);
      within = λ known f. each_more Of (λ e. (e.from.variable < length known) × (e.to.variable < length known)) old new
          (step_within known family class less (c.in_ok-close.ensures.family (length known) (c.loop-class.invariant.family (length known) f))) more (c.loop-class.invariant.within known f);
    }

pub returns-clause-told : goal.returns-clause-told
returns-clause-told c = c.loop-class.invariant.edges

pub returns-clause-within : goal.returns-clause-within
returns-clause-within c = c.loop-class.invariant.within

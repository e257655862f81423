use Rattle.std.proofs.Common.{ℕ, length, List, Contains, subst}
use Rattle.rt_outline.specs.Together.{AreTogetherBy, HasPair}
use Rattle.rt_outline.proofs.Paired.{classes_of, pairs_within}
use Rattle.rt_outline.proofs.classes.classes.Goals as goal

pub together-requires-clause-within : goal.together-requires-clause-within
together-requires-clause-within c = λ v w m.
    pairs_within c.args.arcs.now c.args.stands.now c.in_ok-pairs.pairs.items c.requires.within c.in_ok-pairs.ensures v w
    (subst (λ (xs : List (ℕ × ℕ)). Contains xs (v, w)) c.deref.ensures.value m)

pub returns-clause-classes : goal.returns-clause-classes
returns-clause-classes c =
    classes_of c.args.arcs.now c.args.stands.now c.in_ok-pairs.pairs.items c.in_ok-classes.classes.numbers.items c.in_ok-pairs.ensures
    (subst (λ (xs : List (ℕ × ℕ)). AreTogetherBy (HasPair xs) (length c.args.arcs.now) c.in_ok-classes.classes.numbers.items)
    c.deref.ensures.value c.in_ok-classes.ensures.classes)

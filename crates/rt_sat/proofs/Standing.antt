-- Where ends stand, and what leads to their children from there, and from them to there.
use Rattle.std.proofs.Common.{◌≡◌, ◌⊎◌, inl, inr, List, [], ◌∷◌, ◌++◌, Bool, Contains, subst, sym}
use Rattle.std.proofs.lemmas.List.Elements.{Contains-push_cases}
use Rattle.rt_lines.specs.declared.variable.Dtv.{Dtv}
use Rattle.rt_sat.specs.declared.gathering.End.{End}
use Rattle.rt_sat.specs.declared.state.Edge.{Edge}
use Rattle.rt_sat.specs.declared.state.State.{State}
use Rattle.rt_sat.specs.Hints.{IsTold}
use Rattle.rt_sat.specs.Inside.Links.{noted_at, AreBefore, AreBehind, AreSources, AreTargets}
use Rattle.rt_sat.specs.Pushes.{IsChildOf}
use Rattle.rt_sat.proofs.Telling.{told_here}

module _ (known : List Dtv) (flips : List Bool) (lines : List Edge) (near : List (List State)) (ends more : List End) (end : End) (child : IsChildOf known end.child end.parent end.letter)
    (at : (end.stand ≡ end.child) ⊎ Contains (noted_at near end.child) end.stand) (is : more ≡ ends ++ end ∷ []) where
  pub sources_more : AreBefore known flips lines near → AreSources known flips lines ends → AreSources known flips lines more
  sources_more before are other c = elim (Contains-push_cases ends end other (subst (λ xs. Contains xs other) is c)) [
    | inl h ↦ are other h
    | inr f ↦ subst (λ (e : End). IsTold known flips lines e.stand e.child 0) f (by at)
  ]
    where
      by : (end.stand ≡ end.child) ⊎ Contains (noted_at near end.child) end.stand → IsTold known flips lines end.stand end.child 0
      by (inl e) = subst (λ s. IsTold known flips lines s end.child 0) (sym e) (told_here known flips lines end.child child.within)
      by (inr h) = before end.child end.stand h

  pub targets_more : AreBehind known flips lines near → AreTargets known flips lines ends → AreTargets known flips lines more
  targets_more behind are other c = elim (Contains-push_cases ends end other (subst (λ xs. Contains xs other) is c)) [
    | inl h ↦ are other h
    | inr f ↦ subst (λ (e : End). IsTold known flips lines e.child e.stand 0) f (by at)
  ]
    where
      by : (end.stand ≡ end.child) ⊎ Contains (noted_at near end.child) end.stand → IsTold known flips lines end.child end.stand 0
      by (inl e) = subst (λ s. IsTold known flips lines end.child s 0) (sym e) (told_here known flips lines end.child child.within)
      by (inr h) = behind end.child end.stand h

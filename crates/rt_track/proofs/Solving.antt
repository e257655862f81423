-- Nodes are visited until each is closed.
use Rattle.std.proofs.Common.{◌≡◌, inl, inr, List, Option, Some, None, refl, sym, ap, ◌∙◌}
use Rattle.rt_track.specs.declared.value.Value.{Value}
use Rattle.rt_track.specs.declared.value.Value.TheVariants.{Multi}
use Rattle.rt_track.specs.declared.nodes.Input.{Input}
use Rattle.rt_track.specs.declared.nodes.Node.TheVariants as node
use Rattle.rt_track.specs.Inside.Nodes.{Covers, Gives, IsGiven, IsJoined, state_of}

-- the value of a join takes in both values, and is one of them, or several where they differ
pub join_given : (states : List (Option Value)) (a b : Input) (r : Option Value) → IsJoined (state_of states a) (state_of states b) r → IsGiven states (node.Join a b) r
join_given states a b r joined = by (state_of states a) (state_of states b) r refl refl joined
  where
    by : (x y r : Option Value) → state_of states a ≡ x → state_of states b ≡ y → IsJoined x y r → IsGiven states (node.Join a b) r
    by None y r ea eb e = record { all = all; made = λ v f. inl (inr (eb ∙ sym e ∙ f)) }
      where
        all : (o : Option Value) → ((v : Value) → r ≡ Some v → Covers o v) → (v : Value) → Gives states (node.Join a b) v → Covers o v
        all o covers v (inl f) = absurd (clash (sym ea ∙ f))
          where
            clash : None ≡ Some v → ⊥
            clash g = cc
        all o covers v (inr f) = covers v (e ∙ sym eb ∙ f)
    by (Some w) None r ea eb e = record { all = all; made = λ v f. inl (inl (ea ∙ sym e ∙ f)) }
      where
        all : (o : Option Value) → ((v : Value) → r ≡ Some v → Covers o v) → (v : Value) → Gives states (node.Join a b) v → Covers o v
        all o covers v (inl f) = covers v (e ∙ sym ea ∙ f)
        all o covers v (inr f) = absurd (clash (sym eb ∙ f))
          where
            clash : None ≡ Some v → ⊥
            clash g = cc
    by (Some w) (Some u) r ea eb (inl (same, e)) = record { all = all; made = λ v f. inl (inl (ea ∙ sym e ∙ f)) }
      where
        all : (o : Option Value) → ((v : Value) → r ≡ Some v → Covers o v) → (v : Value) → Gives states (node.Join a b) v → Covers o v
        all o covers v (inl f) = covers v (e ∙ sym ea ∙ f)
        all o covers v (inr f) = covers v (e ∙ ap Some same ∙ sym eb ∙ f)
    by (Some w) (Some u) r ea eb (inr (other, e)) = record { all = all; made = λ v f. inr (let g : Multi ≡ v = several v f in sym g, (w, u, inl ea, inr eb, other)) }
      where
        several : (v : Value) → r ≡ Some v → Multi ≡ v
        several v f = cc

        all : (o : Option Value) → ((v : Value) → r ≡ Some v → Covers o v) → (v : Value) → Gives states (node.Join a b) v → Covers o v
        all o covers v f = wide (covers Multi e)
          where
            wide : Covers o Multi → Covers o v
            wide (inl g) = inr g
            wide (inr g) = inr g

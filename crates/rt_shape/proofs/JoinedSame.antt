-- What has to be one in the tree of what the lines name has one shape.
use Rattle.std.proofs.Common.{◌≡◌, ℕ, ◌<◌, ◌⊎◌, inl, inr, Some, List, Contains, refl, sym, ap, subst, ◌∙◌}
use Rattle.rt_lines.specs.declared.label.Label.{Label}
use Rattle.rt_lines.specs.declared.label.Label.TheVariants.{In, Out, Load, Store, Field}
use Rattle.rt_lines.specs.declared.variable.Dtv.{Dtv}
use Rattle.rt_lines.specs.declared.line.Line.{Line}
use Rattle.rt_lines.specs.declared.line.Line.TheVariants.{Var, Same, Sub, Low, Up}
use Rattle.rt_lines.specs.Orders.{Below}
use Rattle.rt_rules.specs.Rules.{longer, Derivable}
use Rattle.rt_rules.specs.Rules.Derivable.{named, same_letter, same_line, same_sub, same_self, same_back, same_chain, same_longer, sub_line, sub_pointer}
use Rattle.rt_rules.proofs.Covering.{front}
use Rattle.rt_shape.specs.Graphs.{Graph, node_of, Has, IsTree}
use Rattle.rt_shape.specs.Shapes.{IsNamed, IsNaming, Equates, ArePairs}
use Rattle.rt_shape.specs.Inside.Classes.{pointed, Joined}
use Rattle.rt_shape.specs.Inside.Classes.Joined.{joined_pair, joined_self, joined_back, joined_chain, joined_letter}
use Rattle.rt_shape.proofs.Within.{pairs_within, joined_within}
use Rattle.rt_shape.proofs.Walks.{node_of-longer}

-- labels that are one but for stores: they are one, or a load and a store, in some order
abbrev ArePointers : Label → Label → Type 0
ArePointers l k = ((l ≡ Load) ⊎ (l ≡ Store)) × ((k ≡ Load) ⊎ (k ≡ Store))

pointed_cases : (l : Label) → ((l ≡ Load) ⊎ (l ≡ Store)) ⊎ ((pointed l ≡ l) × (Load ≡ l → ⊥))
pointed_cases (In a) = inr (refl, λ e. cc)
pointed_cases (Out n) = inr (refl, λ e. cc)
pointed_cases Load = inl (inl refl)
pointed_cases Store = inl (inr refl)
pointed_cases (Field w k) = inr (refl, λ e. cc)

pointed_load : (l : Label) → (l ≡ Load) ⊎ (l ≡ Store) → pointed l ≡ Load
pointed_load l (inl e) = ap pointed e
pointed_load l (inr e) = ap pointed e

same_or_pointers : (l k : Label) → pointed l ≡ pointed k → (l ≡ k) ⊎ ArePointers l k
same_or_pointers l k e = by (pointed_cases l) (pointed_cases k)
  where
    by : ((l ≡ Load) ⊎ (l ≡ Store)) ⊎ ((pointed l ≡ l) × (Load ≡ l → ⊥)) → ((k ≡ Load) ⊎ (k ≡ Store)) ⊎ ((pointed k ≡ k) × (Load ≡ k → ⊥)) → (l ≡ k) ⊎ ArePointers l k
    by (inl a) (inl b) = inr (a, b)
    by (inl a) (inr (f, not_load)) = absurd (not_load (sym (pointed_load l a) ∙ e ∙ f))
    by (inr (f, not_load)) (inl b) = absurd (not_load (sym (pointed_load k b) ∙ sym e ∙ f))
    by (inr (f, g)) (inr (h, i)) = inl (sym f ∙ e ∙ h)

-- what has to be one in the tree has one shape
module _ (order : Below) (lines : List Line) (tree : Graph) (pairs : List (ℕ × ℕ))
    (is_tree : IsTree tree) (naming : IsNaming lines tree) (are : ArePairs lines tree pairs) where
  pub there : (x : Dtv) → Has tree x → Derivable order lines (Var x)
  there x h = by (naming.only x h)
    where
      by : IsNamed lines x → Derivable order lines (Var x)
      by (l, y, c, s, (w, e)) = front order lines x w (subst (λ v. Derivable order lines (Var v)) (sym e) (named l c s))

  self : (x y : Dtv) (n : ℕ) → node_of tree x ≡ Some n → node_of tree y ≡ Some n → Derivable order lines (Same x y)
  self x y n e f = subst (λ v. Derivable order lines (Same x v)) (is_tree.single x y n e f) (same_self (there x (n, e)))

  equated : (l : Line) (x y : Dtv) → Contains lines l → Equates l x y → Derivable order lines (Same x y)
  equated (Var z) x y c h = absurd h
  equated (Same u v) x y c (e, f) = subst (λ a. Derivable order lines (Same a y)) e (subst (λ b. Derivable order lines (Same u b)) f (same_line c))
  equated (Sub u v) x y c (e, f) = subst (λ a. Derivable order lines (Same a y)) e (subst (λ b. Derivable order lines (Same u b)) f (same_sub (sub_line c)))
  equated (Low k z) x y c h = absurd h
  equated (Up z k) x y c h = absurd h

  pointers : (x y : Dtv) (l k : Label) → ArePointers l k → Derivable order lines (Same x y) → Derivable order lines (Var (longer x l)) → Derivable order lines (Var (longer y k)) → Derivable order lines (Same (longer x l) (longer y k))
  pointers x y l k (inl e, inl f) d v w = letters x y l k (e ∙ sym f) d v
    where
      letters : (x y : Dtv) (l k : Label) → l ≡ k → Derivable order lines (Same x y) → Derivable order lines (Var (longer x l)) → Derivable order lines (Same (longer x l) (longer y k))
      letters x y l k e d v = subst (λ m. Derivable order lines (Same (longer x l) (longer y m))) e (same_longer l d v)
  pointers x y l k (inr e, inr f) d v w = subst (λ m. Derivable order lines (Same (longer x l) (longer y m))) (e ∙ sym f) (same_longer l d v)
  pointers x y l k (inl e, inr f) d v w =
      let load : Derivable order lines (Var (longer x Load)) = subst (λ m. Derivable order lines (Var (longer x m))) e v in
      let store : Derivable order lines (Var (longer y Store)) = subst (λ m. Derivable order lines (Var (longer y m))) f w in
      let both : Derivable order lines (Same (longer x Load) (longer y Store)) = same_chain (same_longer Load d load) (same_back (same_sub (sub_pointer y (same_letter Load d load) store))) in
      subst (λ m. Derivable order lines (Same (longer x m) (longer y k))) (sym e) (subst (λ m. Derivable order lines (Same (longer x Load) (longer y m))) (sym f) both)
  pointers x y l k (inr e, inl f) d v w =
      let store : Derivable order lines (Var (longer x Store)) = subst (λ m. Derivable order lines (Var (longer x m))) e v in
      let load : Derivable order lines (Var (longer y Load)) = subst (λ m. Derivable order lines (Var (longer y m))) f w in
      let both : Derivable order lines (Same (longer x Store) (longer y Load)) = same_chain (same_longer Store d store) (same_sub (sub_pointer y load (same_letter Store d store))) in
      subst (λ m. Derivable order lines (Same (longer x m) (longer y k))) (sym e) (subst (λ m. Derivable order lines (Same (longer x Store) (longer y m))) (sym f) both)

  step_same : (x y : Dtv) (l k : Label) → pointed l ≡ pointed k → Derivable order lines (Same x y) → Derivable order lines (Var (longer x l)) → Derivable order lines (Var (longer y k)) → Derivable order lines (Same (longer x l) (longer y k))
  step_same x y l k e d v w = by (same_or_pointers l k e)
    where
      by : (l ≡ k) ⊎ ArePointers l k → Derivable order lines (Same (longer x l) (longer y k))
      by (inl f) = subst (λ m. Derivable order lines (Same (longer x l) (longer y m))) f (same_longer l d v)
      by (inr h) = pointers x y l k h d v w

  by_chain : (i j : ℕ) (x y : Dtv) → node_of tree x ≡ Some i → (i ≡ j) ⊎ ((i < tree.count) × (j < tree.count)) → ((z : Dtv) → node_of tree z ≡ Some j → Derivable order lines (Same x z)) → ((z : Dtv) → node_of tree z ≡ Some j → Derivable order lines (Same z y)) → Derivable order lines (Same x y)
  by_chain i j x y e (inl same) first second = second x (e ∙ ap Some same)
  by_chain i j x y e (inr within) first second = let z = is_tree.whole.reached j within.1 in same_chain (first z.0 z.1) (second z.0 z.1)

  pub same_from_joined : {i j : ℕ} → Joined tree pairs i j → (x y : Dtv) → node_of tree x ≡ Some i → node_of tree y ≡ Some j → Derivable order lines (Same x y)
  same_from_joined (joined_pair {i = i} {j = j} c) x y e f = by (are.only i j c)
    where
      by : (l : Line) × Contains lines l × ((u : Dtv) × (v : Dtv) × Equates l u v × (node_of tree u ≡ Some i) × (node_of tree v ≡ Some j)) → Derivable order lines (Same x y)
      by (l, in_lines, (u, v, q, g, h)) = same_chain (self x u i e g) (same_chain (equated l u v in_lines q) (self v y j h f))
  same_from_joined (joined_self {i = i}) x y e f = self x y i e f
  same_from_joined (joined_back d) x y e f = same_back (same_from_joined d y x f e)
  same_from_joined (joined_chain {i = i} {j = j} d g) x y e f =
      by_chain i j x y e (joined_within tree pairs is_tree (pairs_within lines tree pairs is_tree are) d) (λ z h. same_from_joined d x z e h) (λ z h. same_from_joined g z y h f)
  same_from_joined (joined_letter {i = i} {j = j} {m = m} {n = n} l k same d g h) x y e f =
      let u = is_tree.whole.reached i (is_tree.whole.edges_in i l m g).0 in
      let v = is_tree.whole.reached j (is_tree.whole.edges_in j k n h).0 in
      let to_m : node_of tree (longer u.0 l) ≡ Some m = node_of-longer tree u.0 l i u.1 ∙ g in
      let to_n : node_of tree (longer v.0 k) ≡ Some n = node_of-longer tree v.0 k j v.1 ∙ h in
      let across : Derivable order lines (Same (longer u.0 l) (longer v.0 k)) = step_same u.0 v.0 l k same (same_from_joined d u.0 v.0 u.1 v.1) (there (longer u.0 l) (m, to_m)) (there (longer v.0 k) (n, to_n)) in
      same_chain (self x (longer u.0 l) m e to_m) (same_chain across (self (longer v.0 k) y n to_n f))

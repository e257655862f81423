-- What lines name, line by line.
use Rattle.std.proofs.Common.{◌≡◌, ℕ, ◌+◌, ◌<◌, ◌⊎◌, inl, inr, Option, None, Some, List, [], ◌∷◌, ◌++◌, length, take, get_or, Contains, sym, ap, subst, ◌∙◌}
use Rattle.std.proofs.lemmas.List.{take_more}
use Rattle.std.proofs.lemmas.List.Elements.{Contains-append_left, Contains-push, Contains-push_cases}
use Rattle.rt_base.proofs.Lists.{Contains-none}
use Rattle.rt_lines.specs.declared.variable.Dtv.{Dtv}
use Rattle.rt_lines.specs.declared.line.Line.{Line}
use Rattle.rt_lines.specs.declared.line.Line.TheVariants.{Var, Same, Sub, Low, Up}
use Rattle.rt_rules.specs.Rules.{HasSide}
use Rattle.rt_shape.specs.Graphs.{Graph, Has, IsKept, node_of}
use Rattle.rt_shape.specs.Shapes.{IsFront, IsNamed, IsNaming, ArePairOf, ArePairs, Equates}

-- the lines of a loop, one turn further
pub turn : (lines : List Line) (i : ℕ) (l : Line) → i < length lines → l ≡ get_or lines i l → take (i + 1) lines ≡ take i lines ++ l ∷ []
turn lines i l less is = take_more lines i l less ∙ ap (λ m. take i lines ++ m ∷ []) (sym is)

pub IsNaming-nil : (graph : Graph) → ((x : Dtv) → Has graph x → ⊥) → IsNaming [] graph
IsNaming-nil graph empty = record {
  sides = λ l x c h. absurd (Contains-none l c);
  only = λ x h. absurd (empty x h);
}

-- a line more, whose sides the second tree has besides what the first one has
module _ (lines : List Line) (l : Line) (old new : Graph) (naming : IsNaming lines old)
    (sides : (x : Dtv) → HasSide l x → Has new x) (kept : IsKept old new)
    (only : (x : Dtv) → Has new x → Has old x ⊎ ((y : Dtv) × HasSide l y × IsFront x y)) where
  all_sides : (k : Line) (x : Dtv) → Contains lines k ⊎ (l ≡ k) → HasSide k x → Has new x
  all_sides k x (inl c) h = let there = naming.sides k x c h in (there.0, kept x there.0 there.1)
  all_sides k x (inr e) h = sides x (subst (λ m. HasSide m x) (sym e) h)

  named_more : (x : Dtv) → Has old x ⊎ ((y : Dtv) × HasSide l y × IsFront x y) → IsNamed (lines ++ l ∷ []) x
  named_more x (inl h) = let n = naming.only x h in (n.0, n.1, Contains-append_left lines (l ∷ []) n.0 n.2, n.3, n.4)
  named_more x (inr (y, h, f)) = (l, y, Contains-push lines l, h, f)

  pub IsNaming-push : IsNaming (lines ++ l ∷ []) new
  IsNaming-push = record {
    sides = λ k x c h. all_sides k x (Contains-push_cases lines l k c) h;
    only = λ x h. named_more x (only x h);
  }

pub ArePairs-nil : (graph : Graph) → ArePairs [] graph []
ArePairs-nil graph = record {
  found = λ l i j c h. absurd (Contains-none l c);
  only = λ i j c. absurd (Contains-none (i, j) c);
}

-- the line names what it says has one shape
pub equated_first : (l : Line) (x y : Dtv) → Equates l x y → HasSide l x
equated_first (Var z) x y e = absurd e
equated_first (Same u v) x y e = inl e.0
equated_first (Sub u v) x y e = inl e.0
equated_first (Low k z) x y e = absurd e
equated_first (Up z k) x y e = absurd e

pub equated_second : (l : Line) (x y : Dtv) → Equates l x y → HasSide l y
equated_second (Var z) x y e = absurd e
equated_second (Same u v) x y e = inr e.1
equated_second (Sub u v) x y e = inr e.1
equated_second (Low k z) x y e = absurd e
equated_second (Up z k) x y e = absurd e

-- pairs stay those of lines whose sides keep their nodes
module _ (lines : List Line) (old new : Graph) (pairs : List (ℕ × ℕ)) (naming : IsNaming lines old) (kept : IsKept old new)
    (are : ArePairs lines old pairs) where
  back : (x : Dtv) (n : ℕ) → Has old x → node_of new x ≡ Some n → node_of old x ≡ Some n
  back x n (m, e) f = by (sym (kept x m e) ∙ f)
    where
      by : ◌≡◌ {A = Option ℕ} (Some m) (Some n) → node_of old x ≡ Some n
      by g = e ∙ g

  pub ArePairs-kept : ArePairs lines new pairs
  ArePairs-kept = record {
    found = λ l i j c (x, y, e, f, g). are.found l i j c
        (x, y, e, back x i (naming.sides l x c (equated_first l x y e)) f, back y j (naming.sides l y c (equated_second l x y e)) g);
    only = λ i j c. let o = are.only i j c in
        (o.0, o.1, (o.2.0, o.2.1, o.2.2, kept o.2.0 i o.2.3, kept o.2.1 j o.2.4));
  }

-- a line more, with its pair, if it has one
module _ (lines : List Line) (l : Line) (graph : Graph) (pairs : List (ℕ × ℕ)) (are : ArePairs lines graph pairs) where
  pub ArePairs-push_none : ((i j : ℕ) → ArePairOf graph l i j → ◌≡◌ {A = Option (ℕ × ℕ)} None (Some (i, j))) → ArePairs (lines ++ l ∷ []) graph pairs
  ArePairs-push_none found = record {
    found = λ k i j c h. by k i j h (Contains-push_cases lines l k c);
    only = λ i j c. let o = are.only i j c in (o.0, Contains-append_left lines (l ∷ []) o.0 o.1, o.2);
  }
    where
      by : (k : Line) (i j : ℕ) → ArePairOf graph k i j → Contains lines k ⊎ (l ≡ k) → Contains pairs (i, j)
      by k i j h (inl c) = are.found k i j c h
      by k i j h (inr e) = absurd (none_some (found i j (subst (λ m. ArePairOf graph m i j) (sym e) h)))
        where
          none_some : ◌≡◌ {A = Option (ℕ × ℕ)} None (Some (i, j)) → ⊥
          none_some f = cc

  pub ArePairs-push_some : (pair : ℕ × ℕ) → ((i j : ℕ) → ArePairOf graph l i j → ◌≡◌ {A = Option (ℕ × ℕ)} (Some pair) (Some (i, j))) → ArePairOf graph l pair.0 pair.1 → ArePairs (lines ++ l ∷ []) graph (pairs ++ pair ∷ [])
  ArePairs-push_some pair found only = record {
    found = λ k i j c h. by k i j h (Contains-push_cases lines l k c);
    only = λ i j c. back i j (Contains-push_cases pairs pair (i, j) c);
  }
    where
      same : (i j : ℕ) → ◌≡◌ {A = Option (ℕ × ℕ)} (Some pair) (Some (i, j)) → ◌≡◌ {A = ℕ × ℕ} pair (i, j)
      same i j e = cc

      by : (k : Line) (i j : ℕ) → ArePairOf graph k i j → Contains lines k ⊎ (l ≡ k) → Contains (pairs ++ pair ∷ []) (i, j)
      by k i j h (inl c) = Contains-append_left pairs (pair ∷ []) (i, j) (are.found k i j c h)
      by k i j h (inr e) = subst (Contains (pairs ++ pair ∷ [])) (same i j (found i j (subst (λ m. ArePairOf graph m i j) (sym e) h))) (Contains-push pairs pair)

      back : (i j : ℕ) → Contains pairs (i, j) ⊎ ◌≡◌ {A = ℕ × ℕ} pair (i, j) → (k : Line) × Contains (lines ++ l ∷ []) k × ArePairOf graph k i j
      back i j (inl c) = let o = are.only i j c in (o.0, Contains-append_left lines (l ∷ []) o.0 o.1, o.2)
      back i j (inr e) = (l, Contains-push lines l, subst (λ p. ArePairOf graph l p.0 p.1) e only)

-- a line of one side
pub one_side : (l : Line) (z : Dtv) (old new : Graph) → HasSide l z → ((x : Dtv) → Has new x → Has old x ⊎ IsFront x z) → (x : Dtv) → Has new x → Has old x ⊎ ((y : Dtv) × HasSide l y × IsFront x y)
one_side l z old new side only x h = by (only x h)
  where
    by : Has old x ⊎ IsFront x z → Has old x ⊎ ((y : Dtv) × HasSide l y × IsFront x y)
    by (inl k) = inl k
    by (inr f) = inr (z, side, f)

-- a line of two sides
pub two_sides : (l : Line) (u v : Dtv) (old between new : Graph) → HasSide l u → HasSide l v → ((x : Dtv) → Has between x → Has old x ⊎ IsFront x u) → ((x : Dtv) → Has new x → Has between x ⊎ IsFront x v) → (x : Dtv) → Has new x → Has old x ⊎ ((y : Dtv) × HasSide l y × IsFront x y)
two_sides l u v old between new side_u side_v first second x h = by (second x h)
  where
    by : Has between x ⊎ IsFront x v → Has old x ⊎ ((y : Dtv) × HasSide l y × IsFront x y)
    by (inl k) = one_side l u old between side_u first x k
    by (inr f) = inr (v, side_v, f)

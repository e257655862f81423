-- What is left by the coarsest refinement has no refinement that makes two existentials one: with the coarsest it would make a coarser one.
use Rattle.std.proofs.Common.{◌≡◌, ◌≤◌, ℕ, ◌⊎◌, inl, inr, List, [], ◌++◌, Contains, true, refl, ap, sym, subst, ◌∙◌, append-nil, arith}
use Rattle.std.proofs.lemmas.List.Elements.{All-nil}
use Rattle.rt_base.proofs.Lists.{Contains-map, Contains-map_source}
use Rattle.rt_lines.specs.declared.variable.Base.{Base}
use Rattle.rt_lines.specs.declared.variable.Base.TheVariants.{Proc, Global, Exist, Outer}
use Rattle.rt_lines.specs.declared.variable.Dtv.{Dtv}
use Rattle.rt_lines.specs.declared.line.Line.{Line}
use Rattle.rt_lines.specs.declared.line.Line.TheVariants.{Var, Same, Sub, Low, Up}
use Rattle.rt_lines.specs.Orders.{Below}
use Rattle.rt_rules.specs.Rules.{Derivable}
use Rattle.rt_rules.specs.Alike.{IsOutside, map_line}
use Rattle.rt_rules.specs.Put.{exist}
use Rattle.rt_rules.proofs.Carry.{side}
use Rattle.rt_refine.specs.Refinements.{of_exist, moved, move, AreMatched, IsRefinement, refined}
use Rattle.rt_refine.specs.Laws.{RefinedRestLaw}
use Rattle.rt_refine.proofs.Sources.{sub_source, low_source, up_source}
use Rattle.rt_refine.proofs.Matching.{match_above, match_beneath, match_low, match_up}
use Rattle.rt_refine.proofs.Refining.{covered, fixed}

-- one move after another
move-twice : (class other : ℕ → ℕ) (x : Dtv) → move other (move class x) ≡ move (λ n. other (class n)) x
move-twice class other x = λ i. record { base = at x.base i; word = x.word }
  where
    at : (b : Base) → moved other (moved class b) ≡ moved (λ n. other (class n)) b
    at (Proc n) = refl
    at (Global n) = refl
    at (Exist n) = refl
    at (Outer n) = refl

module _ (lines : List Line) (class : ℕ → ℕ) (is : IsRefinement lines class) where
  abbrev left : List Line
  left = refined class lines

  with_none : (order : Below) {j : Line} → Derivable order left j → Derivable order (left ++ []) j
  with_none order {j = j} d = subst (λ ls. Derivable order ls j) (sym (append-nil left)) d

  -- an existential that is left is the name of its class
  is_name : (order : Below) (n : ℕ) → Derivable order left (Var (exist n)) → class n ≡ n
  is_name order n d =
      let e : move class (exist n) ≡ exist n =
      fixed order (λ b. true) lines class (λ k. refl) is [] (All-nil (IsOutside (λ b. true))) (exist n) (with_none order d) in
      let f : Exist (class n) ≡ Exist n = ap (λ z. z.base) e in
      cc

  -- what has the shape of a name has the shape of each of the name's class
  shape_back : (order : Below) (v w : ℕ) → Derivable order left (Same (exist (class v)) (exist w)) → Derivable order lines (Same (exist v) (exist w))
  shape_back order v w d =
      let e : class w ≡ w = is_name order w (side order left (Same (exist (class v)) (exist w)) (exist w) d (inr refl)) in
      subst (λ ls. Derivable order ls (Same (exist v) (exist w))) (append-nil lines)
      (covered order (λ b. true) lines class (λ k. refl) is [] (All-nil (IsOutside (λ b. true))) (with_none order d) (exist v) (exist w) refl
      (ap exist e))

  -- where a moved line is left, each variable that becomes its side has such a line
  left_above : (a b : Dtv) → Contains left (Sub (move class a) b) → (z : Dtv) × Contains lines (Sub a z) × (move class z ≡ b)
  left_above a b c = by (Contains-map_source (map_line (move class)) lines (Sub (move class a) b) c)
    where
      by : (k : Line) × Contains lines k × (map_line (move class) k ≡ Sub (move class a) b) →
          (z : Dtv) × Contains lines (Sub a z) × (move class z ≡ b)
      by (k, d, e) =
          let s : (x : Dtv) × (y : Dtv) × (k ≡ Sub x y) × (move class x ≡ move class a) × (move class y ≡ b) =
          sub_source (move class) k (move class a) b e in
          let t : (z : Dtv) × Contains lines (Sub a z) × (move class z ≡ move class s.1) =
          match_above lines class is s.0 s.1 a (subst (Contains lines) s.2 d) (sym s.3) in
          (t.0, t.1, t.2 ∙ s.4)

  left_beneath : (a b : Dtv) → Contains left (Sub a (move class b)) → (z : Dtv) × Contains lines (Sub z b) × (move class z ≡ a)
  left_beneath a b c = by (Contains-map_source (map_line (move class)) lines (Sub a (move class b)) c)
    where
      by : (k : Line) × Contains lines k × (map_line (move class) k ≡ Sub a (move class b)) →
          (z : Dtv) × Contains lines (Sub z b) × (move class z ≡ a)
      by (k, d, e) =
          let s : (x : Dtv) × (y : Dtv) × (k ≡ Sub x y) × (move class x ≡ a) × (move class y ≡ move class b) =
          sub_source (move class) k a (move class b) e in
          let t : (z : Dtv) × Contains lines (Sub z b) × (move class z ≡ move class s.0) =
          match_beneath lines class is s.0 s.1 b (subst (Contains lines) s.2 d) (sym s.4) in
          (t.0, t.1, t.2 ∙ s.3)

  left_low : (n : ℕ) (a : Dtv) → Contains left (Low n (move class a)) → Contains lines (Low n a)
  left_low n a c = by (Contains-map_source (map_line (move class)) lines (Low n (move class a)) c)
    where
      by : (k : Line) × Contains lines k × (map_line (move class) k ≡ Low n (move class a)) → Contains lines (Low n a)
      by (k, d, e) =
          let s : (x : Dtv) × (k ≡ Low n x) × (move class x ≡ move class a) = low_source (move class) k n (move class a) e in
          match_low lines class is n s.0 a (subst (Contains lines) s.1 d) (sym s.2)

  left_up : (a : Dtv) (n : ℕ) → Contains left (Up (move class a) n) → Contains lines (Up a n)
  left_up a n c = by (Contains-map_source (map_line (move class)) lines (Up (move class a) n) c)
    where
      by : (k : Line) × Contains lines k × (map_line (move class) k ≡ Up (move class a) n) → Contains lines (Up a n)
      by (k, d, e) =
          let s : (x : Dtv) × (k ≡ Up x n) × (move class x ≡ move class a) = up_source (move class) k (move class a) n e in
          match_up lines class is s.0 n a (subst (Contains lines) s.1 d) (sym s.2)

  module _ (other : ℕ → ℕ) (r : IsRefinement left other) where
    abbrev through : ℕ → ℕ
    through n = other (class n)

    -- the name of a name's class is a name
    stays_name : (n : ℕ) → class n ≡ n → class (other n) ≡ other n
    stays_name n e = by (r.shaped n)
      where
        by : (other n ≡ n) ⊎ ((order : Below) → Derivable order left (Same (exist n) (exist (other n)))) → class (other n) ≡ other n
        by (inl f) = subst (λ k. class k ≡ k) (sym f) e
        by (inr d) =
            let none : Below = record { count = 0; cells = [] } in
            is_name none (other n) (side none left (Same (exist n) (exist (other n))) (exist (other n)) (d none) (inr refl))

    through_least : (v : ℕ) → through v ≤ v
    through_least v = let a : other (class v) ≤ class v = r.least (class v) in let b : class v ≤ v = is.least v in omega arith

    through_own : (v : ℕ) → through (through v) ≡ through v
    through_own v = ap other (stays_name (class v) (is.own v)) ∙ r.own (class v)

    through_shaped : (v : ℕ) → (through v ≡ v) ⊎ ((order : Below) → Derivable order lines (Same (exist v) (exist (through v))))
    through_shaped v = by (r.shaped (class v)) (is.shaped v)
      where
        by : (other (class v) ≡ class v) ⊎ ((order : Below) → Derivable order left (Same (exist (class v)) (exist (through v)))) →
            (class v ≡ v) ⊎ ((order : Below) → Derivable order lines (Same (exist v) (exist (class v)))) →
            (through v ≡ v) ⊎ ((order : Below) → Derivable order lines (Same (exist v) (exist (through v))))
        by (inl e) (inl f) = inl (e ∙ f)
        by (inl e) (inr d) = inr (λ order. subst (λ n. Derivable order lines (Same (exist v) (exist n))) (sym e) (d order))
        by (inr d) s = inr (λ order. shape_back order v (through v) (d order))

    moved_through : (x y z : Dtv) → move class z ≡ x → move other x ≡ move other (move class y) → move through z ≡ move through y
    moved_through x y z e f = sym (move-twice class other z) ∙ ap (move other) e ∙ f ∙ move-twice class other y

    through_matched : (v w : ℕ) → through v ≡ through w → AreMatched lines through v w
    through_matched v w e =
        let h : AreMatched left other (class v) (class w) = r.matched (class v) (class w) e in
        record {
          left = λ u y c.
              let s : (z : Dtv) × Contains left (Sub (of_exist (class w) u) z) × (move other z ≡ move other (move class y)) =
              h.left u (move class y) (Contains-map (map_line (move class)) lines (Sub (of_exist v u) y) c) in
              let t : (z : Dtv) × Contains lines (Sub (of_exist w u) z) × (move class z ≡ s.0) = left_above (of_exist w u) s.0 s.1 in
              (t.0, t.1, moved_through s.0 y t.0 t.2 s.2);
          right = λ x u c.
              let s : (z : Dtv) × Contains left (Sub z (of_exist (class w) u)) × (move other z ≡ move other (move class x)) =
              h.right (move class x) u (Contains-map (map_line (move class)) lines (Sub x (of_exist v u)) c) in
              let t : (z : Dtv) × Contains lines (Sub z (of_exist w u)) × (move class z ≡ s.0) = left_beneath s.0 (of_exist w u) s.1 in
              (t.0, t.1, moved_through s.0 x t.0 t.2 s.2);
          low = λ k u c. left_low k (of_exist w u)
              (h.low k u (Contains-map (map_line (move class)) lines (Low k (of_exist v u)) c));
          up = λ u k c. left_up (of_exist w u) k
              (h.up u k (Contains-map (map_line (move class)) lines (Up (of_exist v u) k) c));
        }

    pub through_refines : IsRefinement lines through
    through_refines = record { least = through_least; own = through_own; shaped = through_shaped; matched = through_matched }

    -- so no name is another's, where no refinement is coarser
    name_alone : (n : ℕ) → class n ≡ n → ((v w : ℕ) → through v ≡ through w → class v ≡ class w) → other n ≡ n
    name_alone n e widest =
        let f : class (other n) ≡ other n = stays_name n e in
        let g : through (other n) ≡ through n = ap other f ∙ r.own n ∙ sym (ap other e) in
        sym f ∙ widest (other n) n g ∙ e

pub refined_rest_lem : RefinedRestLaw
refined_rest_lem lines class other c r n = by (r.shaped n)
  where
    by : (other n ≡ n) ⊎ ((order : Below) → Derivable order (refined class lines) (Same (exist n) (exist (other n)))) → other n ≡ n
    by (inl e) = e
    by (inr d) =
        let none : Below = record { count = 0; cells = [] } in
        name_alone lines class c.refines other r n
        (is_name lines class c.refines none n
        (side none (refined class lines) (Same (exist n) (exist (other n))) (exist n) (d none) (inl refl)))
        (c.widest (λ k. other (class k)) (through_refines lines class c.refines other r))

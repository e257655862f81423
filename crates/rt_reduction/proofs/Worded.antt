-- The lines of the shape derive what the lines derive of variables of kept bases and their shapes.
use Rattle.std.proofs.Common.{◌≡◌, ◌≢◌, ℕ, ◌⊎◌, inl, inr, List, [], ◌∷◌, ◌++◌, Contains, Bool, true, false, cond, refl, sym, ap, subst, ◌∙◌}
use Rattle.rt_lines.specs.declared.label.Label.{Label}
use Rattle.rt_lines.specs.declared.label.Label.TheVariants.{Load, Store}
use Rattle.rt_lines.specs.declared.variable.Base.{Base}
use Rattle.rt_lines.specs.declared.variable.Base.TheVariants.{Proc, Global, Exist, Outer}
use Rattle.rt_lines.specs.declared.variable.Dtv.{Dtv}
use Rattle.rt_lines.specs.declared.line.Line.{Line}
use Rattle.rt_lines.specs.declared.line.Line.TheVariants.{Var as VarLine, Same, Sub}
use Rattle.rt_lines.specs.Equality.{variable_eq}
use Rattle.rt_lines.specs.Orders.{Below}
use Rattle.rt_lines.proofs.Equal.{variable_equal}
use Rattle.rt_rules.specs.Rules.{longer, extended, HasSide, Derivable}
use Rattle.rt_rules.specs.Rules.Derivable.{named, prefix, same_letter, same_line, same_self, same_back, same_chain, same_longer}
use Rattle.rt_rules.specs.Laws.{NamesBase}
use Rattle.rt_rules.proofs.Carry.{given, are_there, side}
use Rattle.rt_rules.proofs.Covering.{front}
use Rattle.rt_bridge.specs.Growing.{Var, at, dot, dv, vd}
use Rattle.rt_bridge.proofs.Growing.{vd-dv}
use Rattle.rt_bridge.proofs.Trees.{Fact, V, E, S, Lo, Hi, Tree, tree}
use Rattle.rt_bridge.proofs.Trees.Tree.{e1, e2, e3a, e3b, e4, q0, q1, q2, q3, q4, q5, s1, s2, s3, s4, s5, s6, c1l, c1u, c2, c3}
use Rattle.rt_reduction.specs.Before.{level}
use Rattle.rt_reduction.specs.Emits.{IsOfScheme, AreOfScheme, IsKept, IsOfKept, IsWord, IsWritten, of_base, of_letter, shape_line}
use Rattle.rt_reduction.specs.Emits.{AreShapeLines}
use Rattle.rt_reduction.proofs.Before.{one_first}

pub not_empty : (w : List Label) (l : Label) → w ++ l ∷ [] ≢ []
not_empty [] l e = cc
not_empty (m ∷ w) l e = cc

-- a variable is a procedure itself, or isn't
bare_cases : (x : Var) → ((n : ℕ) × (x ≡ at (Proc n))) ⊎ ((n : ℕ) → (dv x).base ≡ Proc n → (dv x).word ≢ [])
bare_cases (at (Proc n)) = inl (n, refl)
bare_cases (at (Global n)) = inr (λ m e. absurd (cc))
bare_cases (at (Exist n)) = inr (λ m e. absurd (cc))
bare_cases (at (Outer n)) = inr (λ m e. absurd (cc))
bare_cases (dot x l) = inr (λ m e. not_empty (dv x).word l)

pub level_none : (b : Base) → level b [] ≡ 0
level_none (Proc n) = refl
level_none (Global n) = refl
level_none (Exist n) = refl
level_none (Outer n) = refl

at_not_dot : (b : Base) (x : Var) (l : Label) → dot x l ≡ at b → ⊥
at_not_dot b x l e = cc

module _ (order : Below) (lines : List Line) (scheme : AreOfScheme lines) where
  abbrev L : Line → Type 0
  L j = Derivable order lines j

  -- a procedure itself has no other variable's shape
  module _ (n : ℕ) where
    abbrev bare : Var
    bare = at (Proc n)

    abbrev AreOne : Fact → Type 0
    AreOne (V x) = Unit {0}
    AreOne (E x y) = (x ≡ bare → y ≡ bare) × (y ≡ bare → x ≡ bare)
    AreOne (S x y) = (x ≡ bare → y ≡ bare) × (y ≡ bare → x ≡ bare)
    AreOne (Lo k x) = Unit {0}
    AreOne (Hi x k) = Unit {0}

    no_bare : (l : Line) (x : Var) → Contains lines l → HasSide l (dv x) → x ≡ bare → ⊥
    no_bare l x c h e = scheme l (dv bare) c (subst (λ z. HasSide l (dv z)) e h) refl

    dots : (x y : Var) (l m : Label) → (dot x l ≡ bare → dot y m ≡ bare) × (dot y m ≡ bare → dot x l ≡ bare)
    dots x y l m = (λ e. absurd (at_not_dot (Proc n) x l e), λ e. absurd (at_not_dot (Proc n) y m e))

    are_one : {f : Fact} → Tree order lines f → AreOne f
    are_one (e1 l c h) = tt
    are_one (e2 l d) = tt
    are_one (e3a d) = tt
    are_one (e3b d) = tt
    are_one (e4 l d e) = tt
    are_one (q0 {x} {y} c) = (
      λ e. absurd (no_bare (Same (dv x) (dv y)) x c (inl refl) e),
      λ e. absurd (no_bare (Same (dv x) (dv y)) y c (inr refl) e),
    )
    are_one (q1 d) = are_one d
    are_one (q2 d) = (λ e. e, λ e. e)
    are_one (q3 d) = ((are_one d).1, (are_one d).0)
    are_one (q4 d e) = (λ h. (are_one e).0 ((are_one d).0 h), λ h. (are_one d).1 ((are_one e).1 h))
    are_one (q5 {x} {y} l d e) = dots x y l l
    are_one (s1 {x} {y} c) = (
      λ e. absurd (no_bare (Sub (dv x) (dv y)) x c (inl refl) e),
      λ e. absurd (no_bare (Sub (dv x) (dv y)) y c (inr refl) e),
    )
    are_one (s2 d) = (λ e. e, λ e. e)
    are_one (s3 d e) = (λ h. (are_one e).0 ((are_one d).0 h), λ h. (are_one d).1 ((are_one e).1 h))
    are_one (s4 {x} {y} l d e h) = dots x y l l
    are_one (s5 {x} {y} l d e h) = dots y x l l
    are_one (s6 {x} d e) = dots x x Store Load
    are_one (c1l c) = tt
    are_one (c1u c) = tt
    are_one (c2 d e a) = tt
    are_one (c3 d e a) = tt

    pub bare_alone : (x y : Var) → L (Same (dv x) (dv y)) → x ≡ bare → y ≡ bare
    bare_alone x y d e = (are_one (subst (λ z. Tree order lines (E x z)) (vd-dv y)
        (subst (λ z. Tree order lines (E z (vd (dv y)))) (vd-dv x) (tree order lines d)))).0 e

  -- all that is known of the lines that are written is that those of the shape are among them
  module _ (shape written : List Line) (are : AreShapeLines order lines shape) (has : (l : Line) → Contains shape l →
      Contains written l) where
    abbrev W : Line → Type 0
    W j = Derivable order written j

    shape_derives : (x u : Dtv) → IsWritten order lines x → IsWord order lines u → L (Same x u) → W (Same x u)
    shape_derives x u is_written is_word one = by (variable_eq x u) refl
        (has (shape_line order lines x u) ((are.each (shape_line order lines x u)).1 (record {
          variable = x;
          word = u;
          written = is_written;
          is_word = is_word;
          one_shape = one;
          line = refl;
        })))
      where
        by : (t : Bool) → variable_eq x u ≡ t → Contains written (cond t (VarLine x) (Same x u)) → W (Same x u)
        by true e c = subst (λ z. W (Same x z)) (variable_equal x u e) (same_self (given order written (VarLine x) c))
        by false e c = same_line c

    -- the word of a variable's shape, and that the lines that are written say so
    record IsWorded (x : Dtv) : Type 0 where
      word : Dtv
      is_word : IsWord order lines word
      same : L (Same x word)
      derived : W (Same x word)

    abbrev HasNoBare : Dtv → Type 0
    HasNoBare x = (n : ℕ) → x.base ≡ Proc n → x.word ≢ []

    of_kept : (x : Dtv) → IsKept order lines x.base → HasNoBare x → L (VarLine x) → IsOfKept order lines x
    of_kept x kept lettered there = record { kept = kept; there = there; no_procedure = lettered }

    first_worded : (x : Dtv) → IsOfKept order lines x → level x.base x.word ≡ 0 → IsWorded x
    first_worded x is_of none =
        let w : (u : Dtv) × IsWord order lines u × L (Same x u) = are.worded x is_of in
        record { word = w.0; is_word = w.1; same = w.2; derived = shape_derives x w.0 (of_base x is_of none) w.1 w.2 }

    next_worded : (x : Dtv) (l : Label) → IsWorded x → L (VarLine (longer x l)) → IsWorded (longer x l)
    next_worded x l r there =
        let next : L (VarLine (longer r.word l)) = same_letter l r.same there in
        let is_of : IsOfKept order lines (longer r.word l) =
        of_kept (longer r.word l) r.is_word.is_of.kept (λ n e. not_empty r.word.word l) next in
        let w : (u : Dtv) × IsWord order lines u × L (Same (longer r.word l) u) = are.worded (longer r.word l) is_of in
        let said : W (Same (longer r.word l) w.0) = shape_derives (longer r.word l) w.0 (of_letter r.word l r.is_word next) w.1 w.2 in
        let back : W (Same (longer r.word l) (longer x l)) =
        same_longer l (same_back r.derived) (side order written (Same (longer r.word l) w.0) (longer r.word l) said (inl refl)) in
        record { word = w.0; is_word = w.1; same = same_chain (same_longer l r.same there) w.2; derived = same_chain (same_back back) said }

    -- each variable of a kept base that is no procedure itself has a word
    worded : (x : Var) → IsKept order lines (dv x).base → HasNoBare (dv x) → L (VarLine (dv x)) → IsWorded (dv x)
    worded (at b) kept lettered there = first_worded (dv (at b)) (of_kept (dv (at b)) kept lettered there) (level_none b)
    worded (dot x l) kept lettered there = by (bare_cases x) (λ lettered'. worded x kept lettered' (prefix l there))
      where
        by : ((n : ℕ) × (x ≡ at (Proc n))) ⊎ HasNoBare (dv x) → (HasNoBare (dv x) → IsWorded (dv x)) → IsWorded (dv (dot x l))
        by (inl (n, e)) rest = first_worded (dv (dot x l)) (of_kept (dv (dot x l)) kept lettered there)
            (ap (λ z. level (dv z).base ((dv z).word ++ l ∷ [])) e)
        by (inr lettered') rest = next_worded (dv x) l (rest lettered') there

    one_word : (u w : Dtv) → IsWord order lines u → IsWord order lines w → L (Same u w) → u ≡ w
    one_word u w a b d = one_first u w (b.first u a.is_of (same_back d)) (a.first w b.is_of d)

    -- a procedure itself is there, as one of its arguments or results is
    bare_there : (n : ℕ) → NamesBase lines (Proc n) → W (VarLine (dv (at (Proc n))))
    bare_there n (l, z, c, h, e) = by z.word refl
      where
        by : (w : List Label) → z.word ≡ w → W (VarLine (dv (at (Proc n))))
        by [] f = absurd (subst (λ b. IsOfScheme b z.word) e (scheme l z c h) f)
        by (m ∷ w) f =
            let same : z ≡ extended (dv (dot (at (Proc n)) m)) w = λ i. record { base = e i; word = f i } in
            let there : L (VarLine (dv (dot (at (Proc n)) m))) =
            front order lines (dv (dot (at (Proc n)) m)) w (subst (λ y. L (VarLine y)) same (named l c h)) in
            let r : IsWorded (dv (dot (at (Proc n)) m)) = worded (dot (at (Proc n)) m) (l, z, c, h, e) (λ k g. not_empty [] m) there in
            prefix m (side order written (Same (dv (dot (at (Proc n)) m)) r.word) (dv (dot (at (Proc n)) m)) r.derived (inl refl))

    -- where two variables of kept bases have one shape, the lines that are written say so
    pub one_class : (x y : Var) → IsKept order lines (dv x).base → IsKept order lines (dv y).base → L (Same (dv x) (dv y)) →
        W (Same (dv x) (dv y))
    one_class x y kept_x kept_y d = by (bare_cases x) (bare_cases y)
      where
        bare : (z : Var) (n : ℕ) → z ≡ at (Proc n) → IsKept order lines (dv z).base → W (Same (dv z) (dv z))
        bare z n e kept = subst (λ u. W (Same (dv u) (dv u))) (sym e)
            (same_self (bare_there n (subst (λ u. IsKept order lines (dv u).base) e kept)))

        by : ((n : ℕ) × (x ≡ at (Proc n))) ⊎ HasNoBare (dv x) → ((n : ℕ) × (y ≡ at (Proc n))) ⊎ HasNoBare (dv y) → W (Same (dv x) (dv y))
        by (inl (n, e)) o = subst (λ z. W (Same (dv x) (dv z))) (e ∙ sym (bare_alone n x y d e)) (bare x n e kept_x)
        by (inr lettered) (inl (n, e)) = subst (λ z. W (Same (dv z) (dv y))) (e ∙
            sym (bare_alone n y x (same_back d) e)) (bare y n e kept_y)
        by (inr lettered) (inr lettered') =
            let both : L (VarLine (dv x)) × L (VarLine (dv y)) = are_there order lines d in
            let a : IsWorded (dv x) = worded x kept_x lettered both.0 in
            let b : IsWorded (dv y) = worded y kept_y lettered' both.1 in
            let one : a.word ≡ b.word = one_word a.word b.word a.is_word b.is_word (same_chain (same_back a.same) (same_chain d b.same)) in
            same_chain a.derived (subst (λ u. W (Same u (dv y))) (sym one) (same_back b.derived))

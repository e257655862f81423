-- What is emitted: alike, one answer, and each existential of it is used and joined.
use Rattle.std.proofs.Common.{◌≡◌, ◌≢◌, ℕ, ◌⊎◌, inl, inr, List, [], ◌∷◌, ◌++◌, All, Contains, Bool, true, false, cond, refl, sym, ap}
use Rattle.std.proofs.Common.{subst, ◌∙◌}
use Rattle.std.proofs.lemmas.List.Elements.{Contains-append_cases, Contains-append_left, Contains-append_right, All-contains}
use Rattle.rt_lines.specs.declared.label.Label.{Label}
use Rattle.rt_lines.specs.declared.label.Variance.{Variance}
use Rattle.rt_lines.specs.declared.label.Variance.TheVariants.{Co, Contra}
use Rattle.rt_lines.specs.declared.variable.Base.{Base}
use Rattle.rt_lines.specs.declared.variable.Base.TheVariants.{Proc, Global, Exist, Outer}
use Rattle.rt_lines.specs.declared.variable.Dtv.{Dtv}
use Rattle.rt_lines.specs.declared.line.Line.{Line}
use Rattle.rt_lines.specs.declared.line.Line.TheVariants.{Var as VarLine, Same, Sub, Low, Up}
use Rattle.rt_lines.specs.declared.line.Judge.{Judge}
use Rattle.rt_lines.specs.declared.line.Judge.TheVariants.{Var as JudgeVar, Sub as JudgeSub, Low as JudgeLow, Up as JudgeUp}
use Rattle.rt_lines.specs.Equality.{variable_eq}
use Rattle.rt_lines.specs.Orders.{Below}
use Rattle.rt_rules.specs.Rules.{HasSide, Derivable, line_of}
use Rattle.rt_rules.specs.Alike.{IsOutside, Alike}
use Rattle.rt_rules.specs.Laws.{NamesBase}
use Rattle.rt_rules.specs.Put.{HasUse}
use Rattle.rt_rules.proofs.Carry.{given, are_there}
use Rattle.rt_rules.proofs.Covering.{covers_lines, Alike-trans}
use Rattle.rt_polar.specs.Tidied.{tidied}
use Rattle.rt_bridge.specs.Growing.{Var, dv, vd}
use Rattle.rt_bridge.proofs.Growing.{vd-dv, dv-vd}
use Rattle.rt_bridge.proofs.Trees.{V, E, Tree, tree, derivation}
use Rattle.rt_reduction.specs.Before.{comes_before}
use Rattle.rt_reduction.specs.Emits.{IsOfScheme, AreOfScheme, is_flow, flow_lines, IsKept, IsWritten, of_base, of_letter, IsShapeLine}
use Rattle.rt_reduction.specs.Emits.{first_side, AreShapeLines, IsFixed, IsAnchored, AreJoined, IsEmitted}
use Rattle.rt_reduction.specs.Laws.{HasNoSelf, EmitsAlikeLaw, EmitsOfSchemeLaw, OneEmitLaw, EmitsUsedLaw, EmitsJoinedLaw, EmitsNoSelfLaw}
use Rattle.rt_reduction.proofs.Before.{not_before_self, before_chain}
use Rattle.rt_reduction.proofs.Merging.{variable_itself, cond_same, tidied_no_self}
use Rattle.rt_reduction.proofs.Flow.{filter_source, flow_source, flow_has, sub_flow, kept_side}
use Rattle.rt_reduction.proofs.Worded.{one_class}
use Rattle.rt_reduction.proofs.Interpolating.{root, shown_var, under}
use Rattle.rt_reduction.proofs.Anchoring.{keep_source, one_keep, side_reached, stays_reached, chain_stays, Alike-joined}
use Rattle.rt_reduction.proofs.Ascending.{one_list}
use Rattle.rt_reduction.proofs.Naming.{are_named}
use Rattle.rt_reduction.proofs.FromSides.{IsSideOf, IsFrom, AreFrom, from_side, from_chain, from_fewer, from_scheme}

-- a use is of a side
pub use_side : (sign : Variance) (n : ℕ) (l : Line) → HasUse sign n l → (x : Dtv) × HasSide l x × (x.base ≡ Exist n)
use_side sign n (VarLine x) h = absurd h
use_side sign n (Same x y) h = absurd h
use_side sign n (Sub x y) (inl (e, f)) = (x, inl refl, e)
use_side sign n (Sub x y) (inr (e, f)) = (y, inr refl, e)
use_side sign n (Low k x) (e, f) = (x, refl, e)
use_side sign n (Up x k) (e, f) = (x, refl, e)

module _ (order : Below) (lines shape : List Line) (are : AreShapeLines order lines shape) where
  abbrev Kept : Base → Type 0
  Kept b = IsKept order lines b

  abbrev all : List Line
  all = flow_lines lines ++ shape

  shape_of : (l : Line) → Contains shape l → IsShapeLine order lines l
  shape_of l c = (are.each l).0 c

  written_kept : {x : Dtv} → IsWritten order lines x → Kept x.base
  written_kept (of_base x is_of none) = is_of.kept
  written_kept (of_letter x l is_word there) = is_word.is_of.kept

  -- a side of a line of the shape is the variable or its word
  shape_side : (v w : Dtv) (t : Bool) (x : Dtv) → HasSide (cond t (VarLine v) (Same v w)) x → (v ≡ x) ⊎ (w ≡ x)
  shape_side v w true x h = inl h
  shape_side v w false x h = h

  kept_shape : (l : Line) (x : Dtv) → Contains shape l → HasSide l x → Kept x.base
  kept_shape l x c h =
      let s : IsShapeLine order lines l = shape_of l c in
      by s (shape_side s.variable s.word (variable_eq s.variable s.word) x (subst (λ k. HasSide k x) s.line h))
    where
      by : (s : IsShapeLine order lines l) → (s.variable ≡ x) ⊎ (s.word ≡ x) → Kept x.base
      by s (inl e) = subst (λ z. Kept z.base) e (written_kept s.written)
      by s (inr e) = subst (λ z. Kept z.base) e s.is_word.is_of.kept

  shape_derivable : (v w : Dtv) (t : Bool) → Derivable order lines (Same v w) → Derivable order lines (cond t (VarLine v) (Same v w))
  shape_derivable v w true d = (are_there order lines d).0
  shape_derivable v w false d = d

  line_derivable : (l : Line) → Contains (flow_lines lines) l ⊎ Contains shape l → Derivable order lines l
  line_derivable l (inl c) = given order lines l (flow_source lines l c).0
  line_derivable l (inr c) =
      let s : IsShapeLine order lines l = shape_of l c in
      subst (Derivable order lines) (sym s.line) (shape_derivable s.variable s.word (variable_eq s.variable s.word) s.one_shape)

  not_empty : (w : List Label) (l : Label) → w ++ l ∷ [] ≢ []
  not_empty [] l e = cc
  not_empty (m ∷ w) l e = cc

  written_lettered : {x : Dtv} → IsWritten order lines x → (n : ℕ) → x.base ≡ Proc n → x.word ≢ []
  written_lettered (of_base x is_of none) = is_of.no_procedure
  written_lettered (of_letter x l is_word there) = λ n e. not_empty x.word l

  -- each variable of the shape is an existential's, or of the base of a side of the lines
  from_kept : (b : Base) (w : List Label) → Kept b → ((n : ℕ) → b ≡ Proc n → w ≢ []) → IsFrom lines (record { base = b; word = w })
  from_kept (Exist n) w kept lettered = inl (n, refl)
  from_kept (Global n) w (k, y, d, g, f) lettered = inr (y, (k, d, g), sym f, λ m e. absurd (cc))
  from_kept (Proc n) w (k, y, d, g, f) lettered = inr (y, (k, d, g), sym f, λ m e h. lettered m e)
  from_kept (Outer n) w kept lettered = absurd kept

  from_shape : (l : Line) (x : Dtv) → Contains shape l → HasSide l x → IsFrom lines x
  from_shape l x c h = let s : IsShapeLine order lines l = shape_of l c in
      by s (shape_side s.variable s.word (variable_eq s.variable s.word) x (subst (λ k. HasSide k x) s.line h))
    where
      by : (s : IsShapeLine order lines l) → (s.variable ≡ x) ⊎ (s.word ≡ x) → IsFrom lines x
      by s (inl e) = subst (IsFrom lines) e (from_kept s.variable.base s.variable.word (written_kept s.written)
          (written_lettered s.written))
      by s (inr e) = subst (IsFrom lines) e (from_kept s.word.base s.word.word s.is_word.is_of.kept s.is_word.is_of.no_procedure)

  from_all : AreFrom lines all
  from_all x (l, c, h) = by (Contains-append_cases (flow_lines lines) shape l c)
    where
      by : Contains (flow_lines lines) l ⊎ Contains shape l → IsFrom lines x
      by (inl d) = from_side lines x (l, (flow_source lines l d).0, h)
      by (inr d) = from_shape l x d h

  -- no line puts a variable beside itself
  all_no_self : HasNoSelf all
  all_no_self x = (
    λ c. sub (Contains-append_cases (flow_lines lines) shape (Sub x x) c),
    λ c. same (Contains-append_cases (flow_lines lines) shape (Same x x) c),
  )
    where
      no_sub : (v w : Dtv) (t : Bool) → Sub x x ≡ cond t (VarLine v) (Same v w) → ⊥
      no_sub v w true e = cc
      no_sub v w false e = cc

      sub : Contains (flow_lines lines) (Sub x x) ⊎ Contains shape (Sub x x) → ⊥
      sub (inl c) = (tidied_no_self lines x).0 (filter_source is_flow (tidied lines) (Sub x x) c).0
      sub (inr c) = let s : IsShapeLine order lines (Sub x x) = shape_of (Sub x x) c in
          no_sub s.variable s.word (variable_eq s.variable s.word) s.line

      no_same : (v w : Dtv) → Same x x ≡ cond (variable_eq v w) (VarLine v) (Same v w) → ⊥
      no_same v w e =
          let p : (variable_eq v w ≡ false) × (Same v w ≡ Same x x) = cond_same (variable_eq v w) v x (Same v w) (sym e) in
          let f : Same v w ≡ Same x x = p.1 in
          let g : v ≡ x = cc in
          let h : w ≡ x = cc in
          let k : variable_eq v w ≡ true = variable_itself v w (g ∙ sym h) in
          let m : variable_eq v w ≡ false = p.0 in
          cc

      same : Contains (flow_lines lines) (Same x x) ⊎ Contains shape (Same x x) → ⊥
      same (inl c) = let h : is_flow (Same x x) ≡ true = (flow_source lines (Same x x) c).1 in cc
      same (inr c) = let s : IsShapeLine order lines (Same x x) = shape_of (Same x x) c in no_same s.variable s.word s.line

  module _ (scheme : AreOfScheme lines) where
    kept_all : (l : Line) (x : Dtv) → Contains all l → HasSide l x → Kept x.base
    kept_all l x c h = by (Contains-append_cases (flow_lines lines) shape l c)
      where
        by : Contains (flow_lines lines) l ⊎ Contains shape l → Kept x.base
        by (inl d) = kept_side order lines scheme l x d h
        by (inr d) = kept_shape l x d h

    module _ (inside : Base → Bool) (inner : (n : ℕ) → inside (Exist n) ≡ true) where
      -- a base of the outside that is named is kept
      outer_kept : (b : Base) → inside b ≡ false → NamesBase lines b → Kept b
      outer_kept (Exist n) e names = let f : inside (Exist n) ≡ true = inner n in absurd (cc)
      outer_kept (Global n) e names = names
      outer_kept (Proc n) e names = names
      outer_kept (Outer n) e (l, x, c, h, f) = absurd (subst (λ b. IsOfScheme b x.word) f (scheme l x c h))

      outer_fixed : (b : Base) → inside b ≡ false → Kept b → IsFixed b
      outer_fixed (Exist n) e kept = let f : inside (Exist n) ≡ true = inner n in absurd (cc)
      outer_fixed (Global n) e kept = tt
      outer_fixed (Proc n) e kept = tt
      outer_fixed (Outer n) e kept = absurd kept

      abbrev Shows : Base → Type 0
      Shows b = (inside b ≡ false) ⊎ Kept b

      module _ (added : List Line) (outer : All (IsOutside inside) added) where
        abbrev written : List Line
        written = all ++ added

        stays : (l : Line) → Contains added l → Contains written l
        stays l c = Contains-append_right all added l c

        flow_written : (l : Line) → Contains (flow_lines lines) l → Contains written l
        flow_written l c = Contains-append_left all added l (Contains-append_left (flow_lines lines) shape l c)

        shape_written : (l : Line) → Contains shape l → Contains written l
        shape_written l c = Contains-append_left all added l (Contains-append_right (flow_lines lines) shape l c)

        keeps : (x : Var) → Shows (root x) → Tree order lines (V x) → Kept (root x)
        keeps x (inl e) d = outer_kept (root x) e (are_named order lines d)
        keeps x (inr k) d = k

        class : (x y : Var) → Kept (root x) → Kept (root y) → Tree order lines (E x y) → Tree order written (E x y)
        class x y k m d =
            let e : Derivable order written (Same (dv x) (dv y)) =
            one_class order lines scheme shape written are shape_written x y k m (derivation order lines d) in
            subst (λ z. Tree order written (E x z)) (vd-dv y)
            (subst (λ z. Tree order written (E z (vd (dv y)))) (vd-dv x) (tree order written e))

        outside : (l : Line) (x : Var) → Contains added l → HasSide l (dv x) → Shows (root x)
        outside l x c h = inl (All-contains (IsOutside inside) added l outer c (dv x) h)

        sub_line : (x y : Var) → Contains lines (Sub (dv x) (dv y)) → (x ≡ y) ⊎
            (Shows (root x) × Shows (root y) × Contains written (Sub (dv x) (dv y)))
        sub_line x y c = by (sub_flow lines (dv x) (dv y) c)
          where
            by : (dv x ≡ dv y) ⊎ Contains (flow_lines lines) (Sub (dv x) (dv y)) → (x ≡ y) ⊎
                (Shows (root x) × Shows (root y) × Contains written (Sub (dv x) (dv y)))
            by (inl e) = inl (sym (vd-dv x) ∙ ap vd e ∙ vd-dv y)
            by (inr d) = inr (
              inr (kept_side order lines scheme (Sub (dv x) (dv y)) (dv x) d (inl refl)),
              inr (kept_side order lines scheme (Sub (dv x) (dv y)) (dv y) d (inr refl)),
              flow_written (Sub (dv x) (dv y)) d,
            )

        low : (k : ℕ) (x : Var) → Contains lines (Low k (dv x)) → Contains written (Low k (dv x))
        low k x c = flow_written (Low k (dv x)) (flow_has lines (Low k (dv x)) c refl refl)

        high : (k : ℕ) (x : Var) → Contains lines (Up (dv x) k) → Contains written (Up (dv x) k)
        high k x c = flow_written (Up (dv x) k) (flow_has lines (Up (dv x) k) c refl refl)

        shows : (x : Dtv) → inside x.base ≡ false → Shows (root (vd x))
        shows x e = inl (subst (λ z. inside z.base ≡ false) (sym (dv-vd x)) e)

        derives : (j : Judge) → IsOutside inside (line_of j) → Derivable order (lines ++ added) (line_of j) →
            Derivable order written (line_of j)
        derives (JudgeVar x) out d =
            subst (λ z. Derivable order written (VarLine z)) (dv-vd x)
            (derivation order written (shown_var order lines added written Shows Kept keeps class stays outside (vd x)
            (shows x (out x refl)) (tree order (lines ++ added) d)))
        derives (JudgeSub x y) out d =
            subst (λ z. Derivable order written (Sub x z)) (dv-vd y) (subst (λ z. Derivable order written (Sub z (dv (vd y)))) (dv-vd x)
            (derivation order written (under order lines added written Shows Kept keeps class stays outside sub_line low high
            (tree order (lines ++ added) d) (shows x (out x (inl refl))))))
        derives (JudgeLow k x) out d =
            subst (λ z. Derivable order written (Low k z)) (dv-vd x)
            (derivation order written (under order lines added written Shows Kept keeps class stays outside sub_line low high
            (tree order (lines ++ added) d) (shows x (out x refl))))
        derives (JudgeUp x k) out d =
            subst (λ z. Derivable order written (Up z k)) (dv-vd x)
            (derivation order written (under order lines added written Shows Kept keeps class stays outside sub_line low high
            (tree order (lines ++ added) d) (shows x (out x refl))))

      Alike-all : Alike order inside lines all
      Alike-all = (
        λ added j outer out d. derives added outer j out d,
        covers_lines order inside all lines (λ l c. line_derivable l (Contains-append_cases (flow_lines lines) shape l c)),
      )

      emitted_alike : (emitted : List Line) → AreJoined all emitted → Alike order inside lines emitted
      emitted_alike emitted joined =
          Alike-trans order inside lines all emitted Alike-all
          (Alike-joined all emitted joined order inside (λ l x c h e. outer_fixed x.base e (kept_all l x c h)))

  module _ (emitted : List Line) (joined : AreJoined all emitted) where
    abbrev IsReached : Line → Type 0
    IsReached l = IsAnchored all (first_side l).base

    source : (l : Line) → Contains emitted l → Contains all l × IsReached l
    source l c = keep_source IsReached joined l c

    named_reached : (n : ℕ) → NamesBase emitted (Exist n) → IsAnchored all (Exist n)
    named_reached n (k, x, c, h, e) =
        let s : Contains all k × IsReached k = source k c in
        subst (IsAnchored all) e (side_reached all k x s.0 h s.1)

    joined_names : (n : ℕ) → NamesBase emitted (Exist n) → IsAnchored emitted (Exist n)
    joined_names n names = let r : IsAnchored all (Exist n) = named_reached n names in (r.0, r.1, chain_stays all emitted joined r.1 r.2)

    stays_used : (n : ℕ) → NamesBase emitted (Exist n) → (l : Line) → Contains (flow_lines lines) l →
        (x : Dtv) × HasSide l x × (x.base ≡ Exist n) → Contains emitted l
    stays_used n names l c (x, h, e) =
        stays_reached all emitted joined l x (Contains-append_left (flow_lines lines) shape l c) h
        (subst (IsAnchored all) (sym e) (named_reached n names))

    used_names : AreOfScheme lines → (n : ℕ) → NamesBase emitted (Exist n) →
        (l : Line) × Contains emitted l × (HasUse Co n l ⊎ HasUse Contra n l)
    used_names scheme n (k, x, c, h, e) = by (subst Kept e (kept_all scheme k x (source k c).0 h))
      where
        by : Kept (Exist n) → (l : Line) × Contains emitted l × (HasUse Co n l ⊎ HasUse Contra n l)
        by (l, d, inl u) = (l, stays_used n (k, x, c, h, e) l d (use_side Co n l u), inl u)
        by (l, d, inr u) = (l, stays_used n (k, x, c, h, e) l d (use_side Contra n l u), inr u)

    emitted_no_self : HasNoSelf emitted
    emitted_no_self x = (λ c. (all_no_self x).0 (source (Sub x x) c).0, λ c. (all_no_self x).1 (source (Same x x) c).0)

    emitted_from : AreFrom lines emitted
    emitted_from = from_chain lines all emitted from_all (from_fewer all emitted (λ l c. (source l c).0))

pub emits_alike_lem : EmitsAlikeLaw
emits_alike_lem order inside lines emitted inner scheme e = emitted_alike order lines e.shape e.are_shape scheme inside inner emitted
    e.joined

-- sides of what is emitted come from sides of the lines
pub from_emitted : (order : Below) (lines emitted : List Line) → IsEmitted order lines emitted → AreFrom lines emitted
from_emitted order lines emitted e = emitted_from order lines e.shape e.are_shape emitted e.joined

pub emits_of_scheme_lem : EmitsOfSchemeLaw
emits_of_scheme_lem order lines emitted scheme e = from_scheme lines emitted (from_emitted order lines emitted e) scheme

pub emits_used_lem : EmitsUsedLaw
emits_used_lem order lines emitted scheme e n names = used_names order lines e.shape e.are_shape emitted e.joined scheme n names

pub emits_joined_lem : EmitsJoinedLaw
emits_joined_lem order lines emitted e n names = joined_names order lines e.shape e.are_shape emitted e.joined n names

pub emits_no_self_lem : EmitsNoSelfLaw
emits_no_self_lem order lines emitted e = emitted_no_self order lines e.shape e.are_shape emitted e.joined

-- there is one list of shape lines
abbrev IsLess : Line → Line → Type 0
IsLess a b = comes_before (first_side a) (first_side b) ≡ true

one_shape : (order : Below) (lines first second : List Line) → AreShapeLines order lines first → AreShapeLines order lines second →
    first ≡ second
one_shape order lines first second a b =
    one_list IsLess (λ x y z e f. before_chain (first_side x) (first_side y) (first_side z) e f) (λ x e. not_before_self (first_side x) e)
    first second a.ascending b.ascending
    (λ l c. (b.each l).1 ((a.each l).0 c)) (λ l c. (a.each l).1 ((b.each l).0 c))

pub one_emit_lem : OneEmitLaw
one_emit_lem order lines first second a b =
    let e : b.shape ≡ a.shape = one_shape order lines b.shape a.shape b.are_shape a.are_shape in
    one_keep (λ l. IsAnchored (flow_lines lines ++ a.shape) (first_side l).base) a.joined
    (subst (λ s. AreJoined (flow_lines lines ++ s) second) e b.joined)

-- a side of what is emitted is one of the lines, or has a kept base
pub emitted_base : (order : Below) (lines emitted : List Line) → IsEmitted order lines emitted → (x : Dtv) → IsSideOf emitted x →
    IsSideOf lines x ⊎ IsKept order lines x.base
emitted_base order lines emitted e x (l, c, h) =
    by (Contains-append_cases (flow_lines lines) e.shape l (source order lines e.shape e.are_shape emitted e.joined l c).0)
  where
    by : Contains (flow_lines lines) l ⊎ Contains e.shape l → IsSideOf lines x ⊎ IsKept order lines x.base
    by (inl d) = inl (l, (flow_source lines l d).0, h)
    by (inr d) = inr (kept_shape order lines e.shape e.are_shape l x d h)

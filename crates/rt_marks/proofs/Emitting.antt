-- What is emitted: the outside derives the same loosely.
use Rattle.std.proofs.Common.{◌≡◌, ℕ, ◌⊎◌, inl, inr, List, ◌++◌, All, Contains, Bool, true, false, cond, refl, sym}
use Rattle.std.proofs.Common.{subst}
use Rattle.std.proofs.lemmas.List.Elements.{Contains-append_cases, Contains-append_left, Contains-append_right, All-contains}
use Rattle.rt_lines.specs.declared.variable.Base.{Base}
use Rattle.rt_lines.specs.declared.variable.Base.TheVariants.{Proc, Global, Exist, Outer}
use Rattle.rt_lines.specs.declared.variable.Dtv.{Dtv}
use Rattle.rt_lines.specs.declared.line.Line.{Line}
use Rattle.rt_lines.specs.declared.line.Line.TheVariants.{Var as VarLine, Same, Sub, Low, Up}
use Rattle.rt_lines.specs.declared.line.Judge.{Judge}
use Rattle.rt_lines.specs.declared.line.Judge.TheVariants.{Var as JudgeVar, Sub as JudgeSub, Low as JudgeLow, Up as JudgeUp}
use Rattle.rt_lines.specs.Equality.{variable_eq}
use Rattle.rt_lines.specs.Orders.{Below}
use Rattle.rt_rules.specs.Rules.{HasSide, line_of}
use Rattle.rt_rules.specs.Rules.{Derivable}
use Rattle.rt_loose.specs.Loose.{Loosely}
use Rattle.rt_loose.specs.Loose.Loosely.{named, prefix, left_side, right_side, same_letter, same_line, same_sub, same_self, same_back, same_chain, same_longer, sub_line, sub_self, sub_chain, sub_co, sub_contra, sub_pointer, low_line, up_line, low_sub, up_sub, loose_pointer}
use Rattle.rt_loose.proofs.Loosely.{embed, strict_of}
use Rattle.rt_lines.specs.declared.label.Label.TheVariants.{Load, Store}
use Rattle.rt_rules.specs.Rules.{longer}
use Rattle.rt_rules.specs.Alike.{IsOutside}
use Rattle.rt_marks.specs.Outsides.{LooselyAlike}
use Rattle.rt_rules.specs.Laws.{NamesBase}
use Rattle.rt_rules.proofs.Carry.{given, are_there}
use Rattle.rt_marks.proofs.Covering.{covers_lines, loosely-trans}
use Rattle.rt_bridge.specs.Growing.{Var, dv, vd}
use Rattle.rt_bridge.proofs.Growing.{vd-dv, dv-vd}
use Rattle.rt_bridge.proofs.Trees.{V, E, Tree, tree, derivation}
use Rattle.rt_reduction.specs.Emits.{IsOfScheme, AreOfScheme, flow_lines, IsKept, IsWritten, of_base, of_letter, IsShapeLine}
use Rattle.rt_reduction.specs.Emits.{AreShapeLines, IsFixed, AreJoined}
use Rattle.rt_marks.specs.Laws.{EmitsAlikeLaw}
use Rattle.rt_reduction.proofs.Flow.{flow_source, flow_has, sub_flow, kept_side}
use Rattle.rt_reduction.proofs.Worded.{one_class}
use Rattle.rt_reduction.proofs.Interpolating.{root, shown_var}
use Rattle.rt_marks.proofs.Anchoring.{alike_joined}
use Rattle.rt_reduction.proofs.Naming.{are_named}

module _ (order : Below) (lines shape : List Line) (are : AreShapeLines order lines shape) where
  abbrev Kept : Base → Type 0
  Kept b = IsKept order lines b

  abbrev all : List Line
  all = flow_lines lines ++ shape

  shape_of : (l : Line) → Contains shape l → IsShapeLine order lines l
  shape_of l c = (are.each l).0 c

  written_kept : {x : Dtv} → IsWritten order lines x → Kept x.base
  written_kept (of_base x is_of none) = is_of.kept
  written_kept (of_letter x l is_word there) = is_word.is_of.kept

  -- a side of a line of the shape is the variable or its word
  shape_side : (v w : Dtv) (t : Bool) (x : Dtv) → HasSide (cond t (VarLine v) (Same v w)) x → (v ≡ x) ⊎ (w ≡ x)
  shape_side v w true x h = inl h
  shape_side v w false x h = h

  kept_shape : (l : Line) (x : Dtv) → Contains shape l → HasSide l x → Kept x.base
  kept_shape l x c h =
      let s : IsShapeLine order lines l = shape_of l c in
      by s (shape_side s.variable s.word (variable_eq s.variable s.word) x (subst (λ k. HasSide k x) s.line h))
    where
      by : (s : IsShapeLine order lines l) → (s.variable ≡ x) ⊎ (s.word ≡ x) → Kept x.base
      by s (inl e) = subst (λ z. Kept z.base) e (written_kept s.written)
      by s (inr e) = subst (λ z. Kept z.base) e s.is_word.is_of.kept

  shape_derivable : (v w : Dtv) (t : Bool) → Derivable order lines (Same v w) → Derivable order lines (cond t (VarLine v) (Same v w))
  shape_derivable v w true d = (are_there order lines d).0
  shape_derivable v w false d = d

  line_derivable : (l : Line) → Contains (flow_lines lines) l ⊎ Contains shape l → Derivable order lines l
  line_derivable l (inl c) = given order lines l (flow_source lines l c).0
  line_derivable l (inr c) =
      let s : IsShapeLine order lines l = shape_of l c in
      subst (Derivable order lines) (sym s.line) (shape_derivable s.variable s.word (variable_eq s.variable s.word) s.one_shape)

  module _ (scheme : AreOfScheme lines) where
    kept_all : (l : Line) (x : Dtv) → Contains all l → HasSide l x → Kept x.base
    kept_all l x c h = by (Contains-append_cases (flow_lines lines) shape l c)
      where
        by : Contains (flow_lines lines) l ⊎ Contains shape l → Kept x.base
        by (inl d) = kept_side order lines scheme l x d h
        by (inr d) = kept_shape l x d h

    module _ (inside : Base → Bool) (inner : (n : ℕ) → inside (Exist n) ≡ true) where
      -- a base of the outside that is named is kept
      outer_kept : (b : Base) → inside b ≡ false → NamesBase lines b → Kept b
      outer_kept (Exist n) e names = let f : inside (Exist n) ≡ true = inner n in absurd (cc)
      outer_kept (Global n) e names = names
      outer_kept (Proc n) e names = names
      outer_kept (Outer n) e (l, x, c, h, f) = absurd (subst (λ b. IsOfScheme b x.word) f (scheme l x c h))

      outer_fixed : (b : Base) → inside b ≡ false → Kept b → IsFixed b
      outer_fixed (Exist n) e kept = let f : inside (Exist n) ≡ true = inner n in absurd (cc)
      outer_fixed (Global n) e kept = tt
      outer_fixed (Proc n) e kept = tt
      outer_fixed (Outer n) e kept = absurd kept

      abbrev Shows : Base → Type 0
      Shows b = (inside b ≡ false) ⊎ Kept b

      module _ (added : List Line) (outer : All (IsOutside inside) added) where
        abbrev written : List Line
        written = all ++ added

        stays : (l : Line) → Contains added l → Contains written l
        stays l c = Contains-append_right all added l c

        flow_written : (l : Line) → Contains (flow_lines lines) l → Contains written l
        flow_written l c = Contains-append_left all added l (Contains-append_left (flow_lines lines) shape l c)

        shape_written : (l : Line) → Contains shape l → Contains written l
        shape_written l c = Contains-append_left all added l (Contains-append_right (flow_lines lines) shape l c)

        keeps : (x : Var) → Shows (root x) → Tree order lines (V x) → Kept (root x)
        keeps x (inl e) d = outer_kept (root x) e (are_named order lines d)
        keeps x (inr k) d = k

        class : (x y : Var) → Kept (root x) → Kept (root y) → Tree order lines (E x y) → Tree order written (E x y)
        class x y k m d =
            let e : Derivable order written (Same (dv x) (dv y)) =
            one_class order lines scheme shape written are shape_written x y k m (derivation order lines d) in
            subst (λ z. Tree order written (E x z)) (vd-dv y)
            (subst (λ z. Tree order written (E z (vd (dv y)))) (vd-dv x) (tree order written e))

        outside : (l : Line) (x : Var) → Contains added l → HasSide l (dv x) → Shows (root x)
        outside l x c h = inl (All-contains (IsOutside inside) added l outer c (dv x) h)

        -- what the lines derive of a variable that shows, those that are written derive
        there : (x : Dtv) → Shows x.base → Loosely order (lines ++ added) (VarLine x) → Loosely order written (VarLine x)
        there x h d =
            embed order written (subst (λ z. Derivable order written (VarLine z)) (dv-vd x)
            (derivation order written (shown_var order lines added written Shows Kept keeps class stays outside (vd x)
            (subst (λ z. Shows z.base) (sym (dv-vd x)) h) (tree order (lines ++ added) (strict_of order (lines ++ added) d)))))

        abbrev Both : Base → Base → Type 0
        Both a b = (Shows a → Shows b) × (Shows b → Shows a)

        -- a variable lies below others of its own base alone, if it doesn't show; of those that show the written lines derive it
        abbrev IsUnder : Line → Type 0
        IsUnder (VarLine x) = Unit {0}
        IsUnder (Same x y) = Unit {0}
        IsUnder (Sub x y) = Both x.base y.base × (Shows x.base → Loosely order written (Sub x y))
        IsUnder (Low k x) = Shows x.base → Loosely order written (Low k x)
        IsUnder (Up x k) = Shows x.base → Loosely order written (Up x k)

        outer_shows : (l : Line) (x : Dtv) → Contains added l → HasSide l x → Shows x.base
        outer_shows l x c h = inl (All-contains (IsOutside inside) added l outer c x h)

        sub_under : (x y : Dtv) → Contains lines (Sub x y) ⊎ Contains added (Sub x y) → Loosely order (lines ++ added) (VarLine x) → IsUnder (Sub x y)
        sub_under x y (inr c) d = (
          (λ h. outer_shows (Sub x y) y c (inr refl), λ h. outer_shows (Sub x y) x c (inl refl)),
          λ h. sub_line (stays (Sub x y) c),
        )
        sub_under x y (inl c) d = by (sub_flow lines x y c)
          where
            by : (x ≡ y) ⊎ Contains (flow_lines lines) (Sub x y) → IsUnder (Sub x y)
            by (inl e) = subst (λ z. IsUnder (Sub x z)) e ((λ h. h, λ h. h), λ h. sub_self (there x h d))
            by (inr f) = (
              (λ h. inr (kept_side order lines scheme (Sub x y) y f (inr refl)), λ h. inr (kept_side order lines scheme (Sub x y) x f (inl refl))),
              λ h. sub_line (flow_written (Sub x y) f),
            )

        low_under : (k : ℕ) (x : Dtv) → Contains lines (Low k x) ⊎ Contains added (Low k x) → Loosely order written (Low k x)
        low_under k x (inl c) = low_line (flow_written (Low k x) (flow_has lines (Low k x) c refl refl))
        low_under k x (inr c) = low_line (stays (Low k x) c)

        up_under : (x : Dtv) (k : ℕ) → Contains lines (Up x k) ⊎ Contains added (Up x k) → Loosely order written (Up x k)
        up_under x k (inl c) = up_line (flow_written (Up x k) (flow_has lines (Up x k) c refl refl))
        up_under x k (inr c) = up_line (stays (Up x k) c)

        under : {j : Line} → Loosely order (lines ++ added) j → IsUnder j
        under (named l c h) = tt
        under (prefix l d) = tt
        under (left_side d) = tt
        under (right_side d) = tt
        under (same_letter l d e) = tt
        under (same_line c) = tt
        under (same_sub d) = tt
        under (same_self d) = tt
        under (same_back d) = tt
        under (same_chain d e) = tt
        under (same_longer l d e) = tt
        under (sub_line {x = x} {y = y} c) =
            sub_under x y (Contains-append_cases lines added (Sub x y) c) (named (Sub x y) c (inl refl))
        under (sub_self {x = x} d) = ((λ h. h, λ h. h), λ h. sub_self (there x h d))
        under (sub_chain d e) = (
          (λ h. (under e).0.0 ((under d).0.0 h), λ h. (under d).0.1 ((under e).0.1 h)),
          λ h. sub_chain ((under d).1 h) ((under e).1 ((under d).0.0 h)),
        )
        under (sub_co {x = x} {y = y} l d e s) = (
          (under d).0,
          λ h. sub_co l ((under d).1 h) (there (longer y l) ((under d).0.0 h) e) s,
        )
        under (sub_contra {x = x} {y = y} l d e s) = (
          ((under d).0.1, (under d).0.0),
          λ h. sub_contra l ((under d).1 ((under d).0.1 h)) (there (longer y l) h e) s,
        )
        under (sub_pointer x d e) =
            ((λ h. h, λ h. h), λ h. sub_pointer x (there (longer x Load) h d) (there (longer x Store) h e))
        under (loose_pointer x d e) =
            ((λ h. h, λ h. h), λ h. loose_pointer x (there (longer x Load) h d) (there (longer x Store) h e))
        under (low_line {k = k} {x = x} c) = λ h. low_under k x (Contains-append_cases lines added (Low k x) c)
        under (up_line {k = k} {x = x} c) = λ h. up_under x k (Contains-append_cases lines added (Up x k) c)
        under (low_sub d e a) = λ h. low_sub (under d ((under e).0.1 h)) ((under e).1 ((under e).0.1 h)) a
        under (up_sub d e a) = λ h. up_sub ((under d).1 h) (under e ((under d).0.0 h)) a

        derives : (j : Judge) → IsOutside inside (line_of j) → Loosely order (lines ++ added) (line_of j) → Loosely order written (line_of j)
        derives (JudgeVar x) out d = there x (inl (out x refl)) d
        derives (JudgeSub x y) out d = (under d).1 (inl (out x (inl refl)))
        derives (JudgeLow k x) out d = under d (inl (out x refl))
        derives (JudgeUp x k) out d = under d (inl (out x refl))

      alike_all : LooselyAlike order inside lines all
      alike_all = (
        λ added j outer out d. derives added outer j out d,
        covers_lines order inside all lines (λ l c. embed order lines (line_derivable l (Contains-append_cases (flow_lines lines) shape l c))),
      )

      pub emitted_alike : (emitted : List Line) → AreJoined all emitted → LooselyAlike order inside lines emitted
      emitted_alike emitted joined =
          loosely-trans order inside lines all emitted alike_all
          (alike_joined all emitted joined order inside (λ l x c h e. outer_fixed x.base e (kept_all l x c h)))

pub emits_alike_lem : EmitsAlikeLaw
emits_alike_lem order inside lines emitted inner scheme is =
    emitted_alike order lines is.shape is.are_shape scheme inside inner emitted is.joined

-- What the settled form of lines keeps of them.
use Rattle.std.proofs.Common.{◌≡◌, ◌≢◌, ℕ, ◌⊎◌, inl, inr, List, [], ◌++◌, AllPairs, Contains, true, false, not, IsTrue, nat_eq}
use Rattle.std.proofs.Common.{refl, sym, ap, subst, ◌∙◌, append-nil, eq-eqb, eqb-true}
use Rattle.std.proofs.Common.{IfOk, Result}
use Rattle.std.proofs.lemmas.Result.{IfOk-weaker}
use Rattle.std.proofs.lemmas.Bool.{both_ways, and_parts, and_from}
use Rattle.std.proofs.lemmas.List.Elements.{All-contains, All-nil}
use Rattle.rt_base.proofs.Lists.{All-from_contains, Contains-map, Contains-map_source, list_all-at, list_all-from}
use Rattle.rt_lines.specs.declared.label.Label.{Label}
use Rattle.rt_lines.specs.declared.variable.Base.{Base}
use Rattle.rt_lines.specs.declared.variable.Base.TheVariants.{Proc, Global, Exist, Outer}
use Rattle.rt_lines.specs.declared.variable.Dtv.{Dtv}
use Rattle.rt_lines.specs.declared.line.Line.{Line}
use Rattle.rt_lines.specs.declared.line.Line.TheVariants.{Var, Same, Sub, Low, Up}
use Rattle.rt_lines.specs.declared.line.Judge.TheVariants.{Var as JudgeVar}
use Rattle.rt_lines.specs.Numbering.{existentials, numbered, placed}
use Rattle.rt_lines.specs.Orders.{Below}
use Rattle.rt_lines.specs.Sides.{sides}
use Rattle.rt_rules.specs.Rules.{HasSide, Derivable}
use Rattle.rt_rules.specs.Rules.Derivable.{named}
use Rattle.rt_rules.specs.Alike.{Alike, IsOutside, is_inside_for, map_line}
use Rattle.rt_rules.specs.Laws.{NamesBase, renamed}
use Rattle.rt_rules.specs.Reduced.{IsReduced}
use Rattle.rt_rules.proofs.Carry.{given, HasSide-map}
use Rattle.rt_rules.proofs.Covering.{exchange, Alike-trans}
use Rattle.rt_rules.proofs.LineSides.{Contains-sides, HasSide-in_sides, HasSide-map_line_source}
use Rattle.rt_rules.proofs.Numbers.{numbered-bases, numbering_lem}
use Rattle.rt_scheme.specs.Schemes.{is_interface, is_scheme_side, is_scheme_variable, is_scheme_line, AreSchemeLines}
use Rattle.rt_scheme.specs.Splitting.{is_interface_side, is_interface_variable, is_interface_line, AreInterfaceLines}
use Rattle.rt_reduction.specs.Emits.{AreOfScheme, IsOfScheme}
use Rattle.rt_reduction.specs.Rounds.{IsReducedForm}
use Rattle.rt_reduction.proofs.FromSides.{IsFrom}
use Rattle.rt_reduction.proofs.Renumbering.{numbered_reduced_lem}
use Rattle.rt_reduction.proofs.Reordering.{reordered_reduced_lem}
use Rattle.rt_reduction.proofs.Rounds.{form_alike_lem, form_reduced_lem, form_sides_lem, from_form}
use Rattle.rt_settle.specs.Chosen.{AreInOrder, IsSettled}
use Rattle.rt_settle.proofs.FirstLetters.{IsFitting, derived_fits}
use Rattle.rt_settle.proofs.InOrder.{once_by_cuts, sorted_has, sorted_once, sorted_source}

-- Sides of the lines of a scheme, and of those of several procedures.

scheme-side : (own : ℕ) (l : Line) (x : Dtv) → is_scheme_line own l ≡ true → HasSide l x → is_scheme_variable own x ≡ true
scheme-side own (Var y) x t e = subst (λ v. is_scheme_variable own v ≡ true) e t
scheme-side own (Same y z) x t (inl e) =
    subst (λ v. is_scheme_variable own v ≡ true) e (and_parts (is_scheme_variable own y) (is_scheme_variable own z) t).0
scheme-side own (Same y z) x t (inr e) =
    subst (λ v. is_scheme_variable own v ≡ true) e (and_parts (is_scheme_variable own y) (is_scheme_variable own z) t).1
scheme-side own (Sub y z) x t (inl e) =
    subst (λ v. is_scheme_variable own v ≡ true) e (and_parts (is_scheme_variable own y) (is_scheme_variable own z) t).0
scheme-side own (Sub y z) x t (inr e) =
    subst (λ v. is_scheme_variable own v ≡ true) e (and_parts (is_scheme_variable own y) (is_scheme_variable own z) t).1
scheme-side own (Low k y) x t e = subst (λ v. is_scheme_variable own v ≡ true) e t
scheme-side own (Up y k) x t e = subst (λ v. is_scheme_variable own v ≡ true) e t

scheme-line : (own : ℕ) (l : Line) → ((x : Dtv) → HasSide l x → is_scheme_variable own x ≡ true) → is_scheme_line own l ≡ true
scheme-line own (Var x) h = h x refl
scheme-line own (Same x y) h = and_from (is_scheme_variable own x) (is_scheme_variable own y) (h x (inl refl)) (h y (inr refl))
scheme-line own (Sub x y) h = and_from (is_scheme_variable own x) (is_scheme_variable own y) (h x (inl refl)) (h y (inr refl))
scheme-line own (Low k x) h = h x refl
scheme-line own (Up x k) h = h x refl

side_of_scheme : (own : ℕ) (lines : List Line) → AreSchemeLines own lines → (l : Line) (x : Dtv) → Contains lines l → HasSide l x →
    is_scheme_variable own x ≡ true
side_of_scheme own lines all l x c h = scheme-side own l x (All-contains (λ k. IsTrue (is_scheme_line own k)) lines l all c) h

side_of_interface : (lines : List Line) → AreInterfaceLines lines → (l : Line) (x : Dtv) → Contains lines l → HasSide l x →
    is_interface_variable x ≡ true
side_of_interface lines all l x c h =
    list_all-at is_interface_variable (sides l) x (All-contains (λ k. IsTrue (is_interface_line k)) lines l all c) (Contains-sides l x h)

interface_from_sides : (lines : List Line) → ((l : Line) (x : Dtv) → Contains lines l → HasSide l x → is_interface_variable x ≡ true) →
    AreInterfaceLines lines
interface_from_sides lines fits =
    All-from_contains (λ l. IsTrue (is_interface_line l)) lines
    (λ l c. list_all-from is_interface_variable (sides l) (λ x d. fits l x c (HasSide-in_sides l x d)))

-- lines of a scheme are lines of procedures' arguments and results
pub scheme_interfaces : (own : ℕ) (lines : List Line) → AreSchemeLines own lines → AreInterfaceLines lines
scheme_interfaces own lines all = interface_from_sides lines (λ l x c h. at x.base x.word (side_of_scheme own lines all l x c h))
  where
    at : (b : Base) (w : List Label) → is_scheme_side own b w ≡ true → is_interface_side b w ≡ true
    at (Proc n) w t = (and_parts (nat_eq n own) (is_interface w) t).1
    at (Global n) w t = refl
    at (Exist n) w t = refl
    at (Outer n) w t = t

-- and name no other procedure
pub scheme_own : (own : ℕ) (lines : List Line) → AreSchemeLines own lines → (n : ℕ) → NamesBase lines (Proc n) → n ≡ own
scheme_own own lines all n (l, x, c, h, e) = at x.base x.word e (side_of_scheme own lines all l x c h)
  where
    at : (b : Base) (w : List Label) → b ≡ Proc n → is_scheme_side own b w ≡ true → n ≡ own
    at (Proc m) w e t = let f : m ≡ n = cc in sym f ∙ eqb-true m own (and_parts (nat_eq m own) (is_interface w) t).0
    at (Global m) w e t = cc
    at (Exist m) w e t = cc
    at (Outer m) w e t = cc

-- lines of procedures' arguments and results name no procedure itself
pub interfaces_of_scheme : (lines : List Line) → AreInterfaceLines lines → AreOfScheme lines
interfaces_of_scheme lines all l x c h = at x.base x.word (side_of_interface lines all l x c h)
  where
    at : (b : Base) (w : List Label) → is_interface_side b w ≡ true → IsOfScheme b w
    at (Proc n) w t = λ e. both_ways (is_interface w) (ap is_interface e) t
    at (Global n) w t = tt
    at (Exist n) w t = tt
    at (Outer n) w t = absurd (both_ways false refl t)

-- The reduced form.

-- each base that the form names is one that the lines name, or an existential
form_names : (order : Below) (lines form : List Line) → IsReducedForm order lines form → (b : Base) → NamesBase form b →
    NamesBase lines b ⊎ ((n : ℕ) × (b ≡ Exist n))
form_names order lines form is b (l, x, c, h, e) = by (from_form order lines form is x (l, c, h))
  where
    by : IsFrom lines x → NamesBase lines b ⊎ ((n : ℕ) × (b ≡ Exist n))
    by (inl (n, f)) = inr (n, sym e ∙ f)
    by (inr (y, (k, d, g), f, m)) = inl (k, y, d, g, sym f ∙ e)

-- numbers of existentials alone change
abbrev renumbering : List Line → Dtv → Dtv
renumbering lines = renamed (placed (existentials lines))

numbered_of_scheme : (lines : List Line) → AreOfScheme lines → AreOfScheme (numbered lines)
numbered_of_scheme lines scheme k x c h = by (Contains-map_source (map_line (renumbering lines)) lines k c)
  where
    at : (b : Base) (w : List Label) → IsOfScheme b w → IsOfScheme (placed (existentials lines) b) w
    at (Proc n) w s = s
    at (Global n) w s = s
    at (Exist n) w s = s
    at (Outer n) w s = s

    by : (l : Line) × Contains lines l × (map_line (renumbering lines) l ≡ k) → IsOfScheme x.base x.word
    by (l, d, e) =
        let s : (y : Dtv) × HasSide l y × (renumbering lines y ≡ x) =
        HasSide-map_line_source (renumbering lines) l x (subst (λ m. HasSide m x) (sym e) h) in
        subst (λ v. IsOfScheme v.base v.word) s.2 (at s.0.base s.0.word (scheme l s.0 d s.1))

numbered_procedure : (lines : List Line) (n : ℕ) → NamesBase lines (Proc n) → NamesBase (numbered lines) (Proc n)
numbered_procedure lines n (l, x, c, h, e) = (
  map_line (renumbering lines) l,
  renumbering lines x,
  Contains-map (map_line (renumbering lines)) lines l c,
  HasSide-map (renumbering lines) l x h,
  ap (placed (existentials lines)) e,
)

-- no line stands twice where none follows from the others
reduced_once : (order : Below) (own : Base) (lines : List Line) → IsReduced order own lines → AllPairs (λ a b. a ≢ b) lines
reduced_once order own lines re =
    once_by_cuts lines (λ before after l cut c. re.needed before after l cut (given order (before ++ after) l c))

module _ (order : Below) (lines settled : List Line) (is : IsSettled order lines settled) where
  abbrev numbered_form : List Line
  numbered_form = numbered is.reduced

  source : (l : Line) → Contains settled l → Contains numbered_form l
  source = sorted_source numbered_form settled is.in_order

  has : (l : Line) → Contains numbered_form l → Contains settled l
  has = sorted_has numbered_form settled is.in_order

  -- each base that the settled lines name is one that the lines name, or an existential
  pub settled_names : (b : Base) → NamesBase settled b → NamesBase lines b ⊎ ((n : ℕ) × (b ≡ Exist n))
  settled_names b (l, x, c, h, e) = by (numbered-bases is.reduced b (l, x, source l c, h, e))
    where
      by : NamesBase is.reduced b ⊎ ((n : ℕ) × (b ≡ Exist n)) → NamesBase lines b ⊎ ((n : ℕ) × (b ≡ Exist n))
      by (inl names) = form_names order lines is.reduced is.is_reduced b names
      by (inr exists) = inr exists

  pub settled_globals : (n : ℕ) → NamesBase settled (Global n) → NamesBase lines (Global n)
  settled_globals n names = by (settled_names (Global n) names)
    where
      by : NamesBase lines (Global n) ⊎ ((m : ℕ) × (Global n ≡ Exist m)) → NamesBase lines (Global n)
      by (inl before) = before
      by (inr (m, e)) = absurd (cc)

  settled_procedures : (n : ℕ) → NamesBase settled (Proc n) → NamesBase lines (Proc n)
  settled_procedures n names = by (settled_names (Proc n) names)
    where
      by : NamesBase lines (Proc n) ⊎ ((m : ℕ) × (Proc n ≡ Exist m)) → NamesBase lines (Proc n)
      by (inl before) = before
      by (inr (m, e)) = absurd (cc)

  settled_of_scheme : AreOfScheme lines → AreOfScheme settled
  settled_of_scheme scheme l x c h =
      numbered_of_scheme is.reduced (form_sides_lem order lines is.reduced scheme is.is_reduced).0 l x (source l c) h

  -- the settled lines tell the outside of each procedure the same
  pub settled_alike : AreOfScheme lines → (own : ℕ) → Alike order (is_inside_for own) lines settled
  settled_alike scheme own =
      Alike-trans order (is_inside_for own) lines is.reduced settled
      (form_alike_lem order (is_inside_for own) lines is.reduced (λ n. refl) scheme is.is_reduced)
      (Alike-trans order (is_inside_for own) is.reduced numbered_form settled
      (numbering_lem order (is_inside_for own) is.reduced (λ n. refl))
      (exchange order (is_inside_for own) numbered_form settled
      (λ l c. given order settled l (has l c)) (λ l c. given order numbered_form l (source l c))))

  own_outside : (n : ℕ) → is_inside_for n (Proc n) ≡ false
  own_outside n = ap not (eq-eqb n n refl)

  -- a procedure's variable of the settled lines is one that the lines derive
  settled_derives : AreOfScheme lines → (n : ℕ) (l : Line) (x : Dtv) → Contains settled l → HasSide l x → x.base ≡ Proc n →
      Derivable order lines (Var x)
  settled_derives scheme n l x c h e =
      subst (λ ls. Derivable order ls (Var x)) (append-nil lines)
      ((settled_alike scheme n).1 [] (JudgeVar x) (All-nil (IsOutside (is_inside_for n))) outside
      (subst (λ ls. Derivable order ls (Var x)) (sym (append-nil settled)) (named l c h)))
    where
      outside : IsOutside (is_inside_for n) (Var x)
      outside z f = subst (λ v. is_inside_for n v.base ≡ false) f (subst (λ b. is_inside_for n b ≡ false) (sym e) (own_outside n))

  module _ (interfaces : AreInterfaceLines lines) where
    abbrev of_scheme : AreOfScheme lines
    of_scheme = interfaces_of_scheme lines interfaces

    settled_interface : (n : ℕ) (l : Line) (x : Dtv) → Contains settled l → HasSide l x → x.base ≡ Proc n → is_interface x.word ≡ true
    settled_interface n l x c h e = by (derived_fits order lines interfaces (settled_derives of_scheme n l x c h e))
      where
        by : IsFitting x → is_interface x.word ≡ true
        by (inl f) = absurd (subst (λ b. IsOfScheme b x.word) e (settled_of_scheme of_scheme l x c h) f)
        by (inr fits) = fits n e

    -- they are of procedures' arguments and results again
    pub interfaces_stay : AreInterfaceLines settled
    interfaces_stay = interface_from_sides settled (λ l x c h. at x.base x.word (settled_of_scheme of_scheme l x c h)
        (λ n e. settled_interface n l x c h e))
      where
        at : (b : Base) (w : List Label) → IsOfScheme b w → ((n : ℕ) → b ≡ Proc n → is_interface w ≡ true) → is_interface_side b w ≡ true
        at (Proc n) w s f = f n refl
        at (Global n) w s f = refl
        at (Exist n) w s f = refl
        at (Outer n) w s f = absurd s

  -- and of a scheme, where the lines are
  pub schemes_stay : (own : ℕ) → AreSchemeLines own lines → AreSchemeLines own settled
  schemes_stay own all =
      All-from_contains (λ l. IsTrue (is_scheme_line own l)) settled
      (λ l c. scheme-line own l (λ x h. at x.base x.word (settled_of_scheme (interfaces_of_scheme lines interfaces) l x c h)
      (λ n e. settled_interface interfaces n l x c h e)
      (λ n e. scheme_own own lines all n (settled_procedures n (l, x, c, h, e)))))
    where
      interfaces : AreInterfaceLines lines
      interfaces = scheme_interfaces own lines all

      at : (b : Base) (w : List Label) → IsOfScheme b w → ((n : ℕ) → b ≡ Proc n → is_interface w ≡ true) →
          ((n : ℕ) → b ≡ Proc n → n ≡ own) → is_scheme_side own b w ≡ true
      at (Proc n) w s f g = and_from (nat_eq n own) (is_interface w) (eq-eqb n own (g n refl)) (f n refl)
      at (Global n) w s f g = refl
      at (Exist n) w s f g = refl
      at (Outer n) w s f g = absurd s

  -- where they are of a scheme, they have nothing to spare
  pub settled_reduced : (own : ℕ) → AreSchemeLines own settled → IsReduced order (Proc own) settled
  settled_reduced own all =
      reordered_reduced_lem order (Proc own) numbered_form settled (λ l. (has l, source l))
      (sorted_once numbered_form settled is.in_order (reduced_once order (Proc own) numbered_form reduced)) reduced
    where
      owned : (n : ℕ) → NamesBase is.reduced (Proc n) → n ≡ own
      owned n names =
          let (l, x, c, h, e) = numbered_procedure is.reduced n names in
          scheme_own own settled all n (l, x, has l c, h, e)

      reduced : IsReduced order (Proc own) numbered_form
      reduced = numbered_reduced_lem order own is.reduced (form_reduced_lem order own lines is.reduced owned is.is_reduced)

-- what numbering and sorting make of the reduced form is the settled form
pub settled_by : {E : Type 0} (order : Below) (lines reduced renumbered : List Line) (r : Result (List Line) E) →
    IsReducedForm order lines reduced → renumbered ≡ numbered reduced → IfOk r (AreInOrder renumbered) →
    IfOk r (λ settled. IsSettled order lines settled)
settled_by order lines reduced renumbered r is_reduced is in_order =
    IfOk-weaker r (AreInOrder renumbered) (λ settled. IsSettled order lines settled)
    (λ settled sorted. record {
      reduced = reduced;
      is_reduced = is_reduced;
      in_order = subst (λ ls. AreInOrder ls settled) is sorted;
    })
    in_order

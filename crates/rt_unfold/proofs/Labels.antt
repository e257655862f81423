-- A variable of a procedure is derivable only where the lines name its first label.
use Rattle.std.proofs.Common.{◌≡◌, ℕ, inl, inr, true, false, not, nat_eq, IsTrue, List, [], ◌∷◌, ◌++◌, Contains, refl, sym, ap, subst}
use Rattle.std.proofs.Common.{◌∙◌, eq-eqb, append-nil}
use Rattle.std.proofs.lemmas.Bool.{and_parts}
use Rattle.std.proofs.lemmas.List.Elements.{All-contains, All-nil}
use Rattle.rt_base.proofs.Booleans.{same_truth}
use Rattle.rt_base.proofs.Lists.{All-from_contains, list_all-at, list_all-from}
use Rattle.rt_lines.specs.declared.label.Label.{Label}
use Rattle.rt_lines.specs.declared.label.Label.TheVariants.{Load, Store}
use Rattle.rt_lines.specs.declared.variable.Base.{Base}
use Rattle.rt_lines.specs.declared.variable.Base.TheVariants.{Proc, Global, Exist, Outer}
use Rattle.rt_lines.specs.declared.variable.Dtv.{Dtv}
use Rattle.rt_lines.specs.declared.line.Line.{Line}
use Rattle.rt_lines.specs.declared.line.Line.TheVariants.{Var, Same, Sub, Low, Up}
use Rattle.rt_lines.specs.declared.line.Judge.TheVariants.{Var as JudgeVar}
use Rattle.rt_lines.specs.Orders.{Below}
use Rattle.rt_lines.specs.Sides.{sides}
use Rattle.rt_rules.specs.Rules.{longer, HasSide, Derivable}
use Rattle.rt_rules.specs.Rules.Derivable.{named, prefix, left_side, right_side, same_letter, same_line, same_sub, same_self, same_back}
use Rattle.rt_rules.specs.Rules.Derivable.{same_chain, same_longer, sub_line, sub_self, sub_chain, sub_co, sub_contra, sub_pointer}
use Rattle.rt_rules.specs.Rules.Derivable.{low_line, up_line, low_sub, up_sub}
use Rattle.rt_rules.specs.Alike.{Covers, IsOutside, is_inside_for}
use Rattle.rt_rules.proofs.Covering.{front}
use Rattle.rt_rules.proofs.LineSides.{Contains-sides, HasSide-in_sides}
use Rattle.rt_scheme.specs.Ports.{NamesLabel, names_label}
use Rattle.rt_scheme.specs.Schemes.{AreSchemeLines, is_interface, is_scheme_side}
use Rattle.rt_scheme.specs.Splitting.{AreInterfaceLines, is_interface_line, is_interface_side, is_interface_variable}
use Rattle.rt_scheme.specs.SplitExistentials.{split_for}
use Rattle.rt_scheme.proofs.PortLabels.{any_names-is, names_label-is}
use Rattle.rt_unfold.specs.Labels.{LabelsLaw, UnfoldedLabelsLaw}
use Rattle.rt_unfold.proofs.Instances.{scheme_lines-side}
use Rattle.rt_unfold.proofs.Unfolding.{claim_in, split_for-alike, split_for-fit}
use Rattle.rt_rules.proofs.Covering.{Alike-sym, Alike-trans}

module _ (q : ℕ) (lines : List Line) where
  -- where the variable is of the procedure and has letters, the lines name the first
  abbrev Begins_at : Base → List Label → Type 0
  Begins_at (Proc n) [] = Unit {0}
  Begins_at (Proc n) (l ∷ w) = n ≡ q → NamesLabel q lines l
  Begins_at (Global n) w = Unit {0}
  Begins_at (Exist n) w = Unit {0}
  Begins_at (Outer n) w = Unit {0}

  abbrev Begins : Dtv → Type 0
  Begins x = Begins_at x.base x.word

  -- the procedure without a letter
  abbrev IsBare : Dtv → Type 0
  IsBare x = (x.base ≡ Proc q) × (x.word ≡ [])

  abbrev AreLinked : Dtv → Dtv → Type 0
  AreLinked x y = Begins x × Begins y × (IsBare x → IsBare y) × (IsBare y → IsBare x)

  abbrev Holds : Line → Type 0
  Holds (Var x) = Begins x
  Holds (Same x y) = AreLinked x y
  Holds (Sub x y) = AreLinked x y
  Holds (Low k x) = Unit {0}
  Holds (Up x k) = Unit {0}

  shorter_at : (b : Base) (w : List Label) (l : Label) → Begins_at b (w ++ l ∷ []) → Begins_at b w
  shorter_at (Proc n) [] l h = tt
  shorter_at (Proc n) (m ∷ w) l h = h
  shorter_at (Global n) w l h = tt
  shorter_at (Exist n) w l h = tt
  shorter_at (Outer n) w l h = tt

  of_bare : (x : Dtv) (l : Label) → IsBare x → Begins (longer x l) → NamesLabel q lines l
  of_bare x l (e, f) h = by x.base x.word e f h
    where
      by : (b : Base) (w : List Label) → b ≡ Proc q → w ≡ [] → Begins_at b (w ++ l ∷ []) → NamesLabel q lines l
      by (Proc n) [] e f g = let same : n ≡ q = cc in g same
      by (Proc n) (m ∷ w) e f g = cc
      by (Global n) w e f g = cc
      by (Exist n) w e f g = cc
      by (Outer n) w e f g = cc

  letter_at : (b : Base) (w : List Label) (l : Label) → Begins_at b w → ((b ≡ Proc q) × (w ≡ []) → NamesLabel q lines l)
      → Begins_at b (w ++ l ∷ [])
  letter_at (Proc n) [] l h g = λ e. g (ap Proc e, refl)
  letter_at (Proc n) (m ∷ w) l h g = h
  letter_at (Global n) w l h g = tt
  letter_at (Exist n) w l h g = tt
  letter_at (Outer n) w l h g = tt

  -- a letter is handed on
  letter : (x y : Dtv) (l : Label) → AreLinked x y → Begins (longer x l) → Begins (longer y l)
  letter x y l linked h = letter_at y.base y.word l linked.1 (λ bare. of_bare x l (linked.3 bare) h)

  turned : (x y : Dtv) → AreLinked x y → AreLinked y x
  turned x y h = (h.1, h.0, h.3, h.2)

  none_empty : (w : List Label) (l : Label) → w ++ l ∷ [] ≡ [] → ⊥
  none_empty [] l e = cc
  none_empty (m ∷ w) l e = cc

  not_bare : (x : Dtv) (l : Label) → IsBare (longer x l) → ⊥
  not_bare x l (e, f) = none_empty x.word l f

  both_longer : (x y : Dtv) (l m : Label) → Begins (longer x l) → Begins (longer y m) → AreLinked (longer x l) (longer y m)
  both_longer x y l m h k = (h, k, λ bare. absurd (not_bare x l bare), λ bare. absurd (not_bare y m bare))

  module _ (order : Below) (fit : AreInterfaceLines lines) where
    side-begins : (l : Line) (x : Dtv) → Contains lines l → HasSide l x → Begins x
    side-begins l x c h = by x.base x.word (λ m w e f. (l, x, w, c, h, e, f))
      where
        by : (b : Base) (v : List Label) → ((m : Label) (w : List Label) → b ≡ Proc q → v ≡ m ∷ w → NamesLabel q lines m) → Begins_at b v
        by (Proc n) [] g = tt
        by (Proc n) (m ∷ w) g = λ e. g m w (ap Proc e) refl
        by (Global n) v g = tt
        by (Exist n) v g = tt
        by (Outer n) v g = tt

    bare_side : (b : Base) (w : List Label) → is_interface_side b w ≡ true → (b ≡ Proc q) × (w ≡ []) → ⊥
    bare_side (Proc n) [] h (e, f) = cc
    bare_side (Proc n) (l ∷ w) h (e, f) = cc
    bare_side (Global n) w h (e, f) = cc
    bare_side (Exist n) w h (e, f) = cc
    bare_side (Outer n) w h (e, f) = cc

    side-bare : (l : Line) (x : Dtv) → Contains lines l → HasSide l x → IsBare x → ⊥
    side-bare l x c h =
        bare_side x.base x.word (list_all-at is_interface_variable (sides l) x
        (All-contains (λ line. IsTrue (is_interface_line line)) lines l fit c) (Contains-sides l x h))

    sides-linked : (l : Line) (x y : Dtv) → Contains lines l → HasSide l x → HasSide l y → AreLinked x y
    sides-linked l x y c h k = (
      side-begins l x c h,
      side-begins l y c k,
      λ bare. absurd (side-bare l x c h bare),
      λ bare. absurd
          (side-bare l y c k bare),
    )

    holds : {j : Line} → Derivable order lines j → Holds j
    holds (named l {x = x} c h) = side-begins l x c h
    holds (prefix {x = x} l d) = shorter_at x.base x.word l (holds d)
    holds (left_side d) = (holds d).0
    holds (right_side d) = (holds d).1
    holds (same_letter {x = x} {y = y} l d e) = letter x y l (holds d) (holds e)
    holds (same_line {x = x} {y = y} c) = sides-linked (Same x y) x y c (inl refl) (inr refl)
    holds (same_sub d) = holds d
    holds (same_self d) = (holds d, holds d, λ bare. bare, λ bare. bare)
    holds (same_back {x = x} {y = y} d) = turned x y (holds d)
    holds (same_chain d e) = let a = holds d in let b = holds e in (a.0, b.1, λ bare. b.2 (a.2 bare), λ bare. a.3 (b.3 bare))
    holds (same_longer {x = x} {y = y} l d e) = both_longer x y l l (holds e) (letter x y l (holds d) (holds e))
    holds (sub_line {x = x} {y = y} c) = sides-linked (Sub x y) x y c (inl refl) (inr refl)
    holds (sub_self d) = (holds d, holds d, λ bare. bare, λ bare. bare)
    holds (sub_chain d e) = let a = holds d in let b = holds e in (a.0, b.1, λ bare. b.2 (a.2 bare), λ bare. a.3 (b.3 bare))
    holds (sub_co {x = x} {y = y} l d e s) = both_longer x y l l (letter y x l (turned x y (holds d)) (holds e)) (holds e)
    holds (sub_contra {x = x} {y = y} l d e s) = both_longer y x l l (holds e) (letter y x l (turned x y (holds d)) (holds e))
    holds (sub_pointer x d e) = both_longer x x Store Load (holds e) (holds d)
    holds (low_line c) = tt
    holds (up_line c) = tt
    holds (low_sub d e a) = tt
    holds (up_sub d e a) = tt

    abbrev own : Label → Dtv
    own l = record { base = Proc q; word = l ∷ [] }

    -- what is derivable of the procedure's labels is named
    pub derivable-names : (l : Label) → Derivable order lines (Var (own l)) → NamesLabel q lines l
    derivable-names l d = holds d refl

    pub names-derivable : (l : Label) → NamesLabel q lines l → Derivable order lines (Var (own l))
    names-derivable l (k, x, w, c, h, e, f) = front order lines (own l) w (subst (λ y. Derivable order lines (Var y))
        (λ i. record { base = e i; word = f i }) (named k c h))

-- what the outside derives of a list alone
alone : (order : Below) (q : ℕ) (first second : List Line) (l : Label) → Covers order (is_inside_for q) first second →
    Derivable order first (Var (record { base = Proc q; word = l ∷ [] })) → Derivable order second
    (Var (record { base = Proc q; word = l ∷ [] }))
alone order q first second l covers d =
    subst (λ lines. Derivable order lines (Var (record { base = Proc q; word = l ∷ [] }))) (append-nil second)
    (covers [] (JudgeVar (record { base = Proc q; word = l ∷ [] })) (All-nil (IsOutside (is_inside_for q)))
    (λ x e. subst (λ y. is_inside_for q y.base ≡ false) e (ap not (eq-eqb q q refl)))
    (subst (λ lines. Derivable order lines (Var (record { base = Proc q; word = l ∷ [] }))) (sym (append-nil first)) d))

names-alike : (order : Below) (q : ℕ) (first second : List Line) → AreInterfaceLines first → AreInterfaceLines second
    → Covers order (is_inside_for q) first second →
    (l : Label) → names_label q first l ≡ true → names_label q second l ≡ true
names-alike order q first second fit_first fit_second covers l e =
    let named_first = (any_names-is q l first).0 (names_label-is q first l ∙ e) in
    let derived = alone order q first second l covers (names-derivable q first order fit_first l named_first) in
    sym (names_label-is q second l) ∙ (any_names-is q l second).1 (derivable-names q second order fit_second l derived)

pub labels_law : LabelsLaw
labels_law order q first second fit_first fit_second alike l =
    same_truth (names_label q first l) (names_label q second l) (names-alike order q first second fit_first fit_second alike.0 l)
    (names-alike order q second first fit_second fit_first alike.1 l)

interface_side : (own : ℕ) (b : Base) (w : List Label) → is_scheme_side own b w ≡ true → is_interface_side b w ≡ true
interface_side own (Proc n) w h = (and_parts (nat_eq n own) (is_interface w) h).1
interface_side own (Global n) w h = refl
interface_side own (Exist n) w h = refl
interface_side own (Outer n) w h = cc

-- lines of a scheme are those of an interface
pub scheme_interfaces : (own : ℕ) (lines : List Line) → AreSchemeLines own lines → AreInterfaceLines lines
scheme_interfaces own lines fit =
    All-from_contains (λ line. IsTrue (is_interface_line line)) lines
    (λ l c. list_all-from is_interface_variable (sides l)
    (λ x d. interface_side own x.base x.word (scheme_lines-side own lines l x fit c (HasSide-in_sides l x d))))

pub unfolded_labels_law : UnfoldedLabelsLaw
unfolded_labels_law order groups templates schemes unfolded are_templates solved are_unfolded group p c d l =
    let claim = claim_in order groups templates schemes unfolded are_templates solved are_unfolded group p c d in
    labels_law order p (split_for p (unfolded p)) (schemes p)
    (scheme_interfaces p (split_for p (unfolded p)) (split_for-fit p (unfolded p) claim.0)) (scheme_interfaces p (schemes p) claim.1)
    (Alike-trans order (is_inside_for p) (split_for p (unfolded p)) (unfolded p) (schemes p)
    (Alike-sym order (is_inside_for p) (unfolded p) (split_for p (unfolded p)) (split_for-alike order p (unfolded p) claim.0))
    claim.2) l

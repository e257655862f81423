-- The existentials of other procedures' arguments and results are new, and each stands for one.
use Rattle.std.proofs.Common.{◌≡◌, ℕ, suc, ◌+◌, ◌<◌, ◌≤◌, ◌⊎◌, inl, inr, Bool, true, false, not, cond, nat_eq, ◌&&◌, IsTrue, if◌then◌else◌, List, [], ◌∷◌, map, get_or, All, Contains, refl, sym, ap, subst, ◌∙◌, true≢false, arith}
use Rattle.std.specs.List.{position_or_len}
use Rattle.std.proofs.lemmas.Bool.{eqb-true, and_parts, and_from}
use Rattle.std.proofs.lemmas.List.Elements.{All-contains}
use Rattle.rt_rules.proofs.LineSides.{HasSide-map_line_source, Contains-sides}
use Rattle.rt_lines.proofs.LineSides.{HasConstantsBelow-map_line}
use Rattle.rt_base.proofs.Lists.{Contains-none, Contains-cons_cases, Contains-map_source, All-from_contains, position_or_len-one_to_one, list_all-at}
use Rattle.rt_lines.specs.declared.label.Label.{Label}
use Rattle.rt_lines.specs.declared.variable.Base.{Base}
use Rattle.rt_lines.specs.declared.variable.Base.TheVariants.{Proc, Global, Exist, Outer}
use Rattle.rt_lines.specs.declared.variable.Dtv.{Dtv}
use Rattle.rt_lines.specs.declared.line.Line.{Line}
use Rattle.rt_lines.specs.declared.line.Line.TheVariants.{Var, Same, Sub, Low, Up}
use Rattle.rt_lines.specs.Equality.{label_eq}
use Rattle.rt_lines.specs.Sides.{sides}
use Rattle.rt_lines.specs.Lines.{HasConstantsBelow}
use Rattle.rt_lines.specs.Orders.{Below}
use Rattle.rt_lines.proofs.Equal.{label_equal}
use Rattle.rt_rules.specs.Rules.{HasSide}
use Rattle.rt_rules.specs.Alike.{Alike, is_inside_for, map_line}
use Rattle.rt_rules.specs.Laws.{NamesBase}
use Rattle.rt_lines.proofs.Distinct.{inserted-has}
use Rattle.rt_scheme.specs.Schemes.{is_interface, is_scheme_variable, is_scheme_line, AreSchemeLines}
use Rattle.rt_scheme.specs.declared.interface.Interface.{Interface}
use Rattle.rt_scheme.specs.contracts.interface.InterfaceEq.TheImpl.Laws as interface_laws
use Rattle.rt_scheme.specs.Splitting.{is_interface_side, is_interface_variable, is_interface_line, AreInterfaceLines, interfaces, split_side, split_variable, split_line, IsSplitting}
use Rattle.rt_scheme.specs.SplitExistentials.{interface_eq, is_other, other_interfaces, existential_for}
use Rattle.rt_scheme.proofs.SplittingBack.{splitting_lem}

-- Sides of lines that may be split.

interface-side : (l : Line) (z : Dtv) → IsTrue (is_interface_line l) → HasSide l z → is_interface_variable z ≡ true
interface-side l z h side = list_all-at is_interface_variable (sides l) z h (Contains-sides l z side)

-- Equal arguments and results.

interface_equal : (a b : Interface) → interface_eq a b ≡ true → a ≡ b
interface_equal a b e =
    let parts : (nat_eq a.procedure b.procedure ≡ true) × (label_eq a.label b.label ≡ true) = and_parts (nat_eq a.procedure b.procedure) (label_eq a.label b.label) e in
    let procedures : a.procedure ≡ b.procedure = eqb-true a.procedure b.procedure parts.0 in
    let labels : a.label ≡ b.label = label_equal a.label b.label parts.1 in
    λ i. record { procedure = procedures i; label = labels i }

interface_self : (a : Interface) → interface_eq a a ≡ true
interface_self a = (interface_laws.laws-law).refl a

module _ (own first : ℕ) (lines : List Line) where
  abbrev place : Interface → ℕ
  place = existential_for first (other_interfaces own lines)

  placed-has : (a : Interface) → Contains (interfaces (is_other own) lines) a → Contains (other_interfaces own lines) a
  placed-has a c = inserted-has interface_eq interface_equal (interfaces (is_other own) lines) [] a c

  placed-one_to_one : (a b : Interface) → Contains (interfaces (is_other own) lines) a → Contains (interfaces (is_other own) lines) b → place a ≡ place b → a ≡ b
  placed-one_to_one a b c d e = position_or_len-one_to_one interface_eq interface_equal interface_self (other_interfaces own lines) a b (placed-has a c) (placed-has b d) (omega arith)

  interface-first : (b : Base) (w : List Label) (q : ℕ) → is_interface_side b w ≡ true → b ≡ Proc q → IsTrue (is_interface w)
  interface-first (Proc n) w q h e = h
  interface-first (Global n) w q h e = cc
  interface-first (Exist n) w q h e = cc
  interface-first (Outer n) w q h e = cc

  placed-is_splitting : AreInterfaceLines lines → ((n : ℕ) → NamesBase lines (Exist n) → n < first) → IsSplitting (is_inside_for own) (is_other own) place lines
  placed-is_splitting fit free = record {
    interface = λ l x q c h e s. interface-first x.base x.word q (interface-side l x (All-contains (λ line. IsTrue (is_interface_line line)) lines l fit c) h) e;
    one_to_one = placed-one_to_one;
    fresh = λ a c names. let below : place a < first = free (place a) names in absurd (omega arith);
    procedure_inside = λ q e. e;
    existential_inside = λ a c. refl;
  }

  pub split-alike : AreInterfaceLines lines → ((n : ℕ) → NamesBase lines (Exist n) → n < first) → (order : Below) → Alike order (is_inside_for own) lines (map (split_line (is_other own) place) lines)
  split-alike fit free order = splitting_lem order (is_inside_for own) (is_other own) place lines (placed-is_splitting fit free)

-- What splitting keeps.

module _ (is_split : ℕ → Bool) (place : Interface → ℕ) where
  pub split-constants : (lines : List Line) (count : ℕ) → All (HasConstantsBelow count) lines → All (HasConstantsBelow count) (map (split_line is_split place) lines)
  split-constants lines count h = All-from_contains (HasConstantsBelow count) (map (split_line is_split place) lines) (λ l c. by l (Contains-map_source (split_line is_split place) lines l c))
    where
      by : (l : Line) → (k : Line) × Contains lines k × (split_line is_split place k ≡ l) → HasConstantsBelow count l
      by l (k, c, e) = subst (HasConstantsBelow count) e (HasConstantsBelow-map_line count (split_variable is_split place) k (All-contains (HasConstantsBelow count) lines k h c))

  abbrev base_of : Dtv → Base
  base_of x = x.base

  global_source_if : (s : Bool) (q m n : ℕ) (l : Label) (w : List Label) → base_of (if s then record { base = Exist m; word = w } else record { base = Proc q; word = l ∷ w }) ≡ Global n → Proc q ≡ Global n
  global_source_if true q m n l w e = cc
  global_source_if false q m n l w e = e

  global_source : (b : Base) (w : List Label) (n : ℕ) → (split_side is_split place b w).base ≡ Global n → b ≡ Global n
  global_source (Proc q) [] n e = e
  global_source (Proc q) (l ∷ w) n e = global_source_if (is_split q) q (place (record { procedure = q; label = l })) n l w e
  global_source (Global m) w n e = e
  global_source (Exist m) w n e = e
  global_source (Outer m) w n e = e

  -- a global that split lines name is one that the lines name
  pub split-globals : (lines : List Line) (n : ℕ) → NamesBase (map (split_line is_split place) lines) (Global n) → NamesBase lines (Global n)
  split-globals lines n (l, x, c, h, e) = by_line (Contains-map_source (split_line is_split place) lines l c)
    where
      by_side : (k : Line) → Contains lines k → (y : Dtv) × HasSide k y × (split_variable is_split place y ≡ x) → NamesBase lines (Global n)
      by_side k d (y, g, f) = (k, y, d, g, global_source y.base y.word n ((λ i. (f i).base) ∙ e))

      by_line : (k : Line) × Contains lines k × (split_line is_split place k ≡ l) → NamesBase lines (Global n)
      by_line (k, d, f) = by_side k d (HasSide-map_line_source (split_variable is_split place) k x (subst (λ m. HasSide m x) (sym f) h))

module _ (own : ℕ) (place : Interface → ℕ) where
  abbrev image : Dtv → Dtv
  image = split_variable (is_other own) place

  scheme_if : (s : Bool) (q m : ℕ) (l : Label) (w : List Label) → is_interface (l ∷ w) ≡ true → nat_eq q own ≡ s →
      is_scheme_variable own (if not s then record { base = Exist m; word = w } else record { base = Proc q; word = l ∷ w }) ≡ true
  scheme_if true q m l w h e = rw (e, h) refl
  scheme_if false q m l w h e = refl

  scheme_side : (b : Base) (w : List Label) → is_interface_side b w ≡ true → is_scheme_variable own (split_side (is_other own) place b w) ≡ true
  scheme_side (Proc q) [] h = cc
  scheme_side (Proc q) (l ∷ w) h = scheme_if (nat_eq q own) q (place (record { procedure = q; label = l })) l w h refl
  scheme_side (Global n) w h = refl
  scheme_side (Exist n) w h = refl
  scheme_side (Outer n) w h = cc

  scheme_one : (x : Dtv) → is_interface_variable x ≡ true → is_scheme_variable own (image x) ≡ true
  scheme_one x h = scheme_side x.base x.word h

  scheme_line : (l : Line) → IsTrue (is_interface_line l) → IsTrue (is_scheme_line own (split_line (is_other own) place l))
  scheme_line (Var x) h = scheme_one x (interface-side (Var x) x h refl)
  scheme_line (Same x y) h = and_from (is_scheme_variable own (image x)) (is_scheme_variable own (image y)) (scheme_one x (interface-side (Same x y) x h (inl refl))) (scheme_one y (interface-side (Same x y) y h (inr refl)))
  scheme_line (Sub x y) h = and_from (is_scheme_variable own (image x)) (is_scheme_variable own (image y)) (scheme_one x (interface-side (Sub x y) x h (inl refl))) (scheme_one y (interface-side (Sub x y) y h (inr refl)))
  scheme_line (Low k x) h = scheme_one x (interface-side (Low k x) x h refl)
  scheme_line (Up x k) h = scheme_one x (interface-side (Up x k) x h refl)

  -- split lines are those of a scheme of the own procedure
  pub split-scheme : (lines : List Line) → AreInterfaceLines lines → AreSchemeLines own (map (split_line (is_other own) place) lines)
  split-scheme lines fit =
      All-from_contains (λ line. IsTrue (is_scheme_line own line)) (map (split_line (is_other own) place) lines) (λ l c. by l (Contains-map_source (split_line (is_other own) place) lines l c))
    where
      by : (l : Line) → (k : Line) × Contains lines k × (split_line (is_other own) place k ≡ l) → IsTrue (is_scheme_line own l)
      by l (k, c, e) = subst (λ line. IsTrue (is_scheme_line own line)) e (scheme_line k (All-contains (λ line. IsTrue (is_interface_line line)) lines k fit c))

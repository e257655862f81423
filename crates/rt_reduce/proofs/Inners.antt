-- What lines say beforehand of which variables lie below which.
use Rattle.std.proofs.Common.{◌≡◌, ℕ, ◌<◌, List, [], ◌∷◌, All, Contains, get_or, length, inl, inr, refl, sym, subst}
use Rattle.std.proofs.lemmas.List.Elements.{All-contains}
use Rattle.rt_base.proofs.Lists.{All-from_contains, Contains-here, Contains-none, Contains-cons_cases}
use Rattle.rt_lines.specs.declared.variable.Dtv.{Dtv}
use Rattle.rt_lines.specs.declared.line.Line.{Line}
use Rattle.rt_lines.specs.declared.line.Line.TheVariants.{Sub, Var}
use Rattle.rt_lines.specs.Lines.{HasConstantsBelow}
use Rattle.rt_lines.specs.Orders.{Below}
use Rattle.rt_rules.specs.Rules.{HasSide, Derivable}
use Rattle.rt_rules.specs.Laws.{NamesBase}
use Rattle.rt_rules.proofs.Covering.{derives_more}
use Rattle.rt_reduction.proofs.Naming.{base_named}
use Rattle.rt_named.specs.Naming.{named as named_by}
use Rattle.rt_equals.proofs.Outlining.{there}
use Rattle.rt_sat.specs.declared.increments.GrowingTable.{GrowingTable as Growing}
use Rattle.rt_sat.specs.Increments.{Tells}
use Rattle.rt_sat.proofs.Frames.{side_named}
use Rattle.rt_sure.specs.Grounds.{IsTableOf}
use Rattle.rt_outline.specs.Lines.{HasBelow, Lined}
use Rattle.rt_reduce.specs.Inside.Deciding.{DoName, IsLowerWith, IsTableAbout}
use Rattle.rt_reduce.proofs.Compared.{any}

-- where a table says that a variable lies below one of others, so it is by what it tells of
pub table_below : (growing : Growing) (x y : Dtv) (to : List Dtv) → Contains to y →
    ((order : Below) (told : List Line) → Tells told growing → Derivable order told (Sub x y)) →
    (told : List Line) → Tells told growing → (order : Below) → HasBelow order told (x ∷ []) to
table_below growing x y to c has told tells order = (x, y, Contains-here x [], c, has order told tells)

-- what lies below something by what a table of lines tells of, does so by the lines
pub own_below : (lines : List Line) (growing : Growing) (is : IsTableOf lines growing) (order : Below) (from to : List Dtv) →
    HasBelow order is.told from to → HasBelow order lines from to
own_below lines growing is order from to (x, y, c, d, e) = (x, y, c, d, derives_more order is.told lines (is.derived order) e)

-- so it does by lines that name the bases of both
pub about_below : (inner : Lined) (growing : Growing) (is : IsTableAbout inner.lines growing) → DoName inner → (order : Below)
    (from to : List Dtv) → ((x : Dtv) → Contains from x → Contains inner.named x) → ((y : Dtv) → Contains to y → Contains inner.named y) →
    HasBelow order is.told from to → HasBelow order inner.lines from to
about_below inner growing is name order from to known also (x, y, c, d, e) =
    (x, y, c, d, is.carried order x y (name x (known x c)) (name y (also y d)) e)

-- what lines name has bases that they name
pub own_names : (lines : List Line) (inner : Lined) → inner ≡ record { lines = lines; named = named_by lines [] } → DoName inner
own_names lines inner e x c = subst (λ (v : Lined). NamesBase v.lines x.base) (sym e)
    (base_named any lines (Var x) (there any lines x (subst (λ (v : Lined). Contains v.named x) e c)) x refl)

-- what lies below one of others, does so as one of many
pub below_among : (order : Below) (lines : List Line) (x : Dtv) (from to : List Dtv) → Contains from x →
    HasBelow order lines (x ∷ []) to → HasBelow order lines from to
below_among order lines x from to h (z, y, c, d, e) = elim (Contains-cons_cases x [] z c) [
  | inl f ↦ (x, y, h, d, subst (λ v. Derivable order lines (Sub v y)) (sym f) e)
  | inr g ↦ absurd (Contains-none z g)
]

-- constants of some of the lines
pub few_among : (count : ℕ) (lines others : List Line) → ((l : Line) → Contains others l → Contains lines l) →
    All (HasConstantsBelow count) lines → All (HasConstantsBelow count) others
few_among count lines others among few =
    All-from_contains (HasConstantsBelow count) others (λ l c. All-contains (HasConstantsBelow count) lines l few (among l c))

-- the sides of some of the lines are named
pub among_named : (lines others : List Line) (inner : Lined) → IsLowerWith lines [] inner →
    ((l : Line) → Contains others l → Contains lines l) → (l : Line) (x : Dtv) → Contains others l → HasSide l x → Contains inner.named x
among_named lines others inner own among l x c h = side_named lines own.extra inner.named own.names l x (among l c) h

-- those of one of the lines
pub at_named : (lines : List Line) (inner : Lined) → IsLowerWith lines [] inner → (i : ℕ) (l m : Line) (x : Dtv) → i < length lines →
    l ≡ get_or lines i l → l ≡ m → HasSide m x → Contains inner.named x
at_named lines inner own i l m x h e f s =
    side_named lines own.extra inner.named own.names l x (i, h, sym e) (subst (λ k. HasSide k x) (sym f) s)

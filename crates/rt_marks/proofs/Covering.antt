-- Lists of lines of which the outside derives the same loosely.
use Rattle.std.proofs.Common.{◌≡◌, ◌⊎◌, inl, inr, List, [], ◌∷◌, ◌++◌, All, Contains, Bool, false, refl, sym, subst}
use Rattle.std.proofs.lemmas.List.Elements.{Contains-append_left, Contains-append_right, Contains-append_cases, All-contains}
use Rattle.rt_lines.specs.declared.label.Label.{Label}
use Rattle.rt_lines.specs.declared.variable.Base.{Base}
use Rattle.rt_lines.specs.declared.variable.Dtv.{Dtv}
use Rattle.rt_lines.specs.declared.line.Line.{Line}
use Rattle.rt_lines.specs.declared.line.Line.TheVariants.{Var}
use Rattle.rt_lines.specs.Orders.{Below}
use Rattle.rt_rules.specs.Rules.{longer, extended, line_of}
use Rattle.rt_rules.specs.Rules.{Derivable}
use Rattle.rt_loose.specs.Loose.{Loosely}
use Rattle.rt_loose.specs.Loose.Loosely.{prefix}
use Rattle.rt_rules.specs.Alike.{IsOutside, map_line}
use Rattle.rt_marks.specs.Outsides.{LooselyCovers, LooselyAlike}
use Rattle.rt_rules.proofs.Covering.{map_line-fixed, extended-nil, extended-cons}
use Rattle.rt_loose.proofs.Loosely.{embed}
use Rattle.rt_marks.proofs.Carrying.{given, carry}

-- what a list derives, each list derives that derives its lines
pub derives_more : (order : Below) (lines others : List Line) → ((l : Line) → Contains lines l → Loosely order others l) → {j : Line} → Loosely order lines j → Loosely order others j
derives_more order lines others gives {j = j} d =
    subst (Loosely order others) (map_line-fixed (λ x. x) j (λ x h. refl))
    (carry order lines others (λ x. x) (λ x l. refl) (λ l c. subst (Loosely order others) (sym (map_line-fixed (λ x. x) l (λ x h. refl))) (gives l c)) d)

-- what a list derives, it derives with more lines behind it
pub derives_left : (order : Below) (lines more : List Line) {j : Line} → Loosely order lines j → Loosely order (lines ++ more) j
derives_left order lines more d = derives_more order lines (lines ++ more) (λ l c. given order (lines ++ more) l (Contains-append_left lines more l c)) d

-- what a list derives, it derives with more lines before it
pub derives_right : (order : Below) (more lines : List Line) {j : Line} → Loosely order lines j → Loosely order (more ++ lines) j
derives_right order more lines d = derives_more order lines (more ++ lines) (λ l c. given order (more ++ lines) l (Contains-append_right more lines l c)) d

-- where there is a variable, there is each with a front of its word
pub front : (order : Below) (lines : List Line) (x : Dtv) (w : List Label) → Loosely order lines (Var (extended x w)) → Loosely order lines (Var x)
front order lines x [] d = subst (λ v. Loosely order lines (Var v)) (extended-nil x) d
front order lines x (l ∷ w) d = prefix l (front order lines (longer x l) w (subst (λ v. Loosely order lines (Var v)) (sym (extended-cons x l w)) d))

-- a map that leaves the outside where it is, and a second list that derives the image of each line of the first
module _ (order : Below) (inside : Base → Bool) (first second : List Line) (f : Dtv → Dtv)
    (keeps : (x : Dtv) (l : Label) → f (longer x l) ≡ longer (f x) l)
    (fixes : (x : Dtv) → inside x.base ≡ false → f x ≡ x)
    (gives : (l : Line) → Contains first l → Loosely order second (map_line f l)) where
  stays : (l : Line) → IsOutside inside l → map_line f l ≡ l
  stays l out = map_line-fixed f l (λ x h. fixes x (out x h))

  gives_with : (added : List Line) → All (IsOutside inside) added → (l : Line) → Contains first l ⊎ Contains added l → Loosely order (second ++ added) (map_line f l)
  gives_with added out l (inl c) = derives_left order second added (gives l c)
  gives_with added out l (inr c) =
      subst (Loosely order (second ++ added)) (sym (stays l (All-contains (IsOutside inside) added l out c)))
      (derives_right order second added (given order added l c))

  pub covers_by : LooselyCovers order inside first second
  covers_by added j out out_j d =
      subst (Loosely order (second ++ added)) (stays (line_of j) out_j)
      (carry order (first ++ added) (second ++ added) f keeps (λ l c. gives_with added out l (Contains-append_cases first added l c)) d)

-- a list covers another where it derives its lines
pub covers_lines : (order : Below) (inside : Base → Bool) (first second : List Line) → ((l : Line) → Contains first l → Loosely order second l) → LooselyCovers order inside first second
covers_lines order inside first second gives =
    covers_by order inside first second (λ x. x) (λ x l. refl) (λ x e. refl)
    (λ l c. subst (Loosely order second) (sym (map_line-fixed (λ x. x) l (λ x h. refl))) (gives l c))

-- two lists are alike as soon as each derives the other's lines
pub exchange : (order : Below) (inside : Base → Bool) (first second : List Line) →
    ((l : Line) → Contains first l → Loosely order second l) → ((l : Line) → Contains second l → Loosely order first l) → LooselyAlike order inside first second
exchange order inside first second forth back = (covers_lines order inside first second forth, covers_lines order inside second first back)

-- and where each derives them not only loosely
pub exchange_exact : (order : Below) (inside : Base → Bool) (first second : List Line) →
    ((l : Line) → Contains first l → Derivable order second l) → ((l : Line) → Contains second l → Derivable order first l) → LooselyAlike order inside first second
exchange_exact order inside first second forth back =
    exchange order inside first second (λ l c. embed order second (forth l c)) (λ l c. embed order first (back l c))

pub loosely-refl : (order : Below) (inside : Base → Bool) (lines : List Line) → LooselyAlike order inside lines lines
loosely-refl order inside lines = (λ added j out out_j d. d, λ added j out out_j d. d)

pub covers-trans : (order : Below) (inside : Base → Bool) (first second third : List Line) → LooselyCovers order inside first second → LooselyCovers order inside second third → LooselyCovers order inside first third
covers-trans order inside first second third a b = λ added j out out_j d. b added j out out_j (a added j out out_j d)

pub loosely-trans : (order : Below) (inside : Base → Bool) (first second third : List Line) → LooselyAlike order inside first second → LooselyAlike order inside second third → LooselyAlike order inside first third
loosely-trans order inside first second third a b = (covers-trans order inside first second third a.0 b.0, covers-trans order inside third second first b.1 a.1)

-- Lists of lines that tell the outside the same.
use Rattle.std.proofs.Common.{◌≡◌, ◌⊎◌, inl, inr, List, [], ◌∷◌, ◌++◌, All, Contains, Bool, false, refl, sym, subst, append_assoc, append-nil}
use Rattle.std.proofs.lemmas.List.Elements.{Contains-append_left, Contains-append_right, Contains-append_cases, All-contains}
use Rattle.rt_lines.specs.declared.label.Label.{Label}
use Rattle.rt_lines.specs.declared.variable.Base.{Base}
use Rattle.rt_lines.specs.declared.variable.Dtv.{Dtv}
use Rattle.rt_lines.specs.declared.line.Line.{Line}
use Rattle.rt_lines.specs.declared.line.Line.TheVariants.{Var, Same, Sub, Low, Up}
use Rattle.rt_lines.specs.Orders.{Below}
use Rattle.rt_rules.specs.Rules.{longer, extended, HasSide, Derivable, line_of}
use Rattle.rt_rules.specs.Rules.Derivable.{prefix}
use Rattle.rt_rules.specs.Alike.{IsOutside, Covers, Alike, map_line}
use Rattle.rt_rules.proofs.Carry.{given, carry}

-- a map that leaves the sides of a line where they are leaves the line
pub map_line-fixed : (f : Dtv → Dtv) (l : Line) → ((x : Dtv) → HasSide l x → f x ≡ x) → map_line f l ≡ l
map_line-fixed f (Var x) h = rw (h x refl) refl
map_line-fixed f (Same x y) h = rw (h x (inl refl), h y (inr refl)) refl
map_line-fixed f (Sub x y) h = rw (h x (inl refl), h y (inr refl)) refl
map_line-fixed f (Low k x) h = rw (h x refl) refl
map_line-fixed f (Up x k) h = rw (h x refl) refl

-- what a list derives, each list derives that derives its lines
pub derives_more : (order : Below) (lines others : List Line) → ((l : Line) → Contains lines l → Derivable order others l) → {j : Line} → Derivable order lines j → Derivable order others j
derives_more order lines others gives {j = j} d =
    subst (Derivable order others) (map_line-fixed (λ x. x) j (λ x h. refl))
    (carry order lines others (λ x. x) (λ x l. refl) (λ l c. subst (Derivable order others) (sym (map_line-fixed (λ x. x) l (λ x h. refl))) (gives l c)) d)

-- what a list derives, it derives with more lines behind it
pub derives_left : (order : Below) (lines more : List Line) {j : Line} → Derivable order lines j → Derivable order (lines ++ more) j
derives_left order lines more d = derives_more order lines (lines ++ more) (λ l c. given order (lines ++ more) l (Contains-append_left lines more l c)) d

-- what a list derives, it derives with more lines before it
pub derives_right : (order : Below) (more lines : List Line) {j : Line} → Derivable order lines j → Derivable order (more ++ lines) j
derives_right order more lines d = derives_more order lines (more ++ lines) (λ l c. given order (more ++ lines) l (Contains-append_right more lines l c)) d

pub extended-nil : (x : Dtv) → extended x [] ≡ x
extended-nil x = λ i. record { base = x.base; word = append-nil x.word i }

pub extended-cons : (x : Dtv) (l : Label) (w : List Label) → extended (longer x l) w ≡ extended x (l ∷ w)
extended-cons x l w = λ i. record { base = x.base; word = append_assoc x.word (l ∷ []) w i }

-- where there is a variable, there is each with a front of its word
pub front : (order : Below) (lines : List Line) (x : Dtv) (w : List Label) → Derivable order lines (Var (extended x w)) → Derivable order lines (Var x)
front order lines x [] d = subst (λ v. Derivable order lines (Var v)) (extended-nil x) d
front order lines x (l ∷ w) d = prefix l (front order lines (longer x l) w (subst (λ v. Derivable order lines (Var v)) (sym (extended-cons x l w)) d))

-- a map that leaves the outside where it is, and a second list that derives the image of each line of the first
module _ (order : Below) (inside : Base → Bool) (first second : List Line) (f : Dtv → Dtv)
    (keeps : (x : Dtv) (l : Label) → f (longer x l) ≡ longer (f x) l)
    (fixes : (x : Dtv) → inside x.base ≡ false → f x ≡ x)
    (gives : (l : Line) → Contains first l → Derivable order second (map_line f l)) where
  stays : (l : Line) → IsOutside inside l → map_line f l ≡ l
  stays l out = map_line-fixed f l (λ x h. fixes x (out x h))

  gives_with : (added : List Line) → All (IsOutside inside) added → (l : Line) → Contains first l ⊎ Contains added l → Derivable order (second ++ added) (map_line f l)
  gives_with added out l (inl c) = derives_left order second added (gives l c)
  gives_with added out l (inr c) =
      subst (Derivable order (second ++ added)) (sym (stays l (All-contains (IsOutside inside) added l out c)))
      (derives_right order second added (given order added l c))

  pub covers_by : Covers order inside first second
  covers_by added j out out_j d =
      subst (Derivable order (second ++ added)) (stays (line_of j) out_j)
      (carry order (first ++ added) (second ++ added) f keeps (λ l c. gives_with added out l (Contains-append_cases first added l c)) d)

-- a list covers another where it derives its lines
pub covers_lines : (order : Below) (inside : Base → Bool) (first second : List Line) → ((l : Line) → Contains first l → Derivable order second l) → Covers order inside first second
covers_lines order inside first second gives =
    covers_by order inside first second (λ x. x) (λ x l. refl) (λ x e. refl)
    (λ l c. subst (Derivable order second) (sym (map_line-fixed (λ x. x) l (λ x h. refl))) (gives l c))

-- two lists are alike as soon as each derives the other's lines
pub exchange : (order : Below) (inside : Base → Bool) (first second : List Line) →
    ((l : Line) → Contains first l → Derivable order second l) → ((l : Line) → Contains second l → Derivable order first l) → Alike order inside first second
exchange order inside first second forth back = (covers_lines order inside first second forth, covers_lines order inside second first back)

pub Alike-refl : (order : Below) (inside : Base → Bool) (lines : List Line) → Alike order inside lines lines
Alike-refl order inside lines = (λ added j out out_j d. d, λ added j out out_j d. d)

pub Alike-sym : (order : Below) (inside : Base → Bool) (first second : List Line) → Alike order inside first second → Alike order inside second first
Alike-sym order inside first second a = (a.1, a.0)

pub Covers-trans : (order : Below) (inside : Base → Bool) (first second third : List Line) → Covers order inside first second → Covers order inside second third → Covers order inside first third
Covers-trans order inside first second third a b = λ added j out out_j d. b added j out out_j (a added j out out_j d)

pub Alike-trans : (order : Below) (inside : Base → Bool) (first second third : List Line) → Alike order inside first second → Alike order inside second third → Alike order inside first third
Alike-trans order inside first second third a b = (Covers-trans order inside first second third a.0 b.0, Covers-trans order inside third second first b.1 a.1)

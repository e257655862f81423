-- The rules over variables built at the right end.
use Rattle.std.proofs.Common.{◌≡◌, List, [], ◌∷◌, ◌++◌, refl, ap, sym, ◌∙◌}
use Rattle.rt_lines.specs.declared.label.Label.{Label}
use Rattle.rt_lines.specs.declared.label.Label.TheVariants.{Load, Store}
use Rattle.rt_lines.specs.declared.label.Variance.{Variance}
use Rattle.rt_lines.specs.declared.label.Variance.TheVariants.{Co, Contra}
use Rattle.rt_lines.specs.declared.variable.Dtv.{Dtv}
use Rattle.rt_lines.specs.declared.line.Line.TheVariants.{Var as VarLine}
use Rattle.rt_lines.specs.Words.{label_variance, times, variance_of_word}
use Rattle.rt_rules.specs.Rules.{longer, extended, Derivable}
use Rattle.rt_rules.specs.Rules.Derivable.{prefix as front_of, same_letter, same_sub, same_self, same_back, same_chain, same_longer, sub_line, sub_self, sub_chain, sub_co, sub_contra, sub_pointer}
use Rattle.rt_rules.proofs.Carry.{are_there}
use Rattle.rt_rules.proofs.Covering.{extended-nil, extended-cons}
use Rattle.rt_bridge.specs.Growing.{Var, at, dot, dv, rest, vd, Given, Fact, V, E, S, line_of, Der, HasSub}

pub der : (L : Given) (f : Fact) → Derivable L.order L.lines (line_of f) → Der L f
der L f d = record { derives = d }

pub e2 : {L : Given} {x : Var} (l : Label) → Der L (V (dot x l)) → Der L (V x)
e2 {L} {x} l d = der L (V x) (front_of l d.derives)

pub e4 : {L : Given} {x y : Var} (l : Label) → Der L (E x y) → Der L (V (dot x l)) → Der L (V (dot y l))
e4 {L} {x} {y} l d e = der L (V (dot y l)) (same_letter l d.derives e.derives)

pub q1 : {L : Given} {x y : Var} → Der L (S x y) → Der L (E x y)
q1 {L} {x} {y} d = der L (E x y) (same_sub d.derives)

pub q2 : {L : Given} {x : Var} → Der L (V x) → Der L (E x x)
q2 {L} {x} d = der L (E x x) (same_self d.derives)

pub q3 : {L : Given} {x y : Var} → Der L (E x y) → Der L (E y x)
q3 {L} {x} {y} d = der L (E y x) (same_back d.derives)

pub q4 : {L : Given} {x y z : Var} → Der L (E x y) → Der L (E y z) → Der L (E x z)
q4 {L} {x} {y} {z} d e = der L (E x z) (same_chain d.derives e.derives)

pub q5 : {L : Given} {x y : Var} (l : Label) → Der L (E x y) → Der L (V (dot x l)) → Der L (E (dot x l) (dot y l))
q5 {L} {x} {y} l d e = der L (E (dot x l) (dot y l)) (same_longer l d.derives e.derives)

pub s1 : {L : Given} {x y : Var} → HasSub L x y → Der L (S x y)
s1 {L} {x} {y} m = der L (S x y) (sub_line m)

pub s2 : {L : Given} {x : Var} → Der L (V x) → Der L (S x x)
s2 {L} {x} d = der L (S x x) (sub_self d.derives)

pub s3 : {L : Given} {x y z : Var} → Der L (S x y) → Der L (S y z) → Der L (S x z)
s3 {L} {x} {y} {z} d e = der L (S x z) (sub_chain d.derives e.derives)

pub s4 : {L : Given} {x y : Var} (l : Label) → Der L (S x y) → Der L (V (dot y l)) → label_variance l ≡ Co → Der L (S (dot x l) (dot y l))
s4 {L} {x} {y} l d e h = der L (S (dot x l) (dot y l)) (sub_co l d.derives e.derives h)

pub s5 : {L : Given} {x y : Var} (l : Label) → Der L (S x y) → Der L (V (dot y l)) → label_variance l ≡ Contra → Der L (S (dot y l) (dot x l))
s5 {L} {x} {y} l d e h = der L (S (dot y l) (dot x l)) (sub_contra l d.derives e.derives h)

pub s6 : {L : Given} {x : Var} → Der L (V (dot x Load)) → Der L (V (dot x Store)) → Der L (S (dot x Store) (dot x Load))
s6 {L} {x} d e = der L (S (dot x Store) (dot x Load)) (sub_pointer (dv x) d.derives e.derives)

abbrev pub IsBoth : (L : Given) → Fact → Type 0
IsBoth L (V x) = Der L (V x)
IsBoth L (E x y) = Der L (V x) × Der L (V y)
IsBoth L (S x y) = Der L (V x) × Der L (V y)

pub both : (L : Given) {f : Fact} → Der L f → IsBoth L f
both L {f = V x} d = d
both L {f = E x y} d = let p : Derivable L.order L.lines (VarLine (dv x)) × Derivable L.order L.lines (VarLine (dv y)) = are_there L.order L.lines d.derives in (der L (V x) p.0, der L (V y) p.1)
both L {f = S x y} d = let p : Derivable L.order L.lines (VarLine (dv x)) × Derivable L.order L.lines (VarLine (dv y)) = are_there L.order L.lines d.derives in (der L (V x) p.0, der L (V y) p.1)

pub prefix : (L : Given) (z : List Label) {x : Var} → Der L (V (rest x z)) → Der L (V x)
prefix L [] d = d
prefix L (l ∷ z) d = e2 l (prefix L z d)

pub same_rest : (L : Given) (z : List Label) {x y : Var} → Der L (E x y) → Der L (V (rest x z)) → Der L (E (rest x z) (rest y z))
same_rest L [] e d = e
same_rest L (l ∷ z) e d = same_rest L z (q5 l e (prefix L z d)) d

-- below, or above, as the sign says
abbrev pub Turned : Given → Variance → Var → Var → Type 0
Turned L Co x y = Der L (S x y)
Turned L Contra x y = Der L (S y x)

pub Turned-contra : (L : Given) (b : Variance) (x y : Var) → Turned L b y x → Turned L (times Contra b) x y
Turned-contra L Co x y h = h
Turned-contra L Contra x y h = h

pub by_sign : (L : Given) (z : List Label) (l : Label) (x y : Var) (s : Variance) → label_variance l ≡ s →
    (label_variance l ≡ Co → Turned L (variance_of_word z) (rest (dot x l) z) (rest (dot y l) z)) →
    (label_variance l ≡ Contra → Turned L (variance_of_word z) (rest (dot y l) z) (rest (dot x l) z)) →
    Turned L (times (label_variance l) (variance_of_word z)) (rest (dot x l) z) (rest (dot y l) z)
by_sign L z l x y Co e f g = rw e (f e)
by_sign L z l x y Contra e f g = rw e (Turned-contra L (variance_of_word z) (rest (dot x l) z) (rest (dot y l) z) (g e))

pub below_rest : (L : Given) (z : List Label) (x y : Var) → Der L (S x y) → Der L (V (rest y z)) → Turned L (variance_of_word z) (rest x z) (rest y z)
below_rest L [] x y h d = h
below_rest L (l ∷ z) x y h d =
    by_sign L z l x y (label_variance l) refl
    (λ e. below_rest L z (dot x l) (dot y l) (s4 l h (prefix L z d) e) d)
    (λ e. below_rest L z (dot y l) (dot x l) (s5 l h (prefix L z d) e) (both L (same_rest L z (q5 l (q3 (q1 h)) (prefix L z d)) d)).1)

pub dv-rest : (w : List Label) (x : Var) → dv (rest x w) ≡ extended (dv x) w
dv-rest [] x = sym (extended-nil (dv x))
dv-rest (l ∷ w) x = dv-rest w (dot x l) ∙ extended-cons (dv x) l w

pub dv-vd : (x : Dtv) → dv (vd x) ≡ x
dv-vd x = dv-rest x.word (at x.base)

pub rest-append : (w : List Label) (x : Var) (l : Label) → rest x (w ++ l ∷ []) ≡ dot (rest x w) l
rest-append [] x l = refl
rest-append (m ∷ w) x l = rest-append w (dot x m) l

pub vd-longer : (x : Dtv) (l : Label) → vd (longer x l) ≡ dot (vd x) l
vd-longer x l = rest-append x.word (at x.base) l

pub vd-dv : (x : Var) → vd (dv x) ≡ x
vd-dv (at b) = refl
vd-dv (dot x l) = vd-longer (dv x) l ∙ ap (λ y. dot y l) (vd-dv x)

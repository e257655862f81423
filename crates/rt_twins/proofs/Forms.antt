-- Judgements between variables that become two: for each of them or for some, by whether their sides lead on.
use Rattle.std.proofs.Common.{◌≡◌, List, [], ◌∷◌, ◌++◌, Bool, true, false, not, refl, ap, ◌∙◌}
use Rattle.rt_lines.specs.declared.label.Label.{Label}
use Rattle.rt_lines.specs.declared.label.Variance.{Variance}
use Rattle.rt_lines.specs.declared.label.Variance.TheVariants.{Co, Contra}
use Rattle.rt_lines.specs.declared.variable.Dtv.{Dtv}
use Rattle.rt_lines.specs.Words.{label_variance, times, variance_of_word}
use Rattle.rt_lines.proofs.Signs.{times-co, variance_of_word-append}
use Rattle.rt_rules.specs.Rules.{longer}
use Rattle.rt_twins.specs.Inside.Parts.{is_other, leads}
use Rattle.rt_twins.specs.Twinnings.{IsLeftUse, IsRightUse}

other_left : (s v : Variance) → is_other s v ≡ true → v ≡ times Contra s
other_left Co Co e = absurd (cc)
other_left Co Contra e = refl
other_left Contra Co e = refl
other_left Contra Contra e = absurd (cc)

other_right : (s v : Variance) → is_other s v ≡ false → v ≡ s
other_right Co Co e = refl
other_right Co Contra e = absurd (cc)
other_right Contra Co e = absurd (cc)
other_right Contra Contra e = refl

other_of_left : (s v : Variance) → v ≡ times Contra s → is_other s v ≡ true
other_of_left Co v e = ap (is_other Co) e
other_of_left Contra v e = ap (is_other Contra) e

other_of_right : (s v : Variance) → v ≡ s → is_other s v ≡ false
other_of_right Co v e = ap (is_other Co) e
other_of_right Contra v e = ap (is_other Contra) e

pub left_leads : (s : Variance) (x : Dtv) → IsLeftUse s x.word → leads s x ≡ true
left_leads s x e = other_of_left s (variance_of_word x.word) e

pub right_leads : (s : Variance) (x : Dtv) → IsRightUse s x.word → leads s x ≡ false
right_leads s x e = other_of_right s (variance_of_word x.word) e

pub leads_left : (s : Variance) (x : Dtv) → leads s x ≡ true → IsLeftUse s x.word
leads_left s x e = other_left s (variance_of_word x.word) e

pub leads_right : (s : Variance) (x : Dtv) → leads s x ≡ false → IsRightUse s x.word
leads_right s x e = other_right s (variance_of_word x.word) e

-- no variable is a use of the sign as either side
both_none : (s v : Variance) → is_other s v ≡ true → v ≡ s → ⊥
both_none Co Co e f = absurd (cc)
both_none Co Contra e f = absurd (cc)
both_none Contra Co e f = absurd (cc)
both_none Contra Contra e f = absurd (cc)

none_both : (s v : Variance) → is_other s v ≡ false → v ≡ times Contra s → ⊥
none_both Co Co e f = absurd (cc)
none_both Co Contra e f = absurd (cc)
none_both Contra Co e f = absurd (cc)
none_both Contra Contra e f = absurd (cc)

pub not_both : (s : Variance) (x : Dtv) → leads s x ≡ true → IsRightUse s x.word → ⊥
not_both s x e f = both_none s (variance_of_word x.word) e f

pub not_both_back : (s : Variance) (x : Dtv) → leads s x ≡ false → IsLeftUse s x.word → ⊥
not_both_back s x e f = none_both s (variance_of_word x.word) e f

variance-longer : (w : List Label) (l : Label) → variance_of_word (w ++ l ∷ []) ≡ times (variance_of_word w) (label_variance l)
variance-longer w l = variance_of_word-append w (l ∷ []) ∙ ap (times (variance_of_word w)) (times-co (label_variance l))

not-other : (s v : Variance) → is_other s (times v Contra) ≡ not (is_other s v)
not-other Co Co = refl
not-other Co Contra = refl
not-other Contra Co = refl
not-other Contra Contra = refl

pub leads-co : (s : Variance) (x : Dtv) (l : Label) → label_variance l ≡ Co → leads s (longer x l) ≡ leads s x
leads-co s x l e = ap (is_other s) (variance-longer x.word l ∙ ap (times (variance_of_word x.word)) e ∙ times-co (variance_of_word x.word))

pub leads-contra : (s : Variance) (x : Dtv) (l : Label) → label_variance l ≡ Contra → leads s (longer x l) ≡ not (leads s x)
leads-contra s x l e = ap (is_other s) (variance-longer x.word l ∙ ap (times (variance_of_word x.word)) e) ∙
    not-other s (variance_of_word x.word)

-- for each variable or for some, of the left side and of the right one
abbrev pub Form : Bool → Bool → (Dtv → Type 0) → (Dtv → Type 0) → (Dtv → Dtv → Type 0) → Type 0
Form true true P Q R = (a : Dtv) → P a → (b : Dtv) × Q b × R a b
Form true false P Q R = (a b : Dtv) → P a → Q b → R a b
Form false true P Q R = (a : Dtv) × (b : Dtv) × P a × Q b × R a b
Form false false P Q R = (b : Dtv) → Q b → (a : Dtv) × P a × R a b

-- for what has a bound below, and for what has one above
abbrev pub Lowest : Bool → (Dtv → Type 0) → (Dtv → Type 0) → Type 0
Lowest true P R = (a : Dtv) × P a × R a
Lowest false P R = (a : Dtv) → P a → R a

abbrev pub Highest : Bool → (Dtv → Type 0) → (Dtv → Type 0) → Type 0
Highest true P R = (a : Dtv) → P a → R a
Highest false P R = (a : Dtv) × P a × R a

pub chained : (p q r : Bool) (P Q S : Dtv → Type 0) (First Second Both : Dtv → Dtv → Type 0) →
    ((a b c : Dtv) → First a b → Second b c → Both a c) →
    Form p q P Q First → Form q r Q S Second → Form p r P S Both
chained true true true P Q S First Second Both k f g = λ a h. let u = f a h in let v = g u.0 u.1 in (v.0, v.1, k a u.0 v.0 u.2 v.2)
chained true true false P Q S First Second Both k f g = λ a c h i. let u = f a h in k a u.0 c u.2 (g u.0 c u.1 i)
chained true false true P Q S First Second Both k f g = λ a h. (g.1, g.3, k a g.0 g.1 (f a g.0 h g.2) g.4)
chained true false false P Q S First Second Both k f g = λ a c h i. let v = g c i in k a v.0 c (f a v.0 h v.1) v.2
chained false true true P Q S First Second Both k f g = let v = g f.1 f.3 in (f.0, v.0, f.2, v.1, k f.0 f.1 v.0 f.4 v.2)
chained false true false P Q S First Second Both k f g = λ c i. (f.0, f.2, k f.0 f.1 c f.4 (g f.1 c f.3 i))
chained false false true P Q S First Second Both k f g = let u = f g.0 g.2 in (u.0, g.1, u.1, g.3, k u.0 g.0 g.1 u.2 g.4)
chained false false false P Q S First Second Both k f g = λ c i. let v = g c i in let u = f v.0 v.1 in (u.0, u.1, k u.0 v.0 c u.2 v.2)

pub raised : (p q : Bool) (P Q R : Dtv → Type 0) (S : Dtv → Dtv → Type 0) (T : Dtv → Type 0) → ((a b : Dtv) → R a → S a b → T b) →
    Lowest p P R → Form p q P Q S → Lowest q Q T
raised true true P Q R S T k f g = let v = g f.0 f.1 in (v.0, v.1, k f.0 v.0 f.2 v.2)
raised true false P Q R S T k f g = λ b i. k f.0 b f.2 (g f.0 b f.1 i)
raised false true P Q R S T k f g = (g.1, g.3, k g.0 g.1 (f g.0 g.2) g.4)
raised false false P Q R S T k f g = λ b i. let u = g b i in k u.0 b (f u.0 u.1) u.2

pub lowered : (p q : Bool) (P Q : Dtv → Type 0) (S : Dtv → Dtv → Type 0) (R T : Dtv → Type 0) → ((a b : Dtv) → S a b → R b → T a) →
    Form p q P Q S → Highest q Q R → Highest p P T
lowered true true P Q S R T k g f = λ a h. let v = g a h in k a v.0 v.2 (f v.0 v.1)
lowered true false P Q S R T k g f = λ a h. k a f.0 (g a f.0 h f.1) f.2
lowered false true P Q S R T k g f = (g.0, g.2, k g.0 g.1 g.4 (f g.1 g.3))
lowered false false P Q S R T k g f = let u = g f.0 f.1 in (u.0, u.1, k u.0 f.0 u.2 f.2)

pub reversed : (p q : Bool) (P Q : Dtv → Type 0) (R : Dtv → Dtv → Type 0) → Form p q P Q R → Form (not q) (not p) Q P (λ b a. R a b)
reversed true true P Q R f = f
reversed true false P Q R f = λ b a i h. f a b h i
reversed false true P Q R f = (f.1, f.0, f.3, f.2, f.4)
reversed false false P Q R f = f

pub some_of : (p q : Bool) (P Q : Dtv → Type 0) (R : Dtv → Dtv → Type 0) (x y : Dtv) → P x → Q y → Form p q P Q R →
    (a : Dtv) × (b : Dtv) × P a × Q b × R a b
some_of true true P Q R x y h i f = let v = f x h in (x, v.0, h, v.1, v.2)
some_of true false P Q R x y h i f = (x, y, h, i, f x y h i)
some_of false true P Q R x y h i f = f
some_of false false P Q R x y h i f = let u = f y i in (u.0, y, u.1, i, u.2)

-- what has some variable has one, and what has all of them has one
pub some_low : (p : Bool) (P R : Dtv → Type 0) (x : Dtv) → P x → Lowest p P R → (a : Dtv) × P a × R a
some_low true P R x h f = f
some_low false P R x h f = (x, h, f x h)

pub some_high : (p : Bool) (P R : Dtv → Type 0) (x : Dtv) → P x → Highest p P R → (a : Dtv) × P a × R a
some_high true P R x h f = (x, h, f x h)
some_high false P R x h f = f

-- the same between variables with a letter more
pub lettered : (l : Label) (p q : Bool) (P Q P' Q' : Dtv → Type 0) (R R' : Dtv → Dtv → Type 0) →
    ((a : Dtv) → P' a → (b : Dtv) × (a ≡ longer b l) × P b) → ((a : Dtv) → Q' a → (b : Dtv) × (a ≡ longer b l) × Q b) →
    ((a : Dtv) → P a → P' (longer a l)) → ((a : Dtv) → Q a → Q' (longer a l)) →
    ((a b a' b' : Dtv) → P a → Q b → R a b → a' ≡ longer a l → b' ≡ longer b l → R' a' b') → Form p q P Q R → Form p q P' Q' R'
lettered l true true P Q P' Q' R R' dp dq up uq k f = λ a h.
    let d = dp a h in let v = f d.0 d.2 in (longer v.0 l, uq v.0 v.1, k d.0 v.0 a (longer v.0 l) d.2 v.1 v.2 d.1 refl)
lettered l true false P Q P' Q' R R' dp dq up uq k f = λ a b h i.
    let d = dp a h in let e = dq b i in k d.0 e.0 a b d.2 e.2 (f d.0 e.0 d.2 e.2) d.1 e.1
lettered l false true P Q P' Q' R R' dp dq up uq k f =
    (longer f.0 l, longer f.1 l, up f.0 f.2, uq f.1 f.3, k f.0 f.1 (longer f.0 l) (longer f.1 l) f.2 f.3 f.4 refl refl)
lettered l false false P Q P' Q' R R' dp dq up uq k f = λ b i.
    let e = dq b i in let u = f e.0 e.2 in (longer u.0 l, up u.0 u.1, k u.0 e.0 (longer u.0 l) b u.1 e.2 u.2 refl e.1)

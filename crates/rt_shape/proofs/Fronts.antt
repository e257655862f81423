-- Fronts of words.
use Rattle.std.proofs.Common.{◌≡◌, ℕ, ◌+◌, ◌<◌, List, [], ◌∷◌, ◌++◌, length, get_or, take, sym, ap, subst, ◌∙◌, append_assoc}
use Rattle.std.proofs.lemmas.List.{take_more}
use Rattle.rt_lines.specs.declared.label.Label.{Label}
use Rattle.rt_lines.specs.declared.variable.Dtv.{Dtv}
use Rattle.rt_rules.specs.Rules.{longer, extended}
use Rattle.rt_rules.proofs.Covering.{extended-nil}
use Rattle.rt_shape.specs.Shapes.{IsFront}

-- the front of so many letters
abbrev pub front_of : Dtv → ℕ → Dtv
front_of x n = record { base = x.base; word = take n x.word }

pub IsFront-self : (x y : Dtv) → x ≡ y → IsFront x y
IsFront-self x y e = ([], extended-nil x ∙ e)

longer-extended : (x : Dtv) (w : List Label) (l : Label) → longer (extended x w) l ≡ extended x (w ++ l ∷ [])
longer-extended x w l = λ i. record { base = x.base; word = append_assoc x.word w (l ∷ []) i }

pub IsFront-longer : (x y : Dtv) (l : Label) → IsFront x y → IsFront x (longer y l)
IsFront-longer x y l (w, e) = (w ++ l ∷ [], sym (longer-extended x w l) ∙ ap (λ v. longer v l) e)

pub front_of-more : (x : Dtv) (items : List Label) (n : ℕ) (d : Label) → items ≡ x.word → n < length items → longer (front_of x n) (get_or items n d) ≡ front_of x (n + 1)
front_of-more x items n d same less =
    let words : take (n + 1) items ≡ take n items ++ get_or items n d ∷ [] = take_more items n d less in
    subst (λ w. longer (record { base = x.base; word = take n w }) (get_or items n d) ≡ record { base = x.base; word = take (n + 1) w }) same
    (ap (λ w. record { base = x.base; word = w }) (sym words))

-- A variable in the place of an existential.
use Rattle.std.proofs.Common.{◌≡◌, ◌≢◌, ℕ, List, [], ◌∷◌, ◌++◌, Bool, true, false, cond, nat_eq, refl, sym, subst, append_assoc}
use Rattle.rt_lines.specs.declared.label.Label.{Label}
use Rattle.rt_lines.specs.declared.variable.Base.{Base}
use Rattle.rt_lines.specs.declared.variable.Base.TheVariants.{Proc, Global, Exist, Outer}
use Rattle.rt_lines.specs.declared.variable.Dtv.{Dtv}
use Rattle.rt_rules.specs.Rules.{longer, extended}
use Rattle.rt_rules.specs.Put.{put_at, put}

longer_at : (t : Bool) (n : ℕ) (z : Dtv) (w : List Label) (l : Label) →
    cond t (extended z (w ++ l ∷ [])) (record { base = Exist n; word = w ++ l ∷ [] }) ≡ longer
    (cond t (extended z w) (record { base = Exist n; word = w })) l
longer_at true n z w l = λ i. record { base = z.base; word = sym (append_assoc z.word w (l ∷ [])) i }
longer_at false n z w l = refl

put_at-longer : (n : ℕ) (z : Dtv) (b : Base) (w : List Label) (l : Label) → put_at n z b (w ++ l ∷ []) ≡ longer (put_at n z b w) l
put_at-longer n z (Proc m) w l = refl
put_at-longer n z (Global m) w l = refl
put_at-longer n z (Outer m) w l = refl
put_at-longer n z (Exist m) w l = longer_at (nat_eq m n) m z w l

-- more letters stay behind what is put
pub put-longer : (n : ℕ) (z x : Dtv) (l : Label) → put n z (longer x l) ≡ longer (put n z x) l
put-longer n z x l = put_at-longer n z x.base x.word l

-- an inside base is not outside
pub not_outside : (inside : Base → Bool) (b c : Base) → inside b ≡ false → inside c ≡ true → b ≢ c
not_outside inside b c e f g = let h : inside c ≡ false = subst (λ a. inside a ≡ false) g e in cc

-- Uses that have no letter, gathered line by line.
use Rattle.std.proofs.Common.{◌≡◌, ℕ, ◌+◌, ◌<◌, ◌⊎◌, inl, inr, List, [], ◌∷◌, ◌++◌, length, take, get_or, Contains, Bool, true}
use Rattle.std.proofs.Common.{Option, Some, None, MatchOption, sym, ap, subst, ◌∙◌}
use Rattle.std.proofs.lemmas.List.{take_more}
use Rattle.std.proofs.lemmas.List.Elements.{Contains-push_cases, Contains-append_left, Contains-append_right}
use Rattle.rt_base.proofs.Lists.{Contains-here, Contains-none}
use Rattle.rt_lines.specs.declared.label.Variance.{Variance}
use Rattle.rt_lines.specs.declared.label.Variance.TheVariants.{Co, Contra}
use Rattle.rt_lines.specs.declared.variable.Base.{Base}
use Rattle.rt_lines.specs.declared.variable.Base.TheVariants.{Exist}
use Rattle.rt_lines.specs.declared.variable.Dtv.{Dtv}
use Rattle.rt_lines.specs.declared.line.Line.{Line}
use Rattle.rt_lines.specs.declared.line.Line.TheVariants.{Sub}
use Rattle.rt_polar.specs.Index.{IsBareNoted}
use Rattle.rt_rules.specs.Put.{exist, use_of}
use Rattle.rt_refine.specs.Groups.{AreNoted}
use Rattle.rt_twins.specs.Inside.Leading.{AreOfLines, IsBare}

-- one line more
pub of_lines_more : (P : ℕ → Line → Type 0) (lines : List Line) (i : ℕ) (l : Line) (old new : ℕ → Bool) → i < length lines →
    l ≡ get_or lines i l → AreOfLines P (take i lines) old → AreNoted (λ n. P n l) old new → AreOfLines P (take (i + 1) lines) new
of_lines_more P lines i l old new less is are noted n = (forth, back)
  where
    Any : List Line → Type 0
    Any ls = (m : Line) × Contains ls m × P n m

    more : take (i + 1) lines ≡ take i lines ++ l ∷ []
    more = take_more lines i l less ∙ ap (λ (k : Line). take i lines ++ k ∷ []) (sym is)

    wider : (m : Line) → Contains (take i lines ++ l ∷ []) m → Contains (take (i + 1) lines) m
    wider m c = subst (λ (ls : List Line). Contains ls m) (sym more) c

    forth : new n ≡ true → Any (take (i + 1) lines)
    forth h = by (noted.source n h)
      where
        by : (old n ≡ true) ⊎ P n l → Any (take (i + 1) lines)
        by (inl g) =
            let s : Any (take i lines) = (are n).0 g in
            (s.0, wider s.0 (Contains-append_left (take i lines) (l ∷ []) s.0 s.1), s.2)
        by (inr p) = (l, wider l (Contains-append_right (take i lines) (l ∷ []) l (Contains-here l [])), p)

    back : Any (take (i + 1) lines) → new n ≡ true
    back (m, c, p) = by (Contains-push_cases (take i lines) l m (subst (λ (ls : List Line). Contains ls m) more c))
      where
        by : Contains (take i lines) m ⊎ (l ≡ m) → new n ≡ true
        by (inl d) = noted.kept n ((are n).1 (m, d, p))
        by (inr e) = noted.added n (subst (P n) (sym e) p)

-- no line yet
pub of_lines_none : (P : ℕ → Line → Type 0) (has : ℕ → Bool) → ((n : ℕ) → has n ≡ true → ⊥) → AreOfLines P [] has
of_lines_none P has none n = (λ h. absurd (none n h), λ s. absurd (Contains-none s.0 s.1))

-- a line is one such use at most
of_sign : (sign : Variance) (m n : ℕ) (y z : Dtv) → use_of sign m y ≡ use_of sign n z → (m ≡ n) × (y ≡ z)
of_sign Co m n y z e =
    let f : exist m ≡ exist n = cc in let g : Exist m ≡ Exist n = ap (λ x. x.base) f in let h : m ≡ n = cc in let i : y ≡ z = cc in (h, i)
of_sign Contra m n y z e =
    let f : exist m ≡ exist n = cc in let g : Exist m ≡ Exist n = ap (λ x. x.base) f in let h : m ≡ n = cc in let i : y ≡ z = cc in (h, i)

pub bare_one : (sign : Variance) (m n : ℕ) (b c : Base) (l : Line) → IsBare sign m b l → IsBare sign n c l → (m ≡ n) × (b ≡ c)
bare_one sign m n b c l (y, e, f) (z, g, h) =
    let s : (m ≡ n) × (y ≡ z) = of_sign sign m n y z (sym e ∙ g) in (s.0, sym f ∙ ap (λ x. x.base) s.1 ∙ h)

-- what the sides of a line are, and the line
pub bare_below : (r : Option (ℕ × Base)) (x y : Dtv) →
    MatchOption r ((n : ℕ) → y ≡ exist n → ⊥) (λ p. (y ≡ exist p.0) × (x.base ≡ p.1)) →
    MatchOption r ((n : ℕ) (b : Base) → IsBare Co n b (Sub x y) → ⊥) (λ p. IsBare Co p.0 p.1 (Sub x y))
bare_below None x y h = λ n b s. let e : Sub x y ≡ Sub s.0 (exist n) = s.1 in let f : y ≡ exist n = cc in h n f
bare_below (Some p) x y h = (x, ap (Sub x) h.0, h.1)

pub bare_above : (r : Option (ℕ × Base)) (x y : Dtv) →
    MatchOption r ((n : ℕ) → x ≡ exist n → ⊥) (λ p. (x ≡ exist p.0) × (y.base ≡ p.1)) →
    MatchOption r ((n : ℕ) (b : Base) → IsBare Contra n b (Sub x y) → ⊥) (λ p. IsBare Contra p.0 p.1 (Sub x y))
bare_above None x y h = λ n b s. let e : Sub x y ≡ Sub (exist n) s.0 = s.1 in let f : x ≡ exist n = cc in h n f
bare_above (Some p) x y h = (y, ap (λ z. Sub z y) h.0, h.1)

pub not_below : (sign : Variance) (n : ℕ) (b : Base) (l : Line) → ((x y : Dtv) → l ≡ Sub x y → ⊥) → IsBare sign n b l → ⊥
not_below Co n b l none (z, e, f) = none z (exist n) e
not_below Contra n b l none (z, e, f) = none (exist n) z e

-- an arrow that is added
pub arrow_noted : (sign : Variance) (l : Line) (d n : ℕ) (b : Base) (old new : ℕ → ℕ → Bool) → IsBare sign n b l → b ≡ Exist d →
    IsBareNoted d n old new → (m : ℕ) → AreNoted (λ k. IsBare sign k (Exist m) l) (old m) (new m)
arrow_noted sign l d n b old new is e noted m = record {
  added = λ k p. added k (bare_one sign k n (Exist m) b l p is);
  kept = λ k h. noted.kept m k h;
  source = λ k h. source k (noted.source m k h);
}
  where
    added : (k : ℕ) → (k ≡ n) × (Exist m ≡ b) → new m k ≡ true
    added k (f, g) =
        let h : Exist m ≡ Exist d = g ∙ e in
        let i : m ≡ d = cc in
        subst (λ a. new a k ≡ true) (sym i) (subst (λ a. new d a ≡ true) (sym f) noted.added)

    source : (k : ℕ) → (old m k ≡ true) ⊎ ((m ≡ d) × (k ≡ n)) → (old m k ≡ true) ⊎ IsBare sign k (Exist m) l
    source k (inl h) = inl h
    source k (inr (f, g)) =
        inr (subst (λ a. IsBare sign a (Exist m) l) (sym g) (subst (λ c. IsBare sign n c l) (e ∙ ap Exist (sym f)) is))

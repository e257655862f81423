-- Dropping from the end: one answer, nothing lost, nothing to spare.
use Rattle.std.proofs.Common.{◌≡◌, ◌⊎◌, inl, inr, List, [], ◌∷◌, ◌++◌, Contains, refl, ap, sym, subst, append_assoc}
use Rattle.std.proofs.lemmas.List.Elements.{Contains-append_cases, Contains-append_left, Contains-append_right}
use Rattle.rt_lines.specs.declared.line.Line.{Line}
use Rattle.rt_lines.specs.Orders.{Below}
use Rattle.rt_rules.specs.Rules.{Derivable}
use Rattle.rt_base.proofs.Lists.{Contains-none, Contains-cons_cases, Contains-here, Contains-there}
use Rattle.rt_rules.proofs.Carry.{given}
use Rattle.rt_rules.proofs.Covering.{derives_more, exchange}
use Rattle.rt_reduction.specs.Laws.{OneDropLaw, KeptLaw, KeptDeriveLaw, DropsAlikeLaw, NoneToSpareLaw}
use Rattle.rt_reduction.specs.Drops.{Drops}
use Rattle.rt_reduction.specs.Drops.Drops.{ends, goes, stays}

module _ (order : Below) where
  -- one answer
  pub one_drop : {before lines first second : List Line} → Drops order before lines first → Drops order before lines second → first ≡ second
  one_drop (ends before) (ends _) = refl
  one_drop (goes before lines kept l d h) (goes _ _ other _ e k) = one_drop d e
  one_drop (goes before lines kept l d h) (stays _ _ other _ e k) =
      absurd (k (subst (λ ls. Derivable order (before ++ ls) l) (one_drop d e) h))
  one_drop (stays before lines kept l d h) (goes _ _ other _ e k) =
      absurd (h (subst (λ ls. Derivable order (before ++ ls) l) (sym (one_drop d e)) k))
  one_drop (stays before lines kept l d h) (stays _ _ other _ e k) = ap (λ ls. l ∷ ls) (one_drop d e)

  -- what is kept stood there
  pub kept_stood : {before lines kept : List Line} → Drops order before lines kept → (k : Line) → Contains kept k → Contains lines k
  kept_stood (ends before) k c = c
  kept_stood (goes before lines kept l d h) k c = Contains-there l lines k (kept_stood d k c)
  kept_stood (stays before lines kept l d h) k c = elim (Contains-cons_cases l kept k c) [
    | inl e ↦ subst (λ m. Contains (l ∷ lines) m) e (Contains-here l lines)
    | inr e ↦ Contains-there l lines k (kept_stood d k e)
  ]

  -- from a list with a line more, where the line is derivable
  without : (before kept : List Line) (l : Line) → Derivable order (before ++ kept) l → {k : Line} →
      Derivable order ((before ++ l ∷ []) ++ kept) k → Derivable order (before ++ kept) k
  without before kept l h {k} d = derives_more order ((before ++ l ∷ []) ++ kept) (before ++ kept) each d
    where
      one : (m : Line) → (l ≡ m) ⊎ Contains [] m → Derivable order (before ++ kept) m
      one m (inl e) = subst (Derivable order (before ++ kept)) e h
      one m (inr c) = given order (before ++ kept) m (Contains-append_right before kept m (absurd (Contains-none m c)))

      two : (m : Line) → Contains before m ⊎ Contains (l ∷ []) m → Derivable order (before ++ kept) m
      two m (inl c) = given order (before ++ kept) m (Contains-append_left before kept m c)
      two m (inr c) = one m (Contains-cons_cases l [] m c)

      each : (m : Line) → Contains ((before ++ l ∷ []) ++ kept) m → Derivable order (before ++ kept) m
      each m c = elim (Contains-append_cases (before ++ l ∷ []) kept m c) [
        | inl e ↦ two m (Contains-append_cases before (l ∷ []) m e)
        | inr e ↦ given order (before ++ kept) m (Contains-append_right before kept m e)
      ]

  -- each line is derivable from what is kept
  pub kept_derive : {before lines kept : List Line} → Drops order before lines kept → (k : Line) → Contains (before ++ lines) k →
      Derivable order (before ++ kept) k
  kept_derive (ends before) k c = given order (before ++ []) k c
  kept_derive (goes before lines kept l d h) k c =
      without before kept l h (kept_derive d k (subst (λ ls. Contains ls k) (sym (append_assoc before (l ∷ []) lines)) c))
  kept_derive (stays before lines kept l d h) k c =
      subst (λ ls. Derivable order ls k) (append_assoc before (l ∷ []) kept)
      (kept_derive d k (subst (λ ls. Contains ls k) (sym (append_assoc before (l ∷ []) lines)) c))

  -- more lines derive more
  with_one_more : (before rest : List Line) (l : Line) {k : Line} → Derivable order (before ++ rest) k →
      Derivable order ((before ++ l ∷ []) ++ rest) k
  with_one_more before rest l {k} d = derives_more order (before ++ rest) ((before ++ l ∷ []) ++ rest)
      (λ m c. given order ((before ++ l ∷ []) ++ rest) m (elim (Contains-append_cases before rest m c) [
        | inl e ↦ Contains-append_left (before ++ l ∷ []) rest m (Contains-append_left before (l ∷ []) m e)
        | inr e ↦ Contains-append_right (before ++ l ∷ []) rest m e
      ])) d

  -- no kept line is derivable from the other ones
  pub none_to_spare : {before lines kept : List Line} → Drops order before lines kept → (b a : List Line) (k : Line) → kept ≡ b ++ k ∷ a →
      Derivable order (before ++ (b ++ a)) k → ⊥
  none_to_spare (ends before) [] a k e d = absurd (cc)
  none_to_spare (ends before) (m ∷ b) a k e d = absurd (cc)
  none_to_spare (goes before lines kept l s h) b a k e d = none_to_spare s b a k e (with_one_more before (b ++ a) l d)
  none_to_spare (stays before lines kept l s h) [] a k e d =
      let e1 : l ≡ k = cc in
      let e2 : kept ≡ a = cc in
      h (subst (λ ls. Derivable order (before ++ ls) l) (sym e2) (subst (λ m. Derivable order (before ++ a) m) (sym e1) d))
  none_to_spare (stays before lines kept l s h) (m ∷ b) a k e d =
      let e1 : l ≡ m = cc in
      let e2 : kept ≡ b ++ k ∷ a = cc in
      let d1 : Derivable order (before ++ (l ∷ (b ++ a))) k = subst (λ n. Derivable order (before ++ (n ∷ (b ++ a))) k) (sym e1) d in
      none_to_spare s b a k e2 (subst (λ ls. Derivable order ls k) (sym (append_assoc before (l ∷ []) (b ++ a))) d1)

pub one_drop_lem : OneDropLaw
one_drop_lem order lines first second a b = one_drop order a b

pub kept_lem : KeptLaw
kept_lem order lines kept d = kept_stood order d

pub kept_derive_lem : KeptDeriveLaw
kept_derive_lem order lines kept d l c = kept_derive order d l c

pub drops_alike_lem : DropsAlikeLaw
drops_alike_lem order inside lines kept d =
    exchange order inside lines kept (λ l c. kept_derive order d l c) (λ l c. given order lines l (kept_stood order d l c))

pub none_to_spare_lem : NoneToSpareLaw
none_to_spare_lem order lines kept d before after l cut h = none_to_spare order d before after l cut h

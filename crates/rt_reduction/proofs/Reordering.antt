-- Lines with nothing to spare have nothing to spare in another order.
use Rattle.std.proofs.Common.{◌≡◌, ◌≢◌, ◌↔◌, ℕ, suc, get_or, arith, ◌⊎◌, inl, inr, List, [], ◌∷◌, ◌++◌, All, AllPairs, Contains, refl}
use Rattle.std.proofs.Common.{sym, ap, subst, ◌∙◌}
use Rattle.std.proofs.lemmas.List.Elements.{All-contains}
use Rattle.rt_base.proofs.Lists.{Contains-none, Contains-cons_cases, All-from_contains, Contains-middle, Contains-wider, Contains-middle_cases}
use Rattle.rt_lines.specs.declared.label.Variance.{Variance}
use Rattle.rt_lines.specs.declared.label.Variance.TheVariants.{Co, Contra}
use Rattle.rt_lines.specs.declared.variable.Base.{Base}
use Rattle.rt_lines.specs.declared.variable.Base.TheVariants.{Exist}
use Rattle.rt_lines.specs.declared.variable.Dtv.{Dtv}
use Rattle.rt_lines.specs.declared.line.Line.{Line}
use Rattle.rt_lines.specs.Orders.{Below}
use Rattle.rt_rules.specs.Rules.{Derivable}
use Rattle.rt_rules.specs.Laws.{NamesBase}
use Rattle.rt_rules.specs.Put.{HasUse, use_of}
use Rattle.rt_rules.specs.Reduced.{IsJoined, IsAnchor, IsReduced}
use Rattle.rt_rules.specs.Reduced.IsJoined.{joined_self, joined_line}
use Rattle.rt_rules.proofs.Carry.{given}
use Rattle.rt_rules.proofs.Covering.{derives_more}
use Rattle.rt_reduction.specs.Laws.{ReorderedReducedLaw}

module _ {X : Type 0} where
  -- a list that has an element is cut at it
  pub cut_at : (xs : List X) (x : X) → Contains xs x → (before : List X) × (after : List X) × (xs ≡ before ++ x ∷ after)
  cut_at [] x c = absurd (Contains-none x c)
  cut_at (y ∷ xs) x c = by (Contains-cons_cases y xs x c) (cut_at xs x)
    where
      by : (y ≡ x) ⊎ Contains xs x → (Contains xs x → (before : List X) × (after : List X) × (xs ≡ before ++ x ∷ after)) →
          (before : List X) × (after : List X) × (y ∷ xs ≡ before ++ x ∷ after)
      by (inl e) rest = ([], xs, ap (λ z. z ∷ xs) e)
      by (inr d) rest = let (b, a, f) = rest d in (y ∷ b, a, ap (λ ys. y ∷ ys) f)

  abbrev IsOnce : List X → Type 0
  IsOnce xs = AllPairs (λ a b. a ≢ b) xs

  first_apart : (x : X) (xs : List X) → IsOnce (x ∷ xs) → (y : X) → Contains xs y → x ≢ y
  first_apart x xs h y (k, within, e) f =
      let apart : x ≢ get_or xs k y = h 0 (suc k) y (omega arith) (omega arith) in
      apart (f ∙ sym e)

  once_tail : (x : X) (xs : List X) → IsOnce (x ∷ xs) → IsOnce xs
  once_tail x xs h i j d less within = h (suc i) (suc j) d (omega arith) (omega arith)

  -- where each element stands once, none stands beside itself
  apart : (before after : List X) (x : X) → IsOnce (before ++ x ∷ after) → Contains (before ++ after) x → ⊥
  apart [] after x h c = first_apart x after h x c refl
  apart (b ∷ before) after x h c = by (Contains-cons_cases b (before ++ after) x c)
      (apart before after x (once_tail b (before ++ x ∷ after) h))
    where
      by : (b ≡ x) ⊎ Contains (before ++ after) x → (Contains (before ++ after) x → ⊥) → ⊥
      by (inl e) rest = first_apart b (before ++ x ∷ after) h x (Contains-middle before x after) e
      by (inr d) rest = rest d

module _ (order : Below) (own : Base) (lines other : List Line) (same : (l : Line) → Contains lines l ↔ Contains other l)
    (distinct : AllPairs (λ a b. a ≢ b) other) (re : IsReduced order own lines) where
  names : (b : Base) → NamesBase other b → NamesBase lines b
  names b (l, x, c, h, e) = (l, x, (same l).1 c, h, e)

  back : {j : Line} → Derivable order other j → Derivable order lines j
  back d = derives_more order other lines (λ l c. given order lines l ((same l).1 c)) d

  used : (n : ℕ) → NamesBase other (Exist n) → (l : Line) × Contains other l × (HasUse Co n l ⊎ HasUse Contra n l)
  used n h = let (l, c, u) = re.used n (names (Exist n) h) in (l, (same l).0 c, u)

  -- the others of a line stand beside it in the first list
  beside : (before after b a : List Line) (l : Line) → other ≡ before ++ l ∷ after → lines ≡ b ++ l ∷ a → (k : Line) →
      Contains (before ++ after) k → Contains (b ++ a) k
  beside before after b a l cut cut' k c =
      by (Contains-middle_cases b l a k (subst (λ ls. Contains ls k) cut'
      ((same k).1 (subst (λ ls. Contains ls k) (sym cut) (Contains-wider before l after k c)))))
    where
      by : (l ≡ k) ⊎ Contains (b ++ a) k → Contains (b ++ a) k
      by (inl e) = absurd (apart before after l (subst (AllPairs (λ p q. p ≢ q)) cut distinct)
          (subst (Contains (before ++ after)) (sym e) c))
      by (inr d) = d

  -- and the other way round, as no line follows from the others
  beside_back : (before after b a : List Line) (l : Line) → other ≡ before ++ l ∷ after → lines ≡ b ++ l ∷ a → (k : Line) →
      Contains (b ++ a) k → Contains (before ++ after) k
  beside_back before after b a l cut cut' k c =
      by (Contains-middle_cases before l after k (subst (λ ls. Contains ls k) cut
      ((same k).0 (subst (λ ls. Contains ls k) (sym cut') (Contains-wider b l a k c)))))
    where
      by : (l ≡ k) ⊎ Contains (before ++ after) k → Contains (before ++ after) k
      by (inl e) = absurd (re.needed b a l cut' (given order (b ++ a) l (subst (Contains (b ++ a)) (sym e) c)))
      by (inr d) = d

  cut_of : (before after : List Line) (l : Line) → other ≡ before ++ l ∷ after → (b : List Line) × (a : List Line) × (lines ≡ b ++ l ∷ a)
  cut_of before after l cut = cut_at lines l ((same l).1 (subst (λ ls. Contains ls l) (sym cut) (Contains-middle before l after)))

  needed : (before after : List Line) (l : Line) → other ≡ before ++ l ∷ after → Derivable order (before ++ after) l → ⊥
  needed before after l cut d =
      let (b, a, cut') = cut_of before after l cut in
      re.needed b a l cut' (derives_more order (before ++ after) (b ++ a)
      (λ k c. given order (b ++ a) k (beside before after b a l cut cut' k c)) d)

  no_single_use : (sign : Variance) (n : ℕ) (z : Dtv) (before after : List Line) → z.base ≢ Exist n →
      other ≡ before ++ use_of sign n z ∷ after →
      All (λ l. HasUse sign n l → ⊥) (before ++ after) → ⊥
  no_single_use sign n z before after apart cut alone =
      let (b, a, cut') = cut_of before after (use_of sign n z) cut in
      re.no_single_use sign n z b a apart cut' (All-from_contains (λ l. HasUse sign n l → ⊥) (b ++ a)
      (λ k c. All-contains (λ l. HasUse sign n l → ⊥) (before ++ after) k alone
      (beside_back before after b a (use_of sign n z) cut cut' k c)))

  chain : {a b : Base} → IsJoined lines a b → IsJoined other a b
  chain joined_self = joined_self
  chain (joined_line l c j rest) = joined_line l ((same l).0 c) j (chain rest)

  joined : (n : ℕ) → NamesBase other (Exist n) → (b : Base) × IsAnchor own b × IsJoined other (Exist n) b
  joined n h = let (b, i, j) = re.joined n (names (Exist n) h) in (b, i, chain j)

  reordered : IsReduced order own other
  reordered = record {
    used = used;
    needed = needed;
    no_single_use = no_single_use;
    no_equal = λ n z l c h apart above below. re.no_equal n z l ((same l).1 c) h apart (back above) (back below);
    joined = joined;
    no_self_sub = λ x c. re.no_self_sub x ((same _).1 c);
    no_self_same = λ x c. re.no_self_same x ((same _).1 c);
  }

pub reordered_reduced_lem : ReorderedReducedLaw
reordered_reduced_lem order own lines other same distinct re = reordered order own lines other same distinct re

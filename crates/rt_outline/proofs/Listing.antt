-- Nodes, listed one by one.
use Rattle.std.proofs.Common.{◌≡◌, ℕ, ◌+◌, ◌<◌, ◌≤◌, ◌⊎◌, inl, inr, Bool, true, false, cond, List, [], ◌∷◌, ◌++◌, Contains, Some, unwrap_or, length, get_or, take, refl, sym, ap, subst, ◌∙◌}
use Rattle.std.specs.Map.{lookup}
use Rattle.std.proofs.lemmas.List.{take_all, take_more}
use Rattle.std.proofs.lemmas.List.Elements.{Contains-append_left, Contains-push, Contains-push_cases}
use Rattle.rt_lines.specs.declared.label.Label.{Label}
use Rattle.rt_lines.specs.declared.label.Label.TheVariants.{In, Out, Load, Store, Field}
use Rattle.rt_lines.specs.Equality.{label_eq}
use Rattle.rt_lines.proofs.Equal.{label_equal}
use Rattle.rt_lines.proofs.Same.{label_self}
use Rattle.rt_bridge.specs.Counted.{IsPointer}
use Rattle.rt_shape.specs.Graphs.{letter_eq}
use Rattle.rt_shape.proofs.Letters.{letter_equal, letter_self}
use Rattle.rt_outline.specs.Inside.Beside.{kind_of, list_at, AreKeptIn}

module _ (old new : List ((ℕ × Label) × List ℕ)) (node : ℕ) (key : ℕ × Label) (more : List ℕ) (more_is : more ≡ list_at old key ++ node ∷ [])
    (updates : (q : ℕ × Label) → lookup (letter_eq q) new ≡ cond (letter_eq key q) (Some more) (lookup (letter_eq q) old)) where
  at_new : (q : ℕ × Label) (b : Bool) → letter_eq key q ≡ b → list_at new q ≡ unwrap_or (cond b (Some more) (lookup (letter_eq q) old)) []
  at_new q b e = ap (λ o. unwrap_or o []) (updates q ∙ ap (λ t. cond t (Some more) (lookup (letter_eq q) old)) e)

  -- what was listed still is
  pub noted_kept : AreKeptIn old new
  noted_kept q w c = by (letter_eq key q) refl
    where
      by : (b : Bool) → letter_eq key q ≡ b → Contains (list_at new q) w
      by true e =
          let here : key ≡ q = letter_equal key q e in
          subst (λ xs. Contains xs w) (sym (at_new q true e ∙ more_is)) (Contains-append_left (list_at old key) (node ∷ []) w (subst (λ k. Contains (list_at old k) w) (sym here) c))
      by false e = subst (λ xs. Contains xs w) (sym (at_new q false e)) c

  -- and the node
  pub noted_added : Contains (list_at new key) node
  noted_added = subst (λ xs. Contains xs node) (sym (at_new key true (letter_self key) ∙ more_is)) (Contains-push (list_at old key) node)

-- letters are of one kind, or neither equal nor both of a pointer
pub of_kinds : (l m : Label) → (kind_of l ≡ kind_of m) ⊎ ((l ≡ m → ⊥) × (IsPointer l → IsPointer m → ⊥))
of_kinds l m = by (label_eq (kind_of l) (kind_of m)) refl
  where
    pointers : (l m : Label) → IsPointer l → IsPointer m → kind_of l ≡ kind_of m
    pointers Load Load a b = refl
    pointers Load Store a b = refl
    pointers Store Load a b = refl
    pointers Store Store a b = refl
    pointers Load (In x) a b = absurd b
    pointers Load (Out x) a b = absurd b
    pointers Load (Field x y) a b = absurd b
    pointers Store (In x) a b = absurd b
    pointers Store (Out x) a b = absurd b
    pointers Store (Field x y) a b = absurd b
    pointers (In x) m a b = absurd a
    pointers (Out x) m a b = absurd a
    pointers (Field x y) m a b = absurd a

    differ : (k n : Label) → label_eq k n ≡ false → k ≡ n → ⊥
    differ k n e f = let clash : true ≡ false = sym (label_self k) ∙ ap (label_eq k) f ∙ e in cc

    by : (b : Bool) → label_eq (kind_of l) (kind_of m) ≡ b → (kind_of l ≡ kind_of m) ⊎ ((l ≡ m → ⊥) × (IsPointer l → IsPointer m → ⊥))
    by true e = inl (label_equal (kind_of l) (kind_of m) e)
    by false e = inr (λ f. differ (kind_of l) (kind_of m) e (ap kind_of f), λ a b. differ (kind_of l) (kind_of m) e (pointers l m a b))

-- what holds of each of some numbers holds of one more
module _ (P : ℕ → Type 0) (nodes : List ℕ) where
  pub each_next : (i : ℕ) → i < length nodes → ((w : ℕ) → Contains (take i nodes) w → P w) → P (get_or nodes i 0) → (w : ℕ) → Contains (take (i + 1) nodes) w → P w
  each_next i less each one w c = elim (Contains-push_cases (take i nodes) (get_or nodes i 0) w (subst (λ xs. Contains xs w) (take_more nodes i 0 less) c)) [
    | inl d ↦ each w d
    | inr e ↦ subst P e one
  ]

  pub each_whole : (i : ℕ) → length nodes ≤ i → ((w : ℕ) → Contains (take i nodes) w → P w) → (w : ℕ) → Contains nodes w → P w
  each_whole i whole each w c = each w (subst (λ xs. Contains xs w) (sym (take_all i nodes whole)) c)

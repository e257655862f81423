-- What is kept beside the slots, after a slot is cleared or filled.
use Rattle.std.proofs.Common.{◌≡◌, ◌≢◌, ℕ, zero, suc, ◌<◌, ◌⊎◌, inl, inr, List, [], ◌∷◌, length, get_or, Bool, true, Option, Some, None, refl, sym, ap, subst, ◌∙◌, arith}
use Rattle.std.proofs.Math.ListN.{set}
use Rattle.rt_lines.specs.declared.label.Variance.{Variance}
use Rattle.rt_lines.specs.declared.label.Variance.TheVariants.{Co, Contra}
use Rattle.rt_lines.specs.declared.line.Line.{Line}
use Rattle.rt_lines.specs.declared.line.Line.TheVariants.{Var, Same, Sub, Low, Up}
use Rattle.rt_rules.specs.Put.{HasUse}
use Rattle.rt_polar.specs.declared.index.Kind.{Kind}
use Rattle.rt_polar.specs.declared.index.Kind.TheVariants.{Naming, Defining, Consuming}
use Rattle.rt_polar.specs.Inside.Digests.{digest_of}
use Rattle.rt_polar.specs.Index.{IsBareForgotten, IsBareNoted, IsForgotten, IsNoted, IsOfKind, Names}
use Rattle.rt_polar.specs.Inside.Places.{AreHeld, Holds, IsFound, IsIndexed}
use Rattle.rt_polar.specs.Tidied.{without_self}
use Rattle.rt_polar.proofs.Slots.{cleared_here, cleared_source, filled_here, filled_self, filled_source, one_line}

-- a line with a use names the existential
pub use_names : (sign : Variance) (n : ℕ) (l : Line) → HasUse sign n l → Names n l
use_names sign n (Var x) u = absurd u
use_names sign n (Same x y) u = absurd u
use_names sign n (Sub x y) (inl (e, w)) = (x, inl refl, e)
use_names sign n (Sub x y) (inr (e, w)) = (y, inr refl, e)
use_names sign n (Low k x) (e, w) = (x, refl, e)
use_names sign n (Up x k) (e, w) = (x, refl, e)

pub kind_names : (kind : Kind) (n : ℕ) (l : Line) → IsOfKind kind n l → Names n l
kind_names Naming n l h = h
kind_names Defining n l h = use_names Co n l h
kind_names Consuming n l h = use_names Contra n l h

pub same_or_apart : (i j : ℕ) → (i ≡ j) ⊎ (i ≢ j)
same_or_apart i j = grind arith

empty_none : (slots : List (Option Line)) (i j : ℕ) (l : Line) → get_or slots i None ≡ None → Holds slots j l → j ≢ i
empty_none slots i j l e h f = let g : Holds slots i l = subst (λ k. Holds slots k l) f h in cc

IsIndexed-cleared : (kind : Kind) (slots : List (Option Line)) (slot : ℕ) (l : Line) (old new : ℕ → ℕ → Bool) → Holds slots slot l → IsForgotten l slot old new → IsIndexed kind slots old → IsIndexed kind (set slots slot None) new
IsIndexed-cleared kind slots slot l old new held gone indexed = record {
  here = λ n i k h of. let s = cleared_source slots slot i k h in gone.kept n i (indexed.here n i k s.1 of) (λ e names. s.0 e);
  source = λ n i e. by n i e (indexed.source n i (gone.source n i e));
}
  where
    by : (n i : ℕ) → new n i ≡ true → (k : Line) × Holds slots i k × IsOfKind kind n k → (k : Line) × Holds (set slots slot None) i k × IsOfKind kind n k
    by n i e (k, h, of) = which (same_or_apart i slot)
      where
        which : (i ≡ slot) ⊎ (i ≢ slot) → (k : Line) × Holds (set slots slot None) i k × IsOfKind kind n k
        which (inl f) =
            let same : k ≡ l = one_line slots slot k l (subst (λ m. Holds slots m k) f h) held in
            absurd (gone.gone n (subst (Names n) same (kind_names kind n k of)) (subst (λ m. new n m ≡ true) f e))
        which (inr apart) = (k, cleared_here slots slot i k h apart, of)

IsIndexed-filled : (kind : Kind) (slots : List (Option Line)) (slot : ℕ) (l : Line) (old new : ℕ → ℕ → Bool) → slot < length slots → get_or slots slot None ≡ None → IsNoted kind l slot old new → IsIndexed kind slots old →
    IsIndexed kind (set slots slot (Some l)) new
IsIndexed-filled kind slots slot l old new lt empty noted indexed = record {
  here = λ n i k h of. there n i k of (filled_source slots slot i l k lt h);
  source = λ n i e. back n i (noted.source n i e);
}
  where
    there : (n i : ℕ) (k : Line) → IsOfKind kind n k → ((i ≡ slot) × (l ≡ k)) ⊎ ((i ≢ slot) × Holds slots i k) → new n i ≡ true
    there n i k of (inl (e, f)) = rw e (noted.added n (subst (IsOfKind kind n) (sym f) of))
    there n i k of (inr (apart, h)) = noted.kept n i (indexed.here n i k h of)

    stays : (n i : ℕ) → (k : Line) × Holds slots i k × IsOfKind kind n k → (k : Line) × Holds (set slots slot (Some l)) i k × IsOfKind kind n k
    stays n i (k, h, of) = (k, filled_here slots slot i l k h (empty_none slots slot i k empty h), of)

    back : (n i : ℕ) → (old n i ≡ true) ⊎ ((i ≡ slot) × IsOfKind kind n l) → (k : Line) × Holds (set slots slot (Some l)) i k × IsOfKind kind n k
    back n i (inl e) = stays n i (indexed.source n i e)
    back n i (inr (e, of)) = (l, subst (λ m. Holds (set slots slot (Some l)) m l) (sym e) (filled_self slots slot l lt), of)

IsFound-cleared : (slots : List (Option Line)) (slot : ℕ) (l : Line) (old new : ℕ → ℕ → Bool) → Holds slots slot l → IsBareForgotten (digest_of l) slot old new → IsFound slots old → IsFound (set slots slot None) new
IsFound-cleared slots slot l old new held gone found = record {
  once = λ i j k a b. found.once i j k (cleared_source slots slot i k a).1 (cleared_source slots slot j k b).1;
  digested = λ i k h. let s = cleared_source slots slot i k h in gone.kept (digest_of k) i (found.digested i k s.1) (λ e f. s.0 e);
  source = λ d i e. by d i e (found.source d i (gone.source d i e)) (same_or_apart i slot);
}
  where
    by : (d i : ℕ) → new d i ≡ true → (k : Line) × Holds slots i k × (digest_of k ≡ d) → (i ≡ slot) ⊎ (i ≢ slot) → (k : Line) × Holds (set slots slot None) i k × (digest_of k ≡ d)
    by d i e (k, h, f) (inl g) =
        let same : k ≡ l = one_line slots slot k l (subst (λ m. Holds slots m k) g h) held in
        absurd (gone.gone (subst (λ m. new m slot ≡ true) (sym f ∙ ap digest_of same) (subst (λ m. new d m ≡ true) g e)))
    by d i e (k, h, f) (inr apart) = (k, cleared_here slots slot i k h apart, f)

IsFound-filled : (slots : List (Option Line)) (slot : ℕ) (l : Line) (old new : ℕ → ℕ → Bool) → slot < length slots → get_or slots slot None ≡ None → ((i : ℕ) → Holds slots i l → ⊥) → IsBareNoted (digest_of l) slot old new → IsFound slots old →
    IsFound (set slots slot (Some l)) new
IsFound-filled slots slot l old new lt empty absent noted found = record {
  once = λ i j k a b. one i j k (filled_source slots slot i l k lt a) (filled_source slots slot j l k lt b);
  digested = λ i k h. there i k (filled_source slots slot i l k lt h);
  source = λ d i e. back d i (noted.source d i e);
}
  where
    one : (i j : ℕ) (k : Line) → ((i ≡ slot) × (l ≡ k)) ⊎ ((i ≢ slot) × Holds slots i k) → ((j ≡ slot) × (l ≡ k)) ⊎ ((j ≢ slot) × Holds slots j k) → i ≡ j
    one i j k (inl (a, e)) (inl (b, f)) = a ∙ sym b
    one i j k (inl (a, e)) (inr (b, f)) = absurd (absent j (subst (Holds slots j) (sym e) f))
    one i j k (inr (a, e)) (inl (b, f)) = absurd (absent i (subst (Holds slots i) (sym f) e))
    one i j k (inr (a, e)) (inr (b, f)) = found.once i j k e f

    there : (i : ℕ) (k : Line) → ((i ≡ slot) × (l ≡ k)) ⊎ ((i ≢ slot) × Holds slots i k) → new (digest_of k) i ≡ true
    there i k (inl (e, f)) = rw e (subst (λ m. new (digest_of m) slot ≡ true) f noted.added)
    there i k (inr (apart, h)) = noted.kept (digest_of k) i (found.digested i k h)

    stays : (d i : ℕ) → (k : Line) × Holds slots i k × (digest_of k ≡ d) → (k : Line) × Holds (set slots slot (Some l)) i k × (digest_of k ≡ d)
    stays d i (k, h, f) = (k, filled_here slots slot i l k h (empty_none slots slot i k empty h), f)

    back : (d i : ℕ) → (old d i ≡ true) ⊎ ((d ≡ digest_of l) × (i ≡ slot)) → (k : Line) × Holds (set slots slot (Some l)) i k × (digest_of k ≡ d)
    back d i (inl e) = stays d i (found.source d i e)
    back d i (inr (e, f)) = (l, subst (λ m. Holds (set slots slot (Some l)) m l) (sym f) (filled_self slots slot l lt), sym e)

pub held_cleared : (slots : List (Option Line)) (slot : ℕ) (l : Line) (at at' : ℕ → ℕ → Bool) (n d c n' d' c' : ℕ → ℕ → Bool) → Holds slots slot l → AreHeld slots at n d c →
    IsBareForgotten (digest_of l) slot at at' → IsForgotten l slot n n' → IsForgotten l slot d d' → IsForgotten l slot c c' → AreHeld (set slots slot None) at' n' d' c'
held_cleared slots slot l at at' n d c n' d' c' h held updates named defined consumed = record {
  found = IsFound-cleared slots slot l at at' h updates held.found;
  named = IsIndexed-cleared Naming slots slot l n n' h named held.named;
  defined = IsIndexed-cleared Defining slots slot l d d' h defined held.defined;
  consumed = IsIndexed-cleared Consuming slots slot l c c' h consumed held.consumed;
  plain = λ i k g. held.plain i k (cleared_source slots slot i k g).1;
}

pub held_filled : (slots : List (Option Line)) (slot : ℕ) (l : Line) (at at' : ℕ → ℕ → Bool) (n d c n' d' c' : ℕ → ℕ → Bool) → slot < length slots → get_or slots slot None ≡ None → ((i : ℕ) → Holds slots i l → ⊥) →
    without_self l ≡ l → AreHeld slots at n d c → IsBareNoted (digest_of l) slot at at' → IsNoted Naming l slot n n' → IsNoted Defining l slot d d' → IsNoted Consuming l slot c c' → AreHeld (set slots slot (Some l)) at' n' d' c'
held_filled slots slot l at at' n d c n' d' c' lt empty absent plain held updates named defined consumed = record {
  found = IsFound-filled slots slot l at at' lt empty absent updates held.found;
  named = IsIndexed-filled Naming slots slot l n n' lt empty named held.named;
  defined = IsIndexed-filled Defining slots slot l d d' lt empty defined held.defined;
  consumed = IsIndexed-filled Consuming slots slot l c c' lt empty consumed held.consumed;
  plain = λ i k g. by i k (filled_source slots slot i l k lt g);
}
  where
    by : (i : ℕ) (k : Line) → ((i ≡ slot) × (l ≡ k)) ⊎ ((i ≢ slot) × Holds slots i k) → without_self k ≡ k
    by i k (inl (e, f)) = subst (λ m. without_self m ≡ m) f plain
    by i k (inr (apart, h)) = held.plain i k h

-- an empty slot stays as it is
pub set_none : (slots : List (Option Line)) (i : ℕ) → get_or slots i None ≡ None → set slots i None ≡ slots
set_none [] i e = refl
set_none (s ∷ slots) zero e = ap (λ t. t ∷ slots) (sym e)
set_none (s ∷ slots) (suc i) e = ap (λ ts. s ∷ ts) (set_none slots i e)

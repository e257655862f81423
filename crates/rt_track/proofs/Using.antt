-- What uses and definitions take.
use Rattle.std.proofs.Common.{◌≡◌, ◌+◌, ◌<◌, ◌≤◌, ◌⊎◌, inl, inr, ℕ, zero, suc, Bool, true, false, List, [], ◌∷◌, ◌++◌, length, replicate, set, Option, Some, None, refl, sym, ap, subst, ◌∙◌, arith}
use Rattle.std.specs.Prelude.{if◌then◌else◌, nat_le, pos, slice_get, slice_index_or}
use Rattle.std.proofs.lemmas.List.{get_or_append_left, get_or_push, get_or-set_same, get_or-set_other, length-append, length-set}
use Rattle.std.proofs.lemmas.Bool.{cases_eq, cases_lt}
use Rattle.std.proofs.lemmas.Bool.Decides.{nat_tests}
use Rattle.std.proofs.lemmas.Option.{slice_get_within, slice_get-get_or, get_or_from_slice_get}
use Rattle.rt_flow.specs.declared.def.Def.{Def}
use Rattle.rt_flow.specs.declared.reach.Reach.{Reach}
use Rattle.rt_flow.specs.declared.source.Source.{Source}
use Rattle.rt_flow.specs.declared.source.Source.TheVariants.{Own, Shared}
use Rattle.rt_track.specs.declared.ops.Ops.{Ops}
use Rattle.rt_track.specs.declared.nodes.Input.{Input}
use Rattle.rt_track.specs.declared.nodes.Input.TheVariants as input
use Rattle.rt_track.specs.Inside.Inputs.{AreAllUses, AreKnown, AreUses, Finds, Gathers, IsOfSource, IsUse, Keeps, def_input}
use Rattle.rt_track.specs.Inside.Inputs.Gathers.{none, more}
use Rattle.rt_track.specs.Changes.{change_at, IsAscending}
use Rattle.rt_track.specs.Operations.{entries_of}
use Rattle.rt_track.proofs.Changing.{change_at-push}
use Rattle.rt_flow.specs.Reaching.{sites_of}
use Rattle.rt_flow.specs.Sources.{shared_count_of, shared_in, source_in}
use Rattle.rt_base.proofs.Lists.{slice_get-front, slice_get-last}

pub keeps_itself : (joins : List (Input × Input)) → Keeps joins joins
keeps_itself joins j p e = e

pub keeps_on : (a b c : List (Input × Input)) → Keeps a b → Keeps b c → Keeps a c
keeps_on a b c f g j p e = g j p (f j p e)

pub keeps_more : (joins joins' : List (Input × Input)) (q : Input × Input) → joins' ≡ joins ++ q ∷ [] → Keeps joins joins'
keeps_more joins joins' q e j p f = subst (λ js. slice_get js j ≡ Some p) (sym e) (slice_get-front joins (q ∷ []) j p f)

module _ (ops : Ops) (r : ℕ) (joins joins' : List (Input × Input)) (keeps : Keeps joins joins') where
  -- what was joined stays joined
  pub gathers_still : {x : Input} {defs : List Def} → Gathers ops joins r x defs → Gathers ops joins' r x defs
  gathers_still none = none
  gathers_still (more d g (j, at, e)) = more d (gathers_still g) (j, keeps j _ at, e)

  pub source_still : (reach : Reach) (source : Source) (x : Input) → IsOfSource reach ops joins r source x → IsOfSource reach ops joins' r source x
  source_still reach (Own s) x e = e
  source_still reach (Shared n) x g = gathers_still g

  pub known_still : (reach : Reach) (known : List (Option Input)) → AreKnown reach ops joins r known → AreKnown reach ops joins' r known
  known_still reach known are n x e = gathers_still (are n x e)

pub use_still : (ops : Ops) (joins joins' : List (Input × Input)) → Keeps joins joins' → (reach : Reach) (r s : ℕ) (x : Input) → IsUse reach ops joins r s x → IsUse reach ops joins' r s x
use_still ops joins joins' keeps reach zero s x e = e
use_still ops joins joins' keeps reach (suc r) s x is = source_still ops (suc r) joins joins' keeps reach _ x is

-- one more definition is joined
pub gathers_more : (ops : Ops) (r : ℕ) (joins joins' : List (Input × Input)) (defs : List Def) (d : Def) (all : Input) → Gathers ops joins r all defs → (taken : Input) → taken ≡ def_input ops d r → joins' ≡ joins ++ (all, taken) ∷ []
    → (number : ℕ) → number ≡ length (entries_of ops) + length joins → Gathers ops joins' r (input.Node number) (defs ++ d ∷ [])
gathers_more ops r joins joins' defs d all g taken taken_is e number number_is =
    more d (gathers_still ops r joins joins' (keeps_more joins joins' (all, taken) e) g)
    (length joins, subst (λ js. slice_get js (length joins) ≡ Some (all, def_input ops d r)) (sym e) (subst (λ t. slice_get (joins ++ (all, t) ∷ []) (length joins) ≡ Some (all, def_input ops d r)) (sym taken_is) (slice_get-last joins (all, def_input ops d r))), ap input.Node number_is)

-- a source is that of a register's use
pub use_of_source : (reach : Reach) (ops : Ops) (joins : List (Input × Input)) (r s : ℕ) (x : Input) → 0 < r → IsOfSource reach ops joins r (source_in reach s (pos r)) x → IsUse reach ops joins r s x
use_of_source reach ops joins zero s x some is = absurd (omega arith)
use_of_source reach ops joins (suc r) s x some is = is

-- a change behind the others
ascending_push : (changes : List (ℕ × Input)) (c : ℕ × Input) → IsAscending changes → ((k : ℕ) (d : ℕ × Input) → k < length changes → (slice_index_or changes k d).0 ≤ c.0) → IsAscending (changes ++ c ∷ [])
ascending_push changes c ascending below i j d le less = by (cases_lt j (length changes)) (cases_lt i (length changes))
  where
    long : length (changes ++ c ∷ []) ≡ length changes + 1
    long = length-append changes (c ∷ [])

    old : (k : ℕ) → k < length changes → slice_index_or (changes ++ c ∷ []) k d ≡ slice_index_or changes k d
    old k h = get_or_append_left changes (c ∷ []) d k h

    at_end : (k : ℕ) → length changes ≡ k → slice_index_or (changes ++ c ∷ []) k d ≡ c
    at_end k h = get_or_push changes c d k h

    by : (j < length changes) ⊎ (length changes ≤ j) → (i < length changes) ⊎ (length changes ≤ i) → (slice_index_or (changes ++ c ∷ []) i d).0 ≤ (slice_index_or (changes ++ c ∷ []) j d).0
    by (inl h) (inl g) = subst (λ p. p.0 ≤ (slice_index_or (changes ++ c ∷ []) j d).0) (sym (old i g)) (subst (λ p. (slice_index_or changes i d).0 ≤ p.0) (sym (old j h)) (ascending i j d le h))
    by (inl h) (inr g) = absurd (omega arith)
    by (inr h) (inl g) = subst (λ p. p.0 ≤ (slice_index_or (changes ++ c ∷ []) j d).0) (sym (old i g)) (subst (λ p. (slice_index_or changes i d).0 ≤ p.0) (sym (at_end j (omega (arith, long)))) (below i d g))
    by (inr h) (inr g) = subst (λ p. p.0 ≤ (slice_index_or (changes ++ c ∷ []) j d).0) (sym (at_end i (omega (arith, long)))) (subst (λ p. c.0 ≤ p.0) (sym (at_end j (omega (arith, long)))) (omega arith))

-- the uses of a register at the sites before one
pub record IsChanging (reach : Reach) (ops : Ops) (r : ℕ) (start : List (Input × Input)) (site : ℕ) (joins : List (Input × Input)) (known : List (Option Input)) (changes : List (ℕ × Input)) (last : Option Source) : Type 0 where
  pub keeps : Keeps start joins
  pub each : length known ≡ shared_count_of reach
  pub are_known : AreKnown reach ops joins r known
  pub past : (t : ℕ) → t < site → IsOfSource reach ops joins r (source_in reach t (pos r)) (change_at changes t input.Nothing)
  pub ahead : (source : Source) → last ≡ Some source → (t : ℕ) → site ≤ t → IsOfSource reach ops joins r source (change_at changes t input.Nothing)
  pub ascending : IsAscending changes
  pub below : (k : ℕ) (d : ℕ × Input) → k < length changes → (slice_index_or changes k d).0 < site

module _ (reach : Reach) (ops : Ops) (r : ℕ) (start : List (Input × Input)) where
  pub no_changes : (known : List (Option Input)) → length known ≡ shared_count_of reach → ((n : ℕ) → slice_index_or known n None ≡ None) → IsChanging reach ops r start 0 start known [] None
  no_changes known each empty = record {
    keeps = keeps_itself start;
    each = each;
    are_known = λ n x e. absurd (clash x (sym (empty n) ∙ e));
    past = λ t less. absurd (omega arith);
    ahead = λ source e. absurd (other source e);
    ascending = λ i j d le less. absurd (omega arith);
    below = λ k d less. absurd (omega arith);
  }
    where
      clash : (x : Input) → None ≡ Some x → ⊥
      clash x e = cc

      other : (source : Source) → None ≡ Some source → ⊥
      other source e = cc

  module _ (site : ℕ) (joins : List (Input × Input)) (known : List (Option Input)) (changes : List (ℕ × Input)) (last : Option Source) (is : IsChanging reach ops r start site joins known changes last)
      (source : Source) (source_is : source ≡ source_in reach site (pos r)) where
    -- a site with the source of the one before
    pub unchanged : last ≡ Some source → IsChanging reach ops r start (site + 1) joins known changes last
    unchanged same = record {
      keeps = is.keeps;
      each = is.each;
      are_known = is.are_known;
      past = λ t less. past t less (cases_lt t site);
      ahead = λ other e t le. is.ahead other e t (omega arith);
      ascending = is.ascending;
      below = λ k d less. let h = is.below k d less in omega arith;
    }
      where
        past : (t : ℕ) → t < site + 1 → (t < site) ⊎ (site ≤ t) → IsOfSource reach ops joins r (source_in reach t (pos r)) (change_at changes t input.Nothing)
        past t less (inl h) = is.past t h
        past t less (inr h) =
            let e : site ≡ t = omega arith in
            subst (λ n. IsOfSource reach ops joins r (source_in reach n (pos r)) (change_at changes n input.Nothing)) e
            (subst (λ q. IsOfSource reach ops joins r q (change_at changes site input.Nothing)) source_is (is.ahead source same site (omega arith)))

    -- a site with another source
    pub changed : (joins' : List (Input × Input)) (known' : List (Option Input)) (x : Input) → Finds reach ops r source joins joins' known' x → (changes' : List (ℕ × Input)) → changes' ≡ changes ++ (site, x) ∷ [] → (last' : Option Source) → last' ≡ Some source
        → IsChanging reach ops r start (site + 1) joins' known' changes' last'
    changed joins' known' x finds changes' changes_is last' last_is = subst (λ cs. IsChanging reach ops r start (site + 1) joins' known' cs last') (sym changes_is) (record {
      keeps = keeps_on start joins joins' is.keeps finds.keeps;
      each = finds.each;
      are_known = finds.are_known;
      past = λ t less. past t less (cases_lt t site);
      ahead = λ other e t le. subst (λ q. IsOfSource reach ops joins' r q (change_at (changes ++ (site, x) ∷ []) t input.Nothing)) (one other e) (here t (omega arith));
      ascending = ascending_push changes (site, x) is.ascending (λ k d less. let h = is.below k d less in omega arith);
      below = λ k d less. below k d less (cases_lt k (length changes));
    })
      where
        one : (other : Source) → last' ≡ Some other → source ≡ other
        one other e = let f : Some source ≡ Some other = sym last_is ∙ e in cc

        at : (t : ℕ) (b : Bool) → nat_le site t ≡ b → change_at (changes ++ (site, x) ∷ []) t input.Nothing ≡ (if b then x else change_at changes t input.Nothing)
        at t b e = change_at-push changes (site, x) t input.Nothing ∙ ap (λ v. if v then x else change_at changes t input.Nothing) e

        here : (t : ℕ) → site ≤ t → IsOfSource reach ops joins' r source (change_at (changes ++ (site, x) ∷ []) t input.Nothing)
        here t le = subst (IsOfSource reach ops joins' r source) (sym (at t true (grind (arith, nat_tests)))) finds.found

        past : (t : ℕ) → t < site + 1 → (t < site) ⊎ (site ≤ t) → IsOfSource reach ops joins' r (source_in reach t (pos r)) (change_at (changes ++ (site, x) ∷ []) t input.Nothing)
        past t less (inl h) = subst (IsOfSource reach ops joins' r (source_in reach t (pos r))) (sym (at t false (grind (arith, nat_tests)))) (source_still ops r joins joins' finds.keeps reach (source_in reach t (pos r)) (change_at changes t input.Nothing) (is.past t h))
        past t less (inr h) =
            let e : site ≡ t = omega arith in
            subst (λ n. IsOfSource reach ops joins' r (source_in reach n (pos r)) (change_at (changes ++ (site, x) ∷ []) n input.Nothing)) e
            (subst (λ q. IsOfSource reach ops joins' r q (change_at (changes ++ (site, x) ∷ []) site input.Nothing)) source_is (here site (omega arith)))

        below : (k : ℕ) (d : ℕ × Input) → k < length (changes ++ (site, x) ∷ []) → (k < length changes) ⊎ (length changes ≤ k) → (slice_index_or (changes ++ (site, x) ∷ []) k d).0 < site + 1
        below k d less (inl h) = let g = is.below k d h in subst (λ p. p.0 < site + 1) (sym (get_or_append_left changes ((site, x) ∷ []) d k h)) (omega arith)
        below k d less (inr h) = let long = length-append changes ((site, x) ∷ []) in subst (λ p. p.0 < site + 1) (sym (get_or_push changes (site, x) d k (omega arith))) (omega arith)

  -- all sites
  pub all_changes : (site : ℕ) (joins : List (Input × Input)) (known : List (Option Input)) (changes : List (ℕ × Input)) (last : Option Source) → IsChanging reach ops r start site joins known changes last → sites_of reach ≤ site → 0 < r → AreUses reach ops joins r changes
  all_changes site joins known changes last is whole some = record {
    ascending = is.ascending;
    at = λ s less. use_of_source reach ops joins r s (change_at changes s input.Nothing) some (is.past s (omega arith));
  }

-- none is known at first
pub none_known : (n k : ℕ) → slice_index_or (replicate {A = Option Input} n None) k None ≡ None
none_known zero k = refl
none_known (suc n) zero = refl
none_known (suc n) (suc k) = none_known n k

-- what the definitions in a shared list have is known from now on
pub found_shared : (reach : Reach) (ops : Ops) (r n : ℕ) (joins joins' : List (Input × Input)) (known : List (Option Input)) (x : Input) → length known ≡ shared_count_of reach → n < shared_count_of reach → AreKnown reach ops joins r known → Keeps joins joins'
    → (defs : List Def) → defs ≡ shared_in reach n → Gathers ops joins' r x defs → Finds reach ops r (Shared n) joins joins' (set known n (Some x)) x
found_shared reach ops r n joins joins' known x each within are keeps defs defs_is gathers = record {
  keeps = keeps;
  each = length-set known n (Some x) ∙ each;
  are_known = λ k y e. by k y e (cases_eq k n);
  found = here;
}
  where
    here : Gathers ops joins' r x (shared_in reach n)
    here = subst (Gathers ops joins' r x) defs_is gathers

    by : (k : ℕ) (y : Input) → slice_index_or (set known n (Some x)) k None ≡ Some y → (k ≡ n) ⊎ (k ≡ n → ⊥) → Gathers ops joins' r y (shared_in reach k)
    by k y e (inl f) = subst (λ j. Gathers ops joins' r y (shared_in reach j)) (sym f) (subst (λ z. Gathers ops joins' r z (shared_in reach n)) (same (sym (get_or-set_same known n (Some x) None (subst (λ m. n < m) (sym each) within)) ∙ subst (λ j. slice_index_or (set known n (Some x)) j None ≡ Some y) f e)) here)
      where
        same : Some x ≡ Some y → x ≡ y
        same g = cc
    by k y e (inr other) = gathers_still ops r joins joins' keeps (are k y (sym (get_or-set_other known n k (Some x) None other) ∙ e))

-- the uses of the registers before one
pub record AreFirstUses (reach : Reach) (ops : Ops) (joins : List (Input × Input)) (reg : ℕ) (uses : List (List (ℕ × Input))) : Type 0 where
  pub each : length uses ≡ reg
  pub first_uses : (r : ℕ) → r < reg → AreUses reach ops joins r (slice_index_or uses r [])

pub uses_still : (reach : Reach) (ops : Ops) (joins joins' : List (Input × Input)) → Keeps joins joins' → (r : ℕ) (changes : List (ℕ × Input)) → AreUses reach ops joins r changes → AreUses reach ops joins' r changes
uses_still reach ops joins joins' keeps r changes are = record { ascending = are.ascending; at = λ s less. use_still ops joins joins' keeps reach r s (change_at changes s input.Nothing) (are.at s less) }

pub one_more_register : (reach : Reach) (ops : Ops) (joins joins' : List (Input × Input)) (reg : ℕ) (uses : List (List (ℕ × Input))) → AreFirstUses reach ops joins reg uses → Keeps joins joins'
    → (changes : List (ℕ × Input)) → AreUses reach ops joins' reg changes → (uses' : List (List (ℕ × Input))) → uses' ≡ uses ++ changes ∷ [] → AreFirstUses reach ops joins' (reg + 1) uses'
one_more_register reach ops joins joins' reg uses are keeps changes here uses' e = subst (AreFirstUses reach ops joins' (reg + 1)) (sym e) (record {
  each = let long = length-append uses (changes ∷ []) in let each = are.each in omega arith;
  first_uses = λ r less. by r less (cases_lt r reg);
})
  where
    by : (r : ℕ) → r < reg + 1 → (r < reg) ⊎ (reg ≤ r) → AreUses reach ops joins' r (slice_index_or (uses ++ changes ∷ []) r [])
    by r less (inl h) = subst (AreUses reach ops joins' r) (sym (get_or_append_left uses (changes ∷ []) [] r (subst (λ n. r < n) (sym are.each) h))) (uses_still reach ops joins joins' keeps r (slice_index_or uses r []) (are.first_uses r h))
    by r less (inr h) =
        let f : reg ≡ r = omega arith in
        subst (λ n. AreUses reach ops joins' n (slice_index_or (uses ++ changes ∷ []) n [])) f (subst (AreUses reach ops joins' reg) (sym (get_or_push uses changes [] reg are.each)) here)

pub all_registers : (reach : Reach) (ops : Ops) (joins : List (Input × Input)) (reg : ℕ) (uses : List (List (ℕ × Input))) → AreFirstUses reach ops joins reg uses → reg ≡ 32 → AreAllUses reach ops joins uses
all_registers reach ops joins reg uses are whole = record { each = are.each ∙ whole; each_uses = λ r less. are.first_uses r (omega arith) }

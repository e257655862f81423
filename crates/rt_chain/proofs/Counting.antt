-- The chain law: spellings by places that flip, and spellings by a test of variables.
use Rattle.std.proofs.Common.{◌≡◌, ◌≤◌, List, [], ◌∷◌, Bool, true, false, refl, ap, sym, ◌∙◌, subst, arith}
use Rattle.rt_lines.specs.declared.label.Label.{Label}
use Rattle.rt_lines.specs.declared.label.Label.TheVariants.{Load, Store}
use Rattle.rt_lines.specs.declared.variable.Base.{Base}
use Rattle.rt_lines.specs.declared.variable.Dtv.{Dtv}
use Rattle.rt_lines.specs.declared.line.Line.TheVariants.{Var as VarLine, Sub}
use Rattle.rt_rules.specs.Rules.{Derivable}
use Rattle.rt_rules.specs.Rules.Derivable.{left_side, right_side}
use Rattle.rt_bridge.specs.Growing.{Var, at, dot, dv, rest, vd, Given, V, S, Der, HasSub}
use Rattle.rt_bridge.specs.Counted.{IsPointer, Flip}
use Rattle.rt_bridge.proofs.Growing.{der, same_rest, both, dv-vd}
use Rattle.rt_bridge.proofs.Chains.{place, num, Spell, nil, keep, swap, num_plain, num_flip, place_of, place_pointer, place_flips, letters_same, spell_class, spell_var, tail_num, chain, same_place}
use Rattle.rt_bridge.proofs.Exact.{Rooted, counted}
use Rattle.rt_chain.specs.Numbers.{number_of, AreSpellings, at_end, equal_at, flipped_at, HasBoth, AreFlips, no_places, flips, stands, ChainLaw}
use Rattle.rt_chain.proofs.Deciding.{has_both, follow, flips_yes, flips_no}

module _ (L : Given) (fl : Var → Bool) (yes : (x : Var) → fl x ≡ true → Flip L x) (no : (x : Var) → Flip L x → fl x ≡ true) where
  -- two spellings of one word are spellings of each other
  spelled : {x : Var} {w r s : List Label} → Spell fl x w r → Spell fl x w s → Der L (V (rest x w)) → Spell fl x r s
  spelled nil nil d = nil
  spelled (keep l p a) (keep _ q b) d = keep l p (spelled a b d)
  spelled (keep l p a) (swap _ m q q' b) d = absurd (cc)
  spelled (swap l m p p' a) (keep _ q b) d = absurd (cc)
  spelled {x} (swap l m {s = r} p p' a) (swap _ o {s = s} q q' b) d =
      swap m o p' q' (spell_class fl L yes no (dot x m) (spelled a b d) (letters_same fl L yes no x l m p p') (spell_var fl L yes no a d))

  spell_back : {x : Var} {w r : List Label} → Spell fl x w r → Der L (V (rest x r)) → Der L (V (rest x w))
  spell_back nil d = d
  spell_back (keep l p a) d = spell_back a d
  spell_back {x} (swap l m {s = r} p q a) d = spell_back a (both L (same_rest L r (letters_same fl L yes no x m l q p) d)).1

  same_spelling : (r : List Label) (x : Var) → Spell fl x r r
  same_spelling [] x = nil
  same_spelling (l ∷ r) x = same_place fl L yes no x l (place fl x l) refl (same_spelling r (dot x l))

  flip_of : (x : Var) → HasBoth L.order L.lines (dv x) → Flip L x
  flip_of x h = (der L (V (dot x Load)) h.0, der L (V (dot x Store)) h.1)

  both_of : (x : Var) → Flip L x → HasBoth L.order L.lines (dv x)
  both_of x f = (f.0.derives, f.1.derives)

  at_flip : (x : Var) (l : Label) → IsPointer l → HasBoth L.order L.lines (dv x) → place fl x l ≡ true
  at_flip x l p h = place_of fl x l p (no x (flip_of x h))

  at_plain : (x : Var) (l : Label) → (IsPointer l × HasBoth L.order L.lines (dv x) → ⊥) → place fl x l ≡ false
  at_plain x l n = by (place fl x l) refl
    where
      by : (b : Bool) → place fl x l ≡ b → place fl x l ≡ false
      by true e = absurd (n (place_pointer fl x l e, both_of x (yes x (place_flips fl x l e))))
      by false e = e

  -- by the places that flip along the first word
  record Read (x : Var) (r s : List Label) (fs : List Bool) : Type 0 where
    spells : AreSpellings fs r s
    first : number_of r fs ≡ num fl x r
    second : number_of s fs ≡ num fl x s

  read : {x : Var} {r s : List Label} {fs : List Bool} → Spell fl x r s → AreFlips L.order L.lines (dv x) r fs → Der L (V (rest x r)) → Read x r s fs
  read nil (no_places _) d = record { spells = at_end; first = refl; second = refl }
  read {x} (keep l {r = r} {s = s} e a) (flips _ _ _ fs p h t) d = let f : place fl x l ≡ true = at_flip x l p h in absurd (cc)
  read {x} (swap l m {r = r} {s = s} e e' a) (flips _ _ _ fs p h t) d =
      let i : Read (dot x l) r s fs = read a t d in
      let k : num fl (dot x m) s ≡ num fl (dot x l) s = tail_num fl L yes no x l m e e' a d in
      record {
        spells = flipped_at l m p (place_pointer fl x m e') i.spells;
        first = rw (num_flip fl x l r e) (omega (arith, i.first));
        second = rw (num_flip fl x m s e') (omega (arith, i.second, k));
      }
  read {x} (keep l {r = r} {s = s} e a) (stands _ _ _ fs n t) d =
      let i : Read (dot x l) r s fs = read a t d in
      record { spells = equal_at false l i.spells; first = i.first ∙ sym (num_plain fl x l r e); second = i.second ∙ sym (num_plain fl x l s e) }
  read {x} (swap l m e e' a) (stands _ _ _ fs n t) d = absurd (n (place_pointer fl x l e, both_of x (yes x (place_flips fl x l e))))

  -- and back
  by_places : {x : Var} {r s : List Label} {fs : List Bool} → AreSpellings fs r s → AreFlips L.order L.lines (dv x) r fs → Spell fl x r s
  by_places at_end (no_places _) = nil
  by_places {x} (equal_at _ _ a) (flips _ l w fs p h t) = swap l l (at_flip x l p h) (at_flip x l p h) (by_places a t)
  by_places {x} (flipped_at _ m _ q a) (flips _ l w fs p h t) = swap l m (at_flip x l p h) (at_flip x m q h) (by_places a t)
  by_places {x} (equal_at _ _ a) (stands _ l w fs n t) = keep l (at_plain x l n) (by_places a t)

  -- the chain, by the places that flip
  module _ (lineless : (x y : Var) → HasSub L x y → ⊥) (b : Base) (r s : List Label) (fs : List Bool) (are : AreFlips L.order L.lines (record { base = b; word = [] }) r fs) where
    abbrev left : Dtv
    left = record { base = b; word = r }

    abbrev right : Dtv
    right = record { base = b; word = s }

    one_place : (c : Base) (u v : List Label) → rest (at b) u ≡ rest (at c) v → ◌≡◌ {A = Dtv} (record { base = b; word = u }) (record { base = c; word = v })
    one_place c u v e = sym (dv-vd (record { base = b; word = u })) ∙ ap dv e ∙ dv-vd (record { base = c; word = v })

    seen : (x : Dtv) → Derivable L.order L.lines (VarLine x) → Der L (V (vd x))
    seen x d = der L (V (vd x)) (subst (λ y. Derivable L.order L.lines (VarLine y)) (sym (dv-vd x)) d)

    pub counts : Derivable L.order L.lines (Sub left right) → AreSpellings fs r s × (number_of r fs ≤ number_of s fs)
    counts d =
        let e : Der L (S (vd left) (vd right)) = der L (S (vd left) (vd right)) (rw (dv-vd left, dv-vd right) d) in
        let o : Rooted fl (vd left) (vd right) [] [] = counted L fl yes no lineless (vd left) (vd right) e in
        let p : left ≡ record { base = o.base; word = o.left } = one_place o.base r o.left o.is_left in
        let q : right ≡ record { base = o.base; word = o.right } = one_place o.base s o.right o.is_right in
        let w : List Label = o.pattern_word in
        let a : Spell fl (at b) w r = subst (λ (z : Dtv). Spell fl (at z.base) w z.word) (sym p) o.spells_left in
        let c : Spell fl (at b) w s = subst (λ (z : Dtv). Spell fl (at z.base) w z.word) (sym q) o.spells_right in
        let h : num fl (at b) r ≤ num fl (at o.base) o.right = subst (λ (z : Dtv). num fl (at z.base) z.word ≤ num fl (at o.base) o.right) (sym p) o.rises in
        let k : num fl (at b) r ≤ num fl (at b) s = subst (λ (z : Dtv). num fl (at b) r ≤ num fl (at z.base) z.word) (sym q) h in
        let v : Der L (V (rest (at b) r)) = seen left (left_side d) in
        let i : Read (at b) r s fs = read (spelled a c (spell_back a v)) are v in
        (i.spells, rw (i.first, i.second) k)

    pub rises : Derivable L.order L.lines (VarLine left) → AreSpellings fs r s → number_of r fs ≤ number_of s fs → Derivable L.order L.lines (Sub left right)
    rises d a h =
        let v : Der L (V (rest (at b) r)) = seen left d in
        let p : Spell fl (at b) r s = by_places a are in
        let i : Read (at b) r s fs = read p are v in
        let k : num fl (at b) r ≤ num fl (at b) s = rw (i.first, i.second) at h in
        let e : Der L (S (vd left) (vd right)) = chain fl L yes no r (at b) r s (same_spelling r (at b)) p v k in
        rw (dv-vd left, dv-vd right) at e.derives

pub chain_law : ChainLaw
chain_law order lines b r s fs vars are =
    let L : Given = record { order = order; lines = lines } in
    let yes : (x : Var) → has_both (follow lines x) ≡ true → Flip L x = flips_yes L vars in
    let no : (x : Var) → Flip L x → has_both (follow lines x) ≡ true = flips_no L vars in
    let lineless : (x y : Var) → HasSub L x y → ⊥ = λ x y c. (let h : (z : Dtv) × (Sub (dv x) (dv y) ≡ VarLine z) = vars (Sub (dv x) (dv y)) c in cc) in (
      λ d. (let k : AreSpellings fs r s × (number_of r fs ≤ number_of s fs) = counts L (λ x. has_both (follow lines x)) yes no lineless b r s fs are d in (left_side d, right_side d, k.0, k.1)),
      λ h. rises L (λ x. has_both (follow lines x)) yes no lineless b r s fs are h.0 h.2 h.3,
    )

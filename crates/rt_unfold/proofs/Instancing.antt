-- An instance of a list may stand for an instance of one alike to it.
use Rattle.std.proofs.Common.{◌≡◌, ℕ, ◌⊎◌, ◌||◌, inl, inr, List, ◌++◌, map, Contains, Bool, true, false, nat_eq, refl}
use Rattle.std.proofs.lemmas.List.Elements.{Contains-append_cases, Contains-append_left, Contains-append_right, All-contains}
use Rattle.rt_lines.specs.declared.variable.Base.{Base}
use Rattle.rt_lines.specs.declared.variable.Base.TheVariants.{Proc, Global, Exist, Outer}
use Rattle.rt_lines.specs.declared.line.Line.{Line}
use Rattle.rt_lines.specs.Orders.{Below}
use Rattle.rt_rules.specs.Rules.{Derivable, line_of}
use Rattle.rt_rules.specs.Alike.{IsOutside, Covers, Alike, map_line, is_inside_for}
use Rattle.rt_rules.specs.Laws.{renamed}
use Rattle.rt_rules.proofs.Lists.{All-from_contains}
use Rattle.rt_rules.proofs.Carry.{given}
use Rattle.rt_rules.proofs.Covering.{derives_more, Alike-sym, Alike-trans}
use Rattle.rt_scheme.specs.declared.interface.Interface.{Interface}
use Rattle.rt_scheme.specs.Splitting.{IsSplitting, split_line}
use Rattle.rt_scheme.proofs.SplittingBack.{splitting_lem}
use Rattle.rt_unfold.proofs.Widening.{AreOwnLines, IsFresh, fresh, is_new_base, widened}

either : (a b : Bool) → a || b ≡ false → b || a ≡ false
either true b e = absurd (cc)
either false true e = absurd (cc)
either false false e = refl

other_way : (one two : ℕ → Bool) (b : Base) → is_new_base one two b ≡ false → is_new_base two one b ≡ false
other_way one two (Proc n) e = refl
other_way one two (Global n) e = refl
other_way one two (Exist n) e = either (one n) (two n) e
other_way one two (Outer n) e = refl

module _ (order : Below) (inside : Base → Bool) (one two : ℕ → Bool)
    (new_inside : (b : Base) → inside b ≡ false → is_new_base one two b ≡ false) where
  -- what covers over fewer inside bases, covers behind more lines
  behind : (rest first second : List Line) → ((l : Line) → Contains rest l → IsOutside (is_new_base one two) l)
      → Covers order (is_new_base one two) first second → Covers order inside (rest ++ first) (rest ++ second)
  behind rest first second out covers added j out_added out_j d =
      let stricter : (l : Line) → IsOutside inside l → IsOutside (is_new_base one two) l = λ l o x h. new_inside x.base (o x h) in
      let all_out : (l : Line) → Contains rest l ⊎ Contains added l → IsOutside (is_new_base one two) l =
      λ l c. elim c [ inl e ↦ out l e | inr e ↦ stricter l (All-contains (IsOutside inside) added l out_added e) ] in
      let moved : Derivable order (first ++ (rest ++ added)) (line_of j) =
      derives_more order ((rest ++ first) ++ added) (first ++ (rest ++ added))
      (λ l c. given order (first ++ (rest ++ added)) l (elim (Contains-append_cases (rest ++ first) added l c) [
        | inl e ↦ elim (Contains-append_cases rest first l e) [
          | inl f ↦ Contains-append_right first (rest ++ added) l (Contains-append_left rest added l f)
          | inr f ↦ Contains-append_left first (rest ++ added) l f
        ]
        | inr e ↦ Contains-append_right first (rest ++ added) l (Contains-append_right rest added l e)
      ])) d in
      let there : Derivable order (second ++ (rest ++ added)) (line_of j) =
      covers (rest ++ added) j (All-from_contains (IsOutside (is_new_base one two)) (rest ++ added)
      (λ l c. all_out l (Contains-append_cases rest added l c))) (stricter (line_of j) out_j) moved in
      derives_more order (second ++ (rest ++ added)) ((rest ++ second) ++ added)
      (λ l c. given order ((rest ++ second) ++ added) l (elim (Contains-append_cases second (rest ++ added) l c) [
        | inl e ↦ Contains-append_left (rest ++ second) added l (Contains-append_right rest second l e)
        | inr e ↦ elim (Contains-append_cases rest added l e) [
          | inl f ↦ Contains-append_left (rest ++ second) added l (Contains-append_left rest second l f)
          | inr f ↦ Contains-append_right (rest ++ second) added l f
        ]
      ])) there

-- The two lists are alike for q; both have their existentials renamed to new ones; `rest` names q for the ports and no new existential.
-- With q split into the ports, an
-- instance of the one beside the rest is alike to an instance of the other one.
module _ (order : Below) (inside : Base → Bool) (q : ℕ) (first second rest : List Line) (one two : ℕ → Bool)
    (forth back onward homeward : ℕ → ℕ)
    (own_first : AreOwnLines q first) (own_second : AreOwnLines q second) (fresh_first : IsFresh first one forth back)
    (fresh_second : IsFresh second two onward homeward)
    (alike : Alike order (is_inside_for q) first second)
    (new_inside : (b : Base) → inside b ≡ false → is_new_base one two b ≡ false)
    (out : (l : Line) → Contains rest l → IsOutside (is_new_base one two) l)
    (place : Interface → ℕ) where
  abbrev new_first : List Line
  new_first = map (map_line (renamed (fresh forth))) first

  abbrev new_second : List Line
  new_second = map (map_line (renamed (fresh onward))) second

  back_covers : Covers order (is_new_base one two) new_second new_first
  back_covers added j out_added out_j d =
      widened order q second first two one onward homeward forth own_second own_first fresh_second alike.1 added j
      (All-from_contains (IsOutside (is_new_base two one)) added
      (λ l c x h. other_way one two x.base (All-contains (IsOutside (is_new_base one two)) added l out_added c x h)))
      (λ x h. other_way one two x.base (out_j x h)) d

  unsplit : Alike order inside (rest ++ new_first) (rest ++ new_second)
  unsplit = (
    behind order inside one two new_inside rest new_first new_second out
        (widened order q first second one two forth back onward own_first own_second fresh_first alike.0),
    behind order inside one two new_inside rest new_second new_first out back_covers,
  )

  pub instance_alike : IsSplitting inside (λ n. nat_eq n q) place (rest ++ new_first)
      → IsSplitting inside (λ n. nat_eq n q) place (rest ++ new_second) →
      Alike order inside (map (split_line (λ n. nat_eq n q) place) (rest ++ new_first))
      (map (split_line (λ n. nat_eq n q) place) (rest ++ new_second))
  instance_alike a b =
      Alike-trans order inside (map (split_line (λ n. nat_eq n q) place) (rest ++ new_first)) (rest ++ new_first)
      (map (split_line (λ n. nat_eq n q) place) (rest ++ new_second))
      (Alike-sym order inside (rest ++ new_first) (map (split_line (λ n. nat_eq n q) place) (rest ++ new_first))
      (splitting_lem order inside (λ n. nat_eq n q) place (rest ++ new_first) a))
      (Alike-trans order inside (rest ++ new_first) (rest ++ new_second)
      (map (split_line (λ n. nat_eq n q) place) (rest ++ new_second)) unsplit
      (splitting_lem order inside (λ n. nat_eq n q) place (rest ++ new_second) b))

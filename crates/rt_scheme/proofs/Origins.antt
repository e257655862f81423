-- What is instantiated: places, and ports in order.
use Rattle.std.proofs.Common.{◌≡◌, ◌≤◌, ◌+◌, ℕ, Bool, true, false, cond, nat_lt, Some, None, List, [], ◌∷◌, ◌++◌, length, not, unwrap_or, position, take, get_or, fold, flat_map, nat_eq, if◌then◌else◌, length-append, ◌*◌, add-one, ◌<◌, refl, ap, ◌∙◌, sym, arith}
use Rattle.std.proofs.Math.Seq.{take-suc}
use Rattle.std.proofs.lemmas.List.{length-take}
use Rattle.std.specs.List.{list_any, position_or_len, prefix_len}
use Rattle.std.proofs.lemmas.List.Sums.{prefix_len-le-length}
use Rattle.std.proofs.lemmas.Bool.Decides.{nat_tests}
use Rattle.indexmap.specs.IndexSet.{insert_key}
use Rattle.rt_lines.specs.declared.label.Label.{Label}
use Rattle.rt_lines.specs.declared.variable.Base.{Base}
use Rattle.rt_lines.specs.declared.variable.Base.TheVariants.{Proc, Global, Exist, Outer}
use Rattle.rt_lines.specs.declared.variable.Dtv.{Dtv}
use Rattle.rt_lines.specs.declared.line.Line.{Line}
use Rattle.rt_lines.specs.Sides.{sides}
use Rattle.rt_lines.proofs.LineSides.{length-sides}
use Rattle.rt_scheme.specs.declared.origin.Origin.{Origin}
use Rattle.rt_scheme.specs.declared.origin.Origin.TheVariants.{Port, Bound}
use Rattle.rt_scheme.specs.Instances.{origin_eq, origin_of, origins_of, ports_from}

-- ports of one more
pub ports_from-more : (first : ℕ) (order : List Origin) (origin : Origin) → ports_from first (order ++ origin ∷ []) ≡ ports_from first order ++ ports_from (first + length order) (origin ∷ [])
ports_from-more first [] origin = ap (λ n. ports_from n (origin ∷ [])) (omega arith)
ports_from-more first (Port l ∷ order) origin = ap (λ ports. (l, first) ∷ ports) (ports_from-more (first + 1) order origin ∙ ap (λ n. ports_from (first + 1) order ++ ports_from n (origin ∷ [])) (omega arith))
ports_from-more first (Bound m ∷ order) origin = ports_from-more (first + 1) order origin ∙ ap (λ n. ports_from (first + 1) order ++ ports_from n (origin ∷ [])) (omega arith)

-- ports of the first ones and of the next
pub ports_from-take : (first : ℕ) (order : List Origin) (k : ℕ) (d : Origin) → k < length order → ports_from first (take (k + 1) order) ≡ ports_from first (take k order) ++ ports_from (first + k) (get_or order k d ∷ [])
ports_from-take first order k d h =
    let cut : take (k + 1) order ≡ take k order ++ get_or order k d ∷ [] = ap (λ n. take n order) (add-one k) ∙ take-suc order k d h in
    let long : length (take k order) ≡ k = omega (arith, length-take k order) in
    ap (ports_from first) cut ∙ ports_from-more first (take k order) (get_or order k d) ∙ ap (λ n. ports_from first (take k order) ++ ports_from (first + n) (get_or order k d ∷ [])) long

pub ports-next : (first : ℕ) (order items : List Origin) (k : ℕ) (d : Origin) (ports new : List (Label × ℕ)) → items ≡ order → ports ≡ ports_from first (take k order) → new ≡ ports ++ ports_from (first + k) (get_or items k d ∷ []) → k < length items → new ≡ ports_from first (take (k + 1) order)
ports-next first order items k d ports new same before after h =
    let start : ports ≡ ports_from first (take k items) = before ∙ ap (λ l. ports_from first (take k l)) (sym same) in
    let here : new ≡ ports_from first (take (k + 1) items) = after ∙ (ap (λ front. front ++ ports_from (first + k) (get_or items k d ∷ [])) start ∙ sym (ports_from-take first items k d h)) in
    here ∙ ap (λ l. ports_from first (take (k + 1) l)) same

-- one key more at most
insert-few : (ks : List Origin) (k : Origin) → length (insert_key origin_eq ks k) ≤ length ks + 1
insert-few ks k = by (list_any (origin_eq k) ks)
  where
    by : (b : Bool) → length (if b then ks else ks ++ k ∷ []) ≤ length ks + 1
    by true = omega arith
    by false = omega (arith, length-append ks (k ∷ []))

inserted-few : (ks xs : List Origin) → length (fold (insert_key origin_eq) ks xs) ≤ length ks + length xs
inserted-few ks [] = omega arith
inserted-few ks (x ∷ xs) = omega (arith, insert-few ks x, inserted-few (insert_key origin_eq ks x) xs)

few_of_side : (own : ℕ) (b : Base) (w : List Label) → length (origin_of own b w) ≤ 1
few_of_side own (Proc n) [] = omega arith
few_of_side own (Proc n) (l ∷ w) = by (nat_eq n own)
  where
    by : (b : Bool) → length (if b then Port l ∷ [] else []) ≤ 1
    by true = omega arith
    by false = omega arith
few_of_side own (Global n) w = omega arith
few_of_side own (Exist n) w = omega arith
few_of_side own (Outer n) w = omega arith

few_of_sides : (own : ℕ) (xs : List Dtv) → length (flat_map (λ x. origin_of own x.base x.word) xs) ≤ length xs
few_of_sides own [] = omega arith
few_of_sides own (x ∷ xs) = omega (arith, length-append (origin_of own x.base x.word) (flat_map (λ y. origin_of own y.base y.word) xs), few_of_side own x.base x.word, few_of_sides own xs)

few_of_line : (own : ℕ) (l : Line) → length (origins_of own l) ≤ 2
few_of_line own l = omega (arith, few_of_sides own (sides l), length-sides l)

few_of_lines : (own : ℕ) (lines : List Line) → length (flat_map (origins_of own) lines) ≤ 2 * length lines
few_of_lines own [] = omega arith
few_of_lines own (l ∷ lines) = omega (arith, length-append (origins_of own l) (flat_map (origins_of own) lines), few_of_line own l, few_of_lines own lines)

pub few_new : (own : ℕ) (lines : List Line) → length (fold (insert_key origin_eq) [] (flat_map (origins_of own) lines)) ≤ 2 * length lines
few_new own lines = omega (arith, inserted-few [] (flat_map (origins_of own) lines), few_of_lines own lines)

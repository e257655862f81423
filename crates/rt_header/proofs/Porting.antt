-- Nodes of arguments by their places.
use Rattle.std.proofs.Common.{◌≡◌, ℕ, zero, suc, ◌+◌, ◌-◌, ◌*◌, ◌/◌, ◌%◌, ◌<◌, ◌≤◌, ◌⊎◌, inl, inr, Bool, true, false, cond, nat_lt, Option, Some, None, List, [], ◌∷◌, ◌++◌, length, get_or, take, refl, sym, ap, subst, ◌∙◌, arith}
use Rattle.std.specs.Prelude.{IsSome, unwrap_or}
use Rattle.std.specs.Map.{lookup}
use Rattle.std.specs.Option.{option_or}
use Rattle.std.proofs.lemmas.Bool.{false≢true, le-ltb, lt-ltb}
use Rattle.std.proofs.lemmas.List.{take_more}
use Rattle.rt_lines.specs.declared.label.Loc.{Loc}
use Rattle.rt_lines.specs.declared.label.Loc.TheVariants.{Arg, Stack}
use Rattle.rt_lines.specs.declared.label.Label.{Label}
use Rattle.rt_lines.specs.declared.label.Label.TheVariants.{In, Out, Load, Store, Field}
use Rattle.rt_lines.specs.Words.{IsLoc}
use Rattle.rt_lines.specs.Equality.{label_eq}
use Rattle.rt_lines.specs.contracts.label.LabelEq.TheImpl.Laws as label_laws
use Rattle.rt_lines.proofs.Equal.{label_equal}
use Rattle.rt_cdecl.specs.GoodDecls.{place_of}
use Rattle.rt_header.specs.Inside.Ports.{AreArguments, IsNoted, argument_in, index_of}
use Rattle.rt_header.proofs.Heading.{place_one}
use Rattle.rt_base.proofs.Options.{option_or-none}
use Rattle.rt_lines.proofs.Same.{label_self}

-- an argument has the place of its index
pub place_index : (loc : Loc) → IsLoc loc → place_of (index_of loc) ≡ loc
place_index (Arg n) few = ap (λ b. cond b (Arg n) (Stack (4 * (n - 8)))) (lt-ltb n 8 (omega (arith, few)))
place_index (Stack k) (whole, few) =
    ap (λ b. cond b (Arg (8 + k / 4)) (Stack (4 * ((8 + k / 4) - 8)))) (le-ltb (8 + k / 4) 8 (omega arith)) ∙
    ap Stack (omega (arith, whole))

-- what is looked up in a list with one entry more
lookup_push : {K X : Type 0} (test : K → Bool) (entries : List (K × X)) (key : K) (x : X)
    → lookup test (entries ++ (key, x) ∷ []) ≡ option_or (lookup test entries) (cond (test key) (Some x) None)
lookup_push test [] key x = by (test key)
  where
    by : (b : Bool) → cond b (Some x) None ≡ option_or None (cond b (Some x) None)
    by true = refl
    by false = refl
lookup_push test (entry ∷ entries) key x = by (test entry.0) (lookup_push test entries key x)
  where
    by : (b : Bool) → lookup test (entries ++ (key, x) ∷ []) ≡ option_or (lookup test entries) (cond (test key) (Some x) None)
        → cond b (Some entry.1) (lookup test (entries ++ (key, x) ∷ [])) ≡ option_or (cond b (Some entry.1) (lookup test entries)) (cond (test key) (Some x) None)
    by true e = refl
    by false e = e

argument_push : (edges : List (Label × ℕ)) (label : Label) (node j : ℕ)
    → argument_in (edges ++ (label, node) ∷ []) j ≡ option_or (argument_in edges j) (cond (label_eq (In (place_of j)) label) (Some node) None)
argument_push edges label node j = lookup_push (label_eq (In (place_of j))) edges label node

or_some : {X : Type 0} (o : Option X) (x : X) → IsSome (option_or o (Some x))
or_some None x = refl
or_some (Some y) x = refl

-- an argument more
pub arguments_next : (edges : List (Label × ℕ)) (node : ℕ) (loc : Loc) (old new : List (Option ℕ))
    → IsLoc loc → index_of loc < 16392 → AreArguments edges old → IsNoted old new (index_of loc) node → AreArguments (edges ++ (In loc, node) ∷ []) new
arguments_next edges node loc old new is_loc within are noted = record {
  few = let f = are.few in let m = noted.most in few m.2 f;
  each = λ j. each j (label_eq (In (place_of j)) (In loc)) refl ∙ sym (argument_push edges (In loc) node j);
  last = λ j e. last j e noted.most.2;
}
  where
    few : (length new ≡ length old) ⊎ (length new ≡ index_of loc + 1) → length old ≤ 16392 → length new ≤ 16392
    few (inl e) f = omega (arith, e, f)
    few (inr e) f = omega (arith, e, within)

    in_same : (a b : Loc) → In a ≡ In b → a ≡ b
    in_same a b e = ap (place_in a) e
      where
        place_in : Loc → Label → Loc
        place_in d (In l) = l
        place_in d (Out n) = d
        place_in d Load = d
        place_in d Store = d
        place_in d (Field w o) = d

    each : (j : ℕ) (b : Bool) → b ≡ label_eq (In (place_of j)) (In loc)
        → get_or new j None ≡ option_or (argument_in edges j) (cond b (Some node) None)
    each j true e =
        let same : place_of j ≡ loc = in_same (place_of j) loc (label_equal (In (place_of j)) (In loc) (sym e)) in
        let is : j ≡ index_of loc = place_one j (index_of loc) (same ∙ sym (place_index loc is_loc)) in
        ap (λ i. get_or new i None) is ∙ (noted.here ∙ (ap (λ i. option_or (get_or old i None) (Some node)) (sym is) ∙ ap (λ o. option_or o (Some node)) (are.each j)))
    each j false e =
        noted.others j (λ is. false≢true (e ∙ (ap (λ l. label_eq (In l) (In loc)) (ap place_of is ∙ place_index loc is_loc) ∙ label_self (In loc)))) ∙
        (are.each j ∙ sym (option_or-none (argument_in edges j)))

    here : IsSome (get_or new (index_of loc) None)
    here = subst IsSome (sym noted.here) (or_some (get_or old (index_of loc) None) node)

    last : (j : ℕ) → j + 1 ≡ length new → (length new ≡ length old) ⊎ (length new ≡ index_of loc + 1) → IsSome (get_or new j None)
    last j e (inr f) = subst (λ i. IsSome (get_or new i None)) (let h : index_of loc ≡ j = omega (arith, e, f) in h) here
    last j e (inl f) = by (each j (label_eq (In (place_of j)) (In loc)) refl) (are.each j) (are.last j (omega (arith, e, f)))
      where
        keeps : (o p : Option ℕ) → IsSome o → IsSome (option_or o p)
        keeps (Some x) p h = refl
        keeps None p h = absurd (false≢true h)

        by : get_or new j None ≡ option_or (argument_in edges j) (cond (label_eq (In (place_of j)) (In loc)) (Some node) None)
            → get_or old j None ≡ argument_in edges j → IsSome (get_or old j None) → IsSome (get_or new j None)
        by n o h = subst IsSome (sym n) (keeps (argument_in edges j) (cond (label_eq (In (place_of j)) (In loc)) (Some node) None) (subst IsSome o h))

-- an edge of another label
pub arguments_other : (edges : List (Label × ℕ)) (node : ℕ) (label : Label) (nodes : List (Option ℕ))
    → ((loc : Loc) → label ≡ In loc → ⊥) → AreArguments edges nodes → AreArguments (edges ++ (label, node) ∷ []) nodes
arguments_other edges node label nodes other are = record {
  few = are.few;
  each = λ j. are.each j ∙ (sym (option_or-none (argument_in edges j)) ∙
      (ap (λ b. option_or (argument_in edges j) (cond b (Some node) None)) (differs j (label_eq (In (place_of j)) label) refl) ∙
      sym (argument_push edges label node j)));
  last = are.last;
}
  where
    differs : (j : ℕ) (b : Bool) → b ≡ label_eq (In (place_of j)) label → false ≡ b
    differs j true e = absurd (other (place_of j) (sym (label_equal (In (place_of j)) label (sym e))))
    differs j false e = refl

-- one entry more that isn't it
pub looked_next : (edges : List (Label × ℕ)) (k node : ℕ) (label wanted : Label) → k < length edges → get_or edges k (label, node) ≡ (label, node)
    → label_eq wanted label ≡ false → lookup (label_eq wanted) (take k edges) ≡ None → lookup (label_eq wanted) (take (k + 1) edges) ≡ None
looked_next edges k node label wanted less at differs none =
    ap (lookup (label_eq wanted)) (take_more edges k (label, node) less ∙ ap (λ e. take k edges ++ e ∷ []) at) ∙
    (lookup_push (label_eq wanted) (take k edges) label node ∙
    (ap (λ o. option_or o (cond (label_eq wanted label) (Some node) None)) none ∙ ap (λ b. option_or None (cond b (Some node) None)) differs))

-- the first entry that is it
pub looked_up : (edges : List (Label × ℕ)) (k node : ℕ) (label wanted : Label) → k < length edges → get_or edges k (label, node) ≡ (label, node)
    → label_eq wanted label ≡ true → lookup (label_eq wanted) (take k edges) ≡ None → lookup (label_eq wanted) edges ≡ Some node
looked_up edges k node label wanted less at same none = by edges k less at none
  where
    by : (edges : List (Label × ℕ)) (k : ℕ) → k < length edges → get_or edges k (label, node) ≡ (label, node) → lookup (label_eq wanted) (take k edges) ≡ None
        → lookup (label_eq wanted) edges ≡ Some node
    by [] k less at none = absurd (omega (arith, less))
    by (edge ∷ edges) zero less at none =
        ap (λ (e : Label × ℕ). cond (label_eq wanted e.0) (Some e.1) (lookup (label_eq wanted) edges)) at ∙
        ap (λ b. cond b (Some node) (lookup (label_eq wanted) edges)) same
    by (edge ∷ edges) (suc k) less at none = here (label_eq wanted edge.0) (by edges k (omega (arith, less)) at) none
      where
        here : (b : Bool) → (lookup (label_eq wanted) (take k edges) ≡ None → lookup (label_eq wanted) edges ≡ Some node)
            → cond b (Some edge.1) (lookup (label_eq wanted) (take k edges)) ≡ None → cond b (Some edge.1) (lookup (label_eq wanted) edges) ≡ Some node
        here true rest none = absurd (some_none edge.1 none)
          where
            some_none : (n : ℕ) → Some n ≡ None → ⊥
            some_none n e = cc
        here false rest none = rest none

-- Edges from one node added to a graph, step by step.
use Rattle.std.proofs.Common.{◌≡◌, ℕ, ◌+◌, ◌<◌, ◌≤◌, ◌⊎◌, inl, inr, Some, List, [], ◌∷◌, ◌++◌, length, replicate, Contains, refl, sym, ap, subst, ◌∙◌, arith}
use Rattle.std.specs.Prelude.{slice_get}
use Rattle.std.proofs.lemmas.Bool.{cases_eq, cases_lt}
use Rattle.std.proofs.lemmas.Option.{slice_get_within}
use Rattle.std.proofs.lemmas.List.{get_or_past, get_or-replicate, length-replicate}
use Rattle.std.proofs.lemmas.List.Elements.{Contains-append_left, Contains-push, Contains-push_cases}
use Rattle.rt_components.specs.Graphs.{successors, HasEdge}
use Rattle.rt_proc.specs.declared.proc.Proc as procedure
use Rattle.rt_proc.specs.declared.site.Callee.{Callee}
use Rattle.rt_proc.specs.declared.site.Callee.TheVariants.{Proc}
use Rattle.rt_proc.specs.declared.site.Kind.TheVariants.{Call}
use Rattle.rt_proc.specs.declared.site.Site.{Site}
use Rattle.rt_calls.specs.Calls.{CallsAt, TailCallsAt, LeadTo, Calls, AddsEdges, IsCallGraph}

pub adds_none : (graph : List (List ℕ)) (p : ℕ) (Leads : ℕ → Type 0) → ((q : ℕ) → Leads q → ⊥) → AddsEdges graph graph p Leads
adds_none graph p Leads none = record {
  each = refl;
  others = λ a ne. refl;
  kept = λ q e. e;
  found = λ q less h. absurd (none q h);
  only = λ q e. inl e;
}

pub adds_both : (old mid new : List (List ℕ)) (p : ℕ) (First Second Leads : ℕ → Type 0) → ((q : ℕ) → Leads q → First q ⊎ Second q) → ((q : ℕ) → First q ⊎ Second q → Leads q) →
    AddsEdges old mid p First → AddsEdges mid new p Second → AddsEdges old new p Leads
adds_both old mid new p First Second Leads split join first second = record {
  each = second.each ∙ first.each;
  others = λ a ne. second.others a ne ∙ first.others a ne;
  kept = λ q e. second.kept q (first.kept q e);
  found = λ q less h. found q less (split q h);
  only = λ q e. only q (second.only q e);
}
  where
    found : (q : ℕ) → q < length old → First q ⊎ Second q → HasEdge new p q
    found q less (inl h) = second.kept q (first.found q less h)
    found q less (inr h) = second.found q (subst (λ n. q < n) (sym first.each) less) h

    only_first : (q : ℕ) → HasEdge old p q ⊎ ((q < length old) × First q) → HasEdge old p q ⊎ ((q < length old) × Leads q)
    only_first q (inl e) = inl e
    only_first q (inr (less, h)) = inr (less, join q (inl h))

    only : (q : ℕ) → HasEdge mid p q ⊎ ((q < length mid) × Second q) → HasEdge old p q ⊎ ((q < length old) × Leads q)
    only q (inl e) = only_first q (first.only q e)
    only q (inr (less, h)) = inr (subst (λ n. q < n) first.each less, join q (inr h))

pub adds_same : (old new : List (List ℕ)) (p : ℕ) (Other Leads : ℕ → Type 0) → ((q : ℕ) → Leads q → Other q) → ((q : ℕ) → Other q → Leads q) → AddsEdges old new p Other → AddsEdges old new p Leads
adds_same old new p Other Leads on back adds = record {
  each = adds.each;
  others = adds.others;
  kept = adds.kept;
  found = λ q less h. adds.found q less (on q h);
  only = λ q e. only q (adds.only q e);
}
  where
    only : (q : ℕ) → HasEdge old p q ⊎ ((q < length old) × Other q) → HasEdge old p q ⊎ ((q < length old) × Leads q)
    only q (inl e) = inl e
    only q (inr (less, h)) = inr (less, back q h)

same_call : (c d : Callee) (m n : ℕ) → Call c m ≡ Call d n → c ≡ d
same_call c d m n e = cc

-- a call's edge is that of its callee
pub adds_call : (old new : List (List ℕ)) (p : ℕ) (site : Site) (callee : Callee) (link : ℕ) → site.kind ≡ Call callee link → AddsEdges old new p (λ q. callee ≡ Proc q) → AddsEdges old new p (CallsAt site)
adds_call old new p site callee link is adds =
    adds_same old new p (λ q. callee ≡ Proc q) (CallsAt site) (λ q (n, e). same_call callee (Proc q) link n (sym is ∙ e)) (λ q e. (link, is ∙ ap (λ c. Call c link) e)) adds

-- a callee more
pub adds_callee : (old mid new : List (List ℕ)) (p : ℕ) (callees : List Callee) (callee : Callee) → AddsEdges old mid p (λ q. Contains callees (Proc q)) → AddsEdges mid new p (λ q. callee ≡ Proc q) →
    AddsEdges old new p (λ q. Contains (callees ++ callee ∷ []) (Proc q))
adds_callee old mid new p callees callee =
    adds_both old mid new p (λ q. Contains callees (Proc q)) (λ q. callee ≡ Proc q) (λ q. Contains (callees ++ callee ∷ []) (Proc q)) (λ q c. Contains-push_cases callees callee (Proc q) c) join
  where
    join : (q : ℕ) → Contains callees (Proc q) ⊎ (callee ≡ Proc q) → Contains (callees ++ callee ∷ []) (Proc q)
    join q (inl c) = Contains-append_left callees (callee ∷ []) (Proc q) c
    join q (inr e) = subst (Contains (callees ++ callee ∷ [])) e (Contains-push callees callee)

-- a site more
pub adds_site : (old mid later new : List (List ℕ)) (p : ℕ) (sites : List Site) (site : Site) → AddsEdges old mid p (LeadTo sites) → AddsEdges mid later p (CallsAt site) → AddsEdges later new p (TailCallsAt site) → AddsEdges old new p (LeadTo (sites ++ site ∷ []))
adds_site old mid later new p sites site before calls tails =
    adds_both old mid new p (LeadTo sites) (λ q. CallsAt site q ⊎ TailCallsAt site q) (LeadTo (sites ++ site ∷ [])) split join before
    (adds_both mid later new p (CallsAt site) (TailCallsAt site) (λ q. CallsAt site q ⊎ TailCallsAt site q) (λ q h. h) (λ q h. h) calls tails)
  where
    split : (q : ℕ) → LeadTo (sites ++ site ∷ []) q → LeadTo sites q ⊎ (CallsAt site q ⊎ TailCallsAt site q)
    split q (s, c, h) = by (Contains-push_cases sites site s c)
      where
        by : Contains sites s ⊎ (site ≡ s) → LeadTo sites q ⊎ (CallsAt site q ⊎ TailCallsAt site q)
        by (inl d) = inl (s, d, h)
        by (inr e) = inr (subst (λ x. CallsAt x q ⊎ TailCallsAt x q) (sym e) h)

    join : (q : ℕ) → LeadTo sites q ⊎ (CallsAt site q ⊎ TailCallsAt site q) → LeadTo (sites ++ site ∷ []) q
    join q (inl (s, c, h)) = (s, Contains-append_left sites (site ∷ []) s c, h)
    join q (inr h) = (site, Contains-push sites site, h)

-- the edges of the procedures before one
pub record IsGraphTo (procs : List procedure.Proc) (upto : ℕ) (graph : List (List ℕ)) : Type 0 where
  pub each : length graph ≡ length procs
  pub found : (p q : ℕ) → p < upto → Calls procs p q → HasEdge graph p q
  pub only : (p q : ℕ) → HasEdge graph p q → Calls procs p q

none_in : (a : ℕ) → Contains [] a → ⊥
none_in a (k, less, e) = omega arith

pub graph_none : (procs : List procedure.Proc) (graph : List (List ℕ)) (count : ℕ) → graph ≡ replicate count [] → count ≡ length procs → IsGraphTo procs 0 graph
graph_none procs graph count is same = record {
  each = ap length is ∙ length-replicate count [] ∙ same;
  found = λ p q less c. absurd (omega arith);
  only = λ p q e. absurd (none_in q (subst (λ xs. Contains xs q) (ap (λ g. successors g p) is ∙ empty p (cases_lt p count)) e));
}
  where
    empty : (p : ℕ) → (p < count) ⊎ (count ≤ p) → successors (replicate count []) p ≡ []
    empty p (inl less) = get_or-replicate count p [] [] less
    empty p (inr le) = get_or_past (replicate count []) p [] (let l : length (replicate {A = List ℕ} count []) ≡ count = length-replicate count [] in omega arith)

some_same : (a b : procedure.Proc) → Some a ≡ Some b → a ≡ b
some_same a b e = cc

pub graph_more : (procs : List procedure.Proc) (p : ℕ) (old new : List (List ℕ)) (proc : procedure.Proc) → IsGraphTo procs p old → slice_get procs p ≡ Some proc → AddsEdges old new p (LeadTo proc.sites) → IsGraphTo procs (p + 1) new
graph_more procs p old new proc to is adds = record {
  each = adds.each ∙ to.each;
  found = λ a q less c. found a q less c (cases_eq a p);
  only = λ a q e. only a q e (cases_eq a p);
}
  where
    found : (a q : ℕ) → a < p + 1 → Calls procs a q → (a ≡ p) ⊎ (a ≡ p → ⊥) → HasEdge new a q
    found a q less c (inr ne) = subst (λ xs. Contains xs q) (sym (adds.others a ne)) (to.found a q (omega arith) c)
    found a q less (low, (other, at, lead)) (inl e) =
        let same : other ≡ proc = some_same other proc (sym at ∙ ap (slice_get procs) e ∙ is) in
        subst (λ x. HasEdge new x q) (sym e) (adds.found q (subst (λ n. q < n) (sym to.each) low) (subst (λ x. LeadTo x.sites q) same lead))

    only : (a q : ℕ) → HasEdge new a q → (a ≡ p) ⊎ (a ≡ p → ⊥) → Calls procs a q
    only a q e (inr ne) = to.only a q (subst (λ xs. Contains xs q) (adds.others a ne) e)
    only a q e (inl f) = by (adds.only q (subst (λ x. HasEdge new x q) f e))
      where
        by : HasEdge old p q ⊎ ((q < length old) × LeadTo proc.sites q) → Calls procs a q
        by (inl g) = subst (λ x. Calls procs x q) (sym f) (to.only p q g)
        by (inr (low, lead)) = (subst (λ n. q < n) to.each low, (proc, ap (slice_get procs) f ∙ is, lead))

pub graph_all : (procs : List procedure.Proc) (upto : ℕ) (graph : List (List ℕ)) → IsGraphTo procs upto graph → length procs ≤ upto → IsCallGraph procs graph
graph_all procs upto graph to all = record {
  each = to.each;
  found = λ p q c. to.found p q (let less : p < length procs = caller p q c in omega arith) c;
  only = to.only;
}
  where
    caller : (p q : ℕ) → Calls procs p q → p < length procs
    caller p q (low, (proc, at, lead)) = slice_get_within procs p proc at

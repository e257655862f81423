-- Where one comes from block to block, edge by edge.
use Rattle.std.proofs.Common.{◌≡◌, ◌+◌, ◌<◌, ◌≤◌, ◌⊎◌, inl, inr, ℕ, zero, suc, List, [], ◌∷◌, ◌++◌, length, set, take, replicate, refl, sym, ap, subst, ◌∙◌, arith}
use Rattle.std.specs.Prelude.{Contains, slice_index, slice_index_or}
use Rattle.std.proofs.lemmas.List.{get_or_read, take_more, take_all, length-replicate, length-set}
use Rattle.std.proofs.lemmas.List.Elements.{Contains-get_or, Contains-push_cases}
use Rattle.rt_flow.specs.Bodies.{Body, Steps}
use Rattle.rt_flow.specs.Blocks.{AreTargets}
use Rattle.rt_flow.proofs.Pushed.{pushed, pushed_kept, pushed_here, pushed_cases}

-- a list that contains nothing
pub nothing_in : {X : Type 0} {A : Type 0} (x : X) → Contains [] x → A
nothing_in x (k, less, e) = absurd (omega arith)

-- no list of empty ones contains anything
pub replicated_none : {X : Type 0} (n k : ℕ) → slice_index_or (replicate {A = List X} n []) k [] ≡ []
replicated_none zero k = refl
replicated_none (suc n) zero = refl
replicated_none (suc n) (suc k) = replicated_none n k

pub nothing_replicated : {X : Type 0} {A : Type 0} (n k : ℕ) (x : X) → Contains (slice_index_or (replicate n []) k []) x → A
nothing_replicated n k x c = nothing_in x (subst (λ xs. Contains xs x) (replicated_none n k) c)

module _ (body : Body) (block firsts : List ℕ) where
  -- the targets by the first edges, so many
  pub record IsTargeting (i : ℕ) (targets : List (List ℕ)) : Type 0 where
    pub each : length targets + 1 ≡ length firsts
    pub all : (s t : ℕ) → Contains (take i body.edges) (s, t) → slice_index firsts (slice_index block t) ≡ t → Contains (slice_index_or targets (slice_index block s) []) (slice_index block t)
    pub only : (b c : ℕ) → Contains (slice_index_or targets b []) c → (s : ℕ) × (t : ℕ) × Steps body s t × (slice_index block s ≡ b) × (slice_index block t ≡ c) × (slice_index firsts c ≡ t)

  pub starts : (count : ℕ) → count + 1 ≡ length firsts → (targets : List (List ℕ)) → targets ≡ replicate count [] → IsTargeting 0 targets
  starts count more targets e = record {
    each = ap (λ n. n + 1) (ap length e ∙ length-replicate count []) ∙ more;
    all = λ s t c. nothing_in (s, t) c;
    only = λ b c h. nothing_replicated count b c (subst (λ ts. Contains (slice_index_or ts b []) c) e h);
  }

  module _ (i : ℕ) (targets : List (List ℕ)) (is : IsTargeting i targets) (edge : ℕ × ℕ) (less : i < length body.edges) (at : slice_index_or body.edges i (0, 0) ≡ edge) where
    more_edges : take (i + 1) body.edges ≡ take i body.edges ++ edge ∷ []
    more_edges = take_more body.edges i (0, 0) less ∙ ap (λ e. take i body.edges ++ e ∷ []) at

    an_edge : Contains body.edges edge
    an_edge = subst (Contains body.edges) at (Contains-get_or body.edges i (0, 0) less)

    edge_or : (s t : ℕ) → Contains (take (i + 1) body.edges) (s, t) → Contains (take i body.edges) (s, t) ⊎ (edge ≡ (s, t))
    edge_or s t c = Contains-push_cases (take i body.edges) edge (s, t) (subst (λ es. Contains es (s, t)) more_edges c)

    -- an edge that doesn't lead to the first site of a block
    pub passed : (slice_index firsts (slice_index block edge.1) ≡ edge.1 → ⊥) → IsTargeting (i + 1) targets
    passed other = record { each = is.each; all = λ s t c. by s t (edge_or s t c); only = is.only }
      where
        by : (s t : ℕ) → Contains (take i body.edges) (s, t) ⊎ (edge ≡ (s, t)) → slice_index firsts (slice_index block t) ≡ t → Contains (slice_index_or targets (slice_index block s) []) (slice_index block t)
        by s t (inl c) head = is.all s t c head
        by s t (inr e) head = absurd (other (ap (λ (e : ℕ × ℕ). slice_index firsts (slice_index block e.1)) e ∙ head ∙ sym (ap (λ (e : ℕ × ℕ). e.1) e)))

    -- an edge that does
    pub added : slice_index firsts (slice_index block edge.1) ≡ edge.1 → (within : slice_index block edge.0 < length targets)
        → IsTargeting (i + 1) (pushed targets (slice_index block edge.0) within (slice_index block edge.1))
    added here within = record {
      each = ap (λ n. n + 1) (length-set targets (slice_index block edge.0) (slice_index_or targets (slice_index block edge.0) [] ++ slice_index block edge.1 ∷ [])) ∙ is.each;
      all = λ s t c. by s t (edge_or s t c);
      only = λ b c h. from b c (pushed_cases targets (slice_index block edge.0) within (slice_index block edge.1) b c h);
    }
      where
        new : List (List ℕ)
        new = pushed targets (slice_index block edge.0) within (slice_index block edge.1)

        by : (s t : ℕ) → Contains (take i body.edges) (s, t) ⊎ (edge ≡ (s, t)) → slice_index firsts (slice_index block t) ≡ t
            → Contains (slice_index_or (pushed targets (slice_index block edge.0) within (slice_index block edge.1)) (slice_index block s) []) (slice_index block t)
        by s t (inl c) head = pushed_kept targets (slice_index block edge.0) within (slice_index block edge.1) (slice_index block s) (slice_index block t) (is.all s t c head)
        by s t (inr e) head =
            subst (λ (e : ℕ × ℕ). Contains (slice_index_or (pushed targets (slice_index block edge.0) within (slice_index block edge.1)) (slice_index block e.0) []) (slice_index block e.1)) e
            (pushed_here targets (slice_index block edge.0) within (slice_index block edge.1))

        from : (b c : ℕ) → Contains (slice_index_or targets b []) c ⊎ ((b ≡ slice_index block edge.0) × (slice_index block edge.1 ≡ c)) → (s : ℕ) × (t : ℕ) × Steps body s t × (slice_index block s ≡ b) × (slice_index block t ≡ c) × (slice_index firsts c ≡ t)
        from b c (inl h) = is.only b c h
        from b c (inr (e, f)) = (edge.0, edge.1, an_edge, sym e, f, ap (slice_index firsts) (sym f) ∙ here)

  -- the same of what a program holds
  module _ (i : ℕ) (targets : List (List ℕ)) (is : IsTargeting i targets) (items : List (ℕ × ℕ)) (same : items ≡ body.edges) (less : i < length items) where
    abbrev here : ℕ × ℕ
    here = slice_index_or items i (0, 0)

    at : slice_index_or body.edges i (0, 0) ≡ slice_index_or items i (0, 0)
    at = ap (λ (es : List (ℕ × ℕ)). slice_index_or es i (0, 0)) (sym same)

    under : i < length body.edges
    under = subst (λ (es : List (ℕ × ℕ)). i < length es) same less

    pub passed_by : (to first : ℕ) → to ≡ slice_index block here.1 → first ≡ slice_index firsts to → (first ≡ here.1 → ⊥) → IsTargeting (i + 1) targets
    passed_by to first to_is first_is other = passed i targets is here under at (λ e. other (first_is ∙ ap (slice_index firsts) to_is ∙ e))

    pub added_to : (to first from : ℕ) → to ≡ slice_index block here.1 → first ≡ slice_index firsts to → first ≡ here.1 → from ≡ slice_index block here.0 → from + 1 < length firsts
        → (old new : List ℕ) → old ≡ slice_index_or targets from old → new ≡ old ++ to ∷ [] → (after : List (List ℕ)) → after ≡ set targets from new → IsTargeting (i + 1) after
    added_to to first from to_is first_is head from_is within old new old_is new_is after after_is =
        let within_from : from < length targets = omega (arith, is.each) in
        let within_here : slice_index block here.0 < length targets = subst (λ n. n < length targets) from_is within_from in
        let row : old ≡ slice_index_or targets from [] = get_or_read targets from old within_from old_is [] in
        let whole : after ≡ pushed targets (slice_index block here.0) within_here (slice_index block here.1) =
        after_is ∙ ap (set targets from) (new_is ∙ ap (λ xs. xs ++ to ∷ []) row ∙ ap (λ n. slice_index_or targets from [] ++ n ∷ []) to_is)
        ∙ ap (λ n. set targets n (slice_index_or targets n [] ++ slice_index block here.1 ∷ [])) from_is in
        subst (IsTargeting (i + 1)) (sym whole) (added i targets is here under at (ap (slice_index firsts) (sym to_is) ∙ sym first_is ∙ head) within_here)

  pub ends : (i : ℕ) (targets : List (List ℕ)) → IsTargeting i targets → length body.edges ≤ i → AreTargets body block firsts targets
  ends i targets is whole = record {
    each = is.each;
    all = λ s t step. is.all s t (subst (λ es. Contains es (s, t)) (sym (take_all i body.edges whole)) step);
    only = is.only;
  }

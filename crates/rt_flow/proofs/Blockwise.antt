-- What reaches sites by blocks is what reaches them by walks.
use Rattle.std.proofs.Common.{◌≡◌, ◌+◌, ◌<◌, ◌≤◌, ◌⊎◌, ◌↔◌, inl, inr, ℕ, zero, suc, ℤ, List, [], ◌∷◌, length, Option, Some, None, refl, sym, ap, subst, ◌∙◌, arith}
use Rattle.std.specs.Prelude.{Contains, slice_index, slice_index_or}
use Rattle.std.proofs.lemmas.Bool.{cases_eq, cases_lt}
use Rattle.std.proofs.lemmas.List.Elements.{All-contains}
use Rattle.rt_base.proofs.Numbers.{before_or}
use Rattle.rt_flow.specs.declared.def.Def.{Def}
use Rattle.rt_flow.specs.declared.def.Def.TheVariants.{Entry, At}
use Rattle.rt_flow.specs.Bodies.{Body, IsBody, Steps, Defines, Reaches}
use Rattle.rt_flow.specs.Blocks.{IsJoined, AreBlocks, AreTargets, NoneWithin, IsLastWithin, IsLastOf, AreLasts, Run, Arrives}
use Rattle.rt_flow.specs.Blocks.Run.{begins, goes}
use Rattle.rt_flow.proofs.Walking.{entry_reaches, reaches_next, reaches_on, reaches_all}

module _ (body : Body) (is_body : IsBody body) (block firsts : List ℕ) (are : AreBlocks body block firsts) where
  -- the first site of a site's block
  abbrev pub first : ℕ → ℕ
  first s = slice_index firsts (slice_index block s)

  edge_within : (s t : ℕ) → Steps body s t → (s < body.sites) × (t < body.sites)
  edge_within s t e = All-contains (λ e. (e.0 < body.sites) × (e.1 < body.sites)) body.edges (s, t) is_body.edges_in e

  first_of : (s t : ℕ) → slice_index block s ≡ slice_index block t → first s ≡ first t
  first_of s t e = ap (slice_index firsts) e

  pub first_le : (s : ℕ) → s < body.sites → first s ≤ s
  first_le zero less = by (are.begin zero less)
    where
      by : (first zero ≡ zero) ⊎ (IsJoined body zero × ((p : ℕ) × (p + 1 ≡ zero) × (slice_index block p ≡ slice_index block zero))) → first zero ≤ zero
      by (inl e) = omega arith
      by (inr (joined, (p, e, same))) = absurd (omega arith)
  first_le (suc s) less = elim (are.begin (suc s) less) [
    | inl e ↦ omega arith
    | inr behind ↦
        let before : behind.1.0 ≡ s = omega (arith, behind.1.1) in
        let one : first s ≡ first (suc s) = first_of s (suc s) (subst (λ q. slice_index block q ≡ slice_index block (suc s)) before behind.1.2) in
        let less_one : first s ≤ s = first_le s (omega arith) in
        omega arith
  ]

  -- a site behind the first of its block: it is joined, and the one before is of the block
  behind : (s : ℕ) → suc s < body.sites → first (suc s) ≤ s → IsJoined body (suc s) × (slice_index block s ≡ slice_index block (suc s))
  behind s less after = by (are.begin (suc s) less)
    where
      by : (first (suc s) ≡ suc s) ⊎ (IsJoined body (suc s) × ((p : ℕ) × (p + 1 ≡ suc s) × (slice_index block p ≡ slice_index block (suc s)))) → IsJoined body (suc s) × (slice_index block s ≡ slice_index block (suc s))
      by (inl e) = absurd (omega arith)
      by (inr (joined, (p, e, same))) = let before : p ≡ s = omega arith in (joined, subst (λ q. slice_index block q ≡ slice_index block (suc s)) before same)

  -- and the edge of the one before leads to it
  edge_behind : (s : ℕ) → suc s < body.sites → first (suc s) ≤ s → Steps body s (suc s)
  edge_behind s less after =
      let found = (behind s less after).0.after in
      let before : found.0 ≡ s = omega (arith, found.1) in
      subst (λ q. Steps body q (suc s)) before found.2

  -- sites of a block behind its first are joined
  same_block : (s t : ℕ) → s < body.sites → first s < t → t ≤ s → IsJoined body t
  same_block zero t less after within = absurd (omega arith)
  same_block (suc s) t less after within = elim (cases_eq t (suc s)) [
    | inl e ↦ subst (IsJoined body) (sym e) (behind s less (omega arith)).0
    | inr other ↦
        let one : first s ≡ first (suc s) = first_of s (suc s) (behind s less (omega arith)).1 in
        same_block s t (omega arith) (omega arith) (omega arith)
  ]

  -- an edge goes on in its block, or leads from the last site of a block to the first of one
  abbrev IsEdge : ℕ → ℕ → Type 0
  IsEdge s t = ((s + 1 ≡ t) × (slice_index block s ≡ slice_index block t) × (first t < t)) ⊎ ((first t ≡ t) × (slice_index firsts (slice_index block s + 1) ≡ s + 1))

  edge_cases : (s t : ℕ) → Steps body s t → IsEdge s t
  edge_cases s t edge = by_end (are.begin t in_t)
    where
      in_s : s < body.sites
      in_s = (edge_within s t edge).0

      in_t : t < body.sites
      in_t = (edge_within s t edge).1

      less : first s ≤ s
      less = first_le s in_s

      across : first t ≡ t → (slice_index firsts (slice_index block s + 1) ≡ s + 1) ⊎ ((s + 1 < body.sites) × (slice_index block (s + 1) ≡ slice_index block s)) → IsEdge s t
      across head (inl e) = inr (head, e)
      across head (inr (more, same)) =
          let one : first (s + 1) ≡ first s = first_of (s + 1) s same in
          let le = less in
          let joined : IsJoined body (s + 1) = same_block (s + 1) (s + 1) more (omega arith) (omega arith) in
          let here : s + 1 ≡ t = sym (joined.only s t edge (inl refl)).1 in
          let same_first : first t ≡ first s = ap first (sym here) ∙ one in
          absurd (omega arith)

      by_end : (first t ≡ t) ⊎ (IsJoined body t × ((p : ℕ) × (p + 1 ≡ t) × (slice_index block p ≡ slice_index block t))) → IsEdge s t
      by_end (inl head) = across head (are.last s in_s)
      by_end (inr (joined, (p, e, same))) =
          let next : s + 1 ≡ t = (joined.only s t edge (inr refl)).0 in
          let before : p ≡ s = omega arith in
          let one : slice_index block s ≡ slice_index block t = subst (λ q. slice_index block q ≡ slice_index block t) before same in
          let first_one : first s ≡ first t = first_of s t one in
          inl (next, one, omega (arith, less))

  entry_first : first body.entry ≡ body.entry
  entry_first = by (are.begin body.entry is_body.entry_in)
    where
      by : (first body.entry ≡ body.entry) ⊎ (IsJoined body body.entry × ((p : ℕ) × (p + 1 ≡ body.entry) × (slice_index block p ≡ slice_index block body.entry))) → first body.entry ≡ body.entry
      by (inl e) = e
      by (inr (joined, rest)) = absurd (joined.not_entry refl)

  module _ (targets : List (List ℕ)) (are_targets : AreTargets body block firsts targets) where
    -- the edge by which one comes from a block to a target of it
    leaving : (b c : ℕ) → Contains (slice_index_or targets b []) c → (s : ℕ) × (t : ℕ) × Steps body s t × (slice_index block s ≡ b) × (slice_index firsts (b + 1) ≡ s + 1) × (slice_index firsts c ≡ t)
    leaving b c target = by (are_targets.only b c target)
      where
        by : (s : ℕ) × (t : ℕ) × Steps body s t × (slice_index block s ≡ b) × (slice_index block t ≡ c) × (slice_index firsts c ≡ t)
            → (s : ℕ) × (t : ℕ) × Steps body s t × (slice_index block s ≡ b) × (slice_index firsts (b + 1) ≡ s + 1) × (slice_index firsts c ≡ t)
        by (s, t, edge, from, to, head) = cross (edge_cases s t edge)
          where
            cross : IsEdge s t → (s : ℕ) × (t : ℕ) × Steps body s t × (slice_index block s ≡ b) × (slice_index firsts (b + 1) ≡ s + 1) × (slice_index firsts c ≡ t)
            cross (inl (next, one, inside)) = let at_head : first t ≡ t = ap (slice_index firsts) to ∙ head in absurd (omega arith)
            cross (inr (begin, last)) = (s, t, edge, from, ap (λ n. slice_index firsts (n + 1)) (sym from) ∙ last, head)

    module _ (loc : ℤ) (sites : List ℕ) (defines : (k : ℕ) → Contains sites k ↔ Defines body k loc) (lasts : List (Option ℕ)) (are_lasts : AreLasts firsts sites lasts) where
      -- what reaches a site by the blocks: what arrives at its block, or the last definition before it in its block
      abbrev pub Answers : Def → ℕ → Type 0
      Answers x s = (NoneWithin sites (first s) s × Arrives targets lasts (slice_index block body.entry) x (slice_index block s)) ⊎ ((d : ℕ) × IsLastWithin sites (first s) s d × (x ≡ At d))

      -- along a block
      on_block : (x : Def) (s t : ℕ) → s < body.sites → first s ≤ t → t ≤ s → NoneWithin sites t s → Reaches body loc x t → Reaches body loc x s
      on_block x zero t less from to none here = subst (Reaches body loc x) (omega arith) here
      on_block x (suc s) t less from to none here = elim (cases_eq t (suc s)) [
        | inl e ↦ subst (Reaches body loc x) e here
        | inr other ↦
            let one : first s ≡ first (suc s) = first_of s (suc s) (behind s less (omega arith)).1 in
            let there : Reaches body loc x s = on_block x s t (omega arith) (omega arith) (omega arith) (λ k c low high. none k c low (omega arith)) here in
            reaches_on body loc x s (suc s) there (λ d. none s ((defines s).1 d) (omega arith) (omega arith)) (edge_behind s less (omega arith))
      ]

      -- a definition reaches the later sites of its block up to the next one
      last_reaches : (s d : ℕ) → s < body.sites → IsLastWithin sites (first s) s d → Reaches body loc (At d) s
      last_reaches s d less last =
          let joined = same_block s (d + 1) less (omega arith) (omega arith) in
          let before : joined.after.0 ≡ d = omega (arith, joined.after.1) in
          let edge : Steps body d (d + 1) = subst (λ q. Steps body q (d + 1)) before joined.after.2 in
          on_block (At d) s (d + 1) less (omega arith) (omega arith) last.later (reaches_next body loc d (d + 1) ((defines d).0 last.there) edge)

      after_last : (b : ℕ) (s d : ℕ) → slice_index firsts (b + 1) ≡ s + 1 → IsLastOf sites (slice_index firsts b) (slice_index firsts (b + 1)) (Some d) → IsLastWithin sites (slice_index firsts b) (s + 1) d
      after_last b s d e last = subst (λ n. IsLastWithin sites (slice_index firsts b) n d) e last

      -- the last definition in a block reaches the targets of the block
      target_reached : (b c d : ℕ) → slice_index_or lasts b None ≡ Some d → Contains (slice_index_or targets b []) c → Reaches body loc (At d) (slice_index firsts c)
      target_reached b c d e target = by (leaving b c target)
        where
          by : (s : ℕ) × (t : ℕ) × Steps body s t × (slice_index block s ≡ b) × (slice_index firsts (b + 1) ≡ s + 1) × (slice_index firsts c ≡ t) → Reaches body loc (At d) (slice_index firsts c)
          by (s, t, edge, from, end, to) = subst (Reaches body loc (At d)) (sym to) (cases (cases_eq d s))
            where
              in_s : s < body.sites
              in_s = (edge_within s t edge).0

              more : b + 1 < length firsts
              more = subst (λ n. n + 1 < length firsts) from (are.within s in_s)

              last : IsLastWithin sites (first s) (s + 1) d
              last = subst (λ n. IsLastWithin sites (slice_index firsts n) (s + 1) d) (sym from)
                  (after_last b s d end (subst (IsLastOf sites (slice_index firsts b) (slice_index firsts (b + 1))) e (are_lasts.last b more)))

              cases : (d ≡ s) ⊎ (d ≡ s → ⊥) → Reaches body loc (At d) t
              cases (inl same) = reaches_next body loc d t ((defines d).0 last.there) (subst (λ q. Steps body q t) (sym same) edge)
              cases (inr other) =
                  let within = last.within in
                  let before : IsLastWithin sites (first s) s d = record { there = last.there; within = (within.0, omega arith); later = λ k c low high. last.later k c low (omega arith) } in
                  reaches_on body loc (At d) s t (last_reaches s d in_s before) (λ h. last.later s ((defines s).1 h) (omega arith) (omega arith)) edge

      -- what reaches the first site of a block without a definition reaches the targets of the block
      passes : (x : Def) (b c : ℕ) → slice_index_or lasts b None ≡ None → Contains (slice_index_or targets b []) c → Reaches body loc x (slice_index firsts b) → Reaches body loc x (slice_index firsts c)
      passes x b c e target here = by (leaving b c target)
        where
          by : (s : ℕ) × (t : ℕ) × Steps body s t × (slice_index block s ≡ b) × (slice_index firsts (b + 1) ≡ s + 1) × (slice_index firsts c ≡ t) → Reaches body loc x (slice_index firsts c)
          by (s, t, edge, from, end, to) = subst (Reaches body loc x) (sym to) (reaches_on body loc x s t there (λ h. none s ((defines s).1 h) less (omega arith)) edge)
            where
              in_s : s < body.sites
              in_s = (edge_within s t edge).0

              less : first s ≤ s
              less = first_le s in_s

              more : b + 1 < length firsts
              more = subst (λ n. n + 1 < length firsts) from (are.within s in_s)

              none_of : NoneWithin sites (slice_index firsts b) (slice_index firsts (b + 1))
              none_of = subst (IsLastOf sites (slice_index firsts b) (slice_index firsts (b + 1))) e (are_lasts.last b more)

              none : NoneWithin sites (first s) (s + 1)
              none k c low high = none_of k c (subst (λ n. slice_index firsts n ≤ k) from low) (subst (λ n. k < n) (sym end) high)

              there : Reaches body loc x s
              there = on_block x s (first s) in_s (omega arith) less (λ k c low high. none k c low (omega arith)) (subst (λ n. Reaches body loc x (slice_index firsts n)) (sym from) here)

      run_reaches : (x : Def) (starts : List ℕ) → ((c : ℕ) → Contains starts c → Reaches body loc x (slice_index firsts c)) → (b : ℕ) → Run targets lasts starts b → Reaches body loc x (slice_index firsts b)
      run_reaches x starts from b (begins c) = from b c
      run_reaches x starts from c (goes {b = b} r e target) = passes x b c e target (run_reaches x starts from b r)

      only_one : (a c : ℕ) → Contains (a ∷ []) c → a ≡ c
      only_one a c (zero, less, e) = e
      only_one a c (suc k, less, e) = absurd (omega arith)

      arrives_reaches : (x : Def) (b : ℕ) → Arrives targets lasts (slice_index block body.entry) x b → Reaches body loc x (slice_index firsts b)
      arrives_reaches Entry b r =
          run_reaches Entry (slice_index block body.entry ∷ []) (λ c h. subst (λ n. Reaches body loc Entry (slice_index firsts n)) (only_one (slice_index block body.entry) c h) (subst (Reaches body loc Entry) (sym entry_first) (entry_reaches body loc))) b r
      arrives_reaches (At d) b (a, e, r) = run_reaches (At d) (slice_index_or targets a []) (λ c h. target_reached a c d e h) b r

      -- what answers reaches
      pub answers_reach : (x : Def) (s : ℕ) → s < body.sites → Answers x s → Reaches body loc x s
      answers_reach x s less (inl (none, arrives)) = on_block x s (first s) less (omega arith) (first_le s less) none (arrives_reaches x (slice_index block s) arrives)
      answers_reach x s less (inr (d, last, e)) = subst (λ y. Reaches body loc y s) (sym e) (last_reaches s d less last)

      lasts_of : (s : ℕ) → s < body.sites → slice_index firsts (slice_index block s + 1) ≡ s + 1 → (o : Option ℕ) → slice_index_or lasts (slice_index block s) None ≡ o → IsLastOf sites (first s) (s + 1) o
      lasts_of s in_s end o e = subst (IsLastOf sites (first s) (s + 1)) e (subst (λ n. IsLastOf sites (first s) n (slice_index_or lasts (slice_index block s) None)) end (are_lasts.last (slice_index block s) (are.within s in_s)))

      -- in a block that ends at a site, the last definition
      is_last : (s d : ℕ) → s < body.sites → slice_index firsts (slice_index block s + 1) ≡ s + 1 → IsLastWithin sites (first s) (s + 1) d → slice_index_or lasts (slice_index block s) None ≡ Some d
      is_last s d in_s end last = by (slice_index_or lasts (slice_index block s) None) refl
        where
          by : (o : Option ℕ) → slice_index_or lasts (slice_index block s) None ≡ o → slice_index_or lasts (slice_index block s) None ≡ Some d
          by None e = absurd (lasts_of s in_s end None e d last.there last.within.0 last.within.1)
          by (Some c) e = e ∙ ap Some (same (cases_lt c d) (cases_lt d c))
            where
              other : IsLastWithin sites (first s) (s + 1) c
              other = lasts_of s in_s end (Some c) e

              same : (c < d) ⊎ (d ≤ c) → (d < c) ⊎ (c ≤ d) → c ≡ d
              same (inl h) g = absurd (other.later d last.there (omega arith) last.within.1)
              same (inr h) (inl g) = absurd (last.later c other.there (omega arith) other.within.1)
              same (inr h) (inr g) = omega arith

      -- or none
      is_none : (s : ℕ) → s < body.sites → slice_index firsts (slice_index block s + 1) ≡ s + 1 → NoneWithin sites (first s) (s + 1) → slice_index_or lasts (slice_index block s) None ≡ None
      is_none s in_s end none = by (slice_index_or lasts (slice_index block s) None) refl
        where
          by : (o : Option ℕ) → slice_index_or lasts (slice_index block s) None ≡ o → slice_index_or lasts (slice_index block s) None ≡ None
          by None e = e
          by (Some c) e = let last = lasts_of s in_s end (Some c) e in absurd (none c last.there last.within.0 last.within.1)

      arrives_on : (x : Def) (b c : ℕ) → Arrives targets lasts (slice_index block body.entry) x b → slice_index_or lasts b None ≡ None → Contains (slice_index_or targets b []) c → Arrives targets lasts (slice_index block body.entry) x c
      arrives_on Entry b c r e target = goes r e target
      arrives_on (At d) b c (a, f, r) e target = (a, f, goes r e target)

      at_first : (x : Def) (t : ℕ) → first t ≡ t → Arrives targets lasts (slice_index block body.entry) x (slice_index block t) → Answers x t
      at_first x t head arrives = inl (λ k c low high. omega arith, arrives)

      none_more : (from s : ℕ) → NoneWithin sites from s → (Contains sites s → ⊥) → NoneWithin sites from (s + 1)
      none_more from s none free k c low high = by (before_or s k high)
        where
          by : (k < s) ⊎ (k ≡ s) → ⊥
          by (inl less) = none k c low less
          by (inr e) = free (subst (Contains sites) e c)

      last_more : (from s d : ℕ) → IsLastWithin sites from s d → (Contains sites s → ⊥) → IsLastWithin sites from (s + 1) d
      last_more from s d last free = record { there = last.there; within = (last.within.0, omega arith); later = none_more (d + 1) s last.later free }

      -- an answer goes on along an edge from a site without a definition
      answers_on : (x : Def) (s t : ℕ) → Answers x s → (Defines body s loc → ⊥) → Steps body s t → Answers x t
      answers_on x s t answers none_here edge = by (edge_cases s t edge) answers
        where
          in_s : s < body.sites
          in_s = (edge_within s t edge).0

          free : Contains sites s → ⊥
          free c = none_here ((defines s).0 c)

          target : first t ≡ t → Contains (slice_index_or targets (slice_index block s) []) (slice_index block t)
          target head = are_targets.all s t edge head

          by : IsEdge s t → Answers x s → Answers x t
          by (inl (next, one, inside)) (inl (none, arrives)) =
              inl (subst (λ n. NoneWithin sites n t) (first_of s t one) (subst (NoneWithin sites (first s)) next (none_more (first s) s none free)), subst (Arrives targets lasts (slice_index block body.entry) x) one arrives)
          by (inl (next, one, inside)) (inr (d, last, e)) =
              inr (d, subst (λ n. IsLastWithin sites n t d) (first_of s t one) (subst (λ n. IsLastWithin sites (first s) n d) next (last_more (first s) s d last free)), e)
          by (inr (head, end)) (inl (none, arrives)) =
              at_first x t head (arrives_on x (slice_index block s) (slice_index block t) arrives (is_none s in_s end (none_more (first s) s none free)) (target head))
          by (inr (head, end)) (inr (d, last, e)) =
              at_first x t head (subst (λ y. Arrives targets lasts (slice_index block body.entry) y (slice_index block t)) (sym e) (slice_index block s, is_last s d in_s end (last_more (first s) s d last free), begins (target head)))

      -- and begins behind a definition
      answers_next : (d t : ℕ) → Defines body d loc → Steps body d t → Answers (At d) t
      answers_next d t here edge = by (edge_cases d t edge)
        where
          in_d : d < body.sites
          in_d = (edge_within d t edge).0

          last : first d ≤ d → IsLastWithin sites (first d) (d + 1) d
          last less = record { there = (defines d).1 here; within = (less, omega arith); later = λ k c low high. omega arith }

          by : IsEdge d t → Answers (At d) t
          by (inl (next, one, inside)) = inr (d, subst (λ n. IsLastWithin sites n t d) (first_of d t one) (subst (λ n. IsLastWithin sites (first d) n d) next (last (first_le d in_d))), refl)
          by (inr (head, end)) = at_first (At d) t head (slice_index block d, is_last d d in_d end (last (first_le d in_d)), begins (are_targets.all d t edge head))

      -- what reaches answers
      pub reaching_answers : (x : Def) (s : ℕ) → Reaches body loc x s → Answers x s
      reaching_answers x s reaches =
          reaches_all body loc (Answers x) (answers_on x) x s
          (λ e. subst (λ y. Answers y body.entry) (sym e) (at_first Entry body.entry entry_first (begins (zero, omega arith, refl))))
          (λ d m e here edge. subst (λ y. Answers y m) (sym e) (answers_next d m here edge))
          reaches

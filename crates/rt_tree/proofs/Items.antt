-- Nodes and edges as items: what leads to items that are alike is alike.
use Rattle.std.proofs.Common.{◌≡◌, ℕ, zero, suc, ◌+◌, ◌<◌, ◌≤◌, ◌⊎◌, inl, inr, Option, Some, List, [], ◌∷◌, ◌++◌, Contains, map, length, get_or, set, refl, sym, ap, subst, ◌∙◌, arith, All, ◌-◌, take, length-append}
use Rattle.std.specs.Prelude.{slice_get, slice_index, slice_index_or}
use Rattle.std.specs.List.{AllByRecursion}
use Rattle.std.proofs.Math.ListN.{length-set}
use Rattle.std.proofs.lemmas.Option.{slice_get_within, slice_get-get_or}
use Rattle.std.proofs.lemmas.List.{get_or_append_left, get_or-append_right, get_or-map, get_or-take, length-map}
use Rattle.rt_base.proofs.Lists.{Contains-none, Contains-cons_cases, Contains-here, Contains-there}
use Rattle.std.proofs.lemmas.List.Elements.{All-from_get_or}
use Rattle.rt_lines.specs.Words.{IsLabel}
use Rattle.rt_lines.specs.declared.label.Label.{Label}
use Rattle.rt_tree.specs.declared.links.Link.{Link}
use Rattle.rt_tree.specs.Pairs.{ArePaired}
use Rattle.rt_tree.specs.Partitions.{AreCoarseClasses, AreToldNodes}
use Rattle.rt_tree.specs.Inside.Splits.{AreAlike, AreFirstLabels, AreInto, AreIntoTo, AreLed, AreTold, IsIn, IsSplit, LeadsBy, link_of, links_from, links_of}
use Rattle.rt_tree.specs.Trees.{Nodes, node_at, AreLike, IsEdge}
use Rattle.rt_tree.proofs.Alike.{edges_of, like_edges}
use Rattle.rt_tree.proofs.Moving.{row_added, row_kept, row_only}
use Rattle.rt_tree.proofs.Words.{AreNodes}

-- where an element of a mapped list came from, and where it is
mapped_from : {X Y : Type 0} (f : X → Y) (xs : List X) (ys : List Y) (k : ℕ) (y : Y) → slice_get (map f xs ++ ys) k ≡ Some y →
    ((x : X) × Contains xs x × (f x ≡ y)) ⊎ ((j : ℕ) × (slice_get ys j ≡ Some y))
mapped_from f [] ys k y e = inr (k, e)
mapped_from {X} {Y} f (x ∷ xs) ys zero y e = inl (x, Contains-here x xs, the e)
  where
    the : ◌≡◌ {A = Option Y} (Some (f x)) (Some y) → f x ≡ y
    the e = cc
mapped_from f (x ∷ xs) ys (suc k) y e = elim (mapped_from f xs ys k y e) [
  | inl (z, c, same) ↦ inl (z, Contains-there x xs z c, same)
  | inr there ↦ inr there
]

mapped_to : {X Y : Type 0} (f : X → Y) (xs : List X) (ys : List Y) (x : X) → Contains xs x → (j : ℕ) × (slice_get (map f xs ++ ys) j ≡ Some (f x))
mapped_to f [] ys x (k, less, e) = absurd (omega arith)
mapped_to {X} {Y} f (y ∷ xs) ys x c = by (Contains-cons_cases y xs x c) (mapped_to f xs ys x)
  where
    by : (y ≡ x) ⊎ Contains xs x → (Contains xs x → (j : ℕ) × (slice_get (map f xs ++ ys) j ≡ Some (f x))) →
        (j : ℕ) × (slice_get (map f (y ∷ xs) ++ ys) j ≡ Some (f x))
    by (inl e) rest = (0, ap (λ z. Some (f z)) e)
    by (inr d) rest = (suc (rest d).0, (rest d).1)

behind : {X : Type 0} (xs ys : List X) (j : ℕ) (y : X) → slice_get ys j ≡ Some y → slice_get (xs ++ ys) (length xs + j) ≡ Some y
behind [] ys j y e = let same : j ≡ 0 + j = omega arith in subst (λ k. slice_get ys k ≡ Some y) same e
behind (x ∷ xs) ys j y e =
    let same : suc (length xs + j) ≡ suc (length xs) + j = omega arith in
    subst (λ k. slice_get (x ∷ (xs ++ ys)) k ≡ Some y) same (behind xs ys j y e)

-- an edge is one of its node
link_from : (n : ℕ) (nodes : Nodes) (k : ℕ) (link : Link) → slice_get (links_from n nodes) k ≡ Some link →
    (m : ℕ) × (link.from ≡ n + m) × (m < length nodes) × Contains (node_at nodes m).edges (link.label, link.to)
link_from n [] k link e = cc
link_from n (node ∷ nodes) k link e = by (mapped_from (link_of n) node.edges (links_from (suc n) nodes) k link e) (λ j at. link_from (suc n) nodes j link at)
  where
    by : ((edge : Label × ℕ) × Contains node.edges edge × (link_of n edge ≡ link)) ⊎ ((j : ℕ) × (slice_get (links_from (suc n) nodes) j ≡ Some link)) →
        ((j : ℕ) → slice_get (links_from (suc n) nodes) j ≡ Some link →
        (m : ℕ) × (link.from ≡ suc n + m) × (m < length nodes) × Contains (node_at nodes m).edges (link.label, link.to)) →
        (m : ℕ) × (link.from ≡ n + m) × (m < length (node ∷ nodes)) × Contains (node_at (node ∷ nodes) m).edges (link.label, link.to)
    by (inl (edge, c, same)) deeper = (
      0,
      sym (ap (λ (x : Link). x.from) same) ∙ plain n,
      omega arith,
      subst (λ (x : Link). Contains node.edges (x.label, x.to)) same c,
    )
      where
        plain : (n : ℕ) → n ≡ n + 0
        plain n = omega arith
    by (inr (j, at)) deeper = let rest = deeper j at in (suc rest.0, (let e = rest.1 in omega arith), (let h = rest.2 in omega arith), rest.3)

pub link_of_node : (nodes : Nodes) (k : ℕ) (link : Link) → slice_get (links_of nodes) k ≡ Some link → (link.from < length nodes) × Contains (node_at nodes link.from).edges (link.label, link.to)
link_of_node nodes k link e =
    let at = link_from 0 nodes k link e in
    let same : at.0 ≡ link.from = let f = at.1 in omega arith in
    (subst (λ m. m < length nodes) same at.2, subst (λ m. Contains (node_at nodes m).edges (link.label, link.to)) same at.3)

-- and each edge of a node is there
link_to : (n : ℕ) (nodes : Nodes) (m : ℕ) (edge : Label × ℕ) → m < length nodes → Contains (node_at nodes m).edges edge →
    (j : ℕ) × (slice_get (links_from n nodes) j ≡ Some (link_of (n + m) edge))
link_to n [] m edge less c = absurd (omega arith)
link_to n (node ∷ nodes) zero edge less c =
    let at = mapped_to (link_of n) node.edges (links_from (suc n) nodes) edge c in
    (at.0, at.1 ∙ ap (λ m. Some (link_of m edge)) (plain n))
  where
    plain : (n : ℕ) → n ≡ n + 0
    plain n = omega arith
link_to n (node ∷ nodes) (suc m) edge less c =
    let rest = link_to (suc n) nodes m edge (omega arith) c in (
      length (map (link_of n) node.edges) + rest.0,
      behind (map (link_of n) node.edges) (links_from (suc n) nodes) rest.0 (link_of (suc n + m) edge) rest.1 ∙ ap (λ k. Some (link_of k edge)) (shifted n m),
    )
  where
    shifted : (n m : ℕ) → suc n + m ≡ n + suc m
    shifted n m = omega arith

paired_contains : (R : ℕ → ℕ → Type 0) (xs ys : List (Label × ℕ)) (l : Label) (m : ℕ) → ArePaired R xs ys → Contains xs (l, m) → (k : ℕ) × Contains ys (l, k) × R m k
paired_contains R [] ys l m h (k, less, e) = absurd (omega arith)
paired_contains R (x ∷ xs) [] l m h c = absurd h
paired_contains R (x ∷ xs) (y ∷ ys) l m h c = by (Contains-cons_cases x xs (l, m) c) (paired_contains R xs ys l m h.2)
  where
    by : (x ≡ (l, m)) ⊎ Contains xs (l, m) → (Contains xs (l, m) → (k : ℕ) × Contains ys (l, k) × R m k) → (k : ℕ) × Contains (y ∷ ys) (l, k) × R m k
    by (inl e) deeper =
        let label : y.0 ≡ l = sym h.0 ∙ ap (λ (z : Label × ℕ). z.0) e in
        (y.1, subst (λ j. Contains (y ∷ ys) (j, y.1)) label (Contains-here y ys), subst (λ n. R n y.1) (ap (λ (z : Label × ℕ). z.1) e) h.1)
    by (inr d) deeper = let rest = deeper d in (rest.0, Contains-there y ys (l, rest.0) rest.1, rest.2)

pub alike_back : (nodes : Nodes) (x y : ℕ) → AreAlike nodes x y → AreAlike nodes y x
alike_back nodes x y (inl (p, q, like)) = inl (q, p, λ w. sym (like w))
alike_back nodes x y (inr (i, j, e, f, a)) = inr (
  j,
  i,
  f,
  e,
  record {
    first = a.second;
    second = a.first;
    first_at = a.second_at;
    second_at = a.first_at;
    alike = record { labels = sym a.alike.labels; begins = λ w. sym (a.alike.begins w); ends = λ w. sym (a.alike.ends w) };
  },
)

alike_within : (nodes : Nodes) (x y : ℕ) → AreAlike nodes x y → x < length nodes + length (links_of nodes)
alike_within nodes x y (inl (p, q, like)) = omega arith
alike_within nodes x y (inr (i, j, e, f, a)) = let less = slice_get_within (links_of nodes) i a.first a.first_at in omega arith

same_number : (n i j : ℕ) → n + i ≡ n + j → i ≡ j
same_number n i j e = omega arith

each_edge : (P : Label × ℕ → Type 0) (xs : List (Label × ℕ)) (x : Label × ℕ) → AllByRecursion P xs → Contains xs x → P x
each_edge P [] x h (k, less, e) = absurd (omega arith)
each_edge P (y ∷ xs) x h c = by (Contains-cons_cases y xs x c) (each_edge P xs x h.1)
  where
    by : (y ≡ x) ⊎ Contains xs x → (Contains xs x → P x) → P x
    by (inl e) rest = subst P e h.0
    by (inr d) rest = rest d

module _ (nodes : Nodes) (good : AreNodes nodes) where
  -- an edge of a node has one that is alike at each node that is like this one
  alike_edge : (x y j : ℕ) (link : Link) → x < length nodes → y < length nodes → AreLike nodes x y → slice_get (links_of nodes) j ≡ Some link → link.from ≡ x →
      (i : ℕ) × (to : ℕ) × (slice_get (links_of nodes) i ≡ Some (link_of y (link.label, to))) × AreLike nodes link.to to
  alike_edge x y j link less less' like at from =
      let edge = link_of_node nodes j link at in
      let here : Contains (node_at nodes x).edges (link.label, link.to) = subst (λ m. Contains (node_at nodes m).edges (link.label, link.to)) from edge.1 in
      let other = paired_contains (AreLike nodes) (node_at nodes x).edges (node_at nodes y).edges link.label link.to (like_edges nodes good x y less less' like) here in
      let there = link_to 0 nodes y (link.label, other.0) less' other.1 in
      let same : 0 + y ≡ y = omega arith in
      (there.0, other.0, subst (λ n. slice_get (links_of nodes) there.0 ≡ Some (link_of n (link.label, other.0))) same there.1, other.2)

  edge_good : (j : ℕ) (link : Link) → slice_get (links_of nodes) j ≡ Some link → IsEdge (length nodes) (link.label, link.to)
  edge_good j link at =
      let edge = link_of_node nodes j link at in
      each_edge (IsEdge (length nodes)) (node_at nodes link.from).edges (link.label, link.to) (edges_of nodes good link.from edge.0).each edge.1

  end_within : (j : ℕ) (link : Link) → slice_get (links_of nodes) j ≡ Some link → link.to < length nodes
  end_within j link at = (edge_good j link at).1

  pub links_labels : (k : ℕ) (d : Link) → k < length (links_of nodes) → IsLabel (get_or (links_of nodes) k d).label
  links_labels k d less = (edge_good k (get_or (links_of nodes) k d) (slice_get-get_or (links_of nodes) k d less)).0

  pub links_ends : (k : ℕ) (d : Link) → k < length (links_of nodes) → ((get_or (links_of nodes) k d).from < length nodes) × ((get_or (links_of nodes) k d).to < length nodes)
  links_ends k d less =
      let at = slice_get-get_or (links_of nodes) k d less in
      ((link_of_node nodes k (get_or (links_of nodes) k d) at).0, end_within k (get_or (links_of nodes) k d) at)

  module _ (into : List (List ℕ)) (are : AreInto (length nodes) (links_of nodes) into) where
    the_link : (i j : ℕ) (first second : Link) → i ≡ j → slice_get (links_of nodes) i ≡ Some first → slice_get (links_of nodes) j ≡ Some second → first ≡ second
    the_link i j first second same e f = the (sym e ∙ (ap (slice_get (links_of nodes)) same ∙ f))
      where
        the : ◌≡◌ {A = Option Link} (Some first) (Some second) → first ≡ second
        the e = cc

    -- what is led to is an item
    pub into_within : (u x : ℕ) → IsIn into u x → x < length nodes + length (links_of nodes)
    into_within u x c = let by = are.only u x c in of by.0 by.2.0 by.1 by.2.1 by.2.2
      where
        of : (j : ℕ) (link : Link) → j < length (links_of nodes) → slice_get (links_of nodes) j ≡ Some link →
            ((u ≡ link.to) × (x ≡ length nodes + j)) ⊎ ((u ≡ length nodes + j) × (x ≡ link.from)) → x < length nodes + length (links_of nodes)
        of j link less at (inl (e, f)) = omega arith
        of j link less at (inr (e, f)) = let inside = (link_of_node nodes j link at).0 in omega arith

    -- what leads to an item, and what is alike
    led_on : (u x y : ℕ) → AreAlike nodes x y → IsIn into u x → (v : ℕ) × AreAlike nodes u v × IsIn into v y
    led_on u x y alike c =
        let by = are.only u x c in
        of by.0 by.2.0 by.2.1 by.2.2 alike
      where
        of : (j : ℕ) (link : Link) → slice_get (links_of nodes) j ≡ Some link →
            ((u ≡ link.to) × (x ≡ length nodes + j)) ⊎ ((u ≡ length nodes + j) × (x ≡ link.from)) → AreAlike nodes x y → (v : ℕ) × AreAlike nodes u v × IsIn into v y
        of j link at (inl (e, f)) (inl (p, q, like)) = absurd (omega arith)
        of j link at (inl (e, f)) (inr (i, k, g, h, a)) =
            let same : link ≡ a.first = the_link j i link a.first (same_number (length nodes) j i (sym f ∙ g)) at a.first_at in
            let ends : AreLike nodes u a.second.to = subst (λ n. AreLike nodes n a.second.to) (sym (e ∙ ap (λ (z : Link). z.to) same)) a.alike.ends in
            let inside : u < length nodes = subst (λ n. n < length nodes) (sym e) (end_within j link at) in (
              a.second.to,
              inl (inside, end_within k a.second a.second_at, ends),
              are.all k a.second.to y (slice_get_within (links_of nodes) k a.second a.second_at) (a.second, a.second_at, inl (refl, h)),
            )
        of j link at (inr (e, f)) (inr (i, k, g, h, a)) =
            let less = (link_of_node nodes j link at).0 in absurd (omega arith)
        of j link at (inr (e, f)) (inl (p, q, like)) =
            let edge = alike_edge x y j link p q like at (sym f) in (
              length nodes + edge.0,
              inr (
                j,
                edge.0,
                e,
                refl,
                record {
                  first = link;
                  second = link_of y (link.label, edge.1);
                  first_at = at;
                  second_at = edge.2;
                  alike = record { labels = refl; begins = subst (λ n. AreLike nodes n y) f like; ends = edge.3 };
                },
              ),
              are.all edge.0 (length nodes + edge.0) y (slice_get_within (links_of nodes) edge.0 (link_of y (link.label, edge.1)) edge.2)
                  (link_of y (link.label, edge.1), edge.2, inr (refl, refl)),
            )

    -- what is alike is led to by a class, or isn't
    led_alike : (class led : List ℕ) (block : ℕ) → length class ≡ length into → AreTold nodes class → AreLed into class block led →
        (x y : ℕ) → AreAlike nodes x y → Contains led x → Contains led y
    led_alike class led block long told is x y alike c =
        let by = (is x).0 c in
        let on = led_on by.0 x y alike by.3 in
        let inside : on.0 < length class = subst (λ n. on.0 < n) (sym (long ∙ are.each)) (alike_within nodes on.0 by.0 (alike_back nodes by.0 on.0 on.1)) in
        (is y).1 (on.0, inside, sym (told by.0 on.0 on.1) ∙ by.2, on.2)

    -- what is alike stays in one class when classes are split by what leads to one of them
    pub split_told : (class new twin led : List ℕ) (block count : ℕ) → length class ≡ length into → AreTold nodes class → AreLed into class block led →
        IsSplit led class new twin count → AreTold nodes new
    split_told class new twin led block count long told is split x y alike =
        by (two_ways count (slice_index new x)) (two_ways count (slice_index new y))
      where
        two_ways : (i j : ℕ) → (j < i) ⊎ (i ≤ j)
        two_ways i j = search (arith)

        within : (u v : ℕ) → AreAlike nodes u v → u < length class
        within u v a = subst (λ n. u < n) (sym (long ∙ are.each)) (alike_within nodes u v a)

        back : AreAlike nodes y x
        back = alike_back nodes x y alike

        by : (slice_index new x < count) ⊎ (count ≤ slice_index new x) → (slice_index new y < count) ⊎ (count ≤ slice_index new y) → slice_index new x ≡ slice_index new y
        by (inl p) (inl q) = split.stays x (within x y alike) p ∙ (told x y alike ∙ sym (split.stays y (within y x back) q))
        by (inl p) (inr q) =
            let gone = split.all x (led_alike class led block long told is y x back (split.goes y (within y x back) q).0) in absurd (omega arith)
        by (inr p) (inl q) =
            let gone = split.all y (led_alike class led block long told is x y alike (split.goes x (within x y alike) p).0) in absurd (omega arith)
        by (inr p) (inr q) =
            (split.goes x (within x y alike) p).1 ∙ (ap (slice_index twin) (told x y alike) ∙ sym (split.goes y (within y x back) q).1)

-- what leads to items, edge after edge
module _ (count : ℕ) (links : List Link) (j : ℕ) (into : List (List ℕ)) (was : AreIntoTo count links j into) (link : Link) (at : slice_get links j ≡ Some link) (to : link.to < count)
    (from : link.from < count) (first second : List ℕ) (grown : first ≡ get_or into link.to [] ++ (count + j) ∷ [])
    (grown' : second ≡ get_or (set into link.to first) (count + j) [] ++ link.from ∷ []) where
  less : j < length links
  less = slice_get_within links j link at

  room : link.to < length into
  room = let e = was.each in omega arith

  room' : count + j < length (set into link.to first)
  room' = let e = was.each in let f = length-set into link.to first in let h = less in omega arith

  up_to : (i : ℕ) → i < j + 1 → (i < j) ⊎ (j ≡ i)
  up_to i h = cases i j (omega arith)
    where
      cases : (i j : ℕ) → i ≤ j → (i < j) ⊎ (j ≡ i)
      cases i j le = search (arith)

  mid : List (List ℕ)
  mid = set into link.to first

  pub into_more : AreIntoTo count links (j + 1) (set (set into link.to first) (count + j) second)
  into_more = record {
    each = length-set (set into link.to first) (count + j) second ∙ (length-set into link.to first ∙ was.each);
    all = λ i u x h leads. all i u x (up_to i h) leads;
    only = λ u x c. only u x (row_only (count + j) link.from (set into link.to first) second room' grown' u x c);
  }
    where
      twice : (u x : ℕ) → IsIn into u x → IsIn (set (set into link.to first) (count + j) second) u x
      twice u x c =
          row_kept (count + j) link.from (set into link.to first) second room' grown' u x
          (row_kept link.to (count + j) into first room grown u x c)

      here : (u x : ℕ) (other : Link) → slice_get links j ≡ Some other → ((u ≡ other.to) × (x ≡ count + j)) ⊎ ((u ≡ count + j) × (x ≡ other.from)) →
          IsIn (set (set into link.to first) (count + j) second) u x
      here u x other e cases = by (the (sym at ∙ e)) cases
        where
          the : ◌≡◌ {A = Option Link} (Some link) (Some other) → link ≡ other
          the e = cc

          by : link ≡ other → ((u ≡ other.to) × (x ≡ count + j)) ⊎ ((u ≡ count + j) × (x ≡ other.from)) → IsIn (set (set into link.to first) (count + j) second) u x
          by same (inl (p, q)) =
              subst (λ v. IsIn (set (set into link.to first) (count + j) second) v x) (sym (p ∙ sym (ap (λ (z : Link). z.to) same)))
              (subst (IsIn (set (set into link.to first) (count + j) second) link.to) (sym q)
              (row_kept (count + j) link.from (set into link.to first) second room' grown' link.to (count + j) (row_added link.to (count + j) into first room grown)))
          by same (inr (p, q)) =
              subst (λ v. IsIn (set (set into link.to first) (count + j) second) v x) (sym p)
              (subst (IsIn (set (set into link.to first) (count + j) second) (count + j)) (sym (q ∙ sym (ap (λ (z : Link). z.from) same)))
              (row_added (count + j) link.from (set into link.to first) second room' grown'))

      all : (i u x : ℕ) → (i < j) ⊎ (j ≡ i) → LeadsBy count links i u x → IsIn (set (set into link.to first) (count + j) second) u x
      all i u x (inl h) leads = twice u x (was.all i u x h leads)
      all i u x (inr e) leads = let l : LeadsBy count links j u x = subst (λ k. LeadsBy count links k u x) (sym e) leads in here u x l.0 l.1 l.2

      earlier : (u x : ℕ) → IsIn into u x ⊎ ((u ≡ link.to) × (x ≡ count + j)) → (i : ℕ) × (i < j + 1) × LeadsBy count links i u x
      earlier u x (inl c) = let o = was.only u x c in (o.0, (let h = o.1 in omega arith), o.2)
      earlier u x (inr e) = (j, omega arith, (link, at, inl e))

      only : (u x : ℕ) → IsIn (set into link.to first) u x ⊎ ((u ≡ count + j) × (x ≡ link.from)) → (i : ℕ) × (i < j + 1) × LeadsBy count links i u x
      only u x (inl c) = earlier u x (row_only link.to (count + j) into first room grown u x c)
      only u x (inr e) = (j, omega arith, (link, at, inr e))

-- nothing leads by no edges
pub into_none : (count : ℕ) (links : List Link) (into : List (List ℕ)) → length into ≡ count + length links → ((v : ℕ) → slice_index_or into v [] ≡ []) → AreIntoTo count links 0 into
into_none count links into each empty = record {
  each = each;
  all = λ j u x h leads. absurd (omega arith);
  only = λ u x c. absurd (Contains-none x (subst (λ (xs : List ℕ). Contains xs x) (empty u) c));
}

-- all nodes of one class
pub one_told : (t : Nodes) (class : List ℕ) → ((x : ℕ) → slice_index class x ≡ 0) → AreToldNodes t class
one_told t class none x y inside inside' like = none x ∙ sym (none y)

module _ (t : Nodes) (nodes labels : List ℕ) (coarse : AreCoarseClasses t nodes) (inside : (x : ℕ) → x < length t → slice_index nodes x < length t)
    (are : AreFirstLabels (links_of t) labels) where
  all_classes : List ℕ
  all_classes = nodes ++ map (λ k. length nodes + k) labels

  node_class : (x : ℕ) → x < length t → slice_index (nodes ++ map (λ k. length nodes + k) labels) x ≡ slice_index nodes x
  node_class x less = get_or_append_left nodes (map (λ k. length nodes + k) labels) 0 x (subst (λ n. x < n) (sym coarse.each) less)

  edge_class : (i : ℕ) → i < length (links_of t) → slice_index (nodes ++ map (λ k. length nodes + k) labels) (length t + i) ≡ length nodes + slice_index labels i
  edge_class i less =
      get_or-append_right nodes (map (λ k. length nodes + k) labels) (length t) (length t + i) 0 coarse.each (omega arith)
      ∙ (ap (slice_index (map (λ k. length nodes + k) labels)) (past (length t) i) ∙ get_or-map (λ k. length nodes + k) labels i 0 0 (subst (λ n. i < n) (sym are.each) less))
    where
      past : (n i : ℕ) → (n + i) - n ≡ i
      past n i = omega arith

  -- items that are alike are of one class by the nodes' classes and the edges' labels
  pub first_told : AreTold t (nodes ++ map (λ k. length nodes + k) labels)
  first_told x y (inl (p, q, like)) = node_class x p ∙ (coarse.told x y p q like ∙ sym (node_class y q))
  first_told x y (inr (i, j, e, f, a)) =
      let less = slice_get_within (links_of t) i a.first a.first_at in
      let less' = slice_get_within (links_of t) j a.second a.second_at in
      ap (slice_index (nodes ++ map (λ k. length nodes + k) labels)) e
      ∙ (edge_class i less ∙ (ap (λ k. length nodes + k) (are.one i j a.first a.second a.first_at a.second_at a.alike.labels)
      ∙ (sym (edge_class j less') ∙ sym (ap (slice_index (nodes ++ map (λ k. length nodes + k) labels)) f))))

  long : length (nodes ++ map (λ k. length nodes + k) labels) ≡ length t + length (links_of t)
  long = length-append nodes (map (λ k. length nodes + k) labels) ∙ (ap (λ n. n + length (map (λ k. length nodes + k) labels)) coarse.each ∙ ap (λ n. length t + n) (length-map labels (λ k. length nodes + k) ∙ are.each))

  pub first_within : All (λ b. b < length (nodes ++ map (λ k. length nodes + k) labels)) (nodes ++ map (λ k. length nodes + k) labels)
  first_within = All-from_get_or (λ b. b < length (nodes ++ map (λ k. length nodes + k) labels)) (nodes ++ map (λ k. length nodes + k) labels) 0
      (λ x h. by x (two_ways (length t) x) (subst (λ n. x < n) long h))
    where
      two_ways : (i j : ℕ) → (j < i) ⊎ (i ≤ j)
      two_ways i j = search (arith)

      by : (x : ℕ) → (x < length t) ⊎ (length t ≤ x) → x < length t + length (links_of t) → slice_index (nodes ++ map (λ k. length nodes + k) labels) x < length (nodes ++ map (λ k. length nodes + k) labels)
      by x (inl p) h = let e = node_class x p in let less = inside x p in let l = long in omega arith
      by x (inr p) h =
          let at = edge_class (x - length t) (omega arith) in
          let same : length t + (x - length t) ≡ x = omega arith in
          let low = are.low (x - length t) (omega arith) in
          let here = sym (ap (slice_index (nodes ++ map (λ k. length nodes + k) labels)) same) ∙ at in
          let l = long in
          let c = coarse.each in
          omega arith

  pub first_each : length (nodes ++ map (λ k. length nodes + k) labels) ≡ length t + length (links_of t)
  first_each = long

-- the classes of nodes among those of items
pub told_nodes : (t : Nodes) (class : List ℕ) → AreTold t class → length t ≤ length class → AreToldNodes t (take (length t) class)
told_nodes t class told le x y less less' like =
    get_or-take (length t) class x 0 less ∙ (told x y (inl (less, less', like)) ∙ sym (get_or-take (length t) class y 0 less'))

-- Lines at the numbers of procedures.
use Rattle.std.proofs.Common.{◌≡◌, ◌∙◌, ◌⊎◌, ℕ, ◌+◌, ◌<◌, ◌≤◌, List, [], ◌∷◌, ◌++◌, All, Contains, Option, Some, None, IsSome, ap, arith, get_or, inl, inr, length, map, option_map, refl, set, subst, sym}
use Rattle.std.proofs.lemmas.Bool.{cases_order}
use Rattle.std.proofs.lemmas.List.{get_or-set_other, get_or-set_same, get_or_default, length-map, length-set}
use Rattle.std.proofs.Math.ListN.{get_or-map as get_or-map_same}
use Rattle.std.proofs.lemmas.List.Elements.{Contains-append_left, Contains-get_or, Contains-push, Contains-push_cases}
use Rattle.rt_lines.specs.declared.line.Line.{Line}
use Rattle.rt_lines.specs.Lines.{HasConstantsBelow}
use Rattle.rt_lattice.specs.Lattices.{size_of}
use Rattle.rt_proc.specs.declared.proc.Proc.{Proc}
use Rattle.rt_calls.specs.Calls.{AreGroupsOf}
use Rattle.rt_components.specs.Groups.{group_at}
use Rattle.rt_scheme.specs.declared.scheme.Scheme.{Scheme}
use Rattle.rt_table.specs.Bodies.{lists_in, numbers_in}
use Rattle.rt_table.specs.Lists.{AreLinesOf, HasGlobalsOf}
use Rattle.rt_run.specs.declared.analysis.Analysis.{Analysis}
use Rattle.rt_run.specs.declared.content.Told.TheVariants as told
use Rattle.rt_run.specs.Inside.Analyses.{AreListed, AreListsOf, AreToldOf, IsAnalysis, IsListed, object_in, procs_in}

-- these lists are put
pub record IsPut (done : List (ℕ × List Line)) (old now : List (Option (List Line))) : Type 0 where
  pub long : length now ≡ length old
  pub each : (number : ℕ) (lines : List Line) → get_or now number None ≡ Some lines → (get_or old number None ≡ Some lines) ⊎ Contains done (number, lines)
  pub members : (body : ℕ × List Line) → Contains done body → IsListed now body.0
  pub kept : (number : ℕ) → IsListed old number → IsListed now number

-- what is put at a place is there, and what was there before
listed_set : (now : List (Option (List Line))) (number : ℕ) (lines : List Line) (n : ℕ) → number < length now → (n ≡ number) ⊎ IsListed now n → IsListed (set now number (Some lines)) n
listed_set now number lines n inside h = by (cases_order n number) h
  where
    own : n ≡ number → IsListed (set now number (Some lines)) n
    own same = subst (λ k. IsListed (set now number (Some lines)) k) (sym same) (rw (get_or-set_same now number (Some lines) None inside) refl)

    other : (n ≡ number → ⊥) → IsListed now n → IsListed (set now number (Some lines)) n
    other differs there = rw (get_or-set_other now number n (Some lines) None differs) there

    by : (n ≡ number) ⊎ ((n < number) ⊎ (number < n)) → (n ≡ number) ⊎ IsListed now n → IsListed (set now number (Some lines)) n
    by (inl same) h = own same
    by (inr (inl below)) (inl same) = own same
    by (inr (inl below)) (inr there) = other (λ e. omega (arith, e, below)) there
    by (inr (inr above)) (inl same) = own same
    by (inr (inr above)) (inr there) = other (λ e. omega (arith, e, above)) there

some_is : (a b : List Line) → Some a ≡ Some b → a ≡ b
some_is a b e = cc

-- one more list is put
pub put_more : (done : List (ℕ × List Line)) (old now : List (Option (List Line))) (number : ℕ) (lines : List Line) → number < length now → IsPut done old now
    → IsPut (done ++ (number, lines) ∷ []) old (set now number (Some lines))
put_more done old now number lines inside is_put = record {
  long = length-set now number (Some lines) ∙ is_put.long;
  each = λ n found here. by n found here (cases_order n number);
  members = λ body there. listed_set now number lines body.0 inside (member body (Contains-push_cases done (number, lines) body there));
  kept = λ n there. listed_set now number lines n inside (inr (is_put.kept n there));
}
  where
    member : (body : ℕ × List Line) → Contains done body ⊎ ((number, lines) ≡ body) → (body.0 ≡ number) ⊎ IsListed now body.0
    member body (inl before) = inr (is_put.members body before)
    member body (inr same) = inl (sym (ap (λ (b : ℕ × List Line). b.0) same))

    later : (n : ℕ) (found : List Line) → (get_or old n None ≡ Some found) ⊎ Contains done (n, found) → (get_or old n None ≡ Some found) ⊎ Contains (done ++ (number, lines) ∷ []) (n, found)
    later n found (inl there) = inl there
    later n found (inr body) = inr (Contains-append_left done ((number, lines) ∷ []) (n, found) body)

    other : (n : ℕ) (found : List Line) → get_or (set now number (Some lines)) n None ≡ Some found → (n ≡ number → ⊥) → (get_or old n None ≡ Some found) ⊎ Contains (done ++ (number, lines) ∷ []) (n, found)
    other n found here differs = later n found (is_put.each n found (sym (get_or-set_other now number n (Some lines) None differs) ∙ here))

    own : (n : ℕ) (found : List Line) → get_or (set now number (Some lines)) n None ≡ Some found → n ≡ number → Contains (done ++ (number, lines) ∷ []) (n, found)
    own n found here same =
        let is_found : lines ≡ found = some_is lines found (sym (get_or-set_same now number (Some lines) None inside) ∙ subst (λ k. get_or (set now number (Some lines)) k None ≡ Some found) same here) in
        subst (λ ls. Contains (done ++ (number, lines) ∷ []) (n, ls)) is_found (subst (λ k. Contains (done ++ (number, lines) ∷ []) (k, lines)) (sym same) (Contains-push done (number, lines)))

    by : (n : ℕ) (found : List Line) → get_or (set now number (Some lines)) n None ≡ Some found → (n ≡ number) ⊎ ((n < number) ⊎ (number < n)) → (get_or old n None ≡ Some found) ⊎ Contains (done ++ (number, lines) ∷ []) (n, found)
    by n found here (inl same) = inr (own n found here same)
    by n found here (inr (inl below)) = other n found here (λ e. omega (arith, e, below))
    by n found here (inr (inr above)) = other n found here (λ e. omega (arith, e, above))

-- before any is put
pub put_none : (old : List (Option (List Line))) → IsPut [] old old
put_none old = record {
  long = refl;
  each = λ number lines here. inl here;
  members = λ body (k, less, is). absurd (omega (arith, less));
  kept = λ number there. there;
}

-- a number that stands with a list is within
pub number_within : (bodies : List (ℕ × List Line)) (n k number : ℕ) (lines : List Line) → All (λ m. m < n) (numbers_in bodies) → k < length bodies
    → (number, lines) ≡ get_or bodies k (number, lines) → number < n
number_within bodies n k number lines all less is =
    let first : get_or (numbers_in bodies) k number ≡ number = get_or-map_same (λ (b : ℕ × List Line). b.0) bodies k (number, lines) ∙ sym (ap (λ (b : ℕ × List Line). b.0) is) in
    subst (λ m. m < n) first (all k number (omega (arith, less, length-map bodies (λ (b : ℕ × List Line). b.0))))

-- those of a list of numbers are there
pub put_members : (bodies : List (ℕ × List Line)) (old now : List (Option (List Line))) → IsPut bodies old now → AreListed now (numbers_in bodies)
put_members bodies old now is_put = λ i less.
    let within : i < length bodies = subst (λ n. i < n) (length-map bodies (λ (b : ℕ × List Line). b.0)) less in
    subst (IsListed now) (sym (get_or-map_same (λ (b : ℕ × List Line). b.0) bodies i (0, [])))
    (is_put.members (get_or bodies i (0, [])) (Contains-get_or bodies i (0, []) within))

-- so it is when all are put
pub put_whole : (bodies yielded : List (ℕ × List Line)) (old now : List (Option (List Line))) → map (λ body. body) yielded ≡ bodies → IsPut yielded old now
    → AreListed now (numbers_in bodies)
put_whole bodies yielded old now all is_put = put_members bodies old now (subst (λ (b : List (ℕ × List Line)). IsPut b old now) (sym (same yielded) ∙ all) is_put)
  where
    same : (xs : List (ℕ × List Line)) → map (λ body. body) xs ≡ xs
    same [] = refl
    same (x ∷ xs) = ap (λ ys. x ∷ ys) (same xs)

-- the members of a group are procedures
pub members_within : (procs : List Proc) (groups : List (List ℕ)) (group : List ℕ) → AreGroupsOf procs groups → Contains groups group → All (λ n. n < length procs) group
members_within procs groups group are (k, less, is) = λ i d within.
    let at : group_at groups k ≡ group = get_or_default groups k [] group less ∙ is in
    (are.nodes (get_or group i d)).1 (k, less, subst (λ g. Contains g (get_or group i d)) (sym at) (Contains-get_or group i d within))

-- The lines of a group's members are told.
pub lists_more : (analysis : Analysis) (group : List ℕ) (bodies : List (ℕ × List Line)) (old new : List (Option (List Line)))
    → IsAnalysis analysis → Contains analysis.groups group → numbers_in bodies ≡ group
    → AreLinesOf (object_in analysis) analysis.lattice.now.roles (procs_in analysis) analysis.sigs.now analysis.schemes group (lists_in bodies)
    → All (All (HasConstantsBelow (size_of analysis.lattice.now))) (lists_in bodies) → All (HasGlobalsOf (object_in analysis)) (lists_in bodies)
    → ((number : ℕ) (lines : List Line) → get_or new number None ≡ Some lines → (get_or old number None ≡ Some lines) ⊎ Contains bodies (number, lines))
    → AreListsOf told.Constraints analysis old → AreListsOf told.Constraints analysis new
lists_more analysis group bodies old new is_analysis is_group numbers are_lines constants globals each before = λ number lines here. by number lines (each number lines here)
  where
    one_each : length bodies ≡ length group
    one_each = sym (length-map bodies (λ (b : ℕ × List Line). b.0)) ∙ ap length numbers

    by : (number : ℕ) (lines : List Line) → (get_or old number None ≡ Some lines) ⊎ Contains bodies (number, lines)
        → AreToldOf told.Constraints (object_in analysis) analysis.lattice.now analysis.sigs.now (procs_in analysis) analysis.schemes number lines
    by number lines (inl there) = before number lines there
    by number lines (inr (place, within, is)) =
        let found : get_or bodies place (0, []) ≡ (number, lines) = get_or_default bodies place (0, []) (number, lines) within ∙ is in
        let is_number : get_or group place 0 ≡ number =
        subst (λ g. get_or g place 0 ≡ number) numbers (get_or-map_same (λ (b : ℕ × List Line). b.0) bodies place (0, []) ∙ ap (λ (b : ℕ × List Line). b.0) found) in
        let is_lines : get_or (lists_in bodies) place [] ≡ lines = get_or-map_same (λ (b : ℕ × List Line). b.1) bodies place (0, []) ∙ ap (λ (b : ℕ × List Line). b.1) found in
        let inside : place < length (lists_in bodies) = omega (arith, within, length-map bodies (λ (b : ℕ × List Line). b.1)) in
        record {
          are_told = record {
            groups = analysis.groups;
            are_groups = is_analysis.groups;
            group = group;
            is_group = is_group;
            bodies = lists_in bodies;
            are_lines = are_lines;
            place = place;
            within = omega (arith, within, one_each);
            is_member = is_number;
            lines_are = sym is_lines;
          };
          are_kept = record {
            constants = subst (All (HasConstantsBelow (size_of analysis.lattice.now))) is_lines (constants place [] inside);
            globals = subst (HasGlobalsOf (object_in analysis)) is_lines (globals place [] inside);
          };
        }

-- nothing is told yet
pub lists_none : (analysis : Analysis) (lists : List (Option (List Line))) → ((number : ℕ) → get_or lists number None ≡ None) → AreListsOf told.Constraints analysis lists
lists_none analysis lists none = λ number lines here. absurd (by (sym (none number) ∙ here))
  where
    by : {lines : List Line} → None ≡ Some lines → ⊥
    by e = cc

-- Schemes.

abbrev pub scheme_lines : Option Scheme → Option (List Line)
scheme_lines given = option_map (λ (s : Scheme). s.lines) given

-- the lines of the schemes are told
pub schemes_told : (analysis : Analysis) (lists : List (Option (List Line))) → IsAnalysis analysis
    → lists ≡ map scheme_lines analysis.schemes → AreListsOf told.Schemes analysis lists
schemes_told analysis lists is_analysis is = λ number lines here.
    by number lines (get_or analysis.schemes number None) refl (sym (at analysis.schemes number) ∙ subst (λ l. get_or l number None ≡ Some lines) is here)
  where
    at : (schemes : List (Option Scheme)) (number : ℕ) → get_or (map scheme_lines schemes) number None ≡ scheme_lines (get_or schemes number None)
    at schemes number = get_or-map_same scheme_lines schemes number None

    by : (number : ℕ) (lines : List Line) (given : Option Scheme) → get_or analysis.schemes number None ≡ given → scheme_lines given ≡ Some lines
        → AreToldOf told.Schemes (object_in analysis) analysis.lattice.now analysis.sigs.now (procs_in analysis) analysis.schemes number lines
    by number lines None found none = absurd (is_none none)
      where
        is_none : None ≡ Some lines → ⊥
        is_none e = cc
    by number lines (Some scheme) found own =
        let same : lines ≡ scheme.lines = sym (some_is scheme.lines lines own) in
        let given = is_analysis.given number scheme found in
        record {
          are_told = record { scheme = scheme; is_scheme = found; lines_are = same };
          are_kept = record {
            constants = subst (All (HasConstantsBelow (size_of analysis.lattice.now))) (sym same) given.constants;
            globals = subst (HasGlobalsOf (object_in analysis)) (sym same) given.globals;
          };
        }

-- Each procedure has lines.

-- where each member of each group has lines, each procedure has
pub full_lists : (procs : List Proc) (groups : List (List ℕ)) (lists : List (Option (List Line))) → AreGroupsOf procs groups
    → ((k : ℕ) → k < length groups → AreListed lists (group_at groups k)) → (number : ℕ) → number < length procs → IsListed lists number
full_lists procs groups lists are each number within =
    let (k, less, (i, below, is)) = (are.nodes number).0 within in
    subst (IsListed lists) (get_or_default (group_at groups k) i 0 number below ∙ is) (each k less i below)

-- each scheme is there
scheme_there : (given : Option Scheme) (scheme : Scheme) → given ≡ Some scheme → IsSome (scheme_lines given)
scheme_there None scheme e = absurd (no e)
  where
    no : None ≡ Some scheme → ⊥
    no e = cc
scheme_there (Some s) scheme e = refl

pub full_schemes : (analysis : Analysis) (lists : List (Option (List Line))) → IsAnalysis analysis → lists ≡ map scheme_lines analysis.schemes
    → (number : ℕ) → number < length (procs_in analysis) → IsListed lists number
full_schemes analysis lists is_analysis is = full_lists (procs_in analysis) analysis.groups lists is_analysis.groups (λ k less i below.
    let group = group_at analysis.groups k in
    let solved = (is_analysis.solved.each group (k, less, get_or_default analysis.groups k group [] less)).solved i below in
    subst (λ l. IsListed l (get_or group i 0)) (sym is)
    (rw (get_or-map_same scheme_lines analysis.schemes (get_or group i 0) None) (scheme_there (get_or analysis.schemes (get_or group i 0) None) solved.scheme solved.is_scheme)))

-- the members of the first groups have lines
pub record AreFilled (analysis : Analysis) (n : ℕ) (lists : List (Option (List Line))) : Type 0 where
  pub long : length lists ≡ length (procs_in analysis)
  pub are_lists : AreListsOf told.Constraints analysis lists
  pub groups : (k : ℕ) → k < n → AreListed lists (group_at analysis.groups k)

pub filled_next : (analysis : Analysis) (n : ℕ) (group : List ℕ) (old new : List (Option (List Line))) → group ≡ group_at analysis.groups n → AreFilled analysis n old
    → length new ≡ length old → AreListsOf told.Constraints analysis new → AreListed new group → ((number : ℕ) → IsListed old number → IsListed new number)
    → AreFilled analysis (n + 1) new
filled_next analysis n group old new is before long lists members kept = record {
  long = long ∙ before.long;
  are_lists = lists;
  groups = λ k less. by k (cases_order k n) less;
}
  where
    by : (k : ℕ) → (k ≡ n) ⊎ ((k < n) ⊎ (n < k)) → k < n + 1 → AreListed new (group_at analysis.groups k)
    by k (inl same) less = subst (λ j. AreListed new (group_at analysis.groups j)) (sym same) (subst (AreListed new) is members)
    by k (inr (inl earlier)) less = λ i below. kept (get_or (group_at analysis.groups k) i 0) (before.groups k earlier i below)
    by k (inr (inr later)) less = absurd (omega (arith, less, later))

pub filled_whole : (analysis : Analysis) (n : ℕ) (lists : List (Option (List Line))) → IsAnalysis analysis → length analysis.groups ≤ n → AreFilled analysis n lists
    → (number : ℕ) → number < length (procs_in analysis) → IsListed lists number
filled_whole analysis n lists is_analysis all filled =
    full_lists (procs_in analysis) analysis.groups lists is_analysis.groups (λ k less. filled.groups k (omega (arith, less, all)))

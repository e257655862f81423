-- How outer arcs are built: nodes with more behind them, arcs with more.
use Rattle.std.proofs.Common.{◌≡◌, ℕ, zero, suc, ◌<◌, ◌≤◌, inl, inr, Bool, true, List, [], ◌∷◌, ◌++◌, Option, Some, None, length, replicate, refl, sym, ap, subst, ◌∙◌, arith}
use Rattle.std.specs.Prelude.{slice_get, IfSome}
use Rattle.std.specs.Map.{lookup}
use Rattle.rt_outline.specs.declared.frame.Frame.{Frame}
use Rattle.rt_components.specs.Groups.{Reaches}
use Rattle.rt_components.specs.Groups.Reaches.{there, onward}
use Rattle.rt_lines.specs.declared.label.Label.{Label}
use Rattle.rt_lines.specs.declared.variable.Dtv.{Dtv}
use Rattle.rt_lines.specs.declared.line.Line.{Line}
use Rattle.rt_shape.specs.Graphs.{letter_eq}
use Rattle.rt_outline.specs.declared.arc.Arc.{Arc}
use Rattle.rt_outline.specs.Arcs.{HasArc, Leads}
use Rattle.rt_outline.specs.Built.{AreNamed, AreOuterArcs, HasHubs, IsCrossed, IsHubbed, IsSorted}
use Rattle.rt_outline.specs.Turning.{AreTurning}
use Rattle.rt_outline.specs.Frames.{Origins, IsMade, IsClosed, IsPushedMore, AreOriginsOf, AreKept, AreLinesKept, AreMore, HavePointers, IsPointerPair}
use Rattle.rt_outline.specs.Hubs.{HasAccess, HaveHubs, IsGrownBy, key_of}
use Rattle.rt_outline.specs.Lines.{AreLineArcs}
use Rattle.rt_outline.proofs.Lowest.{lowest_open}
use Rattle.rt_outline.proofs.Outer.{outer_of, outer_turning}
use Rattle.rt_outline.proofs.Standing.{all_set}
use Rattle.rt_base.proofs.Lists.{slice_get-front}

slice_before : {X : Type 0} (xs ys : List X) (n : ℕ) (x : X) → n < length xs → slice_get (xs ++ ys) n ≡ Some x → slice_get xs n ≡ Some x
slice_before [] ys n x h e = absurd (omega (arith, h))
slice_before (z ∷ xs) ys zero x h e = e
slice_before (z ∷ xs) ys (suc n) x h e = slice_before xs ys n x (omega (arith, h)) e

pub grown_made : (old new more : Origins) → new ≡ old ++ more → (n p : ℕ) (l : Label) → IsMade old n p l → IsMade new n p l
grown_made old new more e n p l m = ap (λ (xs : Origins). slice_get xs n) e ∙ slice_get-front old more n (Some (p, l)) m

longer_list : {X : Type 0} (xs ys : List X) → length xs ≤ length (xs ++ ys)
longer_list [] ys = omega arith
longer_list (x ∷ xs) ys = let h : length xs ≤ length (xs ++ ys) = longer_list xs ys in omega (arith, h)

pub grown_length : (old new more : Origins) → new ≡ old ++ more → length old ≤ length new
grown_length old new more e = subst (λ (xs : Origins). length old ≤ length xs) (sym e) (longer_list old more)

-- what a named variable is made of is before it, though there are more nodes
pub made_before : (known : List Dtv) (first new more : Origins) → AreOriginsOf known first → new ≡ first ++ more → (n p : ℕ) (l : Label) → n < length known → IsMade new n p l → p < n
made_before known first new more are e n p l h m =
    (are.only n p l (slice_before first more n (Some (p, l)) (omega (arith, h, are.each)) (sym (ap (λ (xs : Origins). slice_get xs n) e) ∙ m))).0

pub hubs_kept : (origins : Origins) (arcs next : List (List Arc)) (classes : List (Option ℕ)) (flips : List Bool) → AreKept arcs next → HaveHubs origins arcs classes flips → HaveHubs origins next classes flips
hubs_kept origins arcs next classes flips kept have = (
  have.0,
  have.1,
  λ n f. record { hub = λ key e. (let r = (have.2 n f).hub key e in (r.0, r.1, kept r.0 n None r.2)); own = (have.2 n f).own },
)

-- below each variable that can be read and written through there is a node with a load and a store
lowest_of : (origins : Origins) (arcs : List (List Arc)) (classes : List (Option ℕ)) (flips stands : List Bool) → HaveHubs origins arcs classes flips →
    (n : ℕ) → slice_get flips n ≡ Some true → (h : ℕ) × HasAccess origins h × Reaches (Leads arcs stands true) h n
lowest_of origins arcs classes flips stands have n f = by (key_of origins classes flips n) refl
  where
    by : (o : Option (ℕ × Label)) → key_of origins classes flips n ≡ o → (h : ℕ) × HasAccess origins h × Reaches (Leads arcs stands true) h n
    by None e = (n, (have.2 n f).own e, there)
    by (Some key) e =
        let r : (hub : ℕ) × (lookup (letter_eq key) have.0 ≡ Some hub) × HasArc arcs hub n None = (have.2 n f).hub key e in
        (r.0, have.1 key r.0 r.1, onward (None, r.2, refl) there)

-- before the arcs of lines are entered there are none
pub lines_absent : (lines : List Line) (named : List Dtv) (arcs : List (List Arc)) → ((v w i : ℕ) → HasArc arcs v w (Some i) → ⊥) → AreLineArcs lines 0 named arcs
lines_absent lines named arcs none = record { all = λ i x y h f. absurd (omega (arith, h)); only = λ v w i c. absurd (none v w i c) }

pub lines_kept : (lines : List Line) (count : ℕ) (named : List Dtv) (arcs next : List (List Arc)) → AreKept arcs next → AreLinesKept arcs next → AreLineArcs lines count named arcs → AreLineArcs lines count named next
lines_kept lines count named arcs next kept same are = record {
  all = λ i x y h f. (let r = are.all i x y h f in (r.0, r.1, r.2, r.3, kept r.0 r.1 (Some i) r.4));
  only = λ v w i c. are.only v w i (same v w i c);
}

-- pointers enter no arcs of lines
pub pointers_lines : (origins : Origins) (arcs next : List (List Arc)) → AreMore (IsPointerPair origins) arcs next → AreLinesKept arcs next
pointers_lines origins arcs next more v w i c = elim (more v w (Some i) c) [ inl d ↦ d | inr p ↦ absurd (let e : Some i ≡ None = p.0 in cc) ]

pub pointers_kept : (origins : Origins) (arcs next : List (List Arc)) → AreKept arcs next → HavePointers origins arcs → HavePointers origins next
pointers_kept origins arcs next kept have p v w m n = kept v w None (have p v w m n)

-- hubs that are entered after the nodes of the variables
pub has_hubs : (known : List Dtv) (classes : List (Option ℕ)) (flips : List Bool) (first grown : Origins) (none hubbed : List (List Arc)) →
    AreOriginsOf known first → ((v w : ℕ) (line : Option ℕ) → HasArc none v w line → ⊥) → IsGrownBy first none grown hubbed →
    HaveHubs grown hubbed classes flips → HasHubs known classes flips grown hubbed
has_hubs known classes flips first grown none hubbed are absent grows hubs = record {
  first = first;
  more = grows.more;
  are = are;
  behind = grows.behind;
  hubs = hubs;
  none = λ v w i h. absent v w (Some i) (grows.lines v w i h);
}

-- there are as many nodes as variables
pub hubbed_length : (lines : List Line) (known : List Dtv) (origins : Origins) (arcs : List (List Arc)) → IsHubbed lines known origins arcs →
    length known ≤ length origins
hubbed_length lines known origins arcs is =
    let h : length is.hubbed.first ≤ length origins = grown_length is.hubbed.first origins is.hubbed.more is.hubbed.behind in
    omega (arith, is.hubbed.are.each, h)

-- what the steps of building give
pub built : (lines : List Line) (known : List Dtv) (named : AreNamed lines known) (grown lined pointed last : Origins)
    (hubbed entered opened all : List (List Arc)) (is : IsHubbed lines known grown hubbed)
    (same_lined : lined ≡ grown) (are_lines : AreLineArcs lines (length lines) known entered) (kept : AreKept hubbed entered)
    (same_pointed : pointed ≡ lined) (kept_opened : AreKept entered opened) (pointers : HavePointers pointed opened) (only : AreMore (IsPointerPair lined) entered opened)
    (same_last : last ≡ pointed) (stands : List Bool) (pushed : IsPushedMore pointed stands opened all) (closed : IsClosed last all stands)
    (whole : stands ≡ replicate (length lines) true) →
    AreOuterArcs lines known last all
built lines known named grown lined pointed last hubbed entered opened all is same_lined are_lines kept same_pointed kept_opened pointers only
    same_last stands pushed closed whole = record {
      nodes = subst (λ (os : Origins). length known ≤ length os) (sym same) (hubbed_length lines known grown hubbed is);
      lines_all = lines_all;
      outer =
          outer_of lines named.0 known named.1 is.graph is.shape is.classes is.flips is.classed is.flagged is.hubbed.first last is.hubbed.are behind all
          stands (all_set stands (length lines) whole) closed
          (pointers_kept last opened all pushed.kept (subst (λ (os : Origins). HavePointers os opened) (sym same_last) pointers))
          (lowest_of last all is.classes is.flips stands hubs) lines_all hubs;
    }
  where
    same : last ≡ grown
    same = same_last ∙ same_pointed ∙ same_lined

    behind : (n p : ℕ) (l : Label) → IsMade is.hubbed.first n p l → IsMade last n p l
    behind n p l m =
        subst (λ (os : Origins). IsMade os n p l) (sym same)
        (grown_made is.hubbed.first grown is.hubbed.more is.hubbed.behind n p l m)

    hubs : HaveHubs last all is.classes is.flips
    hubs =
        hubs_kept last hubbed all is.classes is.flips (λ v w line c. pushed.kept v w line (kept_opened v w line (kept v w line c)))
        (subst (λ (os : Origins). HaveHubs os hubbed is.classes is.flips) (sym same) is.hubbed.hubs)

    lines_all : AreLineArcs lines (length lines) known all
    lines_all =
        lines_kept lines (length lines) known opened all pushed.kept pushed.lines
        (lines_kept lines (length lines) known entered opened kept_opened (pointers_lines lined entered opened only) are_lines)

-- and where arcs tell common lower variables and common upper ones apart
pub crossed_outer : (lines : List Line) (known : List Dtv) (named : AreNamed lines known) (classes : List (Option ℕ)) (flips marks stands : List Bool) →
    IsSorted lines known classes flips → stands ≡ replicate (length lines) true → (origins : Origins) (arcs : List (List Arc)) →
    IsCrossed lines known flips stands origins arcs → AreTurning origins (Leads arcs stands true) classes flips marks (length classes) →
    AreOuterArcs lines known origins arcs
crossed_outer lines known named classes flips marks stands sorted whole origins arcs is told = record {
  nodes = (let h : length is.laid.first ≤ length origins = grown_length is.laid.first origins is.laid.more is.laid.behind in omega (arith, is.laid.are.each, h));
  lines_all = is.laid.lines_all;
  outer =
      outer_turning lines named.0 known named.1 sorted.graph sorted.shape classes flips sorted.classed sorted.flagged is.laid.first origins is.laid.are
      (grown_made is.laid.first origins is.laid.more is.laid.behind) arcs stands (all_set stands (length lines) whole) is.closed is.laid.pointers
      (λ n f. lowest_open lines known origins arcs stands is.laid.lines_all (all_set stands (length lines) whole) n (is.laid.lowest n f))
      is.laid.lines_all marks told;
}

pub crossed_found : (lines : List Line) (known : List Dtv) (named : AreNamed lines known) (classes : List (Option ℕ)) (flips marks stands : List Bool) →
    IsSorted lines known classes flips → stands ≡ replicate (length lines) true → (found : Option Frame) →
    IfSome found (λ frame. IsCrossed lines known flips stands frame.origins.items frame.arcs.items) →
    IfSome found (λ frame. AreTurning frame.origins.items (Leads frame.arcs.items stands true) classes flips marks (length classes)) →
    IfSome found (λ frame. AreOuterArcs lines known frame.origins.items frame.arcs.items)
crossed_found lines known named classes flips marks stands sorted whole None is told = tt
crossed_found lines known named classes flips marks stands sorted whole (Some frame) is told =
    crossed_outer lines known named classes flips marks stands sorted whole frame.origins.items frame.arcs.items is told

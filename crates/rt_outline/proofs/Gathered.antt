-- Hubs, and nodes with their load and store, entered one by one.
use Rattle.std.proofs.Common.{◌≡◌, ℕ, zero, suc, ◌+◌, ◌<◌, ◌≤◌, ◌⊎◌, inl, inr, Bool, true, false, List, [], ◌∷◌, ◌++◌, Option, Some, None, length, get_or, cond, refl, sym, subst, ap, ◌∙◌, arith, append_assoc, append-nil}
use Rattle.std.specs.Prelude.{slice_get}
use Rattle.std.specs.Map.{lookup}
use Rattle.std.proofs.lemmas.List.{length-append}
use Rattle.std.proofs.lemmas.Option.{slice_get_within, get_or_from_slice_get}
use borrow.Author.Count.{below_more}
use Rattle.rt_lines.specs.declared.label.Label.{Label}
use Rattle.rt_shape.specs.Graphs.{letter_eq}
use Rattle.rt_shape.proofs.Letters.{letter_equal}
use Rattle.rt_outline.specs.declared.arc.Arc.{Arc}
use Rattle.rt_outline.specs.Arcs.{HasArc, IsAdded}
use Rattle.rt_outline.specs.Frames.{Origins, IsMade, IsStepped}
use Rattle.rt_outline.specs.Hubs.{HasAccess, key_from, key_of, AreHubs, AreHubsKept, IsGrownBy, HasHubAt}
use Rattle.rt_outline.proofs.Framed.{arcs_wider}

get_left : {X : Type 0} (xs ys : List X) (n : ℕ) → n < length xs → slice_get (xs ++ ys) n ≡ slice_get xs n
get_left [] ys n h = absurd (omega (arith, h))
get_left (x ∷ xs) ys zero h = refl
get_left (x ∷ xs) ys (suc n) h = get_left xs ys n (omega (arith, h))

-- nodes with more behind them
module _ (old more new : Origins) (behind : new ≡ old ++ more) where
  pub same_kept : (n : ℕ) → n < length old → slice_get new n ≡ slice_get old n
  same_kept n h = ap (λ xs. slice_get xs n) behind ∙ get_left old more n h

  pub made_kept : (n p : ℕ) (l : Label) → IsMade old n p l → IsMade new n p l
  made_kept n p l m = same_kept n (slice_get_within old n (Some (p, l)) m) ∙ m

  pub access_kept : (n : ℕ) → HasAccess old n → HasAccess new n
  access_kept n a = ((a.0.0, made_kept a.0.0 n _ a.0.1), (a.1.0, made_kept a.1.0 n _ a.1.1))

  pub hubs_kept : (hubs : List ((ℕ × Label) × ℕ)) → AreHubs old hubs → AreHubs new hubs
  hubs_kept hubs are key hub e = access_kept hub (are key hub e)

  pub length_kept : length old ≤ length new
  length_kept = omega (arith, ap length behind, length-append old more)

  pub key_kept : (classes : List (Option ℕ)) (flips : List Bool) (n : ℕ) → n < length old → key_of new classes flips n ≡ key_of old classes flips n
  key_kept classes flips n h = ap (key_from classes flips) (same_kept n h)

-- the same nodes and arcs, or more of them
pub stepped_same : (origins : Origins) (arcs : List (List Arc)) → IsStepped origins arcs origins arcs
stepped_same origins arcs = record { more = []; behind = sym (append-nil origins); kept = λ v w line h. h; same = λ v w line h. h }

behind_more : (old mid new first second : Origins) → mid ≡ old ++ first → new ≡ mid ++ second → new ≡ old ++ (first ++ second)
behind_more old mid new first second e f = f ∙ ap (λ xs. xs ++ second) e ∙ append_assoc old first second

pub stepped_more : (old mid new : Origins) (arcs some next : List (List Arc)) → IsStepped old arcs mid some → IsStepped mid some new next → IsStepped old arcs new next
stepped_more old mid new arcs some next m n = record {
  more = m.more ++ n.more;
  behind = behind_more old mid new m.more n.more m.behind n.behind;
  kept = λ v w line h. n.kept v w line (m.kept v w line h);
  same = λ v w line h. m.same v w line (n.same v w line h);
}

pub stepped_entered : (old new : Origins) (arcs next : List (List Arc)) (origin : Option (ℕ × Label)) → new ≡ old ++ origin ∷ [] → next ≡ arcs ++ [] ∷ [] → IsStepped old arcs new next
stepped_entered old new arcs next origin e f = record {
  more = origin ∷ [];
  behind = e;
  kept = λ v w line h. subst (λ xs. HasArc xs v w line) (sym f) ((arcs_wider arcs v w line).1 h);
  same = λ v w line h. (arcs_wider arcs v w line).0 (subst (λ xs. HasArc xs v w line) f h);
}

pub grown_same : (origins : Origins) (arcs : List (List Arc)) → IsGrownBy origins arcs origins arcs
grown_same origins arcs = record { more = []; behind = sym (append-nil origins); kept = λ v w line h. h; lines = λ v w i h. h }

pub grown_more : (old mid new : Origins) (arcs some next : List (List Arc)) → IsGrownBy old arcs mid some → IsGrownBy mid some new next → IsGrownBy old arcs new next
grown_more old mid new arcs some next m n = record {
  more = m.more ++ n.more;
  behind = behind_more old mid new m.more n.more m.behind n.behind;
  kept = λ v w line h. n.kept v w line (m.kept v w line h);
  lines = λ v w i h. m.lines v w i (n.lines v w i h);
}

-- nodes more, and an arc that is pushed
pub grown_joined : (old mid new : Origins) (arcs some next : List (List Arc)) (from to : ℕ) → IsStepped old arcs mid some → new ≡ mid →
    IsAdded from (record { to = to; line = None }) some next → IsGrownBy old arcs new next
grown_joined old mid new arcs some next from to m e a = record {
  more = m.more;
  behind = e ∙ m.behind;
  kept = λ v w line h. a.kept v w line (m.kept v w line h);
  lines = λ v w i h. m.same v w (Some i) (elim (a.only v w (Some i) h) [ inl d ↦ d | inr f ↦ absurd (let g : Some i ≡ None = f.2 in cc) ]);
}

-- a hub more
lookup_next : (key : ℕ × Label) (node : ℕ) (old new : List ((ℕ × Label) × ℕ)) → ((q : ℕ × Label) → lookup (letter_eq q) new ≡ cond (letter_eq key q) (Some node) (lookup (letter_eq q) old)) →
    (q : ℕ × Label) → ((key ≡ q) × (lookup (letter_eq q) new ≡ Some node)) ⊎ ((letter_eq key q ≡ false) × (lookup (letter_eq q) new ≡ lookup (letter_eq q) old))
lookup_next key node old new updates q = by (letter_eq key q) refl
  where
    by : (b : Bool) → letter_eq key q ≡ b → ((key ≡ q) × (lookup (letter_eq q) new ≡ Some node)) ⊎ ((letter_eq key q ≡ false) × (lookup (letter_eq q) new ≡ lookup (letter_eq q) old))
    by true f = inl (letter_equal key q f, updates q ∙ ap (λ (b : Bool). cond b (Some node) (lookup (letter_eq q) old)) f)
    by false f = inr (f, updates q ∙ ap (λ (b : Bool). cond b (Some node) (lookup (letter_eq q) old)) f)

pub hubs_next : (origins : Origins) (key : ℕ × Label) (node : ℕ) (old new : List ((ℕ × Label) × ℕ)) → ((q : ℕ × Label) → lookup (letter_eq q) new ≡ cond (letter_eq key q) (Some node) (lookup (letter_eq q) old)) →
    HasAccess origins node → AreHubs origins old → AreHubs origins new
hubs_next origins key node old new updates access are q hub e = elim (lookup_next key node old new updates q) [
  | inl s ↦ (let f : Some node ≡ Some hub = sym s.1 ∙ e in let g : node ≡ hub = cc in subst (HasAccess origins) g access)
  | inr s ↦ are q hub (sym s.1 ∙ e)
]

pub hubs_added : (key : ℕ × Label) (node : ℕ) (old new : List ((ℕ × Label) × ℕ)) → ((q : ℕ × Label) → lookup (letter_eq q) new ≡ cond (letter_eq key q) (Some node) (lookup (letter_eq q) old)) →
    lookup (letter_eq key) old ≡ None → AreHubsKept old new
hubs_added key node old new updates none q hub e = elim (lookup_next key node old new updates q) [
  | inl s ↦ absurd (let f : None ≡ Some hub = sym none ∙ ap (λ (k : ℕ × Label). lookup (letter_eq k) old) s.0 ∙ e in cc)
  | inr s ↦ s.1 ∙ e
]

-- the hub of a node, or its own load and store
pub hub_at : (old more new : Origins) (arcs : List (List Arc)) (classes : List (Option ℕ)) (flips : List Bool) (hubs : List ((ℕ × Label) × ℕ)) (n : ℕ) (key : ℕ × Label) (hub : ℕ) → new ≡ old ++ more → n < length old →
    Some key ≡ key_of old classes flips n → lookup (letter_eq key) hubs ≡ Some hub → HasArc arcs hub n None → HasHubAt new arcs classes flips hubs n
hub_at old more new arcs classes flips hubs n key hub behind h is found arc = record {
  hub = λ k e. (
      let both : Some key ≡ Some k = is ∙ sym (key_kept old more new behind classes flips n h) ∙ e in
      let same : key ≡ k = cc in
      (hub, subst (λ q. lookup (letter_eq q) hubs ≡ Some hub) same found, arc)
      );
  own = λ e. absurd (let none : Some key ≡ None = is ∙ sym (key_kept old more new behind classes flips n h) ∙ e in cc);
}

pub own_at : (old more new : Origins) (arcs : List (List Arc)) (classes : List (Option ℕ)) (flips : List Bool) (hubs : List ((ℕ × Label) × ℕ)) (n : ℕ) → new ≡ old ++ more → n < length old →
    None ≡ key_of old classes flips n → HasAccess new n → HasHubAt new arcs classes flips hubs n
own_at old more new arcs classes flips hubs n behind h is access = record {
  hub = λ k e. absurd (let some : None ≡ Some k = is ∙ sym (key_kept old more new behind classes flips n h) ∙ e in cc);
  own = λ e. access;
}

pub hub_kept : (old new : Origins) (arcs next : List (List Arc)) (classes : List (Option ℕ)) (flips : List Bool) (hubs more : List ((ℕ × Label) × ℕ)) (n : ℕ) → n < length old → IsGrownBy old arcs new next →
    AreHubsKept hubs more → HasHubAt old arcs classes flips hubs n → HasHubAt new next classes flips more n
hub_kept old new arcs next classes flips hubs more n h grown kept at = record {
  hub = λ key e. (
      let r : (hub : ℕ) × (lookup (letter_eq key) hubs ≡ Some hub) × HasArc arcs hub n None = at.hub key (sym (key_kept old grown.more new grown.behind classes flips n h) ∙ e) in
      (r.0, kept key r.0 r.1, grown.kept r.0 n None r.2)
      );
  own = λ e. access_kept old grown.more new grown.behind n (at.own (sym (key_kept old grown.more new grown.behind classes flips n h) ∙ e));
}

-- what holds of the flagged numbers below one, and of that one, holds of those below the next
pub flagged_next : (P : ℕ → Type 0) (flips : List Bool) (node : ℕ) → ((n : ℕ) → n < node → slice_get flips n ≡ Some true → P n) → (slice_get flips node ≡ Some true → P node) →
    (n : ℕ) → n < node + 1 → slice_get flips n ≡ Some true → P n
flagged_next P flips node below at = below_more (λ n. slice_get flips n ≡ Some true → P n) node below at

pub unflagged : (flips : List Bool) (node : ℕ) → slice_get flips node ≡ Some true → get_or flips node false ≡ false → ⊥
unflagged flips node e f = let g : true ≡ false = sym (get_or_from_slice_get flips node true false e) ∙ f in cc

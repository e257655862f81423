-- Edges that grow by what is pushed from them.
use Rattle.std.proofs.Common.{◌≡◌, ℕ, ◌+◌, ◌≤◌, ◌⊎◌, inl, inr, List, [], ◌∷◌, ◌++◌, Bool, Contains, length, take, drop, refl, sym, ap, subst, ◌∙◌, arith}
use Rattle.std.proofs.lemmas.List.Elements.{Contains-append_left, Contains-append_right, Contains-append_cases}
use Rattle.std.proofs.lemmas.List.{take-append-drop, append_assoc, append-nil}
use Rattle.std.proofs.Math.ListN.{length-append}
use Rattle.rt_lines.specs.declared.label.Label.{Label}
use Rattle.rt_lines.specs.declared.variable.Dtv.{Dtv}
use Rattle.rt_rules.proofs.Lists.{Contains-none}
use Rattle.rt_bridge.specs.Growing.{Var, Given, HasSub}
use Rattle.rt_bridge.specs.Laws.{Named}
use Rattle.rt_sat.specs.declared.layers.Layers.{Layers}
use Rattle.rt_sat.specs.declared.state.Edge.{Edge}
use Rattle.rt_sat.specs.declared.state.State.{State}
use Rattle.rt_sat.specs.Deciding.{is_among}
use Rattle.rt_sat.specs.Hints.{AreTold}
use Rattle.rt_sat.specs.Numbered.{AreWithin}
use Rattle.rt_sat.specs.Pushes.{AreGrown, AreSound, Grows, same, more, IsBuilt, IsClosedBy, IsClosedFrom, IsClosedIn, IsClosing, IsFrame, IsGrown, IsNoted, IsPushed, IsStill, pushed_of}
use Rattle.rt_sat.proofs.Closed.{in_frame, pushed_sound}

pub grown_more : (P Q R : Edge → Type 0) (a b c : Layers) → ((e : Edge) → P e → R e) → ((e : Edge) → Q e → R e) → IsGrown P a b → IsGrown Q b c → IsGrown R a c
grown_more P Q R a b c f g p q = record {
  fresh = p.fresh ++ q.fresh;
  is = q.is ∙ ap (λ xs. xs ++ q.fresh) p.is ∙ append_assoc a.edges.items p.fresh q.fresh;
  only = λ e h. (elim (Contains-append_cases p.fresh q.fresh e h) [ inl i ↦ f e (p.only e i) | inr i ↦ g e (q.only e i) ]);
  lines = q.lines ∙ p.lines;
  indexed = λ i. q.indexed (p.indexed i);
}

pub grown_none : (P : Edge → Type 0) (a : Layers) → IsGrown P a a
grown_none P a = record { fresh = []; is = sym (append-nil a.edges.items); only = λ e h. absurd (Contains-none e h); lines = refl; indexed = λ i. i }

pub grown_as : (P R : Edge → Type 0) (a b : Layers) → ((e : Edge) → P e → R e) → IsGrown P a b → IsGrown R a b
grown_as P R a b f p = record { fresh = p.fresh; is = p.is; only = λ e h. f e (p.only e h); lines = p.lines; indexed = p.indexed }

empty : (xs : List Edge) → length xs ≤ 0 → xs ≡ []
empty [] h = refl
empty (x ∷ xs) h = absurd (omega (arith, h))

-- edges that come and none that is more
stays : (a b c f g : List Edge) → b ≡ a ++ f → c ≡ b ++ g → c ≡ a → (b ≡ a) × (c ≡ b)
stays a b c f g p q s = (p ∙ ap (λ xs. a ++ xs) (empty f (omega (arith, long))) ∙ append-nil a, q ∙ ap (λ xs. b ++ xs) (empty g (omega (arith, long))) ∙ append-nil b)
  where
    long : length a ≡ length a + length f + length g
    long = sym (ap length s) ∙ ap length q ∙ length-append b g ∙ ap (λ n. n + length g) (ap length p ∙ length-append a f)

pub grown_still : (P Q : Edge → Type 0) (a b c : Layers) → IsGrown P a b → IsGrown Q b c → IsStill a c → IsStill a b × IsStill b c
grown_still P Q a b c p q s = stays a.edges.items b.edges.items c.edges.items p.fresh q.fresh p.is q.is s

-- what is known too
pub noted_more : (P Q R : Edge → Type 0) (a b c : Layers) (k l m : List (State × ℕ)) → ((e : Edge) → P e → R e) → ((e : Edge) → Q e → R e) → IsNoted P a b k l → IsNoted Q b c l m → IsNoted R a c k m
noted_more P Q R a b c k l m f g p q = record {
  grown = grown_more P Q R a b c f g p.grown q.grown;
  kept = λ s. (let t : IsStill a b × IsStill b c = grown_still P Q a b c p.grown q.grown s in q.kept t.1 ∙ p.kept t.0);
}

pub noted_still : (P Q : Edge → Type 0) (a b c : Layers) (k l m : List (State × ℕ)) → IsNoted P a b k l → IsNoted Q b c l m → IsStill a c → IsStill a b × IsStill b c
noted_still P Q a b c k l m p q s = grown_still P Q a b c p.grown q.grown s

pub noted_none : (P : Edge → Type 0) (a : Layers) (k : List (State × ℕ)) → IsNoted P a a k k
noted_none P a k = record { grown = grown_none P a; kept = λ s. refl }

pub noted_as : (P R : Edge → Type 0) (a b : Layers) (k l : List (State × ℕ)) → ((e : Edge) → P e → R e) → IsNoted P a b k l → IsNoted R a b k l
noted_as P R a b k l f p = record { grown = grown_as P R a b f p.grown; kept = p.kept }

-- what holds of the same edges
pub closed_same : (known : List Dtv) (flips matters : List Bool) (a b : Layers) (child parent : State) (l : Label) → IsStill a b → b.lines ≡ a.lines → IsClosedIn known flips matters b child parent l → IsClosedIn known flips matters a child parent l
closed_same known flips matters a b child parent l s e h =
    subst (λ (xs : List Edge). IsClosedFrom known flips matters xs (drop a.lines xs) child parent l) s
    (subst (λ n. IsClosedFrom known flips matters b.edges.items (drop n b.edges.items) child parent l) e h)

module _ (known : List Dtv) (flips : List Bool) where
  pub grows_more : (a b c : List Edge) → Grows known flips a b → Grows known flips b c → Grows known flips a c
  grows_more a b c g same = g
  grows_more a b c g (more {edges} h fresh p) = more (grows_more a b edges g h) fresh p

  pub grows_longer : (a b : List Edge) → Grows known flips a b → (fresh : List Edge) × (b ≡ a ++ fresh)
  grows_longer a b same = ([], sym (append-nil a))
  grows_longer a b (more {edges} g fresh p) = let r : (f : List Edge) × (edges ≡ a ++ f) = grows_longer a edges g in (r.0 ++ fresh, ap (λ xs. xs ++ fresh) r.1 ∙ append_assoc a r.0 fresh)

  pub grows_within : (a b : List Edge) → Grows known flips a b → AreWithin known a → AreWithin known b
  grows_within a b same = λ w. w
  grows_within a b (more {edges} g fresh p) = λ w e c. elim (Contains-append_cases edges fresh e c) [
    | inl d ↦ grows_within a edges g w e d
    | inr d ↦ (let q : IsPushed known flips edges e = p e d in (q.left.within, q.right.within))
  ]

  pub grows_sound : (L : Given) → IsFrame L known flips → ((x y : Var) → HasSub L x y → Named (is_among known) x × Named (is_among known) y) → (a b : List Edge) → Grows known flips a b → AreSound L known a → AreSound L known b
  grows_sound L frame sides a b same = λ s. s
  grows_sound L frame sides a b (more {edges} g fresh p) = λ s e c. elim (Contains-append_cases edges fresh e c) [
    | inl d ↦ grows_sound L frame sides a edges g s e d
    | inr d ↦ pushed_sound known L flips (in_frame L known flips frame) sides edges (grows_sound L frame sides a edges g s) e (p e d)
  ]

  pub all_grown : (a b : Layers) → IsGrown (IsPushed known flips a.edges.items) a b → AreGrown known flips a b
  all_grown a b g = record { grows = subst (Grows known flips a.edges.items) (sym g.is) (more same g.fresh g.only); lines = g.lines; indexed = g.indexed }

  pub all_none : (a : Layers) → AreGrown known flips a a
  all_none a = record { grows = same; lines = refl; indexed = λ i. i }

  pub all_more : (a b c : Layers) → AreGrown known flips a b → AreGrown known flips b c → AreGrown known flips a c
  all_more a b c p q = record { grows = grows_more a.edges.items b.edges.items c.edges.items p.grows q.grows; lines = q.lines ∙ p.lines; indexed = λ i. q.indexed (p.indexed i) }

  pub all_still : (a b c : Layers) → AreGrown known flips a b → AreGrown known flips b c → IsStill a c → IsStill a b × IsStill b c
  all_still a b c p q s =
      let f : (fresh : List Edge) × (b.edges.items ≡ a.edges.items ++ fresh) = grows_longer a.edges.items b.edges.items p.grows in
      let g : (fresh : List Edge) × (c.edges.items ≡ b.edges.items ++ fresh) = grows_longer b.edges.items c.edges.items q.grows in
      stays a.edges.items b.edges.items c.edges.items f.0 g.0 f.1 g.1 s

  pub all_longer : (a b : Layers) → AreGrown known flips a b → length a.edges.items ≤ length b.edges.items
  all_longer a b p = let f : (fresh : List Edge) × (b.edges.items ≡ a.edges.items ++ fresh) = grows_longer a.edges.items b.edges.items p.grows in omega (arith, ap length f.1, length-append a.edges.items f.0)

  -- as many edges are the same
  pub all_counted : (a b : Layers) → AreGrown known flips a b → length b.edges.items ≡ length a.edges.items → IsStill a b
  all_counted a b p e =
      let f : (fresh : List Edge) × (b.edges.items ≡ a.edges.items ++ fresh) = grows_longer a.edges.items b.edges.items p.grows in
      f.1 ∙ ap (λ xs. a.edges.items ++ xs) (empty f.0 (omega (arith, ap length f.1, e, length-append a.edges.items f.0))) ∙ append-nil a.edges.items

  Contains-drop : (n : ℕ) (xs : List Edge) (e : Edge) → Contains (drop n xs) e → Contains xs e
  Contains-drop n xs e c = subst (λ (ys : List Edge). Contains ys e) (take-append-drop n xs) (Contains-append_right (take n xs) (drop n xs) e c)

  -- edges of lines, and hinted ones behind them
  pub built_hinted : (lines hints edges : List Edge) → edges ≡ lines ++ hints → AreWithin known hints → AreTold known flips lines hints → IsBuilt known flips lines edges
  built_hinted lines hints edges is within told = record {
    fresh = hints;
    is = is;
    within = λ w e c. (elim (either e c) [ inl d ↦ w e d | inr d ↦ within e d ]);
    sound = λ L frame sides s e c. (elim (either e c) [ inl d ↦ s e d | inr d ↦ told e d L (in_frame L known flips frame) sides s ]);
  }
    where
      either : (e : Edge) → Contains edges e → Contains lines e ⊎ Contains hints e
      either e c = Contains-append_cases lines hints e (subst (λ (xs : List Edge). Contains xs e) is c)

  -- and pushed ones behind these
  pub built_more : (lines a b : List Edge) → IsBuilt known flips lines a → Grows known flips a b → IsBuilt known flips lines b
  built_more lines a b built g = let f : (fresh : List Edge) × (b ≡ a ++ fresh) = grows_longer a b g in record {
    fresh = built.fresh ++ f.0;
    is = f.1 ∙ ap (λ xs. xs ++ f.0) built.is ∙ append_assoc lines built.fresh f.0;
    within = λ w. grows_within a b g (built.within w);
    sound = λ L frame sides s. grows_sound L frame sides a b g (built.sound L frame sides s);
  }

  built_closed : (matters : List Bool) (lines edges : List Edge) (count : ℕ) → count ≡ length lines → IsBuilt known flips lines edges → IsClosedBy known flips matters edges (drop count edges) → IsClosing known flips matters lines edges
  built_closed matters lines edges count is built closed = record {
    lines_stay = λ e c. subst (λ (xs : List Edge). Contains xs e) (sym built.is) (Contains-append_left lines built.fresh e c);
    pushed_in = Contains-drop (length lines) edges;
    closed = subst (λ n. IsClosedBy known flips matters edges (drop n edges)) is closed;
    within = built.within;
    sound = built.sound;
  }

  -- where a pass puts in nothing, all that is pushed is there
  pub still_closing : (matters : List Bool) (lines : List Edge) (old new : Layers) → old.lines ≡ length lines → IsBuilt known flips lines old.edges.items → AreGrown known flips old new →
      (IsStill old new → IsClosedBy known flips matters old.edges.items (pushed_of old)) → length new.edges.items ≡ length old.edges.items → IsClosing known flips matters lines new.edges.items
  still_closing matters lines old new is built grown done long =
      let still : IsStill old new = all_counted old new grown long in
      built_closed matters lines new.edges.items old.lines is (built_more lines old.edges.items new.edges.items built grown.grows)
      (subst (λ (xs : List Edge). IsClosedBy known flips matters xs (drop old.lines xs)) (sym still) (done still))

-- The first variables of bases.
use Rattle.std.proofs.Common.{◌≡◌, ◌≢◌, ◌↔◌, ℕ, ◌⊎◌, inl, inr, Option, Some, None, IsSome, List, [], ◌∷◌, ◌++◌, Contains, length, refl}
use Rattle.std.proofs.Common.{sym, ap, subst, ◌∙◌, arith}
use Rattle.std.specs.BTreeMap.{BTreeMap, get}
use Rattle.std.specs.Ordering.{nat_cmp}
use Rattle.std.specs.Option.{unwrap_or}
use Rattle.std.proofs.lemmas.List.Elements.{Contains-append_cases, Contains-append_left, Contains-append_right}
use Rattle.rt_base.proofs.Lists.{Contains-none, Contains-here, Contains-cons_cases}
use Rattle.rt_lines.specs.declared.label.Label.{Label}
use Rattle.rt_lines.specs.declared.variable.Base.{Base}
use Rattle.rt_lines.specs.declared.variable.Base.TheVariants.{Proc, Global, Exist, Outer}
use Rattle.rt_lines.specs.declared.variable.Dtv.{Dtv}
use Rattle.rt_lines.specs.declared.line.Line.{Line}
use Rattle.rt_rules.specs.Rules.{longer}
use Rattle.rt_shape.specs.Graphs.{Graph, bare, base_of, node_of, step_of, walk}
use Rattle.rt_shape.specs.Shapes.{IsShapeOf}
use Rattle.rt_shape.proofs.Walks.{node_of-longer}
use Rattle.rt_reduction.specs.Before.{level}
use Rattle.rt_reduction.specs.Emits.{IsKept, IsOfKept}
use Rattle.rt_emit.specs.Inside.Letters.{letters_at, AreLettersOf}
use Rattle.rt_emit.specs.Inside.Bases.{IsFirstOf, AreKeptBases, AreFirst}
use Rattle.rt_emit.specs.Inside.Writing.{IsNext}
use Rattle.rt_base.proofs.Options.{some_of, is_some_of}
use Rattle.rt_reduction.proofs.Worded.{level_none}

-- a letter alone
one_letter : (n : ℕ) (w : List Label) → level (Proc n) w ≡ 0 → w ≢ [] → (l : Label) × (w ≡ l ∷ [])
one_letter n [] e h = absurd (h refl)
one_letter n (l ∷ []) e h = (l, refl)
one_letter n (l ∷ m ∷ w) e h = absurd (omega (arith, e))

no_letter : (w : List Label) → length w ≡ 0 → w ≡ []
no_letter [] e = refl
no_letter (l ∷ w) e = absurd (omega (arith, e))

-- what a base's variables begin with
abbrev pub IsPlain : Base → Type 0
IsPlain (Proc n) = ⊥
IsPlain (Global n) = Unit {0}
IsPlain (Exist n) = Unit {0}
IsPlain (Outer n) = Unit {0}

plain_level : (b : Base) (w : List Label) → IsPlain b → level b w ≡ 0 → w ≡ []
plain_level (Proc n) w h e = absurd h
plain_level (Global n) w h e = no_letter w e
plain_level (Exist n) w h e = no_letter w e
plain_level (Outer n) w h e = no_letter w e

plain_no_procedure : (b : Base) → IsPlain b → (n : ℕ) → b ≡ Proc n → ⊥
plain_no_procedure (Proc m) h n e = absurd h
plain_no_procedure (Global m) h n e = cc
plain_no_procedure (Exist m) h n e = cc
plain_no_procedure (Outer m) h n e = cc

module _ (graph : Graph) where
  -- where a base has no node, none of its variables has one
  pub none_first : (b : Base) → node_of graph (bare b) ≡ None → (x : Dtv) → IsFirstOf graph b x → ⊥
  none_first b e x f = by (base_of graph b) refl e
    where
      from_none : (w : List Label) (n : ℕ) → walk graph.edges None w ≡ Some n → ⊥
      from_none [] n g = cc
      from_none (l ∷ w) n g = cc

      by : (o : Option ℕ) → base_of graph b ≡ o → walk graph.edges o [] ≡ None → ⊥
      by None g h = from_none x.word f.has.0 (subst (λ p. walk graph.edges p x.word ≡ Some f.has.0) (ap (base_of graph) f.of_base ∙
          g) f.has.1)
      by (Some n) g h = cc

  pub plain_first : (b : Base) (n : ℕ) → IsPlain b → node_of graph (bare b) ≡ Some n → (x : Dtv) → (x ≡ bare b) ↔ IsFirstOf graph b x
  plain_first b n h e x = (λ f. subst (IsFirstOf graph b) (sym f) itself, λ f. from f)
    where
      itself : IsFirstOf graph b (bare b)
      itself = record { of_base = refl; has = (n, e); no_letter = level_none b; no_procedure = λ k g. absurd (plain_no_procedure b h k g) }

      from : IsFirstOf graph b x → x ≡ bare b
      from f =
          let none : x.word ≡ [] = plain_level b x.word h (ap (λ c. level c x.word) (sym f.of_base) ∙ f.no_letter) in
          λ i. record { base = f.of_base i; word = none i }

  pub proc_first : (p n : ℕ) (letters : List Label) → node_of graph (bare (Proc p)) ≡ Some n → ((l : Label) →
      Contains letters l ↔ IsSome (step_of graph n l)) →
      (x : Dtv) → IsNext (bare (Proc p)) letters x ↔ IsFirstOf graph (Proc p) x
  proc_first p n letters e are x = (to, from)
    where
      letter : (l : Label) → Contains letters l → IsFirstOf graph (Proc p) (longer (bare (Proc p)) l)
      letter l c =
          let s = some_of (step_of graph n l) ((are l).0 c) in
          record {
            of_base = refl;
            has = (s.0, node_of-longer graph (bare (Proc p)) l n e ∙ s.1);
            no_letter = refl;
            no_procedure =
                λ k f g. absurd cc;
          }

      to : IsNext (bare (Proc p)) letters x → IsFirstOf graph (Proc p) x
      to (l, c, f) = subst (IsFirstOf graph (Proc p)) (sym f) (letter l c)

      from : IsFirstOf graph (Proc p) x → IsNext (bare (Proc p)) letters x
      from f =
          let s = one_letter p x.word (ap (λ c. level c x.word) (sym f.of_base) ∙ f.no_letter) (f.no_procedure p f.of_base) in
          let same : x ≡ longer (bare (Proc p)) s.0 = λ i. record { base = f.of_base i; word = s.1 i } in
          let there : node_of graph (longer (bare (Proc p)) s.0) ≡ Some f.has.0 =
          subst (λ z. node_of graph z ≡ Some f.has.0) same f.has.1 in
          let step : step_of graph n s.0 ≡ Some f.has.0 = sym (node_of-longer graph (bare (Proc p)) s.0 n e) ∙ there in
          (s.0, (are s.0).1 (is_some_of (step_of graph n s.0) f.has.0 step), same)

  -- the queue has the first variables of bases
  abbrev pub HaveFirst : List Base → List Dtv → Type 0
  HaveFirst bases queue = (x : Dtv) → Contains queue x ↔ ((b : Base) × Contains bases b × IsFirstOf graph b x)

  pub are_first : (lines : List Line) → IsShapeOf lines graph → (bases : List Base) (queue : List Dtv) → AreKeptBases lines bases →
      HaveFirst bases queue → AreFirst lines queue
  are_first lines is_shape bases queue kept have order x = (to, from)
    where
      to : Contains queue x → IsOfKept order lines x × (level x.base x.word ≡ 0)
      to c =
          let f = (have x).0 c in (
            record {
              kept = subst (IsKept order lines) (sym f.2.of_base) ((kept order f.0).0 f.1);
              there = (is_shape.there order x).0 (is_some_of (node_of graph x) f.2.has.0 f.2.has.1);
              no_procedure = f.2.no_procedure;
            },
            f.2.no_letter,
          )

      from : IsOfKept order lines x × (level x.base x.word ≡ 0) → Contains queue x
      from (is_of, e) = (have x).1 (
        x.base,
        (kept order x.base).1 is_of.kept,
        record {
          of_base = refl;
          has = some_of (node_of graph x) ((is_shape.there order x).1 is_of.there);
          no_letter = e;
          no_procedure = is_of.no_procedure;
        },
      )

  exchanged : {P Q R S : Type 0} → (P ↔ (R ⊎ Q)) → (Q ↔ S) → P ↔ (R ⊎ S)
  exchanged {P} {Q} {R} {S} f g = (λ p. to (f.0 p), from)
    where
      to : R ⊎ Q → R ⊎ S
      to (inl r) = inl r
      to (inr q) = inr (g.0 q)

      from : R ⊎ S → P
      from (inl r) = f.1 (inl r)
      from (inr s) = f.1 (inr (g.1 s))

  none_added : {R S : Type 0} → (S → ⊥) → R ↔ (R ⊎ S)
  none_added {R} {S} none = (λ r. inl r, by)
    where
      by : R ⊎ S → R
      by (inl r) = r
      by (inr s) = absurd (none s)

  -- a procedure's arguments and results were put in
  pub proc_pushed : (b : Base) (p n : ℕ) (w ls : List Label) (letters : BTreeMap ℕ (List Label)) (queue new : List Dtv) → b ≡ Proc p →
      w ≡ [] →
      node_of graph (record { base = b; word = w }) ≡ Some n → AreLettersOf graph letters → get nat_cmp letters n ≡ Some ls →
      ((y : Dtv) → Contains new y ↔ (Contains queue y ⊎ IsNext (record { base = b; word = w }) ls y)) →
      (x : Dtv) → Contains new x ↔ (Contains queue x ⊎ IsFirstOf graph b x)
  proc_pushed b p n w ls letters queue new e f here are found pushed x =
      let same : record { base = b; word = w } ≡ bare (Proc p) = λ i. record { base = e i; word = f i } in
      let here' : node_of graph (bare (Proc p)) ≡ Some n = subst (λ z. node_of graph z ≡ Some n) same here in
      let at_node : letters_at letters n ≡ ls = ap (λ o. unwrap_or o []) found in
      let lead : (l : Label) → Contains ls l ↔ IsSome (step_of graph n l) =
      subst (λ z. (l : Label) → Contains z l ↔ IsSome (step_of graph n l)) at_node (λ l. are n l (bare (Proc p), here')) in
      exchanged (subst (λ z. Contains new x ↔ (Contains queue x ⊎ IsNext z ls x)) same (pushed x))
      (subst (λ z. IsNext (bare (Proc p)) ls x ↔ IsFirstOf graph z x) (sym e) (proc_first p n ls here' lead x))

  -- it has none
  pub proc_none : (b : Base) (p n : ℕ) (w : List Label) (letters : BTreeMap ℕ (List Label)) (queue : List Dtv) → b ≡ Proc p → w ≡ [] →
      node_of graph (record { base = b; word = w }) ≡ Some n → AreLettersOf graph letters → get nat_cmp letters n ≡ None →
      (x : Dtv) → Contains queue x ↔ (Contains queue x ⊎ IsFirstOf graph b x)
  proc_none b p n w letters queue e f here are found x =
      let same : record { base = b; word = w } ≡ bare (Proc p) = λ i. record { base = e i; word = f i } in
      let here' : node_of graph (bare (Proc p)) ≡ Some n = subst (λ z. node_of graph z ≡ Some n) same here in
      let at_node : letters_at letters n ≡ [] = ap (λ o. unwrap_or o []) found in
      let lead : (l : Label) → Contains [] l ↔ IsSome (step_of graph n l) =
      subst (λ z. (l : Label) → Contains z l ↔ IsSome (step_of graph n l)) at_node (λ l. are n l (bare (Proc p), here')) in
      none_added (λ g. none ((proc_first p n [] here' lead x).1 (subst (λ z. IsFirstOf graph z x) e g)))
    where
      none : IsNext (bare (Proc p)) [] x → ⊥
      none (l, c, g) = Contains-none l c

  -- a base itself was put in
  pub plain_pushed : (b : Base) (n : ℕ) (w : List Label) (queue new : List Dtv) → IsPlain b → w ≡ [] →
      node_of graph (record { base = b; word = w }) ≡ Some n →
      ((y : Dtv) → Contains new y ↔ (Contains queue y ⊎ (y ≡ record { base = b; word = w }))) →
      (x : Dtv) → Contains new x ↔ (Contains queue x ⊎ IsFirstOf graph b x)
  plain_pushed b n w queue new plain f here pushed x =
      let same : record { base = b; word = w } ≡ bare b = λ i. record { base = b; word = f i } in
      exchanged (subst (λ z. Contains new x ↔ (Contains queue x ⊎ (x ≡ z))) same (pushed x))
      (plain_first b n plain (subst (λ z. node_of graph z ≡ Some n) same here) x)

  -- a base without a node has none
  pub bare_none : (b : Base) (w : List Label) (queue : List Dtv) → w ≡ [] → node_of graph (record { base = b; word = w }) ≡ None →
      (x : Dtv) → Contains queue x ↔ (Contains queue x ⊎ IsFirstOf graph b x)
  bare_none b w queue f here x =
      let same : record { base = b; word = w } ≡ bare b = λ i. record { base = b; word = f i } in
      none_added (λ g. none_first b (subst (λ z. node_of graph z ≡ None) same here) x g)

  pub first_none : HaveFirst [] []
  first_none x = (λ c. absurd (Contains-none x c), λ s. absurd (Contains-none s.0 s.1))

  pub first_more : (bases : List Base) (b : Base) (queue new : List Dtv) → HaveFirst bases queue →
      ((x : Dtv) → Contains new x ↔ (Contains queue x ⊎ IsFirstOf graph b x)) → HaveFirst (bases ++ b ∷ []) new
  first_more bases b queue new have pushed x = (λ c. to ((pushed x).0 c), λ s. (pushed x).1 (from s))
    where
      wider : (a : Base) × Contains bases a × IsFirstOf graph a x → (a : Base) × Contains (bases ++ b ∷ []) a × IsFirstOf graph a x
      wider (a, c, f) = (a, Contains-append_left bases (b ∷ []) a c, f)

      to : Contains queue x ⊎ IsFirstOf graph b x → (a : Base) × Contains (bases ++ b ∷ []) a × IsFirstOf graph a x
      to (inl c) = wider ((have x).0 c)
      to (inr f) = (b, Contains-append_right bases (b ∷ []) b (Contains-here b []), f)

      last : (a : Base) → IsFirstOf graph a x → (b ≡ a) ⊎ Contains [] a → Contains queue x ⊎ IsFirstOf graph b x
      last a f (inl e) = inr (subst (λ z. IsFirstOf graph z x) (sym e) f)
      last a f (inr c) = absurd (Contains-none a c)

      by : (a : Base) → IsFirstOf graph a x → Contains bases a ⊎ Contains (b ∷ []) a → Contains queue x ⊎ IsFirstOf graph b x
      by a f (inl c) = inl ((have x).1 (a, c, f))
      by a f (inr c) = last a f (Contains-cons_cases b [] a c)

      from : (a : Base) × Contains (bases ++ b ∷ []) a × IsFirstOf graph a x → Contains queue x ⊎ IsFirstOf graph b x
      from (a, c, f) = by a f (Contains-append_cases bases (b ∷ []) a c)

pub plain_of : (b : Base) → ((k : ℕ) × (b ≡ Global k)) ⊎ (((k : ℕ) × (b ≡ Exist k)) ⊎ ((k : ℕ) × (b ≡ Outer k))) → IsPlain b
plain_of b (inl (k, e)) = subst IsPlain (sym e) tt
plain_of b (inr (inl (k, e))) = subst IsPlain (sym e) tt
plain_of b (inr (inr (k, e))) = subst IsPlain (sym e) tt

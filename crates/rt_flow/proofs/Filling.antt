-- A definition is added to all rows that it belongs to.
use Rattle.std.proofs.Common.{◌≡◌, ◌<◌, ◌⊎◌, inl, inr, ℕ, List, [], ◌∷◌, ◌++◌, length, Option, None, Some, true, false, refl, sym, ap, subst, ◌∙◌}
use Rattle.std.specs.Prelude.{AllPairs, Contains, is_some, slice_index_or}
use Rattle.std.proofs.lemmas.List.Elements.{Contains-append_left, Contains-push, Contains-push_cases}
use Rattle.rt_flow.specs.declared.def.Def.{Def}
use Rattle.rt_flow.specs.Bodies.{Precedes}
use Rattle.rt_flow.specs.Blocks.{Run}
use Rattle.rt_flow.specs.Blocks.Run.{begins, goes}
use Rattle.rt_flow.specs.Inside.Spreading.{AreReady, AreWithin, MarksAll, Spreads}
use Rattle.rt_flow.proofs.Definitions.{precedes_itself}
use Rattle.rt_flow.proofs.Targeting.{nothing_in}

-- whether a block has a definition
pub some_of : (o : Option ℕ) → is_some o ≡ true → (d : ℕ) × (o ≡ Some d)
some_of None e = cc
some_of (Some d) e = (d, refl)

pub none_of : (o : Option ℕ) → is_some o ≡ false → o ≡ None
none_of None e = refl
none_of (Some d) e = cc

pub none_if : (o : Option ℕ) → ((d : ℕ) → o ≡ Some d → ⊥) → o ≡ None
none_if None not = refl
none_if (Some d) not = absurd (not d refl)

module _ (targets : List (List ℕ)) (lasts : List (Option ℕ)) (starts : List ℕ) (x : Def) (old : List (List Def)) where
  -- rows to which a definition was added, but for the targets of blocks that are still to be left
  pub record IsFilling (rows : List (List Def)) (work : List ℕ) : Type 0 where
    pub each : length rows ≡ length old
    pub ready : AreReady x rows
    pub kept : (b : ℕ) (y : Def) → Contains (slice_index_or old b []) y → Contains (slice_index_or rows b []) y
    pub sound : (b : ℕ) (y : Def) → Contains (slice_index_or rows b []) y → Contains (slice_index_or old b []) y ⊎ ((y ≡ x) × Run targets lasts starts b)
    pub started : (b : ℕ) → Contains starts b → Contains (slice_index_or rows b []) x
    pub runs : (b : ℕ) → Contains work b → (b < length targets) × Run targets lasts starts b
    pub closed : (b c : ℕ) → Contains (slice_index_or rows b []) x → slice_index_or lasts b None ≡ None → Contains (slice_index_or targets b []) c → Contains work b ⊎ Contains (slice_index_or rows c []) x

  pub ready_before : ((b : ℕ) → AllPairs Precedes (slice_index_or old b [])) → ((b : ℕ) (y : Def) → Contains (slice_index_or old b []) y → Precedes y x) → AreReady x old
  ready_before order before = record { order = order; upto = λ b y c. inr (before b y c) }

  -- the starts are marked
  pub begin : ((b : ℕ) → Contains starts b → b < length targets) → ((b : ℕ) (y : Def) → Contains (slice_index_or old b []) y → Precedes y x)
      → (work0 : List ℕ) → work0 ≡ [] → (rows : List (List Def)) (work : List ℕ) → MarksAll x starts old work0 rows work → IsFilling rows work
  begin starts_in before work0 empty rows work marks = record {
    each = marks.each;
    ready = marks.ready;
    kept = marks.kept;
    sound = λ b y c. sound b y (marks.only b y c);
    started = marks.marked;
    runs = λ b c. runs b (marks.work_only b c);
    closed = λ b c h e t. closed b c (marks.found b h);
  }
    where
      sound : (b : ℕ) (y : Def) → Contains (slice_index_or old b []) y ⊎ ((y ≡ x) × Contains starts b) → Contains (slice_index_or old b []) y ⊎ ((y ≡ x) × Run targets lasts starts b)
      sound b y (inl h) = inl h
      sound b y (inr (e, h)) = inr (e, begins h)

      runs : (b : ℕ) → Contains work0 b ⊎ Contains starts b → (b < length targets) × Run targets lasts starts b
      runs b (inl h) = nothing_in b (subst (λ ws. Contains ws b) empty h)
      runs b (inr h) = (starts_in b h, begins h)

      closed : (b c : ℕ) → Contains (slice_index_or old b []) x ⊎ Contains work b → Contains work b ⊎ Contains (slice_index_or rows c []) x
      closed b c (inl h) = absurd (precedes_itself x (before b x h))
      closed b c (inr h) = inl h

  module _ (rows : List (List Def)) (work before : List ℕ) (is : IsFilling rows before) (b : ℕ) (popped : before ≡ work ++ b ∷ []) where
    run_here : (b < length targets) × Run targets lasts starts b
    run_here = is.runs b (subst (λ ws. Contains ws b) (sym popped) (Contains-push work b))

    pub within_here : b < length targets
    within_here = run_here.0

    still : (c : ℕ) → Contains work c → Contains before c
    still c h = subst (λ ws. Contains ws c) (sym popped) (Contains-append_left work (b ∷ []) c h)

    left : (c : ℕ) → Contains before c → Contains work c ⊎ (b ≡ c)
    left c h = Contains-push_cases work b c (subst (λ ws. Contains ws c) popped h)

    -- a block with a definition is left
    pub stops : (d : ℕ) → slice_index_or lasts b None ≡ Some d → IsFilling rows work
    stops d here = record {
      each = is.each;
      ready = is.ready;
      kept = is.kept;
      sound = is.sound;
      started = is.started;
      runs = λ c h. is.runs c (still c h);
      closed = closed;
    }
      where
        clash : Some d ≡ None → ⊥
        clash e = cc

        closed : (a c : ℕ) → Contains (slice_index_or rows a []) x → slice_index_or lasts a None ≡ None → Contains (slice_index_or targets a []) c → Contains work a ⊎ Contains (slice_index_or rows c []) x
        closed a c h e t = by (is.closed a c h e t)
          where
            by : Contains before a ⊎ Contains (slice_index_or rows c []) x → Contains work a ⊎ Contains (slice_index_or rows c []) x
            by (inr g) = inr g
            by (inl g) = cases (left a g)
              where
                cases : Contains work a ⊎ (b ≡ a) → Contains work a ⊎ Contains (slice_index_or rows c []) x
                cases (inl w) = inl w
                cases (inr f) = absurd (clash (sym here ∙ ap (λ n. slice_index_or lasts n None) f ∙ e))

    -- a block without one is left, and its targets are marked
    pub passes : AreWithin targets → slice_index_or lasts b None ≡ None → (found : List ℕ) → found ≡ slice_index_or targets b [] → (rows' : List (List Def)) (work' : List ℕ) → MarksAll x found rows work rows' work' → IsFilling rows' work'
    passes within_targets here found found_is rows' work' marks = record {
      each = marks.each ∙ is.each;
      ready = marks.ready;
      kept = λ c y h. marks.kept c y (is.kept c y h);
      sound = λ c y h. sound c y (marks.only c y h);
      started = λ c h. marks.kept c x (is.started c h);
      runs = λ c h. runs c (marks.work_only c h);
      closed = closed;
    }
      where
        run_to : (c : ℕ) → Contains found c → Run targets lasts starts c
        run_to c h = goes run_here.1 here (subst (λ ts. Contains ts c) found_is h)

        sound : (c : ℕ) (y : Def) → Contains (slice_index_or rows c []) y ⊎ ((y ≡ x) × Contains found c) → Contains (slice_index_or old c []) y ⊎ ((y ≡ x) × Run targets lasts starts c)
        sound c y (inl h) = is.sound c y h
        sound c y (inr (e, h)) = inr (e, run_to c h)

        runs : (c : ℕ) → Contains work c ⊎ Contains found c → (c < length targets) × Run targets lasts starts c
        runs c (inl h) = is.runs c (still c h)
        runs c (inr h) = (within_targets b c (subst (λ ts. Contains ts c) found_is h), run_to c h)

        closed : (a c : ℕ) → Contains (slice_index_or rows' a []) x → slice_index_or lasts a None ≡ None → Contains (slice_index_or targets a []) c → Contains work' a ⊎ Contains (slice_index_or rows' c []) x
        closed a c h e t = by (marks.found a h)
          where
            cases : Contains work a ⊎ (b ≡ a) → Contains work' a ⊎ Contains (slice_index_or rows' c []) x
            cases (inl w) = inl (marks.work_kept a w)
            cases (inr f) = inr (marks.marked c (subst (λ ts. Contains ts c) (sym found_is) (subst (λ n. Contains (slice_index_or targets n []) c) (sym f) t)))

            old_closed : Contains before a ⊎ Contains (slice_index_or rows c []) x → Contains work' a ⊎ Contains (slice_index_or rows' c []) x
            old_closed (inl g) = cases (left a g)
            old_closed (inr g) = inr (marks.kept c x g)

            by : Contains (slice_index_or rows a []) x ⊎ Contains work' a → Contains work' a ⊎ Contains (slice_index_or rows' c []) x
            by (inl g) = old_closed (is.closed a c g e t)
            by (inr g) = inl g

  module _ (rows : List (List Def)) (is : IsFilling rows []) where
    run_has : (b : ℕ) → Run targets lasts starts b → Contains (slice_index_or rows b []) x
    run_has b (begins h) = is.started b h
    run_has c (goes {b = b} r e t) = elim (is.closed b c (run_has b r) e t) [ inl h ↦ nothing_in b h | inr h ↦ h ]

    -- nothing is left to be left
    pub ends : Spreads targets lasts starts x old rows
    ends = record {
      each = is.each;
      order = is.ready.order;
      cases = λ b y. (is.sound b y, back b y);
    }
      where
        back : (b : ℕ) (y : Def) → Contains (slice_index_or old b []) y ⊎ ((y ≡ x) × Run targets lasts starts b) → Contains (slice_index_or rows b []) y
        back b y (inl h) = is.kept b y h
        back b y (inr (e, r)) = subst (Contains (slice_index_or rows b [])) (sym e) (run_has b r)

-- What is sound stays so.
use Rattle.std.proofs.Common.{◌≡◌, ℕ, ◌+◌, ◌<◌, ◌⊎◌, inl, inr, Bool, true, false, cond, None, Some, List, [], ◌∷◌, ◌++◌, length, get_or, Contains, refl, sym, ap, subst, ◌∙◌, arith, length-append}
use Rattle.std.specs.Prelude.{slice_get, slice_index_or}
use Rattle.std.specs.Map.{lookup}
use Rattle.std.proofs.lemmas.List.Elements.{Contains-append_left, Contains-push, Contains-push_cases}
use Rattle.std.proofs.lemmas.Option.{none-some, same_Some, slice_get_within, slice_get-get_or}
use Rattle.rt_base.proofs.Lists.{slice_get-front, slice_get-last}
use Rattle.rt_base.proofs.Numbers.{before_or}
use Rattle.rt_lines.specs.declared.label.Label.{Label}
use Rattle.rt_lines.specs.declared.variable.Dtv.{Dtv}
use Rattle.rt_lines.specs.declared.line.Line.{Line}
use Rattle.rt_lines.specs.declared.line.Line.TheVariants.{Var}
use Rattle.rt_lines.specs.Orders.{Below}
use Rattle.rt_rules.specs.Rules.{Derivable}
use Rattle.rt_shape.specs.Graphs.{letter_eq}
use Rattle.rt_shape.proofs.Letters.{letter_equal}
use Rattle.rt_earlier.specs.Inside.Earlier.{AreOne, Leads, AreKept, AreSound, HasMore}
use Rattle.rt_earlier.proofs.Reaching.{one_kept, leads_kept}

module _ (order : Below) (lines : List Line) (named : List Dtv) (class : List ℕ) (members : List (List ℕ)) (children : List ((ℕ × Label) × ℕ)) (todo : List (ℕ × ℕ)) (sound : AreSound order lines named class members children todo) where
  -- more variables
  pub sound-named : (more : List Dtv) → AreKept named more → ((n : ℕ) (x : Dtv) → slice_get more n ≡ Some x → Derivable order lines (Var x)) → AreSound order lines more class members children todo
  sound-named more kept there = record {
    there = there;
    classes_one = λ n c e. one_kept order lines named more kept n c (sound.classes_one n c e);
    members_one = λ c n h. one_kept order lines named more kept n c (sound.members_one c n h);
    children_lead = λ c l n e. leads_kept order lines named more kept c l n (sound.children_lead c l n e);
    todo_one = λ m n h. one_kept order lines named more kept m n (sound.todo_one m n h);
  }

  -- other classes
  sound-class : (new : List ℕ) → ((n c : ℕ) → slice_get new n ≡ Some c → AreOne order lines named n c) → AreSound order lines named new members children todo
  sound-class new one = record {
    there = sound.there;
    classes_one = one;
    members_one = sound.members_one;
    children_lead = sound.children_lead;
    todo_one = sound.todo_one;
  }

  -- a number's class set
  pub sound-set : (new : List ℕ) (place number : ℕ) → ((i n : ℕ) → slice_get new i ≡ Some n → (slice_get class i ≡ Some n) ⊎ ((i ≡ place) × (n ≡ number))) → AreOne order lines named place number → AreSound order lines named new members children todo
  sound-set new place number changes one = sound-class new (λ i n e. by i n (changes i n e))
    where
      by : (i n : ℕ) → (slice_get class i ≡ Some n) ⊎ ((i ≡ place) × (n ≡ number)) → AreOne order lines named i n
      by i n (inl e) = sound.classes_one i n e
      by i n (inr (e, f)) = subst (λ k. AreOne order lines named k n) (sym e) (subst (AreOne order lines named place) (sym f) one)

  -- the next number's class is its own
  pub sound-next : (new : List ℕ) (n : ℕ) → new ≡ class ++ n ∷ [] → n ≡ length class → AreOne order lines named n n → AreSound order lines named new members children todo
  sound-next new n e f one = sound-class new (λ i c g. by i c g (before_or (length class) i (within i c g)))
    where
      within : (i c : ℕ) → slice_get new i ≡ Some c → i < length class + 1
      within i c g =
          let less : i < length new = slice_get_within new i c g in
          let long : length new ≡ length (class ++ n ∷ []) = ap length e in
          omega (arith, less, long, length-append class (n ∷ []))

      old : (i c : ℕ) → i < length class → slice_get new i ≡ Some c → slice_get class i ≡ Some c
      old i c less g =
          let here : slice_get class i ≡ Some (get_or class i 0) = slice_get-get_or class i 0 less in
          here ∙ sym (slice_get-front class (n ∷ []) i (get_or class i 0) here) ∙ ap (λ xs. slice_get xs i) (sym e) ∙ g

      by : (i c : ℕ) → slice_get new i ≡ Some c → (i < length class) ⊎ (i ≡ length class) → AreOne order lines named i c
      by i c g (inl less) = sound.classes_one i c (old i c less g)
      by i c g (inr h) =
          let last : slice_get new i ≡ Some n = ap (λ xs. slice_get xs i) e ∙ ap (slice_get (class ++ n ∷ [])) h ∙ slice_get-last class n in
          let same : c ≡ n = same_Some c n (sym g ∙ last) in
          subst (λ k. AreOne order lines named k c) (f ∙ sym h) (subst (AreOne order lines named n) (sym same) one)

  -- other members
  sound-members : (new : List (List ℕ)) → ((c n : ℕ) → Contains (slice_index_or new c []) n → AreOne order lines named n c) → AreSound order lines named class new children todo
  sound-members new one = record {
    there = sound.there;
    classes_one = sound.classes_one;
    members_one = one;
    children_lead = sound.children_lead;
    todo_one = sound.todo_one;
  }

  -- fewer members
  pub sound-fewer : (new : List (List ℕ)) → ((r n : ℕ) → Contains (slice_index_or new r []) n → Contains (slice_index_or members r []) n) → AreSound order lines named class new children todo
  sound-fewer new left = sound-members new (λ c n h. sound.members_one c n (left c n h))

  -- a member more
  pub sound-put : (new : List (List ℕ)) (row number : ℕ) → HasMore members row number new → AreOne order lines named number row → AreSound order lines named class new children todo
  sound-put new row number more one = sound-members new (λ c n h. by c n (more c n h))
    where
      by : (c n : ℕ) → Contains (slice_index_or members c []) n ⊎ ((c ≡ row) × (n ≡ number)) → AreOne order lines named n c
      by c n (inl h) = sound.members_one c n h
      by c n (inr (e, f)) = subst (AreOne order lines named n) (sym e) (subst (λ k. AreOne order lines named k row) (sym f) one)

  -- other children
  sound-children : (new : List ((ℕ × Label) × ℕ)) → ((c : ℕ) (l : Label) (n : ℕ) → lookup (letter_eq (c, l)) new ≡ Some n → Leads order lines named c l n) → AreSound order lines named class members new todo
  sound-children new lead = record {
    there = sound.there;
    classes_one = sound.classes_one;
    members_one = sound.members_one;
    children_lead = lead;
    todo_one = sound.todo_one;
  }

  -- a child more
  pub sound-insert : (new : List ((ℕ × Label) × ℕ)) (c : ℕ) (l : Label) (t : ℕ) → ((q : ℕ × Label) → lookup (letter_eq q) new ≡ cond (letter_eq (c, l) q) (Some t) (lookup (letter_eq q) children)) → Leads order lines named c l t → AreSound order lines named class members new todo
  sound-insert new c l t updates lead = sound-children new (λ d k s e. by d k s e (letter_eq (c, l) (d, k)) refl)
    where
      by : (d : ℕ) (k : Label) (s : ℕ) → lookup (letter_eq (d, k)) new ≡ Some s → (b : Bool) → letter_eq (c, l) (d, k) ≡ b → Leads order lines named d k s
      by d k s e true f =
          let same : ◌≡◌ {A = ℕ × Label} (c, l) (d, k) = letter_equal (c, l) (d, k) f in
          let end : t ≡ s = same_Some t s (sym (updates (d, k) ∙ ap (λ b. cond b (Some t) (lookup (letter_eq (d, k)) children)) f) ∙ e) in
          subst (λ (p : ℕ × Label). Leads order lines named p.0 p.1 s) same (subst (Leads order lines named c l) end lead)
      by d k s e false f = sound.children_lead d k s (sym (updates (d, k) ∙ ap (λ b. cond b (Some t) (lookup (letter_eq (d, k)) children)) f) ∙ e)

  -- a child fewer
  pub sound-remove : (new : List ((ℕ × Label) × ℕ)) (c : ℕ) (l : Label) → ((q : ℕ × Label) → lookup (letter_eq q) new ≡ cond (letter_eq (c, l) q) None (lookup (letter_eq q) children)) → AreSound order lines named class members new todo
  sound-remove new c l updates = sound-children new (λ d k s e. by d k s e (letter_eq (c, l) (d, k)) refl)
    where
      by : (d : ℕ) (k : Label) (s : ℕ) → lookup (letter_eq (d, k)) new ≡ Some s → (b : Bool) → letter_eq (c, l) (d, k) ≡ b → Leads order lines named d k s
      by d k s e true f = absurd (none-some s (sym (updates (d, k) ∙ ap (λ b. cond b None (lookup (letter_eq (d, k)) children)) f) ∙ e))
      by d k s e false f = sound.children_lead d k s (sym (updates (d, k) ∙ ap (λ b. cond b None (lookup (letter_eq (d, k)) children)) f) ∙ e)

  -- other pairs
  sound-todo : (new : List (ℕ × ℕ)) → ((m n : ℕ) → Contains new (m, n) → AreOne order lines named m n) → AreSound order lines named class members children new
  sound-todo new one = record {
    there = sound.there;
    classes_one = sound.classes_one;
    members_one = sound.members_one;
    children_lead = sound.children_lead;
    todo_one = one;
  }

  -- a pair more
  pub sound-push : (new : List (ℕ × ℕ)) (i j : ℕ) → new ≡ todo ++ (i, j) ∷ [] → AreOne order lines named i j → AreSound order lines named class members children new
  sound-push new i j e one = sound-todo new (λ m n h. by m n (Contains-push_cases todo (i, j) (m, n) (subst (λ ps. Contains ps (m, n)) e h)))
    where
      by : (m n : ℕ) → Contains todo (m, n) ⊎ ◌≡◌ {A = ℕ × ℕ} (i, j) (m, n) → AreOne order lines named m n
      by m n (inl h) = sound.todo_one m n h
      by m n (inr f) = subst (λ (p : ℕ × ℕ). AreOne order lines named p.0 p.1) f one

  -- a pair fewer
  pub sound-pop : (rest : List (ℕ × ℕ)) (i j : ℕ) → todo ≡ rest ++ (i, j) ∷ [] → AreSound order lines named class members children rest × AreOne order lines named i j
  sound-pop rest i j e = (
    sound-todo rest (λ m n h. sound.todo_one m n (subst (λ ps. Contains ps (m, n)) (sym e) (Contains-append_left rest ((i, j) ∷ []) (m, n) h))),
    sound.todo_one i j (subst (λ ps. Contains ps (i, j)) (sym e) (Contains-push rest (i, j))),
  )

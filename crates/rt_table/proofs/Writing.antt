-- Items are written, of which some are open and pending.
use Rattle.std.proofs.Common.{◌≡◌, ◌+◌, ℕ, Bool, true, false, cond, not, Option, Some, None, List, [], ◌∷◌, ◌++◌, map, reverse, length, refl, sym, ap, subst, ◌∙◌, append_assoc, arith}
use Rattle.std.specs.Prelude.{All}
use Rattle.std.specs.List.{list_any}
use Rattle.std.proofs.lemmas.List.{append-nil, get_or_append_left, get_or_push, length-append, map-append, reverse-append, reverse-reverse}
use Rattle.std.proofs.lemmas.List.Elements.{All-append, All-head, All-tail, All-nil, All-cons, All-map}
use Rattle.std.proofs.lemmas.List.Sorted.{IsPermutation-reverse, list_any-IsPermutation}
use Rattle.indexmap.specs.IndexSet.{insert_key}
use Rattle.rt_rows.specs.declared.name.Name.{Name}
use Rattle.rt_rows.specs.declared.name.Name.TheVariants as name
use Rattle.rt_rows.specs.declared.row.Row.{Row}
use Rattle.rt_rows.specs.Terms.{name_eq, row_names}
use Rattle.rt_table.specs.declared.item.Item.{Item}
use Rattle.rt_table.specs.declared.item.Item.TheVariants as item
use Rattle.rt_table.specs.Inside.Named.{IsItemWithin, IsNameWithin, IsRowWithin}
use Rattle.rt_table.specs.Table.{Context, Writes, ends, places, writes, opens, first_closed, is_closed, merge_rows, told}
use Rattle.rt_table.specs.Inside.Writing.{closed_in}
use Rattle.rt_table.proofs.Sound.{first-closed-of}

-- Stacks.

-- the last item goes on top
pub put-step : (pending pended items rest whole : List Item) (x : Item) → pended ≡ pending ++ x ∷ [] → items ≡ rest ++ x ∷ [] → pending ++ reverse items ≡ whole
    → pended ++ reverse rest ≡ whole
put-step pending pended items rest whole x p i e =
    ap (λ xs. xs ++ reverse rest) p ∙ append_assoc pending (x ∷ []) (reverse rest) ∙ ap (λ xs. pending ++ xs) (sym (reverse-append rest (x ∷ []))) ∙ ap (λ xs. pending ++ reverse xs) (sym i) ∙ e

-- so does the last row
pub told-step : (pending pended : List Item) (rows rest : List Row) (whole : List Item) (x : Row) → pended ≡ pending ++ item.Told x ∷ [] → rows ≡ rest ++ x ∷ []
    → pending ++ reverse (told rows) ≡ whole → pended ++ reverse (told rest) ≡ whole
told-step pending pended rows rest whole x p i e =
    put-step pending pended (told rows) (told rest) whole (item.Told x) p (ap told i ∙ map-append item.Told rest (x ∷ [])) e

-- nothing is left
pub put-end : (pending items whole : List Item) → items ≡ [] → pending ++ reverse items ≡ whole → pending ≡ whole
put-end pending items whole i e = sym (append-nil pending) ∙ ap (λ xs. pending ++ reverse xs) (sym i) ∙ e

pub told-end : (pending : List Item) (rows : List Row) (whole : List Item) → rows ≡ [] → pending ++ reverse (told rows) ≡ whole → pending ≡ whole
told-end pending rows whole i e = put-end pending (told rows) whole (ap told i) e

-- The order of open names doesn't matter.

is_closed-reverse : (keys : List Name) (n : Name) → is_closed (reverse keys) n ≡ is_closed keys n
is_closed-reverse keys (name.Merge p site r) =
    ap not (sym (list_any-IsPermutation (name_eq (name.Merge p site r)) keys (reverse keys) (IsPermutation-reverse keys)))
is_closed-reverse keys other = refl

first_closed-reverse : (keys names : List Name) → first_closed (reverse keys) names ≡ first_closed keys names
first_closed-reverse keys [] = refl
first_closed-reverse keys (n ∷ names) =
    ap (λ b. cond b (Some n) (first_closed (reverse keys) names)) (is_closed-reverse keys n)
    ∙ ap (λ rest. cond (is_closed keys n) (Some n) rest) (first_closed-reverse keys names)

closed_in-reverse : (keys : List Name) (x : Item) → closed_in (reverse keys) x ≡ closed_in keys x
closed_in-reverse keys (item.Told x) = first_closed-reverse keys (row_names x)
closed_in-reverse keys (item.Instance site i) = refl

-- a closed merge is not among the open names
closed-new : (keys : List Name) (n : Name) → is_closed keys n ≡ true → insert_key name_eq keys n ≡ keys ++ n ∷ []
closed-new keys (name.Merge p site r) e =
    let m = name.Merge p site r in
    let absent : list_any (name_eq m) keys ≡ false = by (list_any (name_eq m) keys) e in
    ap (λ b. cond b keys (keys ++ m ∷ [])) absent
  where
    by : (b : Bool) → not b ≡ true → b ≡ false
    by true e = cc
    by false e = refl
closed-new keys (name.Definition p site r) e = cc
closed-new keys (name.Object p start) e = cc
closed-new keys (name.Port p site i l) e = cc
closed-new keys (name.Inner p site i n) e = cc
closed-new keys (name.Result p site i) e = cc

first_closed-closed : (keys names : List Name) (merge : Name) → first_closed keys names ≡ Some merge → is_closed keys merge ≡ true
first_closed-closed keys [] merge e = cc
first_closed-closed keys (n ∷ names) merge e = by (is_closed keys n) refl (λ later. first_closed-closed keys names merge later) e
  where
    by : (b : Bool) → is_closed keys n ≡ b → (first_closed keys names ≡ Some merge → is_closed keys merge ≡ true) → cond b (Some n) (first_closed keys names) ≡ Some merge
        → is_closed keys merge ≡ true
    by true is before e = let same : n ≡ merge = cc in subst (λ m. is_closed keys m ≡ true) same is
    by false is before e = before e

closed_in-closed : (keys : List Name) (x : Item) (merge : Name) → closed_in keys x ≡ Some merge → is_closed keys merge ≡ true
closed_in-closed keys (item.Told x) merge e = first_closed-closed keys (row_names x) merge e
closed_in-closed keys (item.Instance site i) merge e = cc

-- a merge that an item's row names is within
pub closed_in-within : (sites : ℕ) (keys : List Name) (x : Item) (merge : Name) → closed_in keys x ≡ Some merge → IsItemWithin sites x → IsNameWithin sites merge
closed_in-within sites keys (item.Told x) merge e h = first-closed-of (IsNameWithin sites) keys (row_names x) merge e h
closed_in-within sites keys (item.Instance site i) merge e h = cc

-- How many steps were made: each added an item to what is done, or a merge to those that are open.

pub steps-done : (done new : List Item) (keys opened : List Name) (n : ℕ) (x : Item) → new ≡ done ++ x ∷ [] → opened ≡ keys → length done + length keys ≡ n
    → length new + length opened ≡ n + 1
steps-done done new keys opened n x d k e =
    ap (λ xs. length xs + length opened) d ∙ ap (λ ks. length (done ++ x ∷ []) + length ks) k ∙ omega (arith, length-append done (x ∷ []), e)

pub steps-opened : (done new : List Item) (keys opened : List Name) (n : ℕ) (x : Item) (merge : Name) → closed_in keys x ≡ Some merge → new ≡ done
    → opened ≡ insert_key name_eq keys merge → length done + length keys ≡ n → length new + length opened ≡ n + 1
steps-opened done new keys opened n x merge c d k e =
    ap (λ xs. length xs + length opened) d
    ∙ ap (λ ks. length done + length ks) (k ∙ closed-new keys merge (closed_in-closed keys x merge c))
    ∙ omega (arith, length-append keys (merge ∷ []), e)

-- Steps.

goes : (context : Context) (open_names : List Name) (x : Item) (items done : List Item) → closed_in open_names x ≡ None → Writes context open_names items done
    → Writes context open_names (x ∷ items) (x ∷ done)
goes context open_names (item.Told x) items done e w = writes e w
goes context open_names (item.Instance site i) items done e w = places w

stops : (context : Context) (open_names : List Name) (x : Item) (items done : List Item) (merge : Name) → closed_in open_names x ≡ Some merge
    → Writes context (merge ∷ open_names) (told (merge_rows context merge) ++ x ∷ items) done → Writes context open_names (x ∷ items) done
stops context open_names (item.Told x) items done merge e w = opens e w
stops context open_names (item.Instance site i) items done merge e w = cc

All-reversed : (sites : ℕ) (xs : List Item) → All (IsItemWithin sites) xs → All (IsItemWithin sites) (reverse xs)
All-reversed sites [] h = All-nil (IsItemWithin sites)
All-reversed sites (x ∷ xs) h =
    subst (All (IsItemWithin sites)) (sym (reverse-append (x ∷ []) xs))
    (All-append (IsItemWithin sites) (reverse xs) (x ∷ []) (All-reversed sites xs (All-tail (IsItemWithin sites) x xs h))
    (All-cons (IsItemWithin sites) x [] (All-head (IsItemWithin sites) x xs h) (All-nil (IsItemWithin sites))))

-- What is pending, the next item last, with these merges open, ends what was to be written after what is done.
pub record Leads (context : Context) (sites : ℕ) (items : List Item) (keys : List Name) (pending done : List Item) : Type 0 where
  pub leads : (rest : List Item) → Writes context (reverse keys) (reverse pending) rest → Writes context [] items (done ++ rest)
  pub within : All (IsItemWithin sites) pending

pub leads-start : (context : Context) (sites : ℕ) (items pending done : List Item) (keys : List Name) → keys ≡ [] → done ≡ [] → pending ≡ reverse items
    → All (IsItemWithin sites) items → Leads context sites items keys pending done
leads-start context sites items pending done keys keys_are done_is e h = record {
  leads = λ rest w.
      let at_names : Writes context [] (reverse pending) rest = subst (λ ns. Writes context (reverse ns) (reverse pending) rest) keys_are w in
      subst (λ ds. Writes context [] items (ds ++ rest)) (sym done_is) (subst (λ xs. Writes context [] xs rest) (ap reverse e ∙ reverse-reverse items) at_names);
  within = subst (All (IsItemWithin sites)) (sym e) (All-reversed sites items h);
}

-- the same of equal lists
pub leads-same : (context : Context) (sites : ℕ) (items : List Item) (keys keys_now : List Name) (pending pending_now done done_now : List Item)
    → keys_now ≡ keys → pending_now ≡ pending → done_now ≡ done → Leads context sites items keys pending done → Leads context sites items keys_now pending_now done_now
leads-same context sites items keys keys_now pending pending_now done done_now k p d l =
    subst (λ ns. Leads context sites items ns pending_now done_now) (sym k)
    (subst (λ xs. Leads context sites items keys xs done_now) (sym p) (subst (λ ds. Leads context sites items keys pending ds) (sym d) l))

pub leads-end : (context : Context) (sites : ℕ) (items done pending : List Item) (keys : List Name) → Leads context sites items keys pending done → pending ≡ []
    → Writes context [] items done
leads-end context sites items done pending keys l e =
    subst (Writes context [] items) (append-nil done) (l.leads [] (subst (λ xs. Writes context (reverse keys) (reverse xs) []) (sym e) ends))

module _ (context : Context) (sites : ℕ) (items done pending pended : List Item) (keys : List Name) (x : Item)
    (l : Leads context sites items keys pending done) (popped : pending ≡ pended ++ x ∷ []) where
  next : (rest : List Item) → Writes context (reverse keys) (x ∷ reverse pended) rest → Writes context [] items (done ++ rest)
  next rest w = l.leads rest (subst (λ xs. Writes context (reverse keys) xs rest) (sym (ap reverse popped ∙ reverse-append pended (x ∷ []))) w)

  popped_within : All (IsItemWithin sites) (pended ++ x ∷ [])
  popped_within = subst (All (IsItemWithin sites)) popped l.within

  pub item-within : IsItemWithin sites x
  item-within = subst (IsItemWithin sites) (get_or_push pended x x (length pended) refl) (popped_within (length pended) x (omega (arith, length-append pended (x ∷ []))))

  pub pended-within : All (IsItemWithin sites) pended
  pended-within k d less = subst (IsItemWithin sites) (get_or_append_left pended (x ∷ []) d k less) (popped_within k d (omega (arith, length-append pended (x ∷ []))))

  -- an item of which no merge is closed is done
  pub leads-done : (new : List Item) → closed_in keys x ≡ None → new ≡ done ++ x ∷ [] → Leads context sites items keys pended new
  leads-done new e is = record {
    leads = λ rest w.
        subst (Writes context [] items) (sym (ap (λ xs. xs ++ rest) is ∙ append_assoc done (x ∷ []) rest))
        (next (x ∷ rest) (goes context (reverse keys) x (reverse pended) rest (closed_in-reverse keys x ∙ e) w));
    within = pended-within;
  }

  -- else the rows of the merge come first
  pub leads-opened : (merge : Name) (new : List Item) (opened : List Name) → closed_in keys x ≡ Some merge → opened ≡ insert_key name_eq keys merge
      → new ≡ (pended ++ x ∷ []) ++ reverse (told (merge_rows context merge)) → All (IsRowWithin sites) (merge_rows context merge)
      → Leads context sites items opened new done
  leads-opened merge new opened e opened_is is rows_within = record {
    leads = λ rest w.
        let names : reverse opened ≡ merge ∷ reverse keys =
        ap reverse (opened_is ∙ closed-new keys merge (closed_in-closed keys x merge e)) ∙ reverse-append keys (merge ∷ [])
        in
        let rows = told (merge_rows context merge) in
        let waiting : reverse new ≡ rows ++ x ∷ reverse pended =
        ap reverse is ∙ reverse-append (pended ++ x ∷ []) (reverse rows)
        ∙ ap (λ xs. xs ++ reverse (pended ++ x ∷ [])) (reverse-reverse rows)
        ∙ ap (λ xs. rows ++ xs) (reverse-append pended (x ∷ []))
        in
        let at_names : Writes context (merge ∷ reverse keys) (reverse new) rest = subst (λ ns. Writes context ns (reverse new) rest) names w in
        next rest (stops context (reverse keys) x (reverse pended) rest merge (closed_in-reverse keys x ∙ e)
        (subst (λ xs. Writes context (merge ∷ reverse keys) xs rest) waiting at_names));
    within =
        subst (All (IsItemWithin sites)) (sym is)
        (All-append (IsItemWithin sites) (pended ++ x ∷ []) (reverse (told (merge_rows context merge))) popped_within
        (All-reversed sites (told (merge_rows context merge)) (All-map (IsItemWithin sites) item.Told (merge_rows context merge) rows_within)));
  }

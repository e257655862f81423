-- The items of sites and of calls, one more.
use Rattle.std.proofs.Common.{◌≡◌, ◌+◌, ◌<◌, ℕ, List, [], ◌∷◌, ◌++◌, length, get_or, take, map, refl, sym, ap, ◌∙◌, append_assoc, add-one, add-zero, arith}
use Rattle.std.proofs.lemmas.List.{append-nil, take_more, length-map, length-take, map-append}
use Rattle.rt_body.specs.declared.action.Action.{Action}
use Rattle.rt_liveness.specs.declared.call.Call.{Call}
use Rattle.rt_rows.specs.declared.row.Row.{Row}
use Rattle.rt_table.specs.declared.item.Item.{Item}
use Rattle.rt_table.specs.declared.item.Item.TheVariants as item
use Rattle.rt_table.specs.Inside.Parts.{call_items, call_rows, places_of}
use Rattle.rt_table.specs.Table.{Context, Linked, Target, Member, Scheme, Held, Unknown, call_by, calls_from, items_from, site_items, told}

items_from-push : (context : Context) (i : ℕ) (xs : List Action) (a : Action) → items_from context i (xs ++ a ∷ []) ≡ items_from context i xs ++ site_items context (i + length xs) a
items_from-push context i [] a = append-nil (site_items context i a) ∙ ap (λ k. site_items context k a) (sym (add-zero i))
items_from-push context i (x ∷ xs) a =
    ap (λ items. site_items context i x ++ items) (items_from-push context (i + 1) xs a)
    ∙ sym (append_assoc (site_items context i x) (items_from context (i + 1) xs) (site_items context (i + 1 + length xs) a))
    ∙ ap (λ k. (site_items context i x ++ items_from context (i + 1) xs) ++ site_items context k a) (omega arith)

-- the items of a site follow those of the sites before it
pub items_from-more : (context : Context) (xs : List Action) (i : ℕ) (a : Action) → i < length xs
    → items_from context 0 (take (i + 1) xs) ≡ items_from context 0 (take i xs) ++ site_items context i (get_or xs i a)
items_from-more context xs i a less =
    ap (items_from context 0) (take_more xs i a less) ∙ items_from-push context 0 (take i xs) (get_or xs i a)
    ∙ ap (λ k. items_from context 0 (take i xs) ++ site_items context k (get_or xs i a)) (omega (arith, length-take i xs))

calls_from-push : (context : Context) (site i : ℕ) (xs : List Linked) (a : Linked)
    → calls_from context site i (xs ++ a ∷ []) ≡ calls_from context site i xs ++ call_items context site (i + length xs) a
calls_from-push context site i [] a = append-nil (call_items context site i a) ∙ ap (λ k. call_items context site k a) (sym (add-zero i))
calls_from-push context site i (x ∷ xs) a =
    ap (λ items. call_items context site i x ++ items) (calls_from-push context site (i + 1) xs a)
    ∙ sym (append_assoc (call_items context site i x) (calls_from context site (i + 1) xs) (call_items context site (i + 1 + length xs) a))
    ∙ ap (λ k. (call_items context site i x ++ calls_from context site (i + 1) xs) ++ call_items context site k a) (omega arith)

-- the items of a call follow those of the calls before it
pub calls_from-more : (context : Context) (site : ℕ) (link : Call → Linked) (xs : List Call) (i : ℕ) (a : Call) → i < length xs
    → calls_from context site 0 (map link (take (i + 1) xs)) ≡ calls_from context site 0 (map link (take i xs)) ++ call_items context site i (link (get_or xs i a))
calls_from-more context site link xs i a less =
    ap (λ ys. calls_from context site 0 (map link ys)) (take_more xs i a less)
    ∙ ap (calls_from context site 0) (map-append link (take i xs) (get_or xs i a ∷ []))
    ∙ calls_from-push context site 0 (map link (take i xs)) (link (get_or xs i a))
    ∙ ap (λ k. calls_from context site 0 (map link (take i xs)) ++ call_items context site k (link (get_or xs i a)))
    (omega (arith, length-map (take i xs) link, length-take i xs))

-- the rows of a call after the place of its instance
pub call_by-rows : (context : Context) (site i : ℕ) (call : Call) (target : Target)
    → call_by context site i call target ≡ places_of site i target ++ told (call_rows context site i call target)
call_by-rows context site i call (Member q words) = refl
call_by-rows context site i call (Scheme own lines covered) = refl
call_by-rows context site i call (Held register) = refl
call_by-rows context site i call Unknown = refl

pub told-append : (xs ys : List Row) → told (xs ++ ys) ≡ told xs ++ told ys
told-append xs ys = map-append item.Told xs ys

-- one call more of a site
pub call-step : (context : Context) (site : ℕ) (link : Call → Linked) (xs : List Call) (i number : ℕ) (a : Call) (init old new : List Item) → i < length xs
    → number ≡ i → old ≡ init ++ calls_from context site 0 (map link (take i xs)) → new ≡ old ++ call_items context site number (link (get_or xs i a))
    → new ≡ init ++ calls_from context site 0 (map link (take (i + 1) xs))
call-step context site link xs i number a init old new less e h k =
    k ∙ ap (λ n. old ++ call_items context site n (link (get_or xs i a))) e
    ∙ ap (λ items. items ++ call_items context site i (link (get_or xs i a))) h
    ∙ append_assoc init (calls_from context site 0 (map link (take i xs))) (call_items context site i (link (get_or xs i a)))
    ∙ ap (λ items. init ++ items) (sym (calls_from-more context site link xs i a less))

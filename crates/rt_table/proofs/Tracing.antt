-- What the sides of the results of calls come to.
use Rattle.std.proofs.Common.{◌≡◌, ◌≢◌, ◌<◌, ◌≤◌, ◌+◌, ◌-◌, ℕ, zero, suc, ℤ, pos, Bool, true, false, cond, Option, Some, None, List, [], ◌∷◌, ◌++◌, get_or, length, map, take, refl, sym, ap, subst, ◌∙◌, arith}
use Rattle.std.specs.Prelude.{slice_get, slice_index_or}
use Rattle.std.specs.Ordering.{int_eq}
use Rattle.std.proofs.lemmas.List.{map-append, take_more}
use Rattle.rt_track.specs.declared.value.Value.{Value}
use Rattle.rt_track.specs.declared.value.Value.TheVariants as value
use Rattle.rt_liveness.specs.declared.call.Call.{Call}
use Rattle.rt_rows.specs.declared.name.Name.{Name}
use Rattle.rt_table.specs.declared.context.Context.{Context as Given}
use Rattle.rt_table.specs.declared.context.Outside.{Outside}
use Rattle.rt_table.specs.declared.side.Side.{Side}
use Rattle.rt_table.specs.declared.side.Side.TheVariants.{Variable}
use Rattle.rt_table.specs.declared.target.Target.{Target as GivenTarget}
use Rattle.rt_table.specs.declared.target.Target.TheVariants as given
use Rattle.rt_table.specs.declared.traced.Traced.{Traced}
use Rattle.rt_table.specs.declared.traced.Traced.TheVariants as traced
use Rattle.rt_table.specs.Inside.Parts.{IsOutcome, held_side, named_results, names_result, result_of_calls, uses_by}
use Rattle.rt_table.specs.Table.{Context, Linked, Target, Member, Scheme, Held, Unknown, at_side, definition, if_first, is_call_site, linked_at, pointer_result, result_by, use_side, value_side, written_by, written_side}
use Rattle.rt_table.specs.Inside.Told.{context_of, linked_call, linked_of, target_of}

-- only of what a register holds the result is asked by sides of uses
pub result-held : (context : Context) (site i r : ℕ) (call : Call) (target : Target)
    → result_by context (use_side context) site i r call target ≡ result_by context (λ (s q : ℕ). held_side context site target) site i r call target
result-held context site i r call (Member q words) = refl
result-held context site i r call (Scheme own lines covered) = refl
result-held context site i r call (Held register) = refl
result-held context site i r call Unknown = refl

pub result-unheld : (context : Context) (f g : ℕ → ℕ → Option Side) (site i r : ℕ) (call : Call) (target : GivenTarget) → ((register : ℕ) → target ≡ given.Held register → ⊥)
    → result_by context f site i r call (target_of target) ≡ result_by context g site i r call (target_of target)
result-unheld context f g site i r call (given.Member q words) h = refl
result-unheld context f g site i r call (given.Scheme scheme covered) h = refl
result-unheld context f g site i r call (given.Held register) h = absurd (h register refl)
result-unheld context f g site i r call given.Unknown h = refl

-- only of what a site wrote a side is asked by what sites wrote
pub plain-side : (context : Context) (f g : ℕ → ℕ → Option Side) (own : Name) (v : Value) → ((s q : ℕ) (k : ℤ) → v ≡ value.At s q k → ⊥)
    → value_side context f own v ≡ value_side context g own v
plain-side context f g own (value.Entry r k) h = refl
plain-side context f g own (value.At s q k) h = absurd (h s q k refl)
plain-side context f g own (value.Sym n k) h = refl
plain-side context f g own (value.Frame k) h = refl
plain-side context f g own value.Multi h = refl
plain-side context f g own (value.Const n) h = refl

-- the first result alone
pub first-result : (r : ℕ) (side : Side) → r ≡ 0 → if_first r side ≡ Some side
first-result zero side e = refl
first-result (suc r) side e = absurd (omega (arith, e))

pub no-result : (r : ℕ) (side : Side) → r ≢ 0 → if_first r side ≡ None
no-result zero side e = absurd (e refl)
no-result (suc r) side e = refl

-- one call more
pub result_of_calls-more : (context : Context) (calls : List ℕ) (site : ℕ) (side : Option Side)
    → result_of_calls context (calls ++ site ∷ []) side ≡ result_of_calls context calls (Some (pointer_result context site 0 side))
result_of_calls-more context [] site side = refl
result_of_calls-more context (s ∷ calls) site side = ap (λ x. Some (pointer_result context s 0 x)) (result_of_calls-more context calls site side)

-- Calls of sites.

slice-map : {A B : Type 0} (f : A → B) (xs : List (List A)) (i : ℕ) → slice_index_or (map (λ (here : List A). map f here) xs) i [] ≡ map f (slice_index_or xs i [])
slice-map f [] i = refl
slice-map f (x ∷ xs) zero = refl
slice-map f (x ∷ xs) (suc i) = slice-map f xs i

-- the calls of a site, and how each is told
pub linked-at : (self : Given) (site : ℕ) → linked_at (context_of self) site ≡ map (linked_call self.outside) (slice_index_or self.calls.now site [])
linked-at self site = slice-map (linked_call self.outside) self.calls.now site

-- The first call of a site.

abbrev pub outcome : Context → ℕ → ℕ → Traced → Type 0
outcome context site register traced = IsOutcome context site (λ (written : ℕ → ℕ → Option Side). written_side context (uses_by context written) site register) traced

outcome-same : (context : Context) (site : ℕ) (f g : (ℕ → ℕ → Option Side) → Option Side) → ((written : ℕ → ℕ → Option Side) → g written ≡ f written)
    → (traced : Traced) → IsOutcome context site f traced → IsOutcome context site g traced
outcome-same context site f g e (traced.Known side) h = λ written. e written ∙ h written
outcome-same context site f g e (traced.Through from register) h = λ written. e written ∙ h written

written-first : (context : Context) (uses : ℕ → ℕ → Option Side) (site register : ℕ) (link : Call → Linked) (here : List Call) (call : Call) → slice_get here 0 ≡ Some call
    → written_by context uses site register (map link here) ≡ written_by context uses site register (link call ∷ [])
written-first context uses site register link [] call e = cc
written-first context uses site register link (x ∷ here) call e = let same : x ≡ call = cc in ap (λ y. written_by context uses site register (link y ∷ [])) same

written-none : (context : Context) (uses : ℕ → ℕ → Option Side) (site register : ℕ) (link : Call → Linked) (here : List Call) → slice_get here 0 ≡ None
    → written_by context uses site register (map link here) ≡ None
written-none context uses site register link [] e = refl
written-none context uses site register link (x ∷ here) e = cc

-- what a call wrote is told by the calls of its site
called : (self : Given) (uses : ℕ → ℕ → Option Side) (site register : ℕ) (here : List Call) → is_call_site (context_of self) site ≡ true
    → here ≡ slice_index_or self.calls.now site []
    → written_side (context_of self) uses site register ≡ written_by (context_of self) uses site register (map (linked_call self.outside) here)
called self uses site register here is_call e =
    let context = context_of self in
    ap (λ b. cond b (written_by context uses site register (linked_at context site)) (Some (Variable (definition context site register)))) is_call
    ∙ ap (written_by context uses site register) (linked-at self site ∙ ap (map (linked_call self.outside)) (sym e))

pub outcome-first : (self : Given) (site register : ℕ) (here : List Call) (call : Call) (traced : Traced) → is_call_site (context_of self) site ≡ true
    → here ≡ slice_index_or self.calls.now site [] → slice_get here 0 ≡ Some call
    → IsOutcome (context_of self) site (λ (written : ℕ → ℕ → Option Side). written_by (context_of self) (uses_by (context_of self) written) site register (linked_call self.outside call ∷ [])) traced
    → outcome (context_of self) site register traced
outcome-first self site register here call traced is_call e first h =
    let context = context_of self in
    outcome-same context site (λ (written : ℕ → ℕ → Option Side). written_by context (uses_by context written) site register (linked_call self.outside call ∷ []))
    (λ (written : ℕ → ℕ → Option Side). written_side context (uses_by context written) site register)
    (λ written. called self (uses_by context written) site register here is_call e
    ∙ written-first context (uses_by context written) site register (linked_call self.outside) here call first)
    traced h

pub outcome-none : (self : Given) (site register : ℕ) (here : List Call) → is_call_site (context_of self) site ≡ true
    → here ≡ slice_index_or self.calls.now site [] → slice_get here 0 ≡ None → outcome (context_of self) site register (traced.Known None)
outcome-none self site register here is_call e none =
    let context = context_of self in
    λ written. called self (uses_by context written) site register here is_call e
    ∙ written-none context (uses_by context written) site register (linked_call self.outside) here none

-- Which results the first call's scheme names.

pub named-first : (link : Call → Linked) (here : List Call) (call : Call) → slice_get here 0 ≡ Some call
    → named_results (map link here) ≡ named_results (link call ∷ [])
named-first link [] call e = cc
named-first link (x ∷ here) call e = let same : x ≡ call = cc in ap (λ y. named_results (link y ∷ [])) same

pub named-one : (self : Given) (site : ℕ) (here : List Call) (call : Call) → here ≡ slice_index_or self.calls.now site [] → slice_get here 0 ≡ Some call
    → named_results (linked_at (context_of self) site) ≡ named_results (linked_call self.outside call ∷ [])
named-one self site here call e first =
    ap named_results (linked-at self site ∙ ap (map (linked_call self.outside)) (sym e)) ∙ named-first (linked_call self.outside) here call first

-- that of a number among both
pub named-of : (linked : Linked) (r : ℕ) → r ≤ 1 → slice_index_or (named_results (linked ∷ [])) r false ≡ names_result linked.target r
named-of linked zero less = refl
named-of linked (suc zero) less = refl
named-of linked (suc (suc r)) less = absurd (omega arith)

-- those of the site of a number among those of all sites
pub named-found : (linked : List (List Linked)) (site : ℕ) (named : List Bool) → site < length (map named_results linked) → named ≡ get_or (map named_results linked) site named
    → named ≡ named_results (slice_index_or linked site [])
named-found [] site named less e = absurd (omega arith)
named-found (here ∷ linked) zero named less e = e
named-found (here ∷ linked) (suc site) named less e = named-found linked site named (omega arith) e

pub named-missing : (linked : List (List Linked)) (site : ℕ) → length (map named_results linked) ≤ site
    → false ∷ false ∷ [] ≡ named_results (slice_index_or linked site [])
named-missing [] site past = refl
named-missing (here ∷ linked) zero past = absurd (omega arith)
named-missing (here ∷ linked) (suc site) past = named-missing linked site (omega arith)

-- those of one site more
pub named-more : (link : Call → Linked) (calls : List (List Call)) (i : ℕ) (here : List Call) → i < length calls → here ≡ get_or calls i here
    → map named_results (map (λ (xs : List Call). map link xs) (take (i + 1) calls))
    ≡ map named_results (map (λ (xs : List Call). map link xs) (take i calls)) ++ named_results (map link here) ∷ []
named-more link calls i here less e =
    let links = λ (xs : List Call). map link xs in
    ap (λ (ys : List (List Call)). map named_results (map links ys)) (take_more calls i here less)
    ∙ ap (map named_results) (map-append links (take i calls) (get_or calls i here ∷ []))
    ∙ map-append named_results (map links (take i calls)) (map link (get_or calls i here) ∷ [])
    ∙ ap (λ (h : List Call). map named_results (map links (take i calls)) ++ named_results (map link h) ∷ []) (sym e)

-- Steps through calls.

pub trace-known : (context : Context) (calls : List ℕ) (n i site register : ℕ) (whole side : Option Side) → i < n
    → whole ≡ result_of_calls context calls (at_side (n - i) context site register) → outcome context site register (traced.Known side)
    → whole ≡ result_of_calls context calls side
trace-known context calls n i site register whole side less e h =
    let more : n - i ≡ suc (n - (i + 1)) = omega arith in
    e ∙ ap (λ steps. result_of_calls context calls (at_side steps context site register)) more
    ∙ ap (result_of_calls context calls) (h (at_side (n - (i + 1)) context))

pub trace-through : (context : Context) (calls : List ℕ) (n i site register from written : ℕ) (whole : Option Side) → i < n
    → whole ≡ result_of_calls context calls (at_side (n - i) context site register) → outcome context site register (traced.Through from written)
    → whole ≡ result_of_calls context (calls ++ site ∷ []) (at_side (n - (i + 1)) context from written)
trace-through context calls n i site register from written whole less e h =
    let more : n - i ≡ suc (n - (i + 1)) = omega arith in
    e ∙ ap (λ steps. result_of_calls context calls (at_side steps context site register)) more
    ∙ ap (result_of_calls context calls) (h (at_side (n - (i + 1)) context))
    ∙ sym (result_of_calls-more context calls site (at_side (n - (i + 1)) context from written))

pub trace-end : (context : Context) (calls : List ℕ) (n i site register : ℕ) (whole : Option Side) → n ≤ i
    → whole ≡ result_of_calls context calls (at_side (n - i) context site register) → whole ≡ result_of_calls context calls None
trace-end context calls n i site register whole past e =
    let none : n - i ≡ 0 = omega arith in
    e ∙ ap (λ steps. result_of_calls context calls (at_side steps context site register)) none

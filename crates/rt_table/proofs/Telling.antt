-- What calls are told by.
use Rattle.std.proofs.Common.{◌≡◌, ◌+◌, ◌<◌, ◌≤◌, ℕ, zero, suc, Option, List, [], ◌∷◌, length, get_or, map, refl, ap, ◌∙◌, arith, Bor}
use Rattle.rt_body.specs.declared.body.Body.{Body}
use Rattle.rt_liveness.specs.declared.call.Call.{Call}
use Rattle.rt_table.specs.declared.context.Context.{Context as Given}
use Rattle.rt_table.specs.declared.facts.Framed.{Framed}
use Rattle.rt_scheme.specs.declared.scheme.Scheme.{Scheme}
use Rattle.rt_table.specs.declared.target.Target.{Target as GivenTarget}
use Rattle.rt_table.specs.declared.target.Target.TheVariants as given
use Rattle.rt_table.specs.Facts.{knowledge_of}
use Rattle.rt_table.specs.Lists.{words_at}
use Rattle.rt_table.specs.Inside.Parts.{places_of}
use Rattle.rt_table.specs.Table.{Linked, calls_of}
use Rattle.rt_table.specs.Inside.Told.{context_of, linked_call, target_of}

-- the words that the procedure of a number takes
pub words-at : (bodies : List Body) (calls : List (List (List Call))) (frames : List Framed) (q : ℕ) (d : Framed) → length bodies ≡ length frames
    → length calls ≡ length frames → q < length frames → words_at (knowledge_of bodies calls frames) q ≡ (get_or frames q d).words
words-at bodies calls [] q d e f less = absurd (omega arith)
words-at [] calls (x ∷ frames) q d e f less = absurd (omega (arith, e))
words-at (b ∷ bodies) [] (x ∷ frames) q d e f less = absurd (omega (arith, f))
words-at (b ∷ bodies) (c ∷ calls) (x ∷ frames) zero d e f less = refl
words-at (b ∷ bodies) (c ∷ calls) (x ∷ frames) (suc q) d e f less = words-at bodies calls frames q d (omega (arith, e)) (omega (arith, f)) (omega arith)

-- no procedure of a number past them takes any
pub words-past : (bodies : List Body) (calls : List (List (List Call))) (frames : List Framed) (q : ℕ) → length frames ≤ q
    → words_at (knowledge_of bodies calls frames) q ≡ []
words-past [] calls frames q past = refl
words-past (b ∷ bodies) [] frames q past = refl
words-past (b ∷ bodies) (c ∷ calls) [] q past = refl
words-past (b ∷ bodies) (c ∷ calls) (x ∷ frames) zero past = absurd (omega arith)
words-past (b ∷ bodies) (c ∷ calls) (x ∷ frames) (suc q) past = words-past bodies calls frames q (omega arith)

-- a target that is no scheme has no place
pub no-place : (site i : ℕ) (target : GivenTarget) → ((scheme : Bor Scheme) (covered : Option ℕ) → target ≡ given.Scheme scheme covered → ⊥)
    → places_of site i (target_of target) ≡ []
no-place site i (given.Member q words) h = refl
no-place site i (given.Scheme scheme covered) h = absurd (h scheme covered refl)
no-place site i (given.Held register) h = refl
no-place site i given.Unknown h = refl

calls-here : (link : Call → Linked) → ((call : Call) → (link call).call ≡ call) → (here : List Call) → map (λ (linked : Linked). linked.call) (map link here) ≡ here
calls-here link e [] = refl
calls-here link e (x ∷ here) = ap (λ y. y ∷ map (λ (linked : Linked). linked.call) (map link here)) (e x) ∙ ap (λ ys. x ∷ ys) (calls-here link e here)

calls-all : (link : Call → Linked) → ((call : Call) → (link call).call ≡ call) → (calls : List (List Call))
    → map (λ (here : List Linked). map (λ (linked : Linked). linked.call) here) (map (λ (here : List Call). map link here) calls) ≡ calls
calls-all link e [] = refl
calls-all link e (x ∷ calls) =
    ap (λ y. y ∷ map (λ (here : List Linked). map (λ (linked : Linked). linked.call) here) (map (λ (here : List Call). map link here) calls)) (calls-here link e x)
    ∙ ap (λ ys. x ∷ ys) (calls-all link e calls)

-- the calls of all sites are those that are told
pub calls-told : (self : Given) → calls_of (context_of self) ≡ self.calls.now
calls-told self = calls-all (linked_call self.outside) (λ call. refl) self.calls.now

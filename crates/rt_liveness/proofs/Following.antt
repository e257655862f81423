-- What follows from rules, step by step.
use Rattle.std.proofs.Common.{◌≡◌, ℕ, ◌+◌, ◌<◌, ◌≤◌, ◌⊎◌, ◌↔◌, inl, inr, Bool, true, ◌==◌, ◌&&◌, List, [], ◌∷◌, ◌++◌, Contains, length, get_or, set, slice_get, Some, take, refl, sym, ap, subst, ◌∙◌, arith}
use Rattle.std.proofs.lemmas.Bool.{cases_eq, cases_lt, and_parts}
use Rattle.std.proofs.lemmas.Bool.Decides.{Decides-eqb}
use Rattle.std.proofs.lemmas.List.{get_or_append_left, get_or_past, get_or-set_same, get_or-set_other, take_more, take_all, take-append-le, length_push}
use Rattle.std.proofs.lemmas.List.Elements.{Contains-push_cases}
use Rattle.std.proofs.lemmas.Option.{slice_get_within, get_or_from_slice_get}
use Rattle.std.proofs.Math.Seq.{get_or-append_seam}
use Rattle.rt_liveness.specs.contracts.rule.WhenPartialEq.TheImpl as the_when
use Rattle.rt_liveness.specs.declared.rule.Port.{Port}
use Rattle.rt_liveness.specs.declared.rule.Rule.{Rule}
use Rattle.rt_liveness.specs.declared.rule.When.{When}
use Rattle.rt_liveness.specs.declared.rule.When.TheVariants.{Never, Always, If}
use Rattle.rt_liveness.specs.Inside.Additions.{Adds}
use Rattle.rt_liveness.specs.Inside.Closures.{port_eq, Says, IsSaid, IsPremise, Follows, rules_at}
use Rattle.rt_liveness.proofs.Adding.{found_at, kept, nothing, alike, pushed, inserted, from_none}
use Rattle.rt_base.proofs.Lists.{Contains-none}

port_of : (p q r s : ℕ) → p ≡ q → r ≡ s → let a : Port = record { procedure = p; register = r } in let b : Port = record { procedure = q; register = s } in a ≡ b
port_of p q r s e f = rw (e, f) refl

pub one_port : (a b : Port) → port_eq a b ≡ true → a ≡ b
one_port a b e =
    let both = and_parts (a.procedure == b.procedure) (a.register == b.register) e in
    port_of a.procedure b.procedure a.register b.register ((Decides-eqb _ _).0 both.0) ((Decides-eqb _ _).0 both.1)

abbrev pub when_eq : When → When → Bool
when_eq = (the_when.ghosts).eq

pub one_when : (w v : When) → when_eq w v ≡ true → w ≡ v
one_when Never Never e = refl
one_when Never Always e = cc
one_when Never (If q) e = cc
one_when Always Never e = cc
one_when Always Always e = refl
one_when Always (If q) e = cc
one_when (If p) Never e = cc
one_when (If p) Always e = cc
one_when (If p) (If q) e = ap If (one_port p q e)

rule_of : (w v : When) (p q : Port) → w ≡ v → p ≡ q → let r : Rule = record { when = w; port = p } in let s : Rule = record { when = v; port = q } in r ≡ s
rule_of w v p q f g = rw (f, g) refl

-- a rule that says when
pub noted : (rule : Rule) (when : When) (old new : List Port) → rule.when ≡ when → Adds old new (λ port. port ≡ rule.port) → Adds old new (Says when rule)
noted rule when old new is =
    alike old new (λ port. port ≡ rule.port) (Says when rule)
    (λ port. ((λ e. rule_of rule.when when rule.port port is (sym e)), λ h. sym (ap (λ (r : Rule). r.port) h)))

pub not_noted : (rule : Rule) (when : When) (old : List Port) → (rule.when ≡ when → ⊥) → Adds old old (Says when rule)
not_noted rule when old other = nothing old (Says when rule) (λ port h. other (ap (λ (r : Rule). r.when) h))

pub said : (rules : List Rule) (when : When) (port : Port) → ((rule : Rule) × Contains rules rule × Says when rule port) ↔ IsSaid rules when port
said rules when port = (
  (λ h. subst (Contains rules) h.2 h.1),
  λ h. (record { when = when; port = port }, h, refl),
)

-- the rules of each procedure after one was added
module _ (table : List (List Rule)) (premise : Port) (rule : Rule) (is_if : rule.when ≡ If premise) where
  has_premise : (p : ℕ) → p ≡ premise.procedure → IsPremise p rule
  has_premise p e = (premise, is_if, sym e)

  of_premise : (p : ℕ) → IsPremise p rule → p ≡ premise.procedure
  of_premise p (q, w, e) =
      let whens : If q ≡ If premise = sym w ∙ is_if in
      let ports : q ≡ premise = cc in
      sym e ∙ ap (λ (a : Port). a.procedure) ports

  module _ (rows new : List (List Rule)) (same : (p : ℕ) → rules_at rows p ≡ rules_at table p) (less : premise.procedure < length rows)
      (is : new ≡ set rows premise.procedure (rules_at rows premise.procedure ++ rule ∷ [])) where
    pub row_added : (p : ℕ) → Adds (rules_at table p) (rules_at new p) (λ other. (other ≡ rule) × IsPremise p rule)
    row_added p = by (cases_eq p premise.procedure)
      where
        row : List Rule
        row = rules_at rows premise.procedure ++ rule ∷ []

        by : (p ≡ premise.procedure) ⊎ (p ≡ premise.procedure → ⊥) → Adds (rules_at table p) (rules_at new p) (λ other. (other ≡ rule) × IsPremise p rule)
        by (inl e) =
            let whole : rules_at rows premise.procedure ++ rule ∷ [] ≡ rules_at table p ++ rule ∷ [] = ap (λ (rs : List Rule). rs ++ rule ∷ []) (same premise.procedure ∙ ap (rules_at table) (sym e)) in
            let there : rules_at (set rows premise.procedure (rules_at rows premise.procedure ++ rule ∷ [])) premise.procedure ≡ rules_at rows premise.procedure ++ rule ∷ [] =
            get_or-set_same rows premise.procedure (rules_at rows premise.procedure ++ rule ∷ []) [] less
            in
            let moved : rules_at (set rows premise.procedure (rules_at rows premise.procedure ++ rule ∷ [])) p ≡ rules_at (set rows premise.procedure (rules_at rows premise.procedure ++ rule ∷ [])) premise.procedure =
            ap (rules_at (set rows premise.procedure (rules_at rows premise.procedure ++ rule ∷ []))) e
            in
            let here : rules_at new p ≡ rules_at table p ++ rule ∷ [] = ap (λ (t : List (List Rule)). rules_at t p) is ∙ (moved ∙ (there ∙ whole)) in
            alike (rules_at table p) (rules_at new p) (λ other. other ≡ rule) (λ other. (other ≡ rule) × IsPremise p rule) (λ other. ((λ f. (f, has_premise p e)), λ h. h.0)) (pushed (rules_at table p) (rules_at new p) rule here)
        by (inr ne) =
            let here : rules_at new p ≡ rules_at table p = ap (λ (t : List (List Rule)). rules_at t p) is ∙ (get_or-set_other rows premise.procedure p (rules_at rows premise.procedure ++ rule ∷ []) [] ne ∙ same p) in
            subst (λ (rs : List Rule). Adds (rules_at table p) rs (λ other. (other ≡ rule) × IsPremise p rule)) (sym here)
            (nothing (rules_at table p) (λ other. (other ≡ rule) × IsPremise p rule) (λ other h. ne (of_premise p h.1)))

-- a rule without a premise is none's
pub no_row : (rows : List Rule) (rule : Rule) (p : ℕ) → ((premise : Port) → rule.when ≡ If premise → ⊥) → Adds rows rows (λ other. (other ≡ rule) × IsPremise p rule)
no_row rows rule p none = nothing rows (λ other. (other ≡ rule) × IsPremise p rule) (λ other h. none h.1.0 h.1.1)

-- an empty row at the end tells nothing
pub row_empty : (table new : List (List Rule)) (p : ℕ) → new ≡ table ++ [] ∷ [] → rules_at new p ≡ rules_at table p
row_empty table new p is = ap (λ (t : List (List Rule)). rules_at t p) is ∙ by (cases_lt p (length table))
  where
    at_end : (length table ≡ p) → rules_at (table ++ [] ∷ []) p ≡ []
    at_end e = ap (rules_at (table ++ [] ∷ [])) (sym e) ∙ get_or-append_seam table [] [] []

    past : (length table ≡ p) ⊎ (length table ≡ p → ⊥) → length table ≤ p → rules_at (table ++ [] ∷ []) p ≡ rules_at table p
    past (inl e) le = at_end e ∙ sym (get_or_past table p [] le)
    past (inr ne) le =
        let long : length (table ++ [] ∷ []) ≡ length table + 1 = length_push table [] in
        get_or_past (table ++ [] ∷ []) p [] (omega arith) ∙ sym (get_or_past table p [] le)

    by : (p < length table) ⊎ (length table ≤ p) → rules_at (table ++ [] ∷ []) p ≡ rules_at table p
    by (inl less) = get_or_append_left table ([] ∷ []) [] p less
    by (inr le) = past (cases_eq (length table) p) le

-- the rules of a table are those with the premise
pub by_premises : (rules : List Rule) (p : ℕ) (other : Rule) → ((rule : Rule) × Contains rules rule × ((other ≡ rule) × IsPremise p rule)) ↔ (Contains rules other × IsPremise p other)
by_premises rules p other = ((λ h. to h), λ h. (other, h.0, (refl, h.1)))
  where
    to : ((rule : Rule) × Contains rules rule × ((other ≡ rule) × IsPremise p rule)) → Contains rules other × IsPremise p other
    to (rule, there, (e, has)) = (subst (Contains rules) (sym e) there, subst (IsPremise p) (sym e) has)

-- rules with a premise, among those of the premise's procedure
pub same_said : (rules some : List Rule) (premise : Port) → ((rule : Rule) → Contains some rule ↔ (Contains rules rule × IsPremise premise.procedure rule)) → (port : Port) → IsSaid some (If premise) port ↔ IsSaid rules (If premise) port
same_said rules some premise same port =
    let rule : Rule = record { when = If premise; port = port } in
    ((λ h. ((same rule).0 h).0), λ h. (same rule).1 (h, (premise, refl, refl)))

-- what was found on the way: the first i of it were followed
pub record IsFollowing (rules : List Rule) (found : List Port) (i : ℕ) : Type 0 where
  pub follows : (port : Port) → Contains found port → Follows rules port
  pub facts : (port : Port) → IsSaid rules Always port → Contains found port
  pub closed : (premise port : Port) → Contains (take i found) premise → IsSaid rules (If premise) port → Contains found port

module _ (rules : List Rule) where
  pub begins : (found : List Port) → ((port : Port) → Contains found port ↔ IsSaid rules Always port) → IsFollowing rules found 0
  begins found same = record {
    follows = λ port h. Follows.fact ((same port).0 h);
    facts = λ port h. (same port).1 h;
    closed = λ premise port h is. absurd (Contains-none premise h);
  }

  pub goes_on : (found new : List Port) (i : ℕ) (premise : Port) → slice_get found i ≡ Some premise → Adds found new (IsSaid rules (If premise)) → IsFollowing rules found i → IsFollowing rules new (i + 1)
  goes_on found new i premise at adds following =
      let within : i < length found = slice_get_within found i premise at in
      let here : get_or found i premise ≡ premise = get_or_from_slice_get found i premise premise at in
      let last : Contains found premise = found_at found i premise at in
      let first : take (i + 1) new ≡ take i found ++ premise ∷ [] =
      ap (take (i + 1)) adds.front ∙ (take-append-le (i + 1) found adds.rest (omega arith) ∙ (take_more found i premise within ∙ ap (λ (p : Port). take i found ++ p ∷ []) here)) in
      record {
        follows = λ port h. elim (adds.only port h) [ inl old ↦ following.follows port old | inr is ↦ Follows.step (following.follows premise last) is ];
        facts = λ port h. kept found new (IsSaid rules (If premise)) adds port (following.facts port h);
        closed = λ p port h is. elim (Contains-push_cases (take i found) premise p (subst (λ (ports : List Port). Contains ports p) first h)) [
          | inl old ↦ kept found new (IsSaid rules (If premise)) adds port (following.closed p port old is)
          | inr e ↦ adds.added port (subst (λ (x : Port). IsSaid rules (If x) port) (sym e) is)
        ];
      }

  module _ (found : List Port) (i : ℕ) (whole : length found ≤ i) (following : IsFollowing rules found i) where
    all : (port : Port) → Follows rules port → Contains found port
    all port (Follows.fact h) = following.facts port h
    all port (Follows.step {premise} f is) = following.closed premise port (subst (λ (ports : List Port). Contains ports premise) (sym (take_all i found whole)) (all premise f)) is

    pub ends : (port : Port) → Contains found port ↔ Follows rules port
    ends port = (following.follows port, all port)

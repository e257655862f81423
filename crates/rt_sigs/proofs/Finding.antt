-- What is said of functions, found by name.
use Rattle.std.proofs.Common.{◌≡◌, ℕ, Bool, true, false, cond, Option, Some, None, List, [], ◌∷◌, ◌++◌, map, Contains, ◌⊎◌, inl, inr, refl, sym, ap, subst, ◌∙◌, nat_eq}
use lib.Pointwise.{pointwise}
use Rattle.std.specs.Map.{lookup}
use Rattle.std.specs.Option.{option_map}
use Rattle.std.specs.Str.{bytes_eq}
use Rattle.std.proofs.lemmas.List.{map-append}
use Rattle.std.proofs.lemmas.Cmp.{nat_list_eq_equiv}
use Rattle.std.proofs.lemmas.Slice.Eq.{bytes_eq-Decides}
use Rattle.rt_base.proofs.Lists.{Contains-none, Contains-here, Contains-there, Contains-cons_cases}
use Rattle.rt_sigs.specs.declared.prototype.Prototype.{Prototype}
use Rattle.rt_sigs.specs.Signatures.{Signature, HasNamed, HasScheme, args_of, prototype_of, returns_of, signature_of}

-- what a look-up of the name gives
abbrev IsFound : List Signature → List ℕ → Option Prototype → Type 0
IsFound signatures name None = HasNamed signatures name → ⊥
IsFound signatures name (Some prototype) = Contains signatures (name, prototype)

-- where the first has another name
other_name : (first : Signature) (signatures : List Signature) (name : List ℕ) (prototype : Prototype) → bytes_eq first.0 name ≡ false → Contains (first ∷ signatures) (name, prototype) → Contains signatures (name, prototype)
other_name first signatures name prototype other h = by (Contains-cons_cases first signatures (name, prototype) h)
  where
    by : (first ≡ (name, prototype)) ⊎ Contains signatures (name, prototype) → Contains signatures (name, prototype)
    by (inl same) = let like : bytes_eq first.0 name ≡ true = (bytes_eq-Decides first.0 name).1 (ap (λ (s : Signature). s.0) same) in cc
    by (inr there) = there

found_later : (first : Signature) (signatures : List Signature) (name : List ℕ) (o : Option Prototype) → bytes_eq first.0 name ≡ false → IsFound signatures name o → IsFound (first ∷ signatures) name o
found_later first signatures name None other none = λ h. none (h.0, other_name first signatures name h.0 other h.1)
found_later first signatures name (Some prototype) other there = Contains-there first signatures (name, prototype) there

found_here : (first : Signature) (signatures : List Signature) (name : List ℕ) → bytes_eq first.0 name ≡ true → Contains (first ∷ signatures) (name, first.1)
found_here first signatures name like =
    subst (λ n. Contains (first ∷ signatures) (n, first.1)) ((bytes_eq-Decides first.0 name).0 like) (Contains-here first signatures)

found_by : (b : Bool) (first : Signature) (signatures : List Signature) (name : List ℕ) (o : Option Prototype) → bytes_eq first.0 name ≡ b → IsFound signatures name o → IsFound (first ∷ signatures) name (cond b (Some first.1) o)
found_by true first signatures name o like h = found_here first signatures name like
found_by false first signatures name o other h = found_later first signatures name o other h

found : (signatures : List Signature) (name : List ℕ) → IsFound signatures name (prototype_of signatures name)
found [] name = λ h. Contains-none (name, h.0) h.1
found (s ∷ signatures) name = found_by (bytes_eq s.0 name) s signatures name (prototype_of signatures name) refl (found signatures name)

-- a look-up gives what the first signature of the name says
pub lookup-prototype : {K : Type 0} (bytes : K → List ℕ) (name : List ℕ) (entries : List (K × Prototype)) → lookup (λ k. bytes_eq name (bytes k)) entries ≡ prototype_of (map (λ e. (bytes e.0, e.1)) entries) name
lookup-prototype bytes name [] = refl
lookup-prototype bytes name (e ∷ entries) =
    let alike : bytes_eq name (bytes e.0) ≡ bytes_eq (bytes e.0) name = nat_list_eq_equiv.symm name (bytes e.0) in
    let rest : Option Prototype = prototype_of (map (λ e. (bytes e.0, e.1)) entries) name in
    ap (λ (o : Option Prototype). cond (bytes_eq name (bytes e.0)) (Some e.1) o) (lookup-prototype bytes name entries) ∙ ap (λ (b : Bool). cond b (Some e.1) rest) alike

-- a name that no signature has is not looked up
pub absent : (signatures : List Signature) (name : List ℕ) → (HasNamed signatures name → ⊥) → prototype_of signatures name ≡ None
absent signatures name none = by (prototype_of signatures name) (found signatures name)
  where
    by : (o : Option Prototype) → IsFound signatures name o → o ≡ None
    by None h = refl
    by (Some prototype) h = absurd (none (prototype, h))

-- What is found of the function of the name.

signature-prototype : (signatures : List Signature) (name : List ℕ) → signature_of signatures name ≡ option_map (λ (p : Prototype). p.scheme) (prototype_of signatures name)
signature-prototype [] name = refl
signature-prototype ((other, p) ∷ signatures) name = by (pointwise nat_eq other name) (signature-prototype signatures name)
  where
    by : (b : Bool) → signature_of signatures name ≡ option_map (λ (q : Prototype). q.scheme) (prototype_of signatures name)
        → cond b (Some p.scheme) (signature_of signatures name) ≡ option_map (λ (q : Prototype). q.scheme) (cond b (Some p) (prototype_of signatures name))
    by true rest = refl
    by false rest = rest

abbrev returns_in : Option Prototype → Bool
returns_in None = true
returns_in (Some p) = p.returns

returns-prototype : (signatures : List Signature) (name : List ℕ) → returns_of signatures name ≡ returns_in (prototype_of signatures name)
returns-prototype [] name = refl
returns-prototype ((other, p) ∷ signatures) name = by (pointwise nat_eq other name) (returns-prototype signatures name)
  where
    by : (b : Bool) → returns_of signatures name ≡ returns_in (prototype_of signatures name) → cond b p.returns (returns_of signatures name) ≡ returns_in (cond b (Some p) (prototype_of signatures name))
    by true rest = refl
    by false rest = rest

abbrev args_in : Option Prototype → Option ℕ
args_in None = None
args_in (Some p) = p.args

args-prototype : (signatures : List Signature) (name : List ℕ) → args_of signatures name ≡ args_in (prototype_of signatures name)
args-prototype [] name = refl
args-prototype ((other, p) ∷ signatures) name = by (pointwise nat_eq other name) (args-prototype signatures name)
  where
    by : (b : Bool) → args_of signatures name ≡ args_in (prototype_of signatures name) → cond b p.args (args_of signatures name) ≡ args_in (cond b (Some p) (prototype_of signatures name))
    by true rest = refl
    by false rest = rest

module _ (signatures : List Signature) (name : List ℕ) where
  pub scheme-some : (p : Prototype) → Some p ≡ prototype_of signatures name → Some p.scheme ≡ signature_of signatures name
  scheme-some p e = ap (option_map (λ (q : Prototype). q.scheme)) e ∙ sym (signature-prototype signatures name)

  pub scheme-none : None ≡ prototype_of signatures name → None ≡ signature_of signatures name
  scheme-none e = ap (option_map (λ (q : Prototype). q.scheme)) e ∙ sym (signature-prototype signatures name)

  pub found-some : (p : Prototype) → Some p ≡ prototype_of signatures name → HasScheme signatures name p.scheme
  found-some p e = (p, subst (IsFound signatures name) (sym e) (found signatures name), refl)

  pub found-none : None ≡ prototype_of signatures name → HasNamed signatures name → ⊥
  found-none e = subst (IsFound signatures name) (sym e) (found signatures name)

  pub returns-some : (p : Prototype) → Some p ≡ prototype_of signatures name → p.returns ≡ returns_of signatures name
  returns-some p e = ap returns_in e ∙ sym (returns-prototype signatures name)

  pub returns-none : None ≡ prototype_of signatures name → true ≡ returns_of signatures name
  returns-none e = ap returns_in e ∙ sym (returns-prototype signatures name)

  pub args-some : (p : Prototype) → Some p ≡ prototype_of signatures name → p.args ≡ args_of signatures name
  args-some p e = ap args_in e ∙ sym (args-prototype signatures name)

  pub args-none : None ≡ prototype_of signatures name → None ≡ args_of signatures name
  args-none e = ap args_in e ∙ sym (args-prototype signatures name)

-- one entry more
pub view-push : {K : Type 0} (bytes : K → List ℕ) (old new : List (K × Prototype)) (key : K) (prototype : Prototype) → new ≡ old ++ (key, prototype) ∷ [] → map {B = Signature} (λ e. (bytes e.0, e.1)) new ≡ map {B = Signature} (λ e. (bytes e.0, e.1)) old ++ (bytes key, prototype) ∷ []
view-push bytes old new key prototype e = ap (map {B = Signature} (λ e. (bytes e.0, e.1))) e ∙ map-append {B = Signature} (λ e. (bytes e.0, e.1)) old ((key, prototype) ∷ [])

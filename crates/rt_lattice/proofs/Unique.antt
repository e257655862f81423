-- A text has one first fault, or says a lattice.
use Rattle.std.proofs.Common.{◌≡◌, ◌≢◌, ℕ, ◌⊎◌, inl, inr, true, false, Option, Some, None, option_map, unwrap_or, IsSomeAnd, Result, Ok, Err, IfOk, IfErr, OnOk, List, length, refl, ap, sym, ◌∙◌, subst, arith}
use Rattle.std.proofs.lemmas.Bool.{cases_lt, cases_eq}
use Rattle.std.proofs.lemmas.Option.{same_Some}
use Rattle.toml.specs.Data.{Members}
use Rattle.rt_lines.specs.Names.{HasName}
use Rattle.rt_lattice.specs.declared.fault.LatFault.{LatFault}
use Rattle.rt_lattice.specs.declared.fault.LatFault.TheVariants.{Unknown, Cycle, NoJoin, NoRole, Memory}
use Rattle.rt_lattice.specs.declared.file.File.{File}
use Rattle.rt_lattice.specs.Bounds.{IsAntisymmetric, IsFirstOnCycle, IsFirstWithoutJoin, Precedes, HasNoCycle, HasJoins}
use Rattle.rt_lattice.specs.Files.{IsTable, SaysFile}
use Rattle.rt_lattice.specs.Faults.{IsOnCycle, HaveNoJoin, IsOrderFault, is_cycle, is_no_top, is_no_bottom, is_no_join, HasNoOrderFault, IsFileFault, is_unknown, is_of_order, is_no_role, IsFirstFault, is_too_long, is_not_toml, is_of_form, is_of_file, IsLatticeIn, form_fault}
use Rattle.rt_lattice.specs.Closures.{IsUnderIn, unknown_name, role_text, has_role, missing_role, IsRoleOf}
use Rattle.rt_lattice.specs.declared.role.Role.{Role}
use Rattle.rt_lattice.specs.declared.role.Role.TheVariants.{Num32, Sint32, Uint32, Sint16, Uint16, Sint8, Uint8, Bool, Code}
use Rattle.rt_lattice.specs.Spelling.{has_name}
use Rattle.rt_lattice.specs.Lattices.{NamedOrder, IsLatticeOf}
use Rattle.rt_lattice.proofs.Faulty.{is_memory}
use Rattle.rt_lattice.proofs.Known.{has_name-found}

one_first : (R : ℕ → ℕ → Type 0) (n a b : ℕ) → IsFirstOnCycle R n a → IsFirstOnCycle R n b → a ≡ b
one_first R n a b p q =
    elim (cases_lt a b) [
      | inl less ↦ absurd (q.first a less p.partner)
      | inr more ↦
          elim (cases_eq a b) [
            | inl same ↦ same
            | inr other ↦ absurd (p.first b (omega arith) q.partner)
          ]
    ]

one_name : (names : List (List ℕ)) (a b : ℕ) (s t : List ℕ) → HasName names a s → HasName names b t → a ≡ b → s ≡ t
one_name names a b s t p q same = sym p.named ∙ rw same q.named

on_one_cycle : (R : ℕ → ℕ → Type 0) (names : List (List ℕ)) (s t : List ℕ) → IsOnCycle R names s → IsOnCycle R names t → s ≡ t
on_one_cycle R names s t p q = one_name names p.number q.number s t p.named q.named (one_first R (length names) p.number q.number p.cycle q.cycle)

-- of two pairs that differ, one comes before the other
either_first : (a b p q : ℕ) → ((a ≡ p) × (b ≡ q)) ⊎ (Precedes a b p q ⊎ Precedes p q a b)
either_first a b p q =
    elim (cases_lt a p) [
      | inl less ↦ inr (inl (inl less))
      | inr more ↦
          elim (cases_eq a p) [
            | inr other ↦ inr (inr (inl (omega arith)))
            | inl same ↦
                elim (cases_lt b q) [
                  | inl less ↦ inr (inl (inr (same, less)))
                  | inr above ↦
                      elim (cases_eq b q) [
                        | inl equal ↦ inl (same, equal)
                        | inr apart ↦ inr (inr (inr (sym same, omega arith)))
                      ]
                ]
          ]
    ]

one_pair : (R : ℕ → ℕ → Type 0) (n a b p q : ℕ) → IsFirstWithoutJoin R n a b → IsFirstWithoutJoin R n p q → (a ≡ p) × (b ≡ q)
one_pair R n a b p q v w =
    elim (either_first a b p q) [
      | inl same ↦ same
      | inr other ↦
          elim other [
            | inl before ↦ absurd (v.none (w.first a b v.earlier v.within before))
            | inr before ↦ absurd (w.none (v.first p q w.earlier w.within before))
          ]
    ]

on_one_pair : (R : ℕ → ℕ → Type 0) (names : List (List ℕ)) (s t u v : List ℕ) → HaveNoJoin R names s t → HaveNoJoin R names u v → NoJoin s t ≡ NoJoin u v
on_one_pair R names s t u v p q =
    let same = one_pair R (length names) p.a p.b q.a q.b p.pair q.pair in
    let first : s ≡ u = one_name names p.a q.a s u p.first_named q.first_named same.0 in
    let second : t ≡ v = one_name names p.b q.b t v p.second_named q.second_named same.1 in
    cc

no_cycle_here : (R : ℕ → ℕ → Type 0) (names : List (List ℕ)) (s : List ℕ) → IsOnCycle R names s → HasNoCycle R (length names) → ⊥
no_cycle_here R names s p none = none p.number p.cycle.within p.cycle.partner

joins_here : (R : ℕ → ℕ → Type 0) (names : List (List ℕ)) (s t : List ℕ) → HaveNoJoin R names s t → HasJoins R (length names) → ⊥
joins_here R names s t p joins = let w = p.pair in w.none (joins p.a p.b (omega (arith, w.earlier, w.within)) w.within)

one_order_fault : (R : ℕ → ℕ → Type 0) (names : List (List ℕ)) (f g : LatFault) → IsOrderFault R names f → IsOrderFault R names g → f ≡ g
one_order_fault R names _ _ (is_cycle s p) (is_cycle t q) = ap Cycle (on_one_cycle R names s t p q)
one_order_fault R names _ _ (is_cycle s p) (is_no_top none q) = absurd (no_cycle_here R names s p none)
one_order_fault R names _ _ (is_cycle s p) (is_no_bottom none top q) = absurd (no_cycle_here R names s p none)
one_order_fault R names _ _ (is_cycle s p) (is_no_join u v none top bottom q) = absurd (no_cycle_here R names s p none)
one_order_fault R names _ _ (is_no_top none p) (is_cycle t q) = absurd (no_cycle_here R names t q none)
one_order_fault R names _ _ (is_no_top none p) (is_no_top also q) = refl
one_order_fault R names _ _ (is_no_top none p) (is_no_bottom also top q) = absurd (p top)
one_order_fault R names _ _ (is_no_top none p) (is_no_join u v also top bottom q) = absurd (p top)
one_order_fault R names _ _ (is_no_bottom none top p) (is_cycle t q) = absurd (no_cycle_here R names t q none)
one_order_fault R names _ _ (is_no_bottom none top p) (is_no_top also q) = absurd (q top)
one_order_fault R names _ _ (is_no_bottom none top p) (is_no_bottom also up q) = refl
one_order_fault R names _ _ (is_no_bottom none top p) (is_no_join u v also up bottom q) = absurd (p bottom)
one_order_fault R names _ _ (is_no_join s t none top bottom p) (is_cycle u q) = absurd (no_cycle_here R names u q none)
one_order_fault R names _ _ (is_no_join s t none top bottom p) (is_no_top also q) = absurd (q top)
one_order_fault R names _ _ (is_no_join s t none top bottom p) (is_no_bottom also up q) = absurd (q bottom)
one_order_fault R names _ _ (is_no_join s t none top bottom p) (is_no_join u v also up down q) = on_one_pair R names s t u v p q

no_order_fault : (R : ℕ → ℕ → Type 0) (names : List (List ℕ)) (f : LatFault) → HasNoOrderFault R (length names) → IsOrderFault R names f → ⊥
no_order_fault R names _ none (is_cycle s p) = no_cycle_here R names s p none.no_cycle
no_order_fault R names _ none (is_no_top also p) = p none.top
no_order_fault R names _ none (is_no_bottom also top p) = p none.bottom
no_order_fault R names _ none (is_no_join s t also top bottom p) = joins_here R names s t p none.joins

one_file_fault : (file : File) (f g : LatFault) → IsFileFault file f → IsFileFault file g → f ≡ g
one_file_fault file _ _ (is_unknown s p) (is_unknown t q) = ap Unknown (same_Some _ _ (sym p ∙ q))
one_file_fault file _ _ (is_unknown s p) (is_of_order g known q) = cc
one_file_fault file _ _ (is_unknown s p) (is_no_role r known none q) = cc
one_file_fault file _ _ (is_of_order f known p) (is_unknown t q) = cc
one_file_fault file _ _ (is_of_order f known p) (is_of_order g also q) = one_order_fault _ file.names f g p q
one_file_fault file _ _ (is_of_order f known p) (is_no_role r also none q) = absurd (no_order_fault _ file.names f none p)
one_file_fault file _ _ (is_no_role r known none p) (is_unknown t q) = cc
one_file_fault file _ _ (is_no_role r known none p) (is_of_order g also q) = absurd (no_order_fault _ file.names g none q)
one_file_fault file _ _ (is_no_role r known none p) (is_no_role s also nil q) = ap NoRole (same_Some _ _ (sym p ∙ q))

pub one_table : (text : List ℕ) (m n : Members) → IsTable text m → IsTable text n → m ≡ n
one_table text m n p q = same_Some _ _ (sym p.parsed ∙ q.parsed)

pub one_file : (m : Members) (f g : File) → SaysFile m f → SaysFile m g → f ≡ g
one_file m f g p q =
    let names : f.names ≡ g.names = same_Some _ _ (sym p.names ∙ q.names) in
    let below : f.below ≡ g.below = same_Some _ _ (sym p.below ∙ q.below) in
    let roles : f.roles ≡ g.roles = same_Some _ _ (sym p.roles ∙ q.roles) in
    λ i. record { names = names i; below = below i; roles = roles i }

form_in : (m n : Members) → m ≡ n → form_fault m ≡ form_fault n
form_in m n same = ap form_fault same

pub file_in : (m n : Members) (f g : File) → m ≡ n → SaysFile m f → SaysFile n g → f ≡ g
file_in m n f g same p q = one_file n f g (subst (λ x. SaysFile x f) same p) q

-- a text has one first fault
pub one_fault : (text : List ℕ) (f g : LatFault) → IsFirstFault text f → IsFirstFault text g → f ≡ g
one_fault text _ _ (is_too_long p) (is_too_long q) = refl
one_fault text _ _ (is_too_long p) (is_not_toml short q) = absurd (omega arith)
one_fault text _ _ (is_too_long p) (is_of_form n g table q) = absurd (omega (arith, table.short))
one_fault text _ _ (is_too_long p) (is_of_file n file g table form says q) = absurd (omega (arith, table.short))
one_fault text _ _ (is_not_toml short p) (is_too_long q) = absurd (omega arith)
one_fault text _ _ (is_not_toml short p) (is_not_toml also q) = refl
one_fault text _ _ (is_not_toml short p) (is_of_form n g table q) = absurd (p n table)
one_fault text _ _ (is_not_toml short p) (is_of_file n file g table form says q) = absurd (p n table)
one_fault text _ _ (is_of_form m f table p) (is_too_long q) = absurd (omega (arith, table.short))
one_fault text _ _ (is_of_form m f table p) (is_not_toml short q) = absurd (q m table)
one_fault text _ _ (is_of_form m f table p) (is_of_form n g also q) = let e = form_in m n (one_table text m n table also) in cc
one_fault text _ _ (is_of_form m f table p) (is_of_file n file g also form says q) = let e = form_in m n (one_table text m n table also) in cc
one_fault text _ _ (is_of_file m file f table form says p) (is_too_long q) = absurd (omega (arith, table.short))
one_fault text _ _ (is_of_file m file f table form says p) (is_not_toml short q) = absurd (q m table)
one_fault text _ _ (is_of_file m file f table form says p) (is_of_form n g also q) = let e = form_in m n (one_table text m n table also) in cc
one_fault text _ _ (is_of_file m file f table form says p) (is_of_file n other g also right tells q) =
    let same : file ≡ other = file_in m n file other (one_table text m n table also) says tells in
    one_file_fault other f g (subst (λ x. IsFileFault x f) same p) q

pub no_file_fault : (file : File) (f : LatFault) → unknown_name file ≡ None → HasNoOrderFault (IsUnderIn file) (length file.names) → missing_role file ≡ None → IsFileFault file f → ⊥
no_file_fault file _ known none has (is_unknown s p) = cc
no_file_fault file _ known none has (is_of_order f also p) = no_order_fault (IsUnderIn file) file.names f none p
no_file_fault file _ known none has (is_no_role r also nil p) = cc

no_cycle_from : (R : ℕ → ℕ → Type 0) (n : ℕ) → IsAntisymmetric R n → HasNoCycle R n
no_cycle_from R n anti a h p = p.other (anti a p.partner h p.within p.above p.below)

-- a role with a name has one
told_role : (file : File) (text : Option (List ℕ)) (number : ℕ) → IsSomeAnd text (HasName file.names number) → unwrap_or (option_map (has_name file.names) text) false ≡ true
told_role file None number h = absurd h
told_role file (Some name) number h = has_name-found file.names number name h

no_missing : (file : File) → ((role : Role) → (number : ℕ) × IsRoleOf file role number) → missing_role file ≡ None
no_missing file roles =
    let has : (role : Role) → has_role file role ≡ true = λ role. told_role file (role_text file.roles role) (roles role).0 (roles role).1 in
    rw (has Num32, has Sint32, has Uint32, has Sint16, has Uint16, has Sint8, has Uint8, has Bool, has Code) refl

-- a text that says a lattice has none
pub no_fault : (text : List ℕ) (lattice : NamedOrder) (f : LatFault) → IsLatticeIn text lattice → IsFirstFault text f → ⊥
no_fault text lattice _ says (is_too_long p) = omega (arith, says.is_table.short)
no_fault text lattice _ says (is_not_toml short p) = p says.table says.is_table
no_fault text lattice _ says (is_of_form n g table q) = let e = form_in says.table n (one_table text says.table n says.is_table table) in let g = says.form in cc
no_fault text lattice _ says (is_of_file n file f table form tells p) =
    let same : file ≡ says.file = file_in n says.table file says.file (one_table text n says.table table says.is_table) tells says.says in
    let are = says.says_lattice.are_lattice in
    no_file_fault says.file f says.known
    (record { no_cycle = no_cycle_from (IsUnderIn says.file) (length says.file.names) are.antisymmetric; top = are.top; bottom = are.bottom; joins = are.joins })
    (no_missing says.file are.roles) (subst (λ x. IsFileFault x f) same p)

-- an error is the one first fault, or out of memory
pub exact_error : (text : List ℕ) (result : Result NamedOrder LatFault) (f g : LatFault) → result ≡ Err f → (f ≢ Memory → IsFirstFault text f) → IsFirstFault text g
    → (result ≡ Err g) ⊎ (result ≡ Err Memory)
exact_error text result f g is may p =
    elim (is_memory f) [
      | inl memory ↦ inr (is ∙ ap Err memory)
      | inr other ↦ inl (is ∙ ap Err (one_fault text f g (may other) p))
    ]

pub exact : (text : List ℕ) (result : Result NamedOrder LatFault) (g : LatFault) → IfOk result (IsLatticeIn text) → IfErr result (λ f. f ≢ Memory → IsFirstFault text f) → IsFirstFault text g
    → (result ≡ Err g) ⊎ (result ≡ Err Memory)
exact text (Ok lattice) g says may p = absurd (no_fault text lattice g says p)
exact text (Err f) g says may p = exact_error text (Err f) f g refl may p

-- what the lattice of a file is in its text
pub lattice_in : (text : List ℕ) (table : Members) (file : File) (result : Result NamedOrder LatFault) → IsTable text table → form_fault table ≡ None → SaysFile table file
    → OnOk result (unknown_name file ≡ None) → IfOk result (IsLatticeOf file) → IfOk result (IsLatticeIn text)
lattice_in text table file (Ok lattice) is form says known h =
    record { table = table; file = file; is_table = is; form = form; says = says; known = known; says_lattice = h }
lattice_in text table file (Err f) is form says known h = tt

pub fault_in : (text : List ℕ) (table : Members) (file : File) (result : Result NamedOrder LatFault) → IsTable text table → form_fault table ≡ None → SaysFile table file
    → IfErr result (λ f. f ≢ Memory → IsFileFault file f) → IfErr result (λ f. f ≢ Memory → IsFirstFault text f)
fault_in text table file (Ok lattice) is form says h = tt
fault_in text table file (Err f) is form says h = λ m. is_of_file table file f is form says (h m)

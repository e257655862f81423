-- The globals that the rows of a procedure name are symbols of its object.
use Rattle.std.proofs.Common.{◌≡◌, ◌≢◌, ◌<◌, ◌≤◌, ◌+◌, ◌⊎◌, inl, inr, ℕ, ℤ, pos, Bool, true, false, cond, not, nat_eq, zero, suc, Option, Some, None, List, [], ◌∷◌, length, get_or, map, refl, sym, ap, subst, ◌∙◌, arith}
use Rattle.std.specs.Prelude.{All, Contains, IfSome, ◌&&◌}
use Rattle.std.specs.List.{position_or_len}
use Rattle.std.specs.Int.{cast_signed, w32}
use Rattle.std.proofs.lemmas.Bool.{cases_lt}
use Rattle.std.proofs.lemmas.Bool.Decides.{nat_tests}
use Rattle.std.proofs.lemmas.List.{get_or_past}
use Rattle.std.proofs.lemmas.List.Elements.{All-map, Contains-get_or}
use Rattle.rt_elf.specs.Parts.{Parts as Object}
use Rattle.rt_elf.specs.declared.symbol.Symbol.{Symbol}
use Rattle.rt_elf.specs.Object.{IsLinkable}
use Rattle.rt_elf.specs.Symbols.{zero_symbol}
use Rattle.rt_insn.specs.declared.insn.Insn.{Insn}
use Rattle.rt_insn.specs.declared.insn.Insn.TheVariants as insn
use Rattle.rt_link.specs.declared.link.Link.{Link}
use Rattle.rt_link.specs.declared.link.Link.TheVariants as link
use Rattle.rt_link.specs.Effects.{link_at}
use Rattle.rt_link.specs.Laws.{IsLawOfSymbols, symbol_of as link_symbol}
use Rattle.rt_proc.specs.declared.proc.Proc.{Proc}
use Rattle.rt_proc.specs.declared.site.Kind.{Kind}
use Rattle.rt_proc.specs.declared.site.Kind.TheVariants as kind
use Rattle.rt_proc.specs.declared.site.Site.{Site}
use Rattle.rt_proc.specs.Entries.{has_no_section}
use Rattle.rt_flow.specs.declared.def.Def.{Def}
use Rattle.rt_flow.specs.declared.def.Def.TheVariants as def
use Rattle.rt_flow.specs.Bodies.{Body, Reaches}
use Rattle.rt_track.specs.declared.op.Op.{Op}
use Rattle.rt_track.specs.declared.op.Op.TheVariants as op
use Rattle.rt_track.specs.declared.value.Value.{Value}
use Rattle.rt_track.specs.declared.value.Value.TheVariants as value
use Rattle.rt_track.specs.Candidates.{Node, Use, Definition, IsCandidate, IsSole, IsValue, entry_value, of_zero, of_reaching, of_entry, of_own, of_const, of_sym, of_add_i, of_add, of_several}
use Rattle.rt_track.specs.Values.{onto, plus, sum}
use Rattle.rt_body.specs.declared.action.Action.{Action}
use Rattle.rt_body.specs.declared.action.Action.TheVariants as action
use Rattle.rt_body.specs.declared.action.Address.{Address}
use Rattle.rt_body.specs.declared.action.Address.TheVariants as address
use Rattle.rt_body.specs.Actions.{actions_of, add_action, address_by, defined_by, insn_action, kind_action, op_of, site_action, upper_action}
use Rattle.rt_body.specs.Readings.{Reading, action_at, definitions_from, op_at, register_body}
use Rattle.rt_body.specs.Registers.{HasRegisters}
use Rattle.rt_body.specs.Right.{IsReading}
use Rattle.rt_body.specs.Symbols.{lowest, stands_with, symbol_of}
use Rattle.rt_body.proofs.Numbering.{IsBy, defined_at}
use Rattle.rt_frame.specs.Questions.{def_value}
use Rattle.rt_table.proofs.Sound.{HasGlobal, HasGlobalIn, HasGlobals, global-plus}

-- The lowest symbol at a place.

first_within : {X : Type 0} (p : X → Bool) (xs : List X) (i : ℕ) (d : X) → i < length xs → p (get_or xs i d) ≡ true → position_or_len p xs < length xs
first_within p [] i d less e = absurd (omega arith)
first_within p (x ∷ xs) zero d less e = subst (λ b. cond (not b) (1 + position_or_len p xs) 0 < suc (length xs)) (sym e) (omega arith)
first_within p (x ∷ xs) (suc i) d less e =
    let rest : position_or_len p xs < length xs = first_within p xs i d (omega arith) e in
    elim (p x) as (λ b. cond (not b) (1 + position_or_len p xs) 0 < suc (length xs)) [ true ↦ omega arith | false ↦ omega arith ]

stands_itself : (s : Symbol) → stands_with s s ≡ true
stands_itself s = grind (arith, nat_tests)

lowest_within : (object : Object) (index : ℕ) → index < length object.symbols → lowest object index < length object.symbols
lowest_within object index less =
    elim (has_no_section (symbol_of object index)) as (λ b. cond b index (position_or_len (stands_with (symbol_of object index)) object.symbols) < length object.symbols)
    [ true ↦ less | false ↦ first_within (stands_with (symbol_of object index)) object.symbols index zero_symbol less (stands_itself (symbol_of object index)) ]

-- Actions.

-- an operation gives the address of one of so many symbols, if of any
abbrev IsOp : ℕ → Op → Type 0
IsOp n (op.Sym g a) = g < n
IsOp n other = Unit {0}

-- an action speaks of so many symbols alone
record SpeaksOf (n : ℕ) (act : Action) : Type 0 where
  globals : HasGlobals (λ g. g < n) act
  op : IsOp n (op_of act)

-- a link is about one of so many symbols
abbrev IsAbout : ℕ → Option Link → Type 0
IsAbout n l = IfSome l (λ x. link_symbol x < n)

module _ (at : ℕ → ℕ) (n : ℕ) (keeps : (i : ℕ) → i < n → at i < n) where
  address_good : (l : Option Link) (from : ℕ) (k : ℤ) → IsAbout n l → HasGlobalIn (λ g. g < n) (address_by at l from k)
  address_good None from k h = tt
  address_good (Some (link.Target s a)) from k h = tt
  address_good (Some (link.Pair s a)) from k h = tt
  address_good (Some (link.High s a)) from k h = tt
  address_good (Some (link.Low s a)) from k h = keeps s h

  upper_good : (l : Option Link) (to : ℕ) (k : ℤ) → SpeaksOf n (upper_action l to k)
  upper_good None to k = record { globals = tt; op = tt }
  upper_good (Some (link.Target s a)) to k = record { globals = tt; op = tt }
  upper_good (Some (link.Pair s a)) to k = record { globals = tt; op = tt }
  upper_good (Some (link.High s a)) to k = record { globals = tt; op = tt }
  upper_good (Some (link.Low s a)) to k = record { globals = tt; op = tt }

  add_good : (l : Option Link) (to from : ℕ) (k : ℤ) → IsAbout n l → SpeaksOf n (add_action at l to from k)
  add_good None to from k h = record { globals = tt; op = tt }
  add_good (Some (link.Target s a)) to from k h = record { globals = tt; op = tt }
  add_good (Some (link.Pair s a)) to from k h = record { globals = tt; op = tt }
  add_good (Some (link.High s a)) to from k h = record { globals = tt; op = tt }
  add_good (Some (link.Low s a)) to from k h = record { globals = tt; op = keeps s h }

  insn_good : (l : Option Link) (i : Insn) → IsAbout n l → SpeaksOf n (insn_action at l i)
  unfolding insn_action
  insn_good l (insn.Lui rd k) h = upper_good l rd k
  insn_good l (insn.Addi rd rs1 k) h = add_good l rd rs1 k h
  insn_good l (insn.Lb rd rs1 k) h = record { globals = address_good l rs1 k h; op = tt }
  insn_good l (insn.Lh rd rs1 k) h = record { globals = address_good l rs1 k h; op = tt }
  insn_good l (insn.Lw rd rs1 k) h = record { globals = address_good l rs1 k h; op = tt }
  insn_good l (insn.Lbu rd rs1 k) h = record { globals = address_good l rs1 k h; op = tt }
  insn_good l (insn.Lhu rd rs1 k) h = record { globals = address_good l rs1 k h; op = tt }
  insn_good l (insn.Sb rs1 rs2 k) h = record { globals = address_good l rs1 k h; op = tt }
  insn_good l (insn.Sh rs1 rs2 k) h = record { globals = address_good l rs1 k h; op = tt }
  insn_good l (insn.Sw rs1 rs2 k) h = record { globals = address_good l rs1 k h; op = tt }
  insn_good l other h = record { globals = tt; op = tt }

  kind_good : (l : Option Link) (k : Kind) → IsAbout n l → SpeaksOf n (kind_action at l k)
  kind_good l (kind.Plain i) h = insn_good l i h
  kind_good l (kind.Call callee register) h = record { globals = tt; op = tt }
  kind_good l kind.Return h = record { globals = tt; op = tt }
  kind_good l kind.Stop h = record { globals = tt; op = tt }

-- the actions of a procedure speak of the object's symbols
actions_good : (object : Object) (proc : Proc) → IsLinkable object → IsLawOfSymbols → All (SpeaksOf (length object.symbols)) (actions_of object proc)
actions_good object proc linkable law =
    All-map (SpeaksOf (length object.symbols)) (site_action object) proc.sites
    (λ k d less. let site = get_or proc.sites k d in
    kind_good (lowest object) (length object.symbols) (lowest_within object) (link_at object site.place) site.kind (law object site.place linkable))

-- Values.

global-onto : (G : ℕ → Type 0) (site r : ℕ) (v w : Value) → HasGlobal G v → HasGlobal G w → HasGlobal G (onto site r v w)
global-onto G site r v (value.Const n) h k = global-plus G v (cast_signed w32 n) h
global-onto G site r v value.Multi h k = tt
global-onto G site r v (value.Sym g offset) h k = tt
global-onto G site r v (value.Frame offset) h k = tt
global-onto G site r v (value.Entry q offset) h k = tt
global-onto G site r v (value.At s q offset) h k = tt

global-sum : (G : ℕ → Type 0) (site r : ℕ) (v w : Value) → HasGlobal G v → HasGlobal G w → HasGlobal G (sum site r v w)
global-sum G site r (value.Const n) w h k = global-plus G w (cast_signed w32 n) k
global-sum G site r value.Multi w h k = tt
global-sum G site r (value.Sym g offset) w h k = global-onto G site r (value.Sym g offset) w h k
global-sum G site r (value.Frame offset) w h k = global-onto G site r (value.Frame offset) w h k
global-sum G site r (value.Entry q offset) w h k = global-onto G site r (value.Entry q offset) w h k
global-sum G site r (value.At s q offset) w h k = global-onto G site r (value.At s q offset) w h k

global-entry : (G : ℕ → Type 0) (r : ℕ) → HasGlobal G (entry_value r)
global-entry G r = elim (nat_eq r 2) as (λ b. HasGlobal G (cond b (value.Frame (pos 0)) (value.Entry r (pos 0)))) [ true ↦ tt | false ↦ tt ]

candidate_good : (n : ℕ) (body : Body) (ops : ℕ → ℕ → Op) → ((s r : ℕ) → IsOp n (ops s r)) → (node : Node) (v : Value) → IsCandidate body ops node v → HasGlobal (λ g. g < n) v
candidate_good n body ops good node v of_zero = tt
candidate_good n body ops good node v (of_reaching some reaches c) = candidate_good n body ops good _ v c
candidate_good n body ops good node v (of_entry {r}) = global-entry (λ g. g < n) r
candidate_good n body ops good node v (of_own e) = tt
candidate_good n body ops good node v (of_const e) = tt
candidate_good n body ops good node v (of_sym {s} {r} e) = subst (IsOp n) e (good s r)
candidate_good n body ops good node v (of_add_i {k = k} {v = w} e c) = global-plus (λ g. g < n) w k (candidate_good n body ops good _ w c)
candidate_good n body ops good node v (of_add {s} {r} {v = x} {w = y} e c d) = global-sum (λ g. g < n) s r x y (candidate_good n body ops good _ x c) (candidate_good n body ops good _ y d)
candidate_good n body ops good node v (of_several c d e) = tt

value_good : (n : ℕ) (body : Body) (ops : ℕ → ℕ → Op) → ((s r : ℕ) → IsOp n (ops s r)) → (node : Node) (v : Value) → IsValue (IsCandidate body ops node) v → HasGlobal (λ g. g < n) v
value_good n body ops good node v h = by h.else_multi
  where
    by : IsSole (IsCandidate body ops node) v ⊎ (v ≡ value.Multi) → HasGlobal (λ g. g < n) v
    by (inl sole) = candidate_good n body ops good node v sole.candidate
    by (inr e) = subst (HasGlobal (λ g. g < n)) (sym e) tt

-- Readings.

module _ (object : Object) (proc : Proc) (reading : Reading) (is : IsReading object proc reading) (linkable : IsLinkable object) (law : IsLawOfSymbols) where
  speak : All (SpeaksOf (length object.symbols)) reading.actions
  speak = subst (All (SpeaksOf (length object.symbols))) (sym is.actions) (actions_good object proc linkable law)

  ops_good : (s r : ℕ) → IsOp (length object.symbols) (op_at reading.actions s r)
  ops_good s r = by (cases_lt s (length reading.actions))
    where
      by : (s < length reading.actions) ⊎ (length reading.actions ≤ s) → IsOp (length object.symbols) (op_at reading.actions s r)
      by (inl i) = (speak s action.Pass i).op
      by (inr i) = subst (λ act. IsOp (length object.symbols) (op_of act)) (sym (get_or_past reading.actions s action.Pass i)) tt

  -- what sites speak of, what registers hold, and what definitions give
  pub reading-addresses : All (HasGlobals (λ g. g < length object.symbols)) reading.actions
  reading-addresses k d less = (speak k d less).globals

  pub reading-uses : (site r : ℕ) → site < length reading.actions → r < 32 → HasGlobal (λ g. g < length object.symbols) (reading.value_at site r)
  reading-uses site r i j = value_good (length object.symbols) reading.body (op_at reading.actions) ops_good (Use site r) (reading.value_at site r) (is.value_at site r i j)

  def_good : (site r : ℕ) (d : Def) → Reaches reading.body (pos r) d site → HasGlobal (λ g. g < length object.symbols) (def_value reading r d)
  def_good site r def.Entry h = global-entry (λ g. g < length object.symbols) r
  def_good site r (def.At s) h =
      value_good (length object.symbols) reading.body (op_at reading.actions) ops_good (Definition (def.At s) r) (reading.value_of s r) (is.value_of s r (defined h.0))
    where
      defined : (let d : ℕ × ℤ = (s, pos r) in Contains reading.body.defs d) → Contains (defined_by (action_at reading.actions s)) r
      defined c =
          let by = defined_at 0 reading.actions s r (subst (λ (body : Body). let d : ℕ × ℤ = (s, pos r) in Contains body.defs d) is.body c) in
          let same : by.number ≡ s = omega (arith, by.is_number) in
          subst (λ k. Contains (defined_by (action_at reading.actions k)) r) same by.by_action

  pub reading-defs : (site r : ℕ) → site < length reading.actions → r < 32 → All (λ d. HasGlobal (λ g. g < length object.symbols) (def_value reading r d)) (reading.reaching site r)
  reading-defs site r i j k d less =
      let x = get_or (reading.reaching site r) k d in
      def_good site r x (((is.reaching site r i).reaching x).0 (Contains-get_or (reading.reaching site r) k d less))

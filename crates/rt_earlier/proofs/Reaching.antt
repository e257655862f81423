-- Numbers of variables that have one shape.
use Rattle.std.proofs.Common.{◌≡◌, ℕ, Some, List, sym, subst}
use Rattle.std.specs.Prelude.{slice_get}
use Rattle.rt_base.proofs.Options.{one_some}
use Rattle.rt_lines.specs.declared.label.Label.{Label}
use Rattle.rt_lines.specs.declared.label.Label.TheVariants.{Load, Store}
use Rattle.rt_lines.specs.declared.variable.Dtv.{Dtv}
use Rattle.rt_lines.specs.declared.line.Line.{Line}
use Rattle.rt_lines.specs.declared.line.Line.TheVariants.{Var, Same}
use Rattle.rt_lines.specs.Orders.{Below}
use Rattle.rt_rules.specs.Rules.{longer, Derivable}
use Rattle.rt_rules.specs.Rules.Derivable.{same_letter, same_sub, same_self, same_back, same_chain, same_longer, sub_pointer}
use Rattle.rt_earlier.specs.Inside.Earlier.{Reaches, AreOne, Leads, AreKept}

module _ (order : Below) (lines : List Line) (named : List Dtv) where
  pub reach_self : (x : Dtv) (n : ℕ) → slice_get named n ≡ Some x → Derivable order lines (Var x) → Reaches order lines named x n
  reach_self x n e d = record { to = x; at = e; same = same_self d }

  -- what a variable has one shape with, by the variable of a number
  reach_through : (x y : Dtv) (n : ℕ) → Derivable order lines (Same x y) → Reaches order lines named y n → Reaches order lines named x n
  reach_through x y n d r = record { to = r.to; at = r.at; same = same_chain d r.same }

  pub reach_on : (x : Dtv) (m n : ℕ) → Reaches order lines named x m → AreOne order lines named m n → Reaches order lines named x n
  reach_on x m n r one =
      let e : one.from ≡ r.to = one_some (slice_get named m) one.from r.to one.at r.at in
      reach_through x one.from n (subst (λ y. Derivable order lines (Same x y)) (sym e) r.same) one.reaches

  pub one_back : (m n : ℕ) → AreOne order lines named m n → AreOne order lines named n m
  one_back m n one = record {
    from = one.reaches.to;
    at = one.reaches.at;
    reaches = record { to = one.from; at = one.at; same = same_back one.reaches.same };
  }

  pub one_chain : (k m n : ℕ) → AreOne order lines named k m → AreOne order lines named m n → AreOne order lines named k n
  one_chain k m n a b = record { from = a.from; at = a.at; reaches = reach_on a.from m n a.reaches b }

  -- numbers that one variable reaches
  one_reached : (x : Dtv) (m n : ℕ) → Reaches order lines named x m → Reaches order lines named x n → AreOne order lines named m n
  one_reached x m n a b = record { from = a.to; at = a.at; reaches = reach_through a.to x n (same_back a.same) b }

  -- two variables that reach one class have one shape
  pub same_reached : (x y : Dtv) (m n c d : ℕ) → Reaches order lines named x m → Reaches order lines named y n → AreOne order lines named m c → AreOne order lines named n d → c ≡ d → Derivable order lines (Same x y)
  same_reached x y m n c d a b f g e =
      let p = reach_on x m c a f in
      let q = reach_on y n c b (subst (AreOne order lines named n) (sym e) g) in
      same_chain p.same (same_back (subst (λ z. Derivable order lines (Same y z)) (one_some (slice_get named c) q.to p.to q.at p.at) q.same))

  -- the classes of numbers of one shape have one shape
  pub classes_one : (m n c d : ℕ) → AreOne order lines named m n → AreOne order lines named m c → AreOne order lines named n d → AreOne order lines named c d
  classes_one m n c d one a b = one_chain c m d (one_back m c a) (one_chain m n d one b)

  -- behind one label of one class there are numbers of one shape
  pub leads_one : (c : ℕ) (l : Label) (m n : ℕ) → Leads order lines named c l m → Leads order lines named c l n → AreOne order lines named m n
  leads_one c l m n a b =
      let e : b.from ≡ a.from = one_some (slice_get named c) b.from a.from b.at a.at in
      one_reached (longer a.from l) m n a.reaches (subst (λ x. Reaches order lines named (longer x l) n) e b.reaches)

  -- and so there are behind a load and a store
  pub leads_pointer : (c m n : ℕ) → Leads order lines named c Load m → Leads order lines named c Store n → AreOne order lines named m n
  leads_pointer c m n a b =
      let e : b.from ≡ a.from = one_some (slice_get named c) b.from a.from b.at a.at in
      let stored : Derivable order lines (Var (longer a.from Store)) = subst (λ x. Derivable order lines (Var (longer x Store))) e b.there in
      let reached : Reaches order lines named (longer a.from Store) n = subst (λ x. Reaches order lines named (longer x Store) n) e b.reaches in
      one_reached (longer a.from Load) m n a.reaches
      (reach_through (longer a.from Load) (longer a.from Store) n (same_back (same_sub (sub_pointer a.from a.there stored))) reached)

  -- a variable of one shape with a number's has its labels
  step : (x y : Dtv) (l : Label) (n : ℕ) → Derivable order lines (Same x y) → Derivable order lines (Var (longer y l)) → Reaches order lines named (longer y l) n → Derivable order lines (Var (longer x l)) × Reaches order lines named (longer x l) n
  step x y l n d v r =
      let there : Derivable order lines (Var (longer x l)) = same_letter l (same_back d) v in
      (there, reach_through (longer x l) (longer y l) n (same_longer l d there) r)

  pub leads_on : (c d : ℕ) (l : Label) (n : ℕ) → AreOne order lines named c d → Leads order lines named c l n → Leads order lines named d l n
  leads_on c d l n one lead =
      let e : one.from ≡ lead.from = one_some (slice_get named c) one.from lead.from one.at lead.at in
      let same : Derivable order lines (Same one.reaches.to lead.from) = same_back (subst (λ x. Derivable order lines (Same x one.reaches.to)) e one.reaches.same) in
      let next = step one.reaches.to lead.from l n same lead.there lead.reaches in
      record { from = one.reaches.to; at = one.reaches.at; there = next.0; reaches = next.1 }

  pub reach_step : (x : Dtv) (m c : ℕ) (l : Label) (n : ℕ) → Reaches order lines named x m → AreOne order lines named m c → Leads order lines named c l n → Reaches order lines named (longer x l) n
  reach_step x m c l n r one lead =
      let at = reach_on x m c r one in
      let e : at.to ≡ lead.from = one_some (slice_get named c) at.to lead.from at.at lead.at in
      (step x lead.from l n (subst (λ y. Derivable order lines (Same x y)) e at.same) lead.there lead.reaches).1

  -- the last label of a number's variable, at the class of that without it
  pub leads_last : (p : Dtv) (m c : ℕ) (l : Label) (n : ℕ) → slice_get named m ≡ Some p → slice_get named n ≡ Some (longer p l) → Derivable order lines (Var (longer p l)) → AreOne order lines named m c → Leads order lines named c l n
  leads_last p m c l n e f d one = leads_on m c l n one (record { from = p; at = e; there = d; reaches = reach_self (longer p l) n f d })

-- with more variables
module _ (order : Below) (lines : List Line) (old new : List Dtv) (kept : AreKept old new) where
  reach_kept : (x : Dtv) (n : ℕ) → Reaches order lines old x n → Reaches order lines new x n
  reach_kept x n r = record { to = r.to; at = kept n r.to r.at; same = r.same }

  pub one_kept : (m n : ℕ) → AreOne order lines old m n → AreOne order lines new m n
  one_kept m n one = record { from = one.from; at = kept m one.from one.at; reaches = reach_kept one.from n one.reaches }

  pub leads_kept : (c : ℕ) (l : Label) (n : ℕ) → Leads order lines old c l n → Leads order lines new c l n
  leads_kept c l n lead = record {
    from = lead.from;
    at = kept c lead.from lead.at;
    there = lead.there;
    reaches = reach_kept (longer lead.from l) n lead.reaches;
  }

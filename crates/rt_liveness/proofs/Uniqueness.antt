-- Of the calls of a procedure one thing is known.
use Rattle.std.proofs.Common.{◌≡◌, ◌↔◌, ℕ, ◌+◌, ◌-◌, ◌<◌, ◌&&◌, Bool, true, false, IsTrue, List, [], length, get_or, nat_le, refl, sym, ap, subst, ◌∙◌, arith, ext_get_or}
use Rattle.std.proofs.lemmas.Bool.{and_from, le-leb}
use Rattle.std.proofs.lemmas.List.{same_lists}
use Rattle.rt_base.proofs.Booleans.{same_truth}
use Rattle.rt_link.specs.declared.place.Place.{Place}
use Rattle.rt_proc.specs.declared.proc.Proc.{Proc}
use Rattle.rt_proc.specs.declared.site.Callee.{Callee}
use Rattle.rt_proc.specs.declared.site.Kind.TheVariants.{Stop}
use Rattle.rt_proc.specs.declared.site.Site.{Site}
use Rattle.rt_liveness.specs.declared.call.Call.{Call}
use Rattle.rt_liveness.specs.Calls.{takes_register, IsCallOf, AreCallsAt, AreCallsIn}
use Rattle.rt_liveness.specs.Programs.{Program}
use Rattle.rt_liveness.specs.Takes.{is_argument}

one_flag : (P : Type 0) (s t : Bool) → IsTrue s ↔ P → IsTrue t ↔ P → s ≡ t
one_flag P s t a b = same_truth s t (λ h. b.1 (a.0 h)) (λ h. a.1 (b.0 h))

-- the flag of the argument of a number
flag_at : (call : Call) (n : ℕ) → n < 8 → takes_register call (10 + n) ≡ get_or call.takes n false
flag_at call n less =
    let back : n ≡ 10 + n - 10 = omega arith in
    subst (λ m. (is_argument (10 + n) && get_or call.takes m false) ≡ get_or call.takes n false) back
    (ap (λ b. b && get_or call.takes n false) (and_from (nat_le 10 (10 + n)) (nat_le (10 + n) 17) (le-leb 10 (10 + n) (omega arith)) (le-leb (10 + n) 17 (omega arith))))

module _ (program : Program) (q s : ℕ) where
  module _ (place : Place) (callee : Callee) (a b : Call) (x : IsCallOf program q s place callee a) (y : IsCallOf program q s place callee b) where
    takes_same : a.takes ≡ b.takes
    takes_same = ext_get_or false a.takes b.takes (x.takes_each ∙ sym y.takes_each) (λ n less. at n (omega (arith, less, x.takes_each)))
      where
        at : (n : ℕ) → n < 8 → get_or a.takes n false ≡ get_or b.takes n false
        at n less = sym (flag_at a n less) ∙ one_flag _ (takes_register a (10 + n)) (takes_register b (10 + n)) (x.takes (10 + n)) (y.takes (10 + n)) ∙ flag_at b n less

    gives_same : a.gives ≡ b.gives
    gives_same = ext_get_or false a.gives b.gives (x.gives_each ∙ sym y.gives_each) (λ r less. one_flag _ (get_or a.gives r false) (get_or b.gives r false) (x.gives r) (y.gives r))

    pub one_call : a ≡ b
    one_call = λ i. record {
      callee = (x.called ∙ sym y.called) i;
      takes = takes_same i;
      gives = gives_same i;
      is_plain = one_flag _ a.is_plain b.is_plain x.is_plain y.is_plain i;
    }

  pub one_calls_at : (site : Site) (xs ys : List Call) → AreCallsAt program q s site xs → AreCallsAt program q s site ys → xs ≡ ys
  one_calls_at site xs ys a b = same_lists xs ys (a.one_each ∙ sym b.one_each) (λ i d less.
      one_call site.place _ (get_or xs i d) (get_or ys i d) (a.each i d.callee d less) (b.each i d.callee d (omega (arith, less, a.one_each, b.one_each))))

no_site : Site
no_site = record { place = record { section = 0; offset = 0 }; kind = Stop; next = []; tails = [] }

pub one_calls_in : (program : Program) (q : ℕ) (proc : Proc) (xs ys : List (List Call)) → AreCallsIn program q proc xs → AreCallsIn program q proc ys → xs ≡ ys
one_calls_in program q proc xs ys a b = ext_get_or [] xs ys (a.one_each ∙ sym b.one_each) (λ s less.
    one_calls_at program q s (get_or proc.sites s no_site) (get_or xs s []) (get_or ys s []) (a.each s no_site less) (b.each s no_site (omega (arith, less, a.one_each, b.one_each))))

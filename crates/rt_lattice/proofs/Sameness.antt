-- Facts of a relation on numbers below a count hold of one that is the same there.
use Rattle.std.proofs.Common.{◌↔◌, ℕ, ◌<◌, List, length, arith}
use Rattle.rt_lattice.specs.Bounds.{HaveJoin, HasPartner, IsAntisymmetric, HasNoCycle, HasTop, HasBottom, HasJoins, IsFirstOnCycle, IsFirstWithoutJoin}
use Rattle.rt_lattice.specs.declared.fault.LatFault.{LatFault}
use Rattle.rt_lattice.specs.Faults.{IsOrderFault, is_cycle, is_no_top, is_no_bottom, is_no_join}

-- the two relations are one below the count
pub record AreSame (R S : ℕ → ℕ → Type 0) (n : ℕ) : Type 0 where
  pub same : (a b : ℕ) → a < n → b < n → R a b ↔ S a b

pub turned : (R S : ℕ → ℕ → Type 0) (n : ℕ) → AreSame R S n → AreSame S R n
turned R S n s = record { same = λ a b ha hb. ((s.same a b ha hb).1, (s.same a b ha hb).0) }

module _ (R S : ℕ → ℕ → Type 0) (n : ℕ) (s : AreSame R S n) where
  over : (a b : ℕ) → a < n → b < n → R a b → S a b
  over a b ha hb = (s.same a b ha hb).0

  back : (a b : ℕ) → a < n → b < n → S a b → R a b
  back a b ha hb = (s.same a b ha hb).1

  pub same_top : HasTop R n → HasTop S n
  same_top (t, top) = (t, record { within = top.within; above = λ a ha. over a t ha top.within (top.above a ha) })

  pub same_bottom : HasBottom R n → HasBottom S n
  same_bottom (b, bottom) = (b, record { within = bottom.within; below = λ a ha. over b a bottom.within ha (bottom.below a ha) })

  pub same_join : (a b : ℕ) → a < n → b < n → HaveJoin R n a b → HaveJoin S n a b
  same_join a b ha hb (c, join) = (
    c,
    record {
      within = join.within;
      first = over a c ha join.within join.first;
      second = over b c hb join.within join.second;
      least = λ d hd f g. over c d join.within hd (join.least d hd (back a d ha hd f) (back b d hb hd g));
    },
  )

  pub same_joins : HasJoins R n → HasJoins S n
  same_joins joins a b ha hb = same_join a b ha hb (joins a b ha hb)

  pub same_partner : (a : ℕ) → a < n → HasPartner R n a → HasPartner S n a
  same_partner a ha p =
      record { partner = p.partner; within = p.within; other = p.other; above = over a p.partner ha p.within p.above; below = over p.partner a p.within ha p.below }

  pub same_antisymmetric : IsAntisymmetric R n → IsAntisymmetric S n
  same_antisymmetric anti a b ha hb f g = anti a b ha hb (back a b ha hb f) (back b a hb ha g)

module _ (R S : ℕ → ℕ → Type 0) (n : ℕ) (s : AreSame R S n) where
  pub same_no_cycle : HasNoCycle R n → HasNoCycle S n
  same_no_cycle none a ha p = none a ha (same_partner S R n (turned R S n s) a ha p)

  pub same_first_on_cycle : (a : ℕ) → IsFirstOnCycle R n a → IsFirstOnCycle S n a
  same_first_on_cycle a c =
      record {
        within = c.within;
        partner = same_partner R S n s a c.within c.partner;
        first = λ b less p. c.first b less (same_partner S R n (turned R S n s) b (omega (arith, c.within)) p);
      }

  pub same_without_join : (a b : ℕ) → IsFirstWithoutJoin R n a b → IsFirstWithoutJoin S n a b
  same_without_join a b w =
      record {
        earlier = w.earlier;
        within = w.within;
        none = λ join. w.none (same_join S R n (turned R S n s) a b (omega (arith, w.earlier, w.within)) w.within join);
        first = λ p q h k before. same_join R S n s p q (omega arith) k (w.first p q h k before);
      }

-- the first fault of an order is that of one that is the same
pub same_fault : (R S : ℕ → ℕ → Type 0) (names : List (List ℕ)) (fault : LatFault) → AreSame R S (length names) → IsOrderFault R names fault → IsOrderFault S names fault
same_fault R S names _ s (is_cycle name h) = is_cycle name (record { number = h.number; named = h.named; cycle = same_first_on_cycle R S (length names) s h.number h.cycle })
same_fault R S names _ s (is_no_top none h) = is_no_top (same_no_cycle R S (length names) s none) (λ top. h (same_top S R (length names) (turned R S (length names) s) top))
same_fault R S names _ s (is_no_bottom none top h) =
    is_no_bottom (same_no_cycle R S (length names) s none) (same_top R S (length names) s top) (λ bottom. h (same_bottom S R (length names) (turned R S (length names) s) bottom))
same_fault R S names _ s (is_no_join first second none top bottom h) =
    is_no_join first second (same_no_cycle R S (length names) s none) (same_top R S (length names) s top) (same_bottom R S (length names) s bottom)
    (record { a = h.a; b = h.b; first_named = h.first_named; second_named = h.second_named; pair = same_without_join R S (length names) s h.a h.b h.pair })

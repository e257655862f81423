-- What follows of ways from what tables say.
use Rattle.std.proofs.Common.{ℕ, ◌<◌, inl, inr, refl, sym, subst}
use Rattle.rt_grid.specs.Tables.{Table, Holds, IsChain, IsRest, Made, Says, SaysWith}
use Rattle.rt_grid.specs.Tables.Made.{told, behind}

-- ways that are made of ways are ways, where one behind another is one
pub made_ways : (Known Way : ℕ → ℕ → ℕ → Type 0) → IsChain Way → ((i j n : ℕ) → Known i j n → Way i j n) → {i j n : ℕ} → Made Known i j n → Way i j n
made_ways Known Way chain known (told {i} {j} {n} w) = known i j n w
made_ways Known Way chain known (behind {i} {j} {k} {m} {n} v w) = chain i j k m n (made_ways Known Way chain known v) (made_ways Known Way chain known w)

pub made_chain : (Known : ℕ → ℕ → ℕ → Type 0) → IsChain (Made Known)
made_chain Known i j k m n v w = behind v w

pub holds_by : (P Q : ℕ → ℕ → ℕ → Type 0) → ((i j n : ℕ) → P i j n → Q i j n) → (table : Table) → Holds P table → Holds Q table
holds_by P Q f table h = record {
  rows = λ i j known. f i j _ (h.rows i j known);
  steps = λ i s c. f i s.to s.count (h.steps i s c);
}

pub says_holds : (table : Table) → Holds (Says table) table
says_holds table = record {
  rows = λ i j known. inl (known, refl);
  steps = λ i s c. inr c;
}

-- what a table says are ways
pub says_ways : (Way : ℕ → ℕ → ℕ → Type 0) (table : Table) → Holds Way table → (i j n : ℕ) → Says table i j n → Way i j n
says_ways Way table h i j n (inl (known, e)) = subst (Way i j) (sym e) (h.rows i j known)
says_ways Way table h i j n (inr c) = h.steps i (record { to = j; count = n }) c

-- what a new table holds, by what `Grid::new` ensures
pub new_holds : (Way : ℕ → ℕ → ℕ → Type 0) (size : ℕ) (new : Table) → ((i : ℕ) → i < size → Way i i 0) → Holds (IsRest size) new → Holds Way new
new_holds Way size new rests = holds_by (IsRest size) Way by new
  where
    by : (i j n : ℕ) → IsRest size i j n → Way i j n
    by i j n (less, e, f) = subst (Way i j) (sym f) (subst (λ k. Way i k 0) (sym e) (rests i less))

-- what a table holds after `Grid::close`, by what it ensures
pub close_holds : (Way : ℕ → ℕ → ℕ → Type 0) (old new : Table) → IsChain Way → Holds Way old → Holds (Made (Says old)) new → Holds Way new
close_holds Way old new chain h = holds_by (Made (Says old)) Way (λ i j n w. made_ways (Says old) Way chain (says_ways Way old h) w) new

-- what a table holds after `Grid::add`, by what it ensures
pub add_holds : (Way : ℕ → ℕ → ℕ → Type 0) (old new : Table) (from to count : ℕ) → IsChain Way → Way from to count → Holds Way old → Holds (Made (SaysWith old from to count)) new → Holds Way new
add_holds Way old new from to count chain way h = holds_by (Made (SaysWith old from to count)) Way (λ i j n w. made_ways (SaysWith old from to count) Way chain by w) new
  where
    by : (i j n : ℕ) → SaysWith old from to count i j n → Way i j n
    by i j n (inl w) = says_ways Way old h i j n w
    by i j n (inr (e, f, g)) = subst (Way i j) (sym g) (subst (λ k. Way i k count) (sym f) (subst (λ k. Way k to count) (sym e) way))

-- what a table holds after `Grid::prune`, by what it ensures
pub prune_holds : (Way : ℕ → ℕ → ℕ → Type 0) (old new : Table) → Holds Way old → Holds (Says old) new → Holds Way new
prune_holds Way old new h = holds_by (Says old) Way (says_ways Way old h) new

-- what is made of what a table says, after two changes
pub made_self : (table : Table) → Holds (Made (Says table)) table
made_self table = holds_by (Says table) (Made (Says table)) (λ i j n w. told w) table (says_holds table)

pub made_after : (old mid new : Table) → Holds (Made (Says old)) mid → Holds (Made (Says mid)) new → Holds (Made (Says old)) new
made_after old mid new = close_holds (Made (Says old)) mid new (made_chain (Says old))

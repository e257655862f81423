-- Which operations stand where.
use Rattle.std.specs.Prelude.{◌≡◌, ◌⊎◌, ◌<◌, ◌&&◌, Bool, ℕ, nat_eq}
use Rattle.rt_track.specs.declared.op.Op.{Op}
use Rattle.rt_track.specs.declared.op.Op.TheVariants.{Own, Const, Sym, AddI, Add}

-- an operation takes what a register holds
abbrev pub Names : Op → ℕ → Type 0
Names Own r = ⊥
Names (Const c) r = ⊥
Names (Sym g a) r = ⊥
Names (AddI q k) r = q ≡ r
Names (Add q p) r = (q ≡ r) ⊎ (p ≡ r)

-- the registers whose values an operation takes are x0 to x31
abbrev pub NamesRegisters : Op → Type 0
NamesRegisters op = (r : ℕ) → Names op r → r < 32

-- an operation of a register at one of so many sites
abbrev pub IsWithin : ℕ → (ℕ × ℕ) × Op → Type 0
IsWithin sites e = (e.0.0 < sites) × (e.0.1 < 32) × NamesRegisters e.1

-- two definitions are one, as `==` computes it of a site and a register
abbrev pub place_eq : ℕ × ℕ → ℕ × ℕ → Bool
place_eq p q = nat_eq p.0 q.0 && nat_eq p.1 q.1

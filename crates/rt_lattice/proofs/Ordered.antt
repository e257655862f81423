-- A file says one order, which is partial.
use Rattle.std.proofs.Common.{◌≡◌, ◌↔◌, ℕ, ◌<◌, inl, inr, List, length, sym, subst, ◌∙◌, arith}
use Rattle.rt_lattice.specs.declared.file.File.{File}
use Rattle.rt_lattice.specs.Closures.{IsUnderIn}
use Rattle.rt_lattice.specs.Faults.{IsLatticeIn}
use Rattle.rt_lattice.specs.Lattices.{NamedOrder, IsBelow, IsLatticeOf, size_of}
use Rattle.rt_lattice.specs.Laws.{AreOne, IsPartial, OneOfText, OneStandard, PartialOfText, PartialStandard}
use Rattle.rt_lattice.specs.Standard.{standard_file}
use Rattle.rt_lattice.proofs.Unique.{file_in, one_table}

-- pairs of one lattice that a file says are pairs of another one
pairs_to : (file : File) (first second : NamedOrder) → IsLatticeOf file first → IsLatticeOf file second → (j k : ℕ) → IsBelow first j k → IsBelow second j k
pairs_to file first second a b j k (inl e) = inl e
pairs_to file first second a b j k (inr (hj, hk, t)) =
    let lj : j < length file.names = omega (arith, hj, a.counted) in
    let lk : k < length file.names = omega (arith, hk, a.counted) in
    (b.ordered j k lj lk).1 ((a.ordered j k lj lk).0 (inr (hj, hk, t)))

one_of : (file : File) (first second : NamedOrder) → IsLatticeOf file first → IsLatticeOf file second → AreOne first second
one_of file first second a b = record {
  names = a.named ∙ sym b.named;
  counts = a.counted ∙ sym b.counted;
  below = λ j k. (pairs_to file first second a b j k, pairs_to file second first b a j k);
}

partial_of : (file : File) (lattice : NamedOrder) → IsLatticeOf file lattice → IsPartial lattice
partial_of file lattice is = record {
  counted = is.counted ∙ sym (λ i. length (is.named i));
  antisymmetric = λ j k hj hk f g.
      let lj : j < length file.names = subst (λ ns. j < length ns) is.named hj in
      let lk : k < length file.names = subst (λ ns. k < length ns) is.named hk in
      is.are_lattice.antisymmetric j k lj lk ((is.ordered j k lj lk).0 f) ((is.ordered k j lk lj).0 g);
}

pub one_of_text : OneOfText
one_of_text text first second a b =
    let same : a.file ≡ b.file = file_in a.table b.table a.file b.file (one_table text a.table b.table a.is_table b.is_table) a.says b.says in
    one_of b.file first second (subst (λ (f : File). IsLatticeOf f first) same a.says_lattice) b.says_lattice

pub one_standard : OneStandard
one_standard first second a b = one_of standard_file first second a b

pub partial_of_text : PartialOfText
partial_of_text text lattice a = partial_of a.file lattice a.says_lattice

pub partial_standard : PartialStandard
partial_standard lattice a = partial_of standard_file lattice a

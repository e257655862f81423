use Rattle.std.proofs.Common.{inr, refl, subst, sym}
use Rattle.rt_scheme.specs.NameReadings.{AreBytes}
use Rattle.rt_scheme.proofs.NamesRead.{no_name, is_text, printed_text}
use Rattle.rt_scheme.proofs.name_reader.read_name.Goals as goal

pub returns-then-eq : goal.returns-then-eq
returns-then-eq c = (
  subst AreBytes (sym c.from_vec.ensures) c.in-Ok.ensures.bytes,
  is_text _ _ _ _ _ c.from_vec.ensures
      (printed_text _ _ _ _ _ c.as_slice.ensures.value c.in-Ok-print_name.ensures.ok c.new-printed.ensures.items c.deref.ensures.value) c.eq.ensures c.if-eq.true,
)

pub returns-else-eq : goal.returns-else-eq
returns-else-eq c =
    inr (
      refl,
      no_name _ _ _ _ c.in-Ok.ensures.value
          (printed_text _ _ _ _ _ c.as_slice.ensures.value c.in-Ok-print_name.ensures.ok c.new-printed.ensures.items c.deref.ensures.value) c.eq.ensures c.if-eq.false,
    )

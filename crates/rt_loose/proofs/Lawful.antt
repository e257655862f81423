-- The laws of ways and of marks.
use Rattle.std.proofs.Common.{[], Contains}
use Rattle.rt_named.specs.Naming.{named}
use Rattle.rt_loose.specs.Laws.{LoosenessLaw, BelowLaw, TurnedLaw, NamedLaw, StartLaw, StepLaw, LowMarksLaw, UpMarksLaw, PointerLaw, FlexibleLaw}
use Rattle.rt_loose.proofs.Loosely.{loosely, added}
use Rattle.rt_loose.proofs.Steps.{way_turned, way_exchanged, way_wide, way_named, start_sets, step_sets}
use Rattle.rt_loose.proofs.Marks.{complete, beneath_way, low_marks, low_from, up_marks, up_from, one_end}
use Rattle.rt_loose.proofs.Flat.{flat_same, flat_way}

pub looseness_law : LoosenessLaw
looseness_law order lines j = (loosely order lines j, added order lines)

pub below_law : BelowLaw
below_law order lines x y = (complete order lines, beneath_way order lines)

pub turned_law : TurnedLaw
turned_law order lines known x y k w = record {
  back = way_turned order lines (Contains known) w;
  exchanged = way_exchanged order lines (Contains known) w;
}

pub named_law : NamedLaw
named_law order lines x y k p q = (way_named order lines p q, way_wide order lines (Contains (named lines [])))

pub start_law : StartLaw
start_law order lines b sets led = start_sets order lines b sets led

pub step_law : StepLaw
step_law order lines x l exchange sets next there is are led = step_sets order lines x l exchange there is sets are next led

pub low_law : LowMarksLaw
low_law order lines x sets k is few are less = (low_marks order lines x sets are k is few, low_from order lines x sets are k)

pub up_law : UpMarksLaw
up_law order lines x sets k is few are less = (up_marks order lines x sets are k is few less, up_from order lines x sets are k)

pub pointer_law : PointerLaw
pointer_law order lines x z flips = one_end order lines x flips z

pub flexible_law : FlexibleLaw
flexible_law order lines x y p q = (flat_same order lines, flat_way order lines p q)

use Rattle.rt_polar.proofs.putting_away.place_all.Goals as goal

pub loop-line-preserved : goal.loop-line-preserved
loop-line-preserved c = record {
  can = tt;
  finite = tt;
  places = c.in_ok-place.ensures.places;
  tidy = c.in_ok-place.ensures.lines c.loop-line.yielded c.loop-line.invariant.tidy;
}

use Rattle.std.proofs.Common.{◌≡◌, ◌↔◌, ℕ, [], length, rules, arith, ap, sym, subst}
use Rattle.std.specs.Prelude.{Contains}
use Rattle.std.specs.List.Sorted.{IsStrictlyIncreasing}
use Rattle.std.proofs.lemmas.Map.Keys.{IsStrictlyIncreasing-from_sorted}
use Rattle.rt_body.specs.Told.{reading_of}
use Rattle.rt_frame.specs.Told.{frame_of}
use Rattle.rt_table.specs.Facts.{TakesWord}
use Rattle.rt_table.specs.Inside.Words.{AreStackWords}
use Rattle.rt_table.proofs.Taking.{AreTaken, taken-all, taken-more, taken-none, taken-words}
use Rattle.rt_table.proofs.taken.words_taken.Goals as goal

pub loop-site-init : goal.loop-site-init
loop-site-init c =
    let empty : c.new-taken.result.keys ≡ [] = search rules in
    subst (AreTaken (reading_of c.args.body.now) (frame_of c.args.frame.now) 0) (sym empty) (taken-none (reading_of c.args.body.now) (frame_of c.args.frame.now))

pub loop-site-preserved : goal.loop-site-preserved
loop-site-preserved c =
    taken-more (reading_of c.args.body.now) (frame_of c.args.frame.now) c.loop-site.site c.loop-site.taken.keys c.take_site.new.taken.keys c.in_ok-take_site.ensures c.loop-site.invariant

pub returns-clause-ascending : goal.returns-clause-ascending
returns-clause-ascending c =
    let same : c.from_vec.result ≡ c.loop-site.taken.keys = search rules in
    subst IsStrictlyIncreasing (sym same) (IsStrictlyIncreasing-from_sorted c.loop-site.taken.keys c.iter.ensures.ordered)

pub returns-clause-words : goal.returns-clause-words
returns-clause-words c =
    let reading = reading_of c.args.body.now in
    let frame = frame_of c.args.frame.now in
    let same : c.from_vec.result ≡ c.loop-site.taken.keys = search rules in
    let whole : c.loop-site.site ≡ length reading.actions = omega (arith, ap length c.actions.ensures.actions) in
    subst (λ (words : _). (k : ℕ) → Contains words k ↔ TakesWord reading frame k) (sym same)
    (taken-all reading frame c.loop-site.site c.loop-site.taken.keys (omega arith) (omega arith) c.loop-site.invariant)

pub returns-clause-stack : goal.returns-clause-stack
returns-clause-stack c =
    let reading = reading_of c.args.body.now in
    let frame = frame_of c.args.frame.now in
    let same : c.from_vec.result ≡ c.loop-site.taken.keys = search rules in
    let whole : c.loop-site.site ≡ length reading.actions = omega (arith, ap length c.actions.ensures.actions) in
    subst AreStackWords (sym same)
    (taken-words reading frame c.loop-site.taken.keys (taken-all reading frame c.loop-site.site c.loop-site.taken.keys (omega arith) (omega arith) c.loop-site.invariant))

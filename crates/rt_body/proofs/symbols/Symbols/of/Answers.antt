use Rattle.std.proofs.Common.{◌≡◌, ◌<◌, get_or, length, arith, rules, subst, ◌∙◌}
use Rattle.std.specs.Prelude.{List}
use Rattle.rt_elf.specs.declared.symbol.Symbol.{Symbol}
use Rattle.rt_body.specs.Lowest.{lowest_in}
use Rattle.rt_body.specs.Symbols.{lowest}
use Rattle.rt_body.proofs.Firsts.{firsts_more, lowest_here, lowest_more, lowest_told}
use Rattle.rt_body.proofs.symbols.Symbols.of.Goals as goal

pub loop-index-preserved : goal.loop-index-preserved
loop-index-preserved c =
    let object = c.args.object.now in
    let symbol = c.symbol-item.result in
    let index = c.loop-index.index in
    let is : symbol ≡ get_or object.symbols index symbol = subst (λ (symbols : List Symbol). symbol ≡ get_or symbols index symbol) c.loop-index.invariant.items c.symbol-item.is in
    let less : index < length object.symbols = subst (λ (symbols : List Symbol). index < length symbols) c.loop-index.invariant.items c.loop-index-test.true in
    let here : c.lowest_of.result ≡ lowest object index = c.lowest_of.ensures ∙ lowest_here object index symbol c.place_of.result _ c.in_ok-first.first less is c.place_of.ensures (c.loop-index.invariant.firsts c.place_of.result) c.in_ok-first.ensures.first in
    record {
      items = c.loop-index.invariant.items;
      each = search rules;
      firsts = λ place. firsts_more object.symbols index symbol c.place_of.result place _ _ less is c.place_of.ensures (c.loop-index.invariant.firsts place) (c.in_ok-first.ensures.noted place);
      told = rw c.in_ok-push.ensures.items (lowest_more object c.loop-index.lowest.items index c.lowest_of.result c.loop-index.invariant.each c.loop-index.invariant.told here);
    }

pub returns : goal.returns
unfolding lowest_in
returns c =
    let all : c.loop-index.index ≡ length c.args.object.now.symbols = search rules in
    record { same = lowest_told c.args.object.now c.loop-index.lowest.items (c.loop-index.invariant.each ∙ all) (λ k less. c.loop-index.invariant.told k (omega arith)) }

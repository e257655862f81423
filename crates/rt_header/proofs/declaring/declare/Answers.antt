use Rattle.std.proofs.Common.{subst}
use Rattle.rt_header.specs.Inside.Built.{IsFunctionBuilt}
use Rattle.rt_header.proofs.Growing.{made_more}
use Rattle.rt_header.proofs.Joined.{goes_on, numbers_more}
use Rattle.rt_header.proofs.declaring.declare.Goals as goal

pub search-requires-clause-made : goal.search-requires-clause-made
search-requires-clause-made c =
    made_more c.args.forest.now c.args.making.now.structs.items c.function_of.new.making.structs.items c.args.structs.now
    c.in_ok-function.ensures.more c.requires.declared.are_made

pub returns-clause-declared : goal.returns-clause-declared
returns-clause-declared c =
    let mid = c.function_of.new.making.structs.items in
    let e = c.in_ok-function.ensures in
    let s = c.in_ok-search.ensures in
    goes_on c.args.forest.now c.args.making.now.structs.items mid c.search.new.making.structs.items c.args.making.now.numbers.items c.search.new.making.numbers.items
    c.args.structs.now c.search.new.made c.args.functions.now c.push.new.self c.in_ok-function.function
    c.requires.declared c.in_ok-push.ensures.ok e.more (subst (λ i. IsFunctionBuilt c.args.forest.now mid i c.in_ok-function.function) c.len.ensures e.built) e.good e.stands
    s.making s.more s.made s.all s.searched

pub returns-clause-number : goal.returns-clause-number
returns-clause-number c = numbers_more c.args.functions.now c.push.new.self c.in_ok-function.function c.args.number c.in_ok-push.ensures.ok c.in_ok-function.ensures.number

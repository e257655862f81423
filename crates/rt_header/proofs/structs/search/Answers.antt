use Rattle.std.proofs.Common.{◌≡◌, ◌+◌, ◌<◌, ◌≤◌, ◌∷◌, [], List, length, sym, ap, subst, ◌∙◌, arith, rules, length-append}
use Rattle.rt_cdecl.specs.declared.declarations.CStruct.{CStruct}
use Rattle.rt_header.specs.Inside.Built.{IsStructBuilt}
use Rattle.rt_header.specs.Inside.Made.{AreMade, HasSearched}
use Rattle.rt_header.proofs.Growing.{more_none, more_chain}
use Rattle.rt_header.proofs.Searching.{search_begins, search_goes_on, search_ends, made_pushed}
use Rattle.rt_header.proofs.structs.search.Goals as goal

pub loop-alloc-init : goal.loop-alloc-init
loop-alloc-init c = record {
  making = c.requires.making;
  more = more_none c.args.making.now.structs.items;
  made = c.requires.made;
  searched = search_begins c.args.made.now (length c.args.making.now.structs.items);
}

pub loop-alloc-preserved : goal.loop-alloc-preserved
loop-alloc-preserved c =
    let forest = c.args.forest.now in
    let old = c.args.making.now.structs.items in
    let mid = c.loop-alloc.making.structs.items in
    let new = c.struct_of.new.making.structs.items in
    let made = c.loop-alloc.made in
    let next = c.in_ok-next.next in
    let less : length made < length mid = search rules in
    let number : c.len-in-loop-alloc-2.result ≡ length made = search rules in
    let built : IsStructBuilt forest new (length made) next = subst (λ s. IsStructBuilt forest new s next) number c.in_ok-next.ensures.built in
    record {
      making = c.in_ok-next.ensures.making;
      more = more_chain old mid new c.loop-alloc.invariant.more c.in_ok-next.ensures.more;
      made = subst (AreMade forest new) (sym c.in_ok-push.ensures.ok) (made_pushed forest mid new made next c.in_ok-next.ensures.more c.loop-alloc.invariant.made less built c.in_ok-next.ensures.good);
      searched =
          subst (λ (s : List CStruct). HasSearched c.args.made.now s (length old) (length new)) (sym c.in_ok-push.ensures.ok)
          (search_goes_on c.args.made.now made (length old) (length mid) (length new) next c.loop-alloc.invariant.searched less c.in_ok-next.ensures.stands);
    }

pub loop-alloc-smaller : goal.loop-alloc-smaller
loop-alloc-smaller c =
    let made = c.loop-alloc.made in
    let less : length made < length c.loop-alloc.making.structs.items = search rules in
    let few = c.loop-alloc.invariant.making.few in
    let count : length c.push.new.self ≡ length made + 1 = ap length c.in_ok-push.ensures.ok ∙ length-append made (c.in_ok-next.next ∷ []) in
    omega arith

pub returns-clause-all : goal.returns-clause-all
returns-clause-all c =
    let most = c.loop-alloc.invariant.made.few in
    let least : length c.loop-alloc.making.structs.items ≤ length c.loop-alloc.made = search rules in
    omega arith

pub returns-clause-searched : goal.returns-clause-searched
returns-clause-searched c =
    let most = c.loop-alloc.invariant.made.few in
    let least : length c.loop-alloc.making.structs.items ≤ length c.loop-alloc.made = search rules in
    search_ends c.args.made.now c.loop-alloc.made (length c.args.making.now.structs.items) (length c.loop-alloc.making.structs.items) c.loop-alloc.invariant.searched (omega arith)

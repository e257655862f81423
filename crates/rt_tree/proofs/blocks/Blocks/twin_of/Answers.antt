use Rattle.std.proofs.Common.{◌≡◌, ◌<◌, length, arith, rules}
use Rattle.std.specs.Prelude.{slice_index}
use Rattle.std.proofs.lemmas.List.{get_or_read}
use Rattle.rt_tree.proofs.Moving.{more_rows, twin_blocks_by, twin_there_by}
use Rattle.rt_tree.proofs.blocks.Blocks.twin_of.Goals as goal

pub returns-clause-blocks : goal.returns-clause-blocks
returns-clause-blocks c =
    let self = c.args.self.now in
    twin_blocks_by (length self.class.items) self.class.items self.members.items self.twin.items c.requires.blocks c.args.block c.len-fresh.result c.new.result
    c.push-2.new.self.items c.push.new.self.items (let a = c.requires.block in let b = c.requires.count in omega arith) c.new.ensures (search rules)
    c.in_ok-push.ensures.items c.in_ok-push-2.ensures.items

pub returns-clause-rows : goal.returns-clause-rows
returns-clause-rows c = more_rows c.args.self.now.members.items c.push.new.self.items c.new.result c.new.ensures c.in_ok-push.ensures.items

pub returns-clause-twin : goal.returns-clause-twin
returns-clause-twin c =
    let self = c.args.self.now in
    let read : c.index-twin.result.now ≡ slice_index self.twin.items c.args.block =
    get_or_read self.twin.items c.args.block c.index-twin.result.now
    (let a = c.requires.block in let b = c.requires.count in let t = c.requires.blocks.twins in omega arith) c.index-twin.ensures 0 in
    let under : c.index-twin.result.now < c.args.count = search rules in
    twin_there_by (length self.class.items) self.class.items self.members.items self.twin.items c.requires.blocks c.args.block c.args.count c.len-fresh.result
    c.push-2.new.self.items c.requires.count c.requires.block (omega arith) (search rules) c.in_ok-push-2.ensures.items

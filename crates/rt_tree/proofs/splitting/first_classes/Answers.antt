use Rattle.std.proofs.Common.{◌≡◌, ℕ, ◌<◌, ◌+◌, ◌++◌, List, All, map, length, get_or, sym, subst, ap, ◌∙◌}
use Rattle.std.specs.Prelude.{slice_index}
use Rattle.rt_lines.specs.Words.{IsLabel}
use Rattle.rt_tree.specs.declared.links.Link.{Link}
use Rattle.rt_tree.specs.Partitions.{AreCoarseClasses, AreFinerClasses}
use Rattle.rt_tree.specs.Inside.Splits.{AreFirstLabels, AreTold, links_of}
use Rattle.rt_tree.specs.Trees.{Nodes}
use Rattle.rt_tree.proofs.Words.{AreNodes}
use Rattle.rt_tree.proofs.Coarse.{finer_coarse}
use Rattle.rt_tree.proofs.Items.{first_told, first_within, links_labels, one_told}
use Rattle.rt_tree.proofs.splitting.first_classes.Goals as goal

-- the nodes' classes, and the edges' behind them
record AreFirst (t : Nodes) (new : List ℕ) : Type 0 where
  within : All (λ b. b < length new) new
  told : AreTold t new

are_first : (t : Nodes) → AreNodes t → (one read class labels now new : List ℕ) (links : List Link) → ((x : ℕ) → slice_index one x ≡ 0) → read ≡ one → AreFinerClasses t read class →
    links ≡ links_of t → AreFirstLabels links labels → now ≡ labels → new ≡ class ++ map (λ k. length class + k) now → AreFirst t new
are_first t good one read class labels now new links none read_is finer links_is firsts now_is is =
    subst (AreFirst t) (sym (is ∙ ap (λ ls. class ++ map (λ k. length class + k) ls) now_is))
    (record {
      within = first_within t class labels coarse finer.within firsts';
      told = first_told t class labels coarse finer.within firsts';
    })
  where
    coarse : AreCoarseClasses t class
    coarse = finer_coarse t good read class (one_told t read (subst (λ xs. (x : ℕ) → slice_index xs x ≡ 0) (sym read_is) none)) finer

    firsts' : AreFirstLabels (links_of t) labels
    firsts' = subst (λ ls. AreFirstLabels ls labels) links_is firsts

pub first_labels-requires : goal.first_labels-requires
first_labels-requires c = λ k d less.
    subst (λ (ls : List Link). IsLabel (get_or ls k d).label) (sym c.requires.links)
    (links_labels c.args.nodes.now c.requires.nodes k d (subst (λ (ls : List Link). k < length ls) c.requires.links less))

pub returns-clause-within : goal.returns-clause-within
returns-clause-within c =
    (are_first c.args.nodes.now c.requires.nodes c.in_ok-one.one.items c.deref.result.now c.in_ok-class.class.items c.in_ok-labels.labels.items c.deref-2.result.now
    c.append.new.class.items c.args.links.now c.in_ok-one.ensures.one c.deref.ensures.value c.in_ok-class.ensures c.requires.links c.in_ok-labels.ensures c.deref-2.ensures.value
    c.in_ok-append.ensures).within

pub returns-clause-told : goal.returns-clause-told
returns-clause-told c =
    (are_first c.args.nodes.now c.requires.nodes c.in_ok-one.one.items c.deref.result.now c.in_ok-class.class.items c.in_ok-labels.labels.items c.deref-2.result.now
    c.append.new.class.items c.args.links.now c.in_ok-one.ensures.one c.deref.ensures.value c.in_ok-class.ensures c.requires.links c.in_ok-labels.ensures c.deref-2.ensures.value
    c.in_ok-append.ensures).told

-- The kinds of labels in the order of their texts, and the number in a label's text: parts of the way to comparing labels.
use Rattle.std.specs.Prelude.{ℕ, Bool, true, false, List, cond, codes, nat_eq, ℤ, pos}
use Rattle.rt_lines.specs.declared.label.Loc.TheVariants.{Arg, Stack}
use Rattle.rt_lines.specs.declared.label.Label.{Label}
use Rattle.rt_lines.specs.declared.label.Label.TheVariants.{In, Out, Load, Store, Field}

pub data Kind : Type 0 where
  OfArgument : Kind
  OfStack : Kind
  OfLoad : Kind
  OfResult : Kind
  OfHalf : Kind
  OfWord : Kind
  OfByte : Kind
  OfStore : Kind

-- its place in the order
abbrev pub rank_of_kind : Kind → ℕ
rank_of_kind OfArgument = 0
rank_of_kind OfStack = 1
rank_of_kind OfLoad = 2
rank_of_kind OfResult = 3
rank_of_kind OfHalf = 4
rank_of_kind OfWord = 5
rank_of_kind OfByte = 6
rank_of_kind OfStore = 7

-- what stands before the number
abbrev pub front_of : Kind → List ℕ
front_of OfArgument = codes "in_a"
front_of OfStack = codes "in_stack"
front_of OfLoad = codes "load"
front_of OfResult = codes "out_a"
front_of OfHalf = codes "s16@"
front_of OfWord = codes "s32@"
front_of OfByte = codes "s8@"
front_of OfStore = codes "store"

-- whether a number follows
abbrev pub has_number : Kind → Bool
has_number OfArgument = true
has_number OfStack = true
has_number OfLoad = false
has_number OfResult = true
has_number OfHalf = true
has_number OfWord = true
has_number OfByte = true
has_number OfStore = false

abbrev pub kind_of : Label → Kind
kind_of (In (Arg n)) = OfArgument
kind_of (In (Stack k)) = OfStack
kind_of (Out n) = OfResult
kind_of Load = OfLoad
kind_of Store = OfStore
kind_of (Field w k) = cond (nat_eq w 16) OfHalf (cond (nat_eq w 32) OfWord OfByte)

abbrev pub rank_of : Label → ℕ
rank_of l = rank_of_kind (kind_of l)

-- the number in the text, 0 where there is none
abbrev pub number_of : Label → ℤ
number_of (In (Arg n)) = pos n
number_of (In (Stack k)) = pos k
number_of (Out n) = pos n
number_of Load = pos 0
number_of Store = pos 0
number_of (Field w k) = k

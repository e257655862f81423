-- The order of classes, by the other classes that each leads to and by the members of each.
use Rattle.std.specs.Prelude.{◌≡◌, ◌≢◌, ℕ, ◌<◌, ◌≤◌, ◌⊎◌, Bool, true, false, if◌then◌else◌, List, [], ◌∷◌, length, All, Contains}
use Rattle.std.specs.Prelude.{slice_index, slice_index_or, sum_by}
use Rattle.rt_components.specs.Groups.{group_at}
use Rattle.rt_components.specs.declared.order.Queue.{Queue}

-- the least member of a class
abbrev pub least_of : List (List ℕ) → ℕ → ℕ
least_of members k = slice_index (group_at members k) 0

-- the class stands in the order before a place
abbrev pub IsBefore : List ℕ → ℕ → ℕ → Type 0
IsBefore order i k = (j : ℕ) × (j < i) × (slice_index order j ≡ k)

-- all that the class leads to stands in the order before a place
abbrev pub IsFree : List (List ℕ) → List ℕ → ℕ → ℕ → Type 0
IsFree others order i k = (h : ℕ) → Contains (group_at others k) h → IsBefore order i h

-- Classes in order: each once, after all that it leads to, and of those that could stand there the one with the least
-- member.
pub record AreInOrder (others members : List (List ℕ)) (order : List ℕ) : Type 0 where
  pub within : (i : ℕ) → i < length order → slice_index order i < length others
  pub once : (i j : ℕ) → i < j → j < length order → slice_index order i ≢ slice_index order j
  pub free : (i : ℕ) → i < length order → IsFree others order i (slice_index order i)
  pub least : (i k : ℕ) → i < length order → k < length others → (IsBefore order i k → ⊥) → IsFree others order i k →
      least_of members (slice_index order i) ≤ least_of members k

-- all classes in order
pub record AreAllInOrder (others members : List (List ℕ)) (order : List ℕ) : Type 0 where
  pub in_order : AreInOrder others members order
  pub all : (k : ℕ) → k < length others → Contains order k

-- Each class has a member, which knows its class, and leads to classes of lower numbers.
pub record AreLinked (class : List ℕ) (members others : List (List ℕ)) : Type 0 where
  pub each : length members ≡ length others
  pub full : (k : ℕ) → k < length others → 0 < length (group_at members k)
  pub known : (k : ℕ) → k < length others → (least_of members k < length class) × (slice_index class (least_of members k) ≡ k)
  pub down : (k h : ℕ) → Contains (group_at others k) h → h < k

-- the class has come
abbrev pub HasCome : List Bool → ℕ → Type 0
HasCome come k = slice_index_or come k false ≡ true

-- the class has not come
abbrev pub IsToCome : List Bool → ℕ → Type 0
IsToCome come k = slice_index_or come k false ≡ false

-- all that the class leads to has come
abbrev pub HaveCome : List (List ℕ) → List Bool → ℕ → Type 0
HaveCome others come k = (h : ℕ) → Contains (group_at others k) h → HasCome come h

-- the class waits for one that is to come, and to which it leads
abbrev pub IsWaiting : List (List ℕ) → List Bool → List (List ℕ) → ℕ → Type 0
IsWaiting others come waiting k = (h : ℕ) × Contains (group_at waiting h) k × Contains (group_at others k) h × IsToCome come h

-- Each class has come, or may come next, or waits, or is still to be looked at.
pub record IsQueueOf (others members : List (List ℕ)) (come : List Bool) (order passed : List ℕ) (waiting : List (List ℕ))
    (ready todo : List ℕ) : Type 0 where
  pub in_order : AreInOrder others members order
  pub come_each : length come ≡ length others
  pub passed_each : length passed ≡ length others
  pub waiting_each : length waiting ≡ length others
  pub come_on : (k : ℕ) → HasCome come k → Contains order k
  pub come_back : (k : ℕ) → Contains order k → HasCome come k
  pub passed_come : (k e : ℕ) → e < slice_index passed k → e < length (group_at others k) →
      HasCome come (slice_index (group_at others k) e)
  pub somewhere : (k : ℕ) → k < length others → IsToCome come k → Contains ready (least_of members k) ⊎
      (IsWaiting others come waiting k ⊎ Contains todo k)
  pub ready_only : (a : ℕ) → Contains ready a → (k : ℕ) × (k < length others) × (least_of members k ≡ a) × IsToCome come k ×
      HaveCome others come k
  pub waiting_only : (h k : ℕ) → Contains (group_at waiting h) k → (k < length others) × Contains (group_at others k) h
  pub todo_only : (k : ℕ) → Contains todo k → (k < length others) × IsToCome come k

-- the same of what a program holds
abbrev pub IsQueue : List (List ℕ) → List (List ℕ) → Queue → List ℕ → Type 0
IsQueue others members q todo = IsQueueOf others members q.come.items q.order.items q.passed.items q.waiting.items q.ready.keys todo

-- no class of so many has come, and each is to be looked at
abbrev pub IsBegun : ℕ → Queue → Type 0
IsBegun count q =
    (others members : List (List ℕ)) (todo : List ℕ) → length others ≡ count → ((k : ℕ) → k < count → Contains todo k) →
    All (λ k. k < count) todo → IsQueue others members q todo

-- the class may come next, and has the least member of those that may
pub record MayTake (others members : List (List ℕ)) (q : Queue) (k : ℕ) : Type 0 where
  pub queue : IsQueue others members q (k ∷ [])
  pub free : HaveCome others q.come.items k
  pub first : (a : ℕ) → Contains q.ready.keys a → least_of members k < a

-- the class is the next to be looked at
pub record MaySettle (others members : List (List ℕ)) (q : Queue) (k : ℕ) : Type 0 where
  pub rest : List ℕ
  pub queue : IsQueue others members q (k ∷ rest)
  pub within : k < length others
  pub each : length members ≡ length others
  pub full : 0 < length (group_at members k)
  pub down : (h : ℕ) → Contains (group_at others k) h → h < k

-- how many classes are to come
abbrev pub left_to_come : List Bool → ℕ
left_to_come come = sum_by (λ b. if b then 0 else 1) come

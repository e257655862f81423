-- The laws of the lower and the upper relations.
use Rattle.std.proofs.Common.{◌≡◌, ◌⊎◌, Bool, [], ◌∷◌, refl}
use Rattle.rt_lines.specs.declared.label.Label.{Label}
use Rattle.rt_lines.specs.declared.label.Label.TheVariants.{Load, Store}
use Rattle.rt_lines.specs.declared.label.Variance.{Variance}
use Rattle.rt_lines.specs.declared.label.Variance.TheVariants.{Co, Contra}
use Rattle.rt_lines.specs.declared.variable.Base.{Base}
use Rattle.rt_lines.specs.Words.{label_variance, variance_of_word}
use Rattle.rt_bridge.specs.Growing.{Var, at, dot, Given, Fact, V, S, Der, HasSub}
use Rattle.rt_bridge.specs.Counted.{Flip}
use Rattle.rt_bridge.specs.Laws.{Named, AreNamed}
use Rattle.rt_enclosing.specs.Lower.{IsThere, Lower, self, chain, line, meet, meet_turned, meet_onward, co, contra, pointer_co}
use Rattle.rt_enclosing.specs.Lower.{below as lies_below, meets as both_above}
use Rattle.rt_enclosing.specs.Upper.{IsUpper, HasHub, IsByHubs, Steps, stay, by_line, by_push}
use Rattle.rt_enclosing.specs.Implicit.{IsAccess, Shown, AreImplicit, ArePushedBehind}
use Rattle.rt_enclosing.specs.Laws.{Holds, HasLines, LowerLaw, UpperLaw, FewerLaw, HubsLaw, ExactLaw, ImplicitLaw, TurningLaw, NeedNoHub}
use Rattle.rt_enclosing.proofs.Lower.{lower_means}
use Rattle.rt_enclosing.proofs.Upper.{steps_to, is_above}
use Rattle.rt_enclosing.proofs.Turning.{turning_steps}
use Rattle.rt_enclosing.proofs.Implicit.{Wide, Joint, wide_upper, wide_lines, bared}
use Rattle.rt_bridge.proofs.Lawful.{decide}

by_letter : (l : Label) (s : Variance) → label_variance l ≡ s → variance_of_word (l ∷ []) ≡ s
by_letter l Co e = rw e refl
by_letter l Contra e = rw e refl

pub lower_law : LowerLaw
lower_law L named r x y p = lower_means L (Named named) p

pub upper_law : UpperLaw
upper_law L named below meets are upper lines x y p q d =
    is_above L L (Named named) (Holds below) (Holds meets) (Holds below) upper (λ f e. e) are.parents lines
    (λ z. decide (named z)) are.bases are.sides p q d

pub fewer_law : FewerLaw
fewer_law L fewer named below meets pushed are more upper lines x y p q d =
    steps_to L fewer (Named named) (Holds below) (Holds meets) (Holds pushed) upper more are.parents lines
    (λ z. decide (named z)) are.bases are.sides p q d

-- hubs are common lower variables
module _ (L : Given) (M : Var → Type 0) (below pushed : Var → Var → Type 0) (by : IsByHubs L M below pushed) where
  -- one or more of what is pushed, one after another
  pub data Pushes : Var → Var → Type 0 where
    once : {x y : Var} → pushed x y → Pushes x y
    again : {x y z : Var} → pushed x y → Pushes y z → Pushes x z

  pushes_below : {x y : Var} → Pushes x y → below x y
  pushes_below (once p) = by.stays p
  pushes_below (again p s) = by.chain (by.stays p) (pushes_below s)

  over_hub : {x y : Var} → M (dot x Store) → M (dot y Load) → HasHub M below x y → Pushes (dot x Store) (dot y Load)
  over_hub m n h =
      again (by.contra Store refl h.store m h.first) (again (by.pointer h.store h.load) (once (by.co Load refl h.load n h.second)))

  alone_hub : {x : Var} → IsThere L M x → Flip L x → HasHub M below x x
  alone_hub {x} t f =
      let r : M (dot x Load) × M (dot x Store) = by.filled t f in
      record { hub = x; load = r.0; store = r.1; first = by.self t.0; second = by.self t.0 }

  turned_hub : {x y : Var} → HasHub M below x y → HasHub M below y x
  turned_hub h = record { hub = h.hub; load = h.load; store = h.store; first = h.second; second = h.first }

  onward_hub : {x y z : Var} → HasHub M below x y → below y z → HasHub M below x z
  onward_hub h b = record { hub = h.hub; load = h.load; store = h.store; first = h.first; second = by.chain h.second b }

  pub by_hubs : IsUpper L M below (HasHub M below) Pushes
  by_hubs = record {
    self = λ t. by.self t.0;
    chain = by.chain;
    stays = pushes_below;
    co = λ l e t u s b. once (by.co l e t.0 u.0 b);
    contra = λ l e t u s b. once (by.contra l e t.0 u.0 b);
    pointer = λ t u f s h. over_hub t.0 u.0 h;
    alone = alone_hub;
    turned = turned_hub;
    onward = onward_hub;
    hubs = by.hubs;
  }

  module _ (fewer : Given) where
    push_steps : {x y z : Var} → Pushes x y → Steps fewer pushed y z → Steps fewer pushed x z
    push_steps (once p) s = by_push p s
    push_steps (again p r) s = by_push p (push_steps r s)

    pub all_steps : {x y : Var} → Steps fewer Pushes x y → Steps fewer pushed x y
    all_steps stay = stay
    all_steps (by_line h s) = by_line h (all_steps s)
    all_steps (by_push p s) = push_steps p (all_steps s)

    hub_steps : ((f : Fact) → Der fewer f → Der L f) → ((x : Var) (l : Label) → M (dot x l) → M x) → HasLines fewer below →
        ((x : Var) → M x ⊎ (M x → ⊥)) → ((b : Base) → Der fewer (V (at b)) → M (at b)) → ((x y : Var) → HasSub fewer x y → M x × M y) →
        {x y : Var} → M x → M y → Der fewer (S x y) → Steps fewer Pushes x y
    hub_steps more parents lines dec bases sides p q d =
        steps_to L fewer M below (HasHub M below) Pushes by_hubs more parents lines dec bases sides p q d

pub hubs_law : HubsLaw
hubs_law L fewer named below pushed are more by lines x y p q d =
    all_steps L (Named named) (Holds below) (Holds pushed) by fewer
    (hub_steps L (Named named) (Holds below) (Holds pushed) by fewer more are.parents lines
    (λ z. decide (named z)) are.bases are.sides p q d)

-- the lower relation, where it has the hubs that are needed
module _ (L : Given) (M : Var → Type 0) (none : NeedNoHub L M) where
  lower_upper : IsUpper L M (Lower L M lies_below) (Lower L M both_above) (Lower L M lies_below)
  lower_upper = record {
    self = self;
    chain = chain;
    stays = λ p. p;
    co = λ l e t u s p. co (l ∷ []) (by_letter l Co e) p t u;
    contra = λ l e t u s p. contra (l ∷ []) (by_letter l Contra e) p t u;
    pointer = λ t u f s m. pointer_co [] refl m t u;
    alone = λ t f. meet (self t) (self t);
    turned = meet_turned;
    onward = meet_onward;
    hubs = λ {x} {y} {l} {m} n. none x y l m n;
  }

  lower_is_all : ((x : Var) → M x ⊎ (M x → ⊥)) → ((x : Var) (l : Label) → M (dot x l) → M x) → ((b : Base) → Der L (V (at b)) → M (at b)) →
      ((x y : Var) → HasSub L x y → M x × M y) → {x y : Var} → M x → M y → Der L (S x y) → Lower L M lies_below x y
  lower_is_all dec parents bases sides p q d =
      is_above L L M (Lower L M lies_below) (Lower L M both_above) (Lower L M lies_below)
      lower_upper (λ f e. e) parents (λ u v h. line h) dec bases sides p q d

pub exact_law : ExactLaw
exact_law L named are none x y p q =
    (lower_is_all L (Named named) none (λ z. decide (named z)) are.parents are.bases are.sides p q, lower_means L (Named named))

-- loads and stores that are left out
module _ (L fewer : Given) (named implicit : Var → Bool) (below meets pushed : Var → Var → Bool) (are : AreNamed fewer named)
    (imp : AreImplicit L fewer (Named implicit))
    (upper : IsUpper L (Shown (Named named) (Named implicit)) (Holds below) (Holds meets) (Holds pushed))
    (behind : ArePushedBehind L (Shown (Named named) (Named implicit)) (Named implicit) (Holds below) (Holds meets) (Holds pushed)) where
  dec : (x : Var) → Named implicit x ⊎ (Named implicit x → ⊥)
  dec x = decide (implicit x)

  abbrev More : (Var → Var → Type 0) → Var → Var → Type 0
  More = Wide L fewer (Named named) (Named implicit) (Holds below) (Holds meets) (Holds pushed) dec are.parents imp upper behind

  abbrev MayMeet : Var → Var → Type 0
  MayMeet = Joint L fewer (Named named) (Named implicit) (Holds below) (Holds meets) (Holds pushed) dec are.parents imp upper behind

  with_all : IsUpper L (Named named) (More (Holds below)) MayMeet (More (Holds pushed))
  with_all = wide_upper L fewer (Named named) (Named implicit) (Holds below) (Holds meets) (Holds pushed) dec are.parents imp upper behind

  line_in : HasLines fewer (Holds below) → (x y : Var) → HasSub fewer x y → More (Holds below) x y
  line_in = wide_lines L fewer (Named named) (Named implicit) (Holds below) (Holds meets) (Holds pushed) dec are.parents imp upper behind

  bare : {x y : Var} → (IsAccess (Named implicit) x → ⊥) → Steps fewer (More (Holds pushed)) x y → Steps fewer (Holds pushed) x y
  bare = bared L fewer (Named named) (Named implicit) (Holds below) (Holds meets) (Holds pushed) dec are.parents imp upper behind

  led : ((f : Fact) → Der fewer f → Der L f) → HasLines fewer (Holds below) →
      {x y : Var} → Named named x → Named named y → Der fewer (S x y) → Steps fewer (More (Holds pushed)) x y
  led more lines p q d =
      steps_to L fewer (Named named) (More (Holds below)) MayMeet (More (Holds pushed)) with_all more are.parents (line_in lines)
      (λ z. decide (named z)) are.bases are.sides p q d

pub implicit_law : ImplicitLaw
implicit_law L fewer named implicit below meets pushed are more imp upper behind lines x y p q d =
    bare L fewer named implicit below meets pushed are imp upper behind p.1
    (led L fewer named implicit below meets pushed are imp upper behind more lines p.0 q.0 d)

pub turning_law : TurningLaw
turning_law L fewer named matters below meets joins pushed are more upper lines x y p q d =
    turning_steps L fewer (Named named) (Named matters) (Holds below) (Holds meets) (Holds joins) (Holds pushed) upper more are.parents lines
    (λ z. decide (named z)) are.bases are.sides p q d

-- What tables say of variables whose bases lines name.
use Rattle.std.proofs.Common.{◌≡◌, ◌≢◌, ℕ, Bool, true, false, List, Contains, Option, Some, None, IfSome, refl, sym, subst}
use Rattle.std.proofs.lemmas.List.{take-append-drop}
use Rattle.rt_lines.specs.declared.variable.Base.{Base}
use Rattle.rt_lines.specs.declared.variable.Base.TheVariants.{Exist}
use Rattle.rt_lines.specs.declared.variable.Dtv.{Dtv}
use Rattle.rt_lines.specs.declared.line.Line.{Line}
use Rattle.rt_lines.specs.declared.line.Line.TheVariants.{Var, Same, Sub, Low, Up}
use Rattle.rt_lines.specs.Orders.{Below}
use Rattle.rt_rules.specs.Rules.{Derivable}
use Rattle.rt_rules.specs.Rules.Derivable.{named, prefix, left_side, right_side, same_letter, same_line, same_sub, same_self, same_back, same_chain, same_longer}
use Rattle.rt_rules.specs.Rules.Derivable.{sub_line, sub_self, sub_chain, sub_co, sub_contra, sub_pointer, low_line, up_line, low_sub, up_sub}
use Rattle.rt_rules.specs.Laws.{NamesBase}
use Rattle.rt_rules.specs.Put.{put_lines}
use Rattle.rt_rules.proofs.Covering.{derives_more}
use Rattle.rt_polar.specs.Tidied.{tidied}
use Rattle.rt_reduction.specs.Merges.{IsEqualTo, Merges}
use Rattle.rt_reduction.specs.Merges.Merges.{none_left, merges}
use Rattle.rt_reduction.proofs.Dropping.{kept_derive}
use Rattle.rt_sat.specs.declared.increments.GrowingTable.{GrowingTable as Growing}
use Rattle.rt_sat.specs.Increments.{Tells}
use Rattle.rt_sure.specs.Grounds.{IsTableOf}
use Rattle.rt_reduce.specs.Inside.Deciding.{IsTableAbout}
use Rattle.rt_reduce.specs.Inside.Dropping.{AreLeft}
use Rattle.rt_reduce.proofs.Compared.{below_kept, gone, was_named}

-- an optional value of which something is known is one of which what follows from that is known
pub some_more : {X : Type 0} (o : Option X) (P Q : X → Type 0) → ((x : X) → P x → Q x) → IfSome o P → IfSome o Q
some_more None P Q more h = h
some_more (Some x) P Q more h = more x h

-- whether the line is a bound
abbrev is_bound : Line → Bool
is_bound (Var x) = false
is_bound (Same x y) = false
is_bound (Sub x y) = false
is_bound (Low k x) = true
is_bound (Up x k) = true

-- what is no bound is derivable with any order
other_order : (order other : Below) (lines : List Line) {j : Line} → Derivable order lines j → is_bound j ≡ false → Derivable other lines j
other_order order other lines (named l c h) f = named l c h
other_order order other lines (prefix l d) f = prefix l (other_order order other lines d refl)
other_order order other lines (left_side d) f = left_side (other_order order other lines d refl)
other_order order other lines (right_side d) f = right_side (other_order order other lines d refl)
other_order order other lines (same_letter l d e) f = same_letter l (other_order order other lines d refl) (other_order order other lines e refl)
other_order order other lines (same_line c) f = same_line c
other_order order other lines (same_sub d) f = same_sub (other_order order other lines d refl)
other_order order other lines (same_self d) f = same_self (other_order order other lines d refl)
other_order order other lines (same_back d) f = same_back (other_order order other lines d refl)
other_order order other lines (same_chain d e) f = same_chain (other_order order other lines d refl) (other_order order other lines e refl)
other_order order other lines (same_longer l d e) f = same_longer l (other_order order other lines d refl) (other_order order other lines e refl)
other_order order other lines (sub_line c) f = sub_line c
other_order order other lines (sub_self d) f = sub_self (other_order order other lines d refl)
other_order order other lines (sub_chain d e) f = sub_chain (other_order order other lines d refl) (other_order order other lines e refl)
other_order order other lines (sub_co l d e s) f = sub_co l (other_order order other lines d refl) (other_order order other lines e refl) s
other_order order other lines (sub_contra l d e s) f = sub_contra l (other_order order other lines d refl) (other_order order other lines e refl) s
other_order order other lines (sub_pointer x d e) f = sub_pointer x (other_order order other lines d refl) (other_order order other lines e refl)
other_order order other lines (low_line c) f = let g : true ≡ false = f in absurd (cc)
other_order order other lines (up_line c) f = let g : true ≡ false = f in absurd (cc)
other_order order other lines (low_sub d e a) f = let g : true ≡ false = f in absurd (cc)
other_order order other lines (up_sub d e a) f = let g : true ≡ false = f in absurd (cc)

-- what existentials merging leaves were named before
merged_named : (order : Below) (left lines : List Line) → Merges order left lines → (m : ℕ) → NamesBase left (Exist m) → NamesBase lines (Exist m)
merged_named order left _ (none_left _) m h = h
merged_named order left _ (merges n z lines is rest) m h =
    let e : IsEqualTo order lines n z = is.equal in
    was_named lines n z e.other_base (e.line, e.stands, e.is_side) m (merged_named order left (tidied (put_lines n z lines)) rest m h)

-- what lay below something before existentials were merged still does, where both are named
merged_below : (order : Below) (left lines : List Line) → Merges order left lines → (x y : Dtv) → NamesBase left x.base →
    NamesBase left y.base → Derivable order lines (Sub x y) → Derivable order left (Sub x y)
merged_below order left _ (none_left _) x y h k d = d
merged_below order left _ (merges n z lines is rest) x y h k d =
    let e : IsEqualTo order lines n z = is.equal in
    let after : List Line = tidied (put_lines n z lines) in
    let apart : (v : Dtv) → NamesBase left v.base → v.base ≢ Exist n = λ v g f.
    gone lines n z e.other_base n (merged_named order left after rest n (subst (NamesBase left) f g)) refl in
    merged_below order left after rest x y h k ((below_kept lines n z e.other_base order e.above e.below x y (apart x h) (apart y k)).0 d)

-- a table of lines tells of what is left when existentials were merged
pub merged_about : (lines left : List Line) (growing : Growing) → ((order : Below) → Merges order left lines) → Tells lines growing →
    IsTableAbout left growing
merged_about lines left growing are tells = record {
  told = lines;
  tells = tells;
  carried = λ order. merged_below order left lines (are order);
}

-- a table of lines tells of what is left when lines went that are no flow
pub about_left : (order : Below) (lines left : List Line) (first : ℕ) (growing : Growing) → AreLeft order lines first left →
    ((l : Line) → Contains left l → Contains lines l) → IsTableAbout lines growing → IsTableAbout left growing
about_left order lines left first growing are stood is = record {
  told = is.told;
  tells = is.tells;
  carried = λ other x y h k d.
      other_order order other left (derives_more order lines left gives
      (other_order other order lines (is.carried other x y (named_by x.base h) (named_by y.base k) d) refl)) refl;
}
  where
    named_by : (b : Base) → NamesBase left b → NamesBase lines b
    named_by b (l, x, c, h, e) = (l, x, stood l c, h, e)

    gives : (l : Line) → Contains lines l → Derivable order left l
    gives l c = subst (λ ls. Derivable order ls l) (sym are.stand)
        (kept_derive order are.drops l (subst (λ ls. Contains ls l) (sym (take-append-drop first lines)) c))

-- a table of what lines derive tells of them
pub about_own : (lines : List Line) (growing : Growing) → IsTableOf lines growing → IsTableAbout lines growing
about_own lines growing is = record {
  told = is.told;
  tells = is.tells;
  carried = λ order x y h k d. derives_more order is.told lines (is.derived order) d;
}

-- Views that are read one after the other.
use Rattle.std.proofs.Common.{◌≡◌, ℕ, suc, ◌+◌, ◌-◌, ◌<◌, Bool, true, false, cond, List, [], ◌∷◌}
use Rattle.std.proofs.Common.{◌++◌, Option, Some, None, Result, Ok, Err, length, nat_lt, ◌&&◌}
use Rattle.std.proofs.Common.{refl, sym, ap, ◌∙◌, arith}
use Rattle.std.specs.Prelude.{unwrap_or}
use Rattle.std.specs.Option.{option_map_or}
use Rattle.std.proofs.lemmas.Option.{none-some, same_Some}
use Rattle.be_facts.proofs.Numbers.{nat_lt_tells}
use Rattle.be_facts.proofs.Truths.{and_both, false_is_not_true}
use Rattle.be_message.specs.Messages.{Field, Message}
use Rattle.be_views.specs.Trees.{View, Tree}
use Rattle.be_views.specs.Whole.{depth_of}
use Rattle.be_archive.specs.Reading.{Refusal, bad_view, can_follow, if_follows, row_at, view_then}
use Rattle.be_archive.specs.Reading.{size_in, tree_in, views_behind, views_from, views_in}
use Rattle.be_archive.specs.Faults.{IsFault, IsRefusal}
use Rattle.be_archive.specs.declared.fault.ArchiveFault.{ArchiveFault}
use Rattle.be_archive.specs.declared.fault.ArchiveFault.TheVariants as fault
use Rattle.be_geom.specs.declared.point.Point.{Point}
use Rattle.be_archive.specs.Rows.{depth_behind}

pub not_ok : {A E : Type 0} (e : E) (x : A) → Err e ≡ Ok x → ⊥
not_ok e x h = cc

-- a view that can follow has a parent that stands before it
pub record Follows (tree : Tree) (view : View) : Type 0 where
  pub parent : ℕ
  pub is : view.parent ≡ Some parent
  pub before : parent < length tree
  pub above : depth_of tree parent < 8

by_parent : (tree : Tree) (view : View) (o : Option ℕ) → view.parent ≡ o
    → option_map_or (λ p. nat_lt p (length tree) && nat_lt (depth_of tree p) 8) o false ≡ true
    → Follows tree view
by_parent tree view None is h = absurd (false_is_not_true h)
by_parent tree view (Some p) is h =
    let both = and_both (nat_lt p (length tree)) (nat_lt (depth_of tree p) 8) h in
    record {
      parent = p;
      is = is;
      before = nat_lt_tells p (length tree) both.0;
      above = nat_lt_tells (depth_of tree p) 8 both.1;
    }

pub follows : (tree : Tree) (view : View) → can_follow tree view ≡ true → Follows tree view
follows tree view h = by_parent tree view view.parent refl h

-- ---- one view more

module _ (fs : List Field) (n k : ℕ) (tree : Tree) where
  pub one_view : (o : Option View) → row_at k fs ≡ o
      → views_from fs (suc n) k tree ≡ view_then k tree o (views_from fs n (k + 1))
  one_view o is = ap (λ (p : Option View). view_then k tree p (views_from fs n (k + 1))) is

  follow_by : (b : Bool) (view : View) → can_follow tree view ≡ b
      → if_follows k tree view (views_from fs n (k + 1))
      ≡ cond b (views_from fs n (k + 1) (tree ++ view ∷ [])) (Err (bad_view (k + 1)))
  follow_by b view is =
      ap (λ (c : Bool). cond c (views_from fs n (k + 1) (tree ++ view ∷ []))
      (Err (bad_view (k + 1)))) is

  -- a view that follows
  pub goes_on : (view : View) → row_at k fs ≡ Some view → can_follow tree view ≡ true
      → views_from fs (suc n) k tree ≡ views_from fs n (k + 1) (tree ++ view ∷ [])
  goes_on view is can = one_view (Some view) is ∙ follow_by true view can

  -- what can't be read, and what can't follow
  pub stops : (view : View) → row_at k fs ≡ Some view → can_follow tree view ≡ false
      → views_from fs (suc n) k tree ≡ Err (bad_view (k + 1))
  stops view is can = one_view (Some view) is ∙ follow_by false view can

  by_test : (b : Bool) (view : View) → can_follow tree view ≡ b
      → cond b (Some (depth_of tree (unwrap_or view.parent 0) + 1)) None ≡ None → b ≡ false
  by_test true view can h = absurd (none-some _ (sym h))
  by_test false view can h = refl

  pub ends : (o : Option View) → row_at k fs ≡ o → depth_behind tree o ≡ None
      → views_from fs (suc n) k tree ≡ Err (bad_view (k + 1))
  ends None is h = one_view None is
  ends (Some view) is h = stops view is (by_test (can_follow tree view) view refl h)

  yes_test : (b : Bool) (d e : ℕ) → cond b (Some e) None ≡ Some d → (b ≡ true) × (d ≡ e)
  yes_test true d e h = (refl, sym (same_Some e d h))
  yes_test false d e h = absurd (none-some d h)

  -- the view, which follows, and how deep it lies
  pub read_view : (o : Option View) (d : ℕ) → depth_behind tree o ≡ Some d
      → (view : View) × (o ≡ Some view) × (can_follow tree view ≡ true)
      × (d ≡ depth_of tree (unwrap_or view.parent 0) + 1)
  read_view None d h = absurd (none-some d h)
  read_view (Some view) d h =
      let both = yes_test (can_follow tree view) d _ h in (view, refl, both.0, both.1)

  -- ---- where all can

  pub some_row : (o : Option View) (final : Tree) → row_at k fs ≡ o
      → views_from fs (suc n) k tree ≡ Ok final → o ≡ None → ⊥
  some_row o final is ok none =
      not_ok (bad_view (k + 1)) final (sym (one_view None (is ∙ none)) ∙ ok)

  can_by : (b : Bool) (view : View) (final : Tree) → can_follow tree view ≡ b
      → row_at k fs ≡ Some view → views_from fs (suc n) k tree ≡ Ok final → b ≡ true
  can_by true view final can is ok = refl
  can_by false view final can is ok =
      absurd (not_ok (bad_view (k + 1)) final (sym (stops view is can) ∙ ok))

  pub can : (view : View) (final : Tree) → row_at k fs ≡ Some view
      → views_from fs (suc n) k tree ≡ Ok final → can_follow tree view ≡ true
  can view final is ok = can_by (can_follow tree view) view final refl is ok

-- so many are left
pub left : (count k : ℕ) → k < count → count - k ≡ suc (count - (k + 1))
left count k h = omega arith

-- ---- faults

pub no_size : (f : ArchiveFault) (fs : List Field) (r : Result Point Refusal) → IsRefusal f r
    → IsFault f (views_behind fs r)
no_size fault.NotArchive fs r h = ap (views_behind fs) h
no_size fault.BadSize fs r h = ap (views_behind fs) h
no_size fault.TooMany fs r h = ap (views_behind fs) h
no_size (fault.BadView view) fs r h = ap (views_behind fs) h
no_size fault.NoMemory fs r h = absurd h

pub no_views : (f : ArchiveFault) (r s : Result Tree Refusal) → s ≡ r → IsRefusal f r → IsFault f s
no_views fault.NotArchive r s is h = is ∙ h
no_views fault.BadSize r s is h = is ∙ h
no_views fault.TooMany r s is h = is ∙ h
no_views (fault.BadView view) r s is h = is ∙ h
no_views fault.NoMemory r s is h = absurd h

-- the tree behind a size that was read
pub behind : (m : Message) (size : Point) → size_in m ≡ Ok size
    → tree_in m ≡ views_in m.fields size
unfolding tree_in
behind m size is = ap (views_behind m.fields) is

pub no_tree : (f : ArchiveFault) (m : Message) → IsRefusal f (size_in m) → IsFault f (tree_in m)
unfolding tree_in
no_tree f m h = no_size f m.fields (size_in m) h

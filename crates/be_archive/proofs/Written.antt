-- Fields that are written value by value.
use Rattle.std.proofs.Common.{◌≡◌, ℕ, zero, suc, ◌+◌, ◌-◌, ◌<◌, Some, Result, Ok, Err, OnOk}
use Rattle.std.proofs.Common.{length, take, arith}
use Rattle.std.specs.Prelude.{codes, option_map, slice_get}
use Rattle.std.proofs.Math.Seq.{take-length}
use Rattle.std.proofs.lemmas.List.{take_more}
use Rattle.std.proofs.lemmas.Option.{none-some, same_Some, slice_get_within}
use Rattle.std.proofs.lemmas.Option.{get_or_from_slice_get}
use Rattle.be_geom.specs.declared.rect.Rect.{Rect}
use Rattle.std.proofs.Common.{Bool, true, false, cond, ◌||◌, List, [], ◌∷◌, ◌++◌, map, append-nil}
use Rattle.std.proofs.Common.{refl}
use Rattle.std.proofs.Common.{sym, ap, ◌∙◌}
use Rattle.std.specs.List.{list_any}
use Rattle.std.specs.Str.{bytes_eq}
use Rattle.std.proofs.lemmas.List.{map-append}
use Rattle.std.proofs.lemmas.List.Folds.{list_any-append}
use Rattle.be_facts.proofs.Truths.{or_middle, false_is_not_true}
use Rattle.be_facts.proofs.Bytes.{bytes_eq_self}
use Rattle.be_message.specs.declared.kind.Kind.{Kind}
use Rattle.be_message.specs.declared.kind.Kind.TheVariants as kind
use Rattle.be_message.specs.Fields.{changed_at, has_name, new_field, with_one_more, with_value_in}
use Rattle.be_message.specs.Messages.{Datum, Field, Message}
use Rattle.be_message.specs.Sound.{kind_of}
use Rattle.be_message.proofs.PlaceLemmas.{changed_none}
use Rattle.be_views.specs.Trees.{View, Tree}
use Rattle.be_archive.specs.Archives.{column, field_of, further, size_fields, size_value}
use Rattle.be_archive.specs.Columns.{column_kind, column_of, column_value}
use Rattle.be_archive.specs.declared.columns.Column.{Column}
use Rattle.be_archive.specs.declared.columns.Column.TheVariants as columns

-- fields of other names stay
kept : (b : Bool) (f g : Field) (fs gs : List Field) → b ≡ false → gs ≡ fs
    → cond b g f ∷ gs ≡ f ∷ fs
kept true f g fs gs h is = absurd (false_is_not_true (sym h))
kept false f g fs gs h is = ap (λ (l : List Field). f ∷ l) is

by_none : (b : Bool) (gs hs : List Field) → b ≡ false → cond b gs hs ≡ hs
by_none true gs hs h = absurd (false_is_not_true (sym h))
by_none false gs hs h = refl

by_some : (b : Bool) (gs hs : List Field) → b ≡ true → cond b gs hs ≡ gs
by_some true gs hs h = refl
by_some false gs hs h = absurd (false_is_not_true h)

one_changed : (b : Bool) (f g : Field) → b ≡ true → cond b g f ∷ [] ≡ g ∷ []
one_changed true f g h = refl
one_changed false f g h = absurd (false_is_not_true h)

module _ (name : List ℕ) (k : Kind) (value : View → Datum) (fs : List Field)
    (none : list_any (has_name name) fs ≡ false) where
  there : (f : Field) → has_name name f ≡ true → list_any (has_name name) (fs ++ f ∷ []) ≡ true
  there f is = list_any-append (has_name name) fs (f ∷ [])
      ∙ or_middle (list_any (has_name name) fs) (has_name name f) is

  changed_last : (change : Field → Field) (f : Field) → has_name name f ≡ true
      → changed_at name change (fs ++ f ∷ []) ≡ fs ++ change f ∷ []
  changed_last change f is =
      map-append (λ (g : Field). cond (has_name name g) (change g) g) fs (f ∷ [])
      ∙ (ap (λ (l : List Field). l ++ cond (has_name name f) (change f) f ∷ [])
      (changed_none name change fs none)
      ∙ ap (λ (l : List Field). fs ++ l) (one_changed (has_name name f) f (change f) is))

  -- the field has one value more
  pub grown : (vs : List View) (v : View) (d : Datum) → d ≡ value v → kind_of d ≡ k
      → with_value_in (fs ++ column name k value vs) name d ≡ fs ++ column name k value (vs ++ v ∷ [])
  grown [] v d is sort =
      ap (λ (l : List Field). with_value_in l name d) (append-nil fs)
      ∙ (by_none (list_any (has_name name) fs) (changed_at name (with_one_more d) fs)
      (fs ++ new_field name d ∷ []) none
      ∙ (ap (λ (q : Kind). fs ++ field_of name q (d ∷ []) ∷ []) sort
      ∙ ap (λ (e : Datum). fs ++ field_of name k (e ∷ []) ∷ []) is))
  grown (w ∷ ws) v d is sort =
      let f = field_of name k (map value (w ∷ ws)) in
      by_some (list_any (has_name name) (fs ++ f ∷ []))
      (changed_at name (with_one_more d) (fs ++ f ∷ []))
      ((fs ++ f ∷ []) ++ new_field name d ∷ []) (there f (bytes_eq_self name))
      ∙ (changed_last (with_one_more d) f (bytes_eq_self name)
      ∙ (ap (λ (e : Datum). fs ++ field_of name k (map value (w ∷ ws) ++ e ∷ []) ∷ []) is
      ∙ ap (λ (l : List Datum). fs ++ field_of name k l ∷ [])
      (sym (map-append value (w ∷ ws) (v ∷ [])))))

-- a column of another name brings none
pub none_more : (name other : List ℕ) (k : Kind) (value : View → Datum) (vs : List View)
    (fs : List Field) → list_any (has_name name) fs ≡ false → bytes_eq other name ≡ false
    → list_any (has_name name) (fs ++ column other k value vs) ≡ false
none_more name other k value [] fs none differs =
    ap (list_any (has_name name)) (append-nil fs) ∙ none
none_more name other k value (v ∷ vs) fs none differs =
    list_any-append (has_name name) fs (field_of other k (map value (v ∷ vs)) ∷ [])
    ∙ (ap (λ (b : Bool). b || (bytes_eq other name || false)) none
    ∙ ap (λ (b : Bool). b || false) differs)

pub kind_is : (c : Column) (v : View) → kind_of (column_value c v) ≡ column_kind c
kind_is columns.Parent v = refl
kind_is columns.Frame v = refl
kind_is columns.Across v = refl
kind_is columns.Down v = refl

-- ---- views by number

-- one view more of those behind the root
pub one_further : (tree : Tree) (n : ℕ) (v : View) → 0 < n → slice_get tree n ≡ Some v
    → take (n + 1 - 1) (further tree) ≡ take (n - 1) (further tree) ++ v ∷ []
one_further [] n v some is = absurd (none-some v is)
one_further (root ∷ views) zero v some is = absurd (omega arith)
one_further (root ∷ views) (suc m) v some is =
    let a : suc m + 1 - 1 ≡ m + 1 = omega arith in
    let b : suc m - 1 ≡ m = omega arith in
    ap (λ (k : ℕ). take k views) a
    ∙ (take_more views m v (slice_get_within views m v is)
    ∙ (ap (λ (w : View). take m views ++ w ∷ []) (get_or_from_slice_get views m v v is)
    ∙ ap (λ (k : ℕ). take k views ++ v ∷ []) (sym b)))

pub all_further : (tree : Tree) (n : ℕ) → n ≡ length tree → 0 < n
    → take (n - 1) (further tree) ≡ further tree
all_further [] n is some = absurd (let k : n ≡ 0 = is in omega (arith, k, some))
all_further (root ∷ views) n is some =
    let a : n - 1 ≡ length views = omega (arith, is) in
    ap (λ (k : ℕ). take k views) a ∙ take-length views

pub sized : (tree : Tree) (frame : Rect) → option_map (λ (v : View). v.frame) (slice_get tree 0) ≡ Some frame
    → field_of (codes "size") kind.Point (size_value frame ∷ []) ∷ []
    ≡ size_fields tree
sized [] frame is = absurd (none-some frame is)
sized (root ∷ views) frame is =
    ap (λ (r : Rect). field_of (codes "size") kind.Point (size_value r ∷ []) ∷ [])
    (same_Some frame root.frame (sym is))

pub same_message : (m n : Message) → m.what ≡ n.what → m.fields ≡ n.fields → m ≡ n
same_message m n a b =
    ap (λ (w : ℕ). record { what = w; fields = m.fields }) a
    ∙ ap (λ (l : List Field). record { what = n.what; fields = l }) b

pub on_ok : {A E : Type 0} (r : Result A E) (P Q : Type 0) → (P → Q) → OnOk r P → OnOk r Q
on_ok (Ok x) P Q f p = f p
on_ok (Err e) P Q f p = p

-- ---- what the fields are

with_column : Column → List View → Message → Message
with_column c vs m = record m { fields = m.fields ++ column_of c vs }

pub filled : (vs : List View) (m n o p q : Message)
    → n ≡ record m { fields = m.fields ++ column_of columns.Parent vs }
    → o ≡ record n { fields = n.fields ++ column_of columns.Frame vs }
    → p ≡ record o { fields = o.fields ++ column_of columns.Across vs }
    → q ≡ record p { fields = p.fields ++ column_of columns.Down vs }
    → q ≡ record m {
      fields =
          (((m.fields ++ column_of columns.Parent vs) ++ column_of columns.Frame vs)
          ++ column_of columns.Across vs) ++ column_of columns.Down vs;
    }
unfolding with_column
filled vs m n o p q a b c d =
    d ∙ (ap (with_column columns.Down vs) c
    ∙ (ap (λ (l : Message). with_column columns.Down vs (with_column columns.Across vs l)) b
    ∙ ap (λ (l : Message). with_column columns.Down vs (with_column columns.Across vs
    (with_column columns.Frame vs l))) a))

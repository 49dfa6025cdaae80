-- Only the archive of a tree is read as that tree.
use Rattle.std.proofs.Common.{◌≡◌, ℕ, zero, suc, pos, negsuc, ◌+◌, ◌==◌, Bool, true, false}
use Rattle.std.proofs.Common.{nat_lt, cond, ◌&&◌, List, [], ◌∷◌, ◌++◌, map, length, Option, Some}
use Rattle.std.proofs.Common.{None}
use Rattle.std.proofs.Common.{Result, Ok, Err, refl, sym, ap, ◌∙◌, subst, append-nil, arith}
use Rattle.std.specs.Prelude.{codes, option_map, option_and_then, slice_get}
use Rattle.std.specs.Str.{bytes_eq}
use Rattle.std.proofs.lemmas.Option.{none-some, same_Some, option_and_then_some}
use Rattle.std.proofs.lemmas.Bool.Decides.{nat_tests}
use Rattle.std.proofs.lemmas.Slice.Eq.{bytes_eq-Decides}
use Rattle.be_follow.specs.declared.mode.Across.{Across}
use Rattle.be_follow.specs.declared.mode.Across.TheVariants as across
use Rattle.be_follow.specs.declared.mode.Down.{Down}
use Rattle.be_follow.specs.declared.mode.Down.TheVariants as down
use Rattle.be_follow.specs.declared.mode.Follow.{Follow}
use Rattle.be_geom.specs.declared.point.Point.{Point}
use Rattle.be_geom.specs.declared.rect.Rect.{Rect}
use Rattle.be_message.specs.declared.kind.Kind.{Kind}
use Rattle.be_message.specs.declared.kind.Kind.TheVariants as kind
use Rattle.be_message.specs.Kinds.{is_kind, kind_number}
use Rattle.be_message.specs.Messages.{Datum, bool, int, text, point, rect, message, Field, Message}
use Rattle.be_views.specs.Trees.{View, Tree}
use Rattle.be_views.specs.Whole.{root_view}
use Rattle.be_archive.specs.Archives.{across_number, across_value, archived, down_number}
use Rattle.be_archive.specs.Archives.{down_value}
use Rattle.be_archive.specs.Archives.{field_of, frame_value, parent_value, view_word}
use Rattle.be_archive.specs.Reading.{Refusal, not_archive, bad_size, too_many, have_form}
use Rattle.be_archive.specs.Reading.{is_archive}
use Rattle.be_archive.specs.Reading.{is_negative, size_in, size_of, tree_in, views_behind, views_in}
use Rattle.be_archive.specs.Reading.{mode_at, row_at, value_of, values_at}
use Rattle.be_archive.specs.Reading.{has_columns, has_size, is_field_at, value_count, view_count}
use Rattle.be_archive.specs.Reading.{views_from}
use Rattle.be_archive.specs.Values.{across_of, down_of, number_in, point_in, rect_in}
use Rattle.be_archive.proofs.Read.{can, goes_on, not_ok, some_row}
use Rattle.be_archive.proofs.Written.{same_message}
use Rattle.be_message.specs.Codes.{kind_again, numbered_kind}
use Rattle.std.proofs.lemmas.List.{append_assoc}
use Rattle.be_facts.proofs.Numbers.{eq_tells}
use Rattle.be_facts.proofs.Truths.{and_both, false_is_not_true}

-- ---- values

datum_point : (d : Datum) (p : Point) → point_in d ≡ Some p → d ≡ point p
datum_point (point q) p h = ap point (same_Some q p h)
datum_point (bool b) p h = absurd (none-some p h)
datum_point (int z) p h = absurd (none-some p h)
datum_point (text t) p h = absurd (none-some p h)
datum_point (rect r) p h = absurd (none-some p h)
datum_point (message what fs) p h = absurd (none-some p h)

datum_rect : (d : Datum) (r : Rect) → rect_in d ≡ Some r → d ≡ rect r
datum_rect (rect q) r h = ap rect (same_Some q r h)
datum_rect (bool b) r h = absurd (none-some r h)
datum_rect (int z) r h = absurd (none-some r h)
datum_rect (text t) r h = absurd (none-some r h)
datum_rect (point p) r h = absurd (none-some r h)
datum_rect (message what fs) r h = absurd (none-some r h)

datum_number : (d : Datum) (n : ℕ) → number_in d ≡ Some n → d ≡ int (pos n)
datum_number (int (pos m)) n h = ap (λ k. int (pos k)) (same_Some m n h)
datum_number (int (negsuc m)) n h = absurd (none-some n h)
datum_number (bool b) n h = absurd (none-some n h)
datum_number (text t) n h = absurd (none-some n h)
datum_number (point p) n h = absurd (none-some n h)
datum_number (rect r) n h = absurd (none-some n h)
datum_number (message what fs) n h = absurd (none-some n h)

across_is : (n : ℕ) (a : Across) → across_of n ≡ Some a → n ≡ across_number a
across_is zero a h = ap across_number (same_Some across.Left a h)
across_is (suc zero) a h = ap across_number (same_Some across.Right a h)
across_is (suc (suc zero)) a h = ap across_number (same_Some across.LeftRight a h)
across_is (suc (suc (suc zero))) a h = ap across_number (same_Some across.Center a h)
across_is (suc (suc (suc (suc n)))) a h = absurd (none-some a h)

down_is : (n : ℕ) (d : Down) → down_of n ≡ Some d → n ≡ down_number d
down_is zero d h = ap down_number (same_Some down.Top d h)
down_is (suc zero) d h = ap down_number (same_Some down.Bottom d h)
down_is (suc (suc zero)) d h = ap down_number (same_Some down.TopBottom d h)
down_is (suc (suc (suc zero))) d h = ap down_number (same_Some down.Center d h)
down_is (suc (suc (suc (suc n)))) d h = absurd (none-some d h)

-- ---- one view

-- what the fields have at a place is what they say of this view
record Says (fs : List Field) (k : ℕ) (v : View) : Type 0 where
  parent : slice_get (values_at 1 fs) k ≡ Some (parent_value v)
  frame : slice_get (values_at 2 fs) k ≡ Some (frame_value v)
  across : slice_get (values_at 3 fs) k ≡ Some (across_value v)
  down : slice_get (values_at 4 fs) k ≡ Some (down_value v)

map_some : {A B P : Type 0} (f : A → B) (o : Option A) (y : B) → option_map f o ≡ Some y
    → ((x : A) → o ≡ Some x → f x ≡ y → P) → P
map_some f None y h k = absurd (none-some y h)
map_some f (Some x) y h k = k x refl (same_Some (f x) y h)

-- a value, of which a number was read
number_there : (fs : List Field) (field k n : ℕ) → value_of number_in field k fs ≡ Some n
    → slice_get (values_at field fs) k ≡ Some (int (pos n))
number_there fs field k n h =
    option_and_then_some number_in (slice_get (values_at field fs) k) n h
    (λ d at is. at ∙ ap (λ (e : Datum). Some e) (datum_number d n is))

rect_there : (fs : List Field) (field k : ℕ) (r : Rect) → value_of rect_in field k fs ≡ Some r
    → slice_get (values_at field fs) k ≡ Some (rect r)
rect_there fs field k r h =
    option_and_then_some rect_in (slice_get (values_at field fs) k) r h
    (λ d at is. at ∙ ap (λ (e : Datum). Some e) (datum_rect d r is))

across_there : (fs : List Field) (k : ℕ) (a : Across)
    → option_and_then across_of (value_of number_in 3 k fs) ≡ Some a
    → slice_get (values_at 3 fs) k ≡ Some (int (pos (across_number a)))
across_there fs k a h =
    option_and_then_some across_of (value_of number_in 3 k fs) a h
    (λ n at is. number_there fs 3 k n at
    ∙ ap (λ (m : ℕ). Some (int (pos m))) (across_is n a is))

down_there : (fs : List Field) (k : ℕ) (d : Down)
    → option_and_then down_of (value_of number_in 4 k fs) ≡ Some d
    → slice_get (values_at 4 fs) k ≡ Some (int (pos (down_number d)))
down_there fs k d h =
    option_and_then_some down_of (value_of number_in 4 k fs) d h
    (λ n at is. number_there fs 4 k n at ∙ ap (λ (m : ℕ). Some (int (pos m))) (down_is n d is))

record SaysMode (fs : List Field) (k : ℕ) (m : Follow) : Type 0 where
  across : slice_get (values_at 3 fs) k ≡ Some (int (pos (across_number m.across)))
  down : slice_get (values_at 4 fs) k ≡ Some (int (pos (down_number m.down)))

says_mode : (fs : List Field) (k : ℕ) (m : Follow) → mode_at k fs ≡ Some m → SaysMode fs k m
says_mode fs k m h =
    option_and_then_some _ (option_and_then across_of (value_of number_in 3 k fs)) m h (λ a at_a h1.
    map_some (λ (d : Down). record { across = a; down = d })
    (option_and_then down_of (value_of number_in 4 k fs)) m h1 (λ d at_d is.
    subst (SaysMode fs k) is (record { across = across_there fs k a at_a; down = down_there fs k d at_d })))

says : (fs : List Field) (k : ℕ) (v : View) → row_at k fs ≡ Some v → Says fs k v
says fs k v h =
    option_and_then_some _ (value_of number_in 1 k fs) v h (λ p at_p h1.
    option_and_then_some _ (value_of rect_in 2 k fs) v h1 (λ r at_r h2.
    map_some (λ (m : Follow). record { parent = Some p; frame = r; mode = m }) (mode_at k fs) v h2
    (λ m at_m is.
    let mode = says_mode fs k m at_m in
    subst (Says fs k) is (record {
      parent = number_there fs 1 k p at_p;
      frame = rect_there fs 2 k r at_r;
      across = mode.across;
      down = mode.down;
    }))))

-- ---- all views

-- from a place on the list has these views' values
Gets : (View → Datum) → List Datum → ℕ → List View → Type 0
Gets f xs k [] = Unit {0}
Gets f xs k (v ∷ vs) = (slice_get xs k ≡ Some (f v)) × Gets f xs (suc k) vs

further_on : (f : View → Datum) (x : Datum) (xs : List Datum) (k : ℕ) (vs : List View)
    → Gets f (x ∷ xs) (suc k) vs → Gets f xs k vs
unfolding Gets
further_on f x xs k [] g = g
further_on f x xs k (v ∷ vs) g = (g.0, further_on f x xs (suc k) vs g.1)

all_values : (f : View → Datum) (xs : List Datum) (vs : List View) → Gets f xs 0 vs
    → length xs ≡ length vs → xs ≡ map f vs
unfolding Gets
all_values f [] [] g long = refl
all_values f [] (v ∷ vs) g long = absurd (none-some (f v) g.0)
all_values f (x ∷ xs) [] g long = absurd (let n : suc (length xs) ≡ 0 = long in omega (arith, n))
all_values f (x ∷ xs) (v ∷ vs) g long =
    let n : suc (length xs) ≡ suc (length vs) = long in
    ap (λ (y : Datum). y ∷ xs) (same_Some x (f v) g.0)
    ∙ ap (λ (l : List Datum). f v ∷ l)
    (all_values f xs vs (further_on f x xs 0 vs g.1) (omega (arith, n)))

-- the views that were read
record Views (fs : List Field) (k n : ℕ) (before tree : Tree) : Type 0 where
  views : List View
  tree_is : tree ≡ before ++ views
  long : length views ≡ n
  parents : Gets parent_value (values_at 1 fs) k views
  frames : Gets frame_value (values_at 2 fs) k views
  across : Gets across_value (values_at 3 fs) k views
  down : Gets down_value (values_at 4 fs) k views

one_more : (fs : List Field) (k j n : ℕ) (before tree : Tree) (v : View) → j ≡ suc k → Says fs k v
    → Views fs j n (before ++ v ∷ []) tree → Views fs k (suc n) before tree
unfolding Gets
one_more fs k j n before tree v next s vs =
    let at = λ (f : View → Datum) (xs : List Datum) (g : Gets f xs j vs.views).
    subst (λ (i : ℕ). Gets f xs i vs.views) next g in
    record {
      views = v ∷ vs.views;
      tree_is = vs.tree_is ∙ append_assoc before (v ∷ []) vs.views;
      long = ap suc vs.long;
      parents = (s.parent, at parent_value (values_at 1 fs) vs.parents);
      frames = (s.frame, at frame_value (values_at 2 fs) vs.frames);
      across = (s.across, at across_value (values_at 3 fs) vs.across);
      down = (s.down, at down_value (values_at 4 fs) vs.down);
    }

ok_or : {A E : Type 0} → Result A E → A → A
ok_or (Ok x) d = x
ok_or (Err e) d = d

same_ok : {A E : Type 0} (x y : A) (r : Result A E) → r ≡ Ok x → r ≡ Ok y → x ≡ y
unfolding ok_or
same_ok x y r h k = ap (λ q. ok_or q x) (sym h ∙ k)

by_row : (fs : List Field) (n k : ℕ) (before tree : Tree) (o : Option View) → row_at k fs ≡ o
    → views_from fs (suc n) k before ≡ Ok tree
    → ((more : Tree) → views_from fs n (k + 1) more ≡ Ok tree → Views fs (k + 1) n more tree)
    → Views fs k (suc n) before tree
by_row fs n k before tree None is ok rest = absurd (some_row fs n k before None tree is ok refl)
by_row fs n k before tree (Some v) is ok rest =
    let follows = can fs n k before v tree is ok in
    one_more fs k (k + 1) n before tree v (omega arith) (says fs k v is)
    (rest (before ++ v ∷ []) (sym (goes_on fs n k before v is follows) ∙ ok))

read : (fs : List Field) (n k : ℕ) (before tree : Tree) → views_from fs n k before ≡ Ok tree
    → Views fs k n before tree
unfolding Gets
read fs zero k before tree ok = record {
  views = [];
  tree_is = sym (same_ok before tree (Ok before) refl ok) ∙ sym (append-nil before);
  long = refl;
  parents = tt;
  frames = tt;
  across = tt;
  down = tt;
}
read fs (suc n) k before tree ok =
    by_row fs n k before tree (row_at k fs) refl ok (λ more. read fs n (k + 1) more tree)

-- ---- fields

kind_same : (a b : Kind) → is_kind a b ≡ true → a ≡ b
kind_same a b h =
    sym (kind_again a) ∙ (ap numbered_kind (eq_tells (kind_number a) (kind_number b) h) ∙ kind_again b)

field_is : (f : Field) (name : List ℕ) (k : Kind)
    → (bytes_eq f.name name && is_kind f.kind k) ≡ true → f ≡ field_of name k f.values
field_is f name k h =
    let both = and_both (bytes_eq f.name name) (is_kind f.kind k) h in
    ap (λ (n : List ℕ). field_of n f.kind f.values) ((bytes_eq-Decides f.name name).0 both.0)
    ∙ ap (λ (q : Kind). field_of name q f.values) (kind_same f.kind k both.1)

one_value : (xs : List Datum) (size : Point) → length xs ≡ 1
    → option_and_then point_in (slice_get xs 0) ≡ Some size → xs ≡ point size ∷ []
one_value [] size long is = absurd (none-some size is)
one_value (x ∷ []) size long is = ap (λ (d : Datum). d ∷ []) (datum_point x size is)
one_value (x ∷ y ∷ xs) size long is =
    absurd (let n : suc (suc (length xs)) ≡ 1 = long in omega (arith, n))

-- the field of the size
size_is : (f : Field) (size : Point)
    → (bytes_eq f.name (codes "size") && is_kind f.kind kind.Point) ≡ true
    → (length f.values == 1) ≡ true → option_and_then point_in (slice_get f.values 0) ≡ Some size
    → f ≡ field_of (codes "size") kind.Point (point size ∷ [])
size_is f size form one is =
    field_is f (codes "size") kind.Point form
    ∙ ap (field_of (codes "size") kind.Point)
    (one_value f.values size (eq_tells (length f.values) 1 one) is)

-- a field of the further views
column_is : (f : Field) (name : List ℕ) (k : Kind) (value : View → Datum) (vs : List View)
    → (bytes_eq f.name name && is_kind f.kind k) ≡ true → length f.values ≡ length vs
    → Gets value f.values 0 vs → f ≡ field_of name k (map value vs)
column_is f name k value vs form long gets =
    field_is f name k form ∙ ap (field_of name k) (all_values value f.values vs gets long)

-- the size alone
alone : (fs : List Field) (size : Point) → has_size fs ≡ true → length fs ≡ 1
    → value_of point_in 0 0 fs ≡ Some size
    → fs ≡ field_of (codes "size") kind.Point (point size ∷ []) ∷ []
alone [] size form long is = absurd (let n : 0 ≡ 1 = long in omega (arith, n))
alone (f ∷ []) size form long is =
    let both = and_both _ (length f.values == 1) form in
    ap (λ (g : Field). g ∷ []) (size_is f size both.0 both.1 is)
alone (f ∷ g ∷ fs) size form long is =
    absurd (let n : suc (suc (length fs)) ≡ 1 = long in omega (arith, n))

-- the four fields
record Columns (fs : List Field) : Type 0 where
  parents : is_field_at 1 (codes "parent") kind.Int fs ≡ true
  frames : is_field_at 2 (codes "frame") kind.Rect fs ≡ true
  frames_long : value_count 2 fs ≡ view_count fs
  across : is_field_at 3 (codes "across") kind.Int fs ≡ true
  across_long : value_count 3 fs ≡ view_count fs
  down : is_field_at 4 (codes "down") kind.Int fs ≡ true
  down_long : value_count 4 fs ≡ view_count fs

columns : (fs : List Field) → has_columns fs ≡ true → Columns fs
columns fs h =
    let g = and_both _ (value_count 4 fs == view_count fs) h in
    let f = and_both _ (is_field_at 4 (codes "down") kind.Int fs) g.0 in
    let e = and_both _ (value_count 3 fs == view_count fs) f.0 in
    let d = and_both _ (is_field_at 3 (codes "across") kind.Int fs) e.0 in
    let c = and_both _ (value_count 2 fs == view_count fs) d.0 in
    let b = and_both (is_field_at 1 (codes "parent") kind.Int fs)
    (is_field_at 2 (codes "frame") kind.Rect fs) c.0 in
    record {
      parents = b.0;
      frames = b.1;
      frames_long = eq_tells (value_count 2 fs) (view_count fs) c.1;
      across = d.1;
      across_long = eq_tells (value_count 3 fs) (view_count fs) e.1;
      down = f.1;
      down_long = eq_tells (value_count 4 fs) (view_count fs) g.1;
    }

all_five : (fs : List Field) (size : Point) (vs : List View) → has_size fs ≡ true → length fs ≡ 5
    → value_of point_in 0 0 fs ≡ Some size → Columns fs → view_count fs ≡ length vs
    → Gets parent_value (values_at 1 fs) 0 vs → Gets frame_value (values_at 2 fs) 0 vs
    → Gets across_value (values_at 3 fs) 0 vs → Gets down_value (values_at 4 fs) 0 vs
    → fs ≡ field_of (codes "size") kind.Point (point size ∷ [])
    ∷ field_of (codes "parent") kind.Int (map parent_value vs)
    ∷ field_of (codes "frame") kind.Rect (map frame_value vs)
    ∷ field_of (codes "across") kind.Int (map across_value vs)
    ∷ field_of (codes "down") kind.Int (map down_value vs) ∷ []
all_five (f ∷ g ∷ h ∷ i ∷ j ∷ []) size vs form long is c many ps fr ac dn =
    let both = and_both _ (length f.values == 1) form in
    let first = field_of (codes "size") kind.Point (point size ∷ []) in
    ap (λ (x : Field). x ∷ g ∷ h ∷ i ∷ j ∷ []) (size_is f size both.0 both.1 is)
    ∙ (ap (λ (x : Field). first ∷ x ∷ h ∷ i ∷ j ∷ [])
    (column_is g (codes "parent") kind.Int parent_value vs c.parents many ps)
    ∙ (ap (λ (x : Field). first ∷ field_of (codes "parent") kind.Int (map parent_value vs) ∷ x ∷ i ∷ j ∷ [])
    (column_is h (codes "frame") kind.Rect frame_value vs c.frames (c.frames_long ∙ many) fr)
    ∙ (ap (λ (x : Field). first ∷ field_of (codes "parent") kind.Int (map parent_value vs)
    ∷ field_of (codes "frame") kind.Rect (map frame_value vs) ∷ x ∷ j ∷ [])
    (column_is i (codes "across") kind.Int across_value vs c.across (c.across_long ∙ many) ac)
    ∙ ap (λ (x : Field). first ∷ field_of (codes "parent") kind.Int (map parent_value vs)
    ∷ field_of (codes "frame") kind.Rect (map frame_value vs)
    ∷ field_of (codes "across") kind.Int (map across_value vs) ∷ x ∷ [])
    (column_is j (codes "down") kind.Int down_value vs c.down (c.down_long ∙ many) dn))))
all_five [] size vs form long is c many ps fr ac dn =
    absurd (let n : 0 ≡ 5 = long in omega (arith, n))
all_five (f ∷ []) size vs form long is c many ps fr ac dn =
    absurd (let n : 1 ≡ 5 = long in omega (arith, n))
all_five (f ∷ g ∷ []) size vs form long is c many ps fr ac dn =
    absurd (let n : 2 ≡ 5 = long in omega (arith, n))
all_five (f ∷ g ∷ h ∷ []) size vs form long is c many ps fr ac dn =
    absurd (let n : 3 ≡ 5 = long in omega (arith, n))
all_five (f ∷ g ∷ h ∷ i ∷ []) size vs form long is c many ps fr ac dn =
    absurd (let n : 4 ≡ 5 = long in omega (arith, n))
all_five (f ∷ g ∷ h ∷ i ∷ j ∷ k ∷ fs) size vs form long is c many ps fr ac dn =
    absurd (let n : suc (suc (suc (suc (suc (suc (length fs)))))) ≡ 5 = long in omega (arith, n))

-- ---- a message

-- what is so where a tree was read
record Begun (m : Message) (size : Point) : Type 0 where
  what : m.what ≡ view_word
  form : have_form m.fields ≡ true
  size_is : value_of point_in 0 0 m.fields ≡ Some size

by_size : (b c : Bool) (size other : Point)
    → cond b (Err bad_size) (cond c (Err too_many) (Ok other)) ≡ Ok size → other ≡ size
by_size true c size other h = absurd (not_ok bad_size size h)
by_size false true size other h = absurd (not_ok too_many size h)
by_size false false size other h = same_ok other size (Ok other) refl h

sized : (fs : List Field) (o : Option Point) (size : Point) → size_of fs o ≡ Ok size → o ≡ Some size
sized fs None size h = absurd (not_ok not_archive size h)
sized fs (Some other) size h =
    ap (λ (p : Point). Some p)
    (by_size (is_negative other) (nat_lt 31 (view_count fs)) size other h)

by_form : (b : Bool) (r : Result Point Refusal) (size : Point) → cond b r (Err not_archive) ≡ Ok size
    → (b ≡ true) × (r ≡ Ok size)
by_form true r size h = (refl, h)
by_form false r size h = absurd (not_ok not_archive size h)

begun : (m : Message) (size : Point) → size_in m ≡ Ok size → Begun m size
begun m size h =
    let both = by_form (is_archive m) (size_of m.fields (value_of point_in 0 0 m.fields)) size h in
    let parts = and_both (m.what == view_word) (have_form m.fields) both.0 in
    record {
      what = eq_tells m.what view_word parts.0;
      form = parts.1;
      size_is = sized m.fields (value_of point_in 0 0 m.fields) size both.1;
    }

by_count : (n : ℕ) (a b : Bool) → n ≡ 0 → cond (n == 0) a b ≡ true → a ≡ true
by_count n a b is h = subst (λ k. cond (k == 0) a b ≡ true) is h

by_no : (c a b : Bool) → c ≡ false → cond c a b ≡ true → b ≡ true
by_no true a b is h = absurd (false_is_not_true (sym is))
by_no false a b is h = h

by_some : (n k : ℕ) (a b : Bool) → n ≡ suc k → cond (n == 0) a b ≡ true → b ≡ true
by_some n k a b is h = by_no (n == 0) a b (grind (arith, nat_tests, is)) h

-- the fields, by how many views were read
fields_are : (m : Message) (size : Point) (vs : List View) → Begun m size
    → view_count m.fields ≡ length vs
    → Gets parent_value (values_at 1 m.fields) 0 vs → Gets frame_value (values_at 2 m.fields) 0 vs
    → Gets across_value (values_at 3 m.fields) 0 vs → Gets down_value (values_at 4 m.fields) 0 vs
    → m.fields ≡ (archived (root_view size.x size.y ∷ vs)).fields
unfolding archived
fields_are m size [] b many ps fr ac dn =
    let both = and_both (has_size m.fields) _ b.form in
    let long = by_count (view_count m.fields) (length m.fields == 1) _ many both.1 in
    alone m.fields size both.0 (eq_tells (length m.fields) 1 long) b.size_is
fields_are m size (v ∷ vs) b many ps fr ac dn =
    let both = and_both (has_size m.fields) _ b.form in
    let more = and_both (length m.fields == 5) (has_columns m.fields)
    (by_some (view_count m.fields) (length vs) (length m.fields == 1) _ many both.1) in
    all_five m.fields size (v ∷ vs) both.0 (eq_tells (length m.fields) 5 more.0) b.size_is
    (columns m.fields more.1) many ps fr ac dn

what_is : (tree : Tree) → (archived tree).what ≡ view_word
unfolding archived
what_is tree = refl

only : (m : Message) (size : Point) (tree : Tree) → Begun m size → views_in m.fields size ≡ Ok tree
    → m ≡ archived tree
only m size tree b ok =
    let fs = m.fields in
    let vs = read fs (view_count fs) 0 (root_view size.x size.y ∷ []) tree ok in
    same_message m (archived (root_view size.x size.y ∷ vs.views)) (b.what ∙ sym (what_is _))
    (fields_are m size vs.views b (sym vs.long) vs.parents vs.frames vs.across vs.down)
    ∙ ap archived (sym vs.tree_is)

by_result : (m : Message) (tree : Tree) (r : Result Point Refusal) → size_in m ≡ r
    → views_behind m.fields r ≡ Ok tree → m ≡ archived tree
by_result m tree (Ok size) is ok = only m size tree (begun m size is) ok
by_result m tree (Err why) is ok = absurd (not_ok why tree ok)

pub only_its_archive : (m : Message) (tree : Tree) → tree_in m ≡ Ok tree → m ≡ archived tree
unfolding tree_in
only_its_archive m tree ok = by_result m tree (size_in m) refl ok

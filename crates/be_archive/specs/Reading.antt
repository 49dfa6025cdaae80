-- Which messages are archives, and why another isn't one (this project's own).
use Rattle.std.specs.Prelude.{ℕ, pos, zero, suc, ◌+◌, ◌==◌, ◌&&◌, ◌||◌, Bool, false, nat_lt}
use Rattle.std.specs.Prelude.{int_lt, List, [], ◌∷◌, ◌++◌, length, slice_get, if◌then◌else◌}
use Rattle.std.specs.Prelude.{Option, Some, None, Result, Ok, Err, codes, option_map}
use Rattle.std.specs.Prelude.{option_and_then}
use Rattle.std.specs.Option.{option_map_or}
use Rattle.std.specs.Str.{bytes_eq}
use Rattle.be_follow.specs.declared.mode.Follow.{Follow}
use Rattle.be_geom.specs.declared.point.Point.{Point}
use Rattle.be_message.specs.declared.kind.Kind.{Kind}
use Rattle.be_message.specs.declared.kind.Kind.TheVariants as kind
use Rattle.be_message.specs.Kinds.{is_kind}
use Rattle.be_message.specs.Messages.{Datum, Field, Message}
use Rattle.be_views.specs.Trees.{View, Tree}
use Rattle.be_views.specs.Whole.{depth_of, root_view}
use Rattle.be_archive.specs.Archives.{view_word}
use Rattle.be_archive.specs.Values.{point_in, rect_in, number_in, across_of, down_of}

-- why a message isn't the archive of a tree
pub data Refusal : Type 0 where
  not_archive : Refusal
  bad_size : Refusal
  too_many : Refusal
  -- the first view that can't be
  bad_view : ℕ → Refusal

-- ---- the form

-- the field of this number has this name and this type
abbrev pub is_field_at : ℕ → List ℕ → Kind → List Field → Bool
is_field_at k name kind fs =
    option_map_or (λ f. bytes_eq f.name name && is_kind f.kind kind) (slice_get fs k) false

-- the values of the field of this number
abbrev pub values_at : ℕ → List Field → List Datum
values_at k fs = option_map_or (λ f. f.values) (slice_get fs k) []

abbrev pub value_count : ℕ → List Field → ℕ
value_count k fs = length (values_at k fs)

-- how many further views there are
abbrev pub view_count : List Field → ℕ
view_count fs = value_count 1 fs

-- one size
abbrev pub has_size : List Field → Bool
has_size fs = is_field_at 0 (codes "size") kind.Point fs && (value_count 0 fs == 1)

-- as many values of each kind as there are further views
abbrev pub has_columns : List Field → Bool
has_columns fs =
    is_field_at 1 (codes "parent") kind.Int fs
    && is_field_at 2 (codes "frame") kind.Rect fs && (value_count 2 fs == view_count fs)
    && is_field_at 3 (codes "across") kind.Int fs && (value_count 3 fs == view_count fs)
    && is_field_at 4 (codes "down") kind.Int fs && (value_count 4 fs == view_count fs)

-- the size alone, or the size and the four fields of further views, of which there are some
abbrev pub have_form : List Field → Bool
have_form fs =
    has_size fs
    && (if view_count fs == 0 then length fs == 1 else (length fs == 5) && has_columns fs)

abbrev pub is_archive : Message → Bool
is_archive m = (m.what == view_word) && have_form m.fields

-- ---- views

-- what the k-th value of a field says
abbrev pub value_of : {X : Type 0} → (Datum → Option X) → ℕ → ℕ → List Field → Option X
value_of read field k fs = option_and_then read (slice_get (values_at field fs) k)

abbrev pub mode_at : ℕ → List Field → Option Follow
mode_at k fs =
    option_and_then
    (λ across. option_map (λ down. record { across = across; down = down })
    (option_and_then down_of (value_of number_in 4 k fs)))
    (option_and_then across_of (value_of number_in 3 k fs))

-- what the fields say of the k-th further view, if they can
abbrev pub row_at : ℕ → List Field → Option View
row_at k fs =
    option_and_then
    (λ parent. option_and_then
    (λ frame. option_map
    (λ mode. record { parent = Some parent; frame = frame; mode = mode })
    (mode_at k fs)) (value_of rect_in 2 k fs)) (value_of number_in 1 k fs)

-- the view can stand behind these: its parent is one of them, and above the lowest depth
abbrev pub can_follow : Tree → View → Bool
can_follow tree view =
    option_map_or (λ parent. nat_lt parent (length tree) && nat_lt (depth_of tree parent) 8)
    view.parent false

abbrev pub if_follows : ℕ → Tree → View → (Tree → Result Tree Refusal) → Result Tree Refusal
if_follows k tree view rest =
    if can_follow tree view then rest (tree ++ view ∷ []) else Err (bad_view (k + 1))

abbrev pub view_then :
    ℕ → Tree → Option View → (Tree → Result Tree Refusal) → Result Tree Refusal
view_then k tree (Some view) rest = if_follows k tree view rest
view_then k tree None rest = Err (bad_view (k + 1))

-- the tree with n further views more, of which the first is the k-th
abbrev pub views_from : List Field → ℕ → ℕ → Tree → Result Tree Refusal
views_from fs zero k tree = Ok tree
views_from fs (suc n) k tree = view_then k tree (row_at k fs) (views_from fs n (k + 1))

-- ---- a tree

-- a coordinate is below 0
abbrev pub is_negative : Point → Bool
is_negative size = int_lt size.x (pos 0) || int_lt size.y (pos 0)

abbrev pub size_of : List Field → Option Point → Result Point Refusal
size_of fs None = Err not_archive
size_of fs (Some size) =
    if is_negative size then Err bad_size
    else if nat_lt 31 (view_count fs) then Err too_many
    else Ok size

-- the size of the root, where the message has the form and few views
abbrev pub size_in : Message → Result Point Refusal
size_in m =
    if is_archive m then size_of m.fields (value_of point_in 0 0 m.fields) else Err not_archive

-- the further views behind the root of this size
abbrev pub views_in : List Field → Point → Result Tree Refusal
views_in fs size = views_from fs (view_count fs) 0 (root_view size.x size.y ∷ [])

abbrev pub views_behind : List Field → Result Point Refusal → Result Tree Refusal
views_behind fs (Ok size) = views_in fs size
views_behind fs (Err why) = Err why

-- the tree of which the message is the archive, or the first reason against it
unfoldable pub tree_in : Message → Result Tree Refusal
tree_in m = views_behind m.fields (size_in m)

-- The message that a view tree is archived as (The Be Book: BView, Archive; the fields are this
-- project's own).
use Rattle.std.specs.Prelude.{ℕ, pos, List, [], ◌∷◌, ◌++◌, map, codes, unwrap_or}
use Rattle.be_follow.specs.declared.mode.Across.{Across}
use Rattle.be_follow.specs.declared.mode.Across.TheVariants as across
use Rattle.be_follow.specs.declared.mode.Down.{Down}
use Rattle.be_follow.specs.declared.mode.Down.TheVariants as down
use Rattle.be_geom.specs.declared.rect.Rect.{Rect}
use Rattle.be_message.specs.declared.kind.Kind.{Kind}
use Rattle.be_message.specs.declared.kind.Kind.TheVariants as kind
use Rattle.be_message.specs.Messages.{Datum, int, point, rect, Field, Message}
use Rattle.be_views.specs.Trees.{View, Tree}

-- VIEW
abbrev pub view_word : ℕ
view_word = 0x56494557

abbrev pub across_number : Across → ℕ
across_number across.Left = 0
across_number across.Right = 1
across_number across.LeftRight = 2
across_number across.Center = 3

abbrev pub down_number : Down → ℕ
down_number down.Top = 0
down_number down.Bottom = 1
down_number down.TopBottom = 2
down_number down.Center = 3

-- ---- what the fields say of a view

abbrev pub parent_value : View → Datum
parent_value view = int (pos (unwrap_or view.parent 0))

abbrev pub frame_value : View → Datum
frame_value view = rect view.frame

abbrev pub across_value : View → Datum
across_value view = int (pos (across_number view.mode.across))

abbrev pub down_value : View → Datum
down_value view = int (pos (down_number view.mode.down))

-- ---- fields

abbrev pub field_of : List ℕ → Kind → List Datum → Field
field_of name kind values = record { name = name; kind = kind; values = values }

-- a frame's right and bottom
abbrev pub size_value : Rect → Datum
size_value frame = point (record { x = frame.right; y = frame.bottom })

abbrev pub size_field : View → Field
size_field root = field_of (codes "size") kind.Point (size_value root.frame ∷ [])

abbrev pub size_fields : Tree → List Field
size_fields [] = []
size_fields (root ∷ views) = size_field root ∷ []

-- the views but the root
abbrev pub further : Tree → List View
further [] = []
further (root ∷ views) = views

-- a field with a value for each of the views; none where there are none
abbrev pub column : List ℕ → Kind → (View → Datum) → List View → List Field
column name kind value [] = []
column name kind value (v ∷ vs) = field_of name kind (map value (v ∷ vs)) ∷ []

-- the archive of a tree
unfoldable pub archived : Tree → Message
archived tree = record {
  what = view_word;
  fields =
      (((size_fields tree
      ++ column (codes "parent") kind.Int parent_value (further tree))
      ++ column (codes "frame") kind.Rect frame_value (further tree))
      ++ column (codes "across") kind.Int across_value (further tree))
      ++ column (codes "down") kind.Int down_value (further tree);
}

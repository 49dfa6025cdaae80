-- The fields of the further views, as the code tells them apart.
use Rattle.std.specs.Prelude.{ℕ, List, codes}
use Rattle.be_message.specs.declared.kind.Kind.{Kind}
use Rattle.be_message.specs.declared.kind.Kind.TheVariants as kind
use Rattle.be_message.specs.Messages.{Datum, Field}
use Rattle.be_views.specs.Trees.{View}
use Rattle.be_archive.specs.Archives.{across_value, column, down_value, frame_value, parent_value}
use Rattle.be_archive.specs.declared.columns.Column.{Column}
use Rattle.be_archive.specs.declared.columns.Column.TheVariants.{Parent, Frame, Across, Down}

abbrev pub column_name : Column → List ℕ
column_name Parent = codes "parent"
column_name Frame = codes "frame"
column_name Across = codes "across"
column_name Down = codes "down"

abbrev pub column_kind : Column → Kind
column_kind Parent = kind.Int
column_kind Frame = kind.Rect
column_kind Across = kind.Int
column_kind Down = kind.Int

abbrev pub column_value : Column → View → Datum
column_value Parent = parent_value
column_value Frame = frame_value
column_value Across = across_value
column_value Down = down_value

abbrev pub column_of : Column → List View → List Field
column_of c = column (column_name c) (column_kind c) (column_value c)

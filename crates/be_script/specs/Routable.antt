-- What a script keeps so that each of its messages has a way: where it stands, each view, plain
-- handler, filter and body may be added to its window (this project's own).
use Rattle.std.specs.Prelude.{◌≡◌, ℕ, ◌≤◌, Bool, true, not, ◌&&◌, nat_lt, [], length, take, Some}
use Rattle.std.specs.Prelude.{slice_get}
use Rattle.std.specs.List.{list_all}
use Rattle.be_handler.specs.Growth.{is_there, is_parent, is_place, listed}
use Rattle.be_handler.specs.Routes.{Chain, Filter, Body, has_body}
use Rattle.be_message.specs.declared.target.Target.{Target}
use Rattle.be_script.specs.declared.BodyLine.{BodyLine}
use Rattle.be_script.specs.declared.FilterLine.{FilterLine}
use Rattle.be_script.specs.declared.HandlerLine.{HandlerLine}
use Rattle.be_script.specs.declared.ViewLine.{ViewLine}
use Rattle.be_script.specs.Limits.{is_window}
use Rattle.be_script.specs.Script.{Declared}
use Rattle.be_script.specs.Windows.{chain_of, declared_filter, declared_body}

-- ---- a script before a line: views come first, then plain handlers, then filters, then bodies

abbrev pub views_before : Declared → ℕ → Declared
views_before d k = record d { views = take k d.views; handlers = []; filters = []; bodies = [] }

abbrev pub handlers_before : Declared → ℕ → Declared
handlers_before d k = record d { handlers = take k d.handlers; filters = []; bodies = [] }

abbrev pub filters_before : Declared → ℕ → Declared
filters_before d k = record d { filters = take k d.filters; bodies = [] }

abbrev pub bodies_before : Declared → ℕ → Declared
bodies_before d k = record d { bodies = take k d.bodies }

-- ---- what a window may get: what it names is there, and there is room

abbrev pub can_add_view : Chain → ℕ → Bool
can_add_view c parent = is_parent c (Some parent) && nat_lt (length c.parents) 32

abbrev pub can_add_plain : Chain → Target → Bool
can_add_plain c next = is_there c next && nat_lt (length c.nexts) 16

abbrev pub can_add_filter : Chain → Filter → Bool
can_add_filter c f = is_place c f.list f.rule && nat_lt (length (listed c f.list)) 32

-- a body for this handler and word isn't there yet
abbrev pub can_add_body : Chain → Body → Bool
can_add_body c b =
    is_there c b.target && not (has_body c b.what b.target) && nat_lt (length c.bodies) 512

-- ---- all lines

-- the window of each line is there, and may get what the line declares; a window has a number of 16
-- bits
pub record IsRoutable (d : Declared) : Type 0 where
  pub windows : length d.windows ≤ 65536
  pub views : (k : ℕ) (line : ViewLine) → slice_get d.views k ≡ Some line →
      (is_window d line.window && can_add_view (chain_of (views_before d k) line.window)
      line.parent) ≡ true
  pub handlers : (k : ℕ) (line : HandlerLine) → slice_get d.handlers k ≡ Some line →
      (is_window d line.window && can_add_plain (chain_of (handlers_before d k) line.window)
      line.next) ≡ true
  pub filters : (k : ℕ) (line : FilterLine) → slice_get d.filters k ≡ Some line →
      (is_window d line.window && can_add_filter (chain_of (filters_before d k) line.window)
      (declared_filter line)) ≡ true
  pub bodies : (k : ℕ) (line : BodyLine) → slice_get d.bodies k ≡ Some line →
      (is_window d line.window && can_add_body (chain_of (bodies_before d k) line.window)
      (declared_body line)) ≡ true
  pub draws : list_all (λ line. is_window d line.window) d.draws ≡ true

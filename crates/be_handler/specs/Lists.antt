-- The lists that filters are in.
use Rattle.std.specs.Prelude.{Bool, Option, Some, None}
use Rattle.be_message.specs.declared.target.Target.{Target}
use Rattle.be_handler.specs.Routes.{is_common, is_own}

-- a filter of this list: the common one, or a handler's own
abbrev pub is_in_list : Option Target → Option Target → Bool
is_in_list None owner = is_common owner
is_in_list (Some target) owner = is_own target owner

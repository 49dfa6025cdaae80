-- The bodies of a script's handlers.
use Rattle.std.specs.Prelude.{ℕ, ◌==◌, Bool, ◌&&◌}
use Rattle.be_message.specs.declared.target.Target.{Target}
use Rattle.be_script.specs.declared.BodyLine.{BodyLine}
use Rattle.be_script.specs.Windows.{is_body_of}

-- declared in window w, the body of this handler for this word
abbrev pub is_body_in : ℕ → Target → ℕ → BodyLine → Bool
is_body_in w target what line = line.window == w && is_body_of target what line

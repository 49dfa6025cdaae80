use Rattle.std.proofs.Common.{◌≡◌, ◌==◌, [], drop, map, filter, get_or}
use Rattle.be_pressed.proofs.writing.name_below.Given as goal

-- what is looked for stands among those that are left
abbrev pub invariant-loop-line : goal.invariant-loop-line
invariant-loop-line l =
    get_or (map (λ line. line.name) (filter (λ line. line.window == l.window) (drop l.line-index l.views))) l.left []
    ≡ get_or (map (λ line. line.name) (filter (λ line. line.window == l.window) l.views)) l.place []

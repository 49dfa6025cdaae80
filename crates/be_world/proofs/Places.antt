-- How many parts there are, and where an activity's entries are kept.
use Rattle.std.proofs.Common.{◌≡◌, ℕ, ◌+◌, ◌*◌, List, ◌++◌, map}
use Rattle.std.proofs.Common.{length, Some, refl, ◌∙◌, arith}
use Rattle.std.specs.List.{range_with_len}
use Rattle.std.proofs.lemmas.List.{length-append}
use Rattle.be_machine.specs.Activities.{Activity, runner, app, looper, twin, input, closing}
use Rattle.be_machine.specs.Touched.{Part}
use Rattle.be_machine.specs.Touched as part
use Rattle.be_rules.specs.Places.{place_of}
use Rattle.be_rules.specs.Rules.{kept_at}
use Rattle.be_rules.specs.Slices.{all_parts}
use Rattle.be_rules.proofs.Keepers.{own_of, long}
use Rattle.be_script.specs.Script.{Declared}

-- ---- how many

behind : (g : ℕ → Part) (n m : ℕ) (rest : List Part) → length rest ≡ m
    → length (map g (range_with_len 0 n) ++ rest) ≡ n + m
behind g n m rest is = length-append (map g (range_with_len 0 n)) rest ∙ (λ i. long g n i + is i)

pub many_parts : (d : Declared) → length (all_parts d) ≡ 2 + length d.apps + 4 * length d.windows
many_parts d =
    let panes : length (map part.pane (range_with_len 0 (length d.windows))) ≡ length d.windows =
    long part.pane (length d.windows) in
    let links = behind part.link (length d.windows) _ _ panes in
    let ports = behind part.port (length d.windows) _ _ links in
    let loopers = behind part.looper (length d.windows) _ _ ports in
    let cells = behind part.cell (length d.apps) _ _ loopers in
    omega (arith, cells)

-- ---- where entries are kept

pub kept_is : (d : Declared) (who : Activity) → kept_at d (Some who) ≡ place_of d (own_of who)
kept_is d (runner (app m)) = refl
kept_is d (runner (looper w)) = omega arith
kept_is d (twin w) = omega arith
kept_is d input = refl
kept_is d closing = refl

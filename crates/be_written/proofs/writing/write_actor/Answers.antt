use Rattle.std.proofs.Common.{◌-◌, ◌*◌, ◌/◌, ◌<◌, List, ℕ, [], ◌∷◌, ◌++◌, length, codes, ap, sym, ◌∙◌, arith}
use Rattle.be_script.specs.Script.{declared_by}
use Rattle.be_written.specs.Names.{actor_name}
use Rattle.be_written.proofs.WriteLemmas.{same_text, app_at, looper_at, twin_at, input_at, stop_at, none_at}
use Rattle.be_written.proofs.writing.write_actor.Goals as goal

pub returns-then-number-apps : goal.returns-then-number-apps
returns-then-number-apps c =
    let d = declared_by c.args.script.now in
    let apps = c.len-apps.ensures ∙ c.args.script.now.apps.ok.0 in
    let few = c.if-number-apps.true in
    let within : c.args.actor < length d.apps = omega arith in
    let same = ap (λ (name : List ℕ). 32 ∷ (codes "app:" ++ name)) c.app_name.ensures ∙ ap (λ (name : List ℕ). 32 ∷ name) (sym (app_at d c.args.actor within)) in
    same_text c.write_named.result c.args.page.now c.write_named.new.page (32 ∷ (codes "app:" ++ c.app_name.result.now)) (32 ∷ actor_name d c.args.actor) c.write_named.ensures same

pub returns-then-last-eq0 : goal.returns-then-last-eq0
returns-then-last-eq0 c =
    let d = declared_by c.args.script.now in
    let apps = c.len-apps.ensures ∙ c.args.script.now.apps.ok.0 in
    let windows = c.len.ensures ∙ c.args.script.now.windows.ok.0 in
    let again = c.len-2.ensures ∙ c.args.script.now.windows.ok.0 in
    let over = c.if-number-apps.false in
    let past = c.if-window-len.false in
    let place = c.if-last-eq0.true in
    let input = input_at d c.args.actor (omega arith) in
    same_text c.word.result c.args.page.now c.word.new.self (32 ∷ codes "input") (32 ∷ actor_name d c.args.actor) c.word.ensures (ap (λ (name : List ℕ). 32 ∷ name) (sym input))

pub returns-then-last-eq1 : goal.returns-then-last-eq1
returns-then-last-eq1 c =
    let d = declared_by c.args.script.now in
    let apps = c.len-apps.ensures ∙ c.args.script.now.apps.ok.0 in
    let windows = c.len.ensures ∙ c.args.script.now.windows.ok.0 in
    let again = c.len-2.ensures ∙ c.args.script.now.windows.ok.0 in
    let over = c.if-number-apps.false in
    let past = c.if-window-len.false in
    let place = c.if-last-eq1.true in
    let stop = stop_at d c.args.actor (omega arith) in
    same_text c.word-then-last-eq1.result c.args.page.now c.word-then-last-eq1.new.self (32 ∷ codes "stop") (32 ∷ actor_name d c.args.actor) c.word-then-last-eq1.ensures (ap (λ (name : List ℕ). 32 ∷ name) (sym stop))

pub returns-else-last-eq1 : goal.returns-else-last-eq1
returns-else-last-eq1 c =
    let d = declared_by c.args.script.now in
    let apps = c.len-apps.ensures ∙ c.args.script.now.apps.ok.0 in
    let windows = c.len.ensures ∙ c.args.script.now.windows.ok.0 in
    let again = c.len-2.ensures ∙ c.args.script.now.windows.ok.0 in
    let over = c.if-number-apps.false in
    let past = c.if-window-len.false in
    let first = c.if-last-eq0.false in
    let second = c.if-last-eq1.false in
    let none = none_at d c.args.actor (c.args.actor - length d.apps - 2 * length d.windows) (omega arith) (omega arith) in
    same_text c.word-else-last-eq1.result c.args.page.now c.word-else-last-eq1.new.self (32 ∷ []) (32 ∷ actor_name d c.args.actor) c.word-else-last-eq1.ensures (ap (λ (name : List ℕ). 32 ∷ name) (sym none))

pub returns-then-place-eq0 : goal.returns-then-place-eq0
returns-then-place-eq0 c =
    let d = declared_by c.args.script.now in
    let window = (c.args.actor - c.len-apps.result) / 2 in
    let apps = c.len-apps.ensures ∙ c.args.script.now.apps.ok.0 in
    let windows = c.len.ensures ∙ c.args.script.now.windows.ok.0 in
    let over = c.if-number-apps.false in
    let there = c.if-window-len.true in
    let even = c.if-place-eq0.true in
    let looper = looper_at d c.args.actor window (omega arith) (omega arith) in
    let same = ap (λ (name : List ℕ). 32 ∷ (codes "loop:" ++ name)) c.window_name-name.ensures ∙ ap (λ (name : List ℕ). 32 ∷ name) (sym looper) in
    same_text c.write_named-then-place-eq0.result c.args.page.now c.write_named-then-place-eq0.new.page (32 ∷ (codes "loop:" ++ c.window_name-name.result.now)) (32 ∷ actor_name d c.args.actor) c.write_named-then-place-eq0.ensures same

pub returns-else-place-eq0 : goal.returns-else-place-eq0
returns-else-place-eq0 c =
    let d = declared_by c.args.script.now in
    let window = (c.args.actor - c.len-apps.result) / 2 in
    let apps = c.len-apps.ensures ∙ c.args.script.now.apps.ok.0 in
    let windows = c.len.ensures ∙ c.args.script.now.windows.ok.0 in
    let over = c.if-number-apps.false in
    let there = c.if-window-len.true in
    let odd = c.if-place-eq0.false in
    let twin = twin_at d c.args.actor window (omega arith) (omega arith) in
    let same = ap (λ (name : List ℕ). 32 ∷ (codes "twin:" ++ name)) c.window_name-name.ensures ∙ ap (λ (name : List ℕ). 32 ∷ name) (sym twin) in
    same_text c.write_named-else-place-eq0.result c.args.page.now c.write_named-else-place-eq0.new.page (32 ∷ (codes "twin:" ++ c.window_name-name.result.now)) (32 ∷ actor_name d c.args.actor) c.write_named-else-place-eq0.ensures same

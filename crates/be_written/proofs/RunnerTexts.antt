-- The traces, one runner behind the other.
use Rattle.std.proofs.Common.{◌≡◌, ℕ, ◌+◌, ◌<◌, ◌≤◌, List, [], ◌∷◌, ◌++◌, length, get_or, drop, map, flat_map, codes, refl, sym, ap, ◌∙◌, arith, append_assoc, append-nil}
use Rattle.std.specs.List.{enumerate_from}
use Rattle.std.proofs.lemmas.List.{drop_all, drop_more}
use Rattle.be_script.specs.Script.{Declared}
use Rattle.be_script.specs.declared.AppLine.{AppLine}
use Rattle.be_script.specs.declared.WindowLine.{WindowLine}
use Rattle.be_machine.specs.Activities.{Runner, app, looper}
use Rattle.be_machine.specs.declared.Entry.{Entry}
use Rattle.be_machine.specs.Traces.{traces_of}
use Rattle.be_written.specs.Lines.{line_of}
use Rattle.be_written.specs.Notings.{AreTold}
use Rattle.be_written.specs.Runners.{IsRunner}
use Rattle.be_written.specs.TraceText.{noted_text, runner_text, apps_text, loopers_text, traces_text}

-- ---- one runner

-- its heading and its lines, before the others
one_more : (d : Declared) (h : List Entry) (told : Runner → List ℕ) (who : Runner) (kind name text old one new rest : List ℕ)
    → AreTold d h told → IsRunner d who → text ≡ told who → one ≡ old ++ line_of (kind ∷ name ∷ []) → new ≡ one ++ text
    → new ++ rest ≡ old ++ (runner_text d h kind who name ++ rest)
one_more d h told who kind name text old one new rest noted there is first second =
    let heading = line_of (kind ∷ name ∷ []) in
    let lines = noted_text d who (traces_of d who h) in
    let same : text ≡ lines = is ∙ noted who there in
    ap (λ (t : List ℕ). t ++ rest) (second ∙ ap (λ (t : List ℕ). t ++ text) first ∙ ap (λ (t : List ℕ). (old ++ heading) ++ t) same ∙ append_assoc old heading lines)
    ∙ append_assoc old (heading ++ lines) rest

-- ---- applications

abbrev pub apps_left : Declared → List Entry → ℕ → List AppLine → List ℕ
apps_left d h k lines = flat_map (λ p. runner_text d h (codes "app") (app p.0) p.1) (enumerate_from k (map (λ line. line.name) lines))

pub apps_begin : (d : Declared) (h : List Entry) (old : List ℕ) → old ++ apps_left d h 0 d.apps ≡ old ++ apps_text d h
unfolding apps_text
apps_begin d h old = refl

pub apps_go_on : (d : Declared) (h : List Entry) (told : Runner → List ℕ) (k : ℕ) (line : AppLine) (text old one new : List ℕ)
    → AreTold d h told → k < length d.apps → line ≡ get_or d.apps k line → text ≡ told (app k)
    → one ≡ old ++ line_of (codes "app" ∷ line.name ∷ []) → new ≡ one ++ text
    → new ++ apps_left d h (k + 1) (drop (k + 1) d.apps) ≡ old ++ apps_left d h k (drop k d.apps)
apps_go_on d h told k line text old one new noted within at is first second =
    let rest = apps_left d h (k + 1) (drop (k + 1) d.apps) in
    one_more d h told (app k) (codes "app") line.name text old one new rest noted within is first second
    ∙ ap (λ (n : ℕ). old ++ (runner_text d h (codes "app") (app k) line.name ++ apps_left d h n (drop (k + 1) d.apps))) (omega arith)
    ∙ ap (λ (lines : List AppLine). old ++ apps_left d h k lines) (sym (drop_more d.apps k line within ∙ ap (λ (x : AppLine). x ∷ drop (k + 1) d.apps) (sym at)))

pub apps_ended : (d : Declared) (h : List Entry) (k : ℕ) (text all : List ℕ) → text ++ apps_left d h k (drop k d.apps) ≡ all → length d.apps ≤ k → text ≡ all
apps_ended d h k text all is le =
    sym (append-nil text) ∙ ap (λ (lines : List AppLine). text ++ apps_left d h k lines) (sym (drop_all k d.apps le)) ∙ is

-- ---- loopers

abbrev pub loopers_left : Declared → List Entry → ℕ → List WindowLine → List ℕ
loopers_left d h k lines = flat_map (λ p. runner_text d h (codes "loop") (looper p.0) p.1) (enumerate_from k (map (λ line. line.name) lines))

pub loopers_begin : (d : Declared) (h : List Entry) (old : List ℕ) → old ++ loopers_left d h 0 d.windows ≡ old ++ loopers_text d h
unfolding loopers_text
loopers_begin d h old = refl

pub loopers_go_on : (d : Declared) (h : List Entry) (told : Runner → List ℕ) (k : ℕ) (line : WindowLine) (text old one new : List ℕ)
    → AreTold d h told → k < length d.windows → line ≡ get_or d.windows k line → text ≡ told (looper k)
    → one ≡ old ++ line_of (codes "loop" ∷ line.name ∷ []) → new ≡ one ++ text
    → new ++ loopers_left d h (k + 1) (drop (k + 1) d.windows) ≡ old ++ loopers_left d h k (drop k d.windows)
loopers_go_on d h told k line text old one new noted within at is first second =
    let rest = loopers_left d h (k + 1) (drop (k + 1) d.windows) in
    one_more d h told (looper k) (codes "loop") line.name text old one new rest noted within is first second
    ∙ ap (λ (n : ℕ). old ++ (runner_text d h (codes "loop") (looper k) line.name ++ loopers_left d h n (drop (k + 1) d.windows))) (omega arith)
    ∙ ap (λ (lines : List WindowLine). old ++ loopers_left d h k lines) (sym (drop_more d.windows k line within ∙ ap (λ (x : WindowLine). x ∷ drop (k + 1) d.windows) (sym at)))

pub loopers_ended : (d : Declared) (h : List Entry) (k : ℕ) (text all : List ℕ) → text ++ loopers_left d h k (drop k d.windows) ≡ all → length d.windows ≤ k → text ≡ all
loopers_ended d h k text all is le =
    sym (append-nil text) ∙ ap (λ (lines : List WindowLine). text ++ loopers_left d h k lines) (sym (drop_all k d.windows le)) ∙ is

-- ---- all of them

pub traces_written : (d : Declared) (h : List Entry) (old one two three new : List ℕ) → one ≡ old ++ codes "traces" → two ≡ one ++ 10 ∷ [] → three ≡ two ++ apps_text d h → new ≡ three ++ loopers_text d h
    → new ≡ old ++ traces_text d h
unfolding traces_text line_of
traces_written d h old one two three new a b c e =
    e ∙ ap (λ (text : List ℕ). text ++ loopers_text d h) (c ∙ ap (λ (text : List ℕ). text ++ apps_text d h) (b ∙ ap (λ (text : List ℕ). text ++ 10 ∷ []) a))
    ∙ simp append_assoc

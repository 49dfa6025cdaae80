use Rattle.std.proofs.Common.{◌≡◌, ℕ, ◌+◌, ◌∷◌, ◌++◌, [], arith, ap, length, map, sym, ◌∙◌}
use Rattle.std.specs.List.{range_with_len}
use Rattle.std.proofs.lemmas.List.FromFn.{map-range_with_len_more}
use Rattle.be_script.specs.Script.{declared_by}
use Rattle.be_script.specs.Windows.{chain_of}
use Rattle.be_ready.proofs.chains.chains_of.Goals as goal

pub loop-w-init : goal.loop-w-init
loop-w-init c = c.in_ok-chains.ensures.items

pub loop-w-preserved : goal.loop-w-preserved
loop-w-preserved c =
    let way = chain_of (declared_by c.args.script.now) in
    let w = c.loop-w.w in
    let at : 0 + w ≡ w = omega arith in
    c.in_ok-push.ensures.items
    ∙ ap (λ chains. chains ++ c.in_ok-chain_in.field-0 ∷ []) c.loop-w.invariant
    ∙ ap (λ chain. map way (range_with_len 0 w) ++ chain ∷ []) c.in_ok-chain_in.ensures
    ∙ sym (map-range_with_len_more way 0 w w at)

pub returns : goal.returns
returns c =
    let d = declared_by c.args.script.now in
    let many : c.len-windows.result ≡ length d.windows =
    c.len-windows.ensures ∙ c.args.script.now.windows.ok.0 in
    let all : c.loop-w.w ≡ length d.windows =
    omega (arith, many, c.loop-w-test.false, c.loop-w.auto.w-end) in
    c.loop-w.invariant ∙ ap (λ n. map (chain_of d) (range_with_len 0 n)) all

use Rattle.std.proofs.Common.{◌≡◌, ℕ, ◌+◌, [], ◌∷◌, drop, ap, ◌∙◌}
use Rattle.std.specs.Option.{option_copied}
use Rattle.be_message.specs.Messages.{Message}
use Rattle.be_actor.specs.Drafts.{DraftWords}
use Rattle.be_actor.specs.DraftViews.{seen_word, seen_words}
use Rattle.be_actor.proofs.FillingLemmas.{IsFilling, filling_first, filling_after, filling_last, ready_fits, words_left, none_left}
use Rattle.be_actor.proofs.Draft.filled.Goals as goal

pub loop-word-init : goal.loop-word-init
loop-word-init c =
    let words : seen_words c.deref-word-items.result.now ≡ c.args.self.now.words = ap seen_words c.deref-word-items.ensures.value ∙ ap (λ (d : DraftWords). d.words) c.self.view_is in
    let P : ℕ → Message = λ n. record { what = n; fields = [] } in
    let made : c.new-message.result ≡ P c.args.self.now.what = c.new-message.ensures ∙ ap P (ap (λ (d : DraftWords). d.what) c.self.view_is) in
    rw (words, made) (filling_first (option_copied c.args.current) c.args.self.now c.requires.fields c.requires.current)

pub put_word-requires : goal.put_word-requires
put_word-requires c =
    let items = c.deref-word-items.result.now in
    let i = c.loop-word.word-index in
    let left = words_left items i c.word-item.result c.loop-word-test.true c.word-item.is in
    let so_far : IsFilling (option_copied c.args.current) c.args.self.now i c.loop-word.message (seen_word c.word-item.result ∷ seen_words (drop (i + 1) items)) = rw left at c.loop-word.invariant in
    ready_fits _ _ _ _ _ so_far.ready

pub loop-word-preserved : goal.loop-word-preserved
loop-word-preserved c =
    let items = c.deref-word-items.result.now in
    let i = c.loop-word.word-index in
    let left = words_left items i c.word-item.result c.loop-word-test.true c.word-item.is in
    let so_far : IsFilling (option_copied c.args.current) c.args.self.now i c.loop-word.message (seen_word c.word-item.result ∷ seen_words (drop (i + 1) items)) = rw left at c.loop-word.invariant in
    rw c.in_ok-put_word.ensures (filling_after _ _ _ _ _ _ so_far)

pub returns : goal.returns
returns c =
    let items = c.deref-word-items.result.now in
    let i = c.loop-word.word-index in
    let none = none_left items i c.loop-word-test.false in
    let so_far : IsFilling (option_copied c.args.current) c.args.self.now i c.loop-word.message [] = rw none at c.loop-word.invariant in
    filling_last _ _ _ _ so_far
